-- Laws of the words of all texts, one after the other.
use Prim.Native.Nat.{ℕ, ◌+◌, ◌-◌, ◌/◌, ◌≤◌, ◌<◌}
use mathlib.Core.List.{List, [], ◌∷◌, ◌++◌, append_assoc, append-nil}
use mathlib.Core.Path.{◌≡◌, refl, sym, ap, ◌∙◌, subst}
use native.Mathlib.Omega.{arith}
use lib.ListN.{length, take, drop, get_or, length-append, length-drop}
use lib.Seq.{take_all, take_at, drop-drop}
use mathlib.Core.Bool.{true}
use Rattle.lists.specs.Answer.{got}
use Rattle.lists.specs.Parts.{Bytes, part}
use Rattle.lists.proofs.AnswerLaws.{got_same}
use Rattle.lists.proofs.KeptLaws.{take-kept, part-kept}
use Rattle.lists.proofs.PartLaws.{tail-lent, tail-front, tail-back}
use Rattle.lists.proofs.RestLaws.{take_next}
use Rattle.lists.proofs.WordLaws.{pairs-count}
use Rattle.text.specs.Texts.{limited}
use Rattle.witness_text.specs.declared.AagCounts.{AagCounts}
use Rattle.witness_read.specs.Sections.{Sections}
use Rattle.witness_read.specs.Reading.{read_aag, counts_in}
use Rattle.witness_load.specs.Inner.Loaded.{literal_words, word_count, Loaded}
use Rattle.witness_load.specs.Inner.Loading.{Loadable, LoadsText, HasRoom}
use Rattle.witness_load.proofs.TextLaws.{words-counted}
use Rattle.compose_spec.specs.Calling.{read_all, texts_in}
use Rattle.compose_joint.specs.Inner.Joint.{total_of}
use Rattle.compose_gather.specs.Inner.Counts.{CountsOf}
use Rattle.compose_gather.specs.Inner.Gathered.{words_for, LoadableAt, LoadedAt, LoadsAt, Block, Blocks, word_total, CanLoad, LoadsAll}
use Rattle.compose_gather.proofs.TextLaws.{FirstRead, Left, left-more, left-none}

-- a total over two lists of witnesses
pub total_append : (count : Sections → ℕ) (xs ys : List Sections) → total_of count (xs ++ ys) ≡ total_of count xs + total_of count ys
total_append count [] ys = omega arith
total_append count (x ∷ xs) ys = omega (arith, total_append count xs ys)

-- the words by the counts of the header
pub words_for_lem : (s : Sections) → word_count s ≡ words_for (counts_in s)
words_for_lem s = omega (arith, words-counted s)

-- ---- blocks

drop_fewer : (m n : ℕ) (v w : List ℕ) → take (m + n) w ≡ take (m + n) v → take n (drop m w) ≡ take n (drop m v)
drop_fewer m n v w e =
    let k : m + n - m ≡ n = omega arith in
    subst (λ (j : ℕ). take j (drop m w) ≡ take j (drop m v)) k (part-kept w v (m + n) e m (m + n) (omega arith))

-- blocks are a matter of their own words
pub blocks-same : (ts : List Bytes) (ss : List Sections) (v w : List ℕ) → take (word_total ss) w ≡ take (word_total ss) v → Blocks ts ss v → Blocks ts ss w
blocks-same [] [] v w e b = tt
blocks-same [] (s ∷ ss) v w e b = b
blocks-same (t ∷ ts) [] v w e b = b
blocks-same (t ∷ ts) (s ∷ ss) v w e b = (
  record {
    name_words = b.0.name_words;
    count = b.0.count;
    names = b.0.names;
    stand = take-kept w v (word_count s + word_total ss) e (word_count s) (omega arith) ∙ b.0.stand;
  },
  blocks-same ts ss (drop (word_count s) v) (drop (word_count s) w) (drop_fewer (word_count s) (word_total ss) v w e) b.1,
)

-- a block behind a place, where the words up to another place are the same
pub block-kept : (t : Bytes) (s : Sections) (v w : List ℕ) (to from : ℕ) → take to w ≡ take to v → from + word_count s ≤ to → Block t s (drop from v) → Block t s (drop from w)
block-kept t s v w to from e h b =
    record {
      name_words = b.name_words;
      count = b.count;
      names = b.names;
      stand = drop_fewer from (word_count s) v w (take-kept w v to e (from + word_count s) h) ∙ b.stand;
    }

-- one more block behind the others
pub blocks_more : (ts : List Bytes) (ss : List Sections) (t : Bytes) (s : Sections) (w : List ℕ) → Blocks ts ss w → Block t s (drop (word_total ss) w)
    → Blocks (ts ++ t ∷ []) (ss ++ s ∷ []) w
blocks_more [] [] t s w b k = (k, tt)
blocks_more [] (x ∷ ss) t s w b k = absurd b
blocks_more (y ∷ ts) [] t s w b k = absurd b
blocks_more (y ∷ ts) (x ∷ ss) t s w b k =
    (b.0, blocks_more ts ss t s (drop (word_count x) w) b.1 (subst (Block t s) (sym (drop-drop (word_total ss) (word_count x) w)) k))

-- what is loaded into the front is a block
pub loaded-block : (t : Bytes) (s : Sections) (o₀ o : List ℕ) → Loaded t s o₀ o → Block t s o
loaded-block t s o₀ o l =
    record {
      name_words = l.name_words;
      count = l.count;
      names = l.names;
      stand = ap (take (word_count s)) l.stand ∙ take_at (l.name_words ++ literal_words s) (drop (length (l.name_words ++ literal_words s)) o₀) (word_count s) (loaded-length t s o₀ o l);
    }
  where
    loaded-length : (t : Bytes) (s : Sections) (o₀ o : List ℕ) (l : Loaded t s o₀ o) → length (l.name_words ++ literal_words s) ≡ word_count s
    loaded-length t s o₀ o l = length-append l.name_words (literal_words s) ∙ ap (λ (n : ℕ). n + length (literal_words s)) l.count

-- ---- loading one text after the other

module _ (t : Bytes) (n : AagCounts) (at : ℕ) (work : List ℕ) (k : LoadableAt t n work at) where
  -- the part `&mut work[at..]`, lent and given back
  pub lent-loadable : Loadable t n (take (length work - at) (drop at work))
  lent-loadable = rw (tail-lent work at) k.loadable

  pub loads-back : (v : List ℕ) → LoadsText t n (take (length work - at) (drop at work)) v
      → LoadsAt t n at work (take at work ++ (v ++ drop (length work - at) (drop at work)))
  loads-back v m s r =
      record {
        kept = tail-front work at v (omega (arith, k.room));
        block =
            subst (Block t s) (sym (tail-back work at v (omega (arith, k.room))))
            (loaded-block t s (take (length work - at) (drop at work)) v (m s (subst (λ (x : List ℕ). HasRoom t n x s) (sym (tail-lent work at)) r)));
      }

-- the witnesses before number w are loaded
pub record LoadingAll (buffer : Bytes) (pairs work : List ℕ) (at w : ℕ) : Type 0 where
  pub before : List Sections
  pub rest : List Sections
  pub reads : read_all (texts_in buffer pairs) ≡ got (before ++ rest)
  pub left : Left buffer pairs w rest
  pub at-is : at ≡ word_total before
  pub blocks : Blocks (take w (texts_in buffer pairs)) before work
  pub room : word_total (before ++ rest) ≤ length work

pub loading-none : (buffer : Bytes) (pairs work : List ℕ) → CanLoad buffer pairs work → LoadingAll buffer pairs work 0 0
loading-none buffer pairs work k =
    record { before = []; rest = k.ws; reads = k.readable.reads; left = k.readable.reads; at-is = refl; blocks = tt; room = k.room }

module _ (buffer : Bytes) (pairs work : List ℕ) (at w count : ℕ) (k : LoadingAll buffer pairs work at w) (all : count ≡ length pairs / 2) where
  pub loading-end : count ≤ w → LoadsAll buffer pairs work at
  loading-end h ws r =
      let none : k.rest ≡ [] = left-none buffer pairs w k.rest k.left (omega arith) in
      let same : ws ≡ k.before = got_same ws k.before (sym r.reads ∙ (k.reads ∙ (ap (λ (l : List Sections). got (k.before ++ l)) none ∙ ap got (append-nil k.before)))) in
      let whole : take w (texts_in buffer pairs) ≡ texts_in buffer pairs = take_all w (texts_in buffer pairs) (omega (arith, pairs-count (λ (o n : ℕ). part buffer o (o + n)) pairs)) in
      rw same (subst (λ (ts : List Bytes). Blocks ts k.before work) whole k.blocks, k.at-is)

  module _ (less : w < count) (t : Bytes) (is : t ≡ get_or (texts_in buffer pairs) w []) (n : AagCounts) (c : CountsOf (get_or (texts_in buffer pairs) w []) n) where
    first : FirstRead (get_or (texts_in buffer pairs) w []) (drop (w + 1) (texts_in buffer pairs)) k.rest
    first = left-more buffer pairs w k.rest k.left (omega arith)

    reads_first : read_aag limited true t ≡ got first.first
    reads_first = ap (read_aag limited true) is ∙ first.reads

    counts-first : n ≡ counts_in first.first
    counts-first = c first.first first.reads

    total : word_total (k.before ++ k.rest) ≡ at + word_count first.first + word_total first.others
    total = omega (arith, total_append word_count k.before k.rest, k.at-is, ap word_total first.is)

    room : at + words_for n ≤ length work
    room = rw (counts-first, ← words_for_lem first.first) (omega (arith, k.room, total))

    has_room : HasRoom t n (drop at work) first.first
    has_room = record { witness = true; reads = reads_first; counts = counts-first; fits = rw (length-drop at work) (omega (arith, k.room, total)) }

    pub loading-loadable : LoadableAt t n work at
    loading-loadable = record { room = room; loadable = record { sections = first.first; accepted = has_room } }

    module _ (v : List ℕ) (same : length v ≡ length work) (e : ℕ) (f : e ≡ at + words_for n) (m : LoadsAt t n at work v) where
      loaded : LoadedAt t first.first at work v
      loaded = m first.first has_room

      old : Blocks (take w (texts_in buffer pairs)) k.before v
      old = blocks-same (take w (texts_in buffer pairs)) k.before work v (subst (λ (j : ℕ). take j v ≡ take j work) k.at-is loaded.kept) k.blocks

      new : Block t first.first (drop (word_total k.before) v)
      new = subst (λ (j : ℕ). Block t first.first (drop j v)) k.at-is loaded.block

      texts : take w (texts_in buffer pairs) ++ t ∷ [] ≡ take (w + 1) (texts_in buffer pairs)
      texts =
          sym (take_next (texts_in buffer pairs) w [] (omega (arith, pairs-count (λ (o n : ℕ). part buffer o (o + n)) pairs))
          ∙ ap (λ (x : Bytes). take w (texts_in buffer pairs) ++ x ∷ []) (sym is))

      whole : k.before ++ k.rest ≡ (k.before ++ first.first ∷ []) ++ first.others
      whole = ap (λ (x : List Sections). k.before ++ x) first.is ∙ sym (append_assoc k.before (first.first ∷ []) first.others)

      pub loading-more : LoadingAll buffer pairs v e (w + 1)
      loading-more =
          record {
            before = k.before ++ first.first ∷ [];
            rest = first.others;
            reads = k.reads ∙ ap got whole;
            left = first.read_others;
            at-is = f ∙ omega (arith, total_append word_count k.before (first.first ∷ []), k.at-is, ap words_for counts-first, words_for_lem first.first);
            blocks = subst (λ (ts : List Bytes). Blocks ts (k.before ++ first.first ∷ []) v) texts (blocks_more (take w (texts_in buffer pairs)) k.before t first.first v old new);
            room = omega (arith, k.room, same, ap word_total whole);
          }
