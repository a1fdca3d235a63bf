-- Laws for a predicate's clause whose repeats are left out: the loop that fills a list with its words, and the clause that is then appended.
use Prim.Native.Nat.{ℕ, ◌+◌, ◌/◌, ◌≤◌, ◌<◌, ◌^◌}
use mathlib.Core.Bool.{Bool, true, false, not, ◌||◌, or-false}
use mathlib.Core.List.{List, [], ◌∷◌, ◌++◌, map, map-append}
use mathlib.Core.Path.{◌≡◌, refl, sym, ap, ◌∙◌}
use native.Mathlib.Numerals.{add-one}
use native.Mathlib.Omega.{arith}
use borrow.Author.Tests.{eqb-true}
use lib.Dec.{eqb}
use lib.ListN.{length, get_or, take, set, length-append}
use lib.Seq.{take_all, take-suc-set}
use Rattle.lists.specs.Parts.{zeros}
use Rattle.lists.specs.Sets.{member, holds, with_bit, Marked}
use Rattle.lists.specs.Tests.{any, Each}
use Rattle.lists.proofs.BitSetLaws.{with_length}
use Rattle.lists.proofs.OnceLaws.{marked_no_bit, marked-bit, member_snoc}
use Rattle.lists.proofs.RestLaws.{take_next}
use Rattle.lists.proofs.TestLaws.{any-map, each_map, each_append, each_at, each-any}
use Rattle.lists.proofs.AnyLaws.{member-any, any_same}
use Rattle.cnf.specs.declared.Clauses.{Clauses}
use Rattle.cnf.specs.Inner.Appending.{Appends, PushesFilled, NarrowWords}
use Rattle.cnf.specs.Simplified.{cnf_word}
use Rattle.cnf.proofs.AppendLaws.{appends-same}
use Rattle.cnf.proofs.MemberLaws.{simplified_members}
use Rattle.cnf.proofs.SimplifyLaws.{filled-narrow, filled-part}
use Rattle.obligation_spec.specs.Lists.{predicate_literal}
use Rattle.obligation_gates.specs.Inner.Encoding.{Clausal, FilledAs}
use Rattle.obligation_gates.proofs.PredicateLaws.{coded, literal-some, literal-narrow, filled}

-- the first i words of the clause were seen, and the list has n words in front: those of the same set that were kept
pub record Keeping (inputs relevant clause seen list : List ℕ) (n i : ℕ) : Type 0 where
  pub kept : List ℕ
  pub same : (w : ℕ) → member w kept ≡ member w (take i clause)
  pub indexed : Each (λ w. w / 2 < length relevant) kept
  pub words : take n list ≡ map (coded inputs relevant) kept
  pub count : n ≡ length kept
  pub few : n ≤ i
  pub marked : Marked 128 (holds seen) (take i clause)
  pub two : length seen ≡ 2

pub keeping_none : (inputs relevant clause list : List ℕ) → Keeping inputs relevant clause (zeros 2) list 0 0
keeping_none inputs relevant clause list =
    record { kept = []; same = λ w. refl; indexed = _; words = refl; count = refl; few = omega arith; marked = marked_no_bit 128 2; two = refl }

module _ (inputs relevant clause seen list : List ℕ) (n i : ℕ) (c : Clausal inputs relevant clause) (k : Keeping inputs relevant clause seen list n i) (h : i < length clause) where
  abbrev word : ℕ
  word = get_or clause i 0

  pub word-indexed : word / 2 < length relevant
  word-indexed = each_at (λ w. w / 2 < length relevant) clause i 0 c.indexed h

  pub keeping-some : (l : ℕ) → l ≡ predicate_literal inputs relevant word → 2 ≤ l
  keeping-some l e = rw e (literal-some inputs relevant clause c word word-indexed)

  member-next : (w : ℕ) → member w (take (i + 1) clause) ≡ (member w (take i clause) || eqb w word)
  member-next w = rw (take_next clause i 0 h) (member_snoc w (take i clause) word)

  module _ (r : Bool) (seen' : List ℕ) (a : (r ≡ not (holds seen word)) × (seen' ≡ with_bit seen word)) where
    marked_next : Marked 128 (holds seen') (take (i + 1) clause)
    marked_next = rw (a.1, take_next clause i 0 h) (marked-bit 128 seen (take i clause) word (omega (arith, k.two)) k.marked)

    two_next : length seen' ≡ 2
    two_next = rw a.1 (with_length seen word ∙ k.two)

    -- a word that was not seen goes into the list
    pub keeping-more : n < length list → (l : ℕ) → l ≡ predicate_literal inputs relevant word → (v : ℕ) → v ≡ cnf_word l
        → Keeping inputs relevant clause seen' (set list n v) (n + 1) (i + 1)
    keeping-more room l e v f =
        record {
          kept = k.kept ++ word ∷ [];
          same = λ w. member_snoc w k.kept word ∙ ap (λ (b : Bool). b || eqb w word) (k.same w) ∙ sym (member-next w);
          indexed = each_append (λ w. w / 2 < length relevant) k.kept (word ∷ []) k.indexed (word-indexed, _);
          words = rw (add-one n, take-suc-set list n v room, k.words, map-append (coded inputs relevant) k.kept (word ∷ []), f, e);
          count = rw (length-append k.kept (word ∷ [])) (ap (λ (m : ℕ). m + 1) k.count);
          few = omega (arith, k.few);
          marked = marked_next;
          two = two_next;
        }

    -- one that was seen stands in the list already
    pub keeping_seen : r ≡ false → Keeping inputs relevant clause seen' list n (i + 1)
    keeping_seen f =
        record {
          kept = k.kept;
          same = λ w. k.same w ∙ go w (eqb w word) refl ∙ sym (member-next w);
          indexed = k.indexed;
          words = k.words;
          count = k.count;
          few = omega (arith, k.few);
          marked = marked_next;
          two = two_next;
        }
      where
        was : (b : Bool) → r ≡ not b → b ≡ true
        was true e = refl
        was false e = sym f ∙ e

        stands : member word (take i clause) ≡ true
        stands = sym (k.marked.says word (omega (arith, word-indexed, c.most))) ∙ was (holds seen word) a.0

        go : (w : ℕ) (b : Bool) → eqb w word ≡ b → member w (take i clause) ≡ (member w (take i clause) || b)
        go w true e = rw (eqb-true w word e, stands)
        go w false e = sym (or-false (member w (take i clause)))

module _ (inputs relevant clause : List ℕ) (c : Clausal inputs relevant clause) where
  pub keeping-end : (seen list : List ℕ) (n i : ℕ) → Keeping inputs relevant clause seen list n i → i ≤ length clause → length clause ≤ i → FilledAs inputs relevant clause list n
  keeping-end seen list n i k low high =
      let d : Clausal inputs relevant k.kept = record { low = c.low; variables = c.variables; among = c.among; most = c.most; indexed = k.indexed } in
      record {
        kept = k.kept;
        same = λ w. k.same w ∙ ap (member w) (take_all i clause high);
        clausal = d;
        filled = filled inputs relevant k.kept d list n k.words k.count;
        few = omega (arith, k.few);
      }

-- ---- the clause is the same without its repeats

module _ (inputs relevant clause list : List ℕ) (n : ℕ) (f : FilledAs inputs relevant clause list n) where
  member-map : (p : ℕ → ℕ) (x : ℕ) → member x (map p f.kept) ≡ member x (map p clause)
  member-map p x = to f.kept ∙ any_same (λ w. eqb x (p w)) f.kept clause f.same ∙ sym (to clause)
    where
      to : (l : List ℕ) → member x (map p l) ≡ any (λ w. eqb x (p w)) l
      to l = member-any x (map p l) ∙ any-map p (eqb x) l

  pub kept-narrow : NarrowWords (take n list)
  kept-narrow =
      let p : ℕ → ℕ = predicate_literal inputs relevant in
      filled-narrow (map p f.kept) list n f.filled
      (each_map p (λ l. l < 2 ^ 32) f.kept (each-any (λ w. p w < 2 ^ 32) (literal-narrow inputs relevant f.kept f.clausal) f.kept))

  pub kept-appends : n ≤ length list → (from to : Clauses) → PushesFilled (take n list) from to → Appends (map (predicate_literal inputs relevant) clause ∷ []) from to
  kept-appends room from to g =
      let p : ℕ → ℕ = predicate_literal inputs relevant in
      appends-same (map p f.kept ∷ []) (map p clause ∷ []) from to
      (ap (λ (t : List (List ℕ)). t ∷ []) (simplified_members (map p f.kept) (map p clause) (member-map p)))
      (g (map p f.kept) (filled-part (map p f.kept) list n room f.filled))
