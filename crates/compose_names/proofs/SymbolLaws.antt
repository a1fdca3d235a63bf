-- The loop over the witnesses: their rows are walked, one witness after the other.
use Prim.Native.Nat.{ℕ, suc, ◌+◌, ◌/◌, ◌≤◌, ◌<◌}
use mathlib.Core.List.{List, [], ◌∷◌, ◌++◌}
use mathlib.Core.Path.{◌≡◌, sym, ap, ◌∙◌, subst}
use native.Mathlib.Numerals.{add-one}
use native.Mathlib.Omega.{arith}
use lib.ListN.{length, get_or, drop, length-map}
use lib.Seq.{drop-drop}
use Rattle.lists.specs.Parts.{Bytes, part}
use Rattle.lists.proofs.AnswerLaws.{got_same}
use Rattle.lists.proofs.WordLaws.{pairs-count}
use Rattle.text_decimal.specs.Printed.{text_of}
use Rattle.text_print.proofs.PrintsLaws.{Printing, printing-none, printing-more, printing-done, prints_as}
use Rattle.witness_text.specs.declared.AagCounts.{AagCounts}
use Rattle.witness_read.specs.Sections.{Sections, variables}
use Rattle.witness_read.specs.Reading.{counts_in}
use Rattle.witness_load.specs.Inner.Loaded.{word_count}
use Rattle.compose_spec.specs.Calling.{texts_in}
use Rattle.compose_joint.specs.declared.Leaves.{Leaves}
use Rattle.compose_joint.specs.declared.Leaves.TheVariants as leaf
use Rattle.compose_joint.specs.Inner.Joint.{total_of, nothing_before, origins, entries_of, leaf_counts, kind_of}
use Rattle.compose_gather.specs.Inner.Counts.{CountsOf}
use Rattle.compose_gather.specs.Inner.Gathered.{Block, Blocks, word_total, Readable, leaf_count_of}
use Rattle.compose_gather.proofs.TextLaws.{FirstRead, Left, left-more, left-none, texts_left}
use Rattle.compose_gather.proofs.CountLaws.{counts-leaves, leaves-within}
use Rattle.compose_gather.proofs.BlockLaws.{words_for_lem}
use Rattle.compose_gather.proofs.TurnLaws.{total_below, total_small}
use Rattle.compose_names.specs.declared.Starts.{Starts}
use Rattle.text_print.specs.declared.Printer.{Printer}
use Rattle.compose_names.specs.Inner.Names.{firsts_of}
use Rattle.compose_names.specs.Inner.Symbols.{Row, new_lines, next_after, rows_at, PrintsNew, CanPrintWitness, passed, CanPass, SymbolWords, CanPrintSymbols, PrintsSymbols}
use Rattle.compose_names.proofs.WalkLaws.{new_text, rows_append, rows-length, after_least, after-most}
use Rattle.compose_names.proofs.FirstLaws.{first-lines}
use Rattle.compose_names.proofs.RowLaws.{leaf_said}
use Rattle.compose_names.proofs.EntryLaws.{part-stands, rows_all, rows_none, rows_are}

-- where the words of the first witness begin
abbrev pub start : ℕ → ℕ → Starts
start from_origins from_numbers = record { names = 0; origins = from_origins; numbers = from_numbers }

-- inputs, or latches, are some of the variables
leaves-few : (kind : Leaves) (s : Sections) → leaf_count_of kind s ≤ variables s
leaves-few leaf.Inputs s = omega arith
leaves-few leaf.Latches s = omega (arith, length-map s.latches (λ q. q.name))

-- the witnesses before number w are walked; the words of witness w begin at the places p
pub record Walking (kind : Leaves) (buffer : Bytes) (pairs work : List ℕ) (from_origins from_numbers first : ℕ) (o₀ o : Printer) (p : Starts) (new w : ℕ) : Type 0 where
  pub ws : List Sections
  pub rest : List Sections
  pub readable : Readable buffer pairs ws
  pub left : Left buffer pairs w rest
  -- its words, and those of the others
  pub blocks : Blocks (drop w (texts_in buffer pairs)) rest (drop p.names work)
  pub room : p.names + word_total rest ≤ length work
  pub origins_fit : p.origins + total_of (leaf_count_of kind) rest ≤ length work
  pub numbers_fit : p.numbers + total_of (leaf_count_of kind) rest ≤ length work
  pub low : first ≤ new
  pub few : new + total_of (leaf_count_of kind) rest ≤ first + total_of (leaf_count_of kind) ws
  pub small : first < 1073741824
  pub printing :
      Printing o₀ (new_text (kind_of kind) first first (rows_all kind work 0 (texts_in buffer pairs) ws (start from_origins from_numbers))) o
      (new_text (kind_of kind) first new (rows_all kind work w (drop w (texts_in buffer pairs)) rest p))

module _ (kind : Leaves) (buffer : Bytes) (pairs work : List ℕ) (from_origins from_numbers first : ℕ) (o₀ : Printer) where
  -- before the loop
  pub walking-none : CanPrintSymbols kind buffer pairs work from_origins from_numbers first
      → Walking kind buffer pairs work from_origins from_numbers first o₀ o₀ (start from_origins from_numbers) first 0
  walking-none c =
      let k : SymbolWords kind c.m c.ws buffer pairs work from_origins from_numbers first = c.holds in
      record {
        ws = c.ws;
        rest = c.ws;
        readable = k.readable;
        left = k.readable.reads;
        blocks = k.blocks;
        room = omega (arith, k.room);
        origins_fit = k.origins_fit;
        numbers_fit = k.numbers_fit;
        low = omega arith;
        few = omega arith;
        small = k.small;
        printing = printing-none o₀ (new_text (kind_of kind) first first (rows_all kind work 0 (texts_in buffer pairs) c.ws (start from_origins from_numbers)));
      }

  module _ (o : Printer) (p : Starts) (new w count : ℕ) (k : Walking kind buffer pairs work from_origins from_numbers first o₀ o p new w) (all : count ≡ length pairs / 2) where
    -- the rows of all
    abbrev rows : List Row
    rows = rows_all kind work 0 (texts_in buffer pairs) k.ws (start from_origins from_numbers)

    -- after the loop, whatever the model is
    pub walking-end : count ≤ w → PrintsSymbols kind buffer pairs work from_origins from_numbers first o₀ o
    walking-end h m ws c =
        let none : k.rest ≡ [] = left-none buffer pairs w k.rest k.left (omega arith) in
        let same : k.ws ≡ ws = got_same k.ws ws (sym k.readable.reads ∙ c.readable.reads) in
        let ended : new_text (kind_of kind) first new (rows_all kind work w (drop w (texts_in buffer pairs)) k.rest p) ≡ [] =
        ap (new_text (kind_of kind) first new) (ap (λ (ss : List Sections). rows_all kind work w (drop w (texts_in buffer pairs)) ss p) none ∙ rows_none kind work w (drop w (texts_in buffer pairs)) p) in
        let entries : rows ≡ _ =
        ap (λ (ss : List Sections). rows_all kind work 0 (texts_in buffer pairs) ss (start from_origins from_numbers)) same
        ∙ rows_are kind m first (firsts_of kind m ws) work 0 nothing_before (texts_in buffer pairs) ws (start from_origins from_numbers) c.blocks
        (part-stands work from_origins (total_of (leaf_count_of kind) ws) (origins kind m ws) c.origins_fit c.origins-are)
        (part-stands work from_numbers (total_of (leaf_count_of kind) ws) _ c.numbers_fit c.numbers-are) in
        prints_as o₀ (new_text (kind_of kind) first first rows) o _
        (ap text_of (ap (new_lines (kind_of kind) first first) entries ∙ first-lines (kind_of kind) first (entries_of kind m 0 ws)))
        (printing-done o₀ (new_text (kind_of kind) first first rows) o (new_text (kind_of kind) first new (rows_all kind work w (drop w (texts_in buffer pairs)) k.rest p)) k.printing ended)

    module _ (less : w < count) (t : Bytes) (is : t ≡ get_or (texts_in buffer pairs) w []) (n : AagCounts) (c : CountsOf (get_or (texts_in buffer pairs) w []) n) where
      -- witness w and those after it
      next : FirstRead (get_or (texts_in buffer pairs) w []) (drop (w + 1) (texts_in buffer pairs)) k.rest
      next = left-more buffer pairs w k.rest k.left (omega arith)

      -- its sections
      abbrev s : Sections
      s = next.first

      -- its counts
      counts : n ≡ counts_in s
      counts = c s next.reads

      blocks : Blocks (get_or (texts_in buffer pairs) w [] ∷ drop (w + 1) (texts_in buffer pairs)) (s ∷ next.others) (drop p.names work)
      blocks =
          subst (λ (ss : List Sections). Blocks (get_or (texts_in buffer pairs) w [] ∷ drop (w + 1) (texts_in buffer pairs)) ss (drop p.names work)) next.is
          (subst (λ (ts : List Bytes). Blocks ts k.rest (drop p.names work)) (texts_left buffer pairs w (omega arith)) k.blocks)

      -- its words
      block : Block t s (drop p.names work)
      block = subst (λ (x : Bytes). Block x s (drop p.names work)) (sym is) blocks.0

      -- totals of what is left
      split : (f : Sections → ℕ) → total_of f k.rest ≡ f s + total_of f next.others
      split f = ap (total_of f) next.is

      -- all numbers are small
      little : total_of (leaf_count_of kind) k.ws ≤ 128000000
      little =
          omega (
            arith,
            total_below (leaf_count_of kind) variables (leaves-few kind) k.ws,
            total_small (texts_in buffer pairs) k.ws k.readable.reads,
            pairs-count (λ (a m : ℕ). part buffer a (a + m)) pairs,
            k.readable.pairs_hold.few,
          )

      -- its names may be printed
      pub walking-can : CanPrintWitness t n work kind p first new
      walking-can =
          subst (λ (x : AagCounts). CanPrintWitness t x work kind p first new) (sym counts)
          (record {
            words = omega (arith, words_for_lem s, k.room, split word_count);
            can =
                record {
                  named = omega (arith, leaves-within kind (counts_in s), words_for_lem s, k.room, split word_count);
                  origins_fit = omega (arith, counts-leaves kind s, k.origins_fit, split (leaf_count_of kind));
                  numbers_fit = omega (arith, counts-leaves kind s, k.numbers_fit, split (leaf_count_of kind));
                  within = λ j h. (leaf_said t s work p.names block kind j (omega (arith, counts-leaves kind s))).within;
                  low = k.low;
                  small = omega (arith, counts-leaves kind s, k.few, k.small, little, split (leaf_count_of kind));
                };
          })

      -- the places of the next witness
      pub walking_pass : CanPass kind n p (length work)
      walking_pass =
          subst (λ (x : AagCounts). CanPass kind x p (length work)) (sym counts)
          (record {
            names = omega (arith, words_for_lem s, k.room, split word_count);
            origins = omega (arith, counts-leaves kind s, k.origins_fit, split (leaf_count_of kind));
            numbers = omega (arith, counts-leaves kind s, k.numbers_fit, split (leaf_count_of kind));
          })

      module _ (o' : Printer) (r : ℕ) (l : PrintsNew kind first new (rows_at t n work kind w p) o o' r) where
        -- its rows
        abbrev mine : List Row
        mine = rows_at t (counts_in s) work kind w p

        -- the rows of those after it
        abbrev others : List Row
        others = rows_all kind work (w + 1) (drop (w + 1) (texts_in buffer pairs)) next.others (passed kind (counts_in s) p)

        -- there is a row for each name
        mine_counted : length mine ≡ leaf_count_of kind s
        mine_counted = rows-length _ 0 (leaf_counts kind (counts_in s)) ∙ counts-leaves kind s

        -- what is printed
        prints : PrintsNew kind first new mine o o' r
        prints = subst (λ (x : AagCounts). PrintsNew kind first new (rows_at t x work kind w p) o o' r) counts l

        -- the rows that were left
        rest-split : rows_all kind work w (drop w (texts_in buffer pairs)) k.rest p ≡ mine ++ others
        rest-split =
            ap (λ (ts : List Bytes). rows_all kind work w ts k.rest p) (texts_left buffer pairs w (omega arith))
            ∙ (ap (λ (ss : List Sections). rows_all kind work w (get_or (texts_in buffer pairs) w [] ∷ drop (w + 1) (texts_in buffer pairs)) ss p) next.is
            ∙ (ap (λ (x : Bytes). rows_at x (counts_in s) work kind w p ++ rows_all kind work (suc w) (drop (w + 1) (texts_in buffer pairs)) next.others (passed kind (counts_in s) p)) (sym is)
            ∙ ap (λ (j : ℕ). mine ++ rows_all kind work j (drop (w + 1) (texts_in buffer pairs)) next.others (passed kind (counts_in s) p)) (sym (add-one w))))

        -- the next new variable
        after : r ≡ next_after new mine
        after = prints.after

        -- after the turn
        further : Walking kind buffer pairs work from_origins from_numbers first o₀ o' (passed kind (counts_in s) p) r (w + 1)
        further =
            record {
              ws = k.ws;
              rest = next.others;
              readable = k.readable;
              left = next.read_others;
              blocks = subst (Blocks (drop (w + 1) (texts_in buffer pairs)) next.others) (drop-drop (word_count s) p.names work ∙ ap (λ (j : ℕ). drop (p.names + j) work) (words_for_lem s)) blocks.1;
              room = omega (arith, words_for_lem s, k.room, split word_count);
              origins_fit = omega (arith, counts-leaves kind s, k.origins_fit, split (leaf_count_of kind));
              numbers_fit = omega (arith, counts-leaves kind s, k.numbers_fit, split (leaf_count_of kind));
              low = omega (arith, k.low, after, after_least new mine);
              few = omega (arith, k.few, after, after-most new mine, mine_counted, split (leaf_count_of kind));
              small = k.small;
              printing =
                  printing-more o₀ (new_text (kind_of kind) first first rows) o (new_text (kind_of kind) first new (rows_all kind work w (drop w (texts_in buffer pairs)) k.rest p)) k.printing
                  (new_text (kind_of kind) first new mine) (new_text (kind_of kind) first r others) o'
                  (ap (new_text (kind_of kind) first new) rest-split
                  ∙ (rows_append (kind_of kind) first new mine others
                  ∙ ap (λ (j : ℕ). new_text (kind_of kind) first new mine ++ new_text (kind_of kind) first j others) (sym after)))
                  prints.prints;
            }

        -- the same, with the places that the code has
        pub walking-more : (p' : Starts) → p' ≡ passed kind n p → Walking kind buffer pairs work from_origins from_numbers first o₀ o' p' r (w + 1)
        walking-more p' e = subst (λ (x : Starts). Walking kind buffer pairs work from_origins from_numbers first o₀ o' x r (w + 1)) (sym (e ∙ ap (λ (x : AagCounts). passed kind x p) counts)) further
