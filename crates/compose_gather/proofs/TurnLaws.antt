-- Laws of the literals of accepted texts: how small they are, and how they are gathered.
use Prim.Native.Nat.{ℕ, suc, ◌+◌, ◌-◌, ◌*◌, ◌/◌, ◌≤◌, ◌<◌}
use mathlib.Core.Bool.{true}
use mathlib.Core.List.{List, [], ◌∷◌, map}
use mathlib.Core.Path.{◌≡◌, sym, ap, ap₂, ◌∙◌, subst}
use native.Mathlib.Omega.{arith}
use lib.ListN.{length, drop, get_or, take, length-map}
use lib.Seq.{drop-drop}
use Rattle.lists.specs.Answer.{got}
use Rattle.lists.specs.Parts.{Bytes, part, put}
use Rattle.lists.specs.Tests.{Each}
use Rattle.lists.specs.Words.{words_of}
use Rattle.lists.proofs.KeptLaws.{part-kept}
use Rattle.lists.proofs.PartLaws.{part_at}
use Rattle.lists.proofs.TestLaws.{each_at, each-so}
use Rattle.lists.proofs.WordLaws.{pairs-count}
use Rattle.text.specs.Texts.{limited}
use Rattle.aiger.specs.declared.Gate.{Gate}
use Rattle.witness_text.specs.declared.AagCounts.{AagCounts}
use Rattle.witness_read.specs.Sections.{NamedLatch, Sections, leaves, variables}
use Rattle.witness_read.specs.Reading.{counts_in}
use Rattle.witness_load.specs.Inner.Loaded.{latch_words, operand_words, word_count}
use Rattle.compose_spec.specs.Composing.{or_outputs}
use Rattle.compose_spec.specs.Calling.{read_all, texts_in}
use Rattle.compose_spec.specs.Inner.Ranges.{Within, LatchWithin, InRange, GatesFrom}
use Rattle.compose_spec.proofs.RangeLaws.{read_range}
use Rattle.compose_joint.specs.declared.Before.{Before}
use Rattle.compose_joint.specs.declared.Literals.{Literals}
use Rattle.compose_joint.specs.declared.Literals.TheVariants as literals
use Rattle.compose_joint.specs.Inner.Joint.{total_of, input_count, latch_count, gate_count, shift_of, shifted_literal, joint_literals, list_of, beyond}
use Rattle.compose_gather.specs.Inner.Counts.{CountsOf}
use Rattle.compose_joint.specs.declared.Shift.{Shift}
use Rattle.compose_gather.specs.declared.Range.{Range}
use Rattle.compose_gather.specs.Inner.Gathered.{words_for, RightTotals, range_of, literal_count, shift_for, beyond_counts, SmallBefore, CanShiftRange, ShiftsRange}
use Rattle.compose_gather.proofs.TextLaws.{first_read, none_read}
use Rattle.compose_gather.proofs.CheckLaws.{read_counted}
use Rattle.compose_gather.proofs.BlockLaws.{words_for_lem}
use Rattle.compose_gather.proofs.GatherLaws.{Gathering, Next, gathering-next}
use Rattle.compose_gather.proofs.LiteralLaws.{range-within, list_stands, block_list}

abbrev SmallLiteral : ℕ → Type 0
SmallLiteral l = l < 4294967296

-- ---- literals are small

within-small : (m l : ℕ) → m ≤ 2000000 → Within m l → l < 4294967296
within-small m l h k = omega (arith, k)

latches-small : (m : ℕ) (qs : List NamedLatch) → m ≤ 2000000 → Each (LatchWithin m) qs → Each SmallLiteral (words_of latch_words qs)
latches-small m [] h e = tt
latches-small m (q ∷ qs) h e = (within-small m q.next h e.0.0, (within-small m q.reset h e.0.1, latches-small m qs h e.1))

operands-small : (n : ℕ) (gs : List Gate) → n + length gs ≤ 2000001 → GatesFrom n gs → Each SmallLiteral (words_of operand_words gs)
operands-small n [] h e = tt
operands-small n (g ∷ gs) h e = (omega (arith, e.0.left), (omega (arith, e.0.right), operands-small (suc n) gs (omega arith) e.1))

list_small : (kind : Literals) (s : Sections) → InRange s → variables s ≤ 2000000 → Each SmallLiteral (list_of kind s)
list_small literals.Latches s r m = latches-small (variables s) s.latches m r.latches
list_small literals.Safety s r m = go s.bads r.bads
  where
    each : (ls : List ℕ) → Each (Within (variables s)) ls → Each SmallLiteral ls
    each ls e = each-so (Within (variables s)) SmallLiteral (λ l. within-small (variables s) l m) ls e

    go : (bads : List ℕ) → Each (Within (variables s)) bads → Each SmallLiteral (or_outputs bads s.outputs)
    go [] e = each s.outputs r.outputs
    go (b ∷ bs) e = each (b ∷ bs) e
list_small literals.Constraints s r m = each-so (Within (variables s)) SmallLiteral (λ l. within-small (variables s) l m) s.constraints r.constraints
list_small literals.Operands s r m = operands-small (suc (leaves s)) s.gates (omega arith) r.gates

-- ---- totals are small

pub total_below : (f g : Sections → ℕ) → ((s : Sections) → f s ≤ g s) → (ws : List Sections) → total_of f ws ≤ total_of g ws
total_below f g h [] = omega arith
total_below f g h (s ∷ ss) = omega (arith, h s, total_below f g h ss)

pub total_small : (ts : List Bytes) (ws : List Sections) → read_all ts ≡ got ws → total_of variables ws ≤ 2000000 * length ts
total_small [] ws e = rw (none_read ws e) (omega arith)
total_small (t ∷ ts) ws e =
    let k = first_read t ts ws e in
    let c = read_counted t k.first k.reads in
    omega (arith, ap (total_of variables) k.is, c.most, total_small ts k.others k.read_others)

-- ---- one turn of gathering a list

-- a part behind a place, where two lists are the same up to another
part-behind : (v w : List ℕ) (to from a c : ℕ) → take to w ≡ take to v → from + c ≤ to → part w (from + a) (from + c) ≡ part (drop from v) a c
part-behind v w to from a c e h =
    let n : from + c - (from + a) ≡ c - a = omega arith in
    part-kept w v to e (from + a) (from + c) h ∙ ap₂ (λ (j : ℕ) (l : List ℕ). take j l) n (sym (drop-drop a from v))

module _ (kind : Literals) (i q : ℕ) (buffer : Bytes) (pairs work₀ work : List ℕ) (to from at : ℕ) (b : Before) (w all : ℕ)
    (k : Gathering (joint_literals (list_of kind) i q) (literal_count kind) buffer pairs work₀ work to from at b w) (number : all ≡ length pairs / 2) (less : w < all)
    (right : RightTotals buffer pairs i q) (n : AagCounts) (c : CountsOf (get_or (texts_in buffer pairs) w []) n) where
  next : Next (joint_literals (list_of kind) i q) (literal_count kind) buffer pairs work₀ work to from at b w k.ws
  next = gathering-next (joint_literals (list_of kind) i q) (literal_count kind) buffer pairs to work₀ work from at b w all k number less

  counts : n ≡ counts_in next.first
  counts = c next.first next.reads

  totals : (i ≡ total_of input_count k.ws) × (q ≡ total_of latch_count k.ws)
  totals = right k.ws k.readable

  few : total_of variables k.ws ≤ 128000000
  few =
      omega (arith, total_small (texts_in buffer pairs) k.ws k.readable.reads, pairs-count (λ (o m : ℕ). part buffer o (o + m)) pairs, k.readable.pairs_hold.few)

  small-before : SmallBefore i q b (counts_in next.first)
  small-before =
      record {
        inputs = omega (arith, totals.0, next.inputs);
        latches = omega (arith, totals.1, next.latches);
        gates = omega (arith, few, total_below gate_count variables (λ s. omega arith) k.ws, next.gates);
        few_inputs = omega (arith, few, totals.0, total_below input_count variables (λ s. omega arith) k.ws);
        few_latches = omega (arith, few, totals.1, total_below latch_count variables (λ s. omega arith) k.ws);
      }

  pub gather-before : SmallBefore i q b n
  gather-before = subst (SmallBefore i q b) (sym counts) small-before

  short : words_for n ≡ word_count next.first
  short = ap words_for counts ∙ sym (words_for_lem next.first)

  pub gather-behind : from + words_for n ≤ at
  gather-behind = omega (arith, short, next.behind, next.onward)

  -- the list of this witness stands where its range says
  list_there : part work (from + (range_of kind (counts_in next.first)).start) (from + (range_of kind (counts_in next.first)).start + (range_of kind (counts_in next.first)).count) ≡ list_of kind next.first
  list_there = go (range_of kind (counts_in next.first)).start (range_of kind (counts_in next.first)).count (range-within kind next.first) (block_list kind (get_or (texts_in buffer pairs) w []) next.first (drop from work₀) next.block)
    where
      go : (a m : ℕ) → a + m ≤ word_count next.first → part (drop from work₀) a (a + m) ≡ list_of kind next.first → part work (from + a) (from + a + m) ≡ list_of kind next.first
      go a m h e =
          let z : from + (a + m) ≡ from + a + m = omega arith in
          subst (λ (j : ℕ). part work (from + a) j ≡ list_of kind next.first) z (part-behind work₀ work to from a (a + m) next.kept (omega (arith, next.behind)) ∙ e)

  long : (range_of kind (counts_in next.first)).count ≡ literal_count kind next.first
  long = (list_stands kind next.first).counts

  literals-small : (j : ℕ) → j < (range_of kind (counts_in next.first)).count → get_or work (from + (range_of kind (counts_in next.first)).start + j) 0 < 4294967296
  literals-small j h =
      subst SmallLiteral
      (ap (λ (l : List ℕ). get_or l j 0) (sym list_there)
      ∙ part_at work (from + (range_of kind (counts_in next.first)).start) (from + (range_of kind (counts_in next.first)).start + (range_of kind (counts_in next.first)).count) j 0 (omega arith))
      (each_at SmallLiteral (list_of kind next.first) j 0
      (list_small kind next.first (read_range limited true (get_or (texts_in buffer pairs) w []) next.first next.reads) (read_counted (get_or (texts_in buffer pairs) w []) next.first next.reads).most)
      (omega (arith, long)))

  can_shift : CanShiftRange (range_of kind (counts_in next.first)) (shift_for i q b (counts_in next.first)) work from at
  can_shift =
      record {
        small =
            record {
              by_input = omega (arith, small-before.inputs, small-before.few_inputs);
              by_latch = omega (arith, small-before.latches, small-before.few_inputs, small-before.few_latches);
              by_gate = omega (arith, small-before.gates, small-before.few_inputs, small-before.few_latches);
            };
        behind = omega (arith, range-within kind next.first, next.behind, next.onward);
        room = omega (arith, long, next.room, next.same);
        literals = literals-small;
      }

  -- the shift and the range that the code has
  module _ (h : Shift) (f : h ≡ shift_for i q b n) (range : Range) (g : range ≡ range_of kind n) where
    pub gather-can : CanShiftRange range h work from at
    gather-can =
        subst (λ (x : Range). CanShiftRange x h work from at) (sym (g ∙ ap (range_of kind) counts))
        (subst (λ (x : Shift). CanShiftRange (range_of kind (counts_in next.first)) x work from at) (sym (f ∙ ap (shift_for i q b) counts)) can_shift)

  module _ (h : Shift) (f : h ≡ shift_for i q b n) (range : Range) (g : range ≡ range_of kind n) (work' : List ℕ) (r : ℕ) (l : ShiftsRange range h work from at work' r) where
    shifts : ShiftsRange (range_of kind (counts_in next.first)) (shift_for i q b (counts_in next.first)) work from at work' r
    shifts =
        subst (λ (x : Range). ShiftsRange x (shift_for i q b (counts_in next.first)) work from at work' r) (g ∙ ap (range_of kind) counts)
        (subst (λ (x : Shift). ShiftsRange range x work from at work' r) (f ∙ ap (shift_for i q b) counts) l)

    written : work' ≡ put work at (joint_literals (list_of kind) i q w b next.first)
    written = shifts.is ∙ ap (λ (x : List ℕ). put work at (map (shifted_literal (shift_of i q b next.first)) x)) list_there

    further : Gathering (joint_literals (list_of kind) i q) (literal_count kind) buffer pairs work₀ work' to (from + word_count next.first) (at + literal_count kind next.first) (beyond b next.first) (w + 1)
    further = next.goes work' written (length-map (list_of kind next.first) (shifted_literal (shift_of i q b next.first)))

    pub gather-more : (from' : ℕ) (b' : Before) → from' ≡ from + words_for n → b' ≡ beyond_counts b n
        → Gathering (joint_literals (list_of kind) i q) (literal_count kind) buffer pairs work₀ work' to from' r b' (w + 1)
    gather-more from' b' c' d' =
        let x : from + word_count next.first ≡ from' = omega (arith, short, c') in
        let y : at + literal_count kind next.first ≡ r = omega (arith, shifts.next, long) in
        let z : beyond b next.first ≡ b' = sym (d' ∙ ap (beyond_counts b) counts) in
        subst (λ (j : ℕ). Gathering (joint_literals (list_of kind) i q) (literal_count kind) buffer pairs work₀ work' to j r b' (w + 1)) x
        (subst (λ (j : ℕ). Gathering (joint_literals (list_of kind) i q) (literal_count kind) buffer pairs work₀ work' to (from + word_count next.first) j b' (w + 1)) y
        (subst (λ (d : Before). Gathering (joint_literals (list_of kind) i q) (literal_count kind) buffer pairs work₀ work' to (from + word_count next.first) (at + literal_count kind next.first) d (w + 1)) z further))
