-- Laws for the functions that check relevant inputs, predicates and states (R9.13, R9.14).
use Prim.Native.Nat.{ℕ, ◌+◌, ◌-◌, ◌*◌, ◌/◌, ◌≤◌, ◌<◌, ◌^◌}
use mathlib.Core.Bool.{Bool, true, false, ◌&&◌, and-false, and-true}
use mathlib.Core.List.{List, [], ◌∷◌}
use Rattle.std.specs.Prelude.{Result, Ok, Err}
use mathlib.Core.Path.{◌≡◌, refl, sym, ap, ◌∙◌}
use native.Mathlib.Nat.{lt_trans, mul-le-mul_right}
use native.Mathlib.Omega.{arith}
use borrow.Author.Tests.{le-leb, lt-leb}
use lib.Dec.{leb, ltb, lit<}
use lib.ListN.{length, get_or, take, drop}
use lib.Seq.{length-take-le}
use mir.Facts.{Fits-le}
use mir.Syntax.{w64}
use mir.Val.{Fits}
use Rattle.std.specs.Prelude.{Option, Some, None}
use Rattle.lists.specs.Answer.{got, unless, and_then}
use Rattle.lists.specs.Parts.{part}
use Rattle.lists.specs.Sets.{rising}
use Rattle.lists.specs.Tests.{all, every}
use Rattle.lists.specs.Words.{in_order, lengths}
use Rattle.lists.specs.Inner.Pairs.{part_end}
use Rattle.lists.proofs.PairLaws.{pair_rest, no_pair, order-none, order_outside, part-ends, order-at}
use Rattle.lists.proofs.TestLaws.{every_fails}
use Rattle.lists.proofs.WordLaws.{pairs_end}
use Rattle.aiger.specs.declared.Refusal.{Refusal}
use Rattle.aiger.specs.declared.Refusal.TheVariants.{Boundary}
use Rattle.model.specs.Checked.{checked, judged, Validates}
use Rattle.model.proofs.ValueLaws.{checked-got}
use Rattle.cnf.specs.Clauses.{clauses_in}
use Rattle.obligation_spec.specs.Calls.{Asked, circuit, Lent, asked}
use Rattle.obligation_spec.specs.Limits.{bounded, states_claimed}
use Rattle.obligation_check.specs.Inner.Boundary.{indexes, predicate_holds, Bounds, IsState, ClaimsStates, Checks}

-- the loop over the pairs: the rest decides, and where the part of the pair at i ends
module _ (n : ℕ) (words pairs : List ℕ) (end i : ℕ) (r : Bool) (k : r ≡ predicate_holds n end words (drop (2 * i) pairs)) where
  module _ (h : i < length pairs / 2) (x : Option ℕ) (e : x ≡ part_end end (get_or pairs (2 * i) 0) (get_or pairs (2 * i + 1) 0) (length words)) where
    abbrev start : ℕ
    start = get_or pairs (2 * i) 0

    abbrev size : ℕ
    size = get_or pairs (2 * i + 1) 0

    abbrev rest : List ℕ
    rest = drop (2 * (i + 1)) pairs

    next : r ≡ predicate_holds n end words (start ∷ size ∷ rest)
    next = k ∙ ap (predicate_holds n end words) (pair_rest pairs i (omega arith))

    pub pair_stop : x ≡ None → false ≡ r
    pair_stop o = sym (next ∙ ap (λ (b : Bool). b && all (indexes n) (clauses_in words (start ∷ size ∷ rest))) (order_outside end start size (length words) x e o rest))

    module _ (end' : ℕ) (o : x ≡ Some end') (offset : ℕ) (first : offset ≡ get_or pairs (2 * i) 0) where
      ends : (end ≤ start) × (end' ≡ start + size) × (start + size ≤ length words)
      ends = part-ends end start size (length words) x e end' o

      pub clause-starts : offset ≤ end'
      clause-starts = omega (arith, first, ends.1)

      pub clause-within : end' ≤ length words
      clause-within = omega (arith, ends.1, ends.2)

      -- a byte index of the clause's words is a number of 64 bits
      pub clause-fits : (k : ℕ) → length words * k < 2 ^ 63 → Fits w64 (offset * k)
      clause-fits k q = Fits-le (mul-le-mul_right k (omega (arith, clause-starts, clause-within))) (record { fits = lt_trans q (lit< tt) })

      clause : r ≡ (in_order end' (length words) rest && (indexes n (part words offset end') && all (indexes n) (clauses_in words rest)))
      clause =
          let s : end' - offset ≡ size = omega (arith, first, ends.1) in
          next
          ∙ ap (λ (b : Bool). b && (indexes n (take size (drop start words)) && all (indexes n) (clauses_in words rest))) (order-at end start size (length words) x e end' o rest)
          ∙ rw (s, first) refl

      pub clause-stop : (q : Bool) → q ≡ indexes n (part words offset end') → q ≡ false → false ≡ r
      clause-stop q f g = sym (clause ∙ rw (← f, g) (and-false (in_order end' (length words) rest)))

      pub clause-more : (q : Bool) → q ≡ indexes n (part words offset end') → q ≡ true → r ≡ predicate_holds n end' words rest
      clause-more q f g = clause ∙ rw (← f, g) refl

  pub pairs-stop : length pairs / 2 ≤ i → true ≡ r
  pairs-stop h =
      let e : clauses_in words (drop (2 * i) pairs) ≡ [] = pairs_end (λ offset size. take size (drop offset words)) pairs (2 * i) (omega arith) in
      sym (k ∙ rw (order-none end (length words) (drop (2 * i) pairs) (no_pair pairs i (omega arith)), e) refl)

-- ---- the boundary: each test of the list, in its order

module _ (inputs : ℕ) (relevant pairs words : List ℕ) where
  abbrev tests : List Bool
  tests =
      leb (length relevant) 64
      ∷ rising relevant
      ∷ all (λ i. ltb i inputs) relevant
      ∷ leb (length pairs / 2) 64
      ∷ leb (lengths pairs) 1024
      ∷ in_order 0 (length words) pairs
      ∷ all (indexes (length relevant)) (clauses_in words pairs)
      ∷ []

  bounds-are : (b : Bool) → b ≡ every tests → Bounds inputs relevant pairs words b
  unfolding bounded
  bounds-are b e c n = rw n e

  bounds_fail : (i : ℕ) → get_or tests i true ≡ false → Bounds inputs relevant pairs words false
  bounds_fail i e = bounds-are false (sym (every_fails tests i e))

  pub too_many_relevant : 64 < length relevant → Bounds inputs relevant pairs words false
  too_many_relevant h = bounds_fail 0 (lt-leb (length relevant) 64 h)

  pub not-rising : (q : Bool) → q ≡ rising relevant → q ≡ false → Bounds inputs relevant pairs words false
  not-rising q e f = bounds_fail 1 (sym e ∙ f)

  pub not-inputs : (q : Bool) → q ≡ all (λ i. ltb i inputs) relevant → q ≡ false → Bounds inputs relevant pairs words false
  not-inputs q e f = bounds_fail 2 (sym e ∙ f)

  pub too_many_clauses : 64 < length pairs / 2 → Bounds inputs relevant pairs words false
  too_many_clauses h = bounds_fail 3 (lt-leb (length pairs / 2) 64 h)

  pub too_many_literals : (q : Bool) → q ≡ leb (lengths pairs) 1024 → q ≡ false → Bounds inputs relevant pairs words false
  too_many_literals q e f = bounds_fail 4 (sym e ∙ f)

  -- the last two tests decide where the others hold
  pub bounds_hold : length relevant ≤ 64 → (q : Bool) → q ≡ rising relevant → q ≡ true → (p : Bool) → p ≡ all (λ i. ltb i inputs) relevant → p ≡ true
      → length pairs / 2 ≤ 64 → (t : Bool) → t ≡ leb (lengths pairs) 1024 → t ≡ true
      → (b : Bool) → b ≡ predicate_holds (length relevant) 0 words pairs → Bounds inputs relevant pairs words b
  unfolding every
  bounds_hold a q qe qt p pe pt d t te tt b e =
      bounds-are b
      (e
      ∙ rw (le-leb (length relevant) 64 a, ← qe, qt, ← pe, pt, le-leb (length pairs / 2) 64 d, ← te, tt)
      (ap (λ (y : Bool). in_order 0 (length words) pairs && y) (sym (and-true (all (indexes (length relevant)) (clauses_in words pairs))))))

-- ---- states

pub state-is : (latches s : ℕ) (r : Bool) → r ≡ ltb s (2 ^ latches) → IsState latches s r
state-is latches s r e c n = rw n e

module _ (latches : ℕ) (states : List ℕ) where
  claims-are : (b : Bool) → b ≡ every (rising states ∷ all (λ s. ltb s (2 ^ latches)) states ∷ []) → ClaimsStates latches states b
  unfolding states_claimed
  claims-are b e c n = e ∙ ap (λ (k : ℕ). every (rising states ∷ all (λ s. ltb s (2 ^ k)) states ∷ [])) (sym n)

  pub states_fall : (q : Bool) → q ≡ rising states → q ≡ false → ClaimsStates latches states q
  unfolding every
  states_fall q e f = claims-are q (rw (← e, f) refl)

  pub states_rise : (q : Bool) → q ≡ rising states → q ≡ true → (top : ℕ) → top ≡ 2 ^ latches → (b : Bool) → b ≡ all (λ s. ltb s top) states → ClaimsStates latches states b
  unfolding every
  states_rise q e f top p b h = claims-are b (h ∙ rw (← e, f, p) (sym (and-true (all (λ s. ltb s (2 ^ latches)) states))))

-- ---- the whole check

module _ (q : Asked) (w : ℕ) (work' : List ℕ) (v : Result (Unit {0}) Refusal) (h : Validates q.model q.gates w v work') where
  at-work : (lent : Lent) → lent.work ≡ w → asked q lent ≡ and_then (judged v (circuit q)) (λ c. unless 13 (bounded c q.relevant q.pairs q.words) (got c))
  at-work lent e = rw (e, ← h.judges) refl

  pub check_refused : (n : Refusal) → v ≡ Err n → Checks q w (Err n) work'
  check_refused n e = record { judges = λ lent k. sym (at-work lent k ∙ rw e refl); clears = h.clears }

  module _ (u : Unit {0}) (valid : v ≡ Ok u) where
    as_many : length (circuit q).inputs ≡ q.model.input_count
    as_many =
        let g : checked q.model q.gates w ≡ got (circuit q) = sym (rw valid at h.judges) in
        length-take-le q.model.input_count q.model.inputs (checked-got q.model q.gates w (circuit q) g).inputs

    module _ (b : Bool) (f : Bounds q.model.input_count q.relevant q.pairs q.words b) where
      pub check_valid : b ≡ true → Checks q w (Ok tt) work'
      check_valid t = record { judges = λ lent k. sym (at-work lent k ∙ rw (valid, ← f (circuit q) as_many, t) refl); clears = h.clears }

      pub check_13 : b ≡ false → Checks q w (Err Boundary) work'
      check_13 t = record { judges = λ lent k. sym (at-work lent k ∙ rw (valid, ← f (circuit q) as_many, t) refl); clears = h.clears }
