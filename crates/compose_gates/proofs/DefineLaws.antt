-- The loop that defines latches: its invariant, and one turn.
use Prim.Native.Nat.{ℕ, ◌+◌, ◌-◌, ◌*◌, ◌/◌, ◌≤◌, ◌<◌, max}
use mathlib.Core.Bool.{Bool, true, false, ◌&&◌}
use mathlib.Core.List.{List, [], ◌∷◌, ◌++◌}
use mathlib.Core.Path.{◌≡◌, refl, sym, ap, subst, ◌∙◌}
use native.Mathlib.Omega.{arith}
use borrow.Author.Tests.{ltb-true, ltb-false}
use lib.Dec.{ltb}
use lib.ListN.{length, get_or, take, drop, drop_of_length-le, take-append-drop}
use Rattle.std.specs.Prelude.{Some, None}
use Rattle.lists.specs.Parts.{put}
use Rattle.lists.specs.Tests.{all, Each}
use Rattle.lists.specs.Words.{pairs_of}
use Rattle.lists.proofs.BoolLaws.{true-false}
use Rattle.lists.proofs.PartLaws.{part_length, part_at, put-none, put-length, put-inside, put-put}
use Rattle.lists.proofs.RestLaws.{rest_more, take_next}
use Rattle.lists.proofs.TestLaws.{each_append, each-so}
use Rattle.lists.proofs.WordLaws.{pairs-count, pairs-at}
use Rattle.witness_read.specs.Sections.{NamedLatch}
use Rattle.compose_spec.specs.Sharing.{translate}
use Rattle.compose_spec.specs.Composing.{Defined, definition_of, same_defined, agree}
use Rattle.compose_gates.specs.Inner.Linked.{Translatable}
use Rattle.compose_gates.specs.Inner.Latches.{InTurn, met_in, same_pair, DefinesLatch, latch_from, defined_in, definitions_from, latch_variables, Definable, defined_answer, Defines}
use Rattle.compose_gates.proofs.LatchLaws.{defined-length, defined-at, definition_new, same_self, definitions-length, definitions-next, next-at, reset-at}

-- a definition is as the first one of its latch
abbrev pub as_first : List Defined → Defined → Bool
as_first ds d = same_defined (definition_of d.variable ds) d

-- j latches are defined, `seen` of them for the first time
pub record Defining (latches vars : List ℕ) (own first : ℕ) (os₀ os : List ℕ) (seen j : ℕ) : Type 0 where
  pub passed : j ≤ length latches / 2
  pub few : seen ≤ j
  pub low : Each (λ d. d.variable < first + seen) (take j (defined_in latches vars own))
  pub agrees : agree (defined_in latches vars own) ≡ all (as_first (defined_in latches vars own)) (drop j (defined_in latches vars own))
  pub turns : InTurn first seen (drop j (latch_variables latches vars own))
  pub total : met_in first seen (drop j (latch_variables latches vars own)) ≡ met_in first 0 (latch_variables latches vars own)
  pub stored : os ≡ put os₀ 0 (definitions_from first seen (defined_in latches vars own))

answer_agreed : (n : ℕ) (ds : List Defined) → agree ds ≡ true → defined_answer n ds ≡ Some n
answer_agreed n ds e = rw e

answer_differs : (n : ℕ) (ds : List Defined) → agree ds ≡ false → defined_answer n ds ≡ None
answer_differs n ds e = rw e

module _ (words vars : List ℕ) (own first : ℕ) (os₀ : List ℕ) (pre : Definable words vars own os₀ first) where
  abbrev ds : List Defined
  ds = defined_in words vars own

  abbrev vs : List ℕ
  vs = latch_variables words vars own

  abbrev latches : List NamedLatch
  latches = pairs_of latch_from words

  latches-length : length latches ≡ length words / 2
  latches-length = pairs-count latch_from words

  ds_length : length ds ≡ length words / 2
  ds_length = defined-length vars own latches ∙ latches-length

  vs_length : length vs ≡ length words / 2
  vs_length = omega (arith, part_length vars own (own + length words / 2) pre.among)

  pub defining-none : Defining words vars own first os₀ os₀ 0 0
  defining-none =
      record { passed = omega arith; few = omega arith; low = tt; agrees = refl; turns = pre.turns; total = refl; stored = sym (put-none os₀ 0) }

  module _ (os : List ℕ) (seen j : ℕ) (s : Defining words vars own first os₀ os seen j) where
    pub defining-done : length words / 2 ≤ j → Defines words vars own first os₀ os (Some seen)
    defining-done h =
        let all-agree : agree ds ≡ true = s.agrees ∙ rw (drop_of_length-le ds {i = j} (omega (arith, ds_length))) refl in
        let met : seen ≡ met_in first 0 vs = rw (drop_of_length-le vs {i = j} (omega (arith, vs_length))) at s.total in
        record {
          returns = ap Some met ∙ sym (answer_agreed (met_in first 0 vs) ds all-agree);
          stored = λ e. s.stored ∙ ap (λ (n : ℕ). put os₀ 0 (definitions_from first n ds)) met;
        }

    module _ (more : j < length words / 2) where
      abbrev v : ℕ
      v = get_or vars (own + j) 0

      abbrev d : Defined
      d = record { variable = v; next = translate vars (get_or words (2 * j) 0); reset = translate vars (get_or words (2 * j + 1) 0) }

      vs_more : drop j vs ≡ v ∷ drop (j + 1) vs
      vs_more = rest_more vs j 0 (omega (arith, vs_length)) ∙ ap (λ (x : ℕ). x ∷ drop (j + 1) vs) (part_at vars own (own + length words / 2) j 0 (omega arith))

      d_is : get_or ds j d ≡ d
      d_is =
          defined-at vars own latches j d (latch_from 0 0) (omega (arith, latches-length))
          ∙ rw (pairs-at latch_from words j 0 (latch_from 0 0) (omega arith)) refl

      ds_more : drop j ds ≡ d ∷ drop (j + 1) ds
      ds_more = rest_more ds j d (omega (arith, ds_length)) ∙ ap (λ (e : Defined). e ∷ drop (j + 1) ds) d_is

      ds_next : take (j + 1) ds ≡ take j ds ++ d ∷ []
      ds_next = take_next ds j d (omega (arith, ds_length)) ∙ ap (λ (e : Defined). take j ds ++ e ∷ []) d_is

      ds_split : ds ≡ take j ds ++ d ∷ drop (j + 1) ds
      ds_split = sym (take-append-drop j ds) ∙ ap (λ (es : List Defined). take j ds ++ es) ds_more

      turned : InTurn first seen (v ∷ drop (j + 1) vs)
      turned = rw vs_more at s.turns

      pub turn_above : first ≤ v
      turn_above = turned.0

      pub turn_left : Translatable vars (get_or words (2 * j) 0)
      turn_left = (pre.known j more).0

      pub turn_right : Translatable vars (get_or words (2 * j + 1) 0)
      turn_right = (pre.known j more).1

      module _ (slot : ℕ) (e : slot ≡ v - first) where
        slot_is : first + slot ≡ v
        slot_is = omega (arith, e, turned.0)

        slot-low : slot ≤ seen
        slot-low = omega (arith, slot_is, turned.1)

        pub turn-twice : 2 * slot < length words
        turn-twice = omega (arith, slot-low, s.few)

        long : length os ≡ length os₀
        long = ap length s.stored ∙ put-length os₀ 0 (definitions_from first seen ds) (omega (arith, definitions-length ds first seen, s.few, s.passed, pre.room))

        pub turn-room : 2 * slot + 1 < length os
        turn-room = omega (arith, long, slot-low, s.few, pre.room)

        -- a latch that was met is compared with its first definition
        compared : slot < seen → same_pair (2 * slot) d.next d.reset os ≡ as_first ds d
        compared h =
            let ws : List ℕ = definitions_from first seen ds in
            let size : length ws ≡ 2 * seen = definitions-length ds first seen in
            let at = put-inside os₀ 0 ws (omega arith) in
            let n : 0 + 2 * slot ≡ 2 * slot = omega arith in
            let n' : 0 + (2 * slot + 1) ≡ 2 * slot + 1 = omega arith in
            let a : get_or os (2 * slot) 0 ≡ (definition_of v ds).next =
            ap (λ (i : ℕ). get_or os i 0) (sym n) ∙ rw s.stored (at (2 * slot) 0 (omega (arith, size))) ∙ next-at ds first seen slot h ∙ ap (λ (x : ℕ). (definition_of x ds).next) slot_is in
            let b : get_or os (2 * slot + 1) 0 ≡ (definition_of v ds).reset =
            ap (λ (i : ℕ). get_or os i 0) (sym n') ∙ rw s.stored (at (2 * slot + 1) 0 (omega (arith, size))) ∙ reset-at ds first seen slot h ∙ ap (λ (x : ℕ). (definition_of x ds).reset) slot_is in
            rw (a, b) refl

        -- one that is new is its first definition
        is-first : slot ≡ seen → definition_of v ds ≡ d
        is-first e =
            ap (definition_of v) ds_split
            ∙ definition_new v (take j ds) d (drop (j + 1) ds) (subst (λ (x : ℕ). Each (λ b. b.variable < x) (take j ds)) (ap (λ (m : ℕ). first + m) (sym e) ∙ slot_is) s.low) refl

        seen_next : (seen₁ : ℕ) → seen₁ ≡ max seen (slot + 1) → max seen (v - first + 1) ≡ seen₁
        seen_next seen₁ m = omega (arith, m, slot_is)

        module _ (os₁ : List ℕ) (good : Bool) where
          judged : (q : Bool) → ltb slot seen ≡ q → DefinesLatch (2 * slot) d.next d.reset os os₁ q good → good ≡ as_first ds d
          judged true e f = f.0 ∙ compared (ltb-true slot seen e)
          judged false e f =
              f.0 ∙ sym (ap (λ (b : Defined). same_defined b d) (is-first (omega (arith, ltb-false slot seen e, slot-low))) ∙ same_self d)

          stored_next : (q : Bool) → ltb slot seen ≡ q → DefinesLatch (2 * slot) d.next d.reset os os₁ q good
              → (seen₁ : ℕ) → seen₁ ≡ max seen (slot + 1) → os₁ ≡ put os₀ 0 (definitions_from first seen₁ ds)
          stored_next true e f seen₁ m =
              let n : seen ≡ seen₁ = omega (arith, m, ltb-true slot seen e) in
              f.1 ∙ s.stored ∙ ap (λ (y : ℕ). put os₀ 0 (definitions_from first y ds)) n
          stored_next false e f seen₁ m =
              let h : slot ≡ seen = omega (arith, ltb-false slot seen e, slot-low) in
              let n : seen + 1 ≡ seen₁ = omega (arith, m, h) in
              let ws : List ℕ = definitions_from first seen ds in
              let pair : List ℕ = d.next ∷ d.reset ∷ [] in
              let size : 2 * slot ≡ 0 + length ws = omega (arith, h, definitions-length ds first seen) in
              let x : first + seen ≡ v = ap (λ (y : ℕ). first + y) (sym h) ∙ slot_is in
              let whole : definitions_from first (seen + 1) ds ≡ ws ++ pair = definitions-next ds first seen ∙ rw (x, is-first h) in
              f.1
              ∙ ap (λ (o : List ℕ). put o (2 * slot) pair) s.stored
              ∙ ap (λ (i : ℕ). put (put os₀ 0 ws) i pair) size
              ∙ put-put os₀ 0 ws (omega arith) pair
              ∙ ap (put os₀ 0) (sym whole)
              ∙ ap (λ (y : ℕ). put os₀ 0 (definitions_from first y ds)) n

          module _ (x y : ℕ) (a : x ≡ d.next) (b : y ≡ d.reset) (defines : DefinesLatch (2 * slot) x y os os₁ (ltb slot seen) good) where
            f : DefinesLatch (2 * slot) d.next d.reset os os₁ (ltb slot seen) good
            f = rw (← a, ← b) defines

            agrees-more : agree ds ≡ (as_first ds d && all (as_first ds) (drop (j + 1) ds))
            agrees-more = s.agrees ∙ ap (all (as_first ds)) ds_more

            told : good ≡ as_first ds d
            told = judged (ltb slot seen) refl f

            pub turn_differs : good ≡ false → Defines words vars own first os₀ os₁ None
            turn_differs e =
                let no : agree ds ≡ false = agrees-more ∙ rw (sym told ∙ e) in
                record { returns = sym (answer_differs (met_in first 0 vs) ds no); stored = λ a. true-false a no }

            pub turn-agrees : good ≡ true → (seen₁ : ℕ) → seen₁ ≡ max seen (slot + 1) → Defining words vars own first os₀ os₁ seen₁ (j + 1)
            turn-agrees e seen₁ m =
                record {
                  passed = omega arith;
                  few = omega (arith, m, slot-low, s.few);
                  low =
                      rw ds_next
                      (each_append (λ b. b.variable < first + seen₁) (take j ds) (d ∷ [])
                      (each-so (λ b. b.variable < first + seen) (λ b. b.variable < first + seen₁) (λ b h. omega (arith, h, m)) (take j ds) s.low)
                      (omega (arith, slot_is, m), tt));
                  agrees = agrees-more ∙ rw (sym told ∙ e);
                  turns = subst (λ (n : ℕ). InTurn first n (drop (j + 1) vs)) (seen_next seen₁ m) turned.2;
                  total = ap (λ (n : ℕ). met_in first n (drop (j + 1) vs)) (sym (seen_next seen₁ m)) ∙ sym (ap (met_in first seen) vs_more) ∙ s.total;
                  stored = stored_next (ltb slot seen) refl f seen₁ m;
                }
