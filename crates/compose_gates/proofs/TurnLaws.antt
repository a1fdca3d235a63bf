-- The loop that shares gates: its invariant, and one turn.
use Prim.Native.Nat.{ℕ, suc, ◌+◌, ◌*◌, ◌/◌, ◌%◌, ◌≤◌, ◌<◌, max}
use mathlib.Core.Bool.{true, false}
use mathlib.Core.List.{List, [], map}
use mathlib.Core.Path.{◌≡◌, refl, sym, ap, ap₂, subst, ◌∙◌}
use native.Mathlib.Nat.{add-zero}
use native.Mathlib.Omega.{arith}
use lib.Dec.{eqb}
use lib.ListN.{length, get_or, take, drop, set, length-map, length-set, drop_of_length-le}
use lib.Seq.{take_all, take-set-le, get_or-take, length-take-le, get_or-set_same}
use Rattle.std.specs.Prelude.{Some, None}
use Rattle.lists.specs.Firsts.{place, joined}
use Rattle.lists.specs.Tests.{Each}
use Rattle.lists.specs.Words.{pairs_of}
use Rattle.lists.proofs.BoolLaws.{true-false}
use Rattle.lists.proofs.RestLaws.{take_next}
use Rattle.lists.proofs.TestLaws.{each_append, each_at}
use Rattle.lists.proofs.WordLaws.{pairs-more}
use Rattle.aiger.specs.Gates.{variable, gate_from}
use Rattle.key_table.specs.Inner.Table.{Held, Holding, Finds}
use Rattle.key_table.proofs.HeldLaws.{held_none, holding}
use Rattle.compose_spec.specs.Sharing.{translate, unordered, Operands, same_operands, translated, Shared, share_gates}
use Rattle.compose_spec.specs.Inner.Keys.{key_of}
use Rattle.compose_spec.specs.Composing.{gates_fit}
use Rattle.compose_gates.specs.Inner.Linked.{Translatable, Sharable, shared_in, shared_answer, Linked, Shares}
use Rattle.compose_gates.proofs.FirstLaws.{joined_length, place-low}
use Rattle.compose_gates.proofs.KeyLaws.{Small, unordered-small, literal-small, place-keys, joined-keys, joined_small}
use Rattle.compose_gates.proofs.ShareLaws.{with_gate, gates_grow, fit_true, fit_false}

-- i gates are shared, and `state` are the composed gates and variables so far
pub record Sharing (operands vars₀ : List ℕ) (known : ℕ) (table₀ : List ℕ) (leaves : ℕ) (vars table : List ℕ) (shared i : ℕ) : Type 0 where
  pub state : Shared
  pub passed : i ≤ length operands / 2
  pub counted : shared ≡ length state.gates
  pub few : shared ≤ i
  pub rest : share_gates (suc leaves) (pairs_of (gate_from 0) (drop (2 * i) operands)) state ≡ shared_in operands vars₀ known leaves
  pub fit : gates_fit leaves state.gates ≡ true
  pub variables : take (known + i) vars ≡ state.vars
  pub low : Each (λ x. x < 1073741824) state.vars
  pub small : Each Small state.gates
  pub held : Held (length operands / 2 + 1) (map key_of state.gates) table
  pub before : take known vars ≡ take known vars₀
  pub same : length vars ≡ length vars₀
  pub same_table : length table ≡ length table₀

answer-none : (leaves : ℕ) (t : Shared) → gates_fit leaves t.gates ≡ false → shared_answer leaves t ≡ None
answer-none leaves t f = rw f

answer-some : (leaves : ℕ) (t : Shared) → gates_fit leaves t.gates ≡ true → shared_answer leaves t ≡ Some (length t.gates)
answer-some leaves t f = rw f

module _ (operands vars₀ : List ℕ) (known : ℕ) (table₀ : List ℕ) (leaves : ℕ) (pre : Sharable operands vars₀ known table₀ leaves) where
  abbrev count : ℕ
  count = length operands / 2

  pub sharing-none : Sharing operands vars₀ known table₀ leaves vars₀ table₀ 0 0
  sharing-none =
      record {
        state = record { vars = take known vars₀; gates = [] };
        passed = omega arith;
        counted = refl;
        few = omega arith;
        rest = refl;
        fit = refl;
        variables = rw (add-zero known);
        low = pre.small;
        small = tt;
        held = held_none (count + 1) table₀ (omega (arith, pre.room)) pre.empty;
        before = refl;
        same = refl;
        same_table = refl;
      }

  module _ (vars table : List ℕ) (shared i : ℕ) (s : Sharing operands vars₀ known table₀ leaves vars table shared i) where
    pub sharing-done : count ≤ i → Shares operands vars₀ known leaves vars table (Some shared)
    sharing-done h =
        let none : drop (2 * i) operands ≡ [] = drop_of_length-le operands {i = 2 * i} (omega (arith, pre.even)) in
        let whole : s.state ≡ shared_in operands vars₀ known leaves = rw none at s.rest in
        let all : take (known + i) vars ≡ vars = take_all (known + i) vars (omega (arith, s.same, pre.long, s.passed)) in
        record {
          returns = ap Some s.counted ∙ (sym (answer-some leaves s.state s.fit) ∙ ap (shared_answer leaves) whole);
          words = λ f. subst (λ (t : Shared). Linked count known vars₀ t vars table) whole (record { variables = sym all ∙ s.variables; keys = s.held; before = s.before });
        }

    module _ (more : i < count) where
      abbrev l : ℕ
      l = get_or operands (2 * i) 0

      abbrev r : ℕ
      r = get_or operands (2 * i + 1) 0

      -- the variables are those of the state
      variable-is : (x : ℕ) → x < known + i → get_or s.state.vars x 0 ≡ get_or vars x 0
      variable-is x h = ap (λ (vs : List ℕ). get_or vs x 0) (sym s.variables) ∙ get_or-take (known + i) vars x 0 h

      count-is : length s.state.vars ≡ known + i
      count-is = sym (ap length s.variables) ∙ length-take-le (known + i) vars (omega (arith, s.same, pre.long))

      translatable : (x : ℕ) → variable x < known + i → Translatable vars x
      translatable x h =
          record {
            within = omega (arith, s.same, pre.long, h);
            small = rw (← variable-is (variable x) h) (each_at (λ y. y < 1073741824) s.state.vars (variable x) 0 s.low (omega (arith, count-is, h)));
          }

      translate-is : (x : ℕ) → variable x < known + i → translate vars x ≡ translate s.state.vars x
      translate-is x h = ap (λ (y : ℕ). 2 * y + x % 2) (sym (variable-is (variable x) h))

      pub turn_left : Translatable vars l
      turn_left = translatable l (pre.earlier i more).0

      pub turn_right : Translatable vars r
      turn_right = translatable r (pre.earlier i more).1

      abbrev operands_now : Operands
      operands_now = translated s.state.vars (gate_from 0 l r)

      operands-small : Small operands_now
      operands-small =
          unordered-small (translate s.state.vars l) (translate s.state.vars r)
          (literal-small vars l turn_left (translate s.state.vars l) (sym (translate-is l (pre.earlier i more).0)))
          (literal-small vars r turn_right (translate s.state.vars r) (sym (translate-is r (pre.earlier i more).1)))

      module _ (key : ℕ) (e : key ≡ key_of (unordered (translate vars l) (translate vars r))) where
        keyed : key ≡ key_of operands_now
        keyed = e ∙ ap₂ (λ (x y : ℕ). key_of (unordered x y)) (translate-is l (pre.earlier i more).0) (translate-is r (pre.earlier i more).1)

        pub turn-findable : Holding (count + 1) shared key table
        turn-findable =
            holding (count + 1) shared key (map key_of s.state.gates) table s.held
            (length-map s.state.gates key_of ∙ sym s.counted)
            (omega arith)
            (omega (arith, pre.few))
            (omega (arith, keyed, operands-small.left, operands-small.right))
            (omega (arith, s.same_table, pre.room, s.few))

        module _ (table₁ : List ℕ) (k : ℕ) (f : Finds (count + 1) shared key table table₁ k) where
          found : (k ≡ place eqb key (map key_of s.state.gates)) × Held (count + 1) (joined eqb key (map key_of s.state.gates)) table₁
          found = f (map key_of s.state.gates) s.held (length-map s.state.gates key_of ∙ sym s.counted)

          pub turn-low : k ≤ shared
          turn-low = omega (arith, found.0, place-low eqb key (map key_of s.state.gates), length-map s.state.gates key_of, s.counted)

          abbrev next : Shared
          next = with_gate (suc leaves) (gate_from 0 l r) s.state

          number_is : k ≡ place same_operands operands_now s.state.gates
          number_is = found.0 ∙ ap (λ (x : ℕ). place eqb x (map key_of s.state.gates)) keyed ∙ place-keys operands_now operands-small s.state.gates s.small

          next-held : Held (count + 1) (map key_of next.gates) table₁
          next-held =
              subst (λ (keys : List ℕ). Held (count + 1) keys table₁)
              (ap (λ (x : ℕ). joined eqb x (map key_of s.state.gates)) keyed ∙ joined-keys operands_now operands-small s.state.gates s.small)
              found.1

          next-rest : share_gates (suc leaves) (pairs_of (gate_from 0) (drop (2 * (i + 1)) operands)) next ≡ shared_in operands vars₀ known leaves
          next-rest = rw (pairs-more (gate_from 0) operands i 0 (omega arith)) at s.rest

          module _ (shared₁ : ℕ) (m : shared₁ ≡ max shared (k + 1)) where
            next-count : shared₁ ≡ length next.gates
            next-count = omega (arith, m, number_is, joined_length same_operands operands_now s.state.gates, s.counted)

            pub turn_many : 2000000 < leaves + shared₁ → Shares operands vars₀ known leaves vars table₁ None
            turn_many h =
                let grown = gates_grow (suc leaves) (pairs_of (gate_from 0) (drop (2 * (i + 1)) operands)) next in
                let all : length next.gates ≤ length (shared_in operands vars₀ known leaves).gates = rw next-rest at grown in
                let many = fit_false leaves (shared_in operands vars₀ known leaves).gates (omega (arith, all, next-count, m)) (omega (arith, all, next-count, h)) in
                record { returns = sym (answer-none leaves (shared_in operands vars₀ known leaves) many); words = λ f. true-false f many }

            pub turn_more : length table₁ ≡ length table → leaves + shared₁ ≤ 2000000 → Sharing operands vars₀ known table₀ leaves (set vars (known + i) (leaves + 1 + k)) table₁ shared₁ (i + 1)
            turn_more same₁ h =
                let at : ℕ = known + i in
                let inside : at < length vars = omega (arith, s.same, pre.long) in
                let n : known + (i + 1) ≡ at + 1 = omega arith in
                let v : leaves + 1 + k ≡ suc leaves + place same_operands operands_now s.state.gates = omega (arith, number_is) in
                let back : take at (set vars at (leaves + 1 + k)) ≡ s.state.vars = take-set-le at vars at (leaves + 1 + k) (omega arith) ∙ s.variables in
                record {
                  state = next;
                  passed = omega arith;
                  counted = next-count;
                  few = omega (arith, m, turn-low, s.few);
                  rest = next-rest;
                  fit = fit_true leaves next.gates (omega (arith, h, next-count));
                  variables =
                      ap (λ (j : ℕ). take j (set vars at (leaves + 1 + k))) n
                      ∙ take_next (set vars at (leaves + 1 + k)) at 0 (rw (length-set vars at (leaves + 1 + k)) inside)
                      ∙ rw (back, get_or-set_same vars at (leaves + 1 + k) 0 inside, v);
                  low = each_append (λ x. x < 1073741824) s.state.vars _ s.low (omega (arith, v, turn-low, s.few, pre.few), tt);
                  small = joined_small operands_now operands-small s.state.gates s.small;
                  held = next-held;
                  before = take-set-le known vars at (leaves + 1 + k) (omega arith) ∙ s.before;
                  same = length-set vars at (leaves + 1 + k) ∙ s.same;
                  same_table = same₁ ∙ s.same_table;
                }
