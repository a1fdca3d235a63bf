-- The gates of one witness, shared as they are and among the joint ones: both ways give the same composed gates and variables.
use Prim.Native.Nat.{ℕ, suc, ◌+◌, ◌≤◌, ◌<◌}
use mathlib.Core.List.{List, [], ◌∷◌, ◌++◌, map}
use mathlib.Core.Path.{◌≡◌, refl, sym, ap₂, subst, ◌∙◌}
use native.Mathlib.Omega.{arith}
use lib.ListN.{length, length-append}
use Rattle.lists.specs.Firsts.{place, joined}
use Rattle.aiger.specs.declared.Gate.{Gate}
use Rattle.aiger.specs.Gates.{gate_from}
use Rattle.compose_spec.specs.Sharing.{Operands, same_operands, unordered, translated, Shared, share_gates}
use Rattle.compose_spec.specs.Inner.Ranges.{GateAt, GatesFrom}
use Rattle.compose_joint.specs.declared.Shift.{Shift}
use Rattle.compose_joint.specs.Inner.Joint.{shifted_literal}
use Rattle.compose_joint.proofs.ShiftLaws.{Keeps, shifted-translated, keeps_snoc}

-- a gate with shifted operands
abbrev pub shifted_gate : Shift → Gate → Gate
shifted_gate h g = gate_from 0 (shifted_literal h g.left) (shifted_literal h g.right)

-- gates are shared one list after the other
pub shared_append : (n : ℕ) (xs ys : List Gate) (t : Shared) → share_gates n (xs ++ ys) t ≡ share_gates n ys (share_gates n xs t)
shared_append n [] ys t = refl
shared_append n (x ∷ xs) ys t = shared_append n xs ys (share_gates n (x ∷ []) t)

-- t of a witness beside the joint r: the composed gates are the same, and each variable of t stands in r at its shifted place
pub record Beside (h : Shift) (t r : Shared) : Type 0 where
  pub gates : r.gates ≡ t.gates
  pub keeps : Keeps h t.vars r.vars
  pub past : h.leaves < length t.vars
  pub long : length r.vars ≡ length t.vars + h.by_gate

module _ (n : ℕ) (h : Shift) (order : h.inputs ≤ h.leaves) where
  module _ (g : Gate) (t r : Shared) (at : GateAt (length t.vars) g) (b : Beside h t r) where
    -- the operands are the same
    same-translated : translated r.vars (shifted_gate h g) ≡ translated t.vars g
    same-translated =
        ap₂ unordered
        (shifted-translated h t.vars r.vars g.left b.keeps at.left)
        (shifted-translated h t.vars r.vars g.right b.keeps at.right)

    -- one gate more on both sides
    beside_one : Beside h (share_gates n (g ∷ []) t) (share_gates n (shifted_gate h g ∷ []) r)
    beside_one =
        let c : Operands = translated t.vars g in
        let y : ℕ = n + place same_operands c t.gates in
        let z : ℕ = n + place same_operands (translated r.vars (shifted_gate h g)) r.gates in
        let e : y ≡ z = ap₂ (λ d gs. n + place same_operands d gs) (sym same-translated) (sym b.gates) in
        let more : length (t.vars ++ (y ∷ [])) ≡ length t.vars + 1 = length-append t.vars (y ∷ []) in
        record {
          gates = ap₂ (joined same_operands) same-translated b.gates;
          keeps =
              subst (λ (x : ℕ). Keeps h (t.vars ++ (y ∷ [])) (r.vars ++ (x ∷ []))) e
              (keeps_snoc h t.vars r.vars y b.keeps order b.past b.long);
          past = omega (arith, more, b.past);
          long = omega (arith, more, b.long, length-append r.vars (z ∷ []));
        }

  -- the gates of a witness and the joint ones stay side by side
  pub beside_shared : (gs : List Gate) (t r : Shared) → GatesFrom (length t.vars) gs → Beside h t r → Beside h (share_gates n gs t) (share_gates n (map (shifted_gate h) gs) r)
  beside_shared [] t r at b = b
  beside_shared (g ∷ gs) t r at b =
      let y : ℕ = n + place same_operands (translated t.vars g) t.gates in
      let one : length (t.vars ++ (y ∷ [])) ≡ suc (length t.vars) = length-append t.vars (y ∷ []) ∙ omega arith in
      beside_shared gs (share_gates n (g ∷ []) t) (share_gates n (shifted_gate h g ∷ []) r) (rw one at.1) (beside_one g t r at.0 b)
