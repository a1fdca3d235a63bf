-- Laws for the functions that check one section: what is tested of a latch and a gate.
use Prim.Native.Nat.{ℕ, ◌+◌, ◌*◌, ◌/◌}
use mathlib.Core.Bool.{Bool, true, false, ◌&&◌, and-true}
use mathlib.Core.List.{List, [], ◌∷◌}
use mathlib.Core.Path.{◌≡◌, refl, sym, ap}
use native.Mathlib.Omega.{arith}
use lib.Dec.{eqb, ltb, leb}
use borrow.Author.Tests.{eqb-true}
use Rattle.lists.specs.Tests.{all, all_from, every}
use Rattle.aiger.specs.declared.Gate.{Gate}
use Rattle.aiger.specs.Defined.{literal, ordered}
use Rattle.witness_text.specs.declared.Latch.{Latch}
use Rattle.witness_read.specs.Order.{latch_numbered, gate_numbered}

-- ---- one literal, latch or gate

pub literal-is : (most l : ℕ) → leb l (2 * most + 1) ≡ literal most l
unfolding literal
literal-is most l = refl

and_three : (a b c : Bool) → ((a && b) && c) ≡ (a && (b && (c && true)))
and_three false b c = refl
and_three true false c = refl
and_three true true c = sym (and-true c)

pub latch-is : (most k : ℕ) (q : Latch) (b c : Bool) → b ≡ literal most q.next → c ≡ literal most q.reset → ((eqb q.current (2 * k) && b) && c) ≡ latch_numbered most k q
unfolding latch_numbered every
latch-is most k q b c e f = rw (e, f) (and_three (eqb q.current (2 * k)) (literal most q.next) (literal most q.reset))

pub gate-is : (k : ℕ) (g : Gate) → ((eqb g.output (2 * k) && ltb (g.left / 2) k) && ltb (g.right / 2) k) ≡ gate_numbered k g
unfolding gate_numbered ordered every
gate-is k g = go (eqb g.output (2 * k)) refl
  where
    go : (b : Bool) → eqb g.output (2 * k) ≡ b
        → ((b && ltb (g.left / 2) k) && ltb (g.right / 2) k) ≡ (b && ((ltb (g.left / 2) (g.output / 2) && (ltb (g.right / 2) (g.output / 2) && true)) && true))
    go false e = refl
    go true e =
        let half : g.output / 2 ≡ k = omega (arith, eqb-true g.output (2 * k) e) in
        rw (half, and-true ((ltb (g.left / 2) k && (ltb (g.right / 2) k && true))), and-true (ltb (g.right / 2) k)) refl

-- a test that does not ask for the number
pub all-from-all : {A : Type 0} (p : A → Bool) (k : ℕ) (xs : List A) → all_from (λ j. p) k xs ≡ all p xs
all-from-all p k [] = refl
all-from-all p k (x ∷ xs) = ap (λ (b : Bool). p x && b) (all-from-all p _ xs)
