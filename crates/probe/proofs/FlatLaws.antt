-- The number of a validation.
use Prim.Native.Nat.{ℕ}
use Rattle.std.specs.Prelude.{Result, Ok, Err}
use mathlib.Core.List.{List}
use mathlib.Core.Path.{◌≡◌, ap, sym, ◌∙◌}
use Rattle.aiger.specs.declared.Refusal.{Refusal}
use Rattle.aiger.specs.Refusals.{refusal_number}
use Rattle.model.specs.declared.AigerTransition.{AigerTransition}
use Rattle.model.specs.Checked.{checked, judged, Validates}
use Rattle.model.specs.Circuit.{circuit_of}
use Rattle.probe.specs.Inner.Flat.{reason_of}

module _ (m n : AigerTransition) (e : m ≡ n) (g : List ℕ) (w : ℕ) (v : Result (Unit {0}) Refusal) (work' : List ℕ) (k : Validates m g w v work') where
  pub validated : (u : Unit {0}) → v ≡ Ok u → 0 ≡ reason_of (checked n g w)
  validated u o = let j : judged (Ok u) (circuit_of m g) ≡ checked m g w = rw o at k.judges in rw e at (ap reason_of j)

  pub invalidated : (r : Refusal) → v ≡ Err r → (x : ℕ) → x ≡ refusal_number r → x ≡ reason_of (checked n g w)
  invalidated r o x q = let j : judged (Err r) (circuit_of m g) ≡ checked m g w = rw o at k.judges in q ∙ (rw e at (ap reason_of j))
