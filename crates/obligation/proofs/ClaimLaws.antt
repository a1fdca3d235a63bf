-- Once the model and the boundary are accepted: the test of a claim (R9.14).
use Prim.Native.Nat.{ℕ, ◌≤◌, ◌<◌}
use mathlib.Core.Bool.{Bool, true, false, ◌&&◌}
use mathlib.Core.List.{List}
use mathlib.Core.Path.{◌≡◌, refl, sym}
use borrow.Author.Tests.{le-ltb, lt-ltb}
use lib.Dec.{ltb}
use lib.ListN.{length}
use Rattle.model.proofs.ValueLaws.{Sized}
use Rattle.obligation_spec.specs.Lists.{outcomes_of}
use Rattle.obligation_spec.specs.Limits.{is_state, states_claimed, outcomes_claimed}
use Rattle.obligation_spec.specs.Calls.{Asked, circuit}
use Rattle.obligation_check.specs.Inner.Boundary.{IsState, ClaimsStates, ClaimsOutcomes}
use Rattle.obligation.specs.Inner.Appended.{Asks}
use Rattle.obligation.proofs.ReadyLaws.{many}

-- two tests, of which the second is made only where the first holds
pub both-second : (a b x y : Bool) → a ≡ x → x ≡ true → b ≡ y → y ≡ (a && b)
both-second a b x y e t f = rw (e, t, f) refl

pub both-first : (a b x : Bool) → a ≡ x → x ≡ false → x ≡ (a && b)
both-first a b x e t = rw (e, t) refl

module _ (q : Asked) (a : Asks q) (sized : Sized q.model) where
  pub state_test : (s : ℕ) (x : Bool) → IsState q.model.latch_count s x → is_state (circuit q) s ≡ x
  state_test s x e = sym (e (circuit q) (many q a sized).latches)

  pub states_test : (states : List ℕ) (x : Bool) → ClaimsStates q.model.latch_count states x → states_claimed (circuit q) states ≡ x
  states_test states x e = sym (e (circuit q) (many q a sized).latches)

  pub outcomes_test : (observed words : List ℕ) (x : Bool) → ClaimsOutcomes q.model.latch_count q.model.output_count observed words x → outcomes_claimed (circuit q) observed (outcomes_of words) ≡ x
  outcomes_test observed words x e = sym (e (circuit q) (many q a sized).latches (many q a sized).outputs)

  pub output_inside : (bad : ℕ) → bad < q.model.output_count → ltb bad (length (circuit q).outputs) ≡ true
  output_inside bad h = lt-ltb bad (length (circuit q).outputs) (rw (many q a sized).outputs h)

  pub output_outside : (bad : ℕ) → q.model.output_count ≤ bad → ltb bad (length (circuit q).outputs) ≡ false
  output_outside bad h = le-ltb bad (length (circuit q).outputs) (rw (many q a sized).outputs h)
