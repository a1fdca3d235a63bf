-- Laws for the functions that append a gate's clauses.
use Prim.Native.Nat.{ℕ, ◌+◌, ◌*◌, ◌/◌, ◌≤◌, ◌<◌}
use mathlib.Core.List.{List, [], ◌∷◌}
use mathlib.Core.Path.{◌≡◌, refl, sym, ap, ◌∙◌}
use native.Mathlib.Omega.{arith}
use lib.ListN.{length, get_or, take}
use lib.Seq.{take_all, length-take-le}
use Rattle.lists.specs.Tests.{Each}
use Rattle.lists.specs.Words.{triples_of, words_of}
use Rattle.lists.proofs.TestLaws.{each_at}
use Rattle.lists.proofs.WordLaws.{triples_count, triples_at, words-length}
use Rattle.aiger.specs.declared.Gate.{Gate}
use Rattle.aiger.specs.Gates.{gate_from}
use Rattle.cnf.specs.declared.Clauses.{Clauses}
use Rattle.cnf.specs.Simplified.{opposite}
use Rattle.cnf.specs.Inner.Appending.{Appends, Space, Narrow}
use Rattle.cnf.proofs.AppendLaws.{appends_then, appends_item, space-left}
use Rattle.cnf.proofs.PushLaws.{appends-same}
use Rattle.cnf.proofs.ShortLaws.{simplified-filled_two}
use Rattle.obligation_spec.specs.Lists.{gate_lists}
use Rattle.obligation_gates.specs.Inner.Encoding.{LowGate, gate_arrays}
use Rattle.obligation_gates.proofs.PredicateLaws.{opposite-low}

-- the arrays as the code makes them
pub arrays_are : (g : Gate) (x y z : ℕ) → x ≡ opposite g.output → y ≡ opposite g.left → z ≡ opposite g.right
    → ((x ∷ g.left ∷ 0 ∷ []) ∷ (x ∷ g.right ∷ 0 ∷ []) ∷ (g.output ∷ y ∷ z ∷ []) ∷ []) ≡ gate_arrays g
arrays_are g x y z e f h = rw (e, f, h) refl

-- the clauses of the arrays, one after the other
module _ (g : Gate) (arrays : List (List ℕ)) (is : arrays ≡ gate_arrays g) where
  module _ (low : LowGate g) where
    pub first-narrow : (d : List ℕ) → Narrow (get_or arrays 0 d)
    first-narrow d = rw is (opposite-low g.output low.output, (omega (arith, low.left), (omega arith, tt)))

    pub second-narrow : (d : List ℕ) → Narrow (get_or arrays 1 d)
    second-narrow d = rw is (opposite-low g.output low.output, (omega (arith, low.right), (omega arith, tt)))

    pub third-narrow : (d : List ℕ) → Narrow (get_or arrays 2 d)
    third-narrow d = rw is (omega (arith, low.output), (opposite-low g.left low.left, (opposite-low g.right low.right, tt)))

  module _ (d : List ℕ) (p₁ p₂ p₃ p₄ : Clauses) where
    pub appends_gate : Appends (get_or arrays 0 d ∷ []) p₁ p₂ → Appends (get_or arrays 1 d ∷ []) p₂ p₃ → Appends (get_or arrays 2 d ∷ []) p₃ p₄ → Appends (gate_lists g) p₁ p₄
    appends_gate f h k =
        let x : List ℕ = opposite g.output ∷ g.left ∷ [] in
        let y : List ℕ = opposite g.output ∷ g.right ∷ [] in
        let z : List ℕ = g.output ∷ opposite g.left ∷ opposite g.right ∷ [] in
        let f' : Appends (x ∷ []) p₁ p₂ = appends-same x (opposite g.output ∷ g.left ∷ 0 ∷ []) (sym (simplified-filled_two (opposite g.output) g.left)) p₁ p₂ (rw is at f) in
        let h' : Appends (y ∷ []) p₂ p₃ = appends-same y (opposite g.output ∷ g.right ∷ 0 ∷ []) (sym (simplified-filled_two (opposite g.output) g.right)) p₂ p₃ (rw is at h) in
        let k' : Appends (z ∷ []) p₃ p₄ = rw is at k in
        appends_then (x ∷ []) (y ∷ z ∷ []) p₁ p₂ p₄ f' (appends_then (y ∷ []) (z ∷ []) p₂ p₃ p₄ h' k')

-- after one array, or two
pub space_one_less : (l : List ℕ) (p q : Clauses) → Appends (l ∷ []) p q → (n : ℕ) → Space p.counts (n + 1) → Space q.counts n
space_one_less l p q g n s = space-left (l ∷ []) p q g n (n + 1) (omega arith) s

-- ---- the loop over the gates' words

-- the gate of the three words at place i
abbrev pub gate_at : List ℕ → ℕ → Gate
gate_at ws i = gate_from (get_or ws (3 * i) 0) (get_or ws (3 * i + 1) 0) (get_or ws (3 * i + 2) 0)

abbrev no_gate : Gate
no_gate = gate_from 0 0 0

module _ (ws : List ℕ) (i : ℕ) where
  abbrev pub gates : List Gate
  gates = triples_of gate_from ws

  module _ (h : i < length ws / 3) (a : Gate) (is : a ≡ gate_at ws i) where
    gate_is : get_or gates i no_gate ≡ a
    gate_is = triples_at gate_from ws i 0 no_gate (omega arith) ∙ sym is

    inside : i < length gates
    inside = rw (triples_count gate_from ws) h

    pub gate_low : Each LowGate gates → LowGate a
    gate_low e = rw (← gate_is) (each_at LowGate gates i no_gate e inside)

    module _ (p q : Clauses) (g : Appends (words_of gate_lists (take i gates)) p q) where
      pub gate_space : Space p.counts (3 * (length ws / 3)) → Space q.counts 3
      gate_space s =
          let n : length (words_of gate_lists (take i gates)) ≡ 3 * i =
          words-length gate_lists 3 (λ x. refl) (take i gates) ∙ ap (λ (k : ℕ). 3 * k) (length-take-le i gates (omega (arith, inside))) in
          space-left (words_of gate_lists (take i gates)) p q g 3 (3 * (length ws / 3)) (omega arith) s

      pub gate_next : (r : Clauses) → Appends (gate_lists a) q r → Appends (words_of gate_lists (take (i + 1) gates)) p r
      gate_next r k = appends_item gate_lists gates i p q r no_gate inside g (rw gate_is k)

  pub gates_end : length ws / 3 ≤ i → (p q : Clauses) → Appends (words_of gate_lists (take i gates)) p q → Appends (words_of gate_lists gates) p q
  gates_end h p q g = rw (take_all i gates (rw (triples_count gate_from ws) h)) at g
