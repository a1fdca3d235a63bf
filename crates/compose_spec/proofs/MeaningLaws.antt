-- Demand 3 for compositions, on sections: the composition of witnesses in range means what it should where all definitions of a latch agree.
use Prim.Native.Nat.{ℕ, suc}
use mathlib.Core.Bool.{true}
use mathlib.Core.List.{List, [], map}
use mathlib.Core.Option.{some}
use mathlib.Core.Path.{◌≡◌, ap, subst}
use native.Mathlib.Omega.{arith}
use lib.ListN.{length, length-map}
use Rattle.lists.specs.Tests.{Each}
use Rattle.lists.proofs.FirstLaws.{begins_self}
use Rattle.lists.proofs.TestLaws.{each_of_all, each-so, each_with, each_of_map}
use Rattle.aiger.specs.Gates.{Valuation, Follows}
use Rattle.witness_read.specs.Sections.{Sections, leaves}
use Rattle.compose_spec.specs.Numbering.{input_entries, latch_entries, input_firsts, latch_firsts, Placed, placed, leaf_count}
use Rattle.compose_spec.specs.Sharing.{gates_after, whole_after}
use Rattle.compose_spec.specs.Composing.{Defined, all_defined, definition_of, same_defined, agree, composed_gates, whole, composed}
use Rattle.compose_spec.specs.Meaning.{Fixed, Valued, given, Solution, Takes, Keeps, InputsPlaced, Means}
use Rattle.compose_spec.specs.Inner.Ranges.{InRange, GatesFrom}
use Rattle.compose_spec.proofs.SolveLaws.{sections-solved, sections_fixed}
use Rattle.compose_spec.proofs.ShareLaws.{OperandsFrom, operands-gates}
use Rattle.compose_spec.proofs.PlacedLaws.{firsts_apart, firsts_owned, Seated, placed-seated, placed-everyone}
use Rattle.compose_spec.proofs.WholeLaws.{after-order, Matched, Both, Ready, match_all}
use Rattle.compose_spec.proofs.KeepLaws.{bads-kept, constraints-kept, composed-latches-length, composed_latch_at, Agreed, all-latches-kept}

module _ (m : Sections) (ws : List Sections) where
  -- how many inputs the composition has
  abbrev I : ℕ
  I = length (input_firsts m ws)

  -- how many latches
  abbrev L : ℕ
  L = length (latch_firsts m ws)

  -- its sections have so many inputs
  pub composed-inputs : length (composed m ws).inputs ≡ I
  composed-inputs = length-map (input_firsts m ws) (λ e. some e.name)

  -- and so many latches
  pub composed-latches : length (composed m ws).latches ≡ L
  composed-latches = composed-latches-length (suc I) (latch_firsts m ws) (all_defined (whole m ws))

  -- together they are those that R8.4 numbers
  pub composed-leaves : leaves (composed m ws) ≡ leaf_count m ws
  composed-leaves = rw (composed-inputs, composed-latches)

  -- the operands of its gates have smaller variables
  pub composed-order : OperandsFrom (suc (leaf_count m ws)) (composed_gates m ws)
  composed-order = after-order I L (placed m ws) [] (placed-seated m ws) tt

  -- so the gates of its sections come one after the other with smaller operands
  pub composed-gates : GatesFrom (suc (leaves (composed m ws))) (composed m ws).gates
  composed-gates = rw composed-leaves (operands-gates (suc (leaf_count m ws)) (composed_gates m ws) composed-order)

  -- each input of a witness is one of the composition
  inputs-placed : Each (InputsPlaced (composed m ws)) (placed m ws)
  inputs-placed = each-so (Seated I L) (InputsPlaced (composed m ws)) one (placed m ws) (placed-seated m ws)
    where
      one : (p : Placed) → Seated I L p → InputsPlaced (composed m ws) p
      one p s k h = let t = s.input (suc k) (omega arith) (omega arith) in (omega (arith, t.is), omega (arith, t.is, t.there, composed-inputs))

  module _ (r : Each InRange ws) where
    -- the witnesses are in range where they are placed
    placed-range : Each (λ p. InRange p.sections) (placed m ws)
    placed-range = each_of_map (λ p. p.sections) InRange (placed m ws) (rw (placed-everyone m ws) r)

    -- each witness has values, with its inputs and latches at those of their composed variables
    witnesses_solved : (u : Valuation) → Each (λ p. Solution p.sections (given u p)) (placed m ws)
    witnesses_solved u = each-so (λ p. InRange p.sections) (λ p. Solution p.sections (given u p)) (λ p h. sections-solved p.sections h.gates (given u p)) (placed m ws) placed-range

    module _ (u : Valuation) (xs : List Valued) (e : map (λ x. x.placed) xs ≡ placed m ws) where
      -- each witness with values is seated, in range and takes these values
      all-ready : Each (Takes u) xs → Each (Ready u I L) xs
      all-ready t =
          let seats : Each (λ x. Seated I L x.placed) xs = each_of_map (λ x. x.placed) (Seated I L) xs (rw e (placed-seated m ws)) in
          let ranges : Each (λ x. InRange x.placed.sections) xs = each_of_map (λ x. x.placed) (λ p. InRange p.sections) xs (rw e placed-range) in
          let both : Each (λ x. Seated I L x.placed × InRange x.placed.sections) xs =
          each_with (λ x. Seated I L x.placed) (λ x. InRange x.placed.sections) (λ x. Seated I L x.placed × InRange x.placed.sections) (λ x a b. (a, b)) xs seats ranges in
          each_with (λ x. Seated I L x.placed × InRange x.placed.sections) (Takes u) (Ready u I L)
          (λ x a b. record { seated = a.0; range = a.1; takes = b }) xs both t

      -- each variable of each witness has the value of its composed variable
      all-matched : Follows (composed m ws).gates u → Each (Takes u) xs → Both (Matched u) xs (whole m ws)
      all-matched f t =
          let n : ℕ = suc (leaf_count m ws) in
          let after : gates_after n (map (λ x. x.placed) xs) [] ≡ composed_gates m ws = ap (λ (ps : List Placed). gates_after n ps []) e in
          let r : Both (Matched u) xs (whole_after n (map (λ x. x.placed) xs) []) =
          match_all I L u (composed_gates m ws) f xs [] (all-ready t) (rw after (begins_self (composed_gates m ws))) in
          subst (λ (ps : List Placed). Both (Matched u) xs (whole_after n ps [])) e r

    module _ (a : agree (all_defined (whole m ws)) ≡ true) where
      -- every definition of a latch is as its first
      agreed : Each (Agreed (all_defined (whole m ws))) (all_defined (whole m ws))
      agreed = each_of_all (λ d. same_defined (definition_of d.variable (all_defined (whole m ws))) d) (all_defined (whole m ws)) a

      -- the composition keeps bads, constraints and latches
      composed-keeps : (u : Valuation) → Follows (composed m ws).gates u → (xs : List Valued) → map (λ x. x.placed) xs ≡ placed m ws → Each (Takes u) xs
          → Keeps (composed m ws) u xs
      composed-keeps u f xs e t =
          let ds : List Defined = all_defined (whole m ws) in
          let ready = all-ready u xs e t in
          let both = all-matched u xs e f t in
          record {
            bads = bads-kept u I L xs (whole m ws) both ready;
            constraints = constraints-kept u I L xs (whole m ws) both ready;
            latches =
                all-latches-kept I L u ds (composed m ws) composed-inputs composed-latches
                (λ k h. composed_latch_at (suc I) (latch_firsts m ws) ds k h) xs (whole m ws) both ready agreed;
          }

      -- what the composition means
      pub composed-means : Means m ws (composed m ws)
      composed-means =
          record {
            everyone = placed-everyone m ws;
            inputs = inputs-placed;
            inputs_apart = firsts_apart 1 (input_entries m 0 ws);
            latches_apart = firsts_apart (suc I) (latch_entries m 0 ws);
            inputs_owned = firsts_owned 1 (input_entries m 0 ws) (length (composed m ws).inputs) composed-inputs;
            latches_owned = firsts_owned (suc I) (latch_entries m 0 ws) (length (composed m ws).latches) composed-latches;
            exist = sections-solved (composed m ws) composed-gates;
            unique = sections_fixed (composed m ws) composed-gates;
            solved = witnesses_solved;
            solved_once = each-so (λ p. InRange p.sections) (λ p. Fixed p.sections) (λ p h. sections_fixed p.sections h.gates) (placed m ws) placed-range;
            keeps = composed-keeps;
          }
