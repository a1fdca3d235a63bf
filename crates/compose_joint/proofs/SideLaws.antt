-- All witnesses side by side: the gates of all, shared as one list, give what the definitions give witness by witness.
use Prim.Native.Nat.{ℕ, suc, ◌+◌, ◌≤◌}
use mathlib.Core.List.{List, [], ◌∷◌, ◌++◌, map, map-append}
use mathlib.Core.Path.{◌≡◌, refl, sym, ap, subst, ◌∙◌}
use native.Mathlib.Omega.{arith}
use lib.ListN.{length, drop, length-append, length-map}
use lib.Seq.{drop-drop, drop_at}
use Rattle.lists.specs.Tests.{Each}
use Rattle.lists.proofs.FirstLaws.{Begins, begins_then}
use Rattle.aiger.specs.declared.Gate.{Gate}
use Rattle.witness_read.specs.Sections.{Sections, leaves, variables}
use Rattle.compose_spec.specs.Numbering.{Entry, inputs_in, latches_in, input_entries, latch_entries, numbered, Placed, placed_from}
use Rattle.compose_spec.specs.Sharing.{Operands, Shared, share_gates, share_witness, gates_after, whole_after}
use Rattle.compose_spec.specs.Inner.Ranges.{InRange}
use Rattle.compose_spec.proofs.PlacedLaws.{inputs_in_length, latches_in_length}
use Rattle.compose_spec.proofs.ShareLaws.{shared_goes}
use Rattle.compose_joint.specs.declared.Shift.{Shift}
use Rattle.compose_joint.specs.declared.Before.{Before}
use Rattle.compose_joint.specs.Inner.Joint.{input_count, latch_count, beyond, shift_of}
use Rattle.compose_joint.proofs.ShiftLaws.{Keeps, keeps-begins, StandsAt, stands_long, leaves_kept}
use Rattle.compose_joint.proofs.BesideLaws.{shifted_gate, shared_append, Beside, beside_shared}

-- the gates of all witnesses with joint operands
abbrev pub gates_beside : ℕ → ℕ → Before → List Sections → List Gate
gates_beside i q b [] = []
gates_beside i q b (s ∷ ss) = map (shifted_gate (shift_of i q b s)) s.gates ++ gates_beside i q (beyond b s) ss

-- a witness whose composed variables stand in `all`
pub record Kept (i q : ℕ) (b : Before) (all : List ℕ) (p : Placed) : Type 0 where
  pub range : InRange p.sections
  pub long : length p.vars ≡ suc (variables p.sections)
  pub keeps : Keeps (shift_of i q b p.sections) p.vars all

-- each witness so
abbrev pub AllKept : ℕ → ℕ → Before → List ℕ → List Placed → Type 0
AllKept i q b all [] = Unit {0}
AllKept i q b all (p ∷ ps) = Kept i q b all p × AllKept i q (beyond b p.sections) all ps

-- the lists of a kind: what stands from place n on is the first part, then the rest
stands-next : (f : Entry → ℕ) (n k : ℕ) (all : List ℕ) (es rest : List Entry) → drop n all ≡ map f (es ++ rest) → length es ≡ k → drop (n + k) all ≡ map f rest
stands-next f n k all es rest h l =
    sym (drop-drop k n all) ∙ ap (drop k) (h ∙ map-append f es rest) ∙ drop_at (map f es) (map f rest) k (length-map es f ∙ l)

module _ (m : Sections) (is qs : List Entry) (i q n : ℕ) (all-inputs all-latches : List ℕ) (count-inputs : length all-inputs ≡ i) (count-latches : length all-latches ≡ q) where
  -- the number of an input
  abbrev as_input : Entry → ℕ
  as_input = numbered 1 is

  -- the number of a latch
  abbrev as_latch : Entry → ℕ
  as_latch = numbered (suc (length is)) qs

  -- the composed variables of the joint inputs and latches
  abbrev joined : List ℕ
  joined = 0 ∷ (all-inputs ++ all-latches)

  -- the inputs and latches of the witnesses ss are what is left of the lists
  pub record Left (w : ℕ) (b : Before) (ss : List Sections) : Type 0 where
    pub inputs : drop b.inputs all-inputs ≡ map as_input (input_entries m w ss)
    pub latches : drop b.latches all-latches ≡ map as_latch (latch_entries m w ss)

  module _ (w : ℕ) (b : Before) (s : Sections) (ss : List Sections) (left : Left w b (s ∷ ss)) where
    -- those of the next witnesses are what is left then
    left-next : Left (suc w) (beyond b s) ss
    left-next =
        record {
          inputs = stands-next as_input b.inputs (input_count s) all-inputs (inputs_in m w s) (input_entries m (suc w) ss) left.inputs (inputs_in_length m w s);
          latches = stands-next as_latch b.latches (latch_count s) all-latches (latches_in m w s) (latch_entries m (suc w) ss) left.latches (latches_in_length m w s);
        }

    -- the composed variables of its inputs
    abbrev own_inputs : List ℕ
    own_inputs = map as_input (inputs_in m w s)

    -- and of its latches
    abbrev own_latches : List ℕ
    own_latches = map as_latch (latches_in m w s)

    -- as many as it has inputs
    count_own_inputs : length own_inputs ≡ input_count s
    count_own_inputs = length-map (inputs_in m w s) as_input ∙ inputs_in_length m w s

    -- and latches
    count_own_latches : length own_latches ≡ latch_count s
    count_own_latches = length-map (latches_in m w s) as_latch ∙ latches_in_length m w s

    -- its inputs stand in the list of all
    inputs-stand : StandsAt b.inputs own_inputs all-inputs
    inputs-stand = record { rest = map as_input (input_entries m (suc w) ss); is = left.inputs ∙ map-append as_input (inputs_in m w s) (input_entries m (suc w) ss) }

    -- and its latches
    latches-stand : StandsAt b.latches own_latches all-latches
    latches-stand = record { rest = map as_latch (latch_entries m (suc w) ss); is = left.latches ∙ map-append as_latch (latches_in m w s) (latch_entries m (suc w) ss) }

    -- how its variables become joint ones
    abbrev shift : Shift
    shift = shift_of i q b s

    -- so its variables stand among the joint ones
    own_kept : Keeps shift (0 ∷ (own_inputs ++ own_latches)) joined
    own_kept =
        leaves_kept shift own_inputs own_latches all-inputs all-latches b.latches inputs-stand latches-stand (sym count_own_inputs)
        (omega (arith, count_own_inputs, count_own_latches)) (rw (count-inputs, count_own_inputs) refl)

    -- a witness has no more of them than there are
    own_few : leaves s ≤ i + q
    own_few =
        omega (
          arith,
          count_own_inputs,
          count_own_latches,
          count-inputs,
          count-latches,
          stands_long b.inputs own_inputs all-inputs inputs-stand,
          stands_long b.latches own_latches all-latches latches-stand,
        )

    -- the witness with the composed variables of its inputs and latches
    abbrev seat : Placed
    seat = record { sections = s; vars = 0 ∷ (own_inputs ++ own_latches) }

    -- these are the constant's, its inputs' and its latches'
    own_long : length seat.vars ≡ suc (leaves s)
    own_long = ap suc (length-append own_inputs own_latches ∙ rw (count_own_inputs, count_own_latches) refl)

    module _ (all : List ℕ) (cs : List Operands) (begins : Begins joined all) (long : length all ≡ suc (i + q + b.gates)) (range : InRange s) where
      -- with its gates
      witness-beside : Beside shift (share_witness n seat cs) (share_gates n (map (shifted_gate shift) s.gates) (record { vars = all; gates = cs }))
      witness-beside =
          beside_shared n shift (omega arith) s.gates (record { vars = seat.vars; gates = cs }) (record { vars = all; gates = cs })
          (rw own_long range.gates)
          (record {
            gates = refl;
            keeps = keeps-begins shift seat.vars joined all own_kept begins;
            past = rw own_long (omega arith);
            long = long ∙ rw own_long (omega (arith, own_few));
          })

  -- the composed gates and variables of all witnesses, where `all` and `cs` are those before
  pub record Together (w : ℕ) (b : Before) (ss : List Sections) (cs : List Operands) (r : Shared) : Type 0 where
    pub gates : r.gates ≡ gates_after n (placed_from m is qs w ss) cs
    pub kept : AllKept i q b r.vars (whole_after n (placed_from m is qs w ss) cs)

  -- The gates of all witnesses, shared one after the other.
  pub all-together : (w : ℕ) (b : Before) (ss : List Sections) (all : List ℕ) (cs : List Operands) → Left w b ss → Begins joined all → length all ≡ suc (i + q + b.gates)
      → Each InRange ss → Together w b ss cs (share_gates n (gates_beside i q b ss) (record { vars = all; gates = cs }))
  all-together w b [] all cs left begins long range = record { gates = refl; kept = tt }
  all-together w b (s ∷ ss) all cs left begins long range =
      let h : Shift = shift_of i q b s in
      let start : Shared = record { vars = all; gates = cs } in
      let gs : List Gate = map (shifted_gate h) s.gates in
      let rest : List Gate = gates_beside i q (beyond b s) ss in
      let p : Placed = seat w b s ss left in
      let own : Shared = share_witness n p cs in
      let one : Shared = share_gates n gs start in
      let next : Shared = record { vars = one.vars; gates = own.gates } in
      let beside = witness-beside w b s ss left all cs begins long range.0 in
      let goes = shared_goes n gs start in
      let e : share_gates n rest next ≡ share_gates n (gs ++ rest) start =
      ap (share_gates n rest) (ap {B = Shared} (λ (x : List Operands). record { vars = one.vars; gates = x }) (sym beside.gates)) ∙ sym (shared_append n gs rest start) in
      let later =
      all-together (suc w) (beyond b s) ss one.vars own.gates (left-next w b s ss left) (begins_then joined all one.vars begins goes.vars)
      (omega (arith, goes.long, long, length-map s.gates (shifted_gate h))) range.1 in
      subst (Together w b (s ∷ ss) cs) e
      (record {
        gates = later.gates;
        kept = (
          record {
            range = range.0;
            long = (shared_goes n s.gates (record { vars = p.vars; gates = cs })).long ∙ omega (arith, own_long w b s ss left);
            keeps = keeps-begins h own.vars one.vars (share_gates n rest next).vars beside.keeps (shared_goes n rest next).vars;
          },
          later.kept,
        );
      })
