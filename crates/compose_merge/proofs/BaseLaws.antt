-- Laws of what stays in the work words from pass to pass, and of handing on what comes out.
use Rattle.std.specs.Prelude.{Result, Ok, Err}
use Rattle.aiger.specs.declared.Refusal.{Refusal}
use Rattle.compose_merge.specs.declared.Merged.{Merged}
use Prim.Native.Nat.{ℕ, ◌+◌, ◌≤◌}
use mathlib.Core.List.{List}
use mathlib.Core.Path.{◌≡◌, ◌∙◌}
use native.Mathlib.Omega.{arith}
use lib.ListN.{length, take}
use Rattle.witness_read.specs.Sections.{Sections}
use Rattle.compose_joint.specs.declared.Literals.TheVariants as literals
use Rattle.compose_joint.specs.declared.Leaves.TheVariants as leaf
use Rattle.compose_joint.specs.Inner.Joint.{joint, list_of, origins}
use Rattle.compose_joint.proofs.AmountLaws.{joint-operands-length, joint-latches-length, input-origins-length, latch_origins-length}
use Rattle.compose_layout.specs.declared.Layout.{Layout}
use Rattle.compose_layout.specs.Inner.Laid.{Has, Regions, Stands, OfSome}
use Rattle.compose_layout.proofs.HasLaws.{has_same}
use Rattle.compose_layout.proofs.StageLaws.{literals_long}
use Rattle.compose_merge.specs.Inner.Merged.{Base, Outcome, Goes}

-- the lists stay where nothing in front of the assigned numbers is written
module _ (at : Layout) (work work' : List ℕ) (m : Sections) (ws : List Sections) (r : Regions m ws at) (e : take at.assigned work' ≡ take at.assigned work) (n : length work' ≡ length work) where
  -- any list in front of the assigned numbers
  keeps : (a : ℕ) (xs : List ℕ) → a + length xs ≤ at.assigned → Has work a xs → Has work' a xs
  keeps a xs h k = has_same work work' at.assigned a xs e n h k

  -- all of them
  pub stands-kept : Stands at work m ws → Stands at work' m ws
  stands-kept s =
      record {
        latches = keeps at.latches (joint (list_of literals.Latches) ws)
            (omega (arith, joint-latches-length ws, r.operands, r.safety, r.constraints, r.input_origins, r.latch_origins, r.assigned)) s.latches;
        operands = keeps at.operands (joint (list_of literals.Operands) ws)
            (omega (arith, joint-operands-length ws, r.safety, r.constraints, r.input_origins, r.latch_origins, r.assigned)) s.operands;
        safety = keeps at.safety (joint (list_of literals.Safety) ws)
            (omega (arith, literals_long literals.Safety ws, r.constraints, r.input_origins, r.latch_origins, r.assigned)) s.safety;
        constraints = keeps at.constraints (joint (list_of literals.Constraints) ws)
            (omega (arith, literals_long literals.Constraints ws, r.input_origins, r.latch_origins, r.assigned)) s.constraints;
        input_origins = keeps at.input_origins (origins leaf.Inputs m ws) (omega (arith, input-origins-length m ws, r.latch_origins, r.assigned)) s.input_origins;
        latch_origins = keeps at.latch_origins (origins leaf.Latches m ws) (omega (arith, latch_origins-length m ws, r.assigned)) s.latch_origins;
      }

-- all of it stays
pub base_kept : (at : Layout) (work work' : List ℕ) (m : Sections) (ws : List Sections) → take at.assigned work' ≡ take at.assigned work → length work' ≡ length work
    → Base at work m ws → Base at work' m ws
base_kept at work work' m ws e n b =
    record { plan = b.plan; fits = omega (arith, b.fits); stands = stands-kept at work work' m ws b.plan.regions e n b.stands }

-- what comes out of words that are the same in front of the assigned numbers
outcome-back : (m : Sections) (ws : List Sections) (at : Layout) (work work' work'' : List ℕ) (r : Result Merged Refusal) → take at.assigned work' ≡ take at.assigned work
    → Outcome m ws at work' work'' r → Outcome m ws at work work'' r
outcome-back m ws at work work' work'' (Ok c) e o = record { fits = o.fits; agrees = o.agrees; result = o.result; kept = o.kept ∙ e }
outcome-back m ws at work work' work'' (Err k) e o = o

-- one pass: the next stage, and that the words in front of the assigned numbers are the same
pub record Step (Stage Next : Sections → List Sections → Type 0) (at : Layout) (work work' : List ℕ) : Type 0 where
  pub next : (m : Sections) (ws : List Sections) → Stage m ws → Next m ws
  pub kept : (m : Sections) (ws : List Sections) → Stage m ws → take at.assigned work' ≡ take at.assigned work

-- one pass after another
pub steps : {A B C : Sections → List Sections → Type 0} {at : Layout} {work work' work'' : List ℕ} → Step A B at work work' → Step B C at work' work'' → Step A C at work work''
steps p q = record { next = λ m ws k. q.next m ws (p.next m ws k); kept = λ m ws k. q.kept m ws (p.next m ws k) ∙ p.kept m ws k }

-- the next stage holds of some model and witnesses
pub step-some : {A B : Sections → List Sections → Type 0} {at : Layout} {work work' : List ℕ} → Step A B at work work' → OfSome A → OfSome B
step-some p s = record { m = s.m; ws = s.ws; holds = p.next s.m s.ws s.holds }

-- what comes out of the next stage comes out of this one
pub step-goes : {A B : Sections → List Sections → Type 0} {at : Layout} {work work' work'' : List ℕ} {r : Result Merged Refusal}
    → Step A B at work work' → Goes B at work' work'' r → Goes A at work work'' r
step-goes {A} {B} {at} {work} {work'} {work''} {r} p g =
    record { goes = λ m ws k. outcome-back m ws at work work' work'' r (p.kept m ws k) (g.goes m ws (p.next m ws k)) }
