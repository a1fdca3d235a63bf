-- The composed gates of all witnesses, and each witness with the composed variables of all its variables.
use Prim.Native.Nat.{ℕ, zero, suc, ◌+◌, ◌≤◌}
use mathlib.Core.List.{List, [], ◌∷◌, map}
use mathlib.Core.Path.{◌≡◌, refl, sym, ◌∙◌}
use native.Mathlib.Omega.{arith}
use lib.ListN.{length}
use Rattle.lists.specs.Tests.{Each}
use Rattle.lists.proofs.FirstLaws.{Begins, begins_self, begins_then, begins-length}
use Rattle.aiger.specs.Gates.{Valuation, Follows}
use Rattle.witness_read.specs.Sections.{variables}
use Rattle.compose_spec.specs.Numbering.{Placed}
use Rattle.compose_spec.specs.Sharing.{Operands, Shared, share_witness, gates_after, whole_after, gates_from}
use Rattle.compose_spec.specs.Meaning.{Valued, Takes}
use Rattle.compose_spec.specs.Inner.Ranges.{InRange}
use Rattle.compose_spec.proofs.ShareLaws.{OperandsFrom, Low, low-more, Sound, sound-shared, shared_goes, gates-solved, Agrees, shared-values}
use Rattle.compose_spec.proofs.PlacedLaws.{Seated, seated-low}

-- the variables of a witness's inputs and latches, and the composed gates before it
abbrev before : Placed → List Operands → Shared
before p cs = record { vars = p.vars; gates = cs }

-- the composed gates only grow
pub after-begins : (n : ℕ) (ps : List Placed) (cs : List Operands) → Begins cs (gates_after n ps cs)
after-begins n [] cs = begins_self cs
after-begins n (p ∷ ps) cs =
    let ds : List Operands = (share_witness n p cs).gates in
    begins_then cs ds (gates_after n ps ds) (shared_goes n p.sections.gates (before p cs)).gates (after-begins n ps ds)

module _ (I L : ℕ) where
  -- the first composed gate's variable
  abbrev first : ℕ
  first = suc (I + L)

  -- the variables of a seated witness are sound
  before-sound : (p : Placed) (cs : List Operands) → Seated I L p → OperandsFrom first cs → Sound first (before p cs)
  before-sound p cs s o = record { low = low-more first (first + length cs) p.vars (omega arith) (seated-low I L p s); order = o }

  -- and stay so with its gates
  witness-sound : (p : Placed) (cs : List Operands) → Seated I L p → OperandsFrom first cs → Sound first (share_witness first p cs)
  witness-sound p cs s o = sound-shared first p.sections.gates (before p cs) (before-sound p cs s o)

  -- the composed gates have smaller operands
  pub after-order : (ps : List Placed) (cs : List Operands) → Each (Seated I L) ps → OperandsFrom first cs → OperandsFrom first (gates_after first ps cs)
  after-order [] cs e o = o
  after-order (p ∷ ps) cs e o = after-order ps (share_witness first p cs).gates e.1 (witness-sound p cs e.0 o).order

  -- every composed variable is at most that of the last composed gate
  pub whole-low : (ps : List Placed) (cs fs : List Operands) → Each (Seated I L) ps → OperandsFrom first cs → Begins (gates_after first ps cs) fs
      → Each (λ q. Low (first + length fs) q.vars) (whole_after first ps cs)
  whole-low [] cs fs e o b = tt
  whole-low (p ∷ ps) cs fs e o b =
      let r : Shared = share_witness first p cs in
      let ds : List Operands = r.gates in
      let s = witness-sound p cs e.0 o in
      let h : length ds ≤ length fs = begins-length ds fs (begins_then ds (gates_after first ps ds) fs (after-begins first ps ds) b) in
      (low-more (first + length ds) (first + length fs) r.vars (omega arith) s.low, whole-low ps ds fs e.1 s.order b)

-- ---- values

-- the witness x with its values, and the same witness with the composed variables of all its variables
pub record Matched (u : Valuation) (x : Valued) (q : Placed) : Type 0 where
  pub same : q.sections ≡ x.placed.sections
  pub begins : Begins x.placed.vars q.vars
  pub long : length q.vars ≡ suc (variables x.placed.sections)
  pub values : Agrees x.values u q.vars

-- two lists of the same length, whose elements are related one by one
abbrev pub Both : {A B : Type 0} → (A → B → Type 0) → List A → List B → Type 0
Both R [] [] = Unit {0}
Both R [] (b ∷ bs) = ⊥
Both R (a ∷ as') [] = ⊥
Both R (a ∷ as') (b ∷ bs) = R a b × Both R as' bs

-- what is asked of a witness with its values
pub record Ready (u : Valuation) (I L : ℕ) (x : Valued) : Type 0 where
  pub seated : Seated I L x.placed
  pub range : InRange x.placed.sections
  pub takes : Takes u x

module _ (I L : ℕ) (u : Valuation) (fs : List Operands) (f : Follows (gates_from (first I L) fs) u) where
  -- inputs and latches have the values of their composed variables
  leaves-agree : (x : Valued) → Ready u I L x → Agrees x.values u x.placed.vars
  leaves-agree x r zero h = r.takes.follows.constant ∙ sym (rw r.seated.constant f.constant)
  leaves-agree x r (suc i) h = r.takes.same i (omega (arith, r.seated.long))

  -- so have all variables of a witness
  match_one : (x : Valued) (cs : List Operands) → Ready u I L x → Begins (share_witness (first I L) x.placed cs).gates fs
      → Matched u x (record { sections = x.placed.sections; vars = (share_witness (first I L) x.placed cs).vars })
  match_one x cs r b =
      let p : Placed = x.placed in
      let g = shared_goes (first I L) p.sections.gates (before p cs) in
      record {
        same = refl;
        begins = g.vars;
        long = g.long ∙ omega (arith, r.seated.long);
        values =
            shared-values (first I L) u x.values p.sections.gates (before p cs) fs b (gates-solved u (first I L) fs f.conjunctions)
            (rw r.seated.long r.range.gates) r.takes.follows.conjunctions (leaves-agree x r);
      }

  -- each variable of each witness has the value of its composed variable
  pub match_all : (xs : List Valued) (cs : List Operands) → Each (Ready u I L) xs → Begins (gates_after (first I L) (map (λ x. x.placed) xs) cs) fs
      → Both (Matched u) xs (whole_after (first I L) (map (λ x. x.placed) xs) cs)
  match_all [] cs e b = tt
  match_all (x ∷ xs) cs e b =
      let n : ℕ = first I L in
      let ps : List Placed = map (λ y. y.placed) xs in
      let ds : List Operands = (share_witness n x.placed cs).gates in
      (match_one x cs e.0 (begins_then ds (gates_after n ps ds) fs (after-begins n ps ds) b), match_all xs ds e.1 b)
