-- Laws for the functions that check several sections, one after the other.
use Rattle.witness_read.proofs.NumberedLaws.{all-from-all}
use Prim.Native.Nat.{ℕ, ◌+◌}
use mathlib.Core.Bool.{Bool, true, false, ◌&&◌, and-true}
use mathlib.Core.List.{List}
use mathlib.Core.Path.{◌≡◌, refl, sym, ◌∙◌}
use Rattle.lists.specs.Answer.{Answer, got, refused, and_then}
use Rattle.lists.specs.Parts.{Bytes}
use Rattle.lists.specs.Tests.{all, all_from, every}
use Rattle.lists.proofs.AnswerLaws.{and_then_assoc, and_then-same}
use Rattle.lists.proofs.BoolLaws.{and_cong}
use Rattle.text.specs.declared.Reader.TheVariants.{Witness}
use Rattle.text.specs.Lines.{lines_of}
use Rattle.aiger.specs.Defined.{literal}
use Rattle.aiger.specs.Sections.{section}
use Rattle.circuit_lines.specs.SectionLines.{literal_line, gate_line}
use Rattle.witness_text.specs.declared.AagCounts.{AagCounts}
use Rattle.witness_text.specs.LatchLines.{latch_line}
use Rattle.witness_read.specs.Order.{Body, body_of, defines, latch_numbered, gate_numbered, well_numbered}
use Rattle.witness_read.specs.Inner.Passes.{Passed, Leaves, leaves_of, leaves_numbered, Properties, properties_of, properties_numbered, PassedAll}

and_left : (f g h : Bool) → ((f && g) && h) ≡ (f && (g && h))
and_left true g h = refl
and_left false g h = refl

-- ---- inputs and latches

module _ (s : Bytes) (n : AagCounts) where
  pub inputs_bad : section (literal_line Witness) n.inputs (lines_of s) ≡ refused 8 → leaves_of n (lines_of s) ≡ refused 8
  inputs_bad e = rw e

  module _ (p : Bytes) (f : Bool) (first : Passed (literal_line Witness) (all_from defines 1) s n.inputs p f) where
    pub latches_bad : section latch_line n.latches (lines_of p) ≡ refused 8 → leaves_of n (lines_of s) ≡ refused 8
    latches_bad e = rw (first.takes, e)

    pub leaves-done : (q : Bytes) (g : Bool) → Passed latch_line (all_from (latch_numbered n.max_variable) (n.inputs + 1)) p n.latches q g
        → PassedAll (leaves_of n) (λ d. d.rest) (leaves_numbered n) s q (f && g)
    leaves-done q g second =
        record {
          taken = record { inputs = first.items; latches = second.items; rest = lines_of q };
          takes = rw (first.takes, second.takes);
          left = refl;
          says = and_cong f g _ _ first.says second.says;
        }

-- ---- outputs, bads and constraints

abbrev literals : AagCounts → ℕ → ℕ → Bool
literals n k = literal n.max_variable

-- a section of literals that are in range
abbrev pub PassedLiterals : AagCounts → Bytes → ℕ → Bytes → Bool → Type 0
PassedLiterals n s k p f = Passed (literal_line Witness) (all_from (literals n) 0) s k p f

module _ (s : Bytes) (n : AagCounts) where
  pub outputs_bad : section (literal_line Witness) n.outputs (lines_of s) ≡ refused 8 → properties_of n (lines_of s) ≡ refused 8
  outputs_bad e = rw e

  module _ (p : Bytes) (f : Bool) (outputs : PassedLiterals n s n.outputs p f) where
    pub bads_bad : section (literal_line Witness) n.bads (lines_of p) ≡ refused 8 → properties_of n (lines_of s) ≡ refused 8
    bads_bad e = rw (outputs.takes, e)

    module _ (q : Bytes) (g : Bool) (bads : PassedLiterals n p n.bads q g) where
      pub constraints_bad : section (literal_line Witness) n.constraints (lines_of q) ≡ refused 8 → properties_of n (lines_of s) ≡ refused 8
      constraints_bad e = rw (outputs.takes, bads.takes, e)

      pub properties-done : (e : Bytes) (h : Bool) → PassedLiterals n q n.constraints e h → PassedAll (properties_of n) (λ d. d.rest) (properties_numbered n) s e ((f && g) && h)
      properties-done e h constraints =
          let same : (l : List ℕ) → all_from (literals n) 0 l ≡ all (literal n.max_variable) l = λ l. all-from-all (literal n.max_variable) 0 l in
          record {
            taken = record { outputs = outputs.items; bads = bads.items; constraints = constraints.items; rest = lines_of e };
            takes = rw (outputs.takes, bads.takes, constraints.takes);
            left = refl;
            says =
                and_left f g h
                ∙ and_cong f (g && h) _ _ (outputs.says ∙ same outputs.items)
                (and_cong g h _ _ (bads.says ∙ same bads.items) (constraints.says ∙ same constraints.items));
          }

-- ---- all of them

-- the sections of a text, in three steps
abbrev gates_then : AagCounts → Leaves → Properties → Answer Body
gates_then n a b =
    and_then (section (gate_line Witness) n.gates b.rest) (λ gates.
    got (record {
      inputs = a.inputs;
      latches = a.latches;
      outputs = b.outputs;
      bads = b.bads;
      constraints = b.constraints;
      gates = gates.items;
      rest = gates.rest;
    }))

abbrev properties_then : AagCounts → Leaves → Answer Body
properties_then n a = and_then (properties_of n a.rest) (gates_then n a)

properties-split : (n : AagCounts) (a : Leaves) → properties_then n a
    ≡ and_then (section (literal_line Witness) n.outputs a.rest) (λ outputs.
    and_then (section (literal_line Witness) n.bads outputs.rest) (λ bads.
    and_then (section (literal_line Witness) n.constraints bads.rest) (λ constraints.
    gates_then n a (record { outputs = outputs.items; bads = bads.items; constraints = constraints.items; rest = constraints.rest }))))
properties-split n a =
    and_then_assoc (section (literal_line Witness) n.outputs a.rest) _ (gates_then n a)
    ∙ and_then-same (section (literal_line Witness) n.outputs a.rest) _ _ (λ outputs.
    and_then_assoc (section (literal_line Witness) n.bads outputs.rest) _ (gates_then n a)
    ∙ and_then-same (section (literal_line Witness) n.bads outputs.rest) _ _ (λ bads.
    and_then_assoc (section (literal_line Witness) n.constraints bads.rest) _ (gates_then n a)))

body-split : (n : AagCounts) (ls : List Bytes) → body_of n ls ≡ and_then (leaves_of n ls) (properties_then n)
body-split n ls =
    sym
    (and_then_assoc (section (literal_line Witness) n.inputs ls) _ (properties_then n)
    ∙ and_then-same (section (literal_line Witness) n.inputs ls) _ _ (λ inputs.
    and_then_assoc (section latch_line n.latches inputs.rest) _ (properties_then n)
    ∙ and_then-same (section latch_line n.latches inputs.rest) _ _ (λ latches.
    properties-split n (record { inputs = inputs.items; latches = latches.items; rest = latches.rest }))))

-- the tests of all sections, in the order in which they are made
numbered : (n : AagCounts) (d : Body) (a b c e f g : Bool)
    → a ≡ all_from defines 1 d.inputs → b ≡ all_from (latch_numbered n.max_variable) (n.inputs + 1) d.latches
    → c ≡ all (literal n.max_variable) d.outputs → e ≡ all (literal n.max_variable) d.bads → f ≡ all (literal n.max_variable) d.constraints
    → g ≡ all_from gate_numbered (n.inputs + n.latches + 1) d.gates
    → ((a && b) && ((c && (e && f)) && g)) ≡ well_numbered n d
unfolding well_numbered every
numbered n d a b c e f g p q r s t u = rw (← p, ← q, ← r, ← s, ← t, ← u) (go a b c e f g)
  where
    go : (a b c e f g : Bool) → ((a && b) && ((c && (e && f)) && g)) ≡ (a && (b && (c && (e && (f && (g && true))))))
    go false b c e f g = refl
    go true false c e f g = refl
    go true true false e f g = refl
    go true true true false f g = refl
    go true true true true false g = refl
    go true true true true true g = sym (and-true g)

module _ (s : Bytes) (n : AagCounts) where
  pub leaves_bad : leaves_of n (lines_of s) ≡ refused 8 → body_of n (lines_of s) ≡ refused 8
  leaves_bad e = body-split n (lines_of s) ∙ rw e

  module _ (p : Bytes) (f : Bool) (leaves : PassedAll (leaves_of n) (λ d. d.rest) (leaves_numbered n) s p f) where
    pub properties_bad : properties_of n (lines_of p) ≡ refused 8 → body_of n (lines_of s) ≡ refused 8
    properties_bad e = body-split n (lines_of s) ∙ rw (leaves.takes, leaves.left, e)

    module _ (q : Bytes) (g : Bool) (properties : PassedAll (properties_of n) (λ d. d.rest) (properties_numbered n) p q g) where
      pub gates_bad : section (gate_line Witness) n.gates (lines_of q) ≡ refused 8 → body_of n (lines_of s) ≡ refused 8
      gates_bad e = body-split n (lines_of s) ∙ rw (leaves.takes, leaves.left, properties.takes, properties.left, e)

      pub body-done : (e : Bytes) (h : Bool) → Passed (gate_line Witness) (all_from gate_numbered (n.inputs + n.latches + 1)) q n.gates e h
          → PassedAll (body_of n) (λ d. d.rest) (well_numbered n) s e ((f && g) && h)
      body-done e h gates =
          let body : Body =
          record {
            inputs = leaves.taken.inputs;
            latches = leaves.taken.latches;
            outputs = properties.taken.outputs;
            bads = properties.taken.bads;
            constraints = properties.taken.constraints;
            gates = gates.items;
            rest = lines_of e;
          } in
          record {
            taken = body;
            takes = body-split n (lines_of s) ∙ rw (leaves.takes, leaves.left, properties.takes, properties.left, gates.takes);
            left = refl;
            says = and_left f g h ∙ and_cong f (g && h) _ _ leaves.says (and_cong g h _ _ properties.says gates.says) ∙ numbered n body _ _ _ _ _ _ refl refl refl refl refl refl;
          }
