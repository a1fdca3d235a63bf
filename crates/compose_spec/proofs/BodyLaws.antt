-- Printed section lines read back, and 11 does not apply to them.
use Prim.Native.Nat.{ℕ, suc, ◌+◌, ◌*◌, ◌^◌, ◌<◌}
use mathlib.Core.Bool.{true}
use mathlib.Core.List.{List, [], ◌∷◌, ◌++◌}
use mathlib.Core.Path.{◌≡◌, refl}
use native.Mathlib.Omega.{arith}
use lib.ListN.{length}
use borrow.Author.Tests.{eq-eqb}
use Rattle.lists.specs.Answer.{Answer, got}
use Rattle.lists.specs.Parts.{Bytes}
use Rattle.lists.specs.Tests.{all, all_from, Each}
use Rattle.lists.proofs.BoolLaws.{and_both}
use Rattle.lists.proofs.TestLaws.{all_of_each, each-so, every_holds}
use Rattle.text.specs.declared.Reader.TheVariants.{Witness}
use Rattle.text_decimal.specs.Printed.{number_line}
use Rattle.text_decimal.proofs.BackLaws.{number-line-back}
use Rattle.aiger.specs.declared.Gate.{Gate}
use Rattle.aiger.specs.Gates.{variable}
use Rattle.aiger.specs.Defined.{literal, ordered}
use Rattle.aiger.specs.Sections.{section}
use Rattle.aiger.proofs.DefinedLaws.{low-literal, orders-holds}
use Rattle.aiger.proofs.SectionLaws.{section_of}
use Rattle.circuit_lines.specs.SectionLines.{literal_line, gate_line}
use Rattle.witness_text.specs.declared.Latch.{Latch}
use Rattle.witness_text.specs.LatchLines.{latch_from, latch_line}
use Rattle.witness_read.specs.Sections.{NamedLatch, Sections, leaves, variables}
use Rattle.witness_read.specs.Order.{Body, body_of, defines, latch_numbered, gate_numbered, well_numbered}
use Rattle.witness_read.specs.Reading.{counts_in}
use Rattle.compose_spec.specs.Printing.{input_lines, latch_lines, literal_lines, gate_lines, tail_lines, body_lines}
use Rattle.compose_spec.specs.Inner.Ranges.{Within, LatchWithin, InRange, GateAt, GatesFrom}

-- a number that a text may have
abbrev pub Small : ℕ → Type 0
Small n = n < 2 ^ 64

-- ---- one line and those after it

module _ {A : Type 0} (item : Bytes → Answer A) where
  -- a line that gives an item, in front of a section
  line-more : (n : ℕ) (l : Bytes) (a : A) (ls : List Bytes) (xs : List A) (rest : List Bytes) → item l ≡ got a → section item n ls ≡ section_of xs rest
      → section item (suc n) (l ∷ ls) ≡ section_of (a ∷ xs) rest
  line-more n l a ls xs rest e f = rw (e, f)

-- the line of a literal gives it
literal-line : (l : ℕ) → Small l → literal_line Witness (number_line (l ∷ [])) ≡ got l
literal-line l h = rw (number-line-back Witness (l ∷ []) (h, tt))

-- the line of a latch gives its three literals
latch_line_lem : (c n r : ℕ) → Small c → Small n → Small r → latch_line (number_line (c ∷ n ∷ r ∷ [])) ≡ got (latch_from c n r)
latch_line_lem c n r h k l = rw (number-line-back Witness (c ∷ n ∷ r ∷ []) (h, (k, (l, tt))))

-- the line of a gate gives it
gate_line_lem : (g : Gate) → Small g.output → Small g.left → Small g.right → gate_line Witness (number_line (g.output ∷ g.left ∷ g.right ∷ [])) ≡ got g
gate_line_lem g h k l = rw (number-line-back Witness (g.output ∷ g.left ∷ g.right ∷ []) (h, (k, (l, tt))))

-- ---- the sections

-- the literals of inputs, the first of which has the variable x
abbrev pub evens : {A : Type 0} → ℕ → List A → List ℕ
evens x [] = []
evens x (i ∷ is) = 2 * x ∷ evens (suc x) is

-- latches as their lines have them, the first of which has the variable x
abbrev pub line_latches : ℕ → List NamedLatch → List Latch
line_latches x [] = []
line_latches x (q ∷ qs) = latch_from (2 * x) q.next q.reset ∷ line_latches (suc x) qs

-- the lines of inputs give their literals
inputs-back : {A : Type 0} (x : ℕ) (is : List A) (rest : List Bytes) → Small (2 * (x + length is))
    → section (literal_line Witness) (length is) (input_lines x is ++ rest) ≡ section_of (evens x is) rest
inputs-back x [] rest h = refl
inputs-back x (i ∷ is) rest h =
    line-more (literal_line Witness) (length is) (number_line (2 * x ∷ [])) (2 * x) (input_lines (suc x) is ++ rest) (evens (suc x) is) rest (literal-line (2 * x) (omega arith))
    (inputs-back (suc x) is rest (omega arith))

-- the lines of literals give these
literals-back : (ls : List ℕ) (rest : List Bytes) → Each Small ls → section (literal_line Witness) (length ls) (literal_lines ls ++ rest) ≡ section_of ls rest
literals-back [] rest e = refl
literals-back (l ∷ ls) rest e =
    line-more (literal_line Witness) (length ls) (number_line (l ∷ [])) l (literal_lines ls ++ rest) ls rest (literal-line l e.0) (literals-back ls rest e.1)

-- the lines of latches give their literals
latches-back : (m x : ℕ) (qs : List NamedLatch) (rest : List Bytes) → Small (2 * m + 1) → Small (2 * (x + length qs)) → Each (LatchWithin m) qs
    → section latch_line (length qs) (latch_lines x qs ++ rest) ≡ section_of (line_latches x qs) rest
latches-back m x [] rest s h e = refl
latches-back m x (q ∷ qs) rest s h e =
    line-more latch_line (length qs) (number_line (2 * x ∷ q.next ∷ q.reset ∷ [])) (latch_from (2 * x) q.next q.reset) (latch_lines (suc x) qs ++ rest) (line_latches (suc x) qs) rest
    (latch_line_lem (2 * x) q.next q.reset (omega arith) (omega (arith, e.0.0)) (omega (arith, e.0.1)))
    (latches-back m (suc x) qs rest s (omega arith) e.1)

-- the lines of gates give these
gates-back : (x : ℕ) (gs : List Gate) (rest : List Bytes) → Small (2 * (x + length gs)) → GatesFrom x gs
    → section (gate_line Witness) (length gs) (gate_lines gs ++ rest) ≡ section_of gs rest
gates-back x [] rest h a = refl
gates-back x (g ∷ gs) rest h a =
    line-more (gate_line Witness) (length gs) (number_line (g.output ∷ g.left ∷ g.right ∷ [])) g (gate_lines gs ++ rest) gs rest
    (gate_line_lem g (omega (arith, a.0.output)) (omega (arith, a.0.left)) (omega (arith, a.0.right)))
    (gates-back (suc x) gs rest (omega arith) a.1)

-- ---- the body

-- sections as their lines have them
abbrev pub body_in : Sections → Body
body_in s =
    record {
      inputs = evens 1 s.inputs;
      latches = line_latches (suc (length s.inputs)) s.latches;
      outputs = s.outputs;
      bads = s.bads;
      constraints = s.constraints;
      gates = s.gates;
      rest = tail_lines s;
    }

-- literals in range are numbers that a text may have
within-small : (m : ℕ) → Small (2 * m + 1) → (ls : List ℕ) → Each (Within m) ls → Each Small ls
within-small m s ls e = each-so (Within m) Small (λ l h. omega arith) ls e

module _ (s : Sections) (r : InRange s) (small : Small (2 * suc (variables s))) where
  -- printed section lines give the sections
  pub body_back : body_of (counts_in s) (body_lines s) ≡ got (body_in s)
  body_back =
      let m : ℕ = variables s in
      let w : Small (2 * m + 1) = omega arith in
      let t5 : List Bytes = tail_lines s in
      let t4 : List Bytes = gate_lines s.gates ++ t5 in
      let t3 : List Bytes = literal_lines s.constraints ++ t4 in
      let t2 : List Bytes = literal_lines s.bads ++ t3 in
      let t1 : List Bytes = literal_lines s.outputs ++ t2 in
      let t0 : List Bytes = latch_lines (suc (length s.inputs)) s.latches ++ t1 in
      rw (
        inputs-back 1 s.inputs t0 (omega arith),
        latches-back m (suc (length s.inputs)) s.latches t1 w (omega arith) r.latches,
        literals-back s.outputs t2 (within-small m w s.outputs r.outputs),
        literals-back s.bads t3 (within-small m w s.bads r.bads),
        literals-back s.constraints t4 (within-small m w s.constraints r.constraints),
        gates-back (suc (leaves s)) s.gates t5 (omega arith) r.gates,
      )
      refl

-- ---- 11

-- inputs define their variables
evens_defined : {A : Type 0} (x : ℕ) (is : List A) → all_from defines x (evens x is) ≡ true
evens_defined x [] = refl
evens_defined x (i ∷ is) = rw (eq-eqb (2 * x) (2 * x) refl) (evens_defined (suc x) is)

-- latches define theirs, and their literals are in range
latches-numbered : (m x : ℕ) (qs : List NamedLatch) → Each (LatchWithin m) qs → all_from (latch_numbered m) x (line_latches x qs) ≡ true
unfolding latch_numbered
latches-numbered m x [] e = refl
latches-numbered m x (q ∷ qs) e =
    and_both (latch_numbered m x (latch_from (2 * x) q.next q.reset)) (all_from (latch_numbered m) (suc x) (line_latches (suc x) qs))
    (every_holds (defines x (2 * x) ∷ literal m q.next ∷ literal m q.reset ∷ []) (eq-eqb (2 * x) (2 * x) refl, (low-literal m q.next e.0.0, (low-literal m q.reset e.0.1, tt))))
    (latches-numbered m (suc x) qs e.1)

-- so does a gate, whose operands are smaller
gate_numbered_lem : (x : ℕ) (g : Gate) → GateAt x g → gate_numbered x g ≡ true
unfolding gate_numbered
gate_numbered_lem x g a =
    let v : variable g.output ≡ x = omega (arith, a.output) in
    every_holds (defines x g.output ∷ ordered g ∷ []) (eq-eqb g.output (2 * x) a.output, (orders-holds g (record { left = rw v a.left; right = rw v a.right }), tt))

-- so do all gates
gates-numbered : (x : ℕ) (gs : List Gate) → GatesFrom x gs → all_from gate_numbered x gs ≡ true
gates-numbered x [] a = refl
gates-numbered x (g ∷ gs) a = and_both (gate_numbered x g) (all_from gate_numbered (suc x) gs) (gate_numbered_lem x g a.0) (gates-numbered (suc x) gs a.1)

-- literals in range pass the reader's test
literals-numbered : (m : ℕ) (ls : List ℕ) → Each (Within m) ls → all (literal m) ls ≡ true
literals-numbered m ls e = all_of_each (literal m) ls (each-so (Within m) (λ l. literal m l ≡ true) (low-literal m) ls e)

-- sections in range are well numbered as their lines have them
pub body-numbered : (s : Sections) → InRange s → well_numbered (counts_in s) (body_in s) ≡ true
unfolding well_numbered
body-numbered s r =
    let m : ℕ = variables s in
    let i : length s.inputs + 1 ≡ suc (length s.inputs) = omega arith in
    let n : length s.inputs + length s.latches + 1 ≡ suc (leaves s) = omega arith in
    let a : all_from defines 1 (evens 1 s.inputs) ≡ true = evens_defined 1 s.inputs in
    let b : all_from (latch_numbered m) (length s.inputs + 1) (line_latches (suc (length s.inputs)) s.latches) ≡ true =
    rw i (latches-numbered m (suc (length s.inputs)) s.latches r.latches) in
    let g : all_from gate_numbered (length s.inputs + length s.latches + 1) s.gates ≡ true = rw n (gates-numbered (suc (leaves s)) s.gates r.gates) in
    every_holds
    (all_from defines 1 (evens 1 s.inputs)
    ∷ all_from (latch_numbered m) (length s.inputs + 1) (line_latches (suc (length s.inputs)) s.latches)
    ∷ all (literal m) s.outputs
    ∷ all (literal m) s.bads
    ∷ all (literal m) s.constraints
    ∷ all_from gate_numbered (length s.inputs + length s.latches + 1) s.gates
    ∷ [])
    (a, (b, (literals-numbered m s.outputs r.outputs, (literals-numbered m s.bads r.bads, (literals-numbered m s.constraints r.constraints, (g, tt))))))
