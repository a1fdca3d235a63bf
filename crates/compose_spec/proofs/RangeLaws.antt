-- What an accepted text grants of its sections: gates one after the other with smaller operands, and literals in range.
use Prim.Native.Nat.{ℕ, suc, ◌+◌, ◌*◌}
use mathlib.Core.Bool.{Bool, true}
use mathlib.Core.List.{List, [], ◌∷◌}
use mathlib.Core.Path.{◌≡◌, subst}
use native.Mathlib.Omega.{arith}
use lib.ListN.{length}
use borrow.Author.Tests.{eqb-true}
use Rattle.lists.specs.Answer.{got}
use Rattle.lists.specs.Parts.{Bytes}
use Rattle.lists.specs.Tests.{all, all_from, Each}
use Rattle.lists.proofs.BoolLaws.{and_left, and_right}
use Rattle.lists.proofs.TestLaws.{each_of_all, each-so, every_facts}
use Rattle.text.specs.Texts.{Limits}
use Rattle.aiger.specs.declared.Gate.{Gate}
use Rattle.aiger.specs.Gates.{variable}
use Rattle.aiger.specs.Defined.{literal, ordered}
use Rattle.aiger.proofs.DefinedLaws.{literal-low, orders}
use Rattle.witness_text.specs.declared.Latch.{Latch}
use Rattle.witness_text.specs.Symbols.{Symbol}
use Rattle.witness_read.specs.Sections.{Sections, leaves, variables}
use Rattle.witness_read.specs.Order.{Body, defines, latch_numbered, gate_numbered, well_numbered}
use Rattle.witness_read.specs.Reading.{named_latches, sections_from, read_aag, counts_in}
use Rattle.witness_read.proofs.AcceptedLaws.{read_accepted}
use Rattle.compose_spec.specs.Inner.Ranges.{GateAt, GatesFrom, Within, LatchWithin, InRange}

-- literals that the reader's test passes are in range
literals-within : (m : ℕ) (ls : List ℕ) → all (literal m) ls ≡ true → Each (Within m) ls
literals-within m ls h = each-so (λ l. literal m l ≡ true) (Within m) (literal-low m) ls (each_of_all (literal m) ls h)

-- so a gate that it passes is one of its variable
gate_at_lem : (k : ℕ) (g : Gate) → gate_numbered k g ≡ true → GateAt k g
unfolding gate_numbered
gate_at_lem k g h =
    let f = every_facts (defines k g.output ∷ ordered g ∷ []) h in
    let e : g.output ≡ 2 * k = eqb-true g.output (2 * k) f.0 in
    let o = orders g f.1.0 in
    let v : variable g.output ≡ k = omega arith in
    record { output = e; left = rw v at o.left; right = rw v at o.right }

-- and all gates are
gates-from : (k : ℕ) (gs : List Gate) → all_from gate_numbered k gs ≡ true → GatesFrom k gs
gates-from k [] h = tt
gates-from k (g ∷ gs) h =
    (gate_at_lem k g (and_left (gate_numbered k g) (all_from gate_numbered (suc k) gs) h), gates-from (suc k) gs (and_right (gate_numbered k g) (all_from gate_numbered (suc k) gs) h))

-- the literals of latches that it passes are in range
latches-within : (m k j : ℕ) (qs : List Latch) (ss : List Symbol) → all_from (latch_numbered m) k qs ≡ true → Each (LatchWithin m) (named_latches j qs ss)
unfolding latch_numbered
latches-within m k j [] ss h = tt
latches-within m k j (q ∷ qs) ss h =
    let f = every_facts (defines k q.current ∷ literal m q.next ∷ literal m q.reset ∷ []) (and_left (latch_numbered m k q) (all_from (latch_numbered m) (suc k) qs) h) in (
      (literal-low m q.next f.1.0, literal-low m q.reset f.1.1.0),
      latches-within m (suc k) (suc j) qs ss (and_right (latch_numbered m k q) (all_from (latch_numbered m) (suc k) qs) h),
    )

-- what 11 says of the section lines, said of the sections
body-range : (s : Sections) (d : Body) (ss : List Symbol) → sections_from d ss ≡ s → well_numbered (counts_in s) d ≡ true → InRange s
unfolding well_numbered
body-range s d ss e h =
    let m : ℕ = variables s in
    let f =
    every_facts
    (all_from defines 1 d.inputs
    ∷ all_from (latch_numbered m) (length s.inputs + 1) d.latches
    ∷ all (literal m) d.outputs
    ∷ all (literal m) d.bads
    ∷ all (literal m) d.constraints
    ∷ all_from gate_numbered (length s.inputs + length s.latches + 1) d.gates
    ∷ [])
    h in
    let n : length s.inputs + length s.latches + 1 ≡ suc (leaves s) = omega arith in
    let g : GatesFrom (suc (leaves s)) d.gates = rw n at (gates-from (length s.inputs + length s.latches + 1) d.gates f.1.1.1.1.1.0) in
    record {
      gates = subst (λ (x : Sections). GatesFrom (suc (leaves s)) x.gates) e g;
      latches = subst (λ (x : Sections). Each (LatchWithin m) x.latches) e (latches-within m (length s.inputs + 1) 0 d.latches ss f.1.0);
      outputs = subst (λ (x : Sections). Each (Within m) x.outputs) e (literals-within m d.outputs f.1.1.0);
      bads = subst (λ (x : Sections). Each (Within m) x.bads) e (literals-within m d.bads f.1.1.1.0);
      constraints = subst (λ (x : Sections). Each (Within m) x.constraints) e (literals-within m d.constraints f.1.1.1.1.0);
    }

-- the sections of a text that is read are in range
pub read_range : (lim : Limits) (witness : Bool) (t : Bytes) (s : Sections) → read_aag lim witness t ≡ got s → InRange s
read_range lim witness t s e =
    let a = read_accepted lim witness t s e in
    body-range s a.body a.tail.symbols a.is a.numbered
