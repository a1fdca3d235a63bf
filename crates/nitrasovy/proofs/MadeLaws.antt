-- The obligations' promises, of the flat answer.
use Prim.Native.Nat.{ℕ}
use mathlib.Core.List.{List}
use Rattle.std.specs.Prelude.{Result}
use mathlib.Core.Path.{◌≡◌, refl, sym, ap, ◌∙◌}
use Rattle.lists.specs.Answer.{Answer, got, refused, and_then}
use Rattle.cnf.specs.declared.ClauseCounts.{ClauseCounts}
use Rattle.cnf.specs.Clauses.{Clause}
use Rattle.obligation_spec.specs.Lists.{outcomes_of}
use Rattle.obligation_spec.specs.Calls.{Asked, circuit, predicate}
use Rattle.obligation_spec.specs.Meaning.{RowMeans, TerminalMeans, ToTarget, ToOutcome}
use Rattle.aiger.specs.declared.Refusal.{Refusal}
use Rattle.aiger.specs.Refusals.{answered}
use Rattle.obligation.specs.Promise.{sizes, Buffers, lent_of, Makes, clauses_after, MakesRelation, MakesTransducer, MakesTerminal}
use Rattle.nitrasovy.specs.declared.obligations.NitMade.{NitMade}
use Rattle.nitrasovy.specs.Reasons.{made_reasons, Among}
use Rattle.nitrasovy.specs.Inner.FlatEnums.{flat_sizes}
use Rattle.nitrasovy.specs.FlatObligations.{flat_made, MakesFlat, clauses_flat, RelationFlat, TransducerFlat, TerminalFlat}
use Rattle.nitrasovy.proofs.ReasonLaws.{no_reason}
use Rattle.nitrasovy.proofs.CallReasons.{relation_among, transducer_among, terminal_among}

flat_sizes_lem : (a : Answer (List Clause)) → flat_sizes (and_then a (λ cs. got (sizes cs))) ≡ flat_made a
flat_sizes_lem (got cs) = refl
flat_sizes_lem (refused n) = refl

-- reason 0 is that of an answer, since no refusal has it
sizes-accepted : (a : Answer (List Clause)) → Among made_reasons a → (r : NitMade) → r ≡ flat_made a → r.reason ≡ 0 → (t : ClauseCounts) × (and_then a (λ cs. got (sizes cs)) ≡ got t) × (r.clauses ≡ t.clauses)
sizes-accepted (got cs) h r e z = (sizes cs, refl, ap (λ (x : NitMade). x.clauses) e)
sizes-accepted (refused n) h r e z = no_reason made_reasons n refl (h.numbered n refl) (sym (ap (λ (x : NitMade). x.reason) e) ∙ z)

-- what holds of the clauses that the code's answer counts holds of those that the flat answer counts
module _ (answer : Answer (List Clause)) (among : Among made_reasons answer) (b : Buffers) (made : Result ClauseCounts Refusal) (after : Buffers) (m : Makes answer b made after) (r : NitMade) (q : r ≡ flat_sizes (answered made)) where
  flat_is : r ≡ flat_made answer
  flat_is = q ∙ ap flat_sizes m.answers ∙ flat_sizes_lem answer

  makes_flat : MakesFlat answer b r after
  makes_flat = record { answers = flat_is; numbered = among; pairs = m.pairs; literals = m.literals; clears = m.clears }

  means_flat : (P : List Clause → Type 0) → ((t : ClauseCounts) → answered made ≡ got t → P (clauses_after t after)) → r.reason ≡ 0 → P (clauses_flat r after)
  means_flat P h z =
      let t = sizes-accepted answer among r flat_is z in
      rw t.2 (h t.0 (m.answers ∙ t.1))

module _ (q : Asked) (b : Buffers) (made : Result ClauseCounts Refusal) (after : Buffers) (r : NitMade) (e : r ≡ flat_sizes (answered made)) where
  pub relation_flat : (source : ℕ) (targets : List ℕ) → MakesRelation q source targets b made after → RelationFlat q source targets b r after
  relation_flat source targets m =
      let a = relation_among q source targets (lent_of b) in
      record { makes = makes_flat _ a b made after m.makes r e; means = means_flat _ a b made after m.makes r e (RowMeans (circuit q) q.relevant (predicate q) source (ToTarget (circuit q) source targets)) m.means }

  pub transducer_flat : (source : ℕ) (observed outcomes : List ℕ) → MakesTransducer q source observed outcomes b made after → TransducerFlat q source observed outcomes b r after
  transducer_flat source observed outcomes m =
      let a = transducer_among q source observed outcomes (lent_of b) in
      record { makes = makes_flat _ a b made after m.makes r e; means = means_flat _ a b made after m.makes r e (RowMeans (circuit q) q.relevant (predicate q) source (ToOutcome (circuit q) source observed (outcomes_of outcomes))) m.means }

  pub terminal_flat : (bad : ℕ) (states : List ℕ) → MakesTerminal q bad states b made after → TerminalFlat q bad states b r after
  terminal_flat bad states m =
      let a = terminal_among q bad states (lent_of b) in
      record { makes = makes_flat _ a b made after m.makes r e; means = means_flat _ a b made after m.makes r e (TerminalMeans (circuit q) q.relevant (predicate q) bad states) m.means }
