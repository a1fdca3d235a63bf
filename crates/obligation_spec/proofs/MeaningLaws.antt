-- Demand 3 (R11) for the calls: what the clauses of an accepted row or terminal list mean. The only premise beside acceptance is that the
-- record has eight latches, as every record of the code has.
use Prim.Native.Nat.{ℕ, ◌≤◌}
use mathlib.Core.List.{List}
use mathlib.Core.Path.{◌≡◌, sym, subst}
use native.Mathlib.Omega.{arith}
use lib.ListN.{length}
use Rattle.lists.specs.Answer.{got}
use Rattle.lists.proofs.CountLaws.{distinct-count}
use Rattle.lists.proofs.RisingLaws.{rising-distinct}
use Rattle.model.proofs.CountLaws.{counted_facts}
use Rattle.model.specs.Checked.{counts_of}
use Rattle.model.proofs.ValueLaws.{Sized, Sound, checked-got, checked-sound, checked-counts}
use Rattle.model_step.specs.declared.Outcome.{Outcome}
use Rattle.cnf.specs.Clauses.{Clause}
use Rattle.obligation_spec.specs.Lists.{outcomes_of}
use Rattle.obligation_spec.specs.Calls.{Asked, circuit, predicate, Lent, relation_row, transducer_row, terminal_list}
use Rattle.obligation_spec.specs.Meaning.{ToTarget, ToOutcome, RowMeans, TerminalMeans}
use Rattle.obligation_spec.proofs.BodyLaws.{Boundary}
use Rattle.obligation_spec.proofs.ClaimLaws.{Observed}
use Rattle.obligation_spec.proofs.RowLaws.{relation_clauses_mean, transducer_clauses_mean}
use Rattle.obligation_spec.proofs.TerminalLaws.{terminal_clauses_mean}
use Rattle.obligation_spec.proofs.AcceptedLaws.{AskedFor, OutcomesClaimed, relation_got, transducer_got, terminal_got}

module _ (q : Asked) (lent : Lent) (sized : Sized q.model) (a : AskedFor q lent (circuit q)) where
  pub asked-sound : Sound (circuit q)
  asked-sound = checked-sound q.model q.gates lent.work (circuit q) sized a.checks

  pub asked-boundary : Boundary (circuit q) q.relevant (predicate q)
  asked-boundary = record { inputs = a.bounds.inputs; indices = a.bounds.indices }

  -- R5.3: the limit on outputs
  pub asked-outputs : length (circuit q).outputs ≤ 128
  asked-outputs =
      let p = checked-got q.model q.gates lent.work (circuit q) a.checks in
      let n = counted_facts (counts_of q.model) p.counts in
      let k = checked-counts q.model q.gates lent.work (circuit q) sized a.checks in
      omega (arith, n.outputs, k.outputs)

  -- observed outputs rise and are below O, so that an outcome has a bit for each
  pub asked-observed : (observed : List ℕ) (outcomes : List Outcome) → OutcomesClaimed (circuit q) observed outcomes → Observed (circuit q) observed
  asked-observed observed outcomes o =
      let n = distinct-count (length (circuit q).outputs) observed (rising-distinct observed o.rises) o.outputs in
      record { few = omega (arith, n, asked-outputs); inside = o.outputs }

pub relation_means : (q : Asked) (source : ℕ) (targets : List ℕ) (lent : Lent) (cs : List Clause) → Sized q.model
    → relation_row q source targets lent ≡ got cs
    → RowMeans (circuit q) q.relevant (predicate q) source (ToTarget (circuit q) source targets) cs
relation_means q source targets lent cs sized e =
    let a = relation_got q source targets lent cs e in
    subst (λ (ds : List Clause). RowMeans (circuit q) q.relevant (predicate q) source (ToTarget (circuit q) source targets) ds) (sym a.is)
    (relation_clauses_mean (circuit q) (asked-sound q lent sized a.asks) q.relevant (predicate q) (asked-boundary q lent sized a.asks) source
    targets a.claims.inside)

pub transducer_means : (q : Asked) (source : ℕ) (observed outcomes : List ℕ) (lent : Lent) (cs : List Clause) → Sized q.model
    → transducer_row q source observed outcomes lent ≡ got cs
    → RowMeans (circuit q) q.relevant (predicate q) source (ToOutcome (circuit q) source observed (outcomes_of outcomes)) cs
transducer_means q source observed outcomes lent cs sized e =
    let a = transducer_got q source observed outcomes lent cs e in
    subst (λ (ds : List Clause). RowMeans (circuit q) q.relevant (predicate q) source (ToOutcome (circuit q) source observed (outcomes_of outcomes)) ds) (sym a.is)
    (transducer_clauses_mean (circuit q) (asked-sound q lent sized a.asks) q.relevant (predicate q) (asked-boundary q lent sized a.asks) source
    observed (asked-observed q lent sized a.asks observed (outcomes_of outcomes) a.claims) (outcomes_of outcomes) a.claims.states)

pub terminal_means : (q : Asked) (bad : ℕ) (states : List ℕ) (lent : Lent) (cs : List Clause) → Sized q.model
    → terminal_list q bad states lent ≡ got cs
    → TerminalMeans (circuit q) q.relevant (predicate q) bad states cs
terminal_means q bad states lent cs sized e =
    let a = terminal_got q bad states lent cs e in
    subst (λ (ds : List Clause). TerminalMeans (circuit q) q.relevant (predicate q) bad states ds) (sym a.is)
    (terminal_clauses_mean (circuit q) (asked-sound q lent sized a.asks) q.relevant (predicate q) (asked-boundary q lent sized a.asks)
    bad a.is_output states a.claims.inside)
