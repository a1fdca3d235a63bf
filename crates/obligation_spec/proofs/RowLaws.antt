-- Demand 3 (R11) for rows, over any claims: the clauses of a row's lists mean that every word that meets the predicate ends in a claim.
use Prim.Native.Nat.{ℕ}
use mathlib.Core.Bool.{Bool, true, false}
use mathlib.Core.List.{List, map}
use mathlib.Core.Path.{◌≡◌, refl, sym, ◌∙◌}
use lib.ListN.{length}
use Rattle.lists.specs.Tests.{all, any, Each}
use Rattle.lists.specs.Words.{words_of}
use Rattle.lists.proofs.BoolLaws.{true-false, to_false}
use Rattle.aiger.specs.Gates.{Valuation, value}
use Rattle.model.specs.Circuit.{Circuit}
use Rattle.model.specs.Values.{Settles}
use Rattle.model.proofs.ValueLaws.{Sound, settles-exist}
use Rattle.model_step.specs.declared.Outcome.{Outcome}
use Rattle.cnf.specs.Clauses.{Clause, Assignment, satisfies, Unsatisfiable, valuation_of}
use Rattle.cnf.specs.Simplified.{simplified}
use Rattle.cnf.proofs.TruthLaws.{clauses-true}
use Rattle.cnf.proofs.VariableLaws.{clauses-below, assignment_length, assignment_true, assignment_of}
use Rattle.obligation_spec.specs.Lists.{row_lists, target_list, outcome_list, relation_clauses, transducer_clauses}
use Rattle.obligation_spec.specs.Meaning.{State, Complete, ToTarget, ToOutcome, Escapes, RowMeans}
use Rattle.obligation_spec.proofs.BodyLaws.{Boundary, word_under, values_lt, row-true, row-says}
use Rattle.obligation_spec.proofs.LowLaws.{LowLists, row_low}
use Rattle.obligation_spec.proofs.ClaimLaws.{Claims, Observed, target-claims, outcome-claims}

module _ (c : Circuit) (sound : Sound c) (relevant : List ℕ) (predicate : List Clause) (b : Boundary c relevant predicate) (s : ℕ) where
  module _ (Claimed : ℕ → Type 0) (claims : List (List ℕ)) (k : Claims c s Claimed claims) where
    abbrev lists : List (List ℕ)
    lists = row_lists c relevant predicate s claims

    abbrev clauses : List Clause
    clauses = words_of simplified lists

    low : LowLists c.variables lists
    low = row_low c sound relevant predicate b claims k.low s

    satisfied_escapes : (a : Assignment) → satisfies a clauses ≡ true → Escapes c relevant predicate s Claimed a
    satisfied_escapes a h =
        let v : Valuation = valuation_of a in
        let r = row-says c relevant predicate b v s refl claims (sym (clauses-true a lists) ∙ h) in
        record {
          word = word_under c v;
          input = values_lt v c.inputs (length c.inputs) refl;
          meets = r.meets;
          settles = r.settles;
          unclaimed = λ q. true-false r.claims_hold (k.unmet (word_under c v) v r.settles q);
        }

    escapes_satisfied : (a : Assignment) → Escapes c relevant predicate s Claimed a → satisfies a clauses ≡ true
    escapes_satisfied a e = clauses-true a lists ∙ row-true c relevant predicate b v s e.word claims e.settles e.meets (holds (all (any (value v)) claims) refl)
      where
        v : Valuation
        v = valuation_of a

        holds : (t : Bool) → all (any (value v)) claims ≡ t → all (any (value v)) claims ≡ true
        holds true q = q
        holds false q = absurd (e.unclaimed (k.met e.word v e.settles q))

    unsatisfiable_complete : Unsatisfiable c.variables clauses → Complete c relevant predicate Claimed
    unsatisfiable_complete unsatisfiable x i m =
        let found = settles-exist c sound s x in
        let v : Valuation = found.0 in
        let f : Settles c s x v = found.1 in
        k.met x v f
        (to_false (all (any (value v)) claims)
        (λ h.
        unsatisfiable (assignment_of c.variables v) (assignment_length c.variables v)
        (assignment_true c.variables v f.follows.constant lists low ∙ row-true c relevant predicate b v s x claims f m h)))

    complete_unsatisfiable : Complete c relevant predicate Claimed → Unsatisfiable c.variables clauses
    complete_unsatisfiable complete a n h = let e = satisfied_escapes a h in e.unclaimed (complete e.word e.input e.meets)

    pub row-means : RowMeans c relevant predicate s Claimed clauses
    row-means =
        record {
          complete = (unsatisfiable_complete, complete_unsatisfiable);
          assignments = λ a n. (satisfied_escapes a, escapes_satisfied a);
          variables = clauses-below c.variables lists low;
        }

  -- every input word that meets the predicate leads to a claimed target
  pub relation_clauses_mean : (targets : List ℕ) → Each (State c) targets → RowMeans c relevant predicate s (ToTarget c s targets) (relation_clauses c relevant predicate s targets)
  unfolding relation_clauses
  relation_clauses_mean targets states = row-means (ToTarget c s targets) (map (target_list c) targets) (target-claims c sound s targets states)

  -- where outputs are claimed: to the target and the observed outputs of one outcome
  pub transducer_clauses_mean : (observed : List ℕ) → Observed c observed → (outcomes : List Outcome) → Each (λ o. State c o.target) outcomes
      → RowMeans c relevant predicate s (ToOutcome c s observed outcomes) (transducer_clauses c relevant predicate s observed outcomes)
  unfolding transducer_clauses
  transducer_clauses_mean observed k outcomes states =
      row-means (ToOutcome c s observed outcomes) (map (outcome_list c observed) outcomes) (outcome-claims c sound s observed k outcomes states)
