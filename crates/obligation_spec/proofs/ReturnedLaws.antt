-- Demand 3 (R11.6) for the clauses returned: the count, and the first words of the two lent buffers once the clauses stand there.
use Prim.Native.Nat.{ℕ}
use mathlib.Core.List.{List}
use mathlib.Core.Path.{◌≡◌, sym, subst}
use lib.ListN.{length}
use Rattle.lists.specs.Answer.{got}
use Rattle.lists.specs.Parts.{front}
use Rattle.model.proofs.ValueLaws.{Sized}
use Rattle.cnf.specs.Clauses.{Clause, literals_of, pairs_from, returned}
use Rattle.cnf.proofs.ReturnedLaws.{returned-back}
use Rattle.obligation_spec.specs.Lists.{outcomes_of}
use Rattle.obligation_spec.specs.Calls.{Asked, circuit, predicate, Lent, relation_row, transducer_row, terminal_list}
use Rattle.obligation_spec.specs.Meaning.{ToTarget, ToOutcome, RowMeans, TerminalMeans}
use Rattle.obligation_spec.proofs.MeaningLaws.{relation_means, transducer_means, terminal_means}

module _ (cs : List Clause) (pairs words : List ℕ) where
  -- the clauses that stand in front of what was in the buffers
  abbrev pub in_buffers : List Clause
  in_buffers = returned (length cs) (front pairs (pairs_from 0 cs)) (front words (literals_of cs))

  -- what holds of the clauses holds of those returned
  pub of_returned : (P : List Clause → Type 0) → P cs → P in_buffers
  of_returned P h = subst P (sym (returned-back cs pairs words)) h

  module _ (q : Asked) (lent : Lent) (sized : Sized q.model) where
    pub relation_returned : (source : ℕ) (targets : List ℕ) → relation_row q source targets lent ≡ got cs
        → RowMeans (circuit q) q.relevant (predicate q) source (ToTarget (circuit q) source targets) in_buffers
    relation_returned source targets e =
        of_returned (RowMeans (circuit q) q.relevant (predicate q) source (ToTarget (circuit q) source targets)) (relation_means q source targets lent cs sized e)

    pub transducer_returned : (source : ℕ) (observed outcomes : List ℕ) → transducer_row q source observed outcomes lent ≡ got cs
        → RowMeans (circuit q) q.relevant (predicate q) source (ToOutcome (circuit q) source observed (outcomes_of outcomes)) in_buffers
    transducer_returned source observed outcomes e =
        of_returned (RowMeans (circuit q) q.relevant (predicate q) source (ToOutcome (circuit q) source observed (outcomes_of outcomes)))
        (transducer_means q source observed outcomes lent cs sized e)

    pub terminal_returned : (bad : ℕ) (states : List ℕ) → terminal_list q bad states lent ≡ got cs
        → TerminalMeans (circuit q) q.relevant (predicate q) bad states in_buffers
    terminal_returned bad states e = of_returned (TerminalMeans (circuit q) q.relevant (predicate q) bad states) (terminal_means q bad states lent cs sized e)
