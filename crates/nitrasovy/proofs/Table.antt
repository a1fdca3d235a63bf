-- The worked cases R13 and the composing case R14.7 as one statement, each row of the definitions that the calls promise.
use Rattle.std.specs.Prelude.{Some, None}
use mathlib.Core.Bool.{true, false}
use mathlib.Core.List.{[], ◌∷◌, ◌++◌}
use mathlib.Core.Path.{◌≡◌}
use Rattle.lists.specs.Quoted.{bytes}
use Rattle.lists.specs.Answer.{got, refused, and_then}
use Rattle.text.specs.declared.Reader.TheVariants.{Transition, Witness}
use Rattle.text.specs.Numbers.{number_of}
use Rattle.text.proofs.Examples.{plus_seven, plus_seven_witness, zero_seven_witness}
use Rattle.model_read.specs.Reading.{read_transition}
use Rattle.model_step.proofs.Table.{text_k, model_k, text_q, model_q, step_from, outcome, k_read, q_read, k-steps, q_step}
use Rattle.cnf.specs.Clauses.{satisfies, Unsatisfiable}
use Rattle.obligation_spec.specs.Calls.{relation_row, terminal_list}
use Rattle.obligation_spec.proofs.Table.{plain, enough, k_both, k_zero, k-both, k-zero, text_z, z_row_text, q_row, q_row_lem}
use Rattle.compose_spec.specs.Calling.{compose_call}
use Rattle.compose_spec.proofs.Examples.{model, first, second, together}
use Rattle.compose_spec.proofs.WorkedCalls.{composing_call}

pub record Table : Type 0 where
  -- K is read
  pub k-reads : read_transition text_k 3 4 ≡ got model_k
  -- R13.1, R13.2
  pub k-state_1 : (step_from model_k 4 1 1 ≡ outcome 1 1) × (step_from model_k 4 1 0 ≡ outcome 0 0) × (step_from model_k 4 2 1 ≡ refused 12) × (step_from model_k 4 1 2 ≡ refused 12)
  -- R13.3
  pub k_terminal_both : (terminal_list (plain model_k) 0 (0 ∷ 1 ∷ []) enough ≡ got k_both) × Unsatisfiable 3 k_both
  pub k_terminal_zero : (terminal_list (plain model_k) 0 (0 ∷ []) enough ≡ got k_zero) × (satisfies (false ∷ true ∷ false ∷ []) k_zero ≡ true)
  -- R13.4
  pub empty-clause : and_then (read_transition text_z 0 2) (λ c. relation_row (plain c) 0 (0 ∷ []) enough) ≡ got ((0 ∷ []) ∷ [] ∷ [])
  -- Q is read; R13.5, R13.6
  pub q_reads : read_transition text_q 6 4 ≡ got model_q
  pub q_state_1 : step_from model_q 4 1 0 ≡ outcome 0 0
  pub q_complete : (relation_row (plain model_q) 1 (1 ∷ []) enough ≡ got q_row) × Unsatisfiable 3 q_row
  -- R13.7
  pub plus_7 : (number_of Transition (bytes "+7") ≡ Some 7) × (number_of Witness (bytes "+7") ≡ Some 7)
  pub zero_7 : number_of Witness (bytes "07") ≡ None
  -- R14.7
  pub composes : compose_call 1104 82 model (first ++ second) (0 ∷ 20 ∷ 20 ∷ 20 ∷ []) ≡ got together

pub table : Table
table =
    record {
      k-reads = k_read;
      k-state_1 = k-steps;
      k_terminal_both = k-both;
      k_terminal_zero = k-zero;
      empty-clause = z_row_text;
      q_reads = q_read;
      q_state_1 = q_step;
      q_complete = q_row_lem;
      plus_7 = (plus_seven, plus_seven_witness);
      zero_7 = zero_seven_witness;
      composes = composing_call;
    }
