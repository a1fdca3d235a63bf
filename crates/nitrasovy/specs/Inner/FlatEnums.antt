-- For the contracts of inner functions: the code's enums as flat structs.
use Rattle.std.specs.Prelude.{ℕ}
use Rattle.lists.specs.Answer.{Answer, got, refused}
use Rattle.cnf.specs.declared.ClauseCounts.{ClauseCounts}
use Rattle.witness_text.specs.declared.AagCounts.{AagCounts}
use Rattle.nitrasovy.specs.declared.obligations.NitMade.{NitMade}
use Rattle.nitrasovy.specs.declared.witnesses.NitWitness.{NitWitness}
use Rattle.nitrasovy.specs.declared.compositions.NitComposed.{NitComposed}

abbrev pub flat_sizes : Answer ClauseCounts → NitMade
flat_sizes (got t) = record { reason = 0; clauses = t.clauses; literals = t.literals }
flat_sizes (refused n) = record { reason = n; clauses = 0; literals = 0 }

abbrev pub flat_counts : Answer AagCounts → NitWitness
flat_counts (got n) =
    record {
      reason = 0;
      max_variable = n.max_variable;
      inputs = n.inputs;
      latches = n.latches;
      outputs = n.outputs;
      gates = n.gates;
      bads = n.bads;
      constraints = n.constraints;
    }
flat_counts (refused k) = record { reason = k; max_variable = 0; inputs = 0; latches = 0; outputs = 0; gates = 0; bads = 0; constraints = 0 }

abbrev pub flat_bytes : Answer ℕ → NitComposed
flat_bytes (got n) = record { reason = 0; bytes = n }
flat_bytes (refused k) = record { reason = k; bytes = 0 }
