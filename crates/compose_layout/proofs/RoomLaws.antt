-- Laws of how much room the regions need.
use Prim.Native.Nat.{ℕ, ◌+◌, ◌*◌, ◌≤◌}
use mathlib.Core.List.{List, [], ◌∷◌}
use mathlib.Core.Path.{◌≡◌, refl}
use native.Mathlib.Omega.{arith}
use lib.ListN.{length}
use Rattle.lists.proofs.WordLaws.{words-length}
use Rattle.witness_read.specs.Sections.{Sections}
use Rattle.witness_load.specs.Inner.Loaded.{latch_words, operand_words}
use Rattle.compose_spec.specs.Composing.{or_outputs}
use Rattle.compose_spec.specs.Calling.{sizes}
use Rattle.compose_joint.specs.declared.Literals.TheVariants as literals
use Rattle.compose_joint.specs.Inner.Joint.{total_of, input_count, latch_count, gate_count}
use Rattle.compose_gather.specs.Inner.Gathered.{word_total, literal_count}
use Rattle.compose_gather.proofs.BlockLaws.{words_for_lem}

abbrev output_count : Sections → ℕ
output_count s = length s.outputs

abbrev bad_count : Sections → ℕ
bad_count s = length s.bads

abbrev constraint_count : Sections → ℕ
constraint_count s = length s.constraints

safety-most : (bads outputs : List ℕ) → length (or_outputs bads outputs) ≤ length outputs + length bads
safety-most [] outputs = omega arith
safety-most (b ∷ bs) outputs = omega arith

-- the amounts of all witnesses, by their counts
pub record Amounts (ws : List Sections) : Type 0 where
  pub O : ℕ
  pub B : ℕ
  pub C : ℕ
  pub words : word_total ws ≡ 2 * total_of input_count ws + 4 * total_of latch_count ws + O + B + C + 2 * total_of gate_count ws
  pub latches : total_of (literal_count literals.Latches) ws ≡ 2 * total_of latch_count ws
  pub operands : total_of (literal_count literals.Operands) ws ≡ 2 * total_of gate_count ws
  pub safety : total_of (literal_count literals.Safety) ws ≤ O + B
  pub constraints : total_of (literal_count literals.Constraints) ws ≡ C
  pub all : sizes ws ≡ total_of input_count ws + total_of latch_count ws + total_of gate_count ws + O + B + C

pub amounts : (ws : List Sections) → Amounts ws
amounts [] =
    record {
      O = 0;
      B = 0;
      C = 0;
      words = refl;
      latches = refl;
      operands = refl;
      safety = omega arith;
      constraints = refl;
      all = refl;
    }
amounts (s ∷ ss) =
    let k = amounts ss in
    let l = words-length latch_words 2 (λ q. refl) s.latches in
    let o = words-length operand_words 2 (λ g. refl) s.gates in
    record {
      O = output_count s + k.O;
      B = bad_count s + k.B;
      C = constraint_count s + k.C;
      words = omega (arith, words_for_lem s, k.words);
      latches = omega (arith, l, k.latches);
      operands = omega (arith, o, k.operands);
      safety = omega (arith, safety-most s.bads s.outputs, k.safety);
      constraints = omega (arith, k.constraints);
      all = omega (arith, k.all);
    }
