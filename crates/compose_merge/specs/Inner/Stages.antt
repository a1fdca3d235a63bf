-- For the contracts of the composer's inner functions: what stands in the work words after each pass.
use Rattle.std.specs.Prelude.{ℕ, suc, ◌+◌, ◌-◌, ◌*◌, ◌≤◌, true, List, map, ◌≡◌, length, take, drop, Option}
use Rattle.lists.specs.Parts.{part, zeros}
use Rattle.witness_text.specs.declared.AagCounts.{AagCounts}
use Rattle.witness_read.specs.Sections.{Sections}
use Rattle.compose_spec.specs.Numbering.{input_firsts, leaf_count}
use Rattle.compose_spec.specs.Inner.Keys.{key_of}
use Rattle.compose_spec.specs.Composing.{composed_gates, gates_fit}
use Rattle.compose_joint.specs.Inner.Joint.{total_of, input_count, gate_count}
use Rattle.compose_joint.specs.Inner.Numbers.{number_all, joint_shared}
use Rattle.key_table.specs.Inner.Table.{Held}
use Rattle.compose_gather.specs.declared.Totals.{Totals}
use Rattle.compose_layout.specs.declared.Layout.{Layout}
use Rattle.compose_layout.specs.Inner.Laid.{Has, Summed}
use Rattle.compose_gates.specs.Inner.Latches.{Definable, Defines}
use Rattle.compose_gates.specs.Inner.Linked.{Sharable, Shares}
use Rattle.compose_numbers.specs.Inner.Marked.{CanNumber, Numbered, CanAdd, Added}
use Rattle.compose_merge.specs.Inner.Merged.{Base, input_numbers, latch_numbers}

-- the words from one place up to another are 0
pub record Clean (work : List ℕ) (a e : ℕ) : Type 0 where
  pub is : part work a e ≡ zeros (e - a)

-- the regions that must be 0 stand one behind the other, within the words; there are so many gates
pub record Clearable (at : Layout) (gates : ℕ) (work : List ℕ) : Type 0 where
  pub leaves : at.assigned ≤ at.vars
  pub heads : at.vars + 1 ≤ at.gates
  pub bits : at.gates + (gates + 1) ≤ at.bad_bits
  pub ends : at.bad_bits ≤ at.end
  pub fits : at.end ≤ length work

-- They are 0: the numbers assigned to the model's inputs and latches, with the composed variable of the constant behind them; the heads of
-- the table of gates; both sets of bits. Nothing in front of them is written.
pub record Clears (at : Layout) (gates : ℕ) (work work' : List ℕ) : Type 0 where
  pub leaves : Clean work' at.assigned (at.vars + 1)
  pub heads : Clean work' at.gates (at.gates + (gates + 1))
  pub bits : Clean work' at.bad_bits at.end
  pub before : take at.assigned work' ≡ take at.assigned work

-- the numbers of inputs and latches stand in their places
pub record Leaves (at : Layout) (work : List ℕ) (m : Sections) (ws : List Sections) : Type 0 where
  pub inputs : Has work (at.vars + 1) (input_numbers m ws)
  pub latches : Has work (at.vars + 1 + total_of input_count ws) (latch_numbers m ws)

-- what stands once gates are shared: all composed variables, and the composed gates by their keys
pub record Shared (at : Layout) (work : List ℕ) (m : Sections) (ws : List Sections) : Type 0 where
  pub leaves : Leaves at work m ws
  pub vars : Has work at.vars (joint_shared m ws).vars
  pub keys : Held (total_of gate_count ws + 1) (map key_of (composed_gates m ws)) (part work at.gates (at.gates + (4 * total_of gate_count ws + 1)))

-- so many gates are shared, and 17 does not apply
pub record GatesShared (t : Totals) (at : Layout) (n k g : ℕ) (work : List ℕ) (m : Sections) (ws : List Sections) : Type 0 where
  pub totals : Summed t ws
  pub base : Base at work m ws
  pub first : n ≡ suc (length (input_firsts m ws))
  pub next : k ≡ suc (leaf_count m ws)
  pub count : g ≡ length (composed_gates m ws)
  pub fits : gates_fit (leaf_count m ws) (composed_gates m ws) ≡ true
  pub shared : Shared at work m ws
  pub bits : Clean work at.bad_bits at.end

-- the origin words, the assigned numbers and room for the numbers of inputs and latches stand one behind the other within the words
pub record CanNumberAll (at : Layout) (mc : AagCounts) (t : Totals) (work : List ℕ) : Type 0 where
  pub inputs : at.input_origins ≤ at.latch_origins
  pub latches : at.latch_origins ≤ at.assigned
  pub vars : at.assigned + mc.inputs + mc.latches ≤ at.vars
  pub fits : at.vars + 1 + t.inputs + t.latches ≤ length work
  pub inputs_can :
      CanNumber (part work at.input_origins at.latch_origins) (part work at.assigned (at.assigned + mc.inputs)) 0 (part work (at.vars + 1) (at.vars + 1 + t.inputs)) 1
  pub latches_can : (first : ℕ)
      → first ≡ (number_all 0 1 (part work at.input_origins at.latch_origins) (part work at.assigned (at.assigned + mc.inputs))).next
      → CanNumber (part work at.latch_origins at.assigned) (part work (at.assigned + mc.inputs) (at.assigned + mc.inputs + mc.latches)) mc.inputs
      (part work (at.vars + 1 + t.inputs) (at.vars + 1 + t.inputs + t.latches)) first

-- the numbers are there, and only they and the assigned ones are written
pub record NumbersAll (at : Layout) (mc : AagCounts) (t : Totals) (work work' : List ℕ) (first next : ℕ) : Type 0 where
  pub inputs :
      Numbered (part work at.input_origins at.latch_origins) (part work at.assigned (at.assigned + mc.inputs)) 0 1 (part work' at.assigned (at.assigned + mc.inputs))
      (part work' (at.vars + 1) (at.vars + 1 + t.inputs)) first
  pub latches :
      Numbered (part work at.latch_origins at.assigned) (part work (at.assigned + mc.inputs) (at.assigned + mc.inputs + mc.latches)) mc.inputs first
      (part work' (at.assigned + mc.inputs) (at.assigned + mc.inputs + mc.latches)) (part work' (at.vars + 1 + t.inputs) (at.vars + 1 + t.inputs + t.latches)) next
  pub before : take at.assigned work' ≡ take at.assigned work
  pub between : part work' (at.assigned + mc.inputs + mc.latches) (at.vars + 1) ≡ part work (at.assigned + mc.inputs + mc.latches) (at.vars + 1)
  pub behind : drop (at.vars + 1 + t.inputs + t.latches) work' ≡ drop (at.vars + 1 + t.inputs + t.latches) work

-- the operands, the composed variables and the table of gates stand one behind the other within the words
pub record CanShare (at : Layout) (t : Totals) (leaves : ℕ) (work : List ℕ) : Type 0 where
  pub operands : at.operands ≤ at.safety
  pub lists : at.safety ≤ at.vars
  pub vars : at.vars ≤ at.gates
  pub table : at.gates ≤ at.definitions
  pub fits : at.definitions ≤ length work
  pub known : 1 + t.inputs + t.latches ≤ length work
  pub can : Sharable (part work at.operands at.safety) (part work at.vars at.gates) (1 + t.inputs + t.latches) (part work at.gates at.definitions) leaves

-- the gates are shared in the last two of them, and no other words are written
pub record SharesAll (at : Layout) (t : Totals) (leaves : ℕ) (work work' : List ℕ) (r : Option ℕ) : Type 0 where
  pub shares :
      Shares (part work at.operands at.safety) (part work at.vars at.gates) (1 + t.inputs + t.latches) leaves (part work' at.vars at.gates) (part work' at.gates at.definitions) r
  pub before : take at.vars work' ≡ take at.vars work
  pub behind : drop at.definitions work' ≡ drop at.definitions work

-- the words of the latches, the composed variables and room for definitions stand one behind the other within the words
pub record CanDefine (at : Layout) (t : Totals) (first : ℕ) (work : List ℕ) : Type 0 where
  pub latches : at.latches ≤ at.operands
  pub ahead : at.operands ≤ at.definitions
  pub vars : at.vars ≤ at.gates
  pub gates : at.gates ≤ at.definitions
  pub definitions : at.definitions ≤ at.bad_bits
  pub fits : at.bad_bits ≤ length work
  pub can : Definable (part work at.latches at.operands) (part work at.vars at.gates) (1 + t.inputs) (part work at.definitions at.bad_bits) first

-- they are defined in that room, and no other words are written
pub record DefinesAll (at : Layout) (t : Totals) (first : ℕ) (work work' : List ℕ) (r : Option ℕ) : Type 0 where
  pub defines :
      Defines (part work at.latches at.operands) (part work at.vars at.gates) (1 + t.inputs) first (part work at.definitions at.bad_bits) (part work' at.definitions at.bad_bits) r
  pub before : take at.definitions work' ≡ take at.definitions work
  pub behind : drop at.bad_bits work' ≡ drop at.bad_bits work

-- the joint lists, the composed variables and both sets of bits, which are empty, stand one behind the other within the words
pub record CanCollect (at : Layout) (work : List ℕ) : Type 0 where
  pub safety : at.safety ≤ at.constraints
  pub constraints : at.constraints ≤ at.input_origins
  pub lists : at.input_origins ≤ at.bad_bits
  pub vars : at.vars ≤ at.bad_bits
  pub bits : at.constraint_bits ≡ at.bad_bits + at.bits
  pub end : at.end ≡ at.constraint_bits + at.bits
  pub fits : at.end ≤ length work
  pub bads_can : CanAdd (part work at.safety at.constraints) (part work at.vars at.bad_bits) (part work at.bad_bits at.constraint_bits)
  pub constraints_can : CanAdd (part work at.constraints at.input_origins) (part work at.vars at.bad_bits) (part work at.constraint_bits at.end)

-- so many composed literals stand in each of the sets, and nothing in front of them is written
pub record Collects (at : Layout) (work work' : List ℕ) (bads constraints : ℕ) : Type 0 where
  pub bads_added : Added (part work at.safety at.constraints) (part work at.vars at.bad_bits) (part work' at.bad_bits at.constraint_bits) bads
  pub constraints_added : Added (part work at.constraints at.input_origins) (part work at.vars at.bad_bits) (part work' at.constraint_bits at.end) constraints
  pub before : take at.bad_bits work' ≡ take at.bad_bits work
