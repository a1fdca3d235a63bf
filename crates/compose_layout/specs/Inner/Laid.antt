-- For the contracts of the composer's inner functions: where everything stands in the work words.
use Rattle.std.specs.Prelude.{ℕ, suc, ◌+◌, ◌*◌, ◌/◌, ◌≤◌, true, false, List, [], ◌∷◌, ◌≡◌, length, Option, Some, None}
use Rattle.lists.specs.Parts.{Bytes, part}
use Rattle.lists.specs.Tests.{all}
use Rattle.witness_text.specs.declared.AagCounts.{AagCounts}
use Rattle.witness_read.specs.Sections.{Sections, variables}
use Rattle.witness_read.specs.Reading.{counts_in}
use Rattle.compose_spec.specs.Composing.{maps_right}
use Rattle.compose_spec.specs.Calling.{sizes, texts_in}
use Rattle.compose_joint.specs.declared.Literals.{Literals}
use Rattle.compose_joint.specs.declared.Literals.TheVariants as literals
use Rattle.compose_joint.specs.declared.Leaves.TheVariants as leaf
use Rattle.compose_joint.specs.Inner.Joint.{total_of, input_count, latch_count, gate_count, joint, list_of, origins}
use Rattle.compose_gather.specs.declared.Totals.{Totals}
use Rattle.compose_gather.specs.Inner.Gathered.{Blocks, word_total, Readable, literal_count}
use Rattle.compose_layout.specs.declared.Layout.{Layout}
use Rattle.compose_layout.specs.declared.Lists.{Lists}

-- the list xs stands in the words from the place a on
pub record Has (work : List ℕ) (a : ℕ) (xs : List ℕ) : Type 0 where
  pub room : a + length xs ≤ length work
  pub is : part work a (a + length xs) ≡ xs

-- how many inputs, latches and gates all witnesses have
abbrev pub variable_total : List Sections → ℕ
variable_total ws = total_of input_count ws + total_of latch_count ws + total_of gate_count ws

-- The regions, one behind the other: the texts' words; the joint lists; the origins; the numbers assigned to the model's inputs and latches; the composed variables; the
-- table of gates; the definitions of latches; the bads and the constraints as bits.
pub record Regions (m : Sections) (ws : List Sections) (at : Layout) : Type 0 where
  pub latches : at.latches ≡ word_total ws
  pub operands : at.operands ≡ at.latches + 2 * total_of latch_count ws
  pub safety : at.safety ≡ at.operands + 2 * total_of gate_count ws
  pub constraints : at.constraints ≡ at.safety + total_of (literal_count literals.Safety) ws
  pub input_origins : at.input_origins ≡ at.constraints + total_of (literal_count literals.Constraints) ws
  pub latch_origins : at.latch_origins ≡ at.input_origins + total_of input_count ws
  pub assigned : at.assigned ≡ at.latch_origins + total_of latch_count ws
  pub vars : at.vars ≡ at.assigned + (length m.inputs + length m.latches)
  pub gates : at.gates ≡ at.vars + suc (variable_total ws)
  pub definitions : at.definitions ≡ at.gates + (4 * total_of gate_count ws + 1)
  pub bad_bits : at.bad_bits ≡ at.definitions + 2 * total_of latch_count ws
  pub bits : at.bits ≡ variable_total ws / 32 + 1
  pub constraint_bits : at.constraint_bits ≡ at.bad_bits + at.bits
  pub end : at.end ≡ at.constraint_bits + at.bits

-- something holds of some model and witnesses
pub record OfSome (Stage : Sections → List Sections → Type 0) : Type 0 where
  pub m : Sections
  pub ws : List Sections
  pub holds : Stage m ws

-- the totals are those of the witnesses
pub record Summed (t : Totals) (ws : List Sections) : Type 0 where
  pub inputs : t.inputs ≡ total_of input_count ws
  pub latches : t.latches ≡ total_of latch_count ws
  pub gates : t.gates ≡ total_of gate_count ws

-- the witnesses and the model of a call that 1 to 11 and 15 let pass, and the totals counted of them
pub record Fitting (mc : AagCounts) (t : Totals) (buffer : Bytes) (pairs work : List ℕ) (m : Sections) (ws : List Sections) : Type 0 where
  pub readable : Readable buffer pairs ws
  pub model : mc ≡ counts_in m
  pub few : variables m ≤ 2000000
  pub totals : Summed t ws
  pub room : 16 * sizes (m ∷ ws) + 1024 ≤ length work

-- the joint lists and the origins stand in their places
pub record Stands (at : Layout) (work : List ℕ) (m : Sections) (ws : List Sections) : Type 0 where
  pub latches : Has work at.latches (joint (list_of literals.Latches) ws)
  pub operands : Has work at.operands (joint (list_of literals.Operands) ws)
  pub safety : Has work at.safety (joint (list_of literals.Safety) ws)
  pub constraints : Has work at.constraints (joint (list_of literals.Constraints) ws)
  pub input_origins : Has work at.input_origins (origins leaf.Inputs m ws)
  pub latch_origins : Has work at.latch_origins (origins leaf.Latches m ws)

-- and in front of them what is read of the witnesses
pub record Listed (buffer : Bytes) (pairs : List ℕ) (m : Sections) (ws : List Sections) (at : Layout) (work : List ℕ) : Type 0 where
  pub blocks : Blocks (texts_in buffer pairs) ws work
  pub stands : Stands at work m ws

-- all of it, within the words
pub record Ready (buffer : Bytes) (pairs : List ℕ) (m : Sections) (ws : List Sections) (at : Layout) (work : List ℕ) : Type 0 where
  pub regions : Regions m ws at
  pub listed : Listed buffer pairs m ws at work
  pub fits : at.end ≤ length work

-- 16, or all is laid out
abbrev pub LaidOut : Bytes → List ℕ → Sections → List Sections → List ℕ → Option Layout → Type 0
LaidOut buffer pairs m ws work (Some at) = (all (maps_right m) ws ≡ true) × Ready buffer pairs m ws at work
LaidOut buffer pairs m ws work None = all (maps_right m) ws ≡ false

abbrev pub CanLay : AagCounts → Totals → Bytes → List ℕ → List ℕ → Type 0
CanLay mc t buffer pairs work = OfSome (Fitting mc t buffer pairs work)

abbrev pub Lays : AagCounts → Totals → Bytes → List ℕ → List ℕ → List ℕ → Option Layout → Type 0
Lays mc t buffer pairs work work' r = (m : Sections) (ws : List Sections) → Fitting mc t buffer pairs work m ws → LaidOut buffer pairs m ws work' r

-- ---- region by region

-- a list that stands at a place
pub record Known : Type 0 where
  pub place : ℕ
  pub words : List ℕ

-- how long lists are together
abbrev pub known_length : List Known → ℕ
known_length [] = 0
known_length (k ∷ ks) = length k.words + known_length ks

-- lists stand one behind the other, from the place a on
abbrev pub Standing : List ℕ → ℕ → List Known → Type 0
Standing work a [] = Unit {0}
Standing work a (k ∷ ks) = ((k.place ≡ a) × Has work a k.words) × Standing work (a + length k.words) ks

-- the texts' words stand in front, and these lists behind them, up to the place `to`
pub record Stage (mc : AagCounts) (t : Totals) (buffer : Bytes) (pairs work : List ℕ) (ks : List Known) (to : ℕ) (m : Sections) (ws : List Sections) : Type 0 where
  pub fitting : Fitting mc t buffer pairs work m ws
  pub blocks : Blocks (texts_in buffer pairs) ws work
  pub standing : Standing work (word_total ws) ks
  pub to_is : to ≡ word_total ws + known_length ks

-- from words that fit to these, where the lists stand
pub record Reaches (mc : AagCounts) (t : Totals) (buffer : Bytes) (pairs work work' : List ℕ) (ks : Sections → List Sections → List Known) (to : ℕ) : Type 0 where
  pub stage : (m : Sections) (ws : List Sections) → Fitting mc t buffer pairs work m ws → Stage mc t buffer pairs work' (ks m ws) to m ws

-- a joint list of literals at its place
abbrev pub literals_at : Literals → ℕ → List Sections → Known
literals_at kind a ws = record { place = a; words = joint (list_of kind) ws }

-- all four of them
abbrev pub with_lists : Lists → Sections → List Sections → List Known
with_lists l m ws =
    literals_at literals.Latches l.latches ws ∷ literals_at literals.Operands l.operands ws ∷ literals_at literals.Safety l.safety ws
    ∷ literals_at literals.Constraints l.constraints ws ∷ []

-- the witnesses can be laid out for a model with some counts
pub record CanList (t : Totals) (buffer : Bytes) (pairs work : List ℕ) : Type 0 where
  pub counts : AagCounts
  pub can : CanLay counts t buffer pairs work

-- the lists stand behind the texts' words, whatever the model
abbrev pub ListsLaid : Totals → Bytes → List ℕ → List ℕ → List ℕ → Lists → Type 0
ListsLaid t buffer pairs work work' l = (mc : AagCounts) → Reaches mc t buffer pairs work work' (with_lists l) l.end

-- ---- the places behind the lists

-- so many words have room for all regions
pub record LayoutFits (assigned : ℕ) (mc : AagCounts) (t : Totals) (size : ℕ) : Type 0 where
  pub fits : assigned + (mc.inputs + mc.latches) + (t.inputs + t.latches + t.gates + 1) + (4 * t.gates + 1) + 2 * t.latches
      + 2 * ((t.inputs + t.latches + t.gates) / 32 + 1) ≤ size

abbrev pub layout_of : Lists → ℕ → ℕ → AagCounts → Totals → Layout
layout_of l latch_origins assigned mc t =
    record {
      latches = l.latches;
      operands = l.operands;
      safety = l.safety;
      constraints = l.constraints;
      input_origins = l.end;
      latch_origins = latch_origins;
      assigned = assigned;
      vars = assigned + (mc.inputs + mc.latches);
      gates = assigned + (mc.inputs + mc.latches) + (t.inputs + t.latches + t.gates + 1);
      definitions = assigned + (mc.inputs + mc.latches) + (t.inputs + t.latches + t.gates + 1) + (4 * t.gates + 1);
      bad_bits = assigned + (mc.inputs + mc.latches) + (t.inputs + t.latches + t.gates + 1) + (4 * t.gates + 1) + 2 * t.latches;
      bits = (t.inputs + t.latches + t.gates) / 32 + 1;
      constraint_bits = assigned + (mc.inputs + mc.latches) + (t.inputs + t.latches + t.gates + 1) + (4 * t.gates + 1) + 2 * t.latches + ((t.inputs + t.latches + t.gates) / 32 + 1);
      end =
          assigned + (mc.inputs + mc.latches) + (t.inputs + t.latches + t.gates + 1) + (4 * t.gates + 1) + 2 * t.latches + ((t.inputs + t.latches + t.gates) / 32 + 1)
          + ((t.inputs + t.latches + t.gates) / 32 + 1);
    }
