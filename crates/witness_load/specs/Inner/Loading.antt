-- For the contracts of the functions that load: what each of them says of the lines of a text.
use Rattle.std.specs.Prelude.{ℕ, ◌+◌, ◌*◌, ◌≤◌, ◌<◌, Bool, true, false, List, [], ◌∷◌, ◌++◌, map, ◌≡◌, length, set}
use Rattle.std.specs.Prelude.{Some, None}
use Rattle.std.specs.Borrow.{Bor}
use Rattle.std.specs.declared.option.Option as option
use Rattle.std.proofs.Math.Option.{Option, some}
use Rattle.lists.specs.Answer.{Answer, got, refused}
use Rattle.lists.specs.Parts.{Bytes, part}
use Rattle.lists.specs.Words.{pairs_of, words_of}
use Rattle.text.specs.Texts.{limited}
use Rattle.text.specs.declared.Reader.TheVariants.{Witness}
use Rattle.aiger.specs.declared.Gate.{Gate}
use Rattle.aiger.specs.Sections.{Section, section}
use Rattle.circuit_lines.specs.SectionLines.{literal_line, gate_line}
use Rattle.text.specs.Lines.{lines_of}
use Rattle.text.specs.Inner.Fronts.{Behind}
use Rattle.witness_text.specs.declared.AagCounts.{AagCounts}
use Rattle.witness_text.specs.declared.Kind.{Kind}
use Rattle.witness_text.specs.declared.Kind.TheVariants as kind
use Rattle.witness_text.specs.declared.Latch.{Latch}
use Rattle.witness_text.specs.Symbols.{Symbol, symbol_of}
use Rattle.witness_read.specs.Sections.{Sections}
use Rattle.witness_read.specs.Names.{Tail, is_input, is_latch, symbols_of, names_of}
use Rattle.witness_read.specs.Order.{Body, body_of}
use Rattle.witness_read.specs.Reading.{read_aag, counts_in}
use Rattle.witness_load.specs.Inner.Loaded.{name_from, operand_words, word_count, Loaded}

-- ---- sections

-- the words of a latch line
abbrev pub stored_words : Latch → List ℕ
stored_words q = q.next ∷ q.reset ∷ []

module _ {A : Type 0} (item : Bytes → Answer A) (words : A → List ℕ) (s : Bytes) (n : ℕ) (o : List ℕ) where
  -- the section of the first n lines was taken, the text r stands behind it, and o is its items' words
  pub record Stored (r : Bytes) : Type 0 where
    pub items : List A
    pub takes : section item n (lines_of s) ≡ got (record { items = items; rest = lines_of r })
    pub behind : Behind s r
    pub stand : o ≡ words_of words items

  abbrev pub LoadsSection : option.Option (Bor Bytes) → Type 0
  LoadsSection (Some r) = Stored r.now
  LoadsSection None = section item n (lines_of s) ≡ refused 8

-- outputs, bads and constraints are consecutive lines with one literal each, so they are taken as one section; then come the gates
abbrev pub literal_count : AagCounts → ℕ
literal_count n = n.outputs + n.bads + n.constraints

abbrev pub rest_room : AagCounts → ℕ
rest_room n = literal_count n + 2 * n.gates

-- where both sections are good, o is their words, and the lines behind them are those of the text r
abbrev pub LoadsRest : Bytes → AagCounts → List ℕ → Bytes → Type 0
LoadsRest s n o r =
    (literals : Section ℕ) (gates : Section Gate) → section (literal_line Witness) (literal_count n) (lines_of s) ≡ got literals
    → section (gate_line Witness) n.gates literals.rest ≡ got gates
    → (o ≡ literals.items ++ words_of operand_words gates.items) × (lines_of r ≡ gates.rest)

-- the literals of all sections but the inputs, and how many there are
abbrev pub body_words : Body → List ℕ
body_words d = words_of stored_words d.latches ++ (d.outputs ++ (d.bads ++ (d.constraints ++ words_of operand_words d.gates)))

abbrev pub body_room : AagCounts → ℕ
body_room n = 2 * n.latches + rest_room n

-- where the sections are good, o is their words, and the lines behind them are those of the text r
abbrev pub LoadsBody : Bytes → AagCounts → List ℕ → Bytes → Type 0
LoadsBody s n o r = (d : Body) → body_of n (lines_of s) ≡ got d → (o ≡ body_words d) × (lines_of r ≡ d.rest)

-- ---- names

-- two words for each input and each latch
abbrev pub leaf_words : AagCounts → ℕ
leaf_words n = 2 * (n.inputs + n.latches)

module _ {A : Type 0} where
  -- the name of one of them among the names of all
  abbrev pub with_name : AagCounts → Kind → ℕ → A → List A → List A
  with_name n kind.Input k name names = set names k name
  with_name n kind.Latch k name names = set names (n.inputs + k) name
  with_name n kind.Output k name names = names
  with_name n kind.Bad k name names = names
  with_name n kind.Constraint k name names = names

-- the line l stands in the text s from place a on, behind its first byte
pub record StandsAt (s l : Bytes) (a : ℕ) : Type 0 where
  pub past : 0 < a
  pub fits : a + length l ≤ length s
  pub is : part s a (a + length l) ≡ l

module _ (s l : Bytes) (n : AagCounts) (o o' : List ℕ) where
  -- the line l is a symbol line, and its name is one more that the words say
  pub record Named : Type 0 where
    pub symbol : Symbol
    pub is : symbol_of n l ≡ got symbol
    pub same : length o' ≡ length o
    pub names : pairs_of (name_from s) o' ≡ with_name n symbol.kind symbol.index (some (some symbol.name)) (pairs_of (name_from s) o)

  abbrev pub NamesLine : Bool → Type 0
  NamesLine true = Named
  NamesLine false = symbol_of n l ≡ refused 9

-- the names that symbols give the inputs, then those that they give the latches
abbrev pub leaf_names : AagCounts → List Symbol → List (Option Bytes)
leaf_names n ss = names_of is_input 0 n.inputs ss ++ names_of is_latch 0 n.latches ss

-- the words say the names of the lines of the text r, which s ends with
abbrev pub LoadsNames : Bytes → Bytes → AagCounts → List ℕ → Type 0
LoadsNames s r n o = (t : Tail) → symbols_of n (lines_of r) ≡ got t → pairs_of (name_from s) o ≡ map some (leaf_names n t.symbols)

-- ---- a text

-- the text t was accepted with the sections x and their counts n, and they have room in o
pub record HasRoom (t : Bytes) (n : AagCounts) (o : List ℕ) (x : Sections) : Type 0 where
  pub witness : Bool
  pub reads : read_aag limited witness t ≡ got x
  pub counts : n ≡ counts_in x
  pub fits : word_count x ≤ length o

pub record Loadable (t : Bytes) (n : AagCounts) (o : List ℕ) : Type 0 where
  pub sections : Sections
  pub accepted : HasRoom t n o sections

abbrev pub LoadsText : Bytes → AagCounts → List ℕ → List ℕ → Type 0
LoadsText t n o₀ o = (x : Sections) → HasRoom t n o₀ x → Loaded t x o₀ o
