-- For the contracts of the reader's inner functions: what each of its passes over the lines says of the definitions.
use Rattle.std.specs.Prelude.{ℕ, ◌+◌, ◌*◌, ◌≤◌, ◌<◌, Bool, true, false, not, ◌&&◌, List, [], ◌∷◌, ◌≡◌, length, Option, Some, None, Result, Ok, Err}
use Rattle.std.specs.Borrow.{Bor}
use Rattle.lists.specs.Answer.{Answer, got, refused, and_then}
use Rattle.lists.specs.Parts.{Bytes, zeros}
use Rattle.lists.specs.Sets.{holds, with_bit}
use Rattle.lists.specs.Tests.{all, all_from}
use Rattle.text.specs.declared.Reader.TheVariants.{Witness}
use Rattle.aiger.specs.declared.Refusal.{Refusal}
use Rattle.aiger.specs.Refusals.{refusal_number}
use Rattle.aiger.specs.Defined.{literal}
use Rattle.aiger.specs.Sections.{section}
use Rattle.circuit_lines.specs.SectionLines.{literal_line}
use Rattle.text.specs.Lines.{lines_of}
use Rattle.witness_text.specs.declared.AagCounts.{AagCounts}
use Rattle.witness_text.specs.declared.Kind.{Kind}
use Rattle.witness_text.specs.declared.Kind.TheVariants as kind
use Rattle.witness_text.specs.declared.Latch.{Latch}
use Rattle.witness_text.specs.LatchLines.{latch_line}
use Rattle.witness_text.specs.Symbols.{ends_symbols, Symbol, symbol_of}
use Rattle.witness_read.specs.declared.Checked.{Checked}
use Rattle.witness_read.specs.declared.NextSymbol.{NextSymbol}
use Rattle.witness_text.specs.declared.SymbolLine.{SymbolLine}
use Rattle.witness_read.specs.Names.{tail_of, symbols_of}
use Rattle.witness_read.specs.Order.{body_of, defines, latch_numbered, well_numbered}

-- numbers of variables, so small that literals of them are words
pub record SmallNumber (k : ℕ) : Type 0 where
  pub number : k ≤ 2000000

pub record SmallMost (most : ℕ) : Type 0 where
  pub largest : most ≤ 2000000

pub record SmallBoth (most k : ℕ) : Type 0 where
  pub largest : most ≤ 2000000
  pub number : k ≤ 2000000

module _ {A : Type 0} (item : Bytes → Answer A) (test : List A → Bool) (s : Bytes) (n : ℕ) where
  -- the section of the first n lines of s was taken, the text r stands behind it, and f says whether its items pass the test
  pub record Passed (r : Bytes) (f : Bool) : Type 0 where
    pub items : List A
    pub takes : section item n (lines_of s) ≡ got (record { items = items; rest = lines_of r })
    pub says : f ≡ test items

  abbrev pub Checks : Option Checked → Type 0
  Checks (Some x) = Passed x.rest.now x.fine
  Checks None = section item n (lines_of s) ≡ refused 8

-- inputs and latches
pub record Leaves : Type 0 where
  pub inputs : List ℕ
  pub latches : List Latch
  pub rest : List Bytes

abbrev pub leaves_of : AagCounts → List Bytes → Answer Leaves
leaves_of n ls =
    and_then (section (literal_line Witness) n.inputs ls) (λ inputs.
    and_then (section latch_line n.latches inputs.rest) (λ latches.
    got (record { inputs = inputs.items; latches = latches.items; rest = latches.rest })))

abbrev pub leaves_numbered : AagCounts → Leaves → Bool
leaves_numbered n d = all_from defines 1 d.inputs && all_from (latch_numbered n.max_variable) (n.inputs + 1) d.latches

-- outputs, bads and constraints
pub record Properties : Type 0 where
  pub outputs : List ℕ
  pub bads : List ℕ
  pub constraints : List ℕ
  pub rest : List Bytes

abbrev pub properties_of : AagCounts → List Bytes → Answer Properties
properties_of n ls =
    and_then (section (literal_line Witness) n.outputs ls) (λ outputs.
    and_then (section (literal_line Witness) n.bads outputs.rest) (λ bads.
    and_then (section (literal_line Witness) n.constraints bads.rest) (λ constraints.
    got (record { outputs = outputs.items; bads = bads.items; constraints = constraints.items; rest = constraints.rest }))))

abbrev pub properties_numbered : AagCounts → Properties → Bool
properties_numbered n d =
    all (literal n.max_variable) d.outputs && (all (literal n.max_variable) d.bads && all (literal n.max_variable) d.constraints)

module _ {A : Type 0} (read : List Bytes → Answer A) (rest : A → List Bytes) (test : A → Bool) (s : Bytes) where
  -- several sections were taken, the text r stands behind them, and f says whether they pass the test
  pub record PassedAll (r : Bytes) (f : Bool) : Type 0 where
    pub taken : A
    pub takes : read (lines_of s) ≡ got taken
    pub left : rest taken ≡ lines_of r
    pub says : f ≡ test taken

  abbrev pub ChecksAll : Option Checked → Type 0
  ChecksAll (Some x) = PassedAll x.rest.now x.fine
  ChecksAll None = read (lines_of s) ≡ refused 8

abbrev pub ChecksLeaves : Bytes → AagCounts → Option Checked → Type 0
ChecksLeaves s n r = ChecksAll (leaves_of n) (λ d. d.rest) (leaves_numbered n) s r

abbrev pub ChecksProperties : Bytes → AagCounts → Option Checked → Type 0
ChecksProperties s n r = ChecksAll (properties_of n) (λ d. d.rest) (properties_numbered n) s r

abbrev pub ChecksBody : Bytes → AagCounts → Option Checked → Type 0
ChecksBody s n r = ChecksAll (body_of n) (λ d. d.rest) (well_numbered n) s r

module _ (s : Bytes) (n : AagCounts) where
  -- the first line of s is a symbol line, and the text r stands behind it
  pub record TakenSymbol (kd : Kind) (index : ℕ) (r : Bytes) : Type 0 where
    pub line : Bytes
    pub name : Bytes
    pub lines : lines_of s ≡ line ∷ lines_of r
    pub goes : ends_symbols line ≡ false
    pub is : symbol_of n line ≡ got (record { kind = kd; index = index; name = name })
    pub less : length r < length s

  -- the first line of s is refused with k
  pub record BadSymbol (k : ℕ) : Type 0 where
    pub line : Bytes
    pub rest : List Bytes
    pub lines : lines_of s ≡ line ∷ rest
    pub goes : ends_symbols line ≡ false
    pub is : symbol_of n line ≡ refused k

  -- s begins with no symbol, and the comments are the text r
  pub record EndsSymbols (r : Bytes) : Type 0 where
    pub takes : tail_of n (lines_of s) ≡ got (record { symbols = []; comments = lines_of r })

  -- a symbol, or the end of the symbols
  pub record Follows (o : Option SymbolLine) (r : Bytes) : Type 0 where
    pub taken : (x : SymbolLine) → o ≡ Some x → TakenSymbol x.kind x.index r
    pub ends : o ≡ None → EndsSymbols r

  abbrev pub TakesSymbol : Result NextSymbol Refusal → Type 0
  TakesSymbol (Ok x) = Follows x.symbol x.rest.now
  TakesSymbol (Err k) = BadSymbol (refusal_number k)

  -- the symbols were taken, and the comments are the text r
  pub record PassedSymbols (r : Bytes) : Type 0 where
    pub symbols : List Symbol
    pub takes : symbols_of n (lines_of s) ≡ got (record { symbols = symbols; comments = lines_of r })

  abbrev pub ChecksSymbols : Result (Bor Bytes) Refusal → Type 0
  ChecksSymbols (Ok r) = PassedSymbols r.now
  ChecksSymbols (Err k) = symbols_of n (lines_of s) ≡ refused (refusal_number k)

-- marks for each input and latch, none of them set
pub record Unmarked (n : AagCounts) (marks : List ℕ) : Type 0 where
  pub room : n.inputs + n.latches ≤ 64 * length marks
  pub clear : marks ≡ zeros (length marks)

-- the mark of an input or a latch is set, and r says whether it was not set before; of other kinds nothing is marked
abbrev pub MarksName : AagCounts → Kind → ℕ → List ℕ → List ℕ → Bool → Type 0
MarksName n kind.Input k m m' r = (r ≡ not (holds m k)) × (m' ≡ with_bit m k)
MarksName n kind.Latch k m m' r = (r ≡ not (holds m (n.inputs + k))) × (m' ≡ with_bit m (n.inputs + k))
MarksName n kind.Output k m m' r = (r ≡ true) × (m' ≡ m)
MarksName n kind.Bad k m m' r = (r ≡ true) × (m' ≡ m)
MarksName n kind.Constraint k m m' r = (r ≡ true) × (m' ≡ m)
