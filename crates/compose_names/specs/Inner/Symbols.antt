-- For the contracts of the functions that print symbol lines: names with their composed variables, walked in their order.
use Rattle.std.specs.Prelude.{ℕ, zero, suc, ◌+◌, ◌-◌, ◌*◌, ◌≤◌, ◌<◌, cond, List, [], ◌∷◌, map, ◌≡◌, eqb, length, get_or}
use Rattle.std.proofs.Math.Option.{some}
use Rattle.lists.specs.Parts.{Bytes, part}
use Rattle.text_decimal.specs.Printed.{text_of}
use Rattle.text_print.specs.declared.Printer.{Printer}
use Rattle.text_print.specs.Inner.Prints.{PrintsOn}
use Rattle.witness_text.specs.declared.AagCounts.{AagCounts}
use Rattle.witness_read.specs.Sections.{Sections}
use Rattle.compose_spec.specs.Numbering.{numbered}
use Rattle.compose_spec.specs.Printing.{symbol_line, symbol_lines}
use Rattle.compose_spec.specs.Calling.{texts_in}
use Rattle.compose_joint.specs.declared.Leaves.{Leaves}
use Rattle.compose_joint.specs.Inner.Joint.{total_of, origins, entries_of, leaf_counts, names_before, kind_of}
use Rattle.compose_gather.specs.Inner.Gathered.{words_for, Blocks, word_total, Readable, leaf_count_of}
use Rattle.compose_gather.specs.Inner.Names.{NameWords, name_at}
use Rattle.compose_names.specs.declared.Starts.{Starts}
use Rattle.compose_names.specs.declared.Rows.{Rows}
use Rattle.compose_names.specs.Inner.Names.{firsts_of, name_for}

-- a composed variable and the name that one with this variable has
pub record Row : Type 0 where
  pub number : ℕ
  pub name : Bytes

-- a line for each row whose variable is the next new one; the first variable has the index 0
abbrev pub new_lines : ℕ → ℕ → ℕ → List Row → List Bytes
new_lines kind first next [] = []
new_lines kind first next (x ∷ xs) =
    cond (eqb x.number next) (symbol_line kind (next - first) x.name ∷ new_lines kind first (suc next) xs) (new_lines kind first next xs)

-- the next new variable after the rows
abbrev pub next_after : ℕ → List Row → ℕ
next_after next [] = next
next_after next (x ∷ xs) = cond (eqb x.number next) (next_after (suc next) xs) (next_after next xs)

-- ---- one witness

-- row k of witness w
abbrev pub row_at : Bytes → List ℕ → Leaves → ℕ → Starts → ℕ → Row
row_at t work leaf w p k =
    record {
      number = get_or work (p.numbers + k) 0;
      name = name_for leaf w (get_or work (p.origins + k) 0) (name_at t work (p.names + 2 * k));
    }

-- row k of one witness's rows
abbrev pub row_in : Rows → ℕ → Row
row_in r k = row_at r.text.now r.work.now r.leaves r.w r.starts k

-- so many rows from number k on
abbrev pub rows_from : (ℕ → Row) → ℕ → ℕ → List Row
rows_from row k zero = []
rows_from row k (suc left) = row k ∷ rows_from row (suc k) left

-- the words of row k stand at their places
pub record RowWords (t : Bytes) (work : List ℕ) (p : Starts) (k : ℕ) : Type 0 where
  pub name : NameWords t work (p.names + 2 * k)
  pub origin : p.origins + k < length work

-- the words of so many names stand at their places, and composed variables are small
pub record CanPrintNames (t : Bytes) (work : List ℕ) (p : Starts) (count first next : ℕ) : Type 0 where
  pub named : p.names + 2 * count ≤ length work
  pub origins_fit : p.origins + count ≤ length work
  pub numbers_fit : p.numbers + count ≤ length work
  pub within : (k : ℕ) → k < count → get_or work (p.names + 2 * k) 0 + get_or work (p.names + 2 * k + 1) 0 ≤ length t
  pub low : first ≤ next
  pub small : next + count < 4294967296

-- the lines of new ones are printed
pub record PrintsNew (leaf : Leaves) (first next : ℕ) (rows : List Row) (p p' : Printer) (next' : ℕ) : Type 0 where
  pub prints : PrintsOn p (text_of (new_lines (kind_of leaf) first next rows)) p'
  pub after : next' ≡ next_after next rows

-- the places of a witness whose words begin at `names`, with that of its inputs' or latches' names
abbrev pub names_at : Leaves → AagCounts → Starts → Starts
names_at leaf n p = record { names = p.names + names_before leaf n; origins = p.origins; numbers = p.numbers }

-- the rows of witness w, whose words begin at `names`
abbrev pub rows_at : Bytes → AagCounts → List ℕ → Leaves → ℕ → Starts → List Row
rows_at t n work leaf w p = rows_from (row_at t work leaf w (names_at leaf n p)) 0 (leaf_counts leaf n)

abbrev pub rows_in : Rows → AagCounts → List Row
rows_in r n = rows_at r.text.now n r.work.now r.leaves r.w r.starts

-- its names may be printed
pub record CanPrintWitness (t : Bytes) (n : AagCounts) (work : List ℕ) (leaf : Leaves) (p : Starts) (first next : ℕ) : Type 0 where
  pub words : words_for n ≤ length work
  pub can : CanPrintNames t work (names_at leaf n p) (leaf_counts leaf n) first next

-- the places of the next witness
abbrev pub passed : Leaves → AagCounts → Starts → Starts
passed leaf n p = record { names = p.names + words_for n; origins = p.origins + leaf_counts leaf n; numbers = p.numbers + leaf_counts leaf n }

-- they are within so many words
pub record CanPass (leaf : Leaves) (n : AagCounts) (p : Starts) (size : ℕ) : Type 0 where
  pub names : p.names + words_for n ≤ size
  pub origins : p.origins + leaf_counts leaf n ≤ size
  pub numbers : p.numbers + leaf_counts leaf n ≤ size

-- ---- all witnesses

-- the words of all witnesses stand in front, and their origin words and composed variables at places of their own
pub record SymbolWords (leaf : Leaves) (m : Sections) (ws : List Sections) (buffer : Bytes) (pairs work : List ℕ) (from_origins from_numbers first : ℕ) : Type 0 where
  pub readable : Readable buffer pairs ws
  pub blocks : Blocks (texts_in buffer pairs) ws work
  pub room : word_total ws ≤ length work
  pub origins_fit : from_origins + total_of (leaf_count_of leaf) ws ≤ length work
  pub numbers_fit : from_numbers + total_of (leaf_count_of leaf) ws ≤ length work
  pub origins-are : part work from_origins (from_origins + total_of (leaf_count_of leaf) ws) ≡ origins leaf m ws
  pub numbers-are : part work from_numbers (from_numbers + total_of (leaf_count_of leaf) ws) ≡ map (numbered first (firsts_of leaf m ws)) (entries_of leaf m 0 ws)
  pub small : first < 1073741824

-- there are a model and witnesses whose words stand so
pub record CanPrintSymbols (leaf : Leaves) (buffer : Bytes) (pairs work : List ℕ) (from_origins from_numbers first : ℕ) : Type 0 where
  pub m : Sections
  pub ws : List Sections
  pub holds : SymbolWords leaf m ws buffer pairs work from_origins from_numbers first

-- the symbol lines of the composition's inputs, or latches
abbrev pub PrintsSymbols : Leaves → Bytes → List ℕ → List ℕ → ℕ → ℕ → ℕ → Printer → Printer → Type 0
PrintsSymbols leaf buffer pairs work from_origins from_numbers first p p' =
    (m : Sections) (ws : List Sections) → SymbolWords leaf m ws buffer pairs work from_origins from_numbers first
    → PrintsOn p (text_of (symbol_lines (kind_of leaf) 0 (map (λ e. some e.name) (firsts_of leaf m ws)))) p'
