-- The text of sections (R8.9) in the form of R14.7: a space between fields, byte 10 behind each line, the composer's comment at the end.
use Rattle.std.specs.Prelude.{ℕ, suc, ◌*◌, List, [], ◌∷◌, ◌++◌, map, length}
use Rattle.std.proofs.Math.Option.{Option, some, none}
use Rattle.lists.specs.Quoted.{bytes}
use Rattle.lists.specs.Parts.{Bytes}
use Rattle.text.specs.Fields.{aag}
use Rattle.text_decimal.specs.Decimal.{decimal}
use Rattle.text_decimal.specs.Printed.{spaced, number_line, text_of}
use Rattle.aiger.specs.declared.Gate.{Gate}
use Rattle.witness_read.specs.Sections.{NamedLatch, Sections, variables, latch_names}

-- the header: `aag`, then M I L O A B C J F
abbrev pub header_line : Sections → Bytes
header_line s =
    spaced (aag ∷ map decimal
    (variables s ∷ length s.inputs ∷ length s.latches ∷ length s.outputs ∷ length s.gates
    ∷ length s.bads ∷ length s.constraints ∷ 0 ∷ 0 ∷ []))

module _ {A : Type 0} where
  -- a line for each input; the first has the variable x
  abbrev pub input_lines : ℕ → List A → List Bytes
  input_lines x [] = []
  input_lines x (i ∷ is) = number_line (2 * x ∷ []) ∷ input_lines (suc x) is

-- a line for each latch, with its reset; the first has the variable x
abbrev pub latch_lines : ℕ → List NamedLatch → List Bytes
latch_lines x [] = []
latch_lines x (q ∷ qs) = number_line (2 * x ∷ q.next ∷ q.reset ∷ []) ∷ latch_lines (suc x) qs

abbrev pub literal_lines : List ℕ → List Bytes
literal_lines ls = map (λ l. number_line (l ∷ [])) ls

abbrev pub gate_lines : List Gate → List Bytes
gate_lines gs = map (λ g. number_line (g.output ∷ g.left ∷ g.right ∷ [])) gs

-- a symbol line: kind, index, a space, the name
abbrev pub symbol_line : ℕ → ℕ → Bytes → Bytes
symbol_line kind k name = kind ∷ (decimal k ++ 32 ∷ name)

abbrev pub with_line : ℕ → ℕ → Option Bytes → List Bytes → List Bytes
with_line kind k none ls = ls
with_line kind k (some name) ls = symbol_line kind k name ∷ ls

-- a symbol line for each name there is; the first has the index k
abbrev pub symbol_lines : ℕ → ℕ → List (Option Bytes) → List Bytes
symbol_lines kind k [] = []
symbol_lines kind k (n ∷ ns) = with_line kind k n (symbol_lines kind (suc k) ns)

-- `GCC FM 2026 composed-witness baseline v1`
abbrev pub closing : Bytes
closing =
    bytes "GCC FM 2026 composed-witness baseline v1"

-- symbols of inputs (byte 105) and latches (108), the line `c` (99), the comment
abbrev pub tail_lines : Sections → List Bytes
tail_lines s = symbol_lines 105 0 s.inputs ++ (symbol_lines 108 0 (latch_names s) ++ (bytes "c" ∷ closing ∷ []))

-- all lines after the header
abbrev pub body_lines : Sections → List Bytes
body_lines s =
    input_lines 1 s.inputs
    ++ (latch_lines (suc (length s.inputs)) s.latches
    ++ (literal_lines s.outputs
    ++ (literal_lines s.bads
    ++ (literal_lines s.constraints
    ++ (gate_lines s.gates
    ++ tail_lines s)))))

unfoldable pub printed : Sections → Bytes
printed s = text_of (header_line s ∷ body_lines s)
