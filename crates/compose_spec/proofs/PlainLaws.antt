-- What is printed is plain: every printed line has only bytes that a line of a text may have.
use Prim.Native.Nat.{ℕ, suc, ◌*◌}
use mathlib.Core.Bool.{true}
use mathlib.Core.List.{List, [], ◌∷◌, ◌++◌, map}
use mathlib.Core.Option.{Option, some, none}
use mathlib.Core.Path.{◌≡◌, refl, ◌∙◌}
use native.Mathlib.Omega.{arith}
use lib.ListN.{length}
use borrow.Author.Tests.{le-leb, ne_eqb}
use Rattle.lists.specs.Quoted.{bytes}
use Rattle.lists.specs.Parts.{Bytes}
use Rattle.lists.specs.Tests.{all, Each}
use Rattle.lists.proofs.BoolLaws.{and_both}
use Rattle.lists.proofs.TestLaws.{all_append, each_map, each-any, each_append}
use Rattle.text.specs.Fields.{aag}
use Rattle.text_decimal.specs.Decimal.{decimal}
use Rattle.text_decimal.specs.Printed.{number_line}
use Rattle.text_decimal.proofs.DecimalLaws.{decimal-all}
use Rattle.text_decimal.proofs.BackLaws.{spaced-all}
use Rattle.witness_read.specs.Sections.{NamedLatch, Sections, variables, latch_names}
use Rattle.compose_spec.specs.Printing.{header_line, input_lines, latch_lines, literal_lines, gate_lines, symbol_lines, closing, tail_lines, body_lines}
use Rattle.compose_spec.proofs.NameLaws.{plain, Plain, PlainName}

-- digits are plain
pub decimal-plain : (n : ℕ) → Plain (decimal n)
decimal-plain = decimal-all plain (λ b h k. simp (le-leb b 127 (omega arith), ne_eqb b 13 (λ e. omega arith), ne_eqb b 10 (λ e. omega arith)))

-- plain bytes after plain bytes
pub plain_append : (a b : Bytes) → Plain a → Plain b → Plain (a ++ b)
plain_append a b h k = all_append plain a b ∙ and_both (all plain a) (all plain b) h k

-- so are those of several numbers
decimals_plain : (ns : List ℕ) → Each Plain (map decimal ns)
decimals_plain ns = each_map decimal Plain ns (each-any (λ n. Plain (decimal n)) decimal-plain ns)

-- so is a line of numbers
numbers-plain : (ns : List ℕ) → Plain (number_line ns)
numbers-plain ns = spaced-all plain refl (map decimal ns) (decimals_plain ns)

-- ---- the lines of each section

-- the lines of inputs are plain
inputs-plain : {A : Type 0} (x : ℕ) (is : List A) → Each Plain (input_lines x is)
inputs-plain x [] = tt
inputs-plain x (i ∷ is) = (numbers-plain (2 * x ∷ []), inputs-plain (suc x) is)

-- so are those of latches
latches-plain : (x : ℕ) (qs : List NamedLatch) → Each Plain (latch_lines x qs)
latches-plain x [] = tt
latches-plain x (q ∷ qs) = (numbers-plain (2 * x ∷ q.next ∷ q.reset ∷ []), latches-plain (suc x) qs)

-- and those of symbols, where their names are
symbols-plain : (byte : ℕ) → plain byte ≡ true → (k : ℕ) (xs : List (Option Bytes)) → Each PlainName xs → Each Plain (symbol_lines byte k xs)
symbols-plain byte h k [] e = tt
symbols-plain byte h k (none ∷ xs) e = symbols-plain byte h (suc k) xs e.1
symbols-plain byte h k (some x ∷ xs) e = (
  and_both (plain byte) (all plain (decimal k ++ 32 ∷ x)) h (plain_append (decimal k) (32 ∷ x) (decimal-plain k) e.0),
  symbols-plain byte h (suc k) xs e.1,
)

module _ (s : Sections) (i : Each PlainName s.inputs) (l : Each PlainName (latch_names s)) where
  -- and all lines after the gates
  tail-plain : Each Plain (tail_lines s)
  tail-plain =
      let cs : List Bytes = (bytes "c") ∷ closing ∷ [] in
      each_append Plain (symbol_lines 105 0 s.inputs) (symbol_lines 108 0 (latch_names s) ++ cs) (symbols-plain 105 refl 0 s.inputs i)
      (each_append Plain (symbol_lines 108 0 (latch_names s)) cs (symbols-plain 108 refl 0 (latch_names s) l) (refl, (refl, tt)))

  -- every line of a printed text is plain, where the names are
  pub printed-plain : Each Plain (header_line s ∷ body_lines s)
  printed-plain =
      let ns : List ℕ = variables s ∷ length s.inputs ∷ length s.latches ∷ length s.outputs ∷ length s.gates ∷ length s.bads ∷ length s.constraints ∷ 0 ∷ 0 ∷ [] in
      let t5 : List Bytes = tail_lines s in
      let t4 : List Bytes = gate_lines s.gates ++ t5 in
      let t3 : List Bytes = literal_lines s.constraints ++ t4 in
      let t2 : List Bytes = literal_lines s.bads ++ t3 in
      let t1 : List Bytes = literal_lines s.outputs ++ t2 in
      let t0 : List Bytes = latch_lines (suc (length s.inputs)) s.latches ++ t1 in
      let literals : (ls : List ℕ) → Each Plain (literal_lines ls) =
      λ ls. each_map (λ x. number_line (x ∷ [])) Plain ls (each-any (λ x. Plain (number_line (x ∷ []))) (λ x. numbers-plain (x ∷ [])) ls) in
      let gates : Each Plain (gate_lines s.gates) =
      each_map (λ g. number_line (g.output ∷ g.left ∷ g.right ∷ [])) Plain s.gates
      (each-any (λ g. Plain (number_line (g.output ∷ g.left ∷ g.right ∷ []))) (λ g. numbers-plain (g.output ∷ g.left ∷ g.right ∷ [])) s.gates) in (
        spaced-all plain refl (aag ∷ map decimal ns) (refl, decimals_plain ns),
        each_append Plain (input_lines 1 s.inputs) t0 (inputs-plain 1 s.inputs)
            (each_append Plain (latch_lines (suc (length s.inputs)) s.latches) t1 (latches-plain (suc (length s.inputs)) s.latches)
            (each_append Plain (literal_lines s.outputs) t2 (literals s.outputs)
            (each_append Plain (literal_lines s.bads) t3 (literals s.bads)
            (each_append Plain (literal_lines s.constraints) t4 (literals s.constraints)
            (each_append Plain (gate_lines s.gates) t5 gates tail-plain))))),
      )
