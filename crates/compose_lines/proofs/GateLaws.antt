-- The lines of gates, from the words that hold their keys.
use Prim.Native.Nat.{ℕ, zero, suc, ◌+◌, ◌-◌, ◌*◌, ◌/◌, ◌%◌, ◌≤◌, ◌<◌}
use mathlib.Core.List.{List, [], ◌∷◌, ◌++◌, map, append_assoc}
use mathlib.Core.Path.{◌≡◌, refl, sym, ap, ap₂, ◌∙◌, subst}
use native.Mathlib.Numerals.{add-one}
use native.Mathlib.Omega.{arith}
use lib.ListN.{length, get_or, length-map}
use Rattle.lists.specs.Parts.{Bytes}
use Rattle.lists.specs.Tests.{Each}
use Rattle.text_decimal.specs.Printed.{number_line, text_of}
use Rattle.text_print.specs.declared.Printer.{Printer}
use Rattle.text_print.specs.Inner.Prints.{PrintsOn}
use Rattle.text_print.proofs.PrintsLaws.{Printing, prints_as, printing-none, printing-more, printing-done}
use Rattle.compose_spec.specs.Sharing.{Operands, gates_from}
use Rattle.compose_spec.specs.Inner.Keys.{key_of}
use Rattle.compose_spec.specs.Printing.{gate_lines}
use Rattle.compose_lines.specs.Inner.GateText.{Narrow, CanPrintGates, PrintsGates}

-- key k of the words
abbrev pub key_at : List ℕ → ℕ → ℕ → ℕ
key_at table heads k = get_or table (heads + 3 * k) 0 - 1

-- the line of variable x with the operands of a key
abbrev key_line : ℕ → ℕ → Bytes
key_line x key = number_line (2 * x ∷ key % 4294967296 ∷ key / 4294967296 ∷ [])

-- the lines of so many keys from number k on
abbrev key_lines : List ℕ → ℕ → ℕ → ℕ → ℕ → List Bytes
key_lines table heads x k zero = []
key_lines table heads x k (suc left) = key_line x (key_at table heads k) ∷ key_lines table heads (suc x) (suc k) left

-- a key taken apart
key-line : (x key : ℕ) (g : Operands) → Narrow g → key ≡ key_of g → key_line x key ≡ number_line (2 * x ∷ g.left ∷ g.right ∷ [])
key-line x key g h e =
    let low : key % 4294967296 ≡ g.left = omega (arith, e) in
    let high : key / 4294967296 ≡ g.right = omega (arith, e) in
    ap₂ (λ (a b : ℕ). number_line (2 * x ∷ a ∷ b ∷ [])) low high

-- words that hold the keys of gates
lines_are : (table : List ℕ) (heads x k : ℕ) (gs : List Operands) → ((j : ℕ) → j < length gs → get_or table (heads + 3 * (k + j)) 0 ≡ get_or (map key_of gs) j 0 + 1) → Each Narrow gs
    → key_lines table heads x k (length gs) ≡ gate_lines (gates_from x gs)
lines_are table heads x k [] h n = refl
lines_are table heads x k (g ∷ gs) h n =
    let z : k + 0 ≡ k = omega arith in
    let word : get_or table (heads + 3 * k) 0 ≡ key_of g + 1 = subst (λ (i : ℕ). get_or table (heads + 3 * i) 0 ≡ key_of g + 1) z (h 0 (omega arith)) in
    ap₂ (λ (l : Bytes) (ls : List Bytes). l ∷ ls) (key-line x (key_at table heads k) g n.0 (omega (arith, word)))
    (lines_are table heads (suc x) (suc k) gs
    (λ j l. let m : suc k + j ≡ k + suc j = omega arith in ap (λ (i : ℕ). get_or table (heads + 3 * i) 0) m ∙ h (suc j) (omega arith)) n.1)

module _ (first : ℕ) (table : List ℕ) (heads count : ℕ) where
  -- what is printed in all
  abbrev all : Bytes
  all = text_of (key_lines table heads first 0 count)

  -- the gates in front of number k are printed
  pub record GateWalk (p₀ p : Printer) (k : ℕ) : Type 0 where
    pub printing : Printing p₀ all p (text_of (key_lines table heads (first + k) k (count - k)))
    pub passed : k ≤ count
    pub fits : heads + 3 * count ≤ length table
    pub small : first + count < 4294967296

  -- before the loop
  pub walk_none : (p : Printer) → CanPrintGates first table heads count → GateWalk p p 0
  walk_none p c =
      let z : count - 0 ≡ count = omega arith in
      let x : first + 0 ≡ first = omega arith in
      record {
        printing = rw (z, x) (printing-none p all);
        passed = omega arith;
        fits = omega (arith, c.keys.held.fits, c.keys.counted, length-map c.gs key_of);
        small = c.keys.small;
      }

  module _ (p₀ p : Printer) (k : ℕ) (w : GateWalk p₀ p k) where
    -- a turn
    pub walk_more : (p' : Printer) → k < count → PrintsOn p (key_line (first + k) (key_at table heads k) ++ 10 ∷ []) p' → GateWalk p₀ p' (k + 1)
    walk_more p' h q =
        let n : count - k ≡ suc (count - (k + 1)) = omega arith in
        let x : suc (first + k) ≡ first + (k + 1) = omega arith in
        let line : Bytes = key_line (first + k) (key_at table heads k) in
        let split : text_of (key_lines table heads (first + k) k (count - k)) ≡ (line ++ 10 ∷ []) ++ text_of (key_lines table heads (first + (k + 1)) (k + 1) (count - (k + 1))) =
        ap (λ (l : ℕ). text_of (key_lines table heads (first + k) k l)) n
        ∙ (sym (append_assoc line (10 ∷ []) (text_of (key_lines table heads (suc (first + k)) (suc k) (count - (k + 1)))))
        ∙ ap₂ (λ (y j : ℕ). (line ++ 10 ∷ []) ++ text_of (key_lines table heads y j (count - (k + 1)))) x (sym (add-one k))) in
        record {
          printing =
              printing-more p₀ all p (text_of (key_lines table heads (first + k) k (count - k))) w.printing (line ++ 10 ∷ [])
              (text_of (key_lines table heads (first + (k + 1)) (k + 1) (count - (k + 1)))) p' split q;
          passed = omega arith;
          fits = w.fits;
          small = w.small;
        }

    -- after the loop, whichever gates the keys are of
    pub walk_end : count ≤ k → PrintsGates first table heads count p₀ p
    walk_end h gs c =
        let n : count - k ≡ 0 = omega arith in
        let none : text_of (key_lines table heads (first + k) k (count - k)) ≡ [] = ap (λ (l : ℕ). text_of (key_lines table heads (first + k) k l)) n in
        let keys : (j : ℕ) → j < length gs → get_or table (heads + 3 * (0 + j)) 0 ≡ get_or (map key_of gs) j 0 + 1 =
        λ j l. let z : 0 + j ≡ j = omega arith in ap (λ (i : ℕ). get_or table (heads + 3 * i) 0) z ∙ c.held.key j (omega (arith, length-map gs key_of)) in
        let lines : key_lines table heads first 0 count ≡ gate_lines (gates_from first gs) =
        ap (key_lines table heads first 0) (sym c.counted) ∙ lines_are table heads first 0 gs keys c.narrow in
        prints_as p₀ all p (text_of (gate_lines (gates_from first gs))) (ap text_of lines)
        (printing-done p₀ all p (text_of (key_lines table heads (first + k) k (count - k))) w.printing none)
