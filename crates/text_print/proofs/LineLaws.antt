-- Fields, and the lines of literals and gates, one after the other, as the loops print them.
use Prim.Native.Nat.{ℕ, suc, ◌+◌, ◌-◌, ◌*◌, ◌≤◌, ◌<◌}
use mathlib.Core.Path.{◌≡◌, refl, sym, ap, ◌∙◌}
use mathlib.Core.List.{List, [], ◌∷◌, ◌++◌, map, append_assoc, append-nil}
use native.Mathlib.Numerals.{add-one}
use native.Mathlib.Omega.{arith}
use lib.ListN.{length, get_or, drop, length-drop}
use Rattle.lists.specs.Parts.{Bytes}
use Rattle.lists.proofs.RestLaws.{rest_more}
use Rattle.text_decimal.specs.Decimal.{decimal}
use Rattle.text_decimal.specs.Printed.{spaced, number_line, text_of}
use Rattle.text_print.specs.Inner.Lines.{fields_text, literal_lines, literals_from, gate_lines}

-- ---- fields

-- fields behind a first one
pub spaced_fields : (f : Bytes) (ns : List ℕ) → spaced (f ∷ map decimal ns) ≡ f ++ fields_text (λ n. n) ns
spaced_fields f [] = sym (append-nil f)
spaced_fields f (n ∷ ns) = ap (λ (x : Bytes). f ++ 32 ∷ x) (spaced_fields (decimal n) ns)

module _ {A : Type 0} (value : A → ℕ) (xs : List A) (i : ℕ) where
  pub fields-more : (x : A) (n : ℕ) → i < length xs → x ≡ get_or xs i x → n ≡ value x → fields_text value (drop i xs) ≡ (32 ∷ decimal n) ++ fields_text value (drop (i + 1) xs)
  fields-more x n h e k =
      ap (fields_text value) (rest_more xs i x h)
      ∙ ap (λ (m : ℕ). (32 ∷ decimal m) ++ fields_text value (drop (i + 1) xs)) (ap value (sym e) ∙ sym k)

-- ---- lines

-- a first line, with its byte 10
text_first : (l : Bytes) (ls : List Bytes) → text_of (l ∷ ls) ≡ (l ++ (10 ∷ [])) ++ text_of ls
text_first l ls = sym (append_assoc l (10 ∷ []) (text_of ls))

-- a line of one number
pub literal-first : (n : ℕ) (ns : List ℕ) → text_of (literal_lines (n ∷ ns)) ≡ (number_line (n ∷ []) ++ (10 ∷ [])) ++ text_of (literal_lines ns)
literal-first n ns = text_first (number_line (n ∷ [])) (literal_lines ns)

module _ (x left : ℕ) where
  pub literals-more : 0 < left → (y m : ℕ) → y ≡ x + 1 → m ≡ left - 1
      → text_of (literal_lines (literals_from x left)) ≡ (number_line (2 * x ∷ []) ++ (10 ∷ [])) ++ text_of (literal_lines (literals_from y m))
  literals-more h y m p q =
      let e : left ≡ suc (left - 1) = omega arith in
      ap (λ (k : ℕ). text_of (literal_lines (literals_from x k))) e ∙ rw (p, q, add-one x) (literal-first (2 * x) (literals_from (suc x) (left - 1)))

module _ (x : ℕ) (words : List ℕ) (i : ℕ) where
  pub gates-more : i + 1 < length words → (y j : ℕ) → y ≡ x + 1 → j ≡ i + 2
      → text_of (gate_lines x (drop i words))
      ≡ (number_line (2 * x ∷ get_or words i 0 ∷ get_or words (i + 1) 0 ∷ []) ++ (10 ∷ [])) ++ text_of (gate_lines y (drop j words))
  gates-more h y j p q =
      let n : i + 1 + 1 ≡ i + 2 = omega arith in
      let two : drop i words ≡ get_or words i 0 ∷ get_or words (i + 1) 0 ∷ drop (i + 2) words = rest_more words i 0 (omega arith) ∙ rw (rest_more words (i + 1) 0 h, n) refl in
      rw (p, q, two, add-one x) (text_first (number_line (2 * x ∷ get_or words i 0 ∷ get_or words (i + 1) 0 ∷ [])) (gate_lines (suc x) (drop (i + 2) words)))

  pub gates-end : length words ≤ i + 1 → text_of (gate_lines x (drop i words)) ≡ []
  gates-end h = ap text_of (none (drop i words) (omega (arith, length-drop i words)))
    where
      none : (ws : List ℕ) → length ws ≤ 1 → gate_lines x ws ≡ []
      none [] k = refl
      none (y ∷ []) k = refl
      none (y ∷ z ∷ ws) k = absurd (omega arith)
