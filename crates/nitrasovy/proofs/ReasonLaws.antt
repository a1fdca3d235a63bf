-- Which numbers an answer can have, from its parts; and those of section lines.
use Rattle.std.specs.Prelude.{Option, Some, None}
use Prim.Native.Nat.{ℕ, zero, suc}
use mathlib.Core.Bool.{Bool, true, false}
use mathlib.Core.List.{List, [], ◌∷◌}
use mathlib.Core.Path.{◌≡◌, refl, sym, ap, ◌∙◌}
use lib.Dec.{eqb}
use Rattle.lists.specs.Answer.{Answer, got, refused, unless, and_then}
use Rattle.lists.specs.Parts.{Bytes}
use Rattle.lists.specs.Tests.{any}
use Rattle.lists.proofs.AnswerLaws.{got-refused, Only}
use Rattle.lists.proofs.BoolLaws.{true-false}
use Rattle.text.specs.declared.Reader.{Reader}
use Rattle.text.specs.declared.Reader.TheVariants.{Transition, Witness}
use Rattle.text.specs.Fields.{fields_of}
use Rattle.text.specs.Literals.{numbers_of, literal_of}
use Rattle.text.specs.Numbers.{number_of}
use Rattle.aiger.specs.Sections.{section}
use Rattle.circuit_lines.specs.SectionLines.{readable, literal_line, gate_numbers, gate_line}
use Rattle.model.specs.declared.Counts.{Counts}
use Rattle.model_text.specs.ModelLines as model_lines
use Rattle.model_read.specs.Reading.{sections_of}
use Rattle.witness_text.specs.declared.AagCounts.{AagCounts}
use Rattle.witness_text.specs.LatchLines as witness_lines
use Rattle.witness_read.specs.Order.{body_of}
use Rattle.nitrasovy.specs.Reasons.{Among}

-- n is one of the numbers
abbrev pub Has : List ℕ → ℕ → Type 0
Has reasons n = any (eqb n) reasons ≡ true

module _ {A : Type 0} (reasons : List ℕ) where
  pub among-got : (a : A) → Among reasons (got a)
  among-got a = record { numbered = λ n e. got-refused refl e }

  pub among-refused : (n : ℕ) → Has reasons n → Among {A = A} reasons (refused n)
  among-refused n h = record { numbered = λ k e. let q : n ≡ k = cc in rw (← q) h }

  pub among-unless : (n : ℕ) (b : Bool) (r : Answer A) → Has reasons n → Among reasons r → Among reasons (unless n b r)
  among-unless n true r h k = k
  among-unless n false r h k = among-refused n h

  pub among-only : (m : ℕ) → Has reasons m → (a : Answer A) → Only m a → Among reasons a
  among-only m h (got a) o = among-got a
  among-only m h (refused n) o = among-refused n (rw o h)

module _ {A B : Type 0} (reasons : List ℕ) where
  pub among_then : (a : Answer A) (f : A → Answer B) → Among reasons a → ((x : A) → Among reasons (f x)) → Among reasons (and_then a f)
  among_then (got a) f h k = k a
  among_then (refused n) f h k = among-refused reasons n (h.numbered n refl)

-- a number that is not among them is no refusal's
pub no_reason : {X : Type 0} (reasons : List ℕ) (n : ℕ) → any (eqb 0) reasons ≡ false → Has reasons n → n ≡ 0 → X
no_reason reasons n f h z = true-false (ap (λ (k : ℕ). any (eqb k) reasons) (sym z) ∙ h) f

-- ---- section lines

module _ (reasons : List ℕ) (eight : Has reasons 8) where
  readable-among : (n : Option ℕ) → Among reasons (readable n)
  readable-among (Some v) = among-got reasons _
  readable-among None = among-refused reasons 8 eight

  literal-among : (reader : Reader) (l : Bytes) → Among reasons (literal_line reader l)
  literal-among reader l = readable-among (literal_of reader l)

  gate_numbers_lem : (ns : Option (List ℕ)) → Among reasons (gate_numbers ns)
  gate_numbers_lem None = among-refused reasons 8 eight
  gate_numbers_lem (Some []) = among-refused reasons 8 eight
  gate_numbers_lem (Some (o ∷ [])) = among-refused reasons 8 eight
  gate_numbers_lem (Some (o ∷ a ∷ [])) = among-refused reasons 8 eight
  gate_numbers_lem (Some (o ∷ a ∷ b ∷ [])) = among-got reasons _
  gate_numbers_lem (Some (o ∷ a ∷ b ∷ n ∷ ns)) = among-refused reasons 8 eight

  gate_among : (reader : Reader) (l : Bytes) → Among reasons (gate_line reader l)
  gate_among reader l = gate_numbers_lem (numbers_of reader (fields_of l))

  latch_from_lem : (c n : Bytes) → Among reasons (model_lines.latch_from c n)
  latch_from_lem c n = among_then reasons _ _ (readable-among (number_of Transition c)) (λ current. among_then reasons _ _ (readable-among (number_of Transition n)) (λ next. among-got reasons _))

  latch_fields_lem : (fs : List Bytes) → Among reasons (model_lines.latch_fields fs)
  latch_fields_lem [] = among-refused reasons 8 eight
  latch_fields_lem (c ∷ []) = among-refused reasons 8 eight
  latch_fields_lem (c ∷ n ∷ []) = latch_from_lem c n
  latch_fields_lem (c ∷ n ∷ i ∷ []) = among_then reasons _ _ (latch_from_lem c n) (λ l. among-unless reasons 8 (model_lines.initializer l.current i) (got l) eight (among-got reasons l))
  latch_fields_lem (c ∷ n ∷ i ∷ f ∷ fs) = among-refused reasons 8 eight

  latch_numbers_lem : (ns : Option (List ℕ)) → Among reasons (witness_lines.latch_numbers ns)
  latch_numbers_lem None = among-refused reasons 8 eight
  latch_numbers_lem (Some []) = among-refused reasons 8 eight
  latch_numbers_lem (Some (c ∷ [])) = among-refused reasons 8 eight
  latch_numbers_lem (Some (c ∷ n ∷ [])) = among-got reasons _
  latch_numbers_lem (Some (c ∷ n ∷ r ∷ [])) = among-got reasons _
  latch_numbers_lem (Some (c ∷ n ∷ r ∷ m ∷ ms)) = among-refused reasons 8 eight

  section-among : {A : Type 0} (item : Bytes → Answer A) → ((l : Bytes) → Among reasons (item l)) → (n : ℕ) (ls : List Bytes) → Among reasons (section item n ls)
  section-among item h zero ls = among-got reasons _
  section-among item h (suc n) [] = among-refused reasons 8 eight
  section-among item h (suc n) (l ∷ ls) = among_then reasons _ _ (h l) (λ a. among_then reasons _ _ (section-among item h n ls) (λ s. among-got reasons _))

  -- ---- the section lines of a whole text

  pub sections-among : (n : Counts) (ls : List Bytes) → Among reasons (sections_of n ls)
  sections-among n ls =
      among_then reasons _ _ (section-among _ (literal-among Transition) n.inputs ls) (λ inputs.
      among_then reasons _ _ (section-among _ (λ l. latch_fields_lem (fields_of l)) n.latches inputs.rest) (λ latches.
      among_then reasons _ _ (section-among _ (literal-among Transition) n.outputs latches.rest) (λ outputs.
      among_then reasons _ _ (section-among _ (gate_among Transition) n.ands outputs.rest) (λ gates. among-got reasons _))))

  pub body-among : (n : AagCounts) (ls : List Bytes) → Among reasons (body_of n ls)
  body-among n ls =
      among_then reasons _ _ (section-among _ (literal-among Witness) n.inputs ls) (λ inputs.
      among_then reasons _ _ (section-among _ (λ l. latch_numbers_lem (numbers_of Witness (fields_of l))) n.latches inputs.rest) (λ latches.
      among_then reasons _ _ (section-among _ (literal-among Witness) n.outputs latches.rest) (λ outputs.
      among_then reasons _ _ (section-among _ (literal-among Witness) n.bads outputs.rest) (λ bads.
      among_then reasons _ _ (section-among _ (literal-among Witness) n.constraints bads.rest) (λ constraints.
      among_then reasons _ _ (section-among _ (gate_among Witness) n.gates constraints.rest) (λ gates. among-got reasons _))))))
