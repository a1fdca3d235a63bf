-- Laws of `initializer` and `latch_line`, for the code that takes a latch.
use Rattle.std.specs.Prelude.{Option, Some, None, is_some}
use Rattle.std.specs.Borrow.{Bor}
use Prim.Native.Nat.{ℕ}
use mathlib.Core.Bool.{Bool, true, false}
use mathlib.Core.List.{List, [], ◌∷◌}
use mathlib.Core.Path.{◌≡◌, refl, ap, sym, ◌∙◌}
use native.Mathlib.Omega.{arith}
use lib.Dec.{eqb}
use Rattle.lists.specs.Quoted.{bytes}
use Rattle.lists.specs.Answer.{got, refused, unless}
use Rattle.lists.specs.Parts.{Bytes}
use Rattle.scan.specs.Same.{same_bytes}
use Rattle.text.specs.declared.Parsed.{Parsed}
use Rattle.text.specs.declared.Reader.TheVariants.{Transition}
use Rattle.text.specs.declared.Taken.{Taken}
use Rattle.text.specs.Numbers.{number_of}
use Rattle.text.specs.Fields.{fields_of}
use Rattle.text.specs.Inner.Fronts.{from_field, FieldTaken, TakesField, TakesNumber}
use Rattle.text.proofs.FieldLaws.{fields_none, fields_some}
use Rattle.text.proofs.LiteralLaws.{Writes, WritesNone, fields_unreadable, fields_got}
use Rattle.model_text.specs.ModelLines.{is_number, initializer, latch_fields, latch_line}
use Rattle.model_text.specs.Inner.OneLine.{initializers}
use Rattle.circuit_lines.specs.Inner.OneLine.{answer_or}
use Rattle.text.specs.declared.Taken.TheVariants as taken

-- ---- initializer_holds

module _ (f : Bytes) (current : ℕ) (zero? : Bool) (q : zero? ≡ same_bytes f (bytes "0")) where
  pub initializer-zero : zero? ≡ true → true ≡ initializer current f
  initializer-zero k = rw (sym q ∙ k)

  module _ (k : zero? ≡ false) (one? : Bool) (q₁ : one? ≡ same_bytes f (bytes "1")) where
    pub initializer_one : one? ≡ true → true ≡ initializer current f
    initializer_one k₁ = rw (sym q ∙ k, sym q₁ ∙ k₁)

    module _ (k₁ : one? ≡ false) (n : Option ℕ) (p : n ≡ number_of Transition f) where
      number : (m : Option ℕ) → n ≡ m → is_number m current ≡ initializer current f
      number m u = rw (sym q ∙ k, sym q₁ ∙ k₁) (ap (λ (x : Option ℕ). is_number x current) (sym u ∙ p))

      pub initializer_unreadable : n ≡ None → false ≡ initializer current f
      initializer_unreadable u = number None u

      pub initializer-number : (v : ℕ) → n ≡ Some v → eqb v current ≡ initializer current f
      initializer-number v u = number (Some v) u

-- ---- latch_end

module _ (l : Bytes) (current : ℕ) where
  pub end_none : from_field l ≡ [] → true ≡ initializers current (fields_of l)
  end_none e = ap (initializers current) (sym (fields_none l e))

  module _ (f r : Bytes) (k : FieldTaken l f r) where
    rest : (fs : List Bytes) → fields_of r ≡ fs → initializers current (f ∷ fs) ≡ initializers current (fields_of l)
    rest fs u = ap (initializers current) (sym (fields_some l f r k ∙ ap (λ (y : List Bytes). f ∷ y) u))

    pub end_more : (g : Option (Parsed (Bor Bytes))) → TakesField r g → is_some g ≡ true → false ≡ initializers current (fields_of l)
    end_more (Some y) q h = rest (y.value.now ∷ fields_of y.rest.now) (fields_some r y.value.now y.rest.now q)
    end_more None q h = let z : ◌≡◌ {A = ℕ} 0 1 = cc in absurd (omega arith)

    pub end_one : (g : Option (Parsed (Bor Bytes))) → TakesField r g → is_some g ≡ false → (b : Bool) → b ≡ initializer current f
        → b ≡ initializers current (fields_of l)
    end_one None q h b p = p ∙ rest [] (fields_none r q)
    end_one (Some y) q h b p = let z : ◌≡◌ {A = ℕ} 0 1 = cc in absurd (omega arith)

-- ---- the line of a latch

-- two readable literals
latch_read : (c n : Bytes) (v w : ℕ) → number_of Transition c ≡ Some v → number_of Transition n ≡ Some w → (fs : List Bytes)
    → latch_fields (c ∷ n ∷ fs) ≡ unless 8 (initializers v fs) (got (record { current = v; next = w }))
latch_read c n v w p q [] = rw (p, q)
latch_read c n v w p q (i ∷ []) = rw (p, q)
latch_read c n v w p q (i ∷ f ∷ fs) = refl

unreadable_first : (c : Bytes) → number_of Transition c ≡ None → (fs : List Bytes) → latch_fields (c ∷ fs) ≡ refused 8
unreadable_first c p [] = refl
unreadable_first c p (n ∷ []) = rw p
unreadable_first c p (n ∷ i ∷ []) = rw p
unreadable_first c p (n ∷ i ∷ f ∷ fs) = refl

unreadable_second : (c n : Bytes) (v : ℕ) → number_of Transition c ≡ Some v → number_of Transition n ≡ None → (fs : List Bytes)
    → latch_fields (c ∷ n ∷ fs) ≡ refused 8
unreadable_second c n v p q [] = rw (p, q)
unreadable_second c n v p q (i ∷ []) = rw (p, q)
unreadable_second c n v p q (i ∷ f ∷ fs) = refl

module _ (l : Bytes) where
  pub no_first : (t : Taken) → TakesNumber Transition l t → ((v : ℕ) (r : Bor Bytes) → t ≡ taken.Got v r → ⊥) → answer_or 8 None ≡ latch_line l
  no_first (taken.Got v r) q h = absurd (h v r refl)
  no_first taken.Missing q h = ap latch_fields (sym (fields_none l q))
  no_first taken.Unreadable q h =
      let w : WritesNone Transition l = fields_unreadable Transition l q in
      sym (ap latch_fields w.fields ∙ unreadable_first w.field w.value w.rest)

  module _ (v : ℕ) (r : Bor Bytes) (k : TakesNumber Transition l (taken.Got v r)) where
    first : Writes Transition l v r.now
    first = fields_got Transition l v r k

    both : (fs : List Bytes) → fields_of r.now ≡ fs → latch_line l ≡ latch_fields (first.field ∷ fs)
    both fs e = ap latch_fields (first.fields ∙ ap (λ (x : List Bytes). first.field ∷ x) e)

    pub no_second : (u : Taken) → TakesNumber Transition r.now u → ((w : ℕ) (d : Bor Bytes) → u ≡ taken.Got w d → ⊥) → answer_or 8 None ≡ latch_line l
    no_second (taken.Got w d) q h = absurd (h w d refl)
    no_second taken.Missing q h = sym (both [] (fields_none r.now q))
    no_second taken.Unreadable q h =
        let w : WritesNone Transition r.now = fields_unreadable Transition r.now q in
        sym (both (w.field ∷ w.rest) w.fields ∙ unreadable_second first.field w.field v first.value w.value w.rest)

    module _ (w : ℕ) (d : Bor Bytes) (k₁ : TakesNumber Transition r.now (taken.Got w d)) (b : Bool) (p : b ≡ initializers v (fields_of d.now)) where
      read_both : latch_line l ≡ unless 8 b (got (record { current = v; next = w }))
      read_both =
          let n : Writes Transition r.now w d.now = fields_got Transition r.now w d k₁ in
          rw p (both (n.field ∷ fields_of d.now) n.fields ∙ latch_read first.field n.field v w first.value n.value (fields_of d.now))

      pub latch_some : b ≡ true → answer_or 8 (Some (record { current = v; next = w })) ≡ latch_line l
      latch_some e = sym (rw e at read_both)

      pub latch_none : b ≡ false → answer_or 8 None ≡ latch_line l
      latch_none e = sym (rw e at read_both)
