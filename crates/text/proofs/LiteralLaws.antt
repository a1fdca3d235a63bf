-- Laws for the functions that take a number of a line or the literal of a text's first line, and what these say to their callers.
use Rattle.std.specs.Prelude.{Option, Some, None, is_some}
use Rattle.std.specs.Borrow.{Bor}
use Prim.Native.Nat.{ℕ, ◌<◌}
use mathlib.Core.Bool.{true, false}
use mathlib.Core.List.{List, [], ◌∷◌}
use mathlib.Core.Path.{◌≡◌, refl, ap, sym, ◌∙◌}
use native.Mathlib.Omega.{arith}
use lib.ListN.{length, take, drop}
use Rattle.lists.specs.Parts.{Bytes}
use Rattle.scan.specs.Spans.{span, in_line}
use Rattle.text.specs.declared.Reader.{Reader}
use Rattle.text.specs.declared.Parsed.{Parsed}
use Rattle.text.specs.declared.Taken.{Taken}
use Rattle.text.specs.declared.Taken.TheVariants as taken
use Rattle.text.specs.Numbers.{number_of}
use Rattle.text.specs.Lines.{lines_of, line_size}
use Rattle.text.specs.Fields.{in_field, fields_of}
use Rattle.text.specs.Literals.{with_number, numbers_of, one_of, literal_of, first_literal}
use Rattle.text.specs.Inner.Fronts.{Behind, LineTaken, from_field, TakesField, TakesNumber, TakesLiteral}
use Rattle.text.proofs.LineLaws.{lines-some, line-less, line-behind}
use Rattle.text.proofs.FieldLaws.{fields_none, fields_some}

-- ---- what a number that was taken says of the fields and the numbers of a line

-- the first field writes the number v, and the others are those of r
pub record Writes (reader : Reader) (l : Bytes) (v : ℕ) (r : Bytes) : Type 0 where
  pub field : Bytes
  pub fields : fields_of l ≡ field ∷ fields_of r
  pub value : number_of reader field ≡ Some v

-- there is a first field, and it writes no number
pub record WritesNone (reader : Reader) (l : Bytes) : Type 0 where
  pub field : Bytes
  pub rest : List Bytes
  pub fields : fields_of l ≡ field ∷ rest
  pub value : number_of reader field ≡ None

abbrev pub numbers_in : Reader → Bytes → Option (List ℕ)
numbers_in reader l = numbers_of reader (fields_of l)

module _ (reader : Reader) (l : Bytes) where
  front_taken : 0 < length (from_field l) → fields_of l ≡ take (span in_field (from_field l)) (from_field l) ∷ fields_of (drop (span in_field (from_field l)) (from_field l))
  front_taken h = fields_some l _ _ (record { some_byte = h; stands = record { field = refl; rest = refl } })

  pub fields_unreadable : TakesNumber reader l taken.Unreadable → WritesNone reader l
  fields_unreadable k =
      record {
        field = take (span in_field (from_field l)) (from_field l);
        rest = fields_of (drop (span in_field (from_field l)) (from_field l));
        fields = front_taken k.0;
        value = k.1;
      }

  pub fields_got : (v : ℕ) (r : Bor Bytes) → TakesNumber reader l (taken.Got v r) → Writes reader l v r.now
  fields_got v r k =
      record {
        field = take (span in_field (from_field l)) (from_field l);
        fields = front_taken k.0 ∙ ap (λ (x : Bytes). take (span in_field (from_field l)) (from_field l) ∷ fields_of x) (sym k.1.rest);
        value = k.1.value;
      }

  pub numbers_missing : TakesNumber reader l taken.Missing → numbers_in reader l ≡ Some []
  numbers_missing k = ap (numbers_of reader) (fields_none l k)

  pub numbers_unreadable : TakesNumber reader l taken.Unreadable → numbers_in reader l ≡ None
  numbers_unreadable k = let w = fields_unreadable k in ap (numbers_of reader) w.fields ∙ rw w.value

  pub numbers-got : (v : ℕ) (r : Bor Bytes) → TakesNumber reader l (taken.Got v r) → numbers_in reader l ≡ with_number (Some v) (numbers_in reader r.now)
  numbers-got v r k = let w = fields_got v r k in ap (numbers_of reader) w.fields ∙ rw w.value

-- ---- line_literal

missing_one : (x : Option (List ℕ)) → x ≡ Some [] → None ≡ one_of x
missing_one x e = rw e

unreadable_one : (x : Option (List ℕ)) → x ≡ None → None ≡ one_of x
unreadable_one x e = rw e

-- a second field, readable or not, is one too many
second : (v : ℕ) (n : Option ℕ) (x : Option (List ℕ)) → None ≡ one_of (with_number (Some v) (with_number n x))
second v None x = refl
second v (Some w) None = refl
second v (Some w) (Some ws) = refl

module _ (reader : Reader) (l : Bytes) where
  pub literal-other : (t : Taken) → TakesNumber reader l t → ((v : ℕ) (r : Bor Bytes) → t ≡ taken.Got v r → ⊥) → None ≡ literal_of reader l
  literal-other (taken.Got v r) q h = absurd (h v r refl)
  literal-other taken.Unreadable q h = unreadable_one (numbers_in reader l) (numbers_unreadable reader l q)
  literal-other taken.Missing q h = missing_one (numbers_in reader l) (numbers_missing reader l q)

  module _ (v : ℕ) (r : Bor Bytes) (k : TakesNumber reader l (taken.Got v r)) where
    pub literal-more : (f : Option (Parsed (Bor Bytes))) → TakesField r.now f → is_some f ≡ true → None ≡ literal_of reader l
    literal-more (Some g) p h =
        rw (numbers-got reader l v r k, fields_some r.now g.value.now g.rest.now p) (second v (number_of reader g.value.now) (numbers_in reader g.rest.now))
    literal-more None p h = let z : ◌≡◌ {A = ℕ} 0 1 = cc in absurd (omega arith)

    pub literal-got : (f : Option (Parsed (Bor Bytes))) → TakesField r.now f → is_some f ≡ false → Some v ≡ literal_of reader l
    literal-got None p h = rw (numbers-got reader l v r k, fields_none r.now p)
    literal-got (Some g) p h = let z : ◌≡◌ {A = ℕ} 0 1 = cc in absurd (omega arith)

-- ---- any_literal

pub literal-line : (reader : Reader) (s l : Bytes) (r : Bor Bytes) → LineTaken s l r.now → (v : Option ℕ) → v ≡ literal_of reader l
    → TakesLiteral reader s (record { value = v; rest = r })
literal-line reader s l r k v u = record { value = u ∙ sym (ap (first_literal reader) (lines-some s l r.now k)); rest = k.rest }

-- ---- what a literal that was taken says of the lines of a text

-- the first line of s is l, and r is what stands behind it
pub record Passed (s l r : Bytes) : Type 0 where
  pub lines : lines_of s ≡ l ∷ lines_of r
  pub moves : length r < length s
  pub behind : Behind s r

-- no line is left and the text stays, or the first line is refused and passed
pub data Refuses (reader : Reader) (s r : Bytes) : Type 0 where
  ended : lines_of s ≡ [] → r ≡ s → Refuses reader s r
  bad : (l : Bytes) → Passed s l r → literal_of reader l ≡ None → Refuses reader s r

-- the first line is the literal v, and it is passed
pub record Gets (reader : Reader) (s : Bytes) (v : ℕ) (r : Bytes) : Type 0 where
  pub line : Bytes
  pub passed : Passed s line r
  pub value : literal_of reader line ≡ Some v

module _ (reader : Reader) (s : Bytes) (p : Parsed (Option ℕ)) (q : TakesLiteral reader s p) where
  first_passed : 0 < length s → Passed s (take (span in_line s) s) p.rest.now
  first_passed h =
      let k : LineTaken s (take (span in_line s) s) p.rest.now = record { some_byte = h; line = refl; rest = q.rest } in
      record { lines = lines-some s _ _ k; moves = line-less s _ _ k; behind = line-behind s _ _ k }

  -- what was taken is what the first line is
  value-is : (l : Bytes) → Passed s l p.rest.now → (x : Option ℕ) → p.value ≡ x → literal_of reader l ≡ x
  value-is l k x u = sym (ap (first_literal reader) k.lines) ∙ sym q.value ∙ u

  gets : (t : Bytes) → s ≡ t → (v : ℕ) → p.value ≡ Some v → Gets reader s v p.rest.now
  gets [] e v u = let n : p.value ≡ None = q.value ∙ rw e in let z : ◌≡◌ {A = ℕ} 0 1 = cc in absurd (omega arith)
  gets (b ∷ bs) e v u = let k = first_passed (omega (arith, ap length e)) in record { line = take (span in_line s) s; passed = k; value = value-is _ k (Some v) u }

  refuses : (t : Bytes) → s ≡ t → p.value ≡ None → Refuses reader s p.rest.now
  refuses [] e u = ended (ap lines_of e) (q.rest ∙ rw e)
  refuses (b ∷ bs) e u = let k = first_passed (omega (arith, ap length e)) in bad (take (span in_line s) s) k (value-is _ k None u)

  pub literal-gets : (v : ℕ) → p.value ≡ Some v → Gets reader s v p.rest.now
  literal-gets v k = gets s refl v k

  pub literal-refuses : p.value ≡ None → Refuses reader s p.rest.now
  literal-refuses k = refuses s refl k

  pub literal-behind : Behind s p.rest.now
  literal-behind = record { size = line_size s; is = q.rest }
