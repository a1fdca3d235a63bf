-- `Numbering`: the numbers of a line stored one after the other; and what numbers that were stored say of a definition that asks for so many.
use Rattle.std.specs.Prelude.{Option, Some, None, is_some}
use Rattle.std.specs.Borrow.{Bor}
use Prim.Native.Nat.{ℕ, ◌+◌, ◌≤◌, ◌<◌}
use mathlib.Core.Bool.{true, false}
use mathlib.Core.List.{List, [], ◌∷◌, ◌++◌, append_assoc, append-nil}
use mathlib.Core.Path.{◌≡◌, refl, sym, ap, ◌∙◌}
use native.Mathlib.Omega.{arith}
use lib.ListN.{length, set, length-append, drop_of_length-le}
use borrow.Author.Tests.{lt-leb}
use Rattle.lists.specs.Parts.{Bytes}
use Rattle.lists.proofs.PartLaws.{front_length, Grown, grown-none, grown-set}
use Rattle.text.specs.declared.Reader.{Reader}
use Rattle.text.specs.declared.Parsed.{Parsed}
use Rattle.text.specs.Inner.Fronts.{from_field, TakesField, TakesNumber}
use Rattle.text.specs.Numbers.{number_of}
use Rattle.text.specs.Literals.{with_number, numbers_of}
use Rattle.text.proofs.FieldLaws.{fields_none, fields_some}
use Rattle.text.proofs.LiteralLaws.{numbers_in, numbers_missing, numbers_unreadable, numbers-got}
use Rattle.circuit_lines.specs.Inner.OneLine.{at_most, Stored}
use Rattle.text.specs.declared.Taken.TheVariants as taken

-- numbers in front of the others
abbrev pub in_front : List ℕ → Option (List ℕ) → Option (List ℕ)
in_front done None = None
in_front done (Some ns) = Some (done ++ ns)

in_front-none : (x : Option (List ℕ)) → x ≡ in_front [] x
in_front-none None = refl
in_front-none (Some ns) = refl

in_front-more : (done : List ℕ) (v : ℕ) (x : Option (List ℕ)) → in_front done (with_number (Some v) x) ≡ in_front (done ++ v ∷ []) x
in_front-more done v None = refl
in_front-more done v (Some ns) = ap Some (sym (append_assoc done (v ∷ []) ns))

-- a field too many, readable or not
too_many : (n : ℕ) (done : List ℕ) → n ≤ length done → (k : Option ℕ) (x : Option (List ℕ)) → at_most n (in_front done (with_number k x)) ≡ None
too_many n done h None x = refl
too_many n done h (Some v) None = refl
too_many n done h (Some v) (Some vs) = rw (lt-leb (length (done ++ v ∷ vs)) n (omega (arith, length-append done (v ∷ vs))))

-- o is o₀ with the first i numbers of the line l in its front; the part r of the line is left
pub record Numbering (reader : Reader) (l : Bytes) (o₀ o : List ℕ) (i : ℕ) (r : Bytes) : Type 0 where
  pub done : List ℕ
  pub grown : Grown o₀ done o i
  pub is : numbers_in reader l ≡ in_front done (numbers_in reader r)

module _ (reader : Reader) (l : Bytes) (o₀ : List ℕ) where
  pub numbering-none : Numbering reader l o₀ o₀ 0 l
  numbering-none = record { done = []; grown = grown-none o₀; is = in_front-none (numbers_in reader l) }

  module _ (o : List ℕ) (i : ℕ) (r : Bytes) (k : Numbering reader l o₀ o i r) where
    -- these are all
    all-stored : numbers_in reader r ≡ Some [] → Stored o₀ o (numbers_in reader l) i
    all-stored e =
        record {
          numbers = k.done;
          are = k.is ∙ rw (e, append-nil k.done);
          count = k.grown.at-is;
          fits = k.grown.fits;
          stand = k.grown.is;
        }

    -- while there is room
    pub numbering-more : i < length o₀ → (v : ℕ) (m : Bor Bytes) → TakesNumber reader r (taken.Got v m) → Numbering reader l o₀ (set o i v) (i + 1) m.now
    numbering-more h v m q =
        record {
          done = k.done ++ v ∷ [];
          grown = grown-set o₀ k.done o i k.grown v (omega (arith, k.grown.same));
          is = k.is ∙ ap (in_front k.done) (numbers-got reader r v m q) ∙ in_front-more k.done v (numbers_in reader m.now);
        }

    pub numbering_unreadable : TakesNumber reader r taken.Unreadable → at_most (length o₀) (numbers_in reader l) ≡ None
    numbering_unreadable q = ap (at_most (length o₀)) (k.is ∙ ap (in_front k.done) (numbers_unreadable reader r q))

    pub numbering_missing : from_field r ≡ [] → Stored o₀ o (numbers_in reader l) i
    numbering_missing q = all-stored (numbers_missing reader r q)

    -- without room
    module _ (h : length o₀ ≤ i) where
      pub numbering-over : (f : Option (Parsed (Bor Bytes))) → TakesField r f → is_some f ≡ true → at_most (length o₀) (numbers_in reader l) ≡ None
      numbering-over (Some g) q u =
          ap (at_most (length o₀)) (k.is ∙ ap (λ (fs : List Bytes). in_front k.done (numbers_of reader fs)) (fields_some r g.value.now g.rest.now q))
          ∙ too_many (length o₀) k.done (omega (arith, k.grown.at-is)) (number_of reader g.value.now) (numbers_in reader g.rest.now)
      numbering-over None q u = let z : ◌≡◌ {A = ℕ} 0 1 = cc in absurd (omega arith)

      pub numbering-done : (f : Option (Parsed (Bor Bytes))) → TakesField r f → is_some f ≡ false → i ≤ length o₀ → (n : ℕ) → n ≡ length o₀
          → Stored o₀ o (numbers_in reader l) n
      numbering-done None q u w n e =
          let same : n ≡ i = omega arith in
          rw same (all-stored (ap (numbers_of reader) (fields_none r q)))
      numbering-done (Some g) q u w n e = let z : ◌≡◌ {A = ℕ} 0 1 = cc in absurd (omega arith)

-- numbers that fill the whole of o₀
pub stored-all : (o₀ o : List ℕ) (x : Option (List ℕ)) (k : ℕ) → Stored o₀ o x k → k ≡ length o₀ → x ≡ Some o
stored-all o₀ o x k s e = s.are ∙ ap Some (sym (s.stand ∙ rw (drop_of_length-le o₀ {i = length s.numbers} (omega (arith, s.count))) (append-nil s.numbers)))

pub stored-length : (o₀ o : List ℕ) (x : Option (List ℕ)) (k : ℕ) → Stored o₀ o x k → length o ≡ length o₀
stored-length o₀ o x k s = ap length s.stand ∙ front_length o₀ s.numbers (omega (arith, s.count, s.fits))
