-- The symbol lines of a witness text (R4.9 to R4.11). One that cannot be split, is of no known kind or has a wrong index is refused with 9
-- (R9.9).
use Rattle.std.specs.Prelude.{ℕ, suc, Bool, cond, not, [], ◌∷◌, eqb, ltb, length, take, drop, Option, Some, None}
use Rattle.lists.specs.Quoted.{bytes}
use Rattle.lists.specs.Answer.{Answer, got, refused, unless, and_then}
use Rattle.lists.specs.Parts.{Bytes}
use Rattle.scan.specs.Same.{same_bytes}
use Rattle.scan.specs.Spans.{span}
use Rattle.text.specs.declared.Reader.TheVariants.{Witness}
use Rattle.text.specs.Numbers.{number_of}
use Rattle.witness_text.specs.declared.AagCounts.{AagCounts}
use Rattle.witness_text.specs.declared.Kind.{Kind}
use Rattle.witness_text.specs.declared.Kind.TheVariants.{Input, Latch, Output, Bad, Constraint}

-- R4.8: the line that ends the symbols: the byte 99 alone
abbrev pub ends_symbols : Bytes → Bool
ends_symbols l = same_bytes l (bytes "c")

-- R4.9: what a symbol line says
pub record Symbol : Type 0 where
  pub kind : Kind
  pub index : ℕ
  pub name : Bytes

-- R4.11: the kind of a byte: 105 i, 108 l, 111 o, 98 b, 99 c
abbrev pub kind_of : ℕ → Answer Kind
kind_of b =
    cond (eqb b 105) (got Input)
    (cond (eqb b 108) (got Latch)
    (cond (eqb b 111) (got Output)
    (cond (eqb b 98) (got Bad)
    (cond (eqb b 99) (got Constraint)
    (refused 9)))))

-- R4.11: the number of lines in the section of a kind
abbrev pub count_of : AagCounts → Kind → ℕ
count_of n Input = n.inputs
count_of n Latch = n.latches
count_of n Output = n.outputs
count_of n Bad = n.bads
count_of n Constraint = n.constraints

-- R9.9: an index; refused where it could not be read
abbrev pub readable_index : Option ℕ → Answer ℕ
readable_index (Some v) = got v
readable_index None = refused 9

-- R4.11: a symbol, where its index is below the number of lines in its section
abbrev pub indexed : AagCounts → Bytes → Kind → ℕ → Answer Symbol
indexed n name kind index = unless 9 (ltb index (count_of n kind)) (got (record { kind = kind; index = index; name = name }))

-- R4.10: the bytes before the first byte 32: one for the kind, the others for the index
abbrev pub symbol_from : AagCounts → Bytes → Bytes → Answer Symbol
symbol_from n [] name = refused 9
symbol_from n (kind ∷ index) name = and_then (kind_of kind) (λ k. and_then (readable_index (number_of Witness index)) (indexed n name k))

-- not the byte 32
abbrev pub not_space : ℕ → Bool
not_space b = not (eqb b 32)

-- R4.10: how many bytes stand before the first byte 32
abbrev pub before_space : Bytes → ℕ
before_space l = span not_space l

-- R4.9, R4.10, R9.9: a line split at its first byte 32: kind and index before it, the name behind it; refused without byte 32
unfoldable pub symbol_of : AagCounts → Bytes → Answer Symbol
symbol_of n l = unless 9 (ltb (before_space l) (length l)) (symbol_from n (take (before_space l) l) (drop (suc (before_space l)) l))
