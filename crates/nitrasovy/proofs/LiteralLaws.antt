-- Laws of `literal_at`, for the calls that take a literal at a place of a text.
use Rattle.std.specs.Prelude.{Option, None}
use Prim.Native.Nat.{ℕ, suc, ◌+◌, ◌-◌, ◌≤◌, ◌<◌, min}
use mathlib.Core.Path.{◌≡◌, ap, sym, ◌∙◌}
use native.Mathlib.Omega.{arith}
use lib.ListN.{length, take, drop, length-drop, drop_of_length-le}
use Rattle.lists.specs.Parts.{Bytes}
use Rattle.lists.proofs.PartLaws.{tail-lent}
use Rattle.text.specs.declared.Reader.{Reader}
use Rattle.text.specs.declared.Parsed.{Parsed}
use Rattle.text.specs.Lines.{lines_of, line_size}
use Rattle.text.specs.Literals.{LineLiteral, first_literal, literal_at}
use Rattle.text.specs.Inner.Fronts.{TakesLiteral}

module _ (reader : Reader) (s : Bytes) (at : ℕ) where
  -- at or past the end there is no line, and the place stays
  pub no_literal : length s ≤ at → literal_at reader s at ≡ record { value = None; next = at }
  no_literal h = rw (drop_of_length-le s h) (ap (λ (n : ℕ). record { value = None; next = n }) (omega arith))

  module _ (h : at < length s) (p : Parsed (Option ℕ)) (k : TakesLiteral reader (take (length s - at) (drop at s)) p) where
    left : take (length s - at) (drop at s) ≡ drop at s
    left = tail-lent s at

    pub literal_value : p.value ≡ (literal_at reader s at).value
    literal_value = k.value ∙ ap (λ (t : Bytes). first_literal reader (lines_of t)) left

    pub literal_next : length s - length p.rest.now ≡ (literal_at reader s at).next
    literal_next =
        let rest : p.rest.now ≡ drop (line_size (drop at s)) (drop at s) = k.rest ∙ ap (λ (t : Bytes). drop (line_size t) t) left in
        omega (arith, ap length rest, length-drop (line_size (drop at s)) (drop at s), length-drop at s)
