-- Laws of `line_at` and `field_at`, for the calls that say where a line or a field stands.
use Prim.Native.Nat.{ℕ, suc, ◌+◌, ◌-◌, ◌≤◌, ◌<◌, min}
use mathlib.Core.Path.{◌≡◌, ap, sym, ◌∙◌}
use mathlib.Core.Bool.{true}
use mathlib.Core.List.{[]}
use native.Mathlib.Omega.{arith}
use borrow.Author.Tests.{lt-ltb, le-ltb}
use lib.ListN.{length, take, drop, length-take, length-drop, drop_of_length-le}
use lib.Seq.{drop-drop}
use Rattle.lists.specs.Parts.{Bytes}
use Rattle.lists.proofs.PartLaws.{tail-lent}
use Rattle.scan.specs.Spans.{span, in_line}
use Rattle.scan.proofs.SpanLaws.{span_le}
use Rattle.text.specs.Lines.{line_size}
use Rattle.text.specs.Fields.{is_blank, in_field}
use Rattle.text.specs.Inner.Fronts.{LineTaken, from_field, FieldTaken}
use Rattle.probe.specs.Inner.Flat.{no_part, line_at, field_from, field_at}

module _ (s : Bytes) (at : ℕ) where
  pub line-found : at < length s → (l r : Bytes) → LineTaken (take (length s - at) (drop at s)) l r
      → record { found = true; start = at; end = at + length l; next = length s - length r } ≡ line_at s at
  line-found h l r t =
      let k : LineTaken (drop at s) l r = rw (tail-lent s at) at t in
      let size : length l ≡ span in_line (drop at s) = omega (arith, ap length k.line, length-take (span in_line (drop at s)) (drop at s), span_le in_line (drop at s)) in
      let next : length s - length r ≡ at + line_size (drop at s) = omega (arith, ap length k.rest, length-drop (line_size (drop at s)) (drop at s), length-drop at s) in
      rw (lt-ltb at (length s) h, size, next)

  -- where the next field begins
  abbrev start : ℕ
  start = at + span is_blank (drop at s)

  from-start : from_field (drop at s) ≡ drop start s
  from-start = drop-drop (span is_blank (drop at s)) at s

  pub no_field_left : from_field (take (length s - at) (drop at s)) ≡ [] → no_part ≡ field_at s at
  no_field_left e =
      let none : drop start s ≡ [] = sym from-start ∙ sym (ap from_field (tail-lent s at)) ∙ e in
      rw (le-ltb start (length s) (omega (arith, ap length none, length-drop start s)))

  pub field-found : (f r : Bytes) → FieldTaken (take (length s - at) (drop at s)) f r
      → record { found = true; start = length s - length r - length f; end = length s - length r; next = length s - length r } ≡ field_at s at
  field-found f r t =
      let k : FieldTaken (drop at s) f r = rw (tail-lent s at) at t in
      let inside : start < length s = omega (arith, k.some_byte, ap length from-start, length-drop start s) in
      let n : ℕ = span in_field (drop start s) in
      let field : f ≡ take n (drop start s) = k.stands.field ∙ ap (λ (x : Bytes). take (span in_field x) x) from-start in
      let rest : r ≡ drop n (drop start s) = k.stands.rest ∙ ap (λ (x : Bytes). drop (span in_field x) x) from-start in
      let size : length f ≡ n = omega (arith, ap length field, length-take n (drop start s), span_le in_field (drop start s)) in
      let end : length s - length r ≡ start + n =
      omega (arith, inside, ap length rest, length-drop n (drop start s), length-drop start s, span_le in_field (drop start s)) in
      let begin : length s - length r - length f ≡ start = omega (arith, end, size) in
      rw (lt-ltb start (length s) inside, begin, end)
