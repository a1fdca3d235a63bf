-- A buffer while bytes are stored in it, and the answers of the functions that write.
use Rattle.std.specs.Prelude.{Option, Some, None}
use Prim.Native.Nat.{ℕ, suc, ◌+◌, ◌-◌, ◌/◌, ◌%◌, ◌≤◌, ◌<◌, ◌^◌}
use mathlib.Core.Path.{◌≡◌, refl, sym, ap, ◌∙◌}
use mathlib.Core.Bool.{Bool, true, false, cond}
use mathlib.Core.List.{[], ◌∷◌, ◌++◌, append-nil}
use native.Mathlib.Omega.{arith}
use borrow.Author.Tests.{leb-true, le-leb, lt-leb}
use lib.Dec.{leb}
use borrow.Rule.Slice.PartMut.{put_mid}
use lib.ListN.{length, take, drop, set, length-set, drop_of_length-le}
use lib.Seq.{drop-cons, append_snoc, get_or-set_same, take-set-le, drop-set-lt}
use Rattle.lists.specs.Parts.{Bytes, part, front, put}
use Rattle.lists.proofs.PartLaws.{part_length, put-none, put-part, put_back}
use Rattle.text.specs.declared.Reader.{Reader}
use Rattle.text.specs.Numbers.{number_of}
use Rattle.text_decimal.specs.Decimal.{decimal}
use Rattle.text_decimal.specs.Inner.Writing.{written_at, written, Wrote}
use Rattle.text_decimal.proofs.ReadLaws.{decimal_read}
use Rattle.text_decimal.proofs.FigureLaws.{figures, figures_length, decimal_figures}

-- ---- the answers

module _ (o : Bytes) (at : ℕ) (bytes : Bytes) where
  pub no_room : (at + length bytes ≤ length o → ⊥) → (None ≡ written_at (length o) at bytes) × (o ≡ written o at bytes)
  unfolding written_at written
  no_room h = (rw (lt-leb (at + length bytes) (length o) (omega (arith, h))), rw (lt-leb (at + length bytes) (length o) (omega (arith, h))))

  pub room : (o' : Bytes) (end : ℕ) → end ≡ at + length bytes → end ≤ length o → o' ≡ put o at bytes
      → (Some end ≡ written_at (length o) at bytes) × (o' ≡ written o at bytes)
  unfolding written_at written
  room o' end n h e =
      let fits : leb (at + length bytes) (length o) ≡ true = le-leb (at + length bytes) (length o) (omega arith) in
      (rw (fits, n), rw fits e)

-- ---- what a caller learns

module _ (o : Bytes) (at : ℕ) (bytes o' : Bytes) (r : Option ℕ) where
  pub wrote : (next : ℕ) → r ≡ written_at (length o) at bytes → o' ≡ written o at bytes → r ≡ Some next → Wrote o at bytes o' next
  unfolding written_at written
  wrote next e k m = by-room (leb (at + length bytes) (length o)) refl e k
    where
      by-room :
          (q : Bool) → leb (at + length bytes) (length o) ≡ q → r ≡ cond q (Some (at + length bytes)) None → o' ≡ cond q (put o at bytes) o
          → Wrote o at bytes o' next
      by-room true t e k =
          let n : next ≡ at + length bytes = cc in
          record { after = n; fits = omega (arith, leb-true (at + length bytes) (length o) t); is = k }
      by-room false t e k =
          let never : ◌≡◌ {A = ℕ} 0 1 = cc in
          absurd (omega arith)

-- the bytes written stand in the buffer, and reading a number's digits there gives the number
module _ (o : Bytes) (at : ℕ) (o' : Bytes) (next : ℕ) where
  pub wrote-part : (bytes : Bytes) → Wrote o at bytes o' next → part o' at next ≡ bytes
  wrote-part bytes w = rw (w.is, w.after) (put-part o at bytes (omega (arith, w.fits, w.after)))

  pub wrote-reads : (reader : Reader) (n : ℕ) → n < 2 ^ 64 → Wrote o at (decimal n) o' next → number_of reader (part o' at next) ≡ Some n
  wrote-reads reader n h w = rw (wrote-part (decimal n) w) (decimal_read reader n h)

-- ---- parts of the buffer

module _ (o : Bytes) (at : ℕ) where
  drop-stored : (b : ℕ) → at < length o → drop at (set o at b) ≡ b ∷ drop (suc at) o
  drop-stored b h =
      let l : at < length (set o at b) = simp length-set h in
      rw (drop-cons (set o at b) at 0 l, get_or-set_same o at b 0 h, drop-set-lt (suc at) o at b (omega arith))

-- bytes that stand in for a part of the buffer
pub part-written : (o : Bytes) (at e : ℕ) (bytes b : Bytes) → b ≡ bytes → e ≡ at + length bytes → e ≤ length o → put_mid at (e - at) o b ≡ put o at bytes
part-written o at e bytes b q k h =
    let size : length (part o at e) ≡ length bytes = part_length o at e h ∙ omega arith in
    let same : bytes ≡ front (part o at e) bytes = sym (rw (drop_of_length-le (part o at e) {i = length bytes} (omega arith)) (append-nil bytes)) in
    ap (put_mid at (e - at) o) (q ∙ same) ∙ put_back o at bytes (omega arith) e (omega arith) h

-- ---- digits, from the last to the first

-- the digits of n are being written into o₀ from place `at` on: o is the buffer now, and the `left` last digits of `rest` are still to be written
pub record Writing (o₀ : Bytes) (at n : ℕ) (o : Bytes) (left rest : ℕ) : Type 0 where
  pub is : put o at (figures left rest) ≡ put o₀ at (decimal n)
  pub fits : at + left ≤ length o₀
  pub same : length o ≡ length o₀

pub writing-none : (o : Bytes) (at n size : ℕ) → size ≡ length (decimal n) → at + size ≤ length o → Writing o at n o size n
writing-none o at n size e h = record { is = rw (e, decimal_figures n); fits = h; same = refl }

put_figure : (o : Bytes) (at left rest : ℕ) → at + left < length o
    → put (set o (at + left) (48 + rest % 10)) at (figures left (rest / 10)) ≡ put o at (figures (suc left) rest)
put_figure o at left rest h =
    let digits : Bytes = figures left (rest / 10) in
    let last : ℕ = 48 + rest % 10 in
    let behind : suc (at + left) ≡ at + length (figures (suc left) rest) = omega (arith, figures_length (suc left) rest) in
    rw (figures_length left (rest / 10), drop-stored o (at + left) last h, take-set-le at o (at + left) last (omega arith))
    (ap
    (λ (t : Bytes). take at o ++ t)
    (sym (append_snoc digits last (drop (suc (at + left)) o)) ∙ ap (λ (k : ℕ). (digits ++ (last ∷ [])) ++ drop k o) behind))

module _ (o₀ : Bytes) (at n : ℕ) (o : Bytes) (left rest : ℕ) (w : Writing o₀ at n o left rest) where
  pub writing_more : 0 < left → (j : ℕ) → j ≡ at + (left - 1) → (m : ℕ) → m ≡ left - 1 → Writing o₀ at n (set o j (48 + rest % 10)) m (rest / 10)
  writing_more h j p m q =
      let e : suc (left - 1) ≡ left = omega arith in
      rw (p, q)
      (record {
        is = put_figure o at (left - 1) rest (omega (arith, w.fits, w.same)) ∙ ap (λ (c : ℕ). put o at (figures c rest)) e ∙ w.is;
        fits = omega (arith, w.fits);
        same = simp length-set w.same;
      })

  pub writing-done : left ≤ 0 → o ≡ put o₀ at (decimal n)
  writing-done h =
      let z : left ≡ 0 = omega arith in
      sym (put-none o at) ∙ ap (λ (c : ℕ). put o at (figures c rest)) (sym z) ∙ w.is
