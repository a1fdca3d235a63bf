-- Laws of `PrintsOn`: texts printed one after the other, and `Printing`, a loop that prints.
use Prim.Native.Nat.{ℕ, ◌+◌, ◌≤◌}
use mathlib.Core.Path.{◌≡◌, refl, sym, ap, ◌∙◌, subst}
use mathlib.Core.List.{[], ◌++◌, append_assoc, append-nil}
use native.Mathlib.Omega.{arith}
use lib.ListN.{length, length-append}
use Rattle.lists.specs.Parts.{Bytes, put}
use Rattle.lists.proofs.PartLaws.{put-none, put-put}
use Rattle.text_print.specs.declared.Printer.{Printer}
use Rattle.text_print.specs.Inner.Prints.{Prints, PrintsOn}

prints_then_raw : (o : Bytes) (at : ℕ) (b o' : Bytes) (r : ℕ) (c o'' : Bytes) (r' : ℕ) → length o ≤ 18446744073709551615 → length o' ≡ length o → Prints o at b o' r → Prints o' r c o'' r' → Prints o at (b ++ c) o'' r'
prints_then_raw o at b o' r c o'' r' small same p q =
    let n : length (b ++ c) ≡ length b + length c = length-append b c in
    record {
      next = omega (arith, p.next, q.next, n);
      stands =
          λ h.
          let place : r ≡ at + length b = omega (arith, p.next, n) in
          q.stands (omega (arith, n))
          ∙ ap (λ (x : Bytes). put x r c) (p.stands (omega (arith, n)))
          ∙ ap (λ (k : ℕ). put (put o at b) k c) place
          ∙ put-put o at b (omega (arith, n)) c;
    }

module _ (p : Printer) where
  pub prints_none : PrintsOn p [] p
  prints_none = record { same_buffer = refl; same_room = refl; prints = λ h l. record { next = omega arith; stands = λ k. sym (put-none p.out.now p.at) } }

  module _ (b : Bytes) (p' : Printer) where
    -- other bytes that are the same
    pub prints_as : (c : Bytes) → b ≡ c → PrintsOn p b p' → PrintsOn p c p'
    prints_as c e q = subst (λ (x : Bytes). PrintsOn p x p') e q

    -- one text after the other
    pub prints_then : (c : Bytes) (p'' : Printer) → PrintsOn p b p' → PrintsOn p' c p'' → PrintsOn p (b ++ c) p''
    prints_then c p'' q r =
        record {
          same_buffer = r.same_buffer ∙ q.same_buffer;
          same_room = r.same_room ∙ q.same_room;
          prints =
              λ h l.
              let first = q.prints h l in
              prints_then_raw p.out.now p.at b p'.out.now p'.at c p''.out.now p''.at l q.same_room first
              (r.prints (omega (arith, first.next)) (omega (arith, q.same_room)));
        }

-- ---- a loop

-- of `all`, which is printed from p₀ on, `rest` is still to be printed, from p on
pub record Printing (p₀ : Printer) (all : Bytes) (p : Printer) (rest : Bytes) : Type 0 where
  pub done : Bytes
  pub so_far : PrintsOn p₀ done p
  pub left : done ++ rest ≡ all

pub printing-none : (p : Printer) (all : Bytes) → Printing p all p all
printing-none p all = record { done = []; so_far = prints_none p; left = refl }

module _ (p₀ : Printer) (all : Bytes) (p : Printer) (rest : Bytes) (w : Printing p₀ all p rest) where
  pub printing-more : (b rest' : Bytes) (p' : Printer) → rest ≡ b ++ rest' → PrintsOn p b p' → Printing p₀ all p' rest'
  printing-more b rest' p' e q =
      record {
        done = w.done ++ b;
        so_far = prints_then p₀ w.done p b p' w.so_far q;
        left = append_assoc w.done b rest' ∙ ap (λ (x : Bytes). w.done ++ x) (sym e) ∙ w.left;
      }

  -- the same rest, written otherwise
  pub printing_as : (rest' : Bytes) → rest ≡ rest' → Printing p₀ all p rest'
  printing_as rest' e = rw (← e) w

  pub printing-done : rest ≡ [] → PrintsOn p₀ all p
  printing-done e =
      let whole : w.done ≡ all = sym (append-nil w.done) ∙ ap (λ (x : Bytes). w.done ++ x) (sym e) ∙ w.left in
      rw (← whole) w.so_far
