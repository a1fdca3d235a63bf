-- The last digits of a number, one by one.
use Prim.Native.Nat.{ℕ, zero, suc, ◌+◌, ◌/◌, ◌%◌}
use mathlib.Core.Path.{◌≡◌, refl, sym, ap, ◌∙◌}
use mathlib.Core.List.{[], ◌∷◌, ◌++◌}
use native.Mathlib.Nat.{mod-eq_of_lt}
use native.Mathlib.Numerals.{add-one}
use lib.ListN.{length, length-append}
use Rattle.lists.specs.Parts.{Bytes}
use Rattle.text_decimal.specs.Decimal.{decimal}
use Rattle.text_decimal.proofs.DecimalLaws.{decimal_one, decimal-more, by_tens, length_more}

-- ---- the last digits

-- the c last digits of x
abbrev pub figures : ℕ → ℕ → Bytes
figures zero x = []
figures (suc c) x = figures c (x / 10) ++ ((48 + x % 10) ∷ [])

pub figures_length : (c x : ℕ) → length (figures c x) ≡ c
figures_length zero x = refl
figures_length (suc c) x = length-append (figures c (x / 10)) ((48 + x % 10) ∷ []) ∙ rw (figures_length c (x / 10)) (add-one c)

pub decimal_figures : (n : ℕ) → figures (length (decimal n)) n ≡ decimal n
decimal_figures =
    by_tens
    (λ (n : ℕ). figures (length (decimal n)) n ≡ decimal n)
    (λ n h. rw (decimal_one n h, mod-eq_of_lt h))
    (λ n h l.
    ap (λ (c : ℕ). figures c n) (length_more n h ∙ add-one (length (decimal (n / 10))))
    ∙ ap (λ (ds : Bytes). ds ++ ((48 + n % 10) ∷ [])) l
    ∙ sym (decimal-more n h))
