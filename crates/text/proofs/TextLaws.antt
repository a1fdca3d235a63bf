-- Laws of `good_text`: its cases for the code, and with and without limits.
use Prim.Native.Nat.{◌≤◌, ◌<◌}
use mathlib.Core.Path.{◌≡◌, refl, sym, ◌∙◌}
use mathlib.Core.List.{[], ◌∷◌}
use mathlib.Core.Bool.{Bool, true, false, and-true}
use borrow.Author.Tests.{le-leb, lt-leb, leb-true}
use lib.ListN.{length}
use Rattle.lists.specs.Parts.{Bytes}
use Rattle.lists.specs.Tests.{every}
use Rattle.lists.proofs.TestLaws.{every_facts}
use Rattle.text.specs.declared.Reader.{Reader}
use Rattle.text.specs.Texts.{limited, free, within, good_bytes, good_end, good_text}

module _ (reader : Reader) (t : Bytes) where
  pub text_long : 16777216 < length t → false ≡ good_text limited reader t
  unfolding good_text every
  text_long h = rw (lt-leb (length t) 16777216 h)

  module _ (h : length t ≤ 16777216) (r : Bool) (e : r ≡ good_bytes reader t) where
    pub text_bytes : r ≡ false → r ≡ good_text limited reader t
    unfolding good_text every
    text_bytes n = n ∙ rw (le-leb (length t) 16777216 h, ← e, n) refl

    pub text_end : r ≡ true → (q : Bool) → q ≡ good_end reader t → q ≡ good_text limited reader t
    unfolding good_text every
    text_end n q f = rw (le-leb (length t) 16777216 h, ← e, n, ← f) (sym (and-true q))

  -- ---- with and without the limit on the length

  pub text_within : good_text limited reader t ≡ true → length t ≤ 16777216
  unfolding good_text
  text_within h = leb-true (length t) 16777216 (every_facts (within limited 16777216 (length t) ∷ good_bytes reader t ∷ good_end reader t ∷ []) h).0

  pub text_free : length t ≤ 16777216 → good_text limited reader t ≡ good_text free reader t
  unfolding good_text every
  text_free h = rw (le-leb (length t) 16777216 h)
