-- Laws of `Path`: one node more, and two searches for the same key.
use Prim.Native.Nat.{ℕ, zero, suc, ◌/◌}
use mathlib.Core.Path.{◌≡◌, refl, sym, subst, ◌∙◌}
use mathlib.Core.List.{List}
use Rattle.key_table.specs.Inner.Table.{Passes, Path, link_from}

module _ (heads key : ℕ) (t : List ℕ) where
  pub path-more : (n a c z d : ℕ) → Path heads key t n a c z d → Passes heads key t z → Path heads key t (suc n) a c (link_from heads t z d) (d / 2)
  path-more zero a c z d p q = rw (p.0, p.1) (q, (refl, refl))
  path-more (suc n) a c z d p q = (p.0, path-more n (link_from heads t a c) (c / 2) z d p.1 q)

  -- a search has one end: a place that it does not pass
  pub path-same : (n m a c z d z' d' : ℕ) → Path heads key t n a c z d → Path heads key t m a c z' d' → (Passes heads key t z → ⊥) → (Passes heads key t z' → ⊥) → z ≡ z'
  path-same zero zero a c z d z' d' p q s s' = sym p.0 ∙ q.0
  path-same zero (suc m) a c z d z' d' p q s s' = absurd (s (subst (Passes heads key t) p.0 q.0))
  path-same (suc n) zero a c z d z' d' p q s s' = absurd (s' (subst (Passes heads key t) q.0 p.0))
  path-same (suc n) (suc m) a c z d z' d' p q s s' = path-same n m (link_from heads t a c) (c / 2) z d z' d' p.1 q.1 s s'
