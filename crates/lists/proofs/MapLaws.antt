-- Laws of `map`. (`length-map`, `get_or-map` are in `lib.ListN`, `map-map`, `map-append` in `mathlib.Core.List`.)
use Prim.Native.Nat.{ℕ, zero, suc, ◌<◌}
use mathlib.Core.List.{List, [], ◌∷◌, map}
use mathlib.Core.Path.{◌≡◌, refl}
use native.Mathlib.Omega.{arith}
use lib.ListN.{length, get_or, take, drop, set}
use Rattle.lists.specs.Tests.{Each}

module _ {A B : Type 0} (f : A → B) where
  pub map-take : (n : ℕ) (l : List A) → map f (take n l) ≡ take n (map f l)
  map-take zero l = refl
  map-take (suc n) [] = refl
  map-take (suc n) (x ∷ l) = rw (map-take n l)

  pub map-drop : (n : ℕ) (l : List A) → map f (drop n l) ≡ drop n (map f l)
  map-drop zero l = refl
  map-drop (suc n) [] = refl
  map-drop (suc n) (x ∷ l) = map-drop n l

  pub map-set : (l : List A) (i : ℕ) (x : A) → map f (set l i x) ≡ set (map f l) i (f x)
  map-set [] i x = refl
  map-set (y ∷ l) zero x = refl
  map-set (y ∷ l) (suc i) x = rw (map-set l i x)

  -- inside the list, whatever the defaults are
  pub map_at : (l : List A) (i : ℕ) (d : A) (b : B) → i < length l → get_or (map f l) i b ≡ f (get_or l i d)
  map_at [] i d b h = absurd (omega arith)
  map_at (x ∷ l) zero d b h = refl
  map_at (x ∷ l) (suc i) d b h = map_at l i d b (omega arith)

-- two functions give the same list exactly where they agree at each element
module _ {A B : Type 0} (f g : A → B) where
  pub maps_each : (l : List A) → map f l ≡ map g l → Each (λ x. f x ≡ g x) l
  maps_each [] e = tt
  maps_each (x ∷ l) e = let h : f x ≡ g x = cc in let t : map f l ≡ map g l = cc in (h, maps_each l t)

  pub each_maps : (l : List A) → Each (λ x. f x ≡ g x) l → map f l ≡ map g l
  each_maps [] e = refl
  each_maps (x ∷ l) e = rw (e.0, each_maps l e.1)
