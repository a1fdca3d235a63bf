-- Parts of a list, and lent buffers with a part replaced (R10.4).
use Rattle.std.specs.Prelude.{ℕ, ◌+◌, ◌-◌, List, ◌++◌, length, take, drop, replicate}

-- bytes of a text, as numbers
abbrev pub Bytes : Type 0
Bytes = List ℕ

module _ {A : Type 0} where
  -- the elements from place a up to, not including, place e; fewer where the list ends before e, none where e is before a
  abbrev pub part : List A → ℕ → ℕ → List A
  part s a e = take (e - a) (drop a s)

  -- o with c in the place of its elements from place `at` on. It is as long as o where c fits: at + length c ≤ length o.
  abbrev pub put : List A → ℕ → List A → List A
  put o at c = take at o ++ (c ++ drop (at + length c) o)

  -- R10.4: o with c in the place of its first elements: a lent buffer after the result c was written to it. As long as o where c fits.
  abbrev pub front : List A → List A → List A
  front o c = c ++ drop (length c) o

-- R10.5: n work words after a call, all of them 0
abbrev pub zeros : ℕ → List ℕ
zeros n = replicate n 0
