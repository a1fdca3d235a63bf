-- Laws of keys: how many, which ones, and the loops that write them.
use Prim.Native.Nat.{ℕ, zero, suc, ◌+◌, ◌*◌, ◌≤◌, ◌<◌, ◌^◌}
use mathlib.Core.Path.{◌≡◌, refl, sym, ap, ap₂, ◌∙◌}
use mathlib.Core.List.{List, [], ◌∷◌, ◌++◌, map}
use native.Mathlib.Nat.{zero-add}
use native.Mathlib.Omega.{arith}
use lib.ListN.{length, get_or, take, drop, set, length-map, length-append, length-take, length-drop}
use lib.Seq.{take_at, length-take-le}
use Rattle.lists.specs.Parts.{part, put}
use Rattle.lists.proofs.MapLaws.{map_at}
use Rattle.lists.proofs.PartLaws.{Copied, copied_none, copied_more, copied-done, put-put, part-drop}
use Rattle.lists.proofs.TestLaws.{each_append, each_take}
use Rattle.word_sort.specs.Inner.Sorted.{sorted}
use Rattle.word_sort.proofs.SortedLaws.{sorted-length}
use Rattle.obligation_claims.specs.Inner.Claims.{keys_from, observed_keys, outcome_keys, LowKeys, LowLiterals}
use Rattle.obligation_claims.specs.Inner.Filling.{InOrder}

pub keys_length : (place : ℕ) (ls : List ℕ) → length (keys_from place ls) ≡ length ls
keys_length place [] = refl
keys_length place (l ∷ ls) = ap suc (keys_length (place + 1) ls)

keys-at : (place : ℕ) (ls : List ℕ) (i : ℕ) → i < length ls → get_or (keys_from place ls) i 0 ≡ 256 * get_or ls i 0 + (place + i)
keys-at place [] i h = absurd (omega arith)
keys-at place (l ∷ ls) zero h = omega arith
keys-at place (l ∷ ls) (suc i) h = keys-at (place + 1) ls i (omega arith) ∙ (omega arith)

pub keys-low : (place : ℕ) (ls : List ℕ) → place + length ls ≤ 256 → LowLiterals ls → LowKeys (keys_from place ls)
keys-low place [] h e = tt
keys-low place (l ∷ ls) h e = (omega (arith, e.0), keys-low (place + 1) ls (omega arith) e.1)

-- ---- add_keys

module _ (o₀ : List ℕ) (at place : ℕ) (ls : List ℕ) where
  pub adding-none : at + length ls ≤ length o₀ → Copied o₀ at (keys_from place ls) o₀ 0
  adding-none h = copied_none o₀ at (keys_from place ls) (omega (arith, keys_length place ls))

  module _ (o : List ℕ) (i : ℕ) (k : Copied o₀ at (keys_from place ls) o i) where
    pub adding-more : i < length ls → Copied o₀ at (keys_from place ls) (set o (at + i) (256 * get_or ls i 0 + (place + i))) (i + 1)
    adding-more h = rw (← keys-at place ls i h) (copied_more o₀ at (keys_from place ls) o i k 0 (omega (arith, keys_length place ls)))

    pub adding-done : length ls ≤ i → o ≡ put o₀ at (keys_from place ls)
    adding-done h = copied-done o₀ at (keys_from place ls) o i k (omega (arith, keys_length place ls))

-- a key is a word
pub literal-word : (ls : List ℕ) → LowLiterals ls → (i : ℕ) → get_or ls i 0 < 2 ^ 31
literal-word [] e i = omega arith
literal-word (l ∷ ls) e zero = e.0
literal-word (l ∷ ls) e (suc i) = literal-word ls e.1 i

-- ---- observed_literals

-- the literals of the observed outputs
abbrev pub picked : List ℕ → List ℕ → List ℕ
picked outputs observed = map (λ i. get_or outputs i 0) observed

module _ (outputs observed o₀ : List ℕ) where
  pub picking_none : length observed ≤ length o₀ → Copied o₀ 0 (picked outputs observed) o₀ 0
  picking_none h = copied_none o₀ 0 (picked outputs observed) (omega (arith, length-map observed (λ i. get_or outputs i 0)))

  module _ (o : List ℕ) (i : ℕ) (k : Copied o₀ 0 (picked outputs observed) o i) where
    pub picking_more : (j v : ℕ) → j ≡ get_or observed i 0 → v ≡ get_or outputs j 0 → i < length observed → Copied o₀ 0 (picked outputs observed) (set o i v) (i + 1)
    picking_more j v e f h =
        let n : get_or (picked outputs observed) i 0 ≡ v = map_at (λ i. get_or outputs i 0) observed i 0 0 h ∙ ap (λ (x : ℕ). get_or outputs x 0) (sym e) ∙ sym f in
        let c : Copied o₀ 0 (picked outputs observed) (set o (0 + i) (get_or (picked outputs observed) i 0)) (i + 1) =
        copied_more o₀ 0 (picked outputs observed) o i k 0 (omega (arith, length-map observed (λ i. get_or outputs i 0))) in
        rw (zero-add i, n) at c

    pub picking_done : length observed ≤ i → o ≡ put o₀ 0 (picked outputs observed)
    picking_done h = copied-done o₀ 0 (picked outputs observed) o i k (omega (arith, length-map observed (λ i. get_or outputs i 0)))

pub picked_length : (outputs observed : List ℕ) → length (picked outputs observed) ≡ length observed
picked_length outputs observed = length-map observed (λ i. get_or outputs i 0)

pub picked_low : (outputs observed : List ℕ) → LowLiterals outputs → LowLiterals (picked outputs observed)
picked_low outputs [] e = tt
picked_low outputs (k ∷ observed) e = (literal-word outputs e k, picked_low outputs observed e)

-- what was written to the front of a slice
pub put-start : (o c w : List ℕ) (n : ℕ) → w ≡ put o 0 c → n ≡ length c → take n w ≡ c
put-start o c w n e h = rw (e, h) (take_at c (drop (0 + length c) o) (length c) refl)

-- ---- observed_keys

pub low-take : (n : ℕ) (ls : List ℕ) → LowLiterals ls → LowLiterals (take n ls)
low-take n ls e = each_take (λ l. l < 2 ^ 31) n ls e

pub low-drop : (n : ℕ) (ls : List ℕ) → LowLiterals ls → LowLiterals (drop n ls)
low-drop zero ls e = e
low-drop (suc n) [] e = tt
low-drop (suc n) (l ∷ ls) e = low-drop n ls e.1

pub observed-length : (ls : List ℕ) → length (observed_keys ls) ≡ length ls
observed-length ls =
    length-append (keys_from 128 (take 64 ls)) (keys_from 64 (drop 64 ls))
    ∙ rw (keys_length 128 (take 64 ls), keys_length 64 (drop 64 ls), length-take, length-drop) (omega arith)

pub observed-low : (ls : List ℕ) → length ls ≤ 128 → LowLiterals ls → LowKeys (observed_keys ls)
observed-low ls h e =
    each_append (λ key. key < 2 ^ 39) (keys_from 128 (take 64 ls)) (keys_from 64 (drop 64 ls))
    (keys-low 128 (take 64 ls) (rw length-take (omega arith)) (low-take 64 ls e))
    (keys-low 64 (drop 64 ls) (rw length-drop (omega arith)) (low-drop 64 ls e))

-- the two halves of the observed literals
module _ (ls low high : List ℕ) (e : low ≡ take 64 ls) (f : high ≡ part ls 64 (length ls)) where
  pub halves_few : length low ≤ 64
  halves_few = rw (e, length-take) (omega arith)

  pub halves_length : length low + length high ≡ length ls
  halves_length = rw (f, part-drop ls 64, e, length-take, length-drop) (omega arith)

  pub halves_low : LowLiterals ls → LowLiterals low
  halves_low k = rw e (low-take 64 ls k)

  pub halves_high : LowLiterals ls → LowLiterals high
  halves_high k = rw (f, part-drop ls 64) (low-drop 64 ls k)

-- the two halves written one behind the other
pub halves_put : (o : List ℕ) (at : ℕ) (ls low high o₁ o₂ : List ℕ) → low ≡ take 64 ls → high ≡ part ls 64 (length ls) → at ≤ length o
    → o₁ ≡ put o at (keys_from 128 low) → o₂ ≡ put o₁ (at + length low) (keys_from 64 high) → o₂ ≡ put o at (observed_keys ls)
halves_put o at ls low high o₁ o₂ e f h p q =
    let n : length low ≡ length (keys_from 128 low) = sym (keys_length 128 low) in
    let g : high ≡ drop 64 ls = f ∙ part-drop ls 64 in
    let s : put o₁ (at + length low) (keys_from 64 high) ≡ put o at (keys_from 128 low ++ keys_from 64 high) =
    rw (p, n) (put-put o at (keys_from 128 low) h (keys_from 64 high)) in
    q ∙ s ∙ ap₂ (λ (x y : List ℕ). put o at (keys_from 128 x ++ keys_from 64 y)) e g

-- ---- sorted keys

pub outcome-length : (nexts observed : List ℕ) → length (outcome_keys nexts observed) ≡ length nexts + length observed
outcome-length nexts observed =
    length-append (keys_from 0 nexts) (observed_keys observed) ∙ rw (keys_length 0 nexts, observed-length observed) refl

pub outcome-low : (nexts observed : List ℕ) → length nexts ≤ 64 → length observed ≤ 128 → LowLiterals nexts → LowLiterals observed → LowKeys (outcome_keys nexts observed)
outcome-low nexts observed h k e f =
    each_append (λ key. key < 2 ^ 39) (keys_from 0 nexts) (observed_keys observed)
    (keys-low 0 nexts (omega arith) e)
    (observed-low observed k f)

-- the part `&mut keys[..n]`, sorted and given back
pub sorted_front : (o part : List ℕ) (n : ℕ) → n ≤ length o → part ≡ sorted (take n o) → take n (part ++ drop n o) ≡ sorted (take n o)
sorted_front o part n h p =
    take_at part (drop n o) n (ap length p ∙ sorted-length (take n o) ∙ length-take-le n o h) ∙ p

-- keys written to the front, and the first n words sorted
module _ (o keys w s : List ℕ) (n : ℕ) (e : w ≡ put o 0 keys) (m : n ≡ length keys) where
  pub in_order_lem : length s ≡ length w → n ≤ length w → take n s ≡ sorted (take n w) → InOrder keys n s
  in_order_lem same room p = record { count = m; inside = omega arith; order = p ∙ ap sorted (put-start o keys w n e m) }

-- next literals, and the observed outputs' behind them
pub outcome-put : (o nexts observed o₁ o₂ : List ℕ) → o₁ ≡ put o 0 (keys_from 0 nexts) → o₂ ≡ put o₁ (length nexts) (observed_keys observed) → o₂ ≡ put o 0 (outcome_keys nexts observed)
outcome-put o nexts observed o₁ o₂ p q =
    let n : length nexts ≡ 0 + length (keys_from 0 nexts) = omega (arith, keys_length 0 nexts) in
    let s : put o₁ (length nexts) (observed_keys observed) ≡ put o 0 (outcome_keys nexts observed) =
    rw (p, n) (put-put o 0 (keys_from 0 nexts) (omega arith) (observed_keys observed)) in
    q ∙ s

-- the literals of the observed outputs, read back from the words they were written to
module _ (outputs observed lits : List ℕ) where
  pub picked_back : (o w : List ℕ) (n : ℕ) → n ≡ length observed → w ≡ put o 0 (picked outputs observed) → lits ≡ take n w → lits ≡ picked outputs observed
  picked_back o w n m e f = f ∙ put-start o (picked outputs observed) w n e (m ∙ sym (picked_length outputs observed))

  module _ (e : lits ≡ picked outputs observed) where
    pub picked_few : length observed ≤ 128 → length lits ≤ 128
    picked_few h = rw (e, picked_length outputs observed) h

    pub picked_lows : LowLiterals outputs → LowLiterals lits
    picked_lows h = rw e (picked_low outputs observed h)

    pub outcome-order : (o nexts w s : List ℕ) (n : ℕ) → w ≡ put o 0 (outcome_keys nexts lits) → n ≡ length nexts + length observed → length s ≡ length w
        → length nexts ≤ 8 → length observed ≤ 128 → 136 ≤ length o → length w ≡ length o → take n s ≡ sorted (take n w) → InOrder (outcome_keys nexts (picked outputs observed)) n s
    outcome-order o nexts w s n f m same few most room kept p =
        let q : w ≡ put o 0 (outcome_keys nexts (picked outputs observed)) = rw e at f in
        let z : n ≡ length (outcome_keys nexts (picked outputs observed)) = omega (arith, outcome-length nexts (picked outputs observed), picked_length outputs observed) in
        in_order_lem o (outcome_keys nexts (picked outputs observed)) w s n q z same (omega arith) p
