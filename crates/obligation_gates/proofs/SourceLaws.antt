-- Laws for the functions that append the clauses of the source latches.
use Prim.Native.Nat.{ℕ, zero, suc, ◌+◌, ◌/◌, ◌%◌, ◌≤◌, ◌<◌, ◌^◌}
use mathlib.Core.Bool.{Bool, true, false}
use mathlib.Core.List.{List, [], ◌∷◌}
use mathlib.Core.Path.{◌≡◌, refl, sym, ap, ◌∙◌}
use native.Mathlib.Omega.{arith}
use borrow.Author.Tests.{eq-eqb, ne_eqb}
use lib.ListN.{length, get_or, take}
use Rattle.lists.specs.Bits.{odd, bits}
use Rattle.lists.proofs.BitLaws.{bits-length, bits_at}
use Rattle.cnf.specs.declared.Clauses.{Clauses}
use Rattle.cnf.specs.Simplified.{opposite}
use Rattle.cnf.specs.Inner.Appending.{Appends, Space}
use Rattle.cnf.proofs.AppendLaws.{appends-next, appends-end, space-next}
use Rattle.obligation_spec.specs.Lists.{valued, source_lists}
use Rattle.obligation_gates.specs.Inner.Encoding.{Low}
use Rattle.obligation_gates.proofs.PredicateLaws.{low-at, opposite-low}

module _ (current source i : ℕ) where
  pub source-set : source / 2 ^ i % 2 ≡ 1 → current ≡ valued current (odd (source / 2 ^ i))
  source-set h = rw (eq-eqb (source / 2 ^ i % 2) 1 h) refl

  pub source_clear : (source / 2 ^ i % 2 ≡ 1 → ⊥) → (r : ℕ) → r ≡ opposite current → r ≡ valued current (odd (source / 2 ^ i))
  source_clear h r e = rw (ne_eqb (source / 2 ^ i % 2) 1 h) e

valued-low : (l : ℕ) (b : Bool) → l < 2 ^ 31 → valued l b < 2 ^ 32
valued-low l true h = omega arith
valued-low l false h = opposite-low l h

sources_count : (ls : List ℕ) (bs : List Bool) → length ls ≡ length bs → length (source_lists ls bs) ≡ length ls
sources_count [] bs e = refl
sources_count (l ∷ ls) [] e = absurd (omega arith)
sources_count (l ∷ ls) (b ∷ bs) e = ap suc (sources_count ls bs (omega arith))

sources_at : (ls : List ℕ) (bs : List Bool) (i : ℕ) → i < length ls → i < length bs → get_or (source_lists ls bs) i [] ≡ valued (get_or ls i 0) (get_or bs i false) ∷ []
sources_at [] bs i h k = absurd (omega arith)
sources_at (l ∷ ls) [] i h k = absurd (omega arith)
sources_at (l ∷ ls) (b ∷ bs) zero h k = refl
sources_at (l ∷ ls) (b ∷ bs) (suc i) h k = sources_at ls bs i (omega arith) (omega arith)

module _ (currents : List ℕ) (source : ℕ) where
  -- the lists of the source's clauses
  abbrev pub sources : List (List ℕ)
  sources = source_lists currents (bits (length currents) source)

  pub count : length sources ≡ length currents
  count = sources_count currents (bits (length currents) source) (sym (bits-length (length currents) source))

  module _ (i literal : ℕ) (h : i < length currents) (is : literal ≡ valued (get_or currents i 0) (odd (source / 2 ^ i))) where
    list_is : get_or sources i [] ≡ literal ∷ []
    list_is =
        sources_at currents (bits (length currents) source) i h (rw (bits-length (length currents) source) h)
        ∙ rw (bits_at (length currents) source i h, ← is) refl

    pub source-narrow : Low currents → literal < 2 ^ 32
    source-narrow e = rw is (valued-low (get_or currents i 0) (odd (source / 2 ^ i)) (low-at currents i e))

    module _ (p q : Clauses) (g : Appends (take i sources) p q) where
      pub source-space : Space p.counts (length currents) → Space q.counts 1
      source-space s = space-next sources i p q (rw count h) g (rw count s)

      pub source-next : (r : Clauses) → Appends ((literal ∷ []) ∷ []) q r → Appends (take (i + 1) sources) p r
      source-next r k = appends-next sources i p q r [] (rw count h) g (rw list_is k)

  pub source-end : (i : ℕ) (p q : Clauses) → length currents ≤ i → Appends (take i sources) p q → Appends sources p q
  source-end i p q h g = appends-end sources i p q q (rw count h) g
