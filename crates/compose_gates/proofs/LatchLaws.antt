-- Laws of definitions of latches, as lists and as words.
use Prim.Native.Nat.{ℕ, zero, suc, ◌+◌, ◌*◌, ◌<◌}
use mathlib.Core.Bool.{Bool, true, false}
use mathlib.Core.List.{List, [], ◌∷◌, ◌++◌}
use mathlib.Core.Path.{◌≡◌, refl, sym, ap, ◌∙◌}
use native.Mathlib.Nat.{add-zero}
use native.Mathlib.Omega.{arith}
use borrow.Author.Tests.{eq-eqb, ne_eqb}
use lib.ListN.{length, get_or, set}
use Rattle.lists.specs.Tests.{Each}
use Rattle.lists.proofs.PartLaws.{put_two}
use Rattle.witness_read.specs.Sections.{NamedLatch}
use Rattle.compose_spec.specs.Sharing.{translate}
use Rattle.compose_spec.specs.Composing.{Defined, defined_from, definition_of, same_defined}
use Rattle.compose_gates.specs.Inner.Latches.{DefinesLatch, definitions_from}

-- ---- define_latch

pub latch_new : (place next reset : ℕ) (definitions : List ℕ) (known : Bool) → known ≡ false → place + 1 < length definitions
    → DefinesLatch place next reset definitions (set (set definitions place next) (place + 1) reset) known true
latch_new place next reset definitions known k h = rw k (refl, sym (put_two definitions place next reset h))

-- ---- the list of definitions

-- a latch with the joint variable x
abbrev pub defined_by : List ℕ → ℕ → NamedLatch → Defined
defined_by vars x q = record { variable = get_or vars x 0; next = translate vars q.next; reset = translate vars q.reset }

module _ (vars : List ℕ) where
  pub defined-length : (x : ℕ) (qs : List NamedLatch) → length (defined_from vars x qs) ≡ length qs
  defined-length x [] = refl
  defined-length x (q ∷ qs) = ap suc (defined-length (suc x) qs)

  pub defined-at : (x : ℕ) (qs : List NamedLatch) (j : ℕ) (d : Defined) (q : NamedLatch) → j < length qs
      → get_or (defined_from vars x qs) j d ≡ defined_by vars (x + j) (get_or qs j q)
  defined-at x [] j d q h = absurd (omega arith)
  defined-at x (p ∷ qs) zero d q h = rw (add-zero x)
  defined-at x (p ∷ qs) (suc j) d q h =
      let n : suc x + j ≡ x + suc j = omega arith in
      defined-at (suc x) qs j d q (omega arith) ∙ ap (λ (y : ℕ). defined_by vars y (get_or qs j q)) n

-- the first definition of x: those before it are of smaller variables
pub definition_new : (x : ℕ) (done : List Defined) (d : Defined) (rest : List Defined) → Each (λ e. e.variable < x) done → d.variable ≡ x → definition_of x (done ++ d ∷ rest) ≡ d
definition_new x [] d rest low e = rw (eq-eqb d.variable x e)
definition_new x (b ∷ done) d rest low e = rw (ne_eqb b.variable x (λ n. omega (arith, n, low.0))) (definition_new x done d rest low.1 e)

pub same_self : (d : Defined) → same_defined d d ≡ true
same_self d = rw (eq-eqb d.next d.next refl, eq-eqb d.reset d.reset refl)

-- ---- their words

module _ (ds : List Defined) where
  pub definitions-length : (x n : ℕ) → length (definitions_from x n ds) ≡ 2 * n
  definitions-length x zero = refl
  definitions-length x (suc n) = omega (arith, definitions-length (suc x) n)

  -- one latch more
  pub definitions-next : (x n : ℕ) → definitions_from x (n + 1) ds ≡ definitions_from x n ds ++ (definition_of (x + n) ds).next ∷ (definition_of (x + n) ds).reset ∷ []
  definitions-next x zero = rw (add-zero x)
  definitions-next x (suc n) =
      let m : suc n + 1 ≡ suc (n + 1) = omega arith in
      let k : suc x + n ≡ x + suc n = omega arith in
      rw (m, definitions-next (suc x) n, k)

  pub next-at : (x n k : ℕ) → k < n → get_or (definitions_from x n ds) (2 * k) 0 ≡ (definition_of (x + k) ds).next
  next-at x zero k h = absurd (omega arith)
  next-at x (suc n) zero h = rw (add-zero x)
  next-at x (suc n) (suc k) h =
      let m : 2 * suc k ≡ suc (suc (2 * k)) = omega arith in
      let i : suc x + k ≡ x + suc k = omega arith in
      rw (m, ← i) (next-at (suc x) n k (omega arith))

  pub reset-at : (x n k : ℕ) → k < n → get_or (definitions_from x n ds) (2 * k + 1) 0 ≡ (definition_of (x + k) ds).reset
  reset-at x zero k h = absurd (omega arith)
  reset-at x (suc n) zero h = rw (add-zero x)
  reset-at x (suc n) (suc k) h =
      let m : 2 * suc k + 1 ≡ suc (suc (2 * k + 1)) = omega arith in
      let i : suc x + k ≡ x + suc k = omega arith in
      rw (m, ← i) (reset-at (suc x) n k (omega arith))
