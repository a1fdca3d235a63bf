-- Shifted variables and literals, and a witness's variables beside the joint ones.
use Prim.Native.Nat.{ℕ, zero, suc, ◌+◌, ◌-◌, ◌*◌, ◌/◌, ◌%◌, ◌≤◌, ◌<◌}
use mathlib.Core.Bool.{Bool, true, false, cond}
use mathlib.Core.List.{List, [], ◌∷◌, ◌++◌}
use mathlib.Core.Path.{◌≡◌, refl, sym, ap, subst, ◌∙◌}
use native.Mathlib.Omega.{arith}
use lib.Dec.{eqb, leb}
use lib.ListN.{length, get_or, drop, length-append, length-drop, get_or-append}
use lib.Seq.{get_or-append-add, get_or-append_seam, get_or-drop}
use borrow.Author.Tests.{leb-true, leb-false, eqb-true, eqb-false}
use Rattle.lists.proofs.FirstLaws.{Begins, begins-at, begins-length}
use Rattle.aiger.specs.Gates.{variable}
use Rattle.witness_read.specs.Sections.{Sections, leaves}
use Rattle.compose_spec.specs.Sharing.{translate}
use Rattle.compose_joint.specs.declared.Shift.{Shift}
use Rattle.compose_joint.specs.declared.Before.{Before}
use Rattle.compose_joint.specs.Inner.Joint.{input_count, latch_count, shifted, shifted_literal, shift_of}

-- a shifted variable is 0, or that of an input, of a latch, or of a gate
pub shift_cases : (P : ℕ → Type 0) (h : Shift) (x : ℕ) → (x ≡ 0 → P 0) → (0 < x → x ≤ h.inputs → P (x + h.by_input))
    → (h.inputs < x → x ≤ h.leaves → P (x + h.by_latch)) → (h.inputs < x → h.leaves < x → P (x + h.by_gate)) → P (shifted h x)
shift_cases P h x constant input latch gate = go (eqb x 0) refl (leb x h.inputs) refl (leb x h.leaves) refl
  where
    go : (a : Bool) → eqb x 0 ≡ a → (b : Bool) → leb x h.inputs ≡ b → (c : Bool) → leb x h.leaves ≡ c
        → P (cond a 0 (cond b (x + h.by_input) (cond c (x + h.by_latch) (x + h.by_gate))))
    go true e b f c g = constant (eqb-true x 0 e)
    go false e true f c g =
        let some : x ≡ 0 → ⊥ = eqb-false x 0 e in
        input (omega arith) (leb-true x h.inputs f)
    go false e false f true g = latch (leb-false x h.inputs f) (leb-true x h.leaves g)
    go false e false f false g = gate (leb-false x h.inputs f) (leb-false x h.leaves g)

-- the variable of a shifted literal
pub shifted-variable : (h : Shift) (l : ℕ) → variable (shifted_literal h l) ≡ shifted h (variable l)
shifted-variable h l = half (shifted h (variable l))
  where
    half : (y : ℕ) → (2 * y + l % 2) / 2 ≡ y
    half y = omega arith

-- its sign
shifted_sign : (h : Shift) (l : ℕ) → shifted_literal h l % 2 ≡ l % 2
shifted_sign h l = half (shifted h (variable l))
  where
    half : (y : ℕ) → (2 * y + l % 2) % 2 ≡ l % 2
    half y = omega arith

-- the inputs and latches of a witness are among all
pub record Room (i q : ℕ) (b : Before) (s : Sections) : Type 0 where
  pub inputs : b.inputs + input_count s ≤ i
  pub latches : b.latches + latch_count s ≤ q

-- a variable below that of gate k of a witness is shifted below that of gate k of this witness among all
pub shifted-below : (i q : ℕ) (b : Before) (s : Sections) → Room i q b s → (k x : ℕ) → x < suc (leaves s) + k
    → shifted (shift_of i q b s) x < suc (i + q) + (b.gates + k)
shifted-below i q b s r k x h =
    let a : b.inputs + input_count s ≤ i = r.inputs in
    let c : b.latches + latch_count s ≤ q = r.latches in
    shift_cases (λ y. y < suc (i + q) + (b.gates + k)) (shift_of i q b s) x
    (λ z. omega arith) (λ z y. omega arith) (λ z y. omega arith) (λ z y. omega arith)

-- ---- a witness's variables beside the joint ones

-- what stands in `vars` stands in `all` at the shifted place
abbrev pub Keeps : Shift → List ℕ → List ℕ → Type 0
Keeps h vars all = (x : ℕ) → x < length vars → (shifted h x < length all) × (get_or all (shifted h x) 0 ≡ get_or vars x 0)

-- a shifted literal is translated as the literal
pub shifted-translated : (h : Shift) (vars all : List ℕ) (l : ℕ) → Keeps h vars all → variable l < length vars → translate all (shifted_literal h l) ≡ translate vars l
shifted-translated h vars all l k b =
    let v : get_or all (variable (shifted_literal h l)) 0 ≡ get_or vars (variable l) 0 = ap (λ (x : ℕ). get_or all x 0) (shifted-variable h l) ∙ (k (variable l) b).1 in
    rw (v, shifted_sign h l) refl

-- the joint variables may go on
pub keeps-begins : (h : Shift) (vars all more : List ℕ) → Keeps h vars all → Begins all more → Keeps h vars more
keeps-begins h vars all more k b x l =
    let s = k x l in
    (omega (arith, s.0, begins-length all more b), begins-at all more b (shifted h x) 0 s.0 ∙ s.1)

-- one gate more on both sides
pub keeps_snoc : (h : Shift) (vars all : List ℕ) (y : ℕ) → Keeps h vars all → h.inputs ≤ h.leaves → h.leaves < length vars → length all ≡ length vars + h.by_gate
    → Keeps h (vars ++ (y ∷ [])) (all ++ (y ∷ []))
keeps_snoc h vars all y k o p n x l = go (eqb x (length vars)) refl
  where
    one : length (vars ++ (y ∷ [])) ≡ length vars + 1
    one = length-append vars (y ∷ [])

    more : length (all ++ (y ∷ [])) ≡ length all + 1
    more = length-append all (y ∷ [])

    -- the new gate is shifted to the end
    end : x ≡ length vars → shifted h x ≡ length all
    end e =
        shift_cases (λ z. z ≡ length all) h x
        (λ z. absurd (omega arith)) (λ z w. absurd (omega arith)) (λ z w. absurd (omega arith)) (λ z w. omega arith)

    go : (q : Bool) → eqb x (length vars) ≡ q → (shifted h x < length (all ++ (y ∷ []))) × (get_or (all ++ (y ∷ [])) (shifted h x) 0 ≡ get_or (vars ++ (y ∷ [])) x 0)
    go true f =
        let e : x ≡ length vars = eqb-true x (length vars) f in
        let last : shifted h x ≡ length all = end e in (
          omega (arith, more, last),
          ap (λ (z : ℕ). get_or (all ++ (y ∷ [])) z 0) last ∙ get_or-append_seam all y [] 0
              ∙ sym (ap (λ (z : ℕ). get_or (vars ++ (y ∷ [])) z 0) e ∙ get_or-append_seam vars y [] 0),
        )
    go false f =
        let other : x ≡ length vars → ⊥ = eqb-false x (length vars) f in
        let low : x < length vars = omega (arith, one, l) in
        let s = k x low in (
          omega (arith, more, s.0),
          get_or-append all (y ∷ []) 0 (shifted h x) s.0 ∙ s.1 ∙ sym (get_or-append vars (y ∷ []) 0 x low),
        )

-- ---- inputs and latches

-- `some` stands in `all` from place n on
pub record StandsAt (n : ℕ) (some all : List ℕ) : Type 0 where
  pub rest : List ℕ
  pub is : drop n all ≡ some ++ rest

-- so its element k stands at place n + k
stands_at : (n : ℕ) (some all : List ℕ) → StandsAt n some all → (k : ℕ) → k < length some → get_or all (n + k) 0 ≡ get_or some k 0
stands_at n some all s k h = sym (get_or-drop n all k 0) ∙ ap (λ (l : List ℕ). get_or l k 0) s.is ∙ get_or-append some s.rest 0 k h

-- and the longer list is long enough where there is any
pub stands_long : (n : ℕ) (some all : List ℕ) → StandsAt n some all → length some ≤ length all - n
stands_long n some all s = omega (arith, length-drop n all, ap length s.is, length-append some s.rest)

module _ (h : Shift) (xs ys all-xs all-ys : List ℕ) (latches_before : ℕ) (a : StandsAt h.by_input xs all-xs) (b : StandsAt latches_before ys all-ys)
    (inputs : h.inputs ≡ length xs) (leaves : h.leaves ≡ length xs + length ys) (by : h.by_latch ≡ length all-xs + latches_before - length xs) where
  -- the joint list
  abbrev whole : List ℕ
  whole = 0 ∷ (all-xs ++ all-ys)

  -- a variable stands in the joint list at place y
  abbrev Here : ℕ → ℕ → Type 0
  Here x y = (y < length whole) × (get_or whole y 0 ≡ get_or (0 ∷ (xs ++ ys)) x 0)

  -- its length, without the constant
  total : length (all-xs ++ all-ys) ≡ length all-xs + length all-ys
  total = length-append all-xs all-ys

  -- an input
  input-here : (k : ℕ) → k < length xs → Here (suc k) (suc k + h.by_input)
  input-here k l =
      let n : ℕ = h.by_input in
      let e : suc (n + k) ≡ suc k + n = omega arith in
      let low : n + k < length all-xs = omega (arith, stands_long n xs all-xs a) in
      subst (Here (suc k)) e (
        omega (arith, total),
        get_or-append all-xs all-ys 0 (n + k) low ∙ stands_at n xs all-xs a k l ∙ sym (get_or-append xs ys 0 k l),
      )

  -- a latch
  latch_here : (k : ℕ) → length xs ≤ k → k < length xs + length ys → Here (suc k) (suc k + h.by_latch)
  latch_here k l r =
      let n : ℕ = latches_before in
      let j : ℕ = k - length xs in
      let here : k ≡ length xs + j = omega arith in
      let some : length xs ≤ length all-xs = omega (arith, stands_long h.by_input xs all-xs a) in
      let e : suc (length all-xs + (n + j)) ≡ suc k + h.by_latch = omega (arith, by) in
      let low : n + j < length all-ys = omega (arith, stands_long n ys all-ys b) in
      subst (Here (suc k)) e (
        omega (arith, total),
        get_or-append-add all-xs all-ys (n + j) 0 ∙ stands_at n ys all-ys b j (omega arith)
            ∙ sym (ap (λ (z : ℕ). get_or (xs ++ ys) z 0) here ∙ get_or-append-add xs ys j 0),
      )

  -- the inputs and latches of a witness stand in the joint list
  pub leaves_kept : Keeps h (0 ∷ (xs ++ ys)) whole
  leaves_kept zero l = shift_cases (Here 0) h 0 (λ z. (omega arith, refl)) (λ z w. absurd (omega arith)) (λ z w. absurd (omega arith)) (λ z w. absurd (omega arith))
  leaves_kept (suc k) l =
      let n : length (xs ++ ys) ≡ length xs + length ys = length-append xs ys in
      let l' : suc k < suc (length (xs ++ ys)) = l in
      shift_cases (Here (suc k)) h (suc k)
      (λ z. absurd (omega arith)) (λ z w. input-here k (omega arith)) (λ z w. latch_here k (omega arith) (omega arith)) (λ z w. absurd (omega arith))
