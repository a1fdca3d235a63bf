-- Laws of gate sharing: the composed gates have smaller operands, and each variable of a witness has the value of its composed variable.
use Prim.Native.Nat.{ℕ, zero, suc, ◌+◌, ◌*◌, ◌/◌, ◌%◌, ◌≤◌, ◌<◌}
use mathlib.Core.Bool.{Bool, true, false, cond, ◌&&◌, and_comm}
use mathlib.Core.List.{List, [], ◌∷◌, ◌++◌}
use mathlib.Core.Path.{◌≡◌, refl, sym, ap₂, ◌∙◌}
use native.Mathlib.Nat.{add-zero, add-suc, suc-add}
use native.Mathlib.Omega.{arith}
use lib.Dec.{leb, eqb}
use lib.ListN.{length, get_or, length-append, get_or-append}
use lib.Seq.{get_or-append_seam}
use borrow.Author.Tests.{eqb-true, eqb-false}
use Rattle.lists.specs.Firsts.{place, joined}
use Rattle.lists.specs.Tests.{any, Each}
use Rattle.lists.proofs.BoolLaws.{and_left, and_right, and_cong}
use Rattle.lists.proofs.FirstLaws.{Begins, begins_self, begins_with_lem, begins_then, begins-at, begins-length, joined-begins, joined-place, joined_at}
use Rattle.aiger.specs.declared.Gate.{Gate}
use Rattle.aiger.specs.Gates.{variable, Valuation, value, Conjunction}
use Rattle.aiger.proofs.DefinedLaws.{value_even}
use Rattle.compose_spec.specs.Sharing.{translate, Operands, same_operands, unordered, translated, Shared, share_gates, gates_from}
use Rattle.compose_spec.specs.Inner.Ranges.{GateAt, GatesFrom}
use Rattle.compose_spec.proofs.SolveLaws.{output-value}

-- ---- literals

-- the variable of a translated literal, and its sign
pub translate-variable : (vars : List ℕ) (l : ℕ) → variable (translate vars l) ≡ get_or vars (variable l) 0
translate-variable vars l = half (get_or vars (variable l) 0)
  where
    half : (y : ℕ) → (2 * y + l % 2) / 2 ≡ y
    half y = omega arith

-- the sign is kept
translate_sign : (vars : List ℕ) (l : ℕ) → translate vars l % 2 ≡ l % 2
translate_sign vars l = half (get_or vars (variable l) 0)
  where
    half : (y : ℕ) → (2 * y + l % 2) % 2 ≡ l % 2
    half y = omega arith

-- literals of one sign whose variables have one value have one value
value_like : (u v : Valuation) (l k : ℕ) → l % 2 ≡ k % 2 → u (variable l) ≡ v (variable k) → value u l ≡ value v k
unfolding value
value_like u v l k e f = rw (e, f)

-- a translated literal has the value of the witness's, where its variable has
pub translate-value : (u v : Valuation) (vars : List ℕ) (l : ℕ) → v (variable l) ≡ u (get_or vars (variable l) 0) → value u (translate vars l) ≡ value v l
translate-value u v vars l e = value_like u v (translate vars l) l (translate_sign vars l) (rw (translate-variable vars l) (sym e))

-- ---- operands

-- the order of two operands does not change the value of their gate
unordered-value : (u : Valuation) (x y : ℕ) → (value u (unordered x y).left && value u (unordered x y).right) ≡ (value u x && value u y)
unordered-value u x y = go (leb x y)
  where
    go : (q : Bool) → (value u (cond {A = Operands} q (record { left = x; right = y }) (record { left = y; right = x })).left
        && value u (cond {A = Operands} q (record { left = x; right = y }) (record { left = y; right = x })).right) ≡ (value u x && value u y)
    go true = refl
    go false = and_comm (value u y) (value u x)

-- operands that are told to be the same are
same_operands_lem : (g h : Operands) → same_operands g h ≡ true → g ≡ h
same_operands_lem g h e =
    ap₂ {C = Operands} (λ x y. record { left = x; right = y })
    (eqb-true g.left h.left (and_left (eqb g.left h.left) (eqb g.right h.right) e))
    (eqb-true g.right h.right (and_right (eqb g.left h.left) (eqb g.right h.right) e))

-- both operands have variables below m
abbrev pub Under : ℕ → Operands → Type 0
Under m g = (variable g.left < m) × (variable g.right < m)

-- the operands of the gates of the variables n, n + 1, .. have smaller variables
abbrev pub OperandsFrom : ℕ → List Operands → Type 0
OperandsFrom n [] = Unit {0}
OperandsFrom n (g ∷ gs) = Under n g × OperandsFrom (suc n) gs

-- every composed variable is below m
abbrev pub Low : ℕ → List ℕ → Type 0
Low m vars = (i : ℕ) → get_or vars i 0 < m

-- what is below k is below a larger number
pub low-more : (k m : ℕ) (vars : List ℕ) → k ≤ m → Low k vars → Low m vars
low-more k m vars h l i = omega (arith, l i)

-- one variable more that is below m
low_snoc : (m : ℕ) (vars : List ℕ) (y : ℕ) → Low m vars → y < m → Low m (vars ++ (y ∷ []))
low_snoc m [] y l h zero = h
low_snoc m [] y l h (suc i) = l 0
low_snoc m (x ∷ xs) y l h zero = l 0
low_snoc m (x ∷ xs) y l h (suc i) = low_snoc m xs y (λ j. l (suc j)) h i

-- translated operands are below m where the variables are
translated_under : (m : ℕ) (vars : List ℕ) (g : Gate) → Low m vars → Under m (translated vars g)
translated_under m vars g l = go (leb (translate vars g.left) (translate vars g.right))
  where
    a : variable (translate vars g.left) < m
    a = rw (translate-variable vars g.left) (l (variable g.left))

    b : variable (translate vars g.right) < m
    b = rw (translate-variable vars g.right) (l (variable g.right))

    go : (q : Bool)
        → Under m (cond q (record { left = translate vars g.left; right = translate vars g.right }) (record { left = translate vars g.right; right = translate vars g.left }))
    go true = (a, b)
    go false = (b, a)

-- one gate more with smaller operands
operands_snoc : (n : ℕ) (gs : List Operands) (g : Operands) → OperandsFrom n gs → Under (n + length gs) g → OperandsFrom n (gs ++ (g ∷ []))
operands_snoc n [] g o u = let e : n + 0 ≡ n = omega arith in (rw e at u, tt)
operands_snoc n (h ∷ hs) g o u = (o.0, operands_snoc (suc n) hs g o.1 (rw (suc-add n (length hs), ← add-suc n (length hs)) u))

-- likewise where it may be there already
operands-joined : (n : ℕ) (gs : List Operands) (g : Operands) → OperandsFrom n gs → Under (n + length gs) g → OperandsFrom n (joined same_operands g gs)
operands-joined n gs g o u = go (any (same_operands g) gs)
  where
    go : (q : Bool) → OperandsFrom n (cond q gs (gs ++ (g ∷ [])))
    go true = o
    go false = operands_snoc n gs g o u

-- the composed gates are gates of the variables n, n + 1, .. with smaller operands
pub operands-gates : (n : ℕ) (gs : List Operands) → OperandsFrom n gs → GatesFrom n (gates_from n gs)
operands-gates n [] o = tt
operands-gates n (g ∷ gs) o = (record { output = refl; left = o.0.0; right = o.0.1 }, operands-gates (suc n) gs o.1)

-- ---- a witness's gates, one after the other

-- what one gate makes of the variables and composed gates
abbrev one_shared : ℕ → Gate → Shared → Shared
one_shared n g t =
    record {
      vars = t.vars ++ ((n + place same_operands (translated t.vars g) t.gates) ∷ []);
      gates = joined same_operands (translated t.vars g) t.gates;
    }

-- the composed variables are those of the composed gates or smaller, and the composed gates have smaller operands
pub record Sound (n : ℕ) (t : Shared) : Type 0 where
  pub low : Low (n + length t.gates) t.vars
  pub order : OperandsFrom n t.gates

-- one gate keeps that
sound_one : (n : ℕ) (g : Gate) (t : Shared) → Sound n t → Sound n (one_shared n g t)
sound_one n g t s =
    let c : Operands = translated t.vars g in
    let gs : List Operands = joined same_operands c t.gates in
    let more : length t.gates ≤ length gs = begins-length t.gates gs (joined-begins same_operands c t.gates) in
    record {
      low =
          low_snoc (n + length gs) t.vars (n + place same_operands c t.gates)
          (low-more (n + length t.gates) (n + length gs) t.vars (omega arith) s.low)
          (omega (arith, joined-place same_operands c t.gates));
      order = operands-joined n t.gates c s.order (translated_under (n + length t.gates) t.vars g s.low);
    }

-- sharing keeps that
pub sound-shared : (n : ℕ) (gs : List Gate) (t : Shared) → Sound n t → Sound n (share_gates n gs t)
sound-shared n [] t s = s
sound-shared n (g ∷ gs) t s = sound-shared n gs (one_shared n g t) (sound_one n g t s)

-- r has k variables more than t, and nothing in front has changed
pub record GoesOn (k : ℕ) (t r : Shared) : Type 0 where
  pub vars : Begins t.vars r.vars
  pub gates : Begins t.gates r.gates
  pub long : length r.vars ≡ length t.vars + k

-- sharing only appends: a variable for each gate
pub shared_goes : (n : ℕ) (gs : List Gate) (t : Shared) → GoesOn (length gs) t (share_gates n gs t)
shared_goes n [] t = record { vars = begins_self t.vars; gates = begins_self t.gates; long = omega arith }
shared_goes n (g ∷ gs) t =
    let c : Operands = translated t.vars g in
    let y : ℕ = n + place same_operands c t.gates in
    let o : Shared = one_shared n g t in
    let r : Shared = share_gates n gs o in
    let h = shared_goes n gs o in
    record {
      vars = begins_then t.vars o.vars r.vars (begins_with_lem t.vars (y ∷ [])) h.vars;
      gates = begins_then t.gates o.gates r.gates (joined-begins same_operands c t.gates) h.gates;
      long = omega (arith, h.long, length-append t.vars (y ∷ []));
    }

-- ---- values

-- (stands where there is no such gate)
abbrev no_operands : Operands
no_operands = record { left = 0; right = 0 }

-- the values u follow the equations of the composed gates, the first of which has the variable n
abbrev pub Solves : Valuation → ℕ → List Operands → Type 0
Solves u n gs = (p : ℕ) → p < length gs → u (n + p) ≡ (value u (get_or gs p no_operands).left && value u (get_or gs p no_operands).right)

-- so they do where each composed gate is the conjunction of its operands
pub gates-solved : (u : Valuation) (n : ℕ) (gs : List Operands) → Each (Conjunction u) (gates_from n gs) → Solves u n gs
gates-solved u n [] e p h = absurd (omega arith)
gates-solved u n (g ∷ gs) e zero h =
    let a : 2 * n % 2 ≡ 0 = omega arith in
    let b : 2 * n / 2 ≡ n = omega arith in
    rw (add-zero n) (sym (value_even u (2 * n) a ∙ rw b refl) ∙ e.0)
gates-solved u n (g ∷ gs) e (suc p) h = rw (add-suc n p, ← suc-add n p) (gates-solved u (suc n) gs e.1 p (omega arith))

-- each variable's value under v is that of its composed variable under u
abbrev pub Agrees : Valuation → Valuation → List ℕ → Type 0
Agrees v u vars = (i : ℕ) → i < length vars → v i ≡ u (get_or vars i 0)

-- one variable more that agrees
agrees_snoc : (v u : Valuation) (vars : List ℕ) (y : ℕ) → Agrees v u vars → v (length vars) ≡ u y → Agrees v u (vars ++ (y ∷ []))
agrees_snoc v u vars y a e i h = go (eqb i (length vars)) refl
  where
    go : (q : Bool) → eqb i (length vars) ≡ q → v i ≡ u (get_or (vars ++ (y ∷ [])) i 0)
    go true f = rw (eqb-true i (length vars) f, get_or-append_seam vars y [] 0) e
    go false f =
        let k : i < length vars = omega (arith, eqb-false i (length vars) f, length-append vars (y ∷ [])) in
        rw (get_or-append vars (y ∷ []) 0 i k) (a i k)

-- a gate of the witness has the value of its composed gate
gate_value : (n : ℕ) (u v : Valuation) (g : Gate) (t : Shared) (fs : List Operands) → Begins (one_shared n g t).gates fs → Solves u n fs
    → GateAt (length t.vars) g → Conjunction v g → Agrees v u t.vars → v (length t.vars) ≡ u (n + place same_operands (translated t.vars g) t.gates)
gate_value n u v g t fs b s at c a =
    let vars : List ℕ = t.vars in
    let o : Operands = translated vars g in
    let p : ℕ = place same_operands o t.gates in
    let gs : List Operands = joined same_operands o t.gates in
    let inside : p < length gs = joined-place same_operands o t.gates in
    let is : get_or fs p no_operands ≡ o = begins-at gs fs b p no_operands inside ∙ joined_at same_operands same_operands_lem o no_operands t.gates in
    let e : u (n + p) ≡ (value u o.left && value u o.right) = rw is at (s p (omega (arith, begins-length gs fs b))) in
    sym (output-value v (length vars) g at) ∙ c
    ∙ sym
    (and_cong (value u (translate vars g.left)) (value u (translate vars g.right)) (value v g.left) (value v g.right)
    (translate-value u v vars g.left (a (variable g.left) at.left))
    (translate-value u v vars g.right (a (variable g.right) at.right)))
    ∙ sym (e ∙ unordered-value u (translate vars g.left) (translate vars g.right))

-- so has each variable of a witness: fs are the composed gates in the end
pub shared-values : (n : ℕ) (u v : Valuation) (gs : List Gate) (t : Shared) (fs : List Operands) → Begins (share_gates n gs t).gates fs → Solves u n fs
    → GatesFrom (length t.vars) gs → Each (Conjunction v) gs → Agrees v u t.vars → Agrees v u (share_gates n gs t).vars
shared-values n u v [] t fs b s at c a = a
shared-values n u v (g ∷ gs) t fs b s at c a =
    let o : Shared = one_shared n g t in
    let y : ℕ = n + place same_operands (translated t.vars g) t.gates in
    let one : length o.vars ≡ suc (length t.vars) = length-append t.vars (y ∷ []) ∙ omega arith in
    let b' = begins_then o.gates (share_gates n gs o).gates fs (shared_goes n gs o).gates b in
    shared-values n u v gs o fs b s (rw one at.1) c.1
    (agrees_snoc v u t.vars y a (gate_value n u v g t fs b' s at.0 c.0 a))
