-- Values assigned one after the other, from bits and gate by gate: what each variable has at the end.
use Prim.Native.Nat.{ℕ, ◌<◌}
use mathlib.Core.Bool.{Bool, true, false, ◌&&◌}
use mathlib.Core.List.{List, [], ◌∷◌, map}
use mathlib.Core.Path.{◌≡◌, refl, ◌∙◌}
use native.Mathlib.Omega.{arith}
use lib.ListN.{length}
use borrow.Author.Tests.{eq-eqb, ne_eqb}
use Rattle.lists.specs.Tests.{Each}
use Rattle.lists.specs.Sets.{member, distinct, rising}
use Rattle.lists.proofs.DistinctLaws.{member-first, member-rest, not-member, distinct_head, distinct_tail}
use Rattle.lists.proofs.MapLaws.{each_maps}
use Rattle.lists.proofs.RisingLaws.{rising-below, rising-tail}
use Rattle.lists.proofs.TestLaws.{each-so, each_map, each_of_map}
use Rattle.aiger.specs.declared.Gate.{Gate}
use Rattle.aiger.specs.Gates.{variable, Valuation, value, output_of}
use Rattle.aiger.proofs.DefinedLaws.{Defines, Orders, value_even, value_same}
use Rattle.model_step.specs.Step.{assign, assigned, computed}

pub assign-same : (v : Valuation) (n : ℕ) (b : Bool) → assign v n b n ≡ b
assign-same v n b = rw (eq-eqb n n refl)

pub assign_other : (v : Valuation) (n : ℕ) (b : Bool) (k : ℕ) → (k ≡ n → ⊥) → assign v n b k ≡ v k
assign_other v n b k h = rw (ne_eqb k n h)

-- literals have the same values where their variables have
pub values-kept : (u v : Valuation) (ls : List ℕ) → Each (λ n. u n ≡ v n) (map variable ls) → map (value u) ls ≡ map (value v) ls
values-kept u v ls e =
    each_maps (value u) (value v) ls
    (each-so (λ l. u (variable l) ≡ v (variable l)) (λ l. value u l ≡ value v l) (value_same u v) ls (each_of_map variable (λ n. u n ≡ v n) ls e))

-- ---- from bits

pub assigned-other : (v : Valuation) (ls : List ℕ) (bs : List Bool) (n : ℕ) → member n (map variable ls) ≡ false → assigned v ls bs n ≡ v n
assigned-other v [] bs n h = refl
assigned-other v (l ∷ ls) [] n h = refl
assigned-other v (l ∷ ls) (b ∷ bs) n h =
    assigned-other (assign v (variable l) b) ls bs n (member-rest n (variable l) (map variable ls) h)
    ∙ assign_other v (variable l) b n (member-first n (variable l) (map variable ls) h)

pub assigned-bits : (most : ℕ) (v : Valuation) (ls : List ℕ) (bs : List Bool) → length bs ≡ length ls → distinct (map variable ls) ≡ true → Each (Defines most) ls
    → map (value (assigned v ls bs)) ls ≡ bs
assigned-bits most v [] [] e d f = refl
assigned-bits most v [] (b ∷ bs) e d f = absurd (omega arith)
assigned-bits most v (l ∷ ls) [] e d f = absurd (omega arith)
assigned-bits most v (l ∷ ls) (b ∷ bs) e d f =
    let w = assign v (variable l) b in
    let one : value (assigned w ls bs) l ≡ b =
    value_even (assigned w ls bs) l f.0.even
    ∙ assigned-other w ls bs (variable l) (distinct_head (variable l) (map variable ls) d)
    ∙ assign-same v (variable l) b in
    rw (one, assigned-bits most w ls bs (omega arith) (distinct_tail (variable l) (map variable ls) d) f.1)

-- ---- gate by gate

abbrev pub gate_variables : List Gate → List ℕ
gate_variables gs = map variable (map output_of gs)

-- no gate reads one that is listed after it
abbrev pub Listed : List Gate → Type 0
Listed [] = Unit {0}
Listed (g ∷ gs) =
    (member (variable g.left) (gate_variables gs) ≡ false)
    × (member (variable g.right) (gate_variables gs) ≡ false)
    × Listed gs

-- a smaller variable than that of a gate is none of the gates behind it, where outputs rise
before-rest : (n : ℕ) (g : Gate) (gs : List Gate) → n < variable g.output → rising (map output_of (g ∷ gs)) ≡ true → member n (gate_variables gs) ≡ false
before-rest n g gs h r =
    let outs = map output_of gs in
    not-member n (map variable outs)
    (each_map variable (λ k. n ≡ k → ⊥) outs
    (each-so (λ l. g.output < l) (λ l. n ≡ variable l → ⊥) (λ l k e. omega arith) outs (rising-below g.output outs r)))

pub rising-listed : (gs : List Gate) → rising (map output_of gs) ≡ true → Each Orders gs → Listed gs
rising-listed [] r o = tt
rising-listed (g ∷ gs) r o = (
  before-rest (variable g.left) g gs o.0.left r,
  before-rest (variable g.right) g gs o.0.right r,
  rising-listed gs (rising-tail g.output (map output_of gs) r) o.1,
)

pub computed-other : (v : Valuation) (gs : List Gate) (n : ℕ) → member n (gate_variables gs) ≡ false → computed v gs n ≡ v n
computed-other v [] n h = refl
computed-other v (g ∷ gs) n h =
    let b = value v g.left && value v g.right in
    computed-other (assign v (variable g.output) b) gs n (member-rest n (variable g.output) (gate_variables gs) h)
    ∙ assign_other v (variable g.output) b n (member-first n (variable g.output) (gate_variables gs) h)

-- each gate's variable is the conjunction of the operands' values at the end
pub computed-says : (v : Valuation) (gs : List Gate) → distinct (gate_variables gs) ≡ true → Each Orders gs → Listed gs
    → Each (λ g. computed v gs (variable g.output) ≡ (value (computed v gs) g.left && value (computed v gs) g.right)) gs
computed-says v [] d o l = tt
computed-says v (g ∷ gs) d o l =
    let n = variable g.output in
    let b = value v g.left && value v g.right in
    let w = assign v n b in
    let end = computed w gs in
    let out : end n ≡ b = computed-other w gs n (distinct_head n (gate_variables gs) d) ∙ assign-same v n b in
    let left : value end g.left ≡ value v g.left =
    value_same end v g.left (computed-other w gs (variable g.left) l.0 ∙ assign_other v n b (variable g.left) (λ e. omega (arith, o.0.left))) in
    let right : value end g.right ≡ value v g.right =
    value_same end v g.right (computed-other w gs (variable g.right) l.1 ∙ assign_other v n b (variable g.right) (λ e. omega (arith, o.0.right))) in
    (out ∙ rw (left, right), computed-says w gs (distinct_tail n (gate_variables gs) d) o.1 l.2)
