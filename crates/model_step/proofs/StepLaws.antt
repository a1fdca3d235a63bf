-- Laws for the code of the step: words that hold values, loaded from bits, computed gate by gate, and packed into words again.
use Prim.Native.Nat.{ℕ, zero, suc, ◌+◌, ◌*◌, ◌-◌, ◌/◌, ◌%◌, ◌^◌, ◌≤◌, ◌<◌}
use mathlib.Core.Bool.{Bool, true, false, ◌&&◌, cond}
use mathlib.Core.List.{List, [], ◌∷◌, ◌++◌, map}
use mathlib.Core.Path.{◌≡◌, refl, sym, ap, ◌∙◌}
use native.Mathlib.Omega.{arith}
use lib.Dec.{eqb}
use lib.ListN.{length, get_or, take, drop, set, length-set, length-map, length-take, length-drop, drop_of_length-le}
use lib.Seq.{length-take-le, take-length, get_or-set_same, get_or-set_other, get_or-take}
use borrow.Author.Tests.{eqb-true, eqb-false}
use Rattle.lists.specs.Bits.{odd, bits, bit, packed}
use Rattle.lists.specs.Parts.{part}
use Rattle.lists.specs.Tests.{Each}
use Rattle.lists.specs.Words.{triples_of}
use Rattle.lists.proofs.BitLaws.{odd-bit, bit_lt, odd-xor, product_odd, bits-length, bits_append, packed_under}
use Rattle.lists.proofs.BoolLaws.{xor-turns}
use Rattle.lists.proofs.MapLaws.{map-take, map-drop, each_maps}
use Rattle.lists.proofs.PartLaws.{part-drop}
use Rattle.lists.proofs.RestLaws.{rest_more, take_next}
use Rattle.lists.proofs.TestLaws.{each_at, each-so, each_take}
use Rattle.lists.proofs.WordLaws.{triples_count, triples_at}
use Rattle.aiger.specs.declared.Gate.{Gate}
use Rattle.aiger.specs.Gates.{variable, Valuation, value, gate_from}
use Rattle.aiger.proofs.DefinedLaws.{value_same}
use Rattle.model_step.specs.declared.Outcome.{Outcome}
use Rattle.model_step.specs.Step.{assign, assigned, computed}
use Rattle.model_step.specs.Inner.Stored.{held, Stored, Becomes, Inside, InsideGate, Readable, readings}

-- ---- value_of

pub value-is : (w : List ℕ) (l at : ℕ) → at ≡ variable l → (get_or w at 0 % 2 + l % 2) % 2 ≡ bit (value (held w) l)
unfolding value
value-is w l at e =
    let n : (get_or w at 0 % 2 + l % 2) % 2 % 2 ≡ (get_or w at 0 % 2 + l % 2) % 2 = omega arith in
    sym n ∙ sym (odd-bit ((get_or w at 0 % 2 + l % 2) % 2)) ∙ rw (odd-xor (get_or w at 0) l, xor-turns (odd (get_or w at 0)) (odd l), e)

-- ---- words that hold values

value-stored : (w : List ℕ) (v : Valuation) → Stored w v → (l : ℕ) → variable l < length w → value (held w) l ≡ value v l
value-stored w v s l h = value_same (held w) v l (s.says (variable l) h)

pub values-stored : (w : List ℕ) (v : Valuation) (ls : List ℕ) → Stored w v → Inside (length w) ls → map (value (held w)) ls ≡ map (value v) ls
values-stored w v ls s h =
    each_maps (value (held w)) (value v) ls (each-so (λ l. variable l < length w) (λ l. value (held w) l ≡ value v l) (value-stored w v s) ls h)

pub stored-set : (w : List ℕ) (v : Valuation) (at x : ℕ) (b : Bool) → Stored w v → odd x ≡ b → at < length w → Stored (set w at x) (assign v at b)
stored-set w v at x b s o h = record { says = λ k n. go k (rw (length-set w at x) at n) (eqb k at) refl }
  where
    go : (k : ℕ) → k < length w → (q : Bool) → eqb k at ≡ q → held (set w at x) k ≡ cond q b (v k)
    go k n true e = rw (eqb-true k at e, get_or-set_same w at x 0 h) o
    go k n false e = rw (get_or-set_other w at k x 0 (eqb-false k at e)) (s.says k n)

pub becomes-same : (w : List ℕ) → Becomes w w (λ v. v)
becomes-same w = record { so = λ v s. s }

-- ---- load

inside-at : (n : ℕ) (ls : List ℕ) → Inside n ls → (i : ℕ) → i < length ls → variable (get_or ls i 0) < n
inside-at n ls h i b = each_at (λ (l : ℕ). variable l < n) ls i 0 h b

assigned_append : (v : Valuation) (ls ms : List ℕ) (bs cs : List Bool) → length ls ≡ length bs → assigned v (ls ++ ms) (bs ++ cs) ≡ assigned (assigned v ls bs) ms cs
assigned_append v [] ms [] cs h = refl
assigned_append v [] ms (b ∷ bs) cs h = absurd (omega arith)
assigned_append v (l ∷ ls) ms [] cs h = absurd (omega arith)
assigned_append v (l ∷ ls) ms (b ∷ bs) cs h = assigned_append (assign v (variable l) b) ls ms bs cs (omega arith)

-- one literal more takes one bit more
assigned-next : (v : Valuation) (ls : List ℕ) (x k : ℕ) → k < length ls
    → assigned v (take (k + 1) ls) (bits (k + 1) x) ≡ assign (assigned v (take k ls) (bits k x)) (variable (get_or ls k 0)) (odd (x / 2 ^ k))
assigned-next v ls x k h =
    let n : length (take k ls) ≡ length (bits k x) = length-take-le k ls (omega arith) ∙ sym (bits-length k x) in
    rw (take_next ls k 0 h, bits_append k 1 x) (assigned_append v (take k ls) (get_or ls k 0 ∷ []) (bits k x) (bits 1 (x / 2 ^ k)) n)

-- the variables of the first k literals have taken the bits of x
pub record Loading (w₀ : List ℕ) (lits : List ℕ) (x : ℕ) (w : List ℕ) (k : ℕ) : Type 0 where
  pub same : length w ≡ length w₀
  pub holds : Becomes w₀ w (λ v. assigned v (take k lits) (bits k x))

pub loading-none : (w lits : List ℕ) (x : ℕ) → Loading w lits x w 0
loading-none w lits x = record { same = refl; holds = becomes-same w }

module _ (w₀ lits : List ℕ) (x : ℕ) (w : List ℕ) (k : ℕ) (l : Loading w₀ lits x w k) where
  pub loading-inside : Inside (length w₀) lits → k < length lits → (at : ℕ) → at ≡ variable (get_or lits k 0) → at < length w
  loading-inside i h at e = omega (arith, l.same, inside-at (length w₀) lits i k h)

  pub loading-more : k < length lits → (at : ℕ) → at ≡ variable (get_or lits k 0) → at < length w → Loading w₀ lits x (set w at (x / 2 ^ k % 2)) (k + 1)
  loading-more h at e a = record { same = simp length-set l.same; holds = record { so = λ v s. one v s } }
    where
      last : odd (x / 2 ^ k % 2) ≡ odd (x / 2 ^ k)
      last = let q : x / 2 ^ k % 2 % 2 ≡ x / 2 ^ k % 2 = omega arith in rw q

      one : (v : Valuation) → Stored w₀ v → Stored (set w at (x / 2 ^ k % 2)) (assigned v (take (k + 1) lits) (bits (k + 1) x))
      one v s =
          let u : Valuation = assigned v (take k lits) (bits k x) in
          rw (assigned-next v lits x k h, ← e) (stored-set w u at (x / 2 ^ k % 2) (odd (x / 2 ^ k)) (l.holds.so v s) last a)

  pub loading-done : k ≡ length lits → Becomes w₀ w (λ v. assigned v lits (bits (length lits) x))
  loading-done e = rw (e, take-length lits) at l.holds

-- ---- run_gates

pub computed_append : (v : Valuation) (gs hs : List Gate) → computed v (gs ++ hs) ≡ computed (computed v gs) hs
computed_append v [] hs = refl
computed_append v (g ∷ gs) hs = computed_append (assign v (variable g.output) (value v g.left && value v g.right)) gs hs

-- the code's reads and its write of one gate
module _ (w : List ℕ) (g : Gate) (i : InsideGate (length w) g) where
  pub gate_runs : (output left right : ℕ) → output ≡ variable g.output → left ≡ bit (value (held w) g.left) → right ≡ bit (value (held w) g.right)
      → Becomes w (set w output (left * right)) (λ v. computed v (g ∷ []))
  gate_runs output left right o p q = record { so = λ v s. one v s }
    where
      one : (v : Valuation) → Stored w v → Stored (set w output (left * right)) (computed v (g ∷ []))
      one v s =
          let a : Bool = value v g.left in
          let b : Bool = value v g.right in
          let p' : left ≡ bit a = p ∙ ap bit (value-stored w v s g.left i.left) in
          let q' : right ≡ bit b = q ∙ ap bit (value-stored w v s g.right i.right) in
          let e : odd (left * right) ≡ (a && b) = rw (p', q') (product_odd a b) in
          rw o (stored-set w v (variable g.output) (left * right) (a && b) s e i.output)

-- gates, and then others
pub becomes-more : (w₀ w : List ℕ) (gs : List Gate) → Becomes w₀ w (λ v. computed v gs) → (u : List ℕ) (hs : List Gate) → Becomes w u (λ v. computed v hs)
    → Becomes w₀ u (λ v. computed v (gs ++ hs))
becomes-more w₀ w gs a u hs b = record { so = λ v s. rw (computed_append v gs hs) (b.so (computed v gs) (a.so v s)) }

-- the first i gates are computed
pub record Running (w₀ g w : List ℕ) (i : ℕ) : Type 0 where
  pub same : length w ≡ length w₀
  pub holds : Becomes w₀ w (λ v. computed v (take i (triples_of gate_from g)))

pub running_none : (w g : List ℕ) → Running w g w 0
running_none w g = record { same = refl; holds = becomes-same w }

module _ (w₀ g w : List ℕ) (i : ℕ) (r : Running w₀ g w i) (count : ℕ) (n : count ≤ length g / 3) (h : i < count)
    (a : Gate) (e : a ≡ gate_from (get_or g (3 * i) 0) (get_or g (3 * i + 1) 0) (get_or g (3 * i + 2) 0)) where
  abbrev gates : List Gate
  gates = triples_of gate_from g

  here : get_or gates i a ≡ a
  here = triples_at gate_from g i 0 a (omega arith) ∙ sym e

  enough : count ≤ length gates
  enough = omega (arith, triples_count gate_from g)

  pub running-inside : Each (InsideGate (length w₀)) (take count gates) → InsideGate (length w) a
  running-inside k =
      let f = each_at (InsideGate (length w₀)) (take count gates) i a k (rw (length-take-le count gates enough) h) in
      rw r.same (rw (get_or-take count gates i a h, here) at f)

  pub running_more : (u : List ℕ) → length u ≡ length w → Becomes w u (λ v. computed v (a ∷ [])) → Running w₀ g u (i + 1)
  running_more u n k =
      record {
        same = n ∙ r.same;
        holds = rw (take_next gates i a (omega (arith, enough)), here) (becomes-more w₀ w (take i gates) r.holds u (a ∷ []) k);
      }

-- ---- word

-- the literals from place k on are packed
pub record Packing (w lits : List ℕ) (k r : ℕ) : Type 0 where
  pub is : r ≡ packed (map (value (held w)) (drop k lits))

pub packing-none : (w lits : List ℕ) → Packing w lits (length lits) 0
packing-none w lits = record { is = rw (drop_of_length-le lits {i = length lits} (omega arith)) }

module _ (w lits : List ℕ) (k r : ℕ) (p : Packing w lits k r) (h : 0 < k) (j : k ≤ length lits) where
  pub packing-room : length lits ≤ 64 → (a : Bool) (b : ℕ) → b ≡ bit a → b + 2 * r < 18446744073709551616
  packing-room n a b e =
      let small : r < 2 ^ 63 = rw p.is (packed_under (map (value (held w)) (drop k lits)) 63 (rw (length-map, length-drop) (omega arith))) in
      omega (arith, small, bit_lt a)

  pub packing-inside : Inside (length w) lits → variable (get_or lits (k - 1) 0) < length w
  packing-inside i = inside-at (length w) lits i (k - 1) (omega arith)

  pub packing-more : (b : ℕ) → b ≡ bit (value (held w) (get_or lits (k - 1) 0)) → Packing w lits (k - 1) (b + 2 * r)
  packing-more b e = let f : k - 1 + 1 ≡ k = omega arith in record { is = rw (rest_more lits (k - 1) 0 (omega arith), f, e, p.is) }

pub packing-done : (w lits : List ℕ) (k r : ℕ) → Packing w lits k r → k ≤ 0 → r ≡ packed (map (value (held w)) lits)
packing-done w lits k r p h = let e : k ≡ 0 = omega arith in rw e at p.is

-- ---- read_out

pub read_low : (n : ℕ) (nexts outputs lits : List ℕ) → Readable n nexts outputs → lits ≡ take 64 outputs → (length lits ≤ 64) × Inside n lits
read_low n nexts outputs lits r e = rw e (omega (arith, length-take 64 outputs), each_take (λ (l : ℕ). variable l < n) 64 outputs r.inside_outputs)

each_drop : (P : ℕ → Type 0) (n : ℕ) (l : List ℕ) → Each P l → Each P (drop n l)
each_drop P zero l e = e
each_drop P (suc n) [] e = tt
each_drop P (suc n) (x ∷ l) e = each_drop P n l e.1

pub read_high : (n : ℕ) (nexts outputs lits : List ℕ) → Readable n nexts outputs → lits ≡ part outputs 64 (length outputs) → (length lits ≤ 64) × Inside n lits
read_high n nexts outputs lits r e =
    rw (e, part-drop outputs 64) (omega (arith, length-drop 64 outputs, r.few_outputs), each_drop (λ (l : ℕ). variable l < n) 64 outputs r.inside_outputs)

pub read_all : (v : Valuation) (nexts outputs highs lits : List ℕ) (target high low : ℕ) → highs ≡ part outputs 64 (length outputs) → lits ≡ take 64 outputs
    → target ≡ packed (map (value v) nexts) → high ≡ packed (map (value v) highs) → low ≡ packed (map (value v) lits)
    → ◌≡◌ {A = Outcome} (record { target = target; high = high; low = low }) (readings v nexts outputs)
read_all v nexts outputs highs lits target high low p q t h l =
    let b : high ≡ packed (drop 64 (map (value v) outputs)) = h ∙ rw (p, part-drop outputs 64, map-drop (value v) 64 outputs) in
    let c : low ≡ packed (take 64 (map (value v) outputs)) = l ∙ rw (q, map-take (value v) 64 outputs) in
    rw (t, b, c)
