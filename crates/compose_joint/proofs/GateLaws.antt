-- The joint circuit's gates: shared as one list they give the composed gates, and their operands are smaller.
use Prim.Native.Nat.{ℕ, zero, suc, ◌+◌, ◌*◌, ◌/◌, ◌≤◌, ◌<◌}
use mathlib.Core.List.{List, [], ◌∷◌, ◌++◌, map}
use mathlib.Core.Path.{◌≡◌, refl, sym, ap, ap₂, subst, ◌∙◌}
use native.Mathlib.Omega.{arith}
use lib.ListN.{length, get_or, length-map}
use Rattle.lists.specs.Tests.{Each}
use Rattle.lists.specs.Words.{pairs_of, words_of}
use Rattle.lists.proofs.FirstLaws.{begins_self, joined_length}
use Rattle.lists.proofs.WordLaws.{pairs_append, pairs-at, pairs-count, words-length}
use Rattle.aiger.specs.declared.Gate.{Gate}
use Rattle.aiger.specs.Gates.{variable, gate_from}
use Rattle.witness_read.specs.Sections.{Sections, leaves}
use Rattle.witness_load.specs.Inner.Loaded.{operand_words}
use Rattle.compose_spec.specs.Numbering.{Entry, input_entries, latch_entries, input_firsts, latch_firsts, numbered, leaf_count}
use Rattle.compose_spec.specs.Sharing.{same_operands, translated, Shared, share_gates}
use Rattle.compose_spec.specs.Composing.{composed_gates}
use Rattle.compose_spec.specs.Inner.Ranges.{InRange, GatesFrom}
use Rattle.compose_spec.proofs.ShareLaws.{Low, Sound, sound-shared, shared_goes}
use Rattle.compose_joint.specs.declared.Shift.{Shift}
use Rattle.compose_joint.specs.declared.Before.{Before}
use Rattle.compose_joint.specs.declared.Literals.TheVariants as literals
use Rattle.compose_joint.specs.Inner.Joint.{total_of, input_count, latch_count, gate_count, shifted_literal, nothing_before, beyond, shift_of, gathered_from, joint_literals, joint, list_of}
use Rattle.compose_joint.specs.Inner.Numbers.{leaf_vars, joint_gates, joint_shared}
use Rattle.compose_joint.proofs.ShiftLaws.{Room, shifted-variable, shifted-below}
use Rattle.compose_joint.proofs.AmountLaws.{joint-operands-length, input_entries_length, latch_entries_length, leaf_vars-length, leaf_vars-most, Amounts, amounts-all, amounts-room, amounts-next}
use Rattle.compose_joint.proofs.BesideLaws.{shifted_gate}
use Rattle.compose_joint.proofs.SideLaws.{gates_beside, Together, all-together}

-- ---- the joint operands as gates

-- those of one witness
pairs-shifted : (h : Shift) (gs : List Gate) → pairs_of (gate_from 0) (map (shifted_literal h) (words_of operand_words gs)) ≡ map (shifted_gate h) gs
pairs-shifted h [] = refl
pairs-shifted h (g ∷ gs) = ap (λ (r : List Gate). shifted_gate h g ∷ r) (pairs-shifted h gs)

-- those of all
pairs-beside : (i q w : ℕ) (b : Before) (ws : List Sections)
    → pairs_of (gate_from 0) (gathered_from (joint_literals (list_of literals.Operands) i q) w b ws) ≡ gates_beside i q b ws
pairs-beside i q w b [] = refl
pairs-beside i q w b (s ∷ ss) =
    let h : Shift = shift_of i q b s in
    let words : List ℕ = words_of operand_words s.gates in
    let two : length (map (shifted_literal h) words) ≡ 2 * length s.gates = length-map words (shifted_literal h) ∙ words-length operand_words 2 (λ g. refl) s.gates in
    pairs_append (gate_from 0) (map (shifted_literal h) words) (gathered_from (joint_literals (list_of literals.Operands) i q) (suc w) (beyond b s) ss) (omega (arith, two))
    ∙ ap₂ (λ xs ys. xs ++ ys) (pairs-shifted h s.gates) (pairs-beside i q (suc w) (beyond b s) ss)

-- ---- shared

-- the joint circuit, shared as one list, has the composed gates, and each witness's variables stand among its own
pub joint-together : (m : Sections) (ws : List Sections) → Each InRange ws
    → Together m (input_firsts m ws) (latch_firsts m ws) (total_of input_count ws) (total_of latch_count ws) (suc (leaf_count m ws))
    (map (numbered 1 (input_firsts m ws)) (input_entries m 0 ws))
    (map (numbered (suc (length (input_firsts m ws))) (latch_firsts m ws)) (latch_entries m 0 ws))
    (length-map (input_entries m 0 ws) (numbered 1 (input_firsts m ws)) ∙ input_entries_length m 0 ws)
    (length-map (latch_entries m 0 ws) (numbered (suc (length (input_firsts m ws))) (latch_firsts m ws)) ∙ latch_entries_length m 0 ws)
    0 nothing_before ws [] (joint_shared m ws)
joint-together m ws r =
    let is : List Entry = input_firsts m ws in
    let qs : List Entry = latch_firsts m ws in
    let f : Entry → ℕ = numbered 1 is in
    let g : Entry → ℕ = numbered (suc (length is)) qs in
    let i : ℕ = total_of input_count ws in
    let q : ℕ = total_of latch_count ws in
    let n : ℕ = suc (leaf_count m ws) in
    let xs : List ℕ = map f (input_entries m 0 ws) in
    let ys : List ℕ = map g (latch_entries m 0 ws) in
    let nx : length xs ≡ i = length-map (input_entries m 0 ws) f ∙ input_entries_length m 0 ws in
    let ny : length ys ≡ q = length-map (latch_entries m 0 ws) g ∙ latch_entries_length m 0 ws in
    subst (λ (gs : List Gate). Together m is qs i q n xs ys nx ny 0 nothing_before ws [] (share_gates n gs (record { vars = leaf_vars m ws; gates = [] })))
    (sym (pairs-beside i q 0 nothing_before ws))
    (all-together m is qs i q n xs ys nx ny 0 nothing_before ws (leaf_vars m ws) [] (record { inputs = refl; latches = refl }) (begins_self (leaf_vars m ws))
    (leaf_vars-length m ws ∙ omega arith) r)

-- the joint circuit's gates, shared, are the composed gates
pub joint-gates : (m : Sections) (ws : List Sections) → Each InRange ws → (joint_shared m ws).gates ≡ composed_gates m ws
joint-gates m ws r = (joint-together m ws r).gates

-- ---- how large the composed variables are

-- what holds of each word, and of 0, holds wherever it is read
low-each : (m : ℕ) (l : List ℕ) → Each (λ x. x ≤ m) l → Low (suc m) l
low-each m [] e i = omega arith
low-each m (x ∷ l) e zero = omega (arith, e.0)
low-each m (x ∷ l) e (suc i) = low-each m l e.1 i

-- and back
each-low : (m : ℕ) (l : List ℕ) → Low (suc m) l → Each (λ x. x ≤ m) l
each-low m [] h = tt
each-low m (x ∷ l) h = (omega (arith, h 0), each-low m l (λ i. h (suc i)))

-- each composed variable is at most that of the last composed gate
pub joint-vars-most : (m : Sections) (ws : List Sections) → Each InRange ws → Each (λ x. x ≤ leaf_count m ws + length (composed_gates m ws)) (joint_shared m ws).vars
joint-vars-most m ws r =
    let n : ℕ = suc (leaf_count m ws) in
    let start : n + 0 ≡ n = omega arith in
    let leaves-low : Low (n + 0) (leaf_vars m ws) = rw start (low-each (leaf_count m ws) (leaf_vars m ws) (leaf_vars-most m ws)) in
    let s : Sound n (joint_shared m ws) = sound-shared n (joint_gates ws) (record { vars = leaf_vars m ws; gates = [] }) (record { low = leaves-low; order = tt }) in
    let e : n + length (joint_shared m ws).gates ≡ suc (leaf_count m ws + length (composed_gates m ws)) = rw (joint-gates m ws r) (omega arith) in
    each-low (leaf_count m ws + length (composed_gates m ws)) (joint_shared m ws).vars (subst (λ (k : ℕ). Low k (joint_shared m ws).vars) e s.low)

-- ---- how many there are

-- the joint circuit has the gates of all witnesses
pub joint-gates-length : (ws : List Sections) → length (joint_gates ws) ≡ total_of gate_count ws
joint-gates-length ws = omega (arith, pairs-count (gate_from 0) (joint (list_of literals.Operands) ws), joint-operands-length ws)

-- a composed variable for each joint variable
pub joint-vars-length : (m : Sections) (ws : List Sections)
    → length (joint_shared m ws).vars ≡ suc (total_of input_count ws + total_of latch_count ws + total_of gate_count ws)
joint-vars-length m ws =
    (shared_goes (suc (leaf_count m ws)) (joint_gates ws) (record { vars = leaf_vars m ws; gates = [] })).long
    ∙ rw (leaf_vars-length m ws, joint-gates-length ws) (omega arith)

-- sharing makes at most one composed gate of each gate
shared-most : (n : ℕ) (gs : List Gate) (t : Shared) → length (share_gates n gs t).gates ≤ length t.gates + length gs
shared-most n [] t = omega arith
shared-most n (g ∷ gs) t =
    omega (arith, shared-most n gs (share_gates n (g ∷ []) t), joined_length same_operands (translated t.vars g) t.gates)

-- the composition has no more gates than the witnesses together
pub composed-gates-most : (m : Sections) (ws : List Sections) → Each InRange ws → length (composed_gates m ws) ≤ total_of gate_count ws
composed-gates-most m ws r =
    omega (
      arith,
      ap length (joint-gates m ws r),
      shared-most (suc (leaf_count m ws)) (joint_gates ws) (record { vars = leaf_vars m ws; gates = [] }),
      joint-gates-length ws,
    )

-- ---- operands are smaller

-- the operands of gates whose variables are n, n + 1, .. have smaller variables
abbrev Earlier : ℕ → List Gate → Type 0
Earlier n [] = Unit {0}
Earlier n (g ∷ gs) = ((variable g.left < n) × (variable g.right < n)) × Earlier (suc n) gs

-- two lists of gates one after the other
earlier_append : (n : ℕ) (xs ys : List Gate) → Earlier n xs → Earlier (n + length xs) ys → Earlier n (xs ++ ys)
earlier_append n [] ys h k = let e : n + 0 ≡ n = omega arith in rw e at k
earlier_append n (x ∷ xs) ys h k =
    let e : n + suc (length xs) ≡ suc n + length xs = omega arith in
    (h.0, earlier_append (suc n) xs ys h.1 (subst (λ (j : ℕ). Earlier j ys) e k))

-- gate k of such gates
earlier-at : (n : ℕ) (gs : List Gate) → Earlier n gs → (k : ℕ) → k < length gs → (variable (get_or gs k (gate_from 0 0 0)).left < n + k) × (variable (get_or gs k (gate_from 0 0 0)).right < n + k)
earlier-at n [] h k l = absurd (omega arith)
earlier-at n (g ∷ gs) h zero l = let e : n + 0 ≡ n = omega arith in rw e h.0
earlier-at n (g ∷ gs) h (suc k) l =
    let e : suc n + k ≡ n + suc k = omega arith in
    rw e at (earlier-at (suc n) gs h.1 k (omega arith))

-- the gates of a witness from number k on, shifted
shifted-earlier : (i q : ℕ) (b : Before) (s : Sections) → Room i q b s → (k : ℕ) (gs : List Gate) → GatesFrom (suc (leaves s) + k) gs
    → Earlier (suc (i + q) + (b.gates + k)) (map (shifted_gate (shift_of i q b s)) gs)
shifted-earlier i q b s r k [] at = tt
shifted-earlier i q b s r k (g ∷ gs) at =
    let h : Shift = shift_of i q b s in
    let e : suc (suc (leaves s) + k) ≡ suc (leaves s) + suc k = omega arith in
    let f : suc (i + q) + (b.gates + suc k) ≡ suc (suc (i + q) + (b.gates + k)) = omega arith in (
      (
        rw (shifted-variable h g.left) (shifted-below i q b s r k (variable g.left) at.0.left),
        rw (shifted-variable h g.right) (shifted-below i q b s r k (variable g.right) at.0.right),
      ),
      subst (λ (j : ℕ). Earlier j (map (shifted_gate h) gs)) f (shifted-earlier i q b s r (suc k) gs (subst (λ (j : ℕ). GatesFrom j gs) e at.1)),
    )

-- the gates of all witnesses
beside-earlier : (i q g : ℕ) (b : Before) (ss : List Sections) → Amounts i q g b ss → Each InRange ss → Earlier (suc (i + q) + b.gates) (gates_beside i q b ss)
beside-earlier i q g b [] a r = tt
beside-earlier i q g b (s ∷ ss) a r =
    let h : Shift = shift_of i q b s in
    let e : suc (leaves s) ≡ suc (leaves s) + 0 = omega arith in
    let f : suc (i + q) + (b.gates + 0) ≡ suc (i + q) + b.gates = omega arith in
    let next : suc (i + q) + (b.gates + gate_count s) ≡ suc (i + q) + b.gates + length (map (shifted_gate h) s.gates) = omega (arith, length-map s.gates (shifted_gate h)) in
    earlier_append (suc (i + q) + b.gates) (map (shifted_gate h) s.gates) (gates_beside i q (beyond b s) ss)
    (subst (λ (j : ℕ). Earlier j (map (shifted_gate h) s.gates)) f
    (shifted-earlier i q b s (amounts-room i q g b s ss a) 0 s.gates (subst (λ (j : ℕ). GatesFrom j s.gates) e r.0.gates)))
    (subst (λ (j : ℕ). Earlier j (gates_beside i q (beyond b s) ss)) next (beside-earlier i q g (beyond b s) ss (amounts-next i q g b s ss a) r.1))

-- the operands of gate k of the joint circuit have smaller variables than the gate
pub joint-earlier : (ws : List Sections) → Each InRange ws → (k : ℕ) → k < total_of gate_count ws
    → (get_or (joint (list_of literals.Operands) ws) (2 * k) 0 / 2 < suc (total_of input_count ws + total_of latch_count ws) + k)
    × (get_or (joint (list_of literals.Operands) ws) (2 * k + 1) 0 / 2 < suc (total_of input_count ws + total_of latch_count ws) + k)
joint-earlier ws r k h =
    let i : ℕ = total_of input_count ws in
    let q : ℕ = total_of latch_count ws in
    let ops : List ℕ = joint (list_of literals.Operands) ws in
    let two : length ops ≡ 2 * total_of gate_count ws = joint-operands-length ws in
    let f : suc (i + q) + 0 ≡ suc (i + q) = omega arith in
    let all : Earlier (suc (i + q)) (joint_gates ws) =
    subst (Earlier (suc (i + q))) (sym (pairs-beside i q 0 nothing_before ws))
    (subst (λ (j : ℕ). Earlier j (gates_beside i q nothing_before ws)) f (beside-earlier i q (total_of gate_count ws) nothing_before ws (amounts-all ws) r)) in
    let e : get_or (joint_gates ws) k (gate_from 0 0 0) ≡ gate_from 0 (get_or ops (2 * k) 0) (get_or ops (2 * k + 1) 0) = pairs-at (gate_from 0) ops k 0 (gate_from 0 0 0) (omega arith) in
    subst (λ (g : Gate). (variable g.left < suc (i + q) + k) × (variable g.right < suc (i + q) + k)) e
    (earlier-at (suc (i + q)) (joint_gates ws) all k (omega (arith, joint-gates-length ws)))
