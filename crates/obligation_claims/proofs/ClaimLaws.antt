-- The clauses filled by keys are those of R7.4, as lists of literals in the order of the latches and outputs.
use Prim.Native.Nat.{ℕ, suc, ◌+◌, ◌*◌, ◌/◌, ◌%◌, ◌≤◌, ◌<◌, ◌^◌}
use mathlib.Core.Path.{◌≡◌, refl, sym, ap, ap₂, ◌∙◌}
use mathlib.Core.Bool.{Bool, false, not}
use mathlib.Core.List.{List, [], ◌∷◌, ◌++◌, map, map-append}
use native.Mathlib.Nat.{add-zero}
use native.Mathlib.Omega.{arith}
use lib.Dec.{eqb}
use lib.ListN.{length, get_or, take, drop, length-take, length-drop}
use Rattle.lists.specs.Bits.{odd, bits}
use Rattle.lists.specs.Sets.{member, holds}
use Rattle.lists.specs.Tests.{any}
use Rattle.lists.proofs.BitLaws.{bits-length, bits_at}
use Rattle.lists.proofs.TestLaws.{any-map}
use Rattle.lists.proofs.AnyLaws.{member-any}
use Rattle.word_sort.specs.Inner.Sorted.{sorted}
use Rattle.word_sort.proofs.SortedLaws.{any-sorted}
use Rattle.cnf.specs.Simplified.{simplified}
use Rattle.cnf.proofs.MemberLaws.{simplified_members}
use Rattle.model_step.specs.declared.Outcome.{Outcome}
use Rattle.obligation_spec.specs.Lists.{valued, differing, output_bits, outcomes_of}
use Rattle.obligation_claims.specs.Inner.Claims.{keys_from, claim_list, state_claims, outcome_claims, observed_keys, outcome_keys}

-- ---- the order of the keys does not matter

abbrev literal_of : List ℕ → ℕ → ℕ
literal_of claim key = valued (key / 256) (not (holds claim (key % 256)))

claim_member : (keys claim : List ℕ) (x : ℕ) → member x (claim_list keys claim) ≡ any (λ key. eqb x (literal_of claim key)) keys
claim_member keys claim x = member-any x (claim_list keys claim) ∙ any-map (literal_of claim) (eqb x) keys

pub claim_sorted : (keys claim : List ℕ) → simplified (claim_list (sorted keys) claim) ≡ simplified (claim_list keys claim)
claim_sorted keys claim =
    simplified_members (claim_list (sorted keys) claim) (claim_list keys claim) (λ x.
    claim_member (sorted keys) claim x ∙ any-sorted (λ key. eqb x (literal_of claim key)) keys ∙ sym (claim_member keys claim x))

-- ---- the literals that the keys give

-- bit k of word w
word-bit : (ws : List ℕ) (w k : ℕ) → k < 64 → holds ws (64 * w + k) ≡ odd (get_or ws w 0 / 2 ^ k)
unfolding holds
word-bit ws w k h =
    let d : (64 * w + k) / 64 ≡ w = omega arith in
    let m : (64 * w + k) % 64 ≡ k = omega arith in
    rw (d, m)

part_differs : (claim : List ℕ) (place : ℕ) (ls : List ℕ) (bs : List Bool) → place + length ls ≤ 256 → length ls ≤ length bs
    → ((k : ℕ) → k < length ls → holds claim (place + k) ≡ get_or bs k false) → claim_list (keys_from place ls) claim ≡ differing ls bs
part_differs claim place [] bs h n e = refl
part_differs claim place (l ∷ ls) [] h n e = absurd (omega arith)
part_differs claim place (l ∷ ls) (b ∷ bs) h n e =
    let d : (256 * l + place) / 256 ≡ l = omega arith in
    let m : (256 * l + place) % 256 ≡ place = omega arith in
    let f : holds claim place ≡ b = rw (add-zero place) at (e 0 (omega arith)) in
    let r : claim_list (keys_from (place + 1) ls) claim ≡ differing ls bs =
    part_differs claim (place + 1) ls bs (omega arith) (omega arith) (λ k q.
    let s : place + suc k ≡ place + 1 + k = omega arith in rw s at (e (suc k) (omega arith))) in
    rw (d, m, f, r)

-- the keys of one word's bits
word_differs : (claim : List ℕ) (w : ℕ) (ls : List ℕ) (n : ℕ) → 64 * w + length ls ≤ 256 → length ls ≤ n → length ls ≤ 64
    → claim_list (keys_from (64 * w) ls) claim ≡ differing ls (bits n (get_or claim w 0))
word_differs claim w ls n h k m =
    part_differs claim (64 * w) ls (bits n (get_or claim w 0)) h (rw (bits-length n (get_or claim w 0)) k) (λ j q.
    word-bit claim w j (omega arith) ∙ sym (bits_at n (get_or claim w 0) j (omega arith)))

differing_append : (bs cs : List Bool) (ls : List ℕ) → differing ls (bs ++ cs) ≡ differing (take (length bs) ls) bs ++ differing (drop (length bs) ls) cs
differing_append [] cs [] = refl
differing_append [] cs (l ∷ ls) = refl
differing_append (b ∷ bs) cs [] = refl
differing_append (b ∷ bs) cs (l ∷ ls) = rw (differing_append bs cs ls)

differing-parts : (n : ℕ) (bs cs : List Bool) (ls : List ℕ) → length bs ≡ n → differing ls (bs ++ cs) ≡ differing (take n ls) bs ++ differing (drop n ls) cs
differing-parts n bs cs ls e = rw (← e) (differing_append bs cs ls)

-- ---- states

state-literals : (ls : List ℕ) (s : ℕ) → length ls ≤ 64 → claim_list (keys_from 0 ls) (s ∷ []) ≡ differing ls (bits (length ls) s)
state-literals ls s h = word_differs (s ∷ []) 0 ls (length ls) (omega arith) (omega arith) h

module _ (keys ls : List ℕ) (h : length ls ≤ 64) (e : keys ≡ sorted (keys_from 0 ls)) where
  pub state-clauses : (states : List ℕ) → map simplified (state_claims keys states) ≡ map simplified (map (λ s. differing ls (bits (length ls) s)) states)
  state-clauses [] = refl
  state-clauses (s ∷ states) =
      let f : simplified (claim_list keys (s ∷ [])) ≡ simplified (differing ls (bits (length ls) s)) =
      rw e (claim_sorted (keys_from 0 ls) (s ∷ [])) ∙ ap simplified (state-literals ls s h) in
      rw (f, state-clauses states)

-- ---- outcomes

-- the literals of an outcome, as `outcome_list` of crate `obligation_spec` has them
abbrev pub differing_outcome : List ℕ → List ℕ → Outcome → List ℕ
differing_outcome nexts observed o = differing nexts (bits (length nexts) o.target) ++ differing observed (output_bits o)

observed-literals : (observed : List ℕ) (t h l : ℕ) → length observed ≤ 128
    → claim_list (observed_keys observed) (t ∷ h ∷ l ∷ []) ≡ differing observed (bits 64 l ++ bits 64 h)
observed-literals observed t h l k =
    let a : claim_list (keys_from 128 (take 64 observed)) (t ∷ h ∷ l ∷ []) ≡ differing (take 64 observed) (bits 64 l) =
    word_differs (t ∷ h ∷ l ∷ []) 2 (take 64 observed) 64 (rw length-take (omega arith)) (rw length-take (omega arith)) (rw length-take (omega arith)) in
    let b : claim_list (keys_from 64 (drop 64 observed)) (t ∷ h ∷ l ∷ []) ≡ differing (drop 64 observed) (bits 64 h) =
    word_differs (t ∷ h ∷ l ∷ []) 1 (drop 64 observed) 64 (rw length-drop (omega arith)) (rw length-drop (omega arith)) (rw length-drop (omega arith)) in
    map-append (literal_of (t ∷ h ∷ l ∷ [])) (keys_from 128 (take 64 observed)) (keys_from 64 (drop 64 observed))
    ∙ ap₂ (λ (x y : List ℕ). x ++ y) a b
    ∙ sym (differing-parts 64 (bits 64 l) (bits 64 h) observed (bits-length 64 l))

outcome-literals : (nexts observed : List ℕ) (t h l : ℕ) → length nexts ≤ 64 → length observed ≤ 128
    → claim_list (outcome_keys nexts observed) (t ∷ h ∷ l ∷ []) ≡ differing nexts (bits (length nexts) t) ++ differing observed (bits 64 l ++ bits 64 h)
outcome-literals nexts observed t h l n k =
    map-append (literal_of (t ∷ h ∷ l ∷ [])) (keys_from 0 nexts) (observed_keys observed)
    ∙ ap₂ (λ (x y : List ℕ). x ++ y) (word_differs (t ∷ h ∷ l ∷ []) 0 nexts (length nexts) (omega arith) (omega arith) n) (observed-literals observed t h l k)

module _ (keys nexts observed : List ℕ) (n : length nexts ≤ 64) (k : length observed ≤ 128) (e : keys ≡ sorted (outcome_keys nexts observed)) where
  pub outcome-clauses : (words : List ℕ) → map simplified (outcome_claims keys words) ≡ map simplified (map (differing_outcome nexts observed) (outcomes_of words))
  outcome-clauses [] = refl
  outcome-clauses (t ∷ []) = refl
  outcome-clauses (t ∷ h ∷ []) = refl
  outcome-clauses (t ∷ h ∷ l ∷ words) =
      let f : simplified (claim_list keys (t ∷ h ∷ l ∷ [])) ≡ simplified (differing nexts (bits (length nexts) t) ++ differing observed (bits 64 l ++ bits 64 h)) =
      rw e (claim_sorted (outcome_keys nexts observed) (t ∷ h ∷ l ∷ [])) ∙ ap simplified (outcome-literals nexts observed t h l n k) in
      rw (f, outcome-clauses words)
