-- A claim's literals, and the loop that fills a list with their words.
use Prim.Native.Nat.{ℕ, zero, suc, ◌+◌, ◌-◌, ◌/◌, ◌%◌, ◌≤◌, ◌<◌, ◌^◌}
use Rattle.std.specs.Prelude.{Some, None}
use mathlib.Core.Path.{◌≡◌, refl, sym, ap, ap₂, ◌∙◌}
use mathlib.Core.Bool.{Bool, true, false, not, ◌||◌, or-true}
use mathlib.Core.List.{List, [], ◌∷◌, ◌++◌, map, map-append, append-nil}
use native.Mathlib.Numerals.{add-one}
use native.Mathlib.Omega.{arith}
use lib.Dec.{eqb}
use lib.ListN.{length, get_or, take, set, length-map, length-append, length-set}
use lib.Seq.{take_all, take-suc-set}
use borrow.Author.Tests.{eq-eqb, ne_eqb}
use Rattle.lists.specs.Bits.{bit}
use Rattle.lists.specs.Sets.{member, holds}
use Rattle.lists.proofs.BitLaws.{odd-bit, bit_lt}
use Rattle.lists.proofs.MapLaws.{map_at}
use Rattle.lists.proofs.OnceLaws.{member_append}
use Rattle.lists.proofs.RestLaws.{take_next}
use Rattle.lists.proofs.TestLaws.{each_map, each-so, each_at}
use Rattle.cnf.specs.Simplified.{cnf_word, without_false}
use Rattle.cnf.specs.Inner.Appending.{Filled, Narrow}
use Rattle.cnf.proofs.SignLaws.{opposite-is, without_append}
use Rattle.obligation_spec.specs.Lists.{valued}
use Rattle.obligation_claims.specs.Inner.Claims.{claim_list, LowKeys}
use Rattle.obligation_claims.specs.Inner.Filling.{Fills}

-- ---- claim_literal

pub bit-is : (ws : List ℕ) (k : ℕ) → get_or ws (k / 64) 0 / 2 ^ (k % 64) % 2 ≡ bit (holds ws k)
unfolding holds
bit-is ws k = sym (odd-bit (get_or ws (k / 64) 0 / 2 ^ (k % 64)))

pub bit-low : (ws : List ℕ) (k b : ℕ) → b ≡ bit (holds ws k) → b < 2
bit-low ws k b e = rw e (bit_lt (holds ws k))

turned : (l : ℕ) (b : Bool) → l - l % 2 + (l + bit b) % 2 ≡ valued l (not b)
turned l true = sym (opposite-is l ∙ omega arith)
turned l false = omega arith

pub literal_turned : (key j : ℕ) (claim : List ℕ) (b : ℕ) → j ≡ key % 256 → b ≡ bit (holds claim j) → key / 256 - key / 256 % 2 + (key / 256 + b) % 2 ≡ valued (key / 256) (not (holds claim (key % 256)))
literal_turned key j claim b f e = rw (e, f) (turned (key / 256) (holds claim (key % 256)))

-- the literal of a low key has 32 bits
pub literal-narrow : (key : ℕ) (b : Bool) → key < 2 ^ 39 → valued (key / 256) b < 2 ^ 32
literal-narrow key true h = omega arith
literal-narrow key false h = omega (arith, opposite-is (key / 256))

pub claim_narrow : (keys claim : List ℕ) → LowKeys keys → Narrow (claim_list keys claim)
claim_narrow keys claim e =
    each_map (λ key. valued (key / 256) (not (holds claim (key % 256)))) (λ l. l < 2 ^ 32) keys
    (each-so (λ key. key < 2 ^ 39) (λ key. valued (key / 256) (not (holds claim (key % 256))) < 2 ^ 32) (λ key h. literal-narrow key (not (holds claim (key % 256))) h) keys e)

pub claim_length : (keys claim : List ℕ) → length (claim_list keys claim) ≡ length keys
claim_length keys claim = length-map keys (λ key. valued (key / 256) (not (holds claim (key % 256))))

-- ---- fill_claim

member-at : (x : ℕ) (ls : List ℕ) (i : ℕ) → i < length ls → x ≡ get_or ls i 0 → member x ls ≡ true
member-at x [] i h e = absurd (omega arith)
member-at x (l ∷ ls) zero h e = rw (eq-eqb x l e)
member-at x (l ∷ ls) (suc i) h e = rw (member-at x ls i (omega arith) e) (or-true (eqb x l))

-- the words of the first i literals stand in the first n places
pub record Filling (ls list₀ list : List ℕ) (i n : ℕ) : Type 0 where
  pub filled : Filled (take i ls) list n
  pub behind : n ≤ i
  pub same : length list ≡ length list₀

pub filling-none : (ls list : List ℕ) → Filling ls list list 0 0
filling-none ls list = record { filled = record { untrue = refl; count = refl; words = refl }; behind = omega arith; same = refl }

module _ (ls list₀ list : List ℕ) (i n : ℕ) (k : Filling ls list₀ list i n) where
  pub filling-done : length ls ≤ i → Fills ls (Some n) list
  filling-done h =
      record {
        when_true = λ e. absurd (let z : ◌≡◌ {A = ℕ} 0 1 = cc in omega arith);
        when_words = λ m e. let q : n ≡ m = cc in rw (← q, ← take_all i ls h) k.filled;
      }

  module _ (h : i < length ls) where
    next-member : (x : ℕ) → member x (take (i + 1) ls) ≡ (member x (take i ls) || (eqb x (get_or ls i 0) || false))
    next-member x = rw (take_next ls i 0 h) (member_append x (take i ls) (get_or ls i 0 ∷ []))

    next_without : without_false (take (i + 1) ls) ≡ without_false (take i ls) ++ without_false (get_or ls i 0 ∷ [])
    next_without = rw (take_next ls i 0 h) (without_append (take i ls) (get_or ls i 0 ∷ []))

    pub filling-true : (v : ℕ) → v ≡ get_or ls i 0 → v ≡ 1 → Fills ls None list
    filling-true v q e =
        record {
          when_true = λ z. member-at 1 ls i h (sym e ∙ q);
          when_words = λ m z. absurd (let y : ◌≡◌ {A = ℕ} 0 1 = cc in omega arith);
        }

    pub filling-false : (v : ℕ) → v ≡ get_or ls i 0 → v < 2 → (v ≡ 1 → ⊥) → Filling ls list₀ list (i + 1) n
    filling-false v q few e =
        let z : get_or ls i 0 ≡ 0 = omega arith in
        let w : without_false (take (i + 1) ls) ≡ without_false (take i ls) = next_without ∙ rw z (append-nil (without_false (take i ls))) in
        record {
          filled =
              record {
                untrue = next-member 1 ∙ rw (k.filled.untrue, z) refl;
                count = k.filled.count ∙ ap length (sym w);
                words = k.filled.words ∙ ap (map cnf_word) (sym w);
              };
          behind = omega (arith, k.behind);
          same = k.same;
        }

    pub filling-word : (v x : ℕ) → v ≡ get_or ls i 0 → 2 ≤ v → x ≡ cnf_word v → n < length list → Filling ls list₀ (set list n x) (i + 1) (n + 1)
    filling-word v x q e f room =
        let z : eqb (get_or ls i 0) 0 ≡ false = ne_eqb (get_or ls i 0) 0 (λ y. omega arith) in
        let y : eqb 1 (get_or ls i 0) ≡ false = ne_eqb 1 (get_or ls i 0) (λ y. omega arith) in
        let w : without_false (take (i + 1) ls) ≡ without_false (take i ls) ++ get_or ls i 0 ∷ [] = next_without ∙ rw z refl in
        record {
          filled =
              record {
                untrue = next-member 1 ∙ rw (k.filled.untrue, y) refl;
                count = sym (ap length w ∙ length-append (without_false (take i ls)) (get_or ls i 0 ∷ []) ∙ rw (← k.filled.count) refl);
                words =
                    ap (λ (j : ℕ). take j (set list n x)) (add-one n)
                    ∙ take-suc-set list n x room
                    ∙ ap₂ (λ (a : List ℕ) (b : ℕ). a ++ b ∷ []) k.filled.words (f ∙ ap cnf_word q)
                    ∙ sym (ap (map cnf_word) w ∙ map-append cnf_word (without_false (take i ls)) (get_or ls i 0 ∷ []));
              };
          behind = omega (arith, k.behind);
          same = length-set list n x ∙ k.same;
        }

-- as the code reads a claim's literals
module _ (keys claim list₀ list : List ℕ) (i n : ℕ) (k : Filling (claim_list keys claim) list₀ list i n) where
  pub claiming_done : length keys ≤ i → Fills (claim_list keys claim) (Some n) list
  claiming_done h = filling-done (claim_list keys claim) list₀ list i n k (rw (claim_length keys claim) h)

  module _ (h : i < length keys) (v : ℕ) (e : v ≡ valued (get_or keys i 0 / 256) (not (holds claim (get_or keys i 0 % 256)))) where
    inside : i < length (claim_list keys claim)
    inside = rw (claim_length keys claim) h

    is : v ≡ get_or (claim_list keys claim) i 0
    is = e ∙ sym (map_at (λ x. valued (x / 256) (not (holds claim (x % 256)))) keys i 0 0 h)

    pub claiming_true : v ≡ 1 → Fills (claim_list keys claim) None list
    claiming_true f = filling-true (claim_list keys claim) list₀ list i n k inside v is f

    pub claiming_false : v < 2 → (v ≡ 1 → ⊥) → Filling (claim_list keys claim) list₀ list (i + 1) n
    claiming_false f g = filling-false (claim_list keys claim) list₀ list i n k inside v is f g

    pub claiming_word : (x : ℕ) → 2 ≤ v → x ≡ cnf_word v → length keys ≤ length list₀ → Filling (claim_list keys claim) list₀ (set list n x) (i + 1) (n + 1)
    claiming_word x f g room = filling-word (claim_list keys claim) list₀ list i n k inside v x is f g (omega (arith, k.behind, k.same))

pub key-low : (keys : List ℕ) → LowKeys keys → (i : ℕ) → i < length keys → get_or keys i 0 < 2 ^ 39
key-low keys e i h = each_at (λ key. key < 2 ^ 39) keys i 0 e h
