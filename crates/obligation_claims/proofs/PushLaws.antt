-- How the clause of a claim, and those of all claims, are appended.
use Prim.Native.Nat.{ℕ, zero, suc, ◌+◌, ◌-◌, ◌*◌, ◌/◌, ◌%◌, ◌≤◌, ◌<◌, ◌^◌}
use Rattle.std.specs.Prelude.{Option, None}
use mathlib.Core.Path.{◌≡◌, refl, sym, ◌∙◌}
use mathlib.Core.Bool.{not}
use mathlib.Core.List.{List, [], ◌∷◌}
use native.Mathlib.Nat.{zero-add}
use native.Mathlib.Omega.{arith}
use lib.ListN.{length, get_or, take, drop, set, length-map}
use Rattle.lists.specs.Parts.{put}
use Rattle.lists.specs.Sets.{holds}
use Rattle.lists.specs.Tests.{Each}
use Rattle.lists.proofs.MapLaws.{map_at}
use Rattle.lists.proofs.PartLaws.{Copied, copied_none, copied_more, copied-done}
use Rattle.lists.proofs.RestLaws.{rest_more}
use Rattle.lists.proofs.TestLaws.{each_append}
use Rattle.lists.proofs.WordLaws.{triples_at, triples_count}
use Rattle.cnf.specs.declared.Clauses.{Clauses}
use Rattle.cnf.specs.Simplified.{simplified}
use Rattle.cnf.specs.Inner.Appending.{Appends, Space, Filled, Narrow, NarrowWords}
use Rattle.cnf.proofs.AppendLaws.{appends-same, appends-dropped, appends-next, appends-end, space-next}
use Rattle.cnf.proofs.ShortLaws.{simplified-filled, simplified_one_true}
use Rattle.cnf.proofs.SignLaws.{length_without}
use Rattle.cnf.proofs.SimplifyLaws.{filled-narrow}
use Rattle.obligation_spec.specs.Lists.{valued}
use Rattle.obligation_claims.specs.Inner.Claims.{claim_list, LowKeys}
use Rattle.obligation_claims.specs.declared.Claims.{Claims}
use Rattle.obligation_claims.specs.declared.Claims.TheVariants.{States, Outcomes}
use Rattle.obligation_claims.specs.Inner.Kinds.{count_in, claim_at, lists_of}
use Rattle.obligation_claims.specs.Inner.Filling.{Fills}
use Rattle.obligation_claims.proofs.FillLaws.{claim_length, claim_narrow}

-- ---- push_few: at most three literals, filled up with false constants

abbrev pub three : List ℕ
three = 0 ∷ 0 ∷ 0 ∷ []

zeros-left : (P : ℕ → Type 0) → P 0 → (n : ℕ) → Each P (drop n three)
zeros-left P z zero = (z, (z, (z, tt)))
zeros-left P z (suc zero) = (z, (z, tt))
zeros-left P z (suc (suc zero)) = (z, tt)
zeros-left P z (suc (suc (suc n))) = none n
  where
    none : (n : ℕ) → Each P (drop n [])
    none zero = tt
    none (suc n) = tt

module _ (keys claim : List ℕ) where
  pub few-none : length keys ≤ 3 → Copied three 0 (claim_list keys claim) three 0
  few-none h = copied_none three 0 (claim_list keys claim) (omega (arith, claim_length keys claim))

  module _ (clause : List ℕ) (i : ℕ) (k : Copied three 0 (claim_list keys claim) clause i) where
    pub few-more : i < length keys → (v : ℕ) → v ≡ valued (get_or keys i 0 / 256) (not (holds claim (get_or keys i 0 % 256))) → Copied three 0 (claim_list keys claim) (set clause i v) (i + 1)
    few-more h v e =
        let n : get_or (claim_list keys claim) i 0 ≡ v = map_at (λ x. valued (x / 256) (not (holds claim (x % 256)))) keys i 0 0 h ∙ sym e in
        let c : Copied three 0 (claim_list keys claim) (set clause (0 + i) (get_or (claim_list keys claim) i 0)) (i + 1) =
        copied_more three 0 (claim_list keys claim) clause i k 0 (omega (arith, claim_length keys claim)) in
        rw (zero-add i, n) at c

    pub few-done : length keys ≤ i → clause ≡ put three 0 (claim_list keys claim)
    few-done h = copied-done three 0 (claim_list keys claim) clause i k (omega (arith, claim_length keys claim))

  module _ (clause : List ℕ) (e : clause ≡ put three 0 (claim_list keys claim)) where
    pub few-narrow : LowKeys keys → Narrow clause
    few-narrow h =
        rw e
        (each_append (λ l. l < 2 ^ 32) (claim_list keys claim) (drop (0 + length (claim_list keys claim)) three)
        (claim_narrow keys claim h)
        (zeros-left (λ l. l < 2 ^ 32) (omega arith) (0 + length (claim_list keys claim))))

    pub few-appends : (p p' : Clauses) → Appends (clause ∷ []) p p' → Appends (claim_list keys claim ∷ []) p p'
    few-appends p p' g =
        let s : simplified clause ≡ simplified (claim_list keys claim) =
        rw e (simplified-filled (claim_list keys claim) (drop (0 + length (claim_list keys claim)) three) (zeros-left (λ z. z ≡ 0) refl (0 + length (claim_list keys claim)))) in
        appends-same (clause ∷ []) (claim_list keys claim ∷ []) p p' (rw s refl) g

-- ---- push_claim

module _ (ls : List ℕ) (r : Option ℕ) (list : List ℕ) (f : Fills ls r list) where
  pub claim_dropped : r ≡ None → (p : Clauses) → Appends (ls ∷ []) p p
  claim_dropped e p = appends-dropped ls p (simplified_one_true ls (f.when_true e))

module _ (keys claim list : List ℕ) (n : ℕ) (f : Filled (claim_list keys claim) list n) where
  pub claim_words : n ≤ length keys
  claim_words = omega (arith, f.count, length_without (claim_list keys claim), claim_length keys claim)

  pub words-narrow : LowKeys keys → NarrowWords (take n list)
  words-narrow h = filled-narrow (claim_list keys claim) list n f (claim_narrow keys claim h)

-- ---- all claims

-- the words of one claim, as the code cuts them
pub one_word : (states : List ℕ) (i : ℕ) → i < length states → take (i + 1 - i) (drop i states) ≡ get_or states i 0 ∷ []
one_word states i h = let e : i + 1 - i ≡ 1 = omega arith in rw (e, rest_more states i 0 h) refl

pub three_words : (words : List ℕ) (at : ℕ) → at + 2 < length words → take (at + 3 - at) (drop at words) ≡ get_or words at 0 ∷ get_or words (at + 1) 0 ∷ get_or words (at + 2) 0 ∷ []
three_words words at h =
    let e : at + 3 - at ≡ 3 = omega arith in
    let n : at + 1 + 1 ≡ at + 2 = omega arith in
    rw (e, rest_more words at 0 (omega arith), rest_more words (at + 1) 0 (omega arith), n, rest_more words (at + 2) 0 h) refl

module _ (keys : List ℕ) where
  pub lists_count : (claims : Claims) → length (lists_of keys claims) ≡ count_in claims
  lists_count (States words) = length-map words.now (λ s. claim_list keys (s ∷ []))
  lists_count (Outcomes words) = triples_count (λ t h l. claim_list keys (t ∷ h ∷ l ∷ [])) words.now

  lists_at : (claims : Claims) (i : ℕ) → i < count_in claims → get_or (lists_of keys claims) i [] ≡ claim_list keys (claim_at claims i)
  lists_at (States words) i h = map_at (λ s. claim_list keys (s ∷ [])) words.now i 0 [] h ∙ rw (one_word words.now i h) refl
  lists_at (Outcomes words) i h =
      triples_at (λ t h l. claim_list keys (t ∷ h ∷ l ∷ [])) words.now i 0 [] (omega arith) ∙ rw (three_words words.now (3 * i) (omega arith)) refl

  module _ (claims : Claims) (p q : Clauses) (i : ℕ) (g : Appends (take i (lists_of keys claims)) p q) where
    pub claims-space : i < count_in claims → Space p.counts (count_in claims) → Space q.counts 1
    claims-space h s = space-next (lists_of keys claims) i p q (rw (lists_count claims) h) g (rw (lists_count claims) s)

    pub claims-next : i < count_in claims → (claim : List ℕ) → claim ≡ claim_at claims i → (r : Clauses) → Appends (claim_list keys claim ∷ []) q r → Appends (take (i + 1) (lists_of keys claims)) p r
    claims-next h claim e r k = appends-next (lists_of keys claims) i p q r [] (rw (lists_count claims) h) g (rw (lists_at claims i h, ← e) k)

    pub claims-end : count_in claims ≤ i → Appends (lists_of keys claims) p q
    claims-end h = appends-end (lists_of keys claims) i p q q (rw (lists_count claims) h) g
