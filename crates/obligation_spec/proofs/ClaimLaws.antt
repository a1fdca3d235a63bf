-- When a claim's list is false under values that settle: the word leads to that claim.
use Prim.Native.Nat.{ℕ, zero, suc, ◌<◌, ◌≤◌, ◌^◌}
use mathlib.Core.Bool.{Bool, true, false, not, cond, ◌&&◌, ◌||◌}
use mathlib.Core.List.{List, [], ◌∷◌, map}
use mathlib.Core.Path.{◌≡◌, refl, sym, ap, ◌∙◌}
use native.Mathlib.Omega.{arith}
use borrow.Author.Tests.{not-false}
use lib.ListN.{length, get_or, length-map}
use Rattle.lists.specs.Bits.{bits, packed}
use Rattle.lists.specs.Tests.{all, any, Each}
use Rattle.lists.proofs.BitLaws.{bits-length, packed-bits}
use Rattle.lists.proofs.BoolLaws.{true-false, and_left, and_right, or_left, or_right}
use Rattle.lists.proofs.MapLaws.{map_at}
use Rattle.lists.proofs.TestLaws.{any_append, each_at}
use Rattle.aiger.specs.Gates.{Valuation, value}
use Rattle.model.specs.Circuit.{Circuit, next_of, nexts_of}
use Rattle.model.specs.Values.{Settles}
use Rattle.model.proofs.ValueLaws.{Sound, well_facts}
use Rattle.model_step.specs.declared.Outcome.{Outcome}
use Rattle.model_step.proofs.AgreeLaws.{literals-agree}
use Rattle.obligation_spec.specs.Lists.{differing, target_list, observed_of, output_bits, outcome_list}
use Rattle.obligation_spec.specs.Meaning.{State, ToTarget, ToOutcome}
use Rattle.obligation_spec.proofs.MatchLaws.{matches, differing-is}
use Rattle.obligation_spec.proofs.BodyLaws.{values-bits, matched-bits, bits-matched}
use Rattle.obligation_spec.proofs.LowLaws.{LowLists, claims-low, target-low, outcome-low}
use Rattle.obligation_spec.proofs.ElementLaws.{each_element, claim_fails, fails_claims}

-- under values that settle from s for the word x, the lists do not all hold exactly where x is claimed
pub record Claims (c : Circuit) (s : ℕ) (Claimed : ℕ → Type 0) (lists : List (List ℕ)) : Type 0 where
  pub met : (x : ℕ) (v : Valuation) → Settles c s x v → all (any (value v)) lists ≡ false → Claimed x
  pub unmet : (x : ℕ) (v : Valuation) → Settles c s x v → Claimed x → all (any (value v)) lists ≡ false
  pub low : LowLists c.variables lists

-- ---- a number claimed of the values of some literals

module _ (v : Valuation) (ls : List ℕ) (n t : ℕ) (e : length ls ≡ n) where
  abbrev differs : Bool
  differs = any (value v) (differing ls (bits n t))

  long : length ls ≡ length (bits n t)
  long = e ∙ sym (bits-length n t)

  pub number_met : t < 2 ^ n → differs ≡ false → t ≡ packed (map (value v) ls)
  number_met h d =
      let m : matches (map (value v) ls) (bits n t) ≡ true = not-false (matches (map (value v) ls) (bits n t)) (sym (differing-is v ls (bits n t)) ∙ d) in
      sym (packed-bits n t h) ∙ ap packed (sym (matched-bits v ls (bits n t) long m))

  pub number_unmet : t ≡ packed (map (value v) ls) → differs ≡ false
  number_unmet h =
      let b : map (value v) ls ≡ bits n t = values-bits v ls n e ∙ ap (bits n) (sym h) in
      differing-is v ls (bits n t) ∙ rw (bits-matched v ls (bits n t) long b)

-- ---- bits claimed of the values of some literals, place by place

module _ where
  pub matches_at : (ys bs : List Bool) → length ys ≤ length bs → matches ys bs ≡ true → (k : ℕ) → k < length ys → get_or ys k false ≡ get_or bs k false
  matches_at [] bs e h k l = absurd (omega arith)
  matches_at (y ∷ ys) [] e h k l = absurd (omega arith)
  matches_at (y ∷ ys) (b ∷ bs) e h zero l = same b y (and_left (cond b y (not y)) (matches ys bs) h)
    where
      same : (b y : Bool) → cond b y (not y) ≡ true → y ≡ b
      same true y h = h
      same false true h = true-false h refl
      same false false h = refl
  matches_at (y ∷ ys) (b ∷ bs) e h (suc k) l = matches_at ys bs (omega arith) (and_right (cond b y (not y)) (matches ys bs) h) k (omega arith)

  pub at_matches : (ys bs : List Bool) → length ys ≤ length bs → ((k : ℕ) → k < length ys → get_or ys k false ≡ get_or bs k false) → matches ys bs ≡ true
  at_matches [] bs e h = refl
  at_matches (y ∷ ys) [] e h = refl
  at_matches (y ∷ ys) (b ∷ bs) e h =
      let p : y ≡ b = h 0 (omega arith) in
      rw (p, at_matches ys bs (omega arith) (λ k l. h (suc k) (omega arith))) (same b)
    where
      same : (b : Bool) → (cond b b (not b) && true) ≡ true
      same true = refl
      same false = refl

-- what matters of R9.14 for observed outputs
pub record Observed (c : Circuit) (observed : List ℕ) : Type 0 where
  pub few : length observed ≤ 128
  pub inside : Each (λ i. i < length c.outputs) observed

module _ (c : Circuit) (observed : List ℕ) (k : Observed c observed) (v : Valuation) (o : Outcome) where
  abbrev seen : List Bool
  seen = map (value v) (observed_of c observed)

  seen_length : length seen ≡ length observed
  seen_length = length-map (observed_of c observed) (value v) ∙ length-map observed (λ i. get_or c.outputs i 0)

  output-bits : length (output_bits o) ≡ 128
  output-bits = refl

  fits : length seen ≤ length (output_bits o)
  fits = omega (arith, seen_length, output-bits, k.few)

  -- the value of the i-th observed output
  seen_at : (i : ℕ) → i < length observed → get_or seen i false ≡ get_or (map (value v) c.outputs) (get_or observed i 0) false
  seen_at i h =
      map_at (value v) (observed_of c observed) i 0 false (omega (arith, length-map observed (λ i. get_or c.outputs i 0)))
      ∙ ap (value v) (map_at (λ i. get_or c.outputs i 0) observed i 0 0 h)
      ∙ sym (map_at (value v) c.outputs (get_or observed i 0) 0 false (each_at (λ i. i < length c.outputs) observed i 0 k.inside h))

  abbrev Agrees : Type 0
  Agrees = (i : ℕ) → i < length observed → get_or (map (value v) c.outputs) (get_or observed i 0) false ≡ get_or (output_bits o) i false

  pub outputs_met : any (value v) (differing (observed_of c observed) (output_bits o)) ≡ false → Agrees
  outputs_met d i h =
      let m : matches seen (output_bits o) ≡ true = not-false (matches seen (output_bits o)) (sym (differing-is v (observed_of c observed) (output_bits o)) ∙ d) in
      sym (seen_at i h) ∙ matches_at seen (output_bits o) fits m i (omega (arith, seen_length))

  pub outputs_unmet : Agrees → any (value v) (differing (observed_of c observed) (output_bits o)) ≡ false
  outputs_unmet a =
      differing-is v (observed_of c observed) (output_bits o)
      ∙ rw (at_matches seen (output_bits o) fits (λ i h. let j : i < length observed = omega (arith, seen_length, h) in seen_at i j ∙ a i j))

-- ---- the claims of a row

module _ (c : Circuit) (sound : Sound c) (s : ℕ) where
  next-count : length (nexts_of c) ≡ length c.latches
  next-count = length-map c.latches next_of

  module _ (targets : List ℕ) (states : Each (State c) targets) where
    target_met : (x : ℕ) (v : Valuation) → Settles c s x v → all (any (value v)) (map (target_list c) targets) ≡ false → ToTarget c s targets x
    target_met x v f h =
        let k = claim_fails v (target_list c) targets h in
        let t : ℕ = k.element in
        let is : t ≡ packed (map (value v) (nexts_of c)) =
        number_met v (nexts_of c) (length c.latches) t next-count (each_element (State c) t targets states k.inside) k.fails in
        record { target = t; outputs = map (value v) c.outputs; leads = record { values = v; settles = f; target = is; outputs = refl }; claimed = k.inside }

    target_unmet : (x : ℕ) (v : Valuation) → Settles c s x v → ToTarget c s targets x → all (any (value v)) (map (target_list c) targets) ≡ false
    target_unmet x v f p =
        let u : Valuation = p.leads.values in
        let same = literals-agree c sound s x u v p.leads.settles f (nexts_of c) (well_facts c sound.well).nexts in
        fails_claims v (target_list c) targets p.target p.claimed
        (number_unmet v (nexts_of c) (length c.latches) p.target next-count (p.leads.target ∙ ap packed same))

    pub target-claims : Claims c s (ToTarget c s targets) (map (target_list c) targets)
    target-claims = record { met = target_met; unmet = target_unmet; low = claims-low c.variables (target_list c) (target-low c sound) targets }

  module _ (observed : List ℕ) (k : Observed c observed) (outcomes : List Outcome) (states : Each (λ o. State c o.target) outcomes) where
    outcome_met : (x : ℕ) (v : Valuation) → Settles c s x v → all (any (value v)) (map (outcome_list c observed) outcomes) ≡ false → ToOutcome c s observed outcomes x
    outcome_met x v f h =
        let e = claim_fails v (outcome_list c observed) outcomes h in
        let o : Outcome = e.element in
        let first : Bool = any (value v) (target_list c o.target) in
        let second : Bool = any (value v) (differing (observed_of c observed) (output_bits o)) in
        let both : (first || second) ≡ false = sym (any_append (value v) (target_list c o.target) (differing (observed_of c observed) (output_bits o))) ∙ e.fails in
        let is : o.target ≡ packed (map (value v) (nexts_of c)) =
        number_met v (nexts_of c) (length c.latches) o.target next-count (each_element (λ o. State c o.target) o outcomes states e.inside) (or_left first second both) in
        record {
          outcome = o;
          outputs = map (value v) c.outputs;
          leads = record { values = v; settles = f; target = is; outputs = refl };
          claimed = e.inside;
          agrees = outputs_met c observed k v o (or_right first second both);
        }

    outcome_unmet : (x : ℕ) (v : Valuation) → Settles c s x v → ToOutcome c s observed outcomes x → all (any (value v)) (map (outcome_list c observed) outcomes) ≡ false
    outcome_unmet x v f p =
        let u : Valuation = p.leads.values in
        let o : Outcome = p.outcome in
        let same = literals-agree c sound s x u v p.leads.settles f (nexts_of c) (well_facts c sound.well).nexts in
        let outs : p.outputs ≡ map (value v) c.outputs =
        p.leads.outputs ∙ literals-agree c sound s x u v p.leads.settles f c.outputs (well_facts c sound.well).outputs in
        let first : any (value v) (target_list c o.target) ≡ false =
        number_unmet v (nexts_of c) (length c.latches) o.target next-count (p.leads.target ∙ ap packed same) in
        let second : any (value v) (differing (observed_of c observed) (output_bits o)) ≡ false =
        outputs_unmet c observed k v o (λ i h. ap (λ (os : List Bool). get_or os (get_or observed i 0) false) (sym outs) ∙ p.agrees i h) in
        fails_claims v (outcome_list c observed) outcomes o p.claimed
        (any_append (value v) (target_list c o.target) (differing (observed_of c observed) (output_bits o)) ∙ rw (first, second))

    pub outcome-claims : Claims c s (ToOutcome c s observed outcomes) (map (outcome_list c observed) outcomes)
    outcome-claims =
        record { met = outcome_met; unmet = outcome_unmet; low = claims-low c.variables (outcome_list c observed) (outcome-low c sound observed k.inside) outcomes }
