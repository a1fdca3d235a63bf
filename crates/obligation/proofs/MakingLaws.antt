-- Laws for the functions that append all clauses: what is appended, and that it can be counted.
use Prim.Native.Nat.{ℕ, zero, suc, ◌+◌, ◌*◌, ◌/◌, ◌≤◌}
use mathlib.Core.Bool.{Bool, true, false}
use mathlib.Core.List.{List, [], ◌∷◌, ◌++◌, map}
use mathlib.Core.Path.{◌≡◌, refl, ap, ◌∙◌}
use native.Mathlib.Omega.{arith}
use lib.ListN.{length, take, drop, length-append, length-map, length-take}
use Rattle.lists.specs.Bits.{bits}
use Rattle.lists.specs.Tests.{Each}
use Rattle.lists.specs.Words.{triples_of, words_of}
use Rattle.lists.proofs.WordLaws.{pairs-count, triples_count, words-length}
use Rattle.aiger.specs.declared.Gate.{Gate}
use Rattle.aiger.specs.Gates.{gate_from}
use Rattle.cnf.specs.declared.ClauseCounts.{ClauseCounts}
use Rattle.cnf.specs.declared.Clauses.{Clauses}
use Rattle.cnf.specs.Clauses.{clauses_in}
use Rattle.cnf.specs.Inner.Appending.{Appends, Space}
use Rattle.cnf.proofs.AppendLaws.{empty, appends_then, appends-start, space-empty, space-less, space-left}
use Rattle.obligation_spec.specs.Lists.{source_lists, predicate_literal, gate_lists}
use Rattle.obligation_gates.proofs.SourceLaws.{count}
use Rattle.obligation_claims.specs.Inner.Claims.{FewKeys, claim_list, state_claims}
use Rattle.obligation_claims.specs.declared.Claims.{Claims}
use Rattle.obligation_claims.specs.declared.Claims.TheVariants.{States, Outcomes}
use Rattle.obligation_claims.specs.Inner.Kinds.{count_in, words_in, wide_in, lists_of}
use Rattle.obligation_gates.specs.Inner.Encoding.{LowGate, BoundedBy}
use Rattle.obligation.specs.Inner.Appended.{Parts, Claimed, claimed_of, front_lists, claim_lists, all_lists, claim_count, FrontReady, ClaimsReady, AppendsAll}

module _ (p : Parts) (f : FrontReady p) where
  abbrev sources : List (List ℕ)
  sources = source_lists p.currents (bits (length p.currents) p.source)

  abbrev clauses : List (List ℕ)
  clauses = map (map (predicate_literal p.inputs p.relevant)) (clauses_in p.words p.pairs)

  abbrev gates : List (List ℕ)
  gates = words_of gate_lists (take p.ands (triples_of gate_from p.gates))

  clauses_many : length clauses ≡ length p.pairs / 2
  clauses_many = length-map (clauses_in p.words p.pairs) (map (predicate_literal p.inputs p.relevant)) ∙ pairs-count (λ offset size. take size (drop offset p.words)) p.pairs

  gates_many : length gates ≤ 3 * p.ands
  gates_many = rw (words-length gate_lists 3 (λ g. refl) (take p.ands (triples_of gate_from p.gates)), length-take p.ands (triples_of gate_from p.gates)) (omega arith)

  pub sources_space : Space empty (length p.currents)
  sources_space = space-empty (length p.currents) (omega (arith, f.few))

  module _ (s₀ s₁ : Clauses) (none : s₀.counts ≡ empty) (g : Appends sources s₀ s₁) where
    pub clauses-space : Space s₁.counts (length p.pairs / 2)
    clauses-space =
        space-left sources s₀ s₁ g (length p.pairs / 2) 100
        (omega (arith, count p.currents p.source, f.few, f.clauses)) (rw none (space-empty 100 (omega arith)))

    module _ (s₂ : Clauses) (h : Appends clauses s₁ s₂) where
      both : Appends (sources ++ clauses) s₀ s₂
      both = appends_then sources clauses s₀ s₁ s₂ g h

      pub gates-space : Space s₂.counts (3 * p.ands)
      gates-space =
          space-left (sources ++ clauses) s₀ s₂ both (3 * p.ands) 4000000
          (rw (length-append sources clauses) (omega (arith, count p.currents p.source, clauses_many, f.few, f.clauses, f.most)))
          (rw none (space-empty 4000000 (omega arith)))

      pub front-appends : (s₃ : Clauses) → Appends gates s₂ s₃ → Appends (front_lists p) s₀ s₃
      front-appends s₃ k = appends_then sources (clauses ++ gates) s₀ s₁ s₃ g (appends_then clauses gates s₁ s₂ s₃ h k)

  pub front-most : length (front_lists p) ≤ length p.currents + length p.pairs / 2 + 3 * p.ands
  front-most =
      rw (length-append sources (clauses ++ gates), length-append clauses gates)
      (omega (arith, count p.currents p.source, clauses_many, gates_many))

  front_many : length (front_lists p) ≤ 3000072
  front_many = omega (arith, front-most, f.few, f.clauses, f.most)

  module _ (s₀ s₁ : Clauses) (none : s₀.counts ≡ empty) (g : Appends (front_lists p) s₀ s₁) where
    space : (n : ℕ) → n ≤ 1000001 → Space s₁.counts n
    space n h = space-left (front_lists p) s₀ s₁ g n 5000000 (omega (arith, front_many)) (rw none (space-empty 5000000 (omega arith)))

    pub claims-space : Space s₁.counts 1000000
    claims-space = space 1000000 (omega arith)

    module _ (c : Claimed) (s₂ : Clauses) (h : Appends (claim_lists c) s₁ s₂) where
      pub last_space : length (claim_lists c) ≤ 1000000 → Space s₂.counts 1
      last_space few = space-left (claim_lists c) s₁ s₂ h 1 1000001 (omega (arith, few)) (space 1000001 (omega arith))

      pub all-appends : (last : ℕ) (s₃ : Clauses) → Appends ((last ∷ []) ∷ []) s₂ s₃ → Appends (all_lists p c last) s₀ s₃
      all-appends last s₃ k =
          appends_then (front_lists p) (claim_lists c ++ (last ∷ []) ∷ []) s₀ s₁ s₃ g
          (appends_then (claim_lists c) ((last ∷ []) ∷ []) s₁ s₂ s₃ h k)

-- whatever was appended before, when the counts began anew
pub all-from-start : (lists : List (List ℕ)) (p p' : Clauses) → Appends lists (record p { counts = empty }) p' → AppendsAll lists p p'
all-from-start lists p p' a =
    record {
      same = record { pairs_name = a.same.pairs_name; literals_name = a.same.literals_name; pairs_room = a.same.pairs_room; literals_room = a.same.literals_room };
      holding = appends-start lists (record p { counts = empty }) p' refl a;
    }

-- ---- claims of either width

states_many : (keys states : List ℕ) → length (state_claims keys states) ≡ length states
states_many keys states = length-map states (λ s. claim_list keys (s ∷ []))

pub claims_many : (keys words : List ℕ) (wide : Bool) → length (claim_lists (claimed_of keys words wide)) ≡ claim_count (length words) wide
claims_many keys words true = triples_count (λ t h l. claim_list keys (t ∷ h ∷ l ∷ [])) words
claims_many keys words false = states_many keys words

pub claims-few : (keys words : List ℕ) (wide : Bool) → ClaimsReady (claimed_of keys words wide) → length (claim_lists (claimed_of keys words wide)) ≤ 1000000
claims-few keys words wide d = go wide (claims_many keys words wide)
  where
    go : (w : Bool) → length (claim_lists (claimed_of keys words wide)) ≡ claim_count (length words) w → length (claim_lists (claimed_of keys words wide)) ≤ 1000000
    go true e = omega (arith, e, d.few_words)
    go false e = omega (arith, e, d.few_words)

-- ---- a plan of the code

pub count_same : (claims : Claims) → count_in claims ≡ claim_count (length (words_in claims)) (wide_in claims)
count_same (States words) = refl
count_same (Outcomes words) = refl

pub lists_same : (keys : List ℕ) (claims : Claims) → lists_of keys claims ≡ claim_lists (claimed_of keys (words_in claims) (wide_in claims))
lists_same keys (States words) = refl
lists_same keys (Outcomes words) = refl

-- what appending the claims asks
pub claims-asked : (keys : List ℕ) (claims : Claims) → ClaimsReady (claimed_of keys (words_in claims) (wide_in claims)) → (at : ClauseCounts) → Space at 1000000
    → Space at (count_in claims) × FewKeys 1024 keys
claims-asked keys claims d at s =
    let many : count_in claims ≤ 1000000 =
    omega (arith, count_same claims, claims_many keys (words_in claims) (wide_in claims), claims-few keys (words_in claims) (wide_in claims) d) in
    (space-less at (count_in claims) 1000000 many s, record { few = omega (arith, d.few_keys.few); low = d.few_keys.low })

-- the gates' words as the code cuts them
thrice : (k : ℕ) → 3 * suc k ≡ suc (suc (suc (3 * k)))
thrice k = omega arith

gates_cut : (k : ℕ) (ws : List ℕ) → triples_of gate_from (take (3 * k) ws) ≡ take k (triples_of gate_from ws)
gates_cut zero ws = refl
gates_cut (suc k) [] = rw (thrice k) refl
gates_cut (suc k) (x ∷ []) = rw (thrice k) refl
gates_cut (suc k) (x ∷ y ∷ []) = rw (thrice k) refl
gates_cut (suc k) (x ∷ y ∷ z ∷ ws) = rw (thrice k) (ap (λ (gs : List Gate). gate_from x y z ∷ gs) (gates_cut k ws))

module _ (p : Parts) (f : FrontReady p) (gs : List ℕ) (e : gs ≡ take (3 * p.ands) p.gates) where
  pub cut_asked : (at : ClauseCounts) → Space at (3 * p.ands) → Each LowGate (triples_of gate_from gs) × Space at (3 * (length gs / 3))
  cut_asked at h = (rw (e, gates_cut p.ands p.gates) f.low_gates, space-less at (3 * (length gs / 3)) (3 * p.ands) (omega (arith, ap length e, length-take (3 * p.ands) p.gates)) h)

  pub cut-appends : (s t : Clauses) → Appends (words_of gate_lists (triples_of gate_from gs)) s t → Appends (words_of gate_lists (take p.ands (triples_of gate_from p.gates))) s t
  cut-appends s t g = rw (e, gates_cut p.ands p.gates) at g

-- inputs as the code lends them
pub bounded_inputs : (p : Parts) → FrontReady p → (is : List ℕ) → is ≡ p.inputs → BoundedBy is p.relevant p.pairs p.words
bounded_inputs p f is e = rw e f.bounded

pub limited_inputs : (p : Parts) (is : List ℕ) → is ≡ p.inputs → (s t : Clauses)
    → Appends (map (map (predicate_literal is p.relevant)) (clauses_in p.words p.pairs)) s t
    → Appends (map (map (predicate_literal p.inputs p.relevant)) (clauses_in p.words p.pairs)) s t
limited_inputs p is e s t g = rw e at g
