-- What the lists of a row or a terminal list say of a valuation: the predicate is met by the inputs' word, and the gates are the conjunctions of their operands.
use Prim.Native.Nat.{ℕ, ◌/◌, ◌<◌, ◌^◌, ◌≤◌}
use mathlib.Core.Bool.{Bool, true, false, ◌&&◌}
use mathlib.Core.List.{List, [], ◌∷◌, ◌++◌, map}
use mathlib.Core.Path.{◌≡◌, refl, sym, ap, ◌∙◌}
use native.Mathlib.Omega.{arith}
use lib.ListN.{length, get_or, take, length-map}
use lib.Seq.{take_all}
use Rattle.lists.specs.Bits.{odd, bits, packed}
use Rattle.lists.specs.Tests.{all, any, Each}
use Rattle.lists.specs.Words.{words_of}
use Rattle.lists.proofs.BitLaws.{bits-length, bits-packed, packed_lt}
use Rattle.lists.proofs.BoolLaws.{and_left, and_right}
use Rattle.lists.proofs.MapLaws.{map_at}
use Rattle.lists.proofs.TestLaws.{all_append, each_at}
use Rattle.aiger.specs.Gates.{Valuation, value, Follows, Conjunction}
use Rattle.model.specs.Circuit.{Circuit, current_of, currents_of}
use Rattle.model.specs.Values.{Settles}
use Rattle.cnf.specs.Clauses.{Clause, Assignment, value_at, literal_true, satisfies}
use Rattle.obligation_spec.specs.Lists.{predicate_literal, source_lists, gate_lists, body_lists, row_lists}
use Rattle.obligation_spec.specs.Meaning.{Meets}
use Rattle.obligation_spec.proofs.MatchLaws.{value-valued, matches, matches_take, take_matches, source_is, gates-say, gates-true}

-- what matters of R9.13: the relevant inputs are inputs, and the predicate's variables index them
pub record Boundary (c : Circuit) (relevant : List ℕ) (predicate : List Clause) : Type 0 where
  pub inputs : Each (λ i. i < length c.inputs) relevant
  pub indices : Each (λ k. Each (λ w. w / 2 < length relevant) k) predicate

-- ---- words and their bits

-- the word that the inputs' values form, and the state that the latches' values form
abbrev pub word_under : Circuit → Valuation → ℕ
word_under c v = packed (map (value v) c.inputs)

abbrev pub state_under : Circuit → Valuation → ℕ
state_under c v = packed (map (value v) (currents_of c))

pub values-bits : (v : Valuation) (ls : List ℕ) (n : ℕ) → length ls ≡ n → map (value v) ls ≡ bits n (packed (map (value v) ls))
values-bits v ls n e = sym (ap (λ (k : ℕ). bits k (packed (map (value v) ls))) (sym (length-map ls (value v) ∙ e)) ∙ bits-packed (map (value v) ls))

pub values_lt : (v : Valuation) (ls : List ℕ) (n : ℕ) → length ls ≡ n → packed (map (value v) ls) < 2 ^ n
values_lt v ls n e = rw (length-map ls (value v), e) at (packed_lt (map (value v) ls))

-- the values of literals match bits, as many as there are literals, exactly where they are those bits
module _ (v : Valuation) (ls : List ℕ) (bs : List Bool) (e : length ls ≡ length bs) where
  few : length (map (value v) ls) ≤ length bs
  few = omega (arith, length-map ls (value v), e)

  whole : take (length (map (value v) ls)) bs ≡ bs
  whole = take_all (length (map (value v) ls)) bs (omega (arith, length-map ls (value v), e))

  pub matched-bits : matches (map (value v) ls) bs ≡ true → map (value v) ls ≡ bs
  matched-bits h = matches_take (map (value v) ls) bs few h ∙ whole

  pub bits-matched : map (value v) ls ≡ bs → matches (map (value v) ls) bs ≡ true
  bits-matched h = take_matches (map (value v) ls) bs few (h ∙ sym whole)

-- ---- the predicate

module _ (c : Circuit) (relevant : List ℕ) (v : Valuation) (x : ℕ) (inside : Each (λ i. i < length c.inputs) relevant) (given : map (value v) c.inputs ≡ bits (length c.inputs) x) where
  -- the bits of the relevant inputs
  abbrev relevant_bits : Assignment
  relevant_bits = map (λ i. get_or (bits (length c.inputs) x) i false) relevant

  bit_is : (k : ℕ) → k < length relevant → value v (get_or c.inputs (get_or relevant k 0) 0) ≡ value_at relevant_bits k
  bit_is k h =
      let i : ℕ = get_or relevant k 0 in
      sym (map_at (value v) c.inputs i 0 false (each_at (λ i. i < length c.inputs) relevant k 0 inside h))
      ∙ ap (λ (l : List Bool). get_or l i false) given
      ∙ sym (map_at (λ i. get_or (bits (length c.inputs) x) i false) relevant k 0 false h)

  literal-is : (w : ℕ) → w / 2 < length relevant → value v (predicate_literal c.inputs relevant w) ≡ literal_true relevant_bits w
  unfolding literal_true
  literal-is w h = value-valued v (get_or c.inputs (get_or relevant (w / 2) 0) 0) (odd w) ∙ rw (bit_is (w / 2) h)

  clause-is : (k : Clause) → Each (λ w. w / 2 < length relevant) k → any (value v) (map (predicate_literal c.inputs relevant) k) ≡ any (literal_true relevant_bits) k
  clause-is [] e = refl
  clause-is (w ∷ k) e = rw (literal-is w e.0, clause-is k e.1)

  clauses-are : (cs : List Clause) → Each (λ k. Each (λ w. w / 2 < length relevant) k) cs
      → all (any (value v)) (map (map (predicate_literal c.inputs relevant)) cs) ≡ all (any (literal_true relevant_bits)) cs
  clauses-are [] e = refl
  clauses-are (k ∷ cs) e = rw (clause-is k e.0, clauses-are cs e.1)

  pub predicate-is : (cs : List Clause) → Each (λ k. Each (λ w. w / 2 < length relevant) k) cs
      → all (any (value v)) (map (map (predicate_literal c.inputs relevant)) cs) ≡ satisfies relevant_bits cs
  unfolding satisfies
  predicate-is cs e = clauses-are cs e

-- ---- predicate, gates and claims

module _ (c : Circuit) (relevant : List ℕ) (predicate : List Clause) (b : Boundary c relevant predicate) (v : Valuation) where
  abbrev truth : List (List ℕ) → Bool
  truth ls = all (any (value v)) ls

  abbrev predicate_lists : List (List ℕ)
  predicate_lists = map (map (predicate_literal c.inputs relevant)) predicate

  pub body-true : (x : ℕ) (claims : List (List ℕ)) → map (value v) c.inputs ≡ bits (length c.inputs) x → Follows c.gates v → Meets c relevant predicate x → truth claims ≡ true
      → truth (body_lists c relevant predicate claims) ≡ true
  body-true x claims given f m h =
      all_append (any (value v)) predicate_lists (words_of gate_lists c.gates ++ claims)
      ∙ rw (
        predicate-is c relevant v x b.inputs given predicate b.indices,
        m,
        all_append (any (value v)) (words_of gate_lists c.gates) claims,
        gates-true v c.gates f.conjunctions,
        h,
      )

  -- what it says that the lists hold
  pub record Body (claims : List (List ℕ)) : Type 0 where
    pub meets : Meets c relevant predicate (word_under c v)
    pub conjunctions : Each (Conjunction v) c.gates
    pub claims_hold : truth claims ≡ true

  pub body-says : (claims : List (List ℕ)) → truth (body_lists c relevant predicate claims) ≡ true → Body claims
  body-says claims h =
      let g : List (List ℕ) = words_of gate_lists c.gates in
      let k : (truth predicate_lists && truth (g ++ claims)) ≡ true = sym (all_append (any (value v)) predicate_lists (g ++ claims)) ∙ h in
      let j : (truth g && truth claims) ≡ true = sym (all_append (any (value v)) g claims) ∙ and_right (truth predicate_lists) (truth (g ++ claims)) k in
      let given = values-bits v c.inputs (length c.inputs) refl in
      record {
        meets = sym (predicate-is c relevant v (word_under c v) b.inputs given predicate b.indices) ∙ and_left (truth predicate_lists) (truth (g ++ claims)) k;
        conjunctions = gates-say v c.gates (and_left (truth g) (truth claims) j);
        claims_hold = and_right (truth g) (truth claims) j;
      }

  -- ---- with the source latches in front

  module _ (s : ℕ) where
    abbrev sources : List (List ℕ)
    sources = source_lists (currents_of c) (bits (length c.latches) s)

    as_many : length (currents_of c) ≡ length (bits (length c.latches) s)
    as_many = length-map c.latches current_of ∙ sym (bits-length (length c.latches) s)

    pub row-true : (x : ℕ) (claims : List (List ℕ)) → Settles c s x v → Meets c relevant predicate x → truth claims ≡ true → truth (row_lists c relevant predicate s claims) ≡ true
    row-true x claims f m h =
        all_append (any (value v)) sources (body_lists c relevant predicate claims)
        ∙ rw (
          source_is v (currents_of c) (bits (length c.latches) s),
          bits-matched v (currents_of c) (bits (length c.latches) s) as_many f.latches,
          body-true x claims f.inputs f.follows m h,
        )

    pub record Row (claims : List (List ℕ)) : Type 0 where
      pub settles : Settles c s (word_under c v) v
      pub meets : Meets c relevant predicate (word_under c v)
      pub claims_hold : truth claims ≡ true

    pub row-says : v 0 ≡ false → (claims : List (List ℕ)) → truth (row_lists c relevant predicate s claims) ≡ true → Row claims
    row-says z claims h =
        let body : List (List ℕ) = body_lists c relevant predicate claims in
        let k : (truth sources && truth body) ≡ true = sym (all_append (any (value v)) sources body) ∙ h in
        let r = body-says claims (and_right (truth sources) (truth body) k) in
        record {
          settles =
              record {
                latches =
                    matched-bits v (currents_of c) (bits (length c.latches) s) as_many
                    (sym (source_is v (currents_of c) (bits (length c.latches) s)) ∙ and_left (truth sources) (truth body) k);
                inputs = values-bits v c.inputs (length c.inputs) refl;
                follows = record { constant = z; conjunctions = r.conjunctions };
              };
          meets = r.meets;
          claims_hold = r.claims_hold;
        }
