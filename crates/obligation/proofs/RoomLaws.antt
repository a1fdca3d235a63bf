-- How many clauses and literals an obligation can have at most, by its parts: where so much room is lent, nothing needs to be measured.
use Prim.Native.Nat.{ℕ, ◌+◌, ◌*◌, ◌/◌, ◌≤◌}
use mathlib.Core.Bool.{Bool, true, false}
use mathlib.Core.List.{List, [], ◌∷◌, ◌++◌, map}
use Rattle.std.specs.Prelude.{Ok}
use mathlib.Core.Path.{◌≡◌, refl, sym, ◌∙◌}
use native.Mathlib.Nat.{mul-suc, mul-le-mul}
use native.Mathlib.Omega.{arith}
use lib.ListN.{length, take, drop, length-append, length-map, length-take}
use Rattle.lists.specs.Bits.{bits}
use Rattle.lists.specs.Words.{triples_of, words_of, lengths}
use Rattle.lists.proofs.WordLaws.{triples_count}
use Rattle.aiger.specs.declared.Gate.{Gate}
use Rattle.aiger.specs.Gates.{gate_from}
use Rattle.cnf.specs.declared.ClauseCounts.{ClauseCounts}
use Rattle.cnf.specs.Clauses.{clauses_in}
use Rattle.cnf.specs.Simplified.{simplified}
use Rattle.cnf.specs.Inner.Appending.{Holding}
use Rattle.cnf.proofs.SizeLaws.{total, total_append, total_more, clauses-few, kept-few}
use Rattle.obligation_spec.specs.Lists.{valued, source_lists, predicate_literal, gate_lists}
use Rattle.obligation_claims.specs.Inner.Claims.{claim_list, state_claims, outcome_claims}
use Rattle.obligation.specs.Inner.Appended.{Parts, Claimed, front_lists, claim_lists, all_lists, claim_count, Ready, Roomy, Made}
use Rattle.obligation.proofs.PromiseLaws.{made_all}
use Rattle.obligation.proofs.MakingLaws.{front-most, claims_many, claims-few}

-- ---- the literals of each part

sources_total : (ls : List ℕ) (bs : List Bool) → total (source_lists ls bs) ≤ length ls
sources_total [] bs = omega arith
sources_total (l ∷ ls) [] = omega arith
sources_total (l ∷ ls) (b ∷ bs) = rw (total_more (valued l b ∷ []) (source_lists ls bs)) (omega (arith, sources_total ls bs))

mapped_total : (f : ℕ → ℕ) (cs : List (List ℕ)) → total (map (map f) cs) ≡ total cs
mapped_total f [] = refl
mapped_total f (c ∷ cs) = total_more (map f c) (map (map f) cs) ∙ rw (length-map c f, mapped_total f cs) (sym (total_more c cs))

cut_total : (words pairs : List ℕ) → total (clauses_in words pairs) ≤ lengths pairs
cut_total words [] = omega arith
cut_total words (offset ∷ []) = omega arith
cut_total words (offset ∷ size ∷ pairs) =
    rw (total_more (take size (drop offset words)) (clauses_in words pairs), length-take size (drop offset words))
    (omega (arith, cut_total words pairs))

gates_total : (gs : List Gate) → total (words_of gate_lists gs) ≡ 7 * length gs
gates_total [] = refl
gates_total (g ∷ gs) = total_append (gate_lists g) (words_of gate_lists gs) ∙ rw (gates_total gs) (omega arith)

states_total : (keys states : List ℕ) → total (state_claims keys states) ≡ length keys * length states
states_total keys [] = omega arith
states_total keys (s ∷ states) =
    total_more (claim_list keys (s ∷ [])) (state_claims keys states)
    ∙ rw (length-map keys _, states_total keys states, mul-suc (length keys) (length states)) (omega arith)

outcomes_total : (keys words : List ℕ) → total (outcome_claims keys words) ≡ length keys * length (outcome_claims keys words)
outcomes_total keys [] = omega arith
outcomes_total keys (t ∷ []) = omega arith
outcomes_total keys (t ∷ h ∷ []) = omega arith
outcomes_total keys (t ∷ h ∷ l ∷ words) =
    total_more (claim_list keys (t ∷ h ∷ l ∷ [])) (outcome_claims keys words)
    ∙ rw (length-map keys _, outcomes_total keys words, mul-suc (length keys) (length (outcome_claims keys words))) (omega arith)

claims_total : (keys words : List ℕ) (wide : Bool) → total (claim_lists (record { keys = keys; words = words; wide = wide })) ≡ length keys * claim_count (length words) wide
claims_total keys words false = states_total keys words
claims_total keys words true = outcomes_total keys words ∙ rw (triples_count (λ t h l. claim_list keys (t ∷ h ∷ l ∷ [])) words)

-- ---- all of them

-- what the test of the room asks
pub roomy-asks : (p : Parts) (c : Claimed) (last : ℕ) → Ready p c last → (n : ℕ) → n ≡ claim_count (length c.words) c.wide
    → (length p.currents ≤ 8) × (length p.pairs / 2 ≤ 64) × (p.ands ≤ 1000000) × (length c.keys * n ≤ 136000000) × (n ≤ 1000000)
roomy-asks p c last r n e =
    let few : n ≤ 1000000 = omega (arith, e, claims_many c.keys c.words c.wide, claims-few c.keys c.words c.wide r.claims) in
    (r.front.few, r.front.clauses, r.front.most, omega (arith, mul-le-mul r.claims.few_keys.few few), few)

module _ (p : Parts) (c : Claimed) (last : ℕ) (r : Ready p c last) where
  front_total : total (front_lists p) ≤ length p.currents + 1024 + 7 * p.ands
  front_total =
      let sources = source_lists p.currents (bits (length p.currents) p.source) in
      let clauses = map (map (predicate_literal p.inputs p.relevant)) (clauses_in p.words p.pairs) in
      let listed = take p.ands (triples_of gate_from p.gates) in
      rw (total_append sources (clauses ++ words_of gate_lists listed), total_append clauses (words_of gate_lists listed), mapped_total (predicate_literal p.inputs p.relevant) (clauses_in p.words p.pairs), gates_total listed, length-take p.ands (triples_of gate_from p.gates))
      (omega (arith, sources_total p.currents (bits (length p.currents) p.source), cut_total p.words p.pairs, r.front.bounded.few))

  all_total : total (all_lists p c last) ≤ length p.currents + 7 * p.ands + length c.keys * claim_count (length c.words) c.wide + 1025
  all_total =
      rw (total_append (front_lists p) (claim_lists c ++ (last ∷ []) ∷ []), total_append (claim_lists c) ((last ∷ []) ∷ []), claims_total c.keys c.words c.wide)
      (omega (arith, front_total))

  all_many : length (all_lists p c last) ≤ length p.currents + length p.pairs / 2 + 3 * p.ands + claim_count (length c.words) c.wide + 1
  all_many =
      rw (length-append (front_lists p) (claim_lists c ++ (last ∷ []) ∷ []), length-append (claim_lists c) ((last ∷ []) ∷ []), claims_many c.keys c.words c.wide)
      (omega (arith, front-most p r.front))

  -- with so much room, what is appended is the whole answer
  pub made_roomy : (pairs literals : List ℕ) (n : ℕ) → n ≡ claim_count (length c.words) c.wide
      → Roomy (length p.currents) (length p.pairs / 2) p.ands (length c.keys) n (length pairs) (length literals)
      → (at : ClauseCounts) (pairs' literals' : List ℕ) → Holding pairs literals (words_of simplified (all_lists p c last)) at pairs' literals'
      → Made (words_of simplified (all_lists p c last)) pairs literals (Ok at) pairs' literals'
  made_roomy pairs literals n e room at pairs' literals' h =
      let literals-fit : length p.currents + 7 * p.ands + length c.keys * claim_count (length c.words) c.wide + 1025 ≤ length literals = rw (← e) room.literals_suffice in
      made_all (words_of simplified (all_lists p c last)) pairs literals pairs literals pairs' literals' at h
      (omega (arith, h.clauses, clauses-few (all_lists p c last), all_many, room.pairs_suffice, e))
      (omega (arith, h.literals, kept-few (all_lists p c last), all_total, literals-fit))
      at pairs' literals' h
