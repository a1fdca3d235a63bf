-- Laws for the functions that hand an accepted call over to the making of its clauses.
use Prim.Native.Nat.{ℕ, ◌≤◌, ◌<◌, ◌^◌}
use mathlib.Core.Bool.{true, false}
use mathlib.Core.List.{List, [], ◌++◌, map}
use Rattle.std.specs.Prelude.{Result}
use mathlib.Core.Path.{◌≡◌, sym, ap, subst, ◌∙◌}
use native.Mathlib.Omega.{arith}
use lib.ListN.{length, get_or, take, length-map}
use Rattle.lists.specs.Bits.{bits}
use Rattle.lists.specs.Words.{words_of}
use Rattle.lists.proofs.MapLaws.{map-take}
use Rattle.model.specs.Circuit.{current_of, next_of, currents_of, nexts_of}
use Rattle.model.proofs.ValueLaws.{Sized}
use Rattle.word_sort.specs.Inner.Sorted.{sorted}
use Rattle.cnf.specs.Clauses.{Clause}
use Rattle.cnf.specs.Simplified.{opposite, simplified}
use Rattle.cnf.proofs.AppendLaws.{same-words}
use Rattle.obligation_spec.specs.Lists.{target_list, outcome_list, state_list, differing, output_bits, relation_clauses, transducer_clauses, terminal_clauses, outcomes_of}
use Rattle.obligation_spec.specs.Limits.{states_claimed, outcomes_claimed}
use Rattle.obligation_spec.specs.Calls.{Asked, circuit, predicate}
use Rattle.obligation_gates.specs.Inner.Encoding.{Low}
use Rattle.obligation_gates.proofs.PredicateLaws.{low-at, opposite-low}
use Rattle.obligation_claims.specs.Inner.Claims.{keys_from, outcome_keys, state_claims, outcome_claims}
use Rattle.obligation_claims.specs.Inner.Filling.{InOrder}
use Rattle.obligation_claims.proofs.ClaimLaws.{state-clauses, outcome-clauses}
use Rattle.obligation_claims.proofs.KeyLaws.{picked_low}
use Rattle.cnf.specs.declared.ClauseCounts.{ClauseCounts}
use Rattle.cnf.specs.declared.Clauses.{Clauses}
use Rattle.aiger.specs.declared.Refusal.{Refusal}
use Rattle.obligation.specs.Inner.Appended.{parts_of, claimed_of, all_lists, Ready, Asks, MakesAll}
use Rattle.obligation.proofs.ListLaws.{relation_is, transducer_is, terminal_is}
use Rattle.obligation.proofs.ReadyLaws.{low-nexts, low-currents, low-outputs, few-nexts, few-currents, row-ready, terminal_ready, few_states, few_outcomes, few-observed, states_ready, outcomes_ready}

-- the keys that were put in order, as the code lends them
pub in_order_lem : (keys words list : List ℕ) (n : ℕ) → InOrder keys n words → list ≡ take n words → list ≡ sorted keys
in_order_lem keys words list n o e = e ∙ o.order

module _ (q : Asked) where
  pub currents_list : (at list : List ℕ) → at ≡ map current_of q.model.latches → list ≡ take q.model.latch_count at → list ≡ currents_of (circuit q)
  currents_list at list e f = f ∙ rw e (sym (map-take current_of q.model.latch_count q.model.latches))

  pub nexts_list : (to list : List ℕ) → to ≡ map next_of q.model.latches → list ≡ take q.model.latch_count to → list ≡ nexts_of (circuit q)
  nexts_list to list e f = f ∙ rw e (sym (map-take next_of q.model.latch_count q.model.latches))

  pub bad_output : (bad : ℕ) (list : List ℕ) (output : ℕ) → list ≡ (circuit q).outputs → output ≡ get_or list bad 0 → output ≡ get_or (circuit q).outputs bad 0
  bad_output bad list output e f = rw (← e) f

module _ (q : Asked) (a : Asks q) (sized : Sized q.model) where
  -- ---- the keys' literals

  pub low_list : (list : List ℕ) → list ≡ nexts_of (circuit q) → Low list
  low_list list e = rw e (low-nexts q a sized)

  pub few_list : (list : List ℕ) → list ≡ nexts_of (circuit q) → length list ≤ 8
  few_list list e = rw e (few-nexts q a sized)

  pub low_list_now : (list : List ℕ) → list ≡ currents_of (circuit q) → Low list
  low_list_now list e = rw e (low-currents q a sized)

  pub few_list_now : (list : List ℕ) → list ≡ currents_of (circuit q) → length list ≤ 8
  few_list_now list e = rw e (few-currents q a sized)

  pub low_list_out : (list : List ℕ) → list ≡ (circuit q).outputs → Low list
  low_list_out list e = rw e (low-outputs q a sized)

  -- ---- a row with claimed targets

  module _ (source : ℕ) (currents inputs nexts keys : List ℕ) (ce : currents ≡ currents_of (circuit q)) (ie : inputs ≡ (circuit q).inputs) (ne : nexts ≡ nexts_of (circuit q)) where
    module _ (ke : keys ≡ sorted (keys_from 0 nexts)) (targets : List ℕ) where
      pub relation_ready : states_claimed (circuit q) targets ≡ true → Ready (parts_of currents source inputs q.relevant q.pairs q.words q.gates q.model.and_count) (claimed_of keys targets false) 1
      relation_ready h =
          record {
            front = rw (ce, ie) (row-ready q a sized source);
            claims = states_ready nexts keys targets ke (low_list nexts ne) (few_list nexts ne) (few_states q a sized targets h);
            low_last = omega arith;
          }

      same_targets : words_of simplified (state_claims keys targets) ≡ words_of simplified (map (target_list (circuit q)) targets)
      same_targets =
          same-words (state_claims keys targets) (map (target_list (circuit q)) targets)
          (state-clauses keys nexts (omega (arith, few_list nexts ne)) ke targets
          ∙ ap (λ (ls : List ℕ). map simplified (map (λ s. differing ls (bits (length ls) s)) targets)) ne
          ∙ ap (λ (n : ℕ). map simplified (map (λ s. differing (nexts_of (circuit q)) (bits n s)) targets)) (length-map (circuit q).latches next_of))

      pub relation_made : (p : Clauses) (r : Result ClauseCounts Refusal) (p' : Clauses)
          → MakesAll (words_of simplified (all_lists (parts_of currents source inputs q.relevant q.pairs q.words q.gates q.model.and_count) (claimed_of keys targets false) 1)) p r p'
          → MakesAll (relation_clauses (circuit q) q.relevant (predicate q) source targets) p r p'
      relation_made p r p' m =
          subst (λ (cs : List Clause). MakesAll cs p r p') (relation_is q currents inputs ce ie source targets (state_claims keys targets) same_targets) m

    -- ---- a row with claimed outcomes

    module _ (outputs observed outcomes : List ℕ) (oe : outputs ≡ (circuit q).outputs) (h : outcomes_claimed (circuit q) observed (outcomes_of outcomes) ≡ true)
        (ke : keys ≡ sorted (outcome_keys nexts (map (λ i. get_or outputs i 0) observed))) where
      abbrev seen : List ℕ
      seen = map (λ i. get_or outputs i 0) observed

      few_seen : length seen ≤ 128
      few_seen = rw (length-map observed (λ i. get_or outputs i 0)) (few-observed q a sized observed outcomes h)

      pub transducer_ready : Ready (parts_of currents source inputs q.relevant q.pairs q.words q.gates q.model.and_count) (claimed_of keys outcomes true) 1
      transducer_ready =
          record {
            front = rw (ce, ie) (row-ready q a sized source);
            claims = outcomes_ready nexts seen keys outcomes ke (low_list nexts ne) (picked_low outputs observed (low_list_out outputs oe)) (few_list nexts ne) few_seen (few_outcomes q a sized observed outcomes h);
            low_last = omega arith;
          }

      same_outcomes : words_of simplified (outcome_claims keys outcomes) ≡ words_of simplified (map (outcome_list (circuit q) observed) (outcomes_of outcomes))
      same_outcomes =
          same-words (outcome_claims keys outcomes) (map (outcome_list (circuit q) observed) (outcomes_of outcomes))
          (outcome-clauses keys nexts seen (omega (arith, few_list nexts ne)) few_seen ke outcomes
          ∙ ap (λ (ls : List ℕ). map simplified (map (λ o. differing ls (bits (length ls) o.target) ++ differing seen (output_bits o)) (outcomes_of outcomes))) ne
          ∙ ap (λ (n : ℕ). map simplified (map (λ o. differing (nexts_of (circuit q)) (bits n o.target) ++ differing seen (output_bits o)) (outcomes_of outcomes))) (length-map (circuit q).latches next_of)
          ∙ ap (λ (os : List ℕ). map simplified (map (λ o. target_list (circuit q) o.target ++ differing (map (λ i. get_or os i 0) observed) (output_bits o)) (outcomes_of outcomes))) oe)

      pub transducer_made : (p : Clauses) (r : Result ClauseCounts Refusal) (p' : Clauses)
          → MakesAll (words_of simplified (all_lists (parts_of currents source inputs q.relevant q.pairs q.words q.gates q.model.and_count) (claimed_of keys outcomes true) 1)) p r p'
          → MakesAll (transducer_clauses (circuit q) q.relevant (predicate q) source observed (outcomes_of outcomes)) p r p'
      transducer_made p r p' m =
          subst (λ (cs : List Clause). MakesAll cs p r p') (transducer_is q currents inputs ce ie source observed outcomes (outcome_claims keys outcomes) same_outcomes) m

  -- ---- a terminal list

  pub output-low : (bad output : ℕ) → output ≡ get_or (circuit q).outputs bad 0 → output < 2 ^ 32
  output-low bad output e = rw e (omega (arith, low-at (circuit q).outputs bad (low-outputs q a sized)))

  module _ (currents none inputs keys : List ℕ) (ce : currents ≡ currents_of (circuit q)) (ze : none ≡ []) (ie : inputs ≡ (circuit q).inputs) (ke : keys ≡ sorted (keys_from 0 currents))
      (bad output last : ℕ) (oe : output ≡ get_or (circuit q).outputs bad 0) (le : last ≡ opposite output) (states : List ℕ) where
    pub terminal_list_ready : states_claimed (circuit q) states ≡ true → Ready (parts_of none 0 inputs q.relevant q.pairs q.words q.gates q.model.and_count) (claimed_of keys states false) last
    terminal_list_ready h =
        record {
          front = rw (ze, ie) (terminal_ready q a sized 0);
          claims = states_ready currents keys states ke (low_list_now currents ce) (few_list_now currents ce) (few_states q a sized states h);
          low_last = rw (le, oe) (opposite-low (get_or (circuit q).outputs bad 0) (low-at (circuit q).outputs bad (low-outputs q a sized)));
        }

    same_states : words_of simplified (state_claims keys states) ≡ words_of simplified (map (state_list (circuit q)) states)
    same_states =
        same-words (state_claims keys states) (map (state_list (circuit q)) states)
        (state-clauses keys currents (omega (arith, few_list_now currents ce)) ke states
        ∙ ap (λ (ls : List ℕ). map simplified (map (λ s. differing ls (bits (length ls) s)) states)) ce
        ∙ ap (λ (n : ℕ). map simplified (map (λ s. differing (currents_of (circuit q)) (bits n s)) states)) (length-map (circuit q).latches current_of))

    pub terminal_made : (p : Clauses) (r : Result ClauseCounts Refusal) (p' : Clauses)
        → MakesAll (words_of simplified (all_lists (parts_of none 0 inputs q.relevant q.pairs q.words q.gates q.model.and_count) (claimed_of keys states false) last)) p r p'
        → MakesAll (terminal_clauses (circuit q) q.relevant (predicate q) bad states) p r p'
    terminal_made p r p' m =
        subst (λ (cs : List Clause). MakesAll cs p r p')
        (ap (λ (ls : List ℕ). words_of simplified (all_lists (parts_of ls 0 inputs q.relevant q.pairs q.words q.gates q.model.and_count) (claimed_of keys states false) last)) ze
        ∙ terminal_is q currents inputs ce ie bad states (state_claims keys states) last same_states (le ∙ ap opposite oe)) m
