-- The clauses that are appended are those of the definitions.
use Prim.Native.Nat.{ℕ}
use mathlib.Core.List.{List, [], ◌∷◌, ◌++◌, map, append_assoc, append-nil}
use mathlib.Core.Path.{◌≡◌, refl, sym, ap, ◌∙◌}
use lib.ListN.{length, get_or, take, length-map}
use Rattle.lists.specs.Bits.{bits}
use Rattle.lists.specs.Words.{triples_of, words_of}
use Rattle.lists.proofs.WordLaws.{words_append}
use Rattle.aiger.specs.Gates.{gate_from}
use Rattle.model.specs.Circuit.{current_of, currents_of}
use Rattle.cnf.specs.Clauses.{Clause}
use Rattle.cnf.specs.Simplified.{opposite, dropped, simplified}
use Rattle.obligation_spec.specs.Lists.{source_lists, predicate_literal, gate_lists, target_list, outcome_list, state_list, relation_clauses, transducer_clauses, terminal_clauses, outcomes_of}
use Rattle.obligation_spec.specs.Calls.{Asked, circuit, predicate}

abbrev S : List (List ℕ) → List Clause
S lists = words_of simplified lists

-- a last clause of the true constant is none
no_last : S ((1 ∷ []) ∷ []) ≡ []
unfolding simplified dropped
no_last = refl

module _ (a b g c t : List (List ℕ)) where
  spread : S ((a ++ (b ++ g)) ++ (c ++ t)) ≡ S a ++ (S b ++ (S g ++ (S c ++ S t)))
  spread =
      words_append simplified (a ++ (b ++ g)) (c ++ t)
      ∙ rw (words_append simplified a (b ++ g), words_append simplified b g, words_append simplified c t)
      (append_assoc (S a) (S b ++ S g) (S c ++ S t) ∙ ap (λ (x : List Clause). S a ++ x) (append_assoc (S b) (S g) (S c ++ S t)))

  ordered : S (a ++ (b ++ (g ++ (c ++ t)))) ≡ S a ++ (S b ++ (S g ++ (S c ++ S t)))
  ordered =
      words_append simplified a (b ++ (g ++ (c ++ t)))
      ∙ rw (words_append simplified b (g ++ (c ++ t)), words_append simplified g (c ++ t), words_append simplified c t) refl

-- the lists in the order of the code and in that of the definition, with the same clauses of the claims
pub row-order : (a b g c d : List (List ℕ)) → S c ≡ S d → S ((a ++ (b ++ g)) ++ (c ++ (1 ∷ []) ∷ [])) ≡ S (a ++ (b ++ (g ++ d)))
row-order a b g c d e =
    spread a b g c ((1 ∷ []) ∷ [])
    ∙ rw (no_last, append-nil (S c), e) (sym (ordered a b g d [] ∙ rw (append-nil (S d)) refl) ∙ ap (λ (x : List (List ℕ)). S (a ++ (b ++ (g ++ x)))) (append-nil d))

pub terminal_order : (b g c d : List (List ℕ)) (t : List (List ℕ)) → S c ≡ S d → S (([] ++ (b ++ g)) ++ (c ++ t)) ≡ S (b ++ (g ++ (d ++ t)))
terminal_order b g c d t e = spread [] b g c t ∙ rw e (sym (ordered [] b g d t))

-- ---- of a call

module _ (q : Asked) (currents inputs : List ℕ) (ce : currents ≡ currents_of (circuit q)) (ie : inputs ≡ (circuit q).inputs) where
  abbrev gates_of : List (List ℕ)
  gates_of = words_of gate_lists (take q.model.and_count (triples_of gate_from q.gates))

  latches_many : length currents ≡ length (circuit q).latches
  latches_many = rw ce (length-map (circuit q).latches current_of)

  abbrev predicates : List ℕ → List (List ℕ)
  predicates ls = map (map (predicate_literal ls q.relevant)) (predicate q)

  module _ (source : ℕ) where
    pub relation_is : (targets : List ℕ) (claims : List (List ℕ)) → S claims ≡ S (map (target_list (circuit q)) targets)
        → S ((source_lists currents (bits (length currents) source) ++ (predicates inputs ++ gates_of)) ++ (claims ++ (1 ∷ []) ∷ [])) ≡ relation_clauses (circuit q) q.relevant (predicate q) source targets
    unfolding relation_clauses
    relation_is targets claims e =
        row-order (source_lists currents (bits (length currents) source)) (predicates inputs) gates_of claims (map (target_list (circuit q)) targets) e
        ∙ rw (latches_many, ce, ie) refl

    pub transducer_is : (observed outcomes : List ℕ) (claims : List (List ℕ)) → S claims ≡ S (map (outcome_list (circuit q) observed) (outcomes_of outcomes))
        → S ((source_lists currents (bits (length currents) source) ++ (predicates inputs ++ gates_of)) ++ (claims ++ (1 ∷ []) ∷ [])) ≡ transducer_clauses (circuit q) q.relevant (predicate q) source observed (outcomes_of outcomes)
    unfolding transducer_clauses
    transducer_is observed outcomes claims e =
        row-order (source_lists currents (bits (length currents) source)) (predicates inputs) gates_of claims (map (outcome_list (circuit q) observed) (outcomes_of outcomes)) e
        ∙ rw (latches_many, ce, ie) refl

  pub terminal_is : (bad : ℕ) (states : List ℕ) (claims : List (List ℕ)) (last : ℕ) → S claims ≡ S (map (state_list (circuit q)) states) → last ≡ opposite (get_or (circuit q).outputs bad 0)
      → S (([] ++ (predicates inputs ++ gates_of)) ++ (claims ++ (last ∷ []) ∷ [])) ≡ terminal_clauses (circuit q) q.relevant (predicate q) bad states
  unfolding terminal_clauses
  terminal_is bad states claims last e f =
      terminal_order (predicates inputs) gates_of claims (map (state_list (circuit q)) states) ((last ∷ []) ∷ []) e
      ∙ rw (ie, f) refl
