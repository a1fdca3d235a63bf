-- R7.7: the clauses of a terminal list mean that it claims each state that has an input word with the predicate true and the bad output 0.
use Prim.Native.Nat.{ℕ, ◌<◌}
use mathlib.Core.Bool.{Bool, true, false, not, ◌&&◌, ◌||◌}
use mathlib.Core.List.Memᴰ
use mathlib.Core.List.{List, [], ◌∷◌, ◌++◌, map}
use mathlib.Core.Path.{◌≡◌, refl, sym, ap, ◌∙◌}
use borrow.Author.Tests.{not-true}
use lib.ListN.{length, get_or, length-map}
use Rattle.lists.specs.Bits.{packed}
use Rattle.lists.specs.Tests.{all, any, Each}
use Rattle.lists.specs.Words.{words_of}
use Rattle.lists.proofs.BitLaws.{packed-bits}
use Rattle.lists.proofs.BoolLaws.{true-false, to_false, and_left, and_right}
use Rattle.lists.proofs.MapLaws.{map_at}
use Rattle.lists.proofs.TestLaws.{all_append, each_append}
use Rattle.aiger.specs.Gates.{Valuation, value}
use Rattle.model.specs.Circuit.{Circuit, current_of, currents_of, nexts_of}
use Rattle.model.specs.Values.{Settles}
use Rattle.model.proofs.ValueLaws.{Sound, Literals}
use Rattle.cnf.specs.Clauses.{Clause, Assignment, satisfies, Unsatisfiable, valuation_of}
use Rattle.cnf.specs.Simplified.{opposite, simplified}
use Rattle.cnf.proofs.TruthLaws.{clauses-true, value-opposite}
use Rattle.cnf.proofs.VariableLaws.{clauses-below, assignment_length, assignment_true, assignment_of}
use Rattle.obligation_spec.specs.Lists.{state_list, body_lists, terminal_clauses}
use Rattle.obligation_spec.specs.Meaning.{◌∈◌, State, Meets, TerminalComplete, Overlooks, TerminalMeans}
use Rattle.obligation_spec.proofs.BodyLaws.{Boundary, word_under, state_under, values-bits, values_lt, body-true, body-says}
use Rattle.obligation_spec.proofs.LowLaws.{LowLists, body-low, claims-low, state-low, output-low, opposite-low}
use Rattle.obligation_spec.proofs.ElementLaws.{each_element, claim_fails, fails_claims}
use Rattle.obligation_spec.proofs.ClaimLaws.{number_met, number_unmet}

module _ (c : Circuit) (sound : Sound c) (relevant : List ℕ) (predicate : List Clause) (b : Boundary c relevant predicate) (bad : ℕ) (inside : bad < length c.outputs) (states : List ℕ) (claimed : Each (State c) states) where
  abbrev bad_literal : ℕ
  bad_literal = get_or c.outputs bad 0

  -- the claims, and the negated bad output
  abbrev claims : List (List ℕ)
  claims = map (state_list c) states

  abbrev last : List (List ℕ)
  last = (opposite bad_literal ∷ []) ∷ []

  abbrev lists : List (List ℕ)
  lists = body_lists c relevant predicate (claims ++ last)

  low : LowLists c.variables lists
  low =
      body-low c sound relevant predicate b (claims ++ last)
      (each_append (Literals c.variables) claims last
      (claims-low c.variables (state_list c) (state-low c sound) states)
      ((opposite-low c.variables bad_literal (output-low c sound bad inside), tt), tt))

  current_count : length (currents_of c) ≡ length c.latches
  current_count = length-map c.latches current_of

  module _ (v : Valuation) where
    last_is : all (any (value v)) last ≡ not (value v bad_literal)
    last_is = rw (value-opposite v bad_literal) (flat (not (value v bad_literal)))
      where
        flat : (b : Bool) → ((b || false) && true) ≡ b
        flat true = refl
        flat false = refl

    -- under values that settle in the state s: where a claim's list is false, s is claimed
    state_met : (s x : ℕ) → State c s → Settles c s x v → all (any (value v)) claims ≡ false → s ∈ states
    state_met s x h f e =
        let k = claim_fails v (state_list c) states e in
        let t : ℕ = k.element in
        let is : t ≡ packed (map (value v) (currents_of c)) =
        number_met v (currents_of c) (length c.latches) t current_count (each_element (State c) t states claimed k.inside) k.fails in
        let same : s ≡ t = sym (packed-bits (length c.latches) s h) ∙ ap packed (sym f.latches) ∙ sym is in
        Memᴰ.cast same k.inside

    -- .. and otherwise, with the bad output 0, all lists hold
    lists-true : (s x : ℕ) → Settles c s x v → Meets c relevant predicate x → value v bad_literal ≡ false → all (any (value v)) claims ≡ true → all (any (value v)) lists ≡ true
    lists-true s x f m z h =
        body-true c relevant predicate b v x (claims ++ last) f.inputs f.follows m
        (all_append (any (value v)) claims last ∙ rw (h, last_is, z))

  abbrev clauses : List Clause
  clauses = words_of simplified lists

  satisfied_overlooks : (a : Assignment) → satisfies a clauses ≡ true → Overlooks c relevant predicate bad states a
  satisfied_overlooks a h =
      let v : Valuation = valuation_of a in
      let r = body-says c relevant predicate b v (claims ++ last) (sym (clauses-true a lists) ∙ h) in
      let one : Bool = all (any (value v)) claims in
      let two : Bool = all (any (value v)) last in
      let both : (one && two) ≡ true = sym (all_append (any (value v)) claims last) ∙ r.claims_hold in
      let s : ℕ = state_under c v in
      record {
        state = s;
        among = values_lt v (currents_of c) (length c.latches) current_count;
        word = word_under c v;
        input = values_lt v c.inputs (length c.inputs) refl;
        meets = r.meets;
        settles =
            record {
              latches = values-bits v (currents_of c) (length c.latches) current_count;
              inputs = values-bits v c.inputs (length c.inputs) refl;
              follows = record { constant = refl; conjunctions = r.conjunctions };
            };
        zero = not-true (value v bad_literal) (sym (last_is v) ∙ and_right one two both);
        unclaimed = λ m. true-false (and_left one two both) (fails_claims v (state_list c) states s m (number_unmet v (currents_of c) (length c.latches) s current_count refl));
      }

  overlooks_satisfied : (a : Assignment) → Overlooks c relevant predicate bad states a → satisfies a clauses ≡ true
  overlooks_satisfied a o = clauses-true a lists ∙ lists-true v o.state o.word o.settles o.meets o.zero (holds (all (any (value v)) claims) refl)
    where
      v : Valuation
      v = valuation_of a

      holds : (t : Bool) → all (any (value v)) claims ≡ t → all (any (value v)) claims ≡ true
      holds true q = q
      holds false q = absurd (o.unclaimed (state_met v o.state o.word o.among o.settles q))

  -- the bad output of values
  zero_is : (v : Valuation) → get_or (map (value v) c.outputs) bad false ≡ value v bad_literal
  zero_is v = map_at (value v) c.outputs bad 0 false inside

  unsatisfiable_complete : Unsatisfiable c.variables clauses → TerminalComplete c relevant predicate bad states
  unsatisfiable_complete unsatisfiable s h l =
      let v : Valuation = l.leads.values in
      let f : Settles c s l.word v = l.leads.settles in
      let z : value v bad_literal ≡ false = sym (zero_is v) ∙ ap (λ (os : List Bool). get_or os bad false) (sym l.leads.outputs) ∙ l.zero in
      state_met v s l.word h f
      (to_false (all (any (value v)) claims)
      (λ e.
      unsatisfiable (assignment_of c.variables v) (assignment_length c.variables v)
      (assignment_true c.variables v f.follows.constant lists low ∙ lists-true v s l.word f l.meets z e)))

  complete_unsatisfiable : TerminalComplete c relevant predicate bad states → Unsatisfiable c.variables clauses
  complete_unsatisfiable complete a n h =
      let o = satisfied_overlooks a h in
      let v : Valuation = valuation_of a in
      o.unclaimed
      (complete o.state o.among
      (record {
        word = o.word;
        input = o.input;
        meets = o.meets;
        target = packed (map (value v) (nexts_of c));
        outputs = map (value v) c.outputs;
        leads = record { values = v; settles = o.settles; target = refl; outputs = refl };
        zero = zero_is v ∙ o.zero;
      }))

  -- R7.7: the meaning of a terminal list's clauses
  pub terminal_clauses_mean : TerminalMeans c relevant predicate bad states (terminal_clauses c relevant predicate bad states)
  unfolding terminal_clauses
  terminal_clauses_mean =
      record {
        complete = (unsatisfiable_complete, complete_unsatisfiable);
        assignments = λ a n. (satisfied_overlooks a, overlooks_satisfied a);
        variables = clauses-below c.variables lists low;
      }
