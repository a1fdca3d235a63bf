-- What it says that an obligation is accepted: R9.7, R9.11, R9.13, R9.14 and R9.20 do not apply, and the clauses are its definition's.
use Prim.Native.Nat.{ℕ, ◌+◌, ◌*◌, ◌/◌, ◌^◌, ◌≤◌, ◌<◌}
use mathlib.Core.Bool.{Bool, true}
use mathlib.Core.List.{List, [], ◌∷◌}
use mathlib.Core.Path.{◌≡◌, sym, ap, ◌∙◌}
use borrow.Author.Tests.{ltb-true, leb-true}
use lib.Dec.{leb, ltb}
use lib.ListN.{length}
use Rattle.lists.specs.Answer.{Answer, got, unless, and_then}
use Rattle.lists.specs.Sets.{rising}
use Rattle.lists.specs.Tests.{all, Each}
use Rattle.lists.specs.Words.{in_order, lengths}
use Rattle.lists.proofs.AnswerLaws.{unless_test, unless-got, got_same, and_then-got}
use Rattle.lists.proofs.TestLaws.{every_facts, each_of_all, each-so}
use Rattle.model.specs.Circuit.{Circuit}
use Rattle.model.specs.Checked.{checked}
use Rattle.model.proofs.ValueLaws.{checked-got}
use Rattle.model_step.specs.declared.Outcome.{Outcome}
use Rattle.cnf.specs.Clauses.{Clause, literals_of, clauses_in}
use Rattle.obligation_spec.specs.Lists.{outcomes_of, relation_clauses, transducer_clauses, terminal_clauses}
use Rattle.obligation_spec.specs.Limits.{bounded, is_state, states_claimed, rising_outcomes, outcomes_claimed}
use Rattle.obligation_spec.specs.Calls.{Asked, circuit, predicate, Lent, within, asked, relation_row, transducer_row, terminal_list}
use Rattle.obligation_spec.specs.Meaning.{State}

below_each : (n : ℕ) (l : List ℕ) → all (λ i. ltb i n) l ≡ true → Each (λ i. i < n) l
below_each n l h = each-so (λ i. ltb i n ≡ true) (λ i. i < n) (λ i e. ltb-true i n e) l (each_of_all (λ i. ltb i n) l h)

-- ---- R9.13

pub record Bounded (c : Circuit) (relevant pairs words : List ℕ) : Type 0 where
  pub few : length relevant ≤ 64
  pub rises : rising relevant ≡ true
  pub inputs : Each (λ i. i < length c.inputs) relevant
  pub clauses : length pairs / 2 ≤ 64
  pub literals : lengths pairs ≤ 1024
  pub ordered : in_order 0 (length words) pairs ≡ true
  pub indices : Each (λ k. Each (λ w. w / 2 < length relevant) k) (clauses_in words pairs)

pub bounded_facts : (c : Circuit) (relevant pairs words : List ℕ) → bounded c relevant pairs words ≡ true → Bounded c relevant pairs words
unfolding bounded
bounded_facts c relevant pairs words h =
    let n : ℕ = length relevant in
    let cs : List Clause = clauses_in words pairs in
    let f = every_facts
    (leb n 64
    ∷ rising relevant
    ∷ all (λ i. ltb i (length c.inputs)) relevant
    ∷ leb (length pairs / 2) 64
    ∷ leb (lengths pairs) 1024
    ∷ in_order 0 (length words) pairs
    ∷ all (all (λ w. ltb (w / 2) n)) cs
    ∷ [])
    h in
    record {
      few = leb-true n 64 f.0;
      rises = f.1.0;
      inputs = below_each (length c.inputs) relevant f.1.1.0;
      clauses = leb-true (length pairs / 2) 64 f.1.1.1.0;
      literals = leb-true (lengths pairs) 1024 f.1.1.1.1.0;
      ordered = f.1.1.1.1.1.0;
      indices =
          each-so (λ k. all (λ w. ltb (w / 2) n) k ≡ true) (λ k. Each (λ w. w / 2 < n) k)
          (λ k e. each-so (λ w. ltb (w / 2) n ≡ true) (λ w. w / 2 < n) (λ w t. ltb-true (w / 2) n t) k (each_of_all (λ w. ltb (w / 2) n) k e))
          cs (each_of_all (all (λ w. ltb (w / 2) n)) cs f.1.1.1.1.1.1.0);
    }

-- the model was checked, and the boundary is right
pub record AskedFor (q : Asked) (lent : Lent) (c : Circuit) : Type 0 where
  pub checks : checked q.model q.gates lent.work ≡ got c
  pub is : c ≡ circuit q
  pub bounds : Bounded c q.relevant q.pairs q.words

pub asked-got : (q : Asked) (lent : Lent) (c : Circuit) → asked q lent ≡ got c → AskedFor q lent c
asked-got q lent c e =
    let rest : Circuit → Answer Circuit = λ d. unless 13 (bounded d q.relevant q.pairs q.words) (got d) in
    let found = and_then-got (checked q.model q.gates lent.work) rest c e in
    let d : Circuit = found.0 in
    let test : Bool = bounded d q.relevant q.pairs q.words in
    let same : d ≡ c = got_same d c (unless-got 13 (got d) c test found.2) in
    let is : checked q.model q.gates lent.work ≡ got c = found.1 ∙ ap got same in
    record {
      checks = is;
      is = (checked-got q.model q.gates lent.work c is).is;
      bounds = bounded_facts c q.relevant q.pairs q.words (ap (λ (d : Circuit). bounded d q.relevant q.pairs q.words) (sym same) ∙ unless_test 13 (got d) c test found.2);
    }

-- ---- R9.20

pub record Within (lent : Lent) (cs : List Clause) : Type 0 where
  pub pairs : 2 * length cs ≤ lent.pairs
  pub literals : length (literals_of cs) ≤ lent.literals

within-got : (lent : Lent) (ds cs : List Clause) → within lent ds ≡ got cs → (cs ≡ ds) × Within lent cs
within-got lent ds cs e =
    let inner : Answer (List Clause) = unless 20 (leb (length (literals_of ds)) lent.literals) (got ds) in
    let first : Bool = leb (2 * length ds) lent.pairs in
    let second : Bool = leb (length (literals_of ds)) lent.literals in
    let e₁ : inner ≡ got cs = unless-got 20 inner cs first e in
    let same : cs ≡ ds = sym (got_same ds cs (unless-got 20 (got ds) cs second e₁)) in (
      same,
      rw same
          (record {
            pairs = leb-true (2 * length ds) lent.pairs (unless_test 20 inner cs first e);
            literals = leb-true (length (literals_of ds)) lent.literals (unless_test 20 (got ds) cs second e₁);
          }),
    )

-- ---- R9.14

pub record StatesClaimed (c : Circuit) (states : List ℕ) : Type 0 where
  pub rises : rising states ≡ true
  pub inside : Each (State c) states

pub states_facts : (c : Circuit) (states : List ℕ) → states_claimed c states ≡ true → StatesClaimed c states
unfolding states_claimed
states_facts c states h =
    let f = every_facts (rising states ∷ all (is_state c) states ∷ []) h in
    record { rises = f.0; inside = below_each (2 ^ length c.latches) states f.1.0 }

pub record OutcomesClaimed (c : Circuit) (observed : List ℕ) (outcomes : List Outcome) : Type 0 where
  pub rises : rising observed ≡ true
  pub outputs : Each (λ i. i < length c.outputs) observed
  pub few : length outcomes ≤ 65536
  pub outcomes_rise : rising_outcomes outcomes ≡ true
  pub states : Each (λ o. State c o.target) outcomes
  pub bits : Each (λ o. o.low + 2 ^ 64 * o.high < 2 ^ length observed) outcomes

pub outcomes_facts : (c : Circuit) (observed : List ℕ) (outcomes : List Outcome) → outcomes_claimed c observed outcomes ≡ true → OutcomesClaimed c observed outcomes
unfolding outcomes_claimed
outcomes_facts c observed outcomes h =
    let target : Outcome → Bool = λ o. is_state c o.target in
    let fits : Outcome → Bool = λ o. ltb (o.low + 2 ^ 64 * o.high) (2 ^ length observed) in
    let f = every_facts
    (rising observed
    ∷ all (λ i. ltb i (length c.outputs)) observed
    ∷ leb (length outcomes) 65536
    ∷ rising_outcomes outcomes
    ∷ all target outcomes
    ∷ all fits outcomes
    ∷ [])
    h in
    record {
      rises = f.0;
      outputs = below_each (length c.outputs) observed f.1.0;
      few = leb-true (length outcomes) 65536 f.1.1.0;
      outcomes_rise = f.1.1.1.0;
      states =
          each-so (λ o. target o ≡ true) (λ o. State c o.target) (λ o e. ltb-true o.target (2 ^ length c.latches) e) outcomes
          (each_of_all target outcomes f.1.1.1.1.0);
      bits =
          each-so (λ o. fits o ≡ true) (λ o. o.low + 2 ^ 64 * o.high < 2 ^ length observed) (λ o e. ltb-true (o.low + 2 ^ 64 * o.high) (2 ^ length observed) e) outcomes
          (each_of_all fits outcomes f.1.1.1.1.1.0);
    }

-- ---- the calls

-- the shape of all three: two tests of 14 and then 20, of the model asked about
record Accepted (q : Asked) (lent : Lent) (first second : Circuit → Bool) (clauses : Circuit → List Clause) (cs : List Clause) : Type 0 where
  asks : AskedFor q lent (circuit q)
  one : first (circuit q) ≡ true
  two : second (circuit q) ≡ true
  is : cs ≡ clauses (circuit q)
  room : Within lent cs

accepted-got : (q : Asked) (lent : Lent) (first second : Circuit → Bool) (clauses : Circuit → List Clause) (cs : List Clause)
    → and_then (asked q lent) (λ c. unless 14 (first c) (unless 14 (second c) (within lent (clauses c)))) ≡ got cs → Accepted q lent first second clauses cs
accepted-got q lent first second clauses cs e =
    let found = and_then-got (asked q lent) (λ c. unless 14 (first c) (unless 14 (second c) (within lent (clauses c)))) cs e in
    let c : Circuit = found.0 in
    let f = asked-got q lent c found.1 in
    let inner : Answer (List Clause) = unless 14 (second c) (within lent (clauses c)) in
    let e₁ : inner ≡ got cs = unless-got 14 inner cs (first c) found.2 in
    let w = within-got lent (clauses c) cs (unless-got 14 (within lent (clauses c)) cs (second c) e₁) in
    record {
      asks = rw f.is at f;
      one = ap first (sym f.is) ∙ unless_test 14 inner cs (first c) found.2;
      two = ap second (sym f.is) ∙ unless_test 14 (within lent (clauses c)) cs (second c) e₁;
      is = w.0 ∙ ap clauses f.is;
      room = w.1;
    }

pub record RelationAccepted (q : Asked) (source : ℕ) (targets : List ℕ) (lent : Lent) (cs : List Clause) : Type 0 where
  pub asks : AskedFor q lent (circuit q)
  pub is_state : State (circuit q) source
  pub claims : StatesClaimed (circuit q) targets
  pub is : cs ≡ relation_clauses (circuit q) q.relevant (predicate q) source targets
  pub room : Within lent cs

pub relation_got : (q : Asked) (source : ℕ) (targets : List ℕ) (lent : Lent) (cs : List Clause) → relation_row q source targets lent ≡ got cs → RelationAccepted q source targets lent cs
unfolding relation_row
relation_got q source targets lent cs e =
    let a = accepted-got q lent (λ c. is_state c source) (λ c. states_claimed c targets) (λ c. relation_clauses c q.relevant (predicate q) source targets) cs e in
    record {
      asks = a.asks;
      is_state = ltb-true source (2 ^ length (circuit q).latches) a.one;
      claims = states_facts (circuit q) targets a.two;
      is = a.is;
      room = a.room;
    }

pub record TransducerAccepted (q : Asked) (source : ℕ) (observed outcomes : List ℕ) (lent : Lent) (cs : List Clause) : Type 0 where
  pub asks : AskedFor q lent (circuit q)
  pub is_state : State (circuit q) source
  pub claims : OutcomesClaimed (circuit q) observed (outcomes_of outcomes)
  pub is : cs ≡ transducer_clauses (circuit q) q.relevant (predicate q) source observed (outcomes_of outcomes)
  pub room : Within lent cs

pub transducer_got : (q : Asked) (source : ℕ) (observed outcomes : List ℕ) (lent : Lent) (cs : List Clause) → transducer_row q source observed outcomes lent ≡ got cs
    → TransducerAccepted q source observed outcomes lent cs
unfolding transducer_row
transducer_got q source observed outcomes lent cs e =
    let a = accepted-got q lent (λ c. is_state c source) (λ c. outcomes_claimed c observed (outcomes_of outcomes))
    (λ c. transducer_clauses c q.relevant (predicate q) source observed (outcomes_of outcomes)) cs e in
    record {
      asks = a.asks;
      is_state = ltb-true source (2 ^ length (circuit q).latches) a.one;
      claims = outcomes_facts (circuit q) observed (outcomes_of outcomes) a.two;
      is = a.is;
      room = a.room;
    }

pub record TerminalAccepted (q : Asked) (bad : ℕ) (states : List ℕ) (lent : Lent) (cs : List Clause) : Type 0 where
  pub asks : AskedFor q lent (circuit q)
  pub is_output : bad < length (circuit q).outputs
  pub claims : StatesClaimed (circuit q) states
  pub is : cs ≡ terminal_clauses (circuit q) q.relevant (predicate q) bad states
  pub room : Within lent cs

pub terminal_got : (q : Asked) (bad : ℕ) (states : List ℕ) (lent : Lent) (cs : List Clause) → terminal_list q bad states lent ≡ got cs → TerminalAccepted q bad states lent cs
unfolding terminal_list
terminal_got q bad states lent cs e =
    let a = accepted-got q lent (λ c. ltb bad (length c.outputs)) (λ c. states_claimed c states) (λ c. terminal_clauses c q.relevant (predicate q) bad states) cs e in
    record {
      asks = a.asks;
      is_output = ltb-true bad (length (circuit q).outputs) a.one;
      claims = states_facts (circuit q) states a.two;
      is = a.is;
      room = a.room;
    }
