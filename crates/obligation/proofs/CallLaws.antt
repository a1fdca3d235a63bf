-- The call from its checks: a refusal of the model, the boundary or the claim, or the clauses.
use Prim.Native.Nat.{ℕ}
use mathlib.Core.Bool.{Bool, true, false, ◌&&◌}
use mathlib.Core.List.{List}
use Rattle.std.specs.Prelude.{Result, Ok, Err}
use mathlib.Core.Path.{◌≡◌, refl, sym, ap, ◌∙◌}
use lib.Dec.{ltb}
use lib.ListN.{length}
use Rattle.lists.specs.Answer.{Answer, got, refused, unless}
use Rattle.lists.proofs.AnswerLaws.{unless_test, unless-got, got_same, and_then-got}
use Rattle.aiger.specs.declared.Refusal.{Refusal}
use Rattle.aiger.specs.declared.Refusal.TheVariants as refusal
use Rattle.aiger.specs.Refusals.{refusal_number}
use Rattle.model.specs.Circuit.{Circuit}
use Rattle.model.specs.Checked.{checked, judged}
use Rattle.model.proofs.ValueLaws.{Sized, checked-got}
use Rattle.cnf.specs.declared.ClauseCounts.{ClauseCounts}
use Rattle.cnf.specs.Clauses.{Clause}
use Rattle.obligation_spec.specs.Lists.{outcomes_of}
use Rattle.obligation_spec.specs.Limits.{bounded, is_state, states_claimed, outcomes_claimed}
use Rattle.obligation_spec.specs.Calls.{Asked, circuit, Lent, within, asked, relation_row, transducer_row, terminal_list}
use Rattle.obligation_check.specs.Inner.Boundary.{Checks}
use Rattle.obligation.specs.declared.Claim.{Claim}
use Rattle.obligation.specs.declared.Claim.TheVariants.{Relation, Transducer, Terminal}
use Rattle.obligation.specs.Promise.{Buffers, buffers_of, lent_of, Makes, Promised}
use Rattle.obligation.specs.Inner.Appended.{room_of, Asks, Made}
use Rattle.obligation.specs.Inner.ByClaim.{claim_test, claim_clauses, claim_after}
use Rattle.obligation.proofs.PromiseLaws.{relation_promise, transducer_promise, terminal_promise, makes-refused, makes-rest}

-- ---- where the check accepts

asks-from : (q : Asked) (lent : Lent) → asked q lent ≡ got (circuit q) → Asks q
asks-from q lent e =
    let rest : Circuit → Answer Circuit = λ d. unless 13 (bounded d q.relevant q.pairs q.words) (got d) in
    let found = and_then-got (checked q.model q.gates lent.work) rest (circuit q) e in
    let d : Circuit = found.0 in
    let test : Bool = bounded d q.relevant q.pairs q.words in
    let same : d ≡ circuit q = got_same d (circuit q) (unless-got 13 (got d) (circuit q) test found.2) in
    let p = checked-got q.model q.gates lent.work (circuit q) (found.1 ∙ ap got same) in
    record {
      counts = p.counts;
      inputs = p.inputs;
      outputs = p.outputs;
      words = p.words;
      well = p.well;
      bounds = ap (λ (c : Circuit). bounded c q.relevant q.pairs q.words) (sym same) ∙ unless_test 13 (got d) (circuit q) test found.2;
    }

pub asks : (q : Asked) (w : ℕ) (v : Result (Unit {0}) Refusal) (work' : List ℕ) → Checks q w v work' → (u : Unit {0}) → v ≡ Ok u → Asks q
asks q w v work' h u e =
    let lent : Lent = record { work = w; pairs = 0; literals = 0 } in
    asks-from q lent (sym (h.judges lent refl) ∙ rw e refl)

-- ---- what a call answers, by what is claimed

abbrev answer_to : Asked → Claim → Lent → Answer (List Clause)
answer_to q (Relation source targets) lent = relation_row q source targets.now lent
answer_to q (Transducer source observed outcomes) lent = transducer_row q source observed.now outcomes.now lent
answer_to q (Terminal bad states) lent = terminal_list q bad states.now lent

two_tests : (a b : Bool) (r : Answer (List Clause)) → unless 14 a (unless 14 b r) ≡ unless 14 (a && b) r
two_tests true b r = refl
two_tests false b r = refl

module _ (q : Asked) (lent : Lent) where
  answer-refused : (claim : Claim) (n : ℕ) → asked q lent ≡ refused n → answer_to q claim lent ≡ refused n
  unfolding relation_row transducer_row terminal_list
  answer-refused (Relation source targets) n e = rw e refl
  answer-refused (Transducer source observed outcomes) n e = rw e refl
  answer-refused (Terminal bad states) n e = rw e refl

  answer-rest : (claim : Claim) → asked q lent ≡ got (circuit q) → answer_to q claim lent ≡ claim_after q claim lent
  unfolding relation_row transducer_row terminal_list
  answer-rest (Relation source targets) e = rw e (two_tests (is_state (circuit q) source) (states_claimed (circuit q) targets.now) (within lent (claim_clauses q (Relation source targets))))
  answer-rest (Transducer source observed outcomes) e =
      rw e (two_tests (is_state (circuit q) source) (outcomes_claimed (circuit q) observed.now (outcomes_of outcomes.now)) (within lent (claim_clauses q (Transducer source observed outcomes))))
  answer-rest (Terminal bad states) e = rw e (two_tests (ltb bad (length (circuit q).outputs)) (states_claimed (circuit q) states.now) (within lent (claim_clauses q (Terminal bad states))))

promise : (q : Asked) → Sized q.model → (b : Buffers) (r : Result ClauseCounts Refusal) (after : Buffers) (claim : Claim) → Makes (answer_to q claim (lent_of b)) b r after → Promised claim q b r after
promise q sized b r after (Relation source targets) m = relation_promise q sized b r after source targets.now m
promise q sized b r after (Transducer source observed outcomes) m = transducer_promise q sized b r after source observed.now outcomes.now m
promise q sized b r after (Terminal bad states) m = terminal_promise q sized b r after bad states.now m

-- ---- a call after its check

module _ (q : Asked) (sized : Sized q.model) (claim : Claim) (pairs literals work work' : List ℕ) (v : Result (Unit {0}) Refusal) (h : Checks q (length work) v work') where
  abbrev lent : Lent
  lent = lent_of (buffers_of pairs literals work)

  asked_is : asked q lent ≡ judged v (circuit q)
  asked_is = sym (h.judges lent refl)

  -- refused by the check
  pub call_refused : (n : Refusal) → v ≡ Err n → Promised claim q (buffers_of pairs literals work) (Err n) (buffers_of pairs literals work')
  call_refused n e =
      promise q sized (buffers_of pairs literals work) (Err n) (buffers_of pairs literals work') claim
      (makes-refused (answer_to q claim lent) n pairs literals work work' (answer-refused q lent claim (refusal_number n) (asked_is ∙ rw e refl)) h.clears)

  -- accepted by the check
  module _ (u : Unit {0}) (e : v ≡ Ok u) (t : Bool) (k : t ≡ claim_test (circuit q) claim) where
    left : answer_to q claim lent ≡ claim_after q claim lent
    left = answer-rest q lent claim (asked_is ∙ rw e refl)

    pub call_unclaimed : t ≡ false → Promised claim q (buffers_of pairs literals work) (Err refusal.Claim) (buffers_of pairs literals work')
    call_unclaimed f =
        promise q sized (buffers_of pairs literals work) (Err refusal.Claim) (buffers_of pairs literals work') claim
        (makes-refused (answer_to q claim lent) refusal.Claim pairs literals work work' (left ∙ rw (← k, f) refl) h.clears)

    pub call_made : t ≡ true → (r : Result ClauseCounts Refusal) (pairs' literals' : List ℕ) → Made (claim_clauses q claim) pairs literals r pairs' literals'
        → Promised claim q (buffers_of pairs literals work) r (buffers_of pairs' literals' work')
    call_made f r pairs' literals' m =
        promise q sized (buffers_of pairs literals work) r (buffers_of pairs' literals' work') claim
        (makes-rest (answer_to q claim lent) (within (room_of pairs literals) (claim_clauses q claim)) pairs literals work r pairs' literals' work' (left ∙ rw (← k, f) refl) m h.clears)
