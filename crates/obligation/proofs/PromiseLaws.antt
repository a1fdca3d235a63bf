-- From the clauses to the promise of a call: the answer by cases, the buffers, and the meaning.
use Prim.Native.Nat.{ℕ, ◌*◌, ◌/◌, ◌≤◌, ◌<◌}
use mathlib.Core.List.{List}
use Rattle.std.specs.Prelude.{Result, Ok, Err}
use mathlib.Core.Path.{◌≡◌, refl, sym, ap, ◌∙◌}
use native.Mathlib.Omega.{arith}
use borrow.Author.Tests.{le-leb, lt-leb}
use lib.ListN.{length}
use Rattle.lists.specs.Answer.{Answer, got, refused}
use Rattle.lists.specs.Parts.{front, zeros}
use Rattle.lists.proofs.AnswerLaws.{and_then-got, got_same}
use Rattle.model.proofs.ValueLaws.{Sized}
use Rattle.cnf.specs.declared.ClauseCounts.{ClauseCounts}
use Rattle.cnf.specs.Clauses.{Clause, literals_of, pairs_from, returned}
use Rattle.cnf.specs.Inner.Appending.{Holding}
use Rattle.cnf.proofs.AppendLaws.{holding-pairs, holding-words}
use Rattle.obligation_spec.specs.Calls.{Asked, within, relation_row, transducer_row, terminal_list}
use Rattle.obligation_spec.proofs.ReturnedLaws.{in_buffers, relation_returned, transducer_returned, terminal_returned}
use Rattle.aiger.specs.declared.Refusal.{Refusal}
use Rattle.aiger.specs.declared.Refusal.TheVariants.{ResultRoom}
use Rattle.aiger.specs.Refusals.{refusal_number, answered}
use Rattle.obligation.specs.Promise.{sizes, pairs_after, literals_after, Buffers, lent_of, Makes, clauses_after, MakesRelation, MakesTransducer, MakesTerminal}
use Rattle.obligation.specs.Inner.Appended.{room_of, Continues, Made}

-- ---- an accepted answer: its clauses are those in the buffers at exit

record Returned (answer : Answer (List Clause)) (b : Buffers) (t : ClauseCounts) (after : Buffers) : Type 0 where
  clauses : List Clause
  is : answer ≡ got clauses
  stand : clauses_after t after ≡ in_buffers clauses b.pairs b.literals

stands : (cs : List Clause) (t : ClauseCounts) (pairs words pairs' words' : List ℕ) → sizes cs ≡ t → pairs' ≡ front pairs (pairs_from 0 cs) → words' ≡ front words (literals_of cs)
    → returned t.clauses pairs' words' ≡ in_buffers cs pairs words
stands cs t pairs words pairs' words' s p l = rw (← s, p, l) refl

returned-by : (answer : Answer (List Clause)) (b : Buffers) (r : Result ClauseCounts Refusal) (after : Buffers) (t : ClauseCounts) → Makes answer b r after → answered r ≡ got t → Returned answer b t after
returned-by answer b r after t m e =
    let a = and_then-got answer (λ cs. got (sizes cs)) t (sym m.answers ∙ e) in
    let cs : List Clause = a.0 in
    let is : answer ≡ got cs = a.1 in
    let s : sizes cs ≡ t = got_same (sizes cs) t a.2 in
    let p : after.pairs ≡ front b.pairs (pairs_from 0 cs) = m.pairs ∙ ap (λ (x : Answer (List Clause)). pairs_after x b.pairs) is in
    let l : after.literals ≡ front b.literals (literals_of cs) = m.literals ∙ ap (λ (x : Answer (List Clause)). literals_after x b.literals) is in
    record { clauses = cs; is = is; stand = stands cs t b.pairs b.literals after.pairs after.literals s p l }

module _ (q : Asked) (sized : Sized q.model) (b : Buffers) (r : Result ClauseCounts Refusal) (after : Buffers) where
  pub relation_promise : (source : ℕ) (targets : List ℕ) → Makes (relation_row q source targets (lent_of b)) b r after → MakesRelation q source targets b r after
  relation_promise source targets m =
      record {
        makes = m;
        means = λ t e. let k = returned-by (relation_row q source targets (lent_of b)) b r after t m e in
            rw k.stand (relation_returned k.clauses b.pairs b.literals q (lent_of b) sized source targets k.is);
      }

  pub transducer_promise : (source : ℕ) (observed outcomes : List ℕ) → Makes (transducer_row q source observed outcomes (lent_of b)) b r after → MakesTransducer q source observed outcomes b r after
  transducer_promise source observed outcomes m =
      record {
        makes = m;
        means = λ t e. let k = returned-by (transducer_row q source observed outcomes (lent_of b)) b r after t m e in
            rw k.stand (transducer_returned k.clauses b.pairs b.literals q (lent_of b) sized source observed outcomes k.is);
      }

  pub terminal_promise : (bad : ℕ) (states : List ℕ) → Makes (terminal_list q bad states (lent_of b)) b r after → MakesTerminal q bad states b r after
  terminal_promise bad states m =
      record {
        makes = m;
        means = λ t e. let k = returned-by (terminal_list q bad states (lent_of b)) b r after t m e in
            rw k.stand (terminal_returned k.clauses b.pairs b.literals q (lent_of b) sized bad states k.is);
      }

-- ---- the answer by cases

-- a refusal, with the buffers as they were and the work words zero
pub makes-refused : (answer : Answer (List Clause)) (n : Refusal) (pairs literals work work' : List ℕ) → answer ≡ refused (refusal_number n) → work' ≡ zeros (length work)
    → Makes answer (record { pairs = pairs; literals = literals; work = work }) (Err n) (record { pairs = pairs; literals = literals; work = work' })
makes-refused answer n pairs literals work work' e z = record { answers = rw e refl; pairs = rw e refl; literals = rw e refl; clears = z }

-- what is left of a call
pub makes-rest : (answer rest : Answer (List Clause)) (pairs literals work : List ℕ) (r : Result ClauseCounts Refusal) (pairs' literals' work' : List ℕ)
    → answer ≡ rest → Continues rest pairs literals r pairs' literals' → work' ≡ zeros (length work)
    → Makes answer (record { pairs = pairs; literals = literals; work = work }) r (record { pairs = pairs'; literals = literals'; work = work' })
makes-rest answer rest pairs literals work r pairs' literals' work' e m z =
    record { answers = rw e m.answers; pairs = rw e m.pairs_are; literals = rw e m.literals_are; clears = z }

-- ---- measured, then written

module _ (cs : List Clause) (pairs literals : List ℕ) (p w p' w' : List ℕ) (size : ClauseCounts) (h : Holding p w cs size p' w') where
  within_no_pairs : length pairs / 2 < size.clauses → within (room_of pairs literals) cs ≡ refused 20
  within_no_pairs k = rw (lt-leb (2 * length cs) (length pairs) (omega (arith, h.clauses))) refl

  pub no_pairs : length pairs / 2 < size.clauses → Made cs pairs literals (Err ResultRoom) pairs literals
  no_pairs k = let e = within_no_pairs k in record { answers = rw e refl; pairs_are = rw e refl; literals_are = rw e refl }

  module _ (k : size.clauses ≤ length pairs / 2) where
    within_no_words : length literals < size.literals → within (room_of pairs literals) cs ≡ refused 20
    within_no_words j = rw (le-leb (2 * length cs) (length pairs) (omega (arith, h.clauses)), lt-leb (length (literals_of cs)) (length literals) (omega (arith, h.literals))) refl

    pub no_words : length literals < size.literals → Made cs pairs literals (Err ResultRoom) pairs literals
    no_words j = let e = within_no_words j in record { answers = rw e refl; pairs_are = rw e refl; literals_are = rw e refl }

    module _ (j : size.literals ≤ length literals) (at : ClauseCounts) (pairs' literals' : List ℕ) (g : Holding pairs literals cs at pairs' literals') where
      within-room : within (room_of pairs literals) cs ≡ got cs
      within-room = rw (le-leb (2 * length cs) (length pairs) (omega (arith, h.clauses)), le-leb (length (literals_of cs)) (length literals) (omega (arith, h.literals))) refl

      same-counts : at ≡ sizes cs
      same-counts = counts-are at (length cs) (length (literals_of cs)) g.clauses g.literals
        where
          counts-are : (t : ClauseCounts) (a b : ℕ) → t.clauses ≡ a → t.literals ≡ b → t ≡ record { clauses = a; literals = b }
          counts-are t a b e f = rw (← e, ← f) refl

      pub made_all : Made cs pairs literals (Ok at) pairs' literals'
      made_all =
          let room : 2 * at.clauses ≤ length pairs = omega (arith, h.clauses, g.clauses) in
          let words : at.literals ≤ length literals = omega (arith, h.literals, g.literals) in
          let e = within-room in
          record {
            answers = rw (e, same-counts) refl;
            pairs_are = rw e (holding-pairs cs pairs literals at pairs' literals' g room words);
            literals_are = rw e (holding-words cs pairs literals at pairs' literals' g room words);
          }
