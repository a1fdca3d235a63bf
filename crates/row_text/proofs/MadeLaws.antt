-- What the answer of the obligation says of the printed text.
use Prim.Native.Nat.{ℕ, ◌+◌, ◌*◌, ◌≤◌}
use Rattle.std.specs.Prelude.{Result, Ok, Err}
use mathlib.Core.Path.{◌≡◌, refl, sym, ap, ◌∙◌}
use mathlib.Core.Bool.{Bool, true, false}
use mathlib.Core.List.{List, [], ◌∷◌}
use native.Mathlib.Omega.{arith}
use borrow.Author.Tests.{leb-true}
use lib.Dec.{leb}
use lib.ListN.{length, take, drop, length-append}
use lib.Seq.{take_at}
use Rattle.lists.specs.Answer.{Answer, got, refused, unless, and_then}
use Rattle.model.specs.Circuit.{Circuit}
use Rattle.cnf.specs.declared.ClauseCounts.{ClauseCounts}
use Rattle.cnf.specs.Clauses.{Clause, literals_of, pairs_from, returned}
use Rattle.cnf.proofs.ReturnedLaws.{pairs-length, returned-back}
use Rattle.obligation_spec.specs.Calls.{Asked, Lent, asked, predicate, within, relation_row, relation_on}
use Rattle.obligation_spec.specs.Limits.{is_state, states_claimed}
use Rattle.obligation_spec.specs.Lists.{relation_clauses}
use Rattle.aiger.specs.declared.Refusal.{Refusal}
use Rattle.aiger.specs.Refusals.{refusal_number, answered}
use Rattle.obligation.specs.Promise.{sizes, Buffers, lent_of, Makes, MakesRelation}
use Rattle.row_text.specs.Inner.Steps.{Stands}
use Rattle.row_text.specs.Inner.Made.{made_answer, Standing, numbers_in, room_for, PrintsAnswer}
use Rattle.row_text.proofs.PrintLaws.{more_room}
use Rattle.text_print.specs.declared.Printer.{Printer}

pub numbers_in_lem : (cs : List Clause) → numbers_in cs ≡ 2 * length cs + length (literals_of cs)
numbers_in_lem [] = refl
numbers_in_lem (c ∷ cs) = omega (arith, numbers_in_lem cs, length-append c (literals_of cs))

-- ---- an accepted row fits into what was lent

pub record Fits (lent : Lent) (cs : List Clause) : Type 0 where
  pub pairs : 2 * length cs ≤ lent.pairs
  pub literals : length (literals_of cs) ≤ lent.literals

never : {A B : Type 0} {x : A} {n : ℕ} → got x ≡ refused n → B
never e = let z : ◌≡◌ {A = ℕ} 0 1 = cc in absurd (omega arith)

module _ (lent : Lent) (cs : List Clause) where
  unless-fits : (n : ℕ) (q : Bool) (r : Answer (List Clause)) → (q ≡ true → r ≡ got cs → Fits lent cs) → unless n q r ≡ got cs → Fits lent cs
  unless-fits n true r f e = f refl e
  unless-fits n false r f e = never (sym e)

  then_fits : {A : Type 0} (a : Answer A) (f : A → Answer (List Clause)) → ((x : A) → f x ≡ got cs → Fits lent cs) → and_then a f ≡ got cs → Fits lent cs
  then_fits (got x) f g e = g x e
  then_fits (refused n) f g e = never (sym e)

  within-fits : (ds : List Clause) → within lent ds ≡ got cs → Fits lent cs
  within-fits ds =
      unless-fits 20 (leb (2 * length ds) lent.pairs) _ (λ p.
      unless-fits 20 (leb (length (literals_of ds)) lent.literals) _ (λ l e.
      let same : ds ≡ cs = cc in
      record { pairs = rw (← same) (leb-true _ _ p); literals = rw (← same) (leb-true _ _ l) }))

  pub row_fits : (q : Asked) (source : ℕ) (targets : List ℕ) → relation_row q source targets lent ≡ got cs → Fits lent cs
  unfolding relation_row
  row_fits q source targets =
      then_fits {A = Circuit} (asked q lent)
      (λ c. relation_on c q source targets lent)
      (λ c.
      unless-fits 14 (is_state c source) _ (λ h.
      unless-fits 14 (states_claimed c targets) _ (λ k. within-fits (relation_clauses c q.relevant (predicate q) source targets))))

-- ---- what was made

-- the clauses of an accepted answer, as they stand in the buffers
record Rows (answer : Answer (List Clause)) (t : ClauseCounts) (after : Buffers) : Type 0 where
  cs : List Clause
  is : answer ≡ got cs
  back : returned t.clauses after.pairs after.literals ≡ cs
  fits : 2 * t.clauses ≤ length after.pairs
  stands : Stands cs (take (2 * t.clauses) after.pairs) after.literals

rows_made : (answer : Answer (List Clause)) (b : Buffers) (r : Result ClauseCounts Refusal) (after : Buffers) → Makes answer b r after → (t : ClauseCounts) → r ≡ Ok t → Rows answer t after
rows_made (got cs) b r after k t e =
    let told : got t ≡ got (sizes cs) = ap answered (sym e) ∙ k.answers in
    let same : t ≡ sizes cs = cc in
    let n : t.clauses ≡ length cs = ap (λ (s : ClauseCounts). s.clauses) same in
    record {
      cs = cs;
      is = refl;
      back = rw (n, k.pairs, k.literals) (returned-back cs b.pairs b.literals);
      fits = omega (arith, n, pairs-length 0 cs, ap length k.pairs, length-append (pairs_from 0 cs) (drop (length (pairs_from 0 cs)) b.pairs));
      stands = record {
        pairs-are = rw (n, k.pairs) (take_at (pairs_from 0 cs) (drop (length (pairs_from 0 cs)) b.pairs) (2 * length cs) (pairs-length 0 cs));
        other_words = drop (length (literals_of cs)) b.literals;
        words_are = k.literals;
      };
    }
rows_made (refused n) b r after k t e =
    let told : got t ≡ refused n = ap answered (sym e) ∙ k.answers in
    never told

none_made : (answer : Answer (List Clause)) (b : Buffers) (r : Result ClauseCounts Refusal) (after : Buffers) → Makes answer b r after → (n : Refusal) → r ≡ Err n → refused (refusal_number n) ≡ answer
none_made (got cs) b r after k n e =
    let told : refused (refusal_number n) ≡ got (sizes cs) = ap answered (sym e) ∙ k.answers in
    never (sym told)
none_made (refused m) b r after k n e =
    let told : ◌≡◌ {A = Answer ClauseCounts} (refused (refusal_number n)) (refused m) = ap answered (sym e) ∙ k.answers in
    let same : refusal_number n ≡ m = cc in
    ap refused same

-- the same of the call
module _ (q : Asked) (source : ℕ) (targets : List ℕ) (b : Buffers) (r : Result ClauseCounts Refusal) (after : Buffers) (k : MakesRelation q source targets b r after) where
  rows : (t : ClauseCounts) → r ≡ Ok t → Rows (relation_row q source targets (lent_of b)) t after
  rows t e = rows_made (relation_row q source targets (lent_of b)) b r after k.makes t e

  pub made_standing : Standing r after.pairs after.literals
  made_standing t e = let w = rows t e in record { fits = w.fits; stands = rw w.back w.stands }

  by_answer : (s : Result ClauseCounts Refusal) → r ≡ s → made_answer s after.pairs after.literals ≡ relation_row q source targets (lent_of b)
  by_answer (Ok t) e = let w = rows t e in ap got w.back ∙ sym w.is
  by_answer (Err n) e = none_made (relation_row q source targets (lent_of b)) b r after k.makes n e

  made_room : (s : Result ClauseCounts Refusal) → r ≡ s → room_for (made_answer s after.pairs after.literals) ≤ 21 * (length b.pairs + length b.literals) + 29
  made_room (Ok t) e =
      let w = rows t e in
      let f : Fits (lent_of b) w.cs = row_fits (lent_of b) w.cs q source targets w.is in
      omega (arith, ap numbers_in w.back, numbers_in_lem w.cs, f.pairs, f.literals)
  made_room (Err n) e = omega arith

  pub made_printed : (p p' : Printer) → PrintsAnswer p (made_answer r after.pairs after.literals) (room_for (made_answer r after.pairs after.literals)) p'
      → PrintsAnswer p (relation_row q source targets (lent_of b)) (21 * (length b.pairs + length b.literals) + 29) p'
  made_printed p p' w = rw (← by_answer r refl) (more_room p (made_answer r after.pairs after.literals) _ p' _ (made_room r refl) w)
