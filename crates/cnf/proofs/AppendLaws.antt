-- Laws of `Appends`, `Holding` and `Space`: clauses appended one after the other, and what a caller has at the end.
use Prim.Native.Nat.{ℕ, suc, ◌+◌, ◌*◌, ◌≤◌, ◌<◌, ◌^◌}
use mathlib.Core.Path.{◌≡◌, refl, sym, ap, ◌∙◌}
use mathlib.Core.Logic.{◌⊎◌, ⊎_elim}
use mathlib.Core.List.{List, [], ◌∷◌, ◌++◌, map, append_assoc, append-nil}
use native.Mathlib.Omega.{arith}
use lib.ListN.{length, get_or, take, length-append, length-map}
use lib.Seq.{take_all, length-take-le}
use Rattle.lists.specs.Parts.{front, put}
use Rattle.lists.specs.Words.{words_of}
use Rattle.lists.proofs.PartLaws.{Grown, grown-more, put-length}
use Rattle.lists.proofs.RestLaws.{take_next}
use Rattle.lists.proofs.WordLaws.{words_append, words-next}
use Rattle.cnf.specs.declared.ClauseCounts.{ClauseCounts}
use Rattle.cnf.specs.declared.Clauses.{Clauses}
use Rattle.cnf.specs.Clauses.{Clause, literals_of, pairs_from, returned}
use Rattle.cnf.specs.Simplified.{simplified}
use Rattle.cnf.specs.Inner.Appending.{Room, Stored, Holding, SameBuffers, Appends, Space, Full}
use Rattle.cnf.proofs.ReturnedLaws.{pairs-length, literals-more, pairs-more, returned-back}

-- ---- it is still the same two buffers

pub same-none : (p : Clauses) → SameBuffers p p
same-none p = record { pairs_name = refl; literals_name = refl; pairs_room = refl; literals_room = refl }

pub same_then : (p q r : Clauses) → SameBuffers p q → SameBuffers q r → SameBuffers p r
same_then p q r f g =
    record {
      pairs_name = g.pairs_name ∙ f.pairs_name;
      literals_name = g.literals_name ∙ f.literals_name;
      pairs_room = g.pairs_room ∙ f.pairs_room;
      literals_room = g.literals_room ∙ f.literals_room;
    }

-- ---- none, and one after the other

pub appends-none : (p : Clauses) → Appends [] p p
appends-none p =
    record {
      same = same-none p;
      holds = λ pairs₀ words₀ cs h. rw (append-nil cs) h;
      clauses = omega arith;
      literals = omega arith;
    }

pub appends_then : (xs ys : List (List ℕ)) (p q r : Clauses) → Appends xs p q → Appends ys q r → Appends (xs ++ ys) p r
appends_then xs ys p q r f g =
    record {
      same = same_then p q r f.same g.same;
      holds = λ p₀ w₀ cs h.
          rw (words_append simplified xs ys, ← append_assoc cs (words_of simplified xs) (words_of simplified ys))
          (g.holds p₀ w₀ (cs ++ words_of simplified xs) (f.holds p₀ w₀ cs h));
      clauses = rw (length-append xs ys) (omega (arith, f.clauses, g.clauses));
      literals = rw (length-append xs ys) (omega (arith, f.literals, g.literals));
    }

-- ---- lists whose clauses are the same, one by one

pub same-words : (xs ys : List (List ℕ)) → map simplified xs ≡ map simplified ys → words_of simplified xs ≡ words_of simplified ys
same-words [] [] e = refl
same-words [] (y ∷ ys) e = absurd (let n : ◌≡◌ {A = ℕ} 0 (suc (length (map simplified ys))) = ap length e in omega arith)
same-words (x ∷ xs) [] e = absurd (let n : ◌≡◌ {A = ℕ} (suc (length (map simplified xs))) 0 = ap length e in omega arith)
same-words (x ∷ xs) (y ∷ ys) e =
    let h : simplified x ≡ simplified y = cc in
    let t : map simplified xs ≡ map simplified ys = cc in
    rw (h, same-words xs ys t)

pub appends-same : (xs ys : List (List ℕ)) (p p' : Clauses) → map simplified xs ≡ map simplified ys → Appends xs p p' → Appends ys p p'
appends-same xs ys p p' e g =
    let n : length xs ≡ length ys = sym (length-map xs simplified) ∙ ap length e ∙ length-map ys simplified in
    record {
      same = g.same;
      holds = λ p₀ w₀ cs h. rw (← same-words xs ys e) (g.holds p₀ w₀ cs h);
      clauses = omega (arith, g.clauses);
      literals = omega (arith, g.literals);
    }

-- ---- one clause

pub appends-dropped : (ls : List ℕ) (p : Clauses) → simplified ls ≡ [] → Appends (ls ∷ []) p p
appends-dropped ls p e =
    record {
      same = same-none p;
      holds = λ p₀ w₀ cs h. rw (e, append-nil cs) h;
      clauses = omega arith;
      literals = omega arith;
    }

-- the counts with a clause of n words more
abbrev pub counted : ClauseCounts → ℕ → ClauseCounts
counted at n = record { clauses = at.clauses + 1; literals = at.literals + n }

module _ (p₀ w₀ : List ℕ) (cs : List Clause) (at : ClauseCounts) (pairs words : List ℕ) (h : Holding p₀ w₀ cs at pairs words) (c : Clause) where
  more-clauses : length (cs ++ c ∷ []) ≡ length cs + 1
  more-clauses = length-append cs (c ∷ [])

  more-literals : length (literals_of (cs ++ c ∷ [])) ≡ length (literals_of cs) + length c
  more-literals = rw (literals-more cs c) (length-append (literals_of cs) c)

  room-before : Room (cs ++ c ∷ []) p₀ w₀ → Room cs p₀ w₀
  room-before r = record { pairs_fit = omega (arith, r.pairs_fit, more-clauses); words_fit = omega (arith, r.words_fit, more-literals) }

  holding_full : (length pairs < 2 * at.clauses + 2) ⊎ (length words < at.literals + length c) → Holding p₀ w₀ (cs ++ c ∷ []) (counted at (length c)) pairs words
  holding_full f =
      record {
        clauses = omega (arith, h.clauses, more-clauses);
        literals = omega (arith, h.literals, more-literals);
        same_pairs = h.same_pairs;
        same_words = h.same_words;
        stored = λ r. ⊎_elim
            (λ (k : length pairs < 2 * at.clauses + 2). absurd (omega (arith, r.pairs_fit, h.clauses, h.same_pairs, more-clauses)))
            (λ (k : length words < at.literals + length c). absurd (omega (arith, r.words_fit, h.literals, h.same_words, more-literals)))
            f;
      }

  module _ (kp : 2 * at.clauses + 2 ≤ length pairs) (kw : at.literals + length c ≤ length words) where
    abbrev pair : List ℕ
    pair = at.literals ∷ length c ∷ []

    pairs-grown : pairs ≡ front p₀ (pairs_from 0 cs) → put pairs (2 * at.clauses) pair ≡ front p₀ (pairs_from 0 (cs ++ c ∷ []))
    pairs-grown e =
        let g : Grown p₀ (pairs_from 0 cs) pairs (2 * at.clauses) =
        record { at-is = omega (arith, h.clauses, pairs-length 0 cs); fits = omega (arith, h.same_pairs); same = h.same_pairs; is = e } in
        (grown-more p₀ (pairs_from 0 cs) pairs (2 * at.clauses) g pair kp).is
        ∙ ap (front p₀) (ap (λ (n : ℕ). pairs_from 0 cs ++ n ∷ length c ∷ []) h.literals ∙ sym (pairs-more cs c))

    words-grown : words ≡ front w₀ (literals_of cs) → put words at.literals c ≡ front w₀ (literals_of (cs ++ c ∷ []))
    words-grown e =
        let g : Grown w₀ (literals_of cs) words at.literals =
        record { at-is = h.literals; fits = omega (arith, h.same_words); same = h.same_words; is = e } in
        (grown-more w₀ (literals_of cs) words at.literals g c kw).is
        ∙ ap (front w₀) (sym (literals-more cs c))

    holding-stored : Holding p₀ w₀ (cs ++ c ∷ []) (counted at (length c)) (put pairs (2 * at.clauses) pair) (put words at.literals c)
    holding-stored =
        record {
          clauses = omega (arith, h.clauses, more-clauses);
          literals = omega (arith, h.literals, more-literals);
          same_pairs = put-length pairs (2 * at.clauses) pair kp ∙ h.same_pairs;
          same_words = put-length words at.literals c kw ∙ h.same_words;
          stored = λ r.
              let old : Stored cs p₀ w₀ pairs words = h.stored (room-before r) in
              record { pairs_are = pairs-grown old.pairs_are; words_are = words-grown old.words_are };
        }

module _ (ls : List ℕ) (c : Clause) (e : simplified ls ≡ c ∷ []) (short : length c ≤ 1024) (p p' : Clauses) (same : SameBuffers p p') (counts : p'.counts ≡ counted p.counts (length c)) where
  pub appends_full : Full p (length c) → p'.pairs.now ≡ p.pairs.now → p'.literals.now ≡ p.literals.now → Appends (ls ∷ []) p p'
  appends_full f pe we =
      record {
        same = same;
        holds = λ p₀ w₀ cs h. rw (e, counts, pe, we) (holding_full p₀ w₀ cs p.counts p.pairs.now p.literals.now h c f);
        clauses = rw counts (omega arith);
        literals = rw counts (omega arith);
      }

  pub appends-stored : 2 * p.counts.clauses + 2 ≤ length p.pairs.now → p.counts.literals + length c ≤ length p.literals.now
      → p'.pairs.now ≡ put p.pairs.now (2 * p.counts.clauses) (p.counts.literals ∷ length c ∷ []) → p'.literals.now ≡ put p.literals.now p.counts.literals c → Appends (ls ∷ []) p p'
  appends-stored kp kw pe we =
      record {
        same = same;
        holds = λ p₀ w₀ cs h. rw (e, counts, pe, we) (holding-stored p₀ w₀ cs p.counts p.pairs.now p.literals.now h c kp kw);
        clauses = rw counts (omega arith);
        literals = rw counts (omega arith);
      }

-- ---- loops: the lists of the first i items were appended

pub appends_item : {A : Type 0} (f : A → List (List ℕ)) (items : List A) (i : ℕ) (p q r : Clauses) (d : A) → i < length items
    → Appends (words_of f (take i items)) p q → Appends (f (get_or items i d)) q r → Appends (words_of f (take (i + 1) items)) p r
appends_item f items i p q r d h g k = rw (words-next f items i d h) (appends_then (words_of f (take i items)) (f (get_or items i d)) p q r g k)

module _ (lists : List (List ℕ)) (i : ℕ) (p q r : Clauses) where
  pub appends-next : (d : List ℕ) → i < length lists → Appends (take i lists) p q → Appends (get_or lists i d ∷ []) q r → Appends (take (i + 1) lists) p r
  appends-next d h g k = rw (take_next lists i d h) (appends_then (take i lists) (get_or lists i d ∷ []) p q r g k)

  pub appends-end : length lists ≤ i → Appends (take i lists) p q → Appends lists p q
  appends-end h g = rw (take_all i lists h) at g

-- ---- from the first clause on

abbrev pub empty : ClauseCounts
empty = record { clauses = 0; literals = 0 }

pub holding-none : (pairs words : List ℕ) → Holding pairs words [] empty pairs words
holding-none pairs words =
    record { clauses = refl; literals = refl; same_pairs = refl; same_words = refl; stored = λ r. record { pairs_are = refl; words_are = refl } }

pub appends-start : (lists : List (List ℕ)) (p p' : Clauses) → p.counts ≡ empty → Appends lists p p' → Holding p.pairs.now p.literals.now (words_of simplified lists) p'.counts p'.pairs.now p'.literals.now
appends-start lists p p' e g = g.holds p.pairs.now p.literals.now [] (rw e (holding-none p.pairs.now p.literals.now))

-- ---- what a caller has: the counts tell whether there is room, and then the clauses stand in the buffers

module _ (cs : List Clause) (pairs words : List ℕ) (at : ClauseCounts) (pairs' words' : List ℕ) (h : Holding pairs words cs at pairs' words') where
  pub holding-room : 2 * at.clauses ≤ length pairs → at.literals ≤ length words → Room cs pairs words
  holding-room k m = record { pairs_fit = omega (arith, h.clauses); words_fit = omega (arith, h.literals) }

  module _ (k : 2 * at.clauses ≤ length pairs) (m : at.literals ≤ length words) where
    pub holding-pairs : pairs' ≡ front pairs (pairs_from 0 cs)
    holding-pairs = (h.stored (holding-room k m)).pairs_are

    pub holding-words : words' ≡ front words (literals_of cs)
    holding-words = (h.stored (holding-room k m)).words_are

    pub holding-returned : returned at.clauses pairs' words' ≡ cs
    holding-returned = rw (h.clauses, holding-pairs, holding-words) (returned-back cs pairs words)

-- ---- the space that counting needs

pub space-less : (at : ClauseCounts) (m n : ℕ) → m ≤ n → Space at n → Space at m
space-less at m n h s = record { clauses = omega (arith, s.clauses); literals = omega (arith, s.literals) }

pub space-empty : (n : ℕ) → n ≤ 2 ^ 40 → Space empty n
space-empty n h = record { clauses = omega arith; literals = omega arith }

module _ (lists : List (List ℕ)) (p p' : Clauses) (g : Appends lists p p') where
  pub space-after : (n : ℕ) → Space p.counts (length lists + n) → Space p'.counts n
  space-after n s = record { clauses = omega (arith, s.clauses, g.clauses); literals = omega (arith, s.literals, g.literals) }

  -- what is left of space for n lists
  pub space-left : (m n : ℕ) → length lists + m ≤ n → Space p.counts n → Space p'.counts m
  space-left m n h s = space-after m (space-less p.counts (length lists + m) n h s)

-- in a loop over lists, one clause more
pub space-next : (lists : List (List ℕ)) (i : ℕ) (p p' : Clauses) → i < length lists → Appends (take i lists) p p' → Space p.counts (length lists) → Space p'.counts 1
space-next lists i p p' h g s = space-left (take i lists) p p' g 1 (length lists) (rw (length-take-le i lists (omega arith)) (omega arith)) s
