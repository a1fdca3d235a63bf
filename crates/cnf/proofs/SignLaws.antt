-- Laws of `opposite`, `both_signs`, `cnf_word` and `without_false`.
use Prim.Native.Nat.{ℕ, ◌+◌, ◌-◌, ◌*◌, ◌/◌, ◌%◌, ◌≤◌, ◌<◌}
use mathlib.Core.Path.{◌≡◌, refl, sym, ap, ◌∙◌}
use mathlib.Core.Bool.{Bool, true, false, not, ◌||◌, ◌&&◌, cond, or_self_left, or-false}
use mathlib.Core.List.{List, [], ◌∷◌, ◌++◌, map}
use native.Mathlib.Omega.{arith}
use lib.Dec.{eqb}
use lib.ListN.{length}
use borrow.Author.Tests.{eqb-true, eqb-false, eq-eqb, ne_eqb}
use Rattle.lists.specs.Bits.{odd, bit}
use Rattle.lists.specs.Tests.{any, Each}
use Rattle.lists.specs.Sets.{member, rising, set_of}
use Rattle.lists.proofs.TestLaws.{any_cong, each-so, any_or}
use Rattle.lists.proofs.DistinctLaws.{member-first, member-rest}
use Rattle.lists.proofs.RisingLaws.{rising-tail, rising-below, above-none}
use Rattle.lists.proofs.SetLaws.{any-set, member-set}
use Rattle.lists.proofs.AnyLaws.{member-any}
use Rattle.lists.proofs.BoolLaws.{eqb_same}
use Rattle.cnf.specs.Simplified.{opposite, cnf_word, without_false, both_signs}

pub odd_is : (l : ℕ) → odd l ≡ true → l % 2 ≡ 1
odd_is l e = eqb-true (l % 2) 1 e

pub even_is : (l : ℕ) → odd l ≡ false → l % 2 ≡ 0
even_is l e = let n : l % 2 ≡ 1 → ⊥ = eqb-false (l % 2) 1 e in omega arith

pub is_odd : (l : ℕ) → l % 2 ≡ 1 → odd l ≡ true
is_odd l e = eq-eqb (l % 2) 1 e

pub is_even : (l : ℕ) → l % 2 ≡ 0 → odd l ≡ false
is_even l e = ne_eqb (l % 2) 1 (omega arith)

pub opposite-is : (l : ℕ) → opposite l ≡ l + 1 - 2 * (l % 2)
opposite-is l = go (odd l) refl
  where
    go : (b : Bool) → odd l ≡ b → cond b (l - 1) (l + 1) ≡ l + 1 - 2 * (l % 2)
    go true e = omega (arith, odd_is l e)
    go false e = omega (arith, even_is l e)

-- the word as a number: the variable's place moves down by one, and the sign turns round
pub word-is : (l : ℕ) → cnf_word l ≡ 2 * (l / 2 - 1) + (1 - l % 2)
unfolding cnf_word
word-is l = go (odd l) refl
  where
    go : (b : Bool) → odd l ≡ b → 2 * (l / 2 - 1) + bit (not b) ≡ 2 * (l / 2 - 1) + (1 - l % 2)
    go true e = let n : 1 - l % 2 ≡ 0 = omega (arith, odd_is l e) in rw n
    go false e = let n : 1 - l % 2 ≡ 1 = omega (arith, even_is l e) in rw n

opposite_swap : (x y : ℕ) → eqb (opposite x) y ≡ eqb (opposite y) x
opposite_swap x y = eqb_same (opposite x) y (opposite y) x (λ q. omega (arith, opposite-is x, opposite-is y)) (λ q. omega (arith, opposite-is x, opposite-is y))

opposite-other : (x : ℕ) → eqb (opposite x) x ≡ false
opposite-other x = ne_eqb (opposite x) x (λ q. omega (arith, opposite-is x))

-- ---- both signs: some element whose opposite is an element

pub both-any : (l : List ℕ) → both_signs l ≡ any (λ x. member (opposite x) l) l
both-any [] = refl
both-any (x ∷ l) = sym (
    rw (opposite-other x)
    (ap (λ (b : Bool). member (opposite x) l || b)
    (any_or (λ y. eqb (opposite y) x) (λ y. member (opposite y) l) l
    ∙ ap (λ (b : Bool). b || any (λ y. member (opposite y) l) l)
    (any_cong (λ y. eqb (opposite y) x) (eqb (opposite x)) (λ y. opposite_swap y x) l ∙ sym (member-any (opposite x) l)))
    ∙ or_self_left (member (opposite x) l) (any (λ y. member (opposite y) l) l)
    ∙ ap (λ (b : Bool). member (opposite x) l || b) (sym (both-any l))))

pub both-set : (l : List ℕ) → both_signs (set_of l) ≡ both_signs l
both-set l =
    both-any (set_of l)
    ∙ any-set (λ x. member (opposite x) (set_of l)) l
    ∙ any_cong (λ x. member (opposite x) (set_of l)) (λ x. member (opposite x) l) (λ x. member-set (opposite x) l) l
    ∙ sym (both-any l)

-- in a strictly rising list it is enough to compare neighbours
abbrev pub neighbours : ℕ → List ℕ → Bool
neighbours p [] = false
neighbours p (y ∷ l) = eqb (y / 2) (p / 2) || neighbours y l

abbrev pub adjacent : List ℕ → Bool
adjacent [] = false
adjacent (x ∷ l) = neighbours x l

opposite-next : (x y : ℕ) → x < y → eqb (opposite x) y ≡ eqb (y / 2) (x / 2)
opposite-next x y h = eqb_same (opposite x) y (y / 2) (x / 2) (λ q. omega (arith, opposite-is x)) (λ q. omega (arith, opposite-is x))

pub both_adjacent : (l : List ℕ) → rising l ≡ true → both_signs l ≡ adjacent l
both_adjacent [] r = refl
both_adjacent (x ∷ []) r = refl
both_adjacent (x ∷ y ∷ l) r =
    let h : x < y = (rising-below x (y ∷ l) r).0 in
    let rest : rising (y ∷ l) ≡ true = rising-tail x (y ∷ l) r in
    let none : member (opposite x) l ≡ false =
    above-none (opposite x) l (each-so (λ z. y < z) (λ z. opposite x < z) (λ z b. omega (arith, opposite-is x)) l (rising-below y l rest)) in
    rw (none, opposite-next x y h, both_adjacent (y ∷ l) rest, or-false (eqb (y / 2) (x / 2)))

-- ---- literals and words

-- the literals are no constants
abbrev pub Proper : List ℕ → Type 0
Proper ls = Each (λ l. 2 ≤ l) ls

pub proper_without : (ls : List ℕ) → member 1 ls ≡ false → Proper (without_false ls)
proper_without [] h = tt
proper_without (l ∷ ls) h = go (eqb l 0) refl (proper_without ls (member-rest 1 l ls h))
  where
    go : (b : Bool) → eqb l 0 ≡ b → Proper (without_false ls) → Proper (cond b (without_false ls) (l ∷ without_false ls))
    go true e p = p
    go false e p = (let n : l ≡ 0 → ⊥ = eqb-false l 0 e in let k : 1 ≡ l → ⊥ = member-first 1 l ls h in omega arith, p)

pub any_without : (p : ℕ → Bool) (ls : List ℕ) → any p (without_false ls) ≡ any (λ l. not (eqb l 0) && p l) ls
any_without p [] = refl
any_without p (l ∷ ls) = go (eqb l 0) (any_without p ls)
  where
    go : (b : Bool) → any p (without_false ls) ≡ any (λ l. not (eqb l 0) && p l) ls
        → any p (cond b (without_false ls) (l ∷ without_false ls)) ≡ ((not b && p l) || any (λ l. not (eqb l 0) && p l) ls)
    go true e = e
    go false e = rw e

pub each_without : (P : ℕ → Type 0) (ls : List ℕ) → Each P ls → Each P (without_false ls)
each_without P [] e = tt
each_without P (l ∷ ls) e = go (eqb l 0) (each_without P ls e.1)
  where
    go : (b : Bool) → Each P (without_false ls) → Each P (cond b (without_false ls) (l ∷ without_false ls))
    go true k = k
    go false k = (e.0, k)

pub without_append : (xs ys : List ℕ) → without_false (xs ++ ys) ≡ without_false xs ++ without_false ys
without_append [] ys = refl
without_append (x ∷ xs) ys = rw (without_append xs ys) (go (eqb x 0))
  where
    go : (b : Bool) → cond b (without_false xs ++ without_false ys) (x ∷ (without_false xs ++ without_false ys)) ≡ cond b (without_false xs) (x ∷ without_false xs) ++ without_false ys
    go true = refl
    go false = refl

pub length_without : (ls : List ℕ) → length (without_false ls) ≤ length ls
length_without [] = omega arith
length_without (l ∷ ls) = go (eqb l 0) (length_without ls)
  where
    go : (b : Bool) → length (without_false ls) ≤ length ls → length (cond b (without_false ls) (l ∷ without_false ls)) ≤ length (l ∷ ls)
    go true k = omega arith
    go false k = omega arith

-- no false constant stands for the other sign of anything where there is no true one
pub both_without : (ls : List ℕ) → member 1 ls ≡ false → both_signs (without_false ls) ≡ both_signs ls
both_without [] h = refl
both_without (l ∷ ls) h = go (eqb l 0) refl (both_without ls rest)
  where
    rest : member 1 ls ≡ false
    rest = member-rest 1 l ls h

    member_without : (z : ℕ) → (z ≡ 0 → ⊥) → member z (without_false ls) ≡ member z ls
    member_without z n =
        member-any z (without_false ls) ∙ any_without (eqb z) ls
        ∙ any_cong (λ x. not (eqb x 0) && eqb z x) (eqb z) (λ x. same x (eqb z x) refl) ls
        ∙ sym (member-any z ls)
      where
        same : (x : ℕ) (b : Bool) → eqb z x ≡ b → (not (eqb x 0) && eqb z x) ≡ eqb z x
        same x true e = let q : z ≡ x = eqb-true z x e in let k : eqb x 0 ≡ false = ne_eqb x 0 (omega arith) in rw k
        same x false e = rw e (go (eqb x 0))
          where
            go : (b : Bool) → (not b && false) ≡ false
            go true = refl
            go false = refl

    go : (b : Bool) → eqb l 0 ≡ b → both_signs (without_false ls) ≡ both_signs ls
        → both_signs (cond b (without_false ls) (l ∷ without_false ls)) ≡ (member (opposite l) ls || both_signs ls)
    go true e ih =
        let z : l ≡ 0 = eqb-true l 0 e in
        let one : opposite l ≡ 1 = omega (arith, opposite-is l) in
        let none : member (opposite l) ls ≡ false = ap (λ (n : ℕ). member n ls) one ∙ rest in
        rw none ih
    go false e ih =
        let n : l ≡ 0 → ⊥ = eqb-false l 0 e in
        let k : 1 ≡ l → ⊥ = member-first 1 l ls h in
        rw (member_without (opposite l) (λ q. omega (arith, opposite-is l)), ih)

-- as the code computes it
pub word_number : (l : ℕ) → 2 ≤ l → cnf_word l ≡ l - 1 - 2 * (l % 2)
word_number l h = omega (arith, word-is l)

-- back from the word to the literal
word_back : (l : ℕ) → 2 ≤ l → l ≡ cnf_word l + 3 - 2 * (cnf_word l % 2)
word_back l h = let e = word_number l h in omega arith

word_turned : (l : ℕ) → 2 ≤ l → opposite (cnf_word l) ≡ cnf_word (opposite l)
word_turned l h = go (odd l) refl
  where
    go : (b : Bool) → odd l ≡ b → opposite (cnf_word l) ≡ cnf_word (opposite l)
    go true e =
        let r : l % 2 ≡ 1 = odd_is l e in
        let o : opposite l ≡ l - 1 = omega (arith, opposite-is l) in
        let w : cnf_word l ≡ l - 3 = omega (arith, word_number l h) in
        let a : opposite (cnf_word l) ≡ l - 2 = omega (arith, opposite-is (cnf_word l)) in
        let b : cnf_word (opposite l) ≡ l - 2 = omega (arith, word_number (opposite l) (omega arith)) in
        a ∙ sym b
    go false e =
        let r : l % 2 ≡ 0 = even_is l e in
        let o : opposite l ≡ l + 1 = omega (arith, opposite-is l) in
        let w : cnf_word l ≡ l - 1 = omega (arith, word_number l h) in
        let a : opposite (cnf_word l) ≡ l - 2 = omega (arith, opposite-is (cnf_word l)) in
        let b : cnf_word (opposite l) ≡ l - 2 = omega (arith, word_number (opposite l) (omega arith)) in
        a ∙ sym b

word-opposite : (x y : ℕ) → 2 ≤ x → 2 ≤ y → eqb (opposite (cnf_word x)) (cnf_word y) ≡ eqb (opposite x) y
word-opposite x y h k = eqb_same (opposite (cnf_word x)) (cnf_word y) (opposite x) y there back
  where
    there : opposite (cnf_word x) ≡ cnf_word y → opposite x ≡ y
    there q =
        word_back (opposite x) (omega (arith, opposite-is x))
        ∙ ap (λ (w : ℕ). w + 3 - 2 * (w % 2)) (sym (word_turned x h) ∙ q)
        ∙ sym (word_back y k)

    back : opposite x ≡ y → opposite (cnf_word x) ≡ cnf_word y
    back q = word_turned x h ∙ ap cnf_word q

-- words have both signs of a variable where their literals have
pub both_words : (ls : List ℕ) → Proper ls → both_signs (map cnf_word ls) ≡ both_signs ls
both_words [] p = refl
both_words (l ∷ ls) p = rw (both_words ls p.1, heads ls p.1)
  where
    heads : (m : List ℕ) → Proper m → member (opposite (cnf_word l)) (map cnf_word m) ≡ member (opposite l) m
    heads [] q = refl
    heads (y ∷ m) q = rw (word-opposite l y p.0 q.0, heads m q.1)
