-- The names of inputs and latches as one list of slots, input k at k and latch k at I + k: an i or l is named once where no slot stands twice.
use Prim.Native.Nat.{ℕ, ◌+◌, ◌*◌, ◌≤◌, ◌<◌}
use mathlib.Core.Bool.{Bool, true, false, cond, not, ◌&&◌, ◌||◌, and_assoc, and-false}
use mathlib.Core.List.{List, [], ◌∷◌, ◌++◌, append-nil}
use mathlib.Core.Path.{◌≡◌, refl, sym, ap, ◌∙◌, subst}
use native.Mathlib.Omega.{arith}
use borrow.Author.Tests.{ne_eqb}
use lib.Dec.{eqb}
use lib.ListN.{length}
use Rattle.lists.specs.Sets.{member, distinct, holds, with_bit, Marked}
use Rattle.lists.specs.Tests.{Each}
use Rattle.lists.specs.Words.{words_of}
use Rattle.lists.proofs.BitSetLaws.{with_length}
use Rattle.lists.proofs.OnceLaws.{marked_no_bit, marked-bit, distinct_snoc, distinct_append_false}
use Rattle.lists.proofs.TestLaws.{each_append}
use Rattle.lists.proofs.WordLaws.{words_append}
use Rattle.lists.proofs.BoolLaws.{and_swap_left, eqb_shift}
use Rattle.witness_text.specs.declared.AagCounts.{AagCounts}
use Rattle.witness_text.specs.declared.Kind.{Kind}
use Rattle.witness_text.specs.Symbols.{Symbol, count_of}
use Rattle.witness_read.specs.Names.{is_input, is_latch, indices_of, named_once}
use Rattle.witness_read.specs.Inner.Passes.{Unmarked, MarksName}
use Rattle.witness_text.specs.declared.Kind.TheVariants as kind

-- the slot of a symbol; outputs, bads and constraints have none
abbrev pub slot_of : AagCounts → Kind → ℕ → List ℕ
slot_of n kind.Input k = k ∷ []
slot_of n kind.Latch k = (n.inputs + k) ∷ []
slot_of n kind.Output k = []
slot_of n kind.Bad k = []
slot_of n kind.Constraint k = []

abbrev pub slots_of : AagCounts → List Symbol → List ℕ
slots_of n ss = words_of (λ s. slot_of n s.kind s.index) ss

-- the index is below the count of its section
abbrev pub Indexed : AagCounts → Symbol → Type 0
Indexed n s = s.index < count_of n s.kind

module _ (n : AagCounts) where
  slots_snoc : (xs : List Symbol) (s : Symbol) → slots_of n (xs ++ s ∷ []) ≡ slots_of n xs ++ slot_of n s.kind s.index
  slots_snoc xs s =
      words_append (λ t. slot_of n t.kind t.index) xs (s ∷ []) ∙ ap (λ (l : List ℕ). slots_of n xs ++ l) (append-nil (slot_of n s.kind s.index))

  -- the slots below I are the inputs' indices
  module _ (x : ℕ) (h : x < n.inputs) where
    input-step : (k : Kind) (i : ℕ) (ss : List Symbol) → member x (slots_of n ss) ≡ member x (indices_of is_input ss)
        → member x (slot_of n k i ++ slots_of n ss) ≡ member x (cond (is_input k) (i ∷ indices_of is_input ss) (indices_of is_input ss))
    input-step kind.Input i ss e = ap (λ (b : Bool). eqb x i || b) e
    input-step kind.Latch i ss e = rw (ne_eqb x (n.inputs + i) (λ q. omega arith)) e
    input-step kind.Output i ss e = e
    input-step kind.Bad i ss e = e
    input-step kind.Constraint i ss e = e

    input_slots : (ss : List Symbol) → member x (slots_of n ss) ≡ member x (indices_of is_input ss)
    input_slots [] = refl
    input_slots (s ∷ ss) = input-step s.kind s.index ss (input_slots ss)

  -- the others are the latches', moved up by I
  module _ (x : ℕ) where
    latch_step : (k : Kind) (i : ℕ) (ss : List Symbol) → i < count_of n k → member (n.inputs + x) (slots_of n ss) ≡ member x (indices_of is_latch ss)
        → member (n.inputs + x) (slot_of n k i ++ slots_of n ss) ≡ member x (cond (is_latch k) (i ∷ indices_of is_latch ss) (indices_of is_latch ss))
    latch_step kind.Input i ss h e = rw (ne_eqb (n.inputs + x) i (λ q. omega arith)) e
    latch_step kind.Latch i ss h e = rw (eqb_shift n.inputs x i, e)
    latch_step kind.Output i ss h e = e
    latch_step kind.Bad i ss h e = e
    latch_step kind.Constraint i ss h e = e

    latch_slots : (ss : List Symbol) → Each (Indexed n) ss → member (n.inputs + x) (slots_of n ss) ≡ member x (indices_of is_latch ss)
    latch_slots [] b = refl
    latch_slots (s ∷ ss) b = latch_step s.kind s.index ss b.0 (latch_slots ss b.1)

  once_step : (k : Kind) (i : ℕ) (ss : List Symbol) → Each (Indexed n) ss → i < count_of n k → distinct (slots_of n ss) ≡ named_once ss
      → distinct (slot_of n k i ++ slots_of n ss)
      ≡ (distinct (cond (is_input k) (i ∷ indices_of is_input ss) (indices_of is_input ss)) && distinct (cond (is_latch k) (i ∷ indices_of is_latch ss) (indices_of is_latch ss)))
  once_step kind.Input i ss b h e =
      rw (input_slots i h ss, e) (sym (and_assoc (not (member i (indices_of is_input ss))) (distinct (indices_of is_input ss)) (distinct (indices_of is_latch ss))))
  once_step kind.Latch i ss b h e =
      rw (latch_slots i ss b, e) (and_swap_left (not (member i (indices_of is_latch ss))) (distinct (indices_of is_input ss)) (distinct (indices_of is_latch ss)))
  once_step kind.Output i ss b h e = e
  once_step kind.Bad i ss b h e = e
  once_step kind.Constraint i ss b h e = e

  -- no slot stands twice where 9 finds no second name
  slots_once : (ss : List Symbol) → Each (Indexed n) ss → distinct (slots_of n ss) ≡ named_once ss
  slots_once [] b = refl
  slots_once (s ∷ ss) b = once_step s.kind s.index ss b.1 b.0 (slots_once ss b.1)

-- an i or l that the first part names twice is named twice
pub indices_append : (is : Kind → Bool) (xs ys : List Symbol) → indices_of is (xs ++ ys) ≡ indices_of is xs ++ indices_of is ys
indices_append is [] ys = refl
indices_append is (x ∷ xs) ys = go (is x.kind) (indices_append is xs ys)
  where
    go : (b : Bool) → indices_of is (xs ++ ys) ≡ indices_of is xs ++ indices_of is ys
        → cond b (x.index ∷ indices_of is (xs ++ ys)) (indices_of is (xs ++ ys)) ≡ cond b (x.index ∷ indices_of is xs) (indices_of is xs) ++ indices_of is ys
    go true e = ap (λ (l : List ℕ). x.index ∷ l) e
    go false e = e

pub twice_append : (xs ys : List Symbol) → named_once xs ≡ false → named_once (xs ++ ys) ≡ false
twice_append xs ys h = rw (indices_append is_input xs ys, indices_append is_latch xs ys) (go (distinct (indices_of is_input xs)) refl h)
  where
    go : (b : Bool) → distinct (indices_of is_input xs) ≡ b → (b && distinct (indices_of is_latch xs)) ≡ false
        → (distinct (indices_of is_input xs ++ indices_of is_input ys) && distinct (indices_of is_latch xs ++ indices_of is_latch ys)) ≡ false
    go true e h =
        rw (distinct_append_false (indices_of is_latch xs) (indices_of is_latch ys) h) (and-false (distinct (indices_of is_input xs ++ indices_of is_input ys)))
    go false e h = rw (distinct_append_false (indices_of is_input xs) (indices_of is_input ys) e)

-- ---- marks

-- w marks the slots of the symbols that were named, each of them once
pub record Named (n : AagCounts) (w : List ℕ) (ss : List Symbol) : Type 0 where
  pub bound : Each (Indexed n) ss
  pub room : n.inputs + n.latches ≤ 64 * length w
  pub marked : Marked (n.inputs + n.latches) (holds w) (slots_of n ss)
  pub once : distinct (slots_of n ss) ≡ true

pub named_none : (n : AagCounts) (w : List ℕ) → Unmarked n w → Named n w []
named_none n w u =
    record {
      bound = tt;
      room = u.room;
      marked = subst (λ (x : List ℕ). Marked (n.inputs + n.latches) (holds x) []) (sym u.clear) (marked_no_bit (n.inputs + n.latches) (length w));
      once = refl;
    }

pub named_once_lem : (n : AagCounts) (w : List ℕ) (ss : List Symbol) → Named n w ss → named_once ss ≡ true
named_once_lem n w ss k = sym (slots_once n ss k.bound) ∙ k.once

-- w' marks these slots, and r says whether none of them stands twice
record Adds (n : AagCounts) (w w' : List ℕ) (r : Bool) (slots : List ℕ) : Type 0 where
  marks : Marked (n.inputs + n.latches) (holds w') slots
  says : distinct slots ≡ r
  same : length w' ≡ length w

module _ (n : AagCounts) (w : List ℕ) (ss : List Symbol) (k : Named n w ss) (w' : List ℕ) (r : Bool) where
  adds-slot : (x : ℕ) → x < n.inputs + n.latches → r ≡ not (holds w x) → w' ≡ with_bit w x → Adds n w w' r (slots_of n ss ++ x ∷ [])
  adds-slot x h e f =
      record {
        marks = rw f (marked-bit (n.inputs + n.latches) w (slots_of n ss) x k.room k.marked);
        says = distinct_snoc (slots_of n ss) x ∙ rw (k.once, ← k.marked.says x h) (sym e);
        same = rw f (with_length w x);
      }

  adds_none : r ≡ true → w' ≡ w → Adds n w w' r (slots_of n ss ++ [])
  adds_none e f = rw append-nil (record { marks = rw f k.marked; says = k.once ∙ sym e; same = ap length f })

  adds-name : (kd : Kind) (i : ℕ) → i < count_of n kd → MarksName n kd i w w' r → Adds n w w' r (slots_of n ss ++ slot_of n kd i)
  adds-name kind.Input i h m = adds-slot i (omega arith) m.0 m.1
  adds-name kind.Latch i h m = adds-slot (n.inputs + i) (omega arith) m.0 m.1
  adds-name kind.Output i h m = adds_none m.0 m.1
  adds-name kind.Bad i h m = adds_none m.0 m.1
  adds-name kind.Constraint i h m = adds_none m.0 m.1

  module _ (s : Symbol) (h : Indexed n s) (m : MarksName n s.kind s.index w w' r) where
    adds : Adds n w w' r (slots_of n (ss ++ s ∷ []))
    adds = rw (slots_snoc n ss s) (adds-name s.kind s.index h m)

    bounds : Each (Indexed n) (ss ++ s ∷ [])
    bounds = each_append (Indexed n) ss (s ∷ []) k.bound (h, tt)

    pub named_more : r ≡ true → Named n w' (ss ++ s ∷ [])
    named_more e = record { bound = bounds; room = omega (arith, k.room, adds.same); marked = adds.marks; once = adds.says ∙ e }

    pub named_again : r ≡ false → named_once (ss ++ s ∷ []) ≡ false
    named_again e = sym (slots_once n (ss ++ s ∷ []) bounds) ∙ adds.says ∙ e

-- ---- one name

module _ (n : AagCounts) (kd : Kind) (i : ℕ) (w : List ℕ) where
  pub marks-input : kd ≡ kind.Input → (w' : List ℕ) (r : Bool) → (r ≡ not (holds w i)) × (w' ≡ with_bit w i) → MarksName n kd i w w' r
  marks-input e w' r m = rw e m

  pub marks_latch : kd ≡ kind.Latch → (w' : List ℕ) (r : Bool) → (r ≡ not (holds w (n.inputs + i))) × (w' ≡ with_bit w (n.inputs + i)) → MarksName n kd i w w' r
  marks_latch e w' r m = rw e m

  -- the slot of a latch is a word
  pub slot-fits : kd ≡ kind.Latch → n.inputs + n.latches ≤ 2000000 → i < count_of n kd → n.inputs + i < 18446744073709551616
  slot-fits e h b = let l : i < n.latches = rw e at b in omega arith

  pub marks-output : kd ≡ kind.Output → MarksName n kd i w w true
  marks-output e = rw e (refl, refl)

  pub marks_bad : kd ≡ kind.Bad → MarksName n kd i w w true
  marks_bad e = rw e (refl, refl)

  pub marks_constraint : kd ≡ kind.Constraint → MarksName n kd i w w true
  marks_constraint e = rw e (refl, refl)
