-- Laws of `Marking`: one more definition, leaf or gate, is checked and marked.
use Prim.Native.Nat.{ℕ, ◌+◌, ◌*◌, ◌/◌, ◌<◌, ◌≤◌}
use mathlib.Core.Bool.{Bool, true, false, not, cond, ◌&&◌}
use mathlib.Core.List.{List, [], ◌∷◌, ◌++◌, map, map-append, append_assoc, append-nil}
use mathlib.Core.Path.{◌≡◌, refl, sym, ap, ◌∙◌}
use native.Mathlib.Omega.{arith}
use lib.ListN.{length, get_or, take, drop, take-append-drop}
use lib.Seq.{take_all, take-take}
use Rattle.lists.proofs.RestLaws.{take_next}
use Rattle.lists.specs.Parts.{zeros}
use Rattle.lists.specs.Tests.{all, every}
use Rattle.lists.specs.Words.{triples_of}
use Rattle.lists.proofs.BoolLaws.{true-false}
use Rattle.lists.proofs.BitSetLaws.{with_length}
use Rattle.lists.specs.Sets.{member, distinct, holds, with_bit, Marked}
use Rattle.lists.proofs.OnceLaws.{marked_no_bit, marked-bit, distinct_snoc}
use Rattle.lists.proofs.TestLaws.{all_append}
use Rattle.lists.proofs.WordLaws.{triples_count, triples_at}
use Rattle.lists.proofs.ZeroLaws.{zeros-length}
use Rattle.aiger.specs.declared.Gate.{Gate}
use Rattle.aiger.specs.Gates.{variable, output_of, gate_from}
use Rattle.aiger.specs.Defined.{defining, ordered, definitions, defined}
use Rattle.aiger.proofs.DefinedLaws.{defines}
use Rattle.model.specs.Inner.Marking.{Marking, AddsLeaves, AddsGate, AddsGates}

-- ---- one more definition

-- what a further definition l asks for, where the variables of `defs` are taken
abbrev fresh : ℕ → List ℕ → ℕ → Bool
fresh most defs l = defining most l && not (member (variable l) (map variable defs))

-- each of some definitions is a good one, and their variables are different
abbrev sound : ℕ → List ℕ → Bool
sound most defs = all (defining most) defs && distinct (map variable defs)

sound_snoc : (most : ℕ) (defs : List ℕ) (l : ℕ) → sound most (defs ++ l ∷ []) ≡ (sound most defs && fresh most defs l)
sound_snoc most defs l =
    rw (all_append (defining most) defs (l ∷ []), map-append variable defs (l ∷ []), distinct_snoc (map variable defs) (variable l))
    (go (all (defining most) defs) (defining most l) (distinct (map variable defs)) (not (member (variable l) (map variable defs))))
  where
    go : (a b c d : Bool) → ((a && (b && true)) && (c && d)) ≡ ((a && c) && (b && d))
    go true true c d = refl
    go true false true d = refl
    go true false false d = refl
    go false b c d = refl

defined-is : (most : ℕ) (leaves : List ℕ) (gates : List Gate) → defined most leaves gates ≡ (sound most (definitions leaves gates) && all ordered gates)
unfolding defined every
defined-is most leaves gates = go (all (defining most) (definitions leaves gates)) (distinct (map variable (definitions leaves gates))) (all ordered gates)
  where
    go : (a b c : Bool) → (a && (b && (c && true))) ≡ ((a && b) && c)
    go true true true = refl
    go true true false = refl
    go true false c = refl
    go false b c = refl

defined_leaf : (most : ℕ) (leaves : List ℕ) (l : ℕ) → defined most (leaves ++ l ∷ []) [] ≡ (defined most leaves [] && fresh most (definitions leaves []) l)
defined_leaf most leaves l =
    rw (defined-is most (leaves ++ l ∷ []) [], defined-is most leaves [], append-nil (leaves ++ l ∷ []), append-nil leaves, sound_snoc most leaves l)
    (go (sound most leaves) (fresh most leaves l))
  where
    go : (a b : Bool) → ((a && b) && true) ≡ ((a && true) && b)
    go true true = refl
    go true false = refl
    go false b = refl

outputs_snoc : (leaves : List ℕ) (gates : List Gate) (g : Gate) → definitions leaves (gates ++ g ∷ []) ≡ definitions leaves gates ++ g.output ∷ []
outputs_snoc leaves gates g = rw (map-append output_of gates (g ∷ [])) (sym (append_assoc leaves (map output_of gates) (g.output ∷ [])))

defined_gate : (most : ℕ) (leaves : List ℕ) (gates : List Gate) (g : Gate)
    → defined most leaves (gates ++ g ∷ []) ≡ (defined most leaves gates && (ordered g && fresh most (definitions leaves gates) g.output))
defined_gate most leaves gates g =
    rw (defined-is most leaves (gates ++ g ∷ []), defined-is most leaves gates, outputs_snoc leaves gates g, sound_snoc most (definitions leaves gates) g.output, all_append ordered gates (g ∷ []))
    (go (sound most (definitions leaves gates)) (fresh most (definitions leaves gates) g.output) (all ordered gates) (ordered g))
  where
    go : (a b c d : Bool) → ((a && b) && (c && (d && true))) ≡ ((a && c) && (d && b))
    go true true true true = refl
    go true true true false = refl
    go true true false d = refl
    go true false true true = refl
    go true false true false = refl
    go true false false d = refl
    go false b c d = refl

-- ---- the marks say what is fresh

defining-low : (most l : ℕ) → defining most l ≡ true → variable l < most + 1
defining-low most l h = let d = defines most l h in omega (arith, d.low)

fresh_is : (most : ℕ) (w defs : List ℕ) (l : ℕ) → Marked (most + 1) (holds w) (map variable defs)
    → (defining most l && not (holds w (variable l))) ≡ fresh most defs l
fresh_is most w defs l m = go (defining most l) refl
  where
    go : (b : Bool) → defining most l ≡ b → (b && not (holds w (variable l))) ≡ (b && not (member (variable l) (map variable defs)))
    go true e = ap not (m.says (variable l) (defining-low most l e))
    go false e = refl

-- one more definition l, where o is what else is asked of it
module _ (most : ℕ) (w leaves : List ℕ) (gates : List Gate) (m : Marking most w leaves gates true) (leaves' : List ℕ) (gates' : List Gate) (l : ℕ) (o : Bool)
    (e : definitions leaves' gates' ≡ definitions leaves gates ++ l ∷ [])
    (d : defined most leaves' gates' ≡ (defined most leaves gates && (o && fresh most (definitions leaves gates) l))) where
  abbrev marked : Marked (most + 1) (holds w) (map variable (definitions leaves gates))
  marked = m.marks refl

  step-says : (r : Bool) → r ≡ (o && (defining most l && not (holds w (variable l)))) → r ≡ defined most leaves' gates'
  step-says r q = q ∙ rw (fresh_is most w (definitions leaves gates) l marked, d, ← m.says) refl

  marked_step : Marked (most + 1) (holds (with_bit w (variable l))) (map variable (definitions leaves' gates'))
  marked_step =
      rw (e, map-append variable (definitions leaves gates) (l ∷ []))
      (marked-bit (most + 1) w (map variable (definitions leaves gates)) (variable l) (omega (arith, m.room)) marked)

  step-more : (r : Bool) (w' : List ℕ) → r ≡ (o && (defining most l && not (holds w (variable l)))) → (r ≡ true → w' ≡ with_bit w (variable l)) → length w' ≡ length w
      → Marking most w' leaves' gates' r
  step-more r w' q k z = record { says = step-says r q; marks = λ t. rw (k t) marked_step; room = rw z m.room }

-- the marks after a literal was tested
module _ (w w' : List ℕ) (x : ℕ) where
  tested_length : (b : Bool) → w' ≡ cond b (with_bit w x) w → length w' ≡ length w
  tested_length true k = ap length k ∙ with_length w x
  tested_length false k = ap length k

  tested_set : (b c r : Bool) → r ≡ (b && c) → w' ≡ cond b (with_bit w x) w → r ≡ true → w' ≡ with_bit w x
  tested_set true c r q k t = k
  tested_set false c r q k t = true-false t q

module _ (most : ℕ) (w leaves : List ℕ) where
  -- one more input or latch
  pub marking_leaf : Marking most w leaves [] true → (l : ℕ) (r : Bool) (w' : List ℕ) → r ≡ (defining most l && not (holds w (variable l)))
      → w' ≡ cond (defining most l) (with_bit w (variable l)) w → Marking most w' (leaves ++ l ∷ []) [] r
  marking_leaf m l r w' q k =
      step-more most w leaves [] m (leaves ++ l ∷ []) [] l true (rw (append-nil (leaves ++ l ∷ []), append-nil leaves) refl) (defined_leaf most leaves l) r w' q
      (tested_set w w' (variable l) (defining most l) (not (holds w (variable l))) r q k)
      (tested_length w w' (variable l) (defining most l) k)

  module _ (gates : List Gate) where
    -- one more gate, whose operands are smaller
    pub marking_gate : Marking most w leaves gates true → (g : Gate) → ordered g ≡ true → (r : Bool) (w' : List ℕ) → r ≡ (defining most g.output && not (holds w (variable g.output)))
        → w' ≡ cond (defining most g.output) (with_bit w (variable g.output)) w → Marking most w' leaves (gates ++ g ∷ []) r
    marking_gate m g o r w' q k =
        step-more most w leaves gates m leaves (gates ++ g ∷ []) g.output (ordered g) (outputs_snoc leaves gates g) (defined_gate most leaves gates g) r w'
        (q ∙ rw o refl)
        (tested_set w w' (variable g.output) (defining most g.output) (not (holds w (variable g.output))) r q k)
        (tested_length w w' (variable g.output) (defining most g.output) k)

    -- one whose operands are not
    pub marking_disordered : Marking most w leaves gates true → (g : Gate) → ordered g ≡ false → Marking most w leaves (gates ++ g ∷ []) false
    marking_disordered m g o =
        step-more most w leaves gates m leaves (gates ++ g ∷ []) g.output (ordered g) (outputs_snoc leaves gates g) (defined_gate most leaves gates g) false w
        (rw o refl) (λ t. true-false t refl) refl

    -- what failed once fails whatever follows
    pub marking_gate_lost : Marking most w leaves gates false → (g : Gate) → Marking most w leaves (gates ++ g ∷ []) false
    marking_gate_lost m g =
        record { says = rw (defined_gate most leaves gates g, ← m.says) refl; marks = λ t. true-false t refl; room = m.room }

  pub marking_leaf_lost : Marking most w leaves [] false → (l : ℕ) → Marking most w (leaves ++ l ∷ []) [] false
  marking_leaf_lost m l = record { says = rw (defined_leaf most leaves l, ← m.says) refl; marks = λ t. true-false t refl; room = m.room }

-- nothing is defined yet, and no bit is set
pub marking-none : (most n : ℕ) → most < n → Marking most (zeros n) [] [] true
unfolding defined every
marking-none most n h = record { says = refl; marks = λ t. marked_no_bit (most + 1) n; room = rw (zeros-length n) (omega arith) }

-- ---- the functions' promises

module _ (most : ℕ) (w : List ℕ) where
  leaves_lost : (leaves ls : List ℕ) → Marking most w leaves [] false → Marking most w (leaves ++ ls) [] false
  leaves_lost leaves [] m = rw (append-nil leaves) m
  leaves_lost leaves (l ∷ ls) m = rw (append_assoc leaves (l ∷ []) ls) at (leaves_lost (leaves ++ l ∷ []) ls (marking_leaf_lost most w leaves m l))

  pub gates_lost : (leaves : List ℕ) (gates gs : List Gate) → Marking most w leaves gates false → Marking most w leaves (gates ++ gs) false
  gates_lost leaves gates [] m = rw (append-nil gates) m
  gates_lost leaves gates (g ∷ gs) m = rw (append_assoc gates (g ∷ []) gs) at (gates_lost leaves (gates ++ g ∷ []) gs (marking_gate_lost most w leaves gates m g))

module _ (most : ℕ) (w : List ℕ) where
  -- a loop over literals
  pub adds-start : AddsLeaves most w [] w true
  adds-start leaves m = rw (append-nil leaves) m

  module _ (ls : List ℕ) (i : ℕ) (w₁ : List ℕ) (a : AddsLeaves most w (take i ls) w₁ true) (h : i < length ls) (r : Bool) (w₂ : List ℕ)
      (q : r ≡ (defining most (get_or ls i 0) && not (holds w₁ (variable (get_or ls i 0))))) (k : w₂ ≡ cond (defining most (get_or ls i 0)) (with_bit w₁ (variable (get_or ls i 0))) w₁) where
    adds-next : AddsLeaves most w (take (i + 1) ls) w₂ r
    adds-next leaves m =
        rw (take_next ls i 0 h, ← append_assoc leaves (take i ls) (get_or ls i 0 ∷ []))
        (marking_leaf most w₁ (leaves ++ take i ls) (a leaves m) (get_or ls i 0) r w₂ q k)

    pub adds-more : r ≡ true → AddsLeaves most w (take (i + 1) ls) w₂ true
    adds-more t = rw t at adds-next

    pub adds-stop : r ≡ false → AddsLeaves most w ls w₂ false
    adds-stop t leaves m =
        let e : AddsLeaves most w (take (i + 1) ls) w₂ false = rw t at adds-next in
        rw (append_assoc leaves (take (i + 1) ls) (drop (i + 1) ls), take-append-drop) at
        (leaves_lost most w₂ (leaves ++ take (i + 1) ls) (drop (i + 1) ls) (e leaves m))

  pub adds-end : (ls : List ℕ) (i : ℕ) (w₁ : List ℕ) → AddsLeaves most w (take i ls) w₁ true → length ls ≤ i → AddsLeaves most w ls w₁ true
  adds-end ls i w₁ a h = rw (take_all i ls h) at a

  -- one list of literals after another
  module _ (a b w₁ : List ℕ) (r₁ : Bool) (k : AddsLeaves most w a w₁ r₁) where
    pub adds-both : r₁ ≡ true → (w₂ : List ℕ) (r : Bool) → AddsLeaves most w₁ b w₂ r → AddsLeaves most w (a ++ b) w₂ r
    adds-both t w₂ r q leaves m =
        let e : AddsLeaves most w a w₁ true = rw t at k in
        rw (← append_assoc leaves a b) (q (leaves ++ a) (e leaves m))

    pub adds_lost : r₁ ≡ false → AddsLeaves most w (a ++ b) w₁ false
    adds_lost t leaves m =
        let e : AddsLeaves most w a w₁ false = rw t at k in
        rw (append_assoc leaves a b) at (leaves_lost most w₁ (leaves ++ a) b (e leaves m))

  -- one gate
  module _ (g : Gate) where
    pub adds_disordered : ordered g ≡ false → AddsGate most w g w false
    adds_disordered o leaves gates m = marking_disordered most w leaves gates m g o

    pub adds-ordered : ordered g ≡ true → (r : Bool) (w₁ : List ℕ) → r ≡ (defining most g.output && not (holds w (variable g.output)))
        → w₁ ≡ cond (defining most g.output) (with_bit w (variable g.output)) w → AddsGate most w g w₁ r
    adds-ordered o r w₁ q k leaves gates m = marking_gate most w leaves gates m g o r w₁ q k

-- a loop over the first n gates of words, which stops at the first that fails
module _ (most : ℕ) (w ws : List ℕ) (fine : Bool) where
  abbrev pub gate_at : ℕ → Gate
  gate_at i = gate_from (get_or ws (3 * i) 0) (get_or ws (3 * i + 1) 0) (get_or ws (3 * i + 2) 0)

  module _ (i : ℕ) (w₁ : List ℕ) (a : AddsGates most w fine (take i (triples_of gate_from ws)) w₁ true) (n : ℕ) (h : i < n) (b : n ≤ length ws / 3)
      (g : Gate) (e : g ≡ gate_at i) (r : Bool) (w₂ : List ℕ) (k : AddsGate most w₁ g w₂ r) where
    gates-next : AddsGates most w fine (take (i + 1) (triples_of gate_from ws)) w₂ r
    gates-next leaves m =
        rw (take_next (triples_of gate_from ws) i g (rw (triples_count gate_from ws) (omega arith)), triples_at gate_from ws i 0 g (omega arith), ← e)
        (k leaves (take i (triples_of gate_from ws)) (a leaves m))

    pub gates-more : r ≡ true → AddsGates most w fine (take (i + 1) (triples_of gate_from ws)) w₂ true
    gates-more t = rw t at gates-next

    pub gates-stop : r ≡ false → AddsGates most w fine (take n (triples_of gate_from ws)) w₂ false
    gates-stop t leaves m =
        let f : AddsGates most w fine (take (i + 1) (triples_of gate_from ws)) w₂ false = rw t at gates-next in
        let s : take (i + 1) (triples_of gate_from ws) ++ drop (i + 1) (take n (triples_of gate_from ws)) ≡ take n (triples_of gate_from ws) =
        rw (← take-take (i + 1) n (triples_of gate_from ws) (omega arith)) (rw take-append-drop refl) in
        rw s at (gates_lost most w₂ leaves (take (i + 1) (triples_of gate_from ws)) (drop (i + 1) (take n (triples_of gate_from ws))) (f leaves m))
