-- How many there are of what is side by side, and how large joint literals and composed variables are.
use Prim.Native.Nat.{ℕ, suc, ◌+◌, ◌*◌, ◌%◌, ◌≤◌, ◌<◌}
use mathlib.Core.Bool.{Bool, true}
use mathlib.Core.List.{List, [], ◌∷◌, map}
use mathlib.Core.Option.{Option}
use mathlib.Core.Path.{◌≡◌, refl, ap, ◌∙◌}
use native.Mathlib.Omega.{arith}
use lib.ListN.{length, length-append, length-map}
use Rattle.lists.specs.Firsts.{appearing}
use Rattle.lists.specs.Parts.{Bytes}
use Rattle.lists.specs.Tests.{any, Each}
use Rattle.lists.specs.Words.{words_of}
use Rattle.lists.proofs.FirstLaws.{place_inside, appearing-length, appearing-any}
use Rattle.lists.proofs.TestLaws.{each_append, each_map, each-so}
use Rattle.lists.proofs.WordLaws.{words-length, each-words}
use Rattle.aiger.specs.declared.Gate.{Gate}
use Rattle.aiger.specs.Gates.{variable}
use Rattle.witness_read.specs.Sections.{Sections, leaves, variables, latch_names}
use Rattle.witness_load.specs.Inner.Loaded.{latch_words, operand_words}
use Rattle.compose_spec.specs.declared.ModelLeaves.{ModelLeaves}
use Rattle.compose_spec.specs.Mapping.{maps_by_name}
use Rattle.compose_spec.specs.Numbering.{Entry, same_entry, inputs_in, latches_in, input_entries, latch_entries, input_firsts, latch_firsts, numbered, leaf_count}
use Rattle.compose_spec.specs.Inner.Ranges.{Within, LatchWithin, InRange, GatesFrom}
use Rattle.compose_spec.proofs.PlacedLaws.{entry_self, inputs_in_length, latches_in_length}
use Rattle.compose_spec.proofs.KeepLaws.{safety-within}
use Rattle.compose_joint.specs.declared.Before.{Before}
use Rattle.compose_joint.specs.declared.Literals.{Literals}
use Rattle.compose_joint.specs.declared.Literals.TheVariants as literals
use Rattle.compose_joint.specs.declared.Leaves.{Leaves}
use Rattle.compose_joint.specs.declared.Leaves.TheVariants as leaf
use Rattle.compose_joint.specs.Inner.Joint.{total_of, input_count, latch_count, gate_count, shifted, shifted_literal, nothing_before, beyond, shift_of, gathered_from, joint_literals, joint, list_of, names_of, model_of, joint_origins, origins_from, origins}
use Rattle.compose_joint.specs.Inner.Numbers.{leaf_vars}
use Rattle.compose_joint.proofs.ShiftLaws.{Room, shifted-below}

-- ---- lengths

-- the words of all witnesses are as many as those of each together
gathered-length : (words : ℕ → Before → Sections → List ℕ) (count : Sections → ℕ) → ((w : ℕ) (b : Before) (s : Sections) → length (words w b s) ≡ count s)
    → (w : ℕ) (b : Before) (ws : List Sections) → length (gathered_from words w b ws) ≡ total_of count ws
gathered-length words count e w b [] = refl
gathered-length words count e w b (s ∷ ss) =
    length-append (words w b s) (gathered_from words (suc w) (beyond b s) ss) ∙ rw (e w b s, gathered-length words count e (suc w) (beyond b s) ss) refl

-- a joint list has as many literals as the lists of all witnesses together
pub joint-length : (list : Sections → List ℕ) (ws : List Sections) → length (joint list ws) ≡ total_of (λ s. length (list s)) ws
joint-length list ws =
    let i : ℕ = total_of input_count ws in
    let q : ℕ = total_of latch_count ws in
    gathered-length (joint_literals list i q) (λ s. length (list s)) (λ w b s. length-map (list s) (shifted_literal (shift_of i q b s))) 0 nothing_before ws

-- there is an origin word for each name of a witness
pub origin-words : (p : ModelLeaves) (w : ℕ) (named : Bool) (k : ℕ) (names : List (Option Bytes)) → length (origins_from p w named k names) ≡ length names
origin-words p w named k [] = refl
origin-words p w named k (name ∷ names) = ap suc (origin-words p w named (suc k) names)

names-length : (kind : Leaves) (m : Sections) (w : ℕ) (b : Before) (s : Sections) → length (joint_origins kind m w b s) ≡ length (names_of kind s)
names-length kind m w b s = origin-words (model_of kind m) w (maps_by_name s) 0 (names_of kind s)

-- and for each of all witnesses
pub origins-length : (kind : Leaves) (m : Sections) (ws : List Sections) → length (origins kind m ws) ≡ total_of (λ s. length (names_of kind s)) ws
origins-length kind m ws = gathered-length (joint_origins kind m) (λ s. length (names_of kind s)) (names-length kind m) 0 nothing_before ws

-- what is said of each witness's number is said of all together: twice as many
total_twice : (f g : Sections → ℕ) → ((s : Sections) → f s ≡ 2 * g s) → (ss : List Sections) → total_of f ss ≡ 2 * total_of g ss
total_twice f g e [] = refl
total_twice f g e (s ∷ ss) = omega (arith, e s, total_twice f g e ss)

-- or as many
total_same : (f g : Sections → ℕ) → ((s : Sections) → f s ≡ g s) → (ss : List Sections) → total_of f ss ≡ total_of g ss
total_same f g e [] = refl
total_same f g e (s ∷ ss) = rw (e s, total_same f g e ss) refl

-- the joint operands are two for each gate
pub joint-operands-length : (ws : List Sections) → length (joint (list_of literals.Operands) ws) ≡ 2 * total_of gate_count ws
joint-operands-length ws =
    joint-length (list_of literals.Operands) ws
    ∙ total_twice (λ s. length (list_of literals.Operands s)) gate_count (λ s. words-length operand_words 2 (λ g. refl) s.gates) ws

-- the joint next and reset literals are two for each latch
pub joint-latches-length : (ws : List Sections) → length (joint (list_of literals.Latches) ws) ≡ 2 * total_of latch_count ws
joint-latches-length ws =
    joint-length (list_of literals.Latches) ws
    ∙ total_twice (λ s. length (list_of literals.Latches s)) latch_count (λ s. words-length latch_words 2 (λ q. refl) s.latches) ws

-- there is an origin word for each input
pub input-origins-length : (m : Sections) (ws : List Sections) → length (origins leaf.Inputs m ws) ≡ total_of input_count ws
input-origins-length m ws = origins-length leaf.Inputs m ws

-- and for each latch
pub latch_origins-length : (m : Sections) (ws : List Sections) → length (origins leaf.Latches m ws) ≡ total_of latch_count ws
latch_origins-length m ws =
    origins-length leaf.Latches m ws ∙ total_same (λ s. length (latch_names s)) latch_count (λ s. length-map s.latches (λ q. q.name)) ws

-- all witnesses have as many entries of inputs as inputs
pub input_entries_length : (m : Sections) (w : ℕ) (ws : List Sections) → length (input_entries m w ws) ≡ total_of input_count ws
input_entries_length m w [] = refl
input_entries_length m w (s ∷ ss) =
    length-append (inputs_in m w s) (input_entries m (suc w) ss) ∙ rw (inputs_in_length m w s, input_entries_length m (suc w) ss) refl

-- and as many of latches as latches
pub latch_entries_length : (m : Sections) (w : ℕ) (ws : List Sections) → length (latch_entries m w ws) ≡ total_of latch_count ws
latch_entries_length m w [] = refl
latch_entries_length m w (s ∷ ss) =
    length-append (latches_in m w s) (latch_entries m (suc w) ss) ∙ rw (latches_in_length m w s, latch_entries_length m (suc w) ss) refl

-- the composed variables of the constant, all inputs and all latches
pub leaf_vars-length : (m : Sections) (ws : List Sections) → length (leaf_vars m ws) ≡ suc (total_of input_count ws + total_of latch_count ws)
leaf_vars-length m ws =
    let f : Entry → ℕ = numbered 1 (input_firsts m ws) in
    let g : Entry → ℕ = numbered (suc (length (input_firsts m ws))) (latch_firsts m ws) in
    ap suc
    (length-append (map f (input_entries m 0 ws)) (map g (latch_entries m 0 ws))
    ∙ rw (length-map (input_entries m 0 ws) f, length-map (latch_entries m 0 ws) g, input_entries_length m 0 ws, latch_entries_length m 0 ws) refl)

-- ---- composed variables of inputs and latches

-- the composition has no more inputs and latches than the witnesses together
pub leaf_count-most : (m : Sections) (ws : List Sections) → leaf_count m ws ≤ total_of input_count ws + total_of latch_count ws
leaf_count-most m ws =
    omega (
      arith,
      appearing-length same_entry [] (input_entries m 0 ws),
      appearing-length same_entry [] (latch_entries m 0 ws),
      input_entries_length m 0 ws,
      latch_entries_length m 0 ws,
    )

-- the numbers of entries, from n on, are below n and the number of first ones
numbers-below : (n : ℕ) (es : List Entry) → Each (λ x. x < n + length (appearing same_entry [] es)) (map (numbered n (appearing same_entry [] es)) es)
numbers-below n es =
    let firsts : List Entry = appearing same_entry [] es in
    each_map (numbered n firsts) (λ x. x < n + length firsts) es
    (each-so (λ e. any (same_entry e) firsts ≡ true) (λ e. numbered n firsts e < n + length firsts) (λ e h. omega (arith, place_inside same_entry e firsts h)) es
    (appearing-any same_entry entry_self [] es))

-- each composed variable of an input or a latch is at most their number
pub leaf_vars-most : (m : Sections) (ws : List Sections) → Each (λ x. x ≤ leaf_count m ws) (leaf_vars m ws)
leaf_vars-most m ws =
    let is : List Entry = input_firsts m ws in
    let qs : List Entry = latch_firsts m ws in
    let xs : List ℕ = map (numbered 1 is) (input_entries m 0 ws) in
    let ys : List ℕ = map (numbered (suc (length is)) qs) (latch_entries m 0 ws) in (
      omega arith,
      each_append (λ x. x ≤ leaf_count m ws) xs ys
          (each-so (λ x. x < 1 + length is) (λ x. x ≤ leaf_count m ws) (λ x h. omega arith) xs (numbers-below 1 (input_entries m 0 ws)))
          (each-so (λ x. x < suc (length is) + length qs) (λ x. x ≤ leaf_count m ws) (λ x h. omega arith) ys (numbers-below (suc (length is)) (latch_entries m 0 ws))),
    )

-- ---- joint literals

-- the operands of gates are in range
operands-within : (n most : ℕ) (gs : List Gate) → GatesFrom n gs → n + length gs ≤ suc most → Each (Within most) (words_of operand_words gs)
operands-within n most [] at h = tt
operands-within n most (g ∷ gs) at h =
    (omega (arith, at.0.left), (omega (arith, at.0.right), operands-within (suc n) most gs at.1 (omega arith)))

-- every list of literals of a witness is in range
pub lists-within : (kind : Literals) (s : Sections) → InRange s → Each (Within (variables s)) (list_of kind s)
lists-within literals.Latches s r =
    each-words latch_words (Within (variables s)) s.latches
    (each-so (LatchWithin (variables s)) (λ q. Each (Within (variables s)) (latch_words q)) (λ q h. (h.0, (h.1, tt))) s.latches r.latches)
lists-within literals.Safety s r = safety-within (variables s) s.bads s.outputs r.bads r.outputs
lists-within literals.Constraints s r = r.constraints
lists-within literals.Operands s r = operands-within (suc (leaves s)) (variables s) s.gates r.gates (omega arith)

-- what the witnesses ss have, behind b, is no more than i inputs, q latches and g gates
pub record Amounts (i q g : ℕ) (b : Before) (ss : List Sections) : Type 0 where
  pub inputs : b.inputs + total_of input_count ss ≤ i
  pub latches : b.latches + total_of latch_count ss ≤ q
  pub gates : b.gates + total_of gate_count ss ≤ g

-- so it is with all witnesses
pub amounts-all : (ws : List Sections) → Amounts (total_of input_count ws) (total_of latch_count ws) (total_of gate_count ws) nothing_before ws
amounts-all ws = record { inputs = omega arith; latches = omega arith; gates = omega arith }

module _ (i q g : ℕ) (b : Before) (s : Sections) (ss : List Sections) (a : Amounts i q g b (s ∷ ss)) where
  -- there is room for the first witness
  pub amounts-room : Room i q b s
  amounts-room = record { inputs = omega (arith, a.inputs); latches = omega (arith, a.latches) }

  -- and for the next ones
  pub amounts-next : Amounts i q g (beyond b s) ss
  amounts-next = record { inputs = omega (arith, a.inputs); latches = omega (arith, a.latches); gates = omega (arith, a.gates) }

  -- a literal in range is shifted to one in range
  shifted-within : (l : ℕ) → Within (variables s) l → Within (i + q + g) (shifted_literal (shift_of i q b s) l)
  shifted-within l h =
      let low : shifted (shift_of i q b s) (variable l) < suc (i + q) + (b.gates + gate_count s) =
      shifted-below i q b s amounts-room (gate_count s) (variable l) (omega arith) in
      bound (shifted (shift_of i q b s) (variable l)) (omega (arith, low, a.gates))
    where
      bound : (y : ℕ) → y ≤ i + q + g → 2 * y + l % 2 ≤ 2 * (i + q + g) + 1
      bound y k = omega arith

-- the literals of witnesses are shifted to literals in range
gathered-within : (kind : Literals) (i q g w : ℕ) (b : Before) (ss : List Sections) → Amounts i q g b ss → Each InRange ss
    → Each (Within (i + q + g)) (gathered_from (joint_literals (list_of kind) i q) w b ss)
gathered-within kind i q g w b [] a r = tt
gathered-within kind i q g w b (s ∷ ss) a r =
    each_append (Within (i + q + g)) (joint_literals (list_of kind) i q w b s) (gathered_from (joint_literals (list_of kind) i q) (suc w) (beyond b s) ss)
    (each_map (shifted_literal (shift_of i q b s)) (Within (i + q + g)) (list_of kind s)
    (each-so (Within (variables s)) (λ l. Within (i + q + g) (shifted_literal (shift_of i q b s) l)) (shifted-within i q g b s ss a) (list_of kind s) (lists-within kind s r.0)))
    (gathered-within kind i q g (suc w) (beyond b s) ss (amounts-next i q g b s ss a) r.1)

-- each joint literal is in range
pub joint-literals-most : (kind : Literals) (ws : List Sections) → Each InRange ws
    → Each (λ l. l ≤ 2 * (total_of input_count ws + total_of latch_count ws + total_of gate_count ws) + 1) (joint (list_of kind) ws)
joint-literals-most kind ws r = gathered-within kind (total_of input_count ws) (total_of latch_count ws) (total_of gate_count ws) 0 nothing_before ws (amounts-all ws) r
