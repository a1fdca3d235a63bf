-- Where the inputs and latches of the witnesses stand in the composition.
use Prim.Native.Nat.{ℕ, zero, suc, ◌+◌, ◌-◌, ◌≤◌, ◌<◌}
use mathlib.Core.Bool.{Bool, true, false}
use mathlib.Core.List.{List, [], ◌∷◌, ◌++◌, map}
use mathlib.Core.Logic.{⊎_elim}
use mathlib.Core.Option.{Option}
use mathlib.Core.Path.{◌≡◌, refl, ap, ap₂, ◌∙◌}
use native.Mathlib.Omega.{arith}
use lib.Dec.{ltb, eqb}
use lib.ListN.{length, get_or, length-append, length-map, get_or-append, get_or-eq_default}
use lib.Seq.{get_or-append-add}
use borrow.Author.Tests.{ltb-true, ltb-false, eqb-true, eq-eqb}
use Rattle.lists.specs.Firsts.{place, appearing}
use Rattle.lists.specs.Parts.{Bytes}
use Rattle.lists.specs.Tests.{any, Each}
use Rattle.lists.proofs.BoolLaws.{true-false, and_left, and_right, eqb_shift}
use Rattle.lists.proofs.FirstLaws.{place_inside, appearing-any, appearing-owned, place_apart}
use Rattle.lists.proofs.TestLaws.{any_cong, each-so, each-split}
use Rattle.witness_read.specs.Sections.{Sections, leaves, latch_names}
use Rattle.compose_spec.specs.declared.ModelLeaves.{ModelLeaves}
use Rattle.compose_spec.specs.Mapping.{maps_by_name, model_inputs, model_latches}
use Rattle.compose_spec.specs.Numbering.{Key, shared, alone, same_key, Entry, same_entry, private_input, private_latch, entries_from, inputs_in, latches_in, input_entries, latch_entries, input_firsts, latch_firsts, numbered, Placed, placed_from, placed}
use Rattle.compose_spec.specs.Meaning.{Apart, Owned}
use Rattle.compose_spec.proofs.ShareLaws.{Low}

-- ---- which entries are the same

-- a key is the same as itself
key_self : (k : Key) → same_key k k ≡ true
key_self (shared l) = eq-eqb l l refl
key_self (alone w k) = rw (eq-eqb w w refl, eq-eqb k k refl)

-- keys that are the same are equal
key-same : (a b : Key) → same_key a b ≡ true → a ≡ b
key-same (shared l) (shared m) h = ap shared (eqb-true l m h)
key-same (shared l) (alone w k) h = true-false h refl
key-same (alone w k) (shared m) h = true-false h refl
key-same (alone w k) (alone x m) h = ap₂ alone (eqb-true w x (and_left (eqb w x) (eqb k m) h)) (eqb-true k m (and_right (eqb w x) (eqb k m) h))

-- an entry is the same as itself
pub entry_self : (e : Entry) → same_entry e e ≡ true
entry_self e = key_self e.key

-- entries that are the same are so to every other
pub entry_alike : (x y z : Entry) → same_entry x y ≡ true → same_entry x z ≡ same_entry y z
entry_alike x y z h = ap (λ (k : Key). same_key k z.key) (key-same x.key y.key h)

-- ---- two appearances have one composed variable exactly when they are the same

-- an entry stands among the first ones
abbrev Among : List Entry → Entry → Type 0
Among firsts e = any (same_entry e) firsts ≡ true

-- two of the first ones have one variable exactly when they are the same
numbered_apart : (n : ℕ) (firsts : List Entry) (e f : Entry) → Among firsts e → Among firsts f → eqb (numbered n firsts e) (numbered n firsts f) ≡ same_entry e f
numbered_apart n firsts e f h k = eqb_shift n (place same_entry e firsts) (place same_entry f firsts) ∙ (place_apart same_entry entry_self entry_alike e f firsts h k)

-- the composed variables of two appearances are the same exactly when R8 shares them
pub firsts_apart : (n : ℕ) (es : List Entry) → Apart n (appearing same_entry [] es) es
firsts_apart n es =
    let firsts : List Entry = appearing same_entry [] es in
    let all : Each (Among firsts) es = appearing-any same_entry entry_self [] es in
    each-so (Among firsts) (λ e. Each (λ f. eqb (numbered n firsts e) (numbered n firsts f) ≡ same_entry e f) es)
    (λ e h. each-so (Among firsts) (λ f. eqb (numbered n firsts e) (numbered n firsts f) ≡ same_entry e f) (λ f k. numbered_apart n firsts e f h k) es all)
    es all

-- each composed variable is that of some appearance
pub firsts_owned : (n : ℕ) (es : List Entry) (count : ℕ) → count ≡ length (appearing same_entry [] es) → Owned n (appearing same_entry [] es) es count
firsts_owned n es count e k h =
    let firsts : List Entry = appearing same_entry [] es in
    ⊎_elim (λ less. absurd (omega arith))
    (λ some. any_cong (λ (x : Entry). eqb (n + place same_entry x firsts) (n + k)) (λ (x : Entry). eqb (place same_entry x firsts) k) (λ x. eqb_shift n (place same_entry x firsts) k) es ∙ some)
    (appearing-owned same_entry entry_self [] es k (omega (arith, e)))

-- ---- composed variables of a witness's inputs and latches

-- the variable at place i is one of the variables n, n + 1, .., count many
pub record Spot (vars : List ℕ) (i n count : ℕ) : Type 0 where
  pub k : ℕ
  pub there : k < count
  pub is : get_or vars i 0 ≡ n + k

-- the variable of each appearance is one of those that are numbered
numbered-spot : (n : ℕ) (firsts es : List Entry) → Each (Among firsts) es → (i : ℕ) → i < length es → Spot (map (numbered n firsts) es) i n (length firsts)
numbered-spot n firsts [] a i h = absurd (omega arith)
numbered-spot n firsts (e ∷ es) a zero h = record { k = place same_entry e firsts; there = place_inside same_entry e firsts a.0; is = refl }
numbered-spot n firsts (e ∷ es) a (suc i) h =
    let r = numbered-spot n firsts es a.1 i (omega arith) in
    record { k = r.k; there = r.there; is = r.is }

-- there is an entry for each name
pub entries_length : (p : ModelLeaves) (unnamed : Bytes) (w : ℕ) (named : Bool) (k : ℕ) (names : List (Option Bytes))
    → length (entries_from p unnamed w named k names) ≡ length names
entries_length p unnamed w named k [] = refl
entries_length p unnamed w named k (x ∷ xs) = ap suc (entries_length p unnamed w named (suc k) xs)

-- a witness has as many entries of inputs as inputs
pub inputs_in_length : (m : Sections) (w : ℕ) (s : Sections) → length (inputs_in m w s) ≡ length s.inputs
inputs_in_length m w s = entries_length (model_inputs m) private_input w (maps_by_name s) 0 s.inputs

-- and as many of latches as latches
pub latches_in_length : (m : Sections) (w : ℕ) (s : Sections) → length (latches_in m w s) ≡ length s.latches
latches_in_length m w s = entries_length (model_latches m) private_latch w (maps_by_name s) 0 (latch_names s) ∙ length-map s.latches (λ q. q.name)

-- a witness with the composed variables of its inputs and latches, in a composition of I inputs and L latches
pub record Seated (I L : ℕ) (p : Placed) : Type 0 where
  pub long : length p.vars ≡ suc (leaves p.sections)
  pub constant : get_or p.vars 0 0 ≡ 0
  pub input : (x : ℕ) → 0 < x → x ≤ length p.sections.inputs → Spot p.vars x 1 I
  pub latch : (x : ℕ) → length p.sections.inputs < x → x < length p.vars → Spot p.vars x (suc I) L

module _ (fs bs : List ℕ) where
  -- variables in the first part stand behind the constant
  in_front_lem : (x : ℕ) → 0 < x → x ≤ length fs → get_or (0 ∷ (fs ++ bs)) x 0 ≡ get_or fs (x - 1) 0
  in_front_lem zero h k = absurd (omega arith)
  in_front_lem (suc x) h k = let e : suc x - 1 ≡ x = omega arith in rw e (get_or-append fs bs 0 x (omega arith))

  -- those of the second part stand behind the first
  behind : (x : ℕ) → length fs < x → get_or (0 ∷ (fs ++ bs)) x 0 ≡ get_or bs (x - suc (length fs)) 0
  behind zero h = absurd (omega arith)
  behind (suc x) h =
      let e : x ≡ length fs + (suc x - suc (length fs)) = omega arith in
      ap (λ (i : ℕ). get_or (fs ++ bs) i 0) e ∙ get_or-append-add fs bs (suc x - suc (length fs)) 0

module _ (is qs : List Entry) (s : Sections) (xs ys : List Entry) (hx : Each (Among is) xs) (hy : Each (Among qs) ys)
    (lx : length xs ≡ length s.inputs) (ly : length ys ≡ length s.latches) where
  -- a witness with the variables of its entries is seated
  seat : Seated (length is) (length qs) (record { sections = s; vars = 0 ∷ (map (numbered 1 is) xs ++ map (numbered (suc (length is)) qs) ys) })
  seat =
      let fs : List ℕ = map (numbered 1 is) xs in
      let bs : List ℕ = map (numbered (suc (length is)) qs) ys in
      let la : length fs ≡ length s.inputs = length-map xs (numbered 1 is) ∙ lx in
      let lb : length bs ≡ length s.latches = length-map ys (numbered (suc (length is)) qs) ∙ ly in
      let lv : length (fs ++ bs) ≡ length fs + length bs = length-append fs bs in
      record {
        long = ap suc (lv ∙ rw (la, lb) refl);
        constant = refl;
        input =
            λ x h k.
            let t = numbered-spot 1 is xs hx (x - 1) (omega arith) in
            record { k = t.k; there = t.there; is = in_front_lem fs bs x h (omega arith) ∙ t.is };
        latch =
            λ x h k.
            let k' : x < suc (length (fs ++ bs)) = k in
            let t = numbered-spot (suc (length is)) qs ys hy (x - suc (length fs)) (omega arith) in
            record { k = t.k; there = t.there; is = behind fs bs x (omega arith) ∙ t.is };
      }

-- so is each of the witnesses
seats : (m : Sections) (is qs : List Entry) (w : ℕ) (ws : List Sections) → Each (Among is) (input_entries m w ws) → Each (Among qs) (latch_entries m w ws)
    → Each (Seated (length is) (length qs)) (placed_from m is qs w ws)
seats m is qs w [] hi hq = tt
seats m is qs w (s ∷ ss) hi hq =
    let i = each-split (Among is) (inputs_in m w s) (input_entries m (suc w) ss) hi in
    let q = each-split (Among qs) (latches_in m w s) (latch_entries m (suc w) ss) hq in (
      seat is qs s (inputs_in m w s) (latches_in m w s) i.0 q.0 (inputs_in_length m w s) (latches_in_length m w s),
      seats m is qs (suc w) ss i.1 q.1,
    )

-- each witness is seated
pub placed-seated : (m : Sections) (ws : List Sections) → Each (Seated (length (input_firsts m ws)) (length (latch_firsts m ws))) (placed m ws)
placed-seated m ws =
    seats m (input_firsts m ws) (latch_firsts m ws) 0 ws
    (appearing-any same_entry entry_self [] (input_entries m 0 ws)) (appearing-any same_entry entry_self [] (latch_entries m 0 ws))

-- each witness stands in its place
everyone : (m : Sections) (is qs : List Entry) (w : ℕ) (ws : List Sections) → map (λ p. p.sections) (placed_from m is qs w ws) ≡ ws
everyone m is qs w [] = refl
everyone m is qs w (s ∷ ss) = ap (λ (r : List Sections). s ∷ r) (everyone m is qs (suc w) ss)

-- every witness is among those placed, in its place
pub placed-everyone : (m : Sections) (ws : List Sections) → map (λ p. p.sections) (placed m ws) ≡ ws
placed-everyone m ws = everyone m (input_firsts m ws) (latch_firsts m ws) 0 ws

-- all composed variables of a seated witness are inputs, latches or the constant
module _ (I L : ℕ) (p : Placed) (s : Seated I L p) where
  -- an input's or a latch's composed variable is below the first gate's
  by_kind : (x : ℕ) → 0 < x → x < length p.vars → (t : Bool) → ltb (length p.sections.inputs) x ≡ t → get_or p.vars x 0 < suc (I + L)
  by_kind x h k true e =
      let r = s.latch x (ltb-true (length p.sections.inputs) x e) k in
      omega (arith, r.is, r.there)
  by_kind x h k false e =
      let r = s.input x h (ltb-false (length p.sections.inputs) x e) in
      omega (arith, r.is, r.there)

  -- so is the constant's, and what is read past the end
  by_place : (x : ℕ) → (b : Bool) → ltb x (length p.vars) ≡ b → get_or p.vars x 0 < suc (I + L)
  by_place zero b e = rw s.constant (omega arith)
  by_place (suc x) true e = by_kind (suc x) (omega arith) (ltb-true (suc x) (length p.vars) e) (ltb (length p.sections.inputs) (suc x)) refl
  by_place (suc x) false e = rw (get_or-eq_default p.vars 0 {n = suc x} (ltb-false (suc x) (length p.vars) e)) (omega arith)

  -- each is below the first composed gate's
  pub seated-low : Low (suc (I + L)) p.vars
  seated-low x = by_place x (ltb x (length p.vars)) refl
