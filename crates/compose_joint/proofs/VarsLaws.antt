-- The joint literals, translated at once, are the literals of each witness, translated by its own variables; so are the definitions of latches.
use Prim.Native.Nat.{ℕ, suc, ◌+◌, ◌*◌, ◌<◌}
use mathlib.Core.List.{List, [], ◌∷◌, ◌++◌, map, map-map, map-append}
use mathlib.Core.Path.{◌≡◌, refl, sym, ap, ap₂, ◌∙◌}
use native.Mathlib.Omega.{arith}
use lib.ListN.{length, get_or, length-append, length-map}
use lib.Seq.{get_or-append-add}
use Rattle.lists.specs.Tests.{Each}
use Rattle.lists.specs.Words.{words_of}
use Rattle.lists.specs.Sets.{set_of}
use Rattle.lists.proofs.FirstLaws.{Begins, begins-at}
use Rattle.lists.proofs.MapLaws.{each_maps}
use Rattle.lists.proofs.TestLaws.{each-so}
use Rattle.lists.proofs.WordLaws.{words-length}
use Rattle.witness_read.specs.Sections.{NamedLatch, Sections, variables}
use Rattle.witness_load.specs.Inner.Loaded.{latch_words}
use Rattle.compose_spec.specs.Numbering.{Entry, inputs_in, latches_in, latch_entries, input_firsts, latch_firsts, numbered, Placed, placed_from, placed, leaf_count}
use Rattle.compose_spec.specs.Sharing.{Operands, translate, share_witness, whole_after}
use Rattle.compose_spec.specs.Composing.{whole, Defined, defined_from, defined_in, all_defined, safety, literals_of}
use Rattle.compose_spec.specs.Inner.Ranges.{Within, InRange}
use Rattle.compose_spec.proofs.PlacedLaws.{inputs_in_length, latches_in_length, placed-everyone}
use Rattle.compose_spec.proofs.ShareLaws.{shared_goes}
use Rattle.compose_joint.specs.declared.Shift.{Shift}
use Rattle.compose_joint.specs.declared.Before.{Before}
use Rattle.compose_joint.specs.declared.Literals.{Literals}
use Rattle.compose_joint.specs.declared.Literals.TheVariants as literals
use Rattle.compose_joint.specs.Inner.Joint.{total_of, input_count, latch_count, shifted_literal, nothing_before, beyond, shift_of, gathered_from, joint_literals, joint, list_of}
use Rattle.compose_joint.specs.Inner.Numbers.{joint_shared}
use Rattle.compose_joint.proofs.ShiftLaws.{shifted-translated}
use Rattle.compose_joint.proofs.AmountLaws.{lists-within}
use Rattle.compose_joint.proofs.SideLaws.{Kept, AllKept}
use Rattle.compose_joint.proofs.GateLaws.{joint-together}

-- the literals of a witness in the literals of the composition
abbrev pub translated_list : Literals → Placed → List ℕ
translated_list kind p = map (translate p.vars) (list_of kind p.sections)

-- each witness stands in its place
everyone : (n : ℕ) (ps : List Placed) (cs : List Operands) → map (λ p. p.sections) (whole_after n ps cs) ≡ map (λ p. p.sections) ps
everyone n [] cs = refl
everyone n (p ∷ ps) cs = ap (λ (r : List Sections). p.sections ∷ r) (everyone n ps (share_witness n p cs).gates)

-- every witness is there, in its place
whole-everyone : (m : Sections) (ws : List Sections) → map (λ p. p.sections) (whole m ws) ≡ ws
whole-everyone m ws = everyone (suc (leaf_count m ws)) (placed m ws) [] ∙ placed-everyone m ws

module _ (kind : Literals) (i q : ℕ) (all : List ℕ) where
  -- the literals of one witness
  one_translated : (b : Before) (p : Placed) → Kept i q b all p → map (translate all) (map (shifted_literal (shift_of i q b p.sections)) (list_of kind p.sections)) ≡ translated_list kind p
  one_translated b p k =
      let s : Sections = p.sections in
      let h : Shift = shift_of i q b s in
      map-map (translate all) (shifted_literal h) (list_of kind s)
      ∙ each_maps (λ l. translate all (shifted_literal h l)) (translate p.vars) (list_of kind s)
      (each-so (Within (variables s)) (λ l. translate all (shifted_literal h l) ≡ translate p.vars l)
      (λ l r. shifted-translated h p.vars all l k.keeps (omega (arith, k.long))) (list_of kind s) (lists-within kind s k.range))

  -- those of all
  all-translated : (w : ℕ) (b : Before) (ps : List Placed) → AllKept i q b all ps
      → map (translate all) (gathered_from (joint_literals (list_of kind) i q) w b (map (λ p. p.sections) ps)) ≡ words_of (translated_list kind) ps
  all-translated w b [] k = refl
  all-translated w b (p ∷ ps) k =
      let s : Sections = p.sections in
      map-append (translate all) (map (shifted_literal (shift_of i q b s)) (list_of kind s))
      (gathered_from (joint_literals (list_of kind) i q) (suc w) (beyond b s) (map (λ p'. p'.sections) ps))
      ∙ ap₂ (λ xs ys. xs ++ ys) (one_translated b p k.0) (all-translated (suc w) (beyond b s) ps k.1)

module _ (m : Sections) (ws : List Sections) (r : Each InRange ws) where
  -- a joint list, translated, is the list of each witness, translated
  pub joint-translated : (kind : Literals)
      → map (translate (joint_shared m ws).vars) (joint (list_of kind) ws) ≡ words_of (translated_list kind) (whole m ws)
  joint-translated kind =
      let i : ℕ = total_of input_count ws in
      let q : ℕ = total_of latch_count ws in
      let all : List ℕ = (joint_shared m ws).vars in
      ap (λ (ss : List Sections). map (translate all) (gathered_from (joint_literals (list_of kind) i q) 0 nothing_before ss)) (sym (whole-everyone m ws))
      ∙ all-translated kind i q all 0 nothing_before (whole m ws) (joint-together m ws r).kept

  -- the composed bads
  pub joint-safety : literals_of safety (whole m ws) ≡ set_of (map (translate (joint_shared m ws).vars) (joint (list_of literals.Safety) ws))
  joint-safety = ap set_of (sym (joint-translated literals.Safety))

  -- the composed constraints
  pub joint-constraints : literals_of (λ s. s.constraints) (whole m ws) ≡ set_of (map (translate (joint_shared m ws).vars) (joint (list_of literals.Constraints) ws))
  joint-constraints = ap set_of (sym (joint-translated literals.Constraints))

-- ---- latches

-- latches with these composed variables, and two words each, next and reset
abbrev pub defined_pairs : List ℕ → List ℕ → List Defined
defined_pairs [] words = []
defined_pairs (x ∷ xs) [] = []
defined_pairs (x ∷ xs) (next ∷ []) = []
defined_pairs (x ∷ xs) (next ∷ reset ∷ words) = record { variable = x; next = next; reset = reset } ∷ defined_pairs xs words

-- two words for each latch
two_words : (vars : List ℕ) (qs : List NamedLatch) → length (map (translate vars) (words_of latch_words qs)) ≡ 2 * length qs
two_words vars qs = length-map (words_of latch_words qs) (translate vars) ∙ words-length latch_words 2 (λ q. refl) qs

-- pairs one list after the other
pairs-joined : (xs ys us vs : List ℕ) → length us ≡ 2 * length xs → defined_pairs (xs ++ ys) (us ++ vs) ≡ defined_pairs xs us ++ defined_pairs ys vs
pairs-joined [] ys [] vs h = refl
pairs-joined [] ys (u ∷ us) vs h = absurd (omega arith)
pairs-joined (x ∷ xs) ys [] vs h = absurd (omega arith)
pairs-joined (x ∷ xs) ys (u ∷ []) vs h = absurd (omega arith)
pairs-joined (x ∷ xs) ys (u ∷ v ∷ us) vs h =
    ap (λ (ds : List Defined). record { variable = x; next = u; reset = v } ∷ ds) (pairs-joined xs ys us vs (omega arith))

-- the latches of a witness from its variable x on, whose composed variables are `own`
own_defined : (vars : List ℕ) (x : ℕ) (own : List ℕ) (qs : List NamedLatch) → length own ≡ length qs → ((k : ℕ) → k < length own → get_or vars (x + k) 0 ≡ get_or own k 0)
    → defined_from vars x qs ≡ defined_pairs own (map (translate vars) (words_of latch_words qs))
own_defined vars x [] [] n e = refl
own_defined vars x [] (q ∷ qs) n e = absurd (omega arith)
own_defined vars x (y ∷ own) [] n e = absurd (omega arith)
own_defined vars x (y ∷ own) (q ∷ qs) n e =
    let z : x + 0 ≡ x = omega arith in
    let here : get_or vars x 0 ≡ y = ap (λ (k : ℕ). get_or vars k 0) (sym z) ∙ e 0 (omega arith) in
    ap₂ {C = List Defined} (λ v ds. record { variable = v; next = translate vars q.next; reset = translate vars q.reset } ∷ ds) here
    (own_defined vars (suc x) own qs (omega arith)
    (λ k h.
    let s : suc x + k ≡ x + suc k = omega arith in
    ap (λ (j : ℕ). get_or vars j 0) s ∙ e (suc k) (omega arith)))

module _ (m : Sections) (is qs : List Entry) (n : ℕ) where
  -- the number of a latch
  abbrev as_latch : Entry → ℕ
  as_latch = numbered (suc (length is)) qs

  -- the latches of one witness
  witness-defined : (w : ℕ) (s : Sections) (vars : List ℕ) → Begins (0 ∷ (map (numbered 1 is) (inputs_in m w s) ++ map as_latch (latches_in m w s))) vars
      → defined_in (record { sections = s; vars = vars }) ≡ defined_pairs (map as_latch (latches_in m w s)) (map (translate vars) (words_of latch_words s.latches))
  witness-defined w s vars b =
      let xs : List ℕ = map (numbered 1 is) (inputs_in m w s) in
      let ys : List ℕ = map as_latch (latches_in m w s) in
      let nx : length xs ≡ length s.inputs = length-map (inputs_in m w s) (numbered 1 is) ∙ inputs_in_length m w s in
      let ny : length ys ≡ length s.latches = length-map (latches_in m w s) as_latch ∙ latches_in_length m w s in
      own_defined vars (suc (length s.inputs)) ys s.latches ny
      (λ k h.
      let e : suc (length s.inputs) + k ≡ suc (length xs + k) = omega (arith, nx) in
      ap (λ (j : ℕ). get_or vars j 0) e
      ∙ begins-at (0 ∷ (xs ++ ys)) vars b (suc (length xs + k)) 0 (omega (arith, length-append xs ys))
      ∙ get_or-append-add xs ys k 0)

  -- those of all
  all-defined : (w : ℕ) (ws : List Sections) (cs : List Operands)
      → all_defined (whole_after n (placed_from m is qs w ws) cs)
      ≡ defined_pairs (map as_latch (latch_entries m w ws)) (words_of (translated_list literals.Latches) (whole_after n (placed_from m is qs w ws) cs))
  all-defined w [] cs = refl
  all-defined w (s ∷ ss) cs =
      let leaf : List ℕ = 0 ∷ (map (numbered 1 is) (inputs_in m w s) ++ map as_latch (latches_in m w s)) in
      let p : Placed = record { sections = s; vars = leaf } in
      let vars : List ℕ = (share_witness n p cs).vars in
      let next : List Placed = whole_after n (placed_from m is qs (suc w) ss) (share_witness n p cs).gates in
      let ys : List ℕ = map as_latch (latches_in m w s) in
      let us : List ℕ = map (translate vars) (words_of latch_words s.latches) in
      let vs : List ℕ = words_of (translated_list literals.Latches) next in
      let zs : List ℕ = map as_latch (latch_entries m (suc w) ss) in
      let ny : length ys ≡ length s.latches = length-map (latches_in m w s) as_latch ∙ latches_in_length m w s in
      ap₂ (λ ds es. ds ++ es) (witness-defined w s vars (shared_goes n s.gates (record { vars = leaf; gates = cs })).vars) (all-defined (suc w) ss (share_witness n p cs).gates)
      ∙ sym (pairs-joined ys zs us vs (two_words vars s.latches ∙ rw ny refl))
      ∙ ap (λ (l : List ℕ). defined_pairs l (us ++ vs)) (sym (map-append as_latch (latches_in m w s) (latch_entries m (suc w) ss)))

-- the definitions of all latches are the numbers of the latches with the joint next and reset literals, translated
pub joint-defined : (m : Sections) (ws : List Sections) → Each InRange ws
    → all_defined (whole m ws)
    ≡ defined_pairs (map (numbered (suc (length (input_firsts m ws))) (latch_firsts m ws)) (latch_entries m 0 ws))
    (map (translate (joint_shared m ws).vars) (joint (list_of literals.Latches) ws))
joint-defined m ws r =
    all-defined m (input_firsts m ws) (latch_firsts m ws) (suc (leaf_count m ws)) 0 ws []
    ∙ ap (defined_pairs (map (numbered (suc (length (input_firsts m ws))) (latch_firsts m ws)) (latch_entries m 0 ws))) (sym (joint-translated m ws r literals.Latches))
