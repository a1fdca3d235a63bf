-- What the composition keeps: bads, constraints, and next and reset values of latches.
use Prim.Native.Nat.{ℕ, zero, suc, ◌+◌, ◌≤◌, ◌<◌}
use mathlib.Core.Bool.{true}
use mathlib.Core.List.{List, [], ◌∷◌, map}
use mathlib.Core.Path.{◌≡◌, refl, ap, ◌∙◌}
use native.Mathlib.Nat.{add-zero, add-suc, suc-add}
use native.Mathlib.Omega.{arith}
use lib.Dec.{eqb}
use lib.ListN.{length, get_or}
use borrow.Author.Tests.{eqb-true}
use Rattle.lists.specs.Tests.{all, any, Each}
use Rattle.lists.specs.Words.{words_of}
use Rattle.lists.proofs.BoolLaws.{and_left, and_right}
use Rattle.lists.proofs.FirstLaws.{begins-at}
use Rattle.lists.proofs.SetLaws.{any-set, all_set}
use Rattle.lists.proofs.TestLaws.{any-map, all_map, each-so, each-split, any-each, all-each}
use Rattle.lists.proofs.WordLaws.{any-words, all_words}
use Rattle.aiger.specs.Gates.{variable, Valuation, value}
use Rattle.witness_read.specs.Sections.{NamedLatch, Sections, variables}
use Rattle.compose_spec.specs.Numbering.{Entry, Placed}
use Rattle.compose_spec.specs.Sharing.{translate}
use Rattle.compose_spec.specs.Composing.{Defined, defined_from, defined_in, all_defined, definition_of, same_defined, composed_latches, or_outputs, safety, literals_of}
use Rattle.compose_spec.specs.Meaning.{Valued, unsafe, constrained, no_latch, LatchKept, LatchesKept, AllLatchesKept}
use Rattle.compose_spec.specs.Inner.Ranges.{Within, LatchWithin}
use Rattle.compose_spec.proofs.ShareLaws.{translate-value}
use Rattle.compose_spec.proofs.WholeLaws.{Matched, Both, Ready}

-- ---- literals

module _ (u : Valuation) (x : Valued) (q : Placed) (t : Matched u x q) where
  -- a literal of the witness has the value of the composed one
  literal-kept : (l : ℕ) → Within (variables x.placed.sections) l → value u (translate q.vars l) ≡ value x.values l
  literal-kept l h = translate-value u x.values q.vars l (t.values (variable l) (omega (arith, t.long)))

  -- so has each of a list
  literals-kept : (ls : List ℕ) → Each (Within (variables x.placed.sections)) ls → Each (λ l. value u (translate q.vars l) ≡ value x.values l) ls
  literals-kept ls e = each-so (Within (variables x.placed.sections)) (λ l. value u (translate q.vars l) ≡ value x.values l) literal-kept ls e

  -- some literal of a list is true exactly when some composed one is
  any-kept : (ls : List ℕ) → Each (Within (variables x.placed.sections)) ls → any (value u) (map (translate q.vars) ls) ≡ any (value x.values) ls
  any-kept ls e = any-map (translate q.vars) (value u) ls ∙ any-each (λ l. value u (translate q.vars l)) (value x.values) ls (literals-kept ls e)

  -- all are true exactly when all composed ones are
  all-kept : (ls : List ℕ) → Each (Within (variables x.placed.sections)) ls → all (value u) (map (translate q.vars) ls) ≡ all (value x.values) ls
  all-kept ls e = all_map (translate q.vars) (value u) ls ∙ all-each (λ l. value u (translate q.vars l)) (value x.values) ls (literals-kept ls e)

-- safety literals are in range where bads and outputs are
pub safety-within : (m : ℕ) (bs os : List ℕ) → Each (Within m) bs → Each (Within m) os → Each (Within m) (or_outputs bs os)
safety-within m [] os e f = f
safety-within m (b ∷ bs) os e f = e

-- the literals of a list of a witness in the composition
abbrev translated_in : (Sections → List ℕ) → Placed → List ℕ
translated_in list q = map (translate q.vars) (list q.sections)

module _ (u : Valuation) (I L : ℕ) where
  -- some composed safety literal is true exactly when a witness is unsafe
  bads-at : (xs : List Valued) (qs : List Placed) → Both (Matched u) xs qs → Each (Ready u I L) xs → any (λ q. any (value u) (translated_in safety q)) qs ≡ any unsafe xs
  bads-at [] [] b e = refl
  bads-at [] (q ∷ qs) b e = absurd b
  bads-at (x ∷ xs) [] b e = absurd b
  bads-at (x ∷ xs) (q ∷ qs) b e =
      let s : Sections = x.placed.sections in
      let r = e.0.range in
      let k : any (value u) (map (translate q.vars) (safety s)) ≡ unsafe x =
      any-kept u x q b.0 (safety s) (safety-within (variables s) s.bads s.outputs r.bads r.outputs) in
      rw (b.0.same, k, bads-at xs qs b.1 e.1) refl

  -- all composed constraints hold exactly when every witness is constrained
  constraints-at : (xs : List Valued) (qs : List Placed) → Both (Matched u) xs qs → Each (Ready u I L) xs
      → all (λ q. all (value u) (translated_in (λ s. s.constraints) q)) qs ≡ all constrained xs
  constraints-at [] [] b e = refl
  constraints-at [] (q ∷ qs) b e = absurd b
  constraints-at (x ∷ xs) [] b e = absurd b
  constraints-at (x ∷ xs) (q ∷ qs) b e =
      let k : all (value u) (map (translate q.vars) x.placed.sections.constraints) ≡ constrained x =
      all-kept u x q b.0 x.placed.sections.constraints e.0.range.constraints in
      rw (b.0.same, k, constraints-at xs qs b.1 e.1) refl

  module _ (xs : List Valued) (qs : List Placed) (b : Both (Matched u) xs qs) (e : Each (Ready u I L) xs) where
    -- some composed bad is true exactly when some safety literal of some witness is
    pub bads-kept : any (value u) (literals_of safety qs) ≡ any unsafe xs
    bads-kept = any-set (value u) (words_of (translated_in safety) qs) ∙ any-words (translated_in safety) (value u) qs ∙ bads-at xs qs b e

    -- all composed constraints hold exactly when every constraint of every witness does
    pub constraints-kept : all (value u) (literals_of (λ s. s.constraints) qs) ≡ all constrained xs
    constraints-kept =
        all_set (value u) (words_of (translated_in (λ s. s.constraints)) qs) ∙ all_words (translated_in (λ s. s.constraints)) (value u) qs ∙ constraints-at xs qs b e

-- ---- latches

-- there is a composed latch for each entry
pub composed-latches-length : (x : ℕ) (es : List Entry) (ds : List Defined) → length (composed_latches x es ds) ≡ length es
composed-latches-length x [] ds = refl
composed-latches-length x (e ∷ es) ds = ap suc (composed-latches-length (suc x) es ds)

-- a latch has the literals of a definition
pub record IsDefined (q : NamedLatch) (d : Defined) : Type 0 where
  pub next : q.next ≡ d.next
  pub reset : q.reset ≡ d.reset

-- composed latch number k has those of the first definition of its variable
pub composed_latch_at : (x : ℕ) (es : List Entry) (ds : List Defined) (k : ℕ) → k < length es → IsDefined (get_or (composed_latches x es ds) k no_latch) (definition_of (x + k) ds)
composed_latch_at x [] ds k h = absurd (omega arith)
composed_latch_at x (e ∷ es) ds zero h = rw (add-zero x) (record { next = refl; reset = refl })
composed_latch_at x (e ∷ es) ds (suc k) h = rw (add-suc x k, ← suc-add x k) (composed_latch_at (suc x) es ds k (omega arith))

-- a definition is as the first one of its variable
abbrev pub Agreed : List Defined → Defined → Type 0
Agreed ds d = same_defined (definition_of d.variable ds) d ≡ true

-- definitions that agree have the same next literal
agreed_next : (a d : Defined) → same_defined a d ≡ true → a.next ≡ d.next
agreed_next a d h = eqb-true a.next d.next (and_left (eqb a.next d.next) (eqb a.reset d.reset) h)

-- and the same reset
agreed_reset : (a d : Defined) → same_defined a d ≡ true → a.reset ≡ d.reset
agreed_reset a d h = eqb-true a.reset d.reset (and_right (eqb a.next d.next) (eqb a.reset d.reset) h)

module _ (I L : ℕ) (u : Valuation) (ds : List Defined) (s : Sections) (h_i : length s.inputs ≡ I) (h_l : length s.latches ≡ L)
    (h_d : (k : ℕ) → k < L → IsDefined (get_or s.latches k no_latch) (definition_of (suc I + k) ds)) where
  module _ (x : Valued) (q : Placed) (t : Matched u x q) (r : Ready u I L x) where
    -- a latch of the witness keeps its next and reset value
    latch_kept : (y : ℕ) (c : NamedLatch) → length x.placed.sections.inputs < y → y < length x.placed.vars → LatchWithin (variables x.placed.sections) c
        → Agreed ds (record { variable = get_or q.vars y 0; next = translate q.vars c.next; reset = translate q.vars c.reset })
        → LatchKept s u x y c
    latch_kept y c h k w a =
        let z = r.seated.latch y h k in
        let here : get_or q.vars y 0 ≡ suc I + z.k = begins-at x.placed.vars q.vars t.begins y 0 k ∙ z.is in
        let d : Defined = record { variable = get_or q.vars y 0; next = translate q.vars c.next; reset = translate q.vars c.reset } in
        let f : Defined = definition_of (suc I + z.k) ds in
        let a' : same_defined f d ≡ true = rw here at a in
        let is = h_d z.k z.there in
        record {
          k = z.k;
          there = rw h_l z.there;
          is = rw h_i (z.is ∙ suc-add I z.k);
          next = rw (is.next, agreed_next f d a') (literal-kept u x q t c.next w.0);
          reset = rw (is.reset, agreed_reset f d a') (literal-kept u x q t c.reset w.1);
        }

    -- so do all its latches from variable y on
    latches-kept : (y : ℕ) (cs : List NamedLatch) → length x.placed.sections.inputs < y → y + length cs ≤ length x.placed.vars
        → Each (LatchWithin (variables x.placed.sections)) cs → Each (Agreed ds) (defined_from q.vars y cs) → LatchesKept s u x y cs
    latches-kept y [] h k w a = tt
    latches-kept y (c ∷ cs) h k w a = (latch_kept y c h (omega arith) w.0 a.0, latches-kept (suc y) cs (omega arith) (omega arith) w.1 a.1)

  -- each latch of each witness keeps its next and reset value, where all definitions of a latch are as its first
  pub all-latches-kept : (xs : List Valued) (qs : List Placed) → Both (Matched u) xs qs → Each (Ready u I L) xs → Each (Agreed ds) (all_defined qs)
      → Each (AllLatchesKept s u) xs
  all-latches-kept [] [] b e a = tt
  all-latches-kept [] (q ∷ qs) b e a = absurd b
  all-latches-kept (x ∷ xs) [] b e a = absurd b
  all-latches-kept (x ∷ xs) (q ∷ qs) b e a =
      let p : Placed = x.placed in
      let c = each-split (Agreed ds) (defined_in q) (all_defined qs) a in
      let mine : Each (Agreed ds) (defined_from q.vars (suc (length p.sections.inputs)) p.sections.latches) = rw b.0.same at c.0 in (
        latches-kept x q b.0 e.0 (suc (length p.sections.inputs)) p.sections.latches (omega arith) (omega (arith, e.0.seated.long)) e.0.range.latches mine,
        all-latches-kept xs qs b.1 e.1 c.1,
      )
