-- The composition of accepted witnesses can be printed and read: literals in range, sizes, names.
use Prim.Native.Nat.{ℕ, suc, ◌+◌, ◌*◌, ◌≤◌}
use mathlib.Core.Bool.{Bool, true, false, cond}
use mathlib.Core.List.{List, [], ◌∷◌, map}
use mathlib.Core.Option.{Option, some, none}
use mathlib.Core.Path.{◌≡◌, refl, ap, ◌∙◌, subst}
use native.Mathlib.Omega.{arith}
use lib.Dec.{leb, eqb}
use lib.ListN.{length, length-append}
use borrow.Author.Tests.{leb-true, le-leb}
use Rattle.lists.specs.Parts.{Bytes}
use Rattle.lists.specs.Tests.{all, Each}
use Rattle.lists.specs.Words.{words_of}
use Rattle.lists.proofs.FirstLaws.{begins_self, appearing-length, each-appearing}
use Rattle.lists.proofs.SetLaws.{all_set, set-length}
use Rattle.lists.proofs.TestLaws.{all_of_each, each_of_all, each-so, each_map, each-any, each_append}
use Rattle.lists.proofs.WordLaws.{each-words}
use Rattle.aiger.specs.Gates.{variable}
use Rattle.text_decimal.specs.Decimal.{decimal}
use Rattle.witness_read.specs.Sections.{NamedLatch, Sections, variables, latch_names}
use Rattle.compose_spec.specs.declared.ModelLeaves.{ModelLeaves}
use Rattle.compose_spec.specs.declared.Mapping.{Mapping}
use Rattle.compose_spec.specs.declared.Mapping.TheVariants.{Private, Onto, Wrong}
use Rattle.compose_spec.specs.Mapping.{equals, maps_by_name, mapping_of, model_inputs, model_latches}
use Rattle.compose_spec.specs.Numbering.{Entry, same_entry, private_input, private_latch, private_name, entry_of, entries_from, inputs_in, latches_in, input_entries, latch_entries, input_firsts, latch_firsts, Placed, placed, leaf_count}
use Rattle.compose_spec.specs.Sharing.{translate, Operands, gates_from}
use Rattle.compose_spec.specs.Composing.{composed_gates, whole, gates_fit, Defined, defined_from, defined_in, all_defined, definition_of, composed_latches, safety, literals_of, composed}
use Rattle.compose_spec.specs.Inner.Ranges.{Within, LatchWithin, InRange}
use Rattle.compose_spec.proofs.ShareLaws.{Low}
use Rattle.compose_spec.proofs.PlacedLaws.{inputs_in_length, latches_in_length, placed-seated}
use Rattle.compose_spec.proofs.WholeLaws.{whole-low}
use Rattle.compose_spec.proofs.MeaningLaws.{composed-leaves, composed-gates}
use Rattle.compose_spec.proofs.NameLaws.{Plain, PlainName, Granted}
use Rattle.compose_spec.proofs.BodyLaws.{Small}
use Rattle.compose_spec.proofs.PlainLaws.{decimal-plain, plain_append}
use Rattle.compose_spec.proofs.BackLaws.{Printable}

-- ---- literals in range

module _ (m : ℕ) where
  -- every composed variable of a witness is at most m
  abbrev LowIn : Placed → Type 0
  LowIn q = Low (suc m) q.vars

  -- a translated literal is in range
  translate-within : (vars : List ℕ) → Low (suc m) vars → (l : ℕ) → Within m (translate vars l)
  translate-within vars h l = omega (arith, h (variable l))

  -- a list of each witness in the literals of the composition
  abbrev translated_all : (Sections → List ℕ) → List Placed → List ℕ
  translated_all list qs = words_of (λ q. map (translate q.vars) (list q.sections)) qs

  -- so are all of them
  all-within : (list : Sections → List ℕ) (qs : List Placed) → Each LowIn qs → all (λ l. leb l (2 * m + 1)) (translated_all list qs) ≡ true
  all-within list qs e =
      all_of_each (λ l. leb l (2 * m + 1)) (translated_all list qs)
      (each-words (λ q. map (translate q.vars) (list q.sections)) (λ l. leb l (2 * m + 1) ≡ true) qs
      (each-so LowIn (λ q. Each (λ l. leb l (2 * m + 1) ≡ true) (map (translate q.vars) (list q.sections)))
      (λ q h. each_map (translate q.vars) (λ l. leb l (2 * m + 1) ≡ true) (list q.sections)
      (each-any (λ l. leb (translate q.vars l) (2 * m + 1) ≡ true) (λ l. le-leb (translate q.vars l) (2 * m + 1) (translate-within q.vars h l)) (list q.sections)))
      qs e))

  -- and those of the ascending set
  literals-within : (list : Sections → List ℕ) (qs : List Placed) → Each LowIn qs → Each (Within m) (literals_of list qs)
  literals-within list qs e =
      each-so (λ l. leb l (2 * m + 1) ≡ true) (Within m) (λ l h. leb-true l (2 * m + 1) h) (literals_of list qs)
      (each_of_all (λ l. leb l (2 * m + 1)) (literals_of list qs) (all_set (λ l. leb l (2 * m + 1)) (translated_all list qs) ∙ all-within list qs e))

  -- so they are at most 2m + 2
  literals-few : (list : Sections → List ℕ) (qs : List Placed) → Each LowIn qs → length (literals_of list qs) ≤ suc (2 * m + 1)
  literals-few list qs e = set-length (2 * m + 1) (translated_all list qs) (all-within list qs e)

  -- the literals of a definition
  abbrev DefinedWithin : Defined → Type 0
  DefinedWithin d = Within m d.next × Within m d.reset

  -- the definitions of a witness's latches are in range
  defined-within : (vars : List ℕ) → Low (suc m) vars → (x : ℕ) (cs : List NamedLatch) → Each DefinedWithin (defined_from vars x cs)
  defined-within vars h x [] = tt
  defined-within vars h x (c ∷ cs) = ((translate-within vars h c.next, translate-within vars h c.reset), defined-within vars h (suc x) cs)

  -- so are those of all witnesses
  all-defined-within : (qs : List Placed) → Each LowIn qs → Each DefinedWithin (all_defined qs)
  all-defined-within qs e =
      each-words defined_in DefinedWithin qs
      (each-so LowIn (λ q. Each DefinedWithin (defined_in q)) (λ q h. defined-within q.vars h (suc (length q.sections.inputs)) q.sections.latches) qs e)

  -- and the first of a variable
  definition_within : (x : ℕ) (ds : List Defined) → Each DefinedWithin ds → DefinedWithin (definition_of x ds)
  definition_within x [] e = (omega arith, omega arith)
  definition_within x (d ∷ ds) e = go (eqb d.variable x) (definition_within x ds e.1)
    where
      go : (q : Bool) → DefinedWithin (definition_of x ds) → DefinedWithin (cond q d (definition_of x ds))
      go true ih = e.0
      go false ih = ih

  -- so the composed latches are
  latches-within : (x : ℕ) (es : List Entry) (ds : List Defined) → Each DefinedWithin ds → Each (LatchWithin m) (composed_latches x es ds)
  latches-within x [] ds e = tt
  latches-within x (y ∷ es) ds e = (definition_within x ds e, latches-within (suc x) es ds e)

-- ---- sizes

-- as many gates as operands
pub gates-length : (n : ℕ) (gs : List Operands) → length (gates_from n gs) ≡ length gs
gates-length n [] = refl
gates-length n (g ∷ gs) = ap suc (gates-length (suc n) gs)

-- 2,000,000 inputs and latches at most for each witness
entries_most : (m : Sections) (w : ℕ) (ws : List Sections) → Each Granted ws → length (input_entries m w ws) + length (latch_entries m w ws) ≤ 2000000 * length ws
entries_most m w [] g = omega arith
entries_most m w (s ∷ ss) g =
    omega (
      arith,
      entries_most m (suc w) ss g.1,
      g.0.most,
      length-append (inputs_in m w s) (input_entries m (suc w) ss),
      length-append (latches_in m w s) (latch_entries m (suc w) ss),
      inputs_in_length m w s,
      latches_in_length m w s,
    )

-- 2,000,000 gates at most, where 17 does not apply
gates-most : (leaves : ℕ) (gs : List Operands) → gates_fit leaves gs ≡ true → length gs ≤ 2000000
gates-most leaves [] h = omega arith
gates-most leaves (g ∷ gs) h = omega (arith, leb-true (leaves + length (g ∷ gs)) 2000000 h)

-- ---- names

-- a private name is plain
private_plain : (unnamed : Bytes) → Plain unnamed → (w : ℕ) (name : Option Bytes) → PlainName name → Plain (private_name unnamed w name)
private_plain unnamed u w none h = plain_append (decimal w) (58 ∷ unnamed) (decimal-plain w) u
private_plain unnamed u w (some x) h = plain_append (decimal w) (58 ∷ x) (decimal-plain w) h

-- so is the name of an entry
entry-plain : (unnamed : Bytes) → Plain unnamed → (w k : ℕ) (name : Option Bytes) → PlainName name → (t : Mapping) → Plain (entry_of unnamed w k name t).name
entry-plain unnamed u w k name h (Onto l) = plain_append equals (decimal l) refl (decimal-plain l)
entry-plain unnamed u w k name h Private = private_plain unnamed u w name h
entry-plain unnamed u w k name h Wrong = private_plain unnamed u w name h

-- an entry whose name is plain
abbrev Named : Entry → Type 0
Named e = Plain e.name

-- so are those of all entries of a witness
entries_plain : (p : ModelLeaves) (unnamed : Bytes) → Plain unnamed → (w : ℕ) (named : Bool) (k : ℕ) (names : List (Option Bytes)) → Each PlainName names
    → Each Named (entries_from p unnamed w named k names)
entries_plain p unnamed u w named k [] e = tt
entries_plain p unnamed u w named k (x ∷ xs) e = (entry-plain unnamed u w k x e.0 (mapping_of p named k x), entries_plain p unnamed u w named (suc k) xs e.1)

-- so are those of all witnesses' inputs
inputs-plain : (m : Sections) (w : ℕ) (ws : List Sections) → Each Granted ws → Each Named (input_entries m w ws)
inputs-plain m w [] g = tt
inputs-plain m w (s ∷ ss) g =
    each_append Named (inputs_in m w s) (input_entries m (suc w) ss) (entries_plain (model_inputs m) private_input refl w (maps_by_name s) 0 s.inputs g.0.input_names)
    (inputs-plain m (suc w) ss g.1)

-- and of all their latches
latches-plain : (m : Sections) (w : ℕ) (ws : List Sections) → Each Granted ws → Each Named (latch_entries m w ws)
latches-plain m w [] g = tt
latches-plain m w (s ∷ ss) g =
    each_append Named (latches_in m w s) (latch_entries m (suc w) ss) (entries_plain (model_latches m) private_latch refl w (maps_by_name s) 0 (latch_names s) g.0.latch_names)
    (latches-plain m (suc w) ss g.1)

-- the composed latches have the names of the first ones
latch_names_lem : (x : ℕ) (es : List Entry) (ds : List Defined) → Each Named es → Each PlainName (map (λ q. q.name) (composed_latches x es ds))
latch_names_lem x [] ds e = tt
latch_names_lem x (y ∷ es) ds e = (e.0, latch_names_lem (suc x) es ds e.1)

-- ---- all of it

module _ (m : Sections) (ws : List Sections) (g : Each Granted ws) (few : length ws ≤ 64) (fit : gates_fit (leaf_count m ws) (composed_gates m ws) ≡ true) where
  -- M of the composition
  abbrev most : ℕ
  most = variables (composed m ws)

  -- it is the number of inputs, latches and gates
  most-is : most ≡ leaf_count m ws + length (composed_gates m ws)
  most-is = rw (composed-leaves m ws, gates-length (suc (leaf_count m ws)) (composed_gates m ws))

  -- every composed variable is at most M
  lows : Each (LowIn most) (whole m ws)
  lows =
      let e : suc (leaf_count m ws) + length (composed_gates m ws) ≡ suc most = omega (arith, most-is) in
      subst (λ (n : ℕ). Each (λ q. Low n q.vars) (whole m ws)) e
      (whole-low (length (input_firsts m ws)) (length (latch_firsts m ws)) (placed m ws) [] (composed_gates m ws) (placed-seated m ws) tt (begins_self (composed_gates m ws)))

  -- the literals of the composition are in range
  composed-range : InRange (composed m ws)
  composed-range =
      record {
        gates = composed-gates m ws;
        latches = latches-within most (suc (length (input_firsts m ws))) (latch_firsts m ws) (all_defined (whole m ws)) (all-defined-within most (whole m ws) lows);
        outputs = tt;
        bads = literals-within most safety (whole m ws) lows;
        constraints = literals-within most (λ s. s.constraints) (whole m ws) lows;
      }

  -- M is far below 2^64
  most-small : Small (2 * suc most)
  most-small =
      omega (
        arith,
        most-is,
        entries_most m 0 ws g,
        appearing-length same_entry [] (input_entries m 0 ws),
        appearing-length same_entry [] (latch_entries m 0 ws),
        gates-most (leaf_count m ws) (composed_gates m ws) fit,
      )

  -- the composition of at most 64 accepted witnesses can be printed where 17 does not apply
  pub composed-printable : Printable (composed m ws)
  composed-printable =
      record {
        range = composed-range;
        small = most-small;
        outputs = omega arith;
        bads = omega (arith, most-small, literals-few most safety (whole m ws) lows);
        constraints = omega (arith, most-small, literals-few most (λ s. s.constraints) (whole m ws) lows);
        input_names = each_map (λ e. some e.name) PlainName (input_firsts m ws) (each-appearing same_entry Named [] (input_entries m 0 ws) tt (inputs-plain m 0 ws g));
        latch_names =
            latch_names_lem (suc (length (input_firsts m ws))) (latch_firsts m ws) (all_defined (whole m ws))
            (each-appearing same_entry Named [] (latch_entries m 0 ws) tt (latches-plain m 0 ws g));
      }
