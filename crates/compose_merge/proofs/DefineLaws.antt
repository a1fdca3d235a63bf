-- Laws of the fifth pass: the latches are defined, or 18 applies.
use Rattle.std.specs.Prelude.{Option, Some, None}
use Rattle.std.specs.Prelude.{Err}
use Prim.Native.Nat.{ℕ, suc, ◌+◌, ◌-◌, ◌*◌, ◌/◌, ◌≤◌, ◌<◌}
use mathlib.Core.Bool.{Bool, true, false, cond}
use mathlib.Core.List.{List, [], ◌∷◌, map}
use mathlib.Core.Path.{◌≡◌, refl, sym, ap, ap₂, subst, ◌∙◌}
use native.Mathlib.Omega.{arith}
use lib.ListN.{length, get_or, take, drop}
use lib.Seq.{take_at, take-take}
use Rattle.lists.specs.Parts.{part, put, front}
use Rattle.lists.specs.Tests.{Each}
use Rattle.lists.specs.Words.{pairs_of}
use Rattle.lists.proofs.FirstLaws.{appearing-length}
use Rattle.lists.proofs.KeptLaws.{take-kept}
use Rattle.lists.proofs.PartLaws.{part_length, part_at, part_of_part, put_front}
use Rattle.lists.proofs.TestLaws.{each_at}
use Rattle.lists.proofs.WordLaws.{words-length}
use Rattle.witness_read.specs.Sections.{Sections}
use Rattle.witness_load.specs.Inner.Loaded.{latch_words}
use Rattle.compose_spec.specs.Numbering.{same_entry, latch_entries, input_firsts, latch_firsts, leaf_count}
use Rattle.compose_spec.specs.Sharing.{translate}
use Rattle.compose_spec.specs.Composing.{Defined, defined_from, all_defined, agree, whole, composed_latches, composed_gates, gates_fit}
use Rattle.compose_spec.proofs.KeepLaws.{composed-latches-length}
use Rattle.compose_joint.specs.declared.Literals.TheVariants as literals
use Rattle.compose_joint.specs.Inner.Joint.{total_of, latch_count, joint, list_of}
use Rattle.compose_joint.proofs.AmountLaws.{joint-latches-length, latch_entries_length}
use Rattle.compose_joint.proofs.VarsLaws.{joint-defined, defined_pairs}
use Rattle.compose_gates.specs.Inner.Latches.{InTurn, met_in, latch_from, defined_in, definitions_from, latch_variables}
use Rattle.compose_gates.proofs.CallLaws.{entries_in_turn, entries_met, composed-words}
use Rattle.compose_gather.specs.declared.Totals.{Totals}
use Rattle.compose_layout.specs.declared.Layout.{Layout}
use Rattle.compose_layout.specs.Inner.Laid.{Has, variable_total, Regions, OfSome}
use Rattle.aiger.specs.declared.Refusal.TheVariants as refusal
use Rattle.compose_merge.specs.Inner.Merged.{Plan, Base, Goes, latch_numbers, definition_words}
use Rattle.compose_merge.specs.Inner.Stages.{Clean, Shared, CanDefine, DefinesAll, GatesShared}
use Rattle.compose_merge.proofs.WordLaws.{part-has, has-at, clean-behind}
use Rattle.compose_merge.proofs.BaseLaws.{base_kept, Step}
use Rattle.compose_merge.proofs.LeafLaws.{latches_long}
use Rattle.compose_merge.proofs.JointLaws.{Joint, translatable, literals_in, literals-translated, shared_kept}

-- latches by their words, where their composed variables are `own`
pairs-defined : (vars : List ℕ) (x : ℕ) (own words : List ℕ) → length words ≡ 2 * length own → ((k : ℕ) → k < length own → get_or vars (x + k) 0 ≡ get_or own k 0)
    → defined_from vars x (pairs_of latch_from words) ≡ defined_pairs own (map (translate vars) words)
pairs-defined vars x [] [] n e = refl
pairs-defined vars x [] (u ∷ words) n e = absurd (omega arith)
pairs-defined vars x (y ∷ own) [] n e = absurd (omega arith)
pairs-defined vars x (y ∷ own) (u ∷ []) n e = absurd (omega arith)
pairs-defined vars x (y ∷ own) (u ∷ v ∷ words) n e =
    let z : x + 0 ≡ x = omega arith in
    ap₂ {C = List Defined} (λ w ds. record { variable = w; next = translate vars u; reset = translate vars v } ∷ ds)
    (ap (λ (k : ℕ). get_or vars k 0) (sym z) ∙ e 0 (omega arith))
    (pairs-defined vars (suc x) own words (omega arith)
    (λ k h.
    let s : suc x + k ≡ x + suc k = omega arith in
    ap (λ (j : ℕ). get_or vars j 0) s ∙ e (suc k) (omega arith)))

-- what the answer says of the test
differs_false : (b : Bool) (n : ℕ) → None ≡ cond b (Some n) None → b ≡ false
differs_false true n e = absurd (let z : ◌≡◌ {A = ℕ} 0 1 = cc in omega arith)
differs_false false n e = refl

-- and where there is a count
agreed_true : (b : Bool) (n q : ℕ) → Some q ≡ cond b (Some n) None → b ≡ true
agreed_true true n q e = refl
agreed_true false n q e = absurd (let z : ◌≡◌ {A = ℕ} 0 1 = cc in omega arith)

-- how many words the definitions need
pub definitions_long : (m : Sections) (ws : List Sections) → length (definition_words m ws) ≤ 2 * total_of latch_count ws
definitions_long m ws =
    let i : ℕ = suc (length (input_firsts m ws)) in
    omega (
      arith,
      words-length latch_words 2 (λ q. refl) (composed_latches i (latch_firsts m ws) (all_defined (whole m ws))),
      composed-latches-length i (latch_firsts m ws) (all_defined (whole m ws)),
      appearing-length same_entry [] (latch_entries m 0 ws),
      latch_entries_length m 0 ws,
    )

-- the latches are defined, and 18 does not apply
pub record LatchesDefined (at : Layout) (n k g : ℕ) (work : List ℕ) (m : Sections) (ws : List Sections) : Type 0 where
  pub base : Base at work m ws
  pub first : n ≡ suc (length (input_firsts m ws))
  pub next : k ≡ suc (leaf_count m ws)
  pub count : g ≡ length (composed_gates m ws)
  pub fits : gates_fit (leaf_count m ws) (composed_gates m ws) ≡ true
  pub agrees : agree (all_defined (whole m ws)) ≡ true
  pub shared : Shared at work m ws
  pub definitions : Has work at.definitions (definition_words m ws)
  pub bits : Clean work at.bad_bits at.end

module _ (t : Totals) (at : Layout) (first next g : ℕ) (work : List ℕ) where
  -- the words of the latches, and the composed variables
  abbrev ls : List ℕ
  ls = part work at.latches at.operands

  abbrev vs : List ℕ
  vs = part work at.vars at.gates

  -- where those of the latches begin
  abbrev own : ℕ
  own = 1 + t.inputs

  -- the definitions of all latches
  abbrev ds : List Defined
  ds = defined_in ls vs own

  module _ (m : Sections) (ws : List Sections) (k : GatesShared t at first next g work m ws) where
    -- what does not change
    abbrev plan : Plan at m ws
    plan = k.base.plan

    -- where everything stands
    abbrev places : Regions m ws at
    places = plan.regions

    -- the words up to the end of the definitions
    room : at.bad_bits ≤ length work
    room = omega (arith, places.constraint_bits, places.end, k.base.fits)

    -- how many joint latch words there are
    counted : 2 * t.latches ≡ length (joint (list_of literals.Latches) ws)
    counted = omega (arith, k.totals.latches, joint-latches-length ws)

    ls-end : at.operands ≡ at.latches + 2 * t.latches
    ls-end = omega (arith, places.operands, k.totals.latches)

    -- the words of the latches end before the definitions
    ahead : at.operands ≤ at.vars
    ahead = omega (arith, places.safety, places.constraints, places.input_origins, places.latch_origins, places.assigned, places.vars)

    ls-long : length ls ≡ 2 * t.latches
    ls-long = omega (arith, part_length work at.latches at.operands (omega (arith, ahead, places.gates, places.definitions, places.bad_bits, room)), ls-end)

    half : length ls / 2 ≡ t.latches
    half = omega (arith, ls-long)

    vs-long : length vs ≡ suc (variable_total ws)
    vs-long = omega (arith, part_length work at.vars at.gates (omega (arith, places.definitions, places.bad_bits, room)), places.gates)

    -- each names a joint variable
    named : (i : ℕ) → i < 2 * t.latches → Joint ws (get_or ls i 0)
    named i h =
        each_at (Joint ws) ls i 0
        (subst (λ (e : ℕ). Each (Joint ws) (part work at.latches e)) (sym ls-end)
        (literals_in at work m ws k.base k.shared literals.Latches at.latches (2 * t.latches) k.base.stands.latches counted))
        (omega (arith, ls-long))

    -- the numbers of the latches stand in their place
    own_has : Has work (at.vars + 1 + t.inputs) (latch_numbers m ws)
    own_has = rw k.totals.inputs k.shared.leaves.latches

    own-at : (j : ℕ) → j < length (latch_numbers m ws) → get_or vs (own + j) 0 ≡ get_or (latch_numbers m ws) j 0
    own-at j h =
        let n : at.vars + (own + j) ≡ at.vars + 1 + t.inputs + j = omega arith in
        part_at work at.vars at.gates (own + j) 0 (omega (arith, h, places.gates, latches_long m ws, k.totals.inputs))
        ∙ (ap (λ (i : ℕ). get_or work i 0) n ∙ has-at work (at.vars + 1 + t.inputs) (latch_numbers m ws) own_has j h)

    -- they are the words that are read
    own_are : latch_variables ls vs own ≡ latch_numbers m ws
    own_are =
        let n : at.vars + (own + length ls / 2) ≤ at.gates = omega (arith, half, places.gates, k.totals.inputs, k.totals.latches) in
        let a : at.vars + own ≡ at.vars + 1 + t.inputs = omega arith in
        let e : at.vars + (own + length ls / 2) ≡ at.vars + 1 + t.inputs + t.latches = omega (arith, half) in
        part_of_part work at.vars at.gates own (own + length ls / 2) n
        ∙ (ap₂ (λ (i j : ℕ). part work i j) a e
        ∙ part-has work (at.vars + 1 + t.inputs) (latch_numbers m ws) own_has t.latches (k.totals.latches ∙ sym (latches_long m ws)))

    -- it holds of the stage
    can : CanDefine at t first work
    can =
        record {
          latches = omega (arith, ls-end);
          ahead = omega (arith, ahead, places.gates, places.definitions);
          vars = omega (arith, places.gates);
          gates = omega (arith, places.definitions);
          definitions = omega (arith, places.bad_bits);
          fits = room;
          can =
              record {
                among = omega (arith, half, vs-long, k.totals.inputs, k.totals.latches);
                room = omega (arith, half, part_length work at.definitions at.bad_bits room, places.bad_bits, k.totals.latches);
                known = λ j h.
                    let small : at.gates ≤ length work = omega (arith, places.definitions, places.bad_bits, room) in (
                      (translatable at work m ws k.base k.shared at.gates (omega arith) small (get_or ls (2 * j) 0) (named (2 * j) (omega (arith, half)))).0,
                      (translatable at work m ws k.base k.shared at.gates (omega arith) small (get_or ls (2 * j + 1) 0) (named (2 * j + 1) (omega (arith, half)))).0,
                    );
                turns =
                    subst (InTurn first 0) (sym own_are)
                    (subst (λ (n : ℕ). InTurn n 0 (latch_numbers m ws)) (sym k.first) (entries_in_turn (suc (length (input_firsts m ws))) (latch_entries m 0 ws)));
              };
        }

    -- as many latches are met as the composition has
    met : met_in first 0 (latch_variables ls vs own) ≡ length (latch_firsts m ws)
    met = ap₂ (λ (n : ℕ) (l : List ℕ). met_in n 0 l) k.first own_are ∙ entries_met (suc (length (input_firsts m ws))) (latch_entries m 0 ws)

    -- the definitions are those of the witnesses
    defs : ds ≡ all_defined (whole m ws)
    defs =
        pairs-defined vs own (latch_numbers m ws) ls (omega (arith, ls-long, latches_long m ws, k.totals.latches)) own-at
        ∙ ap (defined_pairs (latch_numbers m ws))
        (ap (λ (e : ℕ). map (translate vs) (part work at.latches e)) ls-end
        ∙ literals-translated at work m ws k.base k.shared literals.Latches at.latches (2 * t.latches) k.base.stands.latches counted at.gates (omega arith))
        ∙ sym (joint-defined m ws plan.range)

    -- what is stored are the words of the composed latches
    stored : definitions_from first (met_in first 0 (latch_variables ls vs own)) ds ≡ definition_words m ws
    stored =
        ap₂ (λ (n c : ℕ). definitions_from n c ds) k.first met
        ∙ ap (λ (l : List Defined). definitions_from (suc (length (input_firsts m ws))) (length (latch_firsts m ws)) l) defs
        ∙ composed-words (all_defined (whole m ws)) (suc (length (input_firsts m ws))) (latch_firsts m ws)

  -- as the code asks for it
  pub definitions-can : OfSome (GatesShared t at first next g work) → CanDefine at t first work
  definitions-can s = can s.m s.ws s.holds

  module _ {work' : List ℕ} {r : Option ℕ} (post : DefinesAll at t first work work' r) where
    -- 18
    pub definitions_differ : r ≡ None → (work'' : List ℕ) → Goes (GatesShared t at first next g work) at work work'' (Err refusal.LatchConflict)
    definitions_differ e work'' =
        record {
          goes = λ m ws k rest.
              let f = sym (ap agree (defs m ws k)) ∙ differs_false (agree ds) (met_in first 0 (latch_variables ls vs own)) (sym e ∙ post.defines.returns) in
              rw (k.fits, f) refl;
        }

    module _ (same : length work' ≡ length work) {q : ℕ} (e : r ≡ Some q) where
      -- 18 does not apply
      agreed : agree ds ≡ true
      agreed = agreed_true (agree ds) (met_in first 0 (latch_variables ls vs own)) q (sym e ∙ post.defines.returns)

      module _ (m : Sections) (ws : List Sections) (k : GatesShared t at first next g work m ws) where
        -- there is room for the words of the definitions
        long : at.definitions + length (definition_words m ws) ≤ at.bad_bits
        long = omega (arith, definitions_long m ws, (places m ws k).bad_bits)

        -- they are stored
        is : part work' at.definitions at.bad_bits ≡ front (part work at.definitions at.bad_bits) (definition_words m ws)
        is = post.defines.stored agreed ∙ (ap (put (part work at.definitions at.bad_bits) 0) (stored m ws k) ∙ put_front (part work at.definitions at.bad_bits) (definition_words m ws))

        has : Has work' at.definitions (definition_words m ws)
        has =
            let n : at.definitions + length (definition_words m ws) - at.definitions ≡ length (definition_words m ws) = omega arith in
            let size : length (definition_words m ws) ≤ at.bad_bits - at.definitions = omega (arith, long) in
            record {
              room = omega (arith, long, room m ws k, same);
              is =
                  ap (λ (j : ℕ). take j (drop at.definitions work')) n
                  ∙ (sym (take-take (length (definition_words m ws)) (at.bad_bits - at.definitions) (drop at.definitions work') size)
                  ∙ (ap (take (length (definition_words m ws))) is
                  ∙ take_at (definition_words m ws) (drop (length (definition_words m ws)) (part work at.definitions at.bad_bits)) (length (definition_words m ws)) refl));
            }

        -- nothing in front of the assigned numbers is written
        before : take at.assigned work' ≡ take at.assigned work
        before = take-kept work' work at.definitions post.before at.assigned (omega (arith, (places m ws k).vars, (places m ws k).gates, (places m ws k).definitions))

        -- the next stage
        defined : LatchesDefined at first next g work' m ws
        defined =
            record {
              base = base_kept at work work' m ws before same k.base;
              first = k.first;
              next = k.next;
              count = k.count;
              fits = k.fits;
              agrees = sym (ap agree (defs m ws k)) ∙ agreed;
              shared = shared_kept at work work' m ws (places m ws k) post.before same k.shared;
              definitions = has;
              bits =
                  clean-behind work at.bad_bits at.end k.bits work' at.bad_bits at.bad_bits post.behind (omega arith) (omega arith)
                  (omega (arith, (places m ws k).constraint_bits, (places m ws k).end));
            }

      -- the pass as a step
      pub definitions-step : Step (GatesShared t at first next g work) (LatchesDefined at first next g work') at work work'
      definitions-step = record { next = defined; kept = before }
