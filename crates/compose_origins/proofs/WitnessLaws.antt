-- Laws of the origins of one witness.
use Rattle.std.specs.Prelude.{ℕ, ◌+◌, ◌-◌, ◌*◌, ◌≤◌, Option, Some, None}
use mathlib.Core.Bool.{Bool}
use mathlib.Core.List.{List, map, map-append, ◌++◌}
use mathlib.Core.Option.{some}
use mathlib.Core.Path.{◌≡◌, sym, ap, ◌∙◌, subst}
use native.Mathlib.Omega.{arith}
use lib.ListN.{length, take, drop, length-map, length-drop}
use lib.Seq.{take_at, drop_at, drop-drop, take-take, length-take-le}
use Rattle.lists.specs.Parts.{Bytes, part, put}
use Rattle.lists.proofs.KeptLaws.{part-within}
use Rattle.lists.specs.Words.{pairs_of}
use Rattle.lists.proofs.PartLaws.{drop-take, part_length}
use Rattle.lists.proofs.WordLaws.{pairs-take, pairs-drop}
use Rattle.witness_text.specs.declared.AagCounts.{AagCounts}
use Rattle.witness_read.specs.Sections.{Sections, leaves, latch_names, names_in}
use Rattle.witness_read.specs.Reading.{counts_in}
use Rattle.witness_load.specs.Inner.Loaded.{name_from, literal_words, word_count}
use Rattle.compose_spec.specs.declared.ModelLeaves.{ModelLeaves}
use Rattle.compose_spec.specs.Mapping.{maps_by_name}
use Rattle.compose_joint.specs.declared.Leaves.{Leaves}
use Rattle.compose_joint.specs.declared.Leaves.TheVariants as leaf
use Rattle.compose_joint.specs.Inner.Joint.{names_of, leaf_counts, names_before, origins_from}
use Rattle.compose_joint.proofs.AmountLaws.{origin-words}
use Rattle.compose_gather.specs.Inner.Gathered.{Block}
use Rattle.compose_gather.proofs.CountLaws.{counts-leaves, leaves-within}
use Rattle.compose_origins.specs.Inner.Mapped.{SaysNames, SayNames, AnyMapped, CanMap, OriginsIf, StoresOrigins, CanTest, TestsWitness, CanMapWitness, MapsWitness}

-- ---- the names among the words of a text

module _ (t : Bytes) (s : Sections) (w : List ℕ) (b : Block t s w) where
  -- the words of the names
  names-front : take (2 * leaves s) w ≡ b.name_words
  names-front =
      sym (take-take (2 * leaves s) (word_count s) w (omega arith))
      ∙ (ap (take (2 * leaves s)) b.stand ∙ take_at b.name_words (literal_words s) (2 * leaves s) b.count)

  all_say : pairs_of (name_from t) (take (2 * leaves s) w) ≡ map some (names_in s)
  all_say = ap (pairs_of (name_from t)) names-front ∙ b.names

  inputs-say : pairs_of (name_from t) (take (2 * length s.inputs) w) ≡ map some s.inputs
  inputs-say =
      ap (pairs_of (name_from t)) (sym (take-take (2 * length s.inputs) (2 * leaves s) w (omega arith)))
      ∙ (sym (pairs-take (name_from t) (length s.inputs) (take (2 * leaves s) w))
      ∙ (ap (take (length s.inputs)) (all_say ∙ map-append some s.inputs (latch_names s))
      ∙ take_at (map some s.inputs) (map some (latch_names s)) (length s.inputs) (length-map s.inputs some)))

  latches-say : pairs_of (name_from t) (take (2 * length s.latches) (drop (2 * length s.inputs) w)) ≡ map some (latch_names s)
  latches-say =
      let n : 2 * leaves s - 2 * length s.inputs ≡ 2 * length s.latches = omega arith in
      ap (pairs_of (name_from t)) (sym (drop-take (2 * length s.inputs) (2 * leaves s) w ∙ ap (λ (j : ℕ). take j (drop (2 * length s.inputs) w)) n))
      ∙ (sym (pairs-drop (name_from t) (length s.inputs) (take (2 * leaves s) w))
      ∙ (ap (drop (length s.inputs)) (all_say ∙ map-append some s.inputs (latch_names s))
      ∙ drop_at (map some s.inputs) (map some (latch_names s)) (length s.inputs) (length-map s.inputs some)))

-- ---- whether it maps by name

front-part : (work : List ℕ) (from n : ℕ) → part work from (from + n) ≡ take n (drop from work)
front-part work from n = let k : from + n - from ≡ n = omega arith in ap (λ (j : ℕ). take j (drop from work)) k

module _ (t : Bytes) (n : AagCounts) (work : List ℕ) (from : ℕ) where
  said : (s : Sections) → n ≡ counts_in s → Block t s (drop from work) → SaysNames t (part work from (from + 2 * (n.inputs + n.latches))) (names_in s)
  said s e b = rw e (ap (pairs_of (name_from t)) (front-part work from (2 * leaves s)) ∙ all_say t s (drop from work) b)

  pub witness-says : CanTest t n work from → SayNames t (part work from (from + 2 * (n.inputs + n.latches)))
  witness-says k = record { names = names_in k.sections; say = said k.sections k.counts k.block }

  pub witness_tested : (r : Bool) → AnyMapped t (part work from (from + 2 * (n.inputs + n.latches))) r → TestsWitness t n work from r
  witness_tested r a = record { tests = λ s e b. a (names_in s) (said s e b) }

-- ---- where the names of its inputs, or latches, are

leaves-say : (leaves : Leaves) (t : Bytes) (s : Sections) (work : List ℕ) (from : ℕ) → Block t s (drop from work)
    → SaysNames t (part work (from + names_before leaves (counts_in s)) (from + names_before leaves (counts_in s) + 2 * leaf_counts leaves (counts_in s))) (names_of leaves s)
leaves-say leaf.Inputs t s work from b =
    let z : from + 0 ≡ from = omega arith in
    ap (pairs_of (name_from t)) (ap (λ (j : ℕ). part work j (j + 2 * length s.inputs)) z ∙ front-part work from (2 * length s.inputs)) ∙ inputs-say t s (drop from work) b
leaves-say leaf.Latches t s work from b =
    ap (pairs_of (name_from t)) (front-part work (from + 2 * length s.inputs) (2 * length s.latches) ∙ ap (take (2 * length s.latches)) (sym (drop-drop (2 * length s.inputs) from work)))
    ∙ latches-say t s (drop from work) b

leaves-few : (leaves : Leaves) (n : AagCounts) → leaf_counts leaves n ≤ n.inputs + n.latches
leaves-few leaf.Inputs n = omega arith
leaves-few leaf.Latches n = omega arith

-- ---- its origins

module _ (p : ModelLeaves) (leaves : Leaves) (t : Bytes) (n : AagCounts) (work : List ℕ) (from w to : ℕ) where
  module _ (k : CanMapWitness p leaves t n work from w to) where
    pub witness_test : CanTest t n work from
    witness_test = record { sections = k.sections; counts = k.counts; block = k.block; room = omega (arith, k.behind, k.room) }

    module _ (names count : ℕ) (a : names ≡ from + names_before leaves n) (c : count ≡ leaf_counts leaves n) (front behind : List ℕ) (f : front ≡ take to work) (b : behind ≡ drop to work) where
      -- the words of the names, among those in front of the origins
      words : part front names (names + 2 * count) ≡ part work names (names + 2 * count)
      words =
          ap (λ (l : List ℕ). part l names (names + 2 * count)) f
          ∙ part-within work to names (names + 2 * count) (omega (arith, a, c, k.behind, leaves-within leaves n))

      say : (s : Sections) → n ≡ counts_in s → Block t s (drop from work) → SaysNames t (part front names (names + 2 * count)) (names_of leaves s)
      say s e d = ap (pairs_of (name_from t)) words ∙ rw (a, c, e) (leaves-say leaves t s work from d)

      -- as many words for origins
      there : length (take count behind) ≡ count
      there = ap (λ (l : List ℕ). length (take count l)) b ∙ length-take-le count (drop to work) (omega (arith, length-drop to work, k.room, c))

      pub witness-can : CanMap p t (part front names (names + 2 * count)) w (take count behind)
      witness-can =
          record {
            few = record { model = k.few.model; number = omega (arith, there, k.few.number, leaves-few leaves n) };
            witness = k.witness;
            names = record { names = names_of leaves k.sections; say = say k.sections k.counts k.block };
            count =
                ap length words
                ∙ (part_length work names (names + 2 * count) (omega (arith, a, c, k.behind, k.room, leaves-within leaves n)) ∙ omega (arith, there));
          }

      module _ (named : Bool) (tests : TestsWitness t n work from named) (os : List ℕ) where
        stored : (r : Option (Unit {0})) → StoresOrigins p t (part front names (names + 2 * count)) named w os r
            → (s : Sections) → n ≡ counts_in s → Block t s (drop from work) → OriginsIf r p w (maps_by_name s) (names_of leaves s) os
        stored r stores s e d = subst (λ (q : Bool). OriginsIf r p w q (names_of leaves s) os) (tests.tests s e d) (stores (names_of leaves s) (say s e d))

        pub witness_wrong : StoresOrigins p t (part front names (names + 2 * count)) named w os None → (work' : List ℕ) → MapsWitness p leaves t n work from w to work' None
        witness_wrong stores work' = record { maps = λ s e d. stored None stores s e d }

        placed : (xs : List ℕ) → length xs ≡ count → os ≡ xs → front ++ (os ++ drop count behind) ≡ put work to xs
        placed xs e q =
            rw (f, b, q)
            (ap (λ (l : List ℕ). take to work ++ (xs ++ l)) (drop-drop count to work ∙ ap (λ (j : ℕ). drop (to + j) work) (sym e)))

        pub witness-mapped : (u : Unit {0}) → StoresOrigins p t (part front names (names + 2 * count)) named w os (Some u)
            → MapsWitness p leaves t n work from w to (front ++ (os ++ drop count behind)) (Some (to + count))
        witness-mapped u stores =
            record {
              maps = λ s e d.
                  let o = stored (Some u) stores s e d in
                  let long : length (origins_from p w (maps_by_name s) 0 (names_of leaves s)) ≡ count =
                  origin-words p w (maps_by_name s) 0 (names_of leaves s) ∙ (sym (counts-leaves leaves s) ∙ (ap (leaf_counts leaves) (sym e) ∙ sym c)) in
                  (o.0, (placed (origins_from p w (maps_by_name s) 0 (names_of leaves s)) long o.1, ap (λ (j : ℕ). to + j) c));
            }
