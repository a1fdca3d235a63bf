-- Laws of the loops over the names that pairs of words say.
use Rattle.std.specs.Prelude.{Some, None}
use Prim.Native.Nat.{ℕ, zero, suc, ◌+◌, ◌*◌, ◌/◌, ◌≤◌, ◌<◌}
use mathlib.Core.Bool.{Bool, true, false, ◌||◌, ◌&&◌}
use mathlib.Core.List.{List, [], ◌∷◌}
use mathlib.Core.Option.{Option, some, none}
use mathlib.Core.Path.{◌≡◌, refl, sym, ap, ◌∙◌, subst}
use native.Mathlib.Numerals.{add-one}
use native.Mathlib.Omega.{arith}
use lib.ListN.{length, get_or, drop, set, length-map, get_or-map, drop_of_length-le}
use Rattle.lists.specs.Parts.{Bytes}
use Rattle.lists.specs.Tests.{any, all_from}
use Rattle.lists.proofs.PartLaws.{Copied, copied_none, copied_more, copied-done}
use Rattle.lists.proofs.RestLaws.{rest_more}
use Rattle.lists.proofs.WordLaws.{pairs-at, pairs-count}
use Rattle.witness_load.specs.Inner.Loaded.{name_from}
use Rattle.compose_spec.specs.declared.ModelLeaves.{ModelLeaves}
use Rattle.compose_spec.specs.declared.Mapping.{Mapping}
use Rattle.compose_spec.specs.Mapping.{is_mapped, mapping_of}
use Rattle.compose_spec.specs.Composing.{is_right, leaves_right}
use Rattle.compose_joint.proofs.AmountLaws.{origin-words}
use Rattle.compose_joint.specs.Inner.Joint.{origin_word, origins_from}
use Rattle.compose_gather.specs.Inner.Names.{NameWords, name_at}
use Rattle.compose_gather.proofs.ShiftLaws.{put-whole}
use Rattle.compose_gather.proofs.NameLaws.{Says, name_said}
use Rattle.compose_origins.specs.Inner.Mapped.{FewLeaves, SaysNames, SayNames, AnyMapped, CanMap, StoresOrigins}

-- ---- the names one by one

module _ (t : Bytes) (words : List ℕ) (names : List (Option Bytes)) (say : SaysNames t words names) where
  pub names-count : length names ≡ length words / 2
  names-count = sym (length-map names some) ∙ (ap length (sym say) ∙ pairs-count (name_from t) words)

  module _ (i : ℕ) (h : i < length words / 2) where
    pub names_at : name_from t (get_or words (2 * i) 0) (get_or words (2 * i + 1) 0) ≡ some (get_or names i none)
    names_at =
        sym (pairs-at (name_from t) words i 0 (some none) (omega arith))
        ∙ (ap (λ (l : List (Option (Option Bytes))). get_or l i (some none)) say ∙ get_or-map some names i none)

    -- what they say
    pub said : Says t (get_or words (2 * i) 0) (get_or words (2 * i + 1) 0) (get_or names i none)
    said = name_said t (get_or words (2 * i) 0) (get_or words (2 * i + 1) 0) (get_or names i none) names_at

    pub names-rest : drop i names ≡ get_or names i none ∷ drop (i + 1) names
    names-rest = rest_more names i none (omega (arith, names-count))

-- ---- whether one of them is mapped

-- none of the first i names is mapped
pub record Testing (t : Bytes) (words : List ℕ) (i : ℕ) : Type 0 where
  pub left : (names : List (Option Bytes)) → SaysNames t words names → any is_mapped names ≡ any is_mapped (drop i names)

pub testing-none : (t : Bytes) (words : List ℕ) → Testing t words 0
testing-none t words = record { left = λ names say. refl }

module _ (t : Bytes) (words : List ℕ) (i count : ℕ) (all : count ≡ length words / 2) (k : Testing t words i) where
  pub testing-end : count ≤ i → AnyMapped t words false
  testing-end h names say = sym (k.left names say ∙ ap (any is_mapped) (drop_of_length-le names {i = i} (omega (arith, names-count t words names say))))

  module _ (h : i < count) where
    pub testing-says : SayNames t words → NameWords t words (2 * i)
    testing-says s = record { there = omega arith; within = (said t words s.names s.say i (omega arith)).within }

    module _ (x : Option Bytes) (y : x ≡ name_at t words (2 * i)) (r : Bool) (e : r ≡ is_mapped x) where
      tested : (names : List (Option Bytes)) → SaysNames t words names → any is_mapped names ≡ (r || any is_mapped (drop (i + 1) names))
      tested names say =
          k.left names say ∙ (ap (any is_mapped) (names-rest t words names say i (omega arith))
          ∙ ap (λ (q : Bool). q || any is_mapped (drop (i + 1) names)) (sym (e ∙ ap is_mapped (y ∙ (said t words names say i (omega arith)).own))))

      pub testing-true : r ≡ true → AnyMapped t words true
      testing-true f names say = sym (tested names say ∙ rw f refl)

      pub testing-more : r ≡ false → Testing t words (i + 1)
      testing-more f = record { left = λ names say. tested names say ∙ ap (λ (q : Bool). q || any is_mapped (drop (i + 1) names)) f }

-- ---- the origins

module _ (p : ModelLeaves) (w : ℕ) (named : Bool) where
  pub origins-at : (j k : ℕ) (names : List (Option Bytes)) → k < length names → get_or (origins_from p w named j names) k 0 ≡ origin_word w (mapping_of p named (j + k) (get_or names k none))
  origins-at j k [] h = absurd (omega arith)
  origins-at j zero (name ∷ names) h = let z : j ≡ j + 0 = omega arith in ap (λ (n : ℕ). origin_word w (mapping_of p named n name)) z
  origins-at j (suc k) (name ∷ names) h =
      let z : suc j + k ≡ j + suc k = omega arith in
      origins-at (suc j) k names (omega arith) ∙ ap (λ (n : ℕ). origin_word w (mapping_of p named n (get_or names k none))) z

-- so many names are right, and their origins are stored
pub record StoringFor (p : ModelLeaves) (w : ℕ) (named : Bool) (os₀ os : List ℕ) (k : ℕ) (names : List (Option Bytes)) : Type 0 where
  pub right : all_from (λ j name. is_right (mapping_of p named j name)) k (drop k names) ≡ leaves_right p named names
  pub copied : Copied os₀ 0 (origins_from p w named 0 names) os k

pub record Storing (p : ModelLeaves) (t : Bytes) (words : List ℕ) (named : Bool) (w : ℕ) (os₀ os : List ℕ) (k : ℕ) : Type 0 where
  pub can : CanMap p t words w os₀
  pub passed : k ≤ length os₀
  pub each : (names : List (Option Bytes)) → SaysNames t words names → StoringFor p w named os₀ os k names

module _ (p : ModelLeaves) (t : Bytes) (words : List ℕ) (named : Bool) (w : ℕ) (os₀ : List ℕ) where
  -- as many names as words for origins
  as_many : CanMap p t words w os₀ → (names : List (Option Bytes)) → SaysNames t words names → length names ≡ length os₀
  as_many k names say = omega (arith, names-count t words names say, k.count)

  pub storing-none : CanMap p t words w os₀ → Storing p t words named w os₀ os₀ 0
  storing-none k =
      record {
        can = k;
        passed = omega arith;
        each = λ names say.
            record {
              right = refl;
              copied = copied_none os₀ 0 (origins_from p w named 0 names) (omega (arith, origin-words p w named 0 names, as_many k names say));
            };
      }

  module _ (os : List ℕ) (k : ℕ) (s : Storing p t words named w os₀ os k) where
    pub storing-end : length os₀ ≤ k → StoresOrigins p t words named w os (Some tt)
    storing-end h names say =
        let f = s.each names say in
        let n : length names ≡ length os₀ = as_many s.can names say in
        let o = origin-words p w named 0 names in (
          sym f.right ∙ ap (all_from (λ j name. is_right (mapping_of p named j name)) k) (drop_of_length-le names {i = k} (omega arith)),
          copied-done os₀ 0 (origins_from p w named 0 names) os k f.copied (omega (arith, o)) ∙ put-whole os₀ (origins_from p w named 0 names) (o ∙ n),
        )

    module _ (less : k < length os₀) where
      says : (names : List (Option Bytes)) → SaysNames t words names → Says t (get_or words (2 * k) 0) (get_or words (2 * k + 1) 0) (get_or names k none)
      says names say = said t words names say k (omega (arith, s.can.count))

      pub storing-few : FewLeaves p k
      storing-few = record { model = s.can.few.model; number = omega (arith, s.can.few.number) }

      pub storing-says : NameWords t words (2 * k)
      storing-says = record { there = omega (arith, s.can.count); within = (says s.can.names.names s.can.names.say).within }

      module _ (x : Option Bytes) (y : x ≡ name_at t words (2 * k)) (m : Mapping) (e : m ≡ mapping_of p named k x) where
        mapping-is : (names : List (Option Bytes)) → SaysNames t words names → m ≡ mapping_of p named k (get_or names k none)
        mapping-is names say = e ∙ ap (mapping_of p named k) (y ∙ (says names say).own)

        tested_right : (names : List (Option Bytes)) → SaysNames t words names
            → (is_right m && all_from (λ j name. is_right (mapping_of p named j name)) (k + 1) (drop (k + 1) names)) ≡ leaves_right p named names
        tested_right names say =
            ap (λ (q : Mapping). is_right q && all_from (λ j name. is_right (mapping_of p named j name)) (k + 1) (drop (k + 1) names)) (mapping-is names say)
            ∙ (ap (λ (i : ℕ). is_right (mapping_of p named k (get_or names k none)) && all_from (λ j name. is_right (mapping_of p named j name)) i (drop (k + 1) names)) (add-one k)
            ∙ (sym (ap (all_from (λ j name. is_right (mapping_of p named j name)) k) (names-rest t words names say k (omega (arith, s.can.count)))) ∙ (s.each names say).right))

        pub storing_wrong : (is_right m ≡ true → ⊥) → StoresOrigins p t words named w os None
        storing_wrong f names say =
            sym (tested_right names say) ∙ ap (λ (z : Bool). z && all_from (λ j name. is_right (mapping_of p named j name)) (k + 1) (drop (k + 1) names)) (wrong (is_right m) f)
          where
            wrong : (b : Bool) → (b ≡ true → ⊥) → b ≡ false
            wrong true n = absurd (n refl)
            wrong false n = refl

        pub storing-more : is_right m ≡ true → (v : ℕ) → v ≡ origin_word w m → Storing p t words named w os₀ (set os k v) (k + 1)
        storing-more f v g = record { can = s.can; passed = omega arith; each = λ names say. stored names say }
          where
            stored : (names : List (Option Bytes)) → SaysNames t words names → StoringFor p w named os₀ (set os k v) (k + 1) names
            stored names say =
                let n : length names ≡ length os₀ = as_many s.can names say in
                let here : 0 + k ≡ k = omega arith in
                let z : v ≡ get_or (origins_from p w named 0 names) k 0 =
                g ∙ (ap (origin_word w) (mapping-is names say ∙ ap (λ (j : ℕ). mapping_of p named j (get_or names k none)) (sym here)) ∙ sym (origins-at p w named 0 k names (omega arith))) in
                record {
                  right = ap (λ (z : Bool). z && all_from (λ j name. is_right (mapping_of p named j name)) (k + 1) (drop (k + 1) names)) (sym f) ∙ tested_right names say;
                  copied =
                      rw z
                      (subst (λ (j : ℕ). Copied os₀ 0 (origins_from p w named 0 names) (set os j (get_or (origins_from p w named 0 names) k 0)) (k + 1)) here
                      (copied_more os₀ 0 (origins_from p w named 0 names) os k (s.each names say).copied 0 (omega (arith, origin-words p w named 0 names))));
                }
