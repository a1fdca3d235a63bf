-- Sections stored as they are taken, two words an item.
use Prim.Native.Nat.{ℕ, ◌+◌, ◌-◌, ◌*◌, ◌≤◌, ◌<◌}
use mathlib.Core.List.{List, [], ◌∷◌, ◌++◌, append-nil}
use mathlib.Core.Path.{◌≡◌, refl, ap, ◌∙◌}
use native.Mathlib.Nat.{zero-add}
use native.Mathlib.Omega.{arith}
use borrow.Rule.Slice.PartMut.{put_mid}
use lib.ListN.{length, take, length-append, drop_of_length-le}
use lib.Seq.{drop-drop}
use Rattle.lists.specs.Answer.{Answer, refused}
use Rattle.lists.specs.Parts.{Bytes, put, front}
use Rattle.lists.specs.Words.{words_of}
use Rattle.lists.proofs.PartLaws.{put-put}
use Rattle.lists.proofs.WordLaws.{words_append, words-length}
use Rattle.text.specs.Lines.{lines_of}
use Rattle.text.specs.Inner.Fronts.{Behind}
use Rattle.text.proofs.LineLaws.{behind-none, behind_then}
use Rattle.aiger.specs.Sections.{section}
use Rattle.aiger.proofs.SectionLaws.{Taking, taking-none, taking-more, taking_bad, taking-done}
use Rattle.circuit_lines.specs.Inner.Takes.{SectionTaken}
use Rattle.witness_load.specs.Inner.Loading.{Stored}

-- the part `&mut o[at..at + 2]`, given back with the words b
pub pair_back : (o : List ℕ) (at : ℕ) (b : List ℕ) → length b ≡ 2 → put_mid at (at + 2 - at) o b ≡ put o at b
pair_back o at b h =
    let two : at + 2 - at ≡ 2 = omega arith in
    rw (two, h) (ap (λ (l : List ℕ). take at o ++ (b ++ l)) (drop-drop 2 at o))

-- i items are taken, and their words stand in front of what was in o₀
pub record Loading {A : Type 0} (item : Bytes → Answer A) (words : A → List ℕ) (s : Bytes) (n : ℕ) (o₀ o : List ℕ) (p : Bytes) (i : ℕ) : Type 0 where
  pub items : List A
  pub count : i ≡ length items
  pub taking : Taking item n (lines_of s) items (lines_of p)
  pub behind : Behind s p
  pub stand : o ≡ front o₀ (words_of words items)

module _ {A : Type 0} (item : Bytes → Answer A) (words : A → List ℕ) (s : Bytes) (n : ℕ) (o₀ : List ℕ) where
  pub loading-none : Loading item words s n o₀ o₀ s 0
  loading-none = record { items = []; count = refl; taking = taking-none item n (lines_of s); behind = behind-none s; stand = refl }

  module _ (o : List ℕ) (p : Bytes) (i : ℕ) (k : Loading item words s n o₀ o p i) where
    pub loading-more : ((x : A) → length (words x) ≡ 2) → i < n → (a : A) (p' : Bytes) → SectionTaken item p 1 (a ∷ []) p'
        → (o' : List ℕ) → o' ≡ put o (2 * i) (words a) → Loading item words s n o₀ o' p' (i + 1)
    loading-more w h a p' e o' q =
        let ws : List ℕ = words_of words k.items in
        let m : 2 * i ≡ length ws = omega (arith, words-length words 2 w k.items, k.count) in
        let join : words_of words (k.items ++ a ∷ []) ≡ ws ++ words a = words_append words k.items (a ∷ []) ∙ ap (λ (l : List ℕ). ws ++ l) (append-nil (words a)) in
        record {
          items = k.items ++ a ∷ [];
          count = rw (length-append k.items (a ∷ [])) (omega (arith, k.count));
          taking = taking-more item n (lines_of s) k.items (lines_of p) k.taking (omega (arith, k.count)) a (lines_of p') e.section;
          behind = behind_then s p p' k.behind e.behind;
          stand = q ∙ rw (k.stand, m, join) (simp zero-add at (put-put o₀ 0 ws (omega arith) (words a)));
        }

    pub loading_bad : i < n → section item 1 (lines_of p) ≡ refused 8 → section item n (lines_of s) ≡ refused 8
    loading_bad h e = taking_bad item n (lines_of s) k.items (lines_of p) k.taking (omega (arith, k.count)) e

    pub loading-done : ((x : A) → length (words x) ≡ 2) → length o₀ ≡ 2 * n → n ≤ i → Stored item words s n o p
    loading-done w g h =
        let size : length (words_of words k.items) ≡ 2 * length k.items = words-length words 2 w k.items in
        record {
          items = k.items;
          takes = taking-done item n (lines_of s) k.items (lines_of p) k.taking (omega (arith, k.count));
          behind = k.behind;
          stand = k.stand ∙ rw (drop_of_length-le o₀ {i = length (words_of words k.items)} (omega (arith, size, k.count, g))) (append-nil (words_of words k.items));
        }
