-- `Checking`: a section that is taken one line at a time, with what a test says of the items so far.
use Prim.Native.Nat.{ℕ, ◌+◌, ◌≤◌, ◌<◌}
use mathlib.Core.Bool.{Bool, true, ◌&&◌}
use mathlib.Core.List.{List, [], ◌∷◌, ◌++◌}
use mathlib.Core.Path.{◌≡◌, refl, sym, ◌∙◌}
use native.Mathlib.Omega.{arith}
use lib.ListN.{length, length-append}
use Rattle.lists.specs.Answer.{Answer, refused}
use Rattle.lists.specs.Parts.{Bytes}
use Rattle.lists.specs.Tests.{all_from}
use Rattle.lists.proofs.TestLaws.{all-from_snoc}
use Rattle.text.specs.Lines.{lines_of}
use Rattle.aiger.specs.Sections.{section}
use Rattle.aiger.proofs.SectionLaws.{Taking, taking-none, taking-more, taking_bad, taking-done}
use Rattle.circuit_lines.specs.Inner.Takes.{SectionTaken}
use Rattle.witness_read.specs.Inner.Passes.{Passed}

-- of n items, i are taken from the lines of s, the text p is left, and `fine` says whether they pass the test
pub record Checking {A : Type 0} (item : Bytes → Answer A) (test : List A → Bool) (s : Bytes) (n i : ℕ) (fine : Bool) (p : Bytes) : Type 0 where
  pub done : List A
  pub count : i ≡ length done
  pub taking : Taking item n (lines_of s) done (lines_of p)
  pub says : fine ≡ test done

module _ {A : Type 0} (item : Bytes → Answer A) (s : Bytes) (n : ℕ) where
  module _ (test : List A → Bool) where
    pub checking-none : true ≡ test [] → Checking item test s n 0 true s
    checking-none e = record { done = []; count = refl; taking = taking-none item n (lines_of s); says = e }

    module _ (i : ℕ) (fine : Bool) (p : Bytes) (k : Checking item test s n i fine p) where
      pub checking_bad : i < n → section item 1 (lines_of p) ≡ refused 8 → section item n (lines_of s) ≡ refused 8
      checking_bad h e = taking_bad item n (lines_of s) k.done (lines_of p) k.taking (omega (arith, k.count)) e

      pub checking-done : n ≤ i → Passed item test s n p fine
      checking-done h =
          record {
            items = k.done;
            takes = taking-done item n (lines_of s) k.done (lines_of p) k.taking (omega (arith, k.count));
            says = k.says;
          }

      -- one item more, where f says whether all pass with it
      more : i < n → (a : A) (e : Bytes) → SectionTaken item p 1 (a ∷ []) e → (f : Bool) → f ≡ test (k.done ++ a ∷ [])
          → Checking item test s n (i + 1) f e
      more h a e q f g =
          record {
            done = k.done ++ a ∷ [];
            count = omega (arith, k.count, length-append k.done (a ∷ []));
            taking = taking-more item n (lines_of s) k.done (lines_of p) k.taking (omega (arith, k.count)) a (lines_of e) q.section;
            says = g;
          }

  -- a test of each item by its number
  module _ (test : ℕ → A → Bool) (first i : ℕ) (fine : Bool) (p : Bytes) (k : Checking item (all_from test first) s n i fine p) where
    pub from_more : i < n → (a : A) (e : Bytes) → SectionTaken item p 1 (a ∷ []) e → (m : ℕ) → m ≡ first + i → (f : Bool) → f ≡ (fine && test m a)
        → Checking item (all_from test first) s n (i + 1) f e
    from_more h a e q m j f g =
        more (all_from test first) i fine p k h a e q f
        (g ∙ rw (k.says, j, k.count) (sym (all-from_snoc test first k.done a)))
