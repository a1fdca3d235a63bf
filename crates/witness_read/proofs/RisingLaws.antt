-- Inputs and latches that are named in their order: none is named twice.
use Rattle.std.specs.Prelude.{ℕ, ◌+◌, ◌≤◌, ◌<◌, Option, Some, None, Result}
use Rattle.std.specs.Borrow.{Bor}
use Rattle.std.specs.Result.{IsErrAnd}
use Rattle.std.proofs.Common.{◌⊎◌, inl, inr}
use mathlib.Core.Bool.{Bool, true, false}
use mathlib.Core.List.{List, [], ◌∷◌, ◌++◌, append-nil}
use mathlib.Core.Path.{◌≡◌, refl, ◌∙◌}
use native.Mathlib.Omega.{arith}
use Rattle.lists.specs.Parts.{Bytes}
use Rattle.lists.specs.Sets.{distinct}
use Rattle.lists.specs.Tests.{Each}
use Rattle.lists.proofs.BoolLaws.{and_both}
use Rattle.lists.proofs.DistinctLaws.{distinct-above}
use Rattle.lists.proofs.TestLaws.{each_append, each-so}
use Rattle.text.specs.Texts.{limited}
use Rattle.aiger.specs.declared.Refusal.{Refusal}
use Rattle.aiger.specs.Refusals.{refusal_number}
use Rattle.witness_text.specs.declared.AagCounts.{AagCounts}
use Rattle.witness_text.specs.declared.Kind.{Kind}
use Rattle.witness_text.specs.declared.Kind.TheVariants as kind
use Rattle.witness_text.specs.Header.{counted}
use Rattle.witness_text.specs.Symbols.{Symbol, count_of}
use Rattle.witness_text.proofs.CountLaws.{counts-leaves}
use Rattle.witness_text.specs.declared.SymbolLine.{SymbolLine}
use Rattle.witness_read.specs.Names.{is_input, is_latch, indices_of}
use Rattle.witness_read.specs.Inner.Passes.{TakenSymbol, BadSymbol, Follows, PassedSymbols, ChecksSymbols}
use Rattle.witness_read.proofs.SymbolSetLaws.{indices_append}
use Rattle.witness_read.proofs.TailLaws.{index_below, Begun, begun_none, begun_end, begun_bad, begun_more}

-- the indices of a kind rise, and the next one is at least k
record Rises (is : Kind → Bool) (k : ℕ) (ss : List Symbol) : Type 0 where
  once : distinct (indices_of is ss) ≡ true
  below : Each (λ x. x < k) (indices_of is ss)

module _ (is : Kind → Bool) (k : ℕ) (ss : List Symbol) (r : Rises is k ss) (s : Symbol) where
  -- a symbol of another kind
  rises-other : is s.kind ≡ false → Rises is k (ss ++ s ∷ [])
  rises-other e =
      let same : indices_of is (ss ++ s ∷ []) ≡ indices_of is ss = indices_append is ss (s ∷ []) ∙ rw e (append-nil (indices_of is ss)) in
      record { once = rw same r.once; below = rw same r.below }

  -- one of this kind whose index is not smaller than the next one
  rises-more : is s.kind ≡ true → k ≤ s.index → Rises is (s.index + 1) (ss ++ s ∷ [])
  rises-more e h =
      let more : indices_of is (ss ++ s ∷ []) ≡ indices_of is ss ++ s.index ∷ [] = indices_append is ss (s ∷ []) ∙ rw e refl in
      record {
        once = rw more (distinct-above k s.index (indices_of is ss) r.below h r.once);
        below =
            rw more
            (each_append (λ x. x < s.index + 1) (indices_of is ss) (s.index ∷ [])
            (each-so (λ x. x < k) (λ x. x < s.index + 1) (λ x b. omega arith) (indices_of is ss) r.below)
            (omega arith, tt));
      }

-- the symbols so far name inputs and latches in their order; the next input is at least i, the next latch at least l
pub record InOrder (s : Bytes) (n : AagCounts) (i l : ℕ) (p : Bytes) : Type 0 where
  done : List Symbol
  inputs : Rises is_input i done
  latches : Rises is_latch l done
  begun : Begun s n done p

pub order-none : (s : Bytes) (n : AagCounts) → InOrder s n 0 0 s
order-none s n = record { done = []; inputs = record { once = refl; below = tt }; latches = record { once = refl; below = tt }; begun = begun_none s n }

module _ (s : Bytes) (n : AagCounts) (i l : ℕ) (p : Bytes) (k : InOrder s n i l p) where
  pub order-bad : (m : Refusal) → BadSymbol p n (refusal_number m) → (r : Result (Bor Bytes) Refusal) → IsErrAnd r (λ j. j ≡ m) → ChecksSymbols s n r
  order-bad m b r e = begun_bad s n k.done p k.begun m b r e

  module _ (o : Option SymbolLine) (x : Bytes) (t : Follows p n o x) where
    pub order-end : o ≡ None → PassedSymbols s n x
    order-end e =
        begun_end s n k.done p k.begun
        (and_both (distinct (indices_of is_input k.done)) (distinct (indices_of is_latch k.done)) k.inputs.once k.latches.once)
        x (t.ends e)

    module _ (y : SymbolLine) (e : o ≡ Some y) where
      this : TakenSymbol p n y.kind y.index x
      this = t.taken y e

      abbrev one : Symbol
      one = record { kind = y.kind; index = y.index; name = this.name }

      after : Begun s n (k.done ++ one ∷ []) x
      after = begun_more s n k.done p k.begun y.kind y.index x this

      -- the next index is a word
      module _ (h : counted limited n ≡ true) where
        leaf_fits : count_of n y.kind ≤ n.inputs + n.latches → y.index + 1 < 18446744073709551616
        leaf_fits most = omega (arith, index_below p n o x t y e, counts-leaves n h)

        pub input-fits : y.kind ≡ kind.Input → y.index + 1 < 18446744073709551616
        input-fits q = leaf_fits (rw q (omega arith))

        pub latch_fits : y.kind ≡ kind.Latch → y.index + 1 < 18446744073709551616
        latch_fits q = leaf_fits (rw q (omega arith))

      pub order-input : y.kind ≡ kind.Input → i ≤ y.index → InOrder s n (y.index + 1) l x
      order-input q h =
          record {
            done = k.done ++ one ∷ [];
            inputs = rises-more is_input i k.done k.inputs one (rw q refl) h;
            latches = rises-other is_latch l k.done k.latches one (rw q refl);
            begun = after;
          }

      pub order_latch : y.kind ≡ kind.Latch → l ≤ y.index → InOrder s n i (y.index + 1) x
      order_latch q h =
          record {
            done = k.done ++ one ∷ [];
            inputs = rises-other is_input i k.done k.inputs one (rw q refl);
            latches = rises-more is_latch l k.done k.latches one (rw q refl) h;
            begun = after;
          }

      order_other : is_input y.kind ≡ false → is_latch y.kind ≡ false → InOrder s n i l x
      order_other q r =
          record {
            done = k.done ++ one ∷ [];
            inputs = rises-other is_input i k.done k.inputs one q;
            latches = rises-other is_latch l k.done k.latches one r;
            begun = after;
          }

      pub order-others : (y.kind ≡ kind.Output) ⊎ ((y.kind ≡ kind.Bad) ⊎ (y.kind ≡ kind.Constraint)) → InOrder s n i l x
      order-others (inl q) = order_other (rw q refl) (rw q refl)
      order-others (inr (inl q)) = order_other (rw q refl) (rw q refl)
      order-others (inr (inr q)) = order_other (rw q refl) (rw q refl)
