-- Laws for the call that reads a text and loads it: room for the words, and what it returns.
use Rattle.std.specs.Prelude.{ℕ, ◌+◌, ◌-◌, ◌*◌, ◌≤◌, ◌<◌, Result, Ok, Err}
use Rattle.std.specs.Result.{IsErrAnd}
use mathlib.Core.Bool.{Bool, true, false, not}
use mathlib.Core.List.{List}
use mathlib.Core.Path.{◌≡◌, refl, sym, ap, ◌∙◌}
use native.Mathlib.Omega.{arith}
use borrow.Author.Tests.{leb-true, leb-false, le-leb, lt-leb, not-true, not-false}
use lib.Dec.{leb}
use lib.ListN.{length}
use Rattle.lists.specs.Answer.{got, refused}
use Rattle.lists.specs.Parts.{Bytes}
use Rattle.text.specs.Texts.{limited}
use Rattle.aiger.specs.declared.Refusal.{Refusal}
use Rattle.aiger.specs.declared.Refusal.TheVariants.{ResultRoom}
use Rattle.aiger.specs.Refusals.{refusal_number}
use Rattle.aiger.proofs.AnsweredLaws.{answered-err}
use Rattle.witness_text.specs.declared.AagCounts.{AagCounts}
use Rattle.witness_text.specs.Header.{counted}
use Rattle.witness_text.proofs.CountLaws.{counts-gates}
use Rattle.witness_read.specs.Sections.{Sections}
use Rattle.witness_read.specs.Reading.{read_aag, counts_in, counts_read}
use Rattle.witness_read.proofs.AcceptedLaws.{read_accepted, read_got, read_refused}
use Rattle.witness_load.specs.Inner.Loaded.{word_count, Loads}
use Rattle.witness_load.specs.Inner.Loading.{leaf_words, body_room, HasRoom, Loadable, LoadsText}
use Rattle.witness_load.proofs.TextLaws.{words-counted}

-- ---- has_room

module _ (n : AagCounts) (size : ℕ) where
  needs_more : size < leaf_words n + body_room n → false ≡ leb (leaf_words n + body_room n) size
  needs_more h = sym (lt-leb (leaf_words n + body_room n) size h)

  abbrev fixed : ℕ
  fixed = 2 * n.inputs + 4 * n.latches + 2 * n.gates

  pub no_room_fixed : size < fixed → false ≡ leb (leaf_words n + body_room n) size
  no_room_fixed h = needs_more (omega arith)

  module _ (h : fixed ≤ size) where
    pub no_room-outputs : size - fixed < n.outputs → false ≡ leb (leaf_words n + body_room n) size
    no_room-outputs k = needs_more (omega arith)

    module _ (k : n.outputs ≤ size - fixed) where
      pub no_room-bads : size - fixed - n.outputs < n.bads → false ≡ leb (leaf_words n + body_room n) size
      no_room-bads l = needs_more (omega arith)

      pub room-constraints : n.bads ≤ size - fixed - n.outputs → leb n.constraints (size - fixed - n.outputs - n.bads) ≡ leb (leaf_words n + body_room n) size
      room-constraints l = go (leb n.constraints (size - fixed - n.outputs - n.bads)) refl
        where
          go : (t : Bool) → leb n.constraints (size - fixed - n.outputs - n.bads) ≡ t → t ≡ leb (leaf_words n + body_room n) size
          go true e = let g = leb-true n.constraints (size - fixed - n.outputs - n.bads) e in sym (le-leb (leaf_words n + body_room n) size (omega arith))
          go false e = let g = leb-false n.constraints (size - fixed - n.outputs - n.bads) e in needs_more (omega arith)

-- I, L and A are at most 2,000,000 together, so that their words are no large number
module _ (n : AagCounts) (h : counted limited n ≡ true) where
  small : n.inputs + n.latches + n.gates ≤ 2000000
  small = counts-gates n h

  pub input-words_fit : 2 * n.inputs < 18446744073709551616
  input-words_fit = omega (arith, small)

  pub latch_words_fit : 4 * n.latches < 18446744073709551616
  latch_words_fit = omega (arith, small)

  pub leaf_words_fit : 2 * n.inputs + 4 * n.latches < 18446744073709551616
  leaf_words_fit = omega (arith, small)

  pub gate_words_fit : 2 * n.gates < 18446744073709551616
  gate_words_fit = omega (arith, small)

  pub fixed_words_fit : 2 * n.inputs + 4 * n.latches + 2 * n.gates < 18446744073709551616
  fixed_words_fit = omega (arith, small)

-- ---- load_aag

module _ (s : Bytes) (witness : Bool) (w : List ℕ) where
  pub call_refused : (m : Refusal) → refused (refusal_number m) ≡ counts_read (read_aag limited witness s) → (r : Result AagCounts Refusal) → IsErrAnd r (λ k. k ≡ m)
      → Loads s (read_aag limited witness s) w w r
  call_refused m q r h =
      let f : read_aag limited witness s ≡ refused (refusal_number m) = read_refused (read_aag limited witness s) (refusal_number m) q in
      record { returns = answered-err m r h ∙ rw f refl; words = rw f refl }

  module _ (n : AagCounts) (q : got n ≡ counts_read (read_aag limited witness s)) where
    accepted : (x : Sections) × (read_aag limited witness s ≡ got x) × (n ≡ counts_in x)
    accepted = read_got (read_aag limited witness s) n q

    needed : word_count accepted.0 ≡ leaf_words n + body_room n
    needed = words-counted accepted.0 ∙ ap (λ (m : AagCounts). leaf_words m + body_room m) (sym accepted.2)

    pub call_counted : counted limited n ≡ true
    call_counted = ap (counted limited) accepted.2 ∙ (read_accepted limited witness s accepted.0 accepted.1).limits

    module _ (b : Bool) (p : b ≡ leb (leaf_words n + body_room n) (length w)) where
      pub call_no_room : not b ≡ true → Loads s (read_aag limited witness s) w w (Err ResultRoom)
      call_no_room h =
          let f : leb (word_count accepted.0) (length w) ≡ false = rw needed (sym p ∙ not-true b h) in
          record { returns = rw (accepted.1, f); words = rw (accepted.1, f) refl }

      module _ (h : not b ≡ false) where
        room : leb (word_count accepted.0) (length w) ≡ true
        room = rw needed (sym p ∙ not-false b h)

        has_room : HasRoom s n w accepted.0
        has_room = record { witness = witness; reads = accepted.1; counts = accepted.2; fits = leb-true (word_count accepted.0) (length w) room }

        pub call_loadable : Loadable s n w
        call_loadable = record { sections = accepted.0; accepted = has_room }

        pub call_loaded : (w' : List ℕ) → LoadsText s n w w' → Loads s (read_aag limited witness s) w w' (Ok n)
        call_loaded w' l =
            record {
              returns = rw (accepted.1, room) (ap got accepted.2);
              words = rw (accepted.1, room) (l accepted.0 has_room);
            }
