-- Laws of sharing gates and of defining latches: the parts of the words that are lent, and how they stand afterwards.
use Rattle.std.specs.Prelude.{Option}
use Prim.Native.Nat.{ℕ, ◌+◌, ◌-◌}
use mathlib.Core.List.{List, ◌++◌, append_assoc}
use mathlib.Core.Path.{◌≡◌, sym, ap, ◌∙◌, subst}
use native.Mathlib.Omega.{arith}
use lib.ListN.{length, take, drop, length-append}
use lib.Seq.{take_at, drop_at, drop-drop, take-take, length-take-le}
use Rattle.lists.specs.Parts.{part}
use Rattle.lists.proofs.KeptLaws.{part-within}
use Rattle.lists.proofs.PartLaws.{drop-take, part_length}
use Rattle.compose_gather.specs.declared.Totals.{Totals}
use Rattle.compose_gates.specs.Inner.Latches.{Definable, Defines}
use Rattle.compose_gates.specs.Inner.Linked.{Sharable, Shares}
use Rattle.compose_layout.specs.declared.Layout.{Layout}
use Rattle.compose_merge.specs.Inner.Stages.{CanShare, SharesAll, CanDefine, DefinesAll}

-- ---- gates

module _
    (at : Layout) (t : Totals) (leaves : ℕ) (work : List ℕ) (k : CanShare at t leaves work) (front rest lists vs : List ℕ) (f : front ≡ take at.gates work)
    (s : rest ≡ drop at.gates work) (l : lists ≡ take at.vars front) (v : vs ≡ drop at.vars front) where
  abbrev known : ℕ
  known = 1 + t.inputs + t.latches

  operands-lent : part lists at.operands at.safety ≡ part work at.operands at.safety
  operands-lent =
      ap (λ (x : List ℕ). part x at.operands at.safety) l
      ∙ (part-within front at.vars at.operands at.safety k.lists
      ∙ (ap (λ (x : List ℕ). part x at.operands at.safety) f ∙ part-within work at.gates at.operands at.safety (omega (arith, k.lists, k.vars))))

  variables-lent : vs ≡ part work at.vars at.gates
  variables-lent = v ∙ (ap (drop at.vars) f ∙ drop-take at.vars at.gates work)

  abbrev table : List ℕ
  table = take (at.definitions - at.gates) rest

  table-lent : table ≡ part work at.gates at.definitions
  table-lent = ap (take (at.definitions - at.gates)) s

  pub lent_sharable : Sharable (part lists at.operands at.safety) vs known table leaves
  lent_sharable =
      subst (λ (x : List ℕ). Sharable x vs known table leaves) (sym operands-lent)
      (subst (λ (x : List ℕ). Sharable (part work at.operands at.safety) x known table leaves) (sym variables-lent)
      (subst (λ (x : List ℕ). Sharable (part work at.operands at.safety) (part work at.vars at.gates) known x leaves) (sym table-lent) k.can))

  module _
      (vs' table' : List ℕ) (r : Option ℕ) (x : Shares (part lists at.operands at.safety) vs known leaves vs' table' r) (same : length vs' ≡ length vs)
      (same' : length table' ≡ length table) where
    abbrev shared : List ℕ
    shared = (lists ++ vs') ++ (table' ++ drop (at.definitions - at.gates) rest)

    lists-long : length lists ≡ at.vars
    lists-long = ap length l ∙ (length-take-le at.vars front (omega (arith, ap length f, length-take-le at.gates work (omega (arith, k.table, k.fits)), k.vars)))

    vs-long : length vs' ≡ at.gates - at.vars
    vs-long = same ∙ (ap length variables-lent ∙ part_length work at.vars at.gates (omega (arith, k.table, k.fits)))

    table-long : length table' ≡ at.definitions - at.gates
    table-long = same' ∙ (ap length table-lent ∙ part_length work at.gates at.definitions k.fits)

    ahead-long : length (lists ++ vs') ≡ at.gates
    ahead-long = length-append lists vs' ∙ omega (arith, lists-long, vs-long, k.vars)

    vs-stand : part shared at.vars at.gates ≡ vs'
    vs-stand =
        ap (λ (z : List ℕ). part z at.vars at.gates) (append_assoc lists vs' (table' ++ drop (at.definitions - at.gates) rest))
        ∙ (ap (take (at.gates - at.vars)) (drop_at lists (vs' ++ (table' ++ drop (at.definitions - at.gates) rest)) at.vars lists-long)
        ∙ take_at vs' (table' ++ drop (at.definitions - at.gates) rest) (at.gates - at.vars) vs-long)

    table-stands : part shared at.gates at.definitions ≡ table'
    table-stands =
        ap (take (at.definitions - at.gates)) (drop_at (lists ++ vs') (table' ++ drop (at.definitions - at.gates) rest) at.gates ahead-long)
        ∙ take_at table' (drop (at.definitions - at.gates) rest) (at.definitions - at.gates) table-long

    left-behind : drop (at.definitions - at.gates) rest ≡ drop at.definitions work
    left-behind =
        let n : at.gates + (at.definitions - at.gates) ≡ at.definitions = omega (arith, k.table) in
        ap (drop (at.definitions - at.gates)) s ∙ (drop-drop (at.definitions - at.gates) at.gates work ∙ ap (λ (j : ℕ). drop j work) n)

    pub lent_shared : SharesAll at t leaves work shared r
    lent_shared =
        record {
          shares =
              subst (λ (z : List ℕ). Shares z (part work at.vars at.gates) known leaves (part shared at.vars at.gates) (part shared at.gates at.definitions) r) operands-lent
              (subst (λ (z : List ℕ). Shares (part lists at.operands at.safety) z known leaves (part shared at.vars at.gates) (part shared at.gates at.definitions) r) variables-lent
              (subst (λ (z : List ℕ). Shares (part lists at.operands at.safety) vs known leaves z (part shared at.gates at.definitions) r) (sym vs-stand)
              (subst (λ (z : List ℕ). Shares (part lists at.operands at.safety) vs known leaves vs' z r) (sym table-stands) x)));
          before =
              ap (take at.vars) (append_assoc lists vs' (table' ++ drop (at.definitions - at.gates) rest))
              ∙ (take_at lists (vs' ++ (table' ++ drop (at.definitions - at.gates) rest)) at.vars lists-long
              ∙ (l ∙ (ap (take at.vars) f ∙ take-take at.vars at.gates work k.vars)));
          behind =
              ap (drop at.definitions) (sym (append_assoc (lists ++ vs') table' (drop (at.definitions - at.gates) rest)))
              ∙ (drop_at ((lists ++ vs') ++ table') (drop (at.definitions - at.gates) rest) at.definitions
              (length-append (lists ++ vs') table' ∙ omega (arith, ahead-long, table-long, k.table))
              ∙ left-behind);
        }

-- ---- latches

module _
    (at : Layout) (t : Totals) (first : ℕ) (work : List ℕ) (k : CanDefine at t first work) (front rest : List ℕ) (f : front ≡ take at.definitions work)
    (s : rest ≡ drop at.definitions work) where
  latches-lent : part front at.latches at.operands ≡ part work at.latches at.operands
  latches-lent = ap (λ (l : List ℕ). part l at.latches at.operands) f ∙ part-within work at.definitions at.latches at.operands k.ahead

  vars-lent : part front at.vars at.gates ≡ part work at.vars at.gates
  vars-lent = ap (λ (l : List ℕ). part l at.vars at.gates) f ∙ part-within work at.definitions at.vars at.gates k.gates

  abbrev room : List ℕ
  room = take (at.bad_bits - at.definitions) rest

  room-lent : room ≡ part work at.definitions at.bad_bits
  room-lent = ap (take (at.bad_bits - at.definitions)) s

  pub lent_can : Definable (part front at.latches at.operands) (part front at.vars at.gates) (1 + t.inputs) room first
  lent_can =
      subst (λ (l : List ℕ). Definable l (part front at.vars at.gates) (1 + t.inputs) room first) (sym latches-lent)
      (subst (λ (l : List ℕ). Definable (part work at.latches at.operands) l (1 + t.inputs) room first) (sym vars-lent)
      (subst (λ (l : List ℕ). Definable (part work at.latches at.operands) (part work at.vars at.gates) (1 + t.inputs) l first) (sym room-lent) k.can))

  module _
      (os : List ℕ) (r : Option ℕ) (x : Defines (part front at.latches at.operands) (part front at.vars at.gates) (1 + t.inputs) first room os r)
      (same : length os ≡ length room) where
    abbrev after : List ℕ
    after = front ++ (os ++ drop (at.bad_bits - at.definitions) rest)

    front-long : length front ≡ at.definitions
    front-long = ap length f ∙ length-take-le at.definitions work (omega (arith, k.definitions, k.fits))

    os-long : length os ≡ at.bad_bits - at.definitions
    os-long = same ∙ (ap length room-lent ∙ part_length work at.definitions at.bad_bits k.fits)

    stand : part after at.definitions at.bad_bits ≡ os
    stand =
        ap (take (at.bad_bits - at.definitions)) (drop_at front (os ++ drop (at.bad_bits - at.definitions) rest) at.definitions front-long)
        ∙ take_at os (drop (at.bad_bits - at.definitions) rest) (at.bad_bits - at.definitions) os-long

    left : drop (at.bad_bits - at.definitions) rest ≡ drop at.bad_bits work
    left =
        let n : at.definitions + (at.bad_bits - at.definitions) ≡ at.bad_bits = omega (arith, k.definitions) in
        ap (drop (at.bad_bits - at.definitions)) s ∙ (drop-drop (at.bad_bits - at.definitions) at.definitions work ∙ ap (λ (j : ℕ). drop j work) n)

    pub lent_defined : DefinesAll at t first work after r
    lent_defined =
        record {
          defines =
              subst (λ (l : List ℕ). Defines l (part work at.vars at.gates) (1 + t.inputs) first (part work at.definitions at.bad_bits) (part after at.definitions at.bad_bits) r) latches-lent
              (subst (λ (l : List ℕ). Defines (part front at.latches at.operands) l (1 + t.inputs) first (part work at.definitions at.bad_bits) (part after at.definitions at.bad_bits) r) vars-lent
              (subst (λ (l : List ℕ). Defines (part front at.latches at.operands) (part front at.vars at.gates) (1 + t.inputs) first l (part after at.definitions at.bad_bits) r) room-lent
              (subst (λ (l : List ℕ). Defines (part front at.latches at.operands) (part front at.vars at.gates) (1 + t.inputs) first room l r) (sym stand) x)));
          before = take_at front (os ++ drop (at.bad_bits - at.definitions) rest) at.definitions front-long ∙ f;
          behind =
              ap (drop at.bad_bits) (sym (append_assoc front os (drop (at.bad_bits - at.definitions) rest)))
              ∙ (drop_at (front ++ os) (drop (at.bad_bits - at.definitions) rest) at.bad_bits (length-append front os ∙ omega (arith, front-long, os-long, k.definitions)) ∙ left);
        }
