-- Laws of collecting the bads and the constraints: the parts of the words that are lent, and how they stand afterwards.
use Prim.Native.Nat.{ℕ, ◌-◌, ◌≤◌}
use mathlib.Core.List.{List, ◌++◌, append_assoc}
use mathlib.Core.Path.{◌≡◌, sym, ap, ◌∙◌, subst}
use native.Mathlib.Omega.{arith}
use lib.ListN.{length, take, drop, length-append}
use lib.Seq.{take_at, drop_at, drop-drop, length-take-le}
use Rattle.lists.specs.Parts.{part}
use Rattle.lists.proofs.KeptLaws.{part-within}
use Rattle.lists.proofs.PartLaws.{tail-lent, drop-take, part_length}
use Rattle.compose_numbers.specs.Inner.Marked.{CanAdd, Added}
use Rattle.compose_layout.specs.declared.Layout.{Layout}
use Rattle.compose_merge.specs.Inner.Stages.{CanCollect, Collects}

module _
    (at : Layout) (work : List ℕ) (k : CanCollect at work) (front sets bits rest : List ℕ) (f : front ≡ take at.bad_bits work) (s : sets ≡ drop at.bad_bits work)
    (b : bits ≡ take at.bits sets) (r : rest ≡ drop at.bits sets) where
  -- the parts that are lent
  abbrev vars : List ℕ
  vars = take (length front - at.vars) (drop at.vars front)

  list-lent : (a e : ℕ) → e ≤ at.bad_bits → part front a e ≡ part work a e
  list-lent a e h = ap (λ (l : List ℕ). part l a e) f ∙ part-within work at.bad_bits a e h

  vars-lent : vars ≡ part work at.vars at.bad_bits
  vars-lent = tail-lent front at.vars ∙ (ap (drop at.vars) f ∙ drop-take at.vars at.bad_bits work)

  bads-lent : bits ≡ part work at.bad_bits at.constraint_bits
  bads-lent =
      let n : at.bits ≡ at.constraint_bits - at.bad_bits = omega (arith, k.bits) in
      b ∙ (ap (take at.bits) s ∙ ap (λ (j : ℕ). take j (drop at.bad_bits work)) n)

  constraints-lent : take at.bits rest ≡ part work at.constraint_bits at.end
  constraints-lent =
      let n : at.bits ≡ at.end - at.constraint_bits = omega (arith, k.end) in
      ap (take at.bits) (r ∙ (ap (drop at.bits) s ∙ (drop-drop at.bits at.bad_bits work ∙ ap (λ (j : ℕ). drop j work) (sym k.bits))))
      ∙ ap (λ (j : ℕ). take j (drop at.constraint_bits work)) n

  safety-lent : part front at.safety at.constraints ≡ part work at.safety at.constraints
  safety-lent = list-lent at.safety at.constraints (omega (arith, k.constraints, k.lists))

  limits-lent : part front at.constraints at.input_origins ≡ part work at.constraints at.input_origins
  limits-lent = list-lent at.constraints at.input_origins k.lists

  pub bads-can : CanAdd (part front at.safety at.constraints) vars bits
  bads-can =
      subst (λ (l : List ℕ). CanAdd l vars bits) (sym safety-lent)
      (subst (λ (l : List ℕ). CanAdd (part work at.safety at.constraints) l bits) (sym vars-lent)
      (subst (CanAdd (part work at.safety at.constraints) (part work at.vars at.bad_bits)) (sym bads-lent) k.bads_can))

  pub constraints-can : CanAdd (part front at.constraints at.input_origins) vars (take at.bits rest)
  constraints-can =
      subst (λ (l : List ℕ). CanAdd l vars (take at.bits rest)) (sym limits-lent)
      (subst (λ (l : List ℕ). CanAdd (part work at.constraints at.input_origins) l (take at.bits rest)) (sym vars-lent)
      (subst (CanAdd (part work at.constraints at.input_origins) (part work at.vars at.bad_bits)) (sym constraints-lent) k.constraints_can))

  -- how they stand afterwards
  module _
      (bads limits : List ℕ) (n c : ℕ) (x : Added (part front at.safety at.constraints) vars bads n) (y : Added (part front at.constraints at.input_origins) vars limits c)
      (same : length bads ≡ length bits) (same' : length limits ≡ length (take at.bits rest)) where
    abbrev after : List ℕ
    after = front ++ (bads ++ (limits ++ drop at.bits rest))

    front-long : length front ≡ at.bad_bits
    front-long = ap length f ∙ length-take-le at.bad_bits work (omega (arith, k.bits, k.end, k.fits))

    bads-long : length bads ≡ at.constraint_bits - at.bad_bits
    bads-long = same ∙ (ap length bads-lent ∙ part_length work at.bad_bits at.constraint_bits (omega (arith, k.end, k.fits)))

    limits-long : length limits ≡ at.end - at.constraint_bits
    limits-long = same' ∙ (ap length constraints-lent ∙ part_length work at.constraint_bits at.end k.fits)

    bads-stand : part after at.bad_bits at.constraint_bits ≡ bads
    bads-stand =
        ap (take (at.constraint_bits - at.bad_bits)) (drop_at front (bads ++ (limits ++ drop at.bits rest)) at.bad_bits front-long)
        ∙ take_at bads (limits ++ drop at.bits rest) (at.constraint_bits - at.bad_bits) bads-long

    limits-stand : part after at.constraint_bits at.end ≡ limits
    limits-stand =
        ap (λ (l : List ℕ). part l at.constraint_bits at.end) (sym (append_assoc front bads (limits ++ drop at.bits rest)))
        ∙ (ap (take (at.end - at.constraint_bits))
        (drop_at (front ++ bads) (limits ++ drop at.bits rest) at.constraint_bits (length-append front bads ∙ omega (arith, front-long, bads-long, k.bits)))
        ∙ take_at limits (drop at.bits rest) (at.end - at.constraint_bits) limits-long)

    pub collected : Collects at work after n c
    collected =
        record {
          bads_added =
              subst (λ (l : List ℕ). Added l (part work at.vars at.bad_bits) (part after at.bad_bits at.constraint_bits) n) safety-lent
              (subst (λ (l : List ℕ). Added (part front at.safety at.constraints) l (part after at.bad_bits at.constraint_bits) n) vars-lent
              (subst (λ (l : List ℕ). Added (part front at.safety at.constraints) vars l n) (sym bads-stand) x));
          constraints_added =
              subst (λ (l : List ℕ). Added l (part work at.vars at.bad_bits) (part after at.constraint_bits at.end) c) limits-lent
              (subst (λ (l : List ℕ). Added (part front at.constraints at.input_origins) l (part after at.constraint_bits at.end) c) vars-lent
              (subst (λ (l : List ℕ). Added (part front at.constraints at.input_origins) vars l c) (sym limits-stand) y));
          before = take_at front (bads ++ (limits ++ drop at.bits rest)) at.bad_bits front-long ∙ f;
        }
