-- Laws of numbering: the parts of the words that are lent, and how they stand afterwards.
use Prim.Native.Nat.{ℕ, ◌+◌, ◌-◌}
use mathlib.Core.List.{List, ◌++◌, append_assoc}
use mathlib.Core.Path.{◌≡◌, sym, ap, ◌∙◌, subst}
use native.Mathlib.Omega.{arith}
use lib.ListN.{length, take, drop, length-append}
use lib.Seq.{take_at, drop_at, drop-drop, take-take, length-take-le}
use Rattle.lists.specs.Parts.{part}
use Rattle.lists.proofs.KeptLaws.{part-within}
use Rattle.lists.proofs.PartLaws.{tail-lent, drop-take, part_length}
use Rattle.witness_text.specs.declared.AagCounts.{AagCounts}
use Rattle.compose_gather.specs.declared.Totals.{Totals}
use Rattle.compose_numbers.specs.Inner.Marked.{CanNumber, Numbered}
use Rattle.compose_layout.specs.declared.Layout.{Layout}
use Rattle.compose_merge.specs.Inner.Stages.{CanNumberAll, NumbersAll}

-- so many words behind a place
next-part : (w : List ℕ) (a n : ℕ) → take n (drop a w) ≡ part w a (a + n)
next-part w a n = let d : n ≡ a + n - a = omega arith in ap (λ (j : ℕ). take j (drop a w)) d

module _
    (at : Layout) (mc : AagCounts) (t : Totals) (work : List ℕ) (k : CanNumberAll at mc t work) (front numbers lists assigned inputs latches ofs rest : List ℕ)
    (f : front ≡ take (at.vars + 1) work) (s : numbers ≡ drop (at.vars + 1) work) (l : lists ≡ take at.assigned front) (a : assigned ≡ drop at.assigned front)
    (i : inputs ≡ take mc.inputs assigned) (j : latches ≡ drop mc.inputs assigned) (u : ofs ≡ take t.inputs numbers) (v : rest ≡ drop t.inputs numbers) where
  -- where the latches' assigned numbers begin, and where they end
  abbrev own : ℕ
  own = at.assigned + mc.inputs

  abbrev end : ℕ
  end = at.assigned + mc.inputs + mc.latches

  front-at : (b : ℕ) → drop b front ≡ part work b (at.vars + 1)
  front-at b = ap (drop b) f ∙ drop-take b (at.vars + 1) work

  front-long : length front ≡ at.vars + 1
  front-long = ap length f ∙ length-take-le (at.vars + 1) work (omega (arith, k.fits))

  inputs-read : part lists at.input_origins at.latch_origins ≡ part work at.input_origins at.latch_origins
  inputs-read =
      ap (λ (x : List ℕ). part x at.input_origins at.latch_origins) l
      ∙ (part-within front at.assigned at.input_origins at.latch_origins k.latches
      ∙ (ap (λ (x : List ℕ). part x at.input_origins at.latch_origins) f ∙ part-within work (at.vars + 1) at.input_origins at.latch_origins (omega (arith, k.latches, k.vars))))

  abbrev latch_words : List ℕ
  latch_words = take (length lists - at.latch_origins) (drop at.latch_origins lists)

  latches-read : latch_words ≡ part work at.latch_origins at.assigned
  latches-read =
      tail-lent lists at.latch_origins
      ∙ (ap (drop at.latch_origins) l
      ∙ (drop-take at.latch_origins at.assigned front
      ∙ (ap (λ (x : List ℕ). part x at.latch_origins at.assigned) f ∙ part-within work (at.vars + 1) at.latch_origins at.assigned (omega (arith, k.vars)))))

  inputs-lent : inputs ≡ part work at.assigned own
  inputs-lent =
      i ∙ (ap (take mc.inputs) (a ∙ front-at at.assigned)
      ∙ (take-take mc.inputs (at.vars + 1 - at.assigned) (drop at.assigned work) (omega (arith, k.vars)) ∙ next-part work at.assigned mc.inputs))

  latches-at : latches ≡ part work own (at.vars + 1)
  latches-at = j ∙ (ap (drop mc.inputs) a ∙ (drop-drop mc.inputs at.assigned front ∙ front-at own))

  latches-lent : take mc.latches latches ≡ part work own end
  latches-lent =
      ap (take mc.latches) latches-at
      ∙ (take-take mc.latches (at.vars + 1 - own) (drop own work) (omega (arith, k.vars)) ∙ next-part work own mc.latches)

  ofs-lent : ofs ≡ part work (at.vars + 1) (at.vars + 1 + t.inputs)
  ofs-lent = u ∙ (ap (take t.inputs) s ∙ next-part work (at.vars + 1) t.inputs)

  rest-at : rest ≡ drop (at.vars + 1 + t.inputs) work
  rest-at = v ∙ (ap (drop t.inputs) s ∙ drop-drop t.inputs (at.vars + 1) work)

  rest-lent : take t.latches rest ≡ part work (at.vars + 1 + t.inputs) (at.vars + 1 + t.inputs + t.latches)
  rest-lent = ap (take t.latches) rest-at ∙ next-part work (at.vars + 1 + t.inputs) t.latches

  pub parts_inputs : CanNumber (part lists at.input_origins at.latch_origins) inputs 0 ofs 1
  parts_inputs =
      subst (λ (x : List ℕ). CanNumber x inputs 0 ofs 1) (sym inputs-read)
      (subst (λ (x : List ℕ). CanNumber (part work at.input_origins at.latch_origins) x 0 ofs 1) (sym inputs-lent)
      (subst (λ (x : List ℕ). CanNumber (part work at.input_origins at.latch_origins) (part work at.assigned own) 0 x 1) (sym ofs-lent) k.inputs_can))

  module _ (inputs' ofs' : List ℕ) (first : ℕ) (x : Numbered (part lists at.input_origins at.latch_origins) inputs 0 1 inputs' ofs' first) where
    inputs-done : Numbered (part work at.input_origins at.latch_origins) (part work at.assigned own) 0 1 inputs' ofs' first
    inputs-done =
        subst (λ (z : List ℕ). Numbered z (part work at.assigned own) 0 1 inputs' ofs' first) inputs-read
        (subst (λ (z : List ℕ). Numbered (part lists at.input_origins at.latch_origins) z 0 1 inputs' ofs' first) inputs-lent x)

    pub parts_latches : CanNumber latch_words (take mc.latches latches) mc.inputs (take t.latches rest) first
    parts_latches =
        subst (λ (z : List ℕ). CanNumber z (take mc.latches latches) mc.inputs (take t.latches rest) first) (sym latches-read)
        (subst (λ (z : List ℕ). CanNumber (part work at.latch_origins at.assigned) z mc.inputs (take t.latches rest) first) (sym latches-lent)
        (subst (λ (z : List ℕ). CanNumber (part work at.latch_origins at.assigned) (part work own end) mc.inputs z first) (sym rest-lent) (k.latches_can first inputs-done.returns)))

    module _
        (latches' rest' : List ℕ) (next : ℕ) (y : Numbered latch_words (take mc.latches latches) mc.inputs first latches' rest' next) (same : length inputs' ≡ length inputs)
        (same₁ : length ofs' ≡ length ofs) (same₂ : length latches' ≡ length (take mc.latches latches)) (same₃ : length rest' ≡ length (take t.latches rest)) where
      latches-done : Numbered (part work at.latch_origins at.assigned) (part work own end) mc.inputs first latches' rest' next
      latches-done =
          subst (λ (z : List ℕ). Numbered z (part work own end) mc.inputs first latches' rest' next) latches-read
          (subst (λ (z : List ℕ). Numbered latch_words z mc.inputs first latches' rest' next) latches-lent y)

      -- what stands behind the assigned numbers, up to the numbers
      abbrev constant : List ℕ
      constant = drop mc.latches latches

      abbrev ahead : List ℕ
      ahead = lists ++ (inputs' ++ (latches' ++ constant))

      abbrev back : List ℕ
      back = ofs' ++ (rest' ++ drop t.latches rest)

      abbrev after : List ℕ
      after = ahead ++ back

      lists-long : length lists ≡ at.assigned
      lists-long = ap length l ∙ length-take-le at.assigned front (omega (arith, front-long, k.vars))

      inputs-long : length inputs' ≡ mc.inputs
      inputs-long = omega (arith, same, ap length inputs-lent, part_length work at.assigned own (omega (arith, k.vars, k.fits)))

      latches-long : length latches' ≡ mc.latches
      latches-long = omega (arith, same₂, ap length latches-lent, part_length work own end (omega (arith, k.vars, k.fits)))

      ofs-long : length ofs' ≡ t.inputs
      ofs-long = omega (arith, same₁, ap length ofs-lent, part_length work (at.vars + 1) (at.vars + 1 + t.inputs) (omega (arith, k.fits)))

      rest-long : length rest' ≡ t.latches
      rest-long =
          omega (arith, same₃, ap length rest-lent, part_length work (at.vars + 1 + t.inputs) (at.vars + 1 + t.inputs + t.latches) (omega (arith, k.fits)))

      constant-is : constant ≡ part work end (at.vars + 1)
      constant-is =
          let n : at.vars + 1 - own - mc.latches ≡ at.vars + 1 - end = omega arith in
          ap (drop mc.latches) latches-at
          ∙ (drop-take mc.latches (at.vars + 1 - own) (drop own work)
          ∙ (ap (λ (z : ℕ). take z (drop mc.latches (drop own work))) n ∙ ap (take (at.vars + 1 - end)) (drop-drop mc.latches own work)))

      constant-long : length constant ≡ at.vars + 1 - end
      constant-long = ap length constant-is ∙ part_length work end (at.vars + 1) (omega (arith, k.fits))

      ahead-long : length ahead ≡ at.vars + 1
      ahead-long =
          length-append lists (inputs' ++ (latches' ++ constant))
          ∙ omega (arith, lists-long, length-append inputs' (latches' ++ constant), inputs-long, length-append latches' constant, latches-long, constant-long, k.vars)

      -- the words from each place on
      from-numbers : drop (at.vars + 1) after ≡ back
      from-numbers = drop_at ahead back (at.vars + 1) ahead-long

      from-rest : drop (at.vars + 1 + t.inputs) after ≡ rest' ++ drop t.latches rest
      from-rest =
          sym (drop-drop t.inputs (at.vars + 1) after) ∙ (ap (drop t.inputs) from-numbers ∙ drop_at ofs' (rest' ++ drop t.latches rest) t.inputs ofs-long)

      from-end : drop (at.vars + 1 + t.inputs + t.latches) after ≡ drop t.latches rest
      from-end = sym (drop-drop t.latches (at.vars + 1 + t.inputs) after) ∙ (ap (drop t.latches) from-rest ∙ drop_at rest' (drop t.latches rest) t.latches rest-long)

      after-is : after ≡ lists ++ (inputs' ++ (latches' ++ (constant ++ back)))
      after-is =
          append_assoc lists (inputs' ++ (latches' ++ constant)) back
          ∙ ap (λ (z : List ℕ). lists ++ z)
          (append_assoc inputs' (latches' ++ constant) back ∙ ap (λ (z : List ℕ). inputs' ++ z) (append_assoc latches' constant back))

      from-assigned : drop at.assigned after ≡ inputs' ++ (latches' ++ (constant ++ back))
      from-assigned = ap (drop at.assigned) after-is ∙ drop_at lists (inputs' ++ (latches' ++ (constant ++ back))) at.assigned lists-long

      from-own : drop own after ≡ latches' ++ (constant ++ back)
      from-own = sym (drop-drop mc.inputs at.assigned after) ∙ (ap (drop mc.inputs) from-assigned ∙ drop_at inputs' (latches' ++ (constant ++ back)) mc.inputs inputs-long)

      from-constant : drop end after ≡ constant ++ back
      from-constant = sym (drop-drop mc.latches own after) ∙ (ap (drop mc.latches) from-own ∙ drop_at latches' (constant ++ back) mc.latches latches-long)

      -- so many of them
      stand : (b n : ℕ) (xs ys : List ℕ) → drop b after ≡ xs ++ ys → length xs ≡ n → part after b (b + n) ≡ xs
      stand b n xs ys e h = sym (next-part after b n) ∙ (ap (take n) e ∙ take_at xs ys n h)

      pub parts_numbered : NumbersAll at mc t work after first next
      parts_numbered =
          record {
            inputs =
                subst (λ (z : List ℕ). Numbered (part work at.input_origins at.latch_origins) (part work at.assigned own) 0 1 z (part after (at.vars + 1) (at.vars + 1 + t.inputs)) first)
                (sym (stand at.assigned mc.inputs inputs' (latches' ++ (constant ++ back)) from-assigned inputs-long))
                (subst (λ (z : List ℕ). Numbered (part work at.input_origins at.latch_origins) (part work at.assigned own) 0 1 inputs' z first)
                (sym (stand (at.vars + 1) t.inputs ofs' (rest' ++ drop t.latches rest) from-numbers ofs-long)) inputs-done);
            latches =
                subst (λ (z : List ℕ). Numbered (part work at.latch_origins at.assigned) (part work own end) mc.inputs first z
                (part after (at.vars + 1 + t.inputs) (at.vars + 1 + t.inputs + t.latches)) next)
                (sym (stand own mc.latches latches' (constant ++ back) from-own latches-long))
                (subst (λ (z : List ℕ). Numbered (part work at.latch_origins at.assigned) (part work own end) mc.inputs first latches' z next)
                (sym (stand (at.vars + 1 + t.inputs) t.latches rest' (drop t.latches rest) from-rest rest-long)) latches-done);
            before =
                ap (take at.assigned) after-is
                ∙ (take_at lists (inputs' ++ (latches' ++ (constant ++ back))) at.assigned lists-long
                ∙ (l ∙ (ap (take at.assigned) f ∙ take-take at.assigned (at.vars + 1) work (omega (arith, k.vars)))));
            between = ap (take (at.vars + 1 - end)) from-constant ∙ (take_at constant back (at.vars + 1 - end) constant-long ∙ constant-is);
            behind = from-end ∙ (ap (drop t.latches) rest-at ∙ drop-drop t.latches (at.vars + 1 + t.inputs) work);
          }
