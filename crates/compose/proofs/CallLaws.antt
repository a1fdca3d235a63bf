-- Laws of what the composer tests before and beside the composition: safety.
use Prim.Native.Nat.{ℕ, zero, suc, ◌+◌, ◌/◌, ◌≤◌, ◌<◌}
use mathlib.Core.Bool.{Bool, true, false, ◌&&◌}
use mathlib.Core.List.{List, [], ◌∷◌}
use mathlib.Core.Logic.{◌⊎◌, inl, inr}
use mathlib.Core.Path.{◌≡◌, refl, sym, ap, ◌∙◌}
use native.Mathlib.Omega.{arith}
use lib.ListN.{length, get_or, drop}
use Rattle.lists.specs.Answer.{got}
use Rattle.lists.specs.Parts.{Bytes}
use Rattle.lists.proofs.AnswerLaws.{got_same}
use Rattle.witness_text.specs.declared.AagCounts.{AagCounts}
use Rattle.witness_read.specs.Sections.{Sections}
use Rattle.compose_spec.specs.Composing.{or_outputs, safety, is_some}
use Rattle.compose_spec.specs.Calling.{read_all, texts_in}
use Rattle.compose_gather.specs.Inner.Counts.{CountsOf}
use Rattle.compose_gather.specs.Inner.Gathered.{Readable}
use Rattle.compose_gather.proofs.TextLaws.{FirstRead, first_read, none_read, left-more, left-none}
use Rattle.compose.specs.Inner.Steps.{all_safe, TestsSafety}

-- ---- 19

-- a witness has a safety literal exactly when its counts of bads and outputs are not both 0
none-safe : (bads outputs : List ℕ) → length bads ≡ 0 → length outputs ≡ 0 → is_some (or_outputs bads outputs) ≡ false
none-safe [] [] e f = refl
none-safe [] (x ∷ xs) e f = absurd (omega arith)
none-safe (b ∷ bs) outputs e f = absurd (omega arith)

output-safe : (bads outputs : List ℕ) → (length outputs ≡ 0 → ⊥) → is_some (or_outputs bads outputs) ≡ true
output-safe [] [] n = absurd (n refl)
output-safe [] (x ∷ xs) n = refl
output-safe (b ∷ bs) outputs n = refl

bad_safe : (bads outputs : List ℕ) → (length bads ≡ 0 → ⊥) → is_some (or_outputs bads outputs) ≡ true
bad_safe [] outputs n = absurd (n refl)
bad_safe (b ∷ bs) outputs n = refl

read_drop : (n : ℕ) (ts : List Bytes) (ws : List Sections) → read_all ts ≡ got ws → read_all (drop n ts) ≡ got (drop n ws)
read_drop zero ts ws e = e
read_drop (suc n) [] ws e = rw (none_read ws e) refl
read_drop (suc n) (t ∷ ts) ws e = let k = first_read t ts ws e in read_drop n ts k.others k.read_others ∙ ap got (ap (drop (suc n)) (sym k.is))

-- the witnesses before number w have safety literals
pub record Safe (buffer : Bytes) (pairs : List ℕ) (w : ℕ) : Type 0 where
  pub rest : (ws : List Sections) → Readable buffer pairs ws → all_safe (drop w ws) ≡ all_safe ws

pub safe-none : (buffer : Bytes) (pairs : List ℕ) → Safe buffer pairs 0
safe-none buffer pairs = record { rest = λ ws r. refl }

module _ (buffer : Bytes) (pairs : List ℕ) (w count : ℕ) (k : Safe buffer pairs w) (number : count ≡ length pairs / 2) where
  pub safe-end : count ≤ w → TestsSafety buffer pairs true
  safe-end h ws r =
      let none : drop w ws ≡ [] = left-none buffer pairs w (drop w ws) (read_drop w (texts_in buffer pairs) ws r.reads) (omega arith) in
      sym (ap all_safe none) ∙ k.rest ws r

  module _ (less : w < count) (n : AagCounts) (c : CountsOf (get_or (texts_in buffer pairs) w []) n) where
    next : (ws : List Sections) → Readable buffer pairs ws → FirstRead (get_or (texts_in buffer pairs) w []) (drop (w + 1) (texts_in buffer pairs)) (drop w ws)
    next ws r = left-more buffer pairs w (drop w ws) (read_drop w (texts_in buffer pairs) ws r.reads) (omega arith)

    -- the safety of this witness and of those after it
    both : (ws : List Sections) (r : Readable buffer pairs ws) → (is_some (safety (next ws r).first) && all_safe (drop (w + 1) ws)) ≡ all_safe ws
    both ws r =
        ap (λ (l : List Sections). is_some (safety (next ws r).first) && all_safe l)
        (got_same (drop (w + 1) ws) (next ws r).others (sym (read_drop (w + 1) (texts_in buffer pairs) ws r.reads) ∙ (next ws r).read_others))
        ∙ (ap all_safe (sym (next ws r).is) ∙ k.rest ws r)

    bads-are : (ws : List Sections) (r : Readable buffer pairs ws) → n.bads ≡ length (next ws r).first.bads
    bads-are ws r = ap (λ (m : AagCounts). m.bads) (c (next ws r).first (next ws r).reads)

    outputs-are : (ws : List Sections) (r : Readable buffer pairs ws) → n.outputs ≡ length (next ws r).first.outputs
    outputs-are ws r = ap (λ (m : AagCounts). m.outputs) (c (next ws r).first (next ws r).reads)

    pub safe-stop : (n.bads ≡ 0) → (n.outputs ≡ 0) → TestsSafety buffer pairs false
    safe-stop b o ws r =
        ap (λ (q : Bool). q && all_safe (drop (w + 1) ws))
        (sym (none-safe (next ws r).first.bads (next ws r).first.outputs (sym (bads-are ws r) ∙ b) (sym (outputs-are ws r) ∙ o)))
        ∙ both ws r

    goes_on : ((ws : List Sections) (r : Readable buffer pairs ws) → is_some (safety (next ws r).first) ≡ true) → Safe buffer pairs (w + 1)
    goes_on f = record { rest = λ ws r. ap (λ (q : Bool). q && all_safe (drop (w + 1) ws)) (sym (f ws r)) ∙ both ws r }

    pub safe-more : ((n.bads ≡ 0) × (n.outputs ≡ 0 → ⊥)) ⊎ (n.bads ≡ 0 → ⊥) → Safe buffer pairs (w + 1)
    safe-more (inr z) = goes_on (λ ws r. bad_safe (next ws r).first.bads (next ws r).first.outputs (λ e. z (bads-are ws r ∙ e)))
    safe-more (inl z) = goes_on (λ ws r. output-safe (next ws r).first.bads (next ws r).first.outputs (λ e. z.1 (outputs-are ws r ∙ e)))
