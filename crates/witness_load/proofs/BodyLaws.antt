-- The sections of a body one by one, and their literals stored one after the other.
use Prim.Native.Nat.{ℕ, ◌+◌}
use mathlib.Core.List.{List, ◌++◌, append_assoc}
use mathlib.Core.Path.{◌≡◌, refl, sym, ap, ◌∙◌}
use lib.ListN.{drop}
use Rattle.lists.specs.Answer.{got, refused}
use Rattle.lists.specs.Parts.{Bytes}
use Rattle.lists.specs.Words.{words_of}
use Rattle.lists.proofs.AnswerLaws.{got-refused}
use Rattle.text.specs.declared.Reader.TheVariants.{Witness}
use Rattle.aiger.specs.declared.Gate.{Gate}
use Rattle.aiger.specs.Sections.{Section, section}
use Rattle.aiger.proofs.SectionLaws.{section_of, same-items, same_rest, section-rest, section-join}
use Rattle.circuit_lines.specs.SectionLines.{literal_line, gate_line}
use Rattle.circuit_lines.specs.Inner.Takes.{SectionTaken}
use Rattle.text.specs.Lines.{lines_of}
use Rattle.text.specs.Inner.Fronts.{Behind}
use Rattle.text.proofs.LineLaws.{behind_then}
use Rattle.witness_text.specs.declared.AagCounts.{AagCounts}
use Rattle.witness_text.specs.LatchLines.{latch_line}
use Rattle.witness_read.specs.Order.{Body}
use Rattle.witness_read.proofs.AcceptedLaws.{Parts, body-parts}
use Rattle.witness_load.specs.Inner.Loaded.{operand_words}
use Rattle.witness_load.specs.Inner.Loading.{stored_words, Stored, literal_count, LoadsRest, body_words, LoadsBody}

-- outputs, bads and constraints are one section
middle : (n : AagCounts) (ls : List Bytes) (d : Body) (p : Parts n ls d)
    → section (literal_line Witness) (literal_count n) p.after-latches ≡ section_of ((d.outputs ++ d.bads) ++ d.constraints) p.after-constraints
middle n ls d p =
    section-join (literal_line Witness) n.constraints (n.outputs + n.bads) p.after-latches (d.outputs ++ d.bads) d.constraints p.after-bads p.after-constraints
    (section-join (literal_line Witness) n.bads n.outputs p.after-latches d.outputs d.bads p.after-outputs p.after-bads p.outputs p.bads)
    p.constraints

-- ---- load_rest

-- outputs, bads and constraints
abbrev Literals : Bytes → AagCounts → List ℕ → Bytes → Type 0
Literals s n = SectionTaken (literal_line Witness) s (literal_count n)

module _ (s : Bytes) (n : AagCounts) where
  pub rest_no_literals : section (literal_line Witness) (literal_count n) (lines_of s) ≡ refused 8 → (o : List ℕ) (e : Bytes) → LoadsRest s n o e
  rest_no_literals u o e x y f g = got-refused f u

  module _ (xs : List ℕ) (c₁ : Bytes) (taken : Literals s n xs c₁) where
    same₁ : (x : Section ℕ) → section (literal_line Witness) (literal_count n) (lines_of s) ≡ got x → section_of xs (lines_of c₁) ≡ got x
    same₁ x f = sym taken.section ∙ f

    gates-are : (x : Section ℕ) (y : Section Gate) → section (literal_line Witness) (literal_count n) (lines_of s) ≡ got x → section (gate_line Witness) n.gates x.rest ≡ got y
        → section (gate_line Witness) n.gates (lines_of c₁) ≡ got y
    gates-are x y f g = ap (section (gate_line Witness) n.gates) (same_rest xs x.items (lines_of c₁) x.rest (same₁ x f)) ∙ g

    pub rest_no_gates : section (gate_line Witness) n.gates (lines_of c₁) ≡ refused 8 → (o : List ℕ) (e : Bytes) → LoadsRest s n o e
    rest_no_gates u o e x y f g = got-refused (gates-are x y f g) u

    module _ (ys : List ℕ) (c₂ : Bytes) (stored : Stored (gate_line Witness) operand_words c₁ n.gates ys c₂) where
      pub rest-loaded : LoadsRest s n (xs ++ ys) c₂
      rest-loaded x y f g =
          let same₂ : section_of stored.items (lines_of c₂) ≡ got y = sym stored.takes ∙ gates-are x y f g in
          let ex : xs ≡ x.items = same-items xs x.items (lines_of c₁) x.rest (same₁ x f) in
          let ey : ys ≡ words_of operand_words y.items =
          stored.stand ∙ ap (words_of operand_words) (same-items stored.items y.items (lines_of c₂) y.rest same₂) in
          (rw (ex, ey) refl, same_rest stored.items y.items (lines_of c₂) y.rest same₂)

      pub rest-behind : Behind s c₂
      rest-behind = behind_then s c₁ c₂ taken.behind stored.behind

-- ---- load_body

module _ (s : Bytes) (n : AagCounts) (c₁ : Bytes) (q₁ : lines_of c₁ ≡ drop n.inputs (lines_of s)) where
  latches-are : (d : Body) (p : Parts n (lines_of s) d) → section latch_line n.latches (lines_of c₁) ≡ section_of d.latches p.after-latches
  latches-are d p =
      ap (section latch_line n.latches) (q₁ ∙ sym (section-rest (literal_line Witness) n.inputs (lines_of s) d.inputs p.after-inputs p.inputs)) ∙ p.latches

  pub body_no_latches : section latch_line n.latches (lines_of c₁) ≡ refused 8 → (o : List ℕ) (e : Bytes) → LoadsBody s n o e
  body_no_latches u o e d h = got-refused (latches-are d (body-parts n (lines_of s) d h)) u

  module _ (xs : List ℕ) (c₂ : Bytes) (stored : Stored latch_line stored_words c₁ n.latches xs c₂) (e : Bytes) where
    pub body-loaded : (ys : List ℕ) → LoadsRest c₂ n ys e → LoadsBody s n (xs ++ ys) e
    body-loaded ys k d h =
        let p = body-parts n (lines_of s) d h in
        let same : section_of stored.items (lines_of c₂) ≡ section_of d.latches p.after-latches = sym stored.takes ∙ latches-are d p in
        let lines : lines_of c₂ ≡ p.after-latches = same_rest stored.items d.latches (lines_of c₂) p.after-latches same in
        let x : List ℕ = words_of stored_words d.latches in
        let y : List ℕ = (d.outputs ++ d.bads) ++ d.constraints in
        let z : List ℕ = words_of operand_words d.gates in
        let r =
        k (record { items = y; rest = p.after-constraints }) (record { items = d.gates; rest = d.rest })
        (ap (section (literal_line Witness) (literal_count n)) lines ∙ middle n (lines_of s) d p) p.gates in
        let latches : xs ≡ x = stored.stand ∙ ap (words_of stored_words) (same-items stored.items d.latches (lines_of c₂) p.after-latches same) in
        let joined : x ++ (y ++ z) ≡ body_words d = simp append_assoc in
        (rw (latches, r.0) joined, r.1)

    pub body-behind : Behind s c₁ → Behind c₂ e → Behind s e
    body-behind k g = behind_then s c₂ e (behind_then s c₁ c₂ k stored.behind) g
