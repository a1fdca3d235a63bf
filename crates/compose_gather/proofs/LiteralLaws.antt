-- Laws of gathering a list of literals of each witness.
use Prim.Native.Nat.{ℕ, ◌+◌, ◌-◌, ◌*◌, ◌≤◌}
use mathlib.Core.List.{List, [], ◌∷◌, ◌++◌, append_assoc, append-nil}
use mathlib.Core.Path.{◌≡◌, refl, sym, ap, ◌∙◌, subst}
use native.Mathlib.Omega.{arith}
use borrow.Author.Tests.{eq-eqb, ne_eqb}
use lib.ListN.{length, take, length-append}
use lib.Seq.{take_at, drop_at}
use Rattle.lists.specs.Parts.{Bytes, part}
use Rattle.lists.specs.Words.{words_of}
use Rattle.lists.proofs.KeptLaws.{part-within}
use Rattle.lists.proofs.WordLaws.{words-length}
use Rattle.witness_read.specs.Sections.{Sections, leaves}
use Rattle.witness_read.specs.Reading.{counts_in}
use Rattle.witness_load.specs.Inner.Loaded.{latch_words, operand_words, literal_words, word_count}
use Rattle.compose_spec.specs.Composing.{or_outputs, safety}
use Rattle.compose_joint.specs.declared.Literals.{Literals}
use Rattle.compose_joint.specs.declared.Literals.TheVariants as literals
use Rattle.compose_joint.specs.Inner.Joint.{input_count, latch_count, list_of}
use Rattle.compose_gather.specs.declared.Range.{Range}
use Rattle.compose_gather.specs.Inner.Gathered.{Block, range_of}

-- ---- a list among the words of a text

-- a list between two others
middle : (xs ys zs : List ℕ) (a n : ℕ) → length xs ≡ a → length ys ≡ n → part (xs ++ (ys ++ zs)) a (a + n) ≡ ys
middle xs ys zs a n e f =
    let k : a + n - a ≡ n = omega arith in
    rw (k, drop_at xs (ys ++ zs) a e) (take_at ys zs n f)

regroup : (a b c d e : List ℕ) → a ++ (b ++ (c ++ (d ++ e))) ≡ (a ++ (b ++ (c ++ d))) ++ e
regroup a b c d e =
    sym (append_assoc a (b ++ (c ++ d)) e
    ∙ ap (λ (l : List ℕ). a ++ l) (append_assoc b (c ++ d) e ∙ ap (λ (l : List ℕ). b ++ l) (append_assoc c d e)))

-- the names and the lists in front of a list, the list, the lists behind it
pub record Stands (s : Sections) (r : Range) (xs : List ℕ) : Type 0 where
  pub before : List ℕ
  pub behind : List ℕ
  pub is : literal_words s ≡ before ++ (xs ++ behind)
  pub starts : r.start ≡ 2 * leaves s + length before
  pub counts : r.count ≡ length xs

latch_words_lem : (s : Sections) → length (words_of latch_words s.latches) ≡ 2 * length s.latches
latch_words_lem s = words-length latch_words 2 (λ q. refl) s.latches

operand_words_lem : (s : Sections) → length (words_of operand_words s.gates) ≡ 2 * length s.gates
operand_words_lem s = words-length operand_words 2 (λ g. refl) s.gates

-- outputs, or bads where there are any
stands-outputs : (s : Sections) → Stands s (record { start = 2 * input_count s + 4 * latch_count s; count = length s.outputs }) s.outputs
stands-outputs s =
    record {
      before = words_of latch_words s.latches;
      behind = s.bads ++ (s.constraints ++ words_of operand_words s.gates);
      is = refl;
      starts = omega (arith, latch_words_lem s);
      counts = refl;
    }

stands-bads : (s : Sections) → Stands s (record { start = 2 * input_count s + 4 * latch_count s + length s.outputs; count = length s.bads }) s.bads
stands-bads s =
    record {
      before = words_of latch_words s.latches ++ s.outputs;
      behind = s.constraints ++ words_of operand_words s.gates;
      is = sym (append_assoc (words_of latch_words s.latches) s.outputs (s.bads ++ (s.constraints ++ words_of operand_words s.gates)));
      starts = omega (arith, latch_words_lem s, length-append (words_of latch_words s.latches) s.outputs);
      counts = refl;
    }

safety-stands : (s : Sections) (bads : List ℕ) → s.bads ≡ bads → Stands s (range_of literals.Safety (counts_in s)) (safety s)
safety-stands s [] e =
    let n : length s.bads ≡ 0 = ap length e in
    rw (eq-eqb (length s.bads) 0 n) (subst (Stands s (record { start = 2 * input_count s + 4 * latch_count s; count = length s.outputs })) (sym (ap (λ (bs : List ℕ). or_outputs bs s.outputs) e)) (stands-outputs s))
safety-stands s (b ∷ bs) e =
    let n : length s.bads ≡ 0 → ⊥ = λ z. omega (arith, ap length e, z) in
    rw (ne_eqb (length s.bads) 0 n)
    (subst (Stands s (record { start = 2 * input_count s + 4 * latch_count s + length s.outputs; count = length s.bads })) (e ∙ sym (ap (λ (xs : List ℕ). or_outputs xs s.outputs) e)) (stands-bads s))

-- each list stands where its range says
pub list_stands : (kind : Literals) (s : Sections) → Stands s (range_of kind (counts_in s)) (list_of kind s)
list_stands literals.Latches s =
    record {
      before = [];
      behind = s.outputs ++ (s.bads ++ (s.constraints ++ words_of operand_words s.gates));
      is = refl;
      starts = omega arith;
      counts = sym (latch_words_lem s);
    }
list_stands literals.Safety s = safety-stands s s.bads refl
list_stands literals.Constraints s =
    record {
      before = words_of latch_words s.latches ++ (s.outputs ++ s.bads);
      behind = words_of operand_words s.gates;
      is =
          sym (append_assoc (words_of latch_words s.latches) (s.outputs ++ s.bads) (s.constraints ++ words_of operand_words s.gates)
          ∙ ap (λ (l : List ℕ). words_of latch_words s.latches ++ l) (append_assoc s.outputs s.bads (s.constraints ++ words_of operand_words s.gates)));
      starts = omega (arith, latch_words_lem s, length-append (words_of latch_words s.latches) (s.outputs ++ s.bads), length-append s.outputs s.bads);
      counts = refl;
    }
list_stands literals.Operands s =
    record {
      before = words_of latch_words s.latches ++ (s.outputs ++ (s.bads ++ s.constraints));
      behind = [];
      is = ap (λ (l : List ℕ). words_of latch_words s.latches ++ (s.outputs ++ (s.bads ++ (s.constraints ++ l)))) (sym (append-nil (words_of operand_words s.gates)))
          ∙ regroup (words_of latch_words s.latches) s.outputs s.bads s.constraints (words_of operand_words s.gates ++ []);
      starts =
          omega (
            arith,
            latch_words_lem s,
            length-append (words_of latch_words s.latches) (s.outputs ++ (s.bads ++ s.constraints)),
            length-append s.outputs (s.bads ++ s.constraints),
            length-append s.bads s.constraints,
          );
      counts = sym (operand_words_lem s);
    }

-- a range is within the words of its text
pub range-within : (kind : Literals) (s : Sections) → (range_of kind (counts_in s)).start + (range_of kind (counts_in s)).count ≤ word_count s
range-within kind s =
    let k = list_stands kind s in
    omega (arith, k.starts, k.counts, ap length k.is, length-append k.before (list_of kind s ++ k.behind), length-append (list_of kind s) k.behind)

-- the list in the words of a block
pub block_list : (kind : Literals) (t : Bytes) (s : Sections) (ws : List ℕ) → Block t s ws
    → part ws (range_of kind (counts_in s)).start ((range_of kind (counts_in s)).start + (range_of kind (counts_in s)).count) ≡ list_of kind s
block_list kind t s ws b = go (range_of kind (counts_in s)).start (range_of kind (counts_in s)).count k.starts k.counts (range-within kind s)
  where
    k : Stands s (range_of kind (counts_in s)) (list_of kind s)
    k = list_stands kind s

    whole : take (word_count s) ws ≡ (b.name_words ++ k.before) ++ (list_of kind s ++ k.behind)
    whole = b.stand ∙ (ap (λ (l : List ℕ). b.name_words ++ l) k.is ∙ sym (append_assoc b.name_words k.before (list_of kind s ++ k.behind)))

    go : (a n : ℕ) → a ≡ 2 * leaves s + length k.before → n ≡ length (list_of kind s) → a + n ≤ word_count s → part ws a (a + n) ≡ list_of kind s
    go a n e f h =
        let front : length (b.name_words ++ k.before) ≡ a = length-append b.name_words k.before ∙ omega (arith, b.count, e) in
        let inner : part (take (word_count s) ws) a (a + n) ≡ list_of kind s = ap (λ (l : List ℕ). part l a (a + n)) whole ∙ middle (b.name_words ++ k.before) (list_of kind s) k.behind a n front (sym f) in
        sym (part-within ws (word_count s) a (a + n) h) ∙ inner
