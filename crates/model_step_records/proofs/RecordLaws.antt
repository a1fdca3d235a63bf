-- Records of gates and their words.
use Prim.Native.Nat.{ℕ, ◌/◌, ◌*◌, ◌+◌, ◌<◌}
use mathlib.Core.List.{List}
use mathlib.Core.Path.{◌≡◌, refl, sym, ap, ◌∙◌}
use native.Mathlib.Omega.{arith}
use lib.ListN.{length, get_or}
use Rattle.lists.specs.Words.{words_of, triples_of}
use Rattle.lists.proofs.WordLaws.{triples_back, triples_at, words-length}
use Rattle.aiger.specs.declared.Gate.{Gate}
use Rattle.aiger.specs.Gates.{gate_from, gate_words}

module _ (gs : List Gate) where
  abbrev pub words : List ℕ
  words = words_of gate_words gs

  pub records_back : triples_of gate_from words ≡ gs
  records_back = triples_back gate_from gate_words (λ g. refl) (λ g. refl) gs

  pub records_count : length gs ≡ length words / 3
  records_count = let n : length words ≡ 3 * length gs = words-length gate_words 3 (λ g. refl) gs in omega arith

  -- the record at a place is that of its three words
  pub record_at : (i : ℕ) (d : Gate) → i < length gs → get_or gs i d ≡ gate_from (get_or words (3 * i) 0) (get_or words (3 * i + 1) 0) (get_or words (3 * i + 2) 0)
  record_at i d h =
      let n : length words ≡ 3 * length gs = words-length gate_words 3 (λ g. refl) gs in
      ap (λ (xs : List Gate). get_or xs i d) (sym records_back) ∙ triples_at gate_from words i 0 d (omega arith)
