-- Worked examples: `take_literal` over a lent cursor, and flat answers.
use Prim.Native.Nat.{ℕ}
use mathlib.Core.List.{[], ◌∷◌, map}
use mathlib.Core.Path.{◌≡◌, refl}
use lib.ListN.{replicate}
use Rattle.lists.specs.Quoted.{bytes}
use Rattle.lists.specs.Answer.{got, refused}
use Rattle.lists.specs.Parts.{Bytes, zeros}
use Rattle.text.specs.Numbers.{number_of}
use Rattle.nitrasovy.specs.FlatLiterals.{literal_from, flat_literal, place_after}
use Rattle.nitrasovy.specs.declared.models.NitRead.{NitRead}
use Rattle.nitrasovy.specs.FlatModels.{flat_read, flat_step}
use Rattle.nitrasovy.specs.FlatObligations.{flat_made}
use Rattle.nitrasovy.specs.FlatCompositions.{flat_composed}

-- `+7`, byte 10, `07`, byte 10, `6 2`, byte 10, byte 10, `9`
abbrev pub lines : Bytes
lines = bytes "+7\n07\n6 2\n\n9"

-- the cursor goes from line to line, also past those that are refused
pub places : map (λ (at : ℕ). place_after (literal_from lines at)) (0 ∷ 3 ∷ 6 ∷ 10 ∷ 11 ∷ []) ≡ 3 ∷ 6 ∷ 10 ∷ 11 ∷ 12 ∷ []
unfolding number_of
places = refl

-- with no line left it stays, also past the end
pub places_past : map (λ (at : ℕ). place_after (literal_from lines at)) (12 ∷ 13 ∷ 100 ∷ []) ≡ 12 ∷ 13 ∷ 100 ∷ []
unfolding number_of
places_past = refl

-- `+7` and the last line, which lacks its byte 10, are literals
pub plus_seven : flat_literal (literal_from lines 0) ≡ record { reason = 0; value = 7 }
unfolding number_of
plus_seven = refl

pub last_line : flat_literal (literal_from lines 11) ≡ record { reason = 0; value = 9 }
unfolding number_of
last_line = refl

-- `07`, two fields, an empty line and no line are 8
pub refused-lines : map (λ (at : ℕ). flat_literal (literal_from lines at)) (3 ∷ 6 ∷ 10 ∷ 12 ∷ [])
    ≡ record { reason = 8; value = 0 } ∷ record { reason = 8; value = 0 } ∷ record { reason = 8; value = 0 } ∷ record { reason = 8; value = 0 } ∷ []
unfolding number_of
refused-lines = refl

-- a refusal's number stands alone
pub stepped : flat_step (got (record { target = 5; high = 1; low = 2 })) ≡ record { reason = 0; target = 5; high = 1; low = 2 }
stepped = refl

pub not_stepped : flat_step (refused 12) ≡ record { reason = 12; target = 0; high = 0; low = 0 }
not_stepped = refl

-- R13.4: two clauses, one literal
pub made : flat_made (got ((0 ∷ []) ∷ [] ∷ [])) ≡ record { reason = 0; clauses = 2; literals = 1 }
made = refl

pub composed : flat_composed (got (bytes "aag")) ≡ record { reason = 0; bytes = 3 }
composed = refl

-- where the reader refuses, the number and zeros
pub returned_zeros :
    ◌≡◌ {A = NitRead} (flat_read (refused 7)) (record {
      reason = 7;
      model =
          record {
            max_variable = 0;
            input_count = 0;
            inputs = zeros 64;
            latch_count = 0;
            latches = replicate 8 (record { current = 0; next = 0 });
            output_count = 0;
            outputs = zeros 128;
            and_count = 0;
          };
    })
returned_zeros = refl
