-- R9: the reasons as an enum of the code, and their numbers.
use Rattle.std.specs.Prelude.{ℕ, Result, Ok, Err}
use Rattle.lists.specs.Answer.{Answer, got, refused}
use Rattle.aiger.specs.declared.Refusal.{Refusal}
use Rattle.aiger.specs.declared.Refusal.TheVariants.{WitnessCount, WitnessPairs, Text, Header, Counts, Liveness, Room, Line, Symbol, Comment, Definition, Step, Boundary, Claim, ComposingRoom, Mapping, GateLimit, LatchConflict, NoSafety, ResultRoom}

-- R9: the number of a reason
abbrev pub refusal_number : Refusal → ℕ
refusal_number WitnessCount = 1
refusal_number WitnessPairs = 2
refusal_number Text = 3
refusal_number Header = 4
refusal_number Counts = 5
refusal_number Liveness = 6
refusal_number Room = 7
refusal_number Line = 8
refusal_number Symbol = 9
refusal_number Comment = 10
refusal_number Definition = 11
refusal_number Step = 12
refusal_number Boundary = 13
refusal_number Claim = 14
refusal_number ComposingRoom = 15
refusal_number Mapping = 16
refusal_number GateLimit = 17
refusal_number LatchConflict = 18
refusal_number NoSafety = 19
refusal_number ResultRoom = 20

-- R10.1: what a result of the code says: the value, or the number of the reason
abbrev pub answered : {A : Type 0} → Result A Refusal → Answer A
answered (Ok x) = got x
answered (Err r) = refused (refusal_number r)

-- R10.1: the same of a value that stands for another one
abbrev pub answered_as : {A B : Type 0} → (A → B) → Result A Refusal → Answer B
answered_as f (Ok x) = got (f x)
answered_as f (Err r) = refused (refusal_number r)
