-- What the calls on a tally book answer in C: "the tally book on a lent array (enter, enter a recording, held, total,
-- entries)".
use Rattle.std.specs.Prelude.{List, [], ◌∷◌, ℕ, ℤ, pos}
use Rattle.verdicts.specs.Verdicts.{refused}
use Rattle.blocks.specs.Refusals as blocks
use Rattle.tally.specs.Tally.{numbered}
use Rattle.tally.specs.declared.Entry.{Entry}
use Rattle.std.specs.Prelude.{Option, Some, None, Result, Ok, Err}
use Rattle.tally.specs.declared.Tallied.{Tallied}
use Rattle.tally.specs.declared.Tallied.TheVariants.{Entered, AlreadyHeld}
use Rattle.tally.specs.declared.Refusal.{Refusal}
use Rattle.tally.specs.declared.RecordingRefusal.{RecordingRefusal}
use Rattle.tally.specs.declared.RecordingRefusal.TheVariants.{Unsound, NotEntered}

abbrev pub entry_with : ℕ → ℕ → ℕ → Entry
entry_with unit number count = record { unit = unit; number = number; count = count }

-- 0 entered, 1 already held, or minus the refusal
abbrev pub enter_result : Result Tallied Refusal → ℤ
enter_result (Ok Entered) = pos 0
enter_result (Ok AlreadyHeld) = pos 1
enter_result (Err refusal) = refused (numbered refusal)

-- of a recording: its own refusal, or the same
abbrev pub entering_result : Result Tallied RecordingRefusal → ℤ
entering_result (Ok tallied) = enter_result (Ok tallied)
entering_result (Err (NotEntered refusal)) = enter_result (Err refusal)
entering_result (Err (Unsound cause)) = refused (blocks.refusal_of cause)

-- 1 held, 0 not
abbrev pub held_result : Option ℕ → ℤ
held_result (Some held) = pos 1
held_result None = pos 0

-- the number that is lent for the count
abbrev pub count_left : Option ℕ → List ℕ → List ℕ
count_left (Some held) o = held ∷ []
count_left None o = o
