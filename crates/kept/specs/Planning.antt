-- What is to be written of a recording, or why nothing is (document 02, K2): "Refusals: 1 for the input or the lent
-- buffer, then 12 when no head or no whole frame can be kept."
use Rattle.std.specs.Prelude.{Bool, true, false, List, ℕ, ◌-◌, eqb, leb, ltb, length, Ok, Err, Result}
use Rattle.laws.specs.Unless.{unless}
use Rattle.blocks.specs.Walk.{longest, walked_of}
use Rattle.blocks.specs.Frames.{frames_in}
use Rattle.blocks.specs.Walk.{Ending}
use Rattle.kept.specs.Keeping.{kept_of, frames_kept}
use Rattle.kept.specs.declared.Keep.{Keep}
use Rattle.kept.specs.declared.Unsalvaged.{Unsalvaged}
use Rattle.kept.specs.declared.Unsalvaged.TheVariants.{TooLong, WrongBuffer, NoHead, NoFrame}

-- the number of each refusal; none tells anything beside it
abbrev pub number_of : Unsalvaged → ℕ
number_of TooLong = 1
number_of WrongBuffer = 1
number_of NoHead = 12
number_of NoFrame = 12

abbrev pub is_sound : Ending → Bool
is_sound (Ok _) = true
is_sound (Err cause) = false

-- what is to be written: how many frames; those that the voice blocks before the first refusal do not have are the
-- first ones of the block at which it is given
unfoldable pub keep_of : List ℕ → Keep
keep_of s =
    record {
      heading = (walked_of s).walk.heading;
      frames = frames_kept s;
      rest = frames_kept s - (walked_of s).walk.frames;
      at = (walked_of s).walk.at;
      sound = is_sound (walked_of s).ending;
    }

-- for a lent buffer of so many bytes
unfoldable pub plan_of : List ℕ → ℕ → Result Keep Unsalvaged
plan_of s room =
    unless (leb (length s) longest) (Err TooLong)
    (unless (eqb room longest) (Err WrongBuffer)
    (unless (walked_of s).walk.headed (Err NoHead)
    (unless (ltb 0 (length (frames_in (kept_of s)))) (Err NoFrame)
    (Ok (keep_of s)))))
