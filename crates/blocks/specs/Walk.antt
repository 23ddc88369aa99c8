-- A recording is one head, one or more voice blocks, one end, nothing after, at most 65,536 bytes (document 01,
-- "Recordings").
use Rattle.std.specs.Prelude.{Result, true, false, not, List, ℕ, suc, ◌+◌, ◌/◌, eqb, leb, ltb, length, Ok, Err}
use Rattle.std.specs.declared.ops.ControlFlow.{ControlFlow}
use Rattle.std.specs.declared.ops.ControlFlow.TheVariants.{Continue, Break}
use Rattle.laws.specs.Turns.{turns}
use Rattle.laws.specs.Unless.{unless}
use Rattle.blocks.specs.Blocks.{block_at}
use Rattle.blocks.specs.declared.Cause.{Cause}
use Rattle.blocks.specs.declared.Cause.TheVariants.{TooLong, OutOfTurn, EndMissing, WrongCount, Extra}
use Rattle.blocks.specs.declared.Heading.{Heading}
use Rattle.blocks.specs.declared.Block.{Block}
use Rattle.blocks.specs.declared.Block.TheVariants.{Head, Voice, End}
use Rattle.blocks.specs.declared.Walk.{Walk}
use Rattle.blocks.specs.declared.Walked.{Walked}

-- how a walk ends, soundly or refused; and a step of it: past a block, or to the end
abbrev pub Ending : Type 0
Ending = Result (Unit {0}) Cause

abbrev pub Moved : Type 0
Moved = ControlFlow Ending Walk

abbrev pub longest : ℕ
longest = 65536

abbrev pub refuse : Cause → Moved
refuse cause = Break (Err cause)

-- where a head ends: six bytes of header, eight of payload. The voice blocks begin there.
abbrev pub after_head : ℕ → ℕ
after_head at = at + 6 + 8

-- the walk past a head, and past a voice block
abbrev pub past_head_of : Walk → Heading → Walk
past_head_of w heading =
    record {
      at = after_head w.at;
      headed = true;
      heading = heading;
      voices = after_head w.at;
      frames = w.frames;
    }

abbrev pub past_voice_of : Walk → ℕ → Walk
past_voice_of w size =
    record {
      at = w.at + 6 + size;
      headed = w.headed;
      heading = w.heading;
      voices = w.voices;
      frames = w.frames + size / 18;
    }

-- what a block does to the walk that comes to it. A head is in its turn where there was none, a voice block after the
-- head, the end after a voice block; the end tells the number of frames, and nothing comes after its payload of four
-- bytes.
abbrev pub at_head : Walk → Heading → Moved
at_head w heading = unless (not w.headed) (refuse (OutOfTurn w.at)) (Continue (past_head_of w heading))

abbrev pub at_voice : Walk → ℕ → Moved
at_voice w size = unless w.headed (refuse (OutOfTurn w.at)) (Continue (past_voice_of w size))

abbrev pub ending_at : ℕ → ℕ → ℕ → ℕ → Ending
ending_at long at frames told =
    unless (ltb 0 frames) (Err (OutOfTurn at))
    (unless (eqb told frames) (Err (WrongCount at))
    (unless (eqb long (at + 6 + 4)) (Err (Extra (at + 6 + 4)))
    (Ok tt)))

abbrev pub met : List ℕ → Walk → Result Block Cause → Moved
met s w (Ok (Head heading)) = at_head w heading
met s w (Ok (Voice size)) = at_voice w size
met s w (Ok (End told)) = Break (ending_at (length s) w.at w.frames told)
met s w (Err cause) = refuse cause

-- one step: the walk past the block, or how it ends
unfoldable pub step_of : List ℕ → Walk → Moved
step_of s w = met s w (block_at s w.at)

-- before the first block
abbrev pub at_start : Walk
at_start = record { at = 0; headed = false; heading = record { unit = 0; number = 0 }; voices = 0; frames = 0 }

-- step by step to the end. A step passes at least one byte, so more turns than bytes never run out. What was passed
-- is kept:
-- the walk before the block at which it ends.
abbrev pub stopped : Walk → Ending → Walked
stopped w ending = record { walk = w; ending = ending }

abbrev pub onward : (Walk → Walked) → Walk → Moved → Walked
onward further w (Continue next) = further next
onward further w (Break ending) = stopped w ending

unfoldable pub walk_from : List ℕ → Walk → Walked
walk_from s =
    turns (stopped at_start (Err (EndMissing (length s)))) (λ further w. onward further w (step_of s w))
    (suc (length s))

-- the whole: what the blocks of a recording come to
unfoldable pub walked_of : List ℕ → Walked
walked_of s = unless (leb (length s) longest) (stopped at_start (Err TooLong)) (walk_from s at_start)
