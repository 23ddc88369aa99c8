-- What salvaging writes and answers (document 02, K2): "It writes these and a fresh end into a lent buffer of 65,536
-- bytes, whose bytes past that end block stay, and lists each change: bytes dropped from where, frames kept, end
-- written. A sound recording comes out unchanged with an empty list."
use Rattle.std.specs.Prelude.{cond, List, [], ◌++◌, ℕ, ◌+◌, ◌-◌, length, drop, Result, Ok, Err}
use Rattle.kept.specs.declared.Keep.{Keep}
use Rattle.kept.specs.declared.Unsalvaged.{Unsalvaged}
use Rattle.blocks.specs.Walk.{after_head, walked_of}
use Rattle.blocks.specs.Made.{voice_blocks, made}
use Rattle.kept.specs.Keeping.{frames_kept, voices_kept}
use Rattle.kept.specs.Planning.{number_of, plan_of}
use Rattle.salvage.specs.declared.Changes.{Changes}
use Rattle.salvage.specs.declared.Salvaged.{Salvaged}
use Rattle.salvage.specs.declared.Salvaged.TheVariants.{Sound, Mended}

-- the result
unfoldable pub result_of : List ℕ → List ℕ
result_of s = made (walked_of s).walk.heading (voices_kept s)

-- where the end block is written: after the last kept frame. Each kept block stands where it stood, so that is also the
-- first byte of the input after that frame, from which on all is dropped.
abbrev pub end_of : List ℕ → ℕ
end_of s = after_head 0 + length (voice_blocks (voices_kept s))

unfoldable pub changes_of : List ℕ → Changes
changes_of s =
    record {
      dropped = length s - end_of s;
      from = end_of s;
      frames = frames_kept s;
      end = end_of s;
      long = length (result_of s);
    }

-- the answer, by what is planned
abbrev pub answer_of : List ℕ → Result Keep Unsalvaged → Result Salvaged Unsalvaged
answer_of s (Err why) = Err why
answer_of s (Ok keep) = Ok (cond keep.sound Sound (Mended (changes_of s)))

unfoldable pub salvage_of : List ℕ → ℕ → Result Salvaged Unsalvaged
salvage_of s room = answer_of s (plan_of s room)

-- the lent buffer then: the result and the bytes past it as they were; a refusal writes nothing
abbrev pub buffer_by : Result Salvaged Unsalvaged → List ℕ → List ℕ → List ℕ
buffer_by (Ok Sound) result o = result ++ drop (length result) o
buffer_by (Ok (Mended changes)) result o = result ++ drop (length result) o
buffer_by (Err why) result o = o

unfoldable pub buffer_of : List ℕ → List ℕ → List ℕ
buffer_of s o = buffer_by (salvage_of s (length o)) (result_of s) o

-- how many of its bytes are the result of so many; a refusal has none
abbrev pub long_of : ℕ → Result Salvaged Unsalvaged → ℕ
long_of long (Ok Sound) = long
long_of long (Ok (Mended changes)) = changes.long
long_of long (Err why) = 0

-- the number of a refusal, and what it tells; 0 is no refusal
abbrev pub refusal_of : Result Salvaged Unsalvaged → ℕ
refusal_of (Ok Sound) = 0
refusal_of (Ok (Mended changes)) = 0
refusal_of (Err why) = number_of why

abbrev pub tells_of : Result Salvaged Unsalvaged → List ℕ
tells_of (Ok Sound) = []
tells_of (Ok (Mended changes)) = []
tells_of (Err why) = []
