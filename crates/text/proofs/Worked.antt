-- Texts by computation: how a word and a number of the sample listing are written.
-- Assumes nothing.
use mathlib.Core.Path.{◌≡◌, refl}
use mathlib.Core.List.{[], ◌∷◌, ◌++◌}
use Rattle.text.specs.Ascii.{ascii}
use Rattle.text.specs.Decimal.{decimal, digits_in}
use Rattle.text.specs.Laid.{laid}

-- the bytes of a word, as a byte string of the code has them
pub word_bytes_lem : ascii "unit " ≡ 117 ∷ 110 ∷ 105 ∷ 116 ∷ 32 ∷ []
word_bytes_lem = refl

-- a newline is the one byte 10
pub line_end : ascii "\n" ≡ 10 ∷ []
line_end = refl

-- 0, 10 and the largest number of 64 bits
pub numbers : decimal 0 ++ ascii " " ++ decimal 10 ++ ascii " " ++ decimal 18446744073709551615
    ≡ ascii "0 10 18446744073709551615"
unfolding decimal digits_in
numbers = refl

-- a frame's line
pub frame_line : decimal 2 ++ ascii " " ++ decimal 15 ++ ascii " " ++ decimal 656 ≡ ascii "2 15 656"
unfolding decimal digits_in
frame_line = refl

-- a text with room, one that is cut, and one past the end
pub with_room : laid (ascii "......") 1 (ascii "unit") ≡ ascii ".unit."
unfolding laid
with_room = refl

-- a word with too little room is laid as far as there is room
pub cut : laid (ascii "......") 3 (ascii "unit") ≡ ascii "...uni"
unfolding laid
cut = refl

-- a word past the buffer's end is not laid at all
pub past_the_end : laid (ascii "......") 7 (ascii "unit") ≡ ascii "......"
unfolding laid
past_the_end = refl
