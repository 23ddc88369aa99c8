-- What the four indices PD(1) to PD(4) of a record mean, and which indices four delays have (3.5.4, 3.5.5).
use Rattle.std.specs.Prelude.{Bool, cond, List, [], ◌∷◌, ℕ, ◌+◌, ◌-◌, ◌*◌, min, leb, ltb, get_or, Option, Some, None, Result, Ok, Err}
use Rattle.laws.specs.Table.{both}
use Rattle.laws.specs.Unless.{unless}
use Rattle.delays.specs.Table.{twelfths_of, printed_byte, rank_of, rank_with}
use Rattle.delays.specs.declared.CodeRefusal.{CodeRefusal}
use Rattle.delays.specs.declared.CodeRefusal.TheVariants.{TooLarge}
use Rattle.delays.specs.declared.DelayRefusal.{DelayRefusal}
use Rattle.delays.specs.declared.DelayRefusal.TheVariants.{NotListed, OutsideWindow}

-- the lowest rank of the window after a rank: the rank less 31, held between 0 and 192
abbrev pub base_of : ℕ → ℕ
base_of rank = min (rank - 31) 192

-- the rank that a six-bit code means after a rank
abbrev pub after_of : ℕ → ℕ → ℕ
after_of rank step = base_of rank + step

-- the delays in twelfths that codes a and c, of eight bits, and b and d, of six, mean; or the first subframe whose code
-- is too large
abbrev pub four_meant : ℕ → ℕ → ℕ → ℕ → Result (List ℕ) CodeRefusal
four_meant a b c d =
    unless (leb a 255) (Err (TooLarge 1))
    (unless (leb b 63) (Err (TooLarge 2))
    (unless (leb c 255) (Err (TooLarge 3))
    (unless (leb d 63) (Err (TooLarge 4))
    (Ok (twelfths_of (rank_of a) ∷ twelfths_of (after_of (rank_of a) b) ∷
    twelfths_of (rank_of c) ∷ twelfths_of (after_of (rank_of c) d) ∷ [])))))

-- what a record's four indices mean
unfoldable pub meant_by : List ℕ → Result (List ℕ) CodeRefusal
meant_by codes = four_meant (get_or codes 0 0) (get_or codes 1 0) (get_or codes 2 0) (get_or codes 3 0)

-- a delay is in the list
abbrev pub listed : ℕ → Bool
listed delay = ltb (rank_with delay) 256

-- a rank that was searched for, if it is one of the 256
abbrev pub rank_found : ℕ → Option ℕ
rank_found rank = cond (ltb rank 256) (Some rank) None

-- a rank is in the window of 64 ranks after another
abbrev pub in_window : ℕ → ℕ → Bool
in_window before rank = both (leb (base_of before) rank) (leb rank (base_of before + 63))

-- subframes n and n + 1 with delays of a and b twelfths: the first refusal, or go on
abbrev pub pair_of : ℕ → ℕ → ℕ → Result (List ℕ) DelayRefusal → Result (List ℕ) DelayRefusal
pair_of n a b rest =
    unless (listed a) (Err (NotListed n))
    (unless (listed b) (Err (NotListed (n + 1)))
    (unless (in_window (rank_with a) (rank_with b)) (Err (OutsideWindow (n + 1))) rest))

-- the codes of delays of a, b, c and d twelfths, or the first refusal; subframe 3 does not look at 2
abbrev pub four_of : ℕ → ℕ → ℕ → ℕ → Result (List ℕ) DelayRefusal
four_of a b c d =
    pair_of 1 a b
    (pair_of 3 c d
    (Ok (printed_byte (rank_with a) ∷ (rank_with b - base_of (rank_with a)) ∷
    printed_byte (rank_with c) ∷ (rank_with d - base_of (rank_with c)) ∷ [])))

-- the codes of a list of four delays in twelfths, or the first refusal
unfoldable pub coded_of : List ℕ → Result (List ℕ) DelayRefusal
coded_of delays = four_of (get_or delays 0 0) (get_or delays 1 0) (get_or delays 2 0) (get_or delays 3 0)

-- the refusal's number, 0 where there is none
abbrev pub refusal_of : Result (List ℕ) DelayRefusal → ℕ
refusal_of (Ok codes) = 0
refusal_of (Err (NotListed subframe)) = 4
refusal_of (Err (OutsideWindow subframe)) = 5

-- what the refusal tells
abbrev pub tells_of : Result (List ℕ) DelayRefusal → List ℕ
tells_of (Ok codes) = []
tells_of (Err (NotListed subframe)) = subframe ∷ []
tells_of (Err (OutsideWindow subframe)) = subframe ∷ []

-- the same of codes: an index too large tells its field, the first of its subframe's four
abbrev pub meant_refusal : Result (List ℕ) CodeRefusal → ℕ
meant_refusal (Ok delays) = 0
meant_refusal (Err (TooLarge subframe)) = 2

-- field 10 + 4(n-1) + 1 for subframe n
abbrev pub meant_tells : Result (List ℕ) CodeRefusal → List ℕ
meant_tells (Ok delays) = []
meant_tells (Err (TooLarge subframe)) = (10 + 4 * (subframe - 1) + 1) ∷ []
