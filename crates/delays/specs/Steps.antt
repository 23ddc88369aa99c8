-- What the private functions answer on the way to four delays or four codes: a stretch of the list, one pair of
-- subframes, and both pairs.
use Rattle.std.specs.Prelude.{cond, List, [], ◌∷◌, ℕ, ◌+◌, ◌-◌, ◌/◌, ◌%◌, eqb, Result, Ok, Err}
use Rattle.laws.specs.Unless.{unless}
use Rattle.delays.specs.Table.{twelfths_of, printed_byte, rank_of, rank_with}
use Rattle.delays.specs.Codes.{base_of, after_of, listed, in_window}
use Rattle.delays.specs.declared.DelayRefusal.{DelayRefusal}
use Rattle.delays.specs.declared.DelayRefusal.TheVariants.{NotListed, OutsideWindow}

-- the delays in twelfths that codes a, b, c and d within their bits mean
abbrev pub delays_meant : ℕ → ℕ → ℕ → ℕ → List ℕ
delays_meant a b c d =
    twelfths_of (rank_of a) ∷ twelfths_of (after_of (rank_of a) b) ∷ twelfths_of (rank_of c) ∷
    twelfths_of (after_of (rank_of c) d) ∷ []

-- the rank of a delay in the stretch that starts at a delay and a rank and goes on by a step, 256 between two steps
abbrev pub rank_in : ℕ → ℕ → ℕ → ℕ → ℕ
rank_in from step first delay = cond (eqb ((delay - from) % step) 0) (first + (delay - from) / step) 256

-- delays of a and b twelfths in subframes n and n + 1: the rank of the first and the code of the second, or what is
-- refused
unfoldable pub coded_pair : ℕ → ℕ → ℕ → Result (ℕ × ℕ) DelayRefusal
coded_pair n a b =
    unless (listed a) (Err (NotListed n))
    (unless (listed b) (Err (NotListed (n + 1)))
    (unless (in_window (rank_with a) (rank_with b)) (Err (OutsideWindow (n + 1)))
    (Ok (rank_with a, rank_with b - base_of (rank_with a)))))

-- the codes of two pairs inside their windows, from the ranks of the first and third delay and the codes of the second
-- and fourth
abbrev pub both_inside : ℕ → ℕ → ℕ → ℕ → List ℕ
both_inside r s u v = printed_byte r ∷ s ∷ printed_byte u ∷ v ∷ []
