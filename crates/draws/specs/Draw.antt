-- The draws that the book is made of: the function `random` of 3.3.1, over five kept numbers y and two positions k, j.
use Rattle.std.specs.Prelude.{ℕ, zero, suc, ◌-◌, ◌%◌, cond, List, [], ◌∷◌, ℤ, pos, negsuc, ◌+ℤ◌, ◌-ℤ◌, ◌==◌, int_lt, nat_le, slice_index_or, slice_set}
use Rattle.draws.specs.declared.Generator.{Generator}
use Rattle.draws.specs.declared.Draw.{Draw}

-- the start: `data y/-21161, -8478, 30892, -10216, 16950/`, `data j/2/, k/5/`; the first position is k
unfoldable pub fresh_generator : Generator
fresh_generator =
    record { kept = negsuc 21160 ∷ negsuc 8477 ∷ pos 30892 ∷ negsuc 10215 ∷ pos 16950 ∷ []; first = 5; second = 2 }

-- the position that a number counts as: its remainder on five, 0 being the fifth
abbrev pub position_of : ℕ → ℕ
position_of p = cond (p % 5 == 0) 5 (p % 5)

-- `k=k-1`, `if (k .le. 0) k=MAXTAP`
abbrev pub moved_of : ℕ → ℕ
moved_of k = cond (nat_le (k - 1) 0) 5 (k - 1)

-- a number on sixteen bits: itself, or 65,536 more or less where it is below -32,768 or above 32,767
unfoldable pub wrapped : ℤ → ℤ
wrapped z = cond (int_lt z (negsuc 32767)) (z +ℤ pos 65536) (cond (int_lt (pos 32767) z) (z -ℤ pos 65536) z)

-- the number kept at a position, 1 to 5
abbrev pub kept_at : Generator → ℕ → ℤ
kept_at g k = slice_index_or g.kept (k - 1) (pos 0)

-- `temp=iand(y(k)+y(j), 65535)`, `if (temp .gt. 32767) temp=temp-65536`
abbrev pub drawn_value : Generator → ℕ → ℕ → ℤ
drawn_value g k j = wrapped (kept_at g k +ℤ kept_at g j)

-- `y(k)=temp`, and both positions move
abbrev pub generator_after : Generator → ℕ → ℕ → ℤ → Generator
generator_after g k j v = record { kept = slice_set g.kept (k - 1) v; first = moved_of k; second = moved_of j }

-- the draw at two positions
abbrev pub draw_at : Generator → ℕ → ℕ → Draw
draw_at g k j = record { value = drawn_value g k j; generator = generator_after g k j (drawn_value g k j) }

-- a draw: the number drawn, and the generator after it
unfoldable pub draw_of : Generator → Draw
draw_of g = draw_at g (position_of g.first) (position_of g.second)

-- the first n draws from a generator
abbrev pub draws : ℕ → Generator → List ℤ
draws zero g = []
draws (suc n) g = (draw_of g).value ∷ draws n (draw_of g).generator
