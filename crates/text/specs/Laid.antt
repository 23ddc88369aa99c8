-- A text laid into a buffer.
use Rattle.std.specs.Prelude.{List, ◌++◌, ℕ, ◌+◌, ◌-◌, min, length, take, drop}

-- the buffer o with the text t laid at a position: as much of t as there is room for, and all else as it was
unfoldable pub laid : List ℕ → ℕ → List ℕ → List ℕ
laid o at t = take at o ++ take (length o - at) t ++ drop (at + length t) o

-- the position after the text, held at the buffer's length
abbrev pub after : List ℕ → ℕ → List ℕ → ℕ
after o at t = min (at + length t) (length o)
