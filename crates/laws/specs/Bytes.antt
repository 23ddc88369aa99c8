-- Numbers in bytes, little-endian.
use Rattle.std.specs.Prelude.{List, ℕ, ◌+◌, ◌*◌, get_or}

-- two and four bytes from a place on as a number, the lowest byte first
unfoldable pub pair_at : List ℕ → ℕ → ℕ
pair_at s at = get_or s at 0 + 256 * get_or s (at + 1) 0

-- four bytes
unfoldable pub word_at : List ℕ → ℕ → ℕ
word_at s at = get_or s at 0 + 256 * (get_or s (at + 1) 0 + 256 * (get_or s (at + 2) 0 + 256 * get_or s (at + 3) 0))
