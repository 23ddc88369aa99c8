-- A text as it is printed, as bytes.
use Rattle.std.specs.Prelude.{List, [], ◌∷◌, ℕ}
use Prim.Native.Char.{code}
use Prim.Native.String.{String, [] as empty, ◌∷◌ as ◌followed-by◌}

-- the codes of a text's characters: its bytes, where each is an ASCII character. It computes, so that a byte string of
-- the code, b"unit ", is ascii "unit " by refl.
abbrev pub ascii : String → List ℕ
ascii empty = []
ascii (c followed-by s) = code c ∷ ascii s
