-- The register (3.5.1, the adaptive "code book"): 147 whole numbers, zero at first, the newest last (document 02, K6).
use Rattle.std.specs.Prelude.{List, ◌++◌, ◌-◌, ℤ, pos, negsuc, get_or, drop}
use Rattle.laws.specs.Tabulate.{tabulate}
use Rattle.excitation.specs.declared.Register.{Register}

-- a register that holds a list
abbrev pub holding : List ℤ → Register
holding l = record { elements = l }

-- the register at first
unfoldable pub silent_register : Register
silent_register = holding (tabulate (λ k. pos 0) 147)

-- the element at a position, -1 being the newest and -147 the oldest; there is none at 0 and after
abbrev pub element_at : List ℤ → ℤ → ℤ
element_at register (negsuc k) = get_or register (146 - k) (pos 0)
element_at register (pos n) = pos 0

-- the register moves by the sixty new elements
unfoldable pub moved_by : List ℤ → List ℤ → List ℤ
moved_by register elements = drop 60 (register ++ elements)
