-- The twelve worked numbers of document 01, as one list over the definitions that the contracts cite.
-- proofs/Worked.antt computes it.
use Rattle.std.specs.Prelude.{Bool, true, false, cond, List, [], ◌∷◌, map, ℕ, suc, ◌*◌, T, eqb, ℤ, pos, get_or}
use Rattle.laws.specs.Table.{both, every}
use Rattle.laws.specs.Tabulate.{tabulate}
use Rattle.laws.proofs.Signed.{same}
use Rattle.record.specs.Fields.{index_of}
use Rattle.gains.specs.Tables.{minus, cg_table, pg_table}
use Rattle.gains.specs.Nearest.{nearest_of}
use Rattle.delays.specs.Table.{printed_byte, rank_with}
use Rattle.delays.specs.Codes.{meant_by}
use Rattle.lsp.specs.Table.{hertz_of, hz_in}
use Rattle.lsp.specs.Order.{mark_of}
use Rattle.lsp.specs.Average.{averages_of}
use Rattle.draws.specs.Draw.{draws, fresh_generator}
use Rattle.frame.specs.Frame.{packed}
use Rattle.frame.specs.Answers.{reading_of, correction_number}
use Rattle.values.specs.Values.{delays_in, delays_of}

-- what the definitions give, and what document 01 prints
pub record Worked : Type 0 where
  pub number : ℕ
  pub given : List ℤ
  pub printed : List ℤ

-- lists of plain numbers
abbrev pub plain : List ℕ → List ℤ
plain = map pos

-- the frame in which only these places are set
abbrev pub is_in : ℕ → List ℕ → ℕ
is_in p [] = 0
is_in p (q ∷ qs) = cond (eqb p q) 1 (is_in p qs)

abbrev pub only : List ℕ → List ℕ
only set = packed (λ p. is_in p set)

-- the correction number of a frame, then its 28 indices
abbrev pub read : List ℕ → List ℤ
read s = plain (correction_number (reading_of s) ∷ tabulate (λ k. index_of (reading_of s).indices (suc k)) 28)

abbrev pub zeros : ℕ → List ℤ
zeros n = tabulate (λ k. pos 0) n

-- what a six-bit code means after a delay that is sent by its printed byte, both in twelfths
abbrev pub following : ℕ → ℕ → ℕ
following delay code = get_or (delays_in (meant_by (printed_byte (rank_with delay) ∷ code ∷ 0 ∷ 0 ∷ []))) 1 0

-- what a printed byte means in subframe 1
abbrev pub byte_means : ℕ → ℕ
byte_means byte = get_or (delays_in (meant_by (byte ∷ 0 ∷ 0 ∷ 0 ∷ []))) 0 0

-- ten LSPs in Hz with LSP 4 at index 12 and LSP 5 at a given one, no lower pair falling
abbrev pub fifth_at : ℕ → List ℕ
fifth_at index = hz_in (hertz_of (0 ∷ 0 ∷ 0 ∷ 12 ∷ index ∷ 7 ∷ 7 ∷ 7 ∷ 7 ∷ 7 ∷ []))

unfoldable pub worked_numbers : List Worked
worked_numbers =
    record {
      number = 1;
      given = draws 4 fresh_generator;
      printed = pos 8472 ∷ minus 31377 ∷ minus 26172 ∷ pos 25681 ∷ [];
    } ∷
    record { number = 2; given = read (only []); printed = pos 0 ∷ zeros 28 } ∷
    record { number = 3; given = read (only (104 ∷ [])); printed = pos 15 ∷ zeros 28 } ∷
    record {
      number = 4;
      given =
          plain
          (correction_number (reading_of (only (11 ∷ 61 ∷ []))) ∷
          index_of (reading_of (only (11 ∷ 61 ∷ []))).indices 11 ∷
          get_or (delays_of (reading_of (only (11 ∷ 61 ∷ []))).indices) 0 0 ∷ []);
      printed = plain (6 ∷ 224 ∷ 748 ∷ []);
    } ∷
    record { number = 5; given = read (only (21 ∷ [])); printed = pos 1 ∷ zeros 28 } ∷
    record {
      number = 6;
      given = plain (get_or (averages_of (340 ∷ []) (250 ∷ [])) 0 0 ∷ []);
      printed =
          plain (2630 ∷ []);
    } ∷
    record { number = 7; given = plain (byte_means 0x42 ∷ byte_means 0xaf ∷ []); printed = plain (240 ∷ 1764 ∷ []) } ∷
    record { number = 8; given = plain (following 351 0 ∷ following 351 63 ∷ []); printed = plain (240 ∷ 460 ∷ []) } ∷
    record { number = 9; given = plain (following 354 0 ∷ following 354 63 ∷ []); printed = plain (244 ∷ 464 ∷ []) } ∷
    record {
      number = 10;
      given =
          plain
          (following (114 * 12) 0 ∷ following (114 * 12) 63 ∷ following (115 * 12) 0 ∷ following (115 * 12) 63 ∷ []);
      printed = plain (83 * 12 ∷ 146 * 12 ∷ 84 * 12 ∷ 147 * 12 ∷ []);
    } ∷
    record {
      number = 11;
      given = plain (nearest_of cg_table (pos 0) ∷ nearest_of pg_table (minus 1000000) ∷ []);
      printed = plain (15 ∷ 0 ∷ []);
    } ∷
    record {
      number = 12;
      given = plain (get_or (fifth_at 9) 3 0 ∷ get_or (fifth_at 9) 4 0 ∷ mark_of (fifth_at 9) ∷ mark_of (fifth_at 8) ∷ []);
      printed = plain (1670 ∷ 1670 ∷ 0 ∷ 4 ∷ []);
    } ∷ []

-- two lists are the same, and all twelve hold, each at its number
abbrev pub alike : List ℤ → List ℤ → Bool
alike [] [] = true
alike [] (y ∷ ys) = false
alike (x ∷ xs) [] = false
alike (x ∷ xs) (y ∷ ys) = both (same x y) (alike xs ys)

abbrev pub holds : ℕ → Worked → Bool
holds k w = both (eqb w.number (suc k)) (alike w.given w.printed)

unfoldable pub AllTwelve : Type 0
AllTwelve = T (every holds 0 worked_numbers)
