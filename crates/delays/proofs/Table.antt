-- The rules of the two lists, each a test that is computed over the whole list.
-- Assumes nothing.
use mathlib.Core.Path.{◌≡◌, ◌∙◌, sym, refl, ap}
use mathlib.Core.Bool.{cond}
use mathlib.Core.List.{List, [], ◌∷◌}
use Prim.Native.Nat.{ℕ, zero, suc, ◌+◌, ◌-◌, ◌*◌, ◌<◌, ◌≤◌}
use native.Mathlib.Omega.{arith}
use native.Mathlib.Decide.{ℕ_discrete}
use lib.Dec.{T, leb, ltb, eqb, eqb→eq, leb→le}
use lib.ListN.{length, get_or}
use lib.Seq.{ext_get_or}
use borrow.Author.Tests.{le-leb, lt-leb}
use Rattle.laws.specs.Table.{both, every}
use Rattle.laws.specs.Tabulate.{tabulate}
use Rattle.laws.proofs.Table.{at, both_left, both_right}
use Rattle.laws.proofs.Place.{place_entry, place_back}
use Rattle.laws.proofs.Tabulate.{length_tabulate, get_d_tabulate}
use Rattle.delays.specs.Table.{delays, bytes, twelfths_of, stretched, printed_byte, rank_of, rank_with}
use Rattle.delays.specs.Steps.{rank_in}

-- there are 256 delays
pub delays_long : length delays ≡ 256
unfolding delays
delays_long = refl

-- the list of delays is that of the four stretches
pub twelfths_stretched : (rank : ℕ) → rank < 256 → twelfths_of rank ≡ stretched rank
unfolding delays twelfths_of stretched
twelfths_stretched rank h =
    eqb→eq (twelfths_of rank) (stretched rank) (at 0 (λ k x. eqb x (stretched k)) delays tt rank h)

-- so the twelfths of a rank in each stretch: those of the first, and its steps from there
module _ (rank : ℕ) where
  -- from 20 samples in thirds
  pub in_first_thirds : rank < 18 → 240 + 4 * rank ≡ twelfths_of rank
  unfolding stretched
  in_first_thirds h = sym (twelfths_stretched rank (omega arith) ∙ rw (le-leb rank 17 (omega arith)) refl)

  -- from 26 samples in quarters
  pub in_quarters : 18 ≤ rank → rank < 50 → 312 + 3 * (rank - 18) ≡ twelfths_of rank
  unfolding stretched
  in_quarters l h =
      sym (twelfths_stretched rank (omega arith)
      ∙ rw (lt-leb rank 17 (omega arith), le-leb rank 49 (omega arith)) refl)

  -- from 34 samples in thirds
  pub in_second_thirds : 50 ≤ rank → rank < 188 → 408 + 4 * (rank - 50) ≡ twelfths_of rank
  unfolding stretched
  in_second_thirds l h =
      sym (twelfths_stretched rank (omega arith)
      ∙ rw (lt-leb rank 17 (omega arith), lt-leb rank 49 (omega arith), le-leb rank 187 (omega arith)) refl)

  -- from 80 in whole samples
  pub in_wholes : 188 ≤ rank → rank < 256 → 960 + 12 * (rank - 188) ≡ twelfths_of rank
  unfolding stretched
  in_wholes l h =
      sym (twelfths_stretched rank h
      ∙ rw (lt-leb rank 17 (omega arith), lt-leb rank 49 (omega arith), lt-leb rank 187 (omega arith)) refl)

-- the shortest delay is 20 samples, the longest 147
pub twelfths_low : (rank : ℕ) → rank < 256 → 240 ≤ twelfths_of rank
unfolding delays twelfths_of
twelfths_low rank h = leb→le 240 (twelfths_of rank) (at 0 (λ k x. leb 240 x) delays tt rank h)

-- no delay is longer than 147 samples
pub twelfths_high : (rank : ℕ) → rank < 256 → twelfths_of rank ≤ 1764
unfolding delays twelfths_of
twelfths_high rank h = leb→le (twelfths_of rank) 1764 (at 0 (λ k x. leb x 1764) delays tt rank h)

-- a delay is longer than the one a rank below
twelfths_step : (rank : ℕ) → rank < 255 → twelfths_of rank < twelfths_of (suc rank)
unfolding delays twelfths_of stretched
twelfths_step rank h =
    rw (twelfths_stretched (suc rank) (omega arith))
    (leb→le (suc (twelfths_of rank)) (stretched (suc rank))
    (at 0 (λ k x. leb (suc x) (stretched (suc k))) delays tt rank (omega arith)))

-- twelfths rise with the rank
pub twelfths_rise : (low high : ℕ) → low < high → high < 256 → twelfths_of low < twelfths_of high
twelfths_rise low zero l h = absurd (omega arith)
twelfths_rise low (suc high) l h = here (ℕ_discrete low high) (λ k. twelfths_rise low high k (omega arith))
  where
    here : Dec (low ≡ high) → (low < high → twelfths_of low < twelfths_of high) → twelfths_of low < twelfths_of (suc high)
    here (yes e) below = rw e (twelfths_step high (omega arith))
    here (no n) below =
        let b : twelfths_of low < twelfths_of high = below (omega arith) in
        omega (arith, twelfths_step high (omega arith))

-- the rank that the four stretches give for a delay in twelfths: 256 before them, past them and between their steps
unfoldable pub searched : ℕ → ℕ
searched delay =
    cond (ltb delay 240) 256
    (cond (ltb delay 312) (rank_in 240 4 0 delay)
    (cond (ltb delay 408) (rank_in 312 3 18 delay)
    (cond (ltb delay 960) (rank_in 408 4 50 delay) (cond (ltb delay 1776) (rank_in 960 12 188 delay) 256))))

-- it leads from each rank's twelfths back to that rank
pub searched_twelfths : (rank : ℕ) → rank < 256 → searched (twelfths_of rank) ≡ rank
unfolding delays twelfths_of searched
searched_twelfths rank h =
    eqb→eq (searched (twelfths_of rank)) rank (at 0 (λ k x. eqb (searched x) k) delays tt rank h)

-- so each delay stands in the list once: the rank of a rank's twelfths is that rank
pub rank_twelfths : (rank : ℕ) → rank < 256 → rank_with (twelfths_of rank) ≡ rank
unfolding twelfths_of rank_with
rank_twelfths rank h =
    place_back searched delays (λ k l. searched_twelfths k (omega (arith, delays_long))) rank
    (omega (arith, delays_long))

-- a listed delay is the twelfths of its rank
pub twelfths_rank : (delay : ℕ) → rank_with delay < 256 → twelfths_of (rank_with delay) ≡ delay
unfolding twelfths_of rank_with
twelfths_rank delay h = place_entry delay delays (omega (arith, delays_long))

-- the rank of each byte, in their order
unfoldable pub ranks : List ℕ
ranks =
    112 ∷ 29 ∷ 23 ∷ 25 ∷ 218 ∷ 121 ∷ 114 ∷ 117 ∷ 113 ∷ 28 ∷ 22 ∷ 24 ∷ 219 ∷ 120 ∷ 115 ∷ 116 ∷
    217 ∷ 31 ∷ 111 ∷ 27 ∷ 222 ∷ 123 ∷ 220 ∷ 118 ∷ 216 ∷ 30 ∷ 110 ∷ 26 ∷ 223 ∷ 122 ∷ 221 ∷ 119 ∷
    169 ∷ 176 ∷ 172 ∷ 177 ∷ 189 ∷ 181 ∷ 188 ∷ 179 ∷ 170 ∷ 175 ∷ 173 ∷ 178 ∷ 187 ∷ 182 ∷ 186 ∷ 180 ∷
    59 ∷ 62 ∷ 60 ∷ 63 ∷ 69 ∷ 184 ∷ 68 ∷ 66 ∷ 171 ∷ 174 ∷ 61 ∷ 64 ∷ 185 ∷ 183 ∷ 67 ∷ 65 ∷
    196 ∷ 197 ∷ 0 ∷ 231 ∷ 194 ∷ 195 ∷ 1 ∷ 2 ∷ 191 ∷ 190 ∷ 70 ∷ 71 ∷ 192 ∷ 193 ∷ 72 ∷ 73 ∷
    80 ∷ 81 ∷ 241 ∷ 242 ∷ 78 ∷ 79 ∷ 4 ∷ 3 ∷ 6 ∷ 5 ∷ 236 ∷ 235 ∷ 76 ∷ 77 ∷ 75 ∷ 74 ∷
    138 ∷ 40 ∷ 238 ∷ 237 ∷ 139 ∷ 41 ∷ 243 ∷ 244 ∷ 146 ∷ 46 ∷ 150 ∷ 50 ∷ 144 ∷ 44 ∷ 151 ∷ 152 ∷
    141 ∷ 43 ∷ 143 ∷ 142 ∷ 140 ∷ 42 ∷ 240 ∷ 239 ∷ 147 ∷ 47 ∷ 148 ∷ 48 ∷ 145 ∷ 45 ∷ 149 ∷ 49 ∷
    105 ∷ 210 ∷ 108 ∷ 214 ∷ 15 ∷ 97 ∷ 20 ∷ 207 ∷ 102 ∷ 100 ∷ 107 ∷ 213 ∷ 16 ∷ 99 ∷ 19 ∷ 209 ∷
    104 ∷ 211 ∷ 109 ∷ 215 ∷ 14 ∷ 96 ∷ 21 ∷ 206 ∷ 103 ∷ 101 ∷ 106 ∷ 212 ∷ 17 ∷ 98 ∷ 18 ∷ 208 ∷
    93 ∷ 205 ∷ 84 ∷ 199 ∷ 92 ∷ 204 ∷ 83 ∷ 198 ∷ 13 ∷ 94 ∷ 82 ∷ 247 ∷ 12 ∷ 95 ∷ 7 ∷ 255 ∷
    88 ∷ 202 ∷ 86 ∷ 201 ∷ 90 ∷ 203 ∷ 85 ∷ 200 ∷ 10 ∷ 89 ∷ 9 ∷ 87 ∷ 11 ∷ 91 ∷ 8 ∷ 251 ∷
    52 ∷ 51 ∷ 54 ∷ 53 ∷ 153 ∷ 154 ∷ 159 ∷ 157 ∷ 156 ∷ 155 ∷ 160 ∷ 158 ∷ 245 ∷ 246 ∷ 249 ∷ 248 ∷
    58 ∷ 57 ∷ 55 ∷ 56 ∷ 168 ∷ 166 ∷ 161 ∷ 164 ∷ 167 ∷ 165 ∷ 162 ∷ 163 ∷ 254 ∷ 253 ∷ 250 ∷ 252 ∷
    135 ∷ 37 ∷ 133 ∷ 35 ∷ 134 ∷ 36 ∷ 132 ∷ 34 ∷ 229 ∷ 227 ∷ 129 ∷ 126 ∷ 131 ∷ 128 ∷ 130 ∷ 127 ∷
    137 ∷ 38 ∷ 232 ∷ 32 ∷ 136 ∷ 39 ∷ 233 ∷ 33 ∷ 234 ∷ 224 ∷ 225 ∷ 124 ∷ 230 ∷ 226 ∷ 228 ∷ 125 ∷ []

-- each byte has its rank in that list: one of the 256, with that byte
ranks_test : T (every (λ b r. both (leb (suc r) 256) (eqb (printed_byte r) b)) 0 ranks)
unfolding bytes printed_byte ranks
ranks_test = tt

-- there are 256 ranks by byte
ranks_long : length ranks ≡ 256
unfolding ranks
ranks_long = refl

module _ (byte : ℕ) (h : byte < 256) where
  -- what the test says of one byte
  ranks_at : T (both (leb (suc (get_or ranks byte 0)) 256) (eqb (printed_byte (get_or ranks byte 0)) byte))
  ranks_at =
      at 0 (λ b r. both (leb (suc r) 256) (eqb (printed_byte r) b)) ranks ranks_test byte (omega (arith, ranks_long))

  -- its entry is one of the 256 ranks
  ranks_below : get_or ranks byte 0 < 256
  ranks_below =
      leb→le (suc (get_or ranks byte 0)) 256
      (both_left (leb (suc (get_or ranks byte 0)) 256) (eqb (printed_byte (get_or ranks byte 0)) byte) ranks_at)

  -- and the byte printed for that rank is the byte
  ranks_byte : printed_byte (get_or ranks byte 0) ≡ byte
  ranks_byte =
      eqb→eq (printed_byte (get_or ranks byte 0)) byte
      (both_right (leb (suc (get_or ranks byte 0)) 256) (eqb (printed_byte (get_or ranks byte 0)) byte) ranks_at)

-- each byte stands in the table once: the rank of a rank's byte is that rank
pub rank_byte : (rank : ℕ) → rank < 256 → rank_of (printed_byte rank) ≡ rank
unfolding bytes printed_byte rank_of ranks
rank_byte rank h =
    place_back (λ (b : ℕ). get_or ranks b 0) bytes
    (λ k l. eqb→eq (get_or ranks (printed_byte k) 0) k (at 0 (λ i x. eqb (get_or ranks x 0) i) bytes tt k l)) rank h

-- each printed code is a byte
pub byte_below : (rank : ℕ) → rank < 256 → printed_byte rank < 256
unfolding bytes printed_byte
byte_below rank h = leb→le (suc (printed_byte rank)) 256 (at 0 (λ k x. leb (suc x) 256) bytes tt rank h)

-- so the list has the rank of each byte
ranks_rank : (byte : ℕ) → byte < 256 → get_or ranks byte 0 ≡ rank_of byte
ranks_rank byte h = sym (rank_byte (get_or ranks byte 0) (ranks_below byte h)) ∙ ap rank_of (ranks_byte byte h)

-- each byte stands in the table: its rank is one of the 256, and has that byte
pub rank_below : (byte : ℕ) → byte < 256 → rank_of byte < 256
rank_below byte h = rw (sym (ranks_rank byte h)) (ranks_below byte h)

-- and the byte of its rank is the byte itself
pub byte_rank : (byte : ℕ) → byte < 256 → printed_byte (rank_of byte) ≡ byte
byte_rank byte h = ap printed_byte (sym (ranks_rank byte h)) ∙ ranks_byte byte h

-- the list is the inverse table
pub inverse : ranks ≡ tabulate rank_of 256
inverse =
    ext_get_or 0 ranks (tabulate rank_of 256) (ranks_long ∙ sym (length_tabulate rank_of 256))
    (λ b h. ranks_rank b (omega (arith, ranks_long)) ∙ sym (get_d_tabulate rank_of 0 256 b (omega (arith, ranks_long))))
