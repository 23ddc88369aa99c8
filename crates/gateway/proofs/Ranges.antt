-- What the reader answers where it reads: 16 times the order mark plus the correction number is below 160, with what
-- the kind adds it is below 672, and it comes apart again.
-- Assumes nothing.
use mathlib.Core.Path.{◌≡◌, refl}
use mathlib.Core.List.{List}
use Prim.Native.Nat.{ℕ, ◌+◌, ◌*◌, ◌/◌, ◌%◌, ◌<◌, ◌≤◌}
use native.Mathlib.Omega.{arith}
use Rattle.frame.specs.Answers.{reading_of, correction_number}
use Rattle.frame.specs.declared.Correction.{Correction}
use Rattle.frame.specs.declared.Correction.TheVariants.{Clean, Parity, Data}
use Rattle.frame.proofs.Readings.{reading_range}
use Rattle.gateway.specs.Results.{kind_of, result_of}

-- a kind adds a multiple of 256
kind_whole : (c : Correction) → kind_of c % 256 ≡ 0
kind_whole Clean = refl
kind_whole (Parity n) = refl
kind_whole (Data f i) = refl

-- and 512 at most
kind_most : (c : Correction) → kind_of c ≤ 512
kind_most Clean = omega arith
kind_most (Parity n) = omega arith
kind_most (Data f i) = omega arith

module _ (s : List ℕ) where
  -- mark and number are below 160
  marked_small : 16 * (reading_of s).mark + correction_number (reading_of s) < 160
  marked_small = let r = reading_range s in omega (arith, r.numbered, r.marked)

  -- with the kind it is below 672
  pub reading_small : result_of (reading_of s) < 672
  reading_small = let k = kind_most (reading_of s).correction in let m = marked_small in omega (arith, k, m)

  -- the kind is its upper part, the mark what is left of it by sixteens, the number its remainder on 16
  pub reading_kind : 256 * (result_of (reading_of s) / 256) ≡ kind_of (reading_of s).correction
  reading_kind = let k = kind_whole (reading_of s).correction in let m = marked_small in omega (arith, k, m)

  pub reading_mark : result_of (reading_of s) / 16 % 16 ≡ (reading_of s).mark
  reading_mark =
      let k = kind_whole (reading_of s).correction in
      let r = reading_range s in
      omega (arith, k, r.numbered, r.marked)

  pub reading_number : result_of (reading_of s) % 16 ≡ correction_number (reading_of s)
  reading_number =
      let k = kind_whole (reading_of s).correction in
      let r = reading_range s in
      omega (arith, k, r.numbered)

  -- without the kind mark and number are left
  pub reading_rest : result_of (reading_of s) % 256 ≡ 16 * (reading_of s).mark + correction_number (reading_of s)
  reading_rest = let k = kind_whole (reading_of s).correction in let m = marked_small in omega (arith, k, m)
