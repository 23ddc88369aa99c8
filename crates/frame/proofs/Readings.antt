-- What is read in any bytes is in range: the indices fit their fields, the correction number is below 16, the order
-- mark at most 9.
-- Assumes nothing.
use mathlib.Core.Path.{◌≡◌, sym, refl, ap, subst}
use mathlib.Core.List.{List}
use Prim.Native.Nat.{ℕ, ◌<◌, ◌≤◌}
use native.Mathlib.Omega.{arith}
use native.Mathlib.Decide.{ℕ_discrete}
use lib.ListN.{length}
use Rattle.laws.specs.Lowest.{lowest_from}
use Rattle.laws.specs.Tabulate.{tabulate_from}
use Rattle.record.specs.Fields.{too_large_field}
use Rattle.record.specs.declared.Record.{Record}
use Rattle.record.proofs.Laws.{none_too_large, all_fit_none_too_large}
use Rattle.lsp.specs.Table.{hertz_of, hz_in}
use Rattle.lsp.proofs.Laws.{mark_most}
use Rattle.frame.specs.Frame.{bit_at, record_of}
use Rattle.frame.specs.Parity.{number, mended}
use Rattle.frame.specs.Correction.{correction_of}
use Rattle.frame.specs.Answers.{record_mark, no_record, reading_of, correction_number}
use Rattle.frame.specs.declared.Reading.{Reading}
use Rattle.frame.proofs.Fields.{index_small}
use Rattle.frame.proofs.Gathered.{bit_at_small}
use Rattle.frame.proofs.Mended.{mended_bits}
use Rattle.frame.proofs.Corrections.{number_of_correction, clean_at_zero}
use Rattle.frame.proofs.Answered.{read_eighteen, read_refused}
use Rattle.frame.proofs.Laws.{index_of_record, bits_width, number_below}

-- a record of bits fits its fields
pub record_fits : (b : ℕ → ℕ) → ((p : ℕ) → b p < 2) → too_large_field (record_of b) ≡ 0
record_fits b bits =
    all_fit_none_too_large (record_of b)
    (λ f a l. rw (index_of_record b f a l, sym (bits_width f a)) (index_small b f (omega arith) bits))

-- what holds of a reading, whether the bytes were a frame or not
pub record InRange (r : Reading) : Type 0 where
  pub fits : too_large_field r.indices ≡ 0
  pub numbered : correction_number r < 16
  pub marked : r.mark ≤ 9

-- an order mark is at most 9
record_mark_most : (r : Record) → record_mark r ≤ 9
unfolding record_mark
record_mark_most r = mark_most (hz_in (hertz_of r.lsp))

-- so does a record of nothing but 0
no_record_fits : too_large_field no_record ≡ 0
unfolding too_large_field lowest_from tabulate_from
no_record_fits = refl

-- it holds of every reading
pub reading_range : (f : List ℕ) → InRange (reading_of f)
reading_range f = go (ℕ_discrete (length f) 18)
  where
    go : Dec (length f ≡ 18) → InRange (reading_of f)
    go (yes e) =
        rw (read_eighteen f e)
        (record {
          fits = record_fits (mended (bit_at f)) (mended_bits (bit_at f) (bit_at_small f));
          numbered = rw (number_of_correction (number (bit_at f)) (number_below (bit_at f))) (number_below (bit_at f));
          marked = record_mark_most (record_of (mended (bit_at f)));
        })
    go (no w) =
        subst (λ (r : Reading). InRange r) (read_refused f w)
        (record { fits = no_record_fits; numbered = omega arith; marked = omega arith })

-- the correction is the case of its number
pub reading_case : (f : List ℕ) → (reading_of f).correction ≡ correction_of (correction_number (reading_of f))
reading_case f = go (ℕ_discrete (length f) 18)
  where
    go : Dec (length f ≡ 18) → (reading_of f).correction ≡ correction_of (correction_number (reading_of f))
    go (yes e) =
        rw (read_eighteen f e)
        (ap correction_of (sym (number_of_correction (number (bit_at f)) (number_below (bit_at f)))))
    go (no w) =
        subst (λ (r : Reading). r.correction ≡ correction_of (correction_number r)) (read_refused f w)
        (clean_at_zero 0 refl)

-- so SY is one bit
pub reading_sync : (f : List ℕ) → (reading_of f).indices.sy < 2
reading_sync f = none_too_large (reading_of f).indices (reading_range f).fits 28 (omega arith) (omega arith)
