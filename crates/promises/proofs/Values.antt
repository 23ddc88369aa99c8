-- What indices mean, shown by the laws of the leaf crates.
-- Assumes nothing.
use mathlib.Core.Path.{◌≡◌, ◌∙◌, sym, refl, ap}
use Prim.Native.Nat.{ℕ, ◌-◌, ◌<◌, ◌≤◌}
use borrow.Author.Tests.{le-leb}
use lib.IntN.{pos, ◌+ℤ◌}
use lib.ListN.{get_or}
use Rattle.record.specs.Fields.{index_of, too_large_field}
use Rattle.record.specs.declared.Record.{Record}
use Rattle.record.proofs.Laws.{all_fit_none_too_large}
use Rattle.gains.specs.Tables.{cg_table, pg_table}
use Rattle.gains.proofs.Laws.{cg_nearest, pg_nearest, cg_back, pg_back, cg_mirrored, cg_length, pg_length, gain_given}
use Rattle.delays.specs.Codes.{meant_by}
use Rattle.delays.proofs.Table.{twelfths_rise, byte_below, rank_byte, rank_below, byte_rank}
use Rattle.delays.proofs.Laws.{Fit, fit_meant, fit_back, window_start, window_end}
use Rattle.lsp.specs.Table.{column, lsp}
use Rattle.lsp.proofs.Laws.{column_long, mark_in_order, mark_falls}
use Rattle.codebook.specs.Book.{book}
use Rattle.codebook.specs.Code.{code_of}
use Rattle.draws.specs.Draw.{draw_of}
use Rattle.codebook.proofs.Laws.{length_book, element_ternary, length_code, code_ternary, one_of_three, overlap}
use Rattle.draws.proofs.Laws.{wrapped_congruent, sum_only, position_range}
use Rattle.values.specs.Outcome.{outcome_of}
use Rattle.values.specs.Values.{cg_index, pg_index, fresh_state, values_of}
use Rattle.values.specs.declared.State.{State}
use Rattle.values.specs.declared.Outcome.TheVariants.{Heard}
use Rattle.values.proofs.Laws.{heard_fits, values_outcome, cg_index_small, pg_index_small, cg_given, pg_given, lsp_fits}
use Rattle.values.proofs.Laws.{present_at}
use Rattle.values.proofs.Laws.{heard_delays, delays_four, delays_meant, heard_mark, later_averages, first_averages}
use Rattle.values.proofs.Laws.{state_by}
use Rattle.values.proofs.Laws as values
use Rattle.promises.specs.Values.{NearestEntry, GainsComeBack, CgMirrored, Subframe, GainsHeard}
use Rattle.promises.specs.Values.{DelaysRise, EachByteOnce, DelaysComeBack, FixedWindows, DelaysHeard}
use Rattle.promises.specs.Values.{LspsHeard, MarkHeard, MarkIsLowest, Averaged, FirstAveraged, FreshNotBegun}
use Rattle.promises.specs.Values.{FreshHasNoSync, StateHolds}
use Rattle.promises.specs.Values.{Ternary, CodesOverlap, DrawsWrap, DrawsAtPositions}

pub nearest_entry : NearestEntry
unfolding NearestEntry
nearest_entry x = (cg_nearest x, pg_nearest x)

pub gains_come_back : GainsComeBack
unfolding GainsComeBack
gains_come_back i h = (cg_back i h, pg_back i h)

pub cg_is_mirrored : CgMirrored
unfolding CgMirrored
cg_is_mirrored = cg_mirrored

pub delays_rise : DelaysRise
unfolding DelaysRise
delays_rise = twelfths_rise

pub each_byte_once : EachByteOnce
unfolding EachByteOnce
each_byte_once = (λ rank h. (byte_below rank h, rank_byte rank h), λ byte h. (rank_below byte h, byte_rank byte h))

pub delays_come_back : DelaysComeBack
unfolding DelaysComeBack meant_by
delays_come_back i j k l a b c d =
    let fit : Fit i j k l = record { first = a; second = b; third = c; fourth = d } in
    (_, _, _, _, fit_meant i j k l fit, fit_back i j k l fit)

pub fixed_windows : FixedWindows
unfolding FixedWindows
fixed_windows rank h = (window_start rank h, window_end rank h)

-- a record whose values tell that it was heard
module _ (r : Record) (before : State) (told : (values_of r before).outcome ≡ Heard) where
  -- its outcome is that it is heard
  heard : outcome_of r ≡ Heard
  heard = sym (values_outcome r before) ∙ told

  -- so every index fits its field
  fits : too_large_field r ≡ 0
  fits = (heard_fits r heard).0

  -- and its gains are those of its indices
  in_subframe : (n : ℕ) → 1 ≤ n → n ≤ 4 → Subframe r before n
  in_subframe n a b =
      record {
        cg_within = rw cg_length (cg_index_small r fits n a b);
        cg = (gain_given cg_table (cg_index r n) _ (cg_given r before heard n a b)).1;
        pg_within = rw pg_length (pg_index_small r fits n a b);
        pg = (gain_given pg_table (pg_index r n) _ (pg_given r before heard n a b)).1;
      }

pub gains_heard : GainsHeard
unfolding GainsHeard
gains_heard r before told n a b = in_subframe r before told n a b

pub delays_heard : DelaysHeard
unfolding DelaysHeard
delays_heard r before told =
    (delays_four r before, rw (heard_delays r before (heard r before told)) (delays_meant r (fits r before told)))

-- LSPs whose record has no index too large
pub lsps_heard : LspsHeard
unfolding LspsHeard
lsps_heard r before fit j a b =
    let none : too_large_field r ≡ 0 = all_fit_none_too_large r fit in
    let index : index_of r j ≡ lsp r.lsp j = rw (le-leb j 10 b) in
    record {
      within = rw (column_long j a b, index) (lsp_fits r none j a b);
      present = present_at r none j a b ∙ ap (λ (k : ℕ). get_or (column j) k 0) (sym index);
      used = refl;
    }

pub mark_heard : MarkHeard
unfolding MarkHeard
mark_heard r before told = heard_mark r before (heard r before told)

pub averaged : Averaged
unfolding Averaged
averaged r before hz told was n j a b c d = later_averages r before (heard r before told) n j a b c d was

pub first_averaged : FirstAveraged
unfolding FirstAveraged
first_averaged r before told was n j a b c d = first_averages r before (heard r before told) n j a b c d was

pub fresh_not_begun : FreshNotBegun
unfolding FreshNotBegun
fresh_not_begun = values.fresh_not_begun

pub fresh_has_no_sync : FreshHasNoSync
unfolding FreshHasNoSync fresh_state
fresh_has_no_sync = refl

pub state_holds : StateHolds
unfolding StateHolds
state_holds r before told =
    let e = state_by r before (heard r before told) in
    record {
      hz = ap (λ (t : State). t.hz) e;
      last = ap (λ (t : State). t.last) e;
    }

pub mark_is_lowest : MarkIsLowest
unfolding MarkIsLowest
mark_is_lowest hz = (mark_in_order hz, mark_falls hz)

pub ternary : Ternary
unfolding Ternary
ternary = (
  length_book,
  λ i h. one_of_three (get_or book i (pos 0)) (element_ternary i h),
  λ n. (length_code n, λ k h. one_of_three (get_or (code_of n) k (pos 0)) (code_ternary n k h)),
)

pub codes_overlap : CodesOverlap
unfolding CodesOverlap
codes_overlap n a b = (length_code n, length_code (n - 1), λ k h. overlap n k a b h)

pub draws_wrap : DrawsWrap
unfolding DrawsWrap
draws_wrap a b x f g h =
    (sum_only a b x f g h, λ e. let c = wrapped_congruent (a +ℤ b) in (c.0, e ∙ c.1))

pub draws_at_positions : DrawsAtPositions
unfolding DrawsAtPositions draw_of
draws_at_positions g = (refl, position_range)
