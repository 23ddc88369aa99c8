-- What `by_field` lays: the parameters, then the subframe indices, then SP and SY.
-- Assumes nothing.
use mathlib.Core.Path.{◌≡◌, ◌∙◌, sym, refl, ap, ap₂}
use mathlib.Core.List.{List, ◌++◌}
use Prim.Native.Nat.{ℕ, ◌+◌, ◌-◌, ◌<◌, ◌≤◌}
use native.Mathlib.Omega.{arith}
use native.Mathlib.Decide.{dec_le}
use borrow.Rule.Slice.PartMut.{put_mid}
use lib.ListN.{length, drop, get_or, set}
use Rattle.std.proofs.Common.{take_at, drop_at, length-append, length-drop}
use Rattle.std.proofs.lemmas.List.{get_or_append_left, get_or-append_right}
use Rattle.laws.proofs.Filled.{Filled, filled_more, filled_done}
use Rattle.record.specs.Fields.{index_of, indices_of}
use Rattle.record.specs.declared.Record.{Record}
use Rattle.record.proofs.Laws.{index_parameter, index_subframe}

-- two parts laid one after the other, and what stands at a place of them
module _ (a b z : List ℕ) (ten : length a ≡ 10) (sixteen : length b ≡ 16) (room : length z ≡ 18) where
  laid : put_mid 10 16 (a ++ z) b ≡ a ++ (b ++ drop 16 z)
  laid = ap₂ (λ (x y : List ℕ). x ++ (b ++ drop 16 y)) (take_at a z 10 ten) (drop_at a z 10 ten)

  laid_long : length (put_mid 10 16 (a ++ z) b) ≡ 28
  laid_long = ap length laid ∙ simp (length-append, length-drop) (omega arith)

  laid_first : (k : ℕ) → k < 10 → get_or (put_mid 10 16 (a ++ z) b) k 0 ≡ get_or a k 0
  laid_first k h = ap (λ (l : List ℕ). get_or l k 0) laid ∙ get_or_append_left a _ 0 k (omega arith)

  laid_second : (k : ℕ) → 10 ≤ k → k < 26 → get_or (put_mid 10 16 (a ++ z) b) k 0 ≡ get_or b (k - 10) 0
  laid_second k h t =
      ap (λ (l : List ℕ). get_or l k 0) laid ∙ get_or-append_right a _ 10 k 0 ten h
      ∙ get_or_append_left b _ 0 (k - 10) (omega arith)

module _ (r : Record) {a b : List ℕ} (first : a ≡ r.lsp) (second : b ≡ r.subframes) (ten : length a ≡ 10)
    (sixteen : length b ≡ 16) (z : List ℕ) (room : length z ≡ 18) where
  -- so the first 26 fields are listed
  parts_listed : Filled 0 (λ (k : ℕ). index_of r (k + 1)) 28 26 (put_mid 10 16 (a ++ z) b)
  parts_listed =
      record { long = laid_long a b z ten sixteen room; upto = omega arith; here = λ k h. at k h (dec_le 10 k) }
    where
      at : (k : ℕ) → k < 26 → Dec (10 ≤ k) → get_or (put_mid 10 16 (a ++ z) b) k 0 ≡ index_of r (k + 1)
      at k h (no w) =
          laid_first a b z ten sixteen room k (omega arith) ∙ ap (λ (l : List ℕ). get_or l k 0) first
          ∙ sym (index_parameter r k (omega arith))
      at k h (yes w) =
          let back : k - 10 + 11 ≡ k + 1 = omega arith in
          laid_second a b z ten sixteen room k w h ∙ ap (λ (l : List ℕ). get_or l (k - 10) 0) second
          ∙ sym (index_subframe r (k - 10) (omega arith)) ∙ ap (index_of r) back

  -- and with SP and SY all of them
  pub all_listed : set (set (put_mid 10 16 (a ++ z) b) 26 r.sp) 27 r.sy ≡ indices_of r
  unfolding indices_of
  all_listed =
      filled_done 0 (λ (k : ℕ). index_of r (k + 1)) 28 _ (omega arith)
      (filled_more 0 _ 28 27 _ _ (filled_more 0 _ 28 26 _ _ parts_listed (omega arith) refl) (omega arith) refl)
