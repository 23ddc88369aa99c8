-- What `averages::averages` fills its list with.
-- Assumes nothing.
use Rattle.std.proofs.Common.{◌≡◌, ℕ, ◌+◌, ◌*◌, ◌/◌, ◌%◌, ◌<◌, ◌≤◌, List, get_or, arith, add-sub_cancel}
use Rattle.laws.proofs.Filled.{Filled, filled_done}
use Rattle.lsp.specs.Average.{average_of, average_at, averages_of}

module _ (previous present : List ℕ) where
  -- what stands at place k
  abbrev pub eighths : ℕ → ℕ
  eighths k = average_at previous present (k / 10 + 1) (k % 10 + 1)

  -- the place 10 m + i is that of LSP i+1 in subframe m+1
  pub eighths_at : (m i k : ℕ) → i < 10 → k ≡ 10 * m + i
      → eighths k ≡ average_of (m + 1) (get_or previous i 0) (get_or present i 0)
  eighths_at m i k h e =
      let q : k / 10 ≡ m = omega arith in
      let r : k % 10 ≡ i = omega arith in
      rw (q, r, add-sub_cancel i 1)

  -- the first k places hold theirs
  abbrev pub Averaged : ℕ → List ℕ → Type 0
  Averaged k l = Filled 0 eighths 40 k l

  -- after the last all do
  pub all_averaged : {k : ℕ} {l : List ℕ} → Averaged k l → 40 ≤ k → l ≡ averages_of previous present
  unfolding averages_of
  all_averaged {l = l} p h = filled_done 0 eighths 40 l h p
