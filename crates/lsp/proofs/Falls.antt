-- The returns of `order_mark`.
-- Assumes nothing.
use Rattle.std.proofs.Common.{◌≡◌, ℕ, ◌-◌, ◌<◌, ◌≤◌, List, get_or, lt-ltb, sym, arith, add-sub_cancel}
use Rattle.laws.proofs.Lowest.{NoneUpTo, lowest_at, none_at_all}
use Rattle.lsp.specs.Order.{falls, mark_of}

module _ (hz : List ℕ) where
  -- LSP j + 1 is below LSP j, and no pair before falls
  pub found : {j : ℕ} → NoneUpTo (falls hz) (j - 1) → 1 ≤ j → j ≤ 9 → get_or hz j 0 < get_or hz (j - 1) 0 → j ≡ mark_of hz
  unfolding mark_of
  found {j} p a b f =
      sym (lowest_at (falls hz) 9 j a b (λ m c d. p.none m c (omega arith)) (simp add-sub_cancel (lt-ltb _ _ f)))

  -- no pair falls
  pub nowhere : {i : ℕ} → NoneUpTo (falls hz) i → 9 ≤ i → 0 ≡ mark_of hz
  unfolding mark_of
  nowhere p h = none_at_all (falls hz) 9 p h
