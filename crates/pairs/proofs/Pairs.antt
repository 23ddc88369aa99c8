-- The loops of `put_all` and `take_all`: pair after pair, in field order.
-- Assumes nothing.
use mathlib.Core.Path.{◌≡◌, ◌∙◌, sym, refl, ap}
use mathlib.Core.List.{List, [], ◌∷◌}
use Prim.Native.Nat.{ℕ, zero, suc, ◌^◌, ◌+◌, ◌-◌, ◌*◌, ◌/◌, ◌%◌, ◌<◌, ◌≤◌}
use native.Mathlib.Omega.{arith}
use borrow.Author.Tests.{eq-eqb, ne_eqb}
use borrow.Rule.Slice.PartMut.{put_mid}
use lib.ListN.{length, get_or, set}
use Rattle.std.specs.Int.{w16, to_le_bytes}
use Rattle.laws.specs.Bytes.{pair_at}
use Rattle.laws.specs.Tabulate.{tabulate}
use Rattle.laws.proofs.Filled.{Filled, filled_fewer, filled_more, filled_done}
use Rattle.record.specs.Fields.{indices_of}
use Rattle.record.specs.declared.Record.{Record}
use Rattle.pairs.specs.Pairs.{with_pair, pair_byte, bytes_of, pair_in, record_in}

-- two bytes laid over a buffer are two stores, one after the other
pub pair_laid : (o : List ℕ) (at x y : ℕ) → at + 1 < length o
    → put_mid at 2 o (x ∷ y ∷ []) ≡ set (set o at x) (at + 1) y
pair_laid [] at x y h = absurd (omega arith)
pair_laid (a ∷ []) zero x y h = absurd (omega arith)
pair_laid (a ∷ b ∷ o) zero x y h = refl
pair_laid (a ∷ o) (suc at) x y h =
    let next : suc at + 1 ≡ suc (at + 1) = omega arith in
    rw next (ap (λ (l : List ℕ). a ∷ l) (pair_laid o at x y (omega arith)))

-- so an index laid as its two bytes is the pair
pub index_laid : (o : List ℕ) (at : ℕ) {b : List ℕ} {k n : ℕ} → b ≡ to_le_bytes w16 n → n < 2 ^ 16 → k ≡ 2 → at + 1 < length o
    → put_mid at k o b ≡ with_pair o at n
index_laid o at {b} {k} {n} is small two h =
    rw (two, is) (pair_laid o at (n % 256) (n / 256 % 256) h ∙ ap (set (set o at (n % 256)) (at + 1)) upper)
  where
    upper : n / 256 % 256 ≡ n / 256
    upper = omega arith

module _ (l : List ℕ) where
  -- the two bytes of a pair
  pub low_byte : (k : ℕ) → pair_byte l (2 * k) ≡ get_or l k 0 % 256
  low_byte k =
      rw (eq-eqb (2 * k % 2) 0 (omega arith))
      (ap (λ (m : ℕ). get_or l m 0 % 256) half)
    where
      half : 2 * k / 2 ≡ k
      half = omega arith

  -- then the upper half
  pub high_byte : (k : ℕ) → pair_byte l (2 * k + 1) ≡ get_or l k 0 / 256
  high_byte k =
      rw (ne_eqb ((2 * k + 1) % 2) 0 (λ e. omega arith))
      (ap (λ (m : ℕ). get_or l m 0 / 256) half)
    where
      half : (2 * k + 1) / 2 ≡ k
      half = omega arith

  -- the first i bytes of a buffer are those of the indices
  abbrev pub Put : ℕ → List ℕ → Type 0
  Put i out = Filled 0 (pair_byte l) 56 i out

  -- one pair more
  pub put_next : {k : ℕ} {out next : List ℕ} → Put (2 * k) out → k < 28 → next ≡ with_pair out (2 * k) (get_or l k 0)
      → Put (2 * (k + 1)) next
  put_next {k} {out} p h e =
      rw e
      (filled_fewer 0 (pair_byte l) 56 (2 * (k + 1))
      (filled_more 0 (pair_byte l) 56 (2 * k + 1) _ _
      (filled_more 0 (pair_byte l) 56 (2 * k) out _ p (omega arith) (sym (low_byte k))) (omega arith)
      (sym (high_byte k))) (omega arith))

-- all of a record's indices
pub put_whole : (r : Record) {l out : List ℕ} {k : ℕ} → l ≡ indices_of r → Put l (2 * k) out → 28 ≤ k → out ≡ bytes_of r
unfolding bytes_of
put_whole r {l} {out} is p h =
    filled_done 0 (pair_byte l) 56 out (omega arith) p ∙ ap (λ (x : List ℕ). tabulate (pair_byte x) 56) is

module _ (s : List ℕ) where
  -- the first k parameters are taken, the first n subframe indices
  abbrev pub TakenLsp : ℕ → List ℕ → Type 0
  TakenLsp k l = Filled 0 (λ (k : ℕ). pair_in s (k + 1)) 10 k l

  abbrev pub TakenSubframes : ℕ → List ℕ → Type 0
  TakenSubframes n l = Filled 0 (λ (n : ℕ). pair_in s (n + 11)) 16 n l

  -- one parameter more
  pub take_lsp : {k x : ℕ} {l : List ℕ} → TakenLsp k l → k < 10 → x ≡ pair_at s (2 * k) → TakenLsp (k + 1) (set l k x)
  take_lsp {k} {x} {l} p h is = filled_more 0 (λ (k : ℕ). pair_in s (k + 1)) 10 k l x p h (is ∙ ap (pair_at s) there)
    where
      there : 2 * k ≡ 2 * (k + 1 - 1)
      there = omega arith

  -- one subframe index more
  pub take_subframe : {n x : ℕ} {l : List ℕ} → TakenSubframes n l → n < 16 → x ≡ pair_at s (20 + 2 * n)
      → TakenSubframes (n + 1) (set l n x)
  take_subframe {n} {x} {l} p h is =
      filled_more 0 (λ (n : ℕ). pair_in s (n + 11)) 16 n l x p h (is ∙ ap (pair_at s) there)
    where
      there : 20 + 2 * n ≡ 2 * (n + 11 - 1)
      there = omega arith

  -- all of them, SP and SY: the record
  pub take_whole : {k n : ℕ} {l t : List ℕ} → TakenLsp k l → 10 ≤ k → TakenSubframes n t → 16 ≤ n → (p y : ℕ)
      → p ≡ pair_at s 52 → y ≡ pair_at s 54
      → ◌≡◌ {A = Record} (record { lsp = l; subframes = t; sp = p; sy = y }) (record_in s)
  unfolding record_in
  take_whole {k} {n} {l} {t} a h b g p y ep ey =
      λ i. record { lsp = lsp i; subframes = subframes i; sp = ep i; sy = ey i }
    where
      lsp : l ≡ tabulate (λ k. pair_in s (k + 1)) 10
      lsp = filled_done 0 (λ (k : ℕ). pair_in s (k + 1)) 10 l h a

      subframes : t ≡ tabulate (λ k. pair_in s (k + 11)) 16
      subframes = filled_done 0 (λ (n : ℕ). pair_in s (n + 11)) 16 t g b
