-- What the definitions of specs/ mean, for those who call.
-- Assumes nothing.
use mathlib.Core.Path.{◌≡◌, sym, refl, subst}
use mathlib.Core.Bool.{Bool, true, false, cond}
use mathlib.Core.List.{List, [], ◌∷◌}
use Prim.Native.Nat.{ℕ, zero, suc, ◌-◌, ◌<◌, ◌≤◌}
use native.Mathlib.Omega.{arith}
use native.Mathlib.Decide.{dec_le}
use lib.Dec.{T, leb, eqb, leb→le, le→leb, eqb→eq}
use lib.IntN.{ℤ, pos, neg_ℤ}
use lib.ListN.{length, get_or}
use Rattle.laws.specs.Table.{every}
use Rattle.laws.proofs.Table.{at}
use Rattle.laws.proofs.Every.{every_of}
use Rattle.laws.proofs.Signed.{same, same→eq}
use borrow.Author.Tests.{le-leb, lt-leb}
use Rattle.std.specs.Prelude.{Ok, Err}
use Rattle.gains.specs.declared.Refusal.TheVariants.{TooLarge}
use Rattle.gains.specs.Gains.{gain_of}
use Rattle.gains.specs.Tables.{cg_table, pg_table}
use Rattle.gains.specs.Nearest.{apart, apart_at, nearest_of, Nearest}

module _ (x : ℤ) where
  -- an entry is not nearer than e, and none of a list is
  abbrev not_nearer : ℤ → ℕ → ℤ → Bool
  not_nearer e k later = leb (apart x e) (apart x later)

  -- no entry of a list is nearer than e
  abbrev none_nearer : ℤ → List ℤ → Bool
  none_nearer e es = every (not_nearer e) 0 es

  -- where no later entry is nearer the first is answered
  first : (e : ℤ) (es : List ℤ) → none_nearer e es ≡ true → Nearest (e ∷ es) x 0
  first e es t = record { within = omega arith; least = least'; lowest = λ k h. absurd (omega arith) }
    where
      least' : (k : ℕ) → k < suc (length es) → apart x e ≤ apart_at (e ∷ es) x k
      least' zero h = omega arith
      least' (suc k) h =
          leb→le (apart x e) (apart_at es x k)
          (at (pos 0) (not_nearer e) es (subst T (sym t) tt) k (omega arith))

  -- where some later entry is nearer, so is the nearest of the later ones
  nearer_later : (e : ℤ) (es : List ℤ) (i : ℕ) → none_nearer e es ≡ false → Nearest es x i → apart_at es x i < apart x e
  nearer_later e es i t p = go (dec_le (apart x e) (apart_at es x i))
    where
      go : Dec (apart x e ≤ apart_at es x i) → apart_at es x i < apart x e
      go (no h) = omega arith
      go (yes h) =
          absurd
          (subst T t
          (every_of (pos 0) (not_nearer e) es
          (λ k b. le→leb (apart x e) (apart_at es x k)
          (let l : apart_at es x i ≤ apart_at es x k = p.least k b in omega arith))))

  -- and it is the nearest of all, one index further on
  later : (e : ℤ) (es : List ℤ) (i : ℕ) → none_nearer e es ≡ false → Nearest es x i → Nearest (e ∷ es) x (suc i)
  later e es i t p =
      let near : apart_at es x i < apart x e = nearer_later e es i t p in
      record { within = omega (arith, p.within); least = least' near; lowest = lowest' near }
    where
      least' : apart_at es x i < apart x e → (k : ℕ) → k < suc (length es) → apart_at es x i ≤ apart_at (e ∷ es) x k
      least' n zero h = omega arith
      least' n (suc k) h = p.least k (omega arith)

      lowest' : apart_at es x i < apart x e → (k : ℕ) → k < suc i → apart_at es x i < apart_at (e ∷ es) x k
      lowest' n zero h = n
      lowest' n (suc k) h = p.lowest k (omega arith)

  -- so the test decides between the two
  either : (e : ℤ) (es : List ℤ) (i : ℕ) (b : Bool) → none_nearer e es ≡ b → (b ≡ false → Nearest es x i)
      → Nearest (e ∷ es) x (cond b 0 (suc i))
  either e es i true t p = first e es t
  either e es i false t p = later e es i t (p refl)

  -- the answered index is the nearest, and the lowest of equally near ones
  pub nearest_is : (table : List ℤ) → 0 < length table → Nearest table x (nearest_of table x)
  unfolding nearest_of
  nearest_is [] h = absurd (omega arith)
  nearest_is (e ∷ []) h = first e [] refl
  nearest_is (e ∷ f ∷ es) h =
      either e (f ∷ es) (nearest_of (f ∷ es) x) (none_nearer e (f ∷ es)) refl (λ w. nearest_is (f ∷ es) (omega arith))

  -- of two such indices neither is above the other
  not_above : (table : List ℤ) (i j : ℕ) → Nearest table x i → Nearest table x j → j ≤ i
  not_above table i j p q = go (dec_le j i)
    where
      go : Dec (j ≤ i) → j ≤ i
      go (yes h) = h
      go (no h) =
          absurd
          (let a : apart_at table x j < apart_at table x i = q.lowest i (omega arith) in
          let b : apart_at table x i ≤ apart_at table x j = p.least j q.within in
          omega arith)

  -- only one index can be so
  pub nearest_only : (table : List ℤ) (i : ℕ) → Nearest table x i → i ≡ nearest_of table x
  nearest_only table i p =
      let q : Nearest table x (nearest_of table x) = nearest_is table (omega (arith, p.within)) in
      let a : i ≤ nearest_of table x = not_above table _ _ q p in
      let b : nearest_of table x ≤ i = not_above table _ _ p q in
      omega arith

module _ (table : List ℤ) (i : ℕ) where
  -- an index to 31 has the entry there for its gain
  pub gain_value : i ≤ 31 → gain_of table i ≡ Ok (get_or table i (pos 0))
  unfolding gain_of
  gain_value h = rw (le-leb i 31 h)

  -- any other is too large
  pub gain_too_large : 31 < i → gain_of table i ≡ Err TooLarge
  unfolding gain_of
  gain_too_large h = rw (lt-leb i 31 h)

  -- a gain that is answered is the entry of an index to 31
  pub gain_given : (v : ℤ) → gain_of table i ≡ Ok v → (i ≤ 31) × (v ≡ get_or table i (pos 0))
  gain_given v e = go (dec_le i 31)
    where
      go : Dec (i ≤ 31) → (i ≤ 31) × (v ≡ get_or table i (pos 0))
      go (yes h) = let g = gain_value h in (h, cc)
      go (no h) = let g = gain_too_large (omega arith) in let z : ◌≡◌ {A = ℕ} 0 1 = cc in absurd (omega arith)

-- CG has 32 entries
pub cg_length : length cg_table ≡ 32
unfolding cg_table
cg_length = refl

-- PG has 32 entries, too
pub pg_length : length pg_table ≡ 32
unfolding pg_table
pg_length = refl

-- CG entry i is the negative of entry 31 - i
abbrev mirrored : ℕ → ℤ → Bool
mirrored i v = same v (neg_ℤ (get_or cg_table (31 - i) (pos 0)))

-- tested over the whole table
cg_mirror_test : T (every mirrored 0 cg_table)
unfolding cg_table
cg_mirror_test = tt

-- so it is at each index
pub cg_mirrored : (i : ℕ) → i ≤ 31 → get_or cg_table i (pos 0) ≡ neg_ℤ (get_or cg_table (31 - i) (pos 0))
cg_mirrored i h = same→eq _ _ (at (pos 0) mirrored cg_table cg_mirror_test i (omega (arith, cg_length)))

-- a table's own entry goes back to its index
abbrev returning : List ℤ → ℕ → ℤ → Bool
returning table i v = eqb (nearest_of table v) i

-- tested over CG
cg_back_test : T (every (returning cg_table) 0 cg_table)
unfolding nearest_of apart cg_table
cg_back_test = tt

-- tested over PG
pg_back_test : T (every (returning pg_table) 0 pg_table)
unfolding nearest_of apart pg_table
pg_back_test = tt

-- so the nearest of a CG entry is its own index
pub cg_back : (i : ℕ) → i ≤ 31 → nearest_of cg_table (get_or cg_table i (pos 0)) ≡ i
cg_back i h = eqb→eq _ _ (at (pos 0) (returning cg_table) cg_table cg_back_test i (omega (arith, cg_length)))

-- and that of a PG entry
pub pg_back : (i : ℕ) → i ≤ 31 → nearest_of pg_table (get_or pg_table i (pos 0)) ≡ i
pg_back i h = eqb→eq _ _ (at (pos 0) (returning pg_table) pg_table pg_back_test i (omega (arith, pg_length)))

-- the answer is nearest in CG
pub cg_nearest : (x : ℤ) → Nearest cg_table x (nearest_of cg_table x)
cg_nearest x = nearest_is x cg_table (omega (arith, cg_length))

-- and in PG
pub pg_nearest : (x : ℤ) → Nearest pg_table x (nearest_of pg_table x)
pg_nearest x = nearest_is x pg_table (omega (arith, pg_length))
