-- For whoever cites the contracts: 56 bytes and a record are two ways to write the same.
-- Assumes nothing.
use mathlib.Core.Path.{◌≡◌, ◌∙◌, sym, ap, subst}
use mathlib.Core.List.{List}
use Prim.Native.Nat.{ℕ, ◌+◌, ◌-◌, ◌*◌, ◌/◌, ◌%◌, ◌<◌, ◌≤◌}
use native.Mathlib.Omega.{arith}
use native.Mathlib.Decide.{ℕ_discrete}
use borrow.Author.Tests.{eq-eqb, ne_eqb}
use lib.ListN.{length, get_or}
use lib.Seq.{ext_get_or}
use Rattle.laws.specs.Bytes.{pair_at}
use Rattle.laws.proofs.Tabulate.{length_tabulate, get_d_tabulate}
use Rattle.record.specs.Fields.{index_of, indices_of}
use Rattle.record.specs.declared.Record.{Record}
use Rattle.record.proofs.Laws.{index_listed, index_given, record_is}
use Rattle.pairs.specs.Pairs.{pair_byte, bytes_of, pair_in, record_in}
use Rattle.pairs.proofs.Pairs.{low_byte, high_byte}

-- a record has 56 bytes
pub length_bytes : (r : Record) → length (bytes_of r) ≡ 56
unfolding bytes_of
length_bytes r = length_tabulate (pair_byte (indices_of r)) 56

-- each of them as defined
pub byte_at : (r : Record) (i : ℕ) → i < 56 → get_or (bytes_of r) i 0 ≡ pair_byte (indices_of r) i
unfolding bytes_of
byte_at r i h = get_d_tabulate (pair_byte (indices_of r)) 0 56 i h

-- the bytes of a record hold its indices
pub index_of_bytes : (r : Record) (f : ℕ) → 1 ≤ f → f ≤ 28 → pair_in (bytes_of r) f ≡ index_of r f
unfolding pair_at
index_of_bytes r f a b =
    let low : get_or (bytes_of r) (2 * (f - 1)) 0 ≡ get_or (indices_of r) (f - 1) 0 % 256 = byte_at r (2 * (f - 1))
    (omega arith) ∙ low_byte (indices_of r) (f - 1) in
    let high : get_or (bytes_of r) (2 * (f - 1) + 1) 0 ≡ get_or (indices_of r) (f - 1) 0 / 256 = byte_at r (2 * (f - 1) + 1)
    (omega arith) ∙ high_byte (indices_of r) (f - 1) in
    let same : get_or (indices_of r) (f - 1) 0 ≡ index_of r f = index_listed r (f - 1) (omega arith)
    ∙ ap (index_of r) there in
    omega (arith, low, high, same)
  where
    there : f - 1 + 1 ≡ f
    there = omega arith

-- so a record comes back out of its bytes
pub record_of_bytes : (r : Record) → length r.lsp ≡ 10 → length r.subframes ≡ 16 → record_in (bytes_of r) ≡ r
unfolding record_in
record_of_bytes r ten sixteen = record_is r (pair_in (bytes_of r)) ten sixteen (index_of_bytes r)

-- so the record in 56 bytes has the indices in them
pub index_in_record : (s : List ℕ) (f : ℕ) → 1 ≤ f → f ≤ 28 → index_of (record_in s) f ≡ pair_in s f
unfolding record_in
index_in_record s f a b = index_given (pair_in s) f a b

-- every 56 bytes are a record's
pub bytes_of_record : (s : List ℕ) → length s ≡ 56 → ((i : ℕ) → i < 56 → get_or s i 0 < 256) → bytes_of (record_in s) ≡ s
unfolding pair_at
bytes_of_record s long bytes =
    ext_get_or 0 (bytes_of (record_in s)) s (length_bytes (record_in s) ∙ sym long)
    (λ i h. let l : i < 56 = subst (λ (n : ℕ). i < n) (length_bytes (record_in s)) h in
    byte_at (record_in s) i l ∙ half i l (ℕ_discrete (i % 2) 0))
  where
    index : (i : ℕ) → i < 56 → get_or (indices_of (record_in s)) (i / 2) 0 ≡ pair_at s (2 * (i / 2 + 1 - 1))
    index i l =
        index_listed (record_in s) (i / 2) (omega arith) ∙ index_in_record s (i / 2 + 1) (omega arith) (omega arith)

    half : (i : ℕ) → i < 56 → Dec (i % 2 ≡ 0) → pair_byte (indices_of (record_in s)) i ≡ get_or s i 0
    half i l (yes e) =
        let at : 2 * (i / 2 + 1 - 1) ≡ i = omega arith in
        let whole : get_or (indices_of (record_in s)) (i / 2) 0 ≡ get_or s i 0 + 256 * get_or s (i + 1) 0 = index i l
        ∙ ap (pair_at s) at in
        let small = bytes i l in
        rw (eq-eqb (i % 2) 0 e) (omega (arith, whole, small))
    half i l (no e) =
        let at : 2 * (i / 2 + 1 - 1) ≡ i - 1 = omega arith in
        let next : i - 1 + 1 ≡ i = omega arith in
        let high : get_or s (i - 1 + 1) 0 ≡ get_or s i 0 = ap (λ (k : ℕ). get_or s k 0) next in
        let whole : get_or (indices_of (record_in s)) (i / 2) 0 ≡ get_or s (i - 1) 0 + 256 * get_or s (i - 1 + 1) 0 = index i l
        ∙ ap (pair_at s) at in
        let small = bytes (i - 1) (omega arith) in
        rw (ne_eqb (i % 2) 0 e) (omega (arith, whole, small, high))
