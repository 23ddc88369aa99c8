-- `reader::to_record` and `packer::to_fields`: between a record and the list of its indices by field.
-- Assumes nothing.
use mathlib.Core.Path.{◌≡◌, ◌∙◌, sym, refl, ap}
use mathlib.Core.List.{List, ◌∷◌}
use Prim.Native.Nat.{ℕ, zero, suc, ◌+◌, ◌<◌, ◌≤◌}
use native.Mathlib.Omega.{arith}
use native.Mathlib.Numerals.{add-one}
use borrow.Author.Tests.{ne_eqb}
use lib.ListN.{length, get_or}
use Rattle.std.specs.List.{between}
use Rattle.std.proofs.lemmas.List.Edits.{length-between, get_or-between}
use Rattle.laws.specs.Tabulate.{tabulate}
use Rattle.laws.proofs.Tabulate.{tabulate_is}
use Rattle.record.specs.Fields.{index_of, indices_of}
use Rattle.record.specs.declared.Record.{Record}
use Rattle.record.proofs.Laws.{indices_long, index_listed}
use Rattle.frame.specs.Frame.{with_parity}
use Rattle.frame.specs.Steps.{record_by, fields_of}

-- so many fields of a list of 29, from field i on
part : (v : List ℕ) (i n : ℕ) → i + n ≤ length v → between i (i + n) v ≡ tabulate (λ k. get_or v (k + i) 0) n
part v i n h =
    sym (tabulate_is (λ k. get_or v (k + i) 0) 0 (between i (i + n) v) n (length-between v i (i + n) h ∙ omega arith)
    (λ k l. ap (λ (x : ℕ). get_or v x 0) (omega arith) ∙ sym (get_or-between v i (i + n) k 0 (omega arith))))

-- the parameters, the subframe indices, SP and SY of such a list are its record
pub record_taken : (v : List ℕ) → length v ≡ 29 → {l s : List ℕ} → l ≡ between 1 11 v → s ≡ between 11 27 v
    → record { lsp = l; subframes = s; sp = get_or v 27 0; sy = get_or v 28 0 } ≡ record_by v
record_taken v long {l} {s} p q =
    λ i. record {
      lsp = (p ∙ part v 1 10 (omega arith)) i;
      subframes = (q ∙ part v 11 16 (omega arith)) i;
      sp = get_or v 27 0;
      sy = get_or v 28 0;
    }

-- a record's indices by field are the parity bits, 0, and the list of them all
pub fields_listed : (r : Record) {l : List ℕ} → l ≡ indices_of r → 0 ∷ l ≡ fields_of r
unfolding fields_of
fields_listed r is =
    ap (λ (l : List ℕ). 0 ∷ l) is
    ∙ sym (tabulate_is (with_parity r 0) 0 (0 ∷ indices_of r) 29 (ap suc (indices_long r)) here)
  where
    here : (k : ℕ) → k < 29 → with_parity r 0 k ≡ get_or (0 ∷ indices_of r) k 0
    here zero h = refl
    here (suc k) h =
        rw (ne_eqb (suc k) 0 (λ e. omega arith))
        (ap (index_of r) (sym (add-one k)) ∙ sym (index_listed r k (omega arith)))
