-- What is put and taken, by the length of the bytes.
-- Assumes nothing.
use mathlib.Core.Path.{◌≡◌, ◌∙◌, sym, ap, refl}
use mathlib.Core.Bool.{Bool, true, false}
use mathlib.Core.List.{List}
use Rattle.std.specs.Prelude.{None, Some}
use Prim.Native.Nat.{ℕ}
use native.Mathlib.Decide.{ℕ_discrete}
use borrow.Author.Tests.{eq-eqb, ne_eqb, eqb-true, eqb-false}
use lib.Dec.{eqb}
use lib.ListN.{length}
use Rattle.record.specs.declared.Record.{Record}
use Rattle.pairs.specs.Pairs.{bytes_of, bytes_left, record_in, taken_of}

-- the answer of `put`, and what the buffer then holds
abbrev pub Puts : Record → List ℕ → Bool → List ℕ → Type 0
Puts r o b next = (b ≡ eqb (length o) 56) × (next ≡ bytes_left r o)

module _ (r : Record) (o : List ℕ) where
  -- a buffer of another length stays
  pub not_put : (length o ≡ 56 → ⊥) → Puts r o false o
  unfolding bytes_left
  not_put w = rw (ne_eqb (length o) 56 w) (refl, refl)

  -- one of 56 bytes holds the record
  pub all_put : length o ≡ 56 → {next : List ℕ} → next ≡ bytes_of r → Puts r o true next
  unfolding bytes_left
  all_put e is = rw (eq-eqb (length o) 56 e) (refl, is)

  -- for who asked: it was put, into 56 bytes
  pub was_put : {b : Bool} {next : List ℕ} → Puts r o b next → b ≡ true → (length o ≡ 56) × (next ≡ bytes_of r)
  unfolding bytes_left
  was_put p t =
      let long : length o ≡ 56 = eqb-true (length o) 56 (sym p.0 ∙ t) in
      (long, p.1 ∙ rw (eq-eqb (length o) 56 long))

  -- or it was not, and the buffer stays
  pub was_not : {b : Bool} {next : List ℕ} → Puts r o b next → b ≡ false → (length o ≡ 56 → ⊥) × (next ≡ o)
  unfolding bytes_left
  was_not p f =
      let short : length o ≡ 56 → ⊥ = eqb-false (length o) 56 (sym p.0 ∙ f) in
      (short, p.1 ∙ rw (ne_eqb (length o) 56 short))

module _ (s : List ℕ) where
  -- the returns of `take`
  pub not_taken : (length s ≡ 56 → ⊥) → None ≡ taken_of s
  unfolding taken_of
  not_taken w = rw (ne_eqb (length s) 56 w)

  pub all_taken : length s ≡ 56 → {r : Record} → r ≡ record_in s → Some r ≡ taken_of s
  unfolding taken_of
  all_taken e is = rw (eq-eqb (length s) 56 e) (ap Some is)

  -- for who asked: the record in 56 bytes, or not 56 bytes
  pub was_taken : {r : Record} → Some r ≡ taken_of s → (length s ≡ 56) × (r ≡ record_in s)
  was_taken {r} is = go (ℕ_discrete (length s) 56)
    where
      go : Dec (length s ≡ 56) → (length s ≡ 56) × (r ≡ record_in s)
      go (yes long) = (long, let whole : Some (record_in s) ≡ taken_of s = all_taken long refl in cc)
      go (no w) = absurd (let none : None ≡ taken_of s = not_taken w in cc)

  pub was_wrong : None ≡ taken_of s → length s ≡ 56 → ⊥
  was_wrong is long = let whole : Some (record_in s) ≡ taken_of s = all_taken long refl in cc
