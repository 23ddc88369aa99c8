-- A salvaged recording has the key of the whole one: both are what the head tells, and its bytes are the same.
-- Assumes nothing.
use mathlib.Core.Path.{◌≡◌, ◌∙◌, sym, ap, ap₂}
use mathlib.Core.List.{List}
use Prim.Native.Nat.{ℕ, ◌+◌, ◌<◌}
use native.Mathlib.Omega.{arith}
use lib.ListN.{get_or, take}
use lib.Seq.{get_or-take}
use Rattle.std.specs.Prelude.{Ok}
use Rattle.laws.specs.Bytes.{word_at}
use Rattle.blocks.specs.Blocks.{heading_at}
use Rattle.blocks.specs.Frames.{if_sound}
use Rattle.blocks.specs.Walk.{after_head, walked_of}
use Rattle.blocks.specs.Walk.{Ending}
use Rattle.blocks.specs.declared.Heading.{Heading}
use Rattle.blocks.proofs.Blocks.{head_held}
use Rattle.blocks.proofs.Passed.{sound_whole}
use Rattle.salvage.specs.Promised.{SalvagedAccepted}
use Rattle.salvage.specs.Salvaging.{result_of}
use Rattle.salvage.proofs.Laws.{salvaged_accepted}
use Rattle.tally.specs.Book.{tallied, book_then}
use Rattle.tally.specs.Entering.{of_entry, entry_of, recording_entry, entering_by, entering_of, book_after_recording, refusal_of}
use Rattle.tally.proofs.Laws.{same_number, accepted_again}
use Rattle.promises.specs.Tally.{HeldAfter, SalvagedSameKey}

-- the first bytes of two lists are the same
module _ (s w : List ℕ) (same : take (after_head 0) s ≡ take (after_head 0) w) where
  byte_same : (k : ℕ) → k < 14 → get_or s k 0 ≡ get_or w k 0
  byte_same k h =
      sym (get_or-take 14 s k 0 h) ∙ ap (λ (l : List ℕ). get_or l k 0) same ∙ get_or-take 14 w k 0 h

  word_same : (k : ℕ) → k < 11 → word_at s k ≡ word_at w k
  unfolding word_at
  word_same k h =
      let a = byte_same k (omega arith) in
      let b = byte_same (k + 1) (omega arith) in
      let c = byte_same (k + 2) (omega arith) in
      let d = byte_same (k + 3) (omega arith) in
      omega (arith, a, b, c, d)

  -- so a head there tells the same
  heading_same : heading_at s 0 ≡ heading_at w 0
  heading_same = λ i. record { unit = word_same 6 (omega arith) i; number = word_same 10 (omega arith) i }

-- a sound recording is entered by its entry
entered_sound : (s : List ℕ) (count : ℕ) → (walked_of s).ending ≡ Ok tt → (b : List ℕ)
    → (entering_of b s count ≡ of_entry (tallied b (recording_entry s count)))
    × (book_after_recording b s count ≡ book_then b (recording_entry s count))
unfolding entering_of book_after_recording
entered_sound s count e b = (
  ap (λ (x : Ending). entering_by x b (recording_entry s count)) e,
  ap (λ (x : Ending). if_sound x (book_then b (recording_entry s count)) b) e,
)

-- two sound recordings of one entry: the second is already held
held_after : (first second : List ℕ) (count : ℕ) → (walked_of first).ending ≡ Ok tt → (walked_of second).ending ≡ Ok tt
    → recording_entry first count ≡ recording_entry second count → HeldAfter first second count
held_after first second count p q same b book accepted =
    let f = entered_sound first count p b in
    let g = entered_sound second count q (book_after_recording b first count) in
    g.0
    ∙ ap of_entry
    (ap₂ tallied f.1 (sym same)
    ∙ accepted_again b (recording_entry first count) book
    (sym (same_number (tallied b (recording_entry first count))) ∙ sym (ap refusal_of f.0) ∙ accepted))

pub salvaged_same_key : SalvagedSameKey
unfolding SalvagedSameKey SalvagedAccepted recording_entry
salvaged_same_key s whole room count z sound same =
    let a = salvaged_accepted s room z in
    let h = (head_held s 0 _ a.1).1 in
    let k = (head_held whole 0 _ (sound_whole whole sound).behind.head).1 in
    let e : recording_entry (result_of s) count ≡ recording_entry whole count =
    ap (λ (x : Heading). entry_of x count) (h ∙ heading_same s whole same ∙ sym k)
    in
    (e, held_after whole (result_of s) count sound a.0 (sym e), held_after (result_of s) whole count a.0 sound e)
