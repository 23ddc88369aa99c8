-- `excite::frames::one` meets its contract: a frame that is refused, and one that is heard.
use Rattle.std.proofs.Common.{Result, Ok, Err, IfOk}
use Rattle.excite.proofs.Runs.{frame_stays, frame_moves}
use Rattle.excite.proofs.frames.one.Goals as goal

-- what follows of a value holds of the one there is
weaker : {A E : Type 0} (r : Result A E) (p q : A → Type 0) → ((x : A) → p x → q x) → IfOk r p → IfOk r q
weaker (Ok x) p q f h = f x h
weaker (Err e) p q f h = tt

pub returns-then-number-ne0 : goal.returns-then-number-ne0
returns-then-number-ne0 g c =
    let x = c.args in frame_stays x.hearing x.register c.refusal_number-number.ensures c.if-number-ne0.true

pub returns : goal.returns
returns g c =
    let x = c.args in
    weaker c.heard.result _ _
    (λ after e. frame_moves x.hearing x.register c.refusal_number-number.ensures c.if-number-ne0.false e) c.heard.ensures
