use mathlib.Core.Path.{sym, ap}
use Rattle.blocks.specs.Refusals.{refusal_of}
use Rattle.refusals.proofs.refusal_number.Goals as goal

pub returns-in-TooLong : goal.returns-in-TooLong
returns-in-TooLong c = ap refusal_of (sym c.in-TooLong.is)

pub returns-in-HeaderCut : goal.returns-in-HeaderCut
returns-in-HeaderCut c = ap refusal_of (sym c.in-HeaderCut.is)

pub returns-in-PastEnd : goal.returns-in-PastEnd
returns-in-PastEnd c = ap refusal_of (sym c.in-PastEnd.is)

pub returns-in-WrongSize : goal.returns-in-WrongSize
returns-in-WrongSize c = ap refusal_of (sym c.in-WrongSize.is)

pub returns-in-UnknownKind : goal.returns-in-UnknownKind
returns-in-UnknownKind c = ap refusal_of (sym c.in-UnknownKind.is)

pub returns-in-OutOfTurn : goal.returns-in-OutOfTurn
returns-in-OutOfTurn c = ap refusal_of (sym c.in-OutOfTurn.is)

pub returns-in-EndMissing : goal.returns-in-EndMissing
returns-in-EndMissing c = ap refusal_of (sym c.in-EndMissing.is)

pub returns-in-WrongCount : goal.returns-in-WrongCount
returns-in-WrongCount c = ap refusal_of (sym c.in-WrongCount.is)

pub returns-in-Extra : goal.returns-in-Extra
returns-in-Extra c = ap refusal_of (sym c.in-Extra.is)
