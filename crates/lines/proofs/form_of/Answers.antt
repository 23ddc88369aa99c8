-- `lines::form_of` meets its contract: each line has its form.
use Rattle.lines.proofs.Lines.{shows_line}
use Rattle.lines.proofs.form_of.Goals as goal

pub returns-in-Head : goal.returns-in-Head
returns-in-Head c = shows_line _ c.in-Head.is c.head.ensures

pub returns-in-Frame : goal.returns-in-Frame
returns-in-Frame c = shows_line _ c.in-Frame.is c.frame.ensures

pub returns-in-Last : goal.returns-in-Last
returns-in-Last c = shows_line _ c.in-Last.is c.last.ensures

pub returns-in-Refused : goal.returns-in-Refused
returns-in-Refused c = shows_line _ c.in-Refused.is c.refused.ensures
