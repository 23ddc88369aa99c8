use mathlib.Core.Path.{◌∙◌, sym, ap}
use Rattle.kept.specs.Keeping.{left_at}
use Rattle.kept.proofs.left_of.Goals as goal

pub left_by-requires : goal.left_by-requires
left_by-requires c = record { s_len_bound = c.requires.s_len_bound; s_value = c.requires.s_value ∙ c.in-Err.is }

pub returns-in-Ok : goal.returns-in-Ok
returns-in-Ok c = ap (left_at _) (sym c.in-Ok.is)

pub returns-in-Err : goal.returns-in-Err
returns-in-Err c = c.left_by.ensures ∙ ap (left_at _) (sym c.in-Err.is)
