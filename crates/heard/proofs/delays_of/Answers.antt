-- `heard::delays_of` meets its contract: the delays that the four codes mean, or nothing but 0.
use Rattle.std.proofs.Common.{◌≡◌, ◌∙◌, refl, ap, List, [], ◌∷◌, ℕ, Result, Ok, Err}
use Rattle.std.specs.Result.{result_unwrap_or}
use Rattle.delays.specs.Codes.{meant_by}
use Rattle.delays.specs.declared.CodeRefusal.{CodeRefusal}
use Rattle.values.specs.Values.{delays_in, delays_of}
use Rattle.heard.proofs.delays_of.Goals as goal

-- either way
unwrapped : (m : Result (List ℕ) CodeRefusal) → result_unwrap_or m (0 ∷ 0 ∷ 0 ∷ 0 ∷ []) ≡ delays_in m
unwrapped (Ok delays) = refl
unwrapped (Err e) = refl

pub returns : goal.returns
unfolding delays_of
returns c =
    c.unwrap_or.ensures ∙ unwrapped c.meaning.result ∙ ap delays_in (c.meaning.ensures ∙ ap meant_by c.in_subframes.ensures)
