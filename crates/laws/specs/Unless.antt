-- A chain of refusals, read from top to bottom in the order in which they are tried.
use Rattle.std.specs.Prelude.{Bool, cond}

-- go on with the rest where the test holds, or else answer the refusal
abbrev pub unless : {A : Type 0} → Bool → A → A → A
unless holds refusal rest = cond holds rest refusal
