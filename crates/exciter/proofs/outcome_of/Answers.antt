-- `exciter::outcome_of` meets its contract: each test decides one of its cases.
use Rattle.std.proofs.Common.{◌≡◌, ◌∙◌, ℕ, sym, ap, arith, Option, None, ok_or, Result, Err}
use Rattle.std.proofs.lemmas.Result.{err_from_is_err_and}
use Rattle.excitation.specs.declared.Refusal.{Refusal}
use Rattle.excitation.specs.declared.Refusal.TheVariants.{NotListed}
use Rattle.excitation.proofs.Outcomes.{wrong_length, pg_large, ci_large, cg_large, not_listed, not_whole}
use Rattle.excitation.proofs.Outcomes.{all_fits}
use Rattle.exciter.proofs.outcome_of.Goals as goal

pub returns-then-long-ne60 : goal.returns-then-long-ne60
returns-then-long-ne60 c =
    let x = c.args in wrong_length x.long x.delay x.pg x.ci x.cg c.if-long-ne60.true

pub returns-then-pg-gt31 : goal.returns-then-pg-gt31
returns-then-pg-gt31 c =
    let x = c.args in pg_large x.long x.delay x.pg x.ci x.cg (omega arith) (omega arith)

pub returns-then-ci-gt511 : goal.returns-then-ci-gt511
returns-then-ci-gt511 c =
    let x = c.args in ci_large x.long x.delay x.pg x.ci x.cg (omega arith) (omega arith) (omega arith)

pub returns-then-cg-gt31 : goal.returns-then-cg-gt31
returns-then-cg-gt31 c =
    let x = c.args in cg_large x.long x.delay x.pg x.ci x.cg (omega arith) (omega arith) (omega arith) (omega arith)

-- the refusal of a delay that was not found
unfound : {o : Option ℕ} {e : Refusal} → o ≡ None → Err e ≡ ok_or o NotListed → e ≡ NotListed
unfound {e = e} n i = let w : ◌≡◌ {A = Result ℕ Refusal} (Err e) (Err NotListed) = rw n at i in cc

pub returns-in_err-ok_or : goal.returns-in_err-ok_or
returns-in_err-ok_or c =
    let x = c.args in
    let p = err_from_is_err_and c.from_residual.result c.from_residual.ensures.1 in
    let o = c.in_err-ok_or.ensures.ok_part in
    rw (p.1, p.2)
    (ap Err (unfound o c.in_err-ok_or.ensures.value)
    ∙ not_listed x.long x.delay x.pg x.ci x.cg (omega arith) (omega arith) (omega arith) (omega arith)
    (sym o ∙ c.rank_with.ensures))

pub returns-then-delay-ne0 : goal.returns-then-delay-ne0
returns-then-delay-ne0 c =
    let x = c.args in not_whole x.long x.delay x.pg x.ci x.cg (omega arith) (omega arith) (omega arith) (omega arith)
    (sym c.in_ok-ok_or.ensures.ok_part ∙ c.rank_with.ensures) c.if-delay-ne0.true

pub returns : goal.returns
returns c =
    let x = c.args in all_fits x.long x.delay x.pg x.ci x.cg (omega arith) (omega arith) (omega arith) (omega arith)
    (sym c.in_ok-ok_or.ensures.ok_part ∙ c.rank_with.ensures) (omega arith)
