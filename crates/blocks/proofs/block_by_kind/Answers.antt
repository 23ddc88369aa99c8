use mathlib.Core.Path.{◌∙◌, sym}
use native.Mathlib.Omega.{arith}
use borrow.Author.Tests.{not-true, not-false}
use Rattle.blocks.proofs.Blocks.{head_size, end_size, wrong_size, head, voice, end, unknown_kind}
use Rattle.blocks.proofs.block_by_kind.Goals as goal

pub returns-then-not-right_size : goal.returns-then-not-right_size
returns-then-not-right_size c =
    wrong_size _ _ _ _ c.requires.size_value c.pair-kind.ensures c.requires.size_in_bounds
    (sym c.right_size.ensures ∙ not-true _ c.if-not-right_size.true-raw)

pub heading_at-requires : goal.heading_at-requires
heading_at-requires c =
    let e = head_size c.pair-kind.result c.args.size
    (sym c.right_size.ensures ∙ not-false _ c.if-not-right_size.false-raw) c.in-1.is in
    omega (arith, e, c.requires.size_in_bounds)

pub word-requires : goal.word-requires
word-requires c =
    let e = end_size c.pair-kind.result c.args.size
    (sym c.right_size.ensures ∙ not-false _ c.if-not-right_size.false-raw) c.in-3.is in
    omega (arith, e, c.requires.size_in_bounds)

pub returns-in-1 : goal.returns-in-1
returns-in-1 c =
    head _ _ _ _ c.requires.size_value c.pair-kind.ensures c.requires.size_in_bounds
    (sym c.right_size.ensures ∙ not-false _ c.if-not-right_size.false-raw) c.in-1.is _ c.heading_at.ensures

pub returns-in-2 : goal.returns-in-2
returns-in-2 c =
    voice _ _ _ _ c.requires.size_value c.pair-kind.ensures c.requires.size_in_bounds
    (sym c.right_size.ensures ∙ not-false _ c.if-not-right_size.false-raw)
    (λ z. omega (arith, z)) c.in-2.is

pub returns-in-3 : goal.returns-in-3
returns-in-3 c =
    end _ _ _ _ c.requires.size_value c.pair-kind.ensures c.requires.size_in_bounds
    (sym c.right_size.ensures ∙ not-false _ c.if-not-right_size.false-raw)
    (λ z. omega (arith, z)) (λ z. omega (arith, z)) c.in-3.is
    _ c.word.ensures

pub returns-in_default : goal.returns-in_default
returns-in_default c =
    unknown_kind _ _ _ _ c.requires.size_value c.pair-kind.ensures c.requires.size_in_bounds
    (sym c.right_size.ensures ∙ not-false _ c.if-not-right_size.false-raw)
    (λ z. omega arith) (λ z. omega arith) (λ z. omega arith)
