use native.Mathlib.Omega.{arith}
use Rattle.blocks.proofs.Voices.{voice_sized, seeking_start, seeking_none, seeking_found, seeking_on}
use Rattle.voices.proofs.span_from.Goals as goal

pub loop-voices-init : goal.loop-voices-init
loop-voices-init c = seeking_start _ _ _

pub returns-then-size-eq0 : goal.returns-then-size-eq0
returns-then-size-eq0 c = seeking_none _ c.voice_size-size.ensures c.loop-voices.invariant c.if-size-eq0.true

pub overflow_add-from : goal.overflow_add-from
overflow_add-from c = let t = voice_sized _ _ _ c.voice_size-size.ensures c.if-size-eq0.false in omega (arith, t.fits)

pub overflow_add-to : goal.overflow_add-to
overflow_add-to c = let t = voice_sized _ _ _ c.voice_size-size.ensures c.if-size-eq0.false in omega (arith, t.fits)

pub returns-then-before-eq0 : goal.returns-then-before-eq0
returns-then-before-eq0 c =
    seeking_found _ c.voice_size-size.ensures c.loop-voices.invariant
    c.if-size-eq0.false c.if-before-eq0.true

pub overflow_sub-before : goal.overflow_sub-before
overflow_sub-before c = omega arith

pub loop-voices-smaller : goal.loop-voices-smaller
loop-voices-smaller c =
    let t =
    voice_sized _ _ _ c.voice_size-size.ensures c.if-size-eq0.false in omega (arith, t.fits)

pub loop-voices-preserved : goal.loop-voices-preserved
loop-voices-preserved c =
    seeking_on _ c.voice_size-size.ensures c.loop-voices.invariant
    c.if-size-eq0.false c.if-before-eq0.false
