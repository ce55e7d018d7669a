-- `chain_lists::preferred::pass` meets its contract. By the tests.
use native.Mathlib.Omega.{arith}
use Rattle.chain_lists.proofs.ReachNodes.{reach-carried, reach-both, went_past, went_started}
use Rattle.chain_lists.proofs.preferred.pass.Goals as goal

pub returns-then-inside : goal.returns-then-inside
returns-then-inside c = let a = c.args in
    rw (c.if-inside.true) (went_past a.y a.s a.after a.t a.w a.out.now c.if-w-eq0.true (omega (arith, c.requires.words)))

pub returns-then-w-eq0 : goal.returns-then-w-eq0
returns-then-w-eq0 c = let a = c.args in
    rw (c.if-inside.false) (went_started a.y a.s a.after a.t a.w a.out.now c.if-w-eq0.true (omega (arith, c.requires.words)))

pub returns-then-inside-2 : goal.returns-then-inside-2
returns-then-inside-2 c = let a = c.args in
    rw (c.if-inside-2.true, reach-carried a.w.near a.t c.if-w-eq0.false) c.carry.ensures

pub returns : goal.returns
returns c = let a = c.args in
    rw (c.if-inside-2.false, reach-both a.w.near a.t c.if-w-eq0.false) c.carry_or_start.ensures
