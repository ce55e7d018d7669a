use native.Mathlib.Omega.{arith}
use borrow.Author.Tests.{eq-eqb, ne_eqb, lt-ltb, le-ltb, le-leb, lt-leb}
use Prim.Native.Nat.{◌+◌}
use Rattle.turns.specs.Check.{verdict}
use Rattle.turns.proofs.check.judge.Goals as goal

pub returns-then-at-bytes : goal.returns-then-at-bytes
unfolding verdict
returns-then-at-bytes c = let a = c.args in rw (eq-eqb a.c.clause.size 0 c.if-clause-eq0.true, lt-ltb a.at a.bytes c.if-at-bytes.true) c.in_phase.ensures

pub returns-then-clause-eq0 : goal.returns-then-clause-eq0
unfolding verdict
returns-then-clause-eq0 c = let a = c.args in rw (eq-eqb a.c.clause.size 0 c.if-clause-eq0.true, le-ltb a.at a.bytes c.if-at-bytes.false) c.in_phase-then-clause-eq0.ensures

pub returns-then-words-tally : goal.returns-then-words-tally
unfolding verdict
returns-then-words-tally c = let a = c.args in
    rw (ne_eqb a.c.clause.size 0 c.if-clause-eq0.false, lt-leb (a.c.tally.words + a.c.clause.size) a.words (omega arith)) c.in_phase-then-words-tally.ensures

pub returns-then-words-tally-2 : goal.returns-then-words-tally-2
unfolding verdict
returns-then-words-tally-2 c = let a = c.args in
    rw (ne_eqb a.c.clause.size 0 c.if-clause-eq0.false, lt-leb (a.c.tally.words + a.c.clause.size) a.words (omega arith)) c.in_phase-then-words-tally-2.ensures

pub returns-then-rows-tally : goal.returns-then-rows-tally
unfolding verdict
returns-then-rows-tally c = let a = c.args in
    rw (
      ne_eqb a.c.clause.size 0 c.if-clause-eq0.false,
      le-leb (a.c.tally.words + a.c.clause.size) a.words (omega arith),
      lt-leb (a.c.tally.rows + 1) a.rows (omega arith),
    ) c.in_phase-then-rows-tally.ensures

pub returns : goal.returns
unfolding verdict
returns c = let a = c.args in
    rw (
      ne_eqb a.c.clause.size 0 c.if-clause-eq0.false,
      le-leb (a.c.tally.words + a.c.clause.size) a.words (omega arith),
      le-leb (a.c.tally.rows + 1) a.rows (omega arith),
    ) c.in_phase-2.ensures
