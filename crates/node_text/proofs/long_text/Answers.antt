use native.Mathlib.Omega.{arith}
use Rattle.scope.specs.Text.{line}
use Rattle.sink.specs.Run.{todo_start, todo_turn, todo_done, none, then, same}
use Rattle.node_text.proofs.PairLines.{literals_turn, literals_end, literals-last}
use Rattle.node_text.proofs.long_text.Goals as goal

pub spell-number-requires : goal.spell-number-requires
spell-number-requires c = omega (arith, c.requires.weight)

pub put_spelled-p-requires : goal.put_spelled-p-requires
put_spelled-p-requires c = omega (arith, c.requires.room)

pub loop-l-init : goal.loop-l-init
loop-l-init c = (omega (arith, c.requires.room, c.put_spelled-p.ensures.upper_bound, c.put_spelled-p.auto.text), todo_start)

pub spell_after-number-requires : goal.spell_after-number-requires
spell_after-number-requires c = let l = c.loop-l in
    omega (arith, c.requires.literals l.l-index (omega arith))

pub put_spelled_literal-p-requires : goal.put_spelled_literal-p-requires
put_spelled_literal-p-requires c = let l = c.loop-l in
    (c.spell_after-number.ensures, omega (arith, l.auto.text, l.invariant.0, c.loop-l-test.true))

pub loop-l-preserved : goal.loop-l-preserved
loop-l-preserved c = let a = c.args in
    let l = c.loop-l in
    let p = c.put_spelled_literal-p in
    let t = c.loop-l-test.true in (
      omega (arith, l.invariant.0, t, p.ensures.upper_bound),
      todo_turn (literals_turn a.lits.now l.l-index t) l.invariant.1 p.ensures.ran,
    )

pub spell-requires : goal.spell-requires
spell-requires c = omega (arith, c.requires.second)

pub put_spelled_literal-last-requires : goal.put_spelled_literal-last-requires
put_spelled_literal-last-requires c = (c.spell.ensures, omega (arith, c.loop-l.auto.text, c.loop-l.invariant.0))

pub end_line-requires : goal.end_line-requires
end_line-requires c = omega (arith, c.loop-l.auto.text, c.loop-l.invariant.0, c.put_spelled_literal-last.ensures.upper_bound, c.put_spelled_literal-last.auto.text)

pub returns : goal.returns
unfolding line
returns c = let a = c.args in
    let l = c.loop-l in
    let all = todo_done (literals_end a.lits.now l.l-index c.loop-l-test.false) l.invariant.1 in
    then
    (then (rw c.spell-number.ensures at c.put_spelled-p.ensures.ran)
    (same (literals-last a.lits.now a.q) (then all (then c.put_spelled_literal-last.ensures.ran none))))
    c.end_line.ensures.ran
