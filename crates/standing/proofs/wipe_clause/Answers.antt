use mathlib.Core.Path.{◌≡◌, sym, ap, ◌∙◌}
use Prim.Native.Nat.{◌+◌, min}
use lib.ListN.{length}
use native.Mathlib.Omega.{arith}
use Rattle.standing.specs.Clauses.{wiped}
use Rattle.standing.proofs.laws.Clauses.{part_slice, wiped_next, wiped-end}
use Rattle.standing.proofs.wipe_clause.Goals as goal

pub loop-i-preserved : goal.loop-i-preserved
loop-i-preserved c = let l = c.loop-i in
    let a = c.args in (
      c.put_mark.auto.marks ∙ l.invariant.0,
      rw (c.put_mark.ensures)
          (wiped_next a.words.now l.i c.min-end.result (omega arith) (omega arith) l.marks)
          ∙ l.invariant.1,
    )

pub returns : goal.returns
returns c = let l = c.loop-i in
    let a = c.args in
    let end : c.min-end.result ≡ min (length a.words.now) (a.first + a.len) = omega arith in
    sym (wiped-end a.words.now l.i c.min-end.result (omega arith) l.marks)
    ∙ l.invariant.1
    ∙ ap (wiped a.marks.now) (part_slice a.words.now a.first a.len _ end)
