use mathlib.Core.Path.{◌≡◌, sym, ap, ◌∙◌}
use Prim.Native.Nat.{◌+◌, min}
use lib.ListN.{length}
use native.Mathlib.Omega.{arith}
use Rattle.theory.specs.Marked.{standing, falsified}
use Rattle.marks.specs.Marks.{marks_of}
use Rattle.standing.proofs.laws.Clauses.{part_slice, standing_next, standing-end}
use Rattle.standing.proofs.standing_of.Goals as goal

pub loop-i-preserved : goal.loop-i-preserved
loop-i-preserved c = let a = c.args in
    standing_next a.words.now c.loop-i.i c.min-end.result (omega arith) (omega arith) (marks_of a.marks.now) _ _
    (c.also_literal-s.ensures ∙ rw (c.from.ensures, c.mark_of.ensures))
    ∙ c.loop-i.invariant

pub returns : goal.returns
returns c = let a = c.args in
    let end : c.min-end.result ≡ min (length a.words.now) (a.first + a.len) = omega arith in
    sym (standing-end (marks_of a.marks.now) _ a.words.now c.loop-i.i c.min-end.result (omega arith))
    ∙ c.loop-i.invariant
    ∙ ap (standing (marks_of a.marks.now) falsified) (part_slice a.words.now a.first a.len _ end)
