use mathlib.Core.Path.{sym}
use native.Mathlib.Omega.{arith}
use Rattle.marks.proofs.laws.Marks.{mark-byte, mark-past}
use Rattle.marks.proofs.mark_of.Goals as goal

pub returns-then-marks-i : goal.returns-then-marks-i
returns-then-marks-i c = let s = c.args in sym (mark-past s.marks.now s.v (omega arith))

pub returns : goal.returns
returns c = let s = c.args in sym (mark-byte s.marks.now s.v c.if-v-eq0.false)
