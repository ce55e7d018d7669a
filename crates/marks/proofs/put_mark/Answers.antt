use mathlib.Core.Path.{sym}
use native.Mathlib.Omega.{arith}
use Rattle.marks.proofs.laws.Marks.{put_byte, put-past}
use Rattle.marks.proofs.put_mark.Goals as goal

pub returns-then-marks-i : goal.returns-then-marks-i
returns-then-marks-i c = let s = c.args in sym (put-past s.marks.now s.v s.mark (omega arith))

pub returns : goal.returns
returns c = let s = c.args in sym (put_byte s.marks.now s.v s.mark c.if-v-eq0.false)
