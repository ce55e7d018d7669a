use mathlib.Core.Path.{sym}
use native.Mathlib.Nat.{le_trans}
use borrow.Author.Rules.{rules}
use Rattle.timetable.proofs.laws.Above.{none_above, above}
use Rattle.timetable.proofs.bytes.first_above.Goals as goal

pub returns-then-largest-le1 : goal.returns-then-largest-le1
returns-then-largest-le1 c = sym (none_above 0 _ (λ i l. le_trans (c.largest.ensures i l) c.if-largest-le1.true))

pub returns-then-bytes-i-gt1 : goal.returns-then-bytes-i-gt1
returns-then-bytes-i-gt1 c = search (rules, above)

pub loop-i-preserved : goal.loop-i-preserved
loop-i-preserved c = search (rules, above)

pub returns : goal.returns
returns c = search (rules, above)
