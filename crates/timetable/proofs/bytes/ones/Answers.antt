use borrow.Author.Rules.{rules}
use Rattle.resource_uses.proofs.laws.Bits.{counting}
use Rattle.timetable.proofs.bytes.ones.Goals as goal

pub loop-i-preserved : goal.loop-i-preserved
loop-i-preserved c = search (rules, counting)

pub returns : goal.returns
returns c = search (rules, counting)
