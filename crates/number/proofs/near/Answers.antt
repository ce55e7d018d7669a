-- `number::near` meets its contract: a number of one byte by the law of its only turn, any other by the call.
use mathlib.Core.Path.{sym}
use Rattle.number.proofs.Turns.{first_last}
use Rattle.number.proofs.near.Goals as goal

pub returns-then-first-lt128 : goal.returns-then-first-lt128
returns-then-first-lt128 c = sym (first_last _ _ _ c.if-s-at.false c.from-first.ensures c.if-first-lt128.true)
