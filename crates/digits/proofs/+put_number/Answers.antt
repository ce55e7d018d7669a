use Rattle.digits.specs.Run.{then}
use Rattle.digits.proofs.laws.Decimal.{digits-none, digits-small, digits-next}
use Rattle.digits.proofs.+put_number.Goals as goal

pub returns-then-k-eq0 : goal.returns-then-k-eq0
returns-then-k-eq0 t c = rw (digits-none _ _ c.if-k-eq0.true, ← c.digit.ensures) c.put.ensures

pub returns-then-n-lt10 : goal.returns-then-n-lt10
returns-then-n-lt10 t c = rw (digits-small _ _ c.if-n-lt10.true, ← c.digit-then-n-lt10.ensures) c.put-then-n-lt10.ensures

pub returns : goal.returns
returns t c = rw (digits-next _ _ c.if-k-eq0.false c.if-n-lt10.false, ← c.digit-2.ensures) (then c.put_number-mid.ensures c.put-2.ensures)
