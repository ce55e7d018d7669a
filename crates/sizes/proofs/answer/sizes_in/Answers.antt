-- `answer::sizes_in` meets its contract: the stores are long enough, and what `measure_bound` answers is handed on.
use Rattle.number.proofs.laws.Sequence.{handed-on}
use Rattle.sizes.proofs.laws.Measured.{sizes-answered, sizes-refused}
use Rattle.sizes.proofs.answer.sizes_in.Goals as goal

pub returns-in_err-z : goal.returns-in_err-z
returns-in_err-z c = rw (handed-on _ _ c.from_residual.ensures) (sizes-refused _ _ c.in_err-z.ensures)

pub returns : goal.returns
returns c = sizes-answered c.in_ok-z.ensures
