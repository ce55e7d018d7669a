-- `instance::answer::read_in` meets its contract: the stores are long enough, and each case of `read` is a case of the answer.
use Rattle.number.proofs.laws.Sequence.{handed-on}
use Rattle.instance.proofs.laws.Laws.{accepted, accepted-answer, refused-answer}
use Rattle.instance.proofs.answer.read_in.Goals as goal

pub returns : goal.returns
returns c = let r = c.read.new in
    accepted-answer (accepted _ r.durations r.resources r.groups _ c.in_ok-h.ensures)

pub returns-in_err-h : goal.returns-in_err-h
returns-in_err-h c = rw (handed-on _ _ c.from_residual.ensures) (refused-answer _ c.in_err-h.ensures)
