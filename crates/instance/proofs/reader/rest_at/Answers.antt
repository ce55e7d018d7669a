-- `instance::reader::rest_at` meets its contract: the count of constraints and the walk over them.
use Rattle.number.proofs.laws.Sequence.{handed-on}
use Rattle.instance.proofs.laws.Checked.{rest_uncounted, rest_stopped, rest_accepted}
use Rattle.instance.proofs.reader.rest_at.Goals as goal

pub returns-in_err-constraints : goal.returns-in_err-constraints
returns-in_err-constraints c = λ d a. rw (handed-on _ _ c.from_residual.ensures) (rest_uncounted _ d _ _ _ a c.in_err-constraints.ensures)

pub constraints_whole-requires : goal.constraints_whole-requires
constraints_whole-requires c = c.requires _ _

pub returns : goal.returns
returns c = λ d a. rest_accepted _ d _ _ _ a c.in_ok-constraints.ensures c.in_ok-constraints_whole.ensures

pub returns-in_err-constraints_whole : goal.returns-in_err-constraints_whole
returns-in_err-constraints_whole c = λ d a.
    rw (handed-on _ _ c.from_residual-in_err-constraints_whole.ensures) (rest_stopped _ d _ _ _ a c.in_ok-constraints.ensures c.in_err-constraints_whole.ensures)
