use mathlib.Core.Path.{◌∙◌}
use Rattle.digits.proofs.Spelling.{two-twos}
use Rattle.digits.proofs.spelled.four_digits.Goals as goal

pub returns : goal.returns
returns c = c.four.ensures ∙ two-twos c.args.u
