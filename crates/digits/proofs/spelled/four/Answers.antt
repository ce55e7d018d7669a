use Rattle.digits.proofs.Spelling.{four-sum}
use Rattle.digits.proofs.spelled.four.Goals as goal

pub returns : goal.returns
returns c = four-sum c.args.a c.args.b c.args.c c.args.d c.requires.0 c.requires.1 c.requires.2 c.requires.3
