-- `literals::variable::literal` meets its contract.
use Rattle.literals.specs.Variables.{literal_at}
use borrow.Author.Rules.{rules}
use Rattle.literals.proofs.variable.literal.Goals as goal

pub returns : goal.returns
unfolding literal_at
returns c = search rules
