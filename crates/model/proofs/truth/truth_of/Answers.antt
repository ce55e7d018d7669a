-- `truth_of` meets its contract: what a run in the mode Evaluate comes to.
use borrow.Author.Rules.{rules}
use mathlib.Core.Path.{refl}
use native.Mathlib.Omega.{arith}
use Rattle.model.proofs.laws.Truth.{truth-run}
use Rattle.model.proofs.truth.truth_of.Goals as goal

pub write_formula-requires : goal.write_formula-requires
write_formula-requires c = let p = c.requires in (record { accepted = p.0.accepted; stores = p.1; few = p.0.few }, omega arith)

pub returns : goal.returns
returns c = truth-run _ _ _ refl c.requires.0.numbers c.write_formula.ensures
