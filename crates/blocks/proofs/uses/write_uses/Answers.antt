-- `blocks::uses::write_uses` meets its contract.
use mathlib.Core.Path.{sym, ◌∙◌}
use mathlib.Core.List.{flat_map}
use Rattle.scope.specs.Kinds.{up_to}
use Rattle.user_table.specs.Filled.{users_at}
use Rattle.literals.specs.Numbered.{use_gates}
use Rattle.blocks.proofs.Passed.{gates_passed}
use Rattle.blocks.proofs.uses.write_uses.Goals as goal

pub returns-then-skips : goal.returns-then-skips
returns-then-skips c = let a = c.args in
    gates_passed a.job a.model.now (sym c.skips.ensures ∙ c.if-skips.true) a.v (flat_map (λ r. use_gates a.times (users_at a.users.now r)) (up_to a.count))

pub returns : goal.returns
returns c = c.write_all_uses.ensures
