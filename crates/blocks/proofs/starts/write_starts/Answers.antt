-- `blocks::starts::write_starts` meets its contract.
use mathlib.Core.Path.{sym, ◌∙◌}
use Rattle.blocks.proofs.Passed.{starts_passed}
use Rattle.blocks.proofs.starts.write_starts.Goals as goal

pub returns-then-skips : goal.returns-then-skips
returns-then-skips c = let a = c.args in
    starts_passed a.job a.model.now (sym c.skips.ensures ∙ c.if-skips.true) a.times a.starts a.events

pub returns : goal.returns
returns c = c.write_all_starts.ensures
