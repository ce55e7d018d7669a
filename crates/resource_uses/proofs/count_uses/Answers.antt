use mathlib.Core.Path.{◌∙◌}
use native.Mathlib.Omega.{arith}
use borrow.Author.Rules.{rules}
use Rattle.resource_uses.proofs.laws.Uses.{uses-none, uses_more, uses_addable}
use Rattle.resource_uses.proofs.count_uses.Goals as goal

pub loop-e-init : goal.loop-e-init
loop-e-init c = search (rules, uses-none)

pub add_event-requires : goal.add_event-requires
add_event-requires c = search (rules, uses_addable)

pub loop-e-preserved : goal.loop-e-preserved
loop-e-preserved c = let more = c.add_event.ensures in
    (more.kept ∙ c.loop-e.invariant.0, uses_more c.args.times c.args.bytes.now c.args.resources.now c.loop-e.e c.loop-e.uses c.loop-e.invariant.1 (c.requires.0.ascending c.loop-e.e (omega arith)) more)
