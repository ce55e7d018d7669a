use Prim.Native.Nat.{◌-◌, ◌≤◌}
use mathlib.Core.Path.{◌≡◌, refl}
use native.Mathlib.Omega.{arith}
use lib.ListN.{length}
use Rattle.constraint.proofs.laws.Walk.{walk_refused}
use Rattle.sink.specs.World.{world, step}
use Rattle.instance.proofs.laws.Laws.{groups_most}
use Rattle.clauses.proofs.laws.Position.{ran-placed}
use Rattle.clauses.specs.Walked.{Walkable}
use Rattle.clauses.proofs.laws.Walked.{walkable-kept, Part, part_start, part_read, part_fits, part_room, part_next, part_end}
use borrow.Author.Rules.{rules}
use Rattle.clauses.proofs.walk.write_constraints.Goals as goal

pub loop-i-init : goal.loop-i-init
loop-i-init c = let p = c.requires in (refl, refl, p.1, p.0, part_start p.0, refl)

pub constraint_at-x-requires : goal.constraint_at-x-requires
constraint_at-x-requires c = let w = c.loop-i.invariant.3 in record { list_len = w.list_long; events_bound = omega (arith, w.accepted.sizes.events_high); groups_bound = groups_most w.accepted }

pub returns-in_default : goal.returns-in_default
returns-in_default c = let l = c.loop-i in
    let f = c.constraint_at-x in
    absurd (walk_refused l.invariant.4.walk c.loop-i-test.true f.new.list _ f.ensures c.in_default.is)

pub write_constraint-w-requires : goal.write_constraint-w-requires
write_constraint-w-requires c = let l = c.loop-i in
    let f = c.constraint_at-x in
    let k = walkable-kept l.invariant.3 f.auto.list in
    let n = part_read k l.invariant.4 f.new.list _ c.loop-i-test.true f.ensures c.in-Ok.is in record { fits = (part_fits k l.invariant.4 n, part_room k l.invariant.4 n); at_bound = (l.invariant.2, l.invariant.5) }

pub loop-i-preserved : goal.loop-i-preserved
loop-i-preserved c = let l = c.loop-i in
    let f = c.constraint_at-x in
    let g = c.write_constraint-w in
    let k = walkable-kept l.invariant.3 f.auto.list in
    let n = part_read k l.invariant.4 f.new.list _ c.loop-i-test.true f.ensures c.in-Ok.is in (
      search rules,
      search rules,
      ran-placed c.args.job c.args.model.now g.ensures.wrote.ran l.invariant.2,
      k,
      part_next k l.invariant.4 n g.ensures.wrote,
      search rules,
    )

pub returns : goal.returns
returns c = let l = c.loop-i in
    part_end l.invariant.3 l.invariant.4 c.loop-i-test.false
