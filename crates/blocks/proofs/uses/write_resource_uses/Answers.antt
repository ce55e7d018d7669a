use mathlib.Core.Path.{refl, sym}
use native.Mathlib.Omega.{arith}
use lib.ListN.{length-set}
use lib.Seq.{length-take-le}
use Rattle.items.specs.Written.{left_start, left_turn, left_end}
use Rattle.blocks.proofs.ResourceUse.{uses_start, uses_turn, uses_end, use_few, use_long, use_wrote}
use borrow.Author.Rules.{rules}
use Rattle.blocks.proofs.uses.write_resource_uses.Goals as goal

pub loop-t-init : goal.loop-t-init
loop-t-init c = (refl, refl, refl, left_start (omega arith))

pub y_of_events-m-requires : goal.y_of_events-m-requires
y_of_events-m-requires c = let p = c.requires in (p.0, (omega arith, (p.1.1.0, omega arith)))

pub offset_bounds-buf-m : goal.offset_bounds-buf-m
offset_bounds-buf-m c = let us = c.args.events.now in
    let m = use_few c.args.times us c.loop-t.t c.y_of_events-m.ensures in
    search rules

pub bounds-buf-m : goal.bounds-buf-m
bounds-buf-m c = let us = c.args.events.now in
    omega (arith, use_few c.args.times us c.loop-t.t c.y_of_events-m.ensures, c.y_of_events-m.auto.out)

pub overflow_add-end : goal.overflow_add-end
overflow_add-end c = let us = c.args.events.now in
    omega (arith, use_few c.args.times us c.loop-t.t c.y_of_events-m.ensures)

pub slice_bounds-buf-end : goal.slice_bounds-buf-end
slice_bounds-buf-end c = let us = c.args.events.now in
    simp length-set (omega (arith, use_few c.args.times us c.loop-t.t c.y_of_events-m.ensures, c.y_of_events-m.auto.out))

pub slice_bounds-write_node-end : goal.slice_bounds-write_node-end
slice_bounds-write_node-end c = let us = c.args.events.now in
    sym (length-take-le _ _ (simp length-set (omega (arith, use_few c.args.times us c.loop-t.t c.y_of_events-m.ensures, c.y_of_events-m.auto.out))))

pub write_node-z-requires : goal.write_node-z-requires
write_node-z-requires c = let us = c.args.events.now in
    let l = c.loop-t in
    let h = c.y_of_events-m.ensures in
    use_long c.args.times us l.t h c.args.v c.requires.0 c.requires.1.1.0 c.loop-t-test.true (omega (arith, use_few c.args.times us l.t h, c.y_of_events-m.auto.out))

pub loop-t-preserved : goal.loop-t-preserved
loop-t-preserved c = let us = c.args.events.now in
    let l = c.loop-t in
    let h = c.y_of_events-m.ensures in
    let k = c.loop-t-test.true in (
      search rules,
      search rules,
      simp length-set (search rules),
      left_turn (uses_turn c.args.times us l.t k) l.invariant.3
          (use_wrote c.args.times us l.t h c.args.v c.requires.0 c.requires.1.1.0 k (omega (arith, use_few c.args.times us l.t h, c.y_of_events-m.auto.out)) (omega arith) c.write_node-z.ensures),
    )

pub returns : goal.returns
returns c = let a = c.args in
    let l = c.loop-t in
    rw (← (uses_start a.times a.events.now))
    (left_end (uses_end a.times a.events.now l.t c.loop-t-test.false) l.invariant.3).ran
