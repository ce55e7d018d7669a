use mathlib.Core.Path.{refl, sym}
use Prim.Native.Nat.{◌+◌}
use native.Mathlib.Omega.{arith}
use Rattle.items.proofs.laws.Held.{held-length, front_literals}
use Rattle.items.proofs.laws.Lists.{plain_room, plain_wrote, lists_turn, lists_room, lists-end}
use Rattle.items.specs.Written.{left_start, left_room, left_end}
use Rattle.blocks.proofs.EventDuration.{ys-length, ys-proper, durations_turn, durations_end}
use borrow.Author.Rules.{rules}
use Rattle.blocks.proofs.durations.write_durations.Goals as goal

pub loop-e-init : goal.loop-e-init
loop-e-init c = (refl, refl, refl, c.requires.1.some, left_start refl)

pub y_of_event-n-requires : goal.y_of_event-n-requires
y_of_event-n-requires c = let p = c.requires.0 in (p.times, (record { low = omega arith; high = omega (arith, p.events) }, omega (arith, p.times)))

pub overflow_cast-d : goal.overflow_cast-d
overflow_cast-d c = omega (arith, c.type_inv.durations c.loop-e.e)

pub slice_bounds-buf-end : goal.slice_bounds-buf-end
slice_bounds-buf-end c = omega (arith, c.y_of_event-n.ensures.count, ys-length c.args.times (c.loop-e.e + 1), c.requires.0.times)

pub slice_bounds-write_counted-end : goal.slice_bounds-write_counted-end
slice_bounds-write_counted-end c = sym (held-length c.y_of_event-n.ensures)

pub write_counted-w-requires : goal.write_counted-w-requires
write_counted-w-requires c = let a = c.args in
    let p = c.requires in
    let l = c.loop-e in
    let h = c.y_of_event-n.ensures in
    let T = p.0.times in
    let n = ys-length a.times (l.e + 1) in
    let turn = durations_turn a.times a.events a.durations.now l.e p.0.room c.loop-e-test.true in
    let room = left_room l.invariant.3 l.invariant.4 p.1 in (
      front_literals h (ys-proper a.times (l.e + 1) T (record { low = omega arith; high = omega (arith, p.0.events) })) (omega (arith, h.count)),
      (
        omega (arith, held-length h, h.count),
        (omega (arith, held-length h, h.count, p.0.each l.e c.loop-e-test.true), plain_room 0 _ _ l.next h (lists_room 0 l.next turn room)),
      ),
    )

pub loop-e-preserved : goal.loop-e-preserved
loop-e-preserved c = let a = c.args in
    let p = c.requires in
    let l = c.loop-e in
    let turn = durations_turn a.times a.events a.durations.now l.e p.0.room c.loop-e-test.true in
    let w = c.write_counted-w.ensures in (
      search rules,
      search rules,
      search rules,
      omega (arith, w.next, l.invariant.3),
      lists_turn 0 l.next turn l.invariant.4 (plain_wrote 0 _ _ l.next c.y_of_event-n.ensures w),
    )

pub returns : goal.returns
returns c = let a = c.args in
    let l = c.loop-e in
    left_end (lists-end 0 l.next (durations_end a.times a.events a.durations.now l.e c.requires.0.room c.loop-e-test.false)) l.invariant.4
