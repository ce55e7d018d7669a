use mathlib.Core.Path.{refl}
use Prim.Native.Nat.{◌+◌}
use native.Mathlib.Omega.{arith}
use Rattle.scope.specs.Kinds.{up_to}
use Rattle.items.specs.Written.{left_start, left_turn, left_end}
use Rattle.items.proofs.laws.Numbers.{after_start, flat_turn, flat_end}
use Rattle.blocks.proofs.EventStart.{event_wrote}
use borrow.Author.Rules.{rules}
use Rattle.blocks.proofs.starts.write_all_starts.Invariants.{of_event}
use Rattle.blocks.proofs.starts.write_all_starts.Goals as goal

pub loop-e-init : goal.loop-e-init
loop-e-init c = (refl, refl, left_start refl)

pub write_event_starts-z-requires : goal.write_event_starts-z-requires
write_event_starts-z-requires c = (c.requires.0, omega arith)

pub loop-e-preserved : goal.loop-e-preserved
loop-e-preserved c = let a = c.args in
    let l = c.loop-e in (
      search rules,
      search rules,
      left_turn (flat_turn a.events l.e (of_event a.times a.starts) c.loop-e-test.true) l.invariant.2
          (event_wrote a.times a.starts (l.e + 1) (up_to a.times) 0 c.write_event_starts-z.ensures),
    )

pub returns : goal.returns
returns c = let a = c.args in
    let l = c.loop-e in
    rw (← (after_start a.events))
    (left_end (flat_end a.events l.e (of_event a.times a.starts) c.loop-e-test.false) l.invariant.2).ran
