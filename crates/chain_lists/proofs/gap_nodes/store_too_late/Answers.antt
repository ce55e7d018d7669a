use Rattle.chain_lists.specs.Gap.{late_gate}
use Rattle.chain_lists.proofs.Ahead.{ahead-start, ahead_more, ahead_all}
use Rattle.chain_lists.proofs.GapNodes.{time-step, time-end, late-times}
use Rattle.scope.specs.Kinds.{from}
use native.Mathlib.Omega.{arith}
use mathlib.Core.List.{map}
use mathlib.Core.Path.{◌≡◌, refl, ◌∙◌}
use Prim.Native.Nat.{◌+◌, ◌-◌}
use Rattle.chain_lists.proofs.gap_nodes.store_too_late.Goals as goal

pub loop-t-init : goal.loop-t-init
loop-t-init c = let a = c.args in
    let e : a.q + (1 - 1) ≡ a.q = omega arith in
    (omega arith, refl, rw (late-times a.lo a.hi a.late a.v a.q, e) (ahead-start a.q (map (late_gate a.lo a.hi a.v a.q) (from 1 (a.late + 1 - 1))) a.out.now a.at (omega arith)))

pub loop-t-preserved : goal.loop-t-preserved
loop-t-preserved c = let a = c.args in
    let l = c.loop-t in
    let s = c.store_neither-k.ensures in
    let g = late_gate a.lo a.hi a.v a.q in
    let left = a.late + 1 - (l.t + 1) in
    (omega (arith, s.value), c.out-1.given ∙ l.invariant.1, ahead_more l.invariant.2 (g l.t) (map g (from (l.t + 1) left)) (time-step g l.t (a.late + 1 - l.t) left (omega arith)) (rw c.saturating_sub.ensures at s.holds) (a.q + (l.t + 1 - 1)) (omega arith))

pub returns : goal.returns
returns c = let a = c.args in
    let l = c.loop-t in record { holds = ahead_all l.invariant.2 (time-end (late_gate a.lo a.hi a.v a.q) l.t (a.late + 1 - l.t) (omega arith)); value = omega arith }
