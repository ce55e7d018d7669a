use Rattle.chain_lists.specs.Gap.{soon_gate}
use Rattle.chain_lists.proofs.Ahead.{ahead-start, ahead_more, ahead_all}
use Rattle.chain_lists.proofs.GapNodes.{time-step, time-end, soon-times, soon-words}
use Rattle.scope.specs.Kinds.{from}
use Rattle.literals.proofs.laws.Words.{holds_as}
use lib.ListN.{take}
use native.Mathlib.Omega.{arith}
use mathlib.Core.List.{map}
use mathlib.Core.Path.{◌≡◌, refl, ◌∙◌}
use Prim.Native.Nat.{◌+◌, ◌-◌}
use Rattle.chain_lists.proofs.gap_nodes.store_too_soon.Goals as goal

pub loop-t-init : goal.loop-t-init
loop-t-init c = let a = c.args in
    let z : a.v + a.early + (2 - 2) ≡ a.v + a.early = omega arith in
    (omega arith, omega arith, refl, rw (soon-times a.y a.early a.v, z) (ahead-start (a.v + a.early) (map (soon_gate a.y a.v) (from 2 (a.early + 1 - 2))) a.out.now a.at (omega arith)))

pub loop-t-preserved : goal.loop-t-preserved
loop-t-preserved c = let a = c.args in
    let l = c.loop-t in
    let s = c.store_with-k.ensures in
    let g = soon_gate a.y a.v in
    let left = a.early + 1 - (l.t + 1) in
    let h = holds_as (soon-words (take l.k l.out) a.y a.v l.t (a.v + a.early + (l.t - 2))) s.holds in
    (omega arith, omega (arith, s.value), c.out-1.given ∙ l.invariant.2, ahead_more l.invariant.3 (g l.t) (map g (from (l.t + 1) left)) (time-step g l.t (a.early + 1 - l.t) left (omega arith)) h _ (omega arith))

pub returns : goal.returns
returns c = let a = c.args in
    let l = c.loop-t in record { holds = ahead_all l.invariant.3 (time-end (soon_gate a.y a.v) l.t (a.early + 1 - l.t) (omega arith)); upper_bound = omega arith }
