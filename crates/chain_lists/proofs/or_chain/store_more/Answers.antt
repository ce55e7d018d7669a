use Rattle.chain_lists.specs.Gap.{next_to, stepping, more_gates}
use Rattle.chain_lists.proofs.Ahead.{ahead-start, ahead_more, ahead_all}
use Rattle.chain_lists.proofs.Chain.{more-step, more-end, next-most}
use Rattle.scope.specs.Cnf.{pos, or}
use native.Mathlib.Omega.{arith}
use mathlib.Core.List.{[], ◌∷◌}
use mathlib.Core.Path.{◌≡◌, refl, ◌∙◌}
use Prim.Native.Nat.{◌+◌, ◌-◌}
use Rattle.chain_lists.proofs.or_chain.store_more.Goals as goal

pub loop-q-init : goal.loop-q-init
loop-q-init c = let a = c.args in
    let e : a.p + a.n - a.p ≡ a.n = omega arith in
    (omega arith, omega arith, refl, rw e (ahead-start (a.p + 1) (more_gates a.p (stepping a.up a.x a.n)) a.out.now a.at (omega arith)))

pub loop-q-preserved : goal.loop-q-preserved
loop-q-preserved c = let a = c.args in
    let l = c.loop-q in
    let s = c.store_either-k.ensures in
    let n = c.next_to-y in
    let left = a.p + a.n - (l.q + 1) in
    let more = more_gates (l.q + 1) (stepping a.up (next_to a.up l.y) left) in
    (omega (arith, next-most a.up l.y n.result n.ensures), omega (arith, s.value), c.out-1.given ∙ l.invariant.2, rw n.ensures (ahead_more l.invariant.3 (or (pos l.y ∷ pos l.q ∷ [])) more (more-step a.up l.y l.q (a.p + a.n - l.q) left (omega arith)) s.holds (l.q + 1 + 1) refl))

pub returns : goal.returns
returns c = let a = c.args in
    let l = c.loop-q in record { holds = ahead_all l.invariant.3 (more-end a.up l.y l.q (a.p + a.n - l.q) (omega arith)); value = omega arith }
