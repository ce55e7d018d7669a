-- `chain_lists::or_chain::store_chain` meets its contract.
use Rattle.chain_lists.specs.Gap.{stepping, more_gates, chain_gates}
use Rattle.chain_lists.proofs.Ahead.{ahead-start, ahead_more, ahead_all, ahead_rest}
use Rattle.chain_lists.proofs.Chain.{chain-none, chain-begins}
use Rattle.scope.specs.Cnf.{or}
use Rattle.literals.specs.Outputs.{every}
use native.Mathlib.Omega.{arith}
use mathlib.Core.Path.{refl}
use Prim.Native.Nat.{◌+◌, ◌-◌}
use Rattle.chain_lists.proofs.or_chain.store_chain.Goals as goal

pub returns-then-n-eq0 : goal.returns-then-n-eq0
returns-then-n-eq0 c = let a = c.args in
    let some = every 1 a.first a.some in
    let more = stepping a.up a.x (a.n - 1) in record { holds = ahead_all (ahead-start a.o (chain_gates a.n some more a.o) a.out.now a.at (omega arith)) (chain-none a.n some more a.o (omega arith)); upper_bound = omega arith }

pub returns : goal.returns
returns c = let a = c.args in
    let some = every 1 a.first a.some in
    let more = stepping a.up a.x (a.n - 1) in
    let s = c.store_some-k.ensures in
    let m = c.store_more.ensures in
    let h = ahead-start a.o (chain_gates a.n some more a.o) a.out.now a.at (omega arith) in record { holds = ahead_rest (ahead_more h (or some) (more_gates a.o more) (chain-begins a.n some more a.o (λ e. omega arith)) s.holds (a.o + 1) refl) m.holds; upper_bound = omega (arith, s.value, m.value) }
