-- `node_lists::distribute::store_start` meets its contract.
use Rattle.node_lists.proofs.LengthNodes.{start_within, start_beyond}
use Rattle.scope.specs.Cnf.{Gate}
use Rattle.literals.specs.NodeWords.{node_words}
use Rattle.literals.proofs.laws.Words.{holds_as}
use lib.ListN.{take}
use native.Mathlib.Omega.{arith}
use mathlib.Core.List.{◌++◌}
use mathlib.Core.Path.{ap}
use Rattle.node_lists.proofs.distribute.store_start.Goals as goal

pub returns-then-t-n : goal.returns-then-t-n
returns-then-t-n c = let a = c.args in
    let p = c.requires in
    let q = c.store_until.ensures in record { holds = holds_as (ap (λ (g : Gate). take a.at a.out.now ++ node_words g a.o) (start_within a.times a.n a.s a.v a.t p.1.0.low p.1.1.0.low (omega (arith, c.if-t-n.true)))) q.holds; upper_bound = omega (arith, q.value, p.0.high, p.1.0.high) }

pub returns : goal.returns
returns c = let a = c.args in
    let p = c.requires in
    let q = c.store_with.ensures in record { holds = holds_as (ap (λ (g : Gate). take a.at a.out.now ++ node_words g a.o) (start_beyond a.times a.n a.s a.v a.t p.1.0.low p.1.1.0.low (omega (arith, c.if-t-n.false)))) q.holds; upper_bound = omega (arith, q.value, p.0.high) }
