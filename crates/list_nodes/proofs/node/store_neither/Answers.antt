-- `list_nodes::node::store_neither` meets its contract.
use Rattle.list_nodes.proofs.Nodes.{neither_words}
use Rattle.literals.proofs.laws.Words.{holds_as}
use lib.ListN.{take}
use Rattle.list_nodes.proofs.node.store_neither.Goals as goal

pub returns : goal.returns
returns c = let a = c.args in
    let q = c.store_two.ensures in record { holds = holds_as (neither_words (take a.at a.out.now) a.x a.y a.o) q.holds; value = q.value }
