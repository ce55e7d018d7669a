-- `node_lists::lengths::nodes_each` meets its contract.
use native.Mathlib.Omega.{arith}
use borrow.Author.Tests.{eq-eqb, ne_eqb}
use Rattle.node_lists.proofs.lengths.nodes_each.Goals as goal

pub returns-then-shortest-eq1 : goal.returns-then-shortest-eq1
returns-then-shortest-eq1 c = record { value = rw (eq-eqb _ _ c.if-shortest-eq1.true); lower_bound = (omega arith, omega arith) }

pub returns-else-shortest-eq1 : goal.returns-else-shortest-eq1
returns-else-shortest-eq1 c = record { value = rw (ne_eqb _ _ c.if-shortest-eq1.false); lower_bound = (omega arith, omega arith) }
