use mathlib.Core.Path.{sym, ◌∙◌}
use Prim.Native.Nat.{◌-◌, ◌<◌}
use native.Mathlib.Omega.{arith}
use lib.ListN.{length, get_or}
use lib.Seq.{length-take-le}
use Rattle.sink.proofs.laws.Skipped.{skipped}
use Rattle.node_clauses.specs.LongClauses.{node_clauses}
use Rattle.node_clauses.proofs.laws.LongClauses.{long_others, long-ran}
use Rattle.node_clauses.proofs.laws.Evaluate.{node-passed}
use Rattle.node_clauses.proofs.nodes.write_node.Goals as goal

pub returns-then-skips : goal.returns-then-skips
returns-then-skips c = let a = c.args in
    skipped a.job a.model.now (node_clauses a.clause.now) (sym c.skips.ensures ∙ c.if-skips.true)

pub slice_bounds-node_right-end : goal.slice_bounds-node_right-end
slice_bounds-node_right-end c = sym (length-take-le _ _ (omega arith))

pub returns-then-node_right : goal.returns-then-node_right
returns-then-node_right c = let ws = c.args.clause.now in
    let b : get_or ws (length ws - 1) 0 < 4294967296 = omega (arith, c.type_inv.clause (length ws - 1)) in
    node-passed c.args.job c.args.model.now c.requires b (sym c.if-evaluates.true ∙ c.evaluates.ensures) (sym c.if-node_right.true ∙ c.node_right.ensures) c.passed.ensures

pub opposite-last-requires : goal.opposite-last-requires
opposite-last-requires c = omega (arith, c.type_inv.clause (length c.args.clause.now - 1))

pub overflow_add-last : goal.overflow_add-last
overflow_add-last c = omega (arith, c.type_inv.clause (length c.args.clause.now - 1), c.opposite-last.ensures)

pub slice_bounds-write_pairs-end : goal.slice_bounds-write_pairs-end
slice_bounds-write_pairs-end c = sym (length-take-le _ _ (omega arith))

pub write_pairs-z-requires : goal.write_pairs-z-requires
write_pairs-z-requires c = (long_others c.requires, omega arith)

pub returns : goal.returns
returns c = long-ran c.args.clause.now c.opposite-last.ensures c.write_pairs-z.ensures c.write_long.ensures
