use mathlib.Core.Path.{refl, sym}
use Prim.Native.Nat.{◌-◌, ◌*◌, ◌≤◌}
use native.Mathlib.Omega.{arith}
use lib.ListN.{length}
use lib.Seq.{length-take-le}
use Rattle.sink.specs.Run.{todo_start, todo_turn, todo_done}
use Rattle.gates.proofs.laws.Blocks.{clauses-ran}
use Rattle.node_clauses.proofs.laws.Pairs.{pairs-turn, pairs_end, part_literals, part_length_lem, part_block}
use Rattle.node_clauses.proofs.nodes.write_pair_blocks.Goals as goal

pub loop-i-init : goal.loop-i-init
loop-i-init c = (omega arith, todo_start)

pub pair_words-requires : goal.pair_words-requires
pair_words-requires c = let i = c.loop-i.i in
    let e = c.min-e.ensures in
    (part_literals c.args.lits.now i _ c.requires.0 (omega arith) (omega arith), omega (arith, part_length_lem c.args.lits.now i c.min-e.result c.requires.0 (omega arith) (omega arith)))

pub slice_bounds-emit-end : goal.slice_bounds-emit-end
slice_bounds-emit-end c = sym (length-take-le _ _ (omega arith))

pub emit-z-requires : goal.emit-z-requires
emit-z-requires c = (part_block c.args.lits.now c.loop-i.i c.min-e.result c.requires.0 (omega arith) (omega arith) c.args.last _ _ c.requires.1 (omega arith) refl c.pair_words.ensures).whole

pub loop-i-preserved : goal.loop-i-preserved
loop-i-preserved c = let l = c.loop-i in
    let e = c.min-e.result in
    let t = c.loop-i-test.true in
    let le : l.i ≤ e = omega (arith, c.min-e.ensures, t) in
    let few : e ≤ length c.args.lits.now = omega (arith, c.min-e.ensures, t) in
    let m = part_block c.args.lits.now l.i e c.requires.0 le few c.args.last (2 * (e - l.i)) _ c.requires.1 (omega arith) refl c.pair_words.ensures in (
      few,
      todo_turn (pairs-turn (c.args.last - 2147483648) c.args.lits.now l.i e le) l.invariant.1 (clauses-ran m c.emit-z.ensures),
    )

pub returns : goal.returns
returns c = let a = c.args in
    let l = c.loop-i in
    todo_done (pairs_end (a.last - 2147483648) a.lits.now l.i (omega arith)) l.invariant.1
