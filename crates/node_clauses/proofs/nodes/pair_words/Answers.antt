use native.Mathlib.Omega.{arith}
use lib.ListN.{length-set}
use Rattle.node_clauses.proofs.laws.Pairs.{pairs-stored, pairs-all}
use Rattle.node_clauses.proofs.nodes.pair_words.Goals as goal

pub opposite-requires : goal.opposite-requires
opposite-requires c = (c.requires.0 c.loop-i.i (omega arith)).small

pub bounds-block-at-in-loop-i : goal.bounds-block-at-in-loop-i
bounds-block-at-in-loop-i c = simp length-set (omega arith)

pub loop-i-preserved : goal.loop-i-preserved
loop-i-preserved c = let a = c.args in
    let l = c.loop-i in
    pairs-stored a.last a.lits.now l.block l.i _ (omega arith) (omega arith) c.opposite.ensures l.invariant

pub returns : goal.returns
returns c = pairs-all c.args.last c.args.lits.now c.loop-i.block c.loop-i.i (omega arith) c.loop-i.invariant
