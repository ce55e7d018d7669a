use Rattle.gates.proofs.laws.Blocks.{short-block, gate-ran}
use Rattle.gates.proofs.clauses.write_short.Goals as goal

pub returns : goal.returns
returns c = let p = c.requires in
    gate-ran _ _ (short-block p.0.small p.1.small p.2 c.opposite-2.ensures c.opposite.ensures) c.emit.ensures
