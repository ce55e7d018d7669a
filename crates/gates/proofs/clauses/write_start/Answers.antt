use Rattle.gates.proofs.laws.Blocks.{clauses-ran}
use Rattle.gates.proofs.laws.Units.{first_block, later-block}
use Rattle.gates.proofs.clauses.write_start.Goals as goal

pub returns-then-first : goal.returns-then-first
returns-then-first c = rw c.if-first.true (clauses-ran (first_block c.requires.1 c.requires.2) c.emit.ensures)

pub returns : goal.returns
returns c = rw c.if-first.false (clauses-ran (later-block c.requires.1 c.requires.2) c.emit-2.ensures)
