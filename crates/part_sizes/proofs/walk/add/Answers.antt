-- `walk::add` meets its contract.
use Rattle.part_sizes.proofs.walk.add.Goals as goal

pub returns : goal.returns
returns c = rw (c.plus-formula.ensures, c.tail_add-tail.ensures)
