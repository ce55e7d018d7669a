use Rattle.list_clauses.proofs.laws.Filled.{list_wrote}
use Rattle.list_clauses.proofs.list.write_list.Goals as goal

pub write_counted-requires : goal.write_counted-requires
write_counted-requires c = let p = c.requires in (p.literals, (p.few, (p.reached, p.room)))

pub returns : goal.returns
returns c = λ gs h e. list_wrote h e c.write_nodes-z.ensures c.write_counted.ensures
