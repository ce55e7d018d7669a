use borrow.Author.Rules.{rules}
use mathlib.Core.List.{map}
use Prim.Native.Nat.{◌-◌}
use Rattle.scope.specs.Cnf.{opp, pairs}
use Rattle.sink.proofs.AtOnce.{text_at_once}
use Rattle.node_clauses.proofs.nodes.write_pairs.Goals as goal

pub returns-then-fits : goal.returns-then-fits
returns-then-fits c = let a = c.args in
    rw c.placed.ensures
    (text_at_once a.job a.model.now a.s a.text.now a.words.now (pairs (map opp a.lits.now) (a.last - 2147483648)) _ _ (search rules) c.pairs_text.ensures)

pub returns : goal.returns
returns c = c.write_pair_blocks.ensures
