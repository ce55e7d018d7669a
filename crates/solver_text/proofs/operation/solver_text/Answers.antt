-- `operation::solver_text` meets its contract: a store of zeros is filled, what is decoded is handed over, and the store is cleared.
use borrow.Author.Rules.{rules}
use mathlib.Core.Path.{◌≡◌}
use lib.ListN.{length, replicate}
use Rattle.solver_text.proofs.laws.Read.{zeros-again, read_into}
use Rattle.solver_text.proofs.operation.solver_text.Goals as goal

pub read_zeroed-e-requires : goal.read_zeroed-e-requires
read_zeroed-e-requires c =
    let zeros : c.fill.new.self ≡ replicate (length c.args.store.now) 0 = search rules in
    zeros-again _ _ zeros

pub returns : goal.returns
returns c =
    let zeros : c.fill-2.new.self ≡ replicate (length c.read_zeroed-e.new.store) 0 = search rules in
    read_into _ _ _ _ c.read_zeroed-e.result c.fill.auto.self c.read_zeroed-e.ensures c.hand_over.ensures c.read_zeroed-e.auto.store zeros
