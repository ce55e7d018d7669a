-- `formula::write_formula` meets its contract.
use Prim.Native.Nat.{ℕ}
use lib.ListN.{length-replicate}
use Rattle.instance.proofs.laws.Ready.{zeros}
use Rattle.clauses.proofs.laws.Position.{ran-placed}
use Rattle.fitting.proofs.laws.Known.{known_rows}
use Rattle.clauses.proofs.laws.Whole.{whole_begun, whole_walkable, whole_ran}
use borrow.Author.Rules.{rules}
use Rattle.clauses.proofs.formula.write_formula.Goals as goal

pub fill_users-requires : goal.fill_users-requires
fill_users-requires c = let w = c.requires.0 in record { events_bound = w.accepted.sizes.events_high; event_rows = known_rows w.accepted w.stores.tables.resources_long; users_len = length-replicate {A = ℕ} 102500 0; by_index = λ x. zeros 102500 x }

pub write_before-b-requires : goal.write_before-b-requires
write_before-b-requires c = whole_begun c.requires.0 c.fill_users.ensures

pub write_constraints-requires : goal.write_constraints-requires
write_constraints-requires c = let b = c.write_before-b.ensures in
    (whole_walkable c.requires.0 c.fill_users.ensures b, ran-placed c.args.job c.args.model.now b.ran c.requires.1)

pub returns : goal.returns
returns c = whole_ran c.requires.0 c.fill_users.ensures c.write_before-b.ensures c.write_constraints.ensures
