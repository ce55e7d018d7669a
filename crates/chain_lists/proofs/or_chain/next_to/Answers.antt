-- `chain_lists::or_chain::next_to` meets its contract.
use Rattle.chain_lists.proofs.or_chain.next_to.Goals as goal

pub returns-then-up : goal.returns-then-up
returns-then-up c = rw c.if-up.true

pub returns-else-up : goal.returns-else-up
returns-else-up c = rw c.if-up.false c.saturating_sub.ensures
