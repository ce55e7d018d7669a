-- `plain_lists::busy::fill_busy` meets its contract.
use Rattle.plain_lists.proofs.laws.Plain.{busy-same}
use Rattle.plain_lists.proofs.busy.fill_busy.Goals as goal

pub fill_unavailable-requires : goal.fill_unavailable-requires
fill_unavailable-requires c = let p = c.requires in (p.0, ((p.1.0.0, p.1.0.1), p.1.1))

pub returns : goal.returns
returns c = let a = c.args in rw (busy-same a.head a.groups.now a.f.resource a.f.group a.f.lo a.f.hi) c.fill_unavailable.ensures
