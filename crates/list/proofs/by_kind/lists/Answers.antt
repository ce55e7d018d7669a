-- `list::by_kind::lists` meets its contract.
use Rattle.list.proofs.laws.ListsOf.{clash-lists, one-list}
use Rattle.list.proofs.by_kind.lists.Goals as goal

pub returns-in-Clash : goal.returns-in-Clash
returns-in-Clash c = rw c.in-Clash.is (record { eq = λ dur us group l. clash-lists c.args.times dur us group _ })

pub returns-in_default : goal.returns-in_default
returns-in_default c = one-list c.args.kind c.args.times c.in_default.not-Clash
