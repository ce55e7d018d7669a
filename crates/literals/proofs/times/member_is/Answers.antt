-- `literals::times::member_is` meets its contract.
use native.Mathlib.Omega.{arith}
use Rattle.tables.specs.Rows.{row_at}
use Rattle.literals.proofs.laws.Words.{with_past, with_member}
use Rattle.literals.proofs.times.member_is.Goals as goal

pub returns-then-row_len-k : goal.returns-then-row_len-k
returns-then-row_len-k c = rw (with_past c.args.t (row_at c.args.groups.now c.args.row) c.args.k (omega (arith, c.row_len.ensures)))

pub returns : goal.returns
returns c = rw (with_member c.args.t (row_at c.args.groups.now c.args.row) c.args.k c.row_member.result (omega (arith, c.row_len.ensures)) c.row_member.ensures, c.from.ensures)
