-- `counts::columns_of` meets its contract: by whether the weight is 0.
-- Assumes nothing.
use mathlib.Core.Path.{sym, ◌∙◌}
use native.Mathlib.Omega.{arith}
use Rattle.sizing.proofs.laws.Counts.{columns-hard, columns-soft}
use Rattle.sizing.proofs.counts.columns_of.Goals as goal

pub returns-then-weight-eq0 : goal.returns-then-weight-eq0
returns-then-weight-eq0 c = c.min.ensures ∙ sym (columns-hard c.args.weight c.args.hi c.args.n (omega arith))

pub returns : goal.returns
returns c = sym (columns-soft c.args.weight c.args.hi c.args.n (omega arith))
