-- `header::header_size` meets its contract: ten bytes beside the three numbers.
use native.Mathlib.Omega.{arith}
use Rattle.header.proofs.laws.Header.{header-length}
use Rattle.header.proofs.header_size.Goals as goal

pub returns : goal.returns
returns c = let a = c.args in
    (omega (arith, header-length a.variables a.clauses a.top), omega arith)
