-- What is printed lies in the buffer.
use Rattle.std.proofs.Common.{arith}
use Rattle.text_program.proofs.laws.Prints.{prints}
use Rattle.wcnf.proofs.main.Goals as goal

pub slice_bounds-out-end : goal.slice_bounds-out-end
slice_bounds-out-end c = (prints _ (omega arith) c.print_text-m.ensures).0

pub slice_bounds-write_all-end : goal.slice_bounds-write_all-end
slice_bounds-write_all-end c = (prints _ (omega arith) c.print_text-m.ensures).1
