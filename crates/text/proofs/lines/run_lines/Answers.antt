-- `lines::run_lines` meets its contract: it is the run over the formula, of which position and text are kept.
use mathlib.Core.Path.{ap}
use Rattle.text.specs.Lines.{out_of}
use borrow.Author.Rules.{rules}
use Rattle.text.proofs.lines.run_lines.Goals as goal

pub write_formula-s-requires : goal.write_formula-s-requires
write_formula-s-requires c = c.requires

pub returns : goal.returns
returns c = record { eq = ap out_of c.write_formula-s.ensures.eq }
