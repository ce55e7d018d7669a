-- The text keeps its length.
use Rattle.std.proofs.Common.{◌≡◌, length}
use Rattle.cases.proofs.line_fields.bytes_at.Given as goal

abbrev pub invariant-loop-n : goal.invariant-loop-n
invariant-loop-n l = length l.text ≡ length l.initial.text
