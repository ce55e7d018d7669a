use Rattle.std.proofs.Common.{◌≡◌, length}
use Rattle.reader.proofs.Loops.{Left}
use Rattle.run.specs.Turned.{state, turned, going, left, to_go, ended, at_first}
use Rattle.run.proofs.laws.Termination.{Past}
use Rattle.run.proofs.drive.drive_with.Given as goal

abbrev pub invariant-loop-rows : goal.invariant-loop-rows
invariant-loop-rows l =
    record {
      bytes_same : l.r.bytes.now ≡ l.proof;
      past : Past l.c l.m;
      onto : Left
          going
          (turned l.proof l.last)
          (to_go l.proof)
          (ended l.proof l.last (at_first l.n l.used l.fn.rows l.fn.words l.fn.marks l.fn.trail))
          (state l.c l.m l.rows l.words l.marks l.trail);
    }

abbrev pub decreases-loop-rows : goal.decreases-loop-rows
decreases-loop-rows l = left (length l.proof) l.c l.m
