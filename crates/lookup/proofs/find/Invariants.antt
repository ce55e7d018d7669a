use Rattle.std.proofs.Common.{length}
use Rattle.directory.specs.Directory.{rows_of}
use Rattle.lookup.specs.Lookup.{look_up}
use Rattle.lookup.proofs.Search.{Bounded, Left, ahead}
use Rattle.lookup.proofs.find.Given as goal

abbrev pub invariant-loop-s : goal.invariant-loop-s
invariant-loop-s l =
    record {
      bound : Bounded (length l.rows) l.s;
      left : Left (rows_of l.rows) l.id l.s (look_up l.rows l.n l.id);
    }

abbrev pub decreases-loop-s : goal.decreases-loop-s
decreases-loop-s l = ahead l.s
