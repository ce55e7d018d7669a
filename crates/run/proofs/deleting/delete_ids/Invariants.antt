use Rattle.std.proofs.Common.{◌≡◌}
use Rattle.reader.proofs.Loops.{Left}
use Rattle.run.specs.Turned.{deletion, deletes, id_deleted, ids_deleted}
use Rattle.run.proofs.Deletions.{to_delete}
use Rattle.run.proofs.deleting.delete_ids.Given as goal

abbrev pub invariant-loop-r : goal.invariant-loop-r
invariant-loop-r l =
    record {
      bytes_same : l.r.bytes.now ≡ l.proof;
      place_same : l.r.at ≡ l.d.at;
      left : Left deletes (id_deleted l.proof l.n) (to_delete l.proof) (ids_deleted l.proof l.n l.fn.m l.fn.rows) (deletion l.d l.rows);
    }

abbrev pub decreases-loop-r : goal.decreases-loop-r
decreases-loop-r l = to_delete l.proof (deletion l.d l.rows)
