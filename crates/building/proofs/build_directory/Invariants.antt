use Rattle.std.proofs.Common.{◌≡◌, ◌≤◌, ◌-◌, length}
use Rattle.building.proofs.Building.{Building}
use Rattle.building.proofs.build_directory.Given as goal

abbrev pub invariant-loop-first : goal.invariant-loop-first
invariant-loop-first l =
    record {
      words_long : length l.words ≡ length l.fn.words;
      few : l.n ≤ l.first;
      near : l.first ≤ l.end;
      built : Building l.fn.words l.words l.fn.rows l.rows l.end l.n l.first;
    }

abbrev pub decreases-loop-first : goal.decreases-loop-first
decreases-loop-first l = l.end - l.first
