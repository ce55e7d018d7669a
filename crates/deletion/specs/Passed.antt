-- An id to delete is passed, with the row that was found for it.
use Rattle.std.specs.Prelude.{cond, ℕ, eqb}
use Rattle.scope.specs.Parsed.{Parsed, got, refused}
use Rattle.scope.specs.declared.refusal.Reason.{Reason}
use Rattle.directory.specs.declared.Row.{Row}
use Rattle.hints.specs.declared.machine.Phase.TheVariants.{Next, Delete, Refused}
use Rattle.hints.specs.declared.machine.Machine.{Machine}
use Rattle.hints.specs.Machine.{stopped, onward}

-- by the number that was read at the machine's place
abbrev pub id_on : Machine → Parsed ℕ → Machine
id_on m (refused k v) = stopped (Refused Reason.BadStep) m.at
id_on m (got id next) = onward Delete Next id next 0

-- 15 where the row is not live
unfoldable pub passed_id : Parsed ℕ → Machine → Row → Machine
passed_id x m row = cond (eqb row.live 0) (stopped (Refused Reason.NotLive) m.at) (id_on m x)
