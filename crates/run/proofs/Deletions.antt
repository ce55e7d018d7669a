-- The loop that deletes ids: what is left falls.
use mathlib.Core.Path.{◌≡◌, refl}
use mathlib.Core.Bool.{Bool, true, false, cond}
use mathlib.Core.List.{List}
use Prim.Native.Nat.{ℕ, zero, suc, ◌-◌, ◌<◌}
use native.Mathlib.Omega.{arith}
use lib.Dec.{eqb}
use lib.ListN.{length}
use Rattle.scope.specs.Parsed.{Parsed, got, refused}
use Rattle.scope.specs.Number.{number}
use Rattle.scope.specs.declared.refusal.Reason.{Reason}
use Rattle.directory.specs.declared.Row.{Row}
use Rattle.lookup.specs.Lookup.{look_up}
use Rattle.reader.proofs.Loops.{nearer}
use Rattle.hints.specs.declared.machine.Phase.TheVariants.{Refused}
use Rattle.hints.specs.declared.machine.Machine.{Machine}
use Rattle.hints.specs.Machine.{turn_of, stopped, onward}
use Rattle.deletion.specs.Passed.{id_on, passed_id}
use Rattle.run.specs.Turned.{Deletion, is_delete, deletes, id_deleted}

module _ (s : List ℕ) where
  -- what is left of a machine that deletes
  abbrev ahead : Machine → ℕ
  ahead m = cond (is_delete (turn_of m.phase)) (suc (length s - m.at)) 0

  abbrev pub to_delete : Deletion → ℕ
  to_delete d = ahead d.machine

  id_less : (m : Machine) (x : Parsed ℕ) → number s m.at ≡ x → ahead (id_on m x) < suc (length s - m.at)
  unfolding onward
  id_less m (refused k v) e = omega arith
  id_less m (got zero next) e = omega arith
  id_less m (got (suc id) next) e = nearer s m.at (suc id) next e

  pass_less : (m : Machine) (row : Row) → ahead (passed_id (number s m.at) m row) < suc (length s - m.at)
  unfolding passed_id
  pass_less m row = go (eqb row.live 0)
    where
      go : (t : Bool) → ahead (cond t (stopped (Refused Reason.NotLive) m.at) (id_on m (number s m.at))) < suc (length s - m.at)
      go true = omega arith
      go false = id_less m (number s m.at) refl

  pub delete_falls : (n : ℕ) (d : Deletion) → deletes d ≡ true → to_delete (id_deleted s n d) < to_delete d
  unfolding id_deleted
  delete_falls n d e = rw e (pass_less d.machine (look_up d.rows n d.machine.want).hit)
