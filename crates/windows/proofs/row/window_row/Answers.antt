use Rattle.std.proofs.Common.{◌≡◌, Bool, true, false, cond, refl, arith}
use mir.Val.{bool_byte}
use Rattle.windows.proofs.laws.Row.{shown_start, shown_more, shown_pass, shown_done}
use Rattle.windows.proofs.row.window_row.Goals as goal
use Rattle.windows.proofs.row.window_row.Goals.{in-Some, in_default}

as_number : (b : Bool) → bool_byte b ≡ cond b 1 0
as_number true = refl
as_number false = refl

pub loop-k-init : goal.loop-k-init
loop-k-init c = shown_start _ _ _ c.requires.row_len

pub overflow_cast-row : goal.overflow_cast-row
overflow_cast-row c = omega (arith, c.loop-k.invariant.few)

pub returns : goal.returns
returns c = let l = c.loop-k in
    shown_done _ _ _ l.invariant c.requires.day_len (omega arith) (omega (arith, l.invariant.few))

pub loop-k-preserved : goal.loop-k-preserved
loop-k-preserved c = let l = c.loop-k in let day_len = c.requires.day_len in
    elim c.match-day-k.branch [
      | in-Some w ↦ rw (w.row-is, w.n-is, w.from-n.ensures, as_number w.fits.result, w.fits.ensures) (shown_more _ _ _ l.invariant day_len c.loop-k-test.true w.in-Some.is)
      | in_default w ↦ rw (w.row-is, w.n-is) (shown_pass _ _ _ l.invariant day_len c.loop-k-test.true w.in_default.is)
    ]
