-- The kind that all its fields make, where the last number that was read is in d, and its list.
use Rattle.std.specs.Prelude.{ℕ, cond, List, eqb}
use Rattle.scope.specs.Kinds.{Kind, clash, unavailable, preferred, split, spread, busy, cluster, idle, distribute, lengths, precedence}
use Rattle.fields.specs.declared.flat.Flat.{Flat}

unfoldable pub kind_from : ℕ → Flat → List ℕ → Kind
kind_from k w l =
    cond (eqb k 1) (clash w.d)
    (cond (eqb k 2) (unavailable w.c w.d)
    (cond (eqb k 3) (preferred w.c w.d)
    (cond (eqb k 4) (split w.b w.c w.d)
    (cond (eqb k 5) (spread l w.b w.c w.d)
    (cond (eqb k 6) (busy w.a w.b w.c w.d)
    (cond (eqb k 7) (cluster w.b l w.c w.d)
    (cond (eqb k 8) (idle w.b l w.c w.d)
    (cond (eqb k 9) (distribute w.a w.b w.c w.d)
    (cond (eqb k 10) (lengths w.b w.c w.d) (precedence w.a w.b w.c w.d))))))))))
