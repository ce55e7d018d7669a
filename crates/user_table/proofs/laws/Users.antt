-- The events that use a resource, by the rows of the table of the events' resources: laws.
use Prim.Native.Nat.{ℕ, zero, suc, ◌+◌, ◌≤◌}
use mathlib.Core.Path.{◌≡◌, refl, ◌∙◌}
use mathlib.Core.List.{List, [], ◌∷◌, ◌++◌}
use mathlib.Core.Bool.{Bool, true, false, cond}
use lib.ListN.{length, get_or, length-append}
use native.Mathlib.Omega.{arith}
use native.Mathlib.Nat.{add-zero}
use Rattle.scope.specs.Kinds.{Event, member, users_from, users}
use Rattle.parsing.specs.Each.{Each, each_none, each_more}
use Rattle.tables.specs.Rows.{row_at, events_of}
use Rattle.tables.proofs.laws.Laws.{length-events}
use Rattle.literals.proofs.laws.Words.{cond-append}
use Rattle.literals.specs.Variables.{Within}
use Rattle.literals.proofs.laws.Proper.{each_both}
use Rattle.user_table.specs.Users.{users_in}

-- one event more
users-last : (r e : ℕ) (xs : List Event) (v : Event)
    → users_from r e (xs ++ (v ∷ [])) ≡ users_from r e xs ++ cond (member r v.resources) ((e + length xs) ∷ []) []
unfolding users_from
users-last r e [] v = rw (add-zero e)
users-last r e (x ∷ xs) v =
    let k : suc e + length xs ≡ e + suc (length xs) = omega arith in
    let ih = rw k at (users-last r (suc e) xs v) in
    rw ih (cond-append (member r x.resources) (e ∷ users_from r (suc e) xs) (users_from r (suc e) xs) _)

-- they are the users of the resource among the events that the tables hold
pub users-in : (d t : List ℕ) (n r : ℕ) → users r (events_of d t n) ≡ users_in t n r
unfolding events_of users_from users_in
users-in d t zero r = refl
users-in d t (suc n) r =
    users-last r 1 (events_of d t n) (record { duration = get_or d n 0; resources = row_at t n })
    ∙ rw (users-in d t n r, length-events d t n, suc_one)
  where
    suc_one : 1 + n ≡ suc n
    suc_one = omega arith

-- no more than there are events, and numbers of events
pub users-most : (t : List ℕ) (n r : ℕ) → length (users_in t n r) ≤ n
unfolding users_in
users-most t zero r = omega arith
users-most t (suc n) r = simp length-append (by (member r (row_at t n)) (users-most t n r))
  where
    by : {k : ℕ} (b : Bool) → k ≤ n → k + length (cond b (suc n ∷ []) []) ≤ suc n
    by true h = omega arith
    by false h = omega arith

pub users-within : (t : List ℕ) (m n r : ℕ) → n ≤ m → Each (Within m) (users_in t n r)
unfolding users_in
users-within t m zero r h = each_none
users-within t m (suc n) r h = each_both (users-within t m n r (omega arith)) (by (member r (row_at t n)))
  where
    by : (b : Bool) → Each (Within m) (cond b (suc n ∷ []) [])
    by true = each_more {x = suc n} (record { low = omega arith; high = h }) each_none
    by false = each_none
