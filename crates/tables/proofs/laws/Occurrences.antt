-- How often a member stands in rows; for the rows of events, how many events use a resource: laws.
use Prim.Native.Nat.{ℕ, zero, suc, ◌+◌, ◌≤◌, ◌<◌}
use mathlib.Core.Path.{◌≡◌, refl, ap, ◌∙◌}
use mathlib.Core.List.{List, [], ◌∷◌, ◌++◌}
use mathlib.Core.Bool.{Bool, true, false, cond, ◌||◌}
use native.Mathlib.Omega.{arith}
use borrow.Author.Tests.{ne_eqb, eqb-true}
use lib.Dec.{eqb}
use lib.ListN.{length, length-append}
use Rattle.scope.specs.Kinds.{Event, member, users_from, users}
use Rattle.parsing.specs.Numbers.{Ascending, none, more}
use Rattle.tables.specs.Rows.{row_at, rows, event_of, events_of}
use Rattle.tables.proofs.laws.Laws.{length-events}
use Rattle.tables.specs.Occurrences.{occurrences, occurrences_in}

-- an ascending list has no member up to where it starts, and each member once
pub below-once : (x n before : ℕ) (l : List ℕ) → Ascending n before l → x ≤ before → (occurrences x l ≡ 0) × (member x l ≡ false)
unfolding occurrences member
below-once x n before [] none h = (refl, refl)
below-once x n before (y ∷ ys) (more a b r) h =
    let later = below-once x n y ys r (omega arith) in
    let e = ne_eqb x y (λ p. omega arith) in
    (rw (e, later.0), rw (e, later.1))

once_by : (t : Bool) (x y : ℕ) (ys : List ℕ)
    → eqb x y ≡ t
    → (occurrences x ys ≡ cond (member x ys) 1 0)
    → (x ≡ y → (occurrences x ys ≡ 0) × (member x ys ≡ false))
    → cond t 1 0 + occurrences x ys ≡ cond (t || member x ys) 1 0
once_by true x y ys e h k = rw (k (eqb-true x y e)).0
once_by false x y ys e h k = rw h (omega arith)

pub occurrences-once : (x n before : ℕ) (l : List ℕ) → Ascending n before l → occurrences x l ≡ cond (member x l) 1 0
unfolding occurrences member
occurrences-once x n before [] none = refl
occurrences-once x n before (y ∷ ys) (more a b r) =
    once_by (eqb x y) x y ys refl (occurrences-once x n y ys r) (λ p. below-once x n y ys r (omega arith))

-- one event more, with its number
module _ (r : ℕ) (v : Event) where
  abbrev last_user : ℕ → List ℕ
  last_user e = cond (member r v.resources) (e ∷ []) []

  users_cons : (t : Bool) (e n : ℕ) (us vs : List ℕ)
      → us ≡ vs ++ last_user (suc e + n)
      → cond t (e ∷ us) us ≡ cond t (e ∷ vs) vs ++ last_user (e + suc n)
  users_cons t e n us vs h = let k : e + suc n ≡ suc e + n = omega arith in rw k (by t)
    where
      by : (t : Bool) → cond t (e ∷ us) us ≡ cond t (e ∷ vs) vs ++ last_user (suc e + n)
      by true = ap (λ (l : List ℕ). e ∷ l) h
      by false = h

  users_more : (e : ℕ) (xs : List Event) → users_from r e (xs ++ (v ∷ [])) ≡ users_from r e xs ++ last_user (e + length xs)
  unfolding users_from
  users_more e [] = let k : e + 0 ≡ e = omega arith in rw k
  users_more e (x ∷ xs) =
      users_cons (member r x.resources) e (length xs) (users_from r (suc e) (xs ++ (v ∷ []))) (users_from r (suc e) xs)
      (users_more (suc e) xs)

-- the users among one event more: event number n + 1
pub users-next : (r : ℕ) (d t : List ℕ) (n : ℕ)
    → users r (events_of d t (suc n)) ≡ users r (events_of d t n) ++ cond (member r (row_at t n)) (suc n ∷ []) []
unfolding events_of
users-next r d t n =
    let k : 1 + length (events_of d t n) ≡ suc n = omega (arith, length-events d t n) in
    users_more r (event_of d t n) 1 (events_of d t n) ∙ rw k

length-if : (t : Bool) (x : ℕ) → length (cond t (x ∷ []) []) ≡ cond t 1 0
length-if true x = refl
length-if false x = refl

pub occurrences_in-more : (x : ℕ) (rs : List (List ℕ)) (r : List ℕ)
    → occurrences_in x (rs ++ (r ∷ [])) ≡ occurrences_in x rs + occurrences x r
unfolding occurrences_in
occurrences_in-more x [] r = omega arith
occurrences_in-more x (q ∷ rs) r = omega (arith, occurrences_in-more x rs r)

-- the users of a resource are as many as its occurrences in the rows of the events, where these ascend
pub users-counted : (r R : ℕ) (d t : List ℕ) (n : ℕ)
    → ((g : ℕ) → g < n → Ascending R 0 (row_at t g))
    → length (users r (events_of d t n)) ≡ occurrences_in r (rows t n)
unfolding events_of rows users_from occurrences_in
users-counted r R d t zero h = refl
users-counted r R d t (suc n) h =
    let m = member r (row_at t n) in
    ap length (users-next r d t n)
    ∙ length-append (users r (events_of d t n)) (cond m (suc n ∷ []) [])
    ∙ omega (
      arith,
      length-if m (suc n),
      users-counted r R d t n (λ g k. h g (omega arith)),
      occurrences-once r R 0 (row_at t n) (h n (omega arith)),
      occurrences_in-more r (rows t n) (row_at t n),
    )
