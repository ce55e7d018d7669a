-- How many of the events that use a resource take a time: from the rows of resources, and by the definition of users: laws.
use Prim.Native.Nat.{ℕ, zero, suc, ◌+◌, ◌-◌, ◌*◌, ◌≤◌}
use mathlib.Core.Path.{◌≡◌, refl, sym, ◌∙◌}
use mathlib.Core.Bool.{Bool, true, false, cond}
use mathlib.Core.List.{List, [], ◌∷◌, ◌++◌, map}
use lib.ListN.{length, get_or}
use lib.Dec.{ltb}
use native.Mathlib.Omega.{arith}
use native.Mathlib.Nat.{add-zero, zero-add, add_assoc}
use borrow.Author.Tests.{lt-ltb}
use Rattle.scope.specs.Cnf.{bit}
use Rattle.scope.specs.Kinds.{Event, member, users_from, users}
use Rattle.scope.specs.Score.{trues, any}
use Rattle.tables.specs.Rows.{row_at, events_of}
use Rattle.tables.proofs.laws.Laws.{length-events}
use Rattle.resource_uses.specs.Takers.{takers}

one-most : (s t : Bool) → cond s (cond t 1 0) 0 ≤ 1
one-most true true = omega arith
one-most true false = omega arith
one-most false t = omega arith

pub takers-most : (T : ℕ) (b rs : List ℕ) (r t n : ℕ) → takers T b rs r t n ≤ n
unfolding takers
takers-most T b rs r t zero = omega arith
takers-most T b rs r t (suc n) = omega (arith, takers-most T b rs r t n, one-most (bit b (n * T + t)) (member r (row_at rs n)))

-- those that are true of some events, and one event more
module _ (f : ℕ → Bool) (r : ℕ) where
  one : (s : Bool) (e : ℕ) → trues (map f (cond s (e ∷ []) [])) ≡ cond (f e) (cond s 1 0) 0
  unfolding trues
  one true e = add-zero (cond (f e) 1 0)
  one false e = by (f e)
    where
      by : (t : Bool) → ◌≡◌ {A = ℕ} 0 (cond t 0 0)
      by true = refl
      by false = refl

  trues_cond : (s : Bool) (e : ℕ) (xs : List ℕ) → trues (map f (cond s (e ∷ xs) xs)) ≡ cond s (cond (f e) 1 0) 0 + trues (map f xs)
  unfolding trues
  trues_cond true e xs = refl
  trues_cond false e xs = sym (zero-add (trues (map f xs)))

  pub users_more : (e : ℕ) (es : List Event) (v : Event)
      → trues (map f (users_from r e (es ++ (v ∷ [])))) ≡ trues (map f (users_from r e es)) + cond (f (e + length es)) (cond (member r v.resources) 1 0) 0
  unfolding users_from trues
  users_more e [] v = rw (add-zero, zero-add) (one (member r v.resources) e)
  users_more e (w ∷ es) v =
      let k : suc e + length es ≡ e + suc (length es) = omega arith in
      rw (trues_cond (member r w.resources) e (users_from r (suc e) (es ++ (v ∷ []))), trues_cond (member r w.resources) e (users_from r (suc e) es), users_more (suc e) es v, add_assoc, k)

-- the same for events whose resources are in the rows
pub takers-users : (T : ℕ) (b d rs : List ℕ) (r t n : ℕ)
    → takers T b rs r t n ≡ trues (map (λ e. bit b ((e - 1) * T + t)) (users r (events_of d rs n)))
unfolding takers events_of users_from trues
takers-users T b d rs r t zero = refl
takers-users T b d rs r t (suc n) =
    let k : 1 + length (events_of d rs n) - 1 ≡ n = omega (arith, length-events d rs n) in
    sym (users_more (λ e. bit b ((e - 1) * T + t)) r 1 (events_of d rs n) (record { duration = get_or d n 0; resources = row_at rs n })
    ∙ rw (k, ← (takers-users T b d rs r t n)))

-- some are true where the count is above 0
pub any-trues : (bs : List Bool) → any bs ≡ ltb 0 (trues bs)
unfolding any trues
any-trues [] = refl
any-trues (true ∷ bs) = sym (lt-ltb 0 (1 + trues bs) (omega arith))
any-trues (false ∷ bs) = any-trues bs ∙ rw zero-add
