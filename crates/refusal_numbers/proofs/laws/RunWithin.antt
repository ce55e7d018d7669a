-- The plain run gives 14 to 18.
use Prim.Native.Nat.{ℕ, zero, suc, ◌+◌}
use mathlib.Core.Path.{◌≡◌}
use mathlib.Core.Bool.{true}
use mathlib.Core.List.{List, [], ◌∷◌}
use mathlib.Core.Option.{Option, none, some}
use lib.Dec.{leb, ltb}
use lib.ListN.{length}
use Rattle.scope.specs.Parsed.{Parsed, got, refused, Answer, answered, refusal, then}
use Rattle.scope.specs.Steps.{Step, add, delete, step_at, well_formed, Live, either, deleted, Shown, follows, not_live, breaks, hints_show}
use Rattle.scope.specs.PlainRun.{State, Limits, with_live, fits, by_shown, perform, formed, after, run, start, plain_run}
use Rattle.refusal_numbers.proofs.laws.Within.{one_of, Within, accepts, refuses, given_if}

pub record Proofs (ns : List ℕ) : Type 0 where
  pub e14 : one_of ns 14 ≡ true
  pub e15 : one_of ns 15 ≡ true
  pub e16 : one_of ns 16 ≡ true
  pub e17 : one_of ns 17 ≡ true
  pub e18 : one_of ns 18 ≡ true

-- one operation after another
pub then-within : {ns : List ℕ} {A B : Type 0} {a : Answer A} {f : A → Answer B} → Within ns a → ((x : A) → Within ns (f x)) → Within ns (then a f)
then-within accepts h = h _
then-within (refuses e) h = refuses e

module _ {ns : List ℕ} (p : Proofs ns) where
  shown : (s : Shown) (lim : Limits) (st : State) (n id : ℕ) (c : List ℕ) → Within ns (by_shown s lim st n id c)
  shown not_live lim st n id c = refuses p.e15
  shown breaks lim st n id c = refuses p.e16
  shown follows lim st n id [] = accepts
  shown follows lim st n id (l ∷ ls) = given_if (fits lim st (l ∷ ls)) 17 n p.e17 accepts

  performed : (lim : Limits) (st : State) (n : ℕ) (x : Step) → Within ns (perform lim st n x)
  unfolding perform
  performed lim st n (add id c hs) = shown (hints_show st.live c hs) lim st n id c
  performed lim st n (delete ids) = go (deleted st.live ids)
    where
      go : (o : Option Live) → Within ns (either o (refusal 15 n) (λ L. answered (some (with_live st L))))
      go none = refuses p.e15
      go (some L) = accepts

  stepped : (n : ℕ) (s : List ℕ) (next : ℕ) (o : Option State) {go : State → Answer ℕ} → ((st : State) → Within ns (go st))
      → Within ns (after n s next o go)
  stepped n s next none h = given_if (leb (length s) next) 18 n p.e18 accepts
  stepped n s next (some st) h = h st

  one_read : (lim : Limits) (st : State) (n : ℕ) (r : Parsed Step) {go : Step → ℕ → Answer ℕ}
      → ((x : Step) (next : ℕ) → Within ns (go x next))
      → Within ns (formed lim st n r go)
  one_read lim st n (refused k v) h = refuses p.e14
  one_read lim st n (got x next) h = given_if (well_formed lim.last_variable st.highest x) 14 n p.e14 (h x next)

  a_run : (k : ℕ) (lim : Limits) (s : List ℕ) (at : ℕ) (st : State) → Within ns (run k lim s at st)
  unfolding run
  a_run zero lim s at st = refuses p.e18
  a_run (suc k) lim s at st =
      let n = st.steps + 1 in
      given_if (ltb at (length s)) 18 st.steps p.e18
      (one_read lim st n (step_at s at)
      (λ x next. then-within (performed lim st n x) (λ o. stepped n s next o (a_run k lim s next))))

  pub a_plain_run : (lim : Limits) (f : List (List ℕ)) (proof : List ℕ) → Within ns (plain_run lim f proof)
  unfolding plain_run
  a_plain_run lim f proof = a_run (length proof) lim proof 0 (start f)
