-- A store that is filled: the lowest variable that is not given once, or the model; and the refusals in their order.
use Prim.Native.Nat.{ℕ, zero, suc, ◌+◌, ◌-◌, ◌≤◌, ◌<◌}
use mathlib.Core.Path.{◌≡◌, refl, sym, ap, ◌∙◌}
use mathlib.Core.Bool.{Bool, true, false, not, cond}
use mathlib.Core.List.{List, ◌∷◌, ◌++◌, map}
use mathlib.Core.Option.{Option, none, some}
use native.Mathlib.Omega.{arith}
use lib.Dec.{eqb}
use lib.ListN.{length, get_or, take, drop, replicate, get_or-replicate, drop_of_length-le}
use lib.Seq.{drop-cons, take_at, length-take-le}
use borrow.Author.Tests.{le-leb, lt-leb, eq-eqb, ne_eqb, eqb-true}
use Rattle.std.specs.Prelude.{Ok, Err}
use Rattle.scope.specs.declared.refusal.Reason.{Reason}
use Rattle.laws.specs.Booleans.{impossible}
use Rattle.scope.specs.Parsed.{answered, refusal}
use Rattle.scope.specs.Cnf.{pos}
use Rattle.scope.specs.Kinds.{from, up_to, member}
use Rattle.scope.specs.Score.{unless_found}
use Rattle.scope.specs.SolverText.{gathered, times_given, not_once, model_given, model_in}
use Rattle.solver_lines.specs.Noting.{left, stopped, noting, text_tokens}
use Rattle.solver_model.specs.Settled.{Settled, unsettled, settled_to, settled_at, SettledAs}
use Rattle.solver_model.specs.Filled.{Given, settled_means, given_means, FilledAs}
use Rattle.solver_model.proofs.laws.Gathered.{Noted, agree, agrees-fault, agrees-noted}
use Rattle.solver_model.proofs.laws.Bytes.{byte_after, length-noted, noted-bytes, given_once, settles}

-- a store whose bytes say of each variable how often some literals give it
module _ (ls st : List ℕ) (bytes : (k : ℕ) → k < length st → get_or st k 0 ≡ byte_after (suc k) 0 ls) where
  -- the lowest variable that is not given once, from one of them on
  lowest : (m k : ℕ) → k + m ≡ length st → unsettled (suc k) (drop k st) ≡ not_once ls (from (suc k) m)
  unfolding unsettled not_once from
  lowest zero k h = let l : length st ≤ k = omega arith in rw (drop_of_length-le st l)
  lowest (suc m) k h =
      let l : k < length st = omega arith in
      let more : unsettled (suc (suc k)) (drop (suc k) st) ≡ not_once ls (from (suc (suc k)) m) = lowest m (suc k) (omega arith) in
      rw (drop-cons st k 0 l, bytes k l, settles (suc k) ls, more) (go (eqb (times_given (suc k) ls) 1) (not_once ls (from (suc (suc k)) m)))
    where
      go : (t : Bool) (o : Option ℕ) → cond (not t) (some (suc k)) o ≡ cond t o (some (suc k))
      go true o = refl
      go false o = refl

  -- and where there is none, the model
  settled : (m k : ℕ) → k + m ≡ length st → not_once ls (from (suc k) m) ≡ none
      → settled_to (drop k st) ≡ map (λ v. cond (member (pos v) ls) 1 0) (from (suc k) m)
  unfolding settled_to not_once from
  settled zero k h e = let l : length st ≤ k = omega arith in rw (drop_of_length-le st l)
  settled (suc m) k h e = go (eqb (times_given (suc k) ls) 1) refl e (λ f. settled m (suc k) (omega arith) f)
    where
      l : k < length st
      l = omega arith

      less : (t : Bool) → cond t 2 1 - 1 ≡ cond t 1 0
      less true = refl
      less false = refl

      go : (t : Bool) → eqb (times_given (suc k) ls) 1 ≡ t → cond t (not_once ls (from (suc (suc k)) m)) (some (suc k)) ≡ none
          → (not_once ls (from (suc (suc k)) m) ≡ none → settled_to (drop (suc k) st) ≡ map (λ v. cond (member (pos v) ls) 1 0) (from (suc (suc k)) m))
          → settled_to (drop k st) ≡ cond (member (pos (suc k)) ls) 1 0 ∷ map (λ v. cond (member (pos v) ls) 1 0) (from (suc (suc k)) m)
      go true q f ih =
          rw (drop-cons st k 0 l, bytes k l, settles (suc k) ls, q, given_once (suc k) ls (eqb-true (times_given (suc k) ls) 1 q), less (member (pos (suc k)) ls), ih f)
      go false q f ih = impossible (cc)

-- 20 and 21, with a store of a 0 for each of n variables
module _ (st : List ℕ) (zeros : st ≡ replicate (length st) 0) (text : List ℕ) where
  pub gather_fault : {at : ℕ} → stopped at ≡ noting (length st) st false (text_tokens text) → refusal 20 at ≡ model_in (length st) text
  unfolding model_in
  gather_fault e = rw (agrees-fault (agree (length st) st false (text_tokens text)) e)

  zero_byte : (k : ℕ) → k < length st → get_or st k 0 ≡ 0
  zero_byte k h = ap (λ (x : List ℕ). get_or x k 0) zeros ∙ get_or-replicate (length st) k 0 0 h

  module _ (st' : List ℕ) (c : Bool) (e : left st' c ≡ noting (length st) st false (text_tokens text)) where
    noting_all : Noted (length st) st (gathered (length st) false (text_tokens text)) st'
    noting_all = agrees-noted (agree (length st) st false (text_tokens text)) e

    kept : length st' ≡ length st
    kept = ap length noting_all.notes ∙ length-noted st noting_all.literals

    bytes_told : (k : ℕ) → k < length st' → get_or st' k 0 ≡ byte_after (suc k) 0 noting_all.literals
    bytes_told k h =
        ap (λ (x : List ℕ). get_or x k 0) noting_all.notes
        ∙ noted-bytes st noting_all.literals k noting_all.ranged (omega (arith, kept))
        ∙ ap (λ (b : ℕ). byte_after (suc k) b noting_all.literals) (zero_byte k (omega (arith, kept)))

    model_told : model_in (length st) text ≡ unless_found 21 (not_once noting_all.literals (up_to (length st))) (answered (model_given (length st) noting_all.literals))
    unfolding model_in
    model_told = rw noting_all.gathers

    by_settled : {st'' : List ℕ} (r : Settled) → settled_at r ≡ not_once noting_all.literals (up_to (length st)) → st'' ≡ settled_to st'
        → given_means (settled_means r) st'' ≡ model_in (length st) text
    by_settled (Ok _) f q =
        let m = settled noting_all.literals st' bytes_told (length st) 0 (omega (arith, kept)) (sym f) in
        sym (model_told ∙ rw (← f, q, m))
    by_settled (Err v) f q = sym (model_told ∙ rw (← f))

    pub gather_settled : {st'' : List ℕ} {r : Settled} → SettledAs st' st'' r → given_means (settled_means r) st'' ≡ model_in (length st) text
    gather_settled {st''} {r} s =
        by_settled r (s.found ∙ lowest noting_all.literals st' bytes_told (length st) 0 (omega (arith, kept))) s.left

-- the front of a store of zeros is one
take-zeros : (k n : ℕ) → k ≤ n → take {A = ℕ} k (replicate n 0) ≡ replicate k 0
take-zeros zero n h = refl
take-zeros (suc k) zero h = let z : ⊥ = omega arith in absurd z
take-zeros (suc k) (suc n) h = ap (λ (x : List ℕ). 0 ∷ x) (take-zeros k n (omega arith))

pub front-zeros : (st : List ℕ) (k : ℕ) → st ≡ replicate (length st) 0 → k ≤ length st → take k st ≡ replicate (length (take k st)) 0
front-zeros st k e h = rw (length-take-le k st h) (ap (take k) e ∙ take-zeros k (length st) h)

-- 9, 10, then what is gathered at the front of the store
module _ (n : ℕ) (text : List ℕ) (model : ℕ) (st : List ℕ) where
  pub filled_short : length st < n → FilledAs n text model st st (Err (record { reason = Reason.TooShort; value = 0 }))
  filled_short h = record { answer = rw (lt-leb n (length st) h); wanted = λ e. impossible (cc); room = λ e. impossible (cc) }

  module _ (h : n ≤ length st) where
    pub filled_wrong : (model ≡ n → ⊥) → FilledAs n text model st st (Err (record { reason = Reason.WrongLength; value = n }))
    filled_wrong d =
        record { answer = rw (le-leb n (length st) h, ne_eqb model n d); wanted = λ e. impossible (cc); room = λ e. impossible (cc) }

    pub filled_right : model ≡ n → (front : List ℕ) {r : Given} → length front ≡ length (take model st)
        → given_means r front ≡ model_in (length (take model st)) text
        → FilledAs n text model st (front ++ drop model st) r
    filled_right e front {r} k g =
        let l : length (take model st) ≡ model = length-take-le model st (omega arith) in
        record {
          answer = rw (le-leb n (length st) h, eq-eqb model n e, take_at front (drop model st) model (k ∙ l), ← e, ← l) g;
          wanted = λ q. e;
          room = λ q. h;
        }
