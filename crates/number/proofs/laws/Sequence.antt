-- Steps of a sequence of reads, for `search`: a function that reads one field after another returns what the definition says,
-- by these laws and what the calls on the way ensure.
use Rattle.std.proofs.Common.{◌≡◌, ℕ, Bool, true, false, Result, Ok, Err, sym, ap, ◌∙◌, List}
use Rattle.std.specs.Result.{IsErr, IsErrAnd}
use Rattle.std.proofs.lemmas.Result.{err_from_is_err_and}
use borrow.Author.Tests.{le-leb, lt-leb, lt-ltb, le-ltb}
use Rattle.scope.specs.Parsed.{Parsed, got, refused, and_then, unless}
use Rattle.scope.specs.Number.{limited, reference}
use Rattle.scope.specs.Reason.{number_of}
use Rattle.scope.specs.Answers.{said, refused_by}
use Rattle.scope.specs.declared.refusal.Refusal.{Refusal}
use Rattle.parsing.proofs.laws.Numbers.{LimitedAt, ReferenceAt, limited-got, reference-got}

-- what was read goes to the rest; a refusal is the result
pub step : {A B : Type 0} (p : Parsed A) (f : A → ℕ → Parsed B) (a : A) (n : ℕ) (r : Parsed B)
    → got a n ≡ p
    → r ≡ f a n
    → r ≡ and_then p f
step p f a n r e h = rw (← e) h

pub stop : {A B : Type 0} (p : Parsed A) (f : A → ℕ → Parsed B) (k v : ℕ) → refused k v ≡ p → refused k v ≡ and_then p f
stop p f k v e = rw (← e)

-- a refusal that `?` hands on
pub handed-on : {A : Type 0} (r : Result A Refusal) (f : Refusal) → IsErr r × IsErrAnd r (λ e. e ≡ f) → r ≡ Err f
handed-on r f h = let p = err_from_is_err_and r h.1 in p.1 ∙ ap Err p.2

pub said-on : {A : Type 0} (r : Result (A × ℕ) Refusal) (f : Refusal) (p : Parsed A)
    → IsErr r × IsErrAnd r (λ e. e ≡ f)
    → refused_by f ≡ p
    → said r ≡ p
said-on r f p h e = ap said (handed-on r f h) ∙ e

-- a test that held, and one that did not
pub unless-ok : {A : Type 0} (t : Bool) (k v : ℕ) (p r : Parsed A) → t ≡ true → r ≡ p → r ≡ unless t k v p
unless-ok t k v p r e h = rw e h

pub unless-no : {A : Type 0} (t : Bool) (k v : ℕ) (p : Parsed A) → t ≡ false → refused k v ≡ unless t k v p
unless-no t k v p e = rw e

pub ruleset sequence = (stop, step, said-on, unless-ok, unless-no, le-leb, lt-leb, lt-ltb, le-ltb)

-- what is known of a number within limits and of a reference that a call gave
pub limited-value : (lo hi : ℕ) (s : List ℕ) (at : ℕ) {v n : ℕ} → got v n ≡ limited lo hi s at → LimitedAt lo hi s at v n
limited-value lo hi s at e = limited-got lo hi s at (sym e)

pub reference-value : (before n : ℕ) (s : List ℕ) (at : ℕ) {v next : ℕ}
    → got v next ≡ reference before n s at
    → ReferenceAt before n s at v next
reference-value before n s at e = reference-got before n s at (sym e)
