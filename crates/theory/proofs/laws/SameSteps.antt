-- A step read at an offset and from the tokens there: both read the same step, or none.
use mathlib.Core.Path.{◌≡◌, refl}
use mathlib.Core.Bool.{Bool, true, false, cond}
use mathlib.Core.List.{List, []}
use Prim.Native.Nat.{ℕ, zero, suc, ◌-◌, ◌≤◌, ◌<◌}
use native.Mathlib.Omega.{arith}
use lib.Dec.{ltb, eqb}
use lib.ListN.{length, drop}
use borrow.Author.Tests.{ltb-true, ltb-false, ne_eqb}
use Rattle.scope.specs.Parsed.{Parsed, got, refused, and_then, cons}
use Rattle.scope.specs.Number.{number}
use Rattle.scope.specs.Steps.{Step, add, delete, numbers, up_to0, add_at, delete_at, step_at}
use Rattle.theory.proofs.laws.StepTokens.{Tokens, stop, bad, num, tokens, Numbers, cut, before, StepRead, read, misread}
use Rattle.theory.proofs.laws.StepTokens.{read_hints, read_literals, read_add, read_delete, read_step}
use Rattle.theory.proofs.laws.StepTokens.{up_to0 as listed, numbers as token_numbers}
use Rattle.theory.proofs.laws.Tokens.{tokens-got, tokens-bad, tokens-stop}

module _ (s : List ℕ) where
  abbrev pub tokens_from : ℕ → Tokens
  tokens_from at = tokens (drop at s)

  -- the tokens by the number at an offset
  pub data First (at : ℕ) : Parsed ℕ → Tokens → Type 0 where
    one : {v next : ℕ} → at < next → next ≤ length s → First at (got v next) (num v (tokens_from next))
    broken : {k v : ℕ} → at < length s → First at (refused k v) bad
    over : {k v : ℕ} → length s ≤ at → First at (refused k v) stop

  pub first_token : (at : ℕ) → First at (number s at) (tokens_from at)
  first_token at = go (number s at) refl (ltb at (length s)) refl
    where
      go : (p : Parsed ℕ) → number s at ≡ p → (b : Bool) → ltb at (length s) ≡ b → First at p (tokens_from at)
      go (got v next) e b t = let k = tokens-got s at v next e in rw k.first (one k.forward k.inside)
      go (refused k v) e true t =
          let h = ltb-true at (length s) t in
          rw (tokens-bad s at k v e h) (broken h)
      go (refused k v) e false t =
          let h = ltb-false at (length s) t in
          rw (tokens-stop s at h) (over h)

  -- the same numbers up to a 0
  data SameNumbers (at : ℕ) : Parsed (List ℕ) → Numbers → Type 0 where
    both : {ns : List ℕ} {next : ℕ} → at < next → next ≤ length s → SameNumbers at (got ns next) (listed ns (tokens_from next))
    neither : {k v : ℕ} → SameNumbers at (refused k v) cut

  numbers_same : (k at : ℕ) → length s - at ≤ k → SameNumbers at (numbers k s at) (token_numbers (tokens_from at))
  unfolding numbers token_numbers
  numbers_same zero at h = rw (tokens-stop s at (omega arith)) neither
  numbers_same (suc k) at h = go (numbers_same k) (first_token at)
    where
      Ih : Type 0
      Ih = (at : ℕ) → length s - at ≤ k → SameNumbers at (numbers k s at) (token_numbers (tokens_from at))

      also : (v next : ℕ) → at < next → {p : Parsed (List ℕ)} {q : Numbers} → SameNumbers next p q
          → SameNumbers at (cons v p) (before v q)
      also v next l (both {next = e} f i) = both {next = e} (omega arith) i
      also v next l neither = neither

      go : Ih → {p : Parsed ℕ} {ts : Tokens} → First at p ts
          → SameNumbers at (and_then p (λ v next. cond (eqb v 0) (got [] next) (cons v (numbers k s next)))) (token_numbers ts)
      go ih (one {v = zero} f i) = both f i
      go ih (one {v = suc v} {next = next} f i) =
          rw (ne_eqb (suc v) 0 (λ e. omega arith)) (also (suc v) next f (ih next (omega arith)))
      go ih (broken l) = neither
      go ih (over l) = neither

  up_to_0 : (at : ℕ) → SameNumbers at (up_to0 s at) (token_numbers (tokens_from at))
  up_to_0 at = numbers_same (length s) at (omega arith)

  -- the same step
  pub data SameStep (at : ℕ) : Parsed Step → StepRead → Type 0 where
    both_read : {x : Step} {next : ℕ} → at < next → next ≤ length s → SameStep at (got x next) (read x (tokens_from next))
    neither_reads : {k v : ℕ} → SameStep at (refused k v) misread

  -- read after an offset, and so after an earlier one
  later : {at i : ℕ} → at < i → {p : Parsed Step} {q : StepRead} → SameStep i p q → SameStep at p q
  later l (both_read {next = e} f i) = both_read {next = e} (omega arith) i
  later l neither_reads = neither_reads

  hints_same : (id : ℕ) (ls : List ℕ) (at : ℕ)
      → SameStep at (and_then (up_to0 s at) (λ hs end. got (add id ls hs) end)) (read_hints id ls (token_numbers (tokens_from at)))
  hints_same id ls at = go (up_to_0 at)
    where
      go : {p : Parsed (List ℕ)} {q : Numbers} → SameNumbers at p q
          → SameStep at (and_then p (λ hs end. got (add id ls hs) end)) (read_hints id ls q)
      go (both f i) = both_read f i
      go neither = neither_reads

  literals_same : (id at : ℕ)
      → SameStep at (and_then (up_to0 s at) (λ ls j. and_then (up_to0 s j) (λ hs end. got (add id ls hs) end)))
      (read_literals id (token_numbers (tokens_from at)))
  literals_same id at = go (up_to_0 at)
    where
      go : {p : Parsed (List ℕ)} {q : Numbers} → SameNumbers at p q
          → SameStep at (and_then p (λ ls j. and_then (up_to0 s j) (λ hs end. got (add id ls hs) end))) (read_literals id q)
      go (both {ns = ls} {next = j} f i) = later f (hints_same id ls j)
      go neither = neither_reads

  add_same : (at : ℕ) → SameStep at (add_at s at) (read_add (tokens_from at))
  add_same at = go (first_token at)
    where
      go : {p : Parsed ℕ} {ts : Tokens} → First at p ts
          → SameStep at
          (and_then p (λ id i. and_then (up_to0 s i) (λ ls j. and_then (up_to0 s j) (λ hs end. got (add id ls hs) end))))
          (read_add ts)
      go (one {v = id} {next = i} f l) = later f (literals_same id i)
      go (broken l) = neither_reads
      go (over l) = neither_reads

  delete_same : (at : ℕ) → SameStep at (delete_at s at) (read_delete (token_numbers (tokens_from at)))
  delete_same at = go (up_to_0 at)
    where
      go : {p : Parsed (List ℕ)} {q : Numbers} → SameNumbers at p q
          → SameStep at (and_then p (λ ids end. got (delete ids) end)) (read_delete q)
      go (both f i) = both_read f i
      go neither = neither_reads

  -- what is read at an offset is read from the tokens there
  pub step_same : (at : ℕ) → SameStep at (step_at s at) (read_step (tokens_from at))
  unfolding step_at read_step
  step_same at = go (first_token at)
    where
      choose : (i : ℕ) → at < i → (a d : Bool)
          → SameStep at (cond a (add_at s i) (cond d (delete_at s i) (refused 1 at)))
          (cond a (read_add (tokens_from i)) (cond d (read_delete (token_numbers (tokens_from i))) misread))
      choose i l true d = later l (add_same i)
      choose i l false true = later l (delete_same i)
      choose i l false false = neither_reads

      go : {p : Parsed ℕ} {ts : Tokens} → First at p ts
          → SameStep at
          (and_then p (λ k i. cond (eqb k 97) (add_at s i) (cond (eqb k 100) (delete_at s i) (refused 1 at))))
          (read_step ts)
      go (one {v = k} {next = i} f l) = choose i f (eqb k 97) (eqb k 100)
      go (broken l) = neither_reads
      go (over l) = neither_reads
