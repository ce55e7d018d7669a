-- Which numbers the refusals of a solver's text have, and that the model it gives has no byte above 1.
use Prim.Native.Nat.{ℕ}
use mathlib.Core.Path.{◌≡◌, refl}
use mathlib.Core.Bool.{Bool, true, false, cond}
use mathlib.Core.List.{List, [], ◌∷◌, map}
use mathlib.Core.Option.{Option, none, some}
use Rattle.scope.specs.Parsed.{Answer, answered, then}
use Rattle.scope.specs.Cnf.{pos}
use Rattle.scope.specs.Kinds.{up_to, member}
use Rattle.scope.specs.Score.{first_above, unless_found}
use Rattle.scope.specs.SolverText.{Token, word, fault, Word, literal, closing, malformed, word_of, lines_from, tokens, cons_literal, by_word, gathered, not_once, model_given, model_in}
use Rattle.refusal_numbers.proofs.laws.Within.{one_of, Within, accepts, refuses}

-- the bytes of a model that a text gives
none_above : (t : ℕ → Bool) (k : ℕ) (vs : List ℕ) → first_above k (map (λ v. cond (t v) 1 0) vs) ≡ none
unfolding first_above
none_above t k [] = refl
none_above t k (v ∷ vs) = go (t v) (λ k. none_above t k vs)
  where
    go : (b : Bool) → ((k : ℕ) → first_above k (map (λ v. cond (t v) 1 0) vs) ≡ none)
        → first_above k (cond b 1 0 ∷ map (λ v. cond (t v) 1 0) vs) ≡ none
    go true h = h _
    go false h = h _

module _ {ns : List ℕ} (e20 : one_of ns 20 ≡ true) where
  with_literal : (l : ℕ) {a : Answer (List ℕ)} → Within ns a → Within ns (cons_literal l a)
  with_literal l accepts = accepts
  with_literal l (refuses e) = refuses e

  gathered_within : (n : ℕ) (closed : Bool) (ts : List Token) → Within ns (gathered n closed ts)
  unfolding gathered
  gathered_within n closed [] = accepts
  gathered_within n closed (fault at ∷ ts) = refuses e20
  gathered_within n true (word p ∷ ts) = refuses e20
  gathered_within n false (word p ∷ ts) = go (word_of n p.bytes) (gathered_within n false ts) (gathered_within n true ts)
    where
      go : (w : Word) → Within ns (gathered n false ts) → Within ns (gathered n true ts)
          → Within ns (by_word w p.at (gathered n false ts) (gathered n true ts))
      go (literal l) more closed = with_literal l more
      go closing more closed = closed
      go malformed more closed = refuses e20

-- a text's 20 and 21, and then what is answered of its model
pub model-then : {ns : List ℕ} {B : Type 0} (n : ℕ) (text : List ℕ) {f : List ℕ → Answer B} → one_of ns 20 ≡ true → one_of ns 21 ≡ true
    → ((m : List ℕ) → first_above 0 m ≡ none → Within ns (f m))
    → Within ns (then (model_in n text) f)
unfolding model_in
model-then {ns} n text {f} e20 e21 h = go (gathered_within e20 n false (tokens (lines_from 0 text)))
  where
    given : (ls : List ℕ) (o : Option ℕ) → Within ns (then (unless_found 21 o (answered (model_given n ls))) f)
    given ls none = h (model_given n ls) (none_above (λ v. member (pos v) ls) 0 (up_to n))
    given ls (some v) = refuses e21

    go : {a : Answer (List ℕ)} → Within ns a
        → Within ns (then (then a (λ ls. unless_found 21 (not_once ls (up_to n)) (answered (model_given n ls)))) f)
    go (accepts {a = ls}) = given ls (not_once ls (up_to n))
    go (refuses e) = refuses e
