-- What is noted of tokens, one part after another.
use Prim.Native.Nat.{ℕ}
use mathlib.Core.Path.{◌≡◌, refl}
use mathlib.Core.Bool.{Bool, true, false}
use mathlib.Core.List.{List, [], ◌∷◌, ◌++◌}
use Rattle.scope.specs.SolverText.{Token, word, fault, Word, literal, closing, malformed, word_of}
use Rattle.solver_lines.specs.Noting.{then_left, noted_literal, noted_word, noting}

pub noting-append : (n : ℕ) (st : List ℕ) (closed : Bool) (ts us : List Token)
    → noting n st closed (ts ++ us) ≡ then_left (noting n st closed ts) (λ st' c. noting n st' c us)
unfolding noting
noting-append n st closed [] us = refl
noting-append n st closed (fault at ∷ ts) us = refl
noting-append n st true (word p ∷ ts) us = refl
noting-append n st false (word p ∷ ts) us = go (word_of n p.bytes) (λ st' c. noting-append n st' c ts us)
  where
    go : (w : Word)
        → ((st' : List ℕ) (c : Bool) → noting n st' c (ts ++ us) ≡ then_left (noting n st' c ts) (λ st'' d. noting n st'' d us))
        → noted_word w p.at st (λ st' c. noting n st' c (ts ++ us))
        ≡ then_left (noted_word w p.at st (λ st' c. noting n st' c ts)) (λ st' c. noting n st' c us)
    go (literal l) more = more (noted_literal st l) false
    go closing more = more st true
    go malformed more = refl
