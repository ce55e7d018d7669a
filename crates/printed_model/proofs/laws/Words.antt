-- A v line with some literals and the closing 0, read: it is one line, its words are the literals' texts, and they give the literals back.
use mathlib.Core.Path.{◌≡◌, refl, sym, ap, ◌∙◌}
use mathlib.Core.Bool.{false}
use mathlib.Core.List.{List, [], ◌∷◌, ◌++◌, map, flat_map, append-nil, append_assoc}
use Prim.Native.Nat.{ℕ, suc, ◌+◌, ◌≤◌}
use native.Mathlib.Nat.{add-zero}
use native.Mathlib.Omega.{arith}
use lib.ListN.{length}
use borrow.Author.Tests.{eq-eqb, ne_eqb}
use Rattle.laws.specs.Booleans.{impossible}
use Rattle.laws.specs.Lists.{All, All-append, All-weaken}
use Rattle.scope.specs.Parsed.{answered}
use Rattle.scope.specs.Formula.{most_variables}
use Rattle.scope.specs.Text.{space, newline, literal_text}
use Rattle.scope.specs.SolverText.{Piece, until, lines_after, lines_from, word_at, words_after, word, tokens, literal, word_of, cons_literal, gathered}
use Rattle.printed_model.proofs.laws.Numerals.{Within, spelled, spelled-read, Spelling, spelled-bytes}

-- no byte of some is z
abbrev Free : ℕ → List ℕ → Type 0
Free z bs = All (λ b. b ≡ z → ⊥) bs

until-first : (z : ℕ) (xs ys : List ℕ) → Free z xs → until z (xs ++ z ∷ ys) ≡ xs
unfolding until
until-first z [] ys h = rw (eq-eqb z z refl)
until-first z (x ∷ xs) ys h = rw (ne_eqb x z h.0, until-first z xs ys h.1)

no-line-after : (at : ℕ) (xs : List ℕ) → Free 10 xs → lines_after at (xs ++ newline) ≡ []
unfolding lines_after
no-line-after at [] h = refl
no-line-after at (x ∷ xs) h = rw (ne_eqb x 10 h.0, no-line-after (suc at) xs h.1)

one_line : (at b : ℕ) (bs : List ℕ) → Free 10 (b ∷ bs) → lines_from at (b ∷ bs ++ newline) ≡ record { at = at; bytes = b ∷ bs } ∷ []
one_line at b bs h = rw (until-first 10 (b ∷ bs) [] h, no-line-after at (b ∷ bs) h)

words-later : (at : ℕ) (xs ys : List ℕ) → Free 32 xs → words_after at (xs ++ ys) ≡ words_after (at + length xs) ys
unfolding words_after
words-later at [] ys h = rw add-zero
words-later at (x ∷ xs) ys h =
    rw (ne_eqb x 32 h.0) (words-later (suc at) xs ys h.1 ∙ ap (λ k. words_after k ys) (omega arith))

-- the words of some bytes that follow a space
abbrev words_from : ℕ → List ℕ → List Piece
words_from at bs = word_at at bs ++ words_after at bs

words-at-space : (at : ℕ) (rest : List ℕ) → words_after at (32 ∷ rest) ≡ words_from (suc at) rest
unfolding words_after
words-at-space at rest = refl

words_next : (at b : ℕ) (bs rest : List ℕ) → Free 32 (b ∷ bs)
    → words_from at (b ∷ bs ++ 32 ∷ rest) ≡ record { at = at; bytes = b ∷ bs } ∷ words_from (suc (at + suc (length bs))) rest
words_next at b bs rest h =
    rw (ne_eqb b 32 h.0, until-first 32 (b ∷ bs) rest h, words-later at (b ∷ bs) (32 ∷ rest) h, words-at-space)

-- a word that is a literal, and what follows the space after it
gathered-word : (n l at : ℕ) (bs rest : List ℕ) → word_of n bs ≡ literal l → Free 32 bs
    → gathered n false (map word (words_from at (bs ++ 32 ∷ rest)))
    ≡ cons_literal l (gathered n false (map word (words_from (suc (at + length bs)) rest)))
unfolding gathered word_of
gathered-word n l at [] rest e h = impossible (cc e)
gathered-word n l at (b ∷ bs) rest e h = rw (words_next at b bs rest h, gathered, e)

regroup : (bs more last : List ℕ) → bs ++ space ++ more ++ last ≡ bs ++ 32 ∷ (more ++ last)
regroup bs more last = append_assoc (bs ++ space) more last ∙ append_assoc bs space (more ++ last)

spelled-free : (z : ℕ) → (45 ≤ z → ⊥) → (l : ℕ) → Free z (spelled l)
spelled-free z out l = All-weaken Spelling (λ b. b ≡ z → ⊥) (λ b h e. out (rw e at h.0)) (spelled l) (spelled-bytes l)

gathered-more : (n at l : ℕ) (ls : List ℕ) → n ≤ most_variables → Within n l
    → gathered n false (map word (words_from at (flat_map literal_text (l ∷ ls) ++ 48 ∷ [])))
    ≡ cons_literal l (gathered n false (map word (words_from (suc (at + length (spelled l))) (flat_map literal_text ls ++ 48 ∷ []))))
unfolding flat_map literal_text
gathered-more n at l ls k h =
    ap (λ bs. gathered n false (map word (words_from at bs))) (regroup (spelled l) (flat_map literal_text ls) (48 ∷ []))
    ∙ gathered-word n l at (spelled l) (flat_map literal_text ls ++ 48 ∷ []) (spelled-read n l k h) (spelled-free 32 (λ e. omega arith) l)

gathered-closing : (n at : ℕ) → gathered n false (map word (words_from at (48 ∷ []))) ≡ answered []
unfolding gathered words_after until word_of
gathered-closing n at = refl

gathered-literals : (n at : ℕ) (ls : List ℕ) → n ≤ most_variables → All (Within n) ls
    → gathered n false (map word (words_from at (flat_map literal_text ls ++ 48 ∷ []))) ≡ answered ls
unfolding flat_map
gathered-literals n at [] k h = gathered-closing n at
gathered-literals n at (l ∷ ls) k h =
    gathered-more n at l ls k h.0 ∙ ap (cons_literal l) (gathered-literals n (suc (at + length (spelled l))) ls k h.1)

-- the v line of some literals, without the byte 10 that ends it
abbrev line_of : List ℕ → List ℕ
line_of ls = 118 ∷ space ++ flat_map literal_text ls ++ 48 ∷ []

text-free : (l : ℕ) → Free 10 (literal_text l)
unfolding literal_text
text-free l = All-append (λ b. b ≡ 10 → ⊥) (spelled l) space (spelled-free 10 (λ e. omega arith) l) (λ e. omega arith, tt)

texts-free : (ls : List ℕ) → Free 10 (flat_map literal_text ls ++ 48 ∷ [])
unfolding flat_map
texts-free [] = (λ e. omega arith, tt)
texts-free (l ∷ ls) =
    rw append_assoc
    (All-append (λ b. b ≡ 10 → ⊥) (literal_text l) (flat_map literal_text ls ++ 48 ∷ []) (text-free l) (texts-free ls))

line-free : (ls : List ℕ) → Free 10 (line_of ls)
line-free ls = (λ e. omega arith, (λ e. omega arith, texts-free ls))

tokens-of-line : (ls : List ℕ)
    → tokens (record { at = 0; bytes = line_of ls } ∷ []) ≡ map word (words_from 2 (flat_map literal_text ls ++ 48 ∷ []))
unfolding tokens words_after
tokens-of-line ls = append-nil _

-- whatever literals of variables from 1 to n they are
pub text-read : (n : ℕ) (ls : List ℕ) → n ≤ most_variables → All (Within n) ls
    → gathered n false (tokens (lines_from 0 (118 ∷ space ++ flat_map literal_text ls ++ 48 ∷ newline))) ≡ answered ls
text-read n ls k h =
    ap (λ bs. gathered n false (tokens (lines_from 0 bs))) (sym (append_assoc (118 ∷ space ++ flat_map literal_text ls) (48 ∷ []) newline))
    ∙ ap (λ p. gathered n false (tokens p)) (one_line 0 118 (32 ∷ flat_map literal_text ls ++ 48 ∷ []) (line-free ls))
    ∙ ap (gathered n false) (tokens-of-line ls)
    ∙ gathered-literals n 2 ls k h
