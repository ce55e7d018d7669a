-- How text, its length and a model's truth go through a block, word by word: laws.
use mathlib.Core.Path.{◌≡◌, refl, ap, ◌∙◌, sym}
use mathlib.Core.Bool.{Bool, true, false, ◌||◌, or-false, or_assoc}
use mathlib.Core.List.{List, [], ◌∷◌, ◌++◌, flat_map}
use Prim.Native.Nat.{ℕ, ◌+◌}
use native.Mathlib.Omega.{arith}
use lib.ListN.{length, length-append}
use Rattle.scope.specs.Cnf.{bit, lit, clause}
use Rattle.scope.specs.Text.{decimal, space, newline, literal_text, line}
use Rattle.sink.specs.Run.{run, run_append, Out, put, further}
use Rattle.sink.specs.Block.{by_clause, by_words}
use Rattle.sink.specs.World.{bad_after}
use Rattle.sink.specs.declared.Judgement.{Judgement}
use Rattle.sink.specs.Parts.{text_parts, size_parts, judge_parts}

-- stores for each of a list
pub run-each : {A : Type 0} (f : A → List ℕ) (xs : List A) (o : Out) → run (λ x. run put (f x)) xs o ≡ run put (flat_map f xs) o
unfolding flat_map
run-each f [] o = refl
run-each f (x ∷ xs) o = run-each f xs (run put (f x) o) ∙ sym (run_append put (f x) (flat_map f xs) o)

-- a clause's text is its line
pub text-clause : (top : ℕ) (c : List ℕ) (o : Out) → by_clause (text_parts top) c o ≡ run put (line top c) o
unfolding line
text-clause top c o =
    ap (run put (48 ∷ newline))
    (run-each literal_text c (run put (decimal top ++ space) o) ∙ sym (run_append put (decimal top ++ space) (flat_map literal_text c) o))
    ∙ sym (run_append put (decimal top ++ space ++ flat_map literal_text c) (48 ∷ newline) o)

size-each : (beside : ℕ) (c : List ℕ) (a : ℕ)
    → further (run (size_parts beside).literal c a) beside ≡ further a (length (flat_map literal_text c) + beside)
unfolding flat_map
size-each n [] a = omega arith
size-each n (l ∷ ls) a =
    size-each n ls (further a (length (literal_text l)))
    ∙ omega (arith, length-append (literal_text l) (flat_map literal_text ls))

-- a clause's length is its line's
pub size-clause : (top beside : ℕ) → beside ≡ length (decimal top) + 3 → (c : List ℕ) (a : ℕ)
    → by_clause (size_parts beside) c a ≡ further a (length (line top c))
unfolding line
size-clause top n e c a =
    size-each n c a
    ∙ omega (
      arith,
      length-append (decimal top ++ space ++ flat_map literal_text c) (48 ∷ newline),
      length-append (decimal top ++ space) (flat_map literal_text c),
      length-append (decimal top) space,
    )

judge-each : (m c : List ℕ) (j : Judgement)
    → run (judge_parts m).literal c j ≡ record { at = j.at; bad = j.bad; holds = j.holds || clause (bit m) c }
unfolding clause
judge-each m [] j = rw (or-false j.holds)
judge-each m (l ∷ ls) j =
    judge-each m ls ((judge_parts m).literal l j)
    ∙ ap (λ (b : Bool). record { at = j.at; bad = j.bad; holds = b }) (or_assoc j.holds (lit (bit m) l) (clause (bit m) ls))

-- a clause judged
pub judge-clause : (m c : List ℕ) (a b : ℕ)
    → by_clause (judge_parts m) c (record { at = a; bad = b; holds = false })
    ≡ record { at = further a 1; bad = bad_after (clause (bit m) c) (further a 1) b; holds = false }
judge-clause m c a b = ap (judge_parts m).end (judge-each m c (record { at = a; bad = b; holds = false }))

-- where the start of a clause does nothing, it does not matter which word is the first of its clause
pub size-first : (n : ℕ) (f : Bool) (ws : List ℕ) (a : ℕ) → by_words (size_parts n) f ws a ≡ by_words (size_parts n) true ws a
size-first n true ws a = refl
size-first n false [] a = refl
size-first n false (w ∷ ws) a = refl

pub judge-first : (m : List ℕ) (f : Bool) (ws : List ℕ) (j : Judgement) → by_words (judge_parts m) f ws j ≡ by_words (judge_parts m) true ws j
judge-first m true ws j = refl
judge-first m false [] j = refl
judge-first m false (w ∷ ws) j = refl
