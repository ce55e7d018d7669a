-- A block: clauses as one list of words, where each clause's last word is marked by 2 ^ 31.
use Rattle.std.specs.Prelude.{◌≡◌, Bool, true, false, cond, ℕ, ◌+◌, ◌-◌, ◌≤◌, ◌<◌, leb}
use Rattle.std.proofs.Math.Path.{refl, sym}
use Rattle.std.proofs.Common.{◌∙◌, le-leb, leb-true, leb-false}
use mathlib.Core.List.{List, [], ◌∷◌}
use Rattle.std.proofs.lemmas.Bool.{lt-leb}
use Rattle.sink.specs.Run.{run}

-- the words of a clause, the last one marked
unfoldable pub mark : List ℕ → List ℕ
mark [] = []
mark (l ∷ []) = (l + 2147483648) ∷ []
mark (l ∷ k ∷ ks) = l ∷ mark (k ∷ ks)

-- one more literal for the first of some clauses
abbrev pub join : ℕ → List (List ℕ) → List (List ℕ)
join l [] = (l ∷ []) ∷ []
join l (c ∷ cs) = (l ∷ c) ∷ cs

-- the clauses of a block
unfoldable pub split : List ℕ → List (List ℕ)
split [] = []
split (w ∷ ws) = cond (leb 2147483648 w) (((w - 2147483648) ∷ []) ∷ split ws) (join w (split ws))

-- a block is whole where its last word is marked
abbrev pub Whole : List ℕ → Type 0
Whole [] = Unit
Whole (w ∷ []) = 2147483648 ≤ w
Whole (w ∷ v ∷ ws) = Whole (v ∷ ws)

-- clauses that can be marked: none is empty, and all literals are below 2 ^ 31
abbrev pub Small : List ℕ → Type 0
Small [] = Unit
Small (l ∷ ls) = (l < 2147483648) × Small ls

abbrev pub Plain : List (List ℕ) → Type 0
Plain [] = Unit
Plain ([] ∷ cs) = ⊥
Plain ((l ∷ ls) ∷ cs) = Small (l ∷ ls) × Plain cs

split-nil : split [] ≡ []
unfolding split
split-nil = refl

-- a word by its mark
pub split-marked : (w : ℕ) (ws : List ℕ) → 2147483648 ≤ w → split (w ∷ ws) ≡ ((w - 2147483648) ∷ []) ∷ split ws
unfolding split
split-marked w ws h = rw (le-leb 2147483648 w h)

pub split-unmarked : (w : ℕ) (ws : List ℕ) → w < 2147483648 → split (w ∷ ws) ≡ join w (split ws)
unfolding split
split-unmarked w ws h = rw (lt-leb 2147483648 w h)

-- a whole block of some clauses
pub record Marks (b : List ℕ) (cs : List (List ℕ)) : Type 0 where
  pub whole : Whole b
  pub clauses : split b ≡ cs

-- a block with a word has a clause, and that one has a literal
abbrev pub Cons : List (List ℕ) → Type 0
Cons [] = ⊥
Cons ([] ∷ cs) = ⊥
Cons ((l ∷ ls) ∷ cs) = Unit

cons-join : (w : ℕ) (cs : List (List ℕ)) → Cons (join w cs)
cons-join w [] = tt
cons-join w (c ∷ cs) = tt

pub cons-split : (w : ℕ) (ws : List ℕ) → Cons (split (w ∷ ws))
cons-split w ws = go (leb 2147483648 w) refl
  where
    go : (m : Bool) → leb 2147483648 w ≡ m → Cons (split (w ∷ ws))
    go true e = rw (split-marked w ws (leb-true 2147483648 w e)) tt
    go false e = rw (split-unmarked w ws (leb-false 2147483648 w e)) (cons-join w (split ws))

-- How a state goes through a clause: what its start, each of its literals and its end do
pub record Parts (S : Type 0) : Type 0 where
  pub start : S → S
  pub literal : ℕ → S → S
  pub end : S → S

module _ {S : Type 0} (p : Parts S) where
  -- a whole clause
  abbrev pub by_clause : List ℕ → S → S
  by_clause c s = p.end (run p.literal c (p.start s))

  -- a word of a block, the first of its clause or not
  abbrev pub opened : Bool → S → S
  opened true s = p.start s
  opened false s = s

  abbrev pub closed : Bool → ℕ → S → S
  closed true w s = p.end (p.literal (w - 2147483648) s)
  closed false w s = p.literal w s

  abbrev pub by_word : Bool → ℕ → S → S
  by_word first w s = closed (leb 2147483648 w) w (opened first s)

  -- the words of a block, one by one
  abbrev pub by_words : Bool → List ℕ → S → S
  by_words first [] s = s
  by_words first (w ∷ ws) s = by_words (leb 2147483648 w) ws (by_word first w s)

  -- the clauses of a block, from inside the first of them
  abbrev inside : List (List ℕ) → S → S
  inside [] s = s
  inside (c ∷ cs) s = run by_clause cs (p.end (run p.literal c s))

  inside_start : (cs : List (List ℕ)) (s : S) → Cons cs → run by_clause cs s ≡ inside cs (p.start s)
  inside_start [] s h = absurd h
  inside_start ([] ∷ cs) s h = absurd h
  inside_start ((l ∷ ls) ∷ cs) s h = refl

  inside_join : (w : ℕ) (cs : List (List ℕ)) (s : S) → Cons cs → inside (join w cs) s ≡ inside cs (p.literal w s)
  inside_join w [] s h = absurd h
  inside_join w ([] ∷ cs) s h = absurd h
  inside_join w ((l ∷ ls) ∷ cs) s h = refl

  inside_words : (w : ℕ) (ws : List ℕ) (s : S) → Whole (w ∷ ws) → by_words false (w ∷ ws) s ≡ inside (split (w ∷ ws)) s
  inside_words w [] s h = rw (split-marked w [] h, split-nil, le-leb 2147483648 w h)
  inside_words w (v ∷ vs) s h = go (leb 2147483648 w) refl (λ t. inside_words v vs t h)
    where
      go : (m : Bool) → leb 2147483648 w ≡ m → ((t : S) → by_words false (v ∷ vs) t ≡ inside (split (v ∷ vs)) t)
          → by_words false (w ∷ v ∷ vs) s ≡ inside (split (w ∷ v ∷ vs)) s
      go true e ih =
          rw (split-marked w (v ∷ vs) (leb-true 2147483648 w e), e)
          (ih (p.start (p.end (p.literal (w - 2147483648) s)))
          ∙ sym (inside_start (split (v ∷ vs)) (p.end (p.literal (w - 2147483648) s)) (cons-split v vs)))
      go false e ih =
          rw (split-unmarked w (v ∷ vs) (leb-false 2147483648 w e), e)
          (ih (p.literal w s) ∙ sym (inside_join w (split (v ∷ vs)) s (cons-split v vs)))

  -- word by word is clause by clause
  pub by-words : (b : List ℕ) (s : S) → Whole b → by_words true b s ≡ run by_clause (split b) s
  unfolding split
  by-words [] s h = refl
  by-words (w ∷ ws) s h = inside_words w ws (p.start s) h ∙ sym (inside_start (split (w ∷ ws)) s (cons-split w ws))
