-- Nodes stored one after another: what is stored so far, continued by the gates that are left, is the whole.
use Prim.Native.Nat.{ℕ, suc, ◌+◌, ◌≤◌}
use mathlib.Core.Path.{◌≡◌, refl, sym, ap, ◌∙◌}
use mathlib.Core.List.{List, [], ◌∷◌, ◌++◌, append_assoc, append-nil}
use native.Mathlib.Omega.{arith}
use native.Mathlib.Numerals.{add-one}
use lib.ListN.{length, take, length-take}
use lib.Seq.{length-take-le}
use Rattle.scope.specs.Cnf.{Gate}
use Rattle.literals.specs.Words.{Holds}
use Rattle.literals.specs.NodeWords.{node_words, nodes_words}
use Rattle.literals.proofs.laws.NodeWords.{nodes-words-both}
use Rattle.literals.proofs.laws.Words.{holds_as}

pub record Ahead (whole : List ℕ) (o : ℕ) (gs : List Gate) (stored : List ℕ) (at : ℕ) : Type 0 where
  pub words : take at stored ++ nodes_words o gs ≡ whole
  pub room : at ≤ length stored

pub ahead-start : (o : ℕ) (gs : List Gate) (words : List ℕ) (at : ℕ) → at ≤ length words
    → Ahead (take at words ++ nodes_words o gs) o gs words at
ahead-start o gs words at h = record { words = refl; room = h }

-- stored words fit
holds-room : {words xs : List ℕ} {n : ℕ} → Holds words n xs → n ≤ length words
holds-room {words} {n = n} h = omega (arith, length-take n words, ap length h.front, h.count)

module _ {whole : List ℕ} {o : ℕ} {gs : List Gate} {words : List ℕ} {at : ℕ} (a : Ahead whole o gs words at) where
  -- one more is stored, and some more
  pub ahead_more : (g : Gate) (hs : List Gate) → gs ≡ g ∷ hs → {after : List ℕ} {m : ℕ}
      → Holds after m (take at words ++ node_words g o)
      → (p : ℕ)
      → p ≡ o + 1
      → Ahead whole p hs after m
  unfolding nodes_words
  ahead_more g hs e h p q =
      record {
        words = rw (h.front, q, add-one o) (append_assoc (take at words) (node_words g o) (nodes_words (suc o) hs) ∙ rw e at a.words);
        room = holds-room h;
      }

  pub ahead_some : (hs is : List Gate) → gs ≡ hs ++ is → {after : List ℕ} {m : ℕ}
      → Holds after m (take at words ++ nodes_words o hs)
      → (p : ℕ)
      → p ≡ o + length hs
      → Ahead whole p is after m
  ahead_some hs is e h p q =
      record {
        words =
            rw (h.front, q)
            (append_assoc (take at words) (nodes_words o hs) (nodes_words (o + length hs) is)
            ∙ ap (◌++◌ (take at words)) (sym (nodes-words-both hs is o))
            ∙ rw e at a.words);
        room = holds-room h;
      }

  -- all are
  pub ahead_all : gs ≡ [] → Holds words at whole
  unfolding nodes_words
  ahead_all e =
      let f : take at words ≡ whole = sym (append-nil (take at words)) ∙ rw e at a.words in
      record { count = sym (length-take-le at words a.room) ∙ ap length f; front = f }

  pub ahead_rest : {after : List ℕ} {m : ℕ} → Holds after m (take at words ++ nodes_words o gs) → Holds after m whole
  ahead_rest h = holds_as a.words h
