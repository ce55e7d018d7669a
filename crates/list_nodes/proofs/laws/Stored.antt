-- A counted list in a store of words: its nodes one after another, and then its members: laws.
use Prim.Native.Nat.{ℕ}
use mathlib.Core.Path.{◌≡◌, refl}
use mathlib.Core.List.{List, [], ◌++◌}
use lib.ListN.{length}
use Rattle.scope.specs.Kinds.{Atom, Entry, entries}
use Rattle.scope.specs.Cnf.{Gate}
use Rattle.literals.specs.Words.{Holds}
use Rattle.literals.specs.NodeWords.{nodes_words}
use Rattle.literals.proofs.laws.Entries.{Adds}
use Rattle.list_nodes.specs.declared.filled.Filled.{Filled}
use Rattle.list_nodes.specs.Stored.{Stored, Plain}

-- entries whose gates and literals stand in the words
pub adds-stored : {num : Atom → ℕ} {l : List Entry} {v : ℕ} {gs : List Gate} {xs words : List ℕ} {r : Filled}
    → Adds num l v 0 gs xs
    → Holds words r.end (nodes_words v gs ++ xs)
    → r.nodes ≡ length gs
    → r.at ≡ length (nodes_words v gs)
    → Stored num (entries l) v words r
adds-stored a h n e = record { holds = rw (a.gates, a.literals) h; nodes = rw a.gates n; at = rw a.gates e }

pub adds-plain : {num : Atom → ℕ} {l : List Entry} {xs words : List ℕ} {n : ℕ}
    → ((v : ℕ) → Adds num l v 0 [] xs)
    → Holds words n xs
    → Plain num (entries l) words (record { nodes = 0; at = 0; end = n })
unfolding nodes_words
adds-plain a h = record { stored = λ v. adds-stored (a v) h refl refl }
