-- A counted list in a store of words: its nodes one after another, and then its members.
use Rattle.std.specs.Prelude.{ℕ, ◌-◌, ◌≤◌, ◌≡◌, List, [], ◌++◌, map, length, get_or}
use Rattle.scope.specs.Kinds.{Kind, Atom, Listed, Counted, counted_of}
use Rattle.scope.specs.Formula.{ref_literal, node_gate}
use Rattle.parsing.specs.Each.{Each}
use Rattle.constraint.specs.declared.kinds.Head.{Head}
use Rattle.constraint.specs.Answers.{counts_in}
use Rattle.constraint.specs.Valid.{InRange}
use Rattle.literals.specs.Words.{Holds}
use Rattle.user_table.specs.Filled.{users_at, UserRows}
use Rattle.literals.specs.Tables.{duration_in, group_in}
use Rattle.literals.specs.Numbered.{no_list, num_at}
use Rattle.literals.specs.NodeWords.{nodes_words}
use Rattle.list_nodes.specs.declared.filled.Filled.{Filled}
use Rattle.list_nodes.specs.Ground.{Ground, layout_of}

-- list number t of some, from 1
abbrev pub list_at : List Listed → ℕ → Listed
list_at ls t = get_or ls (t - 1) no_list

-- what a constraint counts, by the table of durations, the users of the resources and the rows of the groups
abbrev pub counted_in : (durations : List ℕ) (us : ℕ → List ℕ) (groups : List ℕ) → Head → Kind → Counted
counted_in d us groups h k = counted_of h.times (duration_in h.events d) us (group_in h.groups groups) k

-- list number t of it
abbrev pub list_in : (durations : List ℕ) (us : ℕ → List ℕ) (groups : List ℕ) → Head → Kind → ℕ → Listed
list_in d us groups h k t = list_at (counted_in d us groups h k).lists t

-- the only list of a kind that goes by no durations and no users
abbrev pub only_in : (groups : List ℕ) → Head → Kind → Listed
only_in groups h k = list_in [] (λ r. []) groups h k 1

-- the literal of an atom
abbrev pub num_of : Head → Atom → ℕ
num_of h = num_at h.times (layout_of h)

-- the list stands at the front of the words, its first node as the variable v
pub record Stored (num : Atom → ℕ) (l : Listed) (v : ℕ) (words : List ℕ) (r : Filled) : Type 0 where
  pub holds : Holds words r.end (nodes_words v (map (node_gate num v) l.nodes) ++ map (ref_literal num v) l.members)
  pub nodes : r.nodes ≡ length (map (node_gate num v) l.nodes)
  pub at : r.at ≡ length (nodes_words v (map (node_gate num v) l.nodes))

-- a list without nodes, whatever the variable
pub record Plain (num : Atom → ℕ) (l : Listed) (words : List ℕ) (r : Filled) : Type 0 where
  pub stored : (v : ℕ) → Stored num l v words r

-- a list of at most 255 members, and at least as many as the low bound
pub record Short (c : Counted) (l : Listed) : Type 0 where
  pub most : length l.members ≤ 255
  pub reached : c.lo ≤ length l.members

-- a constraint's fields refer to what there is, its list stands in the store, and its counted lists are short
pub record Fits (durations users groups list : List ℕ) (h : Head) (k : Kind) : Type 0 where
  pub ground : Ground groups h
  pub lasts : length durations ≡ 1024
  pub store : length list ≡ 2048
  pub range : InRange (counts_in h) k
  pub rows : UserRows users
  pub resources : h.resources ≤ 99
  pub short : Each (Short (counted_in durations (users_at users) groups h k)) (counted_in durations (users_at users) groups h k).lists
