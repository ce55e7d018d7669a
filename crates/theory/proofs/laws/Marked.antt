-- Hints and literals by marks, a number for each variable, as the code keeps them: laws.
use mathlib.Core.Bool.{Bool, true, ◌&&◌}
use mathlib.Core.List.{List, [], ◌∷◌}
use mathlib.Core.Option.{Option, none, some}
use Prim.Native.Nat.{ℕ, ◌+◌, ◌-◌, ◌/◌, ◌%◌}
use lib.Dec.{leb, ltb, eqb}
use Rattle.scope.specs.Steps.{Step, add, delete, put, Live, Shown, follows, not_live, breaks}
use Rattle.theory.specs.Marked.{Marks, Standing, standing, falsified, one_open, other}

abbrev pub all_open : Marks
all_open v = 0

abbrev pub make_true : Marks → ℕ → Marks
make_true m l = put m (l / 2) (1 + l % 2)

abbrev pub make_false : Marks → ℕ → Marks
make_false m l = put m (l / 2) (2 - l % 2)

-- "set each literal of the new clause false"
unfoldable pub all_false : Marks → List ℕ → Marks
all_false m [] = m
all_false m (l ∷ ls) = all_false (make_false m l) ls

-- literals of variables up to the formula's last, no variable twice: each is of a variable that those before it leave open
unfoldable pub literals_ok : ℕ → Marks → List ℕ → Bool
literals_ok last m [] = true
literals_ok last m (l ∷ ls) = leb 2 l && leb (l / 2) last && eqb (m (l / 2)) 0 && literals_ok last (make_false m l) ls

-- not misformed by 14: an id above every earlier id, and good literals
unfoldable pub well_formed : ℕ → ℕ → Step → Bool
well_formed last highest (add id ls hs) = ltb highest id && literals_ok last all_open ls
well_formed last highest (delete ids) = true

-- what one hint is: not live; it breaks the rule; all its literals are false; it makes a literal true
pub data Hint : Type 0 where
  gone : Hint
  wrong : Hint
  conflict : Hint
  implies : (l : ℕ) → Hint

abbrev pub by_standing : Standing → Hint
by_standing falsified = conflict
by_standing (one_open l) = implies l
by_standing other = wrong

abbrev pub hint_of : Option (List ℕ) → Marks → Hint
hint_of none m = gone
hint_of (some c) m = by_standing (standing m falsified c)

abbrev pub by_hint : Hint → (ℕ → Shown) → Shown → Shown
by_hint gone next last = not_live
by_hint wrong next last = breaks
by_hint conflict next last = last
by_hint (implies l) next last = next l

abbrev pub if_last : List ℕ → Shown
if_last [] = follows
if_last (h ∷ hs) = breaks

-- "each hint in turn is a live clause with exactly one open literal, no true one, which is then set true; the last hint, and
-- no earlier one, has all literals false"
unfoldable pub hints_show : Live → Marks → List ℕ → Shown
hints_show L m [] = breaks
hints_show L m (h ∷ hs) = by_hint (hint_of (L h) m) (λ l. hints_show L (make_true m l) hs) (if_last hs)
