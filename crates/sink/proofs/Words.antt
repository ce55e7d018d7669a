-- A word of a block in the text: its line started, its literal written and, where it is its clause's last, its line ended.
use mathlib.Core.Path.{◌≡◌, ap, ◌∙◌}
use mathlib.Core.Bool.{Bool}
use mathlib.Core.List.{◌∷◌}
use Prim.Native.Nat.{ℕ, ◌-◌, ◌%◌, ◌≤◌, ◌<◌}
use native.Mathlib.Omega.{arith}
use borrow.Author.Tests.{lt-leb, le-leb}
use Rattle.scope.specs.Text.{literal_text, newline}
use Rattle.sink.specs.Run.{run, Ran, Out, put}
use Rattle.sink.specs.Block.{opened, by_word}
use Rattle.sink.specs.Parts.{text_parts}

module _ (top : ℕ) (first : Bool) (w : ℕ) (o : Out) {p q : Out} (start : p ≡ opened (text_parts top) first o) (literal : Ran put (literal_text (w % 2147483648)) p q) where
  pub written_open : w < 2147483648 → q ≡ by_word (text_parts top) first w o
  written_open h =
      let e : w % 2147483648 ≡ w = omega arith in
      rw (lt-leb 2147483648 w h) (rw e at literal.eq ∙ ap (run put (literal_text w)) start)

  pub written_last : {r : Out} → Ran put (48 ∷ newline) q r → 2147483648 ≤ w → w < 4294967296 → r ≡ by_word (text_parts top) first w o
  written_last end h k =
      let e : w % 2147483648 ≡ w - 2147483648 = omega arith in
      rw (le-leb 2147483648 w h)
      (end.eq ∙ ap (run put (48 ∷ newline)) (rw e at literal.eq ∙ ap (run put (literal_text (w - 2147483648))) start))
