-- A file read into stores and sized: the length of its text, and its text put together from header, hard lines and soft lines: laws.
use mathlib.Core.Path.{◌≡◌, sym, ap, ◌∙◌}
use mathlib.Core.List.{List}
use Prim.Native.Nat.{ℕ, ◌+◌, ◌≤◌}
use native.Mathlib.Omega.{arith}
use lib.ListN.{length}
use Rattle.scope.specs.Formula.{variables, hard_of, soft_of}
use Rattle.scope.specs.Text.{header_line, text, top}
use Rattle.constraint.specs.declared.kinds.Head.{Head}
use Rattle.instance.specs.Answers.{instance_of}
use Rattle.sizing.specs.declared.Size.{Size}
use Rattle.sink.specs.Run.{Out, out, put, further, Ran, then}
use Rattle.sink.proofs.laws.Run.{run_at}
use Rattle.sink.specs.Meaning.{hard_text}
use Rattle.sink.proofs.laws.Meaning.{soft_text}
use Rattle.sink.specs.declared.Mode.TheVariants.{Measure, Text, SoftText}
use Rattle.clauses.specs.Writable.{Writable}
use Rattle.header.specs.Header.{header_text}
use Rattle.header.proofs.laws.Header.{header-line}
use Rattle.text.specs.Lines.{LinesRan}
use Rattle.text.proofs.laws.Lines.{hard_ran, soft_ran, lines_measured}
use Rattle.text.proofs.laws.Length.{text-length, lines_few}
use Rattle.text.specs.Ready.{Ready}

-- a position after stores is at most 2 ^ 63 - 1
pub ran-at : {xs b b' : List ℕ} {a a' : ℕ} → a ≤ 9223372036854775807 → Ran put xs (out a b) (out a' b') → a' ≤ 9223372036854775807
ran-at {xs} {b} {b'} {a} {a'} h r =
    let e : a' ≡ further a (length xs) = ap (λ (o : Out). o.at) r.eq ∙ run_at xs b a h in omega arith

module _ {s d te tg list : List ℕ} {h : Head} {z : Size} (r : Ready s d te tg list h z) where
  pub writable : Writable s d te tg list h
  writable = record { accepted = r.sized.accepted; stores = r.stores; few = r.sized.few }

  -- the header's numbers are those of the formula
  header_of : header_text z.variables (z.clauses + z.units) (z.weight + 1) ≡ header_line (instance_of s d te tg h)
  header_of =
      let n = r.sized.numbers in
      rw (n.variables, n.clauses, n.units, n.top) (sym (header-line (instance_of s d te tg h)))

  -- the lines' length is not cut
  lines_length : {a' : ℕ} {b b' : List ℕ} → LinesRan Measure (z.weight + 1) (instance_of s d te tg h) (out 0 b) (out a' b')
      → a' ≡ length (hard_text (top (instance_of s d te tg h)) (hard_of (instance_of s d te tg h))) + length (soft_text (soft_of (instance_of s d te tg h)))
  lines_length {a'} {b} l =
      let n = r.sized.numbers in
      let few = lines_few (instance_of s d te tg h) n in
      let f = lines_measured (rw n.top at l) (omega arith) in
      omega arith

  pub lines_below : {a : ℕ} {b b' : List ℕ} → LinesRan Measure (z.weight + 1) (instance_of s d te tg h) (out 0 b) (out a b')
      → a ≤ 99149320028160
  lines_below l = omega (arith, lines_length l, lines_few (instance_of s d te tg h) r.sized.numbers)

  pub whole_length : {m a : ℕ} {b b' : List ℕ} → m ≡ length (header_text z.variables (z.clauses + z.units) (z.weight + 1))
      → LinesRan Measure (z.weight + 1) (instance_of s d te tg h) (out 0 b) (out a b')
      → m + a ≡ length (text (instance_of s d te tg h))
  whole_length e l =
      let i = instance_of s d te tg h in
      let n = lines_length l in
      omega (arith, text-length i, rw header_of at e)

  -- header, hard lines and soft lines are the text
  pub whole_text : {o o₁ o₂ o₃ : Out}
      → Ran put (header_text z.variables (z.clauses + z.units) (z.weight + 1)) o o₁
      → LinesRan Text (z.weight + 1) (instance_of s d te tg h) o₁ o₂
      → LinesRan SoftText (z.weight + 1) (instance_of s d te tg h) o₂ o₃
      → Ran put (text (instance_of s d te tg h)) o o₃
  unfolding text
  whole_text p q w = then (then (rw header_of at p) (hard_ran (rw r.sized.numbers.top at q))) (soft_ran w)
