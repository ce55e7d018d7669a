-- What the text's operations answer, and every byte of the output after them: laws.
use mathlib.Core.Path.{◌≡◌, sym, ap, ◌∙◌}
use mathlib.Core.List.{List}
use Prim.Native.Nat.{ℕ, ◌≤◌, ◌<◌}
use native.Mathlib.Nat.{zero-add}
use native.Mathlib.Omega.{arith}
use lib.Dec.{leb}
use lib.ListN.{length}
use borrow.Author.Tests.{le-leb, lt-leb}
use Rattle.scope.specs.Parsed.{answered, refusal, provided}
use Rattle.scope.specs.Instance.{Instance}
use Rattle.scope.specs.Text.{text}
use Rattle.scope.specs.Operations.{text_size_of, text_of}
use Rattle.scope.specs.Answers.{given}
use Rattle.scope.specs.declared.refusal.Refusal.{Refusal}
use Rattle.constraint.specs.declared.kinds.Head.{Head}
use Rattle.instance.specs.Answers.{instance_of}
use Rattle.sizing.specs.declared.Size.{Size}
use Rattle.sizes.specs.Measured.{sized_of, SizedBy, RefusedBy}
use Rattle.sizes.proofs.laws.Measured.{size-then}
use Rattle.sink.specs.Run.{Out, out, put, Ran}
use Rattle.sink.proofs.laws.Run.{run_fits}
use Rattle.text.specs.Written.{written, text_in}

-- a file that was sized, and one that was refused
module _ {s d te tg : List ℕ} {h : Head} {z : Size} (b : SizedBy s d te tg h z) where
  pub size_answered : answered (length (text (instance_of s d te tg h))) ≡ text_size_of s
  unfolding text_size_of
  size_answered = sym (size-then s (λ i. answered (length (text i))) ∙ rw b.answer)

  pub text_fitted : (room : ℕ) → text_in (instance_of s d te tg h) room ≡ text_of s room
  unfolding text_of text_in
  text_fitted room = sym (size-then s (λ i. provided (leb (length (text i)) room) 9 0 (answered (text i))) ∙ rw b.answer)

module _ (s : List ℕ) {f : Refusal} (r : RefusedBy (sized_of s) f) where
  pub size_refused : given f ≡ text_size_of s
  unfolding text_size_of
  size_refused = sym (size-then s (λ i. answered (length (text i))) ∙ rw r.answer)

  pub text_refused : (room : ℕ) (b : List ℕ) → (given f, b) ≡ written (text_of s room) b
  unfolding text_of
  text_refused room b = rw (size-then s (λ i. provided (leb (length (text i)) room) 9 0 (answered (text i))), r.answer)

-- there is room for the text, or too little
module _ (i : Instance) {b : List ℕ} {n : ℕ} (m : n ≡ length (text i)) where
  pub text_written : {e : ℕ} {b' : List ℕ} → n ≤ length b → length b ≤ 9223372036854775807 → Ran put (text i) (out 0 b) (out e b')
      → (answered n, b') ≡ written (text_in i (length b)) b
  unfolding text_in
  text_written {e} {b'} h k p =
      let f = ap (λ (o : Out). o.buf) (p.eq ∙ run_fits (text i) b 0 (omega arith) k) in
      rw (le-leb (length (text i)) (length b) (omega arith), m, f, zero-add (length (text i)))

  pub text_too_long : length b < n → (refusal 9 0, b) ≡ written (text_in i (length b)) b
  unfolding text_in
  text_too_long h = rw (lt-leb (length (text i)) (length b) (omega arith))
