-- What the program prints for its input, where it is printed from a buffer: laws.
use mathlib.Core.Path.{◌≡◌, refl, sym, ap, ◌∙◌}
use mathlib.Core.Bool.{Bool, true, false, cond}
use mathlib.Core.List.{List, ◌++◌}
use Prim.Native.Nat.{ℕ, ◌+◌, ◌≤◌, ◌<◌}
use native.Mathlib.Nat.{zero-add}
use native.Mathlib.Omega.{arith}
use lib.Dec.{leb}
use lib.ListN.{length, take, drop, length-append, length-take}
use lib.Seq.{take_all}
use borrow.Author.Tests.{le-leb, lt-leb, leb-true, leb-false}
use Rattle.scope.specs.Parsed.{Parsed, got, refused, Answer, answered, refusal, with, provided}
use Rattle.scope.specs.Instance.{Instance, parse}
use Rattle.scope.specs.Formula.{variables, most_variables}
use Rattle.scope.specs.Text.{text}
use Rattle.scope.specs.Operations.{text_of, printed, program_prints}
use Rattle.std.specs.Counts.{IsPrefixLen}
use Rattle.sink.specs.Run.{Out, out, put, Ran, run}
use Rattle.sink.proofs.laws.Run.{run_fits}
use Rattle.text.specs.Written.{written}
use Rattle.text.proofs.laws.Length.{digits-few}
use Rattle.text_program.specs.Prints.{answer_for}

-- a file that is too long
pub long-ran : (s : List ℕ) (room : ℕ) {w w' : Out} → 65536 < length s → Ran put (printed (refusal 9 0)) w w'
    → Ran put (printed (answer_for s room)) w w'
unfolding answer_for
long-ran s room h r = rw (lt-leb (length s) 65536 h) r

-- one that is not
module _ (s b : List ℕ) (h : length s ≤ 65536) where
  -- the text, where it was written
  pub accepted_ran : {b' : List ℕ} {n : ℕ} → length b ≤ 9223372036854775807 → length b' ≡ length b
      → (answered n, b') ≡ written (text_of s (length b)) b → Ran put (printed (answer_for s (length b))) (out 0 b) (out n b')
  unfolding answer_for
  accepted_ran {b'} {n} g k e = rw (le-leb (length s) 65536 h) (go (text_of s (length b)) e)
    where
      go : (a : Answer (List ℕ)) → (answered n, b') ≡ written a b → Ran put (printed a) (out 0 b) (out n b')
      go (answered xs) e =
          let p : answered n ≡ answered (length xs) = ap (λ (x : Answer ℕ × List ℕ). x.0) e in
          let q : n ≡ length xs = cc in
          let r : b' ≡ xs ++ drop (length xs) b = ap (λ (x : Answer ℕ × List ℕ). x.1) e in
          let l : 0 + length xs ≤ length b = omega (arith, k, ap length r, length-append xs (drop (length xs) b)) in
          record { eq = rw (q, r) (sym (rw (zero-add (length xs)) at (run_fits xs b 0 l g))) }
      go (refusal k v) e =
          let p : answered n ≡ refusal k v = ap (λ (x : Answer ℕ × List ℕ). x.0) e in
          let z : ◌≡◌ {A = ℕ} 0 1 = cc in let f : ⊥ = omega arith in absurd f

  -- the refusal, where it was refused
  pub refused_ran : {b'' : List ℕ} {k v : ℕ} {w : Out} → (refusal k v, b'') ≡ written (text_of s (length b)) b
      → Ran put (printed (refusal k v)) (out 0 b'') w → Ran put (printed (answer_for s (length b))) (out 0 b) w
  unfolding answer_for
  refused_ran {b''} {k} {v} {w} e r = rw (le-leb (length s) 65536 h) (go (text_of s (length b)) e)
    where
      go : (a : Answer (List ℕ)) → (refusal k v, b'') ≡ written a b → Ran put (printed a) (out 0 b) w
      go (answered xs) e =
          let p : refusal k v ≡ answered (length xs) = ap (λ (x : Answer ℕ × List ℕ). x.0) e in
          let z : ◌≡◌ {A = ℕ} 0 1 = cc in let f : ⊥ = omega arith in absurd f
      go (refusal k' v') e =
          let p : ◌≡◌ {A = Answer ℕ} (refusal k v) (refusal k' v') = ap (λ (x : Answer ℕ × List ℕ). x.0) e in
          let q : k ≡ k' = cc in
          let q' : v ≡ v' = cc in
          let t : b'' ≡ b = ap (λ (x : Answer ℕ × List ℕ). x.1) e in
          rw (q, q', t) at r

-- a refusal's line is short
line-short : (k v : ℕ) → length (printed (refusal k v)) ≤ 42
line-short k v = simp length-append (omega (arith, digits-few 19 k, digits-few 19 v))

-- a text that is answered has no more bytes than it may
text-fits : (s : List ℕ) (room : ℕ) → 42 ≤ room → length (printed (text_of s room)) ≤ room
unfolding text_of
text-fits s room h = of_file (parse s)
  where
    sized : (i : Instance) (b c : Bool) → leb (length (text i)) room ≡ c
        → length (printed (provided b 8 0 (provided c 9 0 (answered (text i))))) ≤ room
    sized i false c e = omega (arith, line-short 8 0)
    sized i true false e = omega (arith, line-short 9 0)
    sized i true true e = leb-true (length (text i)) room e

    of_file : (p : Parsed Instance)
        → length (printed (with p (λ i. provided (leb (variables i) most_variables) 8 0 (provided (leb (length (text i)) room) 9 0 (answered (text i)))))) ≤ room
    of_file (got i end) = sized i (leb (variables i) most_variables) (leb (length (text i)) room) refl
    of_file (refused k v) = omega (arith, line-short k v)

answer-fits : (s : List ℕ) (room : ℕ) → 42 ≤ room → length (printed (answer_for s room)) ≤ room
unfolding answer_for
answer-fits s room h = go (leb (length s) 65536)
  where
    go : (t : Bool) → length (printed (cond t (text_of s room) (refusal 9 0))) ≤ room
    go true = text-fits s room h
    go false = omega (arith, line-short 9 0)

-- a buffer of 65,536 bytes has room for all that the program prints
module _ (s : List ℕ) {b b' : List ℕ} {n : ℕ} (l : 65536 ≡ length b) (r : Ran put (printed (answer_for s (length b))) (out 0 b) (out n b')) where
  pub whole : out n b' ≡ out (length (program_prints s)) (program_prints s ++ drop (length (program_prints s)) b)
  unfolding program_prints answer_for
  whole =
      let xs = printed (answer_for s 65536) in
      let f : length xs ≤ 65536 = answer-fits s 65536 (omega arith) in
      let e : out n b' ≡ run put xs (out 0 b) = rw (sym l) at r.eq in
      e ∙ (rw (zero-add (length xs)) at (run_fits xs b 0 (omega (arith, f, l)) (omega (arith, l))))

  -- the count that is returned lies within the buffer
  pub prints : IsPrefixLen n b'
  prints =
      let p : n ≡ length (program_prints s) = ap (λ (o : Out). o.at) whole in
      let q : b' ≡ program_prints s ++ drop (length (program_prints s)) b = ap (λ (o : Out). o.buf) whole in
      let h : n ≤ length b' = rw (p, q) (omega (arith, length-append (program_prints s) (drop (length (program_prints s)) b))) in
      (h, rw length-take (omega arith))

-- what is printed for a file that is too long
long-file : (s : List ℕ) → 65536 < length s → printed (refusal 9 0) ≡ program_prints s
unfolding program_prints
long-file s h = rw (lt-leb (length s) 65536 h)

-- no more than 65,537 bytes of the input matter
pub enough : (s : List ℕ) → program_prints (take 65537 s) ≡ program_prints s
enough s = go (leb (length s) 65537) refl
  where
    go : (t : Bool) → leb (length s) 65537 ≡ t → program_prints (take 65537 s) ≡ program_prints s
    go true e = ap program_prints (take_all 65537 s (leb-true (length s) 65537 e))
    go false e =
        let h : 65537 < length s = leb-false (length s) 65537 e in
        sym (long-file (take 65537 s) (rw length-take (omega arith))) ∙ long-file s (omega arith)
