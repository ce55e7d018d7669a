-- A calendar's windows: what each stands for, and that a file with its groups spelled out is read as the same instance, so that every
-- operation answers alike for the two.
use Prim.Native.Nat.{ℕ, zero, suc, ◌≤◌}
use mathlib.Core.Path.{◌≡◌, refl, sym, subst, ◌∙◌}
use mathlib.Core.List.{List}
use lib.ListN.{length}
use Rattle.scope.specs.Parsed.{got, Answer, answered, refusal, then}
use Rattle.scope.specs.Instance.{Instance, file_up_to, parse}
use Rattle.scope.specs.SpelledOut.{spelled_out}
use Rattle.scope.specs.Operations.{Lent, read_of, score_of, same_sheet_of, sizes_of, text_size_of, text_of, decode_of, solver_text_of, check_of, check_hard_of, nothing_below, best_of}
use Rattle.scope.specs.Demands.{Accepted, Alike, DemandCalendar}
use Rattle.parsing.proofs.laws.Parsing.{got-value}
use Rattle.spelled_out.proofs.laws.Pieces.{Pieces, pieces, made_of, spelled}
use Rattle.spelled_out.proofs.laws.Whole.{few-groups}
use Rattle.spelled_out.proofs.laws.SpelledFile.{spelled-read}
use Rattle.spelled_out.proofs.laws.Shown.{shows, only}

-- operations that go on alike answer alike
then_same : {A B : Type 0} (a : Answer A) (f g : A → Answer B) → ((x : A) → f x ≡ g x) → then a f ≡ then a g
then_same (answered x) f g h = h x
then_same (refusal k v) f g h = refl

-- two files that are read as the same instance
module _ (a b : List ℕ) (i : Instance) (m n : ℕ) (p : parse a ≡ got i m) (q : parse b ≡ got i n) where
  decode_alike : (m : List ℕ) → decode_of a m ≡ decode_of b m
  unfolding decode_of
  decode_alike m = rw (p, q)

  check_alike : (B : ℕ) (proof : List ℕ) (l : Lent) → check_of a B proof l ≡ check_of b B proof l
  unfolding check_of
  check_alike B proof l = rw (p, q)

  below_alike : (w : ℕ) (proof : List ℕ) (l : Lent) → nothing_below a w proof l ≡ nothing_below b w proof l
  below_alike zero proof l = refl
  below_alike (suc B) proof l = check_alike B proof l

  solver_text_alike : (output : List ℕ) (model store : ℕ) → solver_text_of a output model store ≡ solver_text_of b output model store
  unfolding solver_text_of
  solver_text_alike output model store = rw (p, q) (simp decode_alike)

  best_alike : (m proof : List ℕ) (l : Lent) → best_of a m proof l ≡ best_of b m proof l
  unfolding best_of
  best_alike m proof l =
      rw (decode_alike m)
      (then_same (decode_of b m) _ _ (λ d. rw (below_alike d.1.0 proof l)))

  same_instance : Alike a b
  unfolding read_of score_of same_sheet_of sizes_of text_size_of text_of check_hard_of
  same_instance =
      record {
        read = rw (p, q);
        score = λ t. rw (p, q);
        sheet = λ t u. rw (p, q);
        sizes = λ B. rw (p, q);
        text-size = rw (p, q);
        text = λ room. rw (p, q);
        decode = decode_alike;
        solver-text = solver_text_alike;
        check = check_alike;
        check-hard = λ proof l. rw (p, q);
        best = best_alike;
      }

module _ (file : List ℕ) (i : Instance) (a : Accepted file i) where
  the_pieces : Pieces 1024 file i
  unfolding parse
  the_pieces = pieces 1024 file a.parsed

  spelled_out_lem : (s : List ℕ) × (end : ℕ) × (spelled_out file ≡ got s end) × (file_up_to 2048 s ≡ got i (length s))
  spelled_out_lem =
      let p = the_pieces in (made_of p, p.f, spelled file p, spelled-read file i p 2048 (few-groups file i p))

  alike : (s : List ℕ) (end : ℕ) → spelled_out file ≡ got s end → length i.groups ≤ 1024 → Alike file s
  unfolding parse
  alike s end e few =
      let p = the_pieces in
      let same : made_of p ≡ s = got-value (sym (spelled file p) ∙ e) in
      subst (λ (s : List ℕ). Alike file s) same
      (same_instance file (made_of p) i a.end (length (made_of p)) a.parsed (spelled-read file i p 1024 few))

pub demand_calendar : DemandCalendar
demand_calendar =
    record {
      shows = shows;
      only = only;
      spelled_out_lem = spelled_out_lem;
      alike = λ file i s end a e few. alike file i a s end e few;
    }
