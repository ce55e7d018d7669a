-- What text and check leave, by their contracts, is what their calls are to leave.
use Prim.Native.Nat.{ℕ}
use mathlib.Core.Path.{◌≡◌, refl, ap, ◌∙◌}
use mathlib.Core.List.{List, ◌++◌}
use lib.ListN.{length, drop, replicate}
use Rattle.scope.specs.Parsed.{Answer, answered, refusal}
use Rattle.scope.specs.Operations.{text_of}
use Rattle.scope.specs.Answers.{means}
use Rattle.std.specs.Prelude.{Result}
use Rattle.scope.specs.declared.refusal.Refusal.{Refusal}
use Rattle.scope.specs.declared.Objective.{Objective}
use Rattle.directory.specs.declared.Row.{Row}
use Rattle.directory.specs.Rows.{no_row}
use Rattle.text.specs.Written.{written}
use Rattle.calls.specs.Call.{Call, call, called}
use Rattle.operation_calls.specs.Operations.{text_call, Stores, zeroed, steps_call}

-- a number in *value and no other output, and the same with outputs that do not go by the answer
abbrev pub alone : Answer ℕ → Call Unit
alone a = called a (λ n. (n, tt)) tt

abbrev leaving : {B : Type 0} → Answer ℕ → B → Call B
leaving (answered n) outputs = call 0 n outputs
leaving (refusal k v) outputs = call k v outputs

-- the number and the value of an answer, and other outputs beside them
with-outputs : {B : Type 0} (a : Answer ℕ) (outputs : B) {number value : ℕ} → call number value tt ≡ alone a
    → call number value outputs ≡ leaving a outputs
with-outputs a outputs e = ap (λ (c : Call Unit). call c.number c.value outputs) e ∙ go a
  where
    go : (a : Answer ℕ) → call (alone a).number (alone a).value outputs ≡ leaving a outputs
    go (answered n) = refl
    go (refusal k v) = refl

-- the text: its length or a refusal, and the output
written-leaves : (a : Answer (List ℕ)) (out : List ℕ)
    → leaving (written a out).0 (written a out).1 ≡ called a (λ t. (length t, t ++ drop (length t) out)) out
written-leaves (answered t) out = refl
written-leaves (refusal k v) out = refl

module _ (file out : List ℕ) (x : Result ℕ Refusal) {after : List ℕ} (e : (means x, after) ≡ written (text_of file (length out)) out) where
  text_leaves : leaving (means x) after ≡ text_call file out
  text_leaves = ap (λ r. leaving r.0 r.1) e ∙ written-leaves (text_of file (length out)) out

  pub text_told : {number value : ℕ} → call number value tt ≡ alone (means x)
      → call number value after ≡ text_call file out
  text_told t = with-outputs (means x) after t ∙ text_leaves

abbrev pub zeros : List ℕ → List ℕ
zeros xs = replicate (length xs) 0

abbrev pub zero_rows : List Row → List Row
zero_rows rs = replicate (length rs) no_row

-- the check: its steps or a refusal, and zeros in the stores
zeroed-leaves : (a : Answer ℕ) (s : Stores) → leaving a (zeroed s) ≡ called a (λ steps. (steps, zeroed s)) (zeroed s)
zeroed-leaves (answered n) s = refl
zeroed-leaves (refusal k v) s = refl

module _ (a : Answer ℕ) (ws : List ℕ) (rs : List Row) (ms : List ℕ) (x : Result ℕ Refusal) {words : List ℕ} {rows : List Row} {marks : List ℕ}
    (e : means x ≡ a) (w : words ≡ zeros ws) (r : rows ≡ zero_rows rs) (m : marks ≡ zeros ms) where
  check_leaves : leaving (means x) (words, rows, marks) ≡ steps_call a (ws, rs, ms)
  check_leaves = rw (e, w, r, m) (zeroed-leaves a (ws, rs, ms))

  pub check_told : {number value : ℕ} → call number value tt ≡ alone (means x)
      → call number value (words, rows, marks) ≡ steps_call a (ws, rs, ms)
  check_told t = with-outputs (means x) (words, rows, marks) t ∙ check_leaves

-- the best model: its cost and steps or a refusal, and zeros in the stores
abbrev pub leaves_best : Answer (Objective × ℕ) → ℕ → Call ℕ
leaves_best a before = called a (λ b. (b.1, b.0.0)) before

abbrev leaves_both : Answer (Objective × ℕ) → ℕ → Stores → Call (ℕ × Stores)
leaves_both a before s = called a (λ b. (b.1, (b.0.0, s))) (before, s)

stores-beside : (a : Answer (Objective × ℕ)) (before : ℕ) (s : Stores) {number value w : ℕ}
    → call number value w ≡ leaves_best a before → call {B = ℕ × Stores} number value (w, s) ≡ leaves_both a before s
stores-beside a before s t = ap (λ (c : Call ℕ). call {B = ℕ × Stores} c.number c.value (c.outputs, s)) t ∙ go a
  where
    go : (a : Answer (Objective × ℕ))
        → call {B = ℕ × Stores} (leaves_best a before).number (leaves_best a before).value ((leaves_best a before).outputs, s)
        ≡ leaves_both a before s
    go (answered b) = refl
    go (refusal k v) = refl

module _ (a : Answer (Objective × ℕ)) (before : ℕ) (ws : List ℕ) (rs : List Row) (ms : List ℕ) (x : Result (Objective × ℕ) Refusal) {words : List ℕ}
    {rows : List Row} {marks : List ℕ} (e : means x ≡ a) (w : words ≡ zeros ws) (r : rows ≡ zero_rows rs) (m : marks ≡ zeros ms) where
  pub best_told : {number value cost : ℕ} → call number value cost ≡ leaves_best (means x) before
      → call {B = ℕ × Stores} number value (cost, (words, rows, marks)) ≡ leaves_both a before (zeroed (ws, rs, ms))
  best_told t = stores-beside (means x) before (words, rows, marks) t ∙ rw (e, w, r, m)
