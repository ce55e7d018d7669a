-- How a proof is spelt in bytes, as relations with no reader in them.
use Rattle.std.specs.Prelude.{List, [], ◌∷◌, ◌++◌, ℕ, ◌+◌, ◌*◌, ◌%◌, ◌≤◌, ◌<◌}
use Rattle.scope.specs.Number.{most}
use Rattle.scope.specs.Steps.{Step, add, delete}

-- "groups of seven bits, lowest first, the top bit set on all bytes but the last, in its shortest form": v is spelt by the bytes
pub data Spells : ℕ → List ℕ → Type 0 where
  last : {b : ℕ} → b < 128 → Spells b (b ∷ [])
  more : {b n : ℕ} {bs : List ℕ} → 128 ≤ b → 1 ≤ n → Spells n bs → Spells (b % 128 + n * 128) (b ∷ bs)

-- numbers, none of them 0, "at most 4,294,967,295", and a closing 0
pub data SpellsList : List ℕ → List ℕ → Type 0 where
  closing : SpellsList [] (0 ∷ [])
  item : {n : ℕ} {ns bs cs : List ℕ} → 1 ≤ n → n ≤ most → Spells n bs → SpellsList ns cs → SpellsList (n ∷ ns) (bs ++ cs)

-- "byte 97 (a), an id .., literals, 0, hint ids, 0; or byte 100 (d), ids to delete, 0"
pub data SpellsStep : Step → List ℕ → Type 0 where
  adds : {id : ℕ} {ls hs us bs cs : List ℕ} → id ≤ most → Spells id us → SpellsList ls bs → SpellsList hs cs
      → SpellsStep (add id ls hs) (97 ∷ (us ++ (bs ++ cs)))
  deletes : {ids us : List ℕ} → SpellsList ids us → SpellsStep (delete ids) (100 ∷ us)

-- "a list of well-formed steps and nothing else"
pub data SpellsProof : List Step → List ℕ → Type 0 where
  nothing : SpellsProof [] []
  step : {s : Step} {ss : List Step} {bs cs : List ℕ} → SpellsStep s bs → SpellsProof ss cs → SpellsProof (s ∷ ss) (bs ++ cs)
