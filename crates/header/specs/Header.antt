-- The header's bytes for three numbers, and their length.
use Rattle.std.specs.Prelude.{List, ◌++◌, ℕ}
use Rattle.scope.specs.Text.{decimal, header, space, newline}

-- "p wcnf V C top"
unfoldable pub header_text : ℕ → ℕ → ℕ → List ℕ
header_text v c t = header ++ decimal v ++ space ++ decimal c ++ space ++ decimal t ++ newline
