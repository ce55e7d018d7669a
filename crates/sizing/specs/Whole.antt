-- What stores a formula of some size needs.
use Rattle.scope.specs.declared.FormulaSize.{FormulaSize}
use Rattle.sizing.specs.declared.Size.{Size}

-- the part of a size that stores are lent for
unfoldable pub stored : Size → FormulaSize
stored s = record { variables = s.variables; clauses = s.clauses; words = s.words }
