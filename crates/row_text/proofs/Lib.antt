mod CellLines
