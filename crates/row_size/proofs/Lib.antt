mod RowSize
