mod PairLines
