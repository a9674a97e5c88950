mod LinesInOrder
