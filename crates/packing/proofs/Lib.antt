mod RowFloats
