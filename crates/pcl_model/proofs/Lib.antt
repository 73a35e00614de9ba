mod CellLemmas
mod SerialLemmas
