-- The pieces of forms as the code has them.
use Rattle.std.specs.Prelude.{ℕ, List, map, drop}
use Rattle.text_rules.specs.LineForms.{Piece as FormPiece, Word as word, Number as number, Bytes as bytes, Flags as flags, Owners as owners, Reach, and_then, reach_of_number, reach_of_more}
use Rattle.schedule_text.specs.declared.search.Piece.{Piece}
use Rattle.schedule_text.specs.declared.search.Piece.TheVariants.{Word, Number, Bytes, Flags, Owners}

-- a piece in the words of the grammar
abbrev pub piece_of : Piece → FormPiece
piece_of (Word w) = word w.now
piece_of (Number low high) = number low high
piece_of Bytes = bytes
piece_of Flags = flags
piece_of Owners = owners

abbrev pub form_of : List Piece → List FormPiece
form_of pieces = map piece_of pieces

-- how far bytes follow an owner and up to n further ones
abbrev pub reach_of_list : ℕ → List ℕ → Reach
reach_of_list n line = and_then (reach_of_number 0 15 line) (λ k. reach_of_more n (drop k line))
