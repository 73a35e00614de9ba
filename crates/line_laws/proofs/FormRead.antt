-- A line is one of a form exactly where reading it field by field comes to its end.
use Rattle.std.proofs.Common.{◌≡◌, ℕ, ◌≤◌, false, List, [], ◌∷◌, length, drop, refl, sym, ap, ◌∙◌, arith}
use Rattle.text_rules.specs.FieldBytes.{pick}
use Rattle.text_rules.specs.BadLine.{is_all}
use Rattle.text_rules.specs.LineForms.{Piece, Word, Number, Bytes, Flags, Owners, Reach, reach_of, reach_of_piece, reach_of_flags, reach_of_bytes, reach_of_owners}
use Rattle.text_rules.specs.ReadEvent.{is_flag}
use Rattle.std.proofs.lemmas.List.Sums.{prefix_len-le-length}
use Rattle.line_laws.proofs.Words.{shared-le-bytes}
use Rattle.line_laws.proofs.FieldByField.{reads, IsForm, EndsDigits, no_digit, step_is, last_is, word_reach}
use Rattle.line_laws.proofs.PieceByPiece.{Stops, number_reach, number_most, flags_reach}
use Rattle.line_laws.proofs.OwnersRead.{owners_reach}
use Rattle.line_laws.proofs.BytesRead.{bytes_reach}

pub stops_at : (ps : List Piece) → EndsDigits ps → Stops (reads ps)
stops_at ps ends b rest digit = no_digit ps b rest ends digit

pub flags_most : (bs : List ℕ) → (reach_of_flags bs).count ≤ length bs
flags_most bs = let le = prefix_len-le-length is_flag bs in omega (arith, le)

-- a piece and the pieces behind it
piece_then : (p : Piece) (ps : List Piece) (bs : List ℕ) → (reach_of_piece p bs).count ≤ length bs
    → ((rest : List ℕ) → is_all (length rest) (reach_of ps rest) ≡ reads ps rest)
    → is_all (length bs) (reach_of (p ∷ ps) bs) ≡ pick (reach_of_piece p bs).is_whole (reads ps (drop (reach_of_piece p bs).count bs)) false
piece_then p ps bs most rest =
    let r : Reach = reach_of_piece p bs in
    step_is r bs (λ n. reach_of ps (drop n bs)) most ∙ ap (λ t. pick r.is_whole t false) (rest (drop r.count bs))

pub form_read : (ps : List Piece) (bs : List ℕ) → IsForm ps → is_all (length bs) (reach_of ps bs) ≡ reads ps bs
form_read [] bs form = refl
form_read (Word w ∷ ps) bs form =
    piece_then (Word w) ps bs (shared-le-bytes w bs) (λ rest. form_read ps rest form) ∙ sym (word_reach w bs (reads ps))
form_read (Number low high ∷ ps) bs form =
    piece_then (Number low high) ps bs (number_most low high bs) (λ rest. form_read ps rest form.4)
    ∙ sym (number_reach low high bs (reads ps) form.2 (stops_at ps form.3))
form_read (Bytes ∷ []) bs form = last_is (reach_of_bytes bs) bs ∙ sym (bytes_reach bs)
form_read (Bytes ∷ p ∷ ps) bs form = absurd form
form_read (Flags ∷ ps) bs form =
    piece_then Flags ps bs (flags_most bs) (λ rest. form_read ps rest form.1) ∙ sym (flags_reach bs (reads ps) (stops_at ps form.0))
form_read (Owners ∷ []) bs form = last_is (reach_of_owners bs) bs ∙ sym (owners_reach bs)
form_read (Owners ∷ p ∷ ps) bs form = absurd form
