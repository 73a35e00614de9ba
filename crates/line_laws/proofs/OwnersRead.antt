-- Owners, by how far the bytes follow them and as they are read.
use Rattle.std.proofs.Common.{◌≡◌, ℕ, zero, suc, ◌+◌, ◌==◌, ◌&&◌, Bool, true, false, List, [], ◌∷◌, length, drop, refl, sym, ap, ◌∙◌, Option, Some, None, arith}
use Rattle.std.proofs.lemmas.Bool.{eqb-true}
use Rattle.text_rules.specs.FieldBytes.{pick}
use Rattle.text_rules.specs.BadLine.{is_all}
use Rattle.text_rules.specs.LineForms.{Reach, reach_of_number, reach_of_more, reach_of_owners, and_then, behind}
use Rattle.text_rules.specs.ReadLine.{◌>>=◌, number_at}
use Rattle.text_rules.specs.ReadEvent.{more_owners, owners_of}
use Rattle.line_laws.proofs.FieldByField.{if_read, is_read, step_is}
use Rattle.line_laws.proofs.PieceByPiece.{Stops, number_reach, number_most}
use Rattle.line_laws.proofs.Steps.{no_comma, more_none, comma_step}

-- whether up to n owners more are read to the end
abbrev pub reads_more : ℕ → List ℕ → Bool
reads_more n bs = is_read (more_owners n bs)

-- no further owner begins with a digit
more_stops : (n : ℕ) → Stops (reads_more n)
unfolding more_owners
more_stops zero b rest digit = refl
more_stops (suc n) b rest digit = let e : (b == 44) ≡ false = grind (arith, digit) in rw e refl

-- one owner more
pub owner_read : (n : ℕ) (o : Option (ℕ × List ℕ))
    → is_read (o >>= (λ owner. more_owners n owner.1 >>= (λ owners. Some (owner.0 ∷ owners)))) ≡ if_read o (reads_more n)
owner_read n None = refl
owner_read n (Some p) = by (more_owners n p.1)
  where
    by : (q : Option (List ℕ)) → is_read (q >>= (λ owners. Some (p.0 ∷ owners))) ≡ is_read q
    by None = refl
    by (Some owners) = refl

pub comma_read : (n : ℕ) (bs : List ℕ) → reads_more (suc n) (44 ∷ bs) ≡ if_read (number_at 0 15 bs) (reads_more n)
unfolding more_owners
comma_read n bs = owner_read n (number_at 0 15 bs)

-- what is behind a comma
after_comma : (n : ℕ) (bs : List ℕ) (r : Reach) → is_all (suc n) (behind 1 r) ≡ is_all n r
after_comma n bs r =
    let e : (1 + r.count == suc n) ≡ (r.count == n) = grind arith in
    ap (λ t. t && r.is_whole) e

comma_reach : (n : ℕ) (bs : List ℕ) → ((rest : List ℕ) → reads_more n rest ≡ is_all (length rest) (reach_of_more n rest))
    → if_read (number_at 0 15 bs) (reads_more n) ≡ is_all (suc (length bs)) (reach_of_more (suc n) (44 ∷ bs))
comma_reach n bs rest =
    let r : Reach = reach_of_number 0 15 bs in
    let further : ℕ → Reach = λ m. reach_of_more n (drop (1 + m) (44 ∷ bs)) in
    let at : 1 + r.count ≡ suc r.count = omega arith in
    let back : reads_more n (drop r.count bs) ≡ is_all (length (drop r.count bs)) (further r.count) =
    rest (drop r.count bs) ∙ ap (λ k. is_all (length (drop r.count bs)) (reach_of_more n (drop k (44 ∷ bs)))) (sym at) in
    number_reach 0 15 bs (reads_more n) (omega arith) (more_stops n)
    ∙ (ap (λ t. pick r.is_whole t false) back
    ∙ (sym (step_is r bs further (number_most 0 15 bs))
    ∙ (sym (after_comma (length bs) bs (and_then r further)) ∙ ap (is_all (suc (length bs))) (sym (comma_step n bs)))))

-- up to n further owners
pub more_reach : (n : ℕ) (bs : List ℕ) → reads_more n bs ≡ is_all (length bs) (reach_of_more n bs)
unfolding more_owners
more_reach zero [] = refl
more_reach zero (b ∷ bs) = grind arith
more_reach (suc n) [] = refl
more_reach (suc n) (b ∷ bs) = by (b == 44) refl (comma_read n bs ∙ comma_reach n bs (more_reach n))
  where
    by : (t : Bool) → (b == 44) ≡ t → reads_more (suc n) (44 ∷ bs) ≡ is_all (suc (length bs)) (reach_of_more (suc n) (44 ∷ bs))
        → reads_more (suc n) (b ∷ bs) ≡ is_all (suc (length bs)) (reach_of_more (suc n) (b ∷ bs))
    by true h go =
        let same = eqb-true b 44 h in
        ap (λ x. reads_more (suc n) (x ∷ bs)) same ∙ (go ∙ ap (λ x. is_all (suc (length bs)) (reach_of_more (suc n) (x ∷ bs))) (sym same))
    by false h go =
        let none = more_none (suc n) (b ∷ bs) (no_comma (b ∷ bs) (λ some. h)) in
        let unread : reads_more (suc n) (b ∷ bs) ≡ false = rw h refl in
        let over : (0 == suc (length bs)) ≡ false = grind arith in
        unread ∙ sym (ap (is_all (suc (length bs))) none ∙ ap (λ t. t && true) over)

-- all owners
pub owners_reach : (bs : List ℕ) → is_read (owners_of bs) ≡ is_all (length bs) (reach_of_owners bs)
unfolding owners_of
owners_reach bs =
    let r : Reach = reach_of_number 0 15 bs in
    owner_read 15 (number_at 0 15 bs)
    ∙ (number_reach 0 15 bs (reads_more 15) (omega arith) (more_stops 15)
    ∙ (ap (λ t. pick r.is_whole t false) (more_reach 15 (drop r.count bs)) ∙ sym (step_is r bs (λ n. reach_of_more 15 (drop n bs)) (number_most 0 15 bs))))
