-- Owners are printed one by one.
use Rattle.std.proofs.Common.{◌≡◌, ℕ, suc, ◌+◌, ◌<◌, ◌≤◌, ◌==◌, false, List, [], ◌∷◌, ◌++◌, length, length-take, take, map, get_or, codes, decimal, refl, sym, ap, ◌∙◌, arith, append_assoc}
use Rattle.std.specs.List.{join_with_byte}
use Rattle.std.proofs.lemmas.List.{take_more, map-append}
use Rattle.text_rules.specs.FieldBytes.{pick}
use Rattle.text_rules.specs.ScheduleLine.{numbers_text}
use Rattle.schedule_text.specs.Seen.{owner_text}

join_push : (xs : List (List ℕ)) (y : List ℕ) → 1 ≤ length xs → join_with_byte 44 (xs ++ y ∷ []) ≡ join_with_byte 44 xs ++ (44 ∷ y)
join_push [] y some = absurd (omega (arith, some))
join_push (x ∷ []) y some = refl
join_push (x ∷ z ∷ zs) y some =
    ap (λ l. x ++ (44 ∷ l)) (join_push (z ∷ zs) y (omega arith)) ∙ sym (append_assoc x (44 ∷ join_with_byte 44 (z ∷ zs)) (44 ∷ y))

numbers_push : (ns : List ℕ) (n : ℕ) → numbers_text (ns ++ n ∷ []) ≡ numbers_text ns ++ owner_text (length ns) n
numbers_push [] n = refl
numbers_push (m ∷ ns) n =
    let some : (suc (length ns) == 0) ≡ false = grind arith in
    ap (join_with_byte 44) (map-append decimal (m ∷ ns) (n ∷ []))
    ∙ (join_push (map decimal (m ∷ ns)) (decimal n) (omega arith)
    ∙ ap (λ t. numbers_text (m ∷ ns) ++ pick t (decimal n) (codes "," ++ decimal n)) (sym some))

-- one owner more
pub numbers_more : (ns : List ℕ) (i : ℕ) → i < length ns → numbers_text (take i ns) ++ owner_text i (get_or ns i 0) ≡ numbers_text (take (i + 1) ns)
numbers_more ns i below =
    let len : length (take i ns) ≡ i = length-take i ns ∙ omega (arith, below) in
    ap (λ k. numbers_text (take i ns) ++ owner_text k (get_or ns i 0)) (sym len)
    ∙ (sym (numbers_push (take i ns) (get_or ns i 0)) ∙ ap numbers_text (sym (take_more ns i 0 below)))
