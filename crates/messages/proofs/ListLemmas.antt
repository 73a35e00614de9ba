-- Reading the items of a list one by one.
use Rattle.std.proofs.Common.{◌≡◌, ◌∙◌, ℕ, suc, ◌+◌, ◌-◌, ◌<◌, List, map, [], ◌∷◌, ◌++◌, Result, Ok, Err, refl, ap, sym, arith, append_assoc, append-nil}
use Rattle.std.specs.Int.{w32}
use Rattle.std.specs.List.{concat, AllByRecursion}
use Rattle.text_rules.specs.FieldBytes.{Reader, Stop, after, give, items, number}
use Rattle.text_rules.specs.ReadMessage.{list_field}
use Rattle.messages.specs.Reading.{prefixed}

-- no item before those that were read
pub prefixed_none : {X : Type 0} (r : Result (List X × List ℕ) Stop) → r ≡ prefixed [] r
prefixed_none (Ok p) = refl
prefixed_none (Err s) = refl

-- one more item before them
pub prefixed_one : {X : Type 0} (made : List X) (x : X) (r : Result (List X × List ℕ) Stop) → prefixed made (after r (λ xs. give (x ∷ xs))) ≡ prefixed (made ++ x ∷ []) r
prefixed_one made x (Ok p) = ap (λ xs. Ok (xs, p.1)) (sym (append_assoc made (x ∷ []) p.0))
prefixed_one made x (Err s) = refl

-- an item that was read
pub item_read : {X : Type 0} (read : Reader X) (n i : ℕ) (made : List X) (s t : List ℕ) (x : X) → i < n → read s ≡ Ok (x, t) → prefixed made (items (n - i) read s) ≡ prefixed (made ++ x ∷ []) (items (n - (i + 1)) read t)
item_read read n i made s t x less is =
    let e : n - i ≡ suc (n - (i + 1)) = omega arith in
    rw e (rw is (prefixed_one made x (items (n - (i + 1)) read t)))

-- an item that stopped the reading
pub item_stopped : {X : Type 0} (read : Reader X) (n i : ℕ) (made : List X) (s : List ℕ) (e : Stop) → i < n → read s ≡ Err e → prefixed made (items (n - i) read s) ≡ Err e
item_stopped read n i made s e less is =
    let more : n - i ≡ suc (n - (i + 1)) = omega arith in
    rw more (rw is refl)

-- all items that there are
pub items_read : {X : Type 0} (read : Reader X) (n i : ℕ) (made : List X) (s : List ℕ) → i ≡ n → prefixed made (items (n - i) read s) ≡ Ok (made, s)
items_read read n i made s same =
    let none : n - i ≡ 0 = omega arith in
    rw none (ap (λ xs. Ok (xs, s)) (append-nil made))

-- the items behind their number
pub list_counted : {X : Type 0} (read : Reader X) (s t : List ℕ) (n : ℕ) → number w32 s ≡ Ok (n, t) → list_field read s ≡ items n read t
list_counted read s t n is = rw is refl

-- one more item has its bytes behind those of the others
pub bytes_of_one_more : {X : Type 0} (bytes : X → List ℕ) (made : List X) (x : X) (all s t : List ℕ) → all ≡ concat (map bytes made) ++ s → s ≡ bytes x ++ t → all ≡ concat (map bytes (made ++ x ∷ [])) ++ t
bytes_of_one_more bytes [] x all s t is next = is ∙ next ∙ ap (λ v. v ++ t) (sym (append-nil (bytes x)))
bytes_of_one_more bytes (y ∷ made) x all s t is next =
    is ∙ append_assoc (bytes y) (concat (map bytes made)) s
    ∙ ap (λ v. bytes y ++ v) (bytes_of_one_more bytes made x (concat (map bytes made) ++ s) s t refl next)
    ∙ sym (append_assoc (bytes y) (concat (map bytes (made ++ x ∷ []))) t)

-- one more item that may stand in a list
pub all_and_one_more : {X : Type 0} (P : X → Type 0) (made : List X) (x : X) → AllByRecursion P made → P x → AllByRecursion P (made ++ x ∷ [])
all_and_one_more P [] x all one = (one, tt)
all_and_one_more P (y ∷ made) x all one = (all.0, all_and_one_more P made x all.1 one)
