-- What was written is read again.
use Rattle.std.proofs.Common.{◌≡◌, ℕ, suc, ◌-◌, ◌%◌, ◌^◌, ◌<◌, ◌≤◌, Bool, true, false, nat_le, nat_lt, ◌==◌, List, map, take, drop, [], ◌∷◌, ◌++◌, length, Option, Some, None, Ok, refl, ap, arith, append_assoc, length-append, eq-eqb}
use Rattle.std.specs.Int.{w8, w32, w64, to_be_bytes}
use Rattle.std.specs.List.{concat, AllByRecursion}
use Rattle.std.proofs.lemmas.Bool.{le-leb, lt-ltb}
use Rattle.std.proofs.lemmas.Nat.{from_be_bytes-to_be_bytes_4, from_be_bytes-to_be_bytes_8}
use Rattle.pcl_base.specs.Limits.{Sizes, InLimits}
use Rattle.pcl_base.specs.declared.tx.TxId.{TxId}
use Rattle.pcl_base.specs.declared.tx.Mode.{Mode}
use Rattle.pcl_base.specs.declared.tx.Mode.TheVariants.{Shared, Exclusive}
use Rattle.pcl_base.specs.declared.message.CopyPart.{CopyPart}
use Rattle.pcl_base.specs.declared.message.CopyPart.TheVariants.{Current, Image, OnDisk}
use Rattle.pcl_base.specs.declared.message.Change.{Change}
use Rattle.text_rules.specs.FieldBytes.{Reader, number, at_least, number_from, piece, items}
use Rattle.text_rules.specs.MessageBytes.{tx_bytes, mode_byte, flag_byte, version_bytes, copy_bytes, change_bytes, list_bytes, IsTx, IsPage, IsPageOf, IsRight, IsCopy, IsChange}
use Rattle.text_rules.specs.ReadMessage.{tx_field, page_field, page_of_field, mode_field, flag_field, version_field, right_field, copy_field, change_field, list_field}
use Rattle.messages.specs.Laws.{IsTxOfTypes, IsVersionOfType, IsChangeOfType}

-- a number of four bytes, of eight, and of one
pub number_4 : (n : ℕ) (rest : List ℕ) → n < 2 ^ 32 → number w32 (to_be_bytes w32 n ++ rest) ≡ Ok (n, rest)
number_4 n rest fits =
    let long : nat_le 4 (suc (suc (suc (suc (length rest))))) ≡ true = le-leb _ _ (omega arith) in
    rw long (ap (λ k. Ok (k, rest)) (from_be_bytes-to_be_bytes_4 n fits))

pub number_8 : (n : ℕ) (rest : List ℕ) → n < 2 ^ 64 → number w64 (to_be_bytes w64 n ++ rest) ≡ Ok (n, rest)
number_8 n rest fits =
    let long : nat_le 8 (suc (suc (suc (suc (suc (suc (suc (suc (length rest))))))))) ≡ true = le-leb _ _ (omega arith) in
    rw long (ap (λ k. Ok (k, rest)) (from_be_bytes-to_be_bytes_8 n fits))

pub number_1 : (n : ℕ) (rest : List ℕ) → number w8 (n ∷ rest) ≡ Ok (n, rest)
number_1 n rest =
    let long : nat_le 1 (suc (length rest)) ≡ true = le-leb _ _ (omega arith) in
    rw long refl

-- numbers that aren't below a limit
pub counted_4 : (n : ℕ) (rest : List ℕ) → 1 ≤ n → n < 2 ^ 32 → at_least 1 w32 (to_be_bytes w32 n ++ rest) ≡ Ok (n, rest)
counted_4 n rest least fits =
    let is : nat_le 1 n ≡ true = le-leb _ _ least in
    rw (number_4 n rest fits) (rw is refl)

pub counted_8 : (n : ℕ) (rest : List ℕ) → 1 ≤ n → n < 2 ^ 64 → at_least 1 w64 (to_be_bytes w64 n ++ rest) ≡ Ok (n, rest)
counted_8 n rest least fits =
    let is : nat_le 1 n ≡ true = le-leb _ _ least in
    rw (number_8 n rest fits) (rw is refl)

-- a byte within two limits
pub byte_again : (low high n : ℕ) (rest : List ℕ) → low ≤ n → n ≤ high → number_from low high w8 (n ∷ rest) ≡ Ok (n, rest)
byte_again low high n rest above below =
    let is_above : nat_le low n ≡ true = le-leb _ _ above in
    let is_below : nat_le n high ≡ true = le-leb _ _ below in
    rw (number_1 n rest) (rw is_above (rw is_below refl))

-- a transaction
pub tx_again : (c : Sizes) (t : TxId) (rest : List ℕ) → IsTx c t → IsTxOfTypes t → tx_field c (tx_bytes t ++ rest) ≡ Ok (t, rest)
tx_again c t rest is fits =
    let below : t.node ≤ c.nodes - 1 = omega (arith, is.0) in
    rw (byte_again 0 (c.nodes - 1) t.node (to_be_bytes w32 t.born ++ to_be_bytes w32 t.serial ++ rest) (omega arith) below)
    (rw (counted_4 t.born (to_be_bytes w32 t.serial ++ rest) is.1 fits.0)
    (rw (counted_4 t.serial rest is.2 fits.1) refl))

-- a page
pub page_again : (c : Sizes) (p : ℕ) (rest : List ℕ) → InLimits c → IsPage c p → page_field c (to_be_bytes w32 p ++ rest) ≡ Ok (p, rest)
page_again c p rest limits is =
    let below : nat_lt p c.pages ≡ true = lt-ltb _ _ is in
    let fits : p < 2 ^ 32 = omega (arith, is, limits.most_pages) in
    rw (number_4 p rest fits) (rw below refl)

pub page_of_again : (c : Sizes) (q p : ℕ) (rest : List ℕ) → InLimits c → IsPageOf c q p → page_of_field c q (to_be_bytes w32 p ++ rest) ≡ Ok (p, rest)
page_of_again c q p rest limits is =
    let below : nat_lt p c.pages ≡ true = lt-ltb _ _ is.0 in
    let same : (p % c.nodes == q) ≡ true = eq-eqb _ _ is.1 in
    let fits : p < 2 ^ 32 = omega (arith, is.0, limits.most_pages) in
    rw (number_4 p rest fits) (rw below (rw same refl))

-- a mode, a flag and a version
pub mode_again : (m : Mode) (rest : List ℕ) → mode_field (mode_byte m ∷ rest) ≡ Ok (m, rest)
mode_again Shared rest = rw (number_1 1 rest) refl
mode_again Exclusive rest = rw (number_1 2 rest) refl

pub flag_again : (b : Bool) (rest : List ℕ) → flag_field (flag_byte b ∷ rest) ≡ Ok (b, rest)
flag_again false rest = rw (number_1 0 rest) refl
flag_again true rest = rw (number_1 1 rest) refl

pub version_again : (v : Option ℕ) (rest : List ℕ) → IsVersionOfType v → version_field (version_bytes v ++ rest) ≡ Ok (v, rest)
version_again None rest fits = rw (flag_again false rest) refl
version_again (Some v) rest fits = rw (flag_again true (to_be_bytes w64 v ++ rest)) (rw (number_8 v rest fits) refl)

-- a right
pub right_again : (m : Mode) (b : Bool) (rest : List ℕ) → IsRight m b → right_field m (flag_byte b ∷ rest) ≡ Ok (b, rest)
right_again Shared b rest is = flag_again b rest
right_again Exclusive false rest is = rw (number_1 0 rest) refl
right_again Exclusive true rest is = absurd (cc)

-- the bytes of a page
pub take_front : {X : Type 0} (xs rest : List X) → take (length xs) (xs ++ rest) ≡ xs
take_front [] rest = refl
take_front (x ∷ xs) rest = ap (λ v. x ∷ v) (take_front xs rest)

pub drop_front : {X : Type 0} (xs rest : List X) → drop (length xs) (xs ++ rest) ≡ rest
drop_front [] rest = refl
drop_front (x ∷ xs) rest = drop_front xs rest

pub piece_again : (n : ℕ) (bytes rest : List ℕ) → length bytes ≡ n → piece n (bytes ++ rest) ≡ Ok (bytes, rest)
piece_again n bytes rest is =
    let long : nat_le (length bytes) (length (bytes ++ rest)) ≡ true = le-leb _ _ (omega (arith, length-append bytes rest)) in
    rw (← is) (rw long (rw (take_front bytes rest) (rw (drop_front bytes rest) refl)))

-- the copy of a grant
pub copy_again : (size : ℕ) (copy : CopyPart) (rest : List ℕ) → IsCopy size copy → copy_field size (copy_bytes copy ++ rest) ≡ Ok (copy, rest)
copy_again size Current rest is = rw (number_1 1 rest) refl
copy_again size (Image bytes) rest is = rw (number_1 2 (bytes ++ rest)) (rw (piece_again size bytes rest is) refl)
copy_again size OnDisk rest is = rw (number_1 3 rest) refl

-- the change of a release
pub change_again : (size : ℕ) (change : Option Change) (rest : List ℕ) → IsChange size change → IsChangeOfType change → change_field size (change_bytes change ++ rest) ≡ Ok (change, rest)
change_again size None rest is fits = rw (flag_again false rest) refl
change_again size (Some ch) rest is fits =
    rw (flag_again true (to_be_bytes w64 ch.version ++ (ch.image ++ rest)))
    (rw (counted_8 ch.version (ch.image ++ rest) is.0 fits) (rw (piece_again size ch.image rest is.1) refl))

-- items behind one another
pub items_again : {X : Type 0} (read : Reader X) (bytes : X → List ℕ) (P : X → Type 0) → ((x : X) → P x → (rest : List ℕ) → read (bytes x ++ rest) ≡ Ok (x, rest)) → (xs : List X) → AllByRecursion P xs → (rest : List ℕ) → items (length xs) read (concat (map bytes xs) ++ rest) ≡ Ok (xs, rest)
items_again read bytes P again [] all rest = refl
items_again read bytes P again (x ∷ xs) all rest =
    rw (append_assoc (bytes x) (concat (map bytes xs)) rest)
    (rw (again x all.0 (concat (map bytes xs) ++ rest)) (rw (items_again read bytes P again xs all.1 rest) refl))

-- a list
pub list_again : {X : Type 0} (read : Reader X) (bytes : X → List ℕ) (P : X → Type 0) → ((x : X) → P x → (rest : List ℕ) → read (bytes x ++ rest) ≡ Ok (x, rest)) → (xs : List X) → length xs < 4294967296 → AllByRecursion P xs → (rest : List ℕ) → list_field read (list_bytes bytes xs ++ rest) ≡ Ok (xs, rest)
list_again read bytes P again xs fits all rest =
    rw (number_4 (length xs) (concat (map bytes xs) ++ rest) (omega (arith, fits))) (items_again read bytes P again xs all rest)
