-- Lines field by field: what stands before a space, a dot or a comma ends there.
use Rattle.std.proofs.Common.{◌≡◌, ℕ, zero, suc, ◌+◌, ◌*◌, ◌^◌, ◌<◌, ◌≤◌, Bool, true, false, List, [], ◌∷◌, ◌++◌, length, map, get_or, codes, decimal, Ok, refl, sym, ap, ◌∙◌, arith, append_assoc, append-nil}
use Rattle.std.specs.List.{AllByRecursion}
use Rattle.std.specs.Str.Parse.{AllDigits}
use Rattle.std.proofs.lemmas.Fmt.{digits_decimal, decimal_injective}
use Rattle.std.proofs.lemmas.Str.Parse.{tells_digits, numerals_by_value}
use Rattle.hex.specs.Hex.{encode_with, decode_of, IsBytes}
use Rattle.hex.proofs.HexLemmas.{decode_of-encode_lower}
use Rattle.pcl_base.specs.declared.tx.TxId.{TxId}
use Rattle.pcl_base.specs.declared.event.Event.{Event}
use Rattle.pcl_base.specs.declared.event.Event.TheVariants.{Begin, Read, Write, Commit, Abort, Deliver, Evict, Flush, Crash, View, Install, Reopen, Arm, Cut}
use Rattle.text_rules.specs.ScheduleLine.{spaced, tx_text, bytes_text, flag_text, numbers_text, line_of, HasNode, HasPage, HasTx, HasLine}
use Rattle.rule_laws.specs.OneMeaning.{LinesDiffer}

-- bytes from `0` on, and bytes that begin below it or don't begin
abbrev AreHigh : List ℕ → Type 0
AreHigh bs = AllByRecursion (λ b. 48 ≤ b) bs

abbrev Stops : List ℕ → Type 0
Stops bs = get_or bs 0 0 < 48

same_tail : {X : Type 0} (x y : X) (xs ys : List X) → x ∷ xs ≡ y ∷ ys → xs ≡ ys
same_tail x y xs ys e = cc

same_head : {X : Type 0} (x y : X) (xs ys : List X) → x ∷ xs ≡ y ∷ ys → x ≡ y
same_head x y xs ys e = cc

split_words : (a b r s : List ℕ) → AreHigh a → AreHigh b → Stops r → Stops s → a ++ r ≡ b ++ s → (a ≡ b) × (r ≡ s)
split_words [] [] r s p q f g e = (refl, e)
split_words [] (y ∷ b) r s p q f g e = let first = ap (λ (l : List ℕ). get_or l 0 0) e in let high = q.0 in absurd (omega (arith, first, high))
split_words (x ∷ a) [] r s p q f g e = let first = ap (λ (l : List ℕ). get_or l 0 0) e in let high = p.0 in absurd (omega (arith, first, high))
split_words (x ∷ a) (y ∷ b) r s p q f g e =
    let rest = split_words a b r s p.1 q.1 f g (same_tail x y (a ++ r) (b ++ s) e) in
    let first = same_head x y (a ++ r) (b ++ s) e in
    ((λ i. first i ∷ rest.0 i), rest.1)

-- digits are high
high_digits : (ds : List ℕ) → AllDigits 10 ds → AreHigh ds
high_digits [] d = tt
high_digits (c ∷ cs) d = let k = tells_digits.parts c cs d in (k.0.0, high_digits cs k.1)

high_decimal : (n : ℕ) → n < 2 ^ 64 → AreHigh (decimal n)
high_decimal n l = high_digits (decimal n) (digits_decimal (numerals_by_value (AllDigits 10) tells_digits) n l)

-- a number before what stops it
number_front : (m n : ℕ) (r s : List ℕ) → m < 2 ^ 64 → n < 2 ^ 64 → Stops r → Stops s → decimal m ++ r ≡ decimal n ++ s → (m ≡ n) × (r ≡ s)
number_front m n r s p q f g e =
    let parts = split_words (decimal m) (decimal n) r s (high_decimal m p) (high_decimal n q) f g e in
    (decimal_injective m n p q parts.0, parts.1)

-- a transaction before what stops it
tx_parts : (t : TxId) (r : List ℕ) → tx_text t ++ r ≡ decimal t.node ++ (46 ∷ (decimal t.born ++ (46 ∷ (decimal t.serial ++ r))))
tx_parts t r = simp append_assoc

tx_front : (t u : TxId) (r s : List ℕ) → HasTx t → HasTx u → Stops r → Stops s → tx_text t ++ r ≡ tx_text u ++ s → (t ≡ u) × (r ≡ s)
tx_front t u r s i j f g e =
    let all = sym (tx_parts t r) ∙ (e ∙ tx_parts u s) in
    let a = i.node in
    let b = j.node in
    let d = i.last_born in
    let h = j.last_born in
    let k = i.last_serial in
    let l = j.last_serial in
    let node = number_front t.node u.node _ _ (omega arith) (omega arith) (omega arith) (omega arith) all in
    let born = number_front t.born u.born _ _ (omega arith) (omega arith) (omega arith) (omega arith) (same_tail 46 46 _ _ node.1) in
    let serial = number_front t.serial u.serial r s (omega arith) (omega arith) f g (same_tail 46 46 _ _ born.1) in
    ((λ i. record { node = node.0 i; born = born.0 i; serial = serial.0 i }), serial.1)

tx_end : (t u : TxId) → HasTx t → HasTx u → tx_text t ≡ tx_text u → t ≡ u
tx_end t u i j e = (tx_front t u [] [] i j (omega arith) (omega arith) (ap (λ (l : List ℕ). l ++ []) e)).0

-- the bytes of a write
small : (bs : List ℕ) → AllByRecursion (λ b. b < 256) bs → IsBytes bs
small [] a i = omega arith
small (b ∷ bs) a zero = a.0
small (b ∷ bs) a (suc i) = small bs a.1 i

bytes_end : (bs cs : List ℕ) → AllByRecursion (λ b. b < 256) bs → AllByRecursion (λ b. b < 256) cs → bytes_text bs ≡ bytes_text cs → bs ≡ cs
unfolding encode_with
bytes_end [] [] i j e = refl
bytes_end [] (c ∷ cs) i j e = let l = ap (λ (t : List ℕ). length t) e in absurd (omega (arith, l))
bytes_end (b ∷ bs) [] i j e = let l = ap (λ (t : List ℕ). length t) e in absurd (omega (arith, l))
bytes_end (b ∷ bs) (c ∷ cs) i j e =
    let back : Ok (b ∷ bs) ≡ Ok (c ∷ cs) =
    sym (decode_of-encode_lower (b ∷ bs) (small (b ∷ bs) i)) ∙ (ap decode_of e ∙ decode_of-encode_lower (c ∷ cs) (small (c ∷ cs) j)) in
    cc

-- flags
high_flags : (fs : List Bool) → AreHigh (map flag_text fs)
high_flags [] = tt
high_flags (true ∷ fs) = (omega arith, high_flags fs)
high_flags (false ∷ fs) = (omega arith, high_flags fs)

same_flags : (fs gs : List Bool) → map flag_text fs ≡ map flag_text gs → fs ≡ gs
same_flags [] [] e = refl
same_flags [] (g ∷ gs) e = absurd (cc)
same_flags (f ∷ fs) [] e = absurd (cc)
same_flags (f ∷ fs) (g ∷ gs) e =
    let first = by f g (same_head (flag_text f) (flag_text g) (map flag_text fs) (map flag_text gs) e) in
    let rest = same_flags fs gs (same_tail (flag_text f) (flag_text g) (map flag_text fs) (map flag_text gs) e) in
    (λ i. first i ∷ rest i)
  where
    by : (f g : Bool) → flag_text f ≡ flag_text g → f ≡ g
    by true true q = refl
    by true false q = absurd (omega (arith, q))
    by false true q = absurd (omega (arith, q))
    by false false q = refl

-- numbers with commas between them
numbers_end : (ns ms : List ℕ) → 1 ≤ length ns → 1 ≤ length ms → AllByRecursion HasNode ns → AllByRecursion HasNode ms → numbers_text ns ≡ numbers_text ms → ns ≡ ms
numbers_end [] ms p q i j e = absurd (omega arith)
numbers_end (n ∷ ns) [] p q i j e = absurd (omega arith)
numbers_end (n ∷ []) (m ∷ []) p q i j e =
    let a = i.0 in
    let b = j.0 in
    ap (λ (x : ℕ). x ∷ []) (decimal_injective n m (omega arith) (omega arith) e)
numbers_end (n ∷ []) (m ∷ k ∷ ms) p q i j e =
    let a = i.0 in
    let b = j.0 in
    let parts = number_front n m [] (44 ∷ numbers_text (k ∷ ms)) (omega arith) (omega arith) (omega arith) (omega arith) (append-nil (decimal n) ∙ e) in
    let bad = parts.1 in
    absurd (cc)
numbers_end (n ∷ l ∷ ns) (m ∷ []) p q i j e =
    let a = i.0 in
    let b = j.0 in
    let parts = number_front n m (44 ∷ numbers_text (l ∷ ns)) [] (omega arith) (omega arith) (omega arith) (omega arith) (e ∙ sym (append-nil (decimal m))) in
    let bad = parts.1 in
    absurd (cc)
numbers_end (n ∷ l ∷ ns) (m ∷ k ∷ ms) p q i j e =
    let a = i.0 in
    let b = j.0 in
    let parts = number_front n m (44 ∷ numbers_text (l ∷ ns)) (44 ∷ numbers_text (k ∷ ms)) (omega arith) (omega arith) (omega arith) (omega arith) e in
    let rest = numbers_end (l ∷ ns) (k ∷ ms) (omega arith) (omega arith) i.1 j.1 (same_tail 44 44 _ _ parts.1) in
    let first = parts.0 in
    (λ i. first i ∷ rest i)

-- a number at the end, and one before another
node_end : (m n : ℕ) → m ≤ 4294967295 → n ≤ 4294967295 → decimal m ≡ decimal n → m ≡ n
node_end m n p q e = decimal_injective m n (omega arith) (omega arith) e

two_numbers : (m n p q : ℕ) → m ≤ 4294967295 → n ≤ 4294967295 → p ≤ 4294967295 → q ≤ 4294967295 → decimal m ++ spaced p ≡ decimal n ++ spaced q → (m ≡ n) × (p ≡ q)
two_numbers m n p q a b d f e =
    let parts = number_front m n (spaced p) (spaced q) (omega arith) (omega arith) (omega arith) (omega arith) e in
    (parts.0, node_end p q d f (same_tail 32 32 (decimal p) (decimal q) parts.1))

-- what follows the same word
strip : (w r s : List ℕ) → w ++ r ≡ w ++ s → r ≡ s
strip [] r s e = e
strip (x ∷ w) r s e = strip w r s (same_tail x x (w ++ r) (w ++ s) e)

same_read : (t u : TxId) (p q : ℕ) → HasTx t → HasTx u → p ≤ 65535 → q ≤ 65535 → tx_text t ++ spaced p ≡ tx_text u ++ spaced q → (t ≡ u) × (p ≡ q)
same_read t u p q i j a b e =
    let parts = tx_front t u (spaced p) (spaced q) i j (omega arith) (omega arith) e in
    (parts.0, node_end p q (omega arith) (omega arith) (strip (codes " ") (decimal p) (decimal q) parts.1))

same_write : (t u : TxId) (p q k l : ℕ) (bs cs : List ℕ) → HasTx t → HasTx u → p ≤ 65535 → q ≤ 65535 → k ≤ 4095 → l ≤ 4095
    → AllByRecursion (λ b. b < 256) bs → AllByRecursion (λ b. b < 256) cs
    → tx_text t ++ (spaced p ++ (spaced k ++ (32 ∷ bytes_text bs))) ≡ tx_text u ++ (spaced q ++ (spaced l ++ (32 ∷ bytes_text cs)))
    → (t ≡ u) × (p ≡ q) × (k ≡ l) × (bs ≡ cs)
same_write t u p q k l bs cs i j a b d f g h e =
    let parts = tx_front t u (spaced p ++ (spaced k ++ (32 ∷ bytes_text bs))) (spaced q ++ (spaced l ++ (32 ∷ bytes_text cs))) i j (omega arith) (omega arith) e in
    let page =
    number_front p q (spaced k ++ (32 ∷ bytes_text bs)) (spaced l ++ (32 ∷ bytes_text cs)) (omega arith) (omega arith) (omega arith) (omega arith)
    (strip (codes " ") _ _ parts.1) in
    let place = number_front k l (32 ∷ bytes_text bs) (32 ∷ bytes_text cs) (omega arith) (omega arith) (omega arith) (omega arith) (strip (codes " ") _ _ page.1) in
    (parts.0, page.0, place.0, bytes_end bs cs g h (strip (codes " ") _ _ place.1))

regroup : (a b d f g : List ℕ) → (((a ++ b) ++ d) ++ f) ++ g ≡ a ++ (b ++ (d ++ (f ++ g)))
regroup a b d f g = simp append_assoc

written : (t : TxId) (p k : ℕ) (bs : List ℕ) → List ℕ
written t p k bs = tx_text t ++ spaced p ++ spaced k ++ codes " " ++ bytes_text bs

write_parts : (t : TxId) (p k : ℕ) (bs : List ℕ) → written t p k bs ≡ tx_text t ++ (spaced p ++ (spaced k ++ (32 ∷ bytes_text bs)))
unfolding written
write_parts t p k bs = regroup (tx_text t) (spaced p) (spaced k) (codes " ") (bytes_text bs)

same_arm : (m n k l p q : ℕ) → m ≤ 15 → n ≤ 15 → k ≤ 4294967295 → l ≤ 4294967295 → p ≤ 4294967295 → q ≤ 4294967295
    → (decimal m ++ spaced k) ++ spaced p ≡ (decimal n ++ spaced l) ++ spaced q → (m ≡ n) × (k ≡ l) × (p ≡ q)
same_arm m n k l p q a b d f g h e =
    let all = sym (append_assoc (decimal m) (spaced k) (spaced p)) ∙ (e ∙ append_assoc (decimal n) (spaced l) (spaced q)) in
    let node = number_front m n (spaced k ++ spaced p) (spaced l ++ spaced q) (omega arith) (omega arith) (omega arith) (omega arith) all in
    let rest = two_numbers k l p q d f g h (strip (codes " ") _ _ node.1) in
    (node.0, rest.0, rest.1)

same_view : (fs gs : List Bool) (ns ms : List ℕ) → 1 ≤ length ns → 1 ≤ length ms → AllByRecursion HasNode ns → AllByRecursion HasNode ms
    → (map flag_text fs ++ codes " ") ++ numbers_text ns ≡ (map flag_text gs ++ codes " ") ++ numbers_text ms → (fs ≡ gs) × (ns ≡ ms)
same_view fs gs ns ms p q i j e =
    let all = sym (append_assoc (map flag_text fs) (codes " ") (numbers_text ns)) ∙ (e ∙ append_assoc (map flag_text gs) (codes " ") (numbers_text ms)) in
    let parts =
    split_words (map flag_text fs) (map flag_text gs) (codes " " ++ numbers_text ns) (codes " " ++ numbers_text ms) (high_flags fs) (high_flags gs) (omega arith) (omega arith) all in
    (same_flags fs gs parts.0, numbers_end ns ms p q i j (strip (codes " ") _ _ parts.1))

one_node : (m n : ℕ) → HasNode m → HasNode n → decimal m ≡ decimal n → m ≡ n
one_node m n i j e = node_end m n (omega arith) (omega arith) e

node_page : (m n p q : ℕ) → HasNode m → HasNode n → HasPage p → HasPage q → decimal m ++ spaced p ≡ decimal n ++ spaced q → (m ≡ n) × (p ≡ q)
node_page m n p q i j k l e = two_numbers m n p q (omega arith) (omega arith) (omega arith) (omega arith) e

-- the first bytes of a line tell its kind
abbrev first_bytes : List ℕ → ℕ
first_bytes l = get_or l 0 0 + 2 * get_or l 1 0 + get_or l 2 0

abbrev number_of : Event → ℕ
number_of (Begin n) = 403
number_of (Read t p) = 413
number_of (Write t p k bs) = 452
number_of (Commit t) = 430
number_of (Abort t) = 404
number_of (Deliver x y) = 410
number_of (Evict n p) = 442
number_of (Flush n p) = 435
number_of (Crash n) = 424
number_of (View live owners) = 429
number_of (Install n) = 440
number_of Reopen = 427
number_of (Arm n k j) = 434
number_of (Cut n) = 449

kind_told : (a : Event) → first_bytes (line_of a) ≡ number_of a
kind_told (Begin n) = refl
kind_told (Read t p) = refl
kind_told (Write t p k bs) = refl
kind_told (Commit t) = refl
kind_told (Abort t) = refl
kind_told (Deliver x y) = refl
kind_told (Evict n p) = refl
kind_told (Flush n p) = refl
kind_told (Crash n) = refl
kind_told (View live owners) = refl
kind_told (Install n) = refl
kind_told Reopen = refl
kind_told (Arm n k j) = refl
kind_told (Cut n) = refl

same_written : (t u : TxId) (p q k l : ℕ) (bs cs : List ℕ) → line_of (Write t p k bs) ≡ line_of (Write u q l cs) → written t p k bs ≡ written u q l cs
unfolding written
same_written t u p q k l bs cs e = strip (codes "write ") (tx_text t ++ spaced p ++ spaced k ++ codes " " ++ bytes_text bs) (tx_text u ++ spaced q ++ spaced l ++ codes " " ++ bytes_text cs) e

same_events : (a b : Event) → HasLine a → HasLine b → line_of a ≡ line_of b → number_of a ≡ number_of b → a ≡ b
same_events (Begin m) (Begin n) i j e k = ap Begin (one_node m n i j (strip (codes "begin ") _ _ e))
same_events (Read t p) (Read u q) i j e k =
    let r = same_read t u p q i.0 j.0 i.1 j.1 (strip (codes "read ") _ _ e) in
    (λ x. Read (r.0 x) (r.1 x))
same_events (Write t p k bs) (Write u q l cs) i j e n =
    let text : written t p k bs ≡ written u q l cs = same_written t u p q k l bs cs e in
    let r = same_write t u p q k l bs cs i.0 j.0 i.1 j.1 i.2 j.2 i.4 j.4 (sym (write_parts t p k bs) ∙ (text ∙ write_parts u q l cs)) in
    (λ x. Write (r.0 x) (r.1 x) (r.2 x) (r.3 x))
same_events (Commit t) (Commit u) i j e k = ap Commit (tx_end t u i j (strip (codes "commit ") _ _ e))
same_events (Abort t) (Abort u) i j e k = ap Abort (tx_end t u i j (strip (codes "abort ") _ _ e))
same_events (Deliver m p) (Deliver n q) i j e k =
    let r = node_page m n p q i.0 j.0 (let a = i.1 in omega arith) (let a = j.1 in omega arith) (strip (codes "deliver ") _ _ e) in
    (λ x. Deliver (r.0 x) (r.1 x))
same_events (Evict m p) (Evict n q) i j e k =
    let r = node_page m n p q i.0 j.0 i.1 j.1 (strip (codes "evict ") _ _ e) in
    (λ x. Evict (r.0 x) (r.1 x))
same_events (Flush m p) (Flush n q) i j e k =
    let r = node_page m n p q i.0 j.0 i.1 j.1 (strip (codes "flush ") _ _ e) in
    (λ x. Flush (r.0 x) (r.1 x))
same_events (Crash m) (Crash n) i j e k = ap Crash (one_node m n i j (strip (codes "crash ") _ _ e))
same_events (View fs ns) (View gs ms) i j e k =
    let r = same_view fs gs ns ms i.2 j.2 i.4 j.4 (strip (codes "view ") _ _ e) in
    (λ x. View (r.0 x) (r.1 x))
same_events (Install m) (Install n) i j e k = ap Install (one_node m n i j (strip (codes "install ") _ _ e))
same_events Reopen Reopen i j e k = refl
same_events (Arm m k p) (Arm n l q) i j e h =
    let r = same_arm m n k l p q i.0 j.0 i.2 j.2 i.3 j.3 (strip (codes "arm ") _ _ e) in
    (λ x. Arm (r.0 x) (r.1 x) (r.2 x))
same_events (Cut m) (Cut n) i j e k = ap Cut (one_node m n i j (strip (codes "cut ") _ _ e))
same_events a b i j e k = absurd (omega (arith, k))

pub lines_differ_law : LinesDiffer
lines_differ_law a b i j e = same_events a b i j e (sym (kind_told a) ∙ (ap first_bytes e ∙ kind_told b))
