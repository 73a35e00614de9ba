-- How long the lines of the grammar may be, and that none has a newline within it.
use Rattle.std.proofs.Common.{◌≡◌, ℕ, zero, suc, ◌+◌, ◌*◌, ◌/◌, ◌%◌, ◌^◌, ◌<◌, ◌≤◌, ◌==◌, ◌&&◌, not, Bool, true, false, List, [], ◌∷◌, ◌++◌, length, map, codes, slice_index, refl, sym, subst, inl, inr, arith, decimal}
use Rattle.std.proofs.lemmas.Bool.{and_parts, cases_lt}
use Rattle.std.proofs.lemmas.Bool.Decides.{nat_tests}
use Rattle.std.proofs.lemmas.Fmt.{length-decimal-le, decimal-digits_of}
use Rattle.std.proofs.lemmas.List.{length-append, length-map}
use Rattle.std.specs.Fmt.{digits}
use Rattle.std.specs.List.{AllByRecursion, list_all}
use Rattle.std.specs.Int.Digits.{digits_of}
use Rattle.hex.specs.Hex.{encode_lower, encode_with, lower_digits}
use Rattle.hex.proofs.HexLemmas.{length-encode_with}
use Rattle.pcl_base.specs.declared.tx.TxId.{TxId}
use Rattle.pcl_base.specs.declared.event.Header.{Header}
use Rattle.pcl_base.specs.declared.event.Event.{Event}
use Rattle.pcl_base.specs.declared.event.Event.TheVariants.{Begin, Read, Write, Commit, Abort, Deliver, Evict, Flush, Crash, View, Install, Reopen, Arm, Cut}
use Rattle.text_rules.specs.ScheduleLine.{HasLine, HasHeader, HasNode, HasTx, line_of, header_line, spaced, tx_text, bytes_text, flag_text, numbers_text}
use Rattle.replay_rules.specs.RunOfInput.{HasNoNewline}

-- at most n bytes, none of them a newline
abbrev pub Fits : ℕ → List ℕ → Type 0
Fits n bs = (length bs ≤ n) × HasNoNewline bs

pub none-append : (a b : List ℕ) → HasNoNewline a → HasNoNewline b → HasNoNewline (a ++ b)
none-append [] b p q = q
none-append (x ∷ a) b p q = (p.0, none-append a b p.1 q)

fits_both : (m n : ℕ) (a b : List ℕ) → Fits m a → Fits n b → Fits (m + n) (a ++ b)
fits_both m n a b p q = (let l = length-append a b in omega (arith, l, p.0, q.0), none-append a b p.1 q.1)

fits_more : (m n : ℕ) (a : List ℕ) → m ≤ n → Fits m a → Fits n a
fits_more m n a le p = (omega (arith, le, p.0), p.1)

-- words
is_other : ℕ → Bool
is_other b = not (b == 10)

other_byte : (b : ℕ) → is_other b ≡ true → (b == 10) ≡ false
unfolding is_other
other_byte b h = grind (arith, nat_tests, h)

word_none : (w : List ℕ) → list_all is_other w ≡ true → HasNoNewline w
word_none [] h = tt
word_none (b ∷ w) h = let parts = and_parts (is_other b) (list_all is_other w) h in (other_byte b parts.0, word_none w parts.1)

fits_word : (w : List ℕ) → list_all is_other w ≡ true → Fits (length w) w
fits_word w h = (omega arith, word_none w h)

-- numbers
digit_none : (ds : List ℕ) → HasNoNewline (map (λ d. 48 + d) ds)
digit_none [] = tt
digit_none (d ∷ ds) = (grind (arith, nat_tests), digit_none ds)

decimal_none : (n : ℕ) → n < 2 ^ 64 → HasNoNewline (decimal n)
unfolding digits
decimal_none zero small = (refl, tt)
decimal_none (suc n) small = subst HasNoNewline (sym (decimal-digits_of (suc n) (omega arith) small)) (digit_none (digits_of 10 (suc n)))

fits_number : (k n : ℕ) → 0 < k → n < 10 ^ k → n < 2 ^ 64 → Fits k (decimal n)
fits_number k n some fits small = (length-decimal-le k n some fits small, decimal_none n small)

fits_spaced : (k n : ℕ) → 0 < k → n < 10 ^ k → n < 2 ^ 64 → Fits (1 + k) (spaced n)
unfolding is_other
fits_spaced k n some fits small = fits_both 1 k (codes " ") (decimal n) (fits_word (codes " ") refl) (fits_number k n some fits small)

fits_node : (n : ℕ) → HasNode n → Fits 2 (decimal n)
fits_node n h = fits_number 2 n (omega arith) (omega (arith, h)) (omega (arith, h))

fits_tx : (t : TxId) → HasTx t → Fits 24 (tx_text t)
unfolding is_other
fits_tx t h =
    fits_both 14 10 (((decimal t.node ++ codes ".") ++ decimal t.born) ++ codes ".") (decimal t.serial)
    (fits_both 13 1 ((decimal t.node ++ codes ".") ++ decimal t.born) (codes ".")
    (fits_both 3 10 (decimal t.node ++ codes ".") (decimal t.born)
    (fits_both 2 1 (decimal t.node) (codes ".") (fits_node t.node h.node) (fits_word (codes ".") refl))
    (fits_number 10 t.born (omega arith) (omega (arith, h.last_born)) (omega (arith, h.last_born))))
    (fits_word (codes ".") refl))
    (fits_number 10 t.serial (omega arith) (omega (arith, h.last_serial)) (omega (arith, h.last_serial)))

-- the sixteen digits
all_others : ℕ → Bool
all_others zero = true
all_others (suc n) = is_other (slice_index lower_digits n) && all_others n

all_others-at : (n d : ℕ) → all_others n ≡ true → d < n → is_other (slice_index lower_digits d) ≡ true
unfolding all_others
all_others-at zero d h below = absurd (omega arith)
all_others-at (suc n) d h below =
    let parts = and_parts (is_other (slice_index lower_digits n)) (all_others n) h in
    elim (cases_lt d n) [
      | inl before ↦ all_others-at n d parts.1 before
      | inr top ↦ let e : d ≡ n = omega arith in rw e parts.0
    ]

sixteen : all_others 16 ≡ true
unfolding all_others is_other
sixteen = refl

pairs_none : (bs : List ℕ) → AllByRecursion (λ b. b < 256) bs → HasNoNewline (encode_lower bs)
unfolding encode_with
pairs_none [] h = tt
pairs_none (b ∷ bs) h = (
  other_byte (slice_index lower_digits (b / 16)) (all_others-at 16 (b / 16) sixteen (omega (arith, h.0))),
  (other_byte (slice_index lower_digits (b % 16)) (all_others-at 16 (b % 16) sixteen (omega arith)), pairs_none bs h.1),
)

fits_bytes : (bs : List ℕ) → length bs ≤ 4096 → AllByRecursion (λ b. b < 256) bs → Fits 8192 (bytes_text bs)
unfolding is_other
fits_bytes [] most h = fits_more 1 8192 (codes "-") (omega arith) (fits_word (codes "-") refl)
fits_bytes (b ∷ bs) most h = (let l = length-encode_with lower_digits (b ∷ bs) in omega (arith, l, most), pairs_none (b ∷ bs) h)

-- flags and owners
flag_other : (b : Bool) → (flag_text b == 10) ≡ false
flag_other true = refl
flag_other false = refl

flags_none : (live : List Bool) → HasNoNewline (map flag_text live)
flags_none [] = tt
flags_none (b ∷ live) = (flag_other b, flags_none live)

owners_fit : (k : ℕ) (ns : List ℕ) → length ns ≤ k → AllByRecursion HasNode ns → Fits (3 * k) (numbers_text ns)
owners_fit k [] most h = (omega arith, tt)
owners_fit zero (n ∷ ns) most h = absurd (omega (arith, most))
owners_fit (suc k) (n ∷ []) most h = fits_more 2 (3 * suc k) (decimal n) (omega arith) (fits_node n h.0)
owners_fit (suc k) (n ∷ m ∷ ns) most h =
    let rest = owners_fit k (m ∷ ns) (omega (arith, most)) h.1 in
    fits_more (2 + (1 + 3 * k)) (3 * suc k) (decimal n ++ (44 ∷ numbers_text (m ∷ ns))) (omega arith)
    (fits_both 2 (1 + 3 * k) (decimal n) (44 ∷ numbers_text (m ∷ ns)) (fits_node n h.0)
    (omega (arith, rest.0), (refl, rest.1)))

-- a word, and then what fits
fits_after : (w : List ℕ) (n : ℕ) (a : List ℕ) → list_all is_other w ≡ true → length w + n ≤ 8234 → Fits n a → Fits 8234 (w ++ a)
fits_after w n a h most p = fits_more (length w + n) 8234 (w ++ a) most (fits_both (length w) n w a (fits_word w h) p)

-- the lines of events
pub event_fits : (e : Event) → HasLine e → Fits 8234 (line_of e)
unfolding is_other
event_fits (Begin n) h = fits_after (codes "begin ") 2 (decimal n) refl (omega arith) (fits_node n h)
event_fits (Read t p) h =
    fits_more 35 8234 ((codes "read " ++ tx_text t) ++ spaced p) (omega arith)
    (fits_both 29 6 (codes "read " ++ tx_text t) (spaced p)
    (fits_both 5 24 (codes "read ") (tx_text t) (fits_word (codes "read ") refl) (fits_tx t h.0))
    (fits_spaced 5 p (omega arith) (omega (arith, h.1)) (omega (arith, h.1))))
event_fits (Write t p k bytes) h =
    fits_both 42 8192 ((((codes "write " ++ tx_text t) ++ spaced p) ++ spaced k) ++ codes " ") (bytes_text bytes)
    (fits_both 41 1 (((codes "write " ++ tx_text t) ++ spaced p) ++ spaced k) (codes " ")
    (fits_both 36 5 ((codes "write " ++ tx_text t) ++ spaced p) (spaced k)
    (fits_both 30 6 (codes "write " ++ tx_text t) (spaced p)
    (fits_both 6 24 (codes "write ") (tx_text t) (fits_word (codes "write ") refl) (fits_tx t h.0))
    (fits_spaced 5 p (omega arith) (omega (arith, h.1)) (omega (arith, h.1))))
    (fits_spaced 4 k (omega arith) (omega (arith, h.2)) (omega (arith, h.2))))
    (fits_word (codes " ") refl))
    (fits_bytes bytes h.3 h.4)
event_fits (Commit t) h = fits_after (codes "commit ") 24 (tx_text t) refl (omega arith) (fits_tx t h)
event_fits (Abort t) h = fits_after (codes "abort ") 24 (tx_text t) refl (omega arith) (fits_tx t h)
event_fits (Deliver x y) h =
    fits_more 13 8234 ((codes "deliver " ++ decimal x) ++ spaced y) (omega arith)
    (fits_both 10 3 (codes "deliver " ++ decimal x) (spaced y)
    (fits_both 8 2 (codes "deliver ") (decimal x) (fits_word (codes "deliver ") refl) (fits_node x h.0))
    (fits_spaced 2 y (omega arith) (omega (arith, h.1)) (omega (arith, h.1))))
event_fits (Evict n p) h =
    fits_more 14 8234 ((codes "evict " ++ decimal n) ++ spaced p) (omega arith)
    (fits_both 8 6 (codes "evict " ++ decimal n) (spaced p)
    (fits_both 6 2 (codes "evict ") (decimal n) (fits_word (codes "evict ") refl) (fits_node n h.0))
    (fits_spaced 5 p (omega arith) (omega (arith, h.1)) (omega (arith, h.1))))
event_fits (Flush n p) h =
    fits_more 14 8234 ((codes "flush " ++ decimal n) ++ spaced p) (omega arith)
    (fits_both 8 6 (codes "flush " ++ decimal n) (spaced p)
    (fits_both 6 2 (codes "flush ") (decimal n) (fits_word (codes "flush ") refl) (fits_node n h.0))
    (fits_spaced 5 p (omega arith) (omega (arith, h.1)) (omega (arith, h.1))))
event_fits (Crash n) h = fits_after (codes "crash ") 2 (decimal n) refl (omega arith) (fits_node n h)
event_fits (View live owners) h =
    fits_more 70 8234 (((codes "view " ++ map flag_text live) ++ codes " ") ++ numbers_text owners) (omega arith)
    (fits_both 22 48 ((codes "view " ++ map flag_text live) ++ codes " ") (numbers_text owners)
    (fits_both 21 1 (codes "view " ++ map flag_text live) (codes " ")
    (fits_both 5 16 (codes "view ") (map flag_text live) (fits_word (codes "view ") refl)
    (let l = length-map live flag_text in omega (arith, l, h.1), flags_none live))
    (fits_word (codes " ") refl))
    (owners_fit 16 owners h.3 h.4))
event_fits (Install n) h = fits_after (codes "install ") 2 (decimal n) refl (omega arith) (fits_node n h)
event_fits Reopen h = fits_more 6 8234 (codes "reopen") (omega arith) (fits_word (codes "reopen") refl)
event_fits (Arm n k j) h =
    fits_more 28 8234 (((codes "arm " ++ decimal n) ++ spaced k) ++ spaced j) (omega arith)
    (fits_both 17 11 ((codes "arm " ++ decimal n) ++ spaced k) (spaced j)
    (fits_both 6 11 (codes "arm " ++ decimal n) (spaced k)
    (fits_both 4 2 (codes "arm ") (decimal n) (fits_word (codes "arm ") refl) (fits_node n h.0))
    (fits_spaced 10 k (omega arith) (omega (arith, h.2)) (omega (arith, h.2))))
    (fits_spaced 10 j (omega arith) (omega (arith, h.3)) (omega (arith, h.3))))
event_fits (Cut n) h = fits_after (codes "cut ") 2 (decimal n) refl (omega arith) (fits_node n h)

-- the first line
pub header_fits : (h : Header) → HasHeader h → Fits 8234 (header_line h)
unfolding is_other
header_fits h has =
    fits_more 29 8234 ((((codes "pcl 1" ++ spaced h.nodes) ++ spaced h.pages) ++ spaced h.size) ++ spaced h.frames) (omega arith)
    (fits_both 23 6 (((codes "pcl 1" ++ spaced h.nodes) ++ spaced h.pages) ++ spaced h.size) (spaced h.frames)
    (fits_both 17 6 ((codes "pcl 1" ++ spaced h.nodes) ++ spaced h.pages) (spaced h.size)
    (fits_both 11 6 (codes "pcl 1" ++ spaced h.nodes) (spaced h.pages)
    (fits_both 5 6 (codes "pcl 1") (spaced h.nodes) (fits_word (codes "pcl 1") refl)
    (fits_spaced 5 h.nodes (omega arith) (omega (arith, has.nodes)) (omega (arith, has.nodes))))
    (fits_spaced 5 h.pages (omega arith) (omega (arith, has.pages)) (omega (arith, has.pages))))
    (fits_spaced 5 h.size (omega arith) (omega (arith, has.size)) (omega (arith, has.size))))
    (fits_spaced 5 h.frames (omega arith) (omega (arith, has.frames)) (omega (arith, has.frames))))
