-- Each changed page of the whole records of a log is read at its place.
use Rattle.std.proofs.Common.{◌≡◌, refl, sym, ap, subst, ◌∙◌, ℕ, zero, suc, ◌+◌, ◌-◌, ◌<◌, ◌≤◌, ◌==◌, Bool, true, false, List, [], ◌∷◌, ◌++◌, length, take, drop, slice_range, slice_index_or, Option, Some, None, Result, Ok, Err, arith}
use Rattle.std.specs.List.{AllByRecursion}
use Rattle.std.specs.Int.{w8, w32, w64}
use Rattle.std.proofs.lemmas.Bool.Decides.{nat_tests}
use Rattle.std.proofs.lemmas.List.{drop-drop, length-drop}
use Rattle.std.proofs.Math.Seq.{take-add}
use Rattle.pcl_base.specs.Limits.{Sizes}
use Rattle.pcl_base.specs.declared.log.Record.{Record}
use Rattle.pcl_base.specs.declared.log.Logged.{Logged}
use Rattle.text_rules.specs.FieldBytes.{Stop, TooLong, stop, pick, number, number_from, at_least, piece, whole, before_rest, allowed, BadField}
use Rattle.text_rules.specs.LogRecord.{is_whole, is_mark, part_bytes, logged_bytes, record_bytes, part_field, changes_field, body_field, record_field, log_at, log_up_to}
use Rattle.redo_log.specs.Placed.{Placed, IsPlaced, whole_at, placed_in, placed_from, placed_of}
use Rattle.redo_log.proofs.PieceLemmas.{slice_behind, slice_long}
use Rattle.redo_log.proofs.LengthLemmas.{went, given_value, given_left, piece_long, number_left, from_left, least_left, from_long, least_long, judged_read, part_long, record_long}
use Rattle.redo_log.specs.Walks.{Reading, left_of}
use Rattle.redo_log.specs.Applied.{applied, part_put}
use Rattle.redo_log.proofs.PuttingLemmas.{part_given}
use Rattle.redo_log.proofs.MoreLemmas.{part_more, part_left}

-- the part of an entry is read behind its head
pub record IsReadable (c : Sizes) (log : List ℕ) (x : Placed) : Type 0 where
  pub rest : List ℕ
  pub within : x.place + 12 ≤ length log
  pub part : part_field c.size (is_whole x.entry.part) (slice_range log (x.place + 12) (length log)) ≡ Ok (x.entry.part, rest)

-- a slice up to the end
slice_joined : (log : List ℕ) (p l : ℕ) → p ≤ l → l ≤ length log → slice_range log p (length log) ≡ slice_range log p l ++ drop l log
slice_joined log p l order within =
    let far : length log - p ≡ (l - p) + (length log - l) = omega arith in
    let at : p + (l - p) ≡ l = omega arith in
    let rest : take (length log - l) (drop l log) ≡ drop l log = ap (λ (k : ℕ). take k (drop l log)) (sym (length-drop l log)) ∙ whole_of (drop l log) in
    ap (λ (k : ℕ). take k (drop p log)) far
    ∙ take-add (l - p) (length log - l) (drop p log)
    ∙ ap (λ (d : List ℕ). take (l - p) (drop p log) ++ take (length log - l) d) (drop-drop (l - p) p log ∙ ap (λ (k : ℕ). drop k log) at)
    ∙ ap (λ (d : List ℕ). take (l - p) (drop p log) ++ d) rest
  where
    whole_of : (d : List ℕ) → take (length d) d ≡ d
    whole_of [] = refl
    whole_of (x ∷ d) = ap (λ (e : List ℕ). x ∷ e) (whole_of d)

-- entries of a record
entries_readable : (c : Sizes) (w : Bool) (low n : ℕ) (log : List ℕ) (start end place limit : ℕ) (xs : List Logged) → limit ≤ length log → place ≤ limit → changes_field c w low n (slice_range log place limit) ≡ Ok (xs, [])
    → AllByRecursion (IsReadable c log) (placed_in start end place xs)
entries_readable c w low zero log start end place limit xs within here e =
    let none : [] ≡ xs = given_value _ xs _ [] e in
    subst (λ (l : List Logged). AllByRecursion (IsReadable c log) (placed_in start end place l)) none tt
entries_readable c w low (suc n) log start end place limit xs within here e =
    let a : List ℕ = slice_range log place limit in
    let p = went (number_from low (c.pages - 1) w32 a) _ _ _ e in
    let q = went (at_least 1 w64 p.behind) _ _ _ p.further in
    let r = went (part_field c.size w q.behind) _ _ _ q.further in
    let t = went (changes_field c w (p.value + 1) n r.behind) _ _ _ r.further in
    let one : Logged = record { page = p.value; version = q.value; part = r.value } in
    let made : one ∷ t.value ≡ xs = given_value _ xs _ [] t.further in
    let left : t.behind ≡ [] = given_left _ xs _ [] t.further in
    let page = from_long low (c.pages - 1) w32 a p.value p.behind p.first in
    let version = least_long 1 w64 p.behind q.value q.behind q.first in
    let part = part_long c.size w q.behind r.value r.behind r.first in
    let long = slice_long log place limit within in
    let more : place + 12 ≤ limit = omega (arith, page, version, long) in
    let far : place + length (logged_bytes one) ≤ limit = omega (arith, page, version, long, part.all) in
    let behind : q.behind ≡ slice_range log (place + 12) limit =
    least_left 1 w64 p.behind q.value q.behind q.first
    ∙ ap (λ (l : List ℕ). drop 8 l) (from_left low (c.pages - 1) w32 a p.value p.behind p.first)
    ∙ drop-drop 8 4 a
    ∙ slice_behind log place 12 limit more in
    let after_part : place + 12 + length (part_bytes r.value) ≡ place + length (logged_bytes one) = omega arith in
    let next : r.behind ≡ slice_range log (place + length (logged_bytes one)) limit =
    part_left c.size w q.behind r.value r.behind r.first
    ∙ ap (λ (l : List ℕ). drop (length (part_bytes r.value)) l) behind
    ∙ slice_behind log (place + 12) (length (part_bytes r.value)) limit (omega arith)
    ∙ ap (λ (k : ℕ). slice_range log k limit) after_part in
    let rest : changes_field c w (p.value + 1) n (slice_range log (place + length (logged_bytes one)) limit) ≡ Ok (t.value, []) =
    ap (changes_field c w (p.value + 1) n) (sym next) ∙ t.first ∙ ap (λ (d : List ℕ). let x : Result (List Logged × List ℕ) Stop = Ok (t.value, d) in x) left in
    let others = entries_readable c w (p.value + 1) n log start end (place + length (logged_bytes one)) limit t.value within far rest in
    let there : part_field c.size (is_whole r.value) (slice_range log (place + 12) (length log)) ≡ Ok (r.value, r.behind ++ drop limit log) =
    ap (λ (b : Bool). part_field c.size b (slice_range log (place + 12) (length log))) part.format
    ∙ ap (part_field c.size w) (slice_joined log (place + 12) limit more within)
    ∙ ap (λ (l : List ℕ). part_field c.size w (l ++ drop limit log)) (sym behind)
    ∙ part_more c.size w q.behind r.value r.behind (drop limit log) r.first in
    let here : IsReadable c log (record { place = place; entry = one; whole = whole_at start end t.value }) = record { rest = r.behind ++ drop limit log; within = omega arith; part = there } in
    subst (λ (l : List Logged). AllByRecursion (IsReadable c log) (placed_in start end place l)) made (here, others)

all_joined : (P : Placed → Type 0) (xs ys : List Placed) → AllByRecursion P xs → AllByRecursion P ys → AllByRecursion P (xs ++ ys)
all_joined P [] ys a b = b
all_joined P (x ∷ xs) ys a b = (a.0, all_joined P xs ys a.1 b)

all_at : (P : Placed → Type 0) (xs : List Placed) (x : Placed) (k : ℕ) → AllByRecursion P xs → k < length xs → slice_index_or xs k x ≡ x → P x
all_at P [] x k a less is = absurd (omega arith)
all_at P (y ∷ ys) x zero a less is = subst P is a.0
all_at P (y ∷ ys) x (suc k) a less is = all_at P ys x k a.1 (omega arith) is

-- the changed pages of a record's body
record BodyOf (c : Sizes) (v : List ℕ) (r : Record) : Type 0 where
  pub format : Bool
  pub count : ℕ
  pub changes : changes_field c format 0 count (drop 13 v) ≡ Ok (r.changes, [])

body_of : (c : Sizes) (v : List ℕ) (r : Record) (b : List ℕ) → body_field c v ≡ Ok (r, b) → length b ≡ 0 → BodyOf c v r
body_of c v r b e none =
    let m = went (allowed BadField (is_mark c.nodes) (number w8) v) _ _ _ e in
    let p = went (at_least 1 w32 m.behind) _ _ _ m.further in
    let q = went (at_least 1 w32 p.behind) _ _ _ p.further in
    let n = went (at_least 1 w32 q.behind) _ _ _ q.further in
    let x = went (changes_field c _ 0 n.value n.behind) _ _ _ n.further in
    let made = given_value _ r _ b x.further in
    let left : x.behind ≡ b = given_left _ r _ b x.further in
    let mark : m.behind ≡ drop 1 v = number_left w8 v m.value m.behind (judged_read _ _ _ _ m.value m.behind m.first) in
    let born : p.behind ≡ drop 5 v = least_left 1 w32 m.behind p.value p.behind p.first ∙ ap (λ (l : List ℕ). drop 4 l) mark ∙ drop-drop 4 1 v in
    let serial : q.behind ≡ drop 9 v = least_left 1 w32 p.behind q.value q.behind q.first ∙ ap (λ (l : List ℕ). drop 4 l) born ∙ drop-drop 4 5 v in
    let count : n.behind ≡ drop 13 v = least_left 1 w32 q.behind n.value n.behind n.first ∙ ap (λ (l : List ℕ). drop 4 l) serial ∙ drop-drop 4 9 v in
    let all : x.behind ≡ [] = empty x.behind (ap (λ (l : List ℕ). length l) left ∙ none) in
    record {
      format = _;
      count = n.value;
      changes =
          ap (changes_field c _ 0 n.value) (sym count)
          ∙ x.first
          ∙ ap (λ (l : List ℕ). let y : Result (List Logged × List ℕ) Stop = Ok (x.value, l) in y) all
          ∙ ap (λ (s : Record). let y : Result (List Logged × List ℕ) Stop = Ok (s.changes, []) in y) made;
    }
  where
    empty : (d : List ℕ) → length d ≡ 0 → d ≡ []
    empty [] f = refl
    empty (x ∷ d) f = absurd (omega arith)

-- a record at a place of a log
record RecordAt (c : Sizes) (log : List ℕ) (place : ℕ) (r : Record) (behind : List ℕ) : Type 0 where
  pub format : Bool
  pub count : ℕ
  pub within : place + length (record_bytes r) ≤ length log
  pub changes : changes_field c format 0 count (slice_range log (place + 17) (place + length (record_bytes r))) ≡ Ok (r.changes, [])
  pub rest : behind ≡ drop (place + length (record_bytes r)) log

abbrev value_in : Record → Result (Record × List ℕ) Stop → Record
value_in r (Ok p) = p.0
value_in r (Err s) = r

abbrev left_in : List ℕ → Result (Record × List ℕ) Stop → List ℕ
left_in b (Ok p) = p.1
left_in b (Err s) = b

-- the body of a record, all of it
record Whole (c : Sizes) (v rest : List ℕ) (r : Record) (b : List ℕ) : Type 0 where
  pub body : BodyOf c v r
  pub left : rest ≡ b

ended : (c : Sizes) (v rest : List ℕ) (r : Record) (b : List ℕ) (x : Record) (d : List ℕ) (t : Bool) → body_field c v ≡ Ok (x, d) → (length d == 0) ≡ t → before_rest rest (pick t (Ok x) (stop TooLong d)) ≡ Ok (r, b) → Whole c v rest r b
ended c v rest r b x d true e f g =
    let none : length d ≡ 0 = grind (arith, nat_tests) in
    let made : x ≡ r = ap (value_in r) g in
    record { body = subst (λ (y : Record). BodyOf c v y) made (body_of c v x d e none); left = ap (left_in b) g }
ended c v rest r b x d false e f g = absurd (cc)

whole_body : (c : Sizes) (v rest : List ℕ) (r : Record) (b : List ℕ) (w : Result (Record × List ℕ) Stop) → body_field c v ≡ w → before_rest rest (whole w) ≡ Ok (r, b) → Whole c v rest r b
whole_body c v rest r b (Ok x) e g = ended c v rest r b x.0 x.1 (length x.1 == 0) e refl g
whole_body c v rest r b (Err s) e g = absurd (cc)

record_at : (c : Sizes) (log : List ℕ) (place : ℕ) (r : Record) (behind : List ℕ) → place ≤ length log → record_field c (drop place log) ≡ Ok (r, behind) → RecordAt c log place r behind
record_at c log place r behind here e =
    let a : List ℕ = drop place log in
    let p = went (number w32 a) _ _ _ e in
    let q = went (piece (p.value - 4) p.behind) _ _ _ p.further in
    let m : ℕ = p.value - 4 in
    let w = whole_body c q.value q.behind r behind (body_field c q.value) refl q.further in
    let bytes = piece_long m p.behind q.value q.behind q.first in
    let front : p.behind ≡ drop (place + 4) log = number_left w32 a p.value p.behind p.first ∙ drop-drop 4 place log in
    let all = record_long c a r behind e in
    let long : place + length (record_bytes r) ≡ place + 4 + m = omega (arith, all, bytes.all, ap (λ (l : List ℕ). length l) front, length-drop place log, length-drop (place + 4) log, ap (λ (l : List ℕ). length l) w.left) in
    let within : place + length (record_bytes r) ≤ length log = omega (arith, all, length-drop place log) in
    let far : m ≡ place + length (record_bytes r) - (place + 4) = omega (arith, long) in
    let body : q.value ≡ slice_range log (place + 4) (place + length (record_bytes r)) = bytes.value ∙ ap (λ (l : List ℕ). take m l) front ∙ ap (λ (k : ℕ). take k (drop (place + 4) log)) far in
    let sum : place + 4 + 13 ≡ place + 17 = omega arith in
    let entries : drop 13 q.value ≡ slice_range log (place + 17) (place + length (record_bytes r)) =
    ap (λ (l : List ℕ). drop 13 l) body
    ∙ slice_behind log (place + 4) 13 (place + length (record_bytes r)) (omega arith)
    ∙ ap (λ (k : ℕ). slice_range log k (place + length (record_bytes r))) sum in
    record {
      format = w.body.format;
      count = w.body.count;
      within = within;
      changes = ap (changes_field c w.body.format 0 w.body.count) (sym entries) ∙ w.body.changes;
      rest = sym w.left ∙ bytes.left ∙ ap (λ (l : List ℕ). drop m l) front ∙ drop-drop m (place + 4) log ∙ ap (λ (k : ℕ). drop k log) (sym long);
    }

records_readable : (c : Sizes) (log : List ℕ) (n place : ℕ) → place ≤ length log → AllByRecursion (IsReadable c log) (placed_from place (log_up_to c n (drop place log)).records)
records_readable c log zero place here = tt
records_readable c log (suc n) place here = one (records_readable c log n) (record_field c (drop place log)) refl
  where
    one : ((p : ℕ) → p ≤ length log → AllByRecursion (IsReadable c log) (placed_from p (log_up_to c n (drop p log)).records)) → (x : Result (Record × List ℕ) Stop) → record_field c (drop place log) ≡ x → AllByRecursion (IsReadable c log) (placed_from place (log_at (drop place log) (log_up_to c n) x).records)
    one further (Err s) e = tt
    one further (Ok x) e =
        let at = record_at c log place x.0 x.1 here e in
        let end : ℕ = place + length (record_bytes x.0) in
        let first = entries_readable c at.format 0 at.count log place end (place + 17) end x.0.changes at.within (omega arith) at.changes in
        let others = subst (λ (d : List ℕ). AllByRecursion (IsReadable c log) (placed_from end (log_up_to c n d).records)) (sym at.rest) (further end at.within) in
        all_joined (IsReadable c log) (placed_in place end (place + 17) x.0.changes) (placed_from end (log_up_to c n x.1).records) first others

-- a changed page that a walk answered is read at its place
pub placed_readable : (c : Sizes) (log : List ℕ) (place : ℕ) (w : Bool) (x : Placed) → IsPlaced c log place w x → IsReadable c log x
unfolding placed_of
placed_readable c log place w x is =
    let all = records_readable c log (length log) 0 (omega arith) in
    all_at (IsReadable c log) (placed_of c log) x is.among.0 all is.among.1 is.among.2

-- what is put of it, by a reader that stands behind its head
pub placed_put : (c : Sizes) (size : ℕ) (log : List ℕ) (place : ℕ) (w : Bool) (x : Placed) (r : Reading) (raw : List ℕ) → size ≡ c.size → IsPlaced c log place w x → r.limit ≡ length log → (place + 12 ≤ length log → r.place ≡ place + 12)
    → part_put (part_field size w (left_of r log)) raw ≡ Some (applied x.entry.part raw)
placed_put c size log place w x r raw same is limit at =
    let readable = placed_readable c log place w x is in
    let there : r.place ≡ x.place + 12 = at (omega (arith, readable.within, is.there)) ∙ ap (λ (p : ℕ). p + 12) (sym is.there) in
    let read : part_field size w (left_of r log) ≡ Ok (x.entry.part, readable.rest) =
    ap (λ (k : ℕ). part_field k w (slice_range log r.place r.limit)) same
    ∙ ap (λ (b : Bool). part_field c.size b (slice_range log r.place r.limit)) (sym is.format)
    ∙ ap (λ (p : ℕ). part_field c.size (is_whole x.entry.part) (slice_range log p r.limit)) there
    ∙ ap (λ (l : ℕ). part_field c.size (is_whole x.entry.part) (slice_range log (x.place + 12) l)) limit
    ∙ readable.part in
    part_given size w (left_of r log) readable.rest x.entry.part raw read

-- two answers that are the same, and two that aren't
abbrev bytes_or : List ℕ → Option (List ℕ) → List ℕ
bytes_or a (Some b) = b
bytes_or a None = a

pub some_same : (o : Option (List ℕ)) (a b : List ℕ) → o ≡ Some a → o ≡ Some b → a ≡ b
some_same o a b e f = ap (bytes_or a) (sym e ∙ f)

pub some_none : (o : Option (List ℕ)) (a : List ℕ) → o ≡ Some a → o ≡ None → ⊥
some_none (Some b) a e f = absurd (cc)
some_none None a e f = absurd (cc)
