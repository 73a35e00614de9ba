-- What the answer of a walk does to what is to come.
use Rattle.std.proofs.Common.{◌≡◌, refl, sym, ap, subst, ◌∙◌, ℕ, zero, suc, ◌+◌, ◌-◌, ◌≤◌, ◌==◌, Bool, true, false, List, [], ◌∷◌, ◌++◌, length, drop, slice_range, Some, None, Result, Ok, Err, arith}
use Rattle.std.proofs.lemmas.Bool.Decides.{nat_tests}
use Rattle.pcl_base.specs.Limits.{Sizes}
use Rattle.pcl_base.specs.declared.log.Logged.{Logged}
use Rattle.pcl_base.specs.declared.log.Part.{Part}
use Rattle.pcl_base.specs.declared.log.Seen.{Seen}
use Rattle.text_rules.specs.FieldBytes.{Stop, pick, give, after}
use Rattle.text_rules.specs.LogRecord.{is_whole, logged_bytes, records_of, whole_len, part_field, changes_field}
use Rattle.redo_log.specs.Placed.{Placed, seen_of, whole_at, placed_in, placed_from}
use Rattle.redo_log.specs.Walks.{Reads, Standing, Stands, left_of, rest_of, changes_in, to_come, first_seen, after_first, whole_after}
use Rattle.redo_log.specs.Heads.{IsEntry, head_field}
use Rattle.std.specs.Int.{w32, w64}
use Rattle.redo_log.specs.declared.entries.Head.{Head}
use Rattle.redo_log.proofs.PieceLemmas.{slice_long}
use Rattle.redo_log.proofs.PassingLemmas.{rest_given}
use Rattle.redo_log.proofs.LengthLemmas.{part_long, changes_counted, least_long, from_long, went, given_left}

-- what an answer is
pub record Answers (w v : Standing) (log : List ℕ) (seen : Seen) : Type 0 where
  pub value : Some seen ≡ first_seen (to_come w log)
  pub rest : to_come v log ≡ after_first (to_come w log)
  pub whole : v.whole ≡ whole_after w.whole (to_come w log)
  pub stands : Stands v log

-- the length that is whole once an entry was answered
whole_then : (n whole limit : ℕ) (xs : List Logged) → length xs ≡ n → pick (n == 0) limit whole ≡ whole_at whole limit xs
whole_then zero whole limit [] e = refl
whole_then zero whole limit (x ∷ xs) e = absurd (omega arith)
whole_then (suc n) whole limit [] e = absurd (omega arith)
whole_then (suc n) whole limit (x ∷ xs) e = by (suc n == 0) refl
  where
    by : (t : Bool) → (suc n == 0) ≡ t → pick t limit whole ≡ whole
    by true f = absurd (grind (arith, nat_tests))
    by false f = refl

placed_then : (whole limit place : ℕ) (xs : List Logged) → placed_in (whole_at whole limit xs) limit place xs ≡ placed_in whole limit place xs
placed_then whole limit place [] = refl
placed_then whole limit place (x ∷ xs) = refl

-- some items were read, and nothing is left
pub record AllRead (r : Result (List Logged × List ℕ) Stop) : Type 0 where
  pub changes : List Logged
  pub is : r ≡ Ok (changes, [])

all_read : (r : Result (List Logged × List ℕ) Stop) → rest_of r ≡ Some [] → AllRead r
all_read (Ok x) e = let none : x.1 ≡ [] = cc in record { changes = x.0; is = ap (λ (d : List ℕ). let q : Result (List Logged × List ℕ) Stop = Ok (x.0, d) in q) none }
all_read (Err s) e = absurd (cc)

-- the bytes of an entry
entry_long : (c : Sizes) (w : Bool) (low : ℕ) (a : List ℕ) (h : Head) (b behind : List ℕ) (part : Part) → head_field c low a ≡ Ok (h, behind) → part_field c.size w behind ≡ Ok (part, b) → length a ≡ length (logged_bytes (record { page = h.page; version = h.version; part = part })) + length b
entry_long c w low a h b behind part p q =
    let r = went _ _ _ _ p in
    let t = went _ _ _ _ r.further in
    let page = from_long low (c.pages - 1) w32 a r.value r.behind r.first in
    let version = least_long 1 w64 r.behind t.value t.behind t.first in
    let left = given_left _ _ _ _ t.further in
    let rest = part_long c.size w behind part b q in
    omega (arith, page, version, rest.all, ap length left)

-- an answer, by its numbers
record OneMore (c : Sizes) (w : Bool) (low n whole limit place next : ℕ) (log : List ℕ) (h : Head) : Type 0 where
  pub entry : Logged
  pub changes : List Logged
  pub page : entry.page ≡ h.page
  pub version : entry.version ≡ h.version
  pub format : is_whole entry.part ≡ w
  pub before : changes_in (changes_field c w low (suc n) (slice_range log place limit)) ≡ entry ∷ changes
  pub behind : changes_in (changes_field c w (h.page + 1) n (slice_range log next limit)) ≡ changes
  pub left : rest_of (changes_field c w (h.page + 1) n (slice_range log next limit)) ≡ Some []
  pub count : length changes ≡ n
  pub far : next ≡ place + length (logged_bytes entry)

one_more : (c : Sizes) (w : Bool) (low n whole limit place next : ℕ) (log : List ℕ) (h : Head)
    → limit ≤ length log → place ≤ limit → next ≤ limit
    → IsEntry c w low (slice_range log place limit) h (slice_range log next limit)
    → rest_of (changes_field c w low (suc n) (slice_range log place limit)) ≡ Some []
    → OneMore c w low n whole limit place next log h
one_more c w low n whole limit place next log h within here there entry all =
    let further : Result (List Logged × List ℕ) Stop = changes_field c w (h.page + 1) n (slice_range log next limit) in
    let one : Logged = record { page = h.page; version = h.version; part = entry.part } in
    let same : rest_of further ≡ Some [] = sym (ap rest_of (entry.changes n) ∙ rest_given (λ (xs : List Logged). one ∷ xs) further) ∙ all in
    let read = all_read further same in
    let long = entry_long c w low (slice_range log place limit) h (slice_range log next limit) entry.behind entry.part entry.head entry.is in
    record {
      entry = one;
      changes = read.changes;
      page = refl;
      version = refl;
      format = (part_long c.size w entry.behind entry.part (slice_range log next limit) entry.is).format;
      before = ap changes_in (entry.changes n) ∙ ap (λ (r : Result (List Logged × List ℕ) Stop). changes_in (after r (λ xs. give (one ∷ xs)))) read.is;
      behind = ap changes_in read.is;
      left = same;
      count = changes_counted c w (h.page + 1) n (slice_range log next limit) read.changes [] read.is;
      far = omega (arith, long, slice_long log place limit within, slice_long log next limit within);
    }

pick_zero : (n a b : ℕ) → n ≡ 0 → pick (n == 0) a b ≡ a
pick_zero n a b e = ap (λ (m : ℕ). pick (m == 0) a b) e

-- the answer of an entry
pub answered : (w v : Standing) (log : List ℕ) (h : Head) → Stands w log → w.is_measured ≡ true → 1 ≤ w.pending → w.reading.place ≤ w.reading.limit
    → Reads v.reading log → v.reading.limit ≡ w.reading.limit → v.reading.place ≤ v.reading.limit
    → IsEntry w.config w.format w.low (left_of w.reading log) h (left_of v.reading log)
    → v ≡ record w { reading = v.reading; pending = w.pending - 1; low = h.page + 1; whole = pick (w.pending - 1 == 0) w.reading.limit w.whole }
    → Answers w v log (record { page = h.page; version = h.version; place = w.reading.place; whole = w.format })
unfolding to_come
answered w v log h stands measured some here reads limit there entry is =
    let n : ℕ = w.pending - 1 in
    let next : ℕ = v.reading.place in
    let far : ℕ = w.reading.limit in
    let more : w.pending ≡ suc n = omega arith in
    let within : far ≤ length log = omega (arith, (stands.reads measured).within) in
    let all = subst (λ (k : ℕ). rest_of (changes_field w.config w.format w.low k (left_of w.reading log)) ≡ Some []) more stands.pending in
    let entry_far = subst (λ (l : ℕ). IsEntry w.config w.format w.low (left_of w.reading log) h (slice_range log next l)) limit entry in
    let m = one_more w.config w.format w.low n w.whole far w.reading.place next log h within here (omega arith) entry_far all in
    let rest : List Placed = placed_from far (records_of w.config (drop far log)) in
    let whole : ℕ = pick (n == 0) far w.whole in
    let then : whole ≡ whole_at w.whole far m.changes = whole_then n w.whole far m.changes m.count in
    let come : to_come w log ≡ record { place = w.reading.place; entry = m.entry; whole = whole_at w.whole far m.changes } ∷ (placed_in w.whole far (w.reading.place + length (logged_bytes m.entry)) m.changes ++ rest) =
    ap (λ (k : ℕ). placed_in w.whole far w.reading.place (changes_in (changes_field w.config w.format w.low k (left_of w.reading log))) ++ rest) more
    ∙ ap (λ (xs : List Logged). placed_in w.whole far w.reading.place xs ++ rest) m.before in
    let to : Standing = record w { reading = v.reading; pending = n; low = h.page + 1; whole = whole } in
    let behind : to_come to log ≡ placed_in w.whole far (w.reading.place + length (logged_bytes m.entry)) m.changes ++ rest =
    ap (λ (l : ℕ). placed_in whole l next (changes_in (changes_field w.config w.format (h.page + 1) n (slice_range log next l))) ++ placed_from l (records_of w.config (drop l log))) limit
    ∙ ap (λ (xs : List Logged). placed_in whole far next xs ++ rest) m.behind
    ∙ ap (λ (k : ℕ). placed_in k far next m.changes ++ rest) then
    ∙ ap (λ (xs : List Placed). xs ++ rest) (placed_then w.whole far next m.changes)
    ∙ ap (λ (p : ℕ). placed_in w.whole far p m.changes ++ rest) m.far in
    let seen : Seen = record { page = h.page; version = h.version; place = w.reading.place; whole = w.format } in
    let told : seen ≡ seen_of (record { place = w.reading.place; entry = m.entry; whole = whole_at w.whole far m.changes }) =
    (λ i. record { page = sym m.page i; version = sym m.version i; place = w.reading.place; whole = sym m.format i }) in
    subst (λ (t : Standing). Answers w t log seen) (sym is)
    (record {
      value = ap (λ (x : Seen). Some x) told ∙ sym (ap first_seen come);
      rest = behind ∙ sym (ap after_first come);
      whole = then ∙ sym (ap (whole_after w.whole) come);
      stands = record {
        fresh = λ e. absurd (cc);
        reads = λ _. reads;
        pending = subst (λ (l : ℕ). rest_of (changes_field w.config w.format (h.page + 1) n (slice_range log next l)) ≡ Some []) (sym limit) m.left;
        between = λ e. pick_zero n far w.whole e ∙ sym limit;
        whole = subst (λ (l : ℕ). whole_len w.config log ≡ l + whole_len w.config (drop l log)) (sym limit) stands.whole;
      };
    })

-- a walk with something pending knows its log
measured_of : (t : Bool) (n : ℕ) → (t ≡ false → n ≡ 0) → 1 ≤ n → t ≡ true
measured_of true n h some = refl
measured_of false n h some = absurd (omega (arith, h refl))

-- a record ends where its last entry does
last_place : (c : Sizes) (w : Bool) (low n whole limit next : ℕ) (log : List ℕ) → limit ≤ length log → next ≤ limit
    → rest_of (changes_field c w low n (slice_range log next limit)) ≡ Some [] → pick (n == 0) next whole ≡ pick (n == 0) limit whole
last_place c w low zero whole limit next log within there left =
    let none : slice_range log next limit ≡ [] = cc in
    let same : next ≡ limit = omega (arith, slice_long log next limit within, ap length none) in
    ap (λ (p : ℕ). pick (zero == 0) p whole) same
last_place c w low (suc n) whole limit next log within there left = by (suc n == 0) refl
  where
    by : (t : Bool) → (suc n == 0) ≡ t → pick t next whole ≡ pick t limit whole
    by true f = absurd (grind (arith, nat_tests))
    by false f = refl

-- the answer of an entry, by a walk that was opened
pub answered_at : (u w v : Standing) (log : List ℕ) (h : Head) (place : ℕ) → u ≡ w → Stands w log → (u.is_measured ≡ false → u.pending ≡ 0) → 1 ≤ w.pending
    → place ≡ u.reading.place → u.reading.place ≤ u.reading.limit
    → Reads v.reading log → v.reading.limit ≡ u.reading.limit → v.reading.place ≤ v.reading.limit
    → IsEntry u.config u.format u.low (left_of u.reading log) h (left_of v.reading log)
    → v.whole ≡ pick (u.pending - 1 == 0) v.reading.place u.whole
    → v ≡ record u { reading = v.reading; pending = u.pending - 1; low = h.page + 1; whole = v.whole }
    → Answers w v log (record { page = h.page; version = h.version; place = place; whole = u.format })
answered_at u w v log h place e stands fresh some at here reads limit there entry kept is =
    let started : Stands u log = subst (λ (t : Standing). Stands t log) (sym e) stands in
    let more : 1 ≤ u.pending = omega (arith, ap (λ (t : Standing). t.pending) e) in
    let n : ℕ = u.pending - 1 in
    let many : u.pending ≡ suc n = omega arith in
    let further : Result (List Logged × List ℕ) Stop = changes_field u.config u.format (h.page + 1) n (left_of v.reading log) in
    let one : Logged = record { page = h.page; version = h.version; part = entry.part } in
    let all : rest_of (changes_field u.config u.format u.low (suc n) (left_of u.reading log)) ≡ Some [] =
    subst (λ (k : ℕ). rest_of (changes_field u.config u.format u.low k (left_of u.reading log)) ≡ Some []) many started.pending in
    let left : rest_of further ≡ Some [] = sym (ap rest_of (entry.changes n) ∙ rest_given (λ (xs : List Logged). one ∷ xs) further) ∙ all in
    let whole : v.whole ≡ pick (u.pending - 1 == 0) u.reading.limit u.whole =
    kept
    ∙ last_place u.config u.format (h.page + 1) n u.whole v.reading.limit v.reading.place log reads.within there left
    ∙ ap (λ (l : ℕ). pick (u.pending - 1 == 0) l u.whole) limit in
    let made : v ≡ record u { reading = v.reading; pending = u.pending - 1; low = h.page + 1; whole = pick (u.pending - 1 == 0) u.reading.limit u.whole } =
    is ∙ ap (λ (k : ℕ). let t : Standing = record u { reading = v.reading; pending = u.pending - 1; low = h.page + 1; whole = k } in t) whole in
    let answer = answered u v log h started (measured_of u.is_measured u.pending fresh more) more here reads limit there entry made in
    subst (λ (p : ℕ). Answers w v log (record { page = h.page; version = h.version; place = p; whole = u.format })) (sym at)
    (subst (λ (t : Standing). Answers t v log (record { page = h.page; version = h.version; place = u.reading.place; whole = u.format })) e answer)

-- an entry of a whole record doesn't fail
pub never_stops : (u w : Standing) (log : List ℕ) → u ≡ w → Stands w log → 1 ≤ w.pending
    → ((n : ℕ) → rest_of (changes_field u.config u.format u.low (suc n) (left_of u.reading log)) ≡ None) → ⊥
never_stops u w log e stands some torn =
    let started : Stands u log = subst (λ (t : Standing). Stands t log) (sym e) stands in
    let more : u.pending ≡ suc (u.pending - 1) = omega (arith, ap (λ (t : Standing). t.pending) e) in
    let all : rest_of (changes_field u.config u.format u.low (suc (u.pending - 1)) (left_of u.reading log)) ≡ Some [] =
    subst (λ (k : ℕ). rest_of (changes_field u.config u.format u.low k (left_of u.reading log)) ≡ Some []) more started.pending in
    let none = torn (u.pending - 1) in
    absurd (cc)
