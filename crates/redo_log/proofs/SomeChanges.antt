-- Each whole record of a log has a changed page.
use Rattle.std.proofs.Common.{◌≡◌, refl, sym, ap, ◌∙◌, ℕ, zero, suc, ◌≤◌, ◌==◌, Bool, true, false, nat_le, List, length, Result, Ok, Err, arith}
use Rattle.std.specs.List.{AllByRecursion}
use Rattle.std.specs.Int.{Width, w8, w32}
use Rattle.std.proofs.lemmas.Bool.Decides.{nat_tests}
use Rattle.pcl_base.specs.Limits.{Sizes}
use Rattle.pcl_base.specs.declared.log.Record.{Record}
use Rattle.text_rules.specs.FieldBytes.{Stop, TooLong, BadField, stop, pick, number, at_least, allowed, piece, whole, before_rest, judged}
use Rattle.text_rules.specs.LogRecord.{is_mark, changes_field, body_field, record_field, log_at, log_up_to, records_of}
use Rattle.redo_log.proofs.LengthLemmas.{went, given_value, judged_read, changes_counted}

picked_least : (low n : ℕ) (t : Bool) (a b : List ℕ) → nat_le low n ≡ t → pick {X = Result (ℕ × List ℕ) Stop} t (Ok (n, b)) (stop BadField a) ≡ Ok (n, b) → low ≤ n
picked_least low n true a b e f = grind (arith, nat_tests)
picked_least low n false a b e f = absurd (cc)

least_is : (low : ℕ) (w : Width) (a : List ℕ) (n : ℕ) (b : List ℕ) → at_least low w a ≡ Ok (n, b) → low ≤ n
least_is low w a n b e =
    let read = judged_read BadField (nat_le low) a (number w a) n b e in
    let picked : pick {X = Result (ℕ × List ℕ) Stop} (nat_le low n) (Ok (n, b)) (stop BadField a) ≡ Ok (n, b) = ap (judged BadField (nat_le low) a) (sym read) ∙ e in
    picked_least low n (nat_le low n) a b refl picked

body_some : (c : Sizes) (v : List ℕ) (r : Record) (b : List ℕ) → body_field c v ≡ Ok (r, b) → 1 ≤ length r.changes
body_some c v r b e =
    let m = went (allowed BadField (is_mark c.nodes) (number w8) v) _ _ _ e in
    let p = went (at_least 1 w32 m.behind) _ _ _ m.further in
    let q = went (at_least 1 w32 p.behind) _ _ _ p.further in
    let n = went (at_least 1 w32 q.behind) _ _ _ q.further in
    let x = went (changes_field c _ 0 n.value n.behind) _ _ _ n.further in
    let made = given_value _ r _ b x.further in
    let some = least_is 1 w32 q.behind n.value n.behind n.first in
    let count = changes_counted c _ 0 n.value n.behind x.value x.behind x.first in
    omega (arith, some, count, ap (λ (s : Record). length s.changes) made)

abbrev value_in : Record → Result (Record × List ℕ) Stop → Record
value_in r (Ok p) = p.0
value_in r (Err s) = r

ended : (c : Sizes) (v rest : List ℕ) (r : Record) (b : List ℕ) (x : Record) (d : List ℕ) (t : Bool) → body_field c v ≡ Ok (x, d) → before_rest rest (pick t (Ok x) (stop TooLong d)) ≡ Ok (r, b) → 1 ≤ length r.changes
ended c v rest r b x d true e g =
    let made : x ≡ r = ap (value_in r) g in omega (arith, body_some c v x d e, ap (λ (s : Record). length s.changes) made)
ended c v rest r b x d false e g = absurd (cc)

whole_some : (c : Sizes) (v rest : List ℕ) (r : Record) (b : List ℕ) (w : Result (Record × List ℕ) Stop) → body_field c v ≡ w → before_rest rest (whole w) ≡ Ok (r, b) → 1 ≤ length r.changes
whole_some c v rest r b (Ok x) e g = ended c v rest r b x.0 x.1 (length x.1 == 0) e g
whole_some c v rest r b (Err s) e g = absurd (cc)

record_some : (c : Sizes) (a : List ℕ) (r : Record) (b : List ℕ) → record_field c a ≡ Ok (r, b) → 1 ≤ length r.changes
record_some c a r b e =
    let p = went (number w32 a) _ _ _ e in
    let q = went (piece _ p.behind) _ _ _ p.further in
    whole_some c q.value q.behind r b (body_field c q.value) refl q.further

some_up_to : (c : Sizes) (n : ℕ) (bytes : List ℕ) → AllByRecursion (λ r. 1 ≤ length r.changes) (log_up_to c n bytes).records
some_up_to c zero bytes = tt
some_up_to c (suc n) bytes = one (some_up_to c n) (record_field c bytes) refl
  where
    one : ((rest : List ℕ) → AllByRecursion (λ r. 1 ≤ length r.changes) (log_up_to c n rest).records) → (x : Result (Record × List ℕ) Stop) → record_field c bytes ≡ x → AllByRecursion (λ r. 1 ≤ length r.changes) (log_at bytes (log_up_to c n) x).records
    one further (Err s) e = tt
    one further (Ok x) e = (record_some c bytes x.0 x.1 e, further x.1)

pub some_changes : (c : Sizes) (log : List ℕ) → AllByRecursion (λ r. 1 ≤ length r.changes) (records_of c log)
some_changes c log = some_up_to c (length log) log
