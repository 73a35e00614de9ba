-- The greatest version among the answers of walks is that of the definitions.
use Rattle.std.proofs.Common.{◌≡◌, refl, sym, ap, ◌∙◌, ℕ, ◌+◌, Bool, true, false, nat_lt, ◌==◌, ◌&&◌, List, [], ◌∷◌, ◌++◌, length, Option, Some}
use Rattle.std.specs.List.{filter}
use Rattle.std.proofs.lemmas.List.Sums.{fold-append}
use Rattle.pcl_base.specs.Limits.{Sizes}
use Rattle.pcl_base.specs.declared.log.Record.{Record}
use Rattle.pcl_base.specs.declared.log.Logged.{Logged}
use Rattle.text_rules.specs.LogRecord.{logged_bytes, record_bytes, records_of}
use Rattle.run_rules.specs.Words.{pick}
use Rattle.run_rules.specs.Disk.{Disk, log_at}
use Rattle.run_rules.specs.Redo.{entries_of, records_in, greatest}
use Rattle.redo_laws.proofs.Disks.{entries_append}
use Rattle.redo_laws.proofs.Greatest.{greater, greatest_from}
use Rattle.redo_log.specs.Placed.{Placed, seen_of, placed_in, placed_from, placed_of}
use Rattle.partition_redo.specs.Newest.{seen_version, seen_all, seen_logs}

seen_append : (p : ℕ) (xs ys : List Placed) (o : Option ℕ) → seen_all p (xs ++ ys) o ≡ seen_all p ys (seen_all p xs o)
seen_append p xs ys o = fold-append (λ (v : Option ℕ) (x : Placed). seen_version p (seen_of x) v) o xs ys

-- one entry
seen_one : (p v : ℕ) (x : Logged) (b : Bool) → (x.page == p) ≡ b → pick (x.page == p && nat_lt v x.version) x.version v ≡ pick b (greater v x) v
seen_one p v x true is = rw is refl
seen_one p v x false is = rw is refl

seen_in : (p start end place v : ℕ) (xs : List Logged) → seen_all p (placed_in start end place xs) (Some v) ≡ Some (greatest_from v (filter (λ x. x.page == p) xs))
seen_in p start end place v [] = refl
seen_in p start end place v (x ∷ xs) = one (x.page == p) refl (λ w. seen_in p start end (place + length (logged_bytes x)) w xs)
  where
    one : (b : Bool) → (x.page == p) ≡ b
        → ((w : ℕ) → seen_all p (placed_in start end (place + length (logged_bytes x)) xs) (Some w) ≡ Some (greatest_from w (filter (λ x. x.page == p) xs)))
        → seen_all p (placed_in start end place (x ∷ xs)) (Some v) ≡ Some (greatest_from v (filter (λ x. x.page == p) (x ∷ xs)))
    one true is again =
        ap (λ (w : ℕ). seen_all p (placed_in start end (place + length (logged_bytes x)) xs) (Some w)) (seen_one p v x true is)
        ∙ again (greater v x)
        ∙ rw is refl
    one false is again =
        ap (λ (w : ℕ). seen_all p (placed_in start end (place + length (logged_bytes x)) xs) (Some w)) (seen_one p v x false is)
        ∙ again v
        ∙ rw is refl

seen_from : (p place v : ℕ) (rs : List Record) → seen_all p (placed_from place rs) (Some v) ≡ Some (greatest_from v (entries_of p rs))
unfolding entries_of
seen_from p place v [] = refl
seen_from p place v (r ∷ rs) =
    let first : List Logged = filter (λ x. x.page == p) r.changes in
    seen_append p (placed_in place (place + length (record_bytes r)) (place + 17) r.changes) (placed_from (place + length (record_bytes r)) rs) (Some v)
    ∙ ap (seen_all p (placed_from (place + length (record_bytes r)) rs)) (seen_in p place (place + length (record_bytes r)) (place + 17) v r.changes)
    ∙ seen_from p (place + length (record_bytes r)) (greatest_from v first) rs
    ∙ ap Some (sym (fold-append greater v first (entries_of p rs)))

seen_placed : (c : Sizes) (log : List ℕ) (p v : ℕ) → seen_all p (placed_of c log) (Some v) ≡ Some (greatest_from v (entries_of p (records_of c log)))
unfolding placed_of
seen_placed c log p v = seen_from p 0 v (records_of c log)

seen_in_logs : (c : Sizes) (d : Disk) (p v : ℕ) (ns : List ℕ) → seen_logs c d p ns (Some v) ≡ Some (greatest_from v (entries_of p (records_in c d ns)))
unfolding records_in entries_of
seen_in_logs c d p v [] = refl
seen_in_logs c d p v (n ∷ ns) =
    let own : List Logged = entries_of p (records_of c (log_at d n)) in
    ap (seen_logs c d p ns) (seen_placed c (log_at d n) p v)
    ∙ seen_in_logs c d p (greatest_from v own) ns
    ∙ ap Some (sym (fold-append greater v own (entries_of p (records_in c d ns))))
    ∙ ap (λ (xs : List Logged). Some (greatest_from v xs)) (sym (entries_append p (records_of c (log_at d n)) (records_in c d ns)))

-- the greatest version in the whole records of some logs
pub seen_is_greatest : (c : Sizes) (d : Disk) (p : ℕ) (ns : List ℕ) → seen_logs c d p ns (Some 0) ≡ Some (greatest (records_in c d ns) p)
unfolding greatest
seen_is_greatest c d p ns = seen_in_logs c d p 0 ns
