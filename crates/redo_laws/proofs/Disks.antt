-- The records of all logs when one log changes, and the entries of a page in records.
use Rattle.std.proofs.Common.{inl, inr, ◌≡◌, refl, sym, ap, ◌∙◌, ℕ, zero, suc, ◌+◌, ◌<◌, ◌≤◌, Bool, true, false, nat_eq, ◌==◌, List, [], ◌∷◌, ◌++◌, length, slice_set, arith, append_assoc, append-nil}
use Rattle.std.specs.Prelude.{◌⊎◌, ◌≢◌, slice_index_or}
use Rattle.std.specs.List.{filter, AllByRecursion, Contains}
use Rattle.std.proofs.lemmas.Bool.Decides.{nat_tests}
use Rattle.std.proofs.lemmas.Grind.{get_or-set_at}
use Rattle.std.proofs.lemmas.List.{get_or-set_other, set-get_or}
use Rattle.pcl_base.specs.Limits.{Sizes}
use Rattle.pcl_base.specs.declared.log.Record.{Record}
use Rattle.pcl_base.specs.declared.log.Logged.{Logged}
use Rattle.text_rules.specs.LogRecord.{records_of, AreChanges}
use Rattle.run_rules.specs.Views.{count_from}
use Rattle.run_rules.specs.Disk.{Disk, log_at}
use Rattle.run_rules.specs.Redo.{entries_of, records_in}
use Rattle.redo_laws.specs.Words.{with_log}

-- an item of a changed list is the new one or the one that was there
pub item_of_changed : {X : Type 0} (xs : List X) (n m : ℕ) (y d : X) → (slice_index_or (slice_set xs n y) m d ≡ y) × (m ≡ n) ⊎ (slice_index_or (slice_set xs n y) m d ≡ slice_index_or xs m d)
item_of_changed [] n m y d = inr refl
item_of_changed (x ∷ xs) zero zero y d = inl (refl, refl)
item_of_changed (x ∷ xs) zero (suc m) y d = inr refl
item_of_changed (x ∷ xs) (suc n) zero y d = inr refl
item_of_changed (x ∷ xs) (suc n) (suc m) y d = one (item_of_changed xs n m y d)
  where
    one : (slice_index_or (slice_set xs n y) m d ≡ y) × (m ≡ n) ⊎ (slice_index_or (slice_set xs n y) m d ≡ slice_index_or xs m d)
        → (slice_index_or (slice_set xs n y) m d ≡ y) × (suc m ≡ suc n) ⊎ (slice_index_or (slice_set xs n y) m d ≡ slice_index_or xs m d)
    one (inl h) = inl (h.0, ap suc h.1)
    one (inr h) = inr h

-- the log of a node on a disk with another log of node n, where the two logs have the same records
records_at : (c : Sizes) (d : Disk) (n m : ℕ) (log : List ℕ) → records_of c log ≡ records_of c (log_at d n) → records_of c (log_at (with_log d n log) m) ≡ records_of c (log_at d m)
records_at c d n m log same = one (item_of_changed d.logs n m log [])
  where
    one : (slice_index_or (slice_set d.logs n log) m [] ≡ log) × (m ≡ n) ⊎ (slice_index_or (slice_set d.logs n log) m [] ≡ slice_index_or d.logs m [])
        → records_of c (log_at (with_log d n log) m) ≡ records_of c (log_at d m)
    one (inl h) = ap (records_of c) h.0 ∙ same ∙ ap (λ (k : ℕ). records_of c (log_at d k)) (sym h.1)
    one (inr h) = ap (records_of c) h

-- a log with the same records
pub records_same : (c : Sizes) (d : Disk) (n : ℕ) (log : List ℕ) (ns : List ℕ) → records_of c log ≡ records_of c (log_at d n) → records_in c (with_log d n log) ns ≡ records_in c d ns
unfolding records_in
records_same c d n log [] same = refl
records_same c d n log (m ∷ ns) same =
    ap (λ (rs : List Record). rs ++ records_in c (with_log d n log) ns) (records_at c d n m log same)
    ∙ ap (λ (rs : List Record). records_of c (log_at d m) ++ rs) (records_same c d n log ns same)

-- only the logs count
pub records_of_logs : (c : Sizes) (d e : Disk) (ns : List ℕ) → d.logs ≡ e.logs → records_in c d ns ≡ records_in c e ns
unfolding records_in
records_of_logs c d e [] same = refl
records_of_logs c d e (n ∷ ns) same =
    ap (λ (logs : List (List ℕ)). records_of c (slice_index_or logs n []) ++ records_in c d ns) same
    ∙ ap (λ (rs : List Record). records_of c (log_at e n) ++ rs) (records_of_logs c d e ns same)

-- logs of nodes behind the one that changed
records_beside : (c : Sizes) (d : Disk) (n a k : ℕ) (log : List ℕ) → n < a → records_in c (with_log d n log) (count_from a k) ≡ records_in c d (count_from a k)
unfolding records_in count_from
records_beside c d n a zero log less = refl
records_beside c d n a (suc k) log less =
    let other : a ≢ n = λ e. absurd (omega arith) in
    let first : log_at (with_log d n log) a ≡ log_at d a = get_or-set_other d.logs n a log [] other in
    ap (λ (bs : List ℕ). records_of c bs ++ records_in c (with_log d n log) (count_from (a + 1) k)) first
    ∙ ap (λ (rs : List Record). records_of c (log_at d a) ++ rs) (records_beside c d n (a + 1) k log (omega arith))

-- the records before those of one log and behind them
pub record AreAround (c : Sizes) (d : Disk) (n : ℕ) (ns : List ℕ) : Type 0 where
  pub front : List Record
  pub back : List Record
  pub all : (log : List ℕ) → records_in c (with_log d n log) ns ≡ front ++ (records_of c log ++ back)

around : (c : Sizes) (d : Disk) (n a k : ℕ) → a ≤ n → n < a + k → n < length d.logs → AreAround c d n (count_from a k)
unfolding records_in count_from
around c d n a zero low high inside = absurd (omega arith)
around c d n a (suc k) low high inside = one (nat_eq a n) refl (around c d n (a + 1) k)
  where
    one : (b : Bool) → nat_eq a n ≡ b → (a + 1 ≤ n → n < a + 1 + k → n < length d.logs → AreAround c d n (count_from (a + 1) k)) → AreAround c d n (a ∷ count_from (a + 1) k)
    one true is again =
        record {
          front = [];
          back = records_in c d (count_from (a + 1) k);
          all = λ log.
              let here : log_at (with_log d n log) a ≡ log = get_or-set_at d.logs n a log [] (grind (arith, nat_tests)) inside in
              ap (λ (bs : List ℕ). records_of c bs ++ records_in c (with_log d n log) (count_from (a + 1) k)) here
              ∙ ap (λ (rs : List Record). records_of c log ++ rs) (records_beside c d n (a + 1) k log (grind (arith, nat_tests)));
        }
    one false is again =
        let rest = again (grind (arith, nat_tests)) (omega arith) inside in
        let other : a ≢ n = λ e. grind (arith, nat_tests) in
        record {
          front = records_of c (log_at d a) ++ rest.front;
          back = rest.back;
          all = λ log.
              ap (λ (bs : List ℕ). records_of c bs ++ records_in c (with_log d n log) (count_from (a + 1) k)) (get_or-set_other d.logs n a log [] other)
              ∙ ap (λ (rs : List Record). records_of c (log_at d a) ++ rs) (rest.all log)
              ∙ sym (append_assoc (records_of c (log_at d a)) rest.front (records_of c log ++ rest.back));
        }

pub all_around : (c : Sizes) (d : Disk) (n : ℕ) → n < c.nodes → n < length d.logs → AreAround c d n (count_from 0 c.nodes)
all_around c d n node inside = around c d n 0 c.nodes (omega arith) (omega arith) inside

-- the disk with its own log
pub with_own_log : (d : Disk) (n : ℕ) → with_log d n (log_at d n) ≡ d
with_own_log d n = ap (λ (logs : List (List ℕ)). record d { logs = logs }) (set-get_or d.logs n [])

-- the entries of a page in some records and more
pub entries_append : (p : ℕ) (rs ss : List Record) → entries_of p (rs ++ ss) ≡ entries_of p rs ++ entries_of p ss
unfolding entries_of
entries_append p [] ss = refl
entries_append p (r ∷ rs) ss =
    ap (λ (xs : List Logged). filter (λ x. x.page == p) r.changes ++ xs) (entries_append p rs ss)
    ∙ sym (append_assoc (filter (λ x. x.page == p) r.changes) (entries_of p rs) (entries_of p ss))

-- in one record
pub entries_of_one : (p : ℕ) (r : Record) → entries_of p (r ∷ []) ≡ filter (λ x. x.page == p) r.changes
unfolding entries_of
entries_of_one p r = append-nil (filter (λ x. x.page == p) r.changes)

-- of a page that none of them has
pub no_entry : (p : ℕ) (xs : List Logged) → AllByRecursion (λ x. x.page ≢ p) xs → filter (λ x. x.page == p) xs ≡ []
no_entry p [] h = refl
no_entry p (x ∷ xs) h =
    let other : (x.page == p) ≡ false = let differs = h.0 in grind (arith, nat_tests) in
    rw other (no_entry p xs h.1)

-- pages rise, so no page comes twice
no_lower : (c : Sizes) (whole : Bool) (p low : ℕ) (xs : List Logged) → p < low → AreChanges c whole low xs → AllByRecursion (λ x. x.page ≢ p) xs
no_lower c whole p low [] less i = tt
no_lower c whole p low (x ∷ xs) less i =
    let above = i.0 in
    ((λ e. absurd (omega arith)), no_lower c whole p (x.page + 1) xs (omega arith) i.4)

only_at : (c : Sizes) (whole : Bool) (low k : ℕ) (xs : List Logged) (x : Logged) → AreChanges c whole low xs → k < length xs → slice_index_or xs k x ≡ x → (low ≤ x.page) × (filter (λ y. y.page == x.page) xs ≡ x ∷ [])
only_at c whole low k [] x i inside is = absurd (omega arith)
only_at c whole low zero (y ∷ xs) x i inside is =
    let same : (y.page == x.page) ≡ true = let e = ap (λ (z : Logged). z.page) is in grind (arith, nat_tests) in
    let e = ap (λ (z : Logged). z.page) is in
    let above = i.0 in
    let rest = no_entry x.page xs (no_lower c whole x.page (y.page + 1) xs (omega arith) i.4) in
    (omega arith, rw same (ap (λ (z : Logged). z ∷ filter (λ y. y.page == x.page) xs) is ∙ ap (λ (zs : List Logged). x ∷ zs) rest))
only_at c whole low (suc k) (y ∷ xs) x i inside is =
    let rest = only_at c whole (y.page + 1) k xs x i.4 (omega arith) is in
    let above = rest.0 in
    let low_above = i.0 in
    let other : (y.page == x.page) ≡ false = grind (arith, nat_tests) in
    (omega arith, rw other rest.1)

pub only_entry : (c : Sizes) (whole : Bool) (low : ℕ) (xs : List Logged) (x : Logged) → AreChanges c whole low xs → Contains xs x → filter (λ y. y.page == x.page) xs ≡ x ∷ []
only_entry c whole low xs x i among = (only_at c whole low among.0 xs x i among.1 among.2).1
