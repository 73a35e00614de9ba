-- Walks over a log: what a further answer does, and that they end.
use Rattle.std.proofs.Common.{◌≡◌, refl, sym, ap, subst, ◌∙◌, ℕ, suc, ◌+◌, ◌-◌, ◌*◌, ◌<◌, ◌≤◌, List, [], ◌∷◌, ◌++◌, length, map, Option, Some, None, arith, length-append}
use Rattle.std.specs.Prelude.{⊤, slice_index_or}
use Rattle.std.specs.List.{concat}
use Rattle.std.specs.Int.{w32, w64, to_be_bytes}
use Rattle.std.proofs.lemmas.Option.{slice_get-get_or}
use Rattle.pcl_base.specs.Limits.{Sizes}
use Rattle.pcl_base.specs.declared.log.Record.{Record}
use Rattle.pcl_base.specs.declared.log.Logged.{Logged}
use Rattle.pcl_base.specs.declared.log.Seen.{Seen}
use Rattle.text_rules.specs.LogRecord.{part_bytes, logged_bytes, body_bytes, record_bytes, records_of}
use Rattle.run_rules.specs.Disk.{Disk, raw_page, log_at}
use Rattle.disk_model.specs.Disk.{Pages, Logs, Rooms, HasSizes, told_at, IsIn}
use Rattle.run_rules.specs.Views.{count_from}
use Rattle.redo_log.specs.Told.{IsLog}
use Rattle.redo_log.specs.Placed.{Placed, seen_of, placed_in, placed_from, placed_of}
use Rattle.redo_log.specs.Walks.{first_seen, after_first}
use Rattle.partition_redo.specs.Newest.{seen_version, seen_all}

-- places rise by two at least
abbrev pub RisesFrom : ℕ → List Placed → Type 0
RisesFrom low [] = ⊤
RisesFrom low (x ∷ xs) = (low ≤ x.place) × RisesFrom (low + 2) xs

pub rises_lower : (low high : ℕ) (xs : List Placed) → low ≤ high → RisesFrom high xs → RisesFrom low xs
rises_lower low high [] less h = tt
rises_lower low high (x ∷ xs) less h = (let first = h.0 in omega arith, rises_lower (low + 2) (high + 2) xs (omega arith) h.1)

-- an entry has more than two bytes
long_entry : (x : Logged) → 2 ≤ length (logged_bytes x)
long_entry x =
    let a = length-append (to_be_bytes w32 x.page) (to_be_bytes w64 x.version ++ part_bytes x.part) in
    let b = length-append (to_be_bytes w64 x.version) (part_bytes x.part) in
    omega (arith, a, b)

rises_in : (start end low place : ℕ) (xs : List Logged) (ys : List Placed) → low ≤ place → RisesFrom (place + length (concat (map logged_bytes xs))) ys
    → RisesFrom low (placed_in start end place xs ++ ys)
rises_in start end low place [] ys less h = rises_lower low (place + 0) ys (omega arith) h
rises_in start end low place (x ∷ xs) ys less h =
    let long = long_entry x in
    let all = length-append (logged_bytes x) (concat (map logged_bytes xs)) in
    let rest : RisesFrom (place + length (logged_bytes x) + length (concat (map logged_bytes xs))) ys = rises_lower _ _ ys (omega arith) h in
    (less, rises_in start end (low + 2) (place + length (logged_bytes x)) xs ys (omega arith) rest)

record_length : (r : Record) → length (record_bytes r) ≡ 17 + length (concat (map logged_bytes r.changes))
record_length r =
    let all : List ℕ = concat (map logged_bytes r.changes) in
    let a = length-append (to_be_bytes w32 r.tx.born) (to_be_bytes w32 r.tx.serial ++ to_be_bytes w32 (length r.changes) ++ all) in
    let b = length-append (to_be_bytes w32 r.tx.serial) (to_be_bytes w32 (length r.changes) ++ all) in
    let d = length-append (to_be_bytes w32 (length r.changes)) all in
    let e = length-append (to_be_bytes w32 (4 + length (body_bytes r))) (body_bytes r) in
    omega (arith, a, b, d, e)

rises_from : (place : ℕ) (rs : List Record) → RisesFrom place (placed_from place rs)
rises_from place [] = tt
rises_from place (r ∷ rs) =
    let count = record_length r in
    rises_in place (place + length (record_bytes r)) place (place + 17) r.changes (placed_from (place + length (record_bytes r)) rs) (omega arith)
    (rises_lower _ (place + length (record_bytes r)) _ (omega arith) (rises_from (place + length (record_bytes r)) rs))

pub placed_rises : (c : Sizes) (log : List ℕ) → RisesFrom 0 (placed_of c log)
unfolding placed_of
placed_rises c log = rises_from 0 (records_of c log)

-- the log of a node, where all logs are told
pub log_told : (d : Disk) (logs : Logs) (n : ℕ) → IsIn logs n → logs ≡ Some d.logs → IsLog logs n (log_at d n)
log_told d None n inside is = absurd (cc)
log_told d (Some l) n inside is =
    let same : l ≡ d.logs = cc in
    slice_get-get_or l n [] inside ∙ ap (λ (ls : List (List ℕ)). Some (slice_index_or ls n [])) same

-- one more answer
pub rise_step : (i : ℕ) (xs ys : List Placed) (seen : Seen) → Some seen ≡ first_seen xs → ys ≡ after_first xs → RisesFrom (2 * i) xs → (2 * i ≤ seen.place) × RisesFrom (2 * (i + 1)) ys
rise_step i [] ys seen some rest h = absurd (cc)
rise_step i (x ∷ xs) ys seen some rest h =
    let same : seen ≡ seen_of x = cc in
    let place = ap (λ (s : Seen). s.place) same in
    let first = h.0 in
    (omega arith, rw rest (rises_lower (2 * (i + 1)) (2 * i + 2) xs (omega arith) h.1))

pub seen_step : (p : ℕ) (xs ys : List Placed) (seen : Seen) (v w : Option ℕ) → Some seen ≡ first_seen xs → ys ≡ after_first xs → w ≡ seen_version p seen v → seen_all p ys w ≡ seen_all p xs v
seen_step p [] ys seen v w some rest is = absurd (cc)
seen_step p (x ∷ xs) ys seen v w some rest is =
    let same : seen ≡ seen_of x = cc in
    ap (λ (zs : List Placed). seen_all p zs w) rest ∙ ap (seen_all p xs) (is ∙ ap (λ (s : Seen). seen_version p s v) same)

pub no_more : (xs : List Placed) → None ≡ first_seen xs → xs ≡ []
no_more [] none = refl
no_more (x ∷ xs) none = absurd (cc)

-- the log that a walk reads
pub log_walked : (d : Disk) (logs : Logs) (n m : ℕ) → m ≡ n → IsIn logs m → logs ≡ Some d.logs → IsLog logs m (log_at d n)
log_walked d logs n m own inside is = subst (λ (k : ℕ). IsLog logs m (log_at d k)) own (log_told d logs m inside is)

-- sizes of a storage that is told as before
pub sizes_kept : (c : Sizes) (pages more_pages : Pages) (logs more_logs : Logs) (rooms more_rooms : Rooms) → more_pages ≡ pages → more_logs ≡ logs → more_rooms ≡ rooms → HasSizes c pages logs rooms → HasSizes c more_pages more_logs more_rooms
sizes_kept c pages more_pages logs more_logs rooms more_rooms p l r h =
    subst (λ (x : Pages). HasSizes c x more_logs more_rooms) (sym p)
    (subst (λ (x : Logs). HasSizes c pages x more_rooms) (sym l) (subst (λ (x : Rooms). HasSizes c pages logs x) (sym r) h))

-- counting on, and to the end
pub count_next : (i n : ℕ) → i < n → count_from i (n - i) ≡ i ∷ count_from (i + 1) (n - (i + 1))
unfolding count_from
count_next i n less = let more : n - i ≡ suc (n - (i + 1)) = omega arith in rw more refl

pub count_end : (i n : ℕ) → n ≤ i → count_from i (n - i) ≡ []
unfolding count_from
count_end i n past = let none : n - i ≡ 0 = omega arith in rw none refl

-- a stored page, where all pages are told
pub page_told : (d : Disk) (pages : Pages) (p : ℕ) → IsIn pages p → pages ≡ Some d.pages → told_at pages p ≡ Some (raw_page d.pages p)
page_told d None p inside is = absurd (cc)
page_told d (Some l) p inside is =
    let same : l ≡ d.pages = cc in
    slice_get-get_or l p [] inside ∙ ap (λ (ls : List (List ℕ)). Some (slice_index_or ls p [])) same
