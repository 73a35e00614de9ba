-- A walk ends: the places of its answers rise, and fit eight bytes.
use Rattle.std.proofs.Common.{◌≡◌, refl, ap, ℕ, ◌+◌, ◌*◌, ◌≤◌, List, [], ◌∷◌, ◌++◌, length, map, Some, None, arith, length-append}
use Rattle.std.specs.Prelude.{⊤}
use Rattle.std.specs.List.{concat}
use Rattle.std.specs.Int.{w32, w64, to_be_bytes}
use Rattle.pcl_base.specs.Limits.{Sizes}
use Rattle.pcl_base.specs.declared.log.Record.{Record}
use Rattle.pcl_base.specs.declared.log.Logged.{Logged}
use Rattle.pcl_base.specs.declared.log.Seen.{Seen}
use Rattle.text_rules.specs.LogRecord.{part_bytes, logged_bytes, body_bytes, record_bytes, records_of}
use Rattle.redo_log.specs.Placed.{Placed, seen_of, placed_in, placed_from, placed_of}
use Rattle.redo_log.specs.Walks.{first_seen, after_first}

-- places rise by two at least
abbrev pub RisesFrom : ℕ → List Placed → Type 0
RisesFrom low [] = ⊤
RisesFrom low (x ∷ xs) = (low ≤ x.place) × RisesFrom (low + 2) xs

pub rises_lower : (low high : ℕ) (xs : List Placed) → low ≤ high → RisesFrom high xs → RisesFrom low xs
rises_lower low high [] less h = tt
rises_lower low high (x ∷ xs) less h = (let first = h.0 in omega arith, rises_lower (low + 2) (high + 2) xs (omega arith) h.1)

-- an entry has more than two bytes
long_entry : (x : Logged) → 2 ≤ length (logged_bytes x)
long_entry x =
    let a = length-append (to_be_bytes w32 x.page) (to_be_bytes w64 x.version ++ part_bytes x.part) in
    let b = length-append (to_be_bytes w64 x.version) (part_bytes x.part) in
    omega (arith, a, b)

rises_in : (start end low place : ℕ) (xs : List Logged) (ys : List Placed) → low ≤ place → RisesFrom (place + length (concat (map logged_bytes xs))) ys
    → RisesFrom low (placed_in start end place xs ++ ys)
rises_in start end low place [] ys less h = rises_lower low (place + 0) ys (omega arith) h
rises_in start end low place (x ∷ xs) ys less h =
    let long = long_entry x in
    let all = length-append (logged_bytes x) (concat (map logged_bytes xs)) in
    let rest : RisesFrom (place + length (logged_bytes x) + length (concat (map logged_bytes xs))) ys = rises_lower _ _ ys (omega arith) h in
    (less, rises_in start end (low + 2) (place + length (logged_bytes x)) xs ys (omega arith) rest)

record_length : (r : Record) → length (record_bytes r) ≡ 17 + length (concat (map logged_bytes r.changes))
record_length r =
    let all : List ℕ = concat (map logged_bytes r.changes) in
    let a = length-append (to_be_bytes w32 r.tx.born) (to_be_bytes w32 r.tx.serial ++ to_be_bytes w32 (length r.changes) ++ all) in
    let b = length-append (to_be_bytes w32 r.tx.serial) (to_be_bytes w32 (length r.changes) ++ all) in
    let d = length-append (to_be_bytes w32 (length r.changes)) all in
    let e = length-append (to_be_bytes w32 (4 + length (body_bytes r))) (body_bytes r) in
    omega (arith, a, b, d, e)

rises_from : (place : ℕ) (rs : List Record) → RisesFrom place (placed_from place rs)
rises_from place [] = tt
rises_from place (r ∷ rs) =
    let count = record_length r in
    rises_in place (place + length (record_bytes r)) place (place + 17) r.changes (placed_from (place + length (record_bytes r)) rs) (omega arith)
    (rises_lower _ (place + length (record_bytes r)) _ (omega arith) (rises_from (place + length (record_bytes r)) rs))

pub placed_rises : (c : Sizes) (log : List ℕ) → RisesFrom 0 (placed_of c log)
unfolding placed_of
placed_rises c log = rises_from 0 (records_of c log)

-- one more answer
pub rise_step : (i : ℕ) (xs ys : List Placed) (seen : Seen) → Some seen ≡ first_seen xs → ys ≡ after_first xs → RisesFrom (2 * i) xs → (2 * i ≤ seen.place) × RisesFrom (2 * (i + 1)) ys
rise_step i [] ys seen some rest h = absurd (cc)
rise_step i (x ∷ xs) ys seen some rest h =
    let same : seen ≡ seen_of x = cc in
    let place = ap (λ (s : Seen). s.place) same in
    let first = h.0 in
    (omega arith, rw rest (rises_lower (2 * (i + 1)) (2 * i + 2) xs (omega arith) h.1))

pub no_more : (xs : List Placed) → None ≡ first_seen xs → xs ≡ []
no_more [] none = refl
no_more (x ∷ xs) none = absurd (cc)
