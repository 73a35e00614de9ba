-- The records whose pages a walk answers end within the log.
use Rattle.std.proofs.Common.{◌≡◌, refl, sym, ap, subst, ◌∙◌, ℕ, zero, suc, ◌+◌, ◌≤◌, List, [], ◌∷◌, ◌++◌, length, Some, Result, Ok, Err, arith, length-append}
use Rattle.std.specs.List.{AllByRecursion}
use Rattle.pcl_base.specs.Limits.{Sizes}
use Rattle.pcl_base.specs.declared.log.Record.{Record}
use Rattle.pcl_base.specs.declared.log.Logged.{Logged}
use Rattle.pcl_base.specs.declared.log.Seen.{Seen}
use Rattle.text_rules.specs.FieldBytes.{Stop}
use Rattle.text_rules.specs.LogRecord.{Log, logged_bytes, record_field, record_bytes, records_of}
use Rattle.redo_log.specs.Placed.{Placed, whole_at, placed_in, placed_from, placed_of}
use Rattle.redo_log.specs.Walks.{first_seen, after_first, whole_after}
use Rattle.redo_log.proofs.LogLemmas.{begins}
use Rattle.redo_laws.proofs.Reading.{record_read}
use Rattle.redo_laws.proofs.Logs.{log_torn}

-- each record that is answered ends at this place or before
abbrev pub EndBy : ℕ → List Placed → Type 0
EndBy n xs = AllByRecursion (λ x. x.whole ≤ n) xs

both_end : (n : ℕ) (xs ys : List Placed) → EndBy n xs → EndBy n ys → EndBy n (xs ++ ys)
both_end n [] ys h g = g
both_end n (x ∷ xs) ys h g = (h.0, both_end n xs ys h.1 g)

whole_ends : (n start end : ℕ) (xs : List Logged) → start ≤ n → end ≤ n → whole_at start end xs ≤ n
whole_ends n start end [] low high = high
whole_ends n start end (x ∷ xs) low high = low

record_ends : (n start end place : ℕ) (xs : List Logged) → start ≤ n → end ≤ n → EndBy n (placed_in start end place xs)
record_ends n start end place [] low high = tt
record_ends n start end place (x ∷ xs) low high =
    (whole_ends n start end xs low high, record_ends n start end (place + length (logged_bytes x)) xs low high)

ends_up_to : (c : Sizes) (n m place : ℕ) (bytes : List ℕ) → length bytes ≤ n → place + length bytes ≤ m → EndBy m (placed_from place (records_of c bytes))
ends_up_to c n m place [] few room = tt
ends_up_to c zero m place (x ∷ a) few room = absurd (omega arith)
ends_up_to c (suc n) m place (x ∷ a) few room = one (record_field c (x ∷ a)) refl (ends_up_to c n m)
  where
    one : (y : Result (Record × List ℕ) Stop) → record_field c (x ∷ a) ≡ y
        → ((place : ℕ) (bytes : List ℕ) → length bytes ≤ n → place + length bytes ≤ m → EndBy m (placed_from place (records_of c bytes)))
        → EndBy m (placed_from place (records_of c (x ∷ a)))
    one (Err s) e again =
        subst (λ (rs : List Record). EndBy m (placed_from place rs)) (sym (ap (λ (l : Log). l.records) (log_torn c (x ∷ a) s e))) tt
    one (Ok p) e again =
        let first = begins c (x ∷ a) p.0 p.1 e in
        let long = first.long in
        let read = record_read c (x ∷ a) p.0 p.1 e in
        let parts = ap length read.same ∙ length-append read.front p.1 in
        let some = read.long in
        subst (λ (rs : List Record). EndBy m (placed_from place rs)) (sym first.records)
        (both_end m (placed_in place (place + length (record_bytes p.0)) (place + 17) p.0.changes) (placed_from (place + length (record_bytes p.0)) (records_of c p.1))
        (record_ends m place (place + length (record_bytes p.0)) (place + 17) p.0.changes (omega (arith, room)) (omega (arith, room, long)))
        (again (place + length (record_bytes p.0)) p.1 (omega (arith, few, parts, some)) (omega (arith, room, long))))

-- the records of a log
pub log_ends_of : (c : Sizes) (log : List ℕ) → EndBy (length log) (placed_of c log)
unfolding placed_of
log_ends_of c log = ends_up_to c (length log) (length log) 0 log (omega arith) (omega arith)

-- what was answered then ends within, and what is left
pub next_ends : (n whole : ℕ) (xs : List Placed) (s : Seen) → Some s ≡ first_seen xs → EndBy n xs → (whole_after whole xs ≤ n) × EndBy n (after_first xs)
next_ends n whole [] s e h = absurd (cc)
next_ends n whole (x ∷ xs) s e h = (h.0, h.1)
