-- Laws for those who fold the answers of a walk.
use Rattle.std.proofs.Common.{◌≡◌, refl, ap, ◌∙◌, ℕ, ◌+◌, List, [], ◌∷◌, ◌++◌, length, map}
use Rattle.std.specs.List.{flat_map}
use Rattle.std.proofs.lemmas.List.{map-append}
use Rattle.pcl_base.specs.Limits.{Sizes}
use Rattle.pcl_base.specs.declared.log.Record.{Record}
use Rattle.pcl_base.specs.declared.log.Logged.{Logged}
use Rattle.text_rules.specs.LogRecord.{logged_bytes, record_bytes, records_of}
use Rattle.redo_log.specs.Placed.{Placed, placed_in, placed_from, placed_of}

-- the entries of changed pages
entries_in : (start end place : ℕ) (xs : List Logged) → map (λ x. x.entry) (placed_in start end place xs) ≡ xs
entries_in start end place [] = refl
entries_in start end place (x ∷ xs) = ap (λ (l : List Logged). x ∷ l) (entries_in start end (place + length (logged_bytes x)) xs)

pub entries_from : (place : ℕ) (rs : List Record) → map (λ x. x.entry) (placed_from place rs) ≡ flat_map (λ r. r.changes) rs
entries_from place [] = refl
entries_from place (r ∷ rs) =
    map-append (λ (x : Placed). x.entry) (placed_in place (place + length (record_bytes r)) (place + 17) r.changes) (placed_from (place + length (record_bytes r)) rs)
    ∙ ap (λ (l : List Logged). l ++ map (λ x. x.entry) (placed_from (place + length (record_bytes r)) rs)) (entries_in place (place + length (record_bytes r)) (place + 17) r.changes)
    ∙ ap (λ (l : List Logged). r.changes ++ l) (entries_from (place + length (record_bytes r)) rs)

-- the changed pages that a walk answers are those of the whole records, in log order
pub entries_of_log : (c : Sizes) (log : List ℕ) → map (λ x. x.entry) (placed_of c log) ≡ flat_map (λ r. r.changes) (records_of c log)
unfolding placed_of
entries_of_log c log = entries_from 0 (records_of c log)
