-- The computed rows.
use Rattle.std.specs.Prelude.{ℕ, ◌≤◌, Bool, true, false, ◌&&◌, eqb, ◌≡◌, ◌≢◌, ◌⊎◌, List, [], ◌∷◌, Option, Some, None}
use Rattle.std.proofs.Common.{refl, ap, arith}
use Rattle.pcl_base.specs.declared.tx.TxId.{TxId}
use Rattle.pcl_base.specs.declared.tx.Mode.TheVariants.{Shared, Exclusive}
use mathlib.Core.Logic.{inl, inr}
use Rattle.page_protocol.specs.Authority.{granting, NobodyWrites, Alone, WordFits, giving, NamesAll, LockUsed, releasing_change}
use Rattle.page_protocol.specs.Bytes.{Access, Read}
use Rattle.page_protocol.specs.Eras.{falling, reporting, IsComplete, completing}
use Rattle.page_protocol.specs.Homes.{asking, Takes, accepting, taking_right, reading, writing, committing}
use Rattle.page_protocol.specs.State.{pick, same_tx, upd, updn, Current, Image, OnDisk, NoRight, Flying, Shelf, Home, Fresh, Asking, Holding, Reading, Ended, Gone, lock_of, InEra, opening, IsShelf}
use Rattle.page_protocol.specs.Steps.{Step, asks, accepts, takes_right, reads, writes_piece, commits, grants_lock, gives_right, releases_change, falls, reports, completes, Run, here, then}
use Rattle.page_protocol.specs.Rows.{first_writer, next_reader, zeros, written, changed, first_grant, next_grant, wrote, released, read_back, lock_given, half_moved, moved, moved_on, half_reported, unchained, OneWriter}
use Rattle.page_protocol.proofs.Basics.{by_test, by_tx, by_node}

nobody_left : (b : Bool) → pick b None (pick b (Some Exclusive) None) ≢ Some Exclusive
nobody_left true e = absurd (cc)
nobody_left false e = absurd (cc)

pub row_run : Run (opening zeros 1 0) read_back
unfolding asking granting accepting writing committing releasing_change giving taking_right reading
row_run =
    then (then (then (then (then (then (then (then (then (then here
    (asks first_writer Exclusive refl))
    (grants_lock first_writer Exclusive OnDisk refl (λ u e. absurd (cc)) (λ u. inl refl, λ n. refl) (λ f. f) (λ e. absurd (cc))))
    (accepts first_grant (inl refl) refl refl))
    (writes_piece first_writer 1 (7 ∷ 8 ∷ []) refl))
    (commits first_writer changed refl refl refl))
    (releases_change first_writer refl refl))
    (asks next_reader Shared refl))
    (gives_right next_reader (Image written) refl (λ u. nobody_left (same_tx u first_writer && eqb 1 1)) refl (λ f. f) refl))
    (takes_right next_grant None refl refl refl))
    (reads next_reader tt)

two_apart : {A : Type 0} → (Some Shared ≡ None) ⊎ (next_reader ≡ first_writer) → A
two_apart (inl e) = absurd (cc)
two_apart (inr e) = let n : ◌≡◌ {A = ℕ} 2 1 = ap (λ (t : TxId). t.node) e in absurd (omega arith)

pub row_holder_bars : Alone lock_given first_writer Exclusive → ⊥
unfolding asking granting accepting writing committing releasing_change
row_holder_bars p = two_apart (p.0 next_reader)

pub row_right_bars : Alone read_back first_writer Exclusive → ⊥
unfolding asking granting accepting writing committing releasing_change giving taking_right reading
row_right_bars p = let e : Shelf 1 ≡ NoRight = p.1 2 in absurd (cc)

pub row_writer_bars : NobodyWrites wrote → ⊥
unfolding asking granting accepting writing
row_writer_bars p = p first_writer refl

pub row_names : NamesAll read_back 2 [] → ⊥
unfolding asking granting accepting writing committing releasing_change giving taking_right reading
row_names p = let e : false ≡ true = p next_reader refl tt in absurd (cc)

pub row_late : Takes moved_on 1 → ⊥
unfolding asking granting reporting
row_late p = let e : ◌≡◌ {A = ℕ} 2 1 = p in absurd (omega arith)

pub row_waits : IsComplete half_reported 2 → ⊥
unfolding asking granting accepting writing falling reporting
row_waits p = let e : 2 ≤ 1 = p.0 first_writer in absurd (omega arith)

pub row_disk : WordFits (asking released next_reader Shared) next_reader OnDisk → ⊥
unfolding asking granting accepting writing committing releasing_change
row_disk p = p refl

pub row_current : WordFits (asking released next_reader Shared) next_reader Current → ⊥
unfolding asking granting accepting writing committing releasing_change
row_current p = let e : ◌≡◌ {A = Option ℕ} None (Some 1) = p (omega arith) in absurd (cc)

pub row_step : Step unchained (completing unchained 2 0)
row_step = completes 2 0 refl (omega arith) (λ t. tt, λ n s. absurd s)

pub row_after : OneWriter (completing unchained 2 0) → ⊥
unfolding completing
row_after p = two_apart (p first_writer next_reader refl)

all_moved : (u : TxId) → InEra (lock_of (read_back.home u)) 2 (updn (updn (updn (λ n. 1) 2 2) 0 2) 1 2 u.node)
unfolding asking granting accepting writing committing releasing_change giving taking_right reading
all_moved u =
    by_tx P next_reader u Reading (upd (upd (upd (upd (upd (λ t. Fresh) first_writer (Asking Exclusive None)) first_writer (Holding Exclusive)) first_writer (Ended (Some 1) 1)) first_writer Gone) next_reader (Asking Shared None) u) (omega arith)
    (by_tx P next_reader u (Asking Shared None) (upd (upd (upd (upd (λ t. Fresh) first_writer (Asking Exclusive None)) first_writer (Holding Exclusive)) first_writer (Ended (Some 1) 1)) first_writer Gone u) tt
    (by_test (same_tx u first_writer) (P u) Gone (upd (upd (upd (λ t. Fresh) first_writer (Asking Exclusive None)) first_writer (Holding Exclusive)) first_writer (Ended (Some 1) 1) u) (λ s. tt)
    (λ s. before s)))
  where
    P : TxId → Home → Type 0
    P v k = InEra (lock_of k) 2 (updn (updn (updn (λ n. 1) 2 2) 0 2) 1 2 v.node)

    before : same_tx u first_writer ≡ false → P u (upd (upd (upd (λ t. Fresh) first_writer (Asking Exclusive None)) first_writer (Holding Exclusive)) first_writer (Ended (Some 1) 1) u)
    before s = rw (s) tt

shelf_moved : (n : ℕ) → IsShelf (read_back.right n) → 2 ≤ updn (updn (updn (λ n. 1) 2 2) 0 2) 1 2 n
unfolding asking granting accepting writing committing releasing_change giving taking_right reading
shelf_moved n =
    by_node (λ k y. IsShelf y → 2 ≤ updn (updn (updn (λ n. 1) 2 2) 0 2) 1 2 k) 2 n (Shelf 1) (updn (λ n. NoRight) 2 (Flying next_grant) n) (λ s. omega arith)
    (by_node (λ k y. IsShelf y → 2 ≤ updn (updn (updn (λ n. 1) 2 2) 0 2) 1 2 k) 2 n (Flying next_grant) NoRight (λ s. absurd s) (λ s. absurd s))

something : (x : Access) (xs : List Access) → (x ∷ xs) ≢ []
something x xs e = absurd (cc)

used_back : (u : TxId) → LockUsed (lock_of (read_back.home u)) (read_back.script u)
unfolding asking granting accepting writing committing releasing_change giving taking_right reading
used_back u =
    by_tx P next_reader u Reading (upd (upd (upd (upd (upd (λ t. Fresh) first_writer (Asking Exclusive None)) first_writer (Holding Exclusive)) first_writer (Ended (Some 1) 1)) first_writer Gone) next_reader (Asking Shared None) u) (something (Read written) [])
    (by_tx P next_reader u (Asking Shared None) (upd (upd (upd (upd (λ t. Fresh) first_writer (Asking Exclusive None)) first_writer (Holding Exclusive)) first_writer (Ended (Some 1) 1)) first_writer Gone u) tt
    (by_test (same_tx u first_writer) (P u) Gone (upd (upd (upd (λ t. Fresh) first_writer (Asking Exclusive None)) first_writer (Holding Exclusive)) first_writer (Ended (Some 1) 1) u) (λ s. tt)
    (λ s. before s)))
  where
    P : TxId → Home → Type 0
    P v k = LockUsed (lock_of k) (read_back.script v)

    before : same_tx u first_writer ≡ false → P u (upd (upd (upd (λ t. Fresh) first_writer (Asking Exclusive None)) first_writer (Holding Exclusive)) first_writer (Ended (Some 1) 1) u)
    before s = rw (s) tt

pub row_moved : Run (opening zeros 1 0) moved
unfolding asking granting accepting writing committing releasing_change giving taking_right reading falling reporting
row_moved =
    then (then (then (then (then row_run
    (reports 2 2 (omega arith) (omega arith) (λ t k. used_back t)))
    falls)
    (reports 0 2 (omega arith) (omega arith) (λ t k. used_back t)))
    (reports 1 2 (omega arith) (omega arith) (λ t k. used_back t)))
    (completes 2 1 refl (omega arith) (all_moved, shelf_moved))

pub row_moved_bars : Alone half_moved first_writer Exclusive → ⊥
unfolding asking granting accepting writing committing releasing_change giving taking_right reading reporting
row_moved_bars p = let e : Shelf 1 ≡ NoRight = p.1 2 in absurd (cc)
