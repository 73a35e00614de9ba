-- The worked schedules of one page, step by step.
use Rattle.std.specs.Prelude.{ℕ, ◌≤◌, Bool, true, false, ◌&&◌, ◌||◌, eqb, ◌≡◌, ◌≢◌, ◌⊎◌, List, [], ◌∷◌, Option, Some, None}
use Rattle.std.proofs.Common.{refl, sym, ap, subst, arith}
use Rattle.pcl_base.specs.declared.tx.TxId.{TxId}
use Rattle.pcl_base.specs.declared.tx.Mode.{Mode}
use Rattle.pcl_base.specs.declared.tx.Mode.TheVariants.{Shared, Exclusive}
use mathlib.Core.Logic.{inl, inr}
use Rattle.page_protocol.specs.Authority.{granting, Alone, giving, spending, IsReading, LockUsed, returning, releasing, releasing_change, losing}
use Rattle.page_protocol.specs.Bytes.{Access, Read, Write}
use Rattle.page_protocol.specs.Eras.{crashed, crashing, falling, reported, reports_for, reporting, joining, settled, completing}
use Rattle.page_protocol.specs.Homes.{asking, accepting, taking_right, reading, writing, committing_reads, committing}
use Rattle.page_protocol.specs.State.{pick, same_tx, has, Current, Image, OnDisk, Right, NoRight, Home, Fresh, Asking, Holding, Reading, Ended, Gone, lock_of, InEra, Page, opening, IsClosed, IsShelf}
use Rattle.page_protocol.specs.Steps.{asks, retells, accepts, takes_right, reads, writes_piece, commits_reads, commits, grants_lock, gives_right, revokes, returns_right, releases, releases_change, loses, crashes, falls, reports, joins, completes, restores, Run, here, then}
use Rattle.page_protocol.specs.Storage.{restoring}
use Rattle.page_protocol.specs.MoreRows.{begins, first_byte, first_of, grant, image_read, reader_open, right_returned, reader_ended, revoked_for, owner_lost, commit_rebuilding, rebuilt, survivor_read, left_alone, come_back, wrote_anew, read_anew, release_lost, stopped_before, stopped_after, second_reader, read_after}
use Rattle.page_protocol.proofs.Basics.{same_tx_true, same_tx_refl, same_tx_tells, by_test, by_tx, by_node}

nobody_left : (b : Bool) → pick b None (pick b (Some Exclusive) None) ≢ Some Exclusive
nobody_left true e = absurd (cc)
nobody_left false e = absurd (cc)

pub image_run : Run (opening (begins 0) 1 1) image_read
unfolding asking granting accepting writing committing releasing_change reading committing_reads releasing
image_run =
    then (then (then (then (then (then (then (then (then (then (then (then (then here
    (asks (first_of 0 1) Exclusive refl))
    (grants_lock (first_of 0 1) Exclusive OnDisk refl (λ u e. absurd (cc)) (λ u. inl refl, λ n. refl) (λ f. f) (λ e. absurd (cc))))
    (accepts (grant (first_of 0 1) Exclusive 0 OnDisk) (inl refl) refl refl))
    (writes_piece (first_of 0 1) 0 (7 ∷ []) refl))
    (commits (first_of 0 1) (first_byte 7) refl refl refl))
    (asks (first_of 1 1) Shared refl))
    (releases_change (first_of 0 1) refl refl))
    (retells (first_of 1 1) Shared None refl))
    (grants_lock (first_of 1 1) Shared Current refl (λ u. nobody_left (same_tx u (first_of 0 1) && eqb 1 1)) tt (λ f. f) (λ p. refl)))
    (accepts (grant (first_of 1 1) Shared 1 Current) (inl refl) refl refl))
    (reads (first_of 1 1) tt))
    (commits_reads (first_of 1 1) tt refl))
    (releases (first_of 1 1) None refl (λ e. absurd (cc)))

-- with the two transactions the other way round
other_way : (u t : TxId) → same_tx u t ≡ false → same_tx t u ≡ false
other_way u t e = tells (same_tx t u) refl
  where
    tells : (b : Bool) → same_tx t u ≡ b → b ≡ false
    tells false p = refl
    tells true p = let g : same_tx u t ≡ true = subst (λ x. same_tx x t ≡ true) (same_tx_true t u p) (same_tx_refl t) in absurd (cc)

only_reader : (t : TxId) → IsReading (pick (same_tx t (first_of 1 1)) (Asking Exclusive None) (pick (same_tx t (first_of 0 1)) Reading (pick (same_tx t (first_of 0 1)) (Asking Shared None) Fresh))) → has t (first_of 0 1 ∷ []) ≡ true
only_reader t =
    by_tx P (first_of 1 1) t (Asking Exclusive None) (pick (same_tx t (first_of 0 1)) Reading (pick (same_tx t (first_of 0 1)) (Asking Shared None) Fresh)) (λ r. absurd r)
    (by_tx P (first_of 0 1) t Reading (pick (same_tx t (first_of 0 1)) (Asking Shared None) Fresh) (λ r. refl)
    (by_test (same_tx t (first_of 0 1)) (P t) (Asking Shared None) Fresh (λ e r. absurd r) (λ e r. absurd r)))
  where
    P : TxId → Home → Type 0
    P v k = IsReading k → has v (first_of 0 1 ∷ []) ≡ true

something : (x : Access) (xs : List Access) → (x ∷ xs) ≢ []
something x xs e = absurd (cc)

or_false : (b : Bool) → (b || false) ≡ true → b ≡ true
or_false true e = refl
or_false false e = e

named_read : (t : TxId) → has t (first_of 0 1 ∷ []) ≡ true → reader_open.script t ≢ []
unfolding asking giving taking_right reading
named_read t h = subst (λ v. reader_open.script v ≢ []) (same_tx_true (first_of 0 1) t (or_false (same_tx (first_of 0 1) t) h)) (something (Read (begins 0)) [])

gone_by : (b c : Bool) → (b ≡ false → c ≡ false) → pick (b && eqb 1 1) None (pick ((c || false) && eqb 1 1) (Some Shared) None) ≡ None
gone_by true c f = refl
gone_by false false f = refl
gone_by false true f = let e : true ≡ false = f refl in absurd (cc)

reader_gone : (u : TxId) → pick (same_tx u (first_of 0 1) && eqb 1 1) None (pick (has u (first_of 0 1 ∷ []) && eqb 1 1) (Some Shared) None) ≡ None
reader_gone u = gone_by (same_tx u (first_of 0 1)) (same_tx (first_of 0 1) u) (other_way u (first_of 0 1))

not_writing : (l : Option Mode) → l ≡ None → l ≢ Some Exclusive
not_writing l e f = absurd (cc)

right_gone : (b : Bool) (x y z : Right) → pick b NoRight (pick b x (pick b y (pick b z NoRight))) ≡ NoRight
right_gone true x y z = refl
right_gone false x y z = refl

reader_run : Run (opening (begins 0) 1 1) reader_open
unfolding asking giving taking_right reading
reader_run =
    then (then (then (then here
    (asks (first_of 0 1) Shared refl))
    (gives_right (first_of 0 1) OnDisk refl (λ u e. absurd (cc)) refl (λ f. f) (λ e. absurd (cc))))
    (takes_right (grant (first_of 0 1) Shared 0 OnDisk) None refl refl refl))
    (reads (first_of 0 1) tt)

ended_run : Run (opening (begins 0) 1 1) reader_ended
unfolding asking giving taking_right reading spending returning committing_reads releasing
ended_run =
    then (then (then (then (then reader_run
    (asks (first_of 1 1) Exclusive refl))
    (revokes 0 0 (first_of 0 1 ∷ []) refl refl (λ t n r. only_reader t r) (λ t n h. named_read t h)))
    (returns_right 0 (first_of 0 1 ∷ []) refl))
    (commits_reads (first_of 0 1) tt refl))
    (releases (first_of 0 1) None refl (λ e. absurd (cc)))

alone_again : Alone reader_ended (first_of 1 1) Exclusive
unfolding asking giving taking_right reading spending returning committing_reads releasing
alone_again = (λ u. inl (reader_gone u), λ n. right_gone (eqb n 0) _ _ _)

pub revoked_run : Run (opening (begins 0) 1 1) revoked_for
unfolding asking giving taking_right reading spending returning committing_reads releasing granting accepting writing committing releasing_change
revoked_run =
    then (then (then (then (then ended_run
    (grants_lock (first_of 1 1) Exclusive OnDisk refl (λ u. not_writing _ (reader_gone u)) alone_again (λ f. f) (λ e. absurd (cc))))
    (accepts (grant (first_of 1 1) Exclusive 0 OnDisk) (inl refl) refl refl))
    (writes_piece (first_of 1 1) 0 (1 ∷ []) refl))
    (commits (first_of 1 1) (first_byte 1) refl refl refl))
    (releases_change (first_of 1 1) refl refl)

pub revoked_bars : Alone right_returned (first_of 1 1) Exclusive → ⊥
unfolding asking giving taking_right reading spending returning
revoked_bars p = no_holder (p.0 (first_of 0 1))
  where
    no_holder : (Some Shared ≡ None) ⊎ (first_of 0 1 ≡ first_of 1 1) → ⊥
    no_holder (inl e) = absurd (cc)
    no_holder (inr e) = let n : ◌≡◌ {A = ℕ} 0 1 = ap (λ (t : TxId). t.node) e in absurd (omega arith)

-- a report of a transaction without a registered lock lists nothing
report_none : (a : Page) (n e : ℕ) (u : TxId) (f : ℕ) → reported (a.home u) ≡ None → a.listed u f ≡ None → (reporting a n e).listed u f ≡ None
unfolding reporting
report_none a n e u f p q = by_test (reports_for a.reached n e u f) (λ x. x ≡ None) (reported (a.home u)) (a.listed u f) (λ s. p) (λ s. q)

no_shelf : (b : Bool) (e x : ℕ) → IsShelf (pick b NoRight NoRight) → e ≤ x
no_shelf true e x s = absurd s
no_shelf false e x s = absurd s

-- homes of others while the writer holds the page, and the owner is lost
abbrev holding : Bool → Home
holding s = pick s (Holding Exclusive) (pick s (Asking Exclusive None) Fresh)

abbrev left : Bool → Bool → Home
left s d = pick d (crashed (holding s)) (holding s)

left_quiet : (s d : Bool) → s ≡ false → reported (left s d) ≡ None
left_quiet true d e = absurd (cc)
left_quiet false true e = refl
left_quiet false false e = refl

left_used : (s d : Bool) (x : Access) → LockUsed (lock_of (left s d)) (pick s (x ∷ []) [])
left_used true true x = tt
left_used true false x = something x []
left_used false true x = tt
left_used false false x = tt

left_listed : (s : Bool) → pick (s && eqb 2 1) (Some Exclusive) None ≡ None
left_listed true = refl
left_listed false = refl

abbrev waiting : Bool → Bool → Bool → Home
waiting s r d = pick s (Ended (Some 1) 1) (pick r (Asking Shared None) (left s d))

waiting_quiet : (s r d : Bool) → reported (waiting s r d) ≡ None
waiting_quiet true r d = refl
waiting_quiet false true d = refl
waiting_quiet false false true = refl
waiting_quiet false false false = refl

waiting_used : (s r d : Bool) (script : List Access) → LockUsed (lock_of (waiting s r d)) script
waiting_used true r d script = tt
waiting_used false true d script = tt
waiting_used false false true script = tt
waiting_used false false false script = tt

waiting_free : (s r d : Bool) (e x : ℕ) → InEra (lock_of (pick s Gone (waiting s r d))) e x
waiting_free true r d e x = tt
waiting_free false true d e x = tt
waiting_free false false true e x = tt
waiting_free false false false e x = tt

owner_lists : (u : TxId) → (reporting owner_lost 0 2).listed u 2 ≡ None
unfolding asking granting accepting writing falling crashing reporting
owner_lists u = lists (same_tx_tells u (first_of 2 1))
  where
    lists : ((same_tx u (first_of 2 1) ≡ true) × (u ≡ first_of 2 1)) ⊎ ((same_tx u (first_of 2 1) ≡ false) × (u ≢ first_of 2 1)) → (reporting owner_lost 0 2).listed u 2 ≡ None
    lists (inl p) = subst (λ v. (reporting owner_lost 0 2).listed v 2 ≡ None) (sym p.1) refl
    lists (inr p) = report_none owner_lost 0 2 u 2 (left_quiet (same_tx u (first_of 2 1)) (eqb u.node 1) p.0) (left_listed (same_tx u (first_of 2 1)))

rebuilt_lists : (u : TxId) → rebuilt.listed u 2 ≡ None
unfolding asking granting accepting writing falling crashing reporting committing losing completing
rebuilt_lists u = report_none commit_rebuilding 2 2 u 2 (waiting_quiet (same_tx u (first_of 2 1)) (same_tx u (first_of 0 1)) (eqb u.node 1)) (owner_lists u)

lost_run : Run (opening (begins 0) 1 1) owner_lost
unfolding asking granting accepting writing falling crashing
lost_run =
    then (then (then (then (then (then here
    (asks (first_of 2 1) Exclusive refl))
    (grants_lock (first_of 2 1) Exclusive OnDisk refl (λ u e. absurd (cc)) (λ u. inl refl, λ n. refl) (λ f. f) (λ e. absurd (cc))))
    (accepts (grant (first_of 2 1) Exclusive 0 OnDisk) (inl refl) refl refl))
    (writes_piece (first_of 2 1) 0 (5 ∷ []) refl))
    falls)
    (crashes 1 (λ s o. absurd (cc)))

rebuilt_run : Run (opening (begins 0) 1 1) rebuilt
unfolding asking granting accepting writing falling crashing reporting committing losing completing
rebuilt_run =
    then (then (then (then (then (then lost_run
    (reports 0 2 (omega arith) (omega arith) (λ t k. left_used (same_tx t (first_of 2 1)) (eqb t.node 1) (Write 0 (5 ∷ [])))))
    (asks (first_of 0 1) Shared refl))
    (commits (first_of 2 1) (first_byte 5) refl refl refl))
    (reports 2 2 (omega arith) (omega arith) (λ t k. waiting_used (same_tx t (first_of 2 1)) (same_tx t (first_of 0 1)) (eqb t.node 1) (commit_rebuilding.script t))))
    (loses (first_of 2 1) (Some 1) 1 refl (λ e. refl)))
    (completes 2 0 refl (omega arith) (λ t. waiting_free (same_tx t (first_of 2 1)) (same_tx t (first_of 0 1)) (eqb t.node 1) 2 _, λ n. no_shelf (eqb n 1) 2 _))

pub survivor_run : Run (opening (begins 0) 1 1) survivor_read
unfolding asking granting accepting writing falling crashing reporting committing losing completing reading committing_reads releasing
survivor_run =
    then (then (then (then (then rebuilt_run
    (grants_lock (first_of 0 1) Shared OnDisk refl (λ u. not_writing _ (rebuilt_lists u)) tt (λ f. f) (λ e. absurd (cc))))
    (accepts (grant (first_of 0 1) Shared 1 OnDisk) (inl refl) refl refl))
    (reads (first_of 0 1) tt))
    (commits_reads (first_of 0 1) tt refl))
    (releases (first_of 0 1) None refl (λ e. absurd (cc)))

fresh_quiet : (d : Bool) → reported (pick d Fresh Fresh) ≡ None
fresh_quiet true = refl
fresh_quiet false = refl

fresh_free : (d : Bool) (e x : ℕ) → InEra (lock_of (pick d Fresh Fresh)) e x
fresh_free true e x = tt
fresh_free false e x = tt

fresh_used : (d : Bool) → LockUsed (lock_of (pick d Fresh Fresh)) []
fresh_used true = tt
fresh_used false = tt

fresh_closed : (d : Bool) → IsClosed (pick d Fresh Fresh)
fresh_closed true = tt
fresh_closed false = tt

no_right : (b : Bool) → pick b NoRight NoRight ≡ NoRight
no_right true = refl
no_right false = refl

settled_none : (e : ℕ) (r : Right) → r ≡ NoRight → settled e r ≡ NoRight
settled_none e r p = subst (λ x. settled e x ≡ NoRight) (sym p) refl

none_shelf : (r : Right) (e x : ℕ) → r ≡ NoRight → IsShelf r → e ≤ x
none_shelf r e x p s = absurd (subst (λ y. IsShelf y) p s)

alone_rights : (n : ℕ) → left_alone.right n ≡ NoRight
unfolding falling crashing reporting completing
alone_rights n = settled_none 2 (pick (eqb n 1) NoRight NoRight) (no_right (eqb n 1))

back_rights : (n : ℕ) → come_back.right n ≡ NoRight
unfolding falling reporting joining completing
back_rights n = settled_none 3 (left_alone.right n) (alone_rights n)

back_lists : (u : TxId) → come_back.listed u 3 ≡ None
unfolding falling crashing reporting joining completing
back_lists u =
    report_none (falling left_alone) 0 3 u 3 (fresh_quiet (eqb u.node 1))
    (report_none (crashing (falling (opening (begins 0) 1 1)) 1) 0 2 u 3 (fresh_quiet (eqb u.node 1)) refl)

back_run : Run (opening (begins 0) 1 1) come_back
unfolding falling crashing reporting joining completing
back_run =
    then (then (then (then (then (then (then (then here
    falls)
    (crashes 1 (λ s o. absurd (cc))))
    (reports 0 2 (omega arith) (omega arith) (λ t k. fresh_used (eqb t.node 1))))
    (completes 2 0 refl (omega arith) (λ t. fresh_free (eqb t.node 1) 2 _, λ n. no_shelf (eqb n 1) 2 _)))
    falls)
    (reports 0 3 (omega arith) (omega arith) (λ t k. fresh_used (eqb t.node 1))))
    (joins 1 3 (omega arith) (omega arith) (λ t n. fresh_closed (eqb t.node 1))))
    (completes 3 1 refl (omega arith) (λ t. fresh_free (eqb t.node 1) 3 _, λ n. none_shelf (left_alone.right n) 3 _ (alone_rights n)))

writer_left : (b : Bool) (l : Option Mode) → l ≡ None → pick b None (pick b (Some Exclusive) l) ≢ Some Exclusive
writer_left true l e f = absurd (cc)
writer_left false l e f = absurd (cc)

wrote_run : Run (opening (begins 0) 1 1) wrote_anew
unfolding falling crashing reporting joining completing asking granting accepting writing committing releasing_change
wrote_run =
    then (then (then (then (then (then back_run
    (asks (first_of 1 3) Exclusive refl))
    (grants_lock (first_of 1 3) Exclusive OnDisk refl (λ u. not_writing _ (back_lists u)) (λ u. inl (back_lists u), back_rights) (λ f. f) (λ e. absurd (cc))))
    (accepts (grant (first_of 1 3) Exclusive 0 OnDisk) (inl refl) refl refl))
    (writes_piece (first_of 1 3) 0 (1 ∷ []) refl))
    (commits (first_of 1 3) (first_byte 1) refl refl refl))
    (releases_change (first_of 1 3) refl refl)

pub anew_run : Run (opening (begins 0) 1 1) read_anew
unfolding falling crashing reporting joining completing asking granting accepting writing committing releasing_change giving taking_right reading
anew_run =
    then (then (then (then wrote_run
    (asks (first_of 0 1) Shared refl))
    (gives_right (first_of 0 1) (Image (begins 1)) refl (λ u. writer_left (same_tx u (first_of 1 3) && eqb 3 3) (come_back.listed u 3) (back_lists u)) refl (λ f. f) refl))
    (takes_right (grant (first_of 0 1) Shared 1 (Image (begins 1))) None refl refl refl))
    (reads (first_of 0 1) tt)

-- homes after the writer's commit, after the loss of the owner and of the release, and after the stop
abbrev committed_homes : Bool → Home
committed_homes s = pick s (Ended (Some 1) 1) (holding s)

abbrev lost_homes : Bool → Bool → Home
lost_homes s d = pick s Gone (pick d (crashed (committed_homes s)) (committed_homes s))

abbrev stopped_homes : Bool → Bool → Bool → Home
stopped_homes s d z = pick z (crashed (lost_homes s d)) (lost_homes s d)

lost_quiet : (s d : Bool) → reported (lost_homes s d) ≡ None
lost_quiet true d = refl
lost_quiet false true = refl
lost_quiet false false = refl

stopped_quiet : (s d z : Bool) → reported (stopped_homes s d z) ≡ None
stopped_quiet true d true = refl
stopped_quiet true d false = refl
stopped_quiet false true true = refl
stopped_quiet false true false = refl
stopped_quiet false false true = refl
stopped_quiet false false false = refl

lost_used : (s d : Bool) (script : List Access) → LockUsed (lock_of (lost_homes s d)) script
lost_used true d script = tt
lost_used false true script = tt
lost_used false false script = tt

stopped_used : (s d z : Bool) (script : List Access) → LockUsed (lock_of (stopped_homes s d z)) script
stopped_used true d true script = tt
stopped_used true d false script = tt
stopped_used false true true script = tt
stopped_used false true false script = tt
stopped_used false false true script = tt
stopped_used false false false script = tt

stopped_free : (s d z : Bool) (e x : ℕ) → InEra (lock_of (stopped_homes s d z)) e x
stopped_free true d true e x = tt
stopped_free true d false e x = tt
stopped_free false true true e x = tt
stopped_free false true false e x = tt
stopped_free false false true e x = tt
stopped_free false false false e x = tt

later_listed : (s : Bool) → pick (s && eqb 3 1) (Some Exclusive) None ≡ None
later_listed true = refl
later_listed false = refl

stopped_lists : (byte : ℕ) (u : TxId) → (reporting (stopped_before byte) 2 3).listed u 3 ≡ None
unfolding asking granting accepting writing committing falling crashing losing reporting
stopped_lists byte u =
    report_none (stopped_before byte) 2 3 u 3 (stopped_quiet (same_tx u (first_of 2 1)) (eqb u.node 1) (eqb u.node 0))
    (report_none (reporting (release_lost byte) 0 2) 2 2 u 3 (lost_quiet (same_tx u (first_of 2 1)) (eqb u.node 1))
    (report_none (release_lost byte) 0 2 u 3 (lost_quiet (same_tx u (first_of 2 1)) (eqb u.node 1)) (later_listed (same_tx u (first_of 2 1)))))

stopped_rights : (byte n : ℕ) → (stopped_before byte).right n ≡ NoRight
unfolding asking granting accepting writing committing falling crashing losing reporting
stopped_rights byte n = by_node (λ k y. y ≡ NoRight) 0 n NoRight (pick (eqb n 1) NoRight NoRight) refl (no_right (eqb n 1))

stopped_run : (byte : ℕ) → Run (opening (begins 0) 1 1) (stopped_before byte)
unfolding asking granting accepting writing committing falling crashing losing reporting
stopped_run byte =
    then (then (then (then (then (then (then (then (then (then (then here
    (asks (first_of 2 1) Exclusive refl))
    (grants_lock (first_of 2 1) Exclusive OnDisk refl (λ u e. absurd (cc)) (λ u. inl refl, λ n. refl) (λ f. f) (λ e. absurd (cc))))
    (accepts (grant (first_of 2 1) Exclusive 0 OnDisk) (inl refl) refl refl))
    (writes_piece (first_of 2 1) 0 (byte ∷ []) refl))
    (commits (first_of 2 1) (first_byte byte) refl refl refl))
    falls)
    (crashes 1 (λ s o. absurd (cc))))
    (loses (first_of 2 1) (Some 1) 1 refl (λ e. refl)))
    (reports 0 2 (omega arith) (omega arith) (λ t k. lost_used (same_tx t (first_of 2 1)) (eqb t.node 1) ((release_lost byte).script t))))
    (reports 2 2 (omega arith) (omega arith) (λ t k. lost_used (same_tx t (first_of 2 1)) (eqb t.node 1) ((release_lost byte).script t))))
    (crashes 0 (λ s o. absurd (cc)))

pub unwritten_run : (byte : ℕ) → Run (opening (begins 0) 1 1) (read_after (stopped_before byte))
unfolding asking granting accepting writing committing falling crashing losing reporting completing reading committing_reads releasing
unwritten_run byte =
    then (then (then (then (then (then (then (then (stopped_run byte)
    (reports 2 3 (omega arith) (omega arith) (λ t k. stopped_used (same_tx t (first_of 2 1)) (eqb t.node 1) (eqb t.node 0) ((stopped_before byte).script t))))
    (completes 3 2 refl (omega arith) (λ t. stopped_free (same_tx t (first_of 2 1)) (eqb t.node 1) (eqb t.node 0) 3 _, λ n. none_shelf ((stopped_before byte).right n) 3 _ (stopped_rights byte n))))
    (asks second_reader Shared refl))
    (grants_lock second_reader Shared Current refl (λ u. not_writing _ (stopped_lists byte u)) tt (λ f. f) (λ p. refl)))
    (accepts (grant second_reader Shared 1 Current) (inl refl) refl refl))
    (reads second_reader tt))
    (commits_reads second_reader tt refl))
    (releases second_reader None refl (λ e. absurd (cc)))

pub written_run : (byte : ℕ) → Run (opening (begins 0) 1 1) (read_after (stopped_after byte))
unfolding asking granting accepting writing committing falling crashing losing reporting completing reading committing_reads releasing restoring
written_run byte =
    then (then (then (then (then (then (then (then (then (stopped_run byte)
    (restores 1 (omega arith) (omega arith) (λ s. absurd (cc))))
    (reports 2 3 (omega arith) (omega arith) (λ t k. stopped_used (same_tx t (first_of 2 1)) (eqb t.node 1) (eqb t.node 0) ((stopped_before byte).script t))))
    (completes 3 2 refl (omega arith) (λ t. stopped_free (same_tx t (first_of 2 1)) (eqb t.node 1) (eqb t.node 0) 3 _, λ n. none_shelf ((stopped_before byte).right n) 3 _ (stopped_rights byte n))))
    (asks second_reader Shared refl))
    (grants_lock second_reader Shared Current refl (λ u. not_writing _ (stopped_lists byte u)) tt (λ f. f) (λ p. refl)))
    (accepts (grant second_reader Shared 1 Current) (inl refl) refl refl))
    (reads second_reader tt))
    (commits_reads second_reader tt refl))
    (releases second_reader None refl (λ e. absurd (cc)))
