-- What a report lists of a page, by where the transactions stand.
use Rattle.std.proofs.Common.{◌≡◌, refl, ap, sym, subst, ◌∙◌, ℕ, ◌==◌, Bool, true, false, Option, Some, None, is_some}
use Rattle.pcl_base.specs.declared.lock.Held.{Held}
use Rattle.pcl_base.specs.declared.lock.Kind.{Kind}
use Rattle.pcl_base.specs.declared.lock.Kind.TheVariants as kind
use Rattle.pcl_base.specs.declared.lock.Pending.{Pending}
use Rattle.pcl_base.specs.declared.tx.Mode.{Mode}
use Rattle.pcl_base.specs.declared.tx.Mode.TheVariants.{Shared, Exclusive}
use Rattle.node_rules.specs.BufferRule as buffer
use Rattle.node_rules.specs.EndRule.{is_own_kind}
use Rattle.node_rules.specs.OpenTxs.{OpenTx, pages_of_open, waiting_of_open, lock_on}
use Rattle.node_rules.specs.Reports.{is_listed}
use Rattle.node_rules.specs.Words.{pick}
use Rattle.home_laws.specs.Homes.{is_exclusive_lock, is_right_lock}
use Rattle.page_protocol.specs.Eras.{reported}
use Rattle.page_protocol.specs.State.{Home, Fresh, Asking, Holding, HoldingAsks, Reading, ReadingAsks, Ended, Gone, IsFresh, IsClosed, version_of}
use Rattle.page_relation.specs.Homes.{Stands, KindFits, stand_of, held_stand, wait_on}
use Rattle.page_relation.specs.Looks.{copy_in}
use Rattle.page_relation.specs.Messages.{IsTold}
use Rattle.kept_relation.specs.Turn.Listing.{listed_mode}
use Rattle.kept_relation.specs.Turn.Telling.{retold}
use Rattle.kept_relation.proofs.TurnParts.Unborn.{stands_closed}

pub reported_retold : (have : Option ℕ) (h : Home) → reported (retold have h) ≡ reported h
reported_retold have Fresh = refl
reported_retold have (Asking m told) = refl
reported_retold have (Holding m) = refl
reported_retold have HoldingAsks = refl
reported_retold have Reading = refl
reported_retold have ReadingAsks = refl
reported_retold have (Ended c e) = refl
reported_retold have Gone = refl

pub told_retold : (have : Option ℕ) (h : Home) → (IsFresh (retold have h) → ⊥) → IsTold have (retold have h)
told_retold have Fresh f = absurd (f tt)
told_retold have (Asking m told) f = refl
told_retold have (Holding m) f = tt
told_retold have HoldingAsks f = tt
told_retold have Reading f = tt
told_retold have ReadingAsks f = tt
told_retold have (Ended c e) f = tt
told_retold have Gone f = tt

closed_none : (h : Home) → IsClosed h → (let o : Option Mode = None in o) ≡ reported h
closed_none Fresh c = refl
closed_none (Asking m have) c = absurd c
closed_none (Holding m) c = absurd c
closed_none HoldingAsks c = absurd c
closed_none Reading c = absurd c
closed_none ReadingAsks c = absurd c
closed_none (Ended x e) c = refl
closed_none Gone c = refl

-- a lock that isn't an own one, and isn't exclusive under a right
lock_listed : (m : Mode) (k : Kind) (w : Option Mode) → is_own_kind k ≡ false → (is_right_lock (Some (record { page = 0; mode = m; kind = k })) ≡ true → is_exclusive_lock (Some (record { page = 0; mode = m; kind = k })) ≡ true → ⊥)
    → pick (is_listed false k) (Some m) None ≡ reported (held_stand m k w)
lock_listed m kind.Own w own sound = absurd (cc)
lock_listed Exclusive kind.Registered w own sound = refl
lock_listed Exclusive kind.Right w own sound = absurd (sound refl refl)
lock_listed Shared kind.Registered None own sound = refl
lock_listed Shared kind.Registered (Some x) own sound = refl
lock_listed Shared kind.Right None own sound = refl
lock_listed Shared kind.Right (Some x) own sound = refl

held_listed : (l : Option Held) (w : Option Mode) (have : Option ℕ) → KindFits false l → (is_right_lock l ≡ true → is_exclusive_lock l ≡ true → ⊥) → listed_mode false l ≡ reported (stand_of l w have)
held_listed None None have fits sound = refl
held_listed None (Some m) have fits sound = refl
held_listed (Some l) w have fits sound = lock_listed l.mode l.kind w fits sound

pub stands_listed : (o : Option OpenTx) (u : Bool) (p : ℕ) (w : Option Mode) (h : Home) → KindFits false (lock_on (pages_of_open o) p)
    → (is_right_lock (lock_on (pages_of_open o) p) ≡ true → is_exclusive_lock (lock_on (pages_of_open o) p) ≡ true → ⊥) → Stands (is_some o) u (lock_on (pages_of_open o) p) w h
    → listed_mode false (lock_on (pages_of_open o) p) ≡ reported h
unfolding lock_on
stands_listed None true p w h fits sound is = closed_none h (stands_closed true h is)
stands_listed None false p w h fits sound is = closed_none h (stands_closed false h is)
stands_listed (Some x) u p w h fits sound is = held_listed (lock_on x.pages p) w is.0 fits sound ∙ ap reported (sym is.1)

-- one that waits for the page isn't fresh
not_fresh : (l : Option Held) (m : Mode) (have : Option ℕ) → IsFresh (stand_of l (Some m) have) → ⊥
not_fresh None m have f = f
not_fresh (Some l) m have f = by l.mode l.kind f
  where
    by : (x : Mode) (k : Kind) → IsFresh (held_stand x k (Some m)) → ⊥
    by Exclusive k f = f
    by Shared kind.Right f = f
    by Shared kind.Own f = f
    by Shared kind.Registered f = f

pub waits_unfresh : (o : Option OpenTx) (u : Bool) (p : ℕ) (l : Option Held) (h : Home) (w : Pending) → waiting_of_open o ≡ Some w → (w.page == p) ≡ true → Stands (is_some o) u l (wait_on (waiting_of_open o) p) h
    → IsFresh h → ⊥
waits_unfresh None u p l h w waits at is f = absurd (cc)
waits_unfresh (Some x) u p l h w waits at is f =
    not_fresh l w.mode is.0
    (subst IsFresh (is.1 ∙ ap (λ (o : Option Pending). stand_of l (wait_on o p) is.0) waits ∙ ap (λ (b : Bool). stand_of l (pick b (Some w.mode) None) is.0) at) f)

-- the version of a copy
pub found_version : (x : Option buffer.Copy) → buffer.version_of_copy x ≡ version_of (copy_in x)
found_version None = refl
found_version (Some x) = refl

-- who holds the page exclusively stands so
pub exclusive_stands : (o : Option OpenTx) (u : Bool) (p : ℕ) (w : Option Mode) (h : Home) → is_exclusive_lock (lock_on (pages_of_open o) p) ≡ true → Stands (is_some o) u (lock_on (pages_of_open o) p) w h
    → h ≡ Holding Exclusive
unfolding lock_on
exclusive_stands None u p w h held is = absurd (cc)
exclusive_stands (Some x) u p w h held is = is.1 ∙ by (lock_on x.pages p) held
  where
    of : (m : Mode) (k : Kind) → is_exclusive_lock (Some (record { page = 0; mode = m; kind = k })) ≡ true → held_stand m k w ≡ Holding Exclusive
    of Exclusive k e = refl
    of Shared k e = absurd (cc)

    by : (l : Option Held) → is_exclusive_lock l ≡ true → stand_of l w is.0 ≡ Holding Exclusive
    by None e = absurd (cc)
    by (Some l) e = of l.mode l.kind e
