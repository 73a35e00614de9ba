-- The cause of each kind of message, and that each cause is used once.
use Rattle.std.specs.Prelude.{ℕ, ◌%◌, ◌==◌, ◌&&◌, ◌||◌, not, Bool, true, false, List, [], ◌∷◌, ◌++◌, map, slice_index, Option, Some, None}
use Rattle.std.specs.List.{filter, list_any, list_all}
use Rattle.pcl_base.specs.declared.tx.TxId.{TxId}
use Rattle.pcl_base.specs.declared.tx.Mode.{Mode}
use Rattle.pcl_base.specs.declared.tx.Mode.TheVariants.{Shared, Exclusive}
use Rattle.pcl_base.specs.declared.event.Event.{Event}
use Rattle.pcl_base.specs.declared.event.Event.TheVariants as event
use Rattle.pcl_base.specs.declared.message.ReportLock.{ReportLock}
use Rattle.pcl_base.specs.declared.message.ReportWait.{ReportWait}
use Rattle.pcl_base.specs.declared.reply.Reply.{Reply}
use Rattle.pcl_base.specs.declared.reply.Reply.TheVariants as reply
use Rattle.pcl_base.specs.declared.trace.Entry.{Entry}
use Rattle.pcl_base.specs.declared.trace.Note.{Note}
use Rattle.pcl_base.specs.declared.trace.Note.TheVariants as note
use Rattle.run_rules.specs.Words.{pick, same_tx}
use Rattle.run_rules.specs.Views.{View, is_live, owner_of, since_of, born_of}
use Rattle.run_rules.specs.Ledger.{Ledger, Want, Of, Out, is_exclusive, is_of, is_want, wants_page, is_out, view_at, wanted_at, rights_at, installed_at, put_wanted, put_rights}
use Rattle.run_rules.specs.Taking.{From, is_waiting, want_of, commits, aborts}

-- the partition of a page, and the owner of a page in the view of a node
abbrev pub partition : Ledger → ℕ → ℕ
partition l p = p % l.config.nodes

-- the owner of a page in the view of a node
abbrev pub owner_for : Ledger → ℕ → ℕ → ℕ
owner_for l n p = owner_of (view_at l n) (partition l p)

-- whether a node holds a page's partition: it owns it in its view, and has installed the view since
-- which it does
abbrev pub holds : Ledger → ℕ → ℕ → Bool
holds l n p =
    owner_for l n p == n
    && list_any (λ e. e == since_of (view_at l n) (partition l p)) (installed_at l n)

-- whether a transaction is of a live node's present life in a view
abbrev pub is_of_life : View → TxId → Bool
is_of_life v t = is_live v.live t.node && t.born == born_of v t.node

-- whether an exclusive access of a page waits at a node
abbrev pub own_waits : Ledger → ℕ → ℕ → Of → Bool
own_waits l n p x = (x.tx.node == n && x.page == p) && is_of_life (view_at l n) x.tx

-- the same of a request or item of another node's transaction
abbrev pub other_waits : Ledger → ℕ → ℕ → Want → Bool
other_waits l n p w =
    (not (w.tx.node == n) && (w.page == p && is_exclusive w.mode)) && is_of_life (view_at l n) w.tx

-- whether either is there
abbrev pub writer_waits : Ledger → ℕ → ℕ → Bool
writer_waits l n p =
    list_any (own_waits l n p) l.writing || list_any (other_waits l n p) (wanted_at l n)

-- the causes of sends in one entry: the ledger as it changes, what was sent but once, and the pages
-- whose rights were asked back
pub record Sending : Type 0 where
  pub ledger : Ledger
  pub requested : Bool
  pub returned : Bool
  pub reported : List ℕ
  pub revoked : List ℕ

-- before the first send of an entry nothing was sent
abbrev pub before_sends : Ledger → Sending
before_sends l = record { ledger = l; requested = false; returned = false; reported = []; revoked = [] }

-- x where there is a cause
abbrev pub because : Bool → Sending → Option Sending
because true s = Some s
because false s = None

-- the same with another ledger
abbrev pub with_ledger : Sending → Ledger → Sending
with_ledger s l = record s { ledger = l }

-- a request: of the entry's access, which waits, to the owner
abbrev pub is_access : Event → TxId → ℕ → Mode → Bool
is_access (event.Read u q) t p Shared = same_tx u t && q == p
is_access (event.Write u q place bytes) t p Exclusive = same_tx u t && q == p
is_access _ t p m = false

-- a request, once an entry
abbrev pub request : Entry → ℕ → ℕ → TxId → ℕ → Mode → Sending → Option Sending
request e n to t p m s =
    because
    (not s.requested
    && (is_access e.event t p m
    && (list_any (is_waiting t p) e.replies && owner_for s.ledger n p == to)))
    (record s {
      ledger = record (s.ledger) { asked = s.ledger.asked ++ record { tx = t; page = p; mode = m } ∷ [] };
      requested = true;
    })

-- the first of some items that pass a test is gone, or is changed
unfoldable pub without_first : {X : Type 0} → (X → Bool) → List X → List X
without_first is [] = []
without_first is (x ∷ xs) = pick (is x) xs (x ∷ without_first is xs)

-- the first item that passes is changed
unfoldable pub change_first : {X : Type 0} → (X → Bool) → (X → X) → List X → List X
change_first is f [] = []
change_first is f (x ∷ xs) = pick (is x) (f x ∷ xs) (x ∷ change_first is f xs)

-- a grant: of a request or a waiting item that the holder took, to the transaction's node
abbrev pub out_if : Bool → ℕ → ℕ → List Out → List Out
out_if right to p rs = pick right (rs ++ record { node = to; page = p; revoked = false } ∷ []) rs

-- a grant, once a request or item
abbrev pub grant : ℕ → ℕ → TxId → ℕ → Mode → Bool → Sending → Option Sending
grant n to t p m right s =
    because (holds s.ledger n p && (to == t.node && list_any (is_want t p m) (wanted_at s.ledger n)))
    (with_ledger s
    (put_rights n (out_if right to p (rights_at s.ledger n))
    (put_wanted n (without_first (is_want t p m) (wanted_at s.ledger n)) s.ledger)))

-- a release: of a transaction that ends here with a request that isn't answered or a registered
-- lock; it brings the version that the commit made of a page that was written
abbrev pub is_end : Event → TxId → Reply → Bool
is_end e t (reply.Committed u) = commits e t && same_tx u t
is_end e t (reply.Aborted u) = aborts e t && same_tx u t
is_end e t _ = false

-- whether a change is there exactly where it has to be, at that version
abbrev pub is_change : Bool → ℕ → Option ℕ → Bool
is_change true v (Some w) = w == v
is_change true v None = false
is_change false v None = true
is_change false v (Some w) = false

-- a release, once a transaction and page
abbrev pub release : Entry → ℕ → ℕ → TxId → ℕ → Option ℕ → Sending → Option Sending
release e n to t p change s =
    because
    (list_any (is_end e.event t) e.replies
    && (owner_for s.ledger n p == to
    && ((list_any (wants_page t p) s.ledger.asked || list_any (is_of t p) s.ledger.registered)
    && (not (list_any (is_of t p) s.ledger.released)
    && is_change (commits e.event t && list_any (is_of t p) s.ledger.done) (slice_index s.ledger.versions p)
    change))))
    (with_ledger s (record (s.ledger) { released = s.ledger.released ++ record { tx = t; page = p } ∷ [] }))

-- a revocation: of a right that is out, and once a right
abbrev pub may_revoke : ℕ → ℕ → Out → Bool
may_revoke to p r = is_out to p r && not r.revoked

-- the ledger once that right is asked back
abbrev pub asked_back : ℕ → ℕ → ℕ → Ledger → Ledger
asked_back n to p l =
    put_rights n (change_first (may_revoke to p) (λ r. record r { revoked = true }) (rights_at l n)) l

abbrev pub revoke : ℕ → ℕ → ℕ → Sending → Option Sending
revoke n to p s =
    because (holds s.ledger n p && list_any (may_revoke to p) (rights_at s.ledger n))
    (record s { ledger = asked_back n to p s.ledger; revoked = p ∷ s.revoked })

-- when the entry ends, an exclusive access of each page whose right was asked back still waits
abbrev pub still_wait : Option ℕ → Sending → Option Sending
still_wait None s = Some s
still_wait (Some n) s = because (list_all (writer_waits s.ledger n) s.revoked) s

-- an answer: to the revocation that the entry took; the readers that it names are registered
abbrev pub is_revoke : Note → ℕ → Bool
is_revoke (note.Revoke q) p = q == p
is_revoke _ p = false

-- whether the message that was taken is a revocation of the page by that node
abbrev pub is_revocation : ℕ → ℕ → Option From → Bool
is_revocation to p None = false
is_revocation to p (Some f) = f.from == to && is_revoke f.note p

-- the readers of a node that an answer names
abbrev pub of_node : ℕ → ℕ → List TxId → List Of
of_node n p ts = map (λ (t : TxId). record { tx = t; page = p }) (filter (λ t. t.node == n) ts)

-- an answer, once an entry
abbrev pub answer : Option From → ℕ → ℕ → ℕ → List TxId → Sending → Option Sending
answer f n to p readers s =
    because (not s.returned && is_revocation to p f)
    (record s {
      ledger = record (s.ledger) { registered = s.ledger.registered ++ of_node n p readers };
      returned = true;
    })

-- a report: of a partition that got its owner in the view that the entry installed
abbrev pub is_install : Event → Bool
is_install (event.Install n) = true
is_install _ = false

abbrev pub is_installed : ℕ → Reply → Bool
is_installed e (reply.Installed f) = f == e
is_installed e _ = false

-- a lock of a report
abbrev pub lock_of : ReportLock → Of
lock_of x = record { tx = x.tx; page = x.page }

-- a report, once an entry and partition
abbrev pub report : Entry → ℕ → ℕ → ℕ → List ReportWait → List ReportLock → Sending → Option Sending
report e n to q waits locks s =
    because
    ((is_install e.event && list_any (is_installed (view_at s.ledger n).epoch) e.replies)
    && ((since_of (view_at s.ledger n) q == (view_at s.ledger n).epoch && owner_of (view_at s.ledger n) q == to)
    && not (list_any (λ r. r == q) s.reported)))
    (record s {
      ledger =
          record (s.ledger) {
            asked = s.ledger.asked ++ map want_of (filter (λ (w : ReportWait). w.tx.node == n) waits);
            registered = s.ledger.registered ++ map lock_of (filter (λ (x : ReportLock). x.tx.node == n) locks);
          };
      reported = q ∷ s.reported;
    })
