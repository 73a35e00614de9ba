-- What an owner does: it settles a page's entry, carries the decisions out, and works off what
-- arrives for its pages.
use Rattle.std.specs.Prelude.{ℕ, ◌==◌, Bool, true, false, List, [], ◌∷◌, Option, Some, None, is_some}
use Rattle.pcl_base.specs.declared.tx.TxId.{TxId}
use Rattle.pcl_base.specs.declared.tx.Mode.{Mode}
use Rattle.pcl_base.specs.declared.lock.Decision.{Decision}
use Rattle.pcl_base.specs.declared.lock.Decision.TheVariants as decision
use Rattle.pcl_base.specs.declared.lock.Kind.{Kind}
use Rattle.pcl_base.specs.declared.lock.Kind.TheVariants as kind
use Rattle.pcl_base.specs.declared.message.Body.TheVariants as body
use Rattle.pcl_base.specs.declared.message.Change.{Change}
use Rattle.pcl_base.specs.declared.message.CopyPart.{CopyPart}
use Rattle.pcl_base.specs.declared.message.CopyPart.TheVariants as part
use Rattle.pcl_base.specs.declared.message.Release.{Release}
use Rattle.pcl_base.specs.declared.reply.Reply.{Reply}
use Rattle.pcl_base.specs.declared.reply.Reply.TheVariants as reply
use Rattle.pcl_base.specs.declared.trace.CopyKind.{CopyKind}
use Rattle.pcl_base.specs.declared.trace.CopyKind.TheVariants as copy
use Rattle.node_rules.specs.Words.{pick}
use Rattle.node_rules.specs.LockRule.{LockEntry, Settled, settle, end_tx, takes_change, ask}
use Rattle.node_rules.specs.LockTable.{LockTable, entry_at, put_entry}
use Rattle.node_rules.specs.CopyRule.{copy_for}
use Rattle.node_rules.specs.OpenTxs.{pending_of, waits_as}
use Rattle.node_rules.specs.BufferRule.{Copy, copy_at, find, bytes_of_copy, has_slot, free_frames, victim, place, install, clean}
use Rattle.node_rules.specs.NodeState.{number_of, partition, table_of, put_table, page_owner}
use Rattle.node_rules.specs.Work.{HomeWork, Work, Outcome, Goes, and_so, for_each, work_of_home, with_home_work, with_node, reply, send, write_page}
use Rattle.node_rules.specs.AccessRule.{Access, Accessed, Next, Now, AskOwn, AskOwner, Granted, granted, access, make_room, on_pool}
use Rattle.node_rules.specs.EndRule.{Ending, Closed}

-- the table of a page's partition takes the place of the one before
abbrev pub with_table : ℕ → LockTable → Work → Work
with_table p t w = with_node w (put_table w.node (partition w.node.home.config p) (Some t))

-- where the page is, as the grant says it
abbrev pub copy_part : CopyKind → List ℕ → CopyPart
copy_part copy.Current bytes = part.Current
copy_part copy.Image bytes = part.Image bytes
copy_part copy.OnDisk bytes = part.OnDisk

-- a grant to another node
abbrev pub send_grant : TxId → Mode → Bool → Option ℕ → ℕ → ℕ → Work → Work
send_grant t m right have p v w =
    send t.node
    (body.Grant (record {
      tx = t;
      page = p;
      mode = m;
      right = right;
      version = v;
      copy = copy_part (copy_for have v (find w.node.home.pool p)) (bytes_of_copy (copy_at w.node.home.pool p));
    }))
    w

-- a grant to an own transaction, which does nothing where that doesn't wait for it
abbrev pub told : Work → Granted → Work
told w g = reply g.reply (with_home_work w g.work)

-- a grant to a transaction of the node
abbrev pub grant_own : Bool → TxId → Mode → ℕ → ℕ → Work → Outcome Work
grant_own false t m p v w = Goes w
grant_own true t m p v w =
    and_so (granted t (record { page = p; mode = m; kind = kind.Own }) v None (work_of_home w)) (told w)

-- a grant is carried out or sent
abbrev pub carry_grant : Bool → TxId → Mode → Bool → Option ℕ → ℕ → ℕ → Work → Outcome Work
carry_grant true t m right have p v w = grant_own (waits_as (pending_of w.node.home.txs t) p m) t m p v w
carry_grant false t m right have p v w = Goes (send_grant t m right have p v w)

-- a decision about page p, whose version is v, is carried out
unfoldable pub carry_out : ℕ → ℕ → Decision → Work → Outcome Work
carry_out p v (decision.Grant t m right have) w = carry_grant (t.node == number_of w.node) t m right have p v w
carry_out p v (decision.Revoke n) w = Goes (send n (body.Revoke p) w)

-- the entry after settling, and its decisions one after the other
abbrev pub carry_all : ℕ → LockTable → Settled → Work → Outcome Work
carry_all p t s w = for_each (carry_out p s.entry.version) s.decisions (with_table p (put_entry t p s.entry) w)

-- settling where the table is served
abbrev pub settle_served : Bool → ℕ → LockTable → Work → Outcome Work
settle_served false p t w = Goes w
settle_served true p t w = carry_all p t (settle (number_of w.node) (entry_at t p)) w

-- settling where there is a table
abbrev pub settle_in : ℕ → Option LockTable → Work → Outcome Work
settle_in p None w = Goes w
settle_in p (Some t) w = settle_served t.serving p t w

-- a page is settled, where its partition is served
unfoldable pub settle_page : ℕ → Work → Outcome Work
settle_page p w = settle_in p (table_of w.node p) w

-- a change of a page's entry, where the node owns the page; then the page is settled
abbrev pub enter_in : (LockEntry → LockEntry) → ℕ → Option LockTable → Work → Outcome Work
enter_in f p None w = Goes w
enter_in f p (Some t) w = settle_page p (with_table p (put_entry t p (f (entry_at t p))) w)

-- a page's entry is changed and settled
unfoldable pub enter : (LockEntry → LockEntry) → ℕ → Work → Outcome Work
enter f p w = enter_in f p (table_of w.node p) w

-- where the transaction still waits, that is the first reply
abbrev pub waits_first : TxId → ℕ → Work → Work
waits_first t p w =
    pick (is_some (pending_of w.node.home.txs t)) (record w { replies = reply.Waits t p ∷ w.replies }) w

-- an access: it is done, goes into the own entry, or becomes a request
abbrev pub go_on : TxId → ℕ → Next → Work → Outcome Work
go_on t p (Now r) w = Goes (reply r w)
go_on t p (AskOwn a) w = and_so (enter (λ e. ask e a) p w) (waits_first t p)
go_on t p (AskOwner r) w = Goes (send (page_owner w.node p) (body.Request r) (reply (reply.Waits t p) w))

-- what comes after an access at home
abbrev pub after_access : Access → Work → Accessed → Outcome Work
after_access a w x = go_on a.tx a.page x.next (with_home_work w x.work)

-- an access of a transaction of the node
unfoldable pub do_access : Access → Work → Outcome Work
do_access a w =
    after_access a w (access a (page_owner w.node a.page == number_of w.node) (work_of_home w))

-- a change that was taken goes into the slot, as a dirty copy; without a slot into a frame that is
-- free or can be freed; else it is written at once
abbrev pub dirty_copy : Change → Copy
dirty_copy c = record { version = c.version; bytes = c.image; dirty = true }

-- whether a slot can go for a page
abbrev pub has_room : ℕ → HomeWork → Bool
has_room p w = is_some (victim w.home.pool p)

-- a change goes into the page's slot
abbrev pub into_slot : ℕ → Change → HomeWork → HomeWork
into_slot p c w = on_pool (λ b. install b p (dirty_copy c)) w

-- where a taken change goes
abbrev pub put_change : ℕ → Change → HomeWork → HomeWork
put_change p c w =
    pick (has_slot w.home.pool p) (into_slot p c w)
    (pick (free_frames w.home.pool == 0)
    (pick (has_room p w) (into_slot p c (on_pool (λ b. place b p) (make_room p w)))
    (write_page p (record { version = c.version; bytes = c.image }) w))
    (into_slot p c (on_pool (λ b. place b p) w)))

-- the version of a change, and the change where it is taken
abbrev pub version_of_change : Option Change → Option ℕ
version_of_change None = None
version_of_change (Some c) = Some c.version

-- a change goes where it goes once it is taken
abbrev pub put_taken : Bool → ℕ → Option Change → Work → Work
put_taken true p (Some c) w = with_home_work w (put_change p c (work_of_home w))
put_taken _ p c w = w

-- a change counts while the partition is served; while it is rebuilt the log has it
abbrev pub change_if_served : Bool → Option Change → Option Change
change_if_served true c = c
change_if_served false c = None

-- the end of a transaction is told by its own node, or by a release that brings the change
abbrev pub end_in : TxId → Option Change → LockEntry → LockEntry
end_in t c e = end_tx e t (version_of_change c)

-- a release is taken at the owner
abbrev pub take_release : Release → LockTable → Work → Outcome Work
take_release r t w =
    enter (end_in r.tx (change_if_served t.serving r.change)) r.page
    (put_taken
    (takes_change (entry_at t r.page) r.tx (version_of_change (change_if_served t.serving r.change)))
    r.page r.change w)

-- a release where there is a table
abbrev pub on_release_in : Release → Option LockTable → Work → Outcome Work
on_release_in r None w = Goes w
on_release_in r (Some t) w = take_release r t w

-- a release arrives at the owner
unfoldable pub on_release : Release → Work → Outcome Work
on_release r w = on_release_in r (table_of w.node r.page) w

-- an ended page: an own one is ended in its entry; of another one its owner is told by a release,
-- unless it was held under a right alone
abbrev pub send_release : Kind → TxId → Ending → Work → Work
send_release kind.Registered t e w =
    send (page_owner w.node e.page) (body.Release (record { tx = t; page = e.page; change = e.change })) w
send_release _ t e w = w

-- the end of a transaction at a page
abbrev pub tell_in : TxId → Ending → Option LockTable → Work → Outcome Work
tell_in t e None w = Goes (send_release e.kind t e w)
tell_in t e (Some tb) w = enter (end_in t (change_if_served tb.serving e.change)) e.page w

-- an end is told to the page's owner
unfoldable pub tell_end : TxId → Ending → Work → Outcome Work
tell_end t e w = tell_in t e (table_of w.node e.page) w

-- the copies of written pages of partitions that aren't served are clean
abbrev pub is_unserved : Option LockTable → Bool
is_unserved None = false
is_unserved (Some t) = pick t.serving false true

-- the same of one page
abbrev pub keep_dirty : Work → ℕ → Work
keep_dirty w p =
    pick (is_unserved (table_of w.node p)) (with_home_work w (on_pool (λ b. clean b p) (work_of_home w))) w

-- the same of all pages that were written
unfoldable pub clean_unserved : List Ending → Work → Work
clean_unserved [] w = w
clean_unserved (e ∷ es) w = clean_unserved es (pick (is_some e.change) (keep_dirty w e.page) w)

-- an end: the reply, and then what each page's owner is told
abbrev pub end_work : Reply → TxId → Work → Closed → Outcome Work
end_work r t w x =
    for_each (tell_end t) x.endings (reply r (clean_unserved x.endings (with_home_work w x.work)))
