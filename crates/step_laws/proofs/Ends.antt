-- What accesses and ends give.
use Rattle.std.proofs.Common.{◌≡◌, ℕ, suc, ◌+◌, ◌≤◌, ◌==◌, not, Bool, true, false, List, [], ◌∷◌, length, length-append, map, Option, Some, None, is_some, refl, ap, ◌∙◌, arith}
use Rattle.pcl_base.specs.declared.tx.TxId.{TxId}
use Rattle.pcl_base.specs.declared.lock.Held.{Held}
use Rattle.pcl_base.specs.declared.lock.Kind.{Kind}
use Rattle.pcl_base.specs.declared.lock.Kind.TheVariants as kind
use Rattle.pcl_base.specs.declared.lock.Pending.{Pending}
use Rattle.pcl_base.specs.declared.message.Body.TheVariants as body
use Rattle.pcl_base.specs.declared.message.Change.{Change}
use Rattle.pcl_base.specs.declared.reply.Reply.{Reply}
use Rattle.pcl_base.specs.declared.reply.Reply.TheVariants as reply
use Rattle.node_rules.specs.Words.{pick, same_tx}
use Rattle.node_rules.specs.LockRule.{LockEntry, ask, end_tx}
use Rattle.node_rules.specs.LockTable.{LockTable}
use Rattle.node_rules.specs.OpenTxs.{OpenTx, OpenTxs, with_serial, open_at, is_own, locks_of, pending_of, pages_of_open, waiting_of_open, waits_on, end_pages}
use Rattle.node_rules.specs.BufferRule.{clean}
use Rattle.node_rules.specs.NodeState.{HomeState, table_of, page_owner}
use Rattle.node_rules.specs.Work.{Work, for_each, with_home_work, work_of_home, reply}
use Rattle.node_rules.specs.AccessRule.{on_pool, Next, Now, AskOwn, AskOwner}
use Rattle.node_rules.specs.EndRule.{Ending, Closed, ending, endings, pages_at_end}
use Rattle.node_rules.specs.OwnerRule.{enter, waits_first, go_on, change_if_served, end_in, send_release, tell_in, tell_end, is_unserved, keep_dirty, clean_unserved, end_work}
use Rattle.step_laws.specs.Most.{sum_of, one_access, items_sent}
use Rattle.step_laws.proofs.Settles.{due, load, due_few}
use Rattle.step_laws.proofs.Tables.{in_tables}
use Rattle.step_laws.proofs.Outcomes.{On, on_so, on_more, on_count}
use Rattle.step_laws.proofs.Works.{Cap, Holds, given, holds_more, holds_reply, holds_send}
use Rattle.step_laws.proofs.Pages.{enter_holds}
use Rattle.step_laws.proofs.Gathers.{ask_load}
use Rattle.step_laws.proofs.Serving.{fewer_waits}
use Rattle.step_laws.proofs.Gifts.{Gave, cap_of, holds_of, holds_gave, entered, IsQuiet, quiet_self, quiet_given, quiet_items, quiet_tables}

waits_given : (t : TxId) (p k i : ℕ) (w : Work) → Gave k i w → Gave (k + 1) i (waits_first t p w)
waits_given t p k i w h = by (is_some (pending_of w.node.home.txs t))
  where
    by : (b : Bool) → Gave (k + 1) i (pick b (record w { replies = reply.Waits t p ∷ w.replies }) w)
    by true = let now = h.given in record { given = omega (arith, now); items = h.items }
    by false = let now = h.given in record { given = omega (arith, now); items = h.items }

-- an access that came to something at home
pub access_given : (t : TxId) (p : ℕ) (x : Next) (w : Work) → On (Gave (given w + in_tables load w.node + 2) (items_sent w.sends)) (go_on t p x w)
access_given t p (Now r) w =
    let more = length-append w.replies (r ∷ []) in
    record { given = omega (arith, more); items = omega arith }
access_given t p (AskOwn a) w =
    on_so (Gave (given w + in_tables load w.node + 1) (items_sent w.sends)) (Gave (given w + in_tables load w.node + 2) (items_sent w.sends)) (enter (λ e. ask e a) p w) (waits_first t p)
    (entered load (λ e. ask e a) 1 p due_few refl (λ e. ask_load e a) w)
    (λ x h.
    let first = waits_given t p (given w + in_tables load w.node + 1) (items_sent w.sends) x h in
    let now = first.given in
    record { given = omega (arith, now); items = first.items })
access_given t p (AskOwner r) w =
    let before = holds_of load w in
    let asked : Work = reply (reply.Waits t p) w in
    let waits = holds_more_reply w (reply.Waits t p) in
    let sent = holds_send load (cap_of w) (given w + in_tables load w.node + 1) (page_owner asked.node p) (body.Request r) asked refl waits in
    let now = sent.given in
    record { given = omega (arith, now); items = sent.items }
  where
    holds_more_reply : (w : Work) (r : Reply) → Holds load (cap_of w) (given w + in_tables load w.node + 1) (reply r w)
    holds_more_reply w r = holds_reply load (cap_of w) (given w + in_tables load w.node) r w (holds_of load w)

pub end_due : (t : TxId) (c : Option Change) (e : LockEntry) → due (end_in t c e) ≤ due e + 0
unfolding end_tx
end_due t c e = let less = fewer_waits (λ w. not (same_tx w.tx t)) e.waiting e.rights in omega (arith, less)

-- each page of an end gives one at most, beside what is due
module _ (c : Cap) (none : (p : ℕ) → c.weight p ≡ 0) where
  release_holds : (a : Kind) (t : TxId) (e : Ending) (k : ℕ) (w : Work) → Holds due c k w → Holds due c (k + 1) (send_release a t e w)
  release_holds kind.Registered t e k w h = holds_send due c k (page_owner w.node e.page) (body.Release (record { tx = t; page = e.page; change = e.change })) w refl h
  release_holds kind.Own t e k w h = holds_more due c k (k + 1) w (omega arith) h
  release_holds kind.Right t e k w h = holds_more due c k (k + 1) w (omega arith) h

  tell_holds : (t : TxId) (e : Ending) (k : ℕ) (w : Work) → Holds due c k w → On (Holds due c (k + 1)) (tell_end t e w)
  unfolding tell_end
  tell_holds t e k w h = by (table_of w.node e.page)
    where
      by : (o : Option LockTable) → On (Holds due c (k + 1)) (tell_in t e o w)
      by None = release_holds e.kind t e k w h
      by (Some tb) =
          on_more (Holds due c (k + 0)) (Holds due c (k + 1)) (enter (end_in t (change_if_served tb.serving e.change)) e.page w)
          (λ x held. holds_more due c (k + 0) (k + 1) x (omega arith) held)
          (enter_holds c e.page (none e.page) due (end_in t (change_if_served tb.serving e.change)) 0 (λ x. omega arith) refl (end_due t (change_if_served tb.serving e.change)) k w h)

dirty_quiet : (w : Work) (p : ℕ) → IsQuiet w (keep_dirty w p)
dirty_quiet w p = by (is_unserved (table_of w.node p))
  where
    by : (b : Bool) → IsQuiet w (pick b (with_home_work w (on_pool (λ b. clean b p) (work_of_home w))) w)
    by true = record { replies = refl; sends = refl; tables = refl }
    by false = quiet_self w

clean_quiet : (es : List Ending) (w : Work) → IsQuiet w (clean_unserved es w)
unfolding clean_unserved
clean_quiet [] w = quiet_self w
clean_quiet (e ∷ es) w =
    let next : Work = pick (is_some e.change) (keep_dirty w e.page) w in
    let rest = clean_quiet es next in
    let here = by e w (is_some e.change) in
    record { replies = rest.replies ∙ here.replies; sends = rest.sends ∙ here.sends; tables = rest.tables ∙ here.tables }
  where
    by : (e : Ending) (w : Work) (b : Bool) → IsQuiet w (pick b (keep_dirty w e.page) w)
    by e w true = dirty_quiet w e.page
    by e w false = quiet_self w

pub end_given : (r : Reply) (t : TxId) (w : Work) (x : Closed) → On (Gave (given w + in_tables due w.node + 1 + length x.endings) (items_sent w.sends)) (end_work r t w x)
end_given r t w x =
    let homed : Work = with_home_work w x.work in
    let cleaned : Work = clean_unserved x.endings homed in
    let start : Work = reply r cleaned in
    let quiet = clean_quiet x.endings homed in
    let more = length-append cleaned.replies (r ∷ []) in
    let given_same = quiet_given homed cleaned quiet in
    let items_same = quiet_items homed cleaned quiet in
    let tables_same = quiet_tables due homed cleaned quiet in
    let k : ℕ = given start + in_tables due start.node in
    on_more (Gave (k + length x.endings) (items_sent start.sends)) (Gave (given w + in_tables due w.node + 1 + length x.endings) (items_sent w.sends)) (for_each (tell_end t) x.endings start)
    (λ y h.
    let now = h.given in
    let items = h.items in
    record { given = omega (arith, now, more, given_same, tables_same); items = omega (arith, items, items_same) })
    (holds_gave start (k + length x.endings) (for_each (tell_end t) x.endings start)
    (on_count (Holds due (cap_of start)) (tell_end t) (λ e k w h. tell_holds (cap_of start) (λ p. refl) t e k w h) x.endings k start (holds_of due start)))

-- the pages of an end are no more than the locks and the waiting access of its transaction
map_length : {X Y : Type 0} (f : X → Y) (xs : List X) → length (map f xs) ≡ length xs
map_length f [] = refl
map_length f (x ∷ xs) = ap suc (map_length f xs)

pages_few : (hs : List Held) (o : Option Pending) → length (end_pages hs o) ≤ length hs + one_access o
unfolding end_pages
pages_few [] None = omega arith
pages_few [] (Some w) = omega arith
pages_few (h ∷ hs) o =
    let rest = pages_few hs (pick (waits_on o h.page) None o) in
    let less = by o (waits_on o h.page) in
    omega (arith, rest, less)
  where
    by : (o : Option Pending) (b : Bool) → one_access (pick b None o) ≤ one_access o
    by o true = omega arith
    by o false = omega arith

abbrev of_open : Option OpenTx → ℕ
of_open o = length (pages_of_open o) + one_access (waiting_of_open o)

serial_few : (xs : List OpenTx) (n : ℕ) → of_open (with_serial xs n) ≤ sum_of (λ x. length x.pages) xs + sum_of (λ x. one_access x.waiting) xs
unfolding with_serial
serial_few [] n = omega arith
serial_few (x ∷ xs) n = by (x.serial == n) (serial_few xs n)
  where
    by : (b : Bool) → of_open (with_serial xs n) ≤ sum_of (λ x. length x.pages) xs + sum_of (λ x. one_access x.waiting) xs
        → of_open (pick b (Some x) (with_serial xs n)) ≤ length x.pages + sum_of (λ x. length x.pages) xs + (one_access x.waiting + sum_of (λ x. one_access x.waiting) xs)
    by true rest = omega arith
    by false rest = omega (arith, rest)

open_few : (s : OpenTxs) (t : TxId) → of_open (open_at s t) ≤ sum_of (λ x. length x.pages) s.txs + sum_of (λ x. one_access x.waiting) s.txs
open_few s t = by (is_own s t)
  where
    by : (b : Bool) → of_open (pick b (with_serial s.txs t.serial) None) ≤ sum_of (λ x. length x.pages) s.txs + sum_of (λ x. one_access x.waiting) s.txs
    by true = serial_few s.txs t.serial
    by false = omega arith

pub endings_few : (h : HomeState) (t : TxId) (commits : Bool) → length (endings h t commits) ≤ sum_of (λ x. length x.pages) h.txs.txs + sum_of (λ x. one_access x.waiting) h.txs.txs
unfolding endings
endings_few h t commits =
    let same = map_length (ending h t commits) (pages_at_end h t) in
    let few = pages_few (locks_of h.txs t) (pending_of h.txs t) in
    let all = open_few h.txs t in
    omega (arith, same, few, all)
