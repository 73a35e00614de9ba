-- What the rules of an end come to, from what the home's call tells of it.
use Rattle.std.proofs.Common.{◌≡◌, ◌<◌, ◌≤◌, drop, ℕ, length, ◌==◌, ◌++◌, Bool, true, false, List, [], ◌∷◌, map, Option, Some, None, is_some, refl, ap, sym, subst, ◌∙◌, append-nil}
use Rattle.std.specs.List.{AllByRecursion}
use Rattle.pcl_base.specs.Limits.{Sizes}
use Rattle.std.proofs.Math.ListN.{drop_of_length-le}
use Rattle.std.proofs.lemmas.List.{map-append}
use Rattle.pcl_base.specs.declared.lock.Held.{Held}
use Rattle.pcl_base.specs.declared.lock.Kind.{Kind}
use Rattle.pcl_base.specs.declared.lock.Kind.TheVariants as kind
use Rattle.pcl_base.specs.declared.lock.Pending.{Pending}
use Rattle.pcl_base.specs.declared.message.Change.{Change}
use Rattle.pcl_base.specs.declared.tx.TxId.{TxId}
use Rattle.node_rules.specs.Words.{is_exclusive, pick}
use Rattle.pcl_base.specs.declared.reply.Reply.{Reply}
use Rattle.text_rules.specs.LogRecord.{record_bytes}
use Rattle.node_rules.specs.DiskCalls.{DiskCall}
use Rattle.node_rules.specs.EndRule.{Ending, abort, change_if, closed, commit, commit_record, endings, force_if, new_bytes, new_version, pages_written, publish_all}
use Rattle.node_rules.specs.LockRule.{end_tx}
use Rattle.node_rules.specs.LockTable.{LockTable}
use Rattle.node_rules.specs.NodeState.{HomeState, NodeState, table_of}
use Rattle.node_rules.specs.OpenTxs.{close_tx, lock_on, locks_of, pending_of}
use Rattle.node_rules.specs.OwnerRule.{change_if_served, clean_unserved, end_work, enter, keep_dirty, send_release, tell_end, tell_in, version_of_change}
use Rattle.node_rules.specs.Work.{Outcome, Work, Goes, Differs, and_then, for_each, reply, with_home_work, work_of_home}
use Rattle.home.specs.Commits.{commit_calls, commit_end, told}
use Rattle.home.specs.Device.{work_on}
use Rattle.home.specs.Ends.{lock_end, waited_end}
use Rattle.home.proofs.Endings.{endings_are}
use Rattle.home.proofs.Telling.{commit_tells}
use Rattle.home_laws.specs.Homes.{IsHome}
use Rattle.home_laws.proofs.Opens.{locks_once}
use Rattle.node_parts.specs.Comes.{work_of}
use Rattle.node_parts.specs.State.{PartsView, node_of}
use Rattle.node_parts.specs.Outputs.{OutputsView}
use Rattle.page_owner.specs.Carry.{SameNode}
use Rattle.own_steps.specs.Ends.{due, due_pages, dues, lock_due, waited_due}

same_some : (e : Ending) → is_some (told e).change ≡ is_some e.change
same_some e = by e.change
  where
    by : (c : Option Change) → is_some (told (record e { change = c })).change ≡ is_some c
    by None = refl
    by (Some c) = refl

same_version : (e : Ending) → version_of_change (told e).change ≡ version_of_change e.change
same_version e = by e.change
  where
    by : (c : Option Change) → version_of_change (told (record e { change = c })).change ≡ version_of_change c
    by None = refl
    by (Some c) = refl

pub due_told : (es : List Ending) → map due (map told es) ≡ map due es
due_told [] = refl
due_told (e ∷ es) = λ i. (e.page, same_version e i) ∷ due_told es i

served_told : (e : Ending) (serving : Bool) → version_of_change (change_if_served serving (told e).change) ≡ version_of_change (change_if_served serving e.change)
served_told e true = same_version e
served_told e false = refl

module _ (t : TxId) where
  release_told : (e : Ending) (w : Work) → send_release e.kind t (told e) w ≡ send_release e.kind t e w
  release_told e w = by e.kind e.change
    where
      by : (k : Kind) (c : Option Change) → send_release k t (told (record { page = e.page; kind = k; change = c })) w ≡ send_release k t (record { page = e.page; kind = k; change = c }) w
      by kind.Own c = refl
      by kind.Right c = refl
      by kind.Registered None = refl
      by kind.Registered (Some c) = refl

  tell_told : (e : Ending) (w : Work) → tell_end t (told e) w ≡ tell_end t e w
  unfolding tell_end
  tell_told e w = by (table_of w.node e.page)
    where
      by : (o : Option LockTable) → tell_in t (told e) o w ≡ tell_in t e o w
      by None = ap Goes (release_told e w)
      by (Some tb) = ap (λ v. enter (λ x. end_tx x t v) e.page w) (served_told e tb.serving)

  pub all_told : (es : List Ending) (w : Work) → for_each (tell_end t) (map told es) w ≡ for_each (tell_end t) es w
  unfolding for_each
  all_told [] w = refl
  all_told (e ∷ es) w = ap (λ o. and_then o (for_each (tell_end t) (map told es))) (tell_told e w) ∙ by (tell_end t e w) (all_told es)
    where
      by : (o : Outcome Work) → ((k : Work) → for_each (tell_end t) (map told es) k ≡ for_each (tell_end t) es k) → and_then o (for_each (tell_end t) (map told es)) ≡ and_then o (for_each (tell_end t) es)
      by (Goes k) rest = rest k
      by (Differs p m n) rest = refl

pub cleaned_told : (es : List Ending) (w : Work) → clean_unserved (map told es) w ≡ clean_unserved es w
unfolding clean_unserved
cleaned_told [] w = refl
cleaned_told (e ∷ es) w =
    ap (λ b. clean_unserved (map told es) (pick b (keep_dirty w e.page) w)) (same_some e)
    ∙ cleaned_told es (pick (is_some e.change) (keep_dirty w e.page) w)

-- the pages and versions of what an end tells
commit_due : (h : HomeState) (t : TxId) (l : Held) → due (commit_end h t l) ≡ lock_due true h l
commit_due h t l = by (is_exclusive l.mode)
  where
    by : (b : Bool) → due (told (record { page = l.page; kind = l.kind; change = change_if b (new_version h l.page) (new_bytes h t l.page) })) ≡ (l.page, pick b (Some (new_version h l.page)) None)
    by true = refl
    by false = refl

commit_dues_are : (h : HomeState) (t : TxId) (ls : List Held) → map due (map (commit_end h t) ls) ≡ map (lock_due true h) ls
commit_dues_are h t [] = refl
commit_dues_are h t (l ∷ ls) = λ i. commit_due h t l i ∷ commit_dues_are h t ls i

pub commit_dues : (h : HomeState) (t : TxId) → IsHome h → pending_of h.txs t ≡ None
    → map due (endings h t true) ≡ dues true h t
commit_dues h t is none =
    sym (due_told (endings h t true)) ∙ ap (map due) (commit_tells h t is none) ∙ commit_dues_are h t (locks_of h.txs t)
    ∙ sym (append-nil (map (lock_due true h) (locks_of h.txs t)))
    ∙ ap (λ o. map (lock_due true h) (locks_of h.txs t) ++ waited_due (locks_of h.txs t) o) (sym none)

abort_dues_are : (h : HomeState) (w : Option Pending) (ls : List Held) → map due (map (lock_end w) ls) ≡ map (lock_due false h) ls
abort_dues_are h w [] = refl
abort_dues_are h w (l ∷ ls) = ap (λ ds. (l.page, None) ∷ ds) (abort_dues_are h w ls)

waited_dues_are : (hs : List Held) (w : Option Pending) → map due (waited_end hs w) ≡ waited_due hs w
waited_dues_are hs None = refl
waited_dues_are hs (Some w) = by (is_some (lock_on hs w.page))
  where
    by : (b : Bool) → map due (pick b [] (record { page = w.page; kind = kind.Registered; change = None } ∷ [])) ≡ pick b [] ((w.page, None) ∷ [])
    by true = refl
    by false = refl

pub abort_dues : (h : HomeState) (t : TxId) → IsHome h
    → map due (endings h t false) ≡ dues false h t
abort_dues h t is =
    ap (map due) (endings_are h t (locks_once h.txs t is.txs.once))
    ∙ map-append due (map (lock_end (pending_of h.txs t)) (locks_of h.txs t)) (waited_end (locks_of h.txs t) (pending_of h.txs t))
    ∙ (λ i. abort_dues_are h (pending_of h.txs t) (locks_of h.txs t) i ++ waited_dues_are (locks_of h.txs t) (pending_of h.txs t) i)

-- the home of an end is of the same node
pub commit_same : (t : TxId) (h : HomeState) → SameNode h (commit t (work_on h)).work.home
unfolding commit closed close_tx
commit_same t h = record { config = refl; node = refl; born = refl }

pub abort_same : (t : TxId) (h : HomeState) → SameNode h (abort t (work_on h)).work.home
unfolding abort closed close_tx
abort_same t h = record { config = refl; node = refl; born = refl }

-- an end in the work of a node
module _ (t : TxId) (n : NodeState) (ps : List (List ℕ)) (cs : List DiskCall) (old : OutputsView) (r : Reply) where
  abbrev w : Work
  w = work_of n ps cs old

  abbrev pub ended : HomeState → List DiskCall → Work
  ended k calls = work_of (record n { home = k }) ps calls old

  forced_work : (k : HomeState) (bytes : List ℕ) (b : Bool)
      → with_home_work w (record (force_if b t bytes (work_of_home w)) { home = k }) ≡ ended k (cs ++ (force_if b t bytes (work_on n.home)).calls)
  forced_work k bytes true = ap (ended k) (sym (append-nil cs))
  forced_work k bytes false = refl

  commit_work : with_home_work w (commit t (work_of_home w)).work ≡ ended (commit t (work_on n.home)).work.home (cs ++ commit_calls n.home t)
  unfolding commit
  commit_work = forced_work (closed n.home t (publish_all n.home t)) (record_bytes (commit_record n.home t)) (length (pages_written n.home t) == 0)

  same_ends : (commit t (work_of_home w)).endings ≡ endings n.home t true
  unfolding commit
  same_ends = refl

  told_ends : (commit t (work_on n.home)).endings ≡ endings n.home t true
  unfolding commit
  told_ends = refl

  pub commit_told : (k : HomeState) (es : List Ending) → es ≡ map told (commit t (work_on n.home)).endings → k ≡ (commit t (work_on n.home)).work.home
      → end_work r t w (commit t (work_of_home w)) ≡ for_each (tell_end t) es (reply r (clean_unserved es (ended k (cs ++ commit_calls n.home t))))
  commit_told k es ends home =
      let xs : List Ending = endings n.home t true in
      let done : Work = ended (commit t (work_on n.home)).work.home (cs ++ commit_calls n.home t) in
      (λ i. for_each (tell_end t) (same_ends i) (reply r (clean_unserved (same_ends i) (commit_work i))))
      ∙ sym (all_told t xs (reply r (clean_unserved xs done)))
      ∙ ap (λ x. for_each (tell_end t) (map told xs) (reply r x)) (sym (cleaned_told xs done))
      ∙ (λ i.
      for_each (tell_end t) (sym (ends ∙ ap (map told) told_ends) i)
      (reply r (clean_unserved (sym (ends ∙ ap (map told) told_ends) i) (ended (sym home i) (cs ++ commit_calls n.home t)))))

  pub abort_told : (k : HomeState) (es : List Ending) → es ≡ (abort t (work_on n.home)).endings → k ≡ (abort t (work_on n.home)).work.home
      → end_work r t w (abort t (work_of_home w)) ≡ for_each (tell_end t) es (reply r (clean_unserved es (ended k cs)))
  unfolding abort
  abort_told k es ends home = λ i. for_each (tell_end t) (sym ends i) (reply r (clean_unserved (sym ends i) (ended (sym home i) cs)))

-- the ends that the home tells are those that were planned
pub commit_due_ends : (t : TxId) (h : HomeState) (es : List Ending) → IsHome h → pending_of h.txs t ≡ None → es ≡ map told (commit t (work_on h)).endings → map due es ≡ dues true h t
unfolding commit
commit_due_ends t h es is none ends = ap (map due) ends ∙ due_told (endings h t true) ∙ commit_dues h t is none

pub abort_due_ends : (t : TxId) (h : HomeState) (es : List Ending) → IsHome h → es ≡ (abort t (work_on h)).endings → map due es ≡ dues false h t
unfolding abort
abort_due_ends t h es is ends = ap (map due) ends ∙ abort_dues h t is

pub cleaned_over : (es : List Ending) (i : ℕ) (w : Work) → length es ≤ i → clean_unserved (drop i es) w ≡ w
unfolding clean_unserved
cleaned_over es i w over = ap (λ l. clean_unserved l w) (drop_of_length-le es over)

-- the parts for which memory was taken are those of the node
pub ended_as : (v : PartsView) (n : NodeState) (k : HomeState) (ps : List (List ℕ)) (cs : List DiskCall) (mid old : OutputsView) → node_of v ≡ n → mid.replies ≡ old.replies → mid.sends ≡ old.sends
    → work_of (record (node_of v) { home = k }) ps cs mid ≡ work_of (record n { home = k }) ps cs old
ended_as v n k ps cs mid old node replies sends = λ i. record { node = record (node i) { home = k }; pages = ps; calls = cs; replies = replies i; sends = sends i }

pub same_as : (h k : HomeState) → k ≡ h → SameNode h k
same_as h k is = subst (λ z. SameNode h z) (sym is) (record { config = refl; node = refl; born = refl })

pub ends_below : (c : Sizes) (es : List Ending) → AllByRecursion (λ p. p < c.pages) (due_pages (map due es)) → AllByRecursion (λ e. e.page < c.pages) es
ends_below c [] all = tt
ends_below c (e ∷ es) all = (all.0, ends_below c es all.1)
