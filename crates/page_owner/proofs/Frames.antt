-- What the rules of grants and changes do to the pages and the calls of the work that they get.
use Rattle.std.proofs.Common.{◌≡◌, ℕ, ◌==◌, ◌++◌, nat_lt, Bool, true, false, List, Option, Some, None, Result, Ok, Err, refl, ap, sym, ◌∙◌, append-nil}
use Rattle.pcl_base.specs.declared.tx.TxId.{TxId}
use Rattle.pcl_base.specs.declared.lock.Held.{Held}
use Rattle.pcl_base.specs.declared.message.Change.{Change}
use Rattle.pcl_base.specs.declared.message.Grant.{Grant}
use Rattle.pcl_base.specs.declared.reply.Reply.{Reply}
use Rattle.text_rules.specs.StoredPage.{PageAt, BadNumber, stored_page}
use Rattle.run_rules.specs.Disk.{raw_page}
use Rattle.node_rules.specs.Words.{pick}
use Rattle.node_rules.specs.OpenTxs.{pending_of, waits_as}
use Rattle.node_rules.specs.BufferRule.{Slot, Copy, copy_at, has_slot, find, free_frames, victim, install, place, clean, evict}
use Rattle.node_rules.specs.CopyRule.{is_version}
use Rattle.node_rules.specs.NodeState.{HomeState}
use Rattle.node_rules.specs.DiskCalls.{DiskCall}
use Rattle.node_rules.specs.Work.{HomeWork, Work, Outcome, Goes, Differs, and_then, and_so, with_pool, with_home, work_of_home, with_home_work, reply, some_reply, page_or_differs, write_page, write_copy, write_back}
use Rattle.node_rules.specs.AccessRule.{Granted, Arrived, bring, unless_current, from_disk, on_pool, clean_copy, perform, locked, write_of, granted, on_grant, arrive, arrived, image_of, kind_of, readers_after, shelf_after, let_go, make_room}
use Rattle.node_rules.specs.OwnerRule.{told, put_change, into_slot, has_room}
use Rattle.node_rules.specs.NodeStep.{after_grant}
use Rattle.home.specs.Device.{work_on}
use Rattle.page_owner.specs.Writes.{after_calls}
use Rattle.home.specs.Grants.{work_at, outcome, arrival}

-- a page is brought, and a grant is carried out, with no change of pages and calls
module _ (ps : List (List ℕ)) (cs : List DiskCall) where
  abbrev begun : HomeState → HomeWork
  begun h = record { home = h; pages = ps; calls = cs }

  abbrev back : HomeWork → HomeWork
  back w = record { home = w.home; pages = ps; calls = cs }

  abbrev granted_back : Granted → Granted
  granted_back g = record { reply = g.reply; work = back g.work }

  read_brought : (p version : ℕ) (h : HomeState) (r : Result PageAt BadNumber)
      → and_then (page_or_differs p r) (from_disk p version (begun h)) ≡ and_so (and_then (page_or_differs p r) (from_disk p version (work_at ps h))) back
  read_brought p version h (Ok at) = by (at.version == version)
    where
      by : (b : Bool) → pick b (Goes (on_pool (λ b. install b p (clean_copy at)) (begun h))) (Differs p version at.version)
          ≡ and_so (pick b (Goes (on_pool (λ b. install b p (clean_copy at)) (work_at ps h))) (Differs p version at.version)) back
      by true = refl
      by false = refl
  read_brought p version h (Err bad) = refl

  bring_frames : (p version : ℕ) (image : Option (List ℕ)) (h : HomeState) → bring p version image (begun h) ≡ and_so (bring p version image (work_at ps h)) back
  unfolding bring
  bring_frames p version image h = by (is_version (find h.pool p) version) image
    where
      by : (b : Bool) (image : Option (List ℕ)) → unless_current b p version image (begun h) ≡ and_so (unless_current b p version image (work_at ps h)) back
      by true image = refl
      by false (Some bytes) = refl
      by false None = read_brought p version h (stored_page p (raw_page ps p))

  locked_back : (t : TxId) (l : Held) (write : Option (ℕ × List ℕ)) (w : HomeWork) → locked t l write (back w) ≡ granted_back (locked t l write w)
  unfolding perform
  locked_back t l None w = refl
  locked_back t l (Some x) w = refl

  pub granted_frames : (t : TxId) (l : Held) (version : ℕ) (image : Option (List ℕ)) (h : HomeState)
      → granted t l version image (begun h) ≡ and_so (granted t l version image (work_at ps h)) granted_back
  unfolding granted
  granted_frames t l version image h =
      ap (λ o. and_so o (locked t l write)) (bring_frames l.page version image h) ∙ by (bring l.page version image (work_at ps h))
    where
      write : Option (ℕ × List ℕ)
      write = write_of (pending_of h.txs t)

      by : (o : Outcome HomeWork) → and_so (and_so o back) (locked t l write) ≡ and_so (and_so o (locked t l write)) granted_back
      by (Goes w) = ap (λ g. (let z : Outcome Granted = Goes g in z)) (locked_back t l write w)
      by (Differs p expected found) = refl

  arrived_back : (o : Outcome Granted) → and_so (and_so o granted_back) arrived ≡ and_so (and_so o arrived) (λ a. record { reply = a.reply; work = back a.work })
  arrived_back (Goes g) = refl
  arrived_back (Differs p expected found) = refl

  pub on_grant_frames : (g : Grant) (owned : Bool) (h : HomeState) → on_grant g owned (begun h) ≡ and_so (on_grant g owned (work_at ps h)) (λ a. record { reply = a.reply; work = back a.work })
  unfolding on_grant
  on_grant_frames g owned h = by (waits_as (pending_of h.txs g.tx) g.page g.mode)
    where
      kept : HomeState
      kept = record h { shelf = shelf_after g h.shelf }

      by : (b : Bool) → arrive b g owned (begun kept) ≡ and_so (arrive b g owned (work_at ps kept)) (λ a. record { reply = a.reply; work = back a.work })
      by false = refl
      by true =
          ap (λ o. and_so o arrived) (granted_frames g.tx (record { page = g.page; mode = g.mode; kind = kind_of owned g.right }) g.version (image_of g.copy) (record kept { shelf = readers_after g kept.shelf }))
          ∙ arrived_back (granted g.tx (record { page = g.page; mode = g.mode; kind = kind_of owned g.right }) g.version (image_of g.copy) (work_at ps (record kept { shelf = readers_after g kept.shelf })))

-- an own grant, and a grant that arrived, in the work of a node
pub granted_told : (t : TxId) (l : Held) (version : ℕ) (image : Option (List ℕ)) (w : Work) → and_so (granted t l version image (work_of_home w)) (told w)
    ≡ and_so (outcome (granted t l version image (work_at w.pages w.node.home))) (λ x. reply x.0 (with_home w x.1))
granted_told t l version image w =
    ap (λ o. and_so o (told w)) (granted_frames w.pages w.calls t l version image w.node.home) ∙ by (granted t l version image (work_at w.pages w.node.home))
  where
    by : (o : Outcome Granted) → and_so (and_so o (granted_back w.pages w.calls)) (told w) ≡ and_so (outcome o) (λ x. reply x.0 (with_home w x.1))
    by (Goes g) = refl
    by (Differs p expected found) = refl

pub arrived_told : (g : Grant) (owned : Bool) (w : Work) → and_so (on_grant g owned (work_of_home w)) (after_grant w)
    ≡ and_so (arrival (on_grant g owned (work_at w.pages w.node.home))) (λ x. some_reply x.0 (with_home w x.1))
arrived_told g owned w =
    ap (λ o. and_so o (after_grant w)) (on_grant_frames w.pages w.calls g owned w.node.home) ∙ by (on_grant g owned (work_at w.pages w.node.home))
  where
    by : (o : Outcome Arrived) → and_so (and_so o (λ a. record { reply = a.reply; work = back w.pages w.calls a.work })) (after_grant w) ≡ and_so (arrival o) (λ x. some_reply x.0 (with_home w x.1))
    by (Goes a) = of a.reply a.work
      where
        of : (r : Option Reply) (k : HomeWork) → (let z : Outcome Work = Goes (some_reply r (with_home_work w (back w.pages w.calls k))) in z) ≡ Goes (some_reply r (with_home w k.home))
        of None k = refl
        of (Some r) k = refl
    by (Differs p expected found) = refl

-- what a rule that writes pages made of the work of a home
abbrev pub then_made : HomeWork → HomeWork → HomeWork
then_made w x = record { home = x.home; pages = after_calls w.pages x.calls; calls = w.calls ++ x.calls }

same_work : (w : HomeWork) (h : HomeState) → record w { home = h } ≡ then_made w (work_on h)
same_work w h = ap (λ l. record { home = h; pages = w.pages; calls = l }) (sym (append-nil w.calls))

pub write_back_frames : (p : ℕ) (w : HomeWork) → write_back p w ≡ then_made w (write_back p (work_on w.home))
unfolding write_back
write_back_frames p w = by_copy (copy_at w.home.pool p)
  where
    by_copy : (o : Option Copy) → write_copy p o w ≡ then_made w (write_copy p o (work_on w.home))
    by_copy None = same_work w w.home
    by_copy (Some c) = by c.dirty
      where
        wrote : HomeWork → HomeWork
        wrote k = record (write_page p (record { version = c.version; bytes = c.bytes }) k) { home = with_pool w.home (clean w.home.pool p) }

        by : (d : Bool) → pick d (wrote w) w ≡ then_made w (pick d (wrote (work_on w.home)) (work_on w.home))
        by true = refl
        by false = same_work w w.home

make_room_frames : (keep : ℕ) (w : HomeWork) → make_room keep w ≡ then_made w (make_room keep (work_on w.home))
unfolding make_room
make_room_frames keep w = by (nat_lt 0 (free_frames w.home.pool)) (victim w.home.pool keep)
  where
    by : (d : Bool) (o : Option Slot) → pick d w (let_go o w) ≡ then_made w (pick d (work_on w.home) (let_go o (work_on w.home)))
    by true o = same_work w w.home
    by false None = same_work w w.home
    by false (Some s) = ap (on_pool (λ b. evict b s.page)) (write_back_frames s.page w)

pub put_change_frames : (p : ℕ) (c : Change) (w : HomeWork) → put_change p c w ≡ then_made w (put_change p c (work_on w.home))
put_change_frames p c w = by (has_slot w.home.pool p) (free_frames w.home.pool == 0) (has_room p w)
  where
    placed : HomeWork → HomeWork
    placed k = into_slot p c (on_pool (λ b. place b p) k)

    wrote : HomeWork → HomeWork
    wrote k = write_page p (record { version = c.version; bytes = c.image }) k

    by : (slot none room : Bool) → pick slot (into_slot p c w) (pick none (pick room (placed (make_room p w)) (wrote w)) (placed w))
        ≡ then_made w (pick slot (into_slot p c (work_on w.home)) (pick none (pick room (placed (make_room p (work_on w.home))) (wrote (work_on w.home))) (placed (work_on w.home))))
    by true none room = ap (into_slot p c) (same_work w w.home)
    by false true true = ap placed (make_room_frames p w)
    by false true false = refl
    by false false room = ap placed (same_work w w.home)
