-- What is known of a work inside a step stays through a change that is put at its place, and an entry.
use Rattle.std.proofs.Common.{◌≡◌, refl, ap, sym, subst, ◌∙◌, ℕ, ◌<◌, ◌==◌, Bool, true, false, List, length, map, Option, Some, None}
use Rattle.std.specs.Prelude.{IfSome}
use Rattle.pcl_base.specs.Limits.{Sizes}
use Rattle.pcl_base.specs.declared.event.Event.{Event}
use Rattle.pcl_base.specs.declared.lock.Pending.{Pending}
use Rattle.pcl_base.specs.declared.message.Change.{Change}
use Rattle.pcl_base.specs.declared.trace.Entry.{Entry}
use Rattle.pcl_base.specs.declared.tx.TxId.{TxId}
use Rattle.text_rules.specs.MessageBytes.{IsPage, IsChange}
use Rattle.node_rules.specs.AccessRule.{make_room, on_pool}
use Rattle.node_rules.specs.BufferRule.{has_slot, free_frames, place}
use Rattle.node_rules.specs.LockRule.{end_tx}
use Rattle.node_rules.specs.LockTable.{LockTable, entry_at, put_entry}
use Rattle.node_rules.specs.NodeState.{HomeState, table_of}
use Rattle.node_rules.specs.OpenTxs.{OpenTxs, pending_of}
use Rattle.node_rules.specs.OwnerRule.{has_room, into_slot, put_change, put_taken, with_table}
use Rattle.node_rules.specs.Words.{pick}
use Rattle.node_rules.specs.Work.{HomeWork, Work, work_of_home, with_home_work, write_page}
use Rattle.home_laws.proofs.Puts.{put_change_is_sound_law}
use Rattle.home_laws.proofs.Room.{room_home}
use Rattle.step_laws.proofs.Homes.{IsSame}
use Rattle.node_laws.proofs.Entries.{end_is}
use Rattle.node_laws.proofs.Pages.{entry_good, entry_there}
use Rattle.node_laws.proofs.Stored.{AreStored, Fits, change_stored, home_fits}
use Rattle.node_laws.proofs.Works.{Base, IsBase, IsGood, IsHomeWork, good_home, part_of, same_home_of}
use Rattle.cluster_rules.specs.Clusters.{Cluster, sent_by}
use Rattle.page_laws.specs.Moment.Looks.{asked_last, with_entry}
use Rattle.page_relation.specs.Work.Landing.{trace_of}
use Rattle.page_relation.specs.Work.Letting.{CalledBy}
use Rattle.page_relation.proofs.WorkParts.Called.{changed_called}
use Rattle.end_relation.specs.Release.Midway.{IsMidway}

-- ---- the home of a change

room_same : (keep : ℕ) (w : HomeWork) → IsSame w.home (make_room keep w).home
room_same keep w =
    let same = room_home keep w in
    record { config = ap (λ (h : HomeState). h.config) same; txs = ap (λ (h : HomeState). h.txs) same; shelf = ap (λ (h : HomeState). h.shelf) same }

pub put_same : (p : ℕ) (x : Change) (w : HomeWork) → IsSame w.home (put_change p x w).home
put_same p x w = by (has_slot w.home.pool p) (free_frames w.home.pool == 0) (has_room p w)
  where
    by : (a b d : Bool) → IsSame w.home
        (pick a (into_slot p x w)
        (pick b (pick d (into_slot p x (on_pool (λ b. place b p) (make_room p w))) (write_page p (record { version = x.version; bytes = x.image }) w))
        (into_slot p x (on_pool (λ b. place b p) w)))).home
    by true b d = record { config = refl; txs = refl; shelf = refl }
    by false true true = let room = room_same p w in record { config = room.config; txs = room.txs; shelf = room.shelf }
    by false true false = record { config = refl; txs = refl; shelf = refl }
    by false false d = record { config = refl; txs = refl; shelf = refl }

module _ (b : Base) (base : IsBase b) where
  put_good : (p : ℕ) (x : Change) (w : HomeWork) → IsPage b.config p → length x.image ≡ b.config.size → IsHomeWork b w → IsHomeWork b (put_change p x w)
  put_good p x w low sized is =
      let same = is.home.config in
      let fits : Fits w.home.config w = home_fits w is.home.home (subst (λ (c : Sizes). AreStored c w.pages w.calls) (sym same) is.stored) in
      record {
        home =
            same_home_of b w.home (put_change p x w).home (put_same p x w)
            (put_change_is_sound_law p x w is.home.home (subst (λ (c : Sizes). p < c.pages) (sym same) low) (sized ∙ ap (λ (c : Sizes). c.size) (sym same))) is.home;
        stored = change_stored b.config p x w low sized (subst (λ (c : Sizes). Fits c w) same fits);
      }

-- ---- a further work of the step

module _ (b : Base) (c : Cluster) (e : Event) (n : ℕ) where
  still : (t : TxId) (w x : Work) → x.node.home.txs ≡ w.node.home.txs → x.replies ≡ w.replies → x.sends ≡ w.sends → IsMidway b c e n w
      → IfSome (pending_of x.node.home.txs t) (λ (y : Pending). y.write ≡ asked_last t (trace_of c e n x))
  still t w x txs replies sends i =
      subst (λ (s : OpenTxs). IfSome (pending_of s t) (λ (y : Pending). y.write ≡ asked_last t (trace_of c e n x))) (sym txs)
      (subst (λ (tr : List Entry). IfSome (pending_of w.node.home.txs t) (λ (y : Pending). y.write ≡ asked_last t tr)) traces (i.asked t))
    where
      traces : trace_of c e n w ≡ trace_of c e n x
      traces = (λ i. with_entry c.trace e (sym replies i) (map (sent_by n) (sym sends i)))

  pub on_midway : (w x : Work) → IsMidway b c e n w → IsGood b x → CalledBy n c.disk (work_of_home x) → x.node.home.txs ≡ w.node.home.txs → x.replies ≡ w.replies → x.sends ≡ w.sends
      → IsMidway b c e n x
  on_midway w x i good called txs replies sends =
      record {
        base = i.base;
        config = i.config;
        number = i.number;
        view = i.view;
        in_view = i.in_view;
        there = i.there;
        made = i.made;
        start = i.start;
        up = i.up;
        rises = i.rises;
        good = good;
        called = called;
        asked = λ t. still t w x txs replies sends i;
      }

  -- a change that is put at its place, where it is taken
  pub taken_midway : (taken : Bool) (r : ℕ) (o : Option Change) (w : Work) → IsPage b.config r → IsChange b.config.size o → IsMidway b c e n w → IsMidway b c e n (put_taken taken r o w)
  taken_midway true r (Some x) w low is i =
      on_midway w (with_home_work w (put_change r x (work_of_home w))) i
      (good_home b i.base (put_change r x (work_of_home w)) w (put_good b i.base r x (work_of_home w) low is.1 (part_of b i.base w i.good)) i.good)
      (changed_called n c.disk r x (work_of_home w) i.called) (put_same r x (work_of_home w)).txs refl refl
  taken_midway true r None w low is i = i
  taken_midway false r o w low is i = i

  -- the end of a transaction in an entry
  pub end_midway : (r : ℕ) (tb : LockTable) (t : TxId) (change : Option ℕ) (w : Work) → IsPage b.config r → table_of w.node r ≡ Some tb → IsMidway b c e n w
      → IsMidway b c e n (with_table r (put_entry tb r (end_tx (entry_at tb r) t change)) w)
  end_midway r tb t change w low there i =
      on_midway w (with_table r (put_entry tb r (end_tx (entry_at tb r) t change)) w) i
      (entry_good b i.base r low tb (end_tx (entry_at tb r) t change) w there
      (end_is b.config b.number t change (entry_at tb r) (entry_there b i.base r low tb w there i.good)) i.good)
      i.called refl refl refl
