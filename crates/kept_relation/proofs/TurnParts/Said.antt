-- The report of a node that goes on to a later era says what the machine has.
use Rattle.std.proofs.Common.{◌≡◌, refl, ap, sym, subst, ◌∙◌, ℕ, ◌≤◌, ◌<◌, ◌==◌, true, false, List, Option, Some, None, is_some, arith}
use Rattle.std.proofs.lemmas.Bool.Decides.{nat_tests}
use Rattle.pcl_base.specs.Limits.{Sizes}
use Rattle.pcl_base.specs.declared.event.Event.{Event}
use Rattle.pcl_base.specs.declared.lock.Pending.{Pending}
use Rattle.pcl_base.specs.declared.tx.Mode.TheVariants.{Exclusive}
use Rattle.pcl_base.specs.declared.tx.TxId.{TxId}
use Rattle.node_rules.specs.BufferRule.{find, copy_at}
use Rattle.node_rules.specs.NodeState.{partition, number_of}
use Rattle.node_rules.specs.OpenTxs.{open_at, held_by, pending_of}
use Rattle.node_rules.specs.Reports.{report}
use Rattle.node_rules.specs.Shelf.{Right as OnShelf, right_on, readers_of}
use Rattle.node_rules.specs.Words.{among}
use Rattle.node_rules.specs.Work.{Work}
use Rattle.cluster_rules.specs.Clusters.{Cluster, last_view}
use Rattle.home_laws.specs.Homes.{IsHome, is_exclusive_lock, is_right_lock}
use Rattle.page_laws.specs.Look.Ends.{version_of_right}
use Rattle.page_protocol.specs.Eras.{with_report, reported}
use Rattle.page_protocol.specs.Invariant.{Inv, Locked}
use Rattle.page_protocol.specs.State.{Page, Home, Holding, Right, NoRight, Flying, Shelf, Returning, Dead, IsFresh, lock_of, updn, version_of}
use Rattle.page_relation.specs.Homes.{StandsIn, KindFits, wait_on, is_unborn}
use Rattle.page_relation.specs.Looks.{slot_in, slot_of, shelf_in, shelf_of}
use Rattle.page_relation.specs.Messages.{IsTold, WaitIs, CountsFor, ReportIs, lists_right, mode_listed}
use Rattle.page_relation.specs.Relation.{on_shelf}
use Rattle.page_relation.specs.Work.Keeping.{IsWorkOf}
use Rattle.page_relation.specs.Work.Landing.{land, Acts}
use Rattle.page_relation.proofs.WorkParts.Nodes.{at_node}
use Rattle.kept_relation.specs.Turn.Listing.{ReportLists}
use Rattle.kept_relation.specs.Turn.Telling.{homes_told, reported_on, IsBack}
use Rattle.kept_relation.proofs.TurnParts.Listing.{report_is_listed_law}
use Rattle.kept_relation.proofs.TurnParts.Reaching.{reached_here}
use Rattle.kept_relation.proofs.TurnParts.Retelling.{holds_retold}
use Rattle.kept_relation.proofs.TurnParts.Saying.{reported_retold, told_retold, stands_listed, waits_unfresh, found_version, exclusive_stands}
use Rattle.kept_relation.proofs.TurnParts.Telling.{home_here, listed_new}
use Rattle.kept_relation.proofs.TurnParts.Waiting.{wait_of, waits_listed}

module _ (c : Cluster) (e : Event) (n p next : ℕ) (w : Work) (a : Page) (blank : List ℕ) (acts : Acts c n) (low : a.era ≤ a.reached n) (below : a.reached n < next) (config : w.node.home.config ≡ c.config) (number : number_of w.node ≡ n) (home : IsHome w.node.home) (back : IsBack a n) (inv : Inv blank a) (fits : (t : TxId) → t.node ≡ n → KindFits false (held_by w.node.home.txs t p)) (r : IsWorkOf c e n p w (reported_on a n next)) where
  abbrev have : Option ℕ
  have = version_of (a.slot n)

  stands : (t : TxId) → t.node ≡ n → StandsIn (last_view c).epoch (Some w.node) t p (homes_told a n t)
  unfolding land
  stands t is = at_node c e n acts w t.node (λ o. StandsIn (last_view c).epoch o t p (homes_told a n t)) is (r.homes.stands t)

  shelf : shelf_in (Some w.node) p ≡ on_shelf (a.right n)
  unfolding shelf_of
  shelf = at_node c e n acts w n (λ o. shelf_in o p ≡ on_shelf (a.right n)) refl (r.nodes.shelves n)

  slot : slot_in (Some w.node) p ≡ a.slot n
  unfolding slot_of
  slot = at_node c e n acts w n (λ o. slot_in o p ≡ a.slot n) refl (r.copies.slot_same n)

  -- nobody holds the page exclusively under a right
  no_reader : (o : Option OnShelf) (t : TxId) → among (readers_of o) t ≡ true → version_of_right o ≡ None → ⊥
  unfolding among
  no_reader None t is none = absurd (cc)
  no_reader (Some x) t is none = absurd (cc)

  sound : (t : TxId) → t.node ≡ n → is_right_lock (held_by w.node.home.txs t p) ≡ true → is_exclusive_lock (held_by w.node.home.txs t p) ≡ true → ⊥
  sound t is under exclusive =
      no_reader (right_on w.node.home.shelf p) t (home.reading t p under) (shelf ∙ ap on_shelf nobody)
    where
      holds : a.home t ≡ Holding Exclusive
      holds =
          holds_retold have (a.home t) Exclusive
          (sym (home_here a n next low below t is)
          ∙ exclusive_stands (open_at w.node.home.txs t) (is_unborn w.node.view w.node t) p (wait_on (pending_of w.node.home.txs t) p) (homes_told a n t) exclusive (stands t is))

      locked : a.listed t a.era ≡ Some Exclusive
      locked =
          subst (λ (h : Home). Locked (a.listed t a.era) (a.right t.node) a.era t (lock_of h)) holds
          (inv.locks_hold.locks t a.era (omega arith) (subst (λ (k : ℕ). a.era ≤ a.reached k) (sym is) low))

      nobody : a.right n ≡ NoRight
      nobody = inv.locks_hold.no_rights t n locked

  lists : ReportLists p w.node.home
  lists = report_is_listed_law p w.node.home home

  locks_said : (t : TxId) → t.node ≡ n → mode_listed (report (partition w.node.home.config p) w.node.home).locks t p ≡ with_report a.reached a.home a.listed n next t next
  locks_said t is =
      lists.locks t
      ∙ stands_listed (open_at w.node.home.txs t) (is_unborn w.node.view w.node t) p (wait_on (pending_of w.node.home.txs t) p) (homes_told a n t) (fits t is) (sound t is) (stands t is)
      ∙ ap reported (home_here a n next low below t is)
      ∙ reported_retold have (a.home t)
      ∙ sym (listed_new a n next low below t is)

  has_one : (o : Option OnShelf) (v : ℕ) → version_of_right o ≡ Some v → is_some o ≡ true
  has_one None v is = absurd (cc)
  has_one (Some x) v is = refl

  rights_said : CountsFor next (a.right n) → lists_right (report (partition w.node.home.config p) w.node.home).rights p ≡ true
  rights_said counts = by (a.right n) refl counts
    where
      by : (x : Right) → a.right n ≡ x → CountsFor next x → lists_right (report (partition w.node.home.config p) w.node.home).rights p ≡ true
      by NoRight is k = absurd k
      by (Flying g) is k = absurd k
      by (Shelf v) is k = lists.rights (has_one (right_on w.node.home.shelf p) v (shelf ∙ ap on_shelf is))
      by (Returning upto readers) is k = absurd (let most = back upto readers is in omega (arith, most, below, k))
      by Dead is k = absurd k

  wait_said : (t : TxId) (x : Pending) → t.node ≡ w.node.home.txs.node → pending_of w.node.home.txs t ≡ Some x → WaitIs (updn a.reached n next) (homes_told a n) p next (wait_of w.node.home.pool t x)
  wait_said t x own waits at =
      record {
        begun = unfresh;
        told = λ now.
            subst (λ (o : Option ℕ). IsTold o (homes_told a n t)) (sym found)
            (subst (IsTold have) (sym (home_here a n next low below t is)) (told_retold have (a.home t) (λ f. unfresh (subst IsFresh (sym (home_here a n next low below t is)) f))));
      }
    where
      is : t.node ≡ n
      is = own ∙ number

      test : (x.page == p) ≡ true
      test = grind (arith, nat_tests, at)

      unfresh : IsFresh (homes_told a n t) → ⊥
      unfresh = waits_unfresh (open_at w.node.home.txs t) (is_unborn w.node.view w.node t) p (held_by w.node.home.txs t p) (homes_told a n t) x waits test (stands t is)

      found : find w.node.home.pool x.page ≡ have
      found = ap (find w.node.home.pool) at ∙ found_version (copy_at w.node.home.pool p) ∙ ap version_of slot

  pub report_says : ReportIs a.era (updn a.reached n next) (with_report a.reached a.home a.listed n next) a.right (homes_told a n) p n next (report (partition c.config p) w.node.home)
  unfolding report
  report_says =
      subst
      (λ (z : Sizes). ReportIs a.era (updn a.reached n next) (with_report a.reached a.home a.listed n next) a.right (homes_told a n) p n next (report (partition z p) w.node.home)) config
      (record {
        later = omega (arith, low, below);
        reaches = (let here = reached_here a.reached n next n refl in omega (arith, here));
        locks = locks_said;
        rights = rights_said;
        waits =
            waits_listed w.node.home.config (partition w.node.home.config p) w.node.home.pool w.node.home.txs (WaitIs (updn a.reached n next) (homes_told a n) p next) wait_said w.node.home.txs.last
            home.txs.serials;
      })
