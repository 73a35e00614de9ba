-- A node that has taken a partition over: its own report, and so its new table, has what the era lists of it.
use Rattle.std.proofs.Common.{◌≡◌, refl, ap, sym, subst, ◌∙◌, ℕ, ◌≤◌, ◌<◌, ◌==◌, true, false, Option, Some, None, is_some, arith}
use Rattle.std.specs.Prelude.{option_map}
use Rattle.std.proofs.lemmas.Bool.Decides.{nat_tests}
use Rattle.pcl_base.specs.Limits.{Sizes}
use Rattle.pcl_base.specs.declared.event.Event.{Event}
use Rattle.pcl_base.specs.declared.lock.Held.{Held}
use Rattle.pcl_base.specs.declared.lock.Kind.TheVariants as kind
use Rattle.pcl_base.specs.declared.lock.Pending.{Pending}
use Rattle.pcl_base.specs.declared.tx.TxId.{TxId}
use Rattle.run_rules.specs.Views.{View, since_of, owner_of}
use Rattle.node_rules.specs.BufferRule.{find, copy_at}
use Rattle.node_rules.specs.InstallRule.{new_table}
use Rattle.node_rules.specs.LockTable.{LockTable, entry_at, open_table}
use Rattle.node_rules.specs.NodeState.{NodeState, number_of, partition}
use Rattle.node_rules.specs.OpenTxs.{OpenTx, is_open, open_at, held_by, pending_of, pages_of_open, lock_on}
use Rattle.node_rules.specs.Reports.{own_report}
use Rattle.node_rules.specs.Work.{Work, with_node}
use Rattle.home_laws.specs.Homes.{IsHome}
use Rattle.home_laws.proofs.Partitions.{take_over_is_sound_law}
use Rattle.cluster_rules.specs.Clusters.{Cluster, last_view}
use Rattle.page_laws.proofs.EntryParts.Gathered.{gathering_is_seen_law}
use Rattle.cluster_laws.specs.Era.Eras.{era_in}
use Rattle.page_laws.specs.Look.Grants.{of_kind}
use Rattle.page_protocol.specs.Eras.{with_report, reported}
use Rattle.page_protocol.specs.State.{Page, IsFresh, updn, version_of}
use Rattle.page_relation.specs.Homes.{Stands, StandsIn, wait_on, is_unborn}
use Rattle.page_relation.specs.Looks.{slot_in, slot_of}
use Rattle.page_relation.specs.Messages.{HasAsked, IsTold, CountsFor}
use Rattle.page_relation.specs.Tables.{TableIs, IsRebuilt}
use Rattle.page_relation.specs.Work.Keeping.{IsWorkOf}
use Rattle.page_relation.specs.Work.Landing.{land, Acts}
use Rattle.page_relation.proofs.WorkParts.Nodes.{at_node}
use Rattle.kept_relation.specs.Turn.Getting.{HasReported}
use Rattle.kept_relation.specs.Turn.Listing.{listed_mode}
use Rattle.kept_relation.specs.Turn.Standing.{HasNext}
use Rattle.kept_relation.specs.Turn.Telling.{homes_told, reported_on}
use Rattle.kept_relation.proofs.TurnParts.Getting.{new_table_is_rebuilt_law}
use Rattle.kept_relation.proofs.TurnParts.Reaching.{reached_here}
use Rattle.kept_relation.proofs.TurnParts.Saying.{reported_retold, told_retold, waits_unfresh, found_version}
use Rattle.kept_relation.proofs.TurnParts.Telling.{home_here, listed_new}
use Rattle.install_relation.specs.Taking.{owning}
use Rattle.install_relation.proofs.Owning.{own_report_lists}
use Rattle.install_relation.proofs.Taking.{held_is, seen}

-- who isn't open holds nothing
closed_holds : (o : Option OpenTx) (p : ℕ) → is_some o ≡ false → lock_on (pages_of_open o) p ≡ None
unfolding lock_on
closed_holds None p e = refl
closed_holds (Some x) p e = absurd (cc)

module _ (c : Cluster) (e : Event) (n p : ℕ) (s : NodeState) (v : View) (w : Work) (a : Page) (acts : Acts c n) (has : HasNext c n s v w.node) (owner : (owner_of v (partition c.config p) == n) ≡ true) (new : since_of v (partition c.config p) ≡ v.epoch) (low : a.era ≤ a.reached n) (below : a.reached n < v.epoch) (home : IsHome w.node.home) (uncounted : CountsFor v.epoch (a.right n) → ⊥) (r : IsWorkOf c e n p (with_node w (owning (partition c.config p) w.node)) (reported_on a n v.epoch)) where
  abbrev q : ℕ
  q = partition c.config p

  abbrev k : NodeState
  k = owning q w.node

  abbrev have : Option ℕ
  have = version_of (a.slot n)

  stands : (t : TxId) → t.node ≡ n → StandsIn (last_view c).epoch (Some k) t p (homes_told a n t)
  unfolding land
  stands t is = at_node c e n acts (with_node w k) t.node (λ o. StandsIn (last_view c).epoch o t p (homes_told a n t)) is (r.homes.stands t)

  slot : slot_in (Some k) p ≡ a.slot n
  unfolding slot_of
  slot = at_node c e n acts (with_node w k) n (λ o. slot_in o p ≡ a.slot n) refl (r.copies.slot_same n)

  alive : (t : TxId) → is_open k.home.txs t ≡ is_open w.node.home.txs t
  alive t = (seen c n p a.era s v w.node w.node has owner new).locks.life.alive t

  held : (t : TxId) → held_by k.home.txs t p ≡ option_map (of_kind kind.Own) (held_by w.node.home.txs t p)
  held t = held_is c n p a.era s v w.node w.node has owner new t

  locks_said : (t : TxId) → t.node ≡ n → listed_mode true (held_by k.home.txs t p) ≡ with_report a.reached a.home a.listed n v.epoch t v.epoch
  locks_said t is =
      ap (listed_mode true) (held t)
      ∙ own_report_lists (is_open k.home.txs t) (is_unborn k.view k t) (held_by w.node.home.txs t p) (wait_on (pending_of k.home.txs t) p) (homes_told a n t)
      (λ shut. closed_holds (open_at w.node.home.txs t) p (sym (alive t) ∙ shut))
      (subst (λ (l : Option Held). Stands (is_open k.home.txs t) (is_unborn k.view k t) l (wait_on (pending_of k.home.txs t) p) (homes_told a n t)) (held t) (stands t is))
      ∙ ap reported (home_here a n v.epoch low below t is)
      ∙ reported_retold have (a.home t)
      ∙ sym (listed_new a n v.epoch low below t is)

  wait_said : (t : TxId) (x : Pending) → t.node ≡ n → pending_of k.home.txs t ≡ Some x → x.page ≡ p → HasAsked (updn a.reached n v.epoch t.node) v.epoch (homes_told a n t) (find k.home.pool x.page)
  wait_said t x is waits at =
      record {
        begun = unfresh;
        told = λ now.
            subst (λ (o : Option ℕ). IsTold o (homes_told a n t)) (sym found)
            (subst (IsTold have) (sym (home_here a n v.epoch low below t is)) (told_retold have (a.home t) (λ f. unfresh (subst IsFresh (sym (home_here a n v.epoch low below t is)) f))));
      }
    where
      test : (x.page == p) ≡ true
      test = grind (arith, nat_tests, at)

      unfresh : IsFresh (homes_told a n t) → ⊥
      unfresh = waits_unfresh (open_at k.home.txs t) (is_unborn k.view k t) p (held_by k.home.txs t p) (homes_told a n t) x waits test (stands t is)

      found : find k.home.pool x.page ≡ have
      found = ap (find k.home.pool) at ∙ found_version (copy_at k.home.pool p) ∙ ap version_of slot

  reported_to : HasReported p n v.epoch k.home (reported_on a n v.epoch)
  reported_to =
      record {
        later = omega (arith, low, below);
        reached = (let here = reached_here a.reached n v.epoch n refl in omega (arith, here));
        locks = locks_said;
        rights = uncounted;
        waits = wait_said;
      }

  -- the new table
  abbrev table : LockTable
  table = new_table q (number_of w.node) k.home

  pub unserved : table.serving ≡ false
  unfolding open_table
  unserved = (gathering_is_seen_law (open_table k.home.config q false) (number_of w.node) (own_report q k.home)).serving

  pub rebuilt : TableIs (reported_on a n v.epoch) p n (era_in k.view q) false table
  rebuilt =
      subst (λ (x : ℕ). IsRebuilt a.era (reported_on a n v.epoch).listed a.right (reported_on a n v.epoch).reached (reported_on a n v.epoch).home x table (entry_at table p)) (sym era)
      (subst (λ (m : ℕ). IsRebuilt a.era (reported_on a n v.epoch).listed a.right (reported_on a n v.epoch).reached (reported_on a n v.epoch).home v.epoch (new_table q m k.home) (entry_at (new_table q m k.home) p)) (sym has.number)
      (subst
      (λ (z : Sizes). IsRebuilt a.era (reported_on a n v.epoch).listed a.right (reported_on a n v.epoch).reached (reported_on a n v.epoch).home v.epoch (new_table (partition z p) n k.home)
      (entry_at (new_table (partition z p) n k.home) p)) has.config
      (new_table_is_rebuilt_law p n v.epoch k.home (reported_on a n v.epoch) (take_over_is_sound_law q w.node.home home) has.number (subst (λ (z : Sizes). n < z.nodes) (sym has.config) acts.known) reported_to)))
    where
      era : era_in k.view q ≡ v.epoch
      era = ap (λ (o : Option View). era_in o q) has.view ∙ new
