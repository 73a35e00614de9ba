-- Where no report is missing nobody serves, and the era is complete.
use Rattle.std.proofs.Common.{◌≡◌, refl, ap, sym, subst, ◌∙◌, ℕ, ◌<◌, ◌≤◌, ◌==◌, Bool, true, false, List, [], ◌∷◌, length, Option, Some, None, is_some, arith, eqb-true}
use Rattle.std.proofs.lemmas.Bool.Decides.{nat_tests}
use Rattle.pcl_base.specs.Limits.{Sizes}
use Rattle.pcl_base.specs.declared.event.Event.{Event}
use Rattle.pcl_base.specs.declared.lock.Held.{Held}
use Rattle.pcl_base.specs.declared.tx.Mode.{Mode}
use Rattle.pcl_base.specs.declared.tx.TxId.{TxId}
use Rattle.run_rules.specs.Views.{View, since_of}
use Rattle.node_rules.specs.InstallRule.{owned_before}
use Rattle.node_rules.specs.LockTable.{LockTable, entry_at}
use Rattle.node_rules.specs.NodeState.{NodeState, number_of, partition, table_at, is_serving}
use Rattle.node_rules.specs.OpenTxs.{OpenTx, OpenTxs, is_open, is_own, with_serial, held_by, pending_of}
use Rattle.node_rules.specs.Words.{pick}
use Rattle.node_rules.specs.Work.{Work}
use Rattle.cluster_rules.specs.Clusters.{Cluster, node_at, last_view}
use Rattle.cluster_laws.specs.Sound.{IsMember}
use Rattle.cluster_laws.proofs.Steps.{up_is_member_law}
use Rattle.cluster_laws.specs.Era.Eras.{era_in}
use Rattle.page_protocol.specs.State.{Home, Lock, Free, Registered, UnderRight, Right, NoRight, Flying, Shelf, Returning, Dead, lock_of, InEra, IsFresh, IsClosed, IsShelf, Page, current}
use Rattle.page_protocol.specs.State as machine
use Rattle.page_relation.specs.Homes.{Stands, StandsIn, is_unborn, wait_on}
use Rattle.page_relation.specs.Looks.{shelf_in, shelf_of}
use Rattle.page_relation.specs.Relation.{HomesAre, NodesAre, TablesAre, on_shelf}
use Rattle.page_relation.specs.Tables.{IsRebuilt, ReachedBy, ReachedIn, TableIs, TableIn, TableOf, serves_in}
use Rattle.page_relation.specs.Work.Keeping.{IsWorkOf}
use Rattle.page_relation.specs.Work.Landing.{land, Acts}
use Rattle.page_relation.proofs.WorkParts.Landed.{landing_is_seen_law}
use Rattle.page_relation.proofs.WorkParts.Nodes.{at_node}
use Rattle.report_relation.specs.Completing.{IsReady, MayComplete, NewHaveNoRight, ReadyMayComplete}
use Rattle.report_relation.proofs.Reaching.{others_have_reached_law}

-- ---- locks by where a transaction stands

in_lock : (l : Lock) (e r : ℕ) → e ≤ r → InEra l e r
in_lock Free e r le = tt
in_lock (Registered m) e r le = le
in_lock UnderRight e r le = le

closed_in : (h : Home) (e r : ℕ) → IsClosed h → InEra (lock_of h) e r
closed_in machine.Fresh e r is = tt
closed_in (machine.Asking m k) e r is = absurd is
closed_in (machine.Holding m) e r is = absurd is
closed_in machine.HoldingAsks e r is = absurd is
closed_in machine.Reading e r is = absurd is
closed_in machine.ReadingAsks e r is = absurd is
closed_in (machine.Ended k f) e r is = tt
closed_in machine.Gone e r is = tt

fresh_in : (h : Home) (e r : ℕ) → IsFresh h → InEra (lock_of h) e r
fresh_in machine.Fresh e r is = tt
fresh_in (machine.Asking m k) e r is = absurd is
fresh_in (machine.Holding m) e r is = absurd is
fresh_in machine.HoldingAsks e r is = absurd is
fresh_in machine.Reading e r is = absurd is
fresh_in machine.ReadingAsks e r is = absurd is
fresh_in (machine.Ended k f) e r is = absurd is
fresh_in machine.Gone e r is = absurd is

not_open_in : (b u : Bool) (l : Option Held) (w : Option Mode) (h : Home) (e r : ℕ) → b ≡ false → Stands b u l w h → InEra (lock_of h) e r
not_open_in true u l w h e r shut is = absurd (cc)
not_open_in false true l w h e r shut is = fresh_in h e r is
not_open_in false false l w h e r shut is = closed_in h e r is

-- with no open transaction none is open
none_open : (s : OpenTxs) (t : TxId) → length s.txs ≡ 0 → is_open s t ≡ false
unfolding with_serial
none_open s t none = by s.txs none
  where
    by : (xs : List OpenTx) → length xs ≡ 0 → is_open (record s { txs = xs }) t ≡ false
    by [] e = nothing (is_own s t)
      where
        nothing : (b : Bool) → is_some (pick b (let o : Option OpenTx = None in o) None) ≡ false
        nothing true = refl
        nothing false = refl
    by (x ∷ xs) e = absurd (omega (arith, e))

shelf_out : (r : Right) → IsShelf r → on_shelf r ≡ None → ⊥
shelf_out NoRight is none = is
shelf_out (Flying g) is none = is
shelf_out (Shelf v) is none = absurd (cc)
shelf_out (Returning k rs) is none = is
shelf_out Dead is none = is

module _ (c : Cluster) (e : Event) (n p : ℕ) (w : Work) (v : View) (t : LockTable) (a : Page) (acts : Acts c n) (low : partition c.config p < c.config.nodes) (ready : IsReady c n (partition c.config p) w v t) (quiet : NewHaveNoRight c p) (is : IsWorkOf c e n p w a) where
  abbrev q : ℕ
  q = partition c.config p

  abbrev d : Cluster
  d = land c e n w

  abbrev era : ℕ
  era = since_of v q

  pub nodes_are : NodesAre d p q a.era a.right a.reached
  unfolding land
  nodes_are = is.nodes

  pub tables_are : TablesAre d p q a
  unfolding land
  tables_are = is.tables

  homes_are : HomesAre d p (current a) a
  unfolding land
  homes_are = is.homes

  own_is : (s : NodeState) → node_at d n ≡ Some s → w.node ≡ s
  own_is s there = let both : Some w.node ≡ Some s = sym (landing_is_seen_law c e n w acts).node ∙ there in cc

  other_is : (m : ℕ) (s : NodeState) → (m == n) ≡ false → node_at d m ≡ Some s → node_at c m ≡ Some s
  other_is m s other there = sym ((landing_is_seen_law c e n w acts).others m other) ∙ there

  -- the era of a node in a view
  pub era_of : (m : ℕ) (s : NodeState) (u : View) → node_at d m ≡ Some s → s.view ≡ Some u → a.reached m ≡ since_of u q
  era_of m s u there viewed =
      (subst (λ (o : Option View). ReachedBy d q a.era s o (a.reached m)) viewed
      (subst (λ (o : Option NodeState). ReachedIn d q a.era o (a.reached m)) there (nodes_are.eras m))).0

  pub rebuilt : IsRebuilt a.era a.listed a.right a.reached a.home (era_in w.node.view q) t (entry_at t p)
  rebuilt =
      subst (λ (b : Bool). TableIs a p n (era_in w.node.view q) b t) ready.rebuilt
      (subst (λ (o : Option LockTable). TableIn a p n (era_in w.node.view q) o) ready.there (at_node c e n acts w n (λ o. TableOf a p q n o) refl (tables_are.tables n)))

  pub own_era : era_in w.node.view q ≡ era
  own_era = ap (λ (o : Option View). era_in o q) ready.in_view

  -- each node that is up and in a view has reached the era
  pub reached_up : (m : ℕ) (s : NodeState) (u : View) → node_at d m ≡ Some s → s.view ≡ Some u → era ≤ a.reached m
  reached_up m s u there viewed = by (m == n) refl
    where
      reached : a.reached m ≡ since_of u q
      reached = era_of m s u there viewed

      by : (b : Bool) → (m == n) ≡ b → era ≤ a.reached m
      by true same =
          let node : w.node ≡ s = own_is s (subst (λ (k : ℕ). node_at d k ≡ Some s) (eqb-true m n same) there) in
          let views : Some v ≡ Some u = sym ready.in_view ∙ ap (λ (k : NodeState). k.view) node ∙ viewed in
          let view : v ≡ u = cc in
          let sames : since_of v q ≡ since_of u q = ap (λ (k : View). since_of k q) view in
          subst (λ (k : ℕ). era ≤ k) (sym reached) (omega (arith, sames))
      by false other =
          subst (λ (k : ℕ). era ≤ k) (sym reached)
          (others_have_reached_law c n q w.node.epoch v t m s u acts low ready.all (λ at. let same : (m == n) ≡ true = grind (arith, nat_tests, at) in absurd (cc)) (other_is m s other there) viewed
          (λ on. subst (λ (k : ℕ). since_of v q ≤ k) reached (subst (λ (k : ℕ). k ≤ a.reached m) own_era (rebuilt.reaches m on))))

  -- a node in no view is another one, and has nothing
  in_no_view : (m : ℕ) (s : NodeState) → node_at d m ≡ Some s → s.view ≡ None → (m == n) ≡ false
  in_no_view m s there none = by (m == n) refl
    where
      by : (b : Bool) → (m == n) ≡ b → b ≡ false
      by true same =
          let node : w.node ≡ s = own_is s (subst (λ (k : ℕ). node_at d k ≡ Some s) (eqb-true m n same) there) in
          let views : Some v ≡ None = sym ready.in_view ∙ ap (λ (k : NodeState). k.view) node ∙ none in
          absurd (cc)
      by false other = refl

  member_of : (m : ℕ) (s : NodeState) → node_at c m ≡ Some s → IsMember c.config c.views m s
  member_of m s up = (up_is_member_law c m s acts.cluster up).1

  home_in : (u : TxId) → InEra (lock_of (a.home u)) era (a.reached u.node)
  home_in u = by (node_at d u.node) refl (homes_are.stands u)
    where
      viewed : (s : NodeState) → node_at d u.node ≡ Some s → (o : Option View) → s.view ≡ o → StandsIn (last_view d).epoch (Some s) u p (a.home u) → InEra (lock_of (a.home u)) era (a.reached u.node)
      viewed s there (Some k) at stands = in_lock (lock_of (a.home u)) era (a.reached u.node) (reached_up u.node s k there at)
      viewed s there None at stands =
          not_open_in (is_open s.home.txs u) (is_unborn s.view s u) (held_by s.home.txs u p) (wait_on (pending_of s.home.txs u) p) (a.home u) era (a.reached u.node)
          (none_open s.home.txs u ((member_of u.node s (other_is u.node s (in_no_view u.node s there at) there)).sound.idle at)) stands

      by : (o : Option NodeState) → node_at d u.node ≡ o → StandsIn (last_view d).epoch o u p (a.home u) → InEra (lock_of (a.home u)) era (a.reached u.node)
      by None there stands = not_open_in false _ None None (a.home u) era (a.reached u.node) refl stands
      by (Some s) there stands = viewed s there s.view refl stands

  shelf_at : (m : ℕ) → IsShelf (a.right m) → era ≤ a.reached m
  unfolding shelf_of
  shelf_at m shelf = by (node_at d m) refl (nodes_are.shelves m)
    where
      viewed : (s : NodeState) → node_at d m ≡ Some s → (o : Option View) → s.view ≡ o → shelf_in (Some s) p ≡ on_shelf (a.right m) → era ≤ a.reached m
      viewed s there (Some k) at same = reached_up m s k there at
      viewed s there None at same = absurd (shelf_out (a.right m) shelf (sym same ∙ quiet m s (other_is m s (in_no_view m s there at) there) at))

      by : (o : Option NodeState) → node_at d m ≡ o → shelf_in o p ≡ on_shelf (a.right m) → era ≤ a.reached m
      by None there same = absurd (shelf_out (a.right m) shelf (sym same))
      by (Some s) there same = viewed s there s.view refl same

  -- who serves would be of an earlier era
  not_served : a.served ≡ true → ⊥
  not_served on = by (node_at d a.owner) refl (tables_are.serving on) (tables_are.tables a.owner)
    where
      later : a.era < era
      later = subst (λ (k : ℕ). a.era < k) own_era rebuilt.later

      served : (s : NodeState) → node_at d a.owner ≡ Some s → (u : LockTable) → table_at s q ≡ Some u → (b : Bool) → b ≡ true → TableIs a p a.owner (era_in s.view q) b u → (o : Option View) → s.view ≡ o → ⊥
      served s there u at true on table (Some k) viewed =
          let now : era_in s.view q ≡ a.era = table.now in
          let own : era_in s.view q ≡ since_of k q = ap (λ (x : Option View). era_in x q) viewed in
          let reached : a.reached a.owner ≡ since_of k q = era_of a.owner s k there viewed in
          let high : era ≤ a.reached a.owner = reached_up a.owner s k there viewed in
          absurd (omega (arith, now, own, reached, high, later))
      served s there u at true on table None viewed =
          let member : IsMember c.config c.views a.owner s = member_of a.owner s (other_is a.owner s (in_no_view a.owner s there viewed) there) in
          let none : is_some (table_at s q) ≡ false =
          member.sound.owned q (subst (λ (x : Sizes). q < x.nodes) (sym member.config) low) ∙ ap (λ (x : Option View). owned_before x q (number_of s)) viewed in
          let some : is_some (table_at s q) ≡ true = ap (λ (x : Option LockTable). is_some x) at in
          absurd (cc)
      served s there u at false on table o viewed = absurd (cc)

      tabled : (s : NodeState) → node_at d a.owner ≡ Some s → (k : Option LockTable) → table_at s q ≡ k → is_serving k ≡ true → TableIn a p a.owner (era_in s.view q) k → ⊥
      tabled s there None at on table = absurd (cc)
      tabled s there (Some u) at on table = served s there u at u.serving on table s.view refl

      by : (o : Option NodeState) → node_at d a.owner ≡ o → serves_in o q ≡ true → TableOf a p q a.owner o → ⊥
      by None there on table = absurd (cc)
      by (Some s) there on table = tabled s there (table_at s q) refl on table

  pub may_complete : MayComplete a era
  may_complete =
      record {
        nobody = by a.served refl;
        later = subst (λ (k : ℕ). a.era < k) own_era rebuilt.later;
        complete = (home_in, shelf_at);
      }
    where
      by : (b : Bool) → a.served ≡ b → b ≡ false
      by true on = absurd (not_served on)
      by false off = refl

pub ready_may_complete_law : ReadyMayComplete
ready_may_complete_law c e n p w v t a acts low ready quiet is = may_complete c e n p w v t a acts low ready quiet is
