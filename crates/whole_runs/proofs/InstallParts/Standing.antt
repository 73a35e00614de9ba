-- How the node stands in its new view, and what came before.
use Rattle.std.proofs.Common.{◌≡◌, refl, ap, sym, subst, ◌∙◌, ℕ, ◌+◌, ◌<◌, ◌≤◌, ◌==◌, not, Bool, true, false, List, [], Option, Some, None, eqb-true}
use Rattle.std.specs.List.{filter}
use Rattle.pcl_base.specs.Limits.{Sizes}
use Rattle.pcl_base.specs.declared.event.Event.{Event}
use Rattle.pcl_base.specs.declared.message.Message.{Message}
use Rattle.pcl_base.specs.declared.reply.Reason.TheVariants as reason
use Rattle.pcl_base.specs.declared.tx.TxId.{TxId}
use Rattle.run_rules.specs.Views.{View, born_of, follows, is_live, owner_of, since_of}
use Rattle.rule_laws.specs.LaterViews.{IsWhole}
use Rattle.node_rules.specs.LockTable.{LockTable}
use Rattle.node_rules.specs.NodeState.{NodeState, Outgoing, number_of, partition, table_at}
use Rattle.node_rules.specs.Refusals.{may_install, refusal}
use Rattle.node_rules.specs.Words.{pick}
use Rattle.node_rules.specs.Work.{Work}
use Rattle.node_laws.proofs.Events.{not_refused}
use Rattle.node_laws.proofs.Lists.{all_weaker}
use Rattle.cluster_rules.specs.Clusters.{Cluster, last_view, node_at, view_of_epoch}
use Rattle.cluster_rules.specs.Links.{link_at}
use Rattle.cluster_laws.specs.Sound.{IsCluster, IsMember}
use Rattle.cluster_laws.proofs.EraParts.Epochs.{low_of, whole_at}
use Rattle.cluster_laws.proofs.EraParts.Lives.{live_known, stands}
use Rattle.cluster_laws.proofs.EraParts.Nexts.{follows_born}
use Rattle.cluster_laws.specs.Link.Coming.{is_coming, sent_to}
use Rattle.page_laws.specs.Moment.Looks.{accesses_in}
use Rattle.page_relation.specs.Together.{IsParty}
use Rattle.settle_relation.specs.Midway.{IsMidway}
use Rattle.page_relation.specs.Work.Landing.{Acts, land, trace_of}
use Rattle.page_relation.specs.Work.Unseen.{SameEntry, SameTable, speaks}
use Rattle.page_relation.proofs.WorkParts.Started.{event_told}
use Rattle.report_relation.specs.Bury.Past.{IsOwner}
use Rattle.install_relation.specs.Installing.{numbers_at}
use Rattle.install_relation.proofs.Begun as begun
use Rattle.whole_runs.specs.Install.Turns.{IsTurn}
use Rattle.whole_runs.proofs.InstallParts.Coming.{all_coming}
use Rattle.whole_runs.proofs.InstallParts.Early.{partition_inside}
use Rattle.whole_runs.proofs.InstallParts.Entering.{enters_as}
use Rattle.whole_runs.proofs.InstallParts.Used.{unseen_since}

-- the table that the node had, of which the same is seen
pub record HadTable (s : NodeState) (p q : ℕ) (t : LockTable) : Type 0 where
  pub table : LockTable
  pub there : table_at s q ≡ Some table
  pub same : SameEntry p table t

module _ (blank : List ℕ) (c : Cluster) (e : Event) (n p : ℕ) (s : NodeState) (v : View) (w : Work) (i : IsTurn blank c e n p s v w) where
  abbrev q : ℕ
  q = partition c.config p

  pub cluster : IsCluster c
  cluster = i.install.cluster

  pub acts : Acts c n
  acts = begun.acts c e n s v i.install

  pub member : IsMember c.config c.views n s
  member = begun.member c e n s v i.install

  pub inside : q < c.config.nodes
  inside = partition_inside c p cluster

  pub inside_node : q < s.home.config.nodes
  inside_node = subst (λ (k : Sizes). q < k.nodes) (sym member.config) inside

  pub epoch : v.epoch ≡ s.epoch + 1
  epoch = begun.epoch c e n s v i.install

  pub there : view_of_epoch c.views v.epoch ≡ Some v
  there = subst (λ (k : ℕ). view_of_epoch c.views k ≡ Some v) (sym epoch) (begun.next c e n s v i.install)

  pub made : v.epoch ≤ (last_view c).epoch
  made = (low_of c v.epoch v cluster there).1

  pub whole : IsWhole c.config v
  whole = whole_at c v.epoch v cluster there

  pub listed : is_live v.live n ≡ true
  listed = subst (λ (k : ℕ). is_live v.live k ≡ true) member.number (begun.can c e n s v i.install).1

  -- ---- what the node had

  pub had_table : (t : LockTable) → table_at w.node q ≡ Some t → HadTable s p q t
  had_table t at =
      by (table_at s q) refl
      (subst (λ (o : Option LockTable). SameTable p (table_at s q) o) at
      (subst (λ (ts : List (Option LockTable)). SameTable p (table_at (record s { tables = ts }) q) (table_at w.node q)) (enters_as c s v).tables i.waits.unseen.table))
    where
      by : (o : Option LockTable) → table_at s q ≡ o → SameTable p o (Some t) → HadTable s p q t
      by None none same = absurd same
      by (Some u) had same = record { table = u; there = had; same = same }

  pub unsent : (b : ℕ) → filter (speaks c.config p) (sent_to b w.sends) ≡ []
  unfolding sent_to
  unsent b = i.waits.unseen.sends b ∙ ap (λ (os : List Outgoing). filter (speaks c.config p) (sent_to b os)) (enters_as c s v).sends

  pub told : (t : TxId) → accesses_in t p (trace_of c e n w) ≡ accesses_in t p c.trace
  told t = (unseen_since blank c e n p s v w i).told.accesses t ∙ (event_told c.config p c.trace e).accesses t

  -- ---- where it goes on from an earlier view

  module _ (old : View) (view : s.view ≡ Some old) where
    pub old_there : view_of_epoch c.views old.epoch ≡ Some old
    old_there = let at = stands c n s old member view in subst (λ (k : ℕ). view_of_epoch c.views k ≡ Some old) (sym at.epoch) at.there

    pub old_epoch : old.epoch ≡ s.epoch
    old_epoch = (stands c n s old member view).epoch

    pub old_whole : IsWhole c.config old
    old_whole = whole_at c old.epoch old cluster old_there

    may : follows s.home.config old v ≡ true
    unfolding refusal
    may = subst (λ (o : Option View). may_install s o v ≡ true) view (by (may_install s s.view v) refl)
      where
        by : (b : Bool) → may_install s s.view v ≡ b → may_install s s.view v ≡ true
        by true is = is
        by false is = (let bad : true ≡ false = sym (ap not is) ∙ (not_refused (not (may_install s s.view v)) reason.NoView None i.install.free).0 in absurd (cc))

    -- nodes of both views go on with their lives
    pub goes_on : (m : ℕ) → is_live old.live m ≡ true → is_live v.live m ≡ true → born_of v m ≡ born_of old m
    goes_on m was is =
        follows_born c.config old v m old_whole (subst (λ (k : Sizes). follows k old v ≡ true) member.config may) (live_inside m was) was
      where
        live_inside : (m : ℕ) → is_live old.live m ≡ true → m < c.config.nodes
        live_inside m was = live_known c.config old m old_whole was

    pub since_stays : (since_of v q == v.epoch) ≡ false → since_of v q ≡ since_of old q
    since_stays = (begun.installs c e n s v i.install).stays old q inside_node view

  -- its birth
  pub born_now : pick (born_of v (number_of s) == v.epoch) v.epoch s.home.txs.born ≡ born_of v n
  born_now = by (born_of v (number_of s) == v.epoch) refl s.view refl
    where
      by : (b : Bool) → (born_of v (number_of s) == v.epoch) ≡ b → (o : Option View) → s.view ≡ o → pick b v.epoch s.home.txs.born ≡ born_of v n
      by true new o view =
          let same : born_of v (number_of s) ≡ v.epoch = eqb-true (born_of v (number_of s)) v.epoch new in sym same ∙ ap (born_of v) member.number
      by false older None view =
          let bad : false ≡ true = sym older ∙ (begun.installs c e n s v i.install).begins view in
          absurd (cc)
      by false older (Some old) view = let at = stands c n s old member view in sym (goes_on old view n at.live listed ∙ at.born)

  -- ---- a work of the step

  module _ (x : Work) (k : ℕ) (m : IsMidway (numbers_at s v k) c e n x) (none : (b : ℕ) → filter (speaks c.config p) (sent_to b x.sends) ≡ []) where
    pub born_then : x.node.home.txs.born ≡ born_of v n
    born_then = m.good.home.born ∙ born_now

    pub owner_then : (owner_of v q == n) ≡ true → IsOwner c e n p v x
    owner_then owns =
        record {
          there = there;
          made = made;
          number = m.good.home.number ∙ m.number;
          view = m.good.view;
          listed = listed;
          born = born_then;
          owner = eqb-true (owner_of v q) n owns;
          parties = λ from to.
              all_coming c e n p acts x none (IsParty c from to) from to
              (all_weaker (IsParty c from to) (λ (y : Message). is_coming c.config p from (node_at (land c e n x) to) y ≡ true → IsParty c from to y) (λ y is test. is) (link_at c.links from to)
              (i.run.related.parties from to));
        }
