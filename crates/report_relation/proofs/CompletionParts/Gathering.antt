-- The work with a report put into a table that is being rebuilt.
use Rattle.std.proofs.Common.{◌≡◌, refl, ap, sym, subst, ◌∙◌, ℕ, ◌<◌, ◌==◌, Bool, true, false, List, Some, arith, eqb-true}
use Rattle.std.proofs.lemmas.Bool.Decides.{nat_tests}
use Rattle.pcl_base.specs.declared.event.Event.{Event}
use Rattle.pcl_base.specs.declared.message.Body.TheVariants as body
use Rattle.pcl_base.specs.declared.message.Message.{Message}
use Rattle.pcl_base.specs.declared.message.Report.{Report}
use Rattle.pcl_base.specs.declared.message.ReportLock.{ReportLock}
use Rattle.text_rules.specs.MessageBytes.{IsBody}
use Rattle.node_rules.specs.LockTable.{LockTable}
use Rattle.node_rules.specs.NodeState.{NodeState, Deliver, number_of, partition, table_at}
use Rattle.node_rules.specs.Reports.{gather}
use Rattle.node_laws.specs.Nodes.{IsOther, IsTable}
use Rattle.node_laws.proofs.Bases.{base_of}
use Rattle.node_laws.proofs.Lists.{all_weaker}
use Rattle.node_laws.proofs.Tables.{gather_is}
use Rattle.node_laws.proofs.Works.{good_table, has_table}
use Rattle.cluster_rules.specs.Clusters.{Cluster}
use Rattle.cluster_laws.proofs.Steps.{events_can_come_law}
use Rattle.cluster_laws.specs.Era.Eras.{era_at, era_in}
use Rattle.cluster_laws.specs.Link.Coming.{speaks_of}
use Rattle.page_protocol.specs.State.{Page}
use Rattle.page_relation.specs.Messages.{ReportIs, SaysSo}
use Rattle.page_relation.specs.Together.{IsOf, IsParty, PartiesAre}
use Rattle.page_relation.specs.Work.Keeping.{IsWorkOf}
use Rattle.page_relation.specs.Work.Taken.{taken_of}
use Rattle.page_relation.proofs.WorkParts.Framing.{unseen_is_kept_law}
use Rattle.page_relation.proofs.WorkParts.Quiet.{tables_elsewhere_law}
use Rattle.settle_relation.specs.Arriving.{IsTakenIn}
use Rattle.settle_relation.proofs.Midway.{IsMidway, midway_on, still_same}
use Rattle.settle_relation.proofs.Requesting.{acts, can, midway, own_era_is, said}
use Rattle.report_relation.specs.Gathering.{LocksAreOf, NoneIsAhead, gathered}
use Rattle.report_relation.proofs.Tabled.{gathering_is_related_law}

module _ (c : Cluster) (e : Event) (n p from : ℕ) (s : NodeState) (m : Message) (blank : List ℕ) (a : Page) (i : IsTakenIn c e n p from s m blank a) (r : Report) (is : m.body ≡ body.Report r) (t : LockTable) (there : table_at s r.partition ≡ Some t) where
  named : IsBody s.home.config (body.Report r)
  named = subst (IsBody s.home.config) is (can c e n p from s m blank a i)

  sender : IsOther s.home.config (number_of s) from
  sender = (events_can_come_law c e n s (Deliver from m) i.cluster i.handed).0

  has : ((base_of s).has r.partition ≡ true) × IsTable s.home.config (number_of s) r.partition t
  has = has_table (base_of s) (midway c e n p from s m blank a i).base r.partition t (taken_of c s) named.0 there (midway c e n p from s m blank a i).good

  -- what is known of it
  pub gathered_midway : IsMidway (base_of s) c e n (gathered r.partition t from r (taken_of c s))
  gathered_midway =
      midway_on (base_of s) c e n (taken_of c s) (gathered r.partition t from r (taken_of c s)) (midway c e n p from s m blank a i)
      (good_table (base_of s) (midway c e n p from s m blank a i).base r.partition (gather t from r) (taken_of c s) has.0
      (gather_is s.home.config (number_of s) r.partition t from r sender named.2 named.4 named.6 has.1) (midway c e n p from s m blank a i).good)
      (midway c e n p from s m blank a i).called (still_same (taken_of c s).node.home.txs) (λ u. refl)

  module _ (party : IsParty c from n m) (rebuilt : t.serving ≡ false) (behind : r.partition ≡ partition c.config p → NoneIsAhead a.listed (era_in s.view r.partition) p t) where
    locks_of : LocksAreOf from r
    locks_of = all_weaker (λ (x : ReportLock). IsOf party.view from x.tx) (λ (x : ReportLock). x.tx.node ≡ from) (λ x of. of.node) r.locks parties.2
      where
        parties : PartiesAre c party.view from n m.epoch (body.Report r)
        parties = subst (PartiesAre c party.view from n m.epoch) is party.parties

    says : r.partition ≡ partition c.config p → ReportIs a.era a.reached a.listed a.right a.home p from (era_in s.view (partition c.config p)) r
    says at =
        subst (λ (k : ℕ). ReportIs a.era a.reached a.listed a.right a.home p from k r) (sym (own_era_is c e n p from s m blank a i speaks))
        (subst (SaysSo a.era a.hist a.reached a.listed a.right a.home a.sent p from n (era_at c (partition c.config p) m.epoch)) is ((said c e n p from s m blank a i).head speaks).says)
      where
        speaks : speaks_of c.config p m.body ≡ true
        speaks = ap (speaks_of c.config p) is ∙ (let same : (r.partition == partition c.config p) ≡ true = grind (arith, nat_tests, at) in same)

    -- it has the same state of the machine
    pub gathered_related : IsWorkOf c e n p (gathered r.partition t from r (taken_of c s)) a
    gathered_related = by (r.partition == partition c.config p) refl
      where
        by : (b : Bool) → (r.partition == partition c.config p) ≡ b → IsWorkOf c e n p (gathered r.partition t from r (taken_of c s)) a
        by true same =
            let at : r.partition ≡ partition c.config p = eqb-true r.partition (partition c.config p) same in
            subst (λ (k : ℕ). IsWorkOf c e n p (gathered k t from r (taken_of c s)) a) (sym at)
            (gathering_is_related_law c e n p from t r (taken_of c s) a (acts c e n p from s m blank a i)
            (record {
              there = subst (λ (k : ℕ). table_at s k ≡ Some t) at there;
              rebuilt = rebuilt;
              known = subst (λ (k : ℕ). from < k) (sym has.1.reported) sender.0;
              locks = locks_of;
              behind = subst (λ (k : ℕ). NoneIsAhead a.listed (era_in s.view k) p t) at (behind at);
              says = says at;
            })
            (said c e n p from s m blank a i).related)
        by false other =
            unseen_is_kept_law c e n p (taken_of c s) (gathered r.partition t from r (taken_of c s)) a (acts c e n p from s m blank a i)
            (tables_elsewhere_law c e n p r.partition (Some (gather t from r)) (taken_of c s)
            (λ at. let same : (r.partition == partition c.config p) ≡ true = grind (arith, nat_tests, at) in absurd (cc)))
            (said c e n p from s m blank a i).related
