-- A report that comes to the owner of a table that is being rebuilt.
use Rattle.std.proofs.Common.{◌≡◌, refl, ap, sym, subst, ◌∙◌, ℕ, ◌<◌, ◌==◌, not, ◌&&◌, Bool, true, false, List, Option, Some, None, arith, eqb-true}
use Rattle.std.proofs.lemmas.Bool.Decides.{nat_tests}
use Rattle.pcl_base.specs.declared.event.Event.{Event}
use Rattle.pcl_base.specs.declared.message.Body.TheVariants as body
use Rattle.pcl_base.specs.declared.message.Message.{Message}
use Rattle.pcl_base.specs.declared.message.Report.{Report}
use Rattle.pcl_base.specs.declared.message.ReportLock.{ReportLock}
use Rattle.text_rules.specs.MessageBytes.{IsBody}
use Rattle.run_rules.specs.Views.{View}
use Rattle.node_rules.specs.InstallRule.{complete, complete_if, is_complete, on_report, on_report_in, take_report}
use Rattle.node_rules.specs.LockTable.{LockTable}
use Rattle.node_rules.specs.NodeState.{NodeState, Deliver, number_of, partition, table_at}
use Rattle.node_rules.specs.Reports.{gather, missing}
use Rattle.node_rules.specs.Work.{Goes, Work}
use Rattle.node_laws.specs.Nodes.{IsOther, IsTable}
use Rattle.node_laws.proofs.Bases.{base_of}
use Rattle.node_laws.proofs.Lists.{all_weaker}
use Rattle.node_laws.proofs.Tables.{gather_is}
use Rattle.node_laws.proofs.Works.{good_table, has_table}
use Rattle.cluster_rules.specs.Clusters.{Cluster}
use Rattle.cluster_laws.proofs.Steps.{events_can_come_law, up_is_member_law}
use Rattle.cluster_laws.specs.Sound.{IsMember}
use Rattle.cluster_laws.specs.Era.Eras.{era_at, era_in}
use Rattle.cluster_laws.specs.Link.Coming.{speaks_of}
use Rattle.page_protocol.specs.State.{Page}
use Rattle.page_protocol.specs.Steps.{here}
use Rattle.page_relation.specs.Messages.{ReportIs, SaysSo}
use Rattle.page_relation.specs.Together.{IsParty, PartiesAre, IsOf}
use Rattle.page_relation.specs.Work.Keeping.{IsWorkOf, Keeps, Leads}
use Rattle.page_relation.proofs.WorkParts.Framing.{unseen_is_kept_law}
use Rattle.page_relation.proofs.WorkParts.Quiet.{tables_elsewhere_law}
use Rattle.settle_relation.specs.Arriving.{IsTakenIn}
use Rattle.settle_relation.proofs.Deciding.{put_there}
use Rattle.settle_relation.proofs.Midway.{IsMidway, midway_on, still_same}
use Rattle.settle_relation.proofs.Requesting.{acts, can, ended, goes_on, midway, own_era_is, said, w}
use Rattle.settle_relation.proofs.Turns.{IsBetween}
use Rattle.report_relation.specs.Gathering.{LocksAreOf, NoneIsAhead, ReportIsGathered, StillMisses, gathered}
use Rattle.report_relation.proofs.Tabled.{gathering_is_related_law}

module _ (c : Cluster) (e : Event) (n p from : ℕ) (s : NodeState) (m : Message) (blank : List ℕ) (a : Page) (i : IsTakenIn c e n p from s m blank a) (party : IsParty c from n m) (r : Report) (is : m.body ≡ body.Report r) where
  abbrev v : Work
  v = w c e n p from s m blank a i

  named : IsBody s.home.config (body.Report r)
  named = subst (IsBody s.home.config) is (can c e n p from s m blank a i)

  member : IsMember c.config c.views n s
  member = (up_is_member_law c n s i.cluster i.handed.up).1

  sender : IsOther s.home.config (number_of s) from
  sender = (events_can_come_law c e n s (Deliver from m) i.cluster i.handed).0

  locks_of : LocksAreOf from r
  locks_of = all_weaker (λ (x : ReportLock). IsOf party.view from x.tx) (λ (x : ReportLock). x.tx.node ≡ from) (λ x of. of.node) r.locks parties.2
    where
      parties : PartiesAre c party.view from n m.epoch (body.Report r)
      parties = subst (PartiesAre c party.view from n m.epoch) is party.parties

  says : r.partition ≡ partition c.config p → ReportIs a.era a.reached a.listed a.right a.home p from (era_in s.view (partition c.config p)) r
  says at =
      subst (λ (k : ℕ). ReportIs a.era a.reached a.listed a.right a.home p from k r) (sym (own_era_is c e n p from s m blank a i speaks))
      (subst (SaysSo a.era a.hist a.reached a.listed a.right a.home a.sent p from n (era_at c (partition c.config p) m.epoch)) is ((said c e n p from s m blank a i).head speaks).says)
    where
      speaks : speaks_of c.config p m.body ≡ true
      speaks = ap (speaks_of c.config p) is ∙ (let same : (r.partition == partition c.config p) ≡ true = grind (arith, nat_tests, at) in same)

  module _ (t : LockTable) (there : table_at s r.partition ≡ Some t) (rebuilt : t.serving ≡ false) (behind : r.partition ≡ partition c.config p → NoneIsAhead a.listed (era_in s.view r.partition) p t) where
    abbrev z : Work
    z = gathered r.partition t from r v

    has : ((base_of s).has r.partition ≡ true) × IsTable s.home.config (number_of s) r.partition t
    has = has_table (base_of s) (midway c e n p from s m blank a i).base r.partition t v named.0 there (midway c e n p from s m blank a i).good

    gathered_midway : IsMidway (base_of s) c e n z
    gathered_midway =
        midway_on (base_of s) c e n v z (midway c e n p from s m blank a i)
        (good_table (base_of s) (midway c e n p from s m blank a i).base r.partition (gather t from r) v has.0
        (gather_is s.home.config (number_of s) r.partition t from r sender named.2 named.4 named.6 has.1) (midway c e n p from s m blank a i).good)
        (midway c e n p from s m blank a i).called (still_same v.node.home.txs) (λ u. refl)

    gathered_related : IsWorkOf c e n p z a
    gathered_related = by (r.partition == partition c.config p) refl
      where
        by : (b : Bool) → (r.partition == partition c.config p) ≡ b → IsWorkOf c e n p z a
        by true same =
            let at : r.partition ≡ partition c.config p = eqb-true r.partition (partition c.config p) same in
            subst (λ (k : ℕ). IsWorkOf c e n p (gathered k t from r v) a) (sym at)
            (gathering_is_related_law c e n p from t r v a (acts c e n p from s m blank a i)
            (record {
              there = subst (λ (k : ℕ). table_at s k ≡ Some t) at there;
              rebuilt = rebuilt;
              known = subst (λ (k : ℕ). from < k) (sym has.1.reported) sender.0;
              locks = locks_of;
              behind = subst (λ (k : ℕ). NoneIsAhead a.listed (era_in s.view k) p t) at (behind at);
              says = says at;
            })
            (said c e n p from s m blank a i).related)
        by false other =
            unseen_is_kept_law c e n p v z a (acts c e n p from s m blank a i)
            (tables_elsewhere_law c e n p r.partition (Some (gather t from r)) v
            (λ at. let same : (r.partition == partition c.config p) ≡ true = grind (arith, nat_tests, at) in absurd (cc)))
            (said c e n p from s m blank a i).related

  -- A report that is taken leads on where the table with it does.
  pub report_by : (x : Work)
      → ((t : LockTable) → table_at s r.partition ≡ Some t → t.serving ≡ false → r.partition ≡ partition c.config p → NoneIsAhead a.listed (era_in s.view r.partition) p t)
      → ((t : LockTable) → table_at s r.partition ≡ Some t → t.serving ≡ false → IsWorkOf c e n p (gathered r.partition t from r v) a → IsMidway (base_of s) c e n (gathered r.partition t from r v)
      → complete c.disk r.partition (gathered r.partition t from r v) ≡ Goes x → Leads c e n p (IsBetween (base_of s) c e n) a x)
      → on_report c.disk from r v ≡ Goes x → Leads c e n p (IsBetween (base_of s) c e n) a x
  unfolding on_report
  report_by x behind leads goes = by (table_at s r.partition) refl goes
    where
      stays : (y : Work) → v ≡ y → Leads c e n p (IsBetween (base_of s) c e n) a y
      stays y same =
          subst (λ (k : Work). Leads c e n p (IsBetween (base_of s) c e n) a k) same
          (record { page = a; run = here; related = (said c e n p from s m blank a i).related; known = (midway c e n p from s m blank a i, i.entered) })

      taken : (t : LockTable) → table_at s r.partition ≡ Some t → (b : Bool) → t.serving ≡ b → take_report b c.disk from r t v ≡ Goes x → Leads c e n p (IsBetween (base_of s) c e n) a x
      taken t there true on done = let same : v ≡ x = cc in stays x same
      taken t there false off done = leads t there off (gathered_related t there off (behind t there off)) (gathered_midway t there off (behind t there off)) done

      by : (o : Option LockTable) → table_at s r.partition ≡ o → on_report_in c.disk from r o v ≡ Goes x → Leads c e n p (IsBetween (base_of s) c e n) a x
      by None there done = let same : v ≡ x = cc in stays x same
      by (Some t) there done = taken t there t.serving refl done

  -- So it does where completing keeps the relation.
  pub report_leads : Keeps c e n p (IsBetween (base_of s) c e n) (complete c.disk r.partition) (IsBetween (base_of s) c e n)
      → ((t : LockTable) → table_at s r.partition ≡ Some t → t.serving ≡ false → r.partition ≡ partition c.config p → NoneIsAhead a.listed (era_in s.view r.partition) p t)
      → (x : Work) → on_report c.disk from r v ≡ Goes x → Leads c e n p (IsBetween (base_of s) c e n) a x
  report_leads completes behind x goes =
      report_by x behind (λ t there off related midway done. completes blank (gathered r.partition t from r v) x a i.reached related (midway, i.entered) done) goes

  -- And where a further one is missing nothing more is done.
  waits_on : (x : Work) (t : LockTable) → table_at s r.partition ≡ Some t → ((view : View) → s.view ≡ Some view → missing (gather t from r) view r.partition ≡ true)
      → complete c.disk r.partition (gathered r.partition t from r v) ≡ Goes x → gathered r.partition t from r v ≡ x
  unfolding complete
  waits_on x t there lacks done =
      let same : Goes (gathered r.partition t from r v) ≡ Goes x = sym (ap (λ (b : Bool). complete_if b c.disk r.partition (gathered r.partition t from r v)) incomplete) ∙ done in
      cc
    where
      view : View
      view = (said c e n p from s m blank a i).view

      in_view : s.view ≡ Some view
      in_view = (said c e n p from s m blank a i).in_view

      nothing : (b : Bool) → b && false ≡ false
      nothing true = refl
      nothing false = refl

      incomplete : is_complete s.view r.partition (table_at (gathered r.partition t from r v).node r.partition) ≡ false
      incomplete =
          ap (λ (o : Option LockTable). is_complete s.view r.partition o) (put_there s.tables r.partition t (Some (gather t from r)) there)
          ∙ ap (λ (o : Option View). is_complete o r.partition (Some (gather t from r))) in_view
          ∙ ap (λ (b : Bool). not (gather t from r).serving && not b) (lacks view in_view)
          ∙ nothing (not (gather t from r).serving)

  pub gathered_leads : ((t : LockTable) → table_at s r.partition ≡ Some t → t.serving ≡ false → StillMisses c p from s r a t) → (x : Work) → on_report c.disk from r v ≡ Goes x
      → Leads c e n p (IsBetween (base_of s) c e n) a x
  gathered_leads misses x goes =
      report_by x (λ t there off. (misses t there off).behind)
      (λ t there off related midway done.
      subst (λ (k : Work). Leads c e n p (IsBetween (base_of s) c e n) a k) (waits_on x t there (misses t there off).missing_one done)
      (record { page = a; run = here; related = related; known = (midway, i.entered) })) goes

pub report_is_gathered_law : ReportIsGathered
report_is_gathered_law c e n p from s m r x blank a i whole party is misses =
    ended c e n p from s m blank a i x whole
    (gathered_leads c e n p from s m blank a i party r is misses x (goes_on c e n p from s m blank a i (body.Report r) (Goes x) is whole.goes))
