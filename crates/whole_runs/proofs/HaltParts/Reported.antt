-- What a step on a report writes of a page.
use Rattle.std.proofs.Common.{◌≡◌, ◌≢◌, refl, sym, ap, subst, ◌∙◌, ℕ, ◌<◌, ◌==◌, ◌&&◌, ◌||◌, nat_lt, Bool, true, false, List, Option, Some, None, is_some, length, arith, eqb-true, mod-lt}
use Rattle.std.proofs.lemmas.Bool.Decides.{nat_tests}
use Rattle.pcl_base.specs.Limits.{Sizes}
use Rattle.pcl_base.specs.declared.event.Event.{Event}
use Rattle.pcl_base.specs.declared.lock.Verdict.{Verdict}
use Rattle.pcl_base.specs.declared.lock.Verdict.TheVariants as verdict
use Rattle.pcl_base.specs.declared.message.Body.{Body}
use Rattle.pcl_base.specs.declared.message.Body.TheVariants as body
use Rattle.pcl_base.specs.declared.message.Message.{Message}
use Rattle.pcl_base.specs.declared.message.Report.{Report}
use Rattle.text_rules.specs.MessageBytes.{IsBody}
use Rattle.run_rules.specs.Views.{View, owner_of, since_of}
use Rattle.node_rules.specs.InstallRule.{owned_before, is_complete, complete, take_report, on_report_in, on_report}
use Rattle.node_rules.specs.LockTable.{LockTable, entry_at, marked}
use Rattle.node_rules.specs.NodeState.{NodeState, Deliver, number_of, partition, table_at, put_table}
use Rattle.node_rules.specs.NodeStep.{begin_work, partition_of, judge_in, work_off, by_verdict, take_message, do_event}
use Rattle.node_rules.specs.Reports.{gather, missing}
use Rattle.node_rules.specs.Work.{Work, with_node}
use Rattle.step_laws.proofs.Outcomes.{On}
use Rattle.cluster_rules.specs.Clusters.{Cluster}
use Rattle.cluster_laws.specs.Handed.{IsHanded}
use Rattle.cluster_laws.specs.Sound.{IsCluster, IsMember}
use Rattle.cluster_laws.proofs.Steps.{events_can_come_law, up_is_member_law}
use Rattle.cluster_laws.specs.Era.Eras.{era_in, era_at}
use Rattle.cluster_laws.proofs.EraParts.Lives.{stands}
use Rattle.page_laws.proofs.EntryParts.Gathered.{gathering_is_seen_law}
use Rattle.cluster_laws.specs.Link.Coming.{speaks_of}
use Rattle.page_protocol.specs.State.{Page}
use Rattle.page_protocol.specs.Steps.{Reached}
use Rattle.page_relation.specs.Messages.{ReportIs, SaysSo}
use Rattle.page_relation.specs.Relation.{IsPageOf}
use Rattle.page_relation.specs.Tables.{IsRebuilt, TableIs, TableIn, TableOf}
use Rattle.page_relation.specs.Work.Landing.{Acts}
use Rattle.page_relation.specs.Work.Taken.{taken_of, TakenSays}
use Rattle.page_relation.proofs.WorkParts.Started.{acting}
use Rattle.page_relation.proofs.WorkParts.Taking.{taken_is_said_law}
use Rattle.settle_relation.proofs.Deciding.{put_there}
use Rattle.page_relation.specs.Loss.Writes.{elsewhere}
use Rattle.report_relation.specs.Completing.{HasAll}
use Rattle.whole_runs.proofs.HaltParts.Completed.{complete_may}
use Rattle.whole_runs.proofs.HaltParts.Serving.{misses_none, serves_alone}
use Rattle.whole_runs.proofs.HaltParts.Walked.{May}

module _ (blank : List ℕ) (c : Cluster) (e : Event) (n p : ℕ) (s : NodeState) (from : ℕ) (m : Message) (x : Report) (a : Page) (i : IsCluster c) (h : IsHanded c e n s (Deliver from m)) (reached : Reached blank a)
    (is : IsPageOf c p a) (body_is : m.body ≡ body.Report x) where
  member : IsMember c.config c.views n s
  member = (up_is_member_law c n s i h.up).1

  acts : Acts c n
  acts = acting c e n s (Deliver from m) i h

  named : IsBody s.home.config (body.Report x)
  named = subst (IsBody s.home.config) body_is (events_can_come_law c e n s (Deliver from m) i h).1.body

  abbrev q : ℕ
  q = partition c.config p

  q_low : q < c.config.nodes
  q_low = mod-lt p (let some = i.limits.some_nodes in omega (arith, some))

  module _ (said : TakenSays c e n p a s from m) (t : LockTable) (there : table_at s x.partition ≡ Some t) (rebuilt : t.serving ≡ false) where
    abbrev u : LockTable
    u = gather t from x

    abbrev w : Work
    w = with_node (taken_of c s) (put_table s x.partition (Some u))

    own_of : (x.partition ≡ q) → missing u said.view x.partition ≡ false → a.served ≡ true → a.owner ≡ n
    own_of at none = serves_alone c n p s.epoch said.view u a acts q_low is all later marks
      where
        at_q : table_at s q ≡ Some t
        at_q = ap (table_at s) (sym at) ∙ there

        owned : (owner_of said.view q == number_of s) ≡ true
        owned =
            ap (λ (o : Option View). owned_before o q (number_of s)) (sym said.in_view)
            ∙ sym (member.sound.owned q (subst (λ (k : Sizes). q < k.nodes) (sym member.config) q_low))
            ∙ ap (λ (o : Option LockTable). is_some o) at_q

        all : HasAll c n q s.epoch said.view u
        all =
            record {
              there = (stands c n s said.view member said.in_view).there;
              low = member.sound.epoch.0;
              made = member.reached;
              owner = sym (eqb-true (owner_of said.view q) (number_of s) owned ∙ member.number);
              none_missing = ap (missing u said.view) (sym at) ∙ none;
            }

        table : IsRebuilt a.era a.listed a.right a.reached a.home (era_in s.view q) t (entry_at t p)
        table =
            subst (λ (b : Bool). TableIs a p n (era_in s.view q) b t) rebuilt
            (subst (TableIn a p n (era_in s.view q)) at_q (subst (TableOf a p q n) h.up (is.tables.tables n)))

        later : a.era < since_of said.view q
        later = subst (λ (o : Option View). a.era < era_in o q) said.in_view table.later

        speaks : speaks_of c.config p m.body ≡ true
        speaks = ap (speaks_of c.config p) body_is ∙ (let same : (x.partition == q) ≡ true = grind (arith, nat_tests, at) in same)

        says : ReportIs a.era a.reached a.listed a.right a.home p from (era_at c q m.epoch) x
        says = subst (SaysSo a.era a.hist a.reached a.listed a.right a.home a.sent p from n (era_at c q m.epoch)) body_is (said.head speaks).says

        marks : a.owner ≢ n → marked u a.owner ≡ true → a.era < a.reached a.owner
        marks other on = by (marked t a.owner) (from == a.owner) refl refl (sym ((gathering_is_seen_law t from x).marks a.owner) ∙ on)
          where
            by : (y z : Bool) → marked t a.owner ≡ y → (from == a.owner) ≡ z → (y || (z && nat_lt from (length t.reported))) ≡ true → a.era < a.reached a.owner
            by true z is_marked e or = let high = table.reaches a.owner is_marked in let less = table.later in omega (arith, high, less)
            by false true is_marked e or =
                let same : from ≡ a.owner = eqb-true from a.owner e in
                let high = says.reaches in
                let less = says.later in
                subst (λ (k : ℕ). a.era < a.reached k) same (omega (arith, high, less))
            by false false is_marked e or = absurd (cc)

    missed : is_complete s.view x.partition (table_at (put_table s x.partition (Some u)) x.partition) ≡ true → missing u said.view x.partition ≡ false
    missed on = misses_none s.view (table_at (put_table s x.partition (Some u)) x.partition) said.view u x.partition said.in_view (put_there s.tables x.partition t (Some u) there) on

    gathered_may : On (May a p n) (complete c.disk x.partition w)
    gathered_may =
        complete_may blank c n p a i reached is x.partition w member.config (subst (λ (k : Sizes). x.partition < k.nodes) member.config named.0) (record { page = refl; none = tt })
        (λ on at. own_of at (missed on))

  report_may : (said : TakenSays c e n p a s from m) → On (May a p n) (on_report c.disk from x (taken_of c s))
  unfolding on_report
  report_may said = by (table_at s x.partition) refl
    where
      taken : (t : LockTable) → table_at s x.partition ≡ Some t → (b : Bool) → t.serving ≡ b → On (May a p n) (take_report b c.disk from x t (taken_of c s))
      taken t there true on = elsewhere tt
      taken t there false off = gathered_may said t there off

      by : (o : Option LockTable) → table_at s x.partition ≡ o → On (May a p n) (on_report_in c.disk from x o (taken_of c s))
      by None there = elsewhere tt
      by (Some t) there = taken t there t.serving refl

  pub event_may : On (May a p n) (do_event c.disk (Deliver from m) (begin_work s c.disk))
  unfolding do_event take_message
  event_may = by (judge_in s.view (number_of s) from m.epoch (partition_of s.home.config m.body)) refl
    where
      by : (o : Verdict) → judge_in s.view (number_of s) from m.epoch (partition_of s.home.config m.body) ≡ o → On (May a p n) (by_verdict o c.disk from m.body (begin_work s c.disk))
      by verdict.Taken judged = subst (λ (b : Body). On (May a p n) (work_off c.disk from b (taken_of c s))) (sym body_is) (report_may (taken_is_said_law c e n p s from m a i h judged is))
      by verdict.Held judged = elsewhere tt
      by verdict.Dropped judged = elsewhere tt
