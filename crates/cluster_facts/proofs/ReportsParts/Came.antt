-- Where a table that is being rebuilt after a step has its flags from.
use Rattle.std.proofs.Common.{◌≡◌, refl, sym, ap, subst, ◌∙◌, ℕ, ◌<◌, ◌==◌, Bool, true, false, Option, Some, None, is_some, eqb-true}
use Rattle.pcl_base.specs.declared.event.Event.{Event}
use Rattle.pcl_base.specs.declared.lock.Verdict.{Verdict}
use Rattle.pcl_base.specs.declared.lock.Verdict.TheVariants as verdict
use Rattle.pcl_base.specs.declared.message.Body.{Body}
use Rattle.pcl_base.specs.declared.message.Body.TheVariants as body
use Rattle.pcl_base.specs.declared.message.Message.{Message}
use Rattle.pcl_base.specs.declared.message.Report.{Report}
use Rattle.run_rules.specs.Views.{View, since_of, owner_of}
use Rattle.node_rules.specs.InstallRule.{owned_before}
use Rattle.node_rules.specs.LockTable.{LockTable, mark}
use Rattle.node_rules.specs.NodeState.{NodeState, NodeEvent, Begin, Read, Write, Commit, Abort, Deliver, Evict, Flush, Install, Cut, number_of, table_at}
use Rattle.node_rules.specs.NodeStep.{Plan}
use Rattle.node_rules.specs.Refusals.{may_install}
use Rattle.node_rules.specs.Words.{pick}
use Rattle.cluster_rules.specs.Clusters.{Cluster}
use Rattle.cluster_laws.specs.Laws.{IsGoodPlan}
use Rattle.cluster_laws.specs.Sound.{IsMember, IsCluster}
use Rattle.cluster_laws.proofs.Steps.{up_is_member_law, plans_are_good_law}
use Rattle.cluster_laws.specs.Link.StepLaws.{IsPlanned}
use Rattle.cluster_facts.proofs.ReportsParts.Flags.{TableGoesOn, flagged, heard_by, heard, verdict_of}
use Rattle.cluster_facts.proofs.ReportsParts.Done.{DoneBy, Done, IsNew}
use Rattle.cluster_facts.proofs.ReportsParts.Later.{goes_on_era}
use Rattle.cluster_facts.proofs.ReportsParts.Stepping.{StepIs, step_refused, step_acts, step_installs, steps_are}
use Rattle.cluster_facts.proofs.ReportsParts.Walking.{GoesOnAs}

-- an event brings a report of a partition, which is taken
pub record Brings (n : NodeState) (ev : NodeEvent) (q from : ℕ) : Type 0 where
  pub message : Message
  pub report : Report
  pub event : ev ≡ Deliver from message
  pub body : message.body ≡ body.Report report
  pub of : report.partition ≡ q
  pub taken : verdict_of n from message ≡ verdict.Taken

-- what an event makes of the flags of a table that is there
pub data HeardIs (n : NodeState) (ev : NodeEvent) (q : ℕ) (t : LockTable) : Type 0 where
  heard_none : heard n ev q ≡ Some t → HeardIs n ev q t
  heard_report : (from : ℕ) → Brings n ev q from → t.serving ≡ false → heard n ev q ≡ Some (mark t from) → HeardIs n ev q t

pub heard_is : (n : NodeState) (ev : NodeEvent) (q : ℕ) (t : LockTable) → table_at n q ≡ Some t → HeardIs n ev q t
heard_is n Begin q t there = heard_none there
heard_is n (Read x p) q t there = heard_none there
heard_is n (Write x p place bytes) q t there = heard_none there
heard_is n (Commit x) q t there = heard_none there
heard_is n (Abort x) q t there = heard_none there
heard_is n (Evict p) q t there = heard_none there
heard_is n (Flush p) q t there = heard_none there
heard_is n (Install v) q t there = heard_none there
heard_is n Cut q t there = heard_none there
heard_is n (Deliver from m) q t there = by (verdict_of n from m) refl m.body refl
  where
    at : (x : Verdict) (b : Body) → verdict_of n from m ≡ x → m.body ≡ b → heard n (Deliver from m) q ≡ heard_by x from q b (Some t)
    at x b e f = ap (λ (o : Option LockTable). heard_by (verdict_of n from m) from q m.body o) there ∙ ap (λ (y : Verdict). heard_by y from q m.body (Some t)) e ∙ ap (λ (y : Body). heard_by x from q y (Some t)) f

    flags : (y : Bool) → t.serving ≡ y → (r : Report) → m.body ≡ body.Report r → verdict_of n from m ≡ verdict.Taken → r.partition ≡ q → heard n (Deliver from m) q ≡ Some (pick t.serving t (mark t from)) → HeardIs n (Deliver from m) q t
    flags true e r f taken of is = heard_none (is ∙ ap (λ (b : Bool). Some (pick b t (mark t from))) e)
    flags false e r f taken of is =
        heard_report from (record { message = m; report = r; event = refl; body = f; of = of; taken = taken }) e (is ∙ ap (λ (b : Bool). Some (pick b t (mark t from))) e)

    report : (x : Bool) (r : Report) → (r.partition == q) ≡ x → m.body ≡ body.Report r → verdict_of n from m ≡ verdict.Taken → heard n (Deliver from m) q ≡ pick (r.partition == q) (Some (flagged from t)) (Some t)
        → HeardIs n (Deliver from m) q t
    report true r e f taken is = flags t.serving refl r f taken (eqb-true r.partition q e) (is ∙ ap (λ (b : Bool). pick b (Some (flagged from t)) (Some t)) e)
    report false r e f taken is = heard_none (is ∙ ap (λ (b : Bool). pick b (Some (flagged from t)) (Some t)) e)

    by : (x : Verdict) → verdict_of n from m ≡ x → (b : Body) → m.body ≡ b → HeardIs n (Deliver from m) q t
    by verdict.Held e b f = heard_none (at verdict.Held b e f)
    by verdict.Dropped e b f = heard_none (at verdict.Dropped b e f)
    by verdict.Taken e (body.Request r) f = heard_none (at verdict.Taken (body.Request r) e f)
    by verdict.Taken e (body.Grant r) f = heard_none (at verdict.Taken (body.Grant r) e f)
    by verdict.Taken e (body.Release r) f = heard_none (at verdict.Taken (body.Release r) e f)
    by verdict.Taken e (body.Revoke r) f = heard_none (at verdict.Taken (body.Revoke r) e f)
    by verdict.Taken e (body.Return r) f = heard_none (at verdict.Taken (body.Return r) e f)
    by verdict.Taken e (body.Report r) f = report (r.partition == q) r refl f e (at verdict.Taken (body.Report r) e f)

-- nothing comes of no table
pub heard_missing : (n : NodeState) (ev : NodeEvent) (q : ℕ) → table_at n q ≡ None → heard n ev q ≡ None
heard_missing n Begin q there = there
heard_missing n (Read x p) q there = there
heard_missing n (Write x p place bytes) q there = there
heard_missing n (Commit x) q there = there
heard_missing n (Abort x) q there = there
heard_missing n (Evict p) q there = there
heard_missing n (Flush p) q there = there
heard_missing n (Install v) q there = there
heard_missing n Cut q there = there
heard_missing n (Deliver from m) q there = ap (λ (o : Option LockTable). heard_by (verdict_of n from m) from q m.body o) there ∙ by (verdict_of n from m) m.body
  where
    report : (x : Bool) → pick {X = Option LockTable} x None None ≡ None
    report true = refl
    report false = refl

    by : (x : Verdict) (b : Body) → heard_by x from q b None ≡ None
    by verdict.Held b = refl
    by verdict.Dropped b = refl
    by verdict.Taken (body.Request r) = refl
    by verdict.Taken (body.Grant r) = refl
    by verdict.Taken (body.Release r) = refl
    by verdict.Taken (body.Revoke r) = refl
    by verdict.Taken (body.Return r) = refl
    by verdict.Taken (body.Report r) = report (r.partition == q)

-- A table that is being rebuilt after a step was so before it, with the same flags or all but one; or it is new.
pub data Came (s : NodeState) (ev : NodeEvent) (n q : ℕ) (w : View) (u : LockTable) : Type 0 where
  came_on : (v : View) (t : LockTable) → s.view ≡ Some v → table_at s q ≡ Some t → t.serving ≡ false → u.reported ≡ t.reported → since_of v q ≡ since_of w q → Came s ev n q w u
  came_heard : (v : View) (t : LockTable) (from : ℕ) → s.view ≡ Some v → table_at s q ≡ Some t → t.serving ≡ false → Brings s ev q from → u.reported ≡ (mark t from).reported → since_of v q ≡ since_of w q
      → Came s ev n q w u
  came_new : ev ≡ Install w → (since_of w q == w.epoch) ≡ true → IsNew n u → Came s ev n q w u

module _ (c : Cluster) (e : Event) (i : IsCluster c) (n : ℕ) (s : NodeState) (ev : NodeEvent) (p : Plan) (planned : IsPlanned c e n s ev p) (w : View) (seen : p.node.view ≡ Some w) (q : ℕ) (low : q < c.config.nodes)
    (u : LockTable) (there : table_at p.node q ≡ Some u) (rebuilt : u.serving ≡ false) where
  member : IsMember c.config c.views n s
  member = (up_is_member_law c n s i planned.handed.up).1

  good : IsGoodPlan c n s ev p
  good = plans_are_good_law c e n s ev p i planned.handed planned.goes

  low_here : q < s.home.config.nodes
  low_here = subst (λ k. q < k.nodes) (sym member.config) low

  unserved : (t : LockTable) → GoesOnAs t u → t.serving ≡ false
  unserved t on = by t.serving refl
    where
      by : (x : Bool) → t.serving ≡ x → t.serving ≡ false
      by false e = e
      by true e = let bad : true ≡ false = sym (on.serving e) ∙ rebuilt in absurd (cc)

  -- a table is there in a view alone
  owned : (o : Option View) → s.view ≡ o → (t : LockTable) → table_at s q ≡ Some t → is_some o ≡ true
  owned None none t at =
      let bad : false ≡ true = sym (ap (λ (o : Option View). owned_before o q (number_of s)) none) ∙ sym (member.sound.owned q low_here) ∙ ap (λ (o : Option LockTable). is_some o) at in
      absurd (cc)
  owned (Some v) at t has = refl

  -- the owner of a new table
  owns : (owner_of w q == number_of s) ≡ true
  owns =
      ap (λ (k : ℕ). owner_of w q == k) (member.number ∙ sym good.member.number) ∙ sym (ap (λ (o : Option View). owned_before o q (number_of p.node)) seen)
      ∙ sym (good.member.sound.owned q (subst (λ k. q < k.nodes) (sym good.member.config) low)) ∙ ap (λ (o : Option LockTable). is_some o) there

  pub came_is : Came s ev n q w u
  came_is = by (steps_are s ev c.disk p member.sound.places planned.goes)
    where
      acted : s.view ≡ Some w → (o : Option LockTable) → table_at s q ≡ o → TableGoesOn (heard s ev q) (Some u) → Came s ev n q w u
      acted view None at on = absurd (subst (λ (o : Option LockTable). TableGoesOn o (Some u)) (heard_missing s ev q at) on)
      acted view (Some t) at on = of (heard_is s ev q t at)
        where
          of : HeardIs s ev q t → Came s ev n q w u
          of (heard_none is) =
              let goes : GoesOnAs t u = subst (λ (o : Option LockTable). TableGoesOn o (Some u)) is on in
              came_on w t view at (unserved t goes) goes.reported refl
          of (heard_report from brings unserving is) =
              let goes : GoesOnAs (mark t from) u = subst (λ (o : Option LockTable). TableGoesOn o (Some u)) is on in
              came_heard w t from view at unserving brings goes.reported refl

      kept : may_install s s.view w ≡ true → (since_of w q == w.epoch) ≡ false → (o : Option LockTable) → table_at s q ≡ o → TableGoesOn o (Some u) → Came s ev n q w u
      kept may old None at on = absurd on
      kept may old (Some t) at on = of s.view refl (owned s.view refl t at)
        where
          of : (o : Option View) → s.view ≡ o → is_some o ≡ true → Came s ev n q w u
          of None none some = absurd (cc)
          of (Some v) view some = came_on v t view at (unserved t on) on.reported (sym (goes_on_era s member.sound w may v q view low_here old))

      installed : ev ≡ Install w → may_install s s.view w ≡ true → (x : Bool) → (since_of w q == w.epoch) ≡ x → DoneBy s w x q (Some u) → Came s ev n q w u
      installed is may false old done = kept may old (table_at s q) refl done
      installed is may true new done = came_new is new (subst (λ (k : ℕ). IsNew k u) member.number (done owns))

      by : StepIs s ev p → Came s ev n q w u
      by (step_refused r same sends replies) =
          came_on w u (ap (λ (x : NodeState). x.view) (sym same) ∙ seen) (ap (λ (x : NodeState). table_at x q) (sym same) ∙ there) rebuilt refl refl
      by (step_acts other in_view view tables said) = acted (sym view ∙ seen) (table_at s q) refl (subst (TableGoesOn (heard s ev q)) there (tables q))
      by (step_installs v is may view tables sending) =
          let both : Some v ≡ Some w = sym view ∙ seen in
          let same : v ≡ w = cc in
          installed (is ∙ ap Install same) (subst (λ (x : View). may_install s s.view x ≡ true) same may) (since_of w q == w.epoch) refl
          (subst (λ (x : View). Done s x q (Some u)) same (subst (Done s v q) there (tables q low_here)))
