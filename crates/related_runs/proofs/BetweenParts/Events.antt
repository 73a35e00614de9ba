-- All events that a node makes whole.
use Rattle.std.proofs.Common.{◌≡◌, refl, ap, sym, subst, ◌∙◌, ℕ, ◌+◌, ◌<◌, Bool, true, false, List, [], ◌∷◌, Option, Some, None, is_some, option_map}
use Rattle.std.specs.List.{AllByRecursion}
use Rattle.pcl_base.specs.Limits.{Sizes}
use Rattle.pcl_base.specs.declared.event.Event.{Event}
use Rattle.pcl_base.specs.declared.event.Event.TheVariants as event
use Rattle.pcl_base.specs.declared.lock.Verdict.{Verdict}
use Rattle.pcl_base.specs.declared.lock.Verdict.TheVariants as verdict
use Rattle.pcl_base.specs.declared.message.Body.{Body}
use Rattle.pcl_base.specs.declared.message.Body.TheVariants as body
use Rattle.pcl_base.specs.declared.message.Message.{Message}
use Rattle.run_rules.specs.Views.{View}
use Rattle.node_rules.specs.DiskCalls.{Left}
use Rattle.node_rules.specs.NodeState.{NodeState, NodeEvent, Begin, Read, Write, Commit, Abort, Deliver, Evict, Flush, Install, Cut, number_of}
use Rattle.node_rules.specs.NodeStep.{Plan, plan_of, partition_of, judge_in, nodestep}
use Rattle.node_rules.specs.Words.{pick, head_of}
use Rattle.node_rules.specs.Work.{Work, Goes}
use Rattle.cluster_rules.specs.Clusters.{Cluster, stop_at, view_of_epoch}
use Rattle.cluster_rules.specs.ClusterStep.{made, halted, left_of, step}
use Rattle.cluster_rules.specs.Links.{link_at, head_at}
use Rattle.cluster_laws.specs.Handed.{IsHanded}
use Rattle.cluster_laws.proofs.LinkParts.Stepped.{sizes_stay_law}
use Rattle.page_relation.specs.Loss.Writes.{RedoesNothing, IsNoReport}
use Rattle.page_relation.proofs.LossParts.Pages.{pages_lead}
use Rattle.page_protocol.specs.Steps.{here as no_step}
use Rattle.page_relation.specs.Relation.{IsPageOf}
use Rattle.page_relation.specs.Together.{IsParty}
use Rattle.page_relation.specs.Work.Events.{IsEntered, IsUnstopped}
use Rattle.page_relation.specs.Work.Landing.{land}
use Rattle.page_relation.specs.Work.StepEnds.{Follows}
use Rattle.page_relation.proofs.WorkParts.Beginning.{begin_is_kept_law}
use Rattle.page_relation.proofs.WorkParts.Ended.{end_is_landed_law}
use Rattle.page_relation.proofs.WorkParts.Revoking.{revoke_is_kept_law}
use Rattle.page_relation.proofs.WorkParts.Simple.{evict_is_kept_law, flush_is_kept_law, cut_is_kept_law, untaken_is_kept_law}
use Rattle.related_runs.proofs.LocksParts.Stands.{used_is_seen_law}
use Rattle.related_runs.specs.RunLaws.{IsOfRun, LeavesPages}
use Rattle.related_runs.proofs.AllKinds.{kinds_are_all_law}
use Rattle.related_runs.specs.Between.Events.{IsMade, Leads, ActsByEvent, EventsAreAll, EventsKeepPages}
use Rattle.related_runs.proofs.BetweenParts.Leaving.{pages_are_between_law}
use Rattle.related_runs.proofs.BetweenParts.Losing.{lost_kinds_are_left_law, halted_pages_are_left_law}
use Rattle.related_runs.proofs.BetweenParts.Quiet.{quiet_kinds_are_left_law}
use Rattle.related_runs.proofs.BetweenParts.Seen.{entered_is_seen_law}
use Rattle.related_runs.proofs.BetweenParts.Stepped.{steps_have_writes_law}
use Rattle.related_runs.proofs.BetweenParts.Wrote.{runs_have_writes_law}

-- ---- the message that a node takes

head_all : (P : Message → Type 0) (ms : List Message) (m : Message) → AllByRecursion P ms → head_of ms ≡ Some m → P m
head_all P [] m all e = absurd (cc)
head_all P (x ∷ ms) m all e = let same : x ≡ m = cc in subst P same all.0

delivered : (c : Cluster) (e : Event) (n : ℕ) (s : NodeState) (from : ℕ) (m : Message) → IsHanded c e n s (Deliver from m) → head_at c.links from n ≡ Some m
delivered c (event.Begin k) n s from m h = let bad = h.event in absurd (cc)
delivered c (event.Read t p) n s from m h = let bad = h.event in absurd (cc)
delivered c (event.Write t p place bytes) n s from m h = let bad = h.event in absurd (cc)
delivered c (event.Commit t) n s from m h = let bad = h.event in absurd (cc)
delivered c (event.Abort t) n s from m h = let bad = h.event in absurd (cc)
delivered c (event.Evict k p) n s from m h = let bad = h.event in absurd (cc)
delivered c (event.Flush k p) n s from m h = let bad = h.event in absurd (cc)
delivered c (event.Crash k) n s from m h = let bad = h.event in absurd (cc)
delivered c (event.View live owners) n s from m h = let bad = h.event in absurd (cc)
delivered c event.Reopen n s from m h = let bad = h.event in absurd (cc)
delivered c (event.Arm k call stops) n s from m h = let bad = h.event in absurd (cc)
delivered c (event.Cut k) n s from m h = let bad = h.event in absurd (cc)
delivered c (event.Install k) n s from m h = by (view_of_epoch c.views (s.epoch + 1)) h.event
  where
    by : (o : Option View) → option_map Install o ≡ Some (Deliver from m) → head_at c.links from n ≡ Some m
    by None g = absurd (cc)
    by (Some v) g = absurd (cc)
delivered c (event.Deliver a b) n s from m h = by (is_some s.view) (head_at c.links a b) refl h.event
  where
    acts : b ≡ n
    acts = let same = h.acts in cc

    by : (x : Bool) (o : Option Message) → head_at c.links a b ≡ o → pick x (option_map (Deliver a) o) None ≡ Some (Deliver from m) → head_at c.links from n ≡ Some m
    by false o at g = absurd (cc)
    by true None at g = absurd (cc)
    by true (Some k) at g =
        let source : a ≡ from = cc in
        let message : k ≡ m = cc in
        sym (ap (λ (x : ℕ). head_at c.links x n) source) ∙ sym (ap (head_at c.links a) acts) ∙ at ∙ ap Some message

module _ (blank : List ℕ) (c : Cluster) (k : ActsByEvent blank c) (is : IsOfRun blank c) where
  -- a page whose state stays
  stays : (e : Event) (p : ℕ) → p < c.config.pages → IsPageOf (step c e) p (is.related.pages.page p) → Follows p IsEntered (is.related.pages.page p) (step c e)
  stays e p low related = record { page = is.related.pages.page p; run = no_step; related = related; known = is.between.entered p low }

  module _ (e : Event) (n : ℕ) (s : NodeState) (w : Work) where
    unstopped : (ev : NodeEvent) → IsMade c e n s ev w → IsUnstopped c n s ev
    unstopped ev i x goes =
        let both : Goes w ≡ Goes x = sym i.goes ∙ goes in
        let same : w ≡ x = cc in
        subst (λ (y : Work). left_of n c.disk y.calls (stop_at c n) ≡ None) same i.whole

    -- a message that is taken
    taken : (from : ℕ) (m : Message) → IsMade c e n s (Deliver from m) w → judge_in s.view (number_of s) from m.epoch (partition_of s.home.config m.body) ≡ verdict.Taken
        → (b : Body) → m.body ≡ b → Leads blank c e is
    taken from m i judged (body.Request r) same = k.requests from m r same e n s w is i judged
    taken from m i judged (body.Grant g) same = k.grants from m g same e n s w is i judged
    taken from m i judged (body.Release r) same = k.releases from m r same e n s w is i judged
    taken from m i judged (body.Revoke page) same = λ p low.
        revoke_is_kept_law c e n p page from s m (is.related.pages.page p) is.related.cluster is.related.order
        (head_all (IsParty c from n) (link_at c.links from n) m (is.related.parties from n) (delivered c e n s from m i.handed))
        i.handed same judged (λ t own. used_is_seen_law c p (is.related.pages.page p) (is.related.pages.related p low) is.used t) (is.between.entered p low) (is.related.pages.related p low)
    taken from m i judged (body.Return r) same = k.returns from m r same e n s w is i judged
    taken from m i judged (body.Report r) same = k.reports from m r same e n s w is i judged

    arrived : (from : ℕ) (m : Message) → IsMade c e n s (Deliver from m) w → (x : Verdict) → judge_in s.view (number_of s) from m.epoch (partition_of s.home.config m.body) ≡ x → Leads blank c e is
    arrived from m i verdict.Taken judged = taken from m i judged m.body refl
    arrived from m i verdict.Held judged = λ p low.
        stays e p low
        (untaken_is_kept_law c e n p from m s (is.related.pages.page p) is.related.cluster i.handed (λ other. (let bad : verdict.Held ≡ verdict.Taken = sym judged ∙ other in absurd (cc)))
        (is.related.pages.related p low))
    arrived from m i verdict.Dropped judged = λ p low.
        stays e p low
        (untaken_is_kept_law c e n p from m s (is.related.pages.page p) is.related.cluster i.handed (λ other. (let bad : verdict.Dropped ≡ verdict.Taken = sym judged ∙ other in absurd (cc)))
        (is.related.pages.related p low))

    event_leads : (ev : NodeEvent) → IsMade c e n s ev w → Leads blank c e is
    event_leads Begin i = λ p low. stays e p low (begin_is_kept_law c e n p s (is.related.pages.page p) is.related.cluster i.handed (is.related.pages.related p low))
    event_leads (Read t p) i = k.reads t p e n s w is i
    event_leads (Write t p place bytes) i = k.writes t p place bytes e n s w is i
    event_leads (Commit t) i = k.commits t e n s w is i
    event_leads (Abort t) i = k.aborts t e n s w is i
    event_leads (Deliver from m) i = arrived from m i (judge_in s.view (number_of s) from m.epoch (partition_of s.home.config m.body)) refl
    event_leads (Evict q) i = λ p low.
        evict_is_kept_law c e n p q s blank (is.related.pages.page p) is.related.cluster i.handed (unstopped (Evict q) i) low (is.related.pages.reached p low)
        (is.between.entered p low) (is.related.pages.related p low)
    event_leads (Flush q) i = λ p low.
        flush_is_kept_law c e n p q s blank (is.related.pages.page p) is.related.cluster i.handed (unstopped (Flush q) i) low (is.related.pages.reached p low)
        (is.between.entered p low) (is.related.pages.related p low)
    event_leads (Install v) i = k.installs v e n s w is i
    event_leads Cut i = λ p low.
        cut_is_kept_law c e n p s w (is.related.pages.page p) is.related.cluster i.handed (unstopped Cut i) i.goes (is.between.entered p low) (is.related.pages.related p low)

  -- the pages that a step leaves
  led : (e : Event) → Leads blank c e is → LeavesPages blank (step c e)
  led e leads =
      pages_are_between_law blank (step c e)
      (pages_lead blank c (step c e) is.related.pages (sizes_stay_law c e)
      (λ p low. (let f = leads p low in record { page = f.page; run = f.run; related = f.related })))
      (λ m p low.
      (let f = leads p (subst (λ (x : Sizes). p < x.pages) (sizes_stay_law c e) low) in entered_is_seen_law (step c e) p m f.page f.related f.known))
      (steps_have_writes_law c e is.related.cluster is.related.asked (runs_have_writes_law blank c is))

  acted_left : (e : Event) (n : ℕ) (s : NodeState) (ev : NodeEvent) (w : Work) → IsMade c e n s ev w → LeavesPages blank (made e n (plan_of w) c)
  unfolding land
  acted_left e n s ev w i = subst (LeavesPages blank) (end_is_landed_law c e n s ev w i.handed i.free i.goes i.whole) (led e (event_leads e n s w ev i))

  -- stops
  module _ (e : Event) (n : ℕ) (s : NodeState) (p : Plan) (l : Left) where
    quiet_stop : (ev : NodeEvent) → IsHanded c e n s ev → nodestep s ev c.disk ≡ Goes p → left_of n c.disk p.calls (stop_at c n) ≡ Some l → RedoesNothing ev → LeavesPages blank (halted e n l c)
    quiet_stop ev h goes stops redoes = (lost_kinds_are_left_law blank c is).stopped e n s ev p l h goes stops redoes

    delivery_stop : (from : ℕ) (m : Message) → IsHanded c e n s (Deliver from m) → nodestep s (Deliver from m) c.disk ≡ Goes p → left_of n c.disk p.calls (stop_at c n) ≡ Some l
        → (b : Body) → m.body ≡ b → LeavesPages blank (halted e n l c)
    delivery_stop from m h goes stops (body.Request r) same = quiet_stop (Deliver from m) h goes stops (subst IsNoReport (sym same) tt)
    delivery_stop from m h goes stops (body.Grant g) same = quiet_stop (Deliver from m) h goes stops (subst IsNoReport (sym same) tt)
    delivery_stop from m h goes stops (body.Release r) same = quiet_stop (Deliver from m) h goes stops (subst IsNoReport (sym same) tt)
    delivery_stop from m h goes stops (body.Revoke page) same = quiet_stop (Deliver from m) h goes stops (subst IsNoReport (sym same) tt)
    delivery_stop from m h goes stops (body.Return r) same = quiet_stop (Deliver from m) h goes stops (subst IsNoReport (sym same) tt)
    delivery_stop from m h goes stops (body.Report r) same = halted_pages_are_left_law blank c e n l is (k.stopped_reports from m r same e n s p l is h goes stops)

    any_stop : (ev : NodeEvent) → IsHanded c e n s ev → nodestep s ev c.disk ≡ Goes p → left_of n c.disk p.calls (stop_at c n) ≡ Some l → LeavesPages blank (halted e n l c)
    any_stop Begin h goes stops = quiet_stop Begin h goes stops tt
    any_stop (Read t q) h goes stops = quiet_stop (Read t q) h goes stops tt
    any_stop (Write t q place bytes) h goes stops = quiet_stop (Write t q place bytes) h goes stops tt
    any_stop (Commit t) h goes stops = quiet_stop (Commit t) h goes stops tt
    any_stop (Abort t) h goes stops = quiet_stop (Abort t) h goes stops tt
    any_stop (Deliver from m) h goes stops = delivery_stop from m h goes stops m.body refl
    any_stop (Evict q) h goes stops = quiet_stop (Evict q) h goes stops tt
    any_stop (Flush q) h goes stops = quiet_stop (Flush q) h goes stops tt
    any_stop (Install v) h goes stops = halted_pages_are_left_law blank c e n l is (k.stopped_installs v e n s p l is h goes stops)
    any_stop Cut h goes stops = quiet_stop Cut h goes stops tt

pub events_are_all_law : EventsAreAll
events_are_all_law blank c k =
    record {
      refused = λ e r is. (quiet_kinds_are_left_law blank c is).refused e r;
      crashed = λ n is. (lost_kinds_are_left_law blank c is).crashed n;
      armed = λ n call kept is. (quiet_kinds_are_left_law blank c is).armed n call kept;
      viewed = λ live owners v is made drops. (quiet_kinds_are_left_law blank c is).viewed live owners v made drops;
      reopened = λ v is made down. (quiet_kinds_are_left_law blank c is).reopened v made down;
      differs = λ e n s ev is h. (lost_kinds_are_left_law blank c is).differs e n s ev h;
      stopped = λ e n s ev p l is h goes stops. any_stop blank c k is e n s p l ev h goes stops;
      refused_there = λ e n s ev r is h refused. (quiet_kinds_are_left_law blank c is).refused_there e n s ev r h refused;
      acted = λ e n s ev w is h free goes whole. acted_left blank c k is e n s ev w (record { handed = h; free = free; goes = goes; whole = whole });
    }

pub events_keep_pages_law : EventsKeepPages
events_keep_pages_law blank c e k = kinds_are_all_law blank c e (events_are_all_law blank c k)
