-- All events, and all pages at once.
use Rattle.std.proofs.Common.{◌≡◌, refl, sym, subst, ◌∙◌, ℕ, ◌<◌, nat_lt, Bool, true, false, List, lt-ltb, ltb-true}
use Rattle.pcl_base.specs.Limits.{Sizes}
use Rattle.pcl_base.specs.declared.event.Event.{Event}
use Rattle.pcl_base.specs.declared.lock.Verdict.{Verdict}
use Rattle.pcl_base.specs.declared.lock.Verdict.TheVariants as verdict
use Rattle.pcl_base.specs.declared.message.Body.{Body}
use Rattle.pcl_base.specs.declared.message.Body.TheVariants as body
use Rattle.pcl_base.specs.declared.message.Message.{Message}
use Rattle.node_rules.specs.NodeState.{Begin, Read, Write, Commit, Abort, Deliver, Evict, Flush, Install, Cut, number_of}
use Rattle.node_rules.specs.NodeStep.{partition_of, judge_in, plan_of}
use Rattle.node_rules.specs.Work.{Work}
use Rattle.cluster_rules.specs.Clusters.{Cluster}
use Rattle.cluster_rules.specs.ClusterStep.{made, step}
use Rattle.page_protocol.specs.State.{Page}
use Rattle.page_protocol.specs.Steps.{Reached}
use Rattle.page_relation.specs.Relation.{IsPageOf}
use Rattle.page_relation.specs.Loss.Writes.{IsNoReport}
use Rattle.page_relation.specs.Work.Events.{IsEntered}
use Rattle.page_relation.specs.Work.Landing.{land}
use Rattle.page_relation.specs.Work.StepEnds.{Follows}
use Rattle.page_relation.proofs.WorkParts.Ended.{end_is_landed_law}
use Rattle.page_relation.proofs.WorkParts.Kept.{reached_on}
use Rattle.page_relation.proofs.WorkParts.Landed.{landing_is_seen_law}
use Rattle.related_runs.specs.RunLaws.{HaveWritten, IsOfRun, LeavesPages}
use Rattle.whole_runs.specs.Act.Acted.{ActKeeps}
use Rattle.whole_runs.specs.Act.Leaving.{RedoingKeeps, AllActsKeep, ActsLeavePages}
use Rattle.whole_runs.proofs.ActParts.Messages.{message_acts}
use Rattle.whole_runs.proofs.ActParts.Simple.{untaken_acts}
use Rattle.whole_runs.proofs.ActParts.Steps.{acts}
use Rattle.whole_runs.proofs.ActParts.Whole.{acted_is_kept_law}

-- any message
any_message : (blank : List ℕ) (from : ℕ) (m : Message) → RedoingKeeps blank → ActKeeps blank (Deliver from m)
any_message blank from m redoing c e n s w is whole p low = by m.body refl
  where
    reported : (x : Verdict) → judge_in s.view (number_of s) from m.epoch (partition_of s.home.config m.body) ≡ x
        → ((judge_in s.view (number_of s) from m.epoch (partition_of s.home.config m.body) ≡ verdict.Taken) → Follows p IsEntered (is.related.pages.page p) (step c e))
        → Follows p IsEntered (is.related.pages.page p) (step c e)
    reported verdict.Taken judged taken = taken judged
    reported verdict.Held judged taken = untaken_acts blank c e n from s m is whole.handed (λ bad. absurd (cc)) p low
    reported verdict.Dropped judged taken = untaken_acts blank c e n from s m is whole.handed (λ bad. absurd (cc)) p low

    by : (x : Body) → m.body ≡ x → Follows p IsEntered (is.related.pages.page p) (step c e)
    by (body.Report r) at =
        reported (judge_in s.view (number_of s) from m.epoch (partition_of s.home.config m.body)) refl (λ judged. redoing.reports from m r at c e n s w is whole judged p low)
    by (body.Request r) at = message_acts blank from m (subst IsNoReport (sym at) tt) c e n s w is whole p low
    by (body.Grant g) at = message_acts blank from m (subst IsNoReport (sym at) tt) c e n s w is whole p low
    by (body.Release r) at = message_acts blank from m (subst IsNoReport (sym at) tt) c e n s w is whole p low
    by (body.Revoke q) at = message_acts blank from m (subst IsNoReport (sym at) tt) c e n s w is whole p low
    by (body.Return r) at = message_acts blank from m (subst IsNoReport (sym at) tt) c e n s w is whole p low

pub all_acts_keep_law : AllActsKeep
all_acts_keep_law blank (Install v) redoing = redoing.installs v
all_acts_keep_law blank (Deliver from m) redoing = any_message blank from m redoing
all_acts_keep_law blank Begin redoing = acted_is_kept_law blank Begin tt
all_acts_keep_law blank (Read t q) redoing = acted_is_kept_law blank (Read t q) tt
all_acts_keep_law blank (Write t q place piece) redoing = acted_is_kept_law blank (Write t q place piece) tt
all_acts_keep_law blank (Commit t) redoing = acted_is_kept_law blank (Commit t) tt
all_acts_keep_law blank (Abort t) redoing = acted_is_kept_law blank (Abort t) tt
all_acts_keep_law blank (Evict q) redoing = acted_is_kept_law blank (Evict q) tt
all_acts_keep_law blank (Flush q) redoing = acted_is_kept_law blank (Flush q) tt
all_acts_keep_law blank Cut redoing = acted_is_kept_law blank Cut tt

-- ---- all pages

-- a state that a page has after the step, of a page of the database
record Chosen (blank : List ℕ) (c d : Cluster) (p : ℕ) : Type 0 where
  page : Page
  reached : p < c.config.pages → Reached blank page
  related : p < c.config.pages → IsPageOf d p page
  entered : p < c.config.pages → IsEntered page
  wrote : p < c.config.pages → HaveWritten page

module _ (blank : List ℕ) (c d : Cluster) (is : IsOfRun blank c) (follows : (p : ℕ) → p < c.config.pages → Follows p IsEntered (is.related.pages.page p) d)
    (written : (p : ℕ) (a : Page) → p < c.config.pages → Reached blank a → IsPageOf d p a → HaveWritten a) where
  none : (p : ℕ) → nat_lt p c.config.pages ≡ false → p < c.config.pages → ⊥
  none p e low = let bad : true ≡ false = sym (lt-ltb p c.config.pages low) ∙ e in cc

  by : (p : ℕ) (b : Bool) → nat_lt p c.config.pages ≡ b → Chosen blank c d p
  by p true e =
      let low = ltb-true p c.config.pages e in
      let to = follows p low in
      let reached : Reached blank to.page = reached_on blank (is.related.pages.page p) to.page (is.related.pages.reached p low) to.run in
      record { page = to.page; reached = λ l. reached; related = λ l. to.related; entered = λ l. to.known; wrote = λ l. written p to.page low reached to.related }
  by p false e =
      record {
        page = is.related.pages.page p;
        reached = λ l. absurd (none p e l);
        related = λ l. absurd (none p e l);
        entered = λ l. absurd (none p e l);
        wrote = λ l. absurd (none p e l);
      }

  chosen : (p : ℕ) → Chosen blank c d p
  chosen p = by p (nat_lt p c.config.pages) refl

  pub pages_left : d.config ≡ c.config → LeavesPages blank d
  pages_left same =
      record {
        pages =
            record {
              page = λ p. (chosen p).page;
              reached = λ p low. (chosen p).reached (below p low);
              related = λ p low. (chosen p).related (below p low);
            };
        between = record { entered = λ p low. (chosen p).entered (below p low); wrote = λ p low. (chosen p).wrote (below p low) };
      }
    where
      below : (p : ℕ) → p < d.config.pages → p < c.config.pages
      below p = subst (λ (k : Sizes). p < k.pages) same

-- the cluster that a step makes
made_is : (c : Cluster) (e : Event) (n : ℕ) (w : Work) → land c e n w ≡ made e n (plan_of w) c
unfolding land
made_is c e n w = refl

pub acts_leave_pages_law : ActsLeavePages
acts_leave_pages_law blank redoing wrote c e n s ev w is h free goes whole =
    subst (LeavesPages blank) (ended ∙ made_is c e n w)
    (pages_left blank c (step c e) is (all_acts_keep_law blank ev redoing c e n s w is (record { handed = h; free = free; goes = goes; whole = whole }))
    (λ p a low reached related. wrote c e p a is low reached related) (subst (λ (d : Cluster). d.config ≡ c.config) (sym ended) (landing_is_seen_law c e n w (acts blank c e n s ev is h)).config))
  where
    ended : step c e ≡ land c e n w
    ended = end_is_landed_law c e n s ev w h free goes whole
