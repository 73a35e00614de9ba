-- Messages that are taken, but for reports.
use Rattle.std.proofs.Common.{◌≡◌, refl, subst, ℕ, ◌<◌, List}
use Rattle.pcl_base.specs.declared.event.Event.{Event}
use Rattle.pcl_base.specs.declared.lock.Verdict.{Verdict}
use Rattle.pcl_base.specs.declared.lock.Verdict.TheVariants as verdict
use Rattle.pcl_base.specs.declared.message.Body.{Body}
use Rattle.pcl_base.specs.declared.message.Body.TheVariants as body
use Rattle.pcl_base.specs.declared.message.Grant.{Grant}
use Rattle.pcl_base.specs.declared.message.Message.{Message}
use Rattle.pcl_base.specs.declared.message.Release.{Release}
use Rattle.pcl_base.specs.declared.message.Request.{Request}
use Rattle.pcl_base.specs.declared.message.ReturnRight.{ReturnRight}
use Rattle.text_rules.specs.MessageBytes.{IsBody}
use Rattle.node_rules.specs.NodeState.{NodeState, Deliver, number_of}
use Rattle.node_rules.specs.NodeStep.{judge_in, partition_of}
use Rattle.node_rules.specs.Work.{Work}
use Rattle.node_laws.proofs.Bases.{base_of}
use Rattle.cluster_rules.specs.Clusters.{Cluster}
use Rattle.cluster_rules.specs.ClusterStep.{step}
use Rattle.cluster_laws.specs.Handed.{IsHanded}
use Rattle.page_protocol.specs.State.{Page}
use Rattle.page_relation.specs.Work.Events.{IsEntered}
use Rattle.page_relation.specs.Work.StepEnds.{Follows}
use Rattle.page_relation.specs.Work.Taken.{taken_of}
use Rattle.page_relation.proofs.WorkParts.Revoking.{revoke_is_kept_law}
use Rattle.page_relation.specs.Loss.Writes.{IsNoReport}
use Rattle.settle_relation.specs.Grant.Arriving.{GrantComes}
use Rattle.settle_relation.proofs.GrantParts.Arriving.{grant_is_kept_law}
use Rattle.settle_relation.specs.Arriving.{IsTakenIn}
use Rattle.settle_relation.specs.Midway.{IsMidway}
use Rattle.settle_relation.proofs.Requesting.{midway, request_is_kept_law}
use Rattle.settle_relation.proofs.Returning.{return_is_kept_law}
use Rattle.settle_relation.proofs.Turns.{settle_keeps}
use Rattle.end_relation.proofs.ReleaseParts.Releasing.{release_is_kept_law}
use Rattle.related_runs.proofs.LocksParts.Stands.{used_is_seen_law}
use Rattle.related_runs.specs.RunLaws.{IsOfRun}
use Rattle.whole_runs.specs.Act.Acted.{IsWholeStep, ActKeeps}
use Rattle.whole_runs.proofs.ActParts.Simple.{untaken_acts}
use Rattle.whole_runs.proofs.ActParts.Steps.{acts, low_page, named, party, unstopped}

-- a message that is taken
module _ (blank : List ℕ) (c : Cluster) (e : Event) (n from : ℕ) (s : NodeState) (m : Message) (is : IsOfRun blank c) (h : IsHanded c e n s (Deliver from m))
    (judged : judge_in s.view (number_of s) from m.epoch (partition_of s.home.config m.body) ≡ verdict.Taken) where
  pub taken_in : (p : ℕ) → p < c.config.pages → IsTakenIn c e n p from s m blank (is.related.pages.page p)
  taken_in p low =
      record {
        cluster = is.related.cluster;
        order = is.related.order;
        asks = is.related.asked;
        handed = h;
        judged = judged;
        below = low;
        reached = is.related.pages.reached p low;
        entered = is.between.entered p low;
        related = is.related.pages.related p low;
      }

  pub grant_comes : (g : Grant) → m.body ≡ body.Grant g → GrantComes c e n from s m g
  grant_comes g at = record { cluster = is.related.cluster; parties = λ b. is.related.parties b n; asked = is.related.asked; handed = h; body = at; judged = judged }

  pub midway_of : (p : ℕ) → p < c.config.pages → IsMidway (base_of s) c e n (taken_of c s)
  midway_of p low = midway c e n p from s m blank (is.related.pages.page p) (taken_in p low)

  pub low_of : (k : ℕ) → k < s.home.config.pages → k < c.config.pages
  low_of = low_page blank c e n s (Deliver from m) is h

  module _ (w : Work) (whole : IsWholeStep c e n s (Deliver from m) w) (p : ℕ) (low : p < c.config.pages) where
    abbrev a : Page
    a = is.related.pages.page p

    request_follows : (r : Request) → m.body ≡ body.Request r → Follows p IsEntered a (step c e)
    request_follows r at = request_is_kept_law c e n p from s m r w blank a (taken_in p low) (record { goes = whole.goes; whole = whole.whole }) at

    return_follows : (r : ReturnRight) → m.body ≡ body.Return r → Follows p IsEntered a (step c e)
    return_follows r at = return_is_kept_law c e n p from s m r w blank a (taken_in p low) (record { goes = whole.goes; whole = whole.whole }) (λ k. is.related.parties from k) at

    grant_follows : (g : Grant) → m.body ≡ body.Grant g → Follows p IsEntered a (step c e)
    grant_follows g at =
        grant_is_kept_law c e n p from s m g w blank a (grant_comes g at) whole.goes low (is.related.pages.reached p low) (is.between.entered p low) (is.related.pages.related p low)

    revoke_follows : (q : ℕ) → m.body ≡ body.Revoke q → Follows p IsEntered a (step c e)
    revoke_follows q at =
        revoke_is_kept_law c e n p q from s m a is.related.cluster is.related.order (party blank c e n from s m is h) h at judged (λ t own. used_is_seen_law c p a (is.related.pages.related p low) is.used t) (is.between.entered p low) (is.related.pages.related p low)

    release_follows : (r : Release) → m.body ≡ body.Release r → Follows p IsEntered a (step c e)
    release_follows r at =
        release_is_kept_law c e n p from s m r w blank a is.related.cluster is.related.parties h at judged whole.goes (unstopped c e n s (Deliver from m) w whole) low (midway_of p low)
        (settle_keeps (base_of s) c e n p (acts blank c e n s (Deliver from m) is h) is.related.order low r.page inside) (is.related.pages.reached p low) (is.between.entered p low)
        (is.related.pages.related p low)
      where
        inside : r.page < c.config.pages
        inside = low_of r.page (subst (IsBody s.home.config) at (named blank c e n from s m is h)).1

    pub taken_follows : (b : Body) → m.body ≡ b → IsNoReport b → Follows p IsEntered a (step c e)
    taken_follows (body.Request r) at plain = request_follows r at
    taken_follows (body.Grant g) at plain = grant_follows g at
    taken_follows (body.Release r) at plain = release_follows r at
    taken_follows (body.Revoke q) at plain = revoke_follows q at
    taken_follows (body.Return r) at plain = return_follows r at
    taken_follows (body.Report r) at plain = absurd plain

-- any message
pub message_acts : (blank : List ℕ) (from : ℕ) (m : Message) → IsNoReport m.body → ActKeeps blank (Deliver from m)
message_acts blank from m plain c e n s w is whole p low = by (judge_in s.view (number_of s) from m.epoch (partition_of s.home.config m.body)) refl
  where
    by : (v : Verdict) → judge_in s.view (number_of s) from m.epoch (partition_of s.home.config m.body) ≡ v → Follows p IsEntered (is.related.pages.page p) (step c e)
    by verdict.Taken judged = taken_follows blank c e n from s m is whole.handed judged w whole p low m.body refl plain
    by verdict.Held judged = untaken_acts blank c e n from s m is whole.handed (λ taken. absurd (cc)) p low
    by verdict.Dropped judged = untaken_acts blank c e n from s m is whole.handed (λ taken. absurd (cc)) p low
