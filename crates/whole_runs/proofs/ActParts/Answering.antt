-- No page differs that is read for a message, but for a report.
use Rattle.std.proofs.Common.{◌≡◌, refl, sym, ap, subst, ◌∙◌, ℕ, ◌<◌, List}
use Rattle.pcl_base.specs.declared.event.Event.{Event}
use Rattle.pcl_base.specs.declared.lock.Verdict.{Verdict}
use Rattle.pcl_base.specs.declared.lock.Verdict.TheVariants as verdict
use Rattle.pcl_base.specs.declared.message.Body.{Body}
use Rattle.pcl_base.specs.declared.message.Body.TheVariants as body
use Rattle.pcl_base.specs.declared.message.Grant.{Grant}
use Rattle.pcl_base.specs.declared.message.Message.{Message}
use Rattle.pcl_base.specs.declared.message.Release.{Release}
use Rattle.pcl_base.specs.declared.message.Request.{Request}
use Rattle.pcl_base.specs.declared.message.ReturnRight.{ReturnRight}
use Rattle.pcl_base.specs.declared.reply.Reply.TheVariants as reply
use Rattle.text_rules.specs.MessageBytes.{IsBody}
use Rattle.node_rules.specs.AccessRule.{on_revoke}
use Rattle.node_rules.specs.NodeState.{NodeState, Begin, Read, Write, Commit, Abort, Deliver, Evict, Flush, Install, Cut, number_of}
use Rattle.node_rules.specs.NodeStep.{do_event, judge_in, partition_of, by_verdict, take_message, take_revoke}
use Rattle.node_rules.specs.Work.{Goes, Differs, reply}
use Rattle.cluster_rules.specs.Clusters.{Cluster}
use Rattle.cluster_laws.specs.Handed.{IsHanded}
use Rattle.page_relation.specs.Work.StepEnds.{start_of}
use Rattle.page_relation.specs.Work.Taken.{taken_of}
use Rattle.page_relation.specs.Loss.Writes.{IsNoReport}
use Rattle.settle_relation.proofs.GrantParts.Arriving.{grant_goes_on_law}
use Rattle.settle_relation.proofs.Reading.{request_agrees_law, return_agrees_law}
use Rattle.settle_relation.proofs.Requesting.{goes_on}
use Rattle.end_relation.proofs.ReleaseParts.Releasing.{no_release_differs_law}
use Rattle.related_runs.specs.RunLaws.{IsOfRun}
use Rattle.whole_runs.specs.Act.Acted.{ActAgrees, NoActDiffers}
use Rattle.whole_runs.proofs.ActParts.Agreeing.{begin_agrees, evict_agrees, flush_agrees, cut_agrees, read_agrees, write_agrees, own_settles, abort_agrees, commit_agrees}
use Rattle.whole_runs.proofs.ActParts.Messages.{taken_in, grant_comes, midway_of, low_of}
use Rattle.whole_runs.proofs.ActParts.Steps.{acts, named}

-- a message by its verdict
delivered_as : (c : Cluster) (s : NodeState) (from : ℕ) (m : Message) (v : Verdict) → judge_in s.view (number_of s) from m.epoch (partition_of s.home.config m.body) ≡ v
    → do_event c.disk (Deliver from m) (start_of c s) ≡ by_verdict v c.disk from m.body (start_of c s)
unfolding do_event take_message
delivered_as c s from m v is = ap (λ (x : Verdict). by_verdict x c.disk from m.body (start_of c s)) is

module _ (blank : List ℕ) (c : Cluster) (e : Event) (n from : ℕ) (s : NodeState) (m : Message) (is : IsOfRun blank c) (h : IsHanded c e n s (Deliver from m)) (q expected found : ℕ)
    (differs : do_event c.disk (Deliver from m) (start_of c s) ≡ Differs q expected found) where
  module _ (judged : judge_in s.view (number_of s) from m.epoch (partition_of s.home.config m.body) ≡ verdict.Taken) where
    named_as : (b : Body) → m.body ≡ b → IsBody s.home.config b
    named_as b at = subst (IsBody s.home.config) at (named blank c e n from s m is h)

    low : (k : ℕ) → k < s.home.config.pages → k < c.config.pages
    low = low_of blank c e n from s m is h judged

    request_goes : (r : Request) → m.body ≡ body.Request r → ⊥
    request_goes r at =
        request_agrees_law c e n from s m r blank (is.related.pages.page r.page) q expected found
        (taken_in blank c e n from s m is h judged r.page (low r.page (named_as (body.Request r) at).1)) at differs

    return_goes : (r : ReturnRight) → m.body ≡ body.Return r → ⊥
    return_goes r at =
        return_agrees_law c e n from s m r blank (is.related.pages.page r.page) q expected found
        (taken_in blank c e n from s m is h judged r.page (low r.page (named_as (body.Return r) at).0)) (λ k. is.related.parties from k) at differs

    grant_goes : (g : Grant) → m.body ≡ body.Grant g → ⊥
    grant_goes g at =
        grant_goes_on_law c e n from s m g blank (is.related.pages.page g.page) q expected found (grant_comes blank c e n from s m is h judged g at) inside (is.related.pages.reached g.page inside)
        (is.between.entered g.page inside) (is.related.pages.related g.page inside) differs
      where
        inside : g.page < c.config.pages
        inside = low g.page (named_as (body.Grant g) at).1

    release_goes : (r : Release) → m.body ≡ body.Release r → ⊥
    release_goes r at =
        no_release_differs_law c e n from s m r blank (is.related.pages.page r.page) is.related.cluster is.related.parties h at judged inside (midway_of blank c e n from s m is h judged r.page inside)
        (own_settles c e n s (acts blank c e n s (Deliver from m) is h) is.related.order r.page inside) (is.related.pages.reached r.page inside) (is.between.entered r.page inside)
        (is.related.pages.related r.page inside) q expected found differs
      where
        inside : r.page < c.config.pages
        inside = low r.page (named_as (body.Release r) at).1

    revoke_goes : (p : ℕ) → m.body ≡ body.Revoke p → ⊥
    revoke_goes p at =
        let bad : Goes (take_revoke from (taken_of c s) (on_revoke p (taken_of c s).node.home)) ≡ Differs q expected found =
        goes_on c e n p from s m blank (is.related.pages.page p) (taken_in blank c e n from s m is h judged p (low p (named_as (body.Revoke p) at))) (body.Revoke p) (Differs q expected found) at differs in
        absurd (cc)

    taken_goes : (b : Body) → m.body ≡ b → IsNoReport b → ⊥
    taken_goes (body.Request r) at plain = request_goes r at
    taken_goes (body.Grant g) at plain = grant_goes g at
    taken_goes (body.Release r) at plain = release_goes r at
    taken_goes (body.Revoke p) at plain = revoke_goes p at
    taken_goes (body.Return r) at plain = return_goes r at
    taken_goes (body.Report r) at plain = plain

  by_its_verdict : IsNoReport m.body → (v : Verdict) → judge_in s.view (number_of s) from m.epoch (partition_of s.home.config m.body) ≡ v → ⊥
  by_its_verdict plain verdict.Taken judged = taken_goes judged m.body refl plain
  by_its_verdict plain verdict.Held judged =
      let bad : Goes (reply reply.Held (start_of c s)) ≡ Differs q expected found = sym (delivered_as c s from m verdict.Held judged) ∙ differs in absurd (cc)
  by_its_verdict plain verdict.Dropped judged =
      let bad : Goes (reply reply.Dropped (start_of c s)) ≡ Differs q expected found = sym (delivered_as c s from m verdict.Dropped judged) ∙ differs in absurd (cc)

message_agrees : (blank : List ℕ) (from : ℕ) (m : Message) → IsNoReport m.body → ActAgrees blank (Deliver from m)
message_agrees blank from m plain c e n s is h free q expected found differs =
    by_its_verdict blank c e n from s m is h q expected found differs plain (judge_in s.view (number_of s) from m.epoch (partition_of s.home.config m.body)) refl

-- ---- all of these events

pub no_act_differs_law : NoActDiffers
no_act_differs_law blank Begin plain = begin_agrees blank
no_act_differs_law blank (Read t p) plain = read_agrees blank t p
no_act_differs_law blank (Write t p place piece) plain = write_agrees blank t p place piece
no_act_differs_law blank (Commit t) plain = commit_agrees blank t
no_act_differs_law blank (Abort t) plain = abort_agrees blank t
no_act_differs_law blank (Deliver from m) plain = message_agrees blank from m plain
no_act_differs_law blank (Evict p) plain = evict_agrees blank p
no_act_differs_law blank (Flush p) plain = flush_agrees blank p
no_act_differs_law blank (Install v) plain = absurd plain
no_act_differs_law blank Cut plain = cut_agrees blank
