-- A message that is taken.
use Rattle.std.proofs.Common.{◌≡◌, refl, ap, sym, subst, ◌∙◌, ℕ, ◌≤◌, ◌&&◌, not, Bool, true, false, List, Option, Some, None, eqb-true}
use Rattle.pcl_base.specs.Limits.{Sizes}
use Rattle.pcl_base.specs.declared.event.Event.{Event}
use Rattle.pcl_base.specs.declared.lock.Verdict.{Verdict}
use Rattle.pcl_base.specs.declared.lock.Verdict.TheVariants as verdict
use Rattle.pcl_base.specs.declared.message.Body.{Body}
use Rattle.pcl_base.specs.declared.message.Body.TheVariants as body
use Rattle.pcl_base.specs.declared.message.Message.{Message}
use Rattle.pcl_base.specs.declared.reply.Reply.TheVariants as reply
use Rattle.run_rules.specs.Views.{View, since_of}
use Rattle.node_rules.specs.Judging.{judge}
use Rattle.node_rules.specs.NodeState.{NodeState, Deliver, number_of, partition}
use Rattle.node_rules.specs.NodeStep.{by_verdict, do_event, judge_in, partition_of, take_message}
use Rattle.rule_laws.proofs.Successors.{taken_is_between_law}
use Rattle.cluster_rules.specs.Clusters.{Cluster, node_at}
use Rattle.cluster_laws.specs.Sound.{IsMember}
use Rattle.cluster_laws.proofs.Steps.{up_is_member_law}
use Rattle.cluster_laws.specs.Era.CountLaws.{IsOfView}
use Rattle.cluster_laws.specs.Era.Counts.{is_dropped, counts_at, counts_in}
use Rattle.cluster_laws.proofs.EraParts.Counted.{counting_is_of_view_law}
use Rattle.cluster_laws.specs.Link.Coming.{speaks_of, is_coming, coming}
use Rattle.cluster_laws.specs.Link.Orders.{how_many}
use Rattle.page_protocol.specs.State.{Page}
use Rattle.page_relation.specs.Messages.{is_release, is_right, is_answer}
use Rattle.page_relation.specs.Tables.{ReachedBy, ReachedIn}
use Rattle.page_relation.specs.Work.Keeping.{IsWorkOf}
use Rattle.page_relation.specs.Work.Landing.{land, Acts}
use Rattle.page_relation.specs.Work.StepEnds.{start_of, HeadSays}
use Rattle.page_relation.specs.Work.Taken.{taken_of, TakenIsSaid}
use Rattle.page_relation.proofs.WorkParts.Comings.{coming_same}
use Rattle.page_relation.proofs.WorkParts.Framing.{standing_self, unseen_is_kept_law}
use Rattle.page_relation.proofs.WorkParts.Quiet.{quiet_replies_law}
use Rattle.page_relation.proofs.WorkParts.Started.{acting, head_is_said_law, start_is_related_law}

-- a message that speaks of a page is of its partition
spoken : (c : Sizes) (p : ℕ) (b : Body) → speaks_of c p b ≡ true → partition_of c b ≡ partition c p
spoken c p (body.Request r) is = ap (partition c) (eqb-true r.page p is)
spoken c p (body.Grant g) is = ap (partition c) (eqb-true g.page p is)
spoken c p (body.Release r) is = ap (partition c) (eqb-true r.page p is)
spoken c p (body.Revoke page) is = ap (partition c) (eqb-true page p is)
spoken c p (body.Return r) is = ap (partition c) (eqb-true r.page p is)
spoken c p (body.Report r) is = eqb-true r.partition (partition c p) is

-- a node that takes a message is in a view
viewed : (o : Option View) (me from epoch q : ℕ) → judge_in o me from epoch q ≡ verdict.Taken → (v : View) × (o ≡ Some v) × (judge v me from epoch q ≡ verdict.Taken)
viewed None me from epoch q is = absurd (cc)
viewed (Some v) me from epoch q is = (v, refl, is)

goes_taken : (c : Cluster) (s : NodeState) (from : ℕ) (m : Message) → judge_in s.view (number_of s) from m.epoch (partition_of s.home.config m.body) ≡ verdict.Taken
    → do_event c.disk (Deliver from m) (start_of c s) ≡ by_verdict verdict.Taken c.disk from m.body (start_of c s)
unfolding do_event take_message
goes_taken c s from m is = ap (λ (x : Verdict). by_verdict x c.disk from m.body (start_of c s)) is

-- what the era is, where the node is in a view
reached_by : (c : Cluster) (q era r : ℕ) (s : NodeState) (o : Option View) (v : View) → o ≡ Some v → ReachedBy c q era s o r → (r ≡ since_of v q) × (era ≤ r)
reached_by c q era r s o v is by = subst (λ (k : Option View). ReachedBy c q era s k r) is by

both_hold : (x y : Bool) → x ≡ true → y ≡ true → (x && y) ≡ true
both_hold true y a b = b
both_hold false y a b = absurd (cc)

head_same : (c : Cluster) (e : Event) (n p : ℕ) (a : Page) (s : NodeState) (from : ℕ) (m : Message) → Acts c n → HeadSays c e n p a (start_of c s) from m → HeadSays c e n p a (taken_of c s) from m
head_same c e n p a s from m acts is =
    record {
      says = is.says;
      no_release = λ t kind. subst (λ (ms : List Message). how_many (is_release t) ms ≡ 0) same (is.no_release t kind);
      no_right = λ kind. subst (λ (ms : List Message). how_many is_right ms ≡ 0) same (is.no_right kind);
      no_answer = λ kind. subst (λ (ms : List Message). how_many is_answer ms ≡ 0) same (is.no_answer kind);
    }
  where
    same : coming (land c e n (start_of c s)) p from n ≡ coming (land c e n (taken_of c s)) p from n
    same = sym (coming_same c e n p acts (start_of c s) (taken_of c s) (standing_self s) refl (λ b. refl) from n)

pub taken_is_said_law : TakenIsSaid
taken_is_said_law c e n p s from m a i h is related =
    record {
      view = view.0;
      in_view = view.1;
      goes_on = goes_taken c s from m is;
      related = unseen_is_kept_law c e n p (start_of c s) (taken_of c s) a acts (quiet_replies_law c e n p reply.Taken (start_of c s) refl refl) started;
      head = λ speaks. head_same c e n p a s from m acts (head_is_said_law c e n p s from m a i h related (comes speaks));
      reached = λ speaks. eras.0 ∙ sym (seen speaks).era;
      of_view = seen;
      not_past = eras.1;
    }
  where
    acts : Acts c n
    acts = acting c e n s (Deliver from m) i h

    member : IsMember c.config c.views n s
    member = (up_is_member_law c n s i h.up).1

    view : (v : View) × (s.view ≡ Some v) × (judge v (number_of s) from m.epoch (partition_of s.home.config m.body) ≡ verdict.Taken)
    view = viewed s.view (number_of s) from m.epoch (partition_of s.home.config m.body) is

    started : IsWorkOf c e n p (start_of c s) a
    started = start_is_related_law c e n p s (Deliver from m) a i h related

    judged : speaks_of c.config p m.body ≡ true → judge view.0 (number_of s) from m.epoch (partition c.config p) ≡ verdict.Taken
    judged speaks =
        sym (ap (λ (k : Sizes). judge view.0 (number_of s) from m.epoch (partition_of k m.body)) member.config ∙ ap (judge view.0 (number_of s) from m.epoch) (spoken c.config p m.body speaks))
        ∙ view.2

    counts : speaks_of c.config p m.body ≡ true → counts_at s (Some view.0) from (partition c.config p) m.epoch ≡ true
    counts speaks = ap (λ (x : Verdict). not (is_dropped x)) (judged speaks)

    counted : speaks_of c.config p m.body ≡ true → counts_in (node_at c n) from (partition c.config p) m.epoch ≡ true
    counted speaks =
        ap (λ (o : Option NodeState). counts_in o from (partition c.config p) m.epoch) h.up
        ∙ ap (λ (o : Option View). counts_at s o from (partition c.config p) m.epoch) view.1 ∙ counts speaks

    comes : speaks_of c.config p m.body ≡ true → is_coming c.config p from (node_at c n) m ≡ true
    comes speaks = both_hold (speaks_of c.config p m.body) (counts_in (node_at c n) from (partition c.config p) m.epoch) speaks (counted speaks)

    between : speaks_of c.config p m.body ≡ true → m.epoch ≤ view.0.epoch
    between speaks = ((taken_is_between_law view.0 (number_of s) from m.epoch (partition c.config p)).0 (judged speaks)).reached

    eras : (a.reached n ≡ since_of view.0 (partition c.config p)) × (a.era ≤ a.reached n)
    eras =
        reached_by c (partition c.config p) a.era (a.reached n) s s.view view.0 view.1
        (subst (λ (o : Option NodeState). ReachedIn c (partition c.config p) a.era o (a.reached n)) h.up (related.nodes.eras n))

    seen : speaks_of c.config p m.body ≡ true → IsOfView c view.0 n from (partition c.config p) m.epoch
    seen speaks = counting_is_of_view_law c n s view.0 from (partition c.config p) m.epoch i h.up view.1 (counts speaks) (between speaks)
