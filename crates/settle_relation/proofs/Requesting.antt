-- Messages that come to an owner and are taken.
use Rattle.std.proofs.Common.{◌≡◌, refl, ap, sym, subst, ◌∙◌, ℕ, ◌<◌, ◌==◌, not, true, List, Option, Some, None, is_some, arith}
use Rattle.std.proofs.lemmas.Bool.Decides.{nat_tests}
use Rattle.pcl_base.specs.Limits.{Sizes}
use Rattle.pcl_base.specs.declared.event.Event.{Event}
use Rattle.pcl_base.specs.declared.lock.Waiter.{Waiter}
use Rattle.pcl_base.specs.declared.message.Body.{Body}
use Rattle.pcl_base.specs.declared.message.Body.TheVariants as body
use Rattle.pcl_base.specs.declared.message.Message.{Message}
use Rattle.pcl_base.specs.declared.message.Request.{Request}
use Rattle.pcl_base.specs.declared.reply.Reason.TheVariants as reason
use Rattle.pcl_base.specs.declared.reply.Reply.TheVariants as reply
use Rattle.text_rules.specs.MessageBytes.{IsBody}
use Rattle.run_rules.specs.Views.{View}
use Rattle.node_rules.specs.LockRule.{LockEntry, ask}
use Rattle.node_rules.specs.LockTable.{LockTable, entry_at, put_entry}
use Rattle.node_rules.specs.NodeState.{NodeState, Deliver, partition, table_of}
use Rattle.node_rules.specs.NodeStep.{do_event, work_off}
use Rattle.node_rules.specs.OwnerRule.{with_table}
use Rattle.node_rules.specs.Refusals.{refusal, refuse_if}
use Rattle.node_rules.specs.Work.{Outcome, Goes, Work}
use Rattle.node_laws.specs.Nodes.{IsEntry}
use Rattle.node_laws.proofs.Bases.{base_of}
use Rattle.node_laws.proofs.Entries.{ask_is}
use Rattle.cluster_rules.specs.Clusters.{Cluster}
use Rattle.cluster_rules.specs.ClusterStep.{step}
use Rattle.cluster_laws.specs.Sound.{IsMember}
use Rattle.cluster_laws.proofs.Steps.{events_can_come_law, up_is_member_law}
use Rattle.cluster_laws.specs.Era.Eras.{era_at, era_in}
use Rattle.cluster_laws.specs.Link.Coming.{speaks_of}
use Rattle.page_protocol.specs.State.{Page}
use Rattle.page_protocol.specs.Steps.{here}
use Rattle.page_relation.specs.Messages.{HasAsked, SaysSo}
use Rattle.page_relation.specs.Relation.{IsPageOf}
use Rattle.page_relation.specs.Work.Events.{IsEntered}
use Rattle.page_relation.specs.Work.Keeping.{IsWorkOf, Leads}
use Rattle.page_relation.specs.Work.Landing.{Acts}
use Rattle.page_relation.specs.Work.StepEnds.{start_of, Follows}
use Rattle.page_relation.specs.Work.Taken.{taken_of, TakenSays}
use Rattle.page_relation.proofs.WorkParts.Ended.{end_is_landed_law}
use Rattle.page_relation.proofs.WorkParts.Started.{acting}
use Rattle.page_relation.proofs.WorkParts.Taking.{taken_is_said_law}
use Rattle.settle_relation.specs.Arriving.{IsTakenIn, IsWhole, RequestIsKept}
use Rattle.settle_relation.proofs.Entering.{asked_related, enter_leads}
use Rattle.settle_relation.proofs.Midway.{IsMidway, reply_midway, start_is_midway}
use Rattle.settle_relation.proofs.Rewinding.{own_reached}
use Rattle.settle_relation.proofs.Turns.{IsBetween}

-- a delivery isn't refused at a node in a view
deliver_free : (s : NodeState) (v : View) (from : ℕ) (m : Message) → s.view ≡ Some v → refusal s (Deliver from m) ≡ None
unfolding refusal
deliver_free s v from m is = ap (λ (o : Option View). refuse_if (not (is_some o)) reason.NotInView None) is

module _ (c : Cluster) (e : Event) (n p from : ℕ) (s : NodeState) (m : Message) (blank : List ℕ) (a : Page) (i : IsTakenIn c e n p from s m blank a) where
  abbrev pub w : Work
  w = taken_of c s

  pub acts : Acts c n
  acts = acting c e n s (Deliver from m) i.cluster i.handed

  pub said : TakenSays c e n p a s from m
  said = taken_is_said_law c e n p s from m a i.cluster i.handed i.judged i.related

  member : IsMember c.config c.views n s
  member = (up_is_member_law c n s i.cluster i.handed.up).1

  pub midway : IsMidway (base_of s) c e n w
  midway =
      reply_midway (base_of s) c e n reply.Taken (start_of c s) refl
      (start_is_midway c e n s (Deliver from m) i.cluster i.asks i.handed (deliver_free s said.view from m said.in_view) said.view said.in_view)

  pub can : IsBody s.home.config m.body
  can = (events_can_come_law c e n s (Deliver from m) i.cluster i.handed).1.body

  -- the step works the message off
  pub goes_on : (k : Body) (o : Outcome Work) → m.body ≡ k → do_event c.disk (Deliver from m) (start_of c s) ≡ o → work_off c.disk from k w ≡ o
  goes_on k o is goes = sym (ap (λ (d : Body). work_off c.disk from d w) is) ∙ sym said.goes_on ∙ goes

  -- the era of the node is that of the message
  pub own_era_is : speaks_of c.config p m.body ≡ true → era_in s.view (partition c.config p) ≡ era_at c (partition c.config p) m.epoch
  own_era_is speaks = sym (own_reached (base_of s) c e n w midway p a w.node.tables acts said.related) ∙ said.reached speaks

  -- the step ends there
  pub ended : (x : Work) → IsWhole c n from s m x → Leads c e n p (IsBetween (base_of s) c e n) a x → Follows p IsEntered a (step c e)
  ended x whole led =
      record {
        page = led.page;
        run = led.run;
        related =
            subst (λ (d : Cluster). IsPageOf d p led.page)
            (sym (end_is_landed_law c e n s (Deliver from m) x i.handed (deliver_free s said.view from m said.in_view) whole.goes whole.whole)) led.related;
        known = led.known.1;
      }

  pub low_page : (k : ℕ) → k < s.home.config.pages → k < c.config.pages
  low_page k = subst (λ (d : Sizes). k < d.pages) member.config

  -- ---- a request

  module _ (r : Request) (is : m.body ≡ body.Request r) where
    abbrev pub waiter : Waiter
    waiter = record { tx = r.tx; mode = r.mode; have = r.have }

    named : IsBody s.home.config (body.Request r)
    named = subst (IsBody s.home.config) is can

    speaks : r.page ≡ p → speaks_of c.config p m.body ≡ true
    speaks at = ap (speaks_of c.config p) is ∙ (let same : (r.page == p) ≡ true = grind (arith, nat_tests, at) in same)

    asked : r.page ≡ p → HasAsked (a.reached r.tx.node) (era_in s.view (partition c.config p)) (a.home r.tx) r.have
    asked at =
        subst (λ (k : ℕ). HasAsked (a.reached r.tx.node) k (a.home r.tx) r.have) (sym (own_era_is (speaks at)))
        (subst (SaysSo a.era a.hist a.reached a.listed a.right a.home a.sent p from n (era_at c (partition c.config p) m.epoch)) is (said.head (speaks at)).says)

    pub waits_then : (t : LockTable) → r.page ≡ p → table_of s r.page ≡ Some t → Leads c e n p (λ k d. IsEntered d) a (with_table r.page (put_entry t r.page (ask (entry_at t r.page) waiter)) w)
    waits_then t at there =
        record {
          page = a;
          run = here;
          related =
              subst (λ (k : ℕ). table_of s k ≡ Some t → IsWorkOf c e n p (with_table k (put_entry t k (ask (entry_at t k) waiter)) w) a) (sym at)
              (λ here. asked_related c e n p t waiter w a acts member.config here (asked at) said.related) there;
          known = i.entered;
        }

    inside : r.page < c.config.pages
    inside = low_page r.page named.1

    pub asks_well : (k : LockEntry) → IsEntry s.home.config (base_of s).number k → IsEntry s.home.config (base_of s).number (ask k waiter)
    asks_well k is = ask_is s.home.config (base_of s).number k waiter is named.0

    pub request_leads : (x : Work) → IsWhole c n from s m x → Leads c e n p (IsBetween (base_of s) c e n) a x
    request_leads x whole =
        enter_leads (base_of s) c e n p acts i.order i.below r.page inside (λ k. ask k waiter) asks_well blank w x a i.reached said.related (midway, i.entered) waits_then
        (goes_on (body.Request r) (Goes x) is whole.goes)

pub request_is_kept_law : RequestIsKept
request_is_kept_law c e n p from s m r x blank a i whole is = ended c e n p from s m blank a i x whole (request_leads c e n p from s m blank a i r is x whole)
