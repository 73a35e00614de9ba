-- An access that waits, whose owner is another node: a request is sent.
use Rattle.std.proofs.Common.{◌≡◌, refl, ap, sym, subst, ◌∙◌, ℕ, ◌==◌, false, Option, Some, None, arith}
use Rattle.pcl_base.specs.Limits.{Sizes}
use Rattle.pcl_base.specs.declared.event.Event.{Event}
use Rattle.pcl_base.specs.declared.lock.Held.{Held}
use Rattle.pcl_base.specs.declared.message.Body.TheVariants as body
use Rattle.pcl_base.specs.declared.reply.Reply.TheVariants as reply
use Rattle.node_rules.specs.AccessRule.{Access, is_held, mode_of_write}
use Rattle.node_rules.specs.BufferRule.{find}
use Rattle.node_rules.specs.NodeState.{NodeState, owner_in, partition, page_owner, number_of}
use Rattle.node_rules.specs.OpenTxs.{held_by, mode_held}
use Rattle.node_rules.specs.Words.{covers}
use Rattle.node_rules.specs.Work.{Work, send}
use Rattle.home_laws.specs.Homes.{IsHome}
use Rattle.home_laws.specs.Refused.{access_refusal}
use Rattle.cluster_rules.specs.Clusters.{Cluster, node_at}
use Rattle.cluster_laws.specs.Era.Eras.{era_at}
use Rattle.cluster_laws.specs.Link.EpochLaws.{IsInOrder}
use Rattle.page_protocol.specs.State.{Home, Page}
use Rattle.page_protocol.specs.Steps.{Run, here, then}
use Rattle.page_protocol.proofs.Basics.{upd_same}
use Rattle.page_relation.specs.Messages.{HasAsked}
use Rattle.page_relation.specs.Work.Events.{IsEntered}
use Rattle.page_relation.specs.Work.Keeping.{IsWorkOf, Leads}
use Rattle.page_relation.specs.Work.Landing.{Acts}
use Rattle.page_relation.specs.Work.Sends.{MaySend}
use Rattle.page_relation.specs.Work.StepEnds.{start_of}
use Rattle.page_relation.proofs.WorkParts.Framing.{unseen_is_kept_law}
use Rattle.page_relation.proofs.WorkParts.Quiet.{quiet_replies_law}
use Rattle.page_relation.proofs.WorkParts.Sending.{nothing_is_ahead_law, send_is_kept_law}
use Rattle.end_relation.proofs.AccessParts.Asking.{Asks, wait_asks, wait_page, wait_related}
use Rattle.end_relation.proofs.AccessParts.Framed.{framed, owned, beside, opened, idle, finds, waiter, request, replied}
use Rattle.end_relation.proofs.AccessParts.Looking.{found}

module _ (c : Cluster) (e : Event) (n : ℕ) (acts : Acts c n) (x : Access) (s : NodeState) (home : IsHome s.home) (fine : access_refusal x s.home ≡ None) (at : x.tx.node ≡ n)
    (held : is_held x s.home ≡ false) (a : Page) (related : IsWorkOf c e n x.page (framed x (start_of c s) home fine) a) where
  abbrev w : Work
  w = start_of c s

  abbrev y : Work
  y = framed x w home fine

  pub uncovered : covers (mode_held (held_by y.node.home.txs x.tx x.page)) (mode_of_write x.write) ≡ false
  uncovered = ap (λ (o : Option Held). covers (mode_held o) (mode_of_write x.write)) ((beside x w home fine).locks.held x.tx x.page) ∙ held

  abbrev pub asks : Asks a x.tx (held_by y.node.home.txs x.tx x.page) (mode_of_write x.write)
  asks = wait_asks c e n acts x y a related at (opened x w home fine) (idle x w home fine) uncovered

  -- the state of the machine once it waits
  abbrev pub asked_page : Page
  asked_page = wait_page c e n acts x y a related at (opened x w home fine) (idle x w home fine) uncovered

  pub asked_run : Run a asked_page
  asked_run = then here asks.step

  pub asked_related : IsWorkOf c e n x.page (waiter x w home fine) asked_page
  asked_related = wait_related c e n acts x y a related at (opened x w home fine) (idle x w home fine) uncovered

  -- it has asked, with the version of its node's copy
  pub has_asked : (reached era : ℕ) → HasAsked reached era (asked_page.home x.tx) (find w.node.home.pool x.page)
  has_asked reached era =
      subst (λ (h : Home). HasAsked reached era h (find w.node.home.pool x.page)) (sym (upd_same a.home x.tx asks.home))
      (subst (HasAsked reached era asks.home) (sym (found c e n x.page acts y a related x.tx at) ∙ finds x w home fine) (asks.asked reached era))

  pub asked_entered : IsEntered a → IsEntered asked_page
  asked_entered is = is

  -- the request is sent
  module _ (order : IsInOrder c) (up : node_at c n ≡ Some s) (number : number_of s ≡ n) (away : owned x w home fine ≡ false) (entered : IsEntered a) where
    abbrev z : Work
    z = replied x w home fine

    abbrev to : ℕ
    to = page_owner z.node x.page

    other : (to == n) ≡ false
    other =
        ap (λ (k : Sizes). owner_in s.view (partition k x.page) == n) (beside x w home fine).life.config
        ∙ ap (λ (k : ℕ). page_owner s x.page == k) (sym number)
        ∙ away

    may_ask : MaySend c e n x.page z asked_page to (body.Request (request x w home fine))
    may_ask =
        record {
          other = other;
          no_report = refl;
          says = λ comes. has_asked (asked_page.reached x.tx.node) (era_at c (partition c.config x.page) z.node.epoch);
          behind = nothing_is_ahead_law c e n x.page to s.epoch s z acts order up (omega arith) tt;
          no_release = λ t k. absurd (cc);
          no_right = λ k. absurd (cc);
          no_answer = λ k. absurd (cc);
        }

    pub asked_leads : Leads c e n x.page (λ k b. IsEntered b) a (send to (body.Request (request x w home fine)) z)
    asked_leads =
        record {
          page = asked_page;
          run = asked_run;
          related =
              send_is_kept_law c e n x.page to (body.Request (request x w home fine)) z asked_page acts may_ask
              (unseen_is_kept_law c e n x.page (waiter x w home fine) z asked_page acts (quiet_replies_law c e n x.page (reply.Waits x.tx x.page) (waiter x w home fine) refl refl) asked_related);
          known = asked_entered entered;
        }
