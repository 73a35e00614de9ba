-- A grant that is taken, and what is known of its transaction and of the work then.
use Rattle.std.proofs.Common.{◌≡◌, refl, ap, sym, subst, ◌∙◌, ℕ, ◌<◌, ◌==◌, true, false, List, [], Option, Some, None, is_some, not, eqb-true, mod-lt, arith}
use Rattle.std.specs.Prelude.{IfSome}
use Rattle.pcl_base.specs.declared.event.Event.{Event}
use Rattle.pcl_base.specs.declared.lock.Pending.{Pending}
use Rattle.pcl_base.specs.declared.message.Grant.{Grant}
use Rattle.pcl_base.specs.declared.message.Message.{Message}
use Rattle.pcl_base.specs.declared.reply.Reason.TheVariants as reason
use Rattle.pcl_base.specs.declared.reply.Reply.TheVariants as reply
use Rattle.pcl_base.specs.declared.tx.Mode.{Mode}
use Rattle.pcl_base.specs.declared.tx.TxId.{TxId}
use Rattle.run_rules.specs.Script.{asked}
use Rattle.run_rules.specs.Views.{View}
use Rattle.node_rules.specs.AccessRule.{image_of, readers_after, shelf_after, write_of}
use Rattle.node_rules.specs.InstallRule.{owned_before}
use Rattle.node_rules.specs.NodeState.{HomeState, NodeState, Deliver, number_of, partition, table_of}
use Rattle.node_rules.specs.NodeStep.{do_event, work_off}
use Rattle.node_rules.specs.OpenTxs.{pending_of, waits_as}
use Rattle.node_rules.specs.OwnerRule.{told}
use Rattle.node_rules.specs.Refusals.{refusal, refuse_if}
use Rattle.node_rules.specs.Shelf.{Right, right_on}
use Rattle.node_rules.specs.Work.{Goes, Work, work_of_home}
use Rattle.home_laws.proofs.Opens.{open_is_own}
use Rattle.home_laws.proofs.Tests.{and_left}
use Rattle.cluster_rules.specs.Clusters.{Cluster, node_at, stop_at}
use Rattle.cluster_rules.specs.ClusterStep.{left_of, step}
use Rattle.cluster_laws.specs.Sound.{IsMember}
use Rattle.cluster_laws.proofs.Steps.{up_is_member_law}
use Rattle.page_laws.specs.Look.Ends.{version_of_right}
use Rattle.page_laws.specs.Look.Grants.{lock_granted, with_shelf}
use Rattle.page_laws.specs.Moment.Looks.{Adds, asked_last, with_entry}
use Rattle.page_laws.proofs.MomentParts.Entries.{event_adds_law}
use Rattle.page_laws.proofs.MomentParts.Growing.{nothing_tells_law}
use Rattle.page_protocol.specs.State.{Page}
use Rattle.page_protocol.specs.Steps.{here}
use Rattle.page_relation.specs.Relation.{IsPageOf}
use Rattle.page_relation.specs.Together.{WaitsAsAsked}
use Rattle.page_relation.specs.Work.Events.{IsEntered}
use Rattle.page_relation.specs.Work.Keeping.{Leads}
use Rattle.page_relation.specs.Work.Landing.{land, Acts, trace_of}
use Rattle.page_relation.specs.Work.StepEnds.{Follows, start_of}
use Rattle.page_relation.specs.Work.Taken.{TakenSays, taken_of}
use Rattle.page_relation.specs.Work.Unseen.{IsUnseen}
use Rattle.page_relation.proofs.WorkParts.Ended.{end_is_landed_law, no_calls}
use Rattle.page_relation.proofs.WorkParts.Framing.{unseen_is_kept_law, unseen_then}
use Rattle.page_relation.proofs.WorkParts.Granting.{grants_elsewhere_law}
use Rattle.page_relation.proofs.WorkParts.Quiet.{homes_elsewhere_law, reply_told}
use Rattle.page_relation.proofs.WorkParts.Started.{acting, deliver_is}
use Rattle.page_relation.proofs.WorkParts.Taking.{taken_is_said_law}
use Rattle.settle_relation.specs.Grant.Arriving.{GrantComes}
use Rattle.settle_relation.proofs.GrantParts.Arrived.{GrantIs, done, grant_is, ignored, kept, no_calls_made, read_by, shelved}
use Rattle.settle_relation.proofs.GrantParts.Ready.{IsReady, ready}
use Rattle.settle_relation.proofs.GrantParts.Shelving.{readers_there, shelf_there}

-- a delivery to a node in a view isn't refused
deliver_free : (s : NodeState) (v : View) (from : ℕ) (m : Message) → s.view ≡ Some v → refusal s (Deliver from m) ≡ None
unfolding refusal
deliver_free s v from m is = ap (λ (o : Option View). refuse_if (not (is_some o)) reason.NotInView None) is

-- other rights of the home leave what it has of a transaction that waits
pub ready_on : (p : ℕ) (t : TxId) (m : Mode) (h : HomeState) (shelf : List Right) → IsReady p t m h → IsReady p t m (record h { shelf = shelf })
ready_on p t m h shelf is =
    record {
      access = is.access;
      waits = is.waits;
      page = is.page;
      mode = is.mode;
      asks = is.asks;
      inside = is.inside;
      uncovered = is.uncovered;
      opened = is.opened;
      slot = is.slot;
      private = is.private;
      runs = is.runs;
    }

-- rights with the same version of the page aren't seen
pub unseen_shelf : (c : Cluster) (e : Event) (n p : ℕ) (shelf : List Right) (w : Work) → version_of_right (right_on shelf p) ≡ version_of_right (right_on w.node.home.shelf p)
    → IsUnseen c e n p w (shelved shelf w)
unseen_shelf c e n p shelf w same =
    homes_elsewhere_law c e n p w (with_shelf shelf (work_of_home w)) (record { config = refl; node = refl; born = refl; last = refl; alive = λ t. refl })
    (record { uses = record { held = λ t. refl; waits = λ t. refl; bytes = λ t. refl; runs = λ t. refl }; copy = refl; right = same }) (λ disk log is. is)

module _ (c : Cluster) (e : Event) (n p from : ℕ) (s : NodeState) (m : Message) (g : Grant) (a : Page) (comes : GrantComes c e n from s m g) (related : IsPageOf c p a) where
  pub said : TakenSays c e n p a s from m
  said = taken_is_said_law c e n p s from m a comes.cluster comes.handed comes.judged related

  pub acts : Acts c n
  acts = acting c e n s (Deliver from m) comes.cluster comes.handed

  pub member : IsMember c.config c.views n s
  member = (up_is_member_law c n s comes.cluster comes.handed.up).1

  -- the event asks for nothing, so what was asked for last is as before the step
  pub asked_same : (t : TxId) → asked_last t (trace_of c e n (taken_of c s)) ≡ asked_last t c.trace
  asked_same t =
      (nothing_tells_law c.config (trace_of c e n (start_of c s)) (trace_of c e n (taken_of c s)) (reply_told c e n reply.Taken (start_of c s) refl)).asked t
      ∙ (nothing_tells_law c.config c.trace (with_entry c.trace e [] [])
      (subst (λ ms. Adds c.trace ms (with_entry c.trace e [] [])) (ap asked (deliver_is c e n s from m comes.handed.acts comes.handed.event).0) (event_adds_law c.trace e []))).asked t

  pub is_ready : waits_as (pending_of s.home.txs g.tx) g.page g.mode ≡ true → IsReady g.page g.tx g.mode s.home
  is_ready waits = ready g.page g.tx g.mode s.home member.sound.home waits

  pub mine : waits_as (pending_of s.home.txs g.tx) g.page g.mode ≡ true → g.tx.node ≡ n
  mine waits =
      eqb-true g.tx.node s.home.txs.node
      (and_left (g.tx.node == s.home.txs.node) (g.tx.born == s.home.txs.born) (open_is_own s.home.txs g.tx (is_ready waits).opened))
      ∙ member.number

  pub asked_now : waits_as (pending_of s.home.txs g.tx) g.page g.mode ≡ true → IfSome (pending_of s.home.txs g.tx) (λ (x : Pending). x.write ≡ asked_last g.tx (trace_of c e n (taken_of c s)))
  asked_now waits =
      subst (λ k. IfSome (pending_of s.home.txs g.tx) (λ (x : Pending). x.write ≡ k)) (sym (asked_same g.tx))
      (subst (WaitsAsAsked c g.tx) (ap (node_at c) (mine waits) ∙ comes.handed.up) (comes.asked g.tx))

  -- a node without a table doesn't own the page
  pub away : table_of s g.page ≡ None → owned_before s.view (partition s.home.config g.page) (number_of s) ≡ false
  away none = sym (member.sound.owned (partition s.home.config g.page) low) ∙ ap is_some none
    where
      low : partition s.home.config g.page < s.home.config.nodes
      low = let some = member.sound.limits.some_nodes in mod-lt g.page (omega (arith, some))

  -- how the step goes on, and how it ends
  pub comes_to : (w : Work) → do_event c.disk (Deliver from m) (start_of c s) ≡ Goes w → GrantIs g (taken_of c s) w
  comes_to w goes =
      grant_is g (taken_of c s) w (sym (said.goes_on ∙ ap (λ b. work_off c.disk from b (taken_of c s)) comes.body) ∙ goes)

  pub ended : (w : Work) → do_event c.disk (Deliver from m) (start_of c s) ≡ Goes w → GrantIs g (taken_of c s) w → step c e ≡ land c e n w
  ended w goes is =
      end_is_landed_law c e n s (Deliver from m) w comes.handed (deliver_free s said.view from m said.in_view) goes
      (ap (λ cs. left_of n c.disk cs (stop_at c n)) (no_calls_made g (taken_of c s) w refl is) ∙ no_calls n c.disk (stop_at c n))

  -- a run to a state of the last work
  pub follows : (w : Work) → Leads c e n p (λ x b. IsEntered b) a w → step c e ≡ land c e n w → Follows p IsEntered a (step c e)
  follows w leads same =
      record { page = leads.page; run = leads.run; related = subst (λ (d : Cluster). IsPageOf d p leads.page) (sym same) leads.related; known = leads.known }

  pub same_state : IsEntered a → (w : Work) → IsUnseen c e n p (taken_of c s) w → Leads c e n p (λ x b. IsEntered b) a w
  same_state entered w unseen = record { page = a; run = here; related = unseen_is_kept_law c e n p (taken_of c s) w a acts unseen said.related; known = entered }

  -- a grant of another page
  pub other_unseen : (g.page == p) ≡ false → (w : Work) → GrantIs g (taken_of c s) w → IsUnseen c e n p (taken_of c s) w
  other_unseen other w (ignored same) = subst (IsUnseen c e n p (taken_of c s)) (sym same) (unseen_shelf c e n p s.home.shelf (taken_of c s) refl)
  other_unseen other w (kept table same) =
      subst (IsUnseen c e n p (taken_of c s)) (sym same)
      (unseen_shelf c e n p (shelf_after g s.home.shelf) (taken_of c s) (ap version_of_right (shelf_there g s.home.shelf p other)))
  other_unseen other w (done table waits y goes same) =
      subst (IsUnseen c e n p (taken_of c s)) (sym same)
      (unseen_then c e n p (taken_of c s) (read_by g (taken_of c s)) (told (read_by g (taken_of c s)) y)
      (unseen_shelf c e n p (readers_after g (shelf_after g s.home.shelf)) (taken_of c s)
      (ap version_of_right (readers_there g (shelf_after g s.home.shelf) p other ∙ shelf_there g s.home.shelf p other)))
      (grants_elsewhere_law c e n p g.tx (lock_granted g false) g.version (image_of g.copy) (read_by g (taken_of c s)) y other
      (record {
        opened = (is_ready waits).opened;
        slot = (is_ready waits).slot;
        private = λ write some. (is_ready waits).private (ap is_some (sym (ap write_of (is_ready waits).waits) ∙ some));
        asked = λ write some.
            sym (subst (λ o. IfSome o (λ (x : Pending). x.write ≡ asked_last g.tx (trace_of c e n (taken_of c s)))) (is_ready waits).waits (asked_now waits))
            ∙ sym (ap write_of (is_ready waits).waits) ∙ some;
        called = refl;
      })
      goes))
