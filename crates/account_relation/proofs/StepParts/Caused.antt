-- What a step sends without locks has its causes.
use Rattle.std.proofs.Common.{◌≡◌, ◌≢◌, ◌⊎◌, inl, inr, refl, ap, sym, subst, ◌∙◌, ℕ, ◌%◌, ◌==◌, ◌&&◌, ◌||◌, not, Bool, true, false, List, [], ◌∷◌, Option, Some, None, is_some, option_map, eqb-true}
use Rattle.std.specs.Prelude.{IfSome}
use Rattle.std.specs.List.{AllByRecursion, list_any}
use Rattle.pcl_base.specs.Limits.{Sizes}
use Rattle.pcl_base.specs.declared.event.Event.{Event}
use Rattle.pcl_base.specs.declared.event.Event.TheVariants as event
use Rattle.pcl_base.specs.declared.message.Body.TheVariants as body
use Rattle.pcl_base.specs.declared.reply.Reason.{Reason}
use Rattle.pcl_base.specs.declared.reply.Reason.TheVariants as reason
use Rattle.pcl_base.specs.declared.reply.Reply.{Reply}
use Rattle.pcl_base.specs.declared.reply.Reply.TheVariants as reply
use Rattle.pcl_base.specs.declared.trace.Entry.{Entry}
use Rattle.pcl_base.specs.declared.trace.Note.TheVariants as note
use Rattle.pcl_base.specs.declared.tx.TxId.{TxId}
use Rattle.pcl_base.specs.declared.tx.Mode.{Mode}
use Rattle.run_rules.specs.Account.{heard}
use Rattle.run_rules.specs.Causes.{before_sends, owner_for, is_revocation, is_install, is_installed}
use Rattle.run_rules.specs.Ledger.{Ledger, head_of as first_note, link_at as ledger_link}
use Rattle.run_rules.specs.Taking.{from_if, taken_of, is_waiting}
use Rattle.run_rules.specs.Views.{View, owner_of}
use Rattle.run_rules.specs.Words.{same_tx}
use Rattle.node_rules.specs.NodeState.{NodeState, NodeEvent, Outgoing, owner_in, page_owner}
use Rattle.node_rules.specs.NodeState as node
use Rattle.node_rules.specs.NodeStep.{Plan, nodestep}
use Rattle.node_rules.specs.Refusals.{refusal, refuse_if, refusal_in_view}
use Rattle.node_rules.specs.Work.{Goes}
use Rattle.node_laws.specs.Nodes.{IsViewOf}
use Rattle.node_laws.proofs.Steps.{sends_have_epoch_law}
use Rattle.home_laws.proofs.Tests.{number_same, tx_same}
use Rattle.cluster_rules.specs.Clusters.{Cluster, last_view, note_of}
use Rattle.cluster_rules.specs.Links.{link_at}
use Rattle.cluster_laws.specs.Epochs.{StaysInView, HasInstalled}
use Rattle.cluster_laws.specs.Handed.{IsHanded}
use Rattle.cluster_laws.specs.Laws.{IsGoodPlan}
use Rattle.cluster_laws.specs.Sound.{IsOnLink, IsCluster}
use Rattle.cluster_laws.proofs.Epochs.{steps_keep_views_law}
use Rattle.cluster_laws.proofs.Moving.{no_view_is_refused_law}
use Rattle.cluster_laws.proofs.Steps.{plans_are_good_law}
use Rattle.account_relation.specs.Replies.{AreAnswers, answered, granted, AreReplies}
use Rattle.account_relation.specs.World.{noted, IsWorld}
use Rattle.account_relation.specs.Seen.{AreSeen}
use Rattle.account_relation.proofs.FirstReplies.{steps_answer_law, installs_view}
use Rattle.account_relation.proofs.Entered.{acts}
use Rattle.account_relation.proofs.Noted.{link_noted, head_noted}
use Rattle.account_relation.proofs.SeenSteps.{Installs, installs, no_install}
use Rattle.account_relation.proofs.SeenActs.{heard_view}
use Rattle.account_relation.proofs.Whole.{Made, made_heard}
use Rattle.account_relation.specs.Step.Sends.{is_lock, AreLocks, is_asked, AreReports, to_node, SendsAre, locks, request, answer, reports}
use Rattle.account_relation.proofs.StepParts.Causes.{HasCauses, nothing_caused, request_caused, answer_caused, reports_caused}
use Rattle.account_relation.proofs.StepParts.Handed.{GoesOn, caused_goes, access_of, IsDelivered, delivered_of}
use Rattle.account_relation.proofs.StepParts.SentParts.{steps_send_law}

module _ (c : Cluster) (l : Ledger) (i : IsCluster c) (world : IsWorld c l) (are : AreSeen c l) (e : Event) (n : ℕ) (s : NodeState) (ev : NodeEvent) (p : Plan) (h : IsHanded c e n s ev)
    (goes : nodestep s ev c.disk ≡ Goes p) (none : AllByRecursion (λ o. is_lock o.message.body ≡ false) p.sends) where
  abbrev pub X : Entry
  X = Made c e n s ev p h goes

  abbrev pub Caused : List Outgoing → Type 0
  Caused os = HasCauses X (taken_of e p.replies l) n os (before_sends (heard X l))

  pub good : IsGoodPlan c n s ev p
  good = plans_are_good_law c e n s ev p i h goes

  -- the view of the node after its step
  pub whole : IfSome p.node.view (IsViewOf p.node)
  whole = good.member.sound.view

  pub epoch_of : (v : View) → p.node.view ≡ Some v → v.epoch ≡ p.node.epoch
  epoch_of v at = (subst (λ (o : Option View). IfSome o (IsViewOf p.node)) at whole).epoch

  -- what is sent goes to other nodes, at the epoch of the view
  pub sent_well : (v : View) → p.node.view ≡ Some v → (os : List Outgoing) → AllByRecursion (λ o. IsOnLink c.config (last_view c).epoch n o.to o.message) os
      → AllByRecursion (λ (o : Outgoing). o.message.epoch ≡ p.node.epoch) os → AllByRecursion (λ o. is_lock o.message.body ≡ false) os
      → AllByRecursion (λ (o : Outgoing). (not (o.to == n) ≡ true) × (o.message.epoch ≡ v.epoch) × (is_lock o.message.body ≡ false)) os
  sent_well v at [] on epochs free = tt
  sent_well v at (o ∷ os) on epochs free = ((other o on.0.others, epochs.0 ∙ sym (epoch_of v at), free.0), sent_well v at os on.1 epochs.1 free.1)
    where
      other : (o : Outgoing) → n ≢ o.to → not (o.to == n) ≡ true
      other o apart = by (o.to == n) refl
        where
          by : (b : Bool) → (o.to == n) ≡ b → not b ≡ true
          by true is = absurd (apart (sym (eqb-true o.to n is)))
          by false is = refl

  pub well : (v : View) → p.node.view ≡ Some v → AllByRecursion (λ (o : Outgoing). (not (o.to == n) ≡ true) × (o.message.epoch ≡ v.epoch) × (is_lock o.message.body ≡ false)) p.sends
  well v at = sent_well v at p.sends good.sends (sends_have_epoch_law s ev c.disk p good.step) none

  pub replies : AreReplies (refusal s ev) ev p.replies
  replies = steps_answer_law s ev c.disk p goes

  -- a step that wasn't refused is one of a node in a view
  pub was_viewed : (b : Bool) (o : Option Reason) → refuse_if (not b) reason.NotInView o ≡ None → b ≡ true
  was_viewed true o e = refl
  was_viewed false o e = absurd (cc)

  -- no send, since it would be a lock
  pub no_locks : (os : List Outgoing) → AreLocks os → AllByRecursion (λ o. is_lock o.message.body ≡ false) os → os ≡ []
  no_locks [] are free = refl
  no_locks (o ∷ os) are free = let lock = are.0 in let none = free.0 in absurd (cc)

  -- the owner of a page, as the ledger has it
  pub owner_heard : (v : View) (q : ℕ) → p.node.view ≡ Some v → owner_for (heard X l) n q ≡ page_owner p.node q
  owner_heard v q at =
      ap (λ (w : View). owner_of w (q % (heard X l).config.nodes)) (heard_view c l i world are e n s ev p h goes v at)
      ∙ ap (λ (k : Sizes). owner_of v (q % k.nodes)) ((made_heard c e n s ev p h goes l world).config ∙ sym good.member.config)
      ∙ ap (λ (o : Option View). owner_in o (q % p.node.home.config.nodes)) (sym at)

  -- a request
  pub request_sent : (v : View) (t : TxId) (q : ℕ) (m : Mode) (have : Option ℕ) → p.node.view ≡ Some v → is_asked ev t q m ≡ true → p.replies ≡ reply.Waits t q ∷ []
      → p.sends ≡ to_node (page_owner p.node q) p.node.epoch (body.Request (record { tx = t; page = q; mode = m; have = have })) ∷ [] → Caused p.sends
  request_sent v t q m have at asks rs os =
      let all = subst (AllByRecursion (λ (o : Outgoing). (not (o.to == n) ≡ true) × (o.message.epoch ≡ v.epoch) × (is_lock o.message.body ≡ false))) os (well v at) in
      subst Caused (sym os)
      (request_caused X (taken_of e p.replies l) n (page_owner p.node q) p.node.epoch t q m have (before_sends (heard X l)) refl refl (access_of c e s ev t q m h.event asks)
      (ap (list_any (is_waiting t q)) rs ∙ waits) (owner_heard v q at) (all.0.0, all.0.1 ∙ ap (λ (w : View). w.epoch) (sym (heard_view c l i world are e n s ev p h goes v at))))
    where
      both : (a b : Bool) → a ≡ true → b ≡ true → (a && b) || false ≡ true
      both a b x y = cc

      waits : list_any (is_waiting t q) (reply.Waits t q ∷ []) ≡ true
      waits = both (same_tx t t) (q == q) (tx_same t) (number_same q)

  -- an answer
  pub answer_sent : (v : View) (from epoch q : ℕ) (readers : List TxId) → p.node.view ≡ Some v → ev ≡ node.Deliver from (record { epoch = epoch; body = body.Revoke q }) → p.replies ≡ reply.Taken ∷ []
      → p.sends ≡ to_node from p.node.epoch (body.Return (record { page = q; readers = readers })) ∷ [] → Caused p.sends
  unfolding note_of
  answer_sent v from epoch q readers at is rs os =
      let all = subst (AllByRecursion (λ (o : Outgoing). (not (o.to == n) ≡ true) × (o.message.epoch ≡ v.epoch) × (is_lock o.message.body ≡ false))) os (well v at) in
      subst Caused (sym os)
      (answer_caused X (taken_of e p.replies l) n from p.node.epoch q readers (before_sends (heard X l)) refl refl taken
      (all.0.0, all.0.1 ∙ ap (λ (w : View). w.epoch) (sym (heard_view c l i world are e n s ev p h goes v at))))
    where
      d : IsDelivered c e from (record { epoch = epoch; body = body.Revoke q })
      d = delivered_of c e s from (record { epoch = epoch; body = body.Revoke q }) (h.event ∙ ap Some is)

      first : first_note (ledger_link l.links from d.to) ≡ Some (note.Revoke q)
      first =
          ap (λ ls. first_note (ledger_link ls from d.to)) world.links ∙ ap first_note (link_noted c.links from d.to) ∙ head_noted (link_at c.links from d.to)
          ∙ ap (option_map noted) d.head

      both : (a b : Bool) → a ≡ true → b ≡ true → a && b ≡ true
      both a b x y = cc

      taken : is_revocation from q (taken_of e p.replies l) ≡ true
      taken =
          ap (λ (x : Event). is_revocation from q (taken_of x p.replies l)) d.event ∙ ap (λ rs. is_revocation from q (taken_of (event.Deliver from d.to) rs l)) rs
          ∙ ap (λ o. is_revocation from q (from_if from o)) first ∙ both (from == from) (q == q) (number_same from) (number_same q)

  -- reports
  pub reports_sent : (v : View) (high : ℕ) → ev ≡ node.Install v → AreReports v 0 high p.sends → Caused p.sends
  reports_sent v high is sent = by (is_install e) refl
    where
      by : (b : Bool) → is_install e ≡ b → Caused p.sends
      by false other = absurd (no_install c e s v other (h.event ∙ ap Some is))
      by true installing =
          reports_caused X (taken_of e p.replies l) n v installing (told (subst (λ (o : Option Reason). AreReplies o (node.Install v) p.replies) free (subst (λ (x : NodeEvent). AreReplies (refusal s x) x p.replies) is replies))) 0 high p.sends
          (before_sends (heard X l)) (heard_view c l i world are e n s ev p h goes v at) refl tt sent (well v at)
        where
          x : Installs c s ev
          x = installs c e s ev installing h.event

          same : x.view ≡ v
          same = let eq : node.Install x.view ≡ node.Install v = sym x.event ∙ is in cc

          free : refusal s (node.Install v) ≡ None
          free = no_view_is_refused_law c n s v i h.up (x.there ∙ ap Some same)

          at : p.node.view ≡ Some v
          at = installs_view s v c.disk p free (subst (λ (y : NodeEvent). nodestep s y c.disk ≡ Goes p) is goes)

          told : AreAnswers (node.Install v) p.replies → list_any (is_installed v.epoch) p.replies ≡ true
          told (answered first rest joined own behind) = ap (list_any (is_installed v.epoch)) joined ∙ ap (λ b. b || list_any (is_installed v.epoch) rest) own
          told (granted asks behind) = absurd (cc)

  -- what a step sends that isn't refused
  pub not_refused : {X : Type 0} (r : Reply) (t : Reason) → p.replies ≡ r ∷ [] → refusal s ev ≡ Some t → (r ≡ reply.Refused t → X) → X
  not_refused r t one is f =
      f (let both : r ∷ [] ≡ reply.Refused t ∷ [] = sym one ∙ subst (λ (o : Option Reason). AreReplies o ev p.replies) is replies in cc)

  pub in_view : (y : NodeEvent) → ((v : View) → y ≢ node.Install v) → refusal s y ≡ None → is_some s.view ≡ true
  unfolding refusal
  in_view node.Begin f e = was_viewed (is_some s.view) (refusal_in_view s node.Begin) e
  in_view (node.Read t q) f e = was_viewed (is_some s.view) (refusal_in_view s (node.Read t q)) e
  in_view (node.Write t q place bytes) f e = was_viewed (is_some s.view) (refusal_in_view s (node.Write t q place bytes)) e
  in_view (node.Commit t) f e = was_viewed (is_some s.view) (refusal_in_view s (node.Commit t)) e
  in_view (node.Abort t) f e = was_viewed (is_some s.view) (refusal_in_view s (node.Abort t)) e
  in_view (node.Deliver from m) f e = was_viewed (is_some s.view) (refusal_in_view s (node.Deliver from m)) e
  in_view (node.Evict q) f e = was_viewed (is_some s.view) (refusal_in_view s (node.Evict q)) e
  in_view (node.Flush q) f e = was_viewed (is_some s.view) (refusal_in_view s (node.Flush q)) e
  in_view (node.Install v) f e = absurd (f v refl)
  in_view node.Cut f e = was_viewed (is_some s.view) (refusal_in_view s node.Cut) e

  pub viewed : (r : Reply) → p.replies ≡ r ∷ [] → ((t : Reason) → r ≡ reply.Refused t → ⊥) → ((v : View) → ev ≢ node.Install v) → is_some p.node.view ≡ true
  viewed r one never other = by (refusal s ev) refl
    where
      by : (o : Option Reason) → refusal s ev ≡ o → is_some p.node.view ≡ true
      by (Some t) is = absurd (not_refused r t one is (never t))
      by None is = ap is_some (stays (steps_keep_views_law s ev c.disk p goes)) ∙ in_view ev other is
        where
          stays : StaysInView s p.node ⊎ HasInstalled s ev p.node → p.node.view ≡ s.view
          stays (inl x) = x.view
          stays (inr x) = absurd (other x.next x.asked)

  pub with_view : (o : Option View) → p.node.view ≡ o → is_some o ≡ true → ((v : View) → p.node.view ≡ Some v → Caused p.sends) → Caused p.sends
  with_view None at is f = absurd (cc)
  with_view (Some v) at is f = f v at

  pub by_sends : SendsAre ev p.node p.replies p.sends → Caused p.sends
  by_sends (locks are) = subst Caused (sym (no_locks p.sends are none)) (nothing_caused X (taken_of e p.replies l) n (before_sends (heard X l)) refl)
  by_sends (request t q m have asks rs os) =
      with_view p.node.view refl (viewed (reply.Waits t q) rs (λ r bad. cc) (λ v bad. no_asking v (subst (λ (x : NodeEvent). is_asked x t q m ≡ true) bad asks))) (λ v at. request_sent v t q m have at asks rs os)
    where
      no_asking : (v : View) → is_asked (node.Install v) t q m ≡ true → ⊥
      no_asking v e = cc
  by_sends (answer from epoch q readers is rs os) =
      with_view p.node.view refl (viewed reply.Taken rs (λ r bad. cc) (λ v bad. no_delivery v (sym is ∙ bad))) (λ v at. answer_sent v from epoch q readers at is rs os)
    where
      no_delivery : (v : View) → node.Deliver from (record { epoch = epoch; body = body.Revoke q }) ≡ node.Install v → ⊥
      no_delivery v e = cc
  by_sends (reports v high is sent) = reports_sent v high is sent

  pub made_goes : GoesOn X l
  made_goes = caused_goes X l n p.sends refl (acts e n h.acts) (by_sends (steps_send_law s ev c.disk p goes))
