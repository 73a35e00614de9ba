-- What the trace tells and what comes on the links once a transaction was closed and answered.
use Rattle.std.proofs.Common.{◌≡◌, refl, sym, ap, subst, ◌∙◌, ℕ, ◌&&◌, Bool, true, false, List, [], ◌∷◌, ◌++◌, append-nil, map, Some}
use Rattle.std.specs.Prelude.{⊤}
use Rattle.std.specs.List.{filter}
use Rattle.pcl_base.specs.declared.event.Event.{Event}
use Rattle.pcl_base.specs.declared.event.Event.TheVariants as event
use Rattle.pcl_base.specs.declared.tx.TxId.{TxId}
use Rattle.run_rules.specs.Script.{Moment, asked, told, moments, is_refusal}
use Rattle.node_rules.specs.NodeState.{NodeState, NodeEvent, Commit, Abort, Deliver}
use Rattle.node_rules.specs.NodeState as node
use Rattle.node_rules.specs.Words.{pick}
use Rattle.node_rules.specs.Work.{Work}
use Rattle.cluster_rules.specs.Clusters.{Cluster, node_at, sent_by}
use Rattle.cluster_rules.specs.ClusterStep.{is_taken}
use Rattle.cluster_rules.specs.Links.{link_at, tail_of}
use Rattle.cluster_laws.specs.Handed.{handed_to, IsHanded}
use Rattle.cluster_laws.specs.Sound.{IsCluster}
use Rattle.cluster_laws.specs.Link.Coming.{is_coming, coming, sent_to, delivers}
use Rattle.cluster_laws.proofs.LinkParts.Heads.{delivers_is, handed_head}
use Rattle.page_laws.specs.Moment.Looks.{Adds, with_entry}
use Rattle.page_laws.proofs.MomentParts.Entries.{event_adds_law, reply_adds_law}
use Rattle.page_relation.specs.Work.Landing.{land, trace_of}
use Rattle.page_relation.specs.Work.StepEnds.{start_of}
use Rattle.page_relation.specs.Work.Unseen.{SameStanding, speaks}
use Rattle.page_relation.proofs.WorkParts.Comings.{coming_same}
use Rattle.page_relation.proofs.WorkParts.Started.{acting, begun_coming}
use Rattle.end_relation.specs.Over.{event_of, reply_of}

-- the event of an end
abbrev IsEndEvent : NodeEvent → Type 0
IsEndEvent (Commit t) = ⊤
IsEndEvent (Abort t) = ⊤
IsEndEvent _ = ⊥

is_end : (b : Bool) (t : TxId) → IsEndEvent (event_of b t)
is_end true t = tt
is_end false t = tt

one_event : (x y : NodeEvent) → Some x ≡ Some y → x ≡ y
one_event x y e = cc

not_end : (x ev : NodeEvent) → (IsEndEvent x → ⊥) → Some x ≡ Some ev → IsEndEvent ev → ⊥
not_end x ev never e is = never (subst IsEndEvent (sym (one_event x ev e)) is)

-- it asks for no access
asks_nothing : (c : Cluster) (s : NodeState) (e : Event) (ev : NodeEvent) → handed_to c s e ≡ Some ev → IsEndEvent ev → asked e ≡ []
asks_nothing c s (event.Begin n) ev h is = refl
asks_nothing c s (event.Read u p) ev h is = absurd (not_end (node.Read u p) ev (λ i. i) h is)
asks_nothing c s (event.Write u p place bytes) ev h is = absurd (not_end (node.Write u p place bytes) ev (λ i. i) h is)
asks_nothing c s (event.Commit u) ev h is = refl
asks_nothing c s (event.Abort u) ev h is = refl
asks_nothing c s (event.Deliver from to) ev h is = refl
asks_nothing c s (event.Evict n p) ev h is = refl
asks_nothing c s (event.Flush n p) ev h is = refl
asks_nothing c s (event.Crash n) ev h is = refl
asks_nothing c s (event.View live owners) ev h is = refl
asks_nothing c s (event.Install n) ev h is = refl
asks_nothing c s event.Reopen ev h is = refl
asks_nothing c s (event.Arm n call kept) ev h is = refl
asks_nothing c s (event.Cut n) ev h is = refl

no_refusal : (b : Bool) (t : TxId) → is_refusal (reply_of b t) ≡ false
no_refusal true t = refl
no_refusal false t = refl

takes : (b : Bool) (t : TxId) → is_taken (reply_of b t ∷ []) ≡ true
takes true t = refl
takes false t = refl

module _ (c : Cluster) (e : Event) (n : ℕ) (s : NodeState) (b : Bool) (t : TxId) (i : IsCluster c) (h : IsHanded c e n s (event_of b t)) where
  -- the trace with the reply
  pub end_adds : Adds c.trace (told (reply_of b t)) (with_entry c.trace e (reply_of b t ∷ []) [])
  end_adds =
      reply_adds_law c.trace e [] (reply_of b t) [] [] (no_refusal b t)
      ∙ ap (λ (ms : List Moment). ms ++ told (reply_of b t))
      (event_adds_law c.trace e [] ∙ ap (λ (ms : List Moment). moments c.trace ++ ms) (asks_nothing c s e (event_of b t) h.event (is_end b t)) ∙ append-nil (moments c.trace))

  -- no head is delivered
  none_delivered : (y z : ℕ) → delivers e y z ≡ false
  none_delivered y z = by (delivers e y z) refl
    where
      not_both : (d : Bool) (m : NodeEvent) → event_of d t ≡ m → (IsEndEvent m → ⊥) → ⊥
      not_both d m same never = never (subst IsEndEvent same (is_end d t))

      by : (d : Bool) → delivers e y z ≡ d → d ≡ false
      by true is =
          let head = (handed_head c e y z n s (event_of b t) i (delivers_is e y z is) h).0 in
          absurd (not_both b (Deliver y head.message) head.event (λ k. k))
      by false is = refl

  -- what comes is what came
  pub end_coming : (p : ℕ) (x : Work) → SameStanding s x.node → x.replies ≡ reply_of b t ∷ [] → x.sends ≡ [] → (y z : ℕ) → coming (land c e n x) p y z ≡ coming c p y z
  unfolding coming
  end_coming p x standing replies sends y z =
      coming_same c e n p (acting c e n s (event_of b t) i h) (start_of c s) x standing (ap is_taken replies ∙ takes b t)
      (λ m. ap (λ os. filter (speaks c.config p) (sent_to m os)) sends) y z
      ∙ begun_coming c e n p s (event_of b t) i h [] y z
      ∙ ap (λ (d : Bool). filter (is_coming c.config p y (node_at c z)) (pick (d && true) (tail_of (link_at c.links y z)) (link_at c.links y z))) (none_delivered y z)

  -- the trace of such a work
  pub end_trace : (x : Work) → x.replies ≡ reply_of b t ∷ [] → x.sends ≡ [] → trace_of c e n x ≡ with_entry c.trace e (reply_of b t ∷ []) []
  end_trace x replies sends = (λ k. with_entry c.trace e (replies k) (map (sent_by n) (sends k)))
