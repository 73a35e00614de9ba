-- Reads and writes whole.
use Rattle.std.proofs.Common.{◌≡◌, refl, sym, subst, ◌∙◌, ℕ, ◌+◌, ◌<◌, not, Bool, true, false, List, [], ◌∷◌, Option, Some, None, is_some, option_map}
use Rattle.pcl_base.specs.declared.event.Event.{Event}
use Rattle.pcl_base.specs.declared.event.Event.TheVariants as event
use Rattle.pcl_base.specs.declared.message.Message.{Message}
use Rattle.pcl_base.specs.declared.reply.Reason.{Reason}
use Rattle.pcl_base.specs.declared.reply.Reason.TheVariants as reason
use Rattle.pcl_base.specs.declared.tx.TxId.{TxId}
use Rattle.run_rules.specs.Script.{Asks, asked}
use Rattle.run_rules.specs.Views.{View}
use Rattle.node_rules.specs.AccessRule.{Access}
use Rattle.node_rules.specs.NodeState.{NodeState, NodeEvent, Read, Write, Deliver, Install}
use Rattle.node_rules.specs.NodeStep.{do_event}
use Rattle.node_rules.specs.OwnerRule.{do_access}
use Rattle.node_rules.specs.Refusals.{refusal, refusal_in_view}
use Rattle.node_rules.specs.Words.{pick}
use Rattle.node_rules.specs.Work.{Work, Goes, Differs}
use Rattle.node_laws.proofs.Events.{not_refused}
use Rattle.home_laws.specs.Refused.{access_refusal}
use Rattle.cluster_rules.specs.Clusters.{Cluster, view_of_epoch}
use Rattle.cluster_rules.specs.ClusterStep.{step}
use Rattle.cluster_rules.specs.Links.{head_at}
use Rattle.cluster_laws.specs.Handed.{IsHanded, handed_to}
use Rattle.cluster_laws.specs.Sound.{IsCluster}
use Rattle.cluster_laws.specs.Link.Coming.{delivers}
use Rattle.cluster_laws.specs.Link.EpochLaws.{IsInOrder}
use Rattle.page_protocol.specs.State.{Page}
use Rattle.page_protocol.specs.Steps.{Reached, here}
use Rattle.page_relation.specs.Relation.{IsPageOf}
use Rattle.page_relation.specs.Work.Events.{IsEntered, IsUnstopped}
use Rattle.page_relation.specs.Work.Keeping.{Leads}
use Rattle.page_relation.specs.Work.StepEnds.{start_of, Follows}
use Rattle.page_relation.proofs.WorkParts.Ended.{end_is_landed_law, refused_is_kept_law}
use Rattle.page_relation.proofs.WorkParts.Started.{start_is_related_law}
use Rattle.end_relation.specs.Access.Events.{HasAskedAll, ReadIsKept, WriteIsKept, ReadGoes, WriteGoes}
use Rattle.end_relation.specs.Access.Midway.{SettleKeeps, SettleGoes}
use Rattle.end_relation.proofs.AccessParts.Accessing.{access_leads}
use Rattle.end_relation.proofs.AccessParts.Going.{access_goes}

-- ---- the event of the cluster

none_delivered : (b : Bool) (from : ℕ) (o : Option Message) (ev : NodeEvent) → ((m : Message) → Deliver from m ≡ ev → ⊥) → pick b (option_map (Deliver from) o) None ≡ Some ev → ⊥
none_delivered true from None ev none is = absurd (cc)
none_delivered true from (Some m) ev none is = none m cc
none_delivered false from o ev none is = absurd (cc)

none_installed : (o : Option View) (ev : NodeEvent) → ((v : View) → Install v ≡ ev → ⊥) → option_map Install o ≡ Some ev → ⊥
none_installed None ev none is = absurd (cc)
none_installed (Some v) ev none is = none v cc

read_event : (c : Cluster) (s : NodeState) (e : Event) (t : TxId) (q : ℕ) → handed_to c s e ≡ Some (Read t q) → e ≡ event.Read t q
read_event c s (event.Read u r) t q is =
    let same : u ≡ t = cc in let page : r ≡ q = cc in (λ i. event.Read (same i) (page i))
read_event c s (event.Write u r place bytes) t q is = absurd (cc)
read_event c s (event.Begin k) t q is = absurd (cc)
read_event c s (event.Commit u) t q is = absurd (cc)
read_event c s (event.Abort u) t q is = absurd (cc)
read_event c s (event.Deliver from to) t q is = absurd (none_delivered (is_some s.view) from (head_at c.links from to) (Read t q) (λ m bad. absurd (cc)) is)
read_event c s (event.Evict k r) t q is = absurd (cc)
read_event c s (event.Flush k r) t q is = absurd (cc)
read_event c s (event.Crash k) t q is = absurd (cc)
read_event c s (event.View live owners) t q is = absurd (cc)
read_event c s (event.Install k) t q is = absurd (none_installed (view_of_epoch c.views (s.epoch + 1)) (Read t q) (λ v bad. absurd (cc)) is)
read_event c s event.Reopen t q is = absurd (cc)
read_event c s (event.Arm k call kept) t q is = absurd (cc)
read_event c s (event.Cut k) t q is = absurd (cc)

write_event : (c : Cluster) (s : NodeState) (e : Event) (t : TxId) (q place : ℕ) (piece : List ℕ) → handed_to c s e ≡ Some (Write t q place piece) → e ≡ event.Write t q place piece
write_event c s (event.Write u r k bytes) t q place piece is =
    let same : u ≡ t = cc in
    let page : r ≡ q = cc in
    let at : k ≡ place = cc in
    let has : bytes ≡ piece = cc in
    (λ i. event.Write (same i) (page i) (at i) (has i))
write_event c s (event.Read u r) t q place piece is = absurd (cc)
write_event c s (event.Begin k) t q place piece is = absurd (cc)
write_event c s (event.Commit u) t q place piece is = absurd (cc)
write_event c s (event.Abort u) t q place piece is = absurd (cc)
write_event c s (event.Deliver from to) t q place piece is =
    absurd (none_delivered (is_some s.view) from (head_at c.links from to) (Write t q place piece) (λ m bad. absurd (cc)) is)
write_event c s (event.Evict k r) t q place piece is = absurd (cc)
write_event c s (event.Flush k r) t q place piece is = absurd (cc)
write_event c s (event.Crash k) t q place piece is = absurd (cc)
write_event c s (event.View live owners) t q place piece is = absurd (cc)
write_event c s (event.Install k) t q place piece is =
    absurd (none_installed (view_of_epoch c.views (s.epoch + 1)) (Write t q place piece) (λ v bad. absurd (cc)) is)
write_event c s event.Reopen t q place piece is = absurd (cc)
write_event c s (event.Arm k call kept) t q place piece is = absurd (cc)
write_event c s (event.Cut k) t q place piece is = absurd (cc)

-- what is known of an event that asks for an access: it isn't refused, and delivers nothing
record IsAccess (c : Cluster) (e : Event) (s : NodeState) (ev : NodeEvent) (x : Access) : Type 0 where
  tells : asked e ≡ Asks x.tx x.write ∷ []
  quiet : (k m : ℕ) → delivers e k m ≡ false
  fine : refusal_in_view s ev ≡ None → access_refusal x s.home ≡ None
  viewed : refusal s ev ≡ None → (is_some s.view ≡ true) × (refusal_in_view s ev ≡ None)
  does : (w : Work) → do_event c.disk ev w ≡ do_access x w

not_not : (b : Bool) → not b ≡ false → b ≡ true
not_not true e = refl
not_not false e = absurd (cc)

some_view : (o : Option View) → is_some o ≡ true → (v : View) × (o ≡ Some v)
some_view None e = absurd (cc)
some_view (Some v) e = (v, refl)

read_is : (c : Cluster) (e : Event) (s : NodeState) (t : TxId) (q : ℕ) → handed_to c s e ≡ Some (Read t q) → IsAccess c e s (Read t q) (record { tx = t; page = q; write = None })
unfolding do_event refusal access_refusal
read_is c e s t q is =
    subst (λ (k : Event). IsAccess c k s (Read t q) (record { tx = t; page = q; write = None })) (sym (read_event c s e t q is))
    (record {
      tells = refl;
      quiet = λ k m. refl;
      fine = λ none. none;
      viewed = λ free. let both = not_refused (not (is_some s.view)) reason.NotInView (refusal_in_view s (Read t q)) free in (not_not (is_some s.view) both.0, both.1);
      does = λ w. refl;
    })

write_is : (c : Cluster) (e : Event) (s : NodeState) (t : TxId) (q place : ℕ) (piece : List ℕ) → handed_to c s e ≡ Some (Write t q place piece)
    → IsAccess c e s (Write t q place piece) (record { tx = t; page = q; write = Some (place, piece) })
unfolding do_event refusal access_refusal
write_is c e s t q place piece is =
    subst (λ (k : Event). IsAccess c k s (Write t q place piece) (record { tx = t; page = q; write = Some (place, piece) })) (sym (write_event c s e t q place piece is))
    (record {
      tells = refl;
      quiet = λ k m. refl;
      fine = λ none. none;
      viewed = λ free. let both = not_refused (not (is_some s.view)) reason.NotInView (refusal_in_view s (Write t q place piece)) free in (not_not (is_some s.view) both.0, both.1);
      does = λ w. refl;
    })

-- ---- the step

module _ (c : Cluster) (e : Event) (n p : ℕ) (s : NodeState) (ev : NodeEvent) (x : Access) (blank : List ℕ) (a : Page) (is : IsAccess c e s ev x) (i : IsCluster c) (order : IsInOrder c)
    (asks : HasAskedAll c) (h : IsHanded c e n s ev) (reached : Reached blank a) (enters : IsEntered a) (related : IsPageOf c p a) where
  done_follows : SettleKeeps → p < c.config.pages → refusal s ev ≡ None → IsUnstopped c n s ev → (w : Work) → do_event c.disk ev (start_of c s) ≡ Goes w → Follows p IsEntered a (step c e)
  done_follows settles low free whole w goes =
      let view = some_view s.view (is.viewed free).0 in
      let led : Leads c e n p (λ k b. IsEntered b) a w =
      access_leads c e n p s x i h.up (is.fine (is.viewed free).1) is.tells view.0 view.1 low blank a reached enters (start_is_related_law c e n p s ev a i h related) settles order asks is.quiet w
      (sym (is.does (start_of c s)) ∙ goes) in
      record {
        page = led.page;
        run = led.run;
        related = subst (λ (d : Cluster). IsPageOf d p led.page) (sym (end_is_landed_law c e n s ev w h free goes (whole w goes))) led.related;
        known = led.known;
      }

  event_follows : SettleKeeps → p < c.config.pages → IsUnstopped c n s ev → (w : Work) → do_event c.disk ev (start_of c s) ≡ Goes w → Follows p IsEntered a (step c e)
  event_follows settles low whole w goes = by (refusal s ev) refl
    where
      by : (o : Option Reason) → refusal s ev ≡ o → Follows p IsEntered a (step c e)
      by (Some r) refused = record { page = a; run = here; related = refused_is_kept_law c e n p s ev r a i h refused related; known = enters }
      by None free = done_follows settles low free whole w goes

pub read_is_kept_law : ReadIsKept
read_is_kept_law c e n p page t s w blank a settles i order asks h whole goes low reached enters related =
    event_follows c e n p s (Read t page) (record { tx = t; page = page; write = None }) blank a (read_is c e s t page h.event) i order asks h reached enters related settles low whole w goes

pub write_is_kept_law : WriteIsKept
write_is_kept_law c e n p page place piece t s w blank a settles i order asks h whole goes low reached enters related =
    event_follows c e n p s (Write t page place piece) (record { tx = t; page = page; write = Some (place, piece) }) blank a (write_is c e s t page place piece h.event) i order asks h reached enters
    related settles low whole w goes

-- no page differs
event_goes : (c : Cluster) (e : Event) (n q expected found : ℕ) (s : NodeState) (ev : NodeEvent) (x : Access) (blank : List ℕ) (a : Page) → IsAccess c e s ev x → SettleGoes → IsCluster c → IsInOrder c
    → HasAskedAll c → IsHanded c e n s ev → refusal s ev ≡ None → Reached blank a → IsEntered a → IsPageOf c x.page a → do_event c.disk ev (start_of c s) ≡ Differs q expected found → ⊥
event_goes c e n q expected found s ev x blank a is settles i order asks h free reached enters related differs =
    let view = some_view s.view (is.viewed free).0 in
    access_goes c e n s x i h.up (is.fine (is.viewed free).1) is.tells view.0 view.1 blank a reached enters (start_is_related_law c e n x.page s ev a i h related) settles order asks q expected found
    (sym (is.does (start_of c s)) ∙ differs)

pub read_goes_law : ReadGoes
read_goes_law c e n page q expected found t s blank a settles i order asks h free reached enters related differs =
    event_goes c e n q expected found s (Read t page) (record { tx = t; page = page; write = None }) blank a (read_is c e s t page h.event) settles i order asks h free reached enters related differs

pub write_goes_law : WriteGoes
write_goes_law c e n page place q expected found piece t s blank a settles i order asks h free reached enters related differs =
    event_goes c e n q expected found s (Write t page place piece) (record { tx = t; page = page; write = Some (place, piece) }) blank a (write_is c e s t page place piece h.event) settles i order asks h free
    reached enters related differs
