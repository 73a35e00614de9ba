-- The room that a step needs for what it sends and notes.
use Rattle.std.proofs.Common.{◌≡◌, refl, ap, sym, subst, ◌∙◌, ℕ, zero, suc, ◌<◌, ◌≤◌, List, [], ◌∷◌, length, Option, Some, None, slice_index_or, arith}
use Rattle.std.specs.Prelude.{IfSome}
use Rattle.std.specs.List.{AllByRecursion}
use Rattle.pcl_base.specs.Limits.{Sizes}
use Rattle.pcl_base.specs.declared.event.Event.{Event}
use Rattle.node_rules.specs.NodeState.{NodeState, NodeEvent, Outgoing, number_of}
use Rattle.node_rules.specs.NodeState as node
use Rattle.node_rules.specs.NodeStep.{Plan, nodestep}
use Rattle.node_rules.specs.Work.{Goes}
use Rattle.step_laws.specs.Most.{most, items_in, items_sent}
use Rattle.step_laws.proofs.Steps.{sends_at_most_law, items_at_most_law}
use Rattle.node_laws.specs.Nodes.{DiskFits, IsSend}
use Rattle.node_laws.specs.Laws.{IsStep}
use Rattle.node_laws.proofs.Readers.{sound_has_few_readers_law}
use Rattle.node_laws.proofs.Steps.{sends_are_messages_law}
use Rattle.cluster_rules.specs.Links.{Links, row_at, link_at}
use Rattle.cluster_laws.specs.Sound.{IsMember}
use Rattle.node_laws.proofs.Lists.{all_weaker}
use Rattle.cluster_laws.proofs.Steps.{events_can_come_law}
use Rattle.link_model.specs.Spares.{spare_at}
use Rattle.listing_laws.specs.Lists.{lists_by}
use Rattle.listing_laws.proofs.Steps.{lists_are_few_law}
use Rattle.trace_entries.specs.Notes.{NotesView, HasMemory}
use Rattle.cluster_parts.specs.State.{ClusterView, cluster_of, disk_of}
use Rattle.cluster_parts.specs.Laws.{RoomSuffices}
use Rattle.cluster_parts.specs.Steps.{HaveRoom, IsPrepared, IsReady, before_taking, with_head}
use Rattle.cluster_parts.proofs.Ready.{member_at}
use Rattle.cluster_parts.proofs.Sending.{rows_put, row_put}

-- a head that goes back keeps the number of rows and of links
pub head_rows : (n : ℕ) (ev : NodeEvent) (ls : Links) → length (with_head n ev ls) ≡ length ls
head_rows n node.Begin ls = refl
head_rows n (node.Read t p) ls = refl
head_rows n (node.Write t p place bytes) ls = refl
head_rows n (node.Commit t) ls = refl
head_rows n (node.Abort t) ls = refl
head_rows n (node.Deliver from m) ls = rows_put ls from n (m ∷ link_at ls from n)
head_rows n (node.Evict p) ls = refl
head_rows n (node.Flush p) ls = refl
head_rows n (node.Install v) ls = refl
head_rows n node.Cut ls = refl

pub head_row : (n x : ℕ) (ev : NodeEvent) (ls : Links) → length (row_at (with_head n ev ls) x) ≡ length (row_at ls x)
head_row n x node.Begin ls = refl
head_row n x (node.Read t p) ls = refl
head_row n x (node.Write t p place bytes) ls = refl
head_row n x (node.Commit t) ls = refl
head_row n x (node.Abort t) ls = refl
head_row n x (node.Deliver from m) ls = row_put ls from n x (m ∷ link_at ls from n)
head_row n x (node.Evict p) ls = refl
head_row n x (node.Flush p) ls = refl
head_row n x (node.Install v) ls = refl
head_row n x node.Cut ls = refl

-- a node that is up has a number below that of the nodes
pub up_below : (ns : List (Option NodeState)) (n : ℕ) (s : NodeState) → slice_index_or ns n None ≡ Some s → n < length ns
up_below [] n s up = absurd (cc)
up_below (x ∷ ns) zero s up = omega arith
up_below (x ∷ ns) (suc n) s up = let low = up_below ns n s up in omega (arith, low)

-- each message has no more items than all together
each_item : (os : List Outgoing) (k : ℕ) → items_sent os ≤ k → AllByRecursion (λ o. items_in o.message.body ≤ k) os
each_item [] k le = tt
each_item (o ∷ os) k le = (omega (arith, le), each_item os k (omega (arith, le)))

module _ (v : ClusterView) (e : Event) (n : ℕ) (ev : NodeEvent) (notes : NotesView) (p : Plan) (r : IsReady v e n ev) (goes : nodestep r.state ev (disk_of v.storage) ≡ Goes p) where
  member : IsMember v.config v.views n r.state
  member = member_at (before_taking n ev (cluster_of v)) n r.state r.cluster r.handed.up

  pub is_step : IsStep r.state ev (disk_of v.storage) p
  is_step =
      record {
        sound = member.sound;
        can = events_can_come_law (before_taking n ev (cluster_of v)) e n r.state ev r.cluster r.handed;
        fits = subst (λ (k : Sizes). DiskFits k (disk_of v.storage)) (sym member.config) r.cluster.disk;
        goes = goes;
      }

  low : n < v.config.nodes
  low = subst (λ (k : ℕ). n < k) r.cluster.nodes (up_below v.nodes n r.state r.handed.up)

  rows : length v.links.links ≡ v.config.nodes
  rows = sym (head_rows n ev v.links.links) ∙ r.cluster.links.rows

  row : length (row_at v.links.links n) ≡ v.config.nodes
  row = sym (head_row n n ev v.links.links) ∙ r.cluster.links.row n low

  few : length p.sends ≤ most r.state ev
  few = sends_at_most_law r.state ev (disk_of v.storage) p goes

  pub room_for : IsPrepared v n ev notes → HaveRoom v.links n p.sends
  room_for prepared =
      let wide : (b : ℕ) → b < length (row_at v.links.links n) → most r.state ev ≤ spare_at v.links.spares n b =
      subst (λ (o : Option NodeState). IfSome o (λ s. (b : ℕ) → b < length (row_at v.links.links n) → most s ev ≤ spare_at v.links.spares n b)) r.handed.up prepared.links in (
        subst (λ (k : ℕ). n < k) (sym rows) low,
        all_weaker (IsSend r.state.home.config (number_of r.state)) (λ (o : Outgoing). (o.to < length (row_at v.links.links n)) × (length p.sends ≤ spare_at v.links.spares n o.to))
            (λ o h.
            let to : o.to < v.config.nodes = subst (λ (k : Sizes). o.to < k.nodes) member.config h.0.0 in
            let here : o.to < length (row_at v.links.links n) = subst (λ (k : ℕ). o.to < k) (sym row) to in
            let enough = wide o.to here in
            let all = few in
            (here, omega (arith, enough, all)))
            p.sends (sends_are_messages_law r.state ev (disk_of v.storage) p is_step),
      )

  pub memory_for : IsPrepared v n ev notes → HasMemory notes p.sends
  memory_for prepared =
      let all = few in
      let many : most r.state ev ≤ notes.room = subst (λ (o : Option NodeState). IfSome o (λ s. most s ev ≤ notes.room)) r.handed.up prepared.notes in
      let long : most r.state ev ≤ notes.size = subst (λ (o : Option NodeState). IfSome o (λ s. most s ev ≤ notes.size)) r.handed.up prepared.items in
      let items = items_at_most_law r.state ev (disk_of v.storage) p (sound_has_few_readers_law r.state member.sound) goes in
      let with_lists = lists_are_few_law r.state ev (disk_of v.storage) p goes in
      let told : notes.lists ≡ lists_by r.state.home.config ev = prepared.lists ∙ ap (λ (k : Sizes). lists_by k ev) (sym member.config) in
      record {
        notes = omega (arith, all, many);
        lists = omega (arith, with_lists, told);
        items = each_item p.sends notes.size (omega (arith, items, long));
      }

pub room_suffices_law : RoomSuffices
room_suffices_law v e n ev notes p r goes prepared = (room_for v e n ev notes p r goes prepared, memory_for v e n ev notes p r goes prepared)
