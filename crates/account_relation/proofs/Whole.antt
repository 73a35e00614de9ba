-- The ledger of a step is that of the cluster after it: who is up, the links, the views.
use Rattle.std.proofs.Common.{◌≡◌, refl, ap, sym, subst, ◌∙◌, ℕ, Bool, true, false, List, [], ◌∷◌, ◌++◌, map, slice_set, Option, Some, None, is_some, Ok}
use Rattle.std.specs.List.{list_any}
use Rattle.pcl_base.specs.declared.event.Event.{Event}
use Rattle.pcl_base.specs.declared.event.Event.TheVariants as event
use Rattle.pcl_base.specs.declared.reply.Reply.TheVariants as reply
use Rattle.pcl_base.specs.declared.trace.Entry.{Entry}
use Rattle.run_rules.specs.Account.{is_crashed, is_crash, is_lost, lose_if, heard, after_sends, all_sends, after_entry}
use Rattle.run_rules.specs.Causes.{Sending, before_sends}
use Rattle.run_rules.specs.Ledger as ledger
use Rattle.run_rules.specs.Ledger.{Ledger, first_ledger, actor, raise, with_view}
use Rattle.run_rules.specs.Taking.{taken_of}
use Rattle.run_rules.specs.Views.{View, next, reopen}
use Rattle.node_rules.specs.DiskCalls.{Left}
use Rattle.node_rules.specs.NodeState.{NodeState, NodeEvent}
use Rattle.node_rules.specs.Work.{Goes}
use Rattle.node_rules.specs.NodeStep.{Plan, nodestep}
use Rattle.cluster_rules.specs.Clusters.{Cluster, is_up, lose, last_view, answer, sent_by}
use Rattle.cluster_rules.specs.ClusterStep.{refuse, arm, made, halted, links_after, start_all, all_nodes, returning, add_view, make_view, make_reopened}
use Rattle.cluster_laws.specs.Handed.{IsHanded}
use Rattle.account_relation.specs.Ledgers.{Leaves}
use Rattle.account_relation.specs.World.{noted_links, IsWorld, NothingDiffers, StepsKeepWorld}
use Rattle.account_relation.proofs.FirstReplies.{steps_answer_law}
use Rattle.account_relation.proofs.Entered.{acts, local, agrees, head_goes, head_same, never_lost, always_lost}
use Rattle.account_relation.proofs.Heard.{heard_same}
use Rattle.account_relation.proofs.ByKind.{Kinds, by_kind}
use Rattle.account_relation.proofs.Leaving.{ledgers_are_one_law}
use Rattle.account_relation.proofs.Noted.{map_set, map_look, set_back, sends_same}
use Rattle.account_relation.proofs.Sending.{up_in, IsSentAll, all_sent}
use Rattle.account_relation.proofs.Telling.{entry, lost_world, quiet_after, not_lost, refused_after, crash_heard, arm_heard, entered, started_rest, viewed_world, view_heard, reopen_heard}

-- ---- a step of a node

-- a step that is made whole
module _ (c : Cluster) (e : Event) (n : ℕ) (s : NodeState) (ev : NodeEvent) (p : Plan) (h : IsHanded c e n s ev) (goes : nodestep s ev c.disk ≡ Goes p) where
  abbrev pub Made : Entry
  Made = entry e p.replies (map (sent_by n) p.sends) None

  -- the node stays up
  still_up : slice_set (map is_some c.nodes) n true ≡ map is_some c.nodes
  still_up = set_back false true (map is_some c.nodes) n (map_look is_some None c.nodes n ∙ ap is_some h.up)

  made_up : map is_some (made e n p c).nodes ≡ map is_some c.nodes
  made_up = map_set is_some c.nodes n (Some p.node) ∙ still_up

  pub made_heard : (l : Ledger) → IsWorld c l → IsWorld (record c { links = links_after e p.replies c.links }) (heard Made l)
  made_heard l is =
      let same = heard_same Made l (local c e s ev h.event).0 in
      let rest = head_same Made e l in
      record {
        config = same.config ∙ rest.0 ∙ is.config;
        up = same.up ∙ rest.1 ∙ is.up;
        links = same.links ∙ head_goes Made e l c.links is.links (agrees c e n s ev p.replies h (steps_answer_law s ev c.disk p goes));
        views = same.views ∙ rest.2 ∙ is.views;
      }

  pub made_all : (l m : Ledger) → IsWorld c l → after_entry Made l ≡ Some m → IsSentAll (map is_some c.nodes) n p.sends (links_after e p.replies c.links) (heard Made l) m
  unfolding after_entry
  made_all l m is after =
      by (all_sends Made (taken_of e p.replies l) (Some n) (map (sent_by n) p.sends) (before_sends (heard Made l))) refl
      (subst (λ (o : Option ℕ). after_sends Made (all_sends Made (taken_of e p.replies l) o (map (sent_by n) p.sends) (before_sends (heard Made l))) ≡ Some m) (acts e n h.acts) after)
    where
      by : (o : Option Sending) → all_sends Made (taken_of e p.replies l) (Some n) (map (sent_by n) p.sends) (before_sends (heard Made l)) ≡ o → after_sends Made o ≡ Some m
          → IsSentAll (map is_some c.nodes) n p.sends (links_after e p.replies c.links) (heard Made l) m
      by None sends then_m = absurd (cc)
      by (Some y) sends then_m =
          let told = made_heard l is in
          let same : lose_if (is_lost Made) (actor e) y.ledger ≡ m = cc in
          subst (IsSentAll (map is_some c.nodes) n p.sends (links_after e p.replies c.links) (heard Made l))
          (sym (not_lost (is_lost Made) (actor e) y.ledger (never_lost (is_crash e) (list_any is_crashed p.replies) (local c e s ev h.event).1)) ∙ same)
          (all_sent Made (taken_of e p.replies l) n (map is_some c.nodes) p.sends (links_after e p.replies c.links) (before_sends (heard Made l)) y told.up told.links sends)

  pub made_sent : (l m : Ledger) → IsWorld c l → after_entry Made l ≡ Some m → IsWorld (made e n p c) m
  made_sent l m is after =
      let told = made_heard l is in
      let all = made_all l m is after in
      record {
        config = all.config ∙ told.config;
        up = all.up ∙ told.up ∙ sym made_up;
        links = all.links ∙ ap noted_links (sends_same (up_in (map is_some c.nodes)) (is_up c) n (λ k. map_look is_some None c.nodes k) p.sends (links_after e p.replies c.links));
        views = all.views ∙ told.views;
      }

-- a step that a stop ends
halted_world : (c : Cluster) (e : Event) (n : ℕ) (s : NodeState) (ev : NodeEvent) (d : Left) (l m : Ledger) → IsHanded c e n s ev → IsWorld c l
    → after_entry (entry e [] [] (Some (record { call = d.call; kept = d.kept }))) l ≡ Some m → IsWorld (halted e n d c) m
halted_world c e n s ev d l m h is after =
    let x : Entry = entry e [] [] (Some (record { call = d.call; kept = d.kept })) in
    let same = heard_same x l (local c e s ev h.event).0 in
    let rest = head_same x e l in
    let k : Cluster = record c { disk = d.disk; links = links_after e [] c.links } in
    let told : IsWorld k (heard x l) =
    record {
      config = same.config ∙ rest.0 ∙ is.config;
      up = same.up ∙ rest.1 ∙ is.up;
      links = same.links ∙ head_goes x e l c.links is.links (λ a b i. refl);
      views = same.views ∙ rest.2 ∙ is.views;
    } in
    let lost : m ≡ ledger.lose n (heard x l) =
    quiet_after x l m refl after ∙ ap (λ (o : Option ℕ). lose_if (is_lost x) o (heard x l)) (acts e n h.acts)
    ∙ ap (λ (y : Bool). lose_if y (Some n) (heard x l)) (always_lost (is_crash e) false) in
    entered (lose n k) e [] [] (Some (record { call = d.call; kept = d.kept })) m (subst (IsWorld (lose n k)) (sym lost) (lost_world k n (heard x l) told))

-- ---- all kinds

-- what a step comes to
abbrev Comes : Cluster → Ledger → Event → Cluster → Type 0
Comes c l e d = NothingDiffers c e → (m : Ledger) → Leaves c.config d.trace m → IsWorld d m

module _ (c : Cluster) (l : Ledger) (leaves : Leaves c.config c.trace l) (is : IsWorld c l) where
  after : (x : Entry) (m : Ledger) → Leaves c.config (c.trace ++ x ∷ []) m → after_entry x l ≡ Some m
  after x m further = ledgers_are_one_law c.config c.trace x l m leaves further

  world_kinds : Kinds c (Comes c l)
  unfolding ledger.install lose
  world_kinds =
      record {
        refused = λ e r none m further.
            subst (IsWorld (refuse e r c)) (sym (refused_after e r l m (after (entry e (reply.Refused r ∷ []) [] None) m further))) (entered c e (reply.Refused r ∷ []) [] None l is);
        crashed = λ n none m further. crash n m (after (entry (event.Crash n) (reply.Crashed ∷ []) [] None) m further);
        armed = λ n call kept none m further. armed n call kept m (after (entry (event.Arm n call kept) (reply.Armed ∷ []) [] None) m further);
        viewed = λ live owners v made drops none m further.
            let x : Entry = entry (event.View live owners) (reply.Viewed v.epoch ∷ []) [] None in
            viewed live owners v made m (after x m (traced (last_view c).epoch (returning (last_view c) v (all_nodes c)) x m further));
        reopened = λ v made down none m further.
            let x : Entry = entry event.Reopen (reply.Reopened v.epoch ∷ []) [] None in reopened v made m (after x m (traced (last_view c).epoch (all_nodes c) x m further));
        differs = λ e n s ev page expected found h goes none m further. absurd (none n s ev page expected found h goes);
        halts = λ e n s ev p d h goes left none m further. halted_world c e n s ev d l m h is (after (entry e [] [] (Some (record { call = d.call; kept = d.kept }))) m further);
        goes = λ e n s ev p h goes left none m further. made_sent c e n s ev p h goes l m is (after (entry e p.replies (map (sent_by n) p.sends) None) m further);
      }
    where
      traced : (k : ℕ) (ns : List ℕ) (x : Entry) (m : Ledger) → Leaves c.config ((start_all k ns c).trace ++ x ∷ []) m → Leaves c.config (c.trace ++ x ∷ []) m
      traced k ns x m further = subst (λ (t : List Entry). Leaves c.config (t ++ x ∷ []) m) (started_rest k ns c).trace further

      crash : (n : ℕ) (m : Ledger) → after_entry (entry (event.Crash n) (reply.Crashed ∷ []) [] None) l ≡ Some m → IsWorld (answer (event.Crash n) reply.Crashed (lose n c)) m
      crash n m a =
          entered (lose n c) (event.Crash n) (reply.Crashed ∷ []) [] None m
          (subst (IsWorld (lose n c)) (sym (quiet_after (entry (event.Crash n) (reply.Crashed ∷ []) [] None) l m refl a ∙ ap (ledger.lose n) (crash_heard n l))) (lost_world c n l is))

      armed : (n call kept : ℕ) (m : Ledger) → after_entry (entry (event.Arm n call kept) (reply.Armed ∷ []) [] None) l ≡ Some m → IsWorld (arm (event.Arm n call kept) n call kept c) m
      armed n call kept m a =
          subst (IsWorld (arm (event.Arm n call kept) n call kept c)) (sym (quiet_after (entry (event.Arm n call kept) (reply.Armed ∷ []) [] None) l m refl a ∙ arm_heard n call kept l))
          (record { config = is.config; up = is.up; links = is.links; views = is.views })

      viewed : (live : List Bool) (owners : List ℕ) (v : View) → next c.config (last_view c) live owners ≡ Ok v → (m : Ledger)
          → after_entry (entry (event.View live owners) (reply.Viewed v.epoch ∷ []) [] None) l ≡ Some m → IsWorld (make_view false (event.View live owners) v c) m
      viewed live owners v made m a =
          let ns : List ℕ = returning (last_view c) v (all_nodes c) in
          entered (add_view v (start_all (last_view c).epoch ns c)) (event.View live owners) (reply.Viewed v.epoch ∷ []) [] None m
          (subst (IsWorld (add_view v (start_all (last_view c).epoch ns c))) (sym (quiet_after (entry (event.View live owners) (reply.Viewed v.epoch ∷ []) [] None) l m refl a ∙ view_heard c live owners v l is made))
          (viewed_world c (last_view c).epoch ns v l is))

      reopened : (v : View) → reopen c.config (last_view c) ≡ Ok v → (m : Ledger) → after_entry (entry event.Reopen (reply.Reopened v.epoch ∷ []) [] None) l ≡ Some m
          → IsWorld (make_reopened false event.Reopen v c) m
      reopened v made m a =
          entered (add_view v (start_all (last_view c).epoch (all_nodes c) c)) event.Reopen (reply.Reopened v.epoch ∷ []) [] None m
          (subst (IsWorld (add_view v (start_all (last_view c).epoch (all_nodes c) c))) (sym (quiet_after (entry event.Reopen (reply.Reopened v.epoch ∷ []) [] None) l m refl a ∙ reopen_heard c v l is made))
          (viewed_world c (last_view c).epoch (all_nodes c) v l is))

pub steps_keep_world_law : StepsKeepWorld
steps_keep_world_law c e l m none leaves further is = by_kind c (Comes c l) (world_kinds c l leaves is) e none m further
