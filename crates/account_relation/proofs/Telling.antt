-- Entries that tell of their event alone, and the whole cluster after them.
use Rattle.std.proofs.Common.{◌≡◌, refl, ap, sym, ◌∙◌, ℕ, zero, suc, ◌+◌, ◌&&◌, ◌||◌, Bool, true, false, List, [], ◌∷◌, ◌++◌, map, replicate, slice_set, Option, Some, None, is_some, Ok}
use Rattle.pcl_base.specs.Limits.{Sizes}
use Rattle.pcl_base.specs.declared.event.Event.{Event}
use Rattle.pcl_base.specs.declared.event.Event.TheVariants as event
use Rattle.pcl_base.specs.declared.reply.Reason.{Reason}
use Rattle.pcl_base.specs.declared.reply.Reply.{Reply}
use Rattle.pcl_base.specs.declared.reply.Reply.TheVariants as reply
use Rattle.pcl_base.specs.declared.trace.Entry.{Entry}
use Rattle.pcl_base.specs.declared.trace.Halt.{Halt}
use Rattle.pcl_base.specs.declared.trace.Sent.{Sent}
use Rattle.run_rules.specs.Account.{is_crash, is_lost, lose_if, heard, after_sends, all_sends, after_entry}
use Rattle.run_rules.specs.Causes.{before_sends}
use Rattle.run_rules.specs.Ledger as ledger
use Rattle.run_rules.specs.Ledger.{Ledger, first_ledger, actor, raise, with_view}
use Rattle.run_rules.specs.Taking.{taken_of, without_head}
use Rattle.run_rules.specs.Taking as taking
use Rattle.run_rules.specs.Views.{View, first, next, reopen, count_from}
use Rattle.node_rules.specs.NodeState.{first_node, start_node}
use Rattle.cluster_rules.specs.Clusters.{Cluster, opening, lose, last_or, last_view, note_entry}
use Rattle.cluster_rules.specs.ClusterStep.{made, start_one, start_all, all_nodes, returning, add_view}
use Rattle.account_relation.specs.World.{noted_links, IsWorld, OpeningIsWorld}
use Rattle.account_relation.proofs.Noted.{map_set, clear_noted, empty_noted}

-- ---- the opening cluster

pub all_up : (c : Sizes) (a n : ℕ) → replicate n true ≡ map is_some (map (λ k. Some (first_node c k)) (count_from a n))
unfolding count_from
all_up c a zero = refl
all_up c a (suc n) = ap (λ bs. true ∷ bs) (all_up c (a + 1) n)

pub opening_is_world_law : OpeningIsWorld
unfolding opening
opening_is_world_law c = record { config = refl; up = all_up c 0 c.nodes; links = sym (empty_noted c.nodes); views = refl }

-- ---- an entry that tells of its event alone

-- the entry of a step, and the ledger after it
abbrev pub entry : Event → List Reply → List Sent → Option Halt → Entry
entry e rs sent h = record { event = e; replies = rs; sent = sent; halted = h }

-- what is lost, where a node is
pub lost_world : (c : Cluster) (n : ℕ) (l : Ledger) → IsWorld c l → IsWorld (lose n c) (ledger.lose n l)
unfolding lose ledger.lose
lost_world c n l is =
    record {
      config = is.config;
      up = ap (λ u. slice_set u n false) is.up ∙ sym (map_set is_some c.nodes n None);
      links = ap (map (λ row. slice_set row n [])) is.links ∙ clear_noted c.links n;
      views = is.views;
    }

-- an entry of a node's event without sends tells nothing of the whole cluster but of the head of its link
pub quiet_after : (x : Entry) (l m : Ledger) → x.sent ≡ [] → after_entry x l ≡ Some m → m ≡ lose_if (is_lost x) (actor x.event) (heard x l)
unfolding after_entry all_sends
quiet_after x l m none after = by x.sent none after
  where
    nobody : (o : Option ℕ) → after_sends x (all_sends x (taken_of x.event x.replies l) o [] (before_sends (heard x l))) ≡ Some m → m ≡ lose_if (is_lost x) (actor x.event) (heard x l)
    nobody None e = let same : lose_if (is_lost x) (actor x.event) (heard x l) ≡ m = cc in sym same
    nobody (Some n) e = let same : lose_if (is_lost x) (actor x.event) (heard x l) ≡ m = cc in sym same

    by : (ss : List Sent) → ss ≡ [] → after_sends x (all_sends x (taken_of x.event x.replies l) (actor x.event) ss (before_sends (heard x l))) ≡ Some m → m ≡ lose_if (is_lost x) (actor x.event) (heard x l)
    by [] e after = nobody (actor x.event) after
    by (s ∷ ss) e after = absurd (cc)

-- a refused event
pub refused_same : (e : Event) (r : Reason) (l : Ledger) → heard (entry e (reply.Refused r ∷ []) [] None) l ≡ l
unfolding heard taking.hear
refused_same (event.Begin m) r l = refl
refused_same (event.Read t p) r l = refl
refused_same (event.Write t p place bytes) r l = refl
refused_same (event.Commit t) r l = refl
refused_same (event.Abort t) r l = refl
refused_same (event.Deliver from to) r l = refl
refused_same (event.Evict m p) r l = refl
refused_same (event.Flush m p) r l = refl
refused_same (event.Crash m) r l = refl
refused_same (event.View live owners) r l = refl
refused_same (event.Install m) r l = refl
refused_same event.Reopen r l = refl
refused_same (event.Arm m call kept) r l = refl
refused_same (event.Cut m) r l = refl

pub not_lost : (y : Bool) (o : Option ℕ) (l : Ledger) → y ≡ false → lose_if y o l ≡ l
not_lost true o l e = absurd (cc)
not_lost false None l e = refl
not_lost false (Some n) l e = refl

pub and_none : (y : Bool) → (y && false) || false ≡ false
and_none true = refl
and_none false = refl

pub refused_after : (e : Event) (r : Reason) (l m : Ledger) → after_entry (entry e (reply.Refused r ∷ []) [] None) l ≡ Some m → m ≡ l
refused_after e r l m after =
    let x : Entry = entry e (reply.Refused r ∷ []) [] None in
    quiet_after x l m refl after ∙ not_lost (is_lost x) (actor e) (heard x l) (and_none (is_crash e)) ∙ refused_same e r l

-- a crash, and a stop that is armed
pub crash_heard : (n : ℕ) (l : Ledger) → heard (entry (event.Crash n) (reply.Crashed ∷ []) [] None) l ≡ l
unfolding heard taking.hear
crash_heard n l = refl

pub arm_heard : (n call kept : ℕ) (l : Ledger) → heard (entry (event.Arm n call kept) (reply.Armed ∷ []) [] None) l ≡ l
unfolding heard taking.hear
arm_heard n call kept l = refl

-- the cluster with a further entry
pub entered : (c : Cluster) (e : Event) (rs : List Reply) (sent : List Sent) (h : Option Halt) (l : Ledger) → IsWorld c l → IsWorld (note_entry e rs sent h c) l
entered c e rs sent h l is = record { config = is.config; up = is.up; links = is.links; views = is.views }

-- ---- views

pub last_same : (v : View) (vs : List View) → ledger.last_or v vs ≡ last_or v vs
last_same v [] = refl
last_same v (w ∷ ws) = last_same w ws

pub last_is : (c : Cluster) (l : Ledger) → IsWorld c l → ledger.last_view l ≡ last_view c
last_is c l is = ap (λ (k : Sizes). ledger.last_or (first k) l.views) is.config ∙ ap (ledger.last_or (first c.config)) is.views ∙ last_same (first c.config) c.views

-- nodes that start
pub started_up : (k : ℕ) (ns : List ℕ) (c : Cluster) (u : List Bool) → u ≡ map is_some c.nodes → raise ns u ≡ map is_some (start_all k ns c).nodes
started_up k [] c u e = e
started_up k (n ∷ ns) c u e =
    started_up k ns (start_one k c n) (slice_set u n true) (ap (λ w. slice_set w n true) e ∙ sym (map_set is_some c.nodes n (Some (start_node c.config n k))))

-- what they leave alone
pub record Starts (c d : Cluster) : Type 0 where
  pub config : d.config ≡ c.config
  pub links : d.links ≡ c.links
  pub views : d.views ≡ c.views
  pub trace : d.trace ≡ c.trace

pub started_rest : (k : ℕ) (ns : List ℕ) (c : Cluster) → Starts c (start_all k ns c)
started_rest k [] c = record { config = refl; links = refl; views = refl; trace = refl }
started_rest k (n ∷ ns) c = let rest = started_rest k ns (start_one k c n) in record { config = rest.config; links = rest.links; views = rest.views; trace = rest.trace }

-- a further view with the nodes that it starts
pub viewed_world : (c : Cluster) (k : ℕ) (ns : List ℕ) (v : View) (l : Ledger) → IsWorld c l → IsWorld (add_view v (start_all k ns c)) (with_view ns v l)
viewed_world c k ns v l is =
    let rest = started_rest k ns c in
    record {
      config = is.config ∙ sym rest.config;
      up = started_up k ns c l.up is.up;
      links = is.links ∙ ap noted_links (sym rest.links);
      views = ap (λ vs. vs ++ v ∷ []) (is.views ∙ sym rest.views);
    }

pub view_heard : (c : Cluster) (live : List Bool) (owners : List ℕ) (v : View) (l : Ledger) → IsWorld c l → next c.config (last_view c) live owners ≡ Ok v
    → heard (entry (event.View live owners) (reply.Viewed v.epoch ∷ []) [] None) l ≡ with_view (returning (last_view c) v (all_nodes c)) v l
unfolding heard taking.hear
view_heard c live owners v l is made =
    ap (λ (k : Sizes). taking.add_view (λ w. returning (ledger.last_view l) w (count_from 0 k.nodes)) (next k (ledger.last_view l) live owners) l) is.config
    ∙ ap (λ (x : View). taking.add_view (λ w. returning x w (count_from 0 c.config.nodes)) (next c.config x live owners) l) (last_is c l is)
    ∙ ap (λ r. taking.add_view (λ w. returning (last_view c) w (count_from 0 c.config.nodes)) r l) made

pub reopen_heard : (c : Cluster) (v : View) (l : Ledger) → IsWorld c l → reopen c.config (last_view c) ≡ Ok v
    → heard (entry event.Reopen (reply.Reopened v.epoch ∷ []) [] None) l ≡ with_view (all_nodes c) v l
unfolding heard taking.hear
reopen_heard c v l is made =
    ap (λ (k : Sizes). taking.add_view (λ w. count_from 0 k.nodes) (reopen k (ledger.last_view l)) l) is.config
    ∙ ap (λ (x : View). taking.add_view (λ w. count_from 0 c.config.nodes) (reopen c.config x) l) (last_is c l is)
    ∙ ap (λ r. taking.add_view (λ w. count_from 0 c.config.nodes) r l) made
