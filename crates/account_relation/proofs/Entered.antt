-- The head of a link, the acting node, and the end of an entry of a node's event.
use Rattle.std.proofs.Common.{◌≡◌, refl, ap, sym, subst, ◌∙◌, ℕ, ◌&&◌, ◌||◌, Bool, true, false, List, [], ◌∷◌, Option, Some, None, is_some, option_map}
use Rattle.std.specs.List.{list_any}
use Rattle.pcl_base.specs.declared.event.Event.{Event}
use Rattle.pcl_base.specs.declared.event.Event.TheVariants as event
use Rattle.pcl_base.specs.declared.message.Message.{Message}
use Rattle.pcl_base.specs.declared.reply.Reason.{Reason}
use Rattle.pcl_base.specs.declared.reply.Reply.{Reply}
use Rattle.pcl_base.specs.declared.reply.Reply.TheVariants as reply
use Rattle.pcl_base.specs.declared.trace.Entry.{Entry}
use Rattle.run_rules.specs.Ledger.{Ledger, actor, link_at as ledger_link, put_link as put_ledger_link, tail_of as further_notes}
use Rattle.run_rules.specs.Taking.{is_taken as is_taken_reply, is_dropped, without_head}
use Rattle.run_rules.specs.Account.{is_crash}
use Rattle.node_rules.specs.Words.{pick, head_of}
use Rattle.node_rules.specs.NodeState.{NodeState, NodeEvent}
use Rattle.node_rules.specs.Refusals.{refusal}
use Rattle.node_rules.specs.NodeState as node
use Rattle.cluster_rules.specs.Links.{Links, head_at, take_head}
use Rattle.cluster_rules.specs.Clusters.{Cluster}
use Rattle.cluster_rules.specs.ClusterStep.{is_taken, links_after, named}
use Rattle.cluster_laws.specs.Handed.{handed_to, IsHanded}
use Rattle.account_relation.specs.Replies.{is_behind, is_verdict, AreBehind, AreAnswers, answered, granted, AreReplies}
use Rattle.account_relation.specs.World.{noted_links}
use Rattle.account_relation.proofs.Heard.{is_local}
use Rattle.account_relation.proofs.Noted.{take_noted}

-- the acting node
pub acts : (e : Event) (n : ℕ) → head_of (named e) ≡ Some n → actor e ≡ Some n
acts (event.Begin m) n a = a
acts (event.Read t p) n a = a
acts (event.Write t p place bytes) n a = a
acts (event.Commit t) n a = a
acts (event.Abort t) n a = a
acts (event.Deliver from to) n a = a
acts (event.Evict m p) n a = a
acts (event.Flush m p) n a = a
acts (event.Crash m) n a = a
acts (event.View live owners) n a = absurd (cc)
acts (event.Install m) n a = a
acts event.Reopen n a = absurd (cc)
acts (event.Arm m call kept) n a = a
acts (event.Cut m) n a = a

-- an event that is handed to a node is one of a node, and no crash
pub local : (c : Cluster) (e : Event) (s : NodeState) (ev : NodeEvent) → handed_to c s e ≡ Some ev → (is_local e ≡ true) × (is_crash e ≡ false)
local c (event.Begin m) s ev h = (refl, refl)
local c (event.Read t p) s ev h = (refl, refl)
local c (event.Write t p place bytes) s ev h = (refl, refl)
local c (event.Commit t) s ev h = (refl, refl)
local c (event.Abort t) s ev h = (refl, refl)
local c (event.Deliver from to) s ev h = (refl, refl)
local c (event.Evict m p) s ev h = (refl, refl)
local c (event.Flush m p) s ev h = (refl, refl)
local c (event.Crash m) s ev h = absurd (cc)
local c (event.View live owners) s ev h = absurd (cc)
local c (event.Install m) s ev h = (refl, refl)
local c event.Reopen s ev h = absurd (cc)
local c (event.Arm m call kept) s ev h = absurd (cc)
local c (event.Cut m) s ev h = (refl, refl)

-- a delivery
abbrev pub is_delivery : NodeEvent → Bool
is_delivery (node.Deliver from m) = true
is_delivery _ = false

delivered : (a : ℕ) (v : Bool) (o : Option Message) (ev : NodeEvent) → pick v (option_map (node.Deliver a) o) None ≡ Some ev → is_delivery ev ≡ true
delivered a false o ev h = absurd (cc)
delivered a true None ev h = absurd (cc)
delivered a true (Some m) ev h = let same : node.Deliver a m ≡ ev = cc in ap is_delivery (sym same)

-- whether the head of the link goes, by the trace
abbrev pub takes_head : List Reply → Bool
takes_head rs = list_any (λ r. is_taken_reply r || is_dropped r) rs

behind_keeps : (rs : List Reply) → AreBehind rs → takes_head rs ≡ false
behind_keeps [] all = refl
behind_keeps (r ∷ rs) all = by r all.0 (behind_keeps rs all.1)
  where
    by : (r : Reply) → is_behind r ≡ true → takes_head rs ≡ false → takes_head (r ∷ rs) ≡ false
    by (reply.Value t p v bytes) is rest = rest
    by (reply.Done t p v) is rest = rest
    by (reply.Serving q) is rest = rest
    by (reply.Begun t) is rest = absurd (cc)
    by (reply.Committed t) is rest = absurd (cc)
    by (reply.Aborted t) is rest = absurd (cc)
    by (reply.Waits t p) is rest = absurd (cc)
    by reply.Taken is rest = absurd (cc)
    by reply.Held is rest = absurd (cc)
    by reply.Dropped is rest = absurd (cc)
    by reply.Evicted is rest = absurd (cc)
    by reply.Flushed is rest = absurd (cc)
    by reply.Crashed is rest = absurd (cc)
    by reply.Armed is rest = absurd (cc)
    by (reply.Cut n) is rest = absurd (cc)
    by (reply.Viewed n) is rest = absurd (cc)
    by (reply.Installed n) is rest = absurd (cc)
    by (reply.Reopened n) is rest = absurd (cc)
    by (reply.Refused x) is rest = absurd (cc)

verdict_takes : (first : Reply) (rest : List Reply) → is_verdict first ≡ true → AreBehind rest → takes_head (first ∷ rest) ≡ is_taken (first ∷ rest)
verdict_takes reply.Taken rest is all = refl
verdict_takes reply.Held rest is all = behind_keeps rest all
verdict_takes reply.Dropped rest is all = refl
verdict_takes (reply.Value t p v bytes) rest is all = absurd (cc)
verdict_takes (reply.Done t p v) rest is all = absurd (cc)
verdict_takes (reply.Serving q) rest is all = absurd (cc)
verdict_takes (reply.Begun t) rest is all = absurd (cc)
verdict_takes (reply.Committed t) rest is all = absurd (cc)
verdict_takes (reply.Aborted t) rest is all = absurd (cc)
verdict_takes (reply.Waits t p) rest is all = absurd (cc)
verdict_takes reply.Evicted rest is all = absurd (cc)
verdict_takes reply.Flushed rest is all = absurd (cc)
verdict_takes reply.Crashed rest is all = absurd (cc)
verdict_takes reply.Armed rest is all = absurd (cc)
verdict_takes (reply.Cut n) rest is all = absurd (cc)
verdict_takes (reply.Viewed n) rest is all = absurd (cc)
verdict_takes (reply.Installed n) rest is all = absurd (cc)
verdict_takes (reply.Reopened n) rest is all = absurd (cc)
verdict_takes (reply.Refused x) rest is all = absurd (cc)

-- the trace and the cluster agree on it
answer_verdicts : (ev : NodeEvent) (rs : List Reply) → is_delivery ev ≡ true → AreAnswers ev rs → takes_head rs ≡ is_taken rs
answer_verdicts (node.Deliver from m) rs is (answered first rest e own all) = subst (λ xs. takes_head xs ≡ is_taken xs) (sym e) (verdict_takes first rest own all)
answer_verdicts (node.Deliver from m) rs is (granted asks all) = absurd (cc)
answer_verdicts node.Begin rs is (answered first rest e own all) = absurd (cc)
answer_verdicts (node.Read t p) rs is (answered first rest e own all) = absurd (cc)
answer_verdicts (node.Write t p place bytes) rs is (answered first rest e own all) = absurd (cc)
answer_verdicts (node.Commit t) rs is (answered first rest e own all) = absurd (cc)
answer_verdicts (node.Abort t) rs is (answered first rest e own all) = absurd (cc)
answer_verdicts (node.Evict p) rs is (answered first rest e own all) = absurd (cc)
answer_verdicts (node.Flush p) rs is (answered first rest e own all) = absurd (cc)
answer_verdicts (node.Install v) rs is (answered first rest e own all) = absurd (cc)
answer_verdicts node.Cut rs is (answered first rest e own all) = absurd (cc)
answer_verdicts node.Begin rs is (granted asks all) = absurd (cc)
answer_verdicts (node.Read t p) rs is (granted asks all) = absurd (cc)
answer_verdicts (node.Write t p place bytes) rs is (granted asks all) = absurd (cc)
answer_verdicts (node.Commit t) rs is (granted asks all) = absurd (cc)
answer_verdicts (node.Abort t) rs is (granted asks all) = absurd (cc)
answer_verdicts (node.Evict p) rs is (granted asks all) = absurd (cc)
answer_verdicts (node.Flush p) rs is (granted asks all) = absurd (cc)
answer_verdicts (node.Install v) rs is (granted asks all) = absurd (cc)
answer_verdicts node.Cut rs is (granted asks all) = absurd (cc)

pub verdicts : (o : Option Reason) (ev : NodeEvent) (rs : List Reply) → is_delivery ev ≡ true → AreReplies o ev rs → takes_head rs ≡ is_taken rs
verdicts (Some r) ev rs is e = subst (λ xs. takes_head xs ≡ is_taken xs) (sym e) refl
verdicts None ev rs is are = answer_verdicts ev rs is are

-- the links once the head is gone, where it goes
pub head_goes : (x : Entry) (e : Event) (l : Ledger) (ls : Links) → l.links ≡ noted_links ls
    → ((a b : ℕ) → e ≡ event.Deliver a b → takes_head x.replies || is_some x.halted ≡ is_taken x.replies) → (without_head x e l).links ≡ noted_links (links_after e x.replies ls)
head_goes x (event.Deliver a b) l ls links agree = by (takes_head x.replies || is_some x.halted) (agree a b refl)
  where
    by : (y : Bool) → y ≡ is_taken x.replies → (pick y (record l { links = put_ledger_link l.links a b (further_notes (ledger_link l.links a b)) }) l).links ≡ noted_links (pick (is_taken x.replies) (take_head ls a b) ls)
    by true e = ap (λ ms. put_ledger_link ms a b (further_notes (ledger_link ms a b))) links ∙ take_noted ls a b ∙ ap (λ y. noted_links (pick y (take_head ls a b) ls)) e
    by false e = links ∙ ap (λ y. noted_links (pick y (take_head ls a b) ls)) e
head_goes x (event.Begin m) l ls links agree = links
head_goes x (event.Read t p) l ls links agree = links
head_goes x (event.Write t p place bytes) l ls links agree = links
head_goes x (event.Commit t) l ls links agree = links
head_goes x (event.Abort t) l ls links agree = links
head_goes x (event.Evict m p) l ls links agree = links
head_goes x (event.Flush m p) l ls links agree = links
head_goes x (event.Crash m) l ls links agree = links
head_goes x (event.View live owners) l ls links agree = links
head_goes x (event.Install m) l ls links agree = links
head_goes x event.Reopen l ls links agree = links
head_goes x (event.Arm m call kept) l ls links agree = links
head_goes x (event.Cut m) l ls links agree = links

pub head_same : (x : Entry) (e : Event) (l : Ledger) → ((without_head x e l).config ≡ l.config) × ((without_head x e l).up ≡ l.up) × ((without_head x e l).views ≡ l.views)
head_same x (event.Deliver a b) l = by (takes_head x.replies || is_some x.halted)
  where
    k : Ledger
    k = record l { links = put_ledger_link l.links a b (further_notes (ledger_link l.links a b)) }

    by : (y : Bool) → ((pick y k l).config ≡ l.config) × ((pick y k l).up ≡ l.up) × ((pick y k l).views ≡ l.views)
    by true = (refl, refl, refl)
    by false = (refl, refl, refl)
head_same x (event.Begin m) l = (refl, refl, refl)
head_same x (event.Read t p) l = (refl, refl, refl)
head_same x (event.Write t p place bytes) l = (refl, refl, refl)
head_same x (event.Commit t) l = (refl, refl, refl)
head_same x (event.Abort t) l = (refl, refl, refl)
head_same x (event.Evict m p) l = (refl, refl, refl)
head_same x (event.Flush m p) l = (refl, refl, refl)
head_same x (event.Crash m) l = (refl, refl, refl)
head_same x (event.View live owners) l = (refl, refl, refl)
head_same x (event.Install m) l = (refl, refl, refl)
head_same x event.Reopen l = (refl, refl, refl)
head_same x (event.Arm m call kept) l = (refl, refl, refl)
head_same x (event.Cut m) l = (refl, refl, refl)

-- a delivery to a node is one to the node's event
pub agrees : (c : Cluster) (e : Event) (n : ℕ) (s : NodeState) (ev : NodeEvent) (rs : List Reply) → IsHanded c e n s ev → AreReplies (refusal s ev) ev rs → (a b : ℕ) → e ≡ event.Deliver a b → takes_head rs || false ≡ is_taken rs
agrees c e n s ev rs h are a b is =
    or_false (takes_head rs) ∙ verdicts (refusal s ev) ev rs (delivered a (is_some s.view) (head_at c.links a b) ev (sym (ap (handed_to c s) is) ∙ h.event)) are
  where
    or_false : (y : Bool) → y || false ≡ y
    or_false true = refl
    or_false false = refl

-- whether an entry loses its node
pub never_lost : (y z : Bool) → y ≡ false → (y && z) || false ≡ false
never_lost true z e = absurd (cc)
never_lost false z e = refl

pub always_lost : (y z : Bool) → (y && z) || true ≡ true
always_lost true true = refl
always_lost true false = refl
always_lost false z = refl
