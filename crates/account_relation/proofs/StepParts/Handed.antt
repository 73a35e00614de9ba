-- Entries that leave a ledger, and what an event says that is handed to a node.
use Rattle.std.proofs.Common.{◌≡◌, refl, ap, sym, subst, ◌∙◌, ℕ, Bool, true, false, List, [], map, Option, Some, None, is_some, option_map}
use Rattle.pcl_base.specs.declared.event.Event.{Event}
use Rattle.pcl_base.specs.declared.event.Event.TheVariants as event
use Rattle.pcl_base.specs.declared.message.Message.{Message}
use Rattle.pcl_base.specs.declared.trace.Entry.{Entry}
use Rattle.pcl_base.specs.declared.tx.TxId.{TxId}
use Rattle.pcl_base.specs.declared.tx.Mode.{Mode}
use Rattle.pcl_base.specs.declared.tx.Mode.TheVariants.{Shared, Exclusive}
use Rattle.run_rules.specs.Account.{is_lost, lose_if, heard, after_sends, all_sends, after_entry}
use Rattle.run_rules.specs.Causes.{before_sends, is_access}
use Rattle.run_rules.specs.Ledger.{Ledger, actor}
use Rattle.run_rules.specs.Taking.{taken_of}
use Rattle.run_rules.specs.Words.{pick}
use Rattle.node_rules.specs.NodeState.{NodeState, NodeEvent, Outgoing, page_owner}
use Rattle.node_rules.specs.NodeState as node
use Rattle.cluster_rules.specs.Clusters.{Cluster, sent_by}
use Rattle.cluster_rules.specs.Links.{head_at}
use Rattle.cluster_laws.specs.Handed.{handed_to}
use Rattle.account_relation.proofs.SeenSteps.{installs}
use Rattle.account_relation.specs.Step.Sends.{is_asked}
use Rattle.account_relation.proofs.StepParts.Causes.{HasCauses}

-- ---- entries that go

-- an entry leaves a ledger
pub record GoesOn (x : Entry) (l : Ledger) : Type 0 where
  pub ledger : Ledger
  pub goes : after_entry x l ≡ Some ledger

pub quiet_goes : (x : Entry) (l : Ledger) → x.sent ≡ [] → GoesOn x l
unfolding after_entry all_sends
quiet_goes x l none = record { ledger = lose_if (is_lost x) (actor x.event) (heard x l); goes = ap (λ ss. after_sends x (all_sends x (taken_of x.event x.replies l) (actor x.event) ss (before_sends (heard x l)))) none ∙ by (actor x.event) }
  where
    by : (o : Option ℕ) → after_sends x (all_sends x (taken_of x.event x.replies l) o [] (before_sends (heard x l))) ≡ Some (lose_if (is_lost x) (actor x.event) (heard x l))
    by None = refl
    by (Some n) = refl

pub caused_goes : (x : Entry) (l : Ledger) (n : ℕ) (os : List Outgoing) → x.sent ≡ map (sent_by n) os → actor x.event ≡ Some n → HasCauses x (taken_of x.event x.replies l) n os (before_sends (heard x l)) → GoesOn x l
unfolding after_entry
caused_goes x l n os sent acting has =
    record {
      ledger = lose_if (is_lost x) (actor x.event) has.after.ledger;
      goes =
          ap (λ ss. after_sends x (all_sends x (taken_of x.event x.replies l) (actor x.event) ss (before_sends (heard x l)))) sent
          ∙ ap (λ (o : Option ℕ). after_sends x (all_sends x (taken_of x.event x.replies l) o (map (sent_by n) os) (before_sends (heard x l)))) acting ∙ ap (after_sends x) has.goes;
    }

-- ---- what is handed

-- the access of an event
pub access_of : (c : Cluster) (e : Event) (s : NodeState) (ev : NodeEvent) (t : TxId) (p : ℕ) (m : Mode) → handed_to c s e ≡ Some ev → is_asked ev t p m ≡ true → is_access e t p m ≡ true
access_of c (event.Read u q) s ev t p m h asks = let same : node.Read u q ≡ ev = cc in by m (subst (λ (x : NodeEvent). is_asked x t p m ≡ true) (sym same) asks)
  where
    by : (m : Mode) → is_asked (node.Read u q) t p m ≡ true → is_access (event.Read u q) t p m ≡ true
    by Shared a = a
    by Exclusive a = absurd (cc)
access_of c (event.Write u q place bytes) s ev t p m h asks = let same : node.Write u q place bytes ≡ ev = cc in by m (subst (λ (x : NodeEvent). is_asked x t p m ≡ true) (sym same) asks)
  where
    by : (m : Mode) → is_asked (node.Write u q place bytes) t p m ≡ true → is_access (event.Write u q place bytes) t p m ≡ true
    by Shared a = absurd (cc)
    by Exclusive a = a
access_of c (event.Begin n) s ev t p m h asks = let same : node.Begin ≡ ev = cc in let bad = subst (λ (x : NodeEvent). is_asked x t p m ≡ true) (sym same) asks in absurd (cc)
access_of c (event.Commit u) s ev t p m h asks = let same : node.Commit u ≡ ev = cc in let bad = subst (λ (x : NodeEvent). is_asked x t p m ≡ true) (sym same) asks in absurd (cc)
access_of c (event.Abort u) s ev t p m h asks = let same : node.Abort u ≡ ev = cc in let bad = subst (λ (x : NodeEvent). is_asked x t p m ≡ true) (sym same) asks in absurd (cc)
access_of c (event.Deliver a b) s ev t p m h asks = by (is_some s.view) (head_at c.links a b) h
  where
    by : (v : Bool) (o : Option Message) → pick v (option_map (node.Deliver a) o) None ≡ Some ev → is_access (event.Deliver a b) t p m ≡ true
    by false o h = absurd (cc)
    by true None h = absurd (cc)
    by true (Some x) h = let same : node.Deliver a x ≡ ev = cc in let bad = subst (λ (x : NodeEvent). is_asked x t p m ≡ true) (sym same) asks in absurd (cc)
access_of c (event.Evict n q) s ev t p m h asks = let same : node.Evict q ≡ ev = cc in let bad = subst (λ (x : NodeEvent). is_asked x t p m ≡ true) (sym same) asks in absurd (cc)
access_of c (event.Flush n q) s ev t p m h asks = let same : node.Flush q ≡ ev = cc in let bad = subst (λ (x : NodeEvent). is_asked x t p m ≡ true) (sym same) asks in absurd (cc)
access_of c (event.Crash n) s ev t p m h asks = absurd (cc)
access_of c (event.View live owners) s ev t p m h asks = absurd (cc)
access_of c (event.Install n) s ev t p m h asks =
    let x = installs c (event.Install n) s ev refl h in let bad = subst (λ (y : NodeEvent). is_asked y t p m ≡ true) x.event asks in absurd (cc)
access_of c event.Reopen s ev t p m h asks = absurd (cc)
access_of c (event.Arm n call kept) s ev t p m h asks = absurd (cc)
access_of c (event.Cut n) s ev t p m h asks = let same : node.Cut ≡ ev = cc in let bad = subst (λ (x : NodeEvent). is_asked x t p m ≡ true) (sym same) asks in absurd (cc)

-- a delivered message is the head of its link
pub record IsDelivered (c : Cluster) (e : Event) (from : ℕ) (m : Message) : Type 0 where
  pub to : ℕ
  pub event : e ≡ event.Deliver from to
  pub head : head_at c.links from to ≡ Some m

pub delivered_of : (c : Cluster) (e : Event) (s : NodeState) (from : ℕ) (m : Message) → handed_to c s e ≡ Some (node.Deliver from m) → IsDelivered c e from m
delivered_of c (event.Deliver a b) s from m h = by (is_some s.view) (head_at c.links a b) refl h
  where
    by : (v : Bool) (o : Option Message) → head_at c.links a b ≡ o → pick v (option_map (node.Deliver a) o) None ≡ Some (node.Deliver from m) → IsDelivered c (event.Deliver a b) from m
    by false o head h = absurd (cc)
    by true None head h = absurd (cc)
    by true (Some x) head h =
        let sender : a ≡ from = cc in
        let same : x ≡ m = cc in
        subst (λ (k : ℕ). IsDelivered c (event.Deliver a b) k m) sender (record { to = b; event = refl; head = head ∙ ap Some same })
delivered_of c (event.Begin n) s from m h = absurd (cc)
delivered_of c (event.Read t p) s from m h = absurd (cc)
delivered_of c (event.Write t p place bytes) s from m h = absurd (cc)
delivered_of c (event.Commit t) s from m h = absurd (cc)
delivered_of c (event.Abort t) s from m h = absurd (cc)
delivered_of c (event.Evict n p) s from m h = absurd (cc)
delivered_of c (event.Flush n p) s from m h = absurd (cc)
delivered_of c (event.Crash n) s from m h = absurd (cc)
delivered_of c (event.View live owners) s from m h = absurd (cc)
delivered_of c (event.Install n) s from m h = let x = installs c (event.Install n) s (node.Deliver from m) refl h in let bad = x.event in absurd (cc)
delivered_of c event.Reopen s from m h = absurd (cc)
delivered_of c (event.Arm n call kept) s from m h = absurd (cc)
delivered_of c (event.Cut n) s from m h = absurd (cc)
