-- The head of a link that a report is, and the reports behind it.
use Rattle.std.proofs.Common.{◌≡◌, ◌⊎◌, inl, inr, refl, sym, subst, ◌∙◌, ℕ, suc, ◌+◌, ◌<◌, ◌≤◌, ◌==◌, ◌&&◌, cond, Bool, true, false, List, [], ◌∷◌, Option, Some, None, is_some, option_map, arith}
use Rattle.std.specs.List.{filter}
use Rattle.std.proofs.lemmas.Bool.Decides.{nat_tests}
use Rattle.pcl_base.specs.Limits.{Sizes}
use Rattle.pcl_base.specs.declared.event.Event.{Event}
use Rattle.pcl_base.specs.declared.event.Event.TheVariants as event
use Rattle.pcl_base.specs.declared.message.Body.{Body}
use Rattle.pcl_base.specs.declared.message.Body.TheVariants as body
use Rattle.pcl_base.specs.declared.message.Message.{Message}
use Rattle.run_rules.specs.Views.{View}
use Rattle.node_rules.specs.NodeState.{NodeState}
use Rattle.node_rules.specs.NodeState as node
use Rattle.node_rules.specs.Words.{pick}
use Rattle.cluster_rules.specs.Clusters.{Cluster, view_of_epoch}
use Rattle.cluster_rules.specs.Links.{head_at}
use Rattle.cluster_laws.specs.Handed.{IsHanded}
use Rattle.cluster_laws.specs.Link.Coming.{delivers}
use Rattle.cluster_laws.specs.Link.Orders.{is_report, AreOrdered}
use Rattle.cluster_facts.specs.Reports.Reported.{asks_of, IsReportOf, HasReport}
use Rattle.cluster_facts.proofs.ReportsParts.Acted.{report_of}

-- a node that gets a message gets it by this event
pub handed_delivers : (c : Cluster) (e : Event) (n : ℕ) (s : NodeState) (from : ℕ) (m : Message) → IsHanded c e n s (node.Deliver from m) → delivers e from n ≡ true
handed_delivers c (event.Begin k) n s from m h = let bad = h.event in absurd (cc)
handed_delivers c (event.Read t p) n s from m h = let bad = h.event in absurd (cc)
handed_delivers c (event.Write t p place bytes) n s from m h = let bad = h.event in absurd (cc)
handed_delivers c (event.Commit t) n s from m h = let bad = h.event in absurd (cc)
handed_delivers c (event.Abort t) n s from m h = let bad = h.event in absurd (cc)
handed_delivers c (event.Evict k p) n s from m h = let bad = h.event in absurd (cc)
handed_delivers c (event.Flush k p) n s from m h = let bad = h.event in absurd (cc)
handed_delivers c (event.Crash k) n s from m h = let bad = h.event in absurd (cc)
handed_delivers c (event.View live owners) n s from m h = let bad = h.event in absurd (cc)
handed_delivers c event.Reopen n s from m h = let bad = h.event in absurd (cc)
handed_delivers c (event.Arm k call stops) n s from m h = let bad = h.event in absurd (cc)
handed_delivers c (event.Cut k) n s from m h = let bad = h.event in absurd (cc)
handed_delivers c (event.Install k) n s from m h = by (view_of_epoch c.views (s.epoch + 1)) h.event
  where
    by : (o : Option View) → option_map node.Install o ≡ Some (node.Deliver from m) → delivers (event.Install k) from n ≡ true
    by None g = absurd (cc)
    by (Some v) g = absurd (cc)
handed_delivers c (event.Deliver a b) n s from m h = by (is_some s.view) (head_at c.links a b) h.event
  where
    acts : Some b ≡ Some n
    acts = h.acts

    at : b ≡ n
    at = (let same = acts in cc)

    by : (x : Bool) (o : Option Message) → pick x (option_map (node.Deliver a) o) None ≡ Some (node.Deliver from m) → from == a && n == b ≡ true
    by false o g = absurd (cc)
    by true None g = absurd (cc)
    by true (Some k) g = let sender : a ≡ from = cc in let here = at in grind (arith, nat_tests, sender, here)

-- a report asks
pub report_asks : (c : Sizes) (q : ℕ) (b : Body) → IsReportOf q b → asks_of c q b ≡ true
report_asks c q (body.Report r) is = grind (arith, nat_tests, is)
report_asks c q (body.Request r) is = absurd is
report_asks c q (body.Grant r) is = absurd is
report_asks c q (body.Release r) is = absurd is
report_asks c q (body.Revoke p) is = absurd is
report_asks c q (body.Return r) is = absurd is

-- a report among ordered messages is of a later epoch than what is before them
pub ordered_has : (c : Sizes) (q era low : ℕ) (ms : List Message) → AreOrdered low (filter (λ (m : Message). asks_of c q m.body) ms) → HasReport q era ms → low < era
ordered_has c q era low [] is has = absurd has
ordered_has c q era low (m ∷ ms) is has = by (asks_of c q m.body) refl (λ l o h. ordered_has c q era l ms o h) is has
  where
    rises : (x : Bool) → pick x (suc low) low ≤ m.epoch → low ≤ m.epoch
    rises true l = omega (arith, l)
    rises false l = l

    by : (x : Bool) → asks_of c q m.body ≡ x → ((l : ℕ) → AreOrdered l (filter (λ (m : Message). asks_of c q m.body) ms) → HasReport q era ms → l < era)
        → AreOrdered low (cond x (m ∷ filter (λ (m : Message). asks_of c q m.body) ms) (filter (λ (m : Message). asks_of c q m.body) ms))
        → ((m.epoch ≡ era) × IsReportOf q m.body) ⊎ HasReport q era ms → low < era
    by true e k is (inl here) =
        let first : suc low ≤ m.epoch = subst (λ (b : Bool). pick b (suc low) low ≤ m.epoch) (report_of q m.body here.1) is.0 in
        let epoch : m.epoch ≡ era = here.0 in
        omega (arith, first, epoch)
    by true e k is (inr rest) = let low = rises (is_report m.body) is.0 in let after = k m.epoch is.1 rest in omega (arith, low, after)
    by false e k is (inl here) = let bad : true ≡ false = sym (report_asks c q m.body here.1) ∙ e in absurd (cc)
    by false e k is (inr rest) = k low is rest

-- what stands behind the head
pub ordered_behind : (c : Sizes) (q : ℕ) (m : Message) (ms : List Message) → asks_of c q m.body ≡ true → AreOrdered 0 (filter (λ (m : Message). asks_of c q m.body) (m ∷ ms))
    → AreOrdered m.epoch (filter (λ (m : Message). asks_of c q m.body) ms)
ordered_behind c q m ms asks is = (by (asks_of c q m.body) asks is).1
  where
    by : (x : Bool) → x ≡ true → AreOrdered 0 (cond x (m ∷ filter (λ (m : Message). asks_of c q m.body) ms) (filter (λ (m : Message). asks_of c q m.body) ms))
        → AreOrdered 0 (m ∷ filter (λ (m : Message). asks_of c q m.body) ms)
    by true e is = is
    by false e is = absurd (cc)
