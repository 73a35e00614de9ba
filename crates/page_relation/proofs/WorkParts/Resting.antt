-- What stays of the relation where the machine changes what is stored alone.
use Rattle.std.proofs.Common.{◌≡◌, ap, sym, subst, ◌∙◌, ℕ, Bool, true, false, List, Option, Some, None}
use Rattle.pcl_base.specs.declared.message.Message.{Message}
use Rattle.pcl_base.specs.declared.tx.TxId.{TxId}
use Rattle.node_rules.specs.LockTable.{LockTable, entry_at}
use Rattle.node_rules.specs.NodeState.{NodeState, table_at}
use Rattle.node_laws.proofs.Lists.{all_weaker}
use Rattle.cluster_rules.specs.Clusters.{Cluster, node_at, last_view}
use Rattle.cluster_laws.specs.Era.Eras.{era_at, era_in}
use Rattle.cluster_laws.specs.Link.Coming.{coming}
use Rattle.page_protocol.specs.Bytes.{Copy, Access}
use Rattle.page_protocol.specs.State.{Home, Page, current}
use Rattle.page_laws.specs.Written.Written.{DiffersWithin}
use Rattle.page_relation.specs.Homes.{StandsIn, ImageIn, runs_in}
use Rattle.page_relation.specs.Messages.{SaysSo}
use Rattle.page_relation.specs.Relation.{HistoryIs, HomesAre, NodesAre, TablesAre, LinksAre, MessageIs}
use Rattle.page_relation.specs.Tables.{IsServed, IsRebuilt, TableIs, TableIn, TableOf, EraIs, serves_in}
use Rattle.page_relation.specs.Work.Rest.{SameRest, RestStays}

-- a thing of a type that is the same
along : {S T : Type 0} → S ≡ T → S → T
along same s = subst (λ (X : Type 0). X) same s

module _ (a b : Page) (same : SameRest a b) (d : Cluster) (p q : ℕ) where
  current_same : current a ≡ current b
  current_same = (λ i. record { version = sym same.now i; bytes = sym same.hist i (sym same.now i) })

  home_same : (t : TxId) → a.home t ≡ b.home t
  home_same t = sym (ap (λ (f : TxId → Home). f t) same.home)

  image_same : (t : TxId) → a.image t ≡ b.image t
  image_same t = sym (ap (λ (f : TxId → List ℕ). f t) same.image)

  history_rest : HistoryIs d p a.hist (current a) → HistoryIs d p b.hist (current b)
  history_rest is =
      let to : HistoryIs d p a.hist (current a) ≡ HistoryIs d p b.hist (current b) = (λ i. HistoryIs d p (sym same.hist i) (current_same i)) in along to is

  image_rest : (t : TxId) → ImageIn (node_at d t.node) t p (a.home t) (a.image t) → ImageIn (node_at d t.node) t p (b.home t) (b.image t)
  image_rest t is =
      let to : ImageIn (node_at d t.node) t p (a.home t) (a.image t) ≡ ImageIn (node_at d t.node) t p (b.home t) (b.image t) =
      (λ i. ImageIn (node_at d t.node) t p (home_same t i) (image_same t i)) in
      along to is

  written_rest : (t : TxId) → DiffersWithin (runs_in (node_at d t.node) t p) (current a).bytes (a.image t) → DiffersWithin (runs_in (node_at d t.node) t p) (current b).bytes (b.image t)
  written_rest t is =
      let to : DiffersWithin (runs_in (node_at d t.node) t p) (current a).bytes (a.image t) ≡ DiffersWithin (runs_in (node_at d t.node) t p) (current b).bytes (b.image t) =
      (λ i. DiffersWithin (runs_in (node_at d t.node) t p) (ap (λ (x : Copy). x.bytes) current_same i) (image_same t i)) in
      along to is

  homes_rest : HomesAre d p (current a) a → HomesAre d p (current b) b
  homes_rest is =
      record {
        stands = λ t. subst (StandsIn (last_view d).epoch (node_at d t.node) t p) (home_same t) (is.stands t);
        kinds = is.kinds;
        scripts = λ t. ap (λ (f : TxId → List Access). f t) same.script ∙ is.scripts t;
        images = λ t. image_rest t (is.images t);
        written = λ t holds. written_rest t (is.written t (home_same t ∙ holds));
      }

  nodes_rest : NodesAre d p q a.era a.right a.reached → NodesAre d p q b.era b.right b.reached
  nodes_rest is =
      let to : NodesAre d p q a.era a.right a.reached ≡ NodesAre d p q b.era b.right b.reached =
      (λ i. NodesAre d p q (sym same.era i) (sym same.right i) (sym same.reached i)) in
      along to is

  table_rest : (m e : ℕ) (s : Bool) (t : LockTable) → TableIs a p m e s t → TableIs b p m e s t
  table_rest m e true t is =
      let to : IsServed a.served a.owner a.era a.entry a.listed a.right a.reached a.home m e (entry_at t p)
      ≡ IsServed b.served b.owner b.era b.entry b.listed b.right b.reached b.home m e (entry_at t p) =
      (λ i. IsServed (sym same.served i) (sym same.owner i) (sym same.era i) (sym same.entry i) (sym same.listed i) (sym same.right i) (sym same.reached i) (sym same.home i) m e (entry_at t p)) in
      along to is
  table_rest m e false t is =
      let to : IsRebuilt a.era a.listed a.right a.reached a.home e t (entry_at t p) ≡ IsRebuilt b.era b.listed b.right b.reached b.home e t (entry_at t p) =
      (λ i. IsRebuilt (sym same.era i) (sym same.listed i) (sym same.right i) (sym same.reached i) (sym same.home i) e t (entry_at t p)) in
      along to is

  there_rest : (m e : ℕ) (o : Option LockTable) → TableIn a p m e o → TableIn b p m e o
  there_rest m e None is = tt
  there_rest m e (Some t) is = table_rest m e t.serving t is

  node_rest : (m : ℕ) (o : Option NodeState) → TableOf a p q m o → TableOf b p q m o
  node_rest m None is = tt
  node_rest m (Some s) is = there_rest m (era_in s.view q) (table_at s q) is

  era_rest : EraIs d q a.era a.owner → EraIs d q b.era b.owner
  era_rest is = let to : EraIs d q a.era a.owner ≡ EraIs d q b.era b.owner = (λ i. EraIs d q (sym same.era i) (sym same.owner i)) in along to is

  tables_rest : TablesAre d p q a → TablesAre d p q b
  tables_rest is =
      record {
        tables = λ m. node_rest m (node_at d m) (is.tables m);
        serving = λ on. ap (λ (k : ℕ). serves_in (node_at d k) q) same.owner ∙ is.serving (sym same.served ∙ on);
        era = era_rest is.era;
      }

  message_rest : (from to : ℕ) (m : Message) → MessageIs d p q a from to m → MessageIs d p q b from to m
  message_rest from to m says =
      let on : SaysSo a.era a.hist a.reached a.listed a.right a.home a.sent p from to (era_at d q m.epoch) m.body
      ≡ SaysSo b.era b.hist b.reached b.listed b.right b.home b.sent p from to (era_at d q m.epoch) m.body =
      (λ i. SaysSo (sym same.era i) (sym same.hist i) (sym same.reached i) (sym same.listed i) (sym same.right i) (sym same.home i) (sym same.sent i) p from to (era_at d q m.epoch) m.body) in
      along on says

  links_rest : LinksAre d p q a → LinksAre d p q b
  links_rest is =
      record {
        say = λ from to. all_weaker (MessageIs d p q a from to) (MessageIs d p q b from to) (message_rest from to) (coming d p from to) (is.say from to);
        ordered = is.ordered;
        once = is.once;
      }

pub rest_stays_law : RestStays
rest_stays_law d p q a b same =
    record {
      history = history_rest a b same d p q;
      homes = homes_rest a b same d p q;
      nodes = nodes_rest a b same d p q;
      tables = tables_rest a b same d p q;
      links = links_rest a b same d p q;
    }
