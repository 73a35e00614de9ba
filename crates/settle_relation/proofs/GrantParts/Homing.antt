-- A transaction that gets its lock at its home, with the current copy.
use Rattle.std.proofs.Common.{◌≡◌, refl, sym, subst, ◌∙◌, ℕ, ◌==◌, ◌&&◌, Bool, true, false, List, Option, Some, None, arith}
use Rattle.std.proofs.lemmas.Bool.Decides.{nat_tests}
use Rattle.pcl_base.specs.declared.event.Event.{Event}
use Rattle.pcl_base.specs.declared.lock.Held.{Held}
use Rattle.pcl_base.specs.declared.tx.Mode.TheVariants.{Exclusive}
use Rattle.pcl_base.specs.declared.tx.TxId.{TxId}
use Rattle.node_rules.specs.BufferRule.{copy_at, dirty, private_bytes}
use Rattle.node_rules.specs.DiskCalls.{DiskCall, all_done}
use Rattle.node_rules.specs.InstallRule.{owned_before}
use Rattle.node_rules.specs.NodeState.{NodeState, Run, number_of, partition, runs_at, table_at}
use Rattle.node_rules.specs.OpenTxs.{held_by, is_open, pending_of}
use Rattle.node_rules.specs.Shelf.{right_on}
use Rattle.node_rules.specs.Work.{HomeWork, Work, with_home_work, work_of_home}
use Rattle.cluster_rules.specs.Clusters.{Cluster, node_at, last_view}
use Rattle.page_laws.specs.Look.Ends.{version_of_right}
use Rattle.page_laws.specs.Look.Parts.{SameLife}
use Rattle.page_protocol.specs.Bytes.{Copy}
use Rattle.page_protocol.specs.State.{Home, Holding, Page}
use Rattle.page_protocol.specs.State as machine
use Rattle.page_relation.specs.Homes.{ImageIn, KindFits, KindIn, Stands, StandsIn, held_stand, image_of, is_unborn, runs_in, stand_of, wait_on}
use Rattle.page_relation.specs.Looks.{copy_in}
use Rattle.page_relation.specs.Relation.{HomesAre}
use Rattle.page_laws.specs.Storage.Looks.{IsStored}
use Rattle.page_laws.specs.Written.Written.{DiffersWithin}
use Rattle.page_relation.specs.Work.Keeping.{IsWorkOf}
use Rattle.page_relation.specs.Work.Landing.{land}
use Rattle.page_relation.specs.Work.Unseen.{SameStanding}
use Rattle.page_relation.proofs.WorkParts.Framing.{entry_self, history_stays_law, stored_stays_law, nodes_stay_law, tables_stay_law, links_stay_law}
use Rattle.page_relation.proofs.WorkParts.Nodes.{kept_node, kind_same, of_node, stands_as, unborn_same}
use Rattle.page_relation.proofs.WorkParts.Storing.{IsHere, copies_by, dirty_there, slot_there}
use Rattle.settle_relation.specs.Grant.Going.{GoesOn, gone_on}
use Rattle.settle_relation.proofs.GrantParts.Going.{links_on, stays_on, tables_on}
use Rattle.settle_relation.proofs.GrantParts.Writing.{by_tx}

-- what a home shows once a transaction has got its lock on the page
pub record GetsLock (p : ℕ) (t : TxId) (l : Held) (o k : HomeWork) : Type 0 where
  pub life : SameLife o.home k.home
  pub opened : is_open o.home.txs t ≡ true
  pub held : held_by k.home.txs t p ≡ Some l
  pub waits : wait_on (pending_of k.home.txs t) p ≡ None
  pub other_held : (u : TxId) → machine.same_tx u t ≡ false → held_by k.home.txs u p ≡ held_by o.home.txs u p
  pub other_waits : (u : TxId) → machine.same_tx u t ≡ false → wait_on (pending_of k.home.txs u) p ≡ wait_on (pending_of o.home.txs u) p
  pub other_bytes : (u : TxId) → machine.same_tx u t ≡ false → private_bytes k.home.pool u p ≡ private_bytes o.home.pool u p
  pub runs : (u : TxId) → runs_at k.home.written u p ≡ runs_at o.home.written u p
  pub right : version_of_right (right_on k.home.shelf p) ≡ version_of_right (right_on o.home.shelf p)
  pub calls : k.calls ≡ o.calls

-- what the machine has then: the transaction stands so, the node has the current copy, and a writer's private copy is it
pub record IsHomed (n p : ℕ) (t : TxId) (l : Held) (w : Work) (k : HomeWork) (a : Page) (home : TxId → Home) (slot : ℕ → Option Copy) (image : TxId → List ℕ) : Type 0 where
  pub home_here : home t ≡ held_stand l.mode l.kind None
  pub home_there : (u : TxId) → machine.same_tx u t ≡ false → home u ≡ a.home u
  pub image_there : (u : TxId) → machine.same_tx u t ≡ false → image u ≡ a.image u
  pub slot_here : slot n ≡ Some (machine.current a)
  pub slot_there : (m : ℕ) → (m == n) ≡ false → slot m ≡ a.slot m
  pub goes : GoesOn (a.home t) (home t)
  pub bytes : private_bytes k.home.pool t p ≡ image_of (home t) (image t)
  pub written : home t ≡ Holding Exclusive → DiffersWithin (runs_at k.home.written t p) (machine.current a).bytes (image t)
  pub kind : KindFits (owned_before w.node.view (partition w.node.home.config p) (number_of w.node)) (Some l)
  pub copy : copy_in (copy_at k.home.pool p) ≡ Some (machine.current a)
  pub mark : dirty k.home.pool p ≡ (a.dirty && n == a.owner)

module _ (c : Cluster) (e : Event) (n p : ℕ) (t : TxId) (l : Held) (w : Work) (k : HomeWork) (a : Page) (home : TxId → Home) (slot : ℕ → Option Copy) (image : TxId → List ℕ)
    (h : IsHere c e n p w a) (mine : t.node ≡ n) (gets : GetsLock p t l (work_of_home w) k) (is : IsHomed n p t l w k a home slot image) where
  abbrev x : Work
  x = with_home_work w k

  abbrev next : Page
  next = gone_on a home slot a.script image

  apart : {X : Type 0} → (t.node == n) ≡ false → X
  apart other = absurd (grind (arith, nat_tests, mine, other))

  standing : SameStanding w.node x.node
  standing = record { config = gets.life.config; number = gets.life.node; epoch = refl; view = refl }

  own_stands : (last : ℕ) → StandsIn last (Some x.node) t p (home t)
  own_stands last =
      subst (λ (b : Bool). Stands b (is_unborn x.node.view x.node t) (held_by k.home.txs t p) (wait_on (pending_of k.home.txs t) p) (home t)) (sym (gets.life.alive t ∙ gets.opened))
      (None, is.home_here ∙ sym (λ i. stand_of (gets.held i) (gets.waits i) None))

  other_stands : (last : ℕ) (u : TxId) → machine.same_tx u t ≡ false → StandsIn last (Some w.node) u p (a.home u) → StandsIn last (Some x.node) u p (a.home u)
  other_stands last u other old =
      stands_as (a.home u) (is_open w.node.home.txs u) (is_open x.node.home.txs u) (is_unborn w.node.view w.node u) (is_unborn x.node.view x.node u) (held_by w.node.home.txs u p)
      (held_by x.node.home.txs u p) (wait_on (pending_of w.node.home.txs u) p) (wait_on (pending_of x.node.home.txs u) p) (gets.life.alive u)
      (unborn_same w.node x.node standing u gets.life) (gets.other_held u other) (gets.other_waits u other) old

  own_kind : KindIn (Some x.node) t p
  own_kind =
      subst (KindFits (owned_before x.node.view (partition x.node.home.config p) (number_of x.node))) (sym gets.held)
      (subst (λ (b : Bool). KindFits b (Some l)) (sym (λ i. owned_before w.node.view (partition (gets.life.config i) p) (gets.life.node i))) is.kind)

  -- what holds of the home node of the transaction, and of those of others
  at_home : (R : (o : Option NodeState) → TxId → Type 0) → R (Some x.node) t → ((u : TxId) → machine.same_tx u t ≡ false → R (node_at (land c e n x) u.node) u) → (u : TxId)
      → R (node_at (land c e n x) u.node) u
  at_home R own others u =
      by_tx t u (λ (v : TxId). R (node_at (land c e n x) v.node) v) (of_node c e n h.acts x t.node (λ o. R o t) (λ at. own) (λ other. apart other)) (λ other. others u other)

  homes_on : HomesAre (land c e n w) p (machine.current a) a → HomesAre (land c e n x) p (machine.current a) next
  unfolding land
  homes_on old =
      record {
        stands =
            at_home (λ o u. StandsIn (last_view c).epoch o u p (home u)) (own_stands (last_view c).epoch)
            (λ u other.
            subst (StandsIn (last_view c).epoch (node_at (land c e n x) u.node) u p) (sym (is.home_there u other))
            (kept_node c e n h.acts w x u.node (λ o. StandsIn (last_view c).epoch o u p (a.home u)) (λ at. other_stands (last_view c).epoch u other) (old.stands u)));
        kinds =
            at_home (λ o u. KindIn o u p) own_kind
            (λ u other. kept_node c e n h.acts w x u.node (λ o. KindIn o u p) (λ at. kind_same w.node x.node standing p u (gets.other_held u other)) (old.kinds u));
        scripts = old.scripts;
        images =
            at_home (λ o u. ImageIn o u p (home u) (image u)) is.bytes
            (λ u other.
            subst (λ (y : Home). ImageIn (node_at (land c e n x) u.node) u p y (image u)) (sym (is.home_there u other))
            (subst (ImageIn (node_at (land c e n x) u.node) u p (a.home u)) (sym (is.image_there u other))
            (kept_node c e n h.acts w x u.node (λ o. ImageIn o u p (a.home u) (a.image u)) (λ at was. gets.other_bytes u other ∙ was) (old.images u))));
        written =
            at_home (λ o u. home u ≡ Holding Exclusive → DiffersWithin (runs_in o u p) (machine.current a).bytes (image u)) is.written
            (λ u other holds.
            subst (DiffersWithin (runs_in (node_at (land c e n x) u.node) u p) (machine.current a).bytes) (sym (is.image_there u other))
            (kept_node c e n h.acts w x u.node (λ o. DiffersWithin (runs_in o u p) (machine.current a).bytes (a.image u))
            (λ at was. subst (λ (rs : List Run). DiffersWithin rs (machine.current a).bytes (a.image u)) (sym (gets.runs u)) was)
            (old.written u (sym (is.home_there u other) ∙ holds))));
      }

  goes_all : (u : TxId) → GoesOn (a.home u) (home u)
  goes_all u = by_tx t u (λ (v : TxId). GoesOn (a.home v) (home v)) is.goes (λ other. subst (GoesOn (a.home u)) (sym (is.home_there u other)) (stays_on (a.home u)))

  -- the relation with the state after it
  pub homed : IsWorkOf c e n p x next
  unfolding land
  homed =
      record {
        history = history_stays_law c e n p w x a.hist (machine.current a) (record { accesses = λ u. refl; now_same = refl }) h.related.history;
        stored =
            stored_stays_law c e n p w x a.disk a.log
            (λ disk log old. subst (λ (ds : List DiskCall). IsStored c.config (all_done n c.disk ds) p disk log) (sym gets.calls) old) h.related.stored;
        copies =
            copies_by c e n p x slot a.owner a.dirty h.acts (is.copy ∙ sym is.slot_here) is.mark (λ m other. slot_there c e n p w a h m other ∙ sym (is.slot_there m other))
            (dirty_there c e n p w a h);
        homes = homes_on h.related.homes;
        nodes = nodes_stay_law c e n p (partition c.config p) a.era w x a.right a.reached h.acts standing gets.right h.related.nodes;
        tables =
            tables_on a home slot a.script image goes_all (land c e n x) p (partition c.config p)
            (tables_stay_law c e n p (partition c.config p) w x a h.acts standing (entry_self p (table_at w.node (partition c.config p))) h.related.tables);
        links =
            links_on a home slot a.script image goes_all (land c e n x) p (partition c.config p)
            (links_stay_law c e n p (partition c.config p) w x a h.acts standing refl (λ b. refl) h.related.links);
      }
