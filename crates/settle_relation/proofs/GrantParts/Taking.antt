-- A right that comes to a transaction that waits for it.
use Rattle.std.proofs.Common.{◌≡◌, refl, ap, sym, subst, ◌∙◌, ℕ, ◌≤◌, eqb, Bool, true, false, List, Option, Some, None, arith}
use Rattle.std.specs.Prelude.{IfSome}
use Rattle.pcl_base.specs.declared.event.Event.{Event}
use Rattle.pcl_base.specs.declared.lock.Kind.TheVariants as kind
use Rattle.pcl_base.specs.declared.lock.Pending.{Pending}
use Rattle.pcl_base.specs.declared.tx.Mode.{Mode}
use Rattle.pcl_base.specs.declared.tx.Mode.TheVariants.{Shared, Exclusive}
use Rattle.pcl_base.specs.declared.tx.TxId.{TxId}
use Rattle.node_rules.specs.AccessRule.{Granted, bring, granted, locked, write_of}
use Rattle.node_rules.specs.InstallRule.{owned_before}
use Rattle.node_rules.specs.NodeState.{number_of, partition}
use Rattle.node_rules.specs.OpenTxs.{pending_of}
use Rattle.node_rules.specs.OwnerRule.{told}
use Rattle.node_rules.specs.Work.{Differs, Goes, HomeWork, Outcome, Work, and_so, work_of_home}
use Rattle.cluster_rules.specs.Clusters.{Cluster}
use Rattle.page_laws.specs.Moment.Looks.{asked_last}
use Rattle.page_protocol.specs.Bytes.{Copy}
use Rattle.page_protocol.specs.Homes.{Waits, keeping_right, taking_right}
use Rattle.page_protocol.specs.State.{Asking, Ended, Flying, Fresh, Gone, Holding, HoldingAsks, Home, Image, IsAsking, Page, Reading, ReadingAsks, Sent, told_copy, upd, updn}
use Rattle.page_protocol.specs.State as machine
use Rattle.page_protocol.specs.Steps.{Reached, here, takes_right, then}
use Rattle.page_protocol.proofs.Keeps.{reached_holds}
use Rattle.page_relation.specs.Homes.{held_stand}
use Rattle.page_relation.specs.Work.Events.{IsEntered}
use Rattle.page_relation.specs.Work.Keeping.{Leads}
use Rattle.page_relation.specs.Work.Landing.{trace_of}
use Rattle.page_relation.specs.Work.Letting.{CalledBy}
use Rattle.page_relation.proofs.WorkParts.Storing.{IsHere}
use Rattle.settle_relation.specs.Grant.Carrying.{HasOwnImage}
use Rattle.settle_relation.specs.Grant.Going.{GoesOn}
use Rattle.settle_relation.specs.Grant.Performing.{performing}
use Rattle.settle_relation.proofs.GrantParts.Accepting.{goes_to_read, no_image_yet, one_slot, other_slot, waits_there}
use Rattle.settle_relation.proofs.GrantParts.Bringing.{never_differs}
use Rattle.settle_relation.proofs.GrantParts.Carrying.{CarryNeeds, IsCarried, Moves, carried}
use Rattle.settle_relation.proofs.GrantParts.Facts.{flying_entry, right_ok}
use Rattle.settle_relation.proofs.GrantParts.Ready.{IsReady}
use Rattle.settle_relation.proofs.GrantParts.Sharing.{right_is_shared}
use Rattle.settle_relation.proofs.GrantParts.Writing.{upd_here, upd_there}

-- a transaction of the node waits to read the page, and the right is on its way; in the work it has come
pub record MayTakeRight (c : Cluster) (e : Event) (n p : ℕ) (g : Sent) (image : Option (List ℕ)) (w : Work) (a : Page) : Type 0 where
  pub blank : List ℕ
  pub reached : Reached blank a
  pub flying : a.right n ≡ Flying g
  pub takes : a.reached n ≡ a.era
  pub ready : IsReady p g.tx g.mode w.node.home
  pub asked : IfSome (pending_of w.node.home.txs g.tx) (λ (x : Pending). x.write ≡ asked_last g.tx (trace_of c e n w))
  pub called : CalledBy n c.disk (work_of_home w)
  pub config : w.node.home.config ≡ c.config
  pub away : owned_before w.node.view (partition w.node.home.config p) (number_of w.node) ≡ false
  pub image_is : (bytes : List ℕ) → image ≡ Some bytes → g.word ≡ Image bytes
  pub entered : IsEntered a

-- who waits to read asks for its first access
asks_to_read : (h : Home) (m : Mode) → m ≡ Shared → Waits h m → (have : Option ℕ) × (h ≡ Asking Shared have)
asks_to_read Fresh m same is = absurd is
asks_to_read (Asking k v) m same is = (v, ap (λ (x : Mode). Asking x v) (is ∙ same))
asks_to_read (Holding k) m same is = absurd is
asks_to_read HoldingAsks m same is = (let bad : Shared ≡ Exclusive = sym same ∙ is in absurd (cc))
asks_to_read Reading m same is = absurd is
asks_to_read ReadingAsks m same is = (let bad : Shared ≡ Exclusive = sym same ∙ is in absurd (cc))
asks_to_read (Ended v f) m same is = absurd is
asks_to_read Gone m same is = absurd is

module _ (c : Cluster) (e : Event) (n p : ℕ) (g : Sent) (image : Option (List ℕ)) (w : Work) (a : Page) (may : MayTakeRight c e n p g image w a) (h : IsHere c e n p w (keeping_right a g)) where
  mine : g.tx.node ≡ n
  mine = (right_ok may.blank a may.reached n g may.flying).0

  shared : g.mode ≡ Shared
  shared = right_is_shared may.blank a may.reached n g may.flying

  waits : Waits (a.home g.tx) g.mode
  unfolding keeping_right
  waits = waits_there c e n p g.tx g.mode w (keeping_right a g) h mine may.ready

  asking : (have : Option ℕ) × (a.home g.tx ≡ Asking Shared have)
  asking = asks_to_read (a.home g.tx) g.mode shared waits

  version_now : g.version ≡ a.now
  version_now = (right_ok may.blank a may.reached n g may.flying).2

  told_here : told_copy g.word g.version (a.slot n) a.disk ≡ Some (machine.current a)
  told_here =
      (right_ok may.blank a may.reached n g may.flying).3 (let is = may.takes in omega (arith, is)) (subst IsAsking (sym asking.1) tt)

  told_is : told_copy g.word g.version (a.slot g.tx.node) a.disk ≡ Some (machine.current a)
  told_is = ap (λ (m : ℕ). told_copy g.word g.version (a.slot m) a.disk) mine ∙ told_here

  image_current : (bytes : List ℕ) → image ≡ Some bytes → bytes ≡ a.hist a.now
  image_current bytes is =
      some_bytes (record { version = g.version; bytes = bytes }) (machine.current a)
      (sym (ap (λ x. told_copy x g.version (a.slot n) a.disk) (may.image_is bytes is)) ∙ told_here)
    where
      some_bytes : (x y : Copy) → (let o : Option Copy = Some x in o) ≡ Some y → x.bytes ≡ y.bytes
      some_bytes x y same = (let one : x ≡ y = cc in ap (λ (z : Copy). z.bytes) one)

  needs : CarryNeeds c e n p g.tx g.mode kind.Right g.version image w (keeping_right a g)
  unfolding keeping_right
  needs =
      record {
        mine = mine;
        ready = may.ready;
        asked = may.asked;
        called = may.called;
        config = may.config;
        kind = sym may.away;
        version_now = version_now;
        entry = flying_entry may.blank a may.reached n g may.flying;
        image_is = image_current;
      }

  abbrev home : TxId → Home
  home = upd a.home g.tx Reading

  abbrev slot : ℕ → Option Copy
  slot = updn a.slot g.tx.node (told_copy g.word g.version (a.slot g.tx.node) a.disk)

  moves : Moves n g.tx g.mode kind.Right (keeping_right a g) home slot a.image
  unfolding keeping_right
  moves =
      record {
        home_here = upd_here a.home g.tx Reading ∙ sym (ap (λ (x : Mode). held_stand x kind.Right None) shared);
        home_there = λ u other. upd_there a.home g.tx u Reading other;
        image_here = λ mode. let bad : Shared ≡ Exclusive = sym shared ∙ mode in absurd (cc);
        image_there = λ u other. refl;
        slot_here = one_slot a.slot n g.tx.node (told_copy g.word g.version (a.slot g.tx.node) a.disk) mine ∙ told_is;
        slot_there = λ m other. other_slot a.slot n g.tx.node m (told_copy g.word g.version (a.slot g.tx.node) a.disk) mine other;
        goes = subst (GoesOn (a.home g.tx)) (sym (upd_here a.home g.tx Reading)) (goes_to_read (a.home g.tx) g.mode waits);
        waited = no_image_yet (a.home g.tx) g.mode (a.image g.tx) waits;
      }

  taking_entered : IsEntered (taking_right a g)
  unfolding taking_right
  taking_entered x on there = by (eqb a.owner g.tx.node) there
    where
      by : (b : Bool) → machine.pick b (told_copy g.word g.version (a.slot g.tx.node) a.disk) (a.slot a.owner) ≡ Some x → x.version ≤ a.entry
      by false is = may.entered x on is
      by true is =
          let same : Some (machine.current a) ≡ Some x = sym told_is ∙ is in
          let now : machine.current a ≡ x = cc in
          let entry : a.entry ≡ a.now = flying_entry may.blank a may.reached n g may.flying ((reached_holds may.blank a may.reached).kept_holds.dirty_served on) in
          subst (λ (y : Copy). y.version ≤ a.entry) now (omega (arith, entry))

  pub right_leads : (y : Granted) → granted g.tx (record { page = p; mode = g.mode; kind = kind.Right }) g.version image (work_of_home w) ≡ Goes y
      → Leads c e n p (λ x b. IsEntered b) a (told w y)
  unfolding taking_right keeping_right
  right_leads y goes =
      let done : IsCarried c e n p g.tx w y (taking_right a g) =
      carried c e n p g.tx g.mode kind.Right g.version image w (keeping_right a g) h needs home slot a.image moves y goes in
      record {
        page = performing (taking_right a g) g.tx done.write;
        run = then (then here (takes_right g asking.0 (ap a.right mine ∙ may.flying) (ap a.reached mine ∙ may.takes) asking.1)) done.step;
        related = done.related;
        known = done.entered taking_entered;
      }

  pub right_goes : HasOwnImage p g image w → (q expected found : ℕ) → granted g.tx (record { page = p; mode = g.mode; kind = kind.Right }) g.version image (work_of_home w) ≡ Differs q expected found → ⊥
  unfolding granted keeping_right
  right_goes own q expected found differs = by (bring p g.version image (work_of_home w)) refl differs
    where
      by : (o : Outcome HomeWork) → bring p g.version image (work_of_home w) ≡ o
          → and_so o (locked g.tx (record { page = p; mode = g.mode; kind = kind.Right }) (write_of (pending_of w.node.home.txs g.tx))) ≡ Differs q expected found → ⊥
      by (Goes x) is so = absurd (cc)
      by (Differs r x f) is so =
          never_differs c e n p w (keeping_right a g) h may.called g.word image r x f
          (ap (λ (v : ℕ). told_copy g.word v (a.slot n) a.disk) (sym version_now) ∙ told_here)
          (λ bytes none word. own bytes none word ∙ ap (λ (v : ℕ). let z : Option ℕ = Some v in z) version_now)
          (ap (λ (v : ℕ). bring p v image (work_of_home w)) (sym version_now) ∙ is)
