-- A grant without a right that is carried out: the machine's acceptance.
use Rattle.std.proofs.Common.{◌≡◌, refl, ap, sym, subst, ◌∙◌, ℕ, ◌<◌, ◌≤◌, ◌==◌, eqb, Bool, true, false, List, Option, Some, None, arith}
use Rattle.std.specs.Prelude.{IfSome}
use Rattle.std.proofs.lemmas.Bool.Decides.{nat_tests}
use Rattle.pcl_base.specs.declared.event.Event.{Event}
use Rattle.pcl_base.specs.declared.lock.Held.{Held}
use Rattle.pcl_base.specs.declared.lock.Kind.{Kind}
use Rattle.pcl_base.specs.declared.lock.Kind.TheVariants as kind
use Rattle.pcl_base.specs.declared.lock.Pending.{Pending}
use Rattle.pcl_base.specs.declared.tx.Mode.{Mode}
use Rattle.pcl_base.specs.declared.tx.Mode.TheVariants.{Shared, Exclusive}
use Rattle.pcl_base.specs.declared.tx.TxId.{TxId}
use Rattle.node_rules.specs.AccessRule.{Granted, bring, granted, locked, write_of}
use Rattle.node_rules.specs.EndRule.{is_own_kind}
use Rattle.node_rules.specs.InstallRule.{owned_before}
use Rattle.node_rules.specs.NodeState.{number_of, partition}
use Rattle.node_rules.specs.OpenTxs.{held_by, is_open, mode_held, pending_of}
use Rattle.node_rules.specs.OwnerRule.{told}
use Rattle.node_rules.specs.Words.{covers}
use Rattle.node_rules.specs.Work.{Differs, Goes, HomeWork, Outcome, Work, and_so, work_of_home}
use Rattle.home_laws.specs.Homes.{is_right_kind}
use Rattle.cluster_rules.specs.Clusters.{Cluster, last_view}
use Rattle.page_laws.specs.Moment.Looks.{asked_last}
use Rattle.page_protocol.specs.Bytes.{Copy}
use Rattle.page_protocol.specs.Homes.{Waits, accepting}
use Rattle.page_protocol.specs.Invariant.{Counts}
use Rattle.page_protocol.specs.State.{Asking, Ended, Fresh, Gone, Holding, HoldingAsks, Home, Image, In, Page, Reading, ReadingAsks, Sent, bytes_of, told_copy, updn}
use Rattle.page_protocol.specs.State as machine
use Rattle.page_protocol.specs.Steps.{Reached, accepts, here, then}
use Rattle.page_protocol.proofs.Keeps.{reached_holds}
use Rattle.page_relation.specs.Homes.{Stands, StandsIn, held_stand, image_of, is_unborn, shared_stand, stand_of, wait_on}
use Rattle.page_relation.specs.Work.Events.{IsEntered}
use Rattle.page_relation.specs.Work.Keeping.{IsWorkOf, Leads}
use Rattle.page_relation.specs.Work.Landing.{Acts, land, trace_of}
use Rattle.page_relation.specs.Work.Letting.{CalledBy}
use Rattle.page_relation.proofs.WorkParts.Nodes.{at_node}
use Rattle.page_relation.proofs.WorkParts.Storing.{IsHere, own_page}
use Rattle.settle_relation.specs.Grant.Carrying.{CarryGoes, CarryLeads, HasOwnImage, MayCarry, OwnGrantGoes, OwnGrantLeads}
use Rattle.settle_relation.specs.Grant.Going.{GoesOn}
use Rattle.settle_relation.specs.Grant.Performing.{performing}
use Rattle.settle_relation.proofs.GrantParts.Bringing.{never_differs}
use Rattle.settle_relation.proofs.GrantParts.Carrying.{CarryNeeds, IsCarried, Moves, carried}
use Rattle.settle_relation.proofs.GrantParts.Facts.{counts, granted_entry}
use Rattle.settle_relation.proofs.GrantParts.Ready.{IsReady, ready}
use Rattle.settle_relation.proofs.GrantParts.Writing.{upd_here, upd_there}

-- ---- where the transaction stands before

-- it waits for the page
waits_shared : (k : Kind) (m : Mode) → covers (Some Shared) m ≡ false → Waits (shared_stand k (Some m)) m
waits_shared k Shared e = absurd (cc)
waits_shared kind.Own Exclusive e = refl
waits_shared kind.Registered Exclusive e = refl
waits_shared kind.Right Exclusive e = refl

waits_as_stood : (l : Option Held) (m : Mode) (have : Option ℕ) → covers (mode_held l) m ≡ false → Waits (stand_of l (Some m) have) m
waits_as_stood None m have e = refl
waits_as_stood (Some l) m have e = by l.mode e
  where
    by : (k : Mode) → covers (Some k) m ≡ false → Waits (held_stand k l.kind (Some m)) m
    by Shared e = waits_shared l.kind m e
    by Exclusive e = absurd (cc)

waits_in : (o u : Bool) (l : Option Held) (m : Mode) (h : Home) → o ≡ true → covers (mode_held l) m ≡ false → Stands o u l (Some m) h → Waits h m
waits_in true u l m h e free is = subst (λ (x : Home). Waits x m) (sym is.1) (waits_as_stood l m is.0 free)
waits_in false u l m h e free is = absurd (cc)

waits_on_page : (p : ℕ) (o : Option Pending) (x : Pending) (m : Mode) → o ≡ Some x → x.page ≡ p → x.mode ≡ m → wait_on o p ≡ Some m
waits_on_page p o x m is page mode =
    ap (λ (y : Option Pending). wait_on y p) is ∙ ap (λ (k : ℕ). machine.pick (k == p) (Some x.mode) None) page ∙ ap (λ (b : Bool). machine.pick b (Some x.mode) None) (own_page p)
    ∙ ap (λ (y : Mode). let z : Option Mode = Some y in z) mode

-- where it stands, by its home
pub waits_there : (c : Cluster) (e : Event) (n p : ℕ) (t : TxId) (m : Mode) (w : Work) (a : Page) → IsHere c e n p w a → t.node ≡ n → IsReady p t m w.node.home → Waits (a.home t) m
unfolding land
waits_there c e n p t m w a h mine is =
    waits_in (is_open w.node.home.txs t) (is_unborn w.node.view w.node t) (held_by w.node.home.txs t p) m (a.home t) is.opened is.uncovered
    (subst (λ (o : Option Mode). Stands (is_open w.node.home.txs t) (is_unborn w.node.view w.node t) (held_by w.node.home.txs t p) o (a.home t))
    (waits_on_page p (pending_of w.node.home.txs t) is.access m is.waits is.page is.mode)
    (at_node c e n h.acts w t.node (λ o. StandsIn (last_view c).epoch o t p (a.home t)) mine (h.related.homes.stands t)))

-- it has no private copy with content
pub no_image_yet : (h : Home) (m : Mode) (image : List ℕ) → Waits h m → image_of h image ≡ None
no_image_yet Fresh m image is = absurd is
no_image_yet (Asking k v) m image is = refl
no_image_yet (Holding k) m image is = absurd is
no_image_yet HoldingAsks m image is = refl
no_image_yet Reading m image is = absurd is
no_image_yet ReadingAsks m image is = refl
no_image_yet (Ended v f) m image is = absurd is
no_image_yet Gone m image is = absurd is

-- and goes on when it gets its lock
not_ended : (h : Home) (m : Mode) (change : Option ℕ) (f : ℕ) → Waits h m → h ≡ Ended change f → ⊥
not_ended h m change f is e = subst (λ (x : Home). Waits x m) e is

pub goes_to_hold : (h : Home) (m k : Mode) → Waits h m → GoesOn h (Holding k)
goes_to_hold h m k is = record { begun = λ f. absurd f; told = λ have was. tt; ended = λ change f e. absurd (not_ended h m change f is e) }

pub goes_to_read : (h : Home) (m : Mode) → Waits h m → GoesOn h Reading
goes_to_read h m is = record { begun = λ f. absurd f; told = λ have was. tt; ended = λ change f e. absurd (not_ended h m change f is e) }

-- who isn't under a right holds the page
holds_as : (k : Kind) (m : Mode) → is_right_kind k ≡ false → Holding m ≡ held_stand m k None
holds_as kind.Own Shared e = refl
holds_as kind.Registered Shared e = refl
holds_as kind.Right Shared e = absurd (cc)
holds_as k Exclusive e = refl

-- ---- the copy of the node

pub one_slot : (slot : ℕ → Option Copy) (n m : ℕ) (x : Option Copy) → m ≡ n → updn slot m x n ≡ x
one_slot slot n m x is = ap (λ (b : Bool). machine.pick b x (slot n)) (let e : eqb n m ≡ true = grind (arith, nat_tests, is) in e)

pub other_slot : (slot : ℕ → Option Copy) (n m k : ℕ) (x : Option Copy) → m ≡ n → (k == n) ≡ false → updn slot m x k ≡ slot k
other_slot slot n m k x is other = ap (λ (b : Bool). machine.pick b x (slot k)) (let e : eqb k m ≡ false = grind (arith, nat_tests, is, other) in e)

-- a grant without a right may be carried out, whatever the rights of the home are
pub record MayAccept (c : Cluster) (e : Event) (n p : ℕ) (g : Sent) (k : Kind) (image : Option (List ℕ)) (w : Work) (a : Page) : Type 0 where
  pub mine : g.tx.node ≡ n
  pub ready : IsReady p g.tx g.mode w.node.home
  pub asked : IfSome (pending_of w.node.home.txs g.tx) (λ (x : Pending). x.write ≡ asked_last g.tx (trace_of c e n w))
  pub called : CalledBy n c.disk (work_of_home w)
  pub config : w.node.home.config ≡ c.config
  pub kind : is_own_kind k ≡ owned_before w.node.view (partition w.node.home.config p) (number_of w.node)
  pub registered : is_right_kind k ≡ false
  pub sent : In g a.sent
  pub takes : a.reached n ≡ a.era
  pub image_is : (bytes : List ℕ) → image ≡ Some bytes → g.word ≡ Image bytes
  pub entered : IsEntered a

may_accept : (c : Cluster) (e : Event) (n p : ℕ) (g : Sent) (k : Kind) (image : Option (List ℕ)) (w : Work) (a : Page) → MayCarry c e n p g k image w a → MayAccept c e n p g k image w a
may_accept c e n p g k image w a may =
    record {
      mine = may.mine;
      ready = ready p g.tx g.mode w.node.home may.home may.waits;
      asked = may.asked;
      called = may.called;
      config = may.config;
      kind = may.kind;
      registered = may.registered;
      sent = may.sent;
      takes = may.takes;
      image_is = may.image_is;
      entered = may.entered;
    }

module _ (c : Cluster) (e : Event) (n p : ℕ) (g : Sent) (k : Kind) (image : Option (List ℕ)) (w : Work) (a : Page) (h : IsHere c e n p w a) (may : MayAccept c e n p g k image w a) where
  waits : Waits (a.home g.tx) g.mode
  waits = waits_there c e n p g.tx g.mode w a h may.mine may.ready

  takes : a.reached g.tx.node ≡ a.era
  takes = ap a.reached may.mine ∙ may.takes

  count : Counts g.mode g.version g.word (a.listed g.tx a.era) (a.slot g.tx.node) a.disk (machine.current a)
  count = counts h.blank a h.reached g may.sent takes waits

  told_is : told_copy g.word g.version (a.slot g.tx.node) a.disk ≡ Some (machine.current a)
  told_is = count.copy

  image_current : (bytes : List ℕ) → image ≡ Some bytes → bytes ≡ a.hist a.now
  image_current bytes is =
      some_bytes (record { version = g.version; bytes = bytes }) (machine.current a)
      (sym (ap (λ x. told_copy x g.version (a.slot g.tx.node) a.disk) (may.image_is bytes is)) ∙ told_is)
    where
      some_bytes : (x y : Copy) → (let o : Option Copy = Some x in o) ≡ Some y → x.bytes ≡ y.bytes
      some_bytes x y same = (let one : x ≡ y = cc in ap (λ (z : Copy). z.bytes) one)

  needs : CarryNeeds c e n p g.tx g.mode k g.version image w a
  needs =
      record {
        mine = may.mine;
        ready = may.ready;
        asked = may.asked;
        called = may.called;
        config = may.config;
        kind = may.kind;
        version_now = count.version_now;
        entry = granted_entry h.blank a h.reached g may.sent takes waits;
        image_is = image_current;
      }

  moves : Moves n g.tx g.mode k a (accepting a g).home (accepting a g).slot (accepting a g).image
  unfolding accepting
  moves =
      record {
        home_here = upd_here a.home g.tx (Holding g.mode) ∙ holds_as k g.mode may.registered;
        home_there = λ u other. upd_there a.home g.tx u (Holding g.mode) other;
        image_here = λ mode.
            upd_here a.image g.tx (bytes_of (told_copy g.word g.version (a.slot g.tx.node) a.disk)) ∙ ap bytes_of told_is;
        image_there = λ u other. upd_there a.image g.tx u (bytes_of (told_copy g.word g.version (a.slot g.tx.node) a.disk)) other;
        slot_here = one_slot a.slot n g.tx.node (told_copy g.word g.version (a.slot g.tx.node) a.disk) may.mine ∙ told_is;
        slot_there = λ m other. other_slot a.slot n g.tx.node m (told_copy g.word g.version (a.slot g.tx.node) a.disk) may.mine other;
        goes = subst (GoesOn (a.home g.tx)) (sym (upd_here a.home g.tx (Holding g.mode))) (goes_to_hold (a.home g.tx) g.mode g.mode waits);
        waited = no_image_yet (a.home g.tx) g.mode (a.image g.tx) waits;
      }

  -- a dirty copy isn't newer than its entry then
  accepting_entered : IsEntered (accepting a g)
  unfolding accepting
  accepting_entered x on there = by (eqb a.owner g.tx.node) there
    where
      by : (b : Bool) → machine.pick b (told_copy g.word g.version (a.slot g.tx.node) a.disk) (a.slot a.owner) ≡ Some x → x.version ≤ a.entry
      by false is = may.entered x on is
      by true is =
          let same : Some (machine.current a) ≡ Some x = sym told_is ∙ is in
          let now : machine.current a ≡ x = cc in
          let entry : a.entry ≡ a.now = granted_entry h.blank a h.reached g may.sent takes waits ((reached_holds h.blank a h.reached).kept_holds.dirty_served on) in
          subst (λ (y : Copy). y.version ≤ a.entry) now (omega (arith, entry))

  pub carry_leads : (y : Granted) → granted g.tx (record { page = p; mode = g.mode; kind = k }) g.version image (work_of_home w) ≡ Goes y
      → Leads c e n p (λ x b. IsEntered b) a (told w y)
  unfolding accepting
  carry_leads y goes =
      let done : IsCarried c e n p g.tx w y (accepting a g) =
      carried c e n p g.tx g.mode k g.version image w a h needs (accepting a g).home (accepting a g).slot (accepting a g).image moves y goes in
      record {
        page = performing (accepting a g) g.tx done.write;
        run = then (then here (accepts g may.sent takes waits)) done.step;
        related = done.related;
        known = done.entered accepting_entered;
      }

  pub carry_goes : HasOwnImage p g image w → (q expected found : ℕ) → granted g.tx (record { page = p; mode = g.mode; kind = k }) g.version image (work_of_home w) ≡ Differs q expected found → ⊥
  unfolding granted
  carry_goes own q expected found differs = by (bring p g.version image (work_of_home w)) refl differs
    where
      by : (o : Outcome HomeWork) → bring p g.version image (work_of_home w) ≡ o
          → and_so o (locked g.tx (record { page = p; mode = g.mode; kind = k }) (write_of (pending_of w.node.home.txs g.tx))) ≡ Differs q expected found → ⊥
      by (Goes x) is so = absurd (cc)
      by (Differs r x f) is so =
          never_differs c e n p w a h may.called g.word image r x f
          (ap (λ (v : ℕ). told_copy g.word v (a.slot n) a.disk) (sym count.version_now) ∙ ap (λ (m : ℕ). told_copy g.word g.version (a.slot m) a.disk) (sym may.mine) ∙ told_is)
          (λ bytes none word. own bytes none word ∙ ap (λ (v : ℕ). let z : Option ℕ = Some v in z) count.version_now)
          (ap (λ (v : ℕ). bring p v image (work_of_home w)) (sym count.version_now) ∙ is)

is_here : (c : Cluster) (e : Event) (n p : ℕ) (blank : List ℕ) (w : Work) (a : Page) → Acts c n → p < c.config.pages → Reached blank a → IsEntered a → IsWorkOf c e n p w a → IsHere c e n p w a
is_here c e n p blank w a acts low reached entered related =
    record { acts = acts; low = low; blank = blank; reached = reached; related = related; entered = entered }

pub carry_leads_law : CarryLeads
carry_leads_law c e n p g k image blank w a y acts low reached may related goes =
    carry_leads c e n p g k image w a (is_here c e n p blank w a acts low reached may.entered related) (may_accept c e n p g k image w a may) y goes

pub carry_goes_law : CarryGoes
carry_goes_law c e n p g k image blank w a q expected found acts low reached may own related differs =
    carry_goes c e n p g k image w a (is_here c e n p blank w a acts low reached may.entered related) (may_accept c e n p g k image w a may) own q expected found differs

pub own_grant_leads_law : OwnGrantLeads
own_grant_leads_law c e n p g blank w x a acts low reached may related goes =
    by (granted g.tx (record { page = p; mode = g.mode; kind = kind.Own }) g.version None (work_of_home w)) refl goes
  where
    by : (o : Outcome Granted) → granted g.tx (record { page = p; mode = g.mode; kind = kind.Own }) g.version None (work_of_home w) ≡ o → and_so o (told w) ≡ Goes x
        → Leads c e n p (λ y b. IsEntered b) a x
    by (Goes y) is so =
        let same : told w y ≡ x = cc in
        subst (Leads c e n p (λ z b. IsEntered b) a) same (carry_leads_law c e n p g kind.Own None blank w a y acts low reached may related is)
    by (Differs q expected found) is so = absurd (cc)

pub own_grant_goes_law : OwnGrantGoes
own_grant_goes_law c e n p g blank w a q expected found acts low reached may own related differs =
    by (granted g.tx (record { page = p; mode = g.mode; kind = kind.Own }) g.version None (work_of_home w)) refl differs
  where
    by : (o : Outcome Granted) → granted g.tx (record { page = p; mode = g.mode; kind = kind.Own }) g.version None (work_of_home w) ≡ o → and_so o (told w) ≡ Differs q expected found → ⊥
    by (Goes y) is so = absurd (cc)
    by (Differs r x f) is so = carry_goes_law c e n p g kind.Own None blank w a r x f acts low reached may own related is
