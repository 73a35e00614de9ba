-- A grant that is carried out at its home: the page is brought, its transaction gets the lock, and the access is done.
use Rattle.std.proofs.Common.{◌≡◌, refl, ap, sym, subst, ◌∙◌, ℕ, ◌==◌, Bool, true, false, List, [], Option, Some, None, is_some}
use Rattle.std.specs.Prelude.{IfSome}
use Rattle.pcl_base.specs.Limits.{Sizes}
use Rattle.pcl_base.specs.declared.event.Event.{Event}
use Rattle.pcl_base.specs.declared.lock.Held.{Held}
use Rattle.pcl_base.specs.declared.lock.Kind.{Kind}
use Rattle.pcl_base.specs.declared.lock.Kind.TheVariants as kind
use Rattle.pcl_base.specs.declared.lock.Pending.{Pending}
use Rattle.pcl_base.specs.declared.tx.Mode.{Mode}
use Rattle.pcl_base.specs.declared.tx.Mode.TheVariants.{Shared, Exclusive}
use Rattle.pcl_base.specs.declared.tx.TxId.{TxId}
use Rattle.node_rules.specs.AccessRule.{Granted, granted, mode_of_write, perform, write_of}
use Rattle.node_rules.specs.BufferRule as buffer
use Rattle.node_rules.specs.BufferRule.{PrivateCopy, bytes_of_copy, copy_at, fill, has_private, is_dirty_copy, private_bytes, private_in}
use Rattle.node_rules.specs.InstallRule.{owned_before}
use Rattle.node_rules.specs.NodeState.{Run, number_of, partition}
use Rattle.node_rules.specs.OpenTxs.{pending_of, waits_on}
use Rattle.node_rules.specs.OwnerRule.{told}
use Rattle.node_rules.specs.Words.{pick}
use Rattle.node_rules.specs.Work.{Goes, HomeWork, Work, work_of_home, with_home_work}
use Rattle.home_laws.specs.Homes.{IsWithin}
use Rattle.home_laws.proofs.Tests.{tx_turned}
use Rattle.cluster_rules.specs.Clusters.{Cluster, node_at}
use Rattle.page_laws.proofs.EntryParts.Stepped.{one_test}
use Rattle.page_laws.specs.Look.Accesses.{HasLock}
use Rattle.page_laws.specs.Look.Ends.{version_of_right}
use Rattle.page_laws.specs.Look.Grants.{IsBroughtTo, IsCarriedOut, with_lock_of}
use Rattle.page_laws.specs.Look.Parts.{SameLife}
use Rattle.page_laws.proofs.LookParts.Accessing.{locking_is_seen_law, writing_is_seen_law}
use Rattle.page_laws.proofs.LookParts.Alike.{life_then}
use Rattle.page_laws.proofs.LookParts.Granting.{bringing_is_seen_law, grant_is_seen_law}
use Rattle.page_laws.specs.Moment.Looks.{asked_last}
use Rattle.page_protocol.specs.Bytes.{Copy}
use Rattle.page_protocol.specs.State.{Holding, Home, IsGranted, Page}
use Rattle.page_protocol.specs.State as machine
use Rattle.page_protocol.specs.Steps.{Step, writes_piece}
use Rattle.page_relation.specs.Homes.{ImageIn, KindFits, held_stand, image_of, wait_on}
use Rattle.page_relation.specs.Looks.{copy_in}
use Rattle.page_laws.specs.Written.Written.{DiffersWithin}
use Rattle.page_laws.proofs.WrittenParts.Differing.{nothing_differs_law}
use Rattle.page_relation.specs.Work.Events.{IsEntered}
use Rattle.page_relation.specs.Work.Keeping.{IsWorkOf}
use Rattle.page_relation.specs.Work.Landing.{land, trace_of}
use Rattle.page_relation.specs.Work.Letting.{CalledBy}
use Rattle.page_relation.proofs.WorkParts.Nodes.{at_node}
use Rattle.page_relation.proofs.WorkParts.Storing.{IsHere}
use Rattle.settle_relation.specs.Grant.Going.{GoesOn, gone_on}
use Rattle.settle_relation.specs.Grant.Performing.{IsAskedFor, IsPerformed, performing}
use Rattle.settle_relation.proofs.GrantParts.Bringing.{IsBroughtHere, OnlyBrings, brings_only, brought_here}
use Rattle.settle_relation.proofs.GrantParts.Filling.{full, full_copy, full_here, full_there, full_written}
use Rattle.settle_relation.proofs.GrantParts.Homing.{GetsLock, IsHomed, homed}
use Rattle.settle_relation.proofs.GrantParts.Performing.{perform_is_step_law, same_calls, write_related, writing_entered}
use Rattle.settle_relation.proofs.GrantParts.Ready.{IsReady}
use Rattle.settle_relation.proofs.GrantParts.Writing.{other_place}

-- where the machine goes when a transaction gets its lock
pub record Moves (n : ℕ) (t : TxId) (m : Mode) (k : Kind) (a : Page) (home : TxId → Home) (slot : ℕ → Option Copy) (image : TxId → List ℕ) : Type 0 where
  pub home_here : home t ≡ held_stand m k None
  pub home_there : (u : TxId) → machine.same_tx u t ≡ false → home u ≡ a.home u
  pub image_here : m ≡ Exclusive → image t ≡ a.hist a.now
  pub image_there : (u : TxId) → machine.same_tx u t ≡ false → image u ≡ a.image u
  pub slot_here : slot n ≡ Some (machine.current a)
  pub slot_there : (m : ℕ) → (m == n) ≡ false → slot m ≡ a.slot m
  pub goes : GoesOn (a.home t) (home t)
  pub waited : image_of (a.home t) (a.image t) ≡ None

-- what a work has of a transaction of the node that is granted its access
pub record CarryNeeds (c : Cluster) (e : Event) (n p : ℕ) (t : TxId) (m : Mode) (k : Kind) (version : ℕ) (image : Option (List ℕ)) (w : Work) (a : Page) : Type 0 where
  pub mine : t.node ≡ n
  pub ready : IsReady p t m w.node.home
  pub asked : IfSome (pending_of w.node.home.txs t) (λ (x : Pending). x.write ≡ asked_last t (trace_of c e n w))
  pub called : CalledBy n c.disk (work_of_home w)
  pub config : w.node.home.config ≡ c.config
  pub kind : KindFits (owned_before w.node.view (partition w.node.home.config p) (number_of w.node)) (Some (record { page = p; mode = m; kind = k }))
  pub version_now : version ≡ a.now
  pub entry : a.served ≡ true → a.entry ≡ a.now
  pub image_is : (bytes : List ℕ) → image ≡ Some bytes → bytes ≡ a.hist a.now

-- the access is performed from the state with the lock
pub record IsCarried (c : Cluster) (e : Event) (n p : ℕ) (t : TxId) (w : Work) (y : Granted) (b : Page) : Type 0 where
  pub write : Option (ℕ × List ℕ)
  pub step : Step b (performing b t write)
  pub related : IsWorkOf c e n p (told w y) (performing b t write)
  pub entered : IsEntered b → IsEntered (performing b t write)

waits_no_more : (o : Option Pending) (p : ℕ) → wait_on (pick (waits_on o p) None o) p ≡ None
waits_no_more None p = refl
waits_no_more (Some x) p = by (x.page == p) refl
  where
    by : (b : Bool) → (x.page == p) ≡ b → wait_on (pick b None (Some x)) p ≡ None
    by true is = refl
    by false is = ap (λ (b : Bool). pick b (Some x.mode) None) is

not_writer : (k : Kind) → held_stand Shared k None ≡ Holding Exclusive → ⊥
not_writer kind.Own e = cc
not_writer kind.Registered e = cc
not_writer kind.Right e = cc

no_image : (k : Kind) (image : List ℕ) → image_of (held_stand Shared k None) image ≡ None
no_image kind.Own image = refl
no_image kind.Registered image = refl
no_image kind.Right image = refl

current_bytes : (o : Option buffer.Copy) (x : Copy) → copy_in o ≡ Some x → bytes_of_copy o ≡ x.bytes
current_bytes None x e = absurd (cc)
current_bytes (Some y) x e = (let one : (let z : Copy = record { version = y.version; bytes = y.bytes } in z) ≡ x = cc in ap (λ (z : Copy). z.bytes) one)

reads_there : (k : Kind) → IsGranted (held_stand Shared k None)
reads_there kind.Own = tt
reads_there kind.Registered = tt
reads_there kind.Right = tt

module _ (c : Cluster) (e : Event) (n p : ℕ) (t : TxId) (m : Mode) (k : Kind) (version : ℕ) (image : Option (List ℕ)) (w : Work) (a : Page) (h : IsHere c e n p w a)
    (needs : CarryNeeds c e n p t m k version image w a) (home : TxId → Home) (slot : ℕ → Option Copy) (img : TxId → List ℕ) (moves : Moves n t m k a home slot img)
    (y : Granted) (goes : granted t (record { page = p; mode = m; kind = k }) version image (work_of_home w) ≡ Goes y) where
  abbrev l : Held
  l = record { page = p; mode = m; kind = k }

  abbrev v : HomeWork
  v = work_of_home w

  abbrev next : Page
  next = gone_on a home slot a.script img

  is : IsCarriedOut t l version image v y
  is = grant_is_seen_law t l version image v y goes

  to : IsBroughtTo p a.now image v is.work
  to = subst (λ (j : ℕ). IsBroughtTo p j image v is.work) needs.version_now (bringing_is_seen_law p version image v is.work needs.ready.slot is.brought)

  brought : IsBroughtHere c n p a v is.work
  brought = brought_here c e n p w a h needs.called needs.entry image is.work needs.image_is to

  only : OnlyBrings v is.work
  only = brings_only p version image v is.work is.brought

  abbrev locked : HomeWork
  locked = with_lock_of t l is.work

  lock : HasLock t l is.work.home.txs locked.home.txs
  lock = locking_is_seen_law is.work.home.txs t l (brought.beside.life.alive t ∙ needs.ready.opened)

  life : SameLife v.home locked.home
  life =
      life_then v.home is.work.home locked.home brought.beside.life
      (record { config = refl; node = lock.named.0; born = lock.named.1; last = lock.named.2; alive = lock.alive })

  gets : GetsLock p t l v locked
  gets =
      record {
        life = life;
        opened = needs.ready.opened;
        held = lock.here;
        waits = ap (λ (o : Option Pending). wait_on o p) lock.waits ∙ waits_no_more (pending_of is.work.home.txs t) p;
        other_held = λ u other. lock.other_held u p (other_place t u p other) ∙ brought.beside.locks.held u p;
        other_waits = λ u other. ap (λ (o : Option Pending). wait_on o p) (lock.other_waits u (tx_turned t u (sym (one_test t u) ∙ other)) ∙ brought.beside.locks.waits u);
        other_bytes = λ u other. brought.beside.privates.bytes u p;
        runs = λ u. brought.beside.privates.runs u p;
        right = ap version_of_right (brought.beside.rights p);
        calls = only.calls;
      }

  -- the private copy has no content yet
  unfilled : private_bytes locked.home.pool t p ≡ None
  unfilled = brought.beside.privates.bytes t p ∙ before ∙ moves.waited
    where
      before : private_bytes v.home.pool t p ≡ image_of (a.home t) (a.image t)
      before = at_node c e n h.acts w t.node (λ o. ImageIn o t p (a.home t) (a.image t)) needs.mine (images h.related)
        where
          images : IsWorkOf c e n p w a → ImageIn (node_at (land c e n w) t.node) t p (a.home t) (a.image t)
          images r = r.homes.images t

  written_of : write_of (pending_of v.home.txs t) ≡ needs.ready.access.write
  written_of = ap write_of needs.ready.waits

  done : (write : Option (ℕ × List ℕ)) → needs.ready.access.write ≡ write → y ≡ perform t p write locked
  done write same = is.done ∙ ap (λ (o : Option (ℕ × List ℕ)). perform t p o locked) (written_of ∙ same)

  -- a read
  shared : m ≡ Shared → IsHomed n p t l w locked a home slot img
  shared mode =
      record {
        home_here = moves.home_here;
        home_there = moves.home_there;
        image_there = moves.image_there;
        slot_here = moves.slot_here;
        slot_there = moves.slot_there;
        goes = moves.goes;
        bytes = unfilled ∙ sym (ap (λ (x : Home). image_of x (img t)) stand ∙ no_image k (img t));
        written = λ holds. absurd (not_writer k (sym stand ∙ holds));
        kind = needs.kind;
        copy = brought.copy;
        mark = brought.mark;
      }
    where
      stand : home t ≡ held_stand Shared k None
      stand = moves.home_here ∙ ap (λ (x : Mode). held_stand x k None) mode

  read_carried : m ≡ Shared → needs.ready.access.write ≡ None → IsCarried c e n p t w y next
  read_carried mode none =
      record {
        write = None;
        step = performed.step;
        related = subst (λ (g : Granted). IsWorkOf c e n p (told w g) (performing next t None)) (sym (done None none)) performed.related;
        entered = performed.entered;
      }
    where
      performed : IsPerformed c e n p t None (with_home_work w locked) next
      performed =
          perform_is_step_law c e n p t None (with_home_work w locked) next h.acts
          (record { mine = needs.mine; granted = subst IsGranted (sym (moves.home_here ∙ ap (λ (x : Mode). held_stand x k None) mode)) (reads_there k); asked = tt })
          (homed c e n p t l w locked a home slot img h needs.mine gets (shared mode))

  -- a write
  private_there : (write : ℕ × List ℕ) → needs.ready.access.write ≡ Some write → has_private locked.home.pool t p ≡ true
  private_there write some = ap (λ (xs : List PrivateCopy). is_some (private_in xs t p)) only.privates ∙ needs.ready.private (ap is_some some)

  exclusive : (write : ℕ × List ℕ) → needs.ready.access.write ≡ Some write → m ≡ Exclusive → IsHomed n p t l w (full t p locked) a home slot img
  exclusive write some mode =
      record {
        home_here = moves.home_here;
        home_there = moves.home_there;
        image_there = moves.image_there;
        slot_here = moves.slot_here;
        slot_there = moves.slot_there;
        goes = moves.goes;
        bytes =
            full_here t p locked (private_there write some)
            ∙ ap (λ (bs : List ℕ). let o : Option (List ℕ) = Some bs in o) (current_bytes (copy_at is.work.home.pool p) (machine.current a) brought.copy ∙ sym (moves.image_here mode))
            ∙ sym (ap (λ (x : Home). image_of x (img t)) stand);
        written = λ holds.
            subst (λ (rs : List Run). DiffersWithin rs (machine.current a).bytes (img t)) (sym (brought.beside.privates.runs t p ∙ needs.ready.runs))
            (subst (DiffersWithin [] (machine.current a).bytes) (sym (moves.image_here mode)) (nothing_differs_law (a.hist a.now)));
        kind = needs.kind;
        copy = ap copy_in (full_copy t p p locked) ∙ brought.copy;
        mark = ap is_dirty_copy (full_copy t p p locked) ∙ brought.mark;
      }
    where
      stand : home t ≡ Holding Exclusive
      stand = moves.home_here ∙ ap (λ (x : Mode). held_stand x k None) mode

  gets_full : GetsLock p t l v (full t p locked)
  unfolding fill
  gets_full =
      record {
        life = record { config = life.config; node = life.node; born = life.born; last = life.last; alive = life.alive };
        opened = gets.opened;
        held = gets.held;
        waits = gets.waits;
        other_held = gets.other_held;
        other_waits = gets.other_waits;
        other_bytes = λ u other. full_there t u p p locked (other_place t u p other) ∙ gets.other_bytes u other;
        runs = gets.runs;
        right = gets.right;
        calls = gets.calls;
      }

  write_carried : (write : ℕ × List ℕ) → needs.ready.access.write ≡ Some write → m ≡ Exclusive → IsCarried c e n p t w y next
  write_carried write some mode =
      record {
        write = Some write;
        step = writes_piece t write.0 write.1 stand;
        related =
            subst (λ (g : Granted). IsWorkOf c e n p (told w g) (performing next t (Some write))) (sym (done (Some write) some))
            (write_related c e n p h.acts t write (with_home_work w (full t p locked)) (perform t p (Some write) locked) next needs.mine stand asked_for
            (full_written t p write locked (perform t p (Some write) locked) (private_there write some) unfilled
            (writing_is_seen_law t p write locked (private_there write some)))
            (same_calls t p (Some write) locked) (homed c e n p t l w (full t p locked) a home slot img h needs.mine gets_full (exclusive write some mode)));
        entered = writing_entered next t write.0 write.1;
      }
    where
      stand : home t ≡ Holding Exclusive
      stand = moves.home_here ∙ ap (λ (x : Mode). held_stand x k None) mode

      asked_for : IsAskedFor c e n t (with_home_work w (full t p locked)) write
      asked_for =
          record {
            last = sym (subst (λ o. IfSome o (λ (x : Pending). x.write ≡ asked_last t (trace_of c e n w))) needs.ready.waits needs.asked) ∙ some;
            inside =
                (subst (λ (o : Option (ℕ × List ℕ)). IfSome o (IsWithin c.config.size)) some
                (subst (λ (s : Sizes). IfSome needs.ready.access.write (IsWithin s.size)) needs.config needs.ready.inside)).1;
          }

  pub carried : IsCarried c e n p t w y next
  carried = by needs.ready.access.write refl
    where
      by : (write : Option (ℕ × List ℕ)) → needs.ready.access.write ≡ write → IsCarried c e n p t w y next
      by None none = read_carried (needs.ready.asks ∙ ap mode_of_write none) none
      by (Some write) some = write_carried write some (needs.ready.asks ∙ ap mode_of_write some)
