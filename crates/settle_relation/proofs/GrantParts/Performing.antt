-- Granted accesses that are performed.
use Rattle.std.proofs.Common.{◌≡◌, refl, ap, sym, subst, ◌∙◌, ℕ, Bool, true, false, List, [], ◌∷◌, ◌++◌, Option, Some, None, is_some}
use Rattle.pcl_base.specs.declared.event.Event.{Event}
use Rattle.pcl_base.specs.declared.lock.Held.{Held}
use Rattle.pcl_base.specs.declared.lock.Kind.{Kind}
use Rattle.pcl_base.specs.declared.lock.Kind.TheVariants as kind
use Rattle.pcl_base.specs.declared.lock.Pending.{Pending}
use Rattle.pcl_base.specs.declared.reply.Reply.{Reply}
use Rattle.pcl_base.specs.declared.tx.Mode.{Mode}
use Rattle.pcl_base.specs.declared.tx.Mode.TheVariants.{Shared, Exclusive}
use Rattle.pcl_base.specs.declared.tx.TxId.{TxId}
use Rattle.node_rules.specs.AccessRule.{Granted, bytes_or, bytes_read, mode_of_write, perform, version_or}
use Rattle.node_rules.specs.BufferRule as buffer
use Rattle.node_rules.specs.BufferRule.{PrivateCopy, bytes_of_copy, bytes_of_private, copy_at, find, has_private, private_at, private_bytes}
use Rattle.node_rules.specs.DiskCalls.{DiskCall, all_done}
use Rattle.node_rules.specs.OpenTxs.{held_by, is_open, mode_held, pending_of}
use Rattle.node_rules.specs.OwnerRule.{told}
use Rattle.node_rules.specs.Words.{covers}
use Rattle.node_rules.specs.Work.{HomeWork, Work, reply, with_home_work, work_of_home}
use Rattle.cluster_rules.specs.Clusters.{Cluster, last_view}
use Rattle.page_laws.specs.Look.Accesses.{IsRead, IsWritten}
use Rattle.page_laws.proofs.LookParts.Accessing.{reading_is_seen_law, writing_is_seen_law}
use Rattle.page_protocol.specs.Bytes.{Read, put}
use Rattle.page_protocol.specs.Homes.{reading, seen, seen_by, writing}
use Rattle.page_protocol.specs.State.{Home, Fresh, Asking, Holding, HoldingAsks, Reading, ReadingAsks, Ended, Gone, Page, IsGranted, bytes_of, upd}
use Rattle.page_protocol.specs.Steps.{reads, writes_piece}
use Rattle.page_relation.specs.Homes.{ImageIn, Stands, StandsIn, held_stand, image_of, is_unborn, shared_stand, wait_on}
use Rattle.page_relation.specs.Looks.{copy_in, slot_in, slot_of}
use Rattle.page_laws.specs.Storage.Looks.{IsStored}
use Rattle.page_relation.specs.Work.Events.{IsEntered}
use Rattle.page_relation.specs.Work.Keeping.{IsWorkOf}
use Rattle.page_relation.specs.Work.Landing.{land, Acts}
use Rattle.page_relation.proofs.WorkParts.Framing.{unseen_is_kept_law}
use Rattle.page_relation.proofs.WorkParts.Nodes.{at_node}
use Rattle.page_relation.proofs.WorkParts.Quiet.{homes_elsewhere_law}
use Rattle.page_relation.proofs.WorkParts.Storing.{page_beside}
use Rattle.settle_relation.specs.Grant.Performing.{MayAccess, IsAskedFor, PerformIsStep, HeldMayAccess}
use Rattle.settle_relation.proofs.GrantParts.Replied.{read_told, write_told}
use Rattle.settle_relation.proofs.GrantParts.Writing.{written_related}

-- what a transaction sees of the page, by where it stands
seen_as : (h : Home) (image : List ℕ) (o : Option (List ℕ)) (k : Option buffer.Copy) → o ≡ image_of h image → bytes_or o (bytes_of_copy k) ≡ seen_by h image (bytes_of (copy_in k))
seen_as h image o k is = ap (λ (x : Option (List ℕ)). bytes_or x (bytes_of_copy k)) is ∙ by h ∙ ap (seen_by h image) (of k)
  where
    of : (k : Option buffer.Copy) → bytes_of_copy k ≡ bytes_of (copy_in k)
    of None = refl
    of (Some x) = refl

    by : (h : Home) → bytes_or (image_of h image) (bytes_of_copy k) ≡ seen_by h image (bytes_of_copy k)
    by Fresh = refl
    by (Asking m v) = refl
    by (Holding Shared) = refl
    by (Holding Exclusive) = refl
    by HoldingAsks = refl
    by Reading = refl
    by ReadingAsks = refl
    by (Ended v f) = refl
    by Gone = refl

module _ (c : Cluster) (e : Event) (n p : ℕ) (acts : Acts c n) where
  -- the bytes of a read
  read_is_seen : (t : TxId) (w : Work) (a : Page) → t.node ≡ n → IsWorkOf c e n p w a → bytes_read w.node.home.pool t p ≡ seen a t
  unfolding slot_of
  read_is_seen t w a mine is =
      seen_as (a.home t) (a.image t) (private_bytes w.node.home.pool t p) (copy_at w.node.home.pool p)
      (at_node c e n acts w t.node (λ o. ImageIn o t p (a.home t) (a.image t)) mine (is.homes.images t))
      ∙ ap (λ o. seen_by (a.home t) (a.image t) (bytes_of o))
      (at_node c e n acts w n (λ o. slot_in o p ≡ a.slot n) refl (is.copies.slot_same n) ∙ ap a.slot (sym mine))

  -- a read
  read_related : (t : TxId) (w : Work) (a : Page) → t.node ≡ n → IsWorkOf c e n p w a → IsWorkOf c e n p (told w (perform t p None (work_of_home w))) (reading a t)
  unfolding reading perform
  read_related t w a mine is =
      subst (λ (bytes : List ℕ). IsWorkOf c e n p (told w g) (record a { script = upd a.script t (a.script t ++ Read bytes ∷ []) })) (read_is_seen t w a mine is)
      (read_told c e n p acts t (version_or (find w.node.home.pool p)) (bytes_read w.node.home.pool t p) (with_home_work w g.work) a
      (unseen_is_kept_law c e n p w (with_home_work w g.work) a acts
      (homes_elsewhere_law c e n p w g.work looks.work.rest.life (page_beside p w.node.home g.work.home looks.work.rest (looks.work.copies p)) (λ disk log old. old)) is))
    where
      g : Granted
      g = perform t p None (work_of_home w)

      looks : IsRead t p (work_of_home w) g
      looks = reading_is_seen_law t p (work_of_home w)

  -- a write, by what is seen of it
  pub write_related : (t : TxId) (write : ℕ × List ℕ) (w : Work) (g : Granted) (a : Page) → t.node ≡ n → a.home t ≡ Holding Exclusive → IsAskedFor c e n t w write
      → IsWritten t p write (work_of_home w) g → g.work.calls ≡ w.calls → IsWorkOf c e n p w a → IsWorkOf c e n p (told w g) (writing a t write.0 write.1)
  unfolding writing
  write_related t write w g a mine holds asked looks calls is =
      subst (λ (r : Reply). IsWorkOf c e n p (reply r (with_home_work w g.work)) (writing a t write.0 write.1)) (sym looks.reply)
      (write_told c e n p acts t (version_or (find w.node.home.pool p)) write (with_home_work w g.work) (record a { image = upd a.image t (put write.0 write.1 (a.image t)) }) asked.last
      (written_related c e n p t write w g a acts mine holds looks asked.inside
      (λ disk log old. subst (λ (ds : List DiskCall). IsStored c.config (all_done n c.disk ds) p disk log) (sym calls) old) is))

  private_there : (t : TxId) (w : Work) (a : Page) → t.node ≡ n → a.home t ≡ Holding Exclusive → IsWorkOf c e n p w a → has_private w.node.home.pool t p ≡ true
  private_there t w a mine holds is =
      some_bytes (private_at w.node.home.pool t p) (a.image t)
      (at_node c e n acts w t.node (λ o. ImageIn o t p (a.home t) (a.image t)) mine (is.homes.images t) ∙ ap (λ (h : Home). image_of h (a.image t)) holds)
    where
      some_bytes : (o : Option PrivateCopy) (bytes : List ℕ) → bytes_of_private o ≡ Some bytes → is_some o ≡ true
      some_bytes None bytes k = absurd (cc)
      some_bytes (Some x) bytes k = refl

pub same_calls : (t : TxId) (p : ℕ) (write : Option (ℕ × List ℕ)) (w : HomeWork) → (perform t p write w).work.calls ≡ w.calls
unfolding perform
same_calls t p None w = refl
same_calls t p (Some write) w = refl

reading_entered : (a : Page) (t : TxId) → IsEntered a → IsEntered (reading a t)
unfolding reading
reading_entered a t is = is

pub writing_entered : (a : Page) (t : TxId) (place : ℕ) (piece : List ℕ) → IsEntered a → IsEntered (writing a t place piece)
unfolding writing
writing_entered a t place piece is = is

pub perform_is_step_law : PerformIsStep
perform_is_step_law c e n p t None w a acts may is =
    record { step = reads t may.granted; related = read_related c e n p acts t w a may.mine is; entered = reading_entered a t }
perform_is_step_law c e n p t (Some write) w a acts may is =
    record {
      step = writes_piece t write.0 write.1 may.granted;
      related =
          write_related c e n p acts t write w (perform t p (Some write) (work_of_home w)) a may.mine may.granted may.asked
          (writing_is_seen_law t p write (work_of_home w) (private_there c e n p acts t w a may.mine may.granted is)) (same_calls t p (Some write) (work_of_home w)) is;
      entered = writing_entered a t write.0 write.1;
    }

-- ---- who holds the page

held_shared : (k : Kind) → IsGranted (shared_stand k None)
held_shared kind.Own = tt
held_shared kind.Registered = tt
held_shared kind.Right = tt

held_as : (l : Option Held) (write : Option (ℕ × List ℕ)) (h : Home) → Stands true true l None h → covers (mode_held l) (mode_of_write write) ≡ true → MayAccess h write
held_as None write h is allows = absurd (cc)
held_as (Some l) write h is allows = subst (λ (x : Home). MayAccess x write) (sym is.1) (by l.mode l.kind write allows)
  where
    by : (m : Mode) (k : Kind) (write : Option (ℕ × List ℕ)) → covers (Some m) (mode_of_write write) ≡ true → MayAccess (held_stand m k None) write
    by Shared k None allows = held_shared k
    by Shared k (Some x) allows = absurd (cc)
    by Exclusive k None allows = tt
    by Exclusive k (Some x) allows = refl

pub held_may_access_law : HeldMayAccess
unfolding land
held_may_access_law c e n p t write w a acts mine opened waits allows is =
    held_as (held_by w.node.home.txs t p) write (a.home t)
    (subst (λ (b : Bool). Stands b true (held_by w.node.home.txs t p) None (a.home t)) opened
    (subst (λ (o : Option Pending). Stands (is_open w.node.home.txs t) true (held_by w.node.home.txs t p) (wait_on o p) (a.home t)) waits
    (born (is_open w.node.home.txs t) opened (is_unborn w.node.view w.node t)
    (at_node c e n acts w t.node (λ o. StandsIn (last_view c).epoch o t p (a.home t)) mine (is.homes.stands t)))))
    allows
  where
    born : (o : Bool) → o ≡ true → (u : Bool) → Stands o u (held_by w.node.home.txs t p) (wait_on (pending_of w.node.home.txs t) p) (a.home t)
        → Stands o true (held_by w.node.home.txs t p) (wait_on (pending_of w.node.home.txs t) p) (a.home t)
    born true is u old = old
    born false is u old = absurd (cc)
