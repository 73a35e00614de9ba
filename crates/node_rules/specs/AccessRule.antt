-- The access rule: the frames of an access, whether it is granted at once, and what a grant does.
use Rattle.std.specs.Prelude.{ℕ, ◌+◌, ◌==◌, ◌&&◌, not, nat_lt, Bool, true, false, List, [], ◌∷◌, length, Option, Some, None, is_some}
use Rattle.pcl_base.specs.declared.tx.TxId.{TxId}
use Rattle.pcl_base.specs.declared.tx.Mode.{Mode}
use Rattle.pcl_base.specs.declared.tx.Mode.TheVariants.{Shared, Exclusive}
use Rattle.pcl_base.specs.declared.lock.Held.{Held}
use Rattle.pcl_base.specs.declared.lock.Kind.{Kind}
use Rattle.pcl_base.specs.declared.lock.Kind.TheVariants as kind
use Rattle.pcl_base.specs.declared.lock.Pending.{Pending}
use Rattle.pcl_base.specs.declared.lock.Waiter.{Waiter}
use Rattle.pcl_base.specs.declared.message.Request.{Request}
use Rattle.pcl_base.specs.declared.message.Grant.{Grant}
use Rattle.pcl_base.specs.declared.message.CopyPart.{CopyPart}
use Rattle.pcl_base.specs.declared.message.CopyPart.TheVariants as part
use Rattle.pcl_base.specs.declared.message.ReturnRight.{ReturnRight}
use Rattle.pcl_base.specs.declared.reply.Reply.{Reply}
use Rattle.pcl_base.specs.declared.reply.Reply.TheVariants as reply
use Rattle.text_rules.specs.StoredPage.{PageAt}
use Rattle.node_rules.specs.Words.{pick, covers}
use Rattle.node_rules.specs.OpenTxs.{OpenTxs, held_by, mode_held, pending_of, waits_as, add, wait, set_kind}
use Rattle.node_rules.specs.Shelf.{Right, right_on, may_read, accept, add_reader, end_reader, spend, readers_of}
use Rattle.node_rules.specs.BufferRule.{Pool, Slot, Copy, free_frames, has_slot, has_private, victim, copy_at, find, bytes_of_copy, private_bytes, place, private, pin, touch, install, fill, change, evict}
use Rattle.node_rules.specs.CopyRule.{is_version}
use Rattle.node_rules.specs.NodeState.{HomeState, cover, runs_at, put_runs}
use Rattle.node_rules.specs.Work.{HomeWork, Outcome, Goes, Differs, and_then, and_so, with_pool, write_back, read_page}

-- an access: a read, or a write of bytes from a place on
pub record Access : Type 0 where
  pub tx : TxId
  pub page : ℕ
  pub write : Option (ℕ × List ℕ)

-- the mode that an access asks for
abbrev pub mode_of_write : Option (ℕ × List ℕ) → Mode
mode_of_write None = Shared
mode_of_write (Some w) = Exclusive

-- a change of the buffer alone
abbrev pub on_pool : (Pool → Pool) → HomeWork → HomeWork
on_pool f w = record w { home = with_pool w.home (f w.home.pool) }

-- a victim is written where it is dirty, and leaves
abbrev pub let_go : Option Slot → HomeWork → HomeWork
let_go None w = w
let_go (Some s) w = on_pool (λ b. evict b s.page) (write_back s.page w)

-- a frame is free: one that was, or that of the victim
unfoldable pub make_room : ℕ → HomeWork → HomeWork
make_room keep w =
    pick (nat_lt 0 (free_frames w.home.pool)) w (let_go (victim w.home.pool keep) w)

-- the slot of the page, and then the private copy of a write
unfoldable pub take_slot : ℕ → HomeWork → HomeWork
take_slot p w = pick (has_slot w.home.pool p) w (on_pool (λ b. place b p) (make_room p w))

-- a write takes a frame for its private copy
unfoldable pub take_private : TxId → ℕ → Option (ℕ × List ℕ) → HomeWork → HomeWork
take_private t p None w = w
take_private t p (Some write) w =
    pick (has_private w.home.pool t p) w (on_pool (λ b. private b t p) (make_room p w))

-- a transaction that doesn't hold the page pins its slot from now on
abbrev pub pin_once : TxId → ℕ → HomeWork → HomeWork
pin_once t p w = pick (is_some (held_by w.home.txs t p)) w (on_pool (λ b. pin b p) w)

-- an access takes its frames and pins its slot
unfoldable pub take_frames : Access → HomeWork → HomeWork
take_frames a w = pin_once a.tx a.page (take_private a.tx a.page a.write (take_slot a.page w))

-- the bytes that a read gives: the private copy's where it was filled, else the slot's
abbrev pub bytes_or : Option (List ℕ) → List ℕ → List ℕ
bytes_or None old = old
bytes_or (Some bytes) old = bytes

-- the bytes that a transaction reads of a page
abbrev pub bytes_read : Pool → TxId → ℕ → List ℕ
bytes_read b t p = bytes_or (private_bytes b t p) (bytes_of_copy (copy_at b p))

-- a version that is there
abbrev pub version_or : Option ℕ → ℕ
version_or None = 0
version_or (Some v) = v

-- a private copy is filled from the slot, unless it was
abbrev pub filled : Pool → TxId → ℕ → Pool
filled b t p = pick (is_some (private_bytes b t p)) b (fill b t p)

-- a granted write: its bytes are put into the private copy, and its places are noted
abbrev pub written : HomeState → TxId → ℕ → ℕ → List ℕ → HomeState
written h t p place bytes =
    record h {
      pool = change (filled (touch h.pool p) t p) t p place bytes;
      written = put_runs h.written t p (cover (runs_at h.written t p) place (place + length bytes));
    }

-- a granted access of a page whose slot has the granted version: its reply, and the home after it
pub record Granted : Type 0 where
  pub reply : Reply
  pub work : HomeWork

-- what a granted access answers and changes
unfoldable pub perform : TxId → ℕ → Option (ℕ × List ℕ) → HomeWork → Granted
perform t p None w =
    record {
      reply = reply.Value t p (version_or (find w.home.pool p)) (bytes_read w.home.pool t p);
      work = on_pool (λ b. touch b p) w;
    }
perform t p (Some write) w =
    record {
      reply = reply.Done t p (version_or (find w.home.pool p));
      work = record w { home = written w.home t p write.0 write.1 };
    }

-- what an access comes to: it is done, it goes into the own entry, or a request is sent
pub data Next : Type 0 where
  Now : Reply → Next
  AskOwn : Waiter → Next
  AskOwner : Request → Next

-- what an access comes to, and the work after it
pub record Accessed : Type 0 where
  pub next : Next
  pub work : HomeWork

-- an access that was done at once
abbrev pub now_done : Granted → Accessed
now_done g = record { next = Now g.reply; work = g.work }

-- a read under the right of the node
abbrev pub under_right : TxId → ℕ → HomeState → HomeState
under_right t p h =
    record h {
      txs = add h.txs t (record { page = p; mode = Shared; kind = kind.Right });
      shelf = add_reader h.shelf p t;
    }

-- an access that isn't done at once
abbrev pub next_of : Access → Bool → Option ℕ → Next
next_of a true have = AskOwn (record { tx = a.tx; mode = mode_of_write a.write; have = have })
next_of a false have =
    AskOwner (record { tx = a.tx; page = a.page; mode = mode_of_write a.write; have = have })

-- the transaction waits
abbrev pub waiting : Access → HomeState → HomeState
waiting a h =
    record h {
      txs = wait h.txs a.tx (record { page = a.page; mode = mode_of_write a.write; write = a.write });
    }

-- whether an access is one of a page that the transaction holds in such a mode
abbrev pub is_held : Access → HomeState → Bool
is_held a h = covers (mode_held (held_by h.txs a.tx a.page)) (mode_of_write a.write)

-- whether it is a read for which the node has the right and a copy of the right's version
abbrev pub has_version : List Right → ℕ → Option ℕ → Bool
has_version shelf p None = false
has_version shelf p (Some v) = may_read shelf p v

-- whether a read is done under the right of the node
abbrev pub is_allowed : Access → Bool → HomeState → Bool
is_allowed a owned h = not owned && (not (is_some a.write) && has_version h.shelf a.page (find h.pool a.page))

-- an access whose frames were taken, where `owned` tells whether the node owns the page
unfoldable pub access_in : Access → Bool → HomeWork → Accessed
access_in a owned w =
    pick (is_held a w.home) (now_done (perform a.tx a.page a.write w))
    (pick (is_allowed a owned w.home)
    (now_done (perform a.tx a.page None (record w { home = under_right a.tx a.page w.home })))
    (record {
      next = next_of a owned (find w.home.pool a.page);
      work = record w { home = waiting a w.home };
    }))

-- an access takes its frames, and is done or waits
unfoldable pub access : Access → Bool → HomeWork → Accessed
access a owned w = access_in a owned (take_frames a w)

-- a clean copy of a page
abbrev pub clean_copy : PageAt → Copy
clean_copy at = record { version = at.version; bytes = at.bytes; dirty = false }

-- the page that was read from disk goes into the slot, where it has the granted version
abbrev pub from_disk : ℕ → ℕ → HomeWork → PageAt → Outcome HomeWork
from_disk p version w at =
    pick (at.version == version) (Goes (on_pool (λ b. install b p (clean_copy at)) w)) (Differs p version at.version)

-- the slot comes to the granted version: it has it, or takes the image, or the page is read
abbrev pub new_content : ℕ → ℕ → Option (List ℕ) → HomeWork → Outcome HomeWork
new_content p version (Some image) w =
    Goes (on_pool (λ b. install b p (clean_copy (record { version = version; bytes = image }))) w)
new_content p version None w = and_then (read_page w.pages p) (from_disk p version w)

-- the content stays where the slot has the version
abbrev pub unless_current : Bool → ℕ → ℕ → Option (List ℕ) → HomeWork → Outcome HomeWork
unless_current true p version image w = Goes w
unless_current false p version image w = new_content p version image w

-- the slot of a page comes to a granted version
unfoldable pub bring : ℕ → ℕ → Option (List ℕ) → HomeWork → Outcome HomeWork
bring p version image w = unless_current (is_version (find w.home.pool p) version) p version image w

-- the write of a waiting access
abbrev pub write_of : Option Pending → Option (ℕ × List ℕ)
write_of None = None
write_of (Some w) = w.write

-- the transaction gets its lock, and its access is done
abbrev pub locked : TxId → Held → Option (ℕ × List ℕ) → HomeWork → Granted
locked t l write w = perform t l.page write (record w { home = record (w.home) { txs = add w.home.txs t l } })

-- the waiting access of a transaction is granted at a version
unfoldable pub granted : TxId → Held → ℕ → Option (List ℕ) → HomeWork → Outcome Granted
granted t l version image w =
    and_so (bring l.page version image w) (locked t l (write_of (pending_of w.home.txs t)))

-- what a grant on arrival comes to: the reply, or none where the transaction doesn't wait for it
pub record Arrived : Type 0 where
  pub reply : Option Reply
  pub work : HomeWork

-- the image that a grant brings
abbrev pub image_of : CopyPart → Option (List ℕ)
image_of part.Current = None
image_of (part.Image bytes) = Some bytes
image_of part.OnDisk = None

-- the kind of lock that a grant gives
abbrev pub kind_of : Bool → Bool → Kind
kind_of owned right = pick owned kind.Own (pick right kind.Right kind.Registered)

-- the right of a grant is accepted, and its transaction is a reader under it; a grant without a
-- right takes its transaction off the readers
abbrev pub shelf_after : Grant → List Right → List Right
shelf_after g shelf = pick g.right (accept shelf g.page g.version) shelf

-- the readers after a grant
abbrev pub readers_after : Grant → List Right → List Right
readers_after g shelf = pick g.right (add_reader shelf g.page g.tx) (end_reader shelf g.page g.tx)

-- a grant for which its transaction waited
abbrev pub arrived : Granted → Arrived
arrived g = record { reply = Some g.reply; work = g.work }

-- a grant is carried out where its transaction waits for it
abbrev pub arrive : Bool → Grant → Bool → HomeWork → Outcome Arrived
arrive false g owned w = Goes (record { reply = None; work = w })
arrive true g owned w =
    and_so
    (granted g.tx (record { page = g.page; mode = g.mode; kind = kind_of owned g.right }) g.version (image_of g.copy)
    (record w { home = record (w.home) { shelf = readers_after g w.home.shelf } }))
    arrived

-- a grant arrives at the home node
unfoldable pub on_grant : Grant → Bool → HomeWork → Outcome Arrived
on_grant g owned w =
    arrive (waits_as (pending_of w.home.txs g.tx) g.page g.mode) g owned
    (record w { home = record (w.home) { shelf = shelf_after g w.home.shelf } })

-- the locks of some transactions on a page get another kind
unfoldable pub kinds_on : OpenTxs → List TxId → ℕ → Kind → OpenTxs
kinds_on s [] p k = s
kinds_on s (t ∷ ts) p k = kinds_on (set_kind s t p k) ts p k

-- a right is spent, and the locks of its readers are of that kind from then on
abbrev pub spend_right : Kind → ℕ → HomeState → HomeState
spend_right k p h =
    record h { txs = kinds_on h.txs (readers_of (right_on h.shelf p)) p k; shelf = spend h.shelf p }

-- a revocation is answered with the readers, where the right is there
pub record Answered : Type 0 where
  pub answer : Option ReturnRight
  pub home : HomeState

-- the answer where there is a right
abbrev pub answer_with : ℕ → Option Right → HomeState → Answered
answer_with p None h = record { answer = None; home = h }
answer_with p (Some r) h =
    record { answer = Some (record { page = p; readers = r.readers }); home = spend_right kind.Registered p h }

-- a revocation arrives at the home node
unfoldable pub on_revoke : ℕ → HomeState → Answered
on_revoke p h = answer_with p (right_on h.shelf p) h
