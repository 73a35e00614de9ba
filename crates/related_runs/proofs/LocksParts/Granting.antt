-- Locks through grants and accesses: each that is new comes with a reply that tells its access.
use Rattle.std.proofs.Common.{◌≡◌, inr, refl, ap, sym, subst, ◌∙◌, ℕ, ◌==◌, Bool, true, false, List, [], ◌∷◌, ◌++◌, Option, Some, None, is_some, eqb-true}
use Rattle.std.specs.Prelude.{IfSome}
use Rattle.std.specs.List.{AllByRecursion}
use Rattle.pcl_base.specs.declared.lock.Held.{Held}
use Rattle.pcl_base.specs.declared.lock.Kind.TheVariants as kind
use Rattle.pcl_base.specs.declared.lock.Pending.{Pending}
use Rattle.pcl_base.specs.declared.message.Grant.{Grant}
use Rattle.pcl_base.specs.declared.reply.Reply.{Reply}
use Rattle.pcl_base.specs.declared.tx.Mode.{Mode}
use Rattle.pcl_base.specs.declared.tx.Mode.TheVariants.{Shared}
use Rattle.pcl_base.specs.declared.tx.TxId.{TxId}
use Rattle.cluster_laws.proofs.AskParts.Lists.{own_name}
use Rattle.node_rules.specs.Words.{pick}
use Rattle.node_rules.specs.AccessRule.{Access, Next, Now, AskOwn, AskOwner, Granted, Arrived, take_frames, perform, under_right, next_of, waiting, is_held, is_allowed, access_in, access, bring, locked, write_of, granted, arrive, arrived, kind_of, image_of, shelf_after, readers_after, on_grant, now_done}
use Rattle.node_rules.specs.BufferRule.{find}
use Rattle.node_rules.specs.NodeState.{HomeState}
use Rattle.node_rules.specs.OpenTxs.{OpenTx, add, is_own, with_serial, waiting_of_open, pending_of, waits_as}
use Rattle.node_rules.specs.Work.{HomeWork}
use Rattle.step_laws.proofs.Outcomes.{On, on_so}
use Rattle.related_runs.proofs.LocksParts.Accesses.{IsGrantOf, grant_last}
use Rattle.related_runs.proofs.LocksParts.Frames.{WorkKept, frames_kept, performed_kept, bring_kept}
use Rattle.related_runs.proofs.LocksParts.Marks.{name, Has, WaitIs, IsFine, Fine, fine_more, added, waits}

-- the transaction of a serial, where there is one
pub listed : (P : OpenTx → Type 0) (xs : List OpenTx) (k : ℕ) → AllByRecursion P xs → IfSome (with_serial xs k) (λ (x : OpenTx). (x.serial ≡ k) × P x)
unfolding with_serial
listed P [] k all = tt
listed P (x ∷ xs) k all = by (x.serial == k) refl (listed P xs k all.1)
  where
    by : (b : Bool) → (x.serial == k) ≡ b → IfSome (with_serial xs k) (λ (y : OpenTx). (y.serial ≡ k) × P y) → IfSome (pick b (Some x) (with_serial xs k)) (λ (y : OpenTx). (y.serial ≡ k) × P y)
    by true e rest = (eqb-true x.serial k e, all.0)
    by false e rest = rest

-- the reply of an access is a grant of it: of a read, and of a write that was asked for
read_reply : (t u : TxId) (p : ℕ) (w : Option (ℕ × List ℕ)) (x : HomeWork) → t ≡ u → IsGrantOf u w p (perform t p None x).reply
unfolding perform
read_reply t u p w x same = (same, refl)

grant_reply : (t u : TxId) (p : ℕ) (o w : Option (ℕ × List ℕ)) (x : HomeWork) → t ≡ u → o ≡ w → IsGrantOf u w p (perform t p o x).reply
unfolding perform
grant_reply t u p None w x same is = (same, refl)
grant_reply t u p (Some b) w x same is = ((same, refl), ap (λ (o : Option (ℕ × List ℕ)). is_some o) (sym is))

module _ (node born : ℕ) (f : ℕ → Option (ℕ × List ℕ)) (Old : ℕ → ℕ → Type 0) where
  -- ---- an access

  -- what an access comes to, with the reply behind those before where it is done at once
  abbrev pub NextKept : List Reply → Next → HomeState → Type 0
  NextKept rs (Now r) h = Fine node born f Old (rs ++ r ∷ []) h
  NextKept rs (AskOwn a) h = Fine node born f Old rs h
  NextKept rs (AskOwner r) h = Fine node born f Old rs h

  pub access_kept : (rs : List Reply) (a : Access) (owned : Bool) (w : HomeWork) → a.write ≡ f a.tx.serial → a.tx ≡ name node born f Old a.tx.serial → Fine node born f Old rs w.home
      → NextKept rs (access a owned w).next (access a owned w).work.home
  unfolding access access_in
  access_kept rs a owned w is named b = by (is_held a g.home) (is_allowed a owned g.home)
    where
      g : HomeWork
      g = take_frames a w

      got : Fine node born f Old rs g.home
      got = frames_kept node born f Old rs a w b

      -- done at once
      held : HomeWork → Reply
      held x = (perform a.tx a.page a.write x).reply

      -- read under the right
      under : HomeWork
      under = record g { home = under_right a.tx a.page g.home }

      read : Reply
      read = (perform a.tx a.page None under).reply

      has : Has node born f Old (rs ++ read ∷ []) a.tx.serial a.page
      has =
          inr
          (grant_last (name node born f Old a.tx.serial) (f a.tx.serial) a.page rs read
          (read_reply a.tx (name node born f Old a.tx.serial) a.page (f a.tx.serial) under named))

      -- it waits
      asked : (y : Bool) (have : Option ℕ) (h : HomeState) → Fine node born f Old rs h → NextKept rs (next_of a y have) h
      asked true have h i = i
      asked false have h i = i

      by : (x y : Bool)
          → NextKept rs
          (pick x (now_done (perform a.tx a.page a.write g))
          (pick y (now_done (perform a.tx a.page None under))
          (record { next = next_of a owned (find g.home.pool a.page); work = record g { home = waiting a g.home } }))).next
          (pick x (now_done (perform a.tx a.page a.write g))
          (pick y (now_done (perform a.tx a.page None under))
          (record { next = next_of a owned (find g.home.pool a.page); work = record g { home = waiting a g.home } }))).work.home
      by true y = performed_kept node born f Old (rs ++ held g ∷ []) a.tx a.page a.write g (fine_more node born f Old rs (held g ∷ []) g.home got)
      by false true =
          performed_kept node born f Old (rs ++ read ∷ []) a.tx a.page None under
          (added node born f Old (rs ++ read ∷ []) g.home.txs a.tx (record { page = a.page; mode = Shared; kind = kind.Right }) has (fine_more node born f Old rs (read ∷ []) g.home got))
      by false false = asked owned (find g.home.pool a.page) (waiting a g.home) (waits node born f Old rs g.home.txs a.tx _ is got)

  -- ---- a transaction that waits

  -- it is one of the node's, and a write that it waits for is what it asked for last
  record IsAwaited (t : TxId) (o : Option (ℕ × List ℕ)) : Type 0 where
    named : t ≡ name node born f Old t.serial
    write : o ≡ f t.serial

  awaited_by : (k p : ℕ) (m : Mode) (o : Option Pending) → IfSome o (WaitIs node born f Old k) → waits_as o p m ≡ true → write_of o ≡ f k
  awaited_by k p m None is waits = absurd (cc)
  awaited_by k p m (Some w) is waits = is

  is_awaited : (rs : List Reply) (h : HomeState) (t : TxId) (p : ℕ) (m : Mode) → Fine node born f Old rs h → waits_as (pending_of h.txs t) p m ≡ true → IsAwaited t (write_of (pending_of h.txs t))
  is_awaited rs h t p m i = by (is_own h.txs t) refl
    where
      of : (o : Option OpenTx) → IfSome o (λ (x : OpenTx). (x.serial ≡ t.serial) × IsFine node born f Old rs x) → IfSome (waiting_of_open o) (WaitIs node born f Old t.serial)
      of None is = tt
      of (Some x) is = subst (λ (k : ℕ). IfSome x.waiting (WaitIs node born f Old k)) is.0 is.1.0

      by : (b : Bool) → is_own h.txs t ≡ b → waits_as (waiting_of_open (pick b (with_serial h.txs.txs t.serial) None)) p m ≡ true
          → IsAwaited t (write_of (waiting_of_open (pick b (with_serial h.txs.txs t.serial) None)))
      by false own waits = absurd (cc)
      by true own waits =
          record {
            named =
                own_name h.txs t own
                ∙ ap (λ (k : ℕ). (let u : TxId = record { node = k; born = h.txs.born; serial = t.serial } in u)) i.0.0
                ∙ ap (λ (k : ℕ). (let u : TxId = record { node = node; born = k; serial = t.serial } in u)) i.0.1;
            write = awaited_by t.serial p m (waiting_of_open (with_serial h.txs.txs t.serial)) (of (with_serial h.txs.txs t.serial) (listed (IsFine node born f Old rs) h.txs.txs t.serial i.1)) waits;
          }

  -- ---- grants

  -- a home with the reply behind those before
  abbrev pub GrantKept : List Reply → Granted → Type 0
  GrantKept rs g = Fine node born f Old (rs ++ g.reply ∷ []) g.work.home

  pub granted_kept : (rs : List Reply) (t : TxId) (l : Held) (v : ℕ) (image : Option (List ℕ)) (w : HomeWork) → waits_as (pending_of w.home.txs t) l.page l.mode ≡ true
      → Fine node born f Old rs w.home → On (GrantKept rs) (granted t l v image w)
  unfolding granted
  granted_kept rs t l v image w waits b =
      on_so (WorkKept node born f Old rs) (GrantKept rs) (bring l.page v image w) (locked t l (write_of (pending_of w.home.txs t))) (bring_kept node born f Old rs l.page v image w b) done
    where
      awaited : IsAwaited t (write_of (pending_of w.home.txs t))
      awaited = is_awaited rs w.home t l.page l.mode b waits

      done : (x : HomeWork) → Fine node born f Old rs x.home → GrantKept rs (locked t l (write_of (pending_of w.home.txs t)) x)
      done x c =
          performed_kept node born f Old (rs ++ r ∷ []) t l.page (write_of (pending_of w.home.txs t)) y
          (added node born f Old (rs ++ r ∷ []) x.home.txs t l has (fine_more node born f Old rs (r ∷ []) x.home c))
        where
          y : HomeWork
          y = record x { home = record (x.home) { txs = add x.home.txs t l } }

          r : Reply
          r = (perform t l.page (write_of (pending_of w.home.txs t)) y).reply

          has : Has node born f Old (rs ++ r ∷ []) t.serial l.page
          has =
              inr
              (grant_last (name node born f Old t.serial) (f t.serial) l.page rs r
              (grant_reply t (name node born f Old t.serial) l.page (write_of (pending_of w.home.txs t)) (f t.serial) y awaited.named awaited.write))

  -- a reply that may be missing
  abbrev pub with_reply : List Reply → Option Reply → List Reply
  with_reply rs None = rs
  with_reply rs (Some r) = rs ++ r ∷ []

  abbrev pub ArrivalKept : List Reply → Arrived → Type 0
  ArrivalKept rs a = Fine node born f Old (with_reply rs a.reply) a.work.home

  pub arrived_kept : (rs : List Reply) (g : Grant) (owned : Bool) (w : HomeWork) → Fine node born f Old rs w.home → On (ArrivalKept rs) (on_grant g owned w)
  unfolding on_grant
  arrived_kept rs g owned w b = by (waits_as (pending_of w.home.txs g.tx) g.page g.mode) refl
    where
      shelved : HomeWork
      shelved = record w { home = record (w.home) { shelf = shelf_after g w.home.shelf } }

      by : (x : Bool) → waits_as (pending_of w.home.txs g.tx) g.page g.mode ≡ x → On (ArrivalKept rs) (arrive x g owned shelved)
      by false e = b
      by true e =
          on_so (GrantKept rs) (ArrivalKept rs) _ arrived
          (granted_kept rs g.tx (record { page = g.page; mode = g.mode; kind = kind_of owned g.right }) g.version (image_of g.copy)
          (record shelved { home = record (shelved.home) { shelf = readers_after g shelved.home.shelf } }) e b)
          (λ x c. c)
