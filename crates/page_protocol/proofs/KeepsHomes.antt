-- The steps at a home keep the invariant.
use Rattle.std.specs.Prelude.{ℕ, ◌≤◌, false, cond, ◌≡◌, List, [], ◌∷◌, ◌++◌, Option, Some, None}
use Rattle.std.proofs.Common.{suc, refl, sym, ap, ◌∙◌, arith}
use Rattle.pcl_base.specs.declared.tx.TxId.{TxId}
use Rattle.pcl_base.specs.declared.tx.Mode.{Mode}
use Rattle.pcl_base.specs.declared.tx.Mode.TheVariants.{Shared, Exclusive}
use mathlib.Core.Logic.{inl}
use Rattle.page_protocol.specs.Invariant.{Covers, Names, Covered, Locks, RightOk, Counts, ChangeIs, IsCopy, Stores, SlotHas, SlotOk, ScriptOk, Accesses, Inv}
use Rattle.page_protocol.specs.Homes.{asking, upgrading, Waits, accepting, taking_right, keeping_right, reading_under, seen_by, seen, reading, writing, ended, ending, committing_reads}
use Rattle.page_protocol.specs.State.{upd, updn, Sent, Right, Flying, Shelf, Home, Fresh, Asking, Holding, HoldingAsks, Reading, ReadingAsks, Ended, Gone, lock_of, Page, current, In, IsFresh, IsAsking, Lives, IsPast, IsGranted, IsShelf, version_of, bytes_of, told_copy}
use Rattle.page_protocol.specs.Bytes.{Copy, put, Access, Read, Write, Leaves, writes}
use Rattle.page_protocol.proofs.Basics.{by_node, updn_same, along, back}
use Rattle.page_protocol.proofs.AccessesKept.{leaves_read, leaves_write, leaves_same, accesses_home, accesses_slots, accesses_script, accesses_image, accesses_read, accesses_commit, slot_ok_now, slot_ok_ended, script_ok_ended}
use Rattle.page_protocol.proofs.LocksOne.{locks_home, locks_free, locks_same, locks_ended, locks_right}
use Rattle.page_protocol.proofs.GrantsKept.{told_kept, Fades, grants_home, grants_copies, grants_right, fades_ended}
use Rattle.page_protocol.proofs.EntryKept.{entry_home, past_ended, change_ended, current_is, stores_slot, slot_has_now, kept_slot}

pub waits_lives : (h : Home) (m : Mode) → Waits h m → Lives h
waits_lives Fresh m w = w
waits_lives (Asking k v) m w = tt
waits_lives (Holding k) m w = tt
waits_lives HoldingAsks m w = tt
waits_lives Reading m w = tt
waits_lives ReadingAsks m w = tt
waits_lives (Ended c e) m w = w
waits_lives Gone m w = w

pub lives_unfresh : (h : Home) → Lives h → IsFresh h → ⊥
lives_unfresh Fresh l f = l
lives_unfresh (Asking k v) l f = f
lives_unfresh (Holding k) l f = f
lives_unfresh HoldingAsks l f = f
lives_unfresh Reading l f = f
lives_unfresh ReadingAsks l f = f
lives_unfresh (Ended c e) l f = f
lives_unfresh Gone l f = f

pub lives_not_past : (h : Home) → Lives h → IsPast h → ⊥
lives_not_past Fresh l f = l
lives_not_past (Asking k v) l f = f
lives_not_past (Holding k) l f = f
lives_not_past HoldingAsks l f = f
lives_not_past Reading l f = f
lives_not_past ReadingAsks l f = f
lives_not_past (Ended c e) l f = l
lives_not_past Gone l f = l

pub granted_lives : (h : Home) → IsGranted h → Lives h
granted_lives Fresh l = l
granted_lives (Asking k v) l = tt
granted_lives (Holding k) l = tt
granted_lives HoldingAsks l = tt
granted_lives Reading l = tt
granted_lives ReadingAsks l = tt
granted_lives (Ended c e) l = l
granted_lives Gone l = l

pub told_slot : (cur : Copy) (s : Option Copy) (m : Mode) → SlotOk cur s (Asking m (version_of s))
told_slot cur None m = tt
told_slot cur (Some c) m = record { copy = c; there = refl; enough = omega arith }

pub covers_covered : (l : Option Mode) (r : Right) (e : ℕ) (t : TxId) (m : Mode) → Covers l m → Covered l r e t m
covers_covered None r e t m c = absurd c
covers_covered (Some Shared) r e t Shared c = inl c
covers_covered (Some Shared) r e t Exclusive c = absurd c
covers_covered (Some Exclusive) r e t Shared c = inl c
covers_covered (Some Exclusive) r e t Exclusive c = refl

pub accept_script : (b : List ℕ) (s : List Access) (m n : List ℕ) (h : Home) (k : Mode) → Waits h k → ScriptOk b s m h → n ≡ b → ScriptOk b s n (Holding k)
accept_script b s m n Fresh k w p e = absurd w
accept_script b s m n (Asking j v) Shared w p e = back (λ x. Leaves x b b) p refl
accept_script b s m n (Asking j v) Exclusive w p e = back (λ x. Leaves x b n) p (sym e)
accept_script b s m n (Holding j) k w p e = absurd w
accept_script b s m n HoldingAsks Shared w p e = p
accept_script b s m n HoldingAsks Exclusive w p e = back (λ x. Leaves s b x) e p
accept_script b s m n Reading k w p e = absurd w
accept_script b s m n ReadingAsks Shared w p e = p
accept_script b s m n ReadingAsks Exclusive w p e = back (λ x. Leaves s b x) e p
accept_script b s m n (Ended c f) k w p e = absurd w
accept_script b s m n Gone k w p e = absurd w

pub copy_is : (now : ℕ) (hist : ℕ → List ℕ) (c : Copy) → IsCopy now hist c → now ≤ c.version → c ≡ record { version = now; bytes = hist now }
copy_is now hist c i p = let o = i.old in let e : c.version ≡ now = omega arith in let b = i.same ∙ ap hist e in λ j. record { version = e j; bytes = b j }

pub read_script : (cur : Copy) (slot : Option Copy) (s : List Access) (m : List ℕ) (h : Home) → IsGranted h → SlotOk cur slot h → ScriptOk cur.bytes s m h
    → ScriptOk cur.bytes (s ++ Read (seen_by h m (bytes_of slot)) ∷ []) m h
read_script cur slot s m Fresh g p q = absurd g
read_script cur slot s m (Asking k v) g p q = absurd g
read_script cur slot s m (Holding Shared) g p q = back (λ x. Leaves (s ++ Read x ∷ []) cur.bytes cur.bytes) (ap bytes_of p) (leaves_read s cur.bytes cur.bytes q)
read_script cur slot s m (Holding Exclusive) g p q = leaves_read s cur.bytes m q
read_script cur slot s m HoldingAsks g p q = absurd g
read_script cur slot s m Reading g p q = back (λ x. Leaves (s ++ Read x ∷ []) cur.bytes cur.bytes) (ap bytes_of p) (leaves_read s cur.bytes cur.bytes q)
read_script cur slot s m ReadingAsks g p q = absurd g
read_script cur slot s m (Ended c e) g p q = absurd g
read_script cur slot s m Gone g p q = absurd g

pub reads_leave : (b : List ℕ) (s : List Access) (m : List ℕ) (h : Home) → IsGranted h → writes s ≡ false → ScriptOk b s m h → Leaves s b b
reads_leave b s m Fresh g w p = absurd g
reads_leave b s m (Asking k v) g w p = absurd g
reads_leave b s m (Holding Shared) g w p = p
reads_leave b s m (Holding Exclusive) g w p = back (λ x. Leaves s b x) (leaves_same s b m w p) p
reads_leave b s m HoldingAsks g w p = absurd g
reads_leave b s m Reading g w p = p
reads_leave b s m ReadingAsks g w p = absurd g
reads_leave b s m (Ended c e) g w p = absurd g
reads_leave b s m Gone g w p = absurd g

-- where a slot gets the current copy, a slot with it keeps it
pub slot_set : (slot : ℕ → Option Copy) (n m : ℕ) (s : Option Copy) (cur : Copy) → s ≡ Some cur → slot m ≡ Some cur → updn slot n s m ≡ Some cur
slot_set slot n m s cur e p = by_node (λ k y. slot k ≡ Some cur → y ≡ Some cur) n m s (slot m) (λ q. e) (λ q. q) p

module _ (blank : List ℕ) (a : Page) (i : Inv blank a) where
  -- only one home changes
  pub keeps_home : (t : TxId) (h : Home)
      → Locks a.era a.reached a.listed a.right (upd a.home t h)
      → Fades (a.home t) h → (IsPast (a.home t) → IsPast h) → ChangeIs a.era a.now h
      → SlotOk (current a) (a.slot t.node) h → ScriptOk (a.hist a.now) (a.script t) (a.image t) h
      → Inv blank (record a { home = upd a.home t h })
  keeps_home t h locks fades past change slot script =
      record {
        locks_hold = locks;
        grants_hold = grants_home i.grants_hold t h fades;
        entry_holds = entry_home i.entry_holds t h past change;
        stores_hold = i.stores_hold;
        kept_holds = i.kept_holds;
        accesses_hold = accesses_home i.accesses_hold t h slot script;
      }

  pub keeps_asks : (t : TxId) (m : Mode) → a.home t ≡ Fresh → Inv blank (asking a t m)
  unfolding asking
  keeps_asks t m e =
      keeps_home t (Asking m (version_of (a.slot t.node)))
      (locks_free i.locks_hold t (Asking m (version_of (a.slot t.node))) refl tt)
      (back (λ h. Fades h (Asking m (version_of (a.slot t.node)))) e (record { lives = λ l f. absurd (f tt); fresh = λ f. absurd f; asking = λ k f. absurd (f tt) }))
      (back (λ h. IsPast h → IsPast (Asking m (version_of (a.slot t.node)))) e (λ p. p))
      tt (told_slot (current a) (a.slot t.node) m)
      (along (λ h. ScriptOk (a.hist a.now) (a.script t) (a.image t) h) e (i.accesses_hold.scripts t))

  pub keeps_retells : (t : TxId) (m : Mode) (v : Option ℕ) → a.home t ≡ Asking m v → Inv blank (asking a t m)
  unfolding asking
  keeps_retells t m v e =
      keeps_home t (Asking m (version_of (a.slot t.node)))
      (locks_free i.locks_hold t (Asking m (version_of (a.slot t.node))) refl tt)
      (back (λ h. Fades h (Asking m (version_of (a.slot t.node)))) e (record { lives = λ l f. tt; fresh = λ f. f; asking = λ k f. tt }))
      (back (λ h. IsPast h → IsPast (Asking m (version_of (a.slot t.node)))) e (λ p. p))
      tt (told_slot (current a) (a.slot t.node) m)
      (along (λ h. ScriptOk (a.hist a.now) (a.script t) (a.image t) h) e (i.accesses_hold.scripts t))

  pub keeps_upgrades : (t : TxId) → a.home t ≡ Holding Shared → Inv blank (upgrading a t HoldingAsks)
  unfolding upgrading
  keeps_upgrades t e =
      keeps_home t HoldingAsks
      (locks_same i.locks_hold t HoldingAsks (sym (ap lock_of e)) tt)
      (back (λ h. Fades h HoldingAsks) e (record { lives = λ l f. tt; fresh = λ f. f; asking = λ k f. k }))
      (back (λ h. IsPast h → ⊥) e (λ p. p))
      tt
      (along (λ h. SlotOk (current a) (a.slot t.node) h) e (i.accesses_hold.slots t))
      (along (λ h. ScriptOk (a.hist a.now) (a.script t) (a.image t) h) e (i.accesses_hold.scripts t))

  pub keeps_upgrades_reader : (t : TxId) → a.home t ≡ Reading → Inv blank (upgrading a t ReadingAsks)
  unfolding upgrading
  keeps_upgrades_reader t e =
      keeps_home t ReadingAsks
      (locks_same i.locks_hold t ReadingAsks (sym (ap lock_of e)) tt)
      (back (λ h. Fades h ReadingAsks) e (record { lives = λ l f. tt; fresh = λ f. f; asking = λ k f. k }))
      (back (λ h. IsPast h → ⊥) e (λ p. p))
      tt
      (along (λ h. SlotOk (current a) (a.slot t.node) h) e (i.accesses_hold.slots t))
      (along (λ h. ScriptOk (a.hist a.now) (a.script t) (a.image t) h) e (i.accesses_hold.scripts t))

  -- a slot gets the current copy
  pub stores_now : (n : ℕ) (s : Option Copy) → s ≡ Some (current a) → Stores a.now a.hist a.disk (updn a.slot n s) a.log
  stores_now n s e =
      stores_slot i.stores_hold n s (λ c p. let q : current a ≡ c = let z = sym e ∙ p in cc in along (IsCopy a.now a.hist) q (current_is i.stores_hold))

  pub slot_more : (n m v : ℕ) (s : Option Copy) → s ≡ Some (current a) → SlotHas (a.slot m) v → SlotHas (updn a.slot n s m) v
  slot_more n m v s e h = by_node (λ k y. SlotHas (a.slot k) v → SlotHas y v) n m s (a.slot m) (λ x. slot_has_now i.stores_hold n s v e x) (λ x. x) h

  pub accesses_now : (n : ℕ) (s : Option Copy) → s ≡ Some (current a) → Accesses blank (current a) (updn a.slot n s) a.home a.script a.image a.committed
  accesses_now n s e =
      accesses_slots i.accesses_hold (updn a.slot n s)
      (λ t p. by_node (λ k y. k ≡ t.node → SlotOk (current a) y (a.home t)) n t.node s (a.slot t.node)
      (λ k. slot_ok_now (current a) (a.slot t.node) s (a.home t) e (λ v h. slot_has_now i.stores_hold t.node s v e h) p) (λ k. p) refl)

  pub keeps_accepts : (g : Sent) → In g a.sent → a.reached g.tx.node ≡ a.era → Waits (a.home g.tx) g.mode → Inv blank (accepting a g)
  unfolding accepting
  keeps_accepts g p same w =
      record {
        locks_hold = locks_home i.locks_hold g.tx (Holding g.mode)
            (λ e b c. let q : e ≡ a.era = omega arith in
            back (λ x. Covered (a.listed g.tx x) (a.right g.tx.node) x g.tx g.mode) q (covers_covered (a.listed g.tx a.era) (a.right g.tx.node) a.era g.tx g.mode k.covered))
            (omega arith) tt;
        grants_hold = grants_copies (grants_home i.grants_hold g.tx (Holding g.mode) (record { lives = λ l f. lives; fresh = λ f. absurd f; asking = λ x f. absurd x }))
            (updn a.slot g.tx.node s) a.disk a.reached (λ n. omega arith)
            (λ t x v l e. told_kept x v (a.slot t.node) (updn a.slot g.tx.node s t.node) a.disk a.disk (current a) (λ z. slot_set a.slot g.tx.node t.node s (current a) k.copy z) (λ z. z) e);
        entry_holds = entry_home i.entry_holds g.tx (Holding g.mode) (λ x. absurd (lives_not_past (a.home g.tx) lives x)) tt;
        stores_hold = stores_now g.tx.node s k.copy;
        kept_holds = kept_slot i.kept_holds (updn a.slot g.tx.node s a.owner) (λ v h. slot_more g.tx.node a.owner v s k.copy h);
        accesses_hold = accesses_image (accesses_now g.tx.node s k.copy) g.tx (Holding g.mode) (bytes_of s)
            (updn_same a.slot g.tx.node s ∙ k.copy)
            (accept_script (a.hist a.now) (a.script g.tx) (a.image g.tx) (bytes_of s) (a.home g.tx) g.mode w (i.accesses_hold.scripts g.tx) (ap bytes_of k.copy));
      }
    where
      lives : Lives (a.home g.tx)
      lives = waits_lives (a.home g.tx) g.mode w

      k : Counts g.mode g.version g.word (a.listed g.tx a.era) (a.slot g.tx.node) a.disk (current a)
      k = i.grants_hold.grants g p (omega arith) lives

      s : Option Copy
      s = told_copy g.word g.version (a.slot g.tx.node) a.disk

  flying : (g : Sent) → a.right g.tx.node ≡ Flying g → RightOk a.era (a.slot g.tx.node) a.disk (current a) (a.reached g.tx.node) a.home g.tx.node (Flying g)
  flying g r = along (RightOk a.era (a.slot g.tx.node) a.disk (current a) (a.reached g.tx.node) a.home g.tx.node) r (i.grants_hold.rights g.tx.node)

  shelved : (g : Sent) → a.right g.tx.node ≡ Flying g → a.reached g.tx.node ≡ a.era → Locks a.era a.reached a.listed (updn a.right g.tx.node (Shelf g.version)) a.home
  shelved g r same =
      locks_right i.locks_hold g.tx.node (Shelf g.version)
      (λ t x. absurd (let z = i.locks_hold.no_rights t g.tx.node x in cc))
      (λ t e x. absurd (along (λ y. Names y e t) r x))
      (λ t k u x. tt)
      (λ x. omega arith)

  pub keeps_keeps_right : (g : Sent) → a.right g.tx.node ≡ Flying g → a.reached g.tx.node ≡ a.era → Inv blank (keeping_right a g)
  unfolding keeping_right
  keeps_keeps_right g r same =
      record {
        locks_hold = shelved g r same;
        grants_hold = grants_right i.grants_hold g.tx.node (Shelf g.version) (flying g r).2;
        entry_holds = i.entry_holds;
        stores_hold = i.stores_hold;
        kept_holds = i.kept_holds;
        accesses_hold = i.accesses_hold;
      }

  pub keeps_takes_right : (g : Sent) (v : Option ℕ) → a.right g.tx.node ≡ Flying g → a.reached g.tx.node ≡ a.era → a.home g.tx ≡ Asking Shared v → Inv blank (taking_right a g)
  unfolding taking_right
  keeps_takes_right g v r same h =
      record {
        locks_hold = locks_home (shelved g r same) g.tx Reading
            (λ e b c. back IsShelf (updn_same a.right g.tx.node (Shelf g.version)) tt) (omega arith) tt;
        grants_hold = grants_right
            (grants_copies (grants_home i.grants_hold g.tx Reading (record { lives = λ l f. back Lives h tt; fresh = λ f. absurd f; asking = λ x f. absurd x }))
            (updn a.slot g.tx.node s) a.disk a.reached (λ n. omega arith)
            (λ t x v l e. told_kept x v (a.slot t.node) (updn a.slot g.tx.node s t.node) a.disk a.disk (current a) (λ z. slot_set a.slot g.tx.node t.node s (current a) k z) (λ z. z) e))
            g.tx.node (Shelf g.version) (flying g r).2;
        entry_holds = entry_home i.entry_holds g.tx Reading (back (λ x. IsPast x → ⊥) h (λ x. x)) tt;
        stores_hold = stores_now g.tx.node s k;
        kept_holds = kept_slot i.kept_holds (updn a.slot g.tx.node s a.owner) (λ v h. slot_more g.tx.node a.owner v s k h);
        accesses_hold = accesses_home (accesses_now g.tx.node s k) g.tx Reading
            (updn_same a.slot g.tx.node s ∙ k)
            (back (λ x. Leaves x (a.hist a.now) (a.hist a.now)) (along (λ x. ScriptOk (a.hist a.now) (a.script g.tx) (a.image g.tx) x) h (i.accesses_hold.scripts g.tx)) refl);
      }
    where
      s : Option Copy
      s = told_copy g.word g.version (a.slot g.tx.node) a.disk

      k : s ≡ Some (current a)
      k = (flying g r).3 (omega arith) (back IsAsking h tt)

  pub keeps_reads_under : (t : TxId) (v : ℕ) (c : Copy) → a.home t ≡ Fresh → a.right t.node ≡ Shelf v → a.slot t.node ≡ Some c → c.version ≡ v → Inv blank (reading_under a t)
  unfolding reading_under
  keeps_reads_under t v c h r s e =
      keeps_home t Reading
      (locks_home i.locks_hold t Reading (λ f b d. back IsShelf r tt) (i.locks_hold.shelves t.node (back IsShelf r tt)) tt)
      (back (λ x. Fades x Reading) h (record { lives = λ l f. absurd (f tt); fresh = λ f. absurd f; asking = λ k f. absurd k }))
      (back (λ x. IsPast x → ⊥) h (λ p. p))
      tt
      (s ∙ ap Some (copy_is a.now a.hist c (i.stores_hold.slots_are t.node c s) (omega (arith, version))))
      (back (λ x. Leaves x (a.hist a.now) (a.hist a.now)) (along (λ x. ScriptOk (a.hist a.now) (a.script t) (a.image t) x) h (i.accesses_hold.scripts t)) refl)
    where
      version : v ≡ a.now
      version = along (RightOk a.era (a.slot t.node) a.disk (current a) (a.reached t.node) a.home t.node) r (i.grants_hold.rights t.node)

  pub keeps_reads : (t : TxId) → IsGranted (a.home t) → Inv blank (reading a t)
  unfolding reading
  keeps_reads t g =
      record {
        locks_hold = i.locks_hold;
        grants_hold = i.grants_hold;
        entry_holds = i.entry_holds;
        stores_hold = i.stores_hold;
        kept_holds = i.kept_holds;
        accesses_hold = accesses_read i.accesses_hold t (a.script t ++ Read (seen a t) ∷ [])
            (read_script (current a) (a.slot t.node) (a.script t) (a.image t) (a.home t) g (i.accesses_hold.slots t) (i.accesses_hold.scripts t));
      }

  pub keeps_writes_piece : (t : TxId) (place : ℕ) (piece : List ℕ) → a.home t ≡ Holding Exclusive → Inv blank (writing a t place piece)
  unfolding writing
  keeps_writes_piece t place piece h =
      record {
        locks_hold = i.locks_hold;
        grants_hold = i.grants_hold;
        entry_holds = i.entry_holds;
        stores_hold = i.stores_hold;
        kept_holds = i.kept_holds;
        accesses_hold = accesses_script i.accesses_hold t (a.script t ++ Write place piece ∷ []) (put place piece (a.image t))
            (back (ScriptOk (a.hist a.now) (a.script t ++ Write place piece ∷ []) (put place piece (a.image t))) h
            (leaves_write (a.script t) (a.hist a.now) (a.image t) place piece (along (ScriptOk (a.hist a.now) (a.script t) (a.image t)) h (i.accesses_hold.scripts t))));
      }

  pub keeps_ends_open : (t : TxId) → Inv blank (ending a t)
  unfolding ending
  keeps_ends_open t =
      keeps_home t (ended (a.home t) (a.reached t.node))
      (locks_ended i.locks_hold t) (fades_ended (a.home t) (a.reached t.node))
      (past_ended (a.home t) (a.reached t.node)) (change_ended a.era a.now (a.home t) (a.reached t.node) (i.entry_holds.changes t))
      (slot_ok_ended (current a) (a.slot t.node) (a.home t) (a.reached t.node) (i.accesses_hold.slots t))
      (script_ok_ended (a.hist a.now) (a.script t) (a.image t) (a.home t) (a.reached t.node) (i.accesses_hold.scripts t))

  pub keeps_commits_reads : (t : TxId) → IsGranted (a.home t) → writes (a.script t) ≡ false → Inv blank (committing_reads a t)
  unfolding committing_reads ending
  keeps_commits_reads t g w =
      let k = keeps_ends_open t in
      record {
        locks_hold = k.locks_hold;
        grants_hold = k.grants_hold;
        entry_holds = k.entry_holds;
        stores_hold = k.stores_hold;
        kept_holds = k.kept_holds;
        accesses_hold = record {
          slots = k.accesses_hold.slots;
          scripts = k.accesses_hold.scripts;
          serial = accesses_commit i.accesses_hold (a.script t) (current a)
              (reads_leave (a.hist a.now) (a.script t) (a.image t) (a.home t) g w (i.accesses_hold.scripts t))
              (back (λ b. a.now ≡ cond b (suc a.now) a.now) w refl);
        };
      }
