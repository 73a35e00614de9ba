-- A commit of a writer keeps the invariant.
use Rattle.std.specs.Prelude.{ℕ, ◌<◌, ◌≤◌, Bool, true, false, cond, ◌&&◌, eqb, ◌≡◌, ◌⊎◌, List, Option, Some, None}
use Rattle.std.proofs.Common.{suc, refl, sym, ap, ◌∙◌, arith}
use Rattle.pcl_base.specs.declared.tx.TxId.{TxId}
use Rattle.pcl_base.specs.declared.tx.Mode.{Mode}
use Rattle.pcl_base.specs.declared.tx.Mode.TheVariants.{Shared, Exclusive}
use Rattle.std.proofs.lemmas.Bool.Decides.{nat_tests}
use mathlib.Core.Logic.{inl, inr}
use Rattle.page_protocol.specs.Invariant.{Covered, Locked, EndsOk, ChangeIs, IsCopy, IsRecord, Logged, Stores, SlotHas, Kept, SlotOk, ScriptOk, Inv}
use Rattle.page_protocol.specs.Homes.{committing}
use Rattle.page_protocol.specs.State.{pick, same_tx, updn, Right, NoRight, Home, Fresh, Asking, Holding, HoldingAsks, Reading, ReadingAsks, Ended, Gone, lock_of, InEra, Page, current, IsPast, IsShelf}
use Rattle.page_protocol.specs.Bytes.{Copy, Ranges, put_all, Access, Leaves, writes}
use Rattle.page_protocol.proofs.Basics.{and_true, eqb_true, same_tx_refl, by_test, by_tx_else, by_node, upd_same, updn_same, updn_other, along, back}
use Rattle.page_protocol.proofs.AccessesKept.{accesses_commit}
use Rattle.page_protocol.proofs.LocksOne.{locks_free}
use Rattle.page_protocol.proofs.GrantsKept.{grants_commit}
use Rattle.page_protocol.proofs.LocksEras.{covered_none}
use Rattle.page_protocol.proofs.EntryKept.{entry_now}

pub put_true : (b d : Bool) → d ≡ true → pick b true d ≡ true
put_true true d e = refl
put_true false d e = e

pub exclusive_lock : (l : ℕ → Option Mode) (r : Right) (t : TxId) (e : ℕ) (h : Home) → h ≡ Holding Exclusive → Locked (l e) r e t (lock_of h) → l e ≡ Some Exclusive
exclusive_lock l r t e h p k = along (λ x. Locked (l e) r e t (lock_of x)) p k

-- nobody beside a writer holds the page
pub nobody_slot : (cur : Copy) (slot z : Option Copy) (l : Option Mode) (r : Right) (e reached : ℕ) (t : TxId) (h : Home) → l ≡ None → r ≡ NoRight
    → InEra (lock_of h) e reached → (e ≤ reached → Locked l r e t (lock_of h)) → ((v : ℕ) → SlotHas slot v → SlotHas z v) → (old : Copy) → SlotOk old slot h → SlotOk cur z h
nobody_slot cur slot z l r e reached t Fresh n o i k f old p = tt
nobody_slot cur slot z l r e reached t (Asking m None) n o i k f old p = tt
nobody_slot cur slot z l r e reached t (Asking m (Some v)) n o i k f old p = f v p
nobody_slot cur slot z l r e reached t (Holding m) n o i k f old p = absurd (covered_none l r e t m n o (k i))
nobody_slot cur slot z l r e reached t HoldingAsks n o i k f old p = absurd (covered_none l r e t Shared n o (k i))
nobody_slot cur slot z l r e reached t Reading n o i k f old p = absurd (along IsShelf o (k i))
nobody_slot cur slot z l r e reached t ReadingAsks n o i k f old p = absurd (along IsShelf o (k i))
nobody_slot cur slot z l r e reached t (Ended c g) n o i k f old p = tt
nobody_slot cur slot z l r e reached t Gone n o i k f old p = tt

pub nobody_script : (b c : List ℕ) (s : List Access) (m : List ℕ) (l : Option Mode) (r : Right) (e reached : ℕ) (t : TxId) (h : Home) → l ≡ None → r ≡ NoRight
    → InEra (lock_of h) e reached → (e ≤ reached → Locked l r e t (lock_of h)) → ScriptOk b s m h → ScriptOk c s m h
nobody_script b c s m l r e reached t Fresh n o i k p = p
nobody_script b c s m l r e reached t (Asking j v) n o i k p = p
nobody_script b c s m l r e reached t (Holding j) n o i k p = absurd (covered_none l r e t j n o (k i))
nobody_script b c s m l r e reached t HoldingAsks n o i k p = absurd (covered_none l r e t Shared n o (k i))
nobody_script b c s m l r e reached t Reading n o i k p = absurd (along IsShelf o (k i))
nobody_script b c s m l r e reached t ReadingAsks n o i k p = absurd (along IsShelf o (k i))
nobody_script b c s m l r e reached t (Ended d g) n o i k p = tt
nobody_script b c s m l r e reached t Gone n o i k p = tt

-- no other change is on its way beside a writer
pub nobody_change : (era now next reached : ℕ) (l : ℕ → Option Mode) (r : Right) (t : TxId) (h : Home) → l era ≡ None → r ≡ NoRight
    → ((e : ℕ) → era < e → l e ≡ Some Exclusive → Covered (l era) r era t Exclusive) → EndsOk era reached l h → ChangeIs era now h → ChangeIs era next h
nobody_change era now next reached l r t Fresh n o f k c = tt
nobody_change era now next reached l r t (Asking m v) n o f k c = tt
nobody_change era now next reached l r t (Holding m) n o f k c = tt
nobody_change era now next reached l r t HoldingAsks n o f k c = tt
nobody_change era now next reached l r t Reading n o f k c = tt
nobody_change era now next reached l r t ReadingAsks n o f k c = tt
nobody_change era now next reached l r t (Ended None e) n o f k c = tt
nobody_change era now next reached l r t (Ended (Some v) e) n o f k c = λ p. absurd (which (eqb e era) refl p)
  where
    which : (b : Bool) → eqb e era ≡ b → era ≤ e → ⊥
    which true s p = let same = eqb_true e era s in let x : l era ≡ Some Exclusive = along (λ y. l y ≡ Some Exclusive) same (k.2 p) in absurd (cc)
    which false s p = let above : era < e = grind (arith, nat_tests) in let x : l era ≡ Some Exclusive = f e above (k.2 p) in absurd (cc)
nobody_change era now next reached l r t Gone n o f k c = tt

module _ {now : ℕ} {hist : ℕ → List ℕ} {disk : Copy} {slot : ℕ → Option Copy} {log : ℕ → ℕ → Option Ranges} (i : Stores now hist disk slot log) (n : ℕ) (image : List ℕ) (ranges : Ranges) (fits : put_all ranges (hist now) ≡ image) where
  hist_old : (v : ℕ) → v ≤ now → updn hist (suc now) image v ≡ hist v
  hist_old v p = updn_other hist (suc now) v image (λ e. absurd (omega arith))

  pub copy_old : (c : Copy) → IsCopy now hist c → IsCopy (suc now) (updn hist (suc now) image) c
  copy_old c k = let o = k.old in record { old = omega arith; same = k.same ∙ sym (hist_old c.version o) }

  record_old : (v : ℕ) (r : Ranges) → IsRecord now hist v r → IsRecord (suc now) (updn hist (suc now) image) v r
  record_old v r k = let o = k.old in
      record { old = omega arith; changes = ap (put_all r) (hist_old v (omega arith)) ∙ k.changes ∙ sym (hist_old (suc v) o) }

  record_new : IsRecord (suc now) (updn hist (suc now) image) now ranges
  record_new = record { old = omega arith; changes = ap (put_all ranges) (hist_old now (omega arith)) ∙ fits ∙ sym (updn_same hist (suc now) image) }

  pub log_new : updn log n (updn (log n) (suc now) (Some ranges)) n (suc now) ≡ Some ranges
  log_new = ap (λ f. f (suc now)) (updn_same log n (updn (log n) (suc now) (Some ranges))) ∙ updn_same (log n) (suc now) (Some ranges)

  -- a record of the new logs is the new one or an old one
  log_says : (m v : ℕ) → ((m ≡ n) × (v ≡ suc now) × (updn log n (updn (log n) (suc now) (Some ranges)) m v ≡ Some ranges)) ⊎ (updn log n (updn (log n) (suc now) (Some ranges)) m v ≡ log m v)
  log_says m v =
      by_node (λ k y. k ≡ m → ((m ≡ n) × (v ≡ suc now) × (y v ≡ Some ranges)) ⊎ (y v ≡ log m v)) n m (updn (log n) (suc now) (Some ranges)) (log m)
      (λ e. by_node (λ k y. k ≡ v → ((m ≡ n) × (v ≡ suc now) × (y ≡ Some ranges)) ⊎ (y ≡ log m v)) (suc now) v (Some ranges) (log n v)
      (λ f. inl (sym e, sym f, refl)) (λ f. inr (ap (λ k. log k v) e)) refl)
      (λ e. inr refl) refl

  no_record : (m : ℕ) (r : Ranges) → log m (suc now) ≡ Some r → ⊥
  no_record m r e = let k = i.records m now r e in let o = k.old in absurd (omega arith)

  pub stores_commit : Stores (suc now) (updn hist (suc now) image) disk (updn slot n (Some (record { version = suc now; bytes = image }))) (updn log n (updn (log n) (suc now) (Some ranges)))
  stores_commit =
      record {
        disk_is = copy_old disk i.disk_is;
        slots_are = λ m c e. by_node (λ k y. y ≡ Some c → IsCopy (suc now) (updn hist (suc now) image) c) n m (Some (record { version = suc now; bytes = image })) (slot m)
            (λ p. let q : record { version = suc now; bytes = image } ≡ c = cc in along (IsCopy (suc now) (updn hist (suc now) image)) q (record { old = omega arith; same = sym (updn_same hist (suc now) image) }))
            (λ p. copy_old c (i.slots_are m c p)) e;
        records = λ m v r e. records m v r e (log_says m (suc v));
        once = λ m k v r s e f. once m k v r s e f (log_says m v) (log_says k v);
        reach = λ v p q. reach v p q (eqb v now) refl;
      }
    where
      records : (m v : ℕ) (r : Ranges) → updn log n (updn (log n) (suc now) (Some ranges)) m (suc v) ≡ Some r
          → ((m ≡ n) × (suc v ≡ suc now) × (updn log n (updn (log n) (suc now) (Some ranges)) m (suc v) ≡ Some ranges)) ⊎ (updn log n (updn (log n) (suc now) (Some ranges)) m (suc v) ≡ log m (suc v))
          → IsRecord (suc now) (updn hist (suc now) image) v r
      records m v r e (inl w) =
          let same : v ≡ now = omega (arith, w.1) in
          let rs : ranges ≡ r = let z = sym w.2 ∙ e in cc in
          along (λ x. IsRecord (suc now) (updn hist (suc now) image) v x) rs (back (λ x. IsRecord (suc now) (updn hist (suc now) image) x ranges) same record_new)
      records m v r e (inr w) = record_old v r (i.records m v r (sym w ∙ e))

      once : (m k v : ℕ) (r s : Ranges) → updn log n (updn (log n) (suc now) (Some ranges)) m v ≡ Some r → updn log n (updn (log n) (suc now) (Some ranges)) k v ≡ Some s
          → ((m ≡ n) × (v ≡ suc now) × (updn log n (updn (log n) (suc now) (Some ranges)) m v ≡ Some ranges)) ⊎ (updn log n (updn (log n) (suc now) (Some ranges)) m v ≡ log m v)
          → ((k ≡ n) × (v ≡ suc now) × (updn log n (updn (log n) (suc now) (Some ranges)) k v ≡ Some ranges)) ⊎ (updn log n (updn (log n) (suc now) (Some ranges)) k v ≡ log k v)
          → m ≡ k
      once m k v r s e f (inl w) (inl x) = w.0 ∙ sym x.0
      once m k v r s e f (inl w) (inr x) = absurd (no_record k s (along (λ y. log k y ≡ Some s) w.1 (sym x ∙ f)))
      once m k v r s e f (inr w) (inl x) = absurd (no_record m r (along (λ y. log m y ≡ Some r) x.1 (sym w ∙ e)))
      once m k v r s e f (inr w) (inr x) = i.once m k v r s (sym w ∙ e) (sym x ∙ f)

      reach : (v : ℕ) → disk.version ≤ v → v < suc now → (b : Bool) → eqb v now ≡ b → Logged (updn log n (updn (log n) (suc now) (Some ranges))) (suc v)
      reach v p q true s = let same = eqb_true v now s in
          record { node = n; ranges = ranges; there = back (λ y. updn log n (updn (log n) (suc now) (Some ranges)) n (suc y) ≡ Some ranges) same log_new }
      reach v p q false s =
          let below : v < now = grind (arith, nat_tests) in
          let l = i.reach v p below in
          record { node = l.node; ranges = l.ranges; there = kept l (log_says l.node (suc v)) below }
        where
          kept : (l : Logged log (suc v))
              → ((l.node ≡ n) × (suc v ≡ suc now) × (updn log n (updn (log n) (suc now) (Some ranges)) l.node (suc v) ≡ Some ranges)) ⊎ (updn log n (updn (log n) (suc now) (Some ranges)) l.node (suc v) ≡ log l.node (suc v))
              → v < now → updn log n (updn (log n) (suc now) (Some ranges)) l.node (suc v) ≡ Some l.ranges
          kept l (inl w) x = absurd (omega (arith, w.1))
          kept l (inr w) x = w ∙ l.there

module _ (blank : List ℕ) (a : Page) (i : Inv blank a) (t : TxId) (ranges : Ranges) (h : a.home t ≡ Holding Exclusive) where
  reached_era : a.era ≤ a.reached t.node
  reached_era = along (λ x. InEra (lock_of x) a.era (a.reached t.node)) h (i.locks_hold.in_era t)

  pub writer_listed : (e : ℕ) → a.era ≤ e → e ≤ a.reached t.node → a.listed t e ≡ Some Exclusive
  writer_listed e p q = exclusive_lock (a.listed t) (a.right t.node) t e (a.home t) h (i.locks_hold.locks t e p q)

  pub writer_is : a.listed t a.era ≡ Some Exclusive
  writer_is = writer_listed a.era (omega arith) reached_era

  pub others_none : (u : TxId) → (a.listed u a.era ≡ None) ⊎ (u ≡ t)
  others_none u = i.locks_hold.exclusive t u writer_is

  pub rights_none : (n : ℕ) → a.right n ≡ NoRight
  rights_none n = i.locks_hold.no_rights t n writer_is

  none_else : (u : TxId) → same_tx u t ≡ false → a.listed u a.era ≡ None
  none_else u s = first (others_none u)
    where
      first : (a.listed u a.era ≡ None) ⊎ (u ≡ t) → a.listed u a.era ≡ None
      first (inl n) = n
      first (inr e) = let z : same_tx u t ≡ true = rw (e, same_tx_refl t) refl in absurd (cc)

  pub entry_is : a.served ≡ true → a.entry ≡ a.now
  entry_is s = entry_now i.entry_holds s (λ u x p. other u x p (others_none u))
    where
      other : (u : TxId) → a.listed u a.era ≡ Some Exclusive → IsPast (a.home u) → (a.listed u a.era ≡ None) ⊎ (u ≡ t) → ⊥
      other u x p (inl n) = absurd (cc)
      other u x p (inr e) = along IsPast (ap a.home e ∙ h) p

  new_copy : Option Copy
  new_copy = Some (record { version = suc a.now; bytes = a.image t })

  newer : (m v : ℕ) → SlotHas (a.slot m) v → SlotHas (updn a.slot t.node (Some (record { version = suc a.now; bytes = a.image t })) m) v
  newer m v s = by_node (λ k y. SlotHas (a.slot k) v → SlotHas y v) t.node m (Some (record { version = suc a.now; bytes = a.image t })) (a.slot m)
      (λ x. let o = i.stores_hold.slots_are t.node x.copy x.there in
      record { copy = record { version = suc a.now; bytes = a.image t }; there = refl; enough = omega (arith, o.old, x.enough) })
      (λ x. x) s

  commit_kept : Kept a.served (pick (a.served && eqb t.node a.owner) true a.dirty) a.entry a.disk (updn a.slot t.node (Some (record { version = suc a.now; bytes = a.image t })) a.owner)
  commit_kept =
      record {
        disk_behind = i.kept_holds.disk_behind;
        in_reach = λ s. reach (i.kept_holds.in_reach s);
        dirty_served = by_test (a.served && eqb t.node a.owner) (λ y. y ≡ true → a.served ≡ true) true a.dirty
            (λ b d. (and_true a.served (eqb t.node a.owner) b).0) (λ b d. i.kept_holds.dirty_served d);
        dirty_new = by_test (a.served && eqb t.node a.owner) (λ y. y ≡ true → SlotHas (updn a.slot t.node (Some (record { version = suc a.now; bytes = a.image t })) a.owner) a.disk.version) true a.dirty
            (λ b d. let e = eqb_true t.node a.owner (and_true a.served (eqb t.node a.owner) b).1 in
            let o = i.stores_hold.disk_is in
            record {
              copy = record { version = suc a.now; bytes = a.image t };
              there = along (λ x. updn a.slot t.node (Some (record { version = suc a.now; bytes = a.image t })) x ≡ Some (record { version = suc a.now; bytes = a.image t })) e (updn_same a.slot t.node (Some (record { version = suc a.now; bytes = a.image t })));
              enough = omega (arith, o.old);
            })
            (λ b d. newer a.owner a.disk.version (i.kept_holds.dirty_new d));
      }
    where
      reach : (a.entry ≤ a.disk.version) ⊎ ((a.dirty ≡ true) × SlotHas (a.slot a.owner) a.entry)
          → (a.entry ≤ a.disk.version) ⊎ ((pick (a.served && eqb t.node a.owner) true a.dirty ≡ true) × SlotHas (updn a.slot t.node (Some (record { version = suc a.now; bytes = a.image t })) a.owner) a.entry)
      reach (inl p) = inl p
      reach (inr p) = inr (put_true (a.served && eqb t.node a.owner) a.dirty p.0, newer a.owner a.entry p.1)

  pub keeps_commits : writes (a.script t) ≡ true → put_all ranges (a.hist a.now) ≡ a.image t → Inv blank (committing a t ranges)
  unfolding committing
  keeps_commits w fits =
      record {
        locks_hold = locks_free i.locks_hold t (Ended (Some (suc a.now)) (a.reached t.node)) refl
            (omega arith, λ f p q. i.locks_hold.unlisted t f p q, λ p. writer_listed (a.reached t.node) p (omega arith));
        grants_hold = grants_commit i.grants_hold t (Ended (Some (suc a.now)) (a.reached t.node)) (updn a.slot t.node (Some (record { version = suc a.now; bytes = a.image t })))
            (record { version = suc a.now; bytes = updn a.hist (suc a.now) (a.image t) (suc a.now) }) (λ l. l) (λ f. f) others_none rights_none;
        entry_holds = record {
          version = λ s. inr (record {
            writer = t;
            holds = writer_is;
            is_past = back IsPast (upd_same a.home t (Ended (Some (suc a.now)) (a.reached t.node))) tt;
            by_one = ap suc (entry_is s);
            change = ranges;
            logged = log_new i.stores_hold t.node (a.image t) ranges fits;
          });
          changes = λ u. by_tx_else (λ v k. ChangeIs a.era (suc a.now) k) t u (Ended (Some (suc a.now)) (a.reached t.node)) (a.home u)
              (λ p. refl)
              (λ s. nobody_change a.era a.now (suc a.now) (a.reached u.node) (a.listed u) (a.right u.node) u (a.home u) (none_else u s) (rights_none u.node)
              (λ e p x. i.locks_hold.chain u a.era e Exclusive (omega arith) p x) (i.locks_hold.ends u) (i.entry_holds.changes u));
        };
        stores_hold = stores_commit i.stores_hold t.node (a.image t) ranges fits;
        kept_holds = commit_kept;
        accesses_hold = record {
          slots = λ u. by_tx_else (λ v k. SlotOk (record { version = suc a.now; bytes = updn a.hist (suc a.now) (a.image t) (suc a.now) }) (updn a.slot t.node (Some (record { version = suc a.now; bytes = a.image t })) v.node) k) t u (Ended (Some (suc a.now)) (a.reached t.node)) (a.home u)
              tt
              (λ s. nobody_slot (record { version = suc a.now; bytes = updn a.hist (suc a.now) (a.image t) (suc a.now) }) (a.slot u.node) (updn a.slot t.node (Some (record { version = suc a.now; bytes = a.image t })) u.node)
              (a.listed u a.era) (a.right u.node) a.era (a.reached u.node) u (a.home u) (none_else u s) (rights_none u.node) (i.locks_hold.in_era u) (λ p. i.locks_hold.locks u a.era (omega arith) p)
              (λ v x. newer u.node v x) (current a) (i.accesses_hold.slots u));
          scripts = λ u. by_tx_else (λ v k. ScriptOk (updn a.hist (suc a.now) (a.image t) (suc a.now)) (a.script v) (a.image v) k) t u (Ended (Some (suc a.now)) (a.reached t.node)) (a.home u)
              tt
              (λ s. nobody_script (a.hist a.now) (updn a.hist (suc a.now) (a.image t) (suc a.now)) (a.script u) (a.image u)
              (a.listed u a.era) (a.right u.node) a.era (a.reached u.node) u (a.home u) (none_else u s) (rights_none u.node) (i.locks_hold.in_era u) (λ p. i.locks_hold.locks u a.era (omega arith) p)
              (i.accesses_hold.scripts u));
          serial = accesses_commit i.accesses_hold (a.script t) (record { version = suc a.now; bytes = updn a.hist (suc a.now) (a.image t) (suc a.now) })
              (back (λ x. Leaves (a.script t) (a.hist a.now) x) (updn_same a.hist (suc a.now) (a.image t)) (along (ScriptOk (a.hist a.now) (a.script t) (a.image t)) h (i.accesses_hold.scripts t)))
              (back (λ b. suc a.now ≡ cond b (suc a.now) a.now) w refl);
        };
      }
