-- A home whose buffer changes beside its pins and its private copies keeps what holds of every home.
use Rattle.std.proofs.Common.{◌≡◌, ℕ, ◌≤◌, ◌==◌, ◌||◌, not, Bool, true, false, length, Option, Some, None, is_some, IfSome, refl, ap, sym, subst, ◌∙◌, arith}
use Rattle.std.specs.Option.{option_map}
use Rattle.pcl_base.specs.Limits.{Sizes}
use Rattle.pcl_base.specs.declared.tx.TxId.{TxId}
use Rattle.node_rules.specs.Words.{pick}
use Rattle.node_rules.specs.OpenTxs.{OpenTx, lock_on, waits_on, held_by, pending_of, open_at, pages_of_open, waiting_of_open}
use Rattle.node_rules.specs.BufferRule.{Pool, Slot, Copy, slot_in, slot_at, copy_of_slot, copy_at, private_at, bytes_of_private, pinned, pinned_slot, is_pinned, cleaned, clean, evict, slots_without}
use Rattle.node_rules.specs.NodeState.{HomeState}
use Rattle.node_rules.specs.Work.{HomeWork, with_pool, write_page, write_copy, write_back}
use Rattle.home_laws.specs.Homes.{IsHome, users, uses, pins_of}
use Rattle.home_laws.proofs.Words.{equal}
use Rattle.home_laws.proofs.Opens.{open_serial}
use Rattle.home_laws.proofs.Serials.{one_if, users_left}
use Rattle.home_laws.proofs.Pools.{PoolIs, changed_are, evicted_is}
use Rattle.home_laws.proofs.Publishes.{seen_changed}
use Rattle.home_laws.proofs.SlotLooks.{without_here, without_there}

-- a buffer of a home with the same pins and private copies, and with a copy where a pinned slot had one
pub record Keeps (c : Sizes) (a b : Pool) : Type 0 where
  pub is : PoolIs c b
  pub pins : (p : ℕ) → pins_of (slot_at b p) ≡ pins_of (slot_at a p)
  pub copies : (p : ℕ) → 1 ≤ pins_of (slot_at a p) → is_some (copy_at a p) ≡ true → is_some (copy_at b p) ≡ true
  pub privates : (t : TxId) (p : ℕ) → private_at b t p ≡ private_at a t p

-- who holds a page or waits for it is one of its users
pub held_used : (h : HomeState) (t : TxId) (p : ℕ) → IsHome h → (is_some (held_by h.txs t p) || waits_on (pending_of h.txs t) p) ≡ true → 1 ≤ users h.txs p
unfolding lock_on
held_used h t p is used = by_open (open_at h.txs t) refl
  where
    by_open : (o : Option OpenTx) → open_at h.txs t ≡ o → 1 ≤ users h.txs p
    by_open None e =
        let bad : true ≡ false = sym used ∙ ap (λ o. is_some (lock_on (pages_of_open o) p) || waits_on (waiting_of_open o) p) e in absurd (cc)
    by_open (Some x) e =
        let uses_it : uses p x ≡ true = sym (ap (λ o. is_some (lock_on (pages_of_open o) p) || waits_on (waiting_of_open o) p) e) ∙ used in
        let one : one_if (uses p x) ≡ 1 = ap one_if uses_it in
        let count = users_left 0 h.txs.last t.serial p x h.txs.txs is.txs.serials (open_serial h.txs t x e) in
        omega (arith, one, count)

-- so its slot has a pin
pub held_pinned : (h : HomeState) (t : TxId) (p : ℕ) → IsHome h → is_some (held_by h.txs t p) ≡ true → 1 ≤ pins_of (slot_at h.pool p)
held_pinned h t p is some =
    let used = held_used h t p is (ap (λ b. b || waits_on (pending_of h.txs t) p) some) in
    let pins = is.pins p in
    omega (arith, used, pins)

pub kept_is_home : (h : HomeState) (b : Pool) → IsHome h → Keeps h.config h.pool b → IsHome (with_pool h b)
kept_is_home h b is k =
    record {
      buffer = k.is.buffer;
      sizes = (k.is.frames, k.is.size);
      txs = is.txs;
      pins = λ p. k.pins p ∙ is.pins p;
      kept = k.is.kept;
      below = k.is.below;
      held = λ t p some. let old = is.held t p some in (old.0, k.copies p (held_pinned h t p is some) old.1);
      waits = is.waits;
      needed = is.needed;
      privates = λ t p. ap is_some (k.privates t p) ∙ is.privates t p;
      filled = λ t p. ap (λ o. is_some (bytes_of_private o)) (k.privates t p) ∙ is.filled t p;
      runs = is.runs;
      readers = is.readers;
      reading = is.reading;
    }

pub keeps_same : (c : Sizes) (b : Pool) → PoolIs c b → Keeps c b b
keeps_same c b is = record { is = is; pins = λ p. refl; copies = λ p pinned some. some; privates = λ t p. refl }

pub keeps_then : (c : Sizes) (a b d : Pool) → Keeps c a b → Keeps c b d → Keeps c a d
keeps_then c a b d k l =
    record {
      is = l.is;
      pins = λ p. l.pins p ∙ k.pins p;
      copies = λ p pinned some. let same = k.pins p in l.copies p (omega (arith, pinned, same)) (k.copies p pinned some);
      privates = λ t p. l.privates t p ∙ k.privates t p;
    }

-- a copy that becomes clean
abbrev pub with_clean : Slot → Slot
with_clean s = record s { copy = cleaned s.copy }

pub some_cleaned : (c : Option Copy) → is_some (cleaned c) ≡ is_some c
some_cleaned None = refl
some_cleaned (Some c) = refl

pub sized_cleaned : (size : ℕ) (c : Option Copy) → IfSome c (λ x. length x.bytes ≡ size) → IfSome (cleaned c) (λ x. length x.bytes ≡ size)
sized_cleaned size None s = tt
sized_cleaned size (Some c) s = s

pub clean_pins : (o : Option Slot) → pins_of (option_map with_clean o) ≡ pins_of o
clean_pins None = refl
clean_pins (Some s) = refl

pub clean_copy : (o : Option Slot) → is_some (copy_of_slot (option_map with_clean o)) ≡ is_some (copy_of_slot o)
clean_copy None = refl
clean_copy (Some s) = some_cleaned s.copy

pub keeps_clean : (c : Sizes) (b : Pool) (p : ℕ) → PoolIs c b → Keeps c b (clean b p)
unfolding clean
keeps_clean c b p is =
    record {
      is = changed_are c b with_clean p (λ s. refl) (λ s h. sized_cleaned b.size s.copy h) (λ s k. ap (λ d. d || is_pinned s) (some_cleaned s.copy) ∙ k) is;
      pins = λ q. seen_changed pins_of with_clean (λ s. refl) clean_pins b.slots p q;
      copies = λ q pinned some. seen_changed (λ o. is_some (copy_of_slot o)) with_clean (λ s. refl) clean_copy b.slots p q ∙ some;
      privates = λ t q. refl;
    }

-- a slot without a pin that leaves
no_pins : (o : Option Slot) → pinned_slot o ≡ false → pins_of o ≡ 0
no_pins None e = refl
no_pins (Some s) e = by_test (s.pins == 0) refl e
  where
    by_test : (b : Bool) → (s.pins == 0) ≡ b → not b ≡ false → s.pins ≡ 0
    by_test true z n = equal s.pins 0 z
    by_test false z n = absurd (cc)

pub keeps_evict : (c : Sizes) (b : Pool) (p : ℕ) → PoolIs c b → pinned b p ≡ false → Keeps c b (evict b p)
unfolding evict
keeps_evict c b p is free =
    record { is = evicted_is c b p is; pins = λ q. pins_now q (p == q) refl; copies = λ q pinned some. copy_now q pinned some (p == q) refl; privates = λ t q. refl }
  where
    zero : pins_of (slot_at b p) ≡ 0
    zero = no_pins (slot_at b p) free

    pins_now : (q : ℕ) (d : Bool) → (p == q) ≡ d → pins_of (slot_in (slots_without b.slots p) q) ≡ pins_of (slot_at b q)
    pins_now q true e =
        let here : pins_of (slot_in (slots_without b.slots p) p) ≡ pins_of (slot_at b p) = ap pins_of (without_here b.slots p) ∙ sym zero in
        subst (λ n. pins_of (slot_in (slots_without b.slots p) n) ≡ pins_of (slot_at b n)) (equal p q e) here
    pins_now q false e = ap pins_of (without_there b.slots p q e)

    copy_now : (q : ℕ) → 1 ≤ pins_of (slot_at b q) → is_some (copy_at b q) ≡ true → (d : Bool) → (p == q) ≡ d → is_some (copy_of_slot (slot_in (slots_without b.slots p) q)) ≡ true
    copy_now q pinned some true e =
        let none : pins_of (slot_at b q) ≡ 0 = subst (λ n. pins_of (slot_at b n) ≡ 0) (equal p q e) zero in absurd (omega (arith, none, pinned))
    copy_now q pinned some false e = ap (λ o. is_some (copy_of_slot o)) (without_there b.slots p q e) ∙ some

-- the buffer once a copy was written, where it was dirty
abbrev pub written_if : Option Copy → Pool → ℕ → Pool
written_if None b p = b
written_if (Some c) b p = pick c.dirty (clean b p) b

pub home_written : (p : ℕ) (w : HomeWork) → (write_back p w).home ≡ with_pool w.home (written_if (copy_at w.home.pool p) w.home.pool p)
unfolding write_back
home_written p w = by_copy (copy_at w.home.pool p)
  where
    by_dirty : (c : Copy) (d : Bool) → (pick d (record (write_page p (record { version = c.version; bytes = c.bytes }) w) { home = with_pool w.home (clean w.home.pool p) }) w).home ≡ with_pool w.home (pick d (clean w.home.pool p) w.home.pool)
    by_dirty c true = refl
    by_dirty c false = refl

    by_copy : (o : Option Copy) → (write_copy p o w).home ≡ with_pool w.home (written_if o w.home.pool p)
    by_copy None = refl
    by_copy (Some c) = by_dirty c c.dirty

pub keeps_written : (c : Sizes) (b : Pool) (p : ℕ) → PoolIs c b → Keeps c b (written_if (copy_at b p) b p)
keeps_written c b p is = by_copy (copy_at b p)
  where
    by_dirty : (d : Bool) → Keeps c b (pick d (clean b p) b)
    by_dirty true = keeps_clean c b p is
    by_dirty false = keeps_same c b is

    by_copy : (o : Option Copy) → Keeps c b (written_if o b p)
    by_copy None = keeps_same c b is
    by_copy (Some x) = by_dirty x.dirty
