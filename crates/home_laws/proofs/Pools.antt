-- What holds of the buffer of a home, under the changes of slots and of private copies.
use Rattle.std.proofs.Common.{◌≡◌, ℕ, ◌-◌, ◌<◌, ◌≤◌, ◌==◌, not, Bool, true, List, length, IfSome, refl, sym, subst, arith}
use Rattle.std.proofs.lemmas.List.Elements.{All-filter, filter_passes}
use Rattle.std.specs.List.{filter, All}
use Rattle.pcl_base.specs.Limits.{Sizes}
use Rattle.pcl_base.specs.declared.tx.TxId.{TxId}
use Rattle.node_rules.specs.Words.{same_tx}
use Rattle.node_rules.specs.BufferRule.{Pool, Slot, Copy, PrivateCopy, is_kept, is_private, change_slot, free_places, unpin, evict, discard}
use Rattle.node_rules.specs.EndRule.{discard_all}
use Rattle.node_rules.specs.NodeState.{HomeState}
use Rattle.buffer_pool.specs.Buffer.{IsBuffer}
use Rattle.home_laws.specs.Homes.{IsHome}
use Rattle.home_laws.proofs.Slots.{KeepsPage, is_of, fewer, fewer_all, length_changed, count_changed, all_changed}

-- a copy has the size of a page
abbrev pub IsSized : ℕ → Slot → Type 0
IsSized size s = IfSome s.copy (λ (c : Copy). length c.bytes ≡ size)

-- what holds of the buffer of a home by itself
pub record PoolIs (c : Sizes) (b : Pool) : Type 0 where
  pub buffer : IsBuffer b
  pub frames : b.frames ≡ c.frames
  pub size : b.size ≡ c.size
  pub kept : All (λ s. is_kept s ≡ true) b.slots
  pub below : All (λ s. s.page < c.pages) b.slots

pub pool_of_home : (h : HomeState) → IsHome h → PoolIs h.config h.pool
pool_of_home h is = record { buffer = is.buffer; frames = is.sizes.0; size = is.sizes.1; kept = is.kept; below = is.below }

-- other slots, no more than before
pub slots_are : (c : Sizes) (b : Pool) (ss : List Slot) → PoolIs c b → length ss ≤ length b.slots → ((p : ℕ) → length (filter (is_of p) ss) ≤ length (filter (is_of p) b.slots))
    → All (IsSized b.size) ss → All (λ s. is_kept s ≡ true) ss → All (λ s. s.page < c.pages) ss → PoolIs c (record b { slots = ss })
slots_are c b ss is few once sized kept below =
    let within = is.buffer.within in
    record {
      buffer =
          record {
            frames = is.buffer.frames;
            within = omega (arith, few, within);
            copies = sized;
            images = is.buffer.images;
            one_slot = λ p. omega (arith, once p, is.buffer.one_slot p);
            one_private = is.buffer.one_private;
          };
      frames = is.frames;
      size = is.size;
      kept = kept;
      below = below;
    }

-- one slot is another
pub changed_are : (c : Sizes) (b : Pool) (f : Slot → Slot) (p : ℕ) → KeepsPage f → ((s : Slot) → IsSized b.size s → IsSized b.size (f s)) → ((s : Slot) → is_kept s ≡ true → is_kept (f s) ≡ true) → PoolIs c b
    → PoolIs c (record b { slots = change_slot f b.slots p })
changed_are c b f p keeps sized kept is =
    let long = length_changed f b.slots p in
    slots_are c b (change_slot f b.slots p) is (omega (arith, long)) (λ q. omega (arith, count_changed f keeps b.slots p q))
    (all_changed f (IsSized b.size) sized b.slots p is.buffer.copies)
    (all_changed f (λ s. is_kept s ≡ true) kept b.slots p is.kept)
    (all_changed f (λ s. s.page < c.pages) (λ s l. subst (λ n. n < c.pages) (sym (keeps s)) l) b.slots p is.below)

-- some slots leave
pub left_are : (c : Sizes) (b : Pool) (test : Slot → Bool) → PoolIs c b → PoolIs c (record b { slots = filter test b.slots })
left_are c b test is =
    slots_are c b (filter test b.slots) is (fewer_all test b.slots) (λ q. fewer (is_of q) test b.slots)
    (All-filter test (IsSized b.size) b.slots is.buffer.copies)
    (All-filter test (λ s. is_kept s ≡ true) b.slots is.kept)
    (All-filter test (λ s. s.page < c.pages) b.slots is.below)

pub evicted_is : (c : Sizes) (b : Pool) (p : ℕ) → PoolIs c b → PoolIs c (evict b p)
unfolding evict
evicted_is c b p is = left_are c b (λ s. not (s.page == p)) is

-- a slot has one pin less, and leaves where it is kept no more
pub unpinned_is : (c : Sizes) (b : Pool) (p : ℕ) → PoolIs c b → PoolIs c (unpin b p)
unfolding unpin
unpinned_is c b p is =
    let f = λ (s : Slot). let x : Slot = record s { pins = s.pins - 1 } in x in
    let ss : List Slot = change_slot f b.slots p in
    let long = length_changed f b.slots p in
    let fewer_slots = fewer_all is_kept ss in
    slots_are c b (free_places ss) is (omega (arith, long, fewer_slots))
    (λ q. omega (arith, fewer (is_of q) is_kept ss, count_changed f (λ s. refl) b.slots p q))
    (All-filter is_kept (IsSized b.size) ss (all_changed f (IsSized b.size) (λ s z. z) b.slots p is.buffer.copies))
    (filter_passes is_kept ss)
    (All-filter is_kept (λ s. s.page < c.pages) ss (all_changed f (λ s. s.page < c.pages) (λ s l. l) b.slots p is.below))

-- some private copies are given up
pub privates_are : (c : Sizes) (b : Pool) (test : PrivateCopy → Bool) → PoolIs c b → PoolIs c (record b { privates = filter test b.privates })
privates_are c b test is =
    let within = is.buffer.within in
    let few = fewer_all test b.privates in
    record {
      buffer =
          record {
            frames = is.buffer.frames;
            within = omega (arith, few, within);
            copies = is.buffer.copies;
            images = All-filter test (λ x. IfSome x.bytes (λ bytes. length bytes ≡ b.size)) b.privates is.buffer.images;
            one_slot = is.buffer.one_slot;
            one_private = λ t p. omega (arith, fewer (is_private t p) test b.privates, is.buffer.one_private t p);
          };
      frames = is.frames;
      size = is.size;
      kept = is.kept;
      below = is.below;
    }

pub discarded_is : (c : Sizes) (b : Pool) (t : TxId) (p : ℕ) → PoolIs c b → PoolIs c (discard b t p)
unfolding discard
discarded_is c b t p is = privates_are c b (λ x. not (is_private t p x)) is

pub all_discarded_is : (c : Sizes) (b : Pool) (t : TxId) → PoolIs c b → PoolIs c (discard_all b t)
all_discarded_is c b t is = privates_are c b (λ x. not (same_tx x.tx t)) is
