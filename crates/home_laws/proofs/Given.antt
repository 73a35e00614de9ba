-- A partition that a node gives up, and a node's birth, leave a sound home.
use Rattle.std.proofs.Common.{◌≡◌, ℕ, ◌<◌, ◌==◌, ◌||◌, Bool, true, false, List, [], ◌∷◌, length, Option, Some, None, is_some, refl, ap, sym, ◌∙◌, arith}
use Rattle.std.proofs.lemmas.List.Elements.{All-map, All-weaker}
use Rattle.std.specs.List.{filter, All}
use Rattle.std.specs.Option.{option_map}
use Rattle.pcl_base.specs.Limits.{Sizes}
use Rattle.pcl_base.specs.declared.tx.TxId.{TxId}
use Rattle.pcl_base.specs.declared.lock.Kind.TheVariants as kind
use Rattle.node_rules.specs.Words.{pick}
use Rattle.node_rules.specs.OpenTxs.{OpenTx, OpenTxs, with_serial, lock_on, mode_held, pages_of_open, waiting_of_open, open_at, is_own}
use Rattle.node_rules.specs.BufferRule.{Pool, Slot, slot_in, copy_of_slot, is_kept, is_pinned}
use Rattle.node_rules.specs.NodeState.{HomeState, partition}
use Rattle.node_rules.specs.InstallRule.{clean_slots}
use Rattle.home_laws.specs.Homes.{IsHome, AreOpen, pins_of, is_right_lock}
use Rattle.home_laws.specs.EndLaws.{given_up, GiveUpIsSound, BornAtIsSound}
use Rattle.home_laws.proofs.Serials.{one_if}
use Rattle.home_laws.proofs.Slots.{is_of, length_if}
use Rattle.home_laws.proofs.Pools.{PoolIs, IsSized, pool_of_home, slots_are}
use Rattle.home_laws.proofs.Kept.{Keeps, with_clean, some_cleaned, sized_cleaned, clean_pins, clean_copy, kept_is_home}
use Rattle.home_laws.proofs.Transactions.{HoldSame, held_same}
use Rattle.home_laws.proofs.Partitions.{txs_kinds, same_kinds, right_before}

-- a slot that becomes clean where its page is one of the partition
abbrev clean_if : Bool → Slot → Slot
clean_if b s = pick b (with_clean s) s

page_clean : (b : Bool) (s : Slot) → (clean_if b s).page ≡ s.page
page_clean true s = refl
page_clean false s = refl

-- what is seen of slots, where their becoming clean leaves it
seen_case : {X : Type 0} (see : Option Slot → X) → ((o : Option Slot) → see (option_map with_clean o) ≡ see o) → (d : Bool) (s : Slot) (b c : Bool) → b ≡ c → (o r : Option Slot) → see o ≡ see r
    → see (pick b (Some (clean_if d s)) o) ≡ see (pick c (Some s) r)
seen_case see same d s b true e o r rest = ap (λ t. see (pick t (Some (clean_if d s)) o)) e ∙ one d
  where
    one : (x : Bool) → see (Some (clean_if x s)) ≡ see (Some s)
    one true = same (Some s)
    one false = refl
seen_case see same d s b false e o r rest = ap (λ t. see (pick t (Some (clean_if d s)) o)) e ∙ rest

seen_clean : {X : Type 0} (see : Option Slot → X) → ((o : Option Slot) → see (option_map with_clean o) ≡ see o) → (c : Sizes) (q p : ℕ) (ss : List Slot) → see (slot_in (clean_slots c q ss) p) ≡ see (slot_in ss p)
unfolding slot_in
seen_clean see same c q p [] = refl
seen_clean see same c q p (s ∷ ss) =
    seen_case see same (partition c s.page == q) s ((clean_if (partition c s.page == q) s).page == p) (s.page == p) (ap (λ n. n == p) (page_clean (partition c s.page == q) s))
    (slot_in (clean_slots c q ss) p) (slot_in ss p) (seen_clean see same c q p ss)

length_clean : (c : Sizes) (q : ℕ) (ss : List Slot) → length (clean_slots c q ss) ≡ length ss
length_clean c q [] = refl
length_clean c q (s ∷ ss) = let rest = length_clean c q ss in omega (arith, rest)

count_clean : (c : Sizes) (q p : ℕ) (ss : List Slot) → length (filter (is_of p) (clean_slots c q ss)) ≡ length (filter (is_of p) ss)
count_clean c q p [] = refl
count_clean c q p (s ∷ ss) =
    let l = length_if ((clean_if (partition c s.page == q) s).page == p) (clean_if (partition c s.page == q) s) (filter (is_of p) (clean_slots c q ss)) in
    let r = length_if (s.page == p) s (filter (is_of p) ss) in
    let test : one_if ((clean_if (partition c s.page == q) s).page == p) ≡ one_if (s.page == p) = ap (λ n. one_if (n == p)) (page_clean (partition c s.page == q) s) in
    let rest = count_clean c q p ss in
    omega (arith, l, r, test, rest)

all_clean : (c : Sizes) (q : ℕ) (P : Slot → Type 0) (ss : List Slot) → ((s : Slot) → P s → P (with_clean s)) → All P ss → All P (clean_slots c q ss)
all_clean c q P ss keeps a = All-map P (λ s. clean_if (partition c s.page == q) s) ss (All-weaker P (λ s. P (clean_if (partition c s.page == q) s)) (λ s h. one s (partition c s.page == q) h) ss a)
  where
    one : (s : Slot) (b : Bool) → P s → P (clean_if b s)
    one s true h = keeps s h
    one s false h = h

keeps_clean_slots : (c : Sizes) (q : ℕ) (b : Pool) → PoolIs c b → Keeps c b (record b { slots = clean_slots c q b.slots })
keeps_clean_slots c q b is =
    let long = length_clean c q b.slots in
    record {
      is =
          slots_are c b (clean_slots c q b.slots) is (omega (arith, long)) (λ p. omega (arith, count_clean c q p b.slots))
          (all_clean c q (IsSized b.size) b.slots (λ s h. sized_cleaned b.size s.copy h) is.buffer.copies)
          (all_clean c q (λ s. is_kept s ≡ true) b.slots (λ s k. ap (λ d. d || is_pinned s) (some_cleaned s.copy) ∙ k) is.kept)
          (all_clean c q (λ s. s.page < c.pages) b.slots (λ s l. l) is.below);
      pins = λ p. seen_clean pins_of clean_pins c q p b.slots;
      copies = λ p pinned some. seen_clean (λ o. is_some (copy_of_slot o)) clean_copy c q p b.slots ∙ some;
      privates = λ t p. refl;
    }

pub given_up_is_sound : (q : ℕ) (h : HomeState) → IsHome h → IsHome (given_up q h)
given_up_is_sound q h is =
    let locks : IsHome (record h { txs = txs_kinds h.config q kind.Registered h.txs; shelf = h.shelf }) =
    held_same h (txs_kinds h.config q kind.Registered h.txs) h.shelf is (same_kinds h.config q kind.Registered h.txs is.txs) is.readers
    (λ t p right. let before = right_before h.config q kind.Registered h.txs t p refl right in is.reading t p before.1) in
    kept_is_home (record h { txs = txs_kinds h.config q kind.Registered h.txs; shelf = h.shelf }) (record (h.pool) { slots = clean_slots h.config q h.pool.slots }) locks
    (keeps_clean_slots h.config q h.pool (pool_of_home h is))

pub give_up_is_sound_law : GiveUpIsSound
give_up_is_sound_law q n is = (refl, given_up_is_sound q n.home is)

-- a node that is born while no transaction is open
none_at : (s : OpenTxs) (t : TxId) → length s.txs ≡ 0 → open_at s t ≡ None
unfolding with_serial
none_at s t zero = by_own (is_own s t) s.txs zero
  where
    by_own : (b : Bool) (xs : List OpenTx) → length xs ≡ 0 → pick b (with_serial xs t.serial) None ≡ None
    by_own true [] zero = refl
    by_own true (x ∷ xs) zero = absurd (omega (arith, zero))
    by_own false xs zero = refl

abbrev pub born : ℕ → OpenTxs → OpenTxs
born e s = record s { born = e }

same_open : (e : ℕ) (s : OpenTxs) (t : TxId) → length s.txs ≡ 0 → open_at (born e s) t ≡ open_at s t
same_open e s t zero = none_at (born e s) t zero ∙ sym (none_at s t zero)

born_same : (c : Sizes) (e : ℕ) (s : OpenTxs) → AreOpen c s → length s.txs ≡ 0 → HoldSame c s (born e s)
born_same c e s is zero =
    record {
      are = record { node = is.node; few = is.few; serials = is.serials; once = is.once; born = λ some. absurd (omega (arith, some, zero)) };
      users = λ p. refl;
      modes = λ t p. ap (λ o. mode_held (lock_on (pages_of_open o) p)) (same_open e s t zero);
      waits = λ t. ap waiting_of_open (same_open e s t zero);
    }

pub born_is_sound : (e : ℕ) (h : HomeState) → IsHome h → length h.txs.txs ≡ 0 → IsHome (record h { txs = born e h.txs })
born_is_sound e h is zero =
    held_same h (born e h.txs) h.shelf is (born_same h.config e h.txs is.txs zero) is.readers
    (λ t p right. is.reading t p (ap (λ o. is_right_lock (lock_on (pages_of_open o) p)) (sym (same_open e h.txs t zero)) ∙ right))

pub born_at_is_sound_law : BornAtIsSound
born_at_is_sound_law e n is zero = born_is_sound e n.home is zero
