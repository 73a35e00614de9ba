-- Changes of peers, and partitions that come and go.
use Rattle.std.proofs.Common.{◌≡◌, ℕ, ◌==◌, Bool, true, false, List, [], ◌∷◌, map, Option, Some, None, is_some, refl, sym, ap, subst, ◌∙◌}
use Rattle.std.specs.Prelude.{option_map}
use Rattle.pcl_base.specs.Limits.{Sizes}
use Rattle.pcl_base.specs.declared.tx.TxId.{TxId}
use Rattle.pcl_base.specs.declared.lock.Held.{Held}
use Rattle.pcl_base.specs.declared.lock.Kind.{Kind}
use Rattle.pcl_base.specs.declared.lock.Kind.TheVariants as kind
use Rattle.pcl_base.specs.declared.message.Change.{Change}
use Rattle.node_rules.specs.Words.{pick}
use Rattle.node_rules.specs.OpenTxs.{OpenTx, OpenTxs, open_at, is_open, is_own, with_serial, held_by, pending_of, waiting_of_open}
use Rattle.node_rules.specs.BufferRule.{Pool, Slot, Copy, slot_in, slot_at, copy_at, copy_of_slot, has_slot, free_frames, cleaned, install, place, private_in, bytes_of_private}
use Rattle.node_rules.specs.NodeState.{HomeState, partition, runs_at}
use Rattle.node_rules.specs.Work.{HomeWork, write_page}
use Rattle.node_rules.specs.AccessRule.{on_pool, make_room}
use Rattle.node_rules.specs.OwnerRule.{dirty_copy, into_slot, has_room}
use Rattle.node_rules.specs.InstallRule.{clean_slots, take_over, give_up}
use Rattle.home_laws.proofs.Tests.{number_same, number_equal, none_there}
use Rattle.home_laws.proofs.Partitions.{txs_kinds, tx_kinds, held_kinds, right_spent}
use Rattle.home_laws.proofs.SlotLooks.{changed_here, changed_there}
use Rattle.page_laws.specs.Look.Parts.{SameBesideCopies}
use Rattle.page_laws.specs.Look.Buffers.{IsAlike, LetsGo, all}
use Rattle.page_laws.specs.Look.Grants.{of_kind}
use Rattle.page_laws.specs.Look.Ends.{HasChange, kept, stored, ChangeIsSeen, HasKinds, TakingOverIsSeen, GivingUpIsSeen}
use Rattle.page_laws.proofs.LookParts.Alike.{beside_pool, beside_then, alike_self}
use Rattle.page_laws.proofs.LookParts.Copies.{room_is_seen, lets_copy}

-- locks of a partition
kind_if : (b : Bool) (k : Kind) (o : Option Held) → option_map (λ (l : Held). pick b (record l { kind = k }) l) o ≡ pick b (option_map (of_kind k) o) o
kind_if true k None = refl
kind_if true k (Some l) = refl
kind_if false k None = refl
kind_if false k (Some l) = refl

open_in : (f : OpenTx → OpenTx) → ((x : OpenTx) → (f x).serial ≡ x.serial) → (xs : List OpenTx) (n : ℕ) → with_serial (map f xs) n ≡ option_map f (with_serial xs n)
unfolding with_serial
open_in f keeps [] n = refl
open_in f keeps (x ∷ xs) n = ap (λ m. pick (m == n) (Some (f x)) (with_serial (map f xs) n)) (keeps x) ∙ (ap (λ o. pick (x.serial == n) (Some (f x)) o) (open_in f keeps xs n) ∙ by (x.serial == n) (with_serial xs n))
  where
    by : (b : Bool) (o : Option OpenTx) → pick b (Some (f x)) (option_map f o) ≡ option_map f (pick b (Some x) o)
    by true o = refl
    by false o = refl

open_turned : (c : Sizes) (q : ℕ) (k : Kind) (s : OpenTxs) (t : TxId) → open_at (txs_kinds c q k s) t ≡ option_map (tx_kinds c q k) (open_at s t)
open_turned c q k s t = by (is_own s t)
  where
    by : (b : Bool) → pick b (with_serial (map (tx_kinds c q k) s.txs) t.serial) None ≡ option_map (tx_kinds c q k) (pick b (with_serial s.txs t.serial) None)
    by true = open_in (tx_kinds c q k) (λ x. refl) s.txs t.serial
    by false = refl

there_turned : (c : Sizes) (q : ℕ) (k : Kind) (o : Option OpenTx) → is_some (option_map (tx_kinds c q k) o) ≡ is_some o
there_turned c q k None = refl
there_turned c q k (Some x) = refl

waits_turned : (c : Sizes) (q : ℕ) (k : Kind) (o : Option OpenTx) → waiting_of_open (option_map (tx_kinds c q k) o) ≡ waiting_of_open o
waits_turned c q k None = refl
waits_turned c q k (Some x) = refl

turned_kinds : (q : ℕ) (k : Kind) (h g : HomeState) → g.config ≡ h.config → g.txs ≡ txs_kinds h.config q k h.txs → g.pool.privates ≡ h.pool.privates → g.written ≡ h.written → HasKinds q k h g
turned_kinds q k h g config txs privates written =
    record {
      life =
          record {
            config = config;
            node = ap (λ (s : OpenTxs). s.node) txs;
            born = ap (λ (s : OpenTxs). s.born) txs;
            last = ap (λ (s : OpenTxs). s.last) txs;
            alive = λ u. ap (λ (s : OpenTxs). is_open s u) txs ∙ (ap is_some (open_turned h.config q k h.txs u) ∙ there_turned h.config q k (open_at h.txs u));
          };
      held = λ u p. ap (λ (s : OpenTxs). held_by s u p) txs ∙ (held_kinds h.config q k h.txs u p ∙ kind_if (partition h.config p == q) k (held_by h.txs u p));
      waits = λ u. ap (λ (s : OpenTxs). pending_of s u) txs ∙ (ap waiting_of_open (open_turned h.config q k h.txs u) ∙ waits_turned h.config q k (open_at h.txs u));
      privates = record { bytes = λ u p. ap (λ xs. bytes_of_private (private_in xs u p)) privates; runs = λ u p. ap (λ ws. runs_at ws u p) written };
    }

pub taking_over_is_seen_law : TakingOverIsSeen
taking_over_is_seen_law q h =
    record {
      locks = turned_kinds q kind.Own h (take_over q h) refl refl refl refl;
      rights = λ p. right_spent h.config q p h.shelf;
      copies = λ p. refl;
    }

-- copies of a partition
clean_copies : (c : Sizes) (q p : ℕ) (ss : List Slot) → copy_of_slot (slot_in (clean_slots c q ss) p) ≡ pick (partition c p == q) (cleaned (copy_of_slot (slot_in ss p))) (copy_of_slot (slot_in ss p))
unfolding slot_in
clean_copies c q p [] = by (partition c p == q)
  where
    nothing : Option Copy
    nothing = None

    by : (b : Bool) → nothing ≡ pick b (cleaned nothing) nothing
    by true = refl
    by false = refl
clean_copies c q p (s ∷ ss) = by (partition c s.page == q) refl (s.page == p) refl (clean_copies c q p ss)
  where
    rest : Option Slot
    rest = slot_in (clean_slots c q ss) p

    by : (d : Bool) → (partition c s.page == q) ≡ d → (b : Bool) → (s.page == p) ≡ b
        → copy_of_slot (slot_in (clean_slots c q ss) p) ≡ pick (partition c p == q) (cleaned (copy_of_slot (slot_in ss p))) (copy_of_slot (slot_in ss p))
        → copy_of_slot (pick ((pick d (record s { copy = cleaned s.copy }) s).page == p) (Some (pick d (record s { copy = cleaned s.copy }) s)) (slot_in (clean_slots c q ss) p))
        ≡ pick (partition c p == q) (cleaned (copy_of_slot (pick b (Some s) (slot_in ss p)))) (copy_of_slot (pick b (Some s) (slot_in ss p)))
    by true f true e r =
        let same : (partition c p == q) ≡ true = ap (λ n. partition c n == q) (sym (number_equal s.page p e)) ∙ f in
        ap (λ b. copy_of_slot (pick b (Some (record s { copy = cleaned s.copy })) (slot_in (clean_slots c q ss) p))) e ∙ sym (ap (λ b. pick b (cleaned s.copy) s.copy) same)
    by false f true e r =
        let other : (partition c p == q) ≡ false = ap (λ n. partition c n == q) (sym (number_equal s.page p e)) ∙ f in
        ap (λ b. copy_of_slot (pick b (Some s) (slot_in (clean_slots c q ss) p))) e ∙ sym (ap (λ b. pick b (cleaned s.copy) s.copy) other)
    by true f false e r = ap (λ b. copy_of_slot (pick b (Some (record s { copy = cleaned s.copy })) (slot_in (clean_slots c q ss) p))) e ∙ r
    by false f false e r = ap (λ b. copy_of_slot (pick b (Some s) (slot_in (clean_slots c q ss) p))) e ∙ r

pub giving_up_is_seen_law : GivingUpIsSeen
giving_up_is_seen_law q n =
    record {
      locks = turned_kinds q kind.Registered n.home (give_up q n).home refl refl refl refl;
      rights = λ p. refl;
      copies = λ p. clean_copies n.home.config q p n.home.pool.slots;
    }

-- a change of a peer goes into a slot
slotted : (p : ℕ) (c : Change) (w m x : HomeWork) → LetsGo p w m → IsAlike m x → has_slot x.home.pool p ≡ true → HasChange p c w (into_slot p c x)
unfolding install
slotted p c w m x lets alike there =
    kept m lets beside (λ q. by q (p == q) refl) alike.pages
  where
    put : Pool
    put = install x.home.pool p (dirty_copy c)

    beside : SameBesideCopies m.home (into_slot p c x).home
    beside = beside_then m.home x.home (into_slot p c x).home alike.rest (beside_pool x.home (install x.home.pool p (dirty_copy c)) (λ u q. refl))

    mapped : (o : Option Slot) → is_some o ≡ true → copy_of_slot (option_map (λ (s : Slot). record s { copy = Some (dirty_copy c) }) o) ≡ Some (dirty_copy c)
    mapped None e = absurd (cc)
    mapped (Some s) e = refl

    by : (q : ℕ) (b : Bool) → (p == q) ≡ b → copy_at (install x.home.pool p (dirty_copy c)) q ≡ pick b (Some (dirty_copy c)) (copy_at m.home.pool q)
    by q true e =
        subst (λ n. copy_at (install x.home.pool p (dirty_copy c)) n ≡ Some (dirty_copy c)) (number_equal p q e)
        (ap copy_of_slot (changed_here (λ (s : Slot). record s { copy = Some (dirty_copy c) }) (λ s. refl) x.home.pool.slots p) ∙ mapped (slot_at x.home.pool p) there)
    by q false e = ap copy_of_slot (changed_there (λ (s : Slot). record s { copy = Some (dirty_copy c) }) (λ s. refl) x.home.pool.slots p q e) ∙ alike.copies q

-- a new place for it
placed_there : (p : ℕ) (x : HomeWork) → has_slot (place x.home.pool p) p ≡ true
unfolding place slot_in
placed_there p x = ap (λ b. is_some (pick b (Some (record { page = p; copy = None; pins = 0 })) (slot_in x.home.pool.slots p))) (number_same p)

placed_alike : (p : ℕ) (x : HomeWork) → copy_at x.home.pool p ≡ None → IsAlike x (on_pool (λ b. place b p) x)
unfolding place slot_in
placed_alike p x none = record { rest = beside_pool x.home (place x.home.pool p) (λ u q. refl); copies = λ q. of q (p == q) refl; pages = refl }
  where
    of : (q : ℕ) (b : Bool) → (p == q) ≡ b → copy_of_slot (pick b (Some (record { page = p; copy = None; pins = 0 })) (slot_in x.home.pool.slots q)) ≡ copy_at x.home.pool q
    of q true e = sym (subst (λ n. copy_at x.home.pool n ≡ None) (number_equal p q e) none)
    of q false e = refl

pub change_is_seen_law : ChangeIsSeen
change_is_seen_law p c w is = by (has_slot w.home.pool p) refl (free_frames w.home.pool == 0) (has_room p w)
  where
    room : HomeWork
    room = make_room p w

    none : has_slot w.home.pool p ≡ false → copy_at w.home.pool p ≡ None
    none e = ap copy_of_slot (none_there (slot_at w.home.pool p) e)

    lets : LetsGo p w (make_room p w)
    lets = room_is_seen p w is.buffer (λ q other. is.pins q)

    by : (a : Bool) → has_slot w.home.pool p ≡ a → (b d : Bool)
        → HasChange p c w
        (pick a (into_slot p c w)
        (pick b (pick d (into_slot p c (on_pool (λ b. place b p) (make_room p w))) (write_page p (record { version = c.version; bytes = c.image }) w))
        (into_slot p c (on_pool (λ b. place b p) w))))
    by true e b d = slotted p c w w w (all w w (alike_self w)) (alike_self w) e
    by false e true true = slotted p c w room (on_pool (λ b. place b p) room) lets (placed_alike p room (lets_copy p w room lets ∙ none e)) (placed_there p room)
    by false e true false = stored e refl refl
    by false e false d = slotted p c w w (on_pool (λ b. place b p) w) (all w w (alike_self w)) (placed_alike p w (none e)) (placed_there p w)
