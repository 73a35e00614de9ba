-- Accesses: a read, a write, a lock, a read under a right, an access that waits.
use Rattle.std.proofs.Common.{◌≡◌, ℕ, ◌+◌, ◌==◌, ◌&&◌, ◌||◌, not, Bool, true, false, List, [], ◌∷◌, ◌++◌, length, Option, Some, None, is_some, refl, sym, ap, subst, ◌∙◌}
use Rattle.std.specs.Prelude.{option_map}
use Rattle.pcl_base.specs.declared.tx.TxId.{TxId}
use Rattle.pcl_base.specs.declared.tx.Mode.TheVariants.{Shared}
use Rattle.pcl_base.specs.declared.lock.Held.{Held}
use Rattle.pcl_base.specs.declared.lock.Kind.TheVariants as kind
use Rattle.pcl_base.specs.declared.lock.Pending.{Pending}
use Rattle.text_rules.specs.ChangedRanges.{put}
use Rattle.node_rules.specs.Words.{pick, same_tx, among, covers}
use Rattle.node_rules.specs.OpenTxs.{OpenTx, OpenTxs, open_at, is_open, held_by, mode_held, lock_on, pages_of_open, waiting_of_open, with_lock, add, wait}
use Rattle.node_rules.specs.Shelf.{Right, right_on, with_one_reader, add_reader, is_at}
use Rattle.node_rules.specs.BufferRule.{Pool, PrivateCopy, slot_in, copy_at, copy_of_slot, find, version_of_copy, bytes_of_copy, private_in, has_private, private_bytes, bytes_of_private, touch, fill, change, change_private, over_filled}
use Rattle.node_rules.specs.NodeState.{cover, runs_at}
use Rattle.node_rules.specs.Work.{HomeWork}
use Rattle.node_rules.specs.AccessRule.{Accessed, perform, filled, bytes_or, mode_of_write, under_right, waiting, next_of, is_held, has_version, is_allowed, take_frames, access_in, access, now_done}
use Rattle.home_laws.proofs.Tests.{number_turned, tx_equal, some_there}
use Rattle.home_laws.proofs.OneTx.{open_here}
use Rattle.home_laws.proofs.Locks.{add_here, add_elsewhere, add_pending, add_other, with_waiting, wait_held_here, wait_here, wait_other}
use Rattle.home_laws.proofs.Rights.{right_here, right_there}
use Rattle.home_laws.proofs.SlotLooks.{front_same}
use Rattle.home_laws.proofs.PrivateLooks.{with_bytes, changed_here, changed_there}
use Rattle.home_laws.proofs.Runs.{put_here, put_there}
use Rattle.page_laws.specs.Look.Parts.{is_place}
use Rattle.page_laws.specs.Look.Accesses.{ReadingIsSeen, WritingIsSeen, LockingIsSeen, HasReader, ReadingUnderIsSeen, WaitingIsSeen, AccessIsSeen}
use Rattle.page_laws.proofs.LookParts.Alike.{beside_pool}
use Rattle.page_laws.proofs.LookParts.Copies.{frames_are_seen_law, lets_beside, lets_copy}

-- a read
pub reading_is_seen_law : ReadingIsSeen
unfolding perform touch
reading_is_seen_law t p w =
    record {
      reply = refl;
      work =
          record {
            rest = beside_pool w.home (touch w.home.pool p) (λ u q. refl);
            copies = λ q. ap copy_of_slot (front_same w.home.pool.slots p q);
            pages = refl;
          };
    }

-- a private copy that is changed
changed_bytes : (f : Option (List ℕ) → Option (List ℕ)) (xs : List PrivateCopy) (t : TxId) (p : ℕ) → is_some (private_in xs t p) ≡ true
    → bytes_of_private (private_in (change_private f xs t p) t p) ≡ f (bytes_of_private (private_in xs t p))
changed_bytes f xs t p there = ap bytes_of_private (changed_here f xs t p) ∙ by (private_in xs t p) there
  where
    by : (o : Option PrivateCopy) → is_some o ≡ true → bytes_of_private (option_map (with_bytes f) o) ≡ f (bytes_of_private o)
    by None e = absurd (cc)
    by (Some x) e = refl

there_changed : (f : Option (List ℕ) → Option (List ℕ)) (xs : List PrivateCopy) (t : TxId) (p : ℕ) → is_some (private_in (change_private f xs t p) t p) ≡ is_some (private_in xs t p)
there_changed f xs t p = ap is_some (changed_here f xs t p) ∙ by (private_in xs t p)
  where
    by : (o : Option PrivateCopy) → is_some (option_map (with_bytes f) o) ≡ is_some o
    by None = refl
    by (Some x) = refl

-- the buffer in which a write finds its private copy filled
filled_slots : (b : Pool) (t : TxId) (p : ℕ) → (filled b t p).slots ≡ b.slots
unfolding fill
filled_slots b t p = by (is_some (private_bytes b t p))
  where
    by : (d : Bool) → (pick d b (fill b t p)).slots ≡ b.slots
    by true = refl
    by false = refl

filled_there : (b : Pool) (t : TxId) (p : ℕ) → has_private b t p ≡ true → has_private (filled b t p) t p ≡ true
unfolding fill
filled_there b t p there = by (is_some (private_bytes b t p))
  where
    by : (d : Bool) → has_private (pick d b (fill b t p)) t p ≡ true
    by true = there
    by false = there_changed (λ old. Some (bytes_of_copy (copy_at b p))) b.privates t p ∙ there

filled_now : (b : Pool) (t : TxId) (p : ℕ) → has_private b t p ≡ true → private_bytes (filled b t p) t p ≡ Some (bytes_or (private_bytes b t p) (bytes_of_copy (copy_at b p)))
unfolding fill
filled_now b t p there = by (private_bytes b t p) refl
  where
    by : (o : Option (List ℕ)) → private_bytes b t p ≡ o → private_bytes (pick (is_some o) b (fill b t p)) t p ≡ Some (bytes_or o (bytes_of_copy (copy_at b p)))
    by None e = changed_bytes (λ old. Some (bytes_of_copy (copy_at b p))) b.privates t p there
    by (Some x) e = e

filled_others : (b : Pool) (t u : TxId) (p q : ℕ) → is_place t p u q ≡ false → private_bytes (filled b t p) u q ≡ private_bytes b u q
unfolding fill
filled_others b t u p q other = by (is_some (private_bytes b t p))
  where
    by : (d : Bool) → private_bytes (pick d b (fill b t p)) u q ≡ private_bytes b u q
    by true = refl
    by false = ap bytes_of_private (changed_there (λ old. Some (bytes_of_copy (copy_at b p))) b.privates t u p q other)

-- a write
pub writing_is_seen_law : WritingIsSeen
unfolding perform touch change
writing_is_seen_law t p write w there =
    let b : Pool = w.home.pool in
    let touched : Pool = touch b p in
    let full : Pool = filled touched t p in
    let runs = cover (runs_at w.home.written t p) write.0 (write.0 + length write.1) in
    record {
      reply = refl;
      life = record { config = refl; node = refl; born = refl; last = refl; alive = λ u. refl };
      locks = record { held = λ u q. refl; waits = λ u. refl };
      rights = λ q. refl;
      copies = λ q. ap (λ ss. copy_of_slot (slot_in ss q)) (filled_slots touched t p) ∙ ap copy_of_slot (front_same b.slots p q);
      pages = refl;
      bytes =
          changed_bytes (over_filled write.0 write.1) full.privates t p (filled_there touched t p there)
          ∙ (ap (over_filled write.0 write.1) (filled_now touched t p there)
          ∙ ap (λ c. Some (put write.0 write.1 (bytes_or (private_bytes b t p) (bytes_of_copy c)))) (ap copy_of_slot (front_same b.slots p p)));
      runs = put_here w.home.written t p runs;
      other_bytes = λ u q other. ap bytes_of_private (changed_there (over_filled write.0 write.1) full.privates t u p q other) ∙ filled_others touched t u p q other;
      other_runs = λ u q other. put_there w.home.written t u p q runs other;
    }

-- what is held at other places
other_place : {X : Type 0} (s new : OpenTxs) (t : TxId) (p : ℕ) (see : OpenTxs → TxId → ℕ → X) → ((u : TxId) (q : ℕ) → open_at new u ≡ open_at s u → see new u q ≡ see s u q)
    → ((u : TxId) → same_tx u t ≡ false → open_at new u ≡ open_at s u) → ((q : ℕ) → (p == q) ≡ false → see new t q ≡ see s t q)
    → (u : TxId) (q : ℕ) → is_place t p u q ≡ false → see new u q ≡ see s u q
other_place s new t p see by_open others elsewhere u q other = by (same_tx u t) refl other
  where
    by : (b : Bool) → same_tx u t ≡ b → b && q == p ≡ false → see new u q ≡ see s u q
    by true e o = subst (λ (v : TxId). see new v q ≡ see s v q) (sym (tx_equal u t e)) (elsewhere q (number_turned q p o))
    by false e o = by_open u q (others u e)

pub held_open_same : (s new : OpenTxs) (u : TxId) (q : ℕ) → open_at new u ≡ open_at s u → held_by new u q ≡ held_by s u q
held_open_same s new u q e = ap (λ o. lock_on (pages_of_open o) q) e

-- who is open, where one transaction changed
pub still_open : (f : OpenTx → OpenTx) (s new : OpenTxs) (t : TxId) → open_at new t ≡ option_map f (open_at s t) → ((u : TxId) → same_tx u t ≡ false → open_at new u ≡ open_at s u) → (u : TxId) → is_open new u ≡ is_open s u
still_open f s new t here others u = by (same_tx u t) refl
  where
    mapped : (o : Option OpenTx) → is_some (option_map f o) ≡ is_some o
    mapped None = refl
    mapped (Some x) = refl

    by : (b : Bool) → same_tx u t ≡ b → is_open new u ≡ is_open s u
    by true e = subst (λ (v : TxId). is_open new v ≡ is_open s v) (sym (tx_equal u t e)) (ap is_some here ∙ mapped (open_at s t))
    by false e = ap is_some (others u e)

added : (s : OpenTxs) (t : TxId) (l : Held) → open_at (add s t l) t ≡ option_map (with_lock l) (open_at s t)
unfolding add
added s t l = open_here (with_lock l) (λ x. refl) s t

named_added : (s : OpenTxs) (t : TxId) (l : Held) → ((add s t l).node ≡ s.node) × ((add s t l).born ≡ s.born) × ((add s t l).last ≡ s.last)
unfolding add
named_added s t l = (refl, refl, refl)

-- a lock
pub locking_is_seen_law : LockingIsSeen
locking_is_seen_law s t l there =
    record {
      here = add_here s t l there;
      waits = add_pending s t l there;
      other_held = other_place s (add s t l) t l.page held_by (held_open_same s (add s t l)) (add_other s t l there) (add_elsewhere s t l there);
      other_waits = λ u other. ap waiting_of_open (add_other s t l there u other);
      alive = still_open (with_lock l) s (add s t l) t (added s t l) (add_other s t l there);
      named = named_added s t l;
    }

-- a read under a right
among_pushed : (us : List TxId) (t u : TxId) → among (us ++ t ∷ []) u ≡ among us u || same_tx t u
unfolding among
among_pushed [] t u = by (same_tx t u)
  where
    by : (b : Bool) → b || false ≡ b
    by true = refl
    by false = refl
among_pushed (v ∷ us) t u = by (same_tx v u) (among_pushed us t u)
  where
    by : (b : Bool) → among (us ++ t ∷ []) u ≡ among us u || same_tx t u → b || among (us ++ t ∷ []) u ≡ (b || among us u) || same_tx t u
    by true r = refl
    by false r = r

reader_more : (t u : TxId) (r : Right) → among (with_one_reader t r).readers u ≡ among r.readers u || same_tx t u
reader_more t u r = by (among r.readers t) refl
  where
    same : among r.readers t ≡ true → (b : Bool) → same_tx t u ≡ b → among r.readers u ≡ among r.readers u || b
    same e true f = let there : among r.readers u ≡ true = subst (λ (v : TxId). among r.readers v ≡ true) (tx_equal t u f) e in there ∙ sym (ap (λ c. c || true) there)
    same e false f = of (among r.readers u)
      where
        of : (b : Bool) → b ≡ b || false
        of true = refl
        of false = refl

    by : (b : Bool) → among r.readers t ≡ b → among (pick b r (record r { readers = r.readers ++ t ∷ [] })).readers u ≡ among r.readers u || same_tx t u
    by true e = same e (same_tx t u) refl
    by false e = among_pushed r.readers t u

one_reader_page : (t : TxId) (r : Right) → (with_one_reader t r).page ≡ r.page
one_reader_page t r = by (among r.readers t)
  where
    by : (b : Bool) → (pick b r (record r { readers = r.readers ++ t ∷ [] })).page ≡ r.page
    by true = refl
    by false = refl

one_reader_version : (t : TxId) (r : Right) → (with_one_reader t r).version ≡ r.version
one_reader_version t r = by (among r.readers t)
  where
    by : (b : Bool) → (pick b r (record r { readers = r.readers ++ t ∷ [] })).version ≡ r.version
    by true = refl
    by false = refl

pub reader_added : (rs : List Right) (t : TxId) (p : ℕ) → is_some (right_on rs p) ≡ true → HasReader t p (right_on rs p) (right_on (add_reader rs p t) p)
unfolding add_reader
reader_added rs t p there =
    let found = some_there (right_on rs p) there in
    record {
      right = with_one_reader t found.0;
      old = found.0;
      there = found.1;
      now = right_here (with_one_reader t) (one_reader_page t) rs p ∙ ap (option_map (with_one_reader t)) found.1;
      version = one_reader_version t found.0;
      readers = λ u. reader_more t u found.0;
    }

pub reader_elsewhere : (rs : List Right) (t : TxId) (p q : ℕ) → (p == q) ≡ false → right_on (add_reader rs p t) q ≡ right_on rs q
unfolding add_reader
reader_elsewhere rs t p q other = right_there (with_one_reader t) (one_reader_page t) rs p q other

pub reading_under_is_seen_law : ReadingUnderIsSeen
reading_under_is_seen_law t p h there right =
    record {
      config = refl;
      lock = locking_is_seen_law h.txs t (record { page = p; mode = Shared; kind = kind.Right }) there;
      right = reader_added h.shelf t p right;
      other_rights = λ q other. reader_elsewhere h.shelf t p q other;
      privates = record { bytes = λ u q. refl; runs = λ u q. refl };
      copies = λ q. refl;
    }

-- an access that waits
waited : (s : OpenTxs) (t : TxId) (w : Pending) → open_at (wait s t w) t ≡ option_map (with_waiting w) (open_at s t)
unfolding wait
waited s t w = open_here (with_waiting w) (λ x. refl) s t

named_waited : (s : OpenTxs) (t : TxId) (w : Pending) → ((wait s t w).node ≡ s.node) × ((wait s t w).born ≡ s.born) × ((wait s t w).last ≡ s.last)
unfolding wait
named_waited s t w = (refl, refl, refl)

pub waiting_is_seen_law : WaitingIsSeen
waiting_is_seen_law a h there =
    let w : Pending = record { page = a.page; mode = mode_of_write a.write; write = a.write } in
    let s : OpenTxs = h.txs in
    let named = named_waited s a.tx w in
    record {
      life = record { config = refl; node = named.0; born = named.1; last = named.2; alive = still_open (with_waiting w) s (wait s a.tx w) a.tx (waited s a.tx w) (wait_other s a.tx w there) };
      held = λ u q. held s w u q there;
      waits = wait_here s a.tx w there;
      other_waits = λ u other. ap waiting_of_open (wait_other s a.tx w there u other);
      privates = record { bytes = λ u q. refl; runs = λ u q. refl };
      rights = λ q. refl;
      copies = λ q. refl;
    }
  where
    held : (s : OpenTxs) (w : Pending) (u : TxId) (q : ℕ) → is_open s a.tx ≡ true → held_by (wait s a.tx w) u q ≡ held_by s u q
    held s w u q there = by (same_tx u a.tx) refl
      where
        by : (b : Bool) → same_tx u a.tx ≡ b → held_by (wait s a.tx w) u q ≡ held_by s u q
        by true e = subst (λ (v : TxId). held_by (wait s a.tx w) v q ≡ held_by s v q) (sym (tx_equal u a.tx e)) (wait_held_here s a.tx w there q)
        by false e = held_open_same s (wait s a.tx w) u q (wait_other s a.tx w there u e)

same_version : (rs ss : List Right) (p : ℕ) (v : Option ℕ) → right_on rs p ≡ right_on ss p → has_version rs p v ≡ has_version ss p v
same_version rs ss p None e = refl
same_version rs ss p (Some v) e = ap (λ o. is_at o v) e

-- an access
pub access_is_seen_law : AccessIsSeen
unfolding access access_in
access_is_seen_law a owned w is fine =
    let x : HomeWork = take_frames a w in
    let lets = frames_are_seen_law a w is fine in
    let beside = lets_beside a.page w x lets in
    let copy = lets_copy a.page w x lets in
    let holds : is_held a x.home ≡ is_held a w.home = ap (λ o. covers (mode_held o) (mode_of_write a.write)) (beside.locks.held a.tx a.page) in
    let finds : find x.home.pool a.page ≡ find w.home.pool a.page = ap version_of_copy copy in
    let may : is_allowed a owned x.home ≡ is_allowed a owned w.home =
    ap (λ b. not owned && (not (is_some a.write) && b))
    (ap (λ v. has_version x.home.shelf a.page v) finds ∙ same_version x.home.shelf w.home.shelf a.page (find w.home.pool a.page) (beside.rights a.page)) in
    record {
      held = λ e. ap (λ b. pick b (now_done (perform a.tx a.page a.write x)) (rest x)) (holds ∙ e);
      allowed = λ e f. ap (λ b. pick b (now_done (perform a.tx a.page a.write x)) (rest x)) (holds ∙ e) ∙ ap (λ b. pick b (under x) (waits x)) (may ∙ f);
      waits = λ e f.
          ap (λ b. pick b (now_done (perform a.tx a.page a.write x)) (rest x)) (holds ∙ e)
          ∙ (ap (λ b. pick b (under x) (waits x)) (may ∙ f) ∙ ap (λ v. record { next = next_of a owned v; work = record x { home = waiting a x.home } }) finds);
    }
  where
    under : HomeWork → Accessed
    under x = now_done (perform a.tx a.page None (record x { home = under_right a.tx a.page x.home }))

    waits : HomeWork → Accessed
    waits x = record { next = next_of a owned (find x.home.pool a.page); work = record x { home = waiting a x.home } }

    rest : HomeWork → Accessed
    rest x = pick (is_allowed a owned x.home) (under x) (waits x)
