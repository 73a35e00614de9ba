-- A grant that arrives keeps the home sound: its right is accepted, and its transaction reads under it
-- or no more.
use Rattle.std.proofs.Common.{◌≡◌, ℕ, ◌==◌, Bool, true, false, List, Some, None, is_some, refl, ap, sym, subst, ◌∙◌}
use Rattle.std.proofs.lemmas.List.Elements.{All-weaker}
use Rattle.std.specs.List.{All}
use Rattle.pcl_base.specs.declared.tx.TxId.{TxId}
use Rattle.pcl_base.specs.declared.lock.Held.{Held}
use Rattle.pcl_base.specs.declared.lock.Kind.TheVariants as kind
use Rattle.pcl_base.specs.declared.message.Grant.{Grant}
use Rattle.node_rules.specs.Words.{pick, same_tx, among}
use Rattle.node_rules.specs.OpenTxs.{OpenTxs, held_by, pending_of, lock_on, pages_of_open, waits_as, add}
use Rattle.node_rules.specs.Shelf.{Right, right_on, accept, add_reader, end_reader, readers_of}
use Rattle.node_rules.specs.NodeState.{HomeState}
use Rattle.node_rules.specs.Work.{HomeWork, Outcome, Goes, Differs, and_so}
use Rattle.node_rules.specs.AccessRule.{Granted, Arrived, granted, arrived, arrive, image_of, kind_of, shelf_after, readers_after, on_grant}
use Rattle.home_laws.specs.Homes.{IsHome, is_right_lock, is_right_kind}
use Rattle.home_laws.specs.AccessLaws.{OnGrantIsSound}
use Rattle.home_laws.proofs.Tests.{number_equal}
use Rattle.home_laws.proofs.Locks.{add_here, add_elsewhere, add_other}
use Rattle.home_laws.proofs.Rights.{with_reader, added_here, added_there, with_reader_all, with_reader_there, with_reader_more, accepted_there, accepted_readers, ended_here, ended_there, without_reader_all, without_reader_more}
use Rattle.home_laws.proofs.Steps.{each_place}
use Rattle.home_laws.proofs.Granted.{IsAwaited, AreReaders, awaited, there, still_held, granted_with}

-- a shelf with the same readers
pub same_readers : (h : HomeState) (shelf : List Right) → ((q : ℕ) → readers_of (right_on shelf q) ≡ readers_of (right_on h.shelf q)) → IsHome h → IsHome (record h { shelf = shelf })
same_readers h shelf same home = record {
  buffer = home.buffer;
  sizes = home.sizes;
  txs = home.txs;
  pins = home.pins;
  kept = home.kept;
  below = home.below;
  held = home.held;
  waits = home.waits;
  needed = home.needed;
  privates = home.privates;
  filled = home.filled;
  runs = home.runs;
  readers = λ q. subst (All (λ u. is_some (held_by h.txs u q) ≡ true)) (sym (same q)) (home.readers q);
  reading = λ u q e. ap (λ us. among us u) (same q) ∙ home.reading u q e;
}

module _ (h : HomeState) (t : TxId) (l : Held) (home : IsHome h) (is : IsAwaited h t l) where
  abbrev now : OpenTxs
  now = add h.txs t l

  lock_now : held_by now t l.page ≡ Some l
  lock_now = add_here h.txs t l (there h t l home is)

  were : (q : ℕ) → All (λ u. is_some (held_by now u q) ≡ true) (readers_of (right_on h.shelf q))
  were q = All-weaker (λ u. is_some (held_by h.txs u q) ≡ true) (λ u. is_some (held_by now u q) ≡ true) (λ u e. still_held h t l home is u q e) (readers_of (right_on h.shelf q)) (home.readers q)

  -- what was held under a right by others, or of another page, is read
  read_elsewhere : (q : ℕ) → (l.page == q) ≡ false → is_right_lock (held_by now t q) ≡ true → among (readers_of (right_on h.shelf q)) t ≡ true
  read_elsewhere q other e = home.reading t q (ap is_right_lock (sym (add_elsewhere h.txs t l (there h t l home is) q other)) ∙ e)

  read_by : (u : TxId) (q : ℕ) → same_tx u t ≡ false → is_right_lock (held_by now u q) ≡ true → among (readers_of (right_on h.shelf q)) u ≡ true
  read_by u q other e = home.reading u q (ap (λ o. is_right_lock (lock_on (pages_of_open o) q)) (sym (add_other h.txs t l (there h t l home is) u other)) ∙ e)

  -- with a right: the transaction is a reader under it
  module _ (shelf : List Right) (same : (q : ℕ) → readers_of (right_on shelf q) ≡ readers_of (right_on h.shelf q)) (right : is_some (right_on shelf l.page) ≡ true) where
    here : readers_of (right_on (add_reader shelf l.page t) l.page) ≡ with_reader t (readers_of (right_on h.shelf l.page))
    here = added_here shelf l.page t right ∙ ap (with_reader t) (same l.page)

    elsewhere : (q : ℕ) → (l.page == q) ≡ false → readers_of (right_on (add_reader shelf l.page t) q) ≡ readers_of (right_on h.shelf q)
    elsewhere q other = ap readers_of (added_there shelf l.page q t other) ∙ same q

    more : (u : TxId) (q : ℕ) → among (readers_of (right_on h.shelf q)) u ≡ true → among (readers_of (right_on (add_reader shelf l.page t) q)) u ≡ true
    more u q e = by (l.page == q) refl
      where
        by : (d : Bool) → (l.page == q) ≡ d → among (readers_of (right_on (add_reader shelf l.page t) q)) u ≡ true
        by true f =
            let page = number_equal l.page q f in
            let was : among (readers_of (right_on h.shelf l.page)) u ≡ true = subst (λ n. among (readers_of (right_on h.shelf n)) u ≡ true) (sym page) e in
            subst (λ n. among (readers_of (right_on (add_reader shelf l.page t) n)) u ≡ true) page (ap (λ us. among us u) here ∙ with_reader_more t u (readers_of (right_on h.shelf l.page)) was)
        by false f = ap (λ us. among us u) (elsewhere q f) ∙ e

    pub reader_added : AreReaders now (add_reader shelf l.page t)
    reader_added = record {
      readers = λ q. readers q (l.page == q) refl;
      reading =
          each_place t l.page (λ u q. is_right_lock (held_by now u q) ≡ true → among (readers_of (right_on (add_reader shelf l.page t) q)) u ≡ true)
          (λ e. ap (λ us. among us t) here ∙ with_reader_there t (readers_of (right_on h.shelf l.page)))
          (λ q other e. more t q (read_elsewhere q other e)) (λ u q other e. more u q (read_by u q other e));
    }
      where
        readers : (q : ℕ) (d : Bool) → (l.page == q) ≡ d → All (λ u. is_some (held_by now u q) ≡ true) (readers_of (right_on (add_reader shelf l.page t) q))
        readers q true f =
            subst (λ n. All (λ u. is_some (held_by now u n) ≡ true) (readers_of (right_on (add_reader shelf l.page t) n))) (number_equal l.page q f)
            (subst (All (λ u. is_some (held_by now u l.page) ≡ true)) (sym here) (with_reader_all (λ u. is_some (held_by now u l.page) ≡ true) t (readers_of (right_on h.shelf l.page)) (ap is_some lock_now) (were l.page)))
        readers q false f = subst (All (λ u. is_some (held_by now u q) ≡ true)) (sym (elsewhere q f)) (were q)

  -- without one: it is none any more
  pub reader_ended : is_right_kind l.kind ≡ false → AreReaders now (end_reader h.shelf l.page t)
  reader_ended other_kind = record {
    readers = λ q. readers q (l.page == q) refl;
    reading =
        each_place t l.page (λ u q. is_right_lock (held_by now u q) ≡ true → among (readers_of (right_on (end_reader h.shelf l.page t) q)) u ≡ true)
        (λ e. let no : is_right_lock (held_by now t l.page) ≡ false = ap is_right_lock lock_now ∙ other_kind in absurd (cc))
        (λ q other e. ap (λ o. among (readers_of o) t) (ended_there h.shelf l.page q t other) ∙ read_elsewhere q other e)
        (λ u q other e. still u q other (read_by u q other e));
  }
    where
      readers : (q : ℕ) (d : Bool) → (l.page == q) ≡ d → All (λ u. is_some (held_by now u q) ≡ true) (readers_of (right_on (end_reader h.shelf l.page t) q))
      readers q true f =
          subst (λ n. All (λ u. is_some (held_by now u n) ≡ true) (readers_of (right_on (end_reader h.shelf l.page t) n))) (number_equal l.page q f)
          (subst (All (λ u. is_some (held_by now u l.page) ≡ true)) (sym (ended_here h.shelf l.page t)) (without_reader_all (λ u. is_some (held_by now u l.page) ≡ true) t (readers_of (right_on h.shelf l.page)) (were l.page)))
      readers q false f = subst (λ o. All (λ u. is_some (held_by now u q) ≡ true) (readers_of o)) (sym (ended_there h.shelf l.page q t f)) (were q)

      still : (u : TxId) (q : ℕ) → same_tx u t ≡ false → among (readers_of (right_on h.shelf q)) u ≡ true → among (readers_of (right_on (end_reader h.shelf l.page t) q)) u ≡ true
      still u q other e = by (l.page == q) refl
        where
          by : (d : Bool) → (l.page == q) ≡ d → among (readers_of (right_on (end_reader h.shelf l.page t) q)) u ≡ true
          by true f =
              let page = number_equal l.page q f in
              let was : among (readers_of (right_on h.shelf l.page)) u ≡ true = subst (λ n. among (readers_of (right_on h.shelf n)) u ≡ true) (sym page) e in
              subst (λ n. among (readers_of (right_on (end_reader h.shelf l.page t) n)) u ≡ true) page (ap (λ us. among us u) (ended_here h.shelf l.page t) ∙ without_reader_more t u (readers_of (right_on h.shelf l.page)) other was)
          by false f = ap (λ o. among (readers_of o) u) (ended_there h.shelf l.page q t f) ∙ e

-- the lock of a grant, and the rights after it
abbrev pub lock_of : Grant → Bool → Held
lock_of g owned = record { page = g.page; mode = g.mode; kind = kind_of owned g.right }

accepted_same : (g : Grant) (shelf : List Right) (q : ℕ) → readers_of (right_on (shelf_after g shelf) q) ≡ readers_of (right_on shelf q)
accepted_same g shelf q = by g.right
  where
    by : (d : Bool) → readers_of (right_on (pick d (accept shelf g.page g.version) shelf) q) ≡ readers_of (right_on shelf q)
    by true = accepted_readers shelf g.page g.version q
    by false = refl

pub grant_rights : (g : Grant) (owned : Bool) (h : HomeState) → IsHome h → IsAwaited h g.tx (lock_of g owned) → AreReaders (add h.txs g.tx (lock_of g owned)) (readers_after g (shelf_after g h.shelf))
grant_rights g owned h home is = by g.right refl
  where
    no_right : (d : Bool) → is_right_kind (pick d kind.Own kind.Registered) ≡ false
    no_right true = refl
    no_right false = refl

    by : (r : Bool) → g.right ≡ r → AreReaders (add h.txs g.tx (lock_of g owned)) (pick r (add_reader (pick r (accept h.shelf g.page g.version) h.shelf) g.page g.tx) (end_reader (pick r (accept h.shelf g.page g.version) h.shelf) g.page g.tx))
    by true e = reader_added h g.tx (lock_of g owned) home is (accept h.shelf g.page g.version) (accepted_readers h.shelf g.page g.version) (accepted_there h.shelf g.page g.version)
    by false e = reader_ended h g.tx (lock_of g owned) home is (ap (λ r. is_right_kind (pick owned kind.Own (pick r kind.Right kind.Registered))) e ∙ no_right owned)

-- a grant that arrives
pub on_grant_sound : OnGrantIsSound
unfolding on_grant
on_grant_sound g owned w x home sized readable goes = by (waits_as (pending_of w.home.txs g.tx) g.page g.mode) refl goes
  where
    goes_same : (y : Arrived) → IsHome y.work.home → (let o : Outcome Arrived = Goes y in o) ≡ Goes x → IsHome x.work.home
    goes_same y sound e =
        let same : y ≡ x = cc in
        subst (λ (z : Arrived). IsHome z.work.home) same sound

    start : HomeWork
    start = record w { home = record (w.home) { shelf = readers_after g (shelf_after g w.home.shelf) } }

    of : (o : Outcome Granted) → granted g.tx (lock_of g owned) g.version (image_of g.copy) start ≡ o → waits_as (pending_of w.home.txs g.tx) g.page g.mode ≡ true → and_so o arrived ≡ Goes x → IsHome x.work.home
    of (Differs q expected found) e waits f = absurd (cc)
    of (Goes y) e waits f =
        goes_same (arrived y)
        (granted_with w.home (readers_after g (shelf_after g w.home.shelf)) g.tx (lock_of g owned) g.version (image_of g.copy) start y home refl waits
        (grant_rights g owned w.home home (awaited w.home g.tx (lock_of g owned) home waits)) sized readable e)
        f

    by : (d : Bool) → waits_as (pending_of w.home.txs g.tx) g.page g.mode ≡ d → arrive d g owned (record w { home = record (w.home) { shelf = shelf_after g w.home.shelf } }) ≡ Goes x → IsHome x.work.home
    by false e f = goes_same (record { reply = None; work = record w { home = record (w.home) { shelf = shelf_after g w.home.shelf } } }) (same_readers w.home (shelf_after g w.home.shelf) (accepted_same g w.home.shelf) home) f
    by true e f = of (granted g.tx (lock_of g owned) g.version (image_of g.copy) start) refl e f
