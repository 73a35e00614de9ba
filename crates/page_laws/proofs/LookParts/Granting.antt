-- Grants, rights and revocations at a home.
use Rattle.std.proofs.Common.{◌≡◌, ℕ, ◌==◌, ◌&&◌, ◌||◌, Bool, true, false, List, [], ◌∷◌, ◌++◌, Option, Some, None, Result, Ok, Err, is_some, refl, sym, ap, subst, ◌∙◌}
use Rattle.std.proofs.lemmas.List.Elements.{All-head, All-tail, All-weaker}
use Rattle.std.specs.Prelude.{option_map}
use Rattle.std.specs.List.{All}
use Rattle.pcl_base.specs.declared.tx.TxId.{TxId}
use Rattle.pcl_base.specs.declared.lock.Held.{Held}
use Rattle.pcl_base.specs.declared.lock.Kind.{Kind}
use Rattle.text_rules.specs.StoredPage.{PageAt, BadNumber, stored_page}
use Rattle.run_rules.specs.Disk.{raw_page}
use Rattle.node_rules.specs.Words.{pick, same_tx, among}
use Rattle.node_rules.specs.CopyRule.{is_version}
use Rattle.node_rules.specs.OpenTxs.{OpenTx, OpenTxs, open_at, is_open, held_by, pending_of, waits_as, pages_of_open, waiting_of_open, lock_on, set_kind}
use Rattle.node_rules.specs.Shelf.{Right, right_on, readers_of, accept, end_reader, spend}
use Rattle.node_rules.specs.BufferRule.{Slot, slot_at, copy_at, copy_of_slot, find, has_slot, install}
use Rattle.node_rules.specs.Work.{HomeWork, Outcome, Goes, Differs, and_then, and_so, page_or_differs}
use Rattle.node_rules.specs.AccessRule.{Granted, on_pool, clean_copy, from_disk, new_content, unless_current, bring, write_of, locked, granted, image_of, arrive, arrived, on_grant, shelf_after, readers_after, kinds_on, answer_with, on_revoke}
use Rattle.home_laws.proofs.Tests.{number_same, number_equal, number_turned, tx_equal, tx_turned}
use Rattle.home_laws.proofs.OneTx.{open_here}
use Rattle.home_laws.proofs.Locks.{with_kind_on, held_open, kind_held_here, kind_held_elsewhere, kind_other}
use Rattle.home_laws.proofs.Rights.{right_here, right_there, spent_here, spent_there}
use Rattle.home_laws.proofs.SlotLooks.{changed_here, changed_there}
use Rattle.page_laws.specs.Look.Grants.{IsSource, IsBroughtTo, current, comes, BringingIsSeen, CanCome, has_it, comes_from, HasCome, BringingGoes, IsCarriedOut, GrantIsSeen, with_shelf, lock_granted, HasArrived, ArrivalIsSeen, right_without, ShelvesAreSeen, of_kind, SpendingIsSeen, RevokingIsSeen}
use Rattle.page_laws.proofs.LookParts.Alike.{beside_pool}
use Rattle.page_laws.proofs.LookParts.Accessing.{still_open}

-- a page that is brought
goes_one : {X : Type 0} (x y : X) → (let o : Outcome X = Goes x in o) ≡ Goes y → x ≡ y
goes_one x y e = cc

installed : (p version : ℕ) (image : Option (List ℕ)) (w : HomeWork) (at : PageAt) → has_slot w.home.pool p ≡ true → is_version (find w.home.pool p) version ≡ false → IsSource p version image w at
    → IsBroughtTo p version image w (on_pool (λ b. install b p (clean_copy at)) w)
unfolding install
installed p version image w at there other source = comes at other source (beside_pool w.home (install w.home.pool p (clean_copy at)) (λ u q. refl)) (λ q. by q (p == q) refl) refl
  where
    slots : List Slot
    slots = w.home.pool.slots

    put : Slot → Slot
    put s = record s { copy = Some (clean_copy at) }

    mapped : (o : Option Slot) → is_some o ≡ true → copy_of_slot (option_map (λ (s : Slot). record s { copy = Some (clean_copy at) }) o) ≡ Some (clean_copy at)
    mapped None e = absurd (cc)
    mapped (Some s) e = refl

    by : (q : ℕ) (b : Bool) → (p == q) ≡ b → copy_at (install w.home.pool p (clean_copy at)) q ≡ pick b (Some (clean_copy at)) (copy_at w.home.pool q)
    by q true e =
        subst (λ n. copy_at (install w.home.pool p (clean_copy at)) n ≡ Some (clean_copy at)) (number_equal p q e)
        (ap copy_of_slot (changed_here (λ (s : Slot). record s { copy = Some (clean_copy at) }) (λ s. refl) w.home.pool.slots p) ∙ mapped (slot_at w.home.pool p) there)
    by q false e = ap copy_of_slot (changed_there (λ (s : Slot). record s { copy = Some (clean_copy at) }) (λ s. refl) w.home.pool.slots p q e)

pub bringing_is_seen_law : BringingIsSeen
unfolding bring
bringing_is_seen_law p version image w x there goes = by (is_version (find w.home.pool p) version) refl goes
  where
    from_stored : (r : Result PageAt BadNumber) → stored_page p (raw_page w.pages p) ≡ r → is_version (find w.home.pool p) version ≡ false → and_then (page_or_differs p r) (from_disk p version w) ≡ Goes x
        → IsBroughtTo p version None w x
    from_stored (Err bad) f e g = absurd (cc)
    from_stored (Ok at) f e g = of (at.version == version) refl g
      where
        of : (d : Bool) → (at.version == version) ≡ d → pick d (Goes (on_pool (λ b. install b p (clean_copy at)) w)) (Differs p version at.version) ≡ Goes x → IsBroughtTo p version None w x
        of true h k =
            subst (IsBroughtTo p version None w) (goes_one (on_pool (λ b. install b p (clean_copy at)) w) x k)
            (installed p version None w at there e (f, number_equal at.version version h))
        of false h k = absurd (cc)

    new : (i : Option (List ℕ)) → is_version (find w.home.pool p) version ≡ false → new_content p version i w ≡ Goes x → IsBroughtTo p version i w x
    new (Some bytes) e g =
        let at : PageAt = record { version = version; bytes = bytes } in
        subst (IsBroughtTo p version (Some bytes) w) (goes_one (on_pool (λ b. install b p (clean_copy at)) w) x g) (installed p version (Some bytes) w at there e refl)
    new None e g = from_stored (stored_page p (raw_page w.pages p)) refl e g

    by : (d : Bool) → is_version (find w.home.pool p) version ≡ d → unless_current d p version image w ≡ Goes x → IsBroughtTo p version image w x
    by true e g = current e (sym (goes_one w x g))
    by false e g = new image e g

pub bringing_goes_law : BringingGoes
unfolding bring
bringing_goes_law p version image w can = by (is_version (find w.home.pool p) version) refl can
  where
    from : (i : Option (List ℕ)) (at : PageAt) → IsSource p version i w at → (x : HomeWork) × (new_content p version i w ≡ Goes x)
    from (Some bytes) at s = (on_pool (λ b. install b p (clean_copy (record { version = version; bytes = bytes }))) w, refl)
    from None at s = (
      on_pool (λ b. install b p (clean_copy at)) w,
      ap (λ (r : Result PageAt BadNumber). and_then (page_or_differs p r) (from_disk p version w)) s.0
          ∙ ap (λ d. pick d (Goes (on_pool (λ b. install b p (clean_copy at)) w)) (Differs p version at.version)) (subst (λ v. (at.version == v) ≡ true) s.1 (number_same at.version)),
    )

    by : (d : Bool) → is_version (find w.home.pool p) version ≡ d → CanCome p version image w → HasCome p version image w
    by true e c = record { work = w; goes = ap (λ d. unless_current d p version image w) e }
    by false e (has_it f) = absurd (let bad : true ≡ false = sym f ∙ e in cc)
    by false e (comes_from at s) =
        let found = from image at s in
        record { work = found.0; goes = ap (λ d. unless_current d p version image w) e ∙ found.1 }

-- a grant
pub grant_is_seen_law : GrantIsSeen
unfolding granted
grant_is_seen_law t l version image w g goes = by (bring l.page version image w) refl goes
  where
    by : (o : Outcome HomeWork) → bring l.page version image w ≡ o → and_so o (locked t l (write_of (pending_of w.home.txs t))) ≡ Goes g → IsCarriedOut t l version image w g
    by (Differs p expected found) e k = absurd (cc)
    by (Goes x) e k = record { work = x; brought = e; done = sym (goes_one (locked t l (write_of (pending_of w.home.txs t)) x) g k) }

pub arrival_is_seen_law : ArrivalIsSeen
unfolding on_grant
arrival_is_seen_law g owned w x goes = by (waits_as (pending_of w.home.txs g.tx) g.page g.mode) refl goes
  where
    accepted : HomeWork
    accepted = with_shelf (shelf_after g w.home.shelf) w

    by : (b : Bool) → waits_as (pending_of w.home.txs g.tx) g.page g.mode ≡ b → arrive b g owned (with_shelf (shelf_after g w.home.shelf) w) ≡ Goes x → HasArrived g owned w x
    by false e k =
        record {
          unawaited = λ f. sym (goes_one (record { reply = None; work = with_shelf (shelf_after g w.home.shelf) w }) x k);
          awaited = λ f. let bad : true ≡ false = sym f ∙ e in absurd (cc);
        }
    by true e k = record { unawaited = λ f. let bad : true ≡ false = sym e ∙ f in absurd (cc); awaited = λ f. of _ refl k }
      where
        of : (o : Outcome Granted) → granted g.tx (lock_granted g owned) g.version (image_of g.copy) (with_shelf (readers_after g (shelf_after g w.home.shelf)) w) ≡ o → and_so o arrived ≡ Goes x
            → (y : Granted) × (granted g.tx (lock_granted g owned) g.version (image_of g.copy) (with_shelf (readers_after g (shelf_after g w.home.shelf)) w) ≡ Goes y) × (x ≡ arrived y)
        of (Differs p expected found) h j = absurd (cc)
        of (Goes y) h j = (y, h, sym (goes_one (arrived y) x j))

-- rights
right_pushed : (rs : List Right) (r : Right) (q : ℕ) → (r.page == q) ≡ false → right_on (rs ++ r ∷ []) q ≡ right_on rs q
unfolding right_on
right_pushed [] r q other = ap (λ b. pick b (Some r) None) other
right_pushed (x ∷ rs) r q other = ap (λ o. pick (x.page == q) (Some x) o) (right_pushed rs r q other)

right_last : (rs : List Right) (r : Right) → right_on rs r.page ≡ None → right_on (rs ++ r ∷ []) r.page ≡ Some r
unfolding right_on
right_last [] r none = ap (λ b. pick b (Some r) None) (number_same r.page)
right_last (x ∷ rs) r none = by (x.page == r.page) none (right_last rs r)
  where
    by : (b : Bool) → pick b (Some x) (right_on rs r.page) ≡ None → (right_on rs r.page ≡ None → right_on (rs ++ r ∷ []) r.page ≡ Some r) → pick b (Some x) (right_on (rs ++ r ∷ []) r.page) ≡ Some r
    by true e f = absurd (cc)
    by false e f = f e

pub shelves_are_seen_law : ShelvesAreSeen
unfolding accept end_reader
shelves_are_seen_law rs p =
    record {
      accepted = λ v none. ap (λ o. right_on (pick (is_some o) rs (rs ++ record { page = p; version = v; readers = [] } ∷ [])) p) none ∙ right_last rs (record { page = p; version = v; readers = [] }) none;
      kept = λ v there. ap (λ b. pick b rs (rs ++ record { page = p; version = v; readers = [] } ∷ [])) there;
      ended = λ t. right_here (right_without t) (λ r. refl) rs p;
      others = λ v q other. by v q other (is_some (right_on rs p));
      others_end = λ t q other. right_there (right_without t) (λ r. refl) rs p q other;
    }
  where
    by : (v q : ℕ) → (p == q) ≡ false → (b : Bool) → right_on (pick b rs (rs ++ record { page = p; version = v; readers = [] } ∷ [])) q ≡ right_on rs q
    by v q other true = refl
    by v q other false = right_pushed rs (record { page = p; version = v; readers = [] }) q other

-- locks of another kind
twice : (k : Kind) (o : Option Held) → option_map (of_kind k) (option_map (of_kind k) o) ≡ option_map (of_kind k) o
twice k None = refl
twice k (Some l) = refl

one_held : (s : OpenTxs) (t : TxId) (p : ℕ) (k : Kind) → is_open s t ≡ true → (u : TxId) (q : ℕ) → held_by (set_kind s t p k) u q ≡ pick (q == p && same_tx t u) (option_map (of_kind k) (held_by s u q)) (held_by s u q)
one_held s t p k there u q = by (same_tx t u) refl (q == p) refl
  where
    by : (b : Bool) → same_tx t u ≡ b → (d : Bool) → (q == p) ≡ d → held_by (set_kind s t p k) u q ≡ pick (d && b) (option_map (of_kind k) (held_by s u q)) (held_by s u q)
    by true e true f =
        subst (λ (v : TxId). held_by (set_kind s t p k) v q ≡ option_map (of_kind k) (held_by s v q)) (tx_equal t u e)
        (subst (λ n. held_by (set_kind s t p k) t n ≡ option_map (of_kind k) (held_by s t n)) (sym (number_equal q p f)) (kind_held_here s t p k there))
    by true e false f = subst (λ (v : TxId). held_by (set_kind s t p k) v q ≡ held_by s v q) (tx_equal t u e) (kind_held_elsewhere s t p k there q (number_turned q p f))
    by false e true f = ap (λ o. lock_on (pages_of_open o) q) (kind_other s t p k there u (tx_turned t u e))
    by false e false f = ap (λ o. lock_on (pages_of_open o) q) (kind_other s t p k there u (tx_turned t u e))

one_open : (s : OpenTxs) (t : TxId) (p : ℕ) (k : Kind) → open_at (set_kind s t p k) t ≡ option_map (with_kind_on p k) (open_at s t)
unfolding set_kind
one_open s t p k = open_here (with_kind_on p k) (λ x. refl) s t

one_there : (s : OpenTxs) (t : TxId) (p : ℕ) (k : Kind) → is_open s t ≡ true → (u : TxId) → is_open (set_kind s t p k) u ≡ is_open s u
one_there s t p k there = still_open (with_kind_on p k) s (set_kind s t p k) t (one_open s t p k) (kind_other s t p k there)

one_waits : (s : OpenTxs) (t : TxId) (p : ℕ) (k : Kind) → is_open s t ≡ true → (u : TxId) → pending_of (set_kind s t p k) u ≡ pending_of s u
one_waits s t p k there u = by (same_tx u t) refl
  where
    mapped : (o : Option OpenTx) → waiting_of_open (option_map (with_kind_on p k) o) ≡ waiting_of_open o
    mapped None = refl
    mapped (Some x) = refl

    by : (b : Bool) → same_tx u t ≡ b → pending_of (set_kind s t p k) u ≡ pending_of s u
    by true e = subst (λ (v : TxId). pending_of (set_kind s t p k) v ≡ pending_of s v) (sym (tx_equal u t e)) (ap waiting_of_open (one_open s t p k) ∙ mapped (open_at s t))
    by false e = ap waiting_of_open (kind_other s t p k there u e)

-- the locks of some transactions on a page
record HasKinds (s new : OpenTxs) (ts : List TxId) (p : ℕ) (k : Kind) : Type 0 where
  held : (u : TxId) (q : ℕ) → held_by new u q ≡ pick (q == p && among ts u) (option_map (of_kind k) (held_by s u q)) (held_by s u q)
  waits : (u : TxId) → pending_of new u ≡ pending_of s u
  alive : (u : TxId) → is_open new u ≡ is_open s u
  named : (new.node ≡ s.node) × (new.born ≡ s.born) × (new.last ≡ s.last)

set_named : (s : OpenTxs) (t : TxId) (p : ℕ) (k : Kind) → ((set_kind s t p k).node ≡ s.node) × ((set_kind s t p k).born ≡ s.born) × ((set_kind s t p k).last ≡ s.last)
unfolding set_kind
set_named s t p k = (refl, refl, refl)

all_kinds : (s : OpenTxs) (ts : List TxId) (p : ℕ) (k : Kind) → All (λ t. is_open s t ≡ true) ts → HasKinds s (kinds_on s ts p k) ts p k
unfolding kinds_on among
all_kinds s [] p k all = record { held = λ u q. nobody (q == p) (held_by s u q); waits = λ u. refl; alive = λ u. refl; named = (refl, refl, refl) }
  where
    nobody : (b : Bool) (o : Option Held) → o ≡ pick (b && false) (option_map (of_kind k) o) o
    nobody true o = refl
    nobody false o = refl
all_kinds s (t ∷ ts) p k all =
    let there = All-head (λ t. is_open s t ≡ true) t ts all in
    let mid : OpenTxs = set_kind s t p k in
    let rest = all_kinds mid ts p k (All-weaker (λ u. is_open s u ≡ true) (λ u. is_open mid u ≡ true) (λ u h. one_there s t p k there u ∙ h) ts (All-tail (λ t. is_open s t ≡ true) t ts all)) in
    let names = set_named s t p k in
    record {
      held = λ u q.
          rest.held u q
          ∙ (ap (λ (o : Option Held). pick (q == p && among ts u) (option_map (of_kind k) o) o) (one_held s t p k there u q) ∙ both (q == p) (same_tx t u) (among ts u) (held_by s u q));
      waits = λ u. rest.waits u ∙ one_waits s t p k there u;
      alive = λ u. rest.alive u ∙ one_there s t p k there u;
      named = (rest.named.0 ∙ names.0, rest.named.1 ∙ names.1, rest.named.2 ∙ names.2);
    }
  where
    both : (c a b : Bool) (o : Option Held) → pick (c && b) (option_map (of_kind k) (pick (c && a) (option_map (of_kind k) o) o)) (pick (c && a) (option_map (of_kind k) o) o) ≡ pick (c && (a || b)) (option_map (of_kind k) o) o
    both false a b o = refl
    both true true true o = twice k o
    both true true false o = refl
    both true false true o = refl
    both true false false o = refl

-- a right that is spent
pub spending_is_seen_law : SpendingIsSeen
spending_is_seen_law k p h is =
    let ts : List TxId = readers_of (right_on h.shelf p) in
    let kinds = all_kinds h.txs ts p k (All-weaker (λ t. is_some (held_by h.txs t p) ≡ true) (λ t. is_open h.txs t ≡ true) (λ t some. held_open h.txs t p some) ts (is.readers p)) in
    record {
      life = record { config = refl; node = kinds.named.0; born = kinds.named.1; last = kinds.named.2; alive = kinds.alive };
      held = kinds.held;
      waits = kinds.waits;
      right = λ q. by q (p == q) refl;
      named = λ u right. is.reading u p right;
      privates = record { bytes = λ u q. refl; runs = λ u q. refl };
      copies = λ q. refl;
    }
  where
    by : (q : ℕ) (b : Bool) → (p == q) ≡ b → right_on (spend h.shelf p) q ≡ pick b None (right_on h.shelf q)
    by q true e = subst (λ n. right_on (spend h.shelf p) n ≡ None) (number_equal p q e) (spent_here h.shelf p)
    by q false e = spent_there h.shelf p q e

-- a revocation
pub revoking_is_seen_law : RevokingIsSeen
unfolding on_revoke
revoking_is_seen_law p h =
    record {
      absent = λ none. ap (λ o. answer_with p o h) none;
      there = λ r e. ap (λ o. answer_with p o h) e;
    }
