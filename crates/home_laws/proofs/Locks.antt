-- The locks of a transaction and what it waits for, under the changes of a table of open transactions.
use Rattle.std.proofs.Common.{◌≡◌, ℕ, ◌==◌, Bool, true, false, List, [], ◌∷◌, Option, Some, None, is_some, refl, ap, sym, subst, ◌∙◌, arith}
use Rattle.std.proofs.lemmas.Bool.Decides.{nat_tests}
use Rattle.std.specs.Prelude.{option_map}
use Rattle.pcl_base.specs.declared.tx.TxId.{TxId}
use Rattle.pcl_base.specs.declared.lock.Held.{Held}
use Rattle.pcl_base.specs.declared.lock.Kind.{Kind}
use Rattle.pcl_base.specs.declared.lock.Pending.{Pending}
use Rattle.pcl_base.specs.Limits.{Sizes}
use Rattle.node_rules.specs.Words.{pick, same_tx}
use Rattle.node_rules.specs.OpenTxs.{OpenTx, OpenTxs, is_open, open_at, pages_of_open, waiting_of_open, held_by, pending_of, lock_on, waits_on, put_lock, kind_on, with_lock, add, wait, set_kind}
use Rattle.home_laws.specs.Homes.{AreOnce, AreOpen}
use Rattle.home_laws.proofs.Tests.{number_same, number_equal, some_there}
use Rattle.home_laws.proofs.OneTx.{open_here, open_there, open_own, sound_changed}

-- a lock put in its page's place
pub put_here : (hs : List Held) (l : Held) → lock_on (put_lock hs l) l.page ≡ Some l
unfolding lock_on put_lock
put_here [] l = ap (λ c. pick c (Some l) None) (number_same l.page)
put_here (h ∷ hs) l = by (h.page == l.page) refl (put_here hs l)
  where
    by : (b : Bool) → (h.page == l.page) ≡ b → lock_on (put_lock hs l) l.page ≡ Some l → lock_on (pick b (l ∷ hs) (h ∷ put_lock hs l)) l.page ≡ Some l
    by true t ih = ap (λ c. pick c (Some l) (lock_on hs l.page)) (number_same l.page)
    by false t ih = ap (λ c. pick c (Some h) (lock_on (put_lock hs l) l.page)) t ∙ ih

pub put_there : (hs : List Held) (l : Held) (q : ℕ) → (l.page == q) ≡ false → lock_on (put_lock hs l) q ≡ lock_on hs q
unfolding lock_on put_lock
put_there [] l q other = ap (λ c. pick c (Some l) None) other
put_there (h ∷ hs) l q other = by (h.page == l.page) refl (put_there hs l q other)
  where
    by : (b : Bool) → (h.page == l.page) ≡ b → lock_on (put_lock hs l) q ≡ lock_on hs q → lock_on (pick b (l ∷ hs) (h ∷ put_lock hs l)) q ≡ pick (h.page == q) (Some h) (lock_on hs q)
    by true t ih =
        let differs : (h.page == q) ≡ false = ap (λ n. n == q) (number_equal h.page l.page t) ∙ other in
        ap (λ c. pick c (Some l) (lock_on hs q)) other ∙ ap (λ c. pick c (Some h) (lock_on hs q)) (sym differs)
    by false t ih = ap (λ o. pick (h.page == q) (Some h) o) ih

pub put_once : (hs : List Held) (l : Held) → AreOnce hs → AreOnce (put_lock hs l)
unfolding lock_on put_lock
put_once [] l once = (refl, tt)
put_once (h ∷ hs) l once = by (h.page == l.page) refl (put_once hs l once.1)
  where
    by : (b : Bool) → (h.page == l.page) ≡ b → AreOnce (put_lock hs l) → AreOnce (pick b (l ∷ hs) (h ∷ put_lock hs l))
    by true t ih = (subst (λ n. lock_on hs n ≡ None) (number_equal h.page l.page t) once.0, once.1)
    by false t ih =
        let turned : (l.page == h.page) ≡ false = grind (arith, nat_tests) in
        (put_there hs l h.page turned ∙ once.0, ih)

-- a lock of another kind
abbrev pub with_kind : Kind → Held → Held
with_kind k h = record h { kind = k }

pub kind_here : (hs : List Held) (p : ℕ) (k : Kind) → lock_on (kind_on hs p k) p ≡ option_map (with_kind k) (lock_on hs p)
unfolding lock_on kind_on
kind_here [] p k = refl
kind_here (h ∷ hs) p k = by (h.page == p) refl (kind_here hs p k)
  where
    by : (b : Bool) → (h.page == p) ≡ b → lock_on (kind_on hs p k) p ≡ option_map (with_kind k) (lock_on hs p)
        → pick ((pick b (record h { kind = k }) h).page == p) (Some (pick b (record h { kind = k }) h)) (lock_on (kind_on hs p k) p) ≡ option_map (with_kind k) (pick b (Some h) (lock_on hs p))
    by true t ih = ap (λ c. pick c (Some (with_kind k h)) (lock_on (kind_on hs p k) p)) t
    by false t ih = ap (λ c. pick c (Some h) (lock_on (kind_on hs p k) p)) t ∙ ih

pub kind_there : (hs : List Held) (p q : ℕ) (k : Kind) → (p == q) ≡ false → lock_on (kind_on hs p k) q ≡ lock_on hs q
unfolding lock_on kind_on
kind_there [] p q k other = refl
kind_there (h ∷ hs) p q k other = by (h.page == p) refl (kind_there hs p q k other)
  where
    by : (b : Bool) → (h.page == p) ≡ b → lock_on (kind_on hs p k) q ≡ lock_on hs q
        → pick ((pick b (record h { kind = k }) h).page == q) (Some (pick b (record h { kind = k }) h)) (lock_on (kind_on hs p k) q) ≡ pick (h.page == q) (Some h) (lock_on hs q)
    by true t ih =
        let differs : (h.page == q) ≡ false = ap (λ n. n == q) (number_equal h.page p t) ∙ other in
        ap (λ c. pick c (Some (with_kind k h)) (lock_on (kind_on hs p k) q)) differs ∙ ih ∙ ap (λ c. pick c (Some h) (lock_on hs q)) (sym differs)
    by false t ih = ap (λ o. pick (h.page == q) (Some h) o) ih

kind_none : (hs : List Held) (p q : ℕ) (k : Kind) → lock_on hs q ≡ None → lock_on (kind_on hs p k) q ≡ None
kind_none hs p q k none = by (p == q) refl
  where
    by : (b : Bool) → (p == q) ≡ b → lock_on (kind_on hs p k) q ≡ None
    by true t =
        let same = number_equal p q t in
        subst (λ n. lock_on (kind_on hs p k) n ≡ None) same (kind_here hs p k ∙ ap (option_map (with_kind k)) (subst (λ n. lock_on hs n ≡ None) (sym same) none))
    by false t = kind_there hs p q k t ∙ none

pub kind_once : (hs : List Held) (p : ℕ) (k : Kind) → AreOnce hs → AreOnce (kind_on hs p k)
unfolding kind_on
kind_once [] p k once = tt
kind_once (h ∷ hs) p k once = by (h.page == p) (kind_once hs p k once.1)
  where
    by : (b : Bool) → AreOnce (kind_on hs p k) → AreOnce (pick b (record h { kind = k }) h ∷ kind_on hs p k)
    by true ih = (kind_none hs p h.page k once.0, ih)
    by false ih = (kind_none hs p h.page k once.0, ih)

-- what a transaction holds and waits for goes by what is open
held_of : (s : OpenTxs) (t : TxId) (x : OpenTx) (q : ℕ) → open_at s t ≡ Some x → held_by s t q ≡ lock_on x.pages q
held_of s t x q e = ap (λ o. lock_on (pages_of_open o) q) e

pending_is : (s : OpenTxs) (t : TxId) (x : OpenTx) → open_at s t ≡ Some x → pending_of s t ≡ x.waiting
pending_is s t x e = ap waiting_of_open e

pub held_open : (s : OpenTxs) (t : TxId) (q : ℕ) → is_some (held_by s t q) ≡ true → is_open s t ≡ true
unfolding lock_on
held_open s t q e = by (open_at s t) e
  where
    by : (o : Option OpenTx) → is_some (lock_on (pages_of_open o) q) ≡ true → is_some o ≡ true
    by None e = absurd (cc)
    by (Some x) e = refl

pub pending_open : (s : OpenTxs) (t : TxId) → is_some (pending_of s t) ≡ true → is_open s t ≡ true
pending_open s t e = by (open_at s t) e
  where
    by : (o : Option OpenTx) → is_some (waiting_of_open o) ≡ true → is_some o ≡ true
    by None e = absurd (cc)
    by (Some x) e = refl

-- a transaction gets a lock
module _ (s : OpenTxs) (t : TxId) (l : Held) (there : is_open s t ≡ true) where
  pub add_here : held_by (add s t l) t l.page ≡ Some l
  unfolding add
  add_here =
      let found = some_there (open_at s t) there in
      let now : open_at (add s t l) t ≡ Some (with_lock l found.0) = open_here (with_lock l) (λ x. refl) s t ∙ ap (option_map (with_lock l)) found.1 in
      held_of (add s t l) t (with_lock l found.0) l.page now ∙ put_here found.0.pages l

  pub add_elsewhere : (q : ℕ) → (l.page == q) ≡ false → held_by (add s t l) t q ≡ held_by s t q
  unfolding add
  add_elsewhere q other =
      let found = some_there (open_at s t) there in
      let now : open_at (add s t l) t ≡ Some (with_lock l found.0) = open_here (with_lock l) (λ x. refl) s t ∙ ap (option_map (with_lock l)) found.1 in
      held_of (add s t l) t (with_lock l found.0) q now ∙ put_there found.0.pages l q other ∙ sym (held_of s t found.0 q found.1)

  pub add_pending : pending_of (add s t l) t ≡ pick (waits_on (pending_of s t) l.page) None (pending_of s t)
  unfolding add
  add_pending =
      let found = some_there (open_at s t) there in
      let now : open_at (add s t l) t ≡ Some (with_lock l found.0) = open_here (with_lock l) (λ x. refl) s t ∙ ap (option_map (with_lock l)) found.1 in
      pending_is (add s t l) t (with_lock l found.0) now ∙ ap (λ w. pick (waits_on w l.page) None w) (sym (pending_is s t found.0 found.1))

  pub add_other : (u : TxId) → same_tx u t ≡ false → open_at (add s t l) u ≡ open_at s u
  unfolding add
  add_other u other = open_there (with_lock l) (λ x. refl) s t u (open_own s t there) other

  pub add_sound : (c : Sizes) → AreOpen c s → AreOpen c (add s t l)
  unfolding add
  add_sound c sound = sound_changed c (with_lock l) (λ x. refl) (λ x once. put_once x.pages l once) s t sound

-- a transaction waits
abbrev pub with_waiting : Pending → OpenTx → OpenTx
with_waiting w x = record x { waiting = Some w }

module _ (s : OpenTxs) (t : TxId) (w : Pending) (there : is_open s t ≡ true) where
  pub wait_held_here : (q : ℕ) → held_by (wait s t w) t q ≡ held_by s t q
  unfolding wait
  wait_held_here q =
      let found = some_there (open_at s t) there in
      let now : open_at (wait s t w) t ≡ Some (with_waiting w found.0) = open_here (with_waiting w) (λ x. refl) s t ∙ ap (option_map (with_waiting w)) found.1 in
      held_of (wait s t w) t (with_waiting w found.0) q now ∙ sym (held_of s t found.0 q found.1)

  pub wait_here : pending_of (wait s t w) t ≡ Some w
  unfolding wait
  wait_here =
      let found = some_there (open_at s t) there in
      let now : open_at (wait s t w) t ≡ Some (with_waiting w found.0) = open_here (with_waiting w) (λ x. refl) s t ∙ ap (option_map (with_waiting w)) found.1 in
      pending_is (wait s t w) t (with_waiting w found.0) now

  pub wait_other : (u : TxId) → same_tx u t ≡ false → open_at (wait s t w) u ≡ open_at s u
  unfolding wait
  wait_other u other = open_there (with_waiting w) (λ x. refl) s t u (open_own s t there) other

  pub wait_sound : (c : Sizes) → AreOpen c s → AreOpen c (wait s t w)
  unfolding wait
  wait_sound c sound = sound_changed c (with_waiting w) (λ x. refl) (λ x once. once) s t sound

-- a lock gets another kind
abbrev pub with_kind_on : ℕ → Kind → OpenTx → OpenTx
with_kind_on p k x = record x { pages = kind_on x.pages p k }

module _ (s : OpenTxs) (t : TxId) (p : ℕ) (k : Kind) (there : is_open s t ≡ true) where
  pub kind_held_here : held_by (set_kind s t p k) t p ≡ option_map (with_kind k) (held_by s t p)
  unfolding set_kind
  kind_held_here =
      let found = some_there (open_at s t) there in
      let now : open_at (set_kind s t p k) t ≡ Some (with_kind_on p k found.0) = open_here (with_kind_on p k) (λ x. refl) s t ∙ ap (option_map (with_kind_on p k)) found.1 in
      held_of (set_kind s t p k) t (with_kind_on p k found.0) p now ∙ kind_here found.0.pages p k ∙ ap (option_map (with_kind k)) (sym (held_of s t found.0 p found.1))

  pub kind_held_elsewhere : (q : ℕ) → (p == q) ≡ false → held_by (set_kind s t p k) t q ≡ held_by s t q
  unfolding set_kind
  kind_held_elsewhere q other =
      let found = some_there (open_at s t) there in
      let now : open_at (set_kind s t p k) t ≡ Some (with_kind_on p k found.0) = open_here (with_kind_on p k) (λ x. refl) s t ∙ ap (option_map (with_kind_on p k)) found.1 in
      held_of (set_kind s t p k) t (with_kind_on p k found.0) q now ∙ kind_there found.0.pages p q k other ∙ sym (held_of s t found.0 q found.1)

  pub kind_pending : pending_of (set_kind s t p k) t ≡ pending_of s t
  unfolding set_kind
  kind_pending =
      let found = some_there (open_at s t) there in
      let now : open_at (set_kind s t p k) t ≡ Some (with_kind_on p k found.0) = open_here (with_kind_on p k) (λ x. refl) s t ∙ ap (option_map (with_kind_on p k)) found.1 in
      pending_is (set_kind s t p k) t (with_kind_on p k found.0) now ∙ sym (pending_is s t found.0 found.1)

  pub kind_other : (u : TxId) → same_tx u t ≡ false → open_at (set_kind s t p k) u ≡ open_at s u
  unfolding set_kind
  kind_other u other = open_there (with_kind_on p k) (λ x. refl) s t u (open_own s t there) other

  pub kind_sound : (c : Sizes) → AreOpen c s → AreOpen c (set_kind s t p k)
  unfolding set_kind
  kind_sound c sound = sound_changed c (with_kind_on p k) (λ x. refl) (λ x once. kind_once x.pages p k once) s t sound
