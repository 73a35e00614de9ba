-- Grants after the changes of a step.
use Rattle.std.specs.Prelude.{ℕ, ◌≤◌, true, false, eqb, ◌≡◌, ◌⊎◌, List, ◌∷◌, Option, Some, None}
use Rattle.std.proofs.Common.{refl, ap, arith}
use Rattle.pcl_base.specs.declared.tx.TxId.{TxId}
use Rattle.pcl_base.specs.declared.tx.Mode.{Mode}
use mathlib.Core.Logic.{inl, inr}
use Rattle.page_protocol.specs.Authority.{registered}
use Rattle.page_protocol.specs.Eras.{crashed, forgotten}
use Rattle.page_protocol.specs.Invariant.{Covers, RightOk, Counts, Grants}
use Rattle.page_protocol.specs.Homes.{ended}
use Rattle.page_protocol.specs.State.{same_tx, upd, updn, Word, Current, Image, OnDisk, Sent, Right, NoRight, Flying, Shelf, Returning, Dead, Home, Fresh, Asking, Holding, HoldingAsks, Reading, ReadingAsks, Ended, Gone, In, IsFresh, IsAsking, Lives, IsClosed, told_copy}
use Rattle.page_protocol.specs.Bytes.{Copy}
use Rattle.page_protocol.proofs.Basics.{same_tx_refl, by_test, by_tx, by_tx_else, by_node, along, back}

pub told_kept : (w : Word) (v : ℕ) (s z : Option Copy) (d e cur : Copy) → (s ≡ Some cur → z ≡ Some cur) → (d ≡ cur → e ≡ cur) → told_copy w v s d ≡ Some cur → told_copy w v z e ≡ Some cur
told_kept Current v s z d e cur f g p = f p
told_kept (Image b) v s z d e cur f g p = p
told_kept OnDisk v s z d e cur f g p = ap Some (g (cc))

pub asking_lives : (h : Home) → IsAsking h → Lives h
asking_lives Fresh a = absurd a
asking_lives (Asking m k) a = tt
asking_lives (Holding m) a = absurd a
asking_lives HoldingAsks a = absurd a
asking_lives Reading a = absurd a
asking_lives ReadingAsks a = absurd a
asking_lives (Ended c e) a = absurd a
asking_lives Gone a = absurd a

pub closed_dead : (h : Home) → IsClosed h → Lives h → ⊥
closed_dead Fresh c l = l
closed_dead (Asking m k) c l = c
closed_dead (Holding m) c l = c
closed_dead HoldingAsks c l = c
closed_dead Reading c l = c
closed_dead ReadingAsks c l = c
closed_dead (Ended x e) c l = l
closed_dead Gone c l = l

-- a home that doesn't live or ask anew, unless it was fresh
pub record Fades (h k : Home) : Type 0 where
  pub lives : Lives k → (IsFresh h → ⊥) → Lives h
  pub fresh : IsFresh k → IsFresh h
  pub asking : IsAsking k → (IsFresh h → ⊥) → IsAsking h

pub fades_same : (h : Home) → Fades h h
fades_same h = record { lives = λ l f. l; fresh = λ f. f; asking = λ a f. a }

pub right_homes : (era : ℕ) (slot : Option Copy) (disk cur : Copy) (reached : ℕ) (home next : TxId → Home) (n : ℕ) (r : Right)
    → ((t : TxId) → Fades (home t) (next t)) → RightOk era slot disk cur reached home n r → RightOk era slot disk cur reached next n r
right_homes era slot disk cur reached home next n NoRight f p = tt
right_homes era slot disk cur reached home next n (Flying g) f p =
    let k = f g.tx in (p.0, λ x. p.1 (k.fresh x), p.2, λ q a. p.3 q (k.asking a p.1))
right_homes era slot disk cur reached home next n (Shelf v) f p = p
right_homes era slot disk cur reached home next n (Returning u rs) f p = tt
right_homes era slot disk cur reached home next n Dead f p = tt

pub right_copies : (era : ℕ) (slot z : Option Copy) (disk e cur : Copy) (reached next : ℕ) (home : TxId → Home) (n : ℕ) (r : Right)
    → reached ≤ next
    → ((t : TxId) (w : Word) (v : ℕ) → t.node ≡ n → Lives (home t) → told_copy w v slot disk ≡ Some cur → told_copy w v z e ≡ Some cur)
    → RightOk era slot disk cur reached home n r → RightOk era z e cur next home n r
right_copies era slot z disk e cur reached next home n NoRight q f p = tt
right_copies era slot z disk e cur reached next home n (Flying g) q f p =
    (p.0, p.1, p.2, λ b a. f g.tx g.word g.version p.0 (asking_lives (home g.tx) a) (p.3 (omega arith) a))
right_copies era slot z disk e cur reached next home n (Shelf v) q f p = p
right_copies era slot z disk e cur reached next home n (Returning u rs) q f p = tt
right_copies era slot z disk e cur reached next home n Dead q f p = tt

module _ {era : ℕ} {reached : ℕ → ℕ} {slot : ℕ → Option Copy} {disk cur : Copy} {listed : TxId → ℕ → Option Mode} {right : ℕ → Right} {home : TxId → Home} {sent : List Sent} (i : Grants era reached slot disk cur listed right home sent) where
  pub grants_homes : (next : TxId → Home) → ((t : TxId) → Fades (home t) (next t)) → Grants era reached slot disk cur listed right next sent
  grants_homes next f =
      record {
        grants = λ g p q l. i.grants g p q (let k = f g.tx in k.lives l (i.asked g p));
        asked = λ g p x. i.asked g p (let k = f g.tx in k.fresh x);
        rights = λ n. right_homes era (slot n) disk cur (reached n) home next n (right n) f (i.rights n);
      }

  pub grants_home : (t : TxId) (h : Home) → Fades (home t) h → Grants era reached slot disk cur listed right (upd home t h) sent
  grants_home t h f =
      grants_homes (upd home t h) (λ u. by_tx (λ v k. Fades (home v) k) t u h (home u) f (fades_same (home u)))

  -- copies change, and nodes go on, so that whoever lives is told no less
  pub grants_copies : (z : ℕ → Option Copy) (e : Copy) (next : ℕ → ℕ) → ((n : ℕ) → reached n ≤ next n)
      → ((t : TxId) (w : Word) (v : ℕ) → Lives (home t) → told_copy w v (slot t.node) disk ≡ Some cur → told_copy w v (z t.node) e ≡ Some cur)
      → Grants era next z e cur listed right home sent
  grants_copies z e next more f =
      record {
        grants = λ g p q l. let k = i.grants g p (let m = more g.tx.node in omega arith) l in
            record { covered = k.covered; version_now = k.version_now; copy = f g.tx g.word g.version l k.copy };
        asked = i.asked;
        rights = λ n. right_copies era (slot n) (z n) disk e cur (reached n) (next n) home n (right n) (more n)
            (λ t w v k l p. along (λ m. told_copy w v (z m) e ≡ Some cur) k (f t w v l (back (λ m. told_copy w v (slot m) disk ≡ Some cur) k p))) (i.rights n);
      }

  pub grants_listed : (next : TxId → ℕ → Option Mode) → ((t : TxId) (m : Mode) → Lives (home t) → Covers (listed t era) m → Covers (next t era) m) → Grants era reached slot disk cur next right home sent
  grants_listed next f =
      record {
        grants = λ g p q l. let k = i.grants g p q l in record { covered = f g.tx g.mode l k.covered; version_now = k.version_now; copy = k.copy };
        asked = i.asked;
        rights = i.rights;
      }

  pub grants_right : (n : ℕ) (r : Right) → RightOk era (slot n) disk cur (reached n) home n r → Grants era reached slot disk cur listed (updn right n r) home sent
  grants_right n r ok =
      record {
        grants = i.grants;
        asked = i.asked;
        rights = λ m. by_node (λ k y. RightOk era (slot k) disk cur (reached k) home k y) n m r (right m) ok (i.rights m);
      }

  pub grants_more : (g : Sent) → (IsFresh (home g.tx) → ⊥) → (reached g.tx.node ≤ era → Lives (home g.tx) → Counts g.mode g.version g.word (listed g.tx era) (slot g.tx.node) disk cur)
      → Grants era reached slot disk cur listed right home (g ∷ sent)
  grants_more g asked ok =
      record {
        grants = first;
        asked = λ x p f. old x p f;
        rights = i.rights;
      }
    where
      first : (x : Sent) → In x (g ∷ sent) → reached x.tx.node ≤ era → Lives (home x.tx) → Counts x.mode x.version x.word (listed x.tx era) (slot x.tx.node) disk cur
      first x (inl e) = back (λ y. reached y.tx.node ≤ era → Lives (home y.tx) → Counts y.mode y.version y.word (listed y.tx era) (slot y.tx.node) disk cur) e ok
      first x (inr p) = i.grants x p

      old : (x : Sent) → In x (g ∷ sent) → IsFresh (home x.tx) → ⊥
      old x (inl e) = back (λ y. IsFresh (home y.tx) → ⊥) e asked
      old x (inr p) = i.asked x p

  -- a commit: whoever else has a grant that counts would be listed beside the writer
  pub grants_commit : (t : TxId) (h : Home) (z : ℕ → Option Copy) (c : Copy) → (Lives h → ⊥) → (IsFresh h → ⊥)
      → ((u : TxId) → (listed u era ≡ None) ⊎ (u ≡ t)) → ((n : ℕ) → right n ≡ NoRight)
      → Grants era reached z disk c listed right (upd home t h) sent
  grants_commit t h z c dead unfresh alone none =
      record {
        grants = λ g p q l. absurd (by_tx_else (λ v k. v ≡ g.tx → Lives k → ⊥) t g.tx h (home g.tx) (λ e x. dead x)
            (λ s e x. nobody g.tx s g.mode (i.grants g p q x).covered (alone g.tx)) refl l);
        asked = λ g p f. by_tx (λ v k. (IsFresh (home v) → ⊥) → IsFresh k → ⊥) t g.tx h (home g.tx) (λ x y. unfresh y) (λ x y. x y) (i.asked g p) f;
        rights = λ n. back (λ r. RightOk era (z n) disk c (reached n) (upd home t h) n r) (none n) tt;
      }
    where
      nobody : (u : TxId) → same_tx u t ≡ false → (m : Mode) → Covers (listed u era) m → (listed u era ≡ None) ⊎ (u ≡ t) → ⊥
      nobody u s m c (inl n) = along (λ l. Covers l m) n c
      nobody u s m c (inr e) = let y : same_tx u t ≡ true = rw (e, same_tx_refl t) refl in absurd (cc)

pub fades_closed : (h k : Home) → (Lives k → ⊥) → (IsFresh k → IsFresh h) → Fades h k
fades_closed h k dead fresh = record { lives = λ l f. absurd (dead l); fresh = fresh; asking = λ a f. absurd (dead (asking_lives k a)) }

pub ended_dead : (h : Home) (e : ℕ) → Lives (ended h e) → ⊥
ended_dead Fresh e l = l
ended_dead (Asking m k) e l = l
ended_dead (Holding m) e l = l
ended_dead HoldingAsks e l = l
ended_dead Reading e l = l
ended_dead ReadingAsks e l = l
ended_dead (Ended c f) e l = l
ended_dead Gone e l = l

pub ended_fresh : (h : Home) (e : ℕ) → IsFresh (ended h e) → ⊥
ended_fresh Fresh e l = l
ended_fresh (Asking m k) e l = l
ended_fresh (Holding m) e l = l
ended_fresh HoldingAsks e l = l
ended_fresh Reading e l = l
ended_fresh ReadingAsks e l = l
ended_fresh (Ended c f) e l = l
ended_fresh Gone e l = l

pub fades_ended : (h : Home) (e : ℕ) → Fades h (ended h e)
fades_ended h e = fades_closed h (ended h e) (ended_dead h e) (λ f. absurd (ended_fresh h e f))

pub fades_registered : (h : Home) → Fades h (registered h)
fades_registered Fresh = fades_same Fresh
fades_registered (Asking m k) = fades_same (Asking m k)
fades_registered (Holding m) = fades_same (Holding m)
fades_registered HoldingAsks = fades_same HoldingAsks
fades_registered Reading = record { lives = λ l f. tt; fresh = λ f. f; asking = λ a f. a }
fades_registered ReadingAsks = record { lives = λ l f. tt; fresh = λ f. f; asking = λ a f. a }
fades_registered (Ended c f) = fades_same (Ended c f)
fades_registered Gone = fades_same Gone

pub fades_crashed : (h : Home) → Fades h (crashed h)
fades_crashed Fresh = fades_same Fresh
fades_crashed (Asking m k) = fades_closed (Asking m k) Gone (λ l. l) (λ f. f)
fades_crashed (Holding m) = fades_closed (Holding m) Gone (λ l. l) (λ f. f)
fades_crashed HoldingAsks = fades_closed HoldingAsks Gone (λ l. l) (λ f. f)
fades_crashed Reading = fades_closed Reading Gone (λ l. l) (λ f. f)
fades_crashed ReadingAsks = fades_closed ReadingAsks Gone (λ l. l) (λ f. f)
fades_crashed (Ended c f) = fades_same (Ended c f)
fades_crashed Gone = fades_same Gone

pub fades_forgotten : (e : ℕ) (h : Home) → Fades h (forgotten e h)
fades_forgotten e Fresh = fades_same Fresh
fades_forgotten e (Asking m k) = fades_same (Asking m k)
fades_forgotten e (Holding m) = fades_same (Holding m)
fades_forgotten e HoldingAsks = fades_same HoldingAsks
fades_forgotten e Reading = fades_same Reading
fades_forgotten e ReadingAsks = fades_same ReadingAsks
fades_forgotten e (Ended c f) = by_test (eqb f e) (λ k. Fades (Ended c f) k) Gone (Ended c f) (λ s. fades_closed (Ended c f) Gone (λ l. l) (λ f. f)) (λ s. fades_same (Ended c f))
fades_forgotten e Gone = fades_same Gone
