-- Whom later eras list, and whom answers name, has accessed the page: nothing but reports and answers
-- lists it there, and scripts only grow.
use Rattle.std.specs.Prelude.{ℕ, ◌<◌, Bool, true, ◌&&◌, eqb, ltb, leb, ◌≡◌, ◌≢◌, ⊤, List, [], ◌∷◌, ◌++◌, Option, Some, None}
use Rattle.std.proofs.Common.{refl, subst, suc, arith}
use Rattle.pcl_base.specs.declared.tx.TxId.{TxId}
use Rattle.pcl_base.specs.declared.tx.Mode.{Mode}
use Rattle.pcl_base.specs.declared.tx.Mode.TheVariants.{Shared}
use Rattle.page_protocol.specs.Authority.{LockUsed, HaveUsed, dropping, giving, granting, losing, registered, releasing, releasing_change, releasing_to_disk, returning, spending, with_shared}
use Rattle.page_protocol.specs.Bytes.{Access, Read, Write}
use Rattle.page_protocol.specs.Eras.{burying, completing, crashing, falling, joining, lost, lowering, purging, redoing, reported, reports_for, reporting, settled, with_report}
use Rattle.page_protocol.specs.Homes.{accepting, asking, committing, committing_reads, ending, keeping_right, reading, reading_under, seen, taking_right, upgrading, writing}
use Rattle.page_protocol.specs.Laws.{LaterAreUsed, NamedAreUsed}
use Rattle.page_protocol.specs.State.{Asking, Dead, Ended, Flying, Fresh, Gone, Holding, HoldingAsks, Home, NoRight, Page, Reading, ReadingAsks, Returning, Right, Shelf, has, lock_of, opening, pick, same_tx, set_at, upd, updn}
use Rattle.page_protocol.specs.Steps.{Reached, Run, Step, accepts, asks, buries, commits, commits_reads, completes, crashes, cuts, drops_answer, drops_grant, drops_right, ends_open, evicts, falls, flushes, gives_right, grants_lock, here, joins, keeps_right, loses, lowers, purges, purges_early, reads, reads_under, redoes, releases, releases_change, releases_early, releases_to_disk, reports, restores, retells, returns_right, revokes, takes_right, then, turns, upgrades, upgrades_reader, writes_piece}
use Rattle.page_protocol.specs.Storage.{cutting, evicting, flushing, restoring}
use Rattle.page_protocol.proofs.Basics.{and_true, by_node, by_set, by_test, eqb_true}

-- a table's later eras list only who has accessed the page
abbrev TableUsed : ℕ → (TxId → ℕ → Option Mode) → (TxId → List Access) → Type 0
TableUsed era listed script = (t : TxId) (f : ℕ) → era < f → (listed t f ≡ None → ⊥) → script t ≢ []

-- a right that was given back names only such transactions of its node
abbrev RightUsed : (TxId → List Access) → ℕ → Right → Type 0
RightUsed script n NoRight = ⊤
RightUsed script n (Flying g) = ⊤
RightUsed script n (Shelf v) = ⊤
RightUsed script n (Returning upto readers) = (t : TxId) → t.node ≡ n → has t readers ≡ true → script t ≢ []
RightUsed script n Dead = ⊤

abbrev RightsUsed : (TxId → List Access) → (ℕ → Right) → Type 0
RightsUsed script right = (n : ℕ) → RightUsed script n (right n)

abbrev AllUsed : Page → Type 0
AllUsed a = TableUsed a.era a.listed a.script × RightsUsed a.script a.right

-- scripts grow
not_empty : (s : List Access) (x : Access) → (s ++ x ∷ []) ≢ []
not_empty [] x e = absurd (cc)
not_empty (y ∷ s) x e = absurd (cc)

grown : (script : TxId → List Access) (t : TxId) (x : Access) (u : TxId) → script u ≢ [] → upd script t (script t ++ x ∷ []) u ≢ []
grown script t x u p = by_test (same_tx u t) (λ y. y ≢ []) (script t ++ x ∷ []) (script u) (λ e. not_empty (script t) x) (λ e. p)

right_grown : (script more : TxId → List Access) → ((u : TxId) → script u ≢ [] → more u ≢ []) → (n : ℕ) (r : Right) → RightUsed script n r → RightUsed more n r
right_grown script more grow n NoRight p = tt
right_grown script more grow n (Flying g) p = tt
right_grown script more grow n (Shelf v) p = tt
right_grown script more grow n (Returning upto readers) p = λ t k h. grow t (p t k h)
right_grown script more grow n Dead p = tt

all_grown : (a : Page) (t : TxId) (x : Access) → AllUsed a → TableUsed a.era a.listed (upd a.script t (a.script t ++ x ∷ [])) × RightsUsed (upd a.script t (a.script t ++ x ∷ [])) a.right
all_grown a t x all = (
  λ u f p q. grown a.script t x u (all.0 u f p q),
  λ n. right_grown a.script (upd a.script t (a.script t ++ x ∷ [])) (grown a.script t x) n (a.right n) (all.1 n),
)

-- another right of one node
other_right : (script : TxId → List Access) (right : ℕ → Right) (n : ℕ) (r : Right) → RightsUsed script right → RightUsed script n r → RightsUsed script (updn right n r)
other_right script right n r all one m = by_node (λ k y. RightUsed script k y) n m r (right m) one (all m)

lost_used : (script : TxId → List Access) (n : ℕ) (r : Right) → RightUsed script n r → RightUsed script n (lost r)
lost_used script n NoRight p = tt
lost_used script n (Flying g) p = tt
lost_used script n (Shelf v) p = tt
lost_used script n (Returning upto readers) p = p
lost_used script n Dead p = tt

settled_used : (script : TxId → List Access) (n e : ℕ) (r : Right) → RightUsed script n r → RightUsed script n (settled e r)
settled_used script n e NoRight p = tt
settled_used script n e (Flying g) p = tt
settled_used script n e (Shelf v) p = tt
settled_used script n e (Returning upto readers) p = by_test (ltb e upto) (RightUsed script n) (Returning upto readers) NoRight (λ s. p) (λ s. tt)
settled_used script n e Dead p = tt

-- a table in which some are listed no more, or changed in the era that serves
unlisted : {era : ℕ} {listed : TxId → ℕ → Option Mode} {script : TxId → List Access} → TableUsed era listed script → (drop : TxId → ℕ → Bool) → TableUsed era (λ t f. pick (drop t f) None (listed t f)) script
unlisted {era} {listed} {script} all drop t f p =
    by_test (drop t f) (λ y. (y ≡ None → ⊥) → script t ≢ []) None (listed t f) (λ d q. absurd (q refl)) (λ d q. all t f p q)

released : {era : ℕ} {listed : TxId → ℕ → Option Mode} {script : TxId → List Access} → TableUsed era listed script → (t : TxId) (e : ℕ) → TableUsed era (set_at listed t e None) script
released all t e = unlisted all (λ u f. same_tx u t && eqb f e)

granted : {era : ℕ} {listed : TxId → ℕ → Option Mode} {script : TxId → List Access} → TableUsed era listed script → (t : TxId) (x : Option Mode) → TableUsed era (set_at listed t era x) script
granted {era} {listed} {script} all t x u f =
    by_set (λ z g y. era < g → (y ≡ None → ⊥) → script z ≢ []) listed t era x u f (λ p q. absurd (omega arith)) (λ p q. all u f p q)

returned : {era : ℕ} {listed : TxId → ℕ → Option Mode} {script : TxId → List Access} → TableUsed era listed script → (readers : List TxId)
    → TableUsed era (λ t e. pick (has t readers && eqb e era) (with_shared (listed t e)) (listed t e)) script
returned {era} {listed} {script} all readers t f p =
    by_test (has t readers && eqb f era) (λ y. (y ≡ None → ⊥) → script t ≢ []) (with_shared (listed t f)) (listed t f)
    (λ d q. let k = eqb_true f era (and_true (has t readers) (eqb f era) d).1 in absurd (omega arith)) (λ d q. all t f p q)

-- a report lists locks that were used
reported_used : (h : Home) (s : List Access) → LockUsed (lock_of h) s → (reported h ≡ None → ⊥) → s ≢ []
reported_used Fresh s u q = absurd (q refl)
reported_used (Asking m h) s u q = absurd (q refl)
reported_used (Holding m) s u q = u
reported_used HoldingAsks s u q = u
reported_used Reading s u q = u
reported_used ReadingAsks s u q = u
reported_used (Ended c f) s u q = absurd (q refl)
reported_used Gone s u q = absurd (q refl)

registered_used : (h : Home) (s : List Access) → LockUsed (lock_of h) s → LockUsed (lock_of (registered h)) s
registered_used Fresh s u = u
registered_used (Asking m h) s u = u
registered_used (Holding m) s u = u
registered_used HoldingAsks s u = u
registered_used Reading s u = u
registered_used ReadingAsks s u = u
registered_used (Ended c f) s u = u
registered_used Gone s u = u

reporting_used : {era : ℕ} {listed : TxId → ℕ → Option Mode} {script : TxId → List Access} → TableUsed era listed script
    → (reached : ℕ → ℕ) (home : TxId → Home) (n e : ℕ) → ((t : TxId) → t.node ≡ n → LockUsed (lock_of (home t)) (script t)) → TableUsed era (with_report reached home listed n e) script
reporting_used {era} {listed} {script} all reached home n e used t f p =
    by_test (reports_for reached n e t f) (λ y. (y ≡ None → ⊥) → script t ≢ []) (reported (home t)) (listed t f)
    (λ d q. reported_used (home t) (script t) (used t (eqb_true t.node n (and_true (eqb t.node n) (ltb (reached n) f && leb f e) d).0)) q)
    (λ d q. all t f p q)

spent_used : (a : Page) (n : ℕ) → HaveUsed a n → (t : TxId) → t.node ≡ n → LockUsed (lock_of (pick (eqb t.node n) (registered (a.home t)) (a.home t))) (a.script t)
spent_used a n used t k =
    by_test (eqb t.node n) (λ h. LockUsed (lock_of h) (a.script t)) (registered (a.home t)) (a.home t) (λ s. registered_used (a.home t) (a.script t) (used t k)) (λ s. used t k)

step_used : {a b : Page} → Step a b → AllUsed a → AllUsed b
unfolding asking upgrading accepting taking_right keeping_right reading_under reading writing ending committing_reads committing granting giving spending returning dropping releasing releasing_change releasing_to_disk losing crashing falling purging burying lowering redoing reporting joining completing restoring flushing evicting cutting
step_used {a} (asks t m e) all = all
step_used {a} (retells t m h e) all = all
step_used {a} (upgrades t e) all = all
step_used {a} (upgrades_reader t e) all = all
step_used {a} (accepts g p r w) all = all
step_used {a} (takes_right g h f r w) all = (all.0, other_right a.script a.right g.tx.node (Shelf g.version) all.1 tt)
step_used {a} (keeps_right g f r) all = (all.0, other_right a.script a.right g.tx.node (Shelf g.version) all.1 tt)
step_used {a} (reads_under t v c h r s e) all = all
step_used {a} (reads t g) all = all_grown a t (Read (seen a t)) all
step_used {a} (writes_piece t place piece h) all = all_grown a t (Write place piece) all
step_used {a} (ends_open t) all = all
step_used {a} (commits_reads t g w) all = all
step_used {a} (commits t ranges h w f) all = all
step_used {a} (grants_lock t m w s n l f k) all = (granted all.0 t (Some m), all.1)
step_used {a} (gives_right t w s n r f k) all = (all.0, other_right a.script a.right t.node (Flying (record { tx = t; mode = Shared; version = a.entry; word = w })) all.1 tt)
step_used {a} (revokes n v readers r e f u) all = (all.0, other_right a.script a.right n (Returning (suc a.era) readers) all.1 u)
step_used {a} (turns n v e readers r p q f u h) all = (
  reporting_used all.0 a.reached (λ t. pick (eqb t.node n) (registered (a.home t)) (a.home t)) n e (spent_used a n h),
  other_right a.script a.right n (Returning e readers) all.1 u,
)
step_used {a} (returns_right n readers r) all = (returned all.0 readers, other_right a.script a.right n NoRight all.1 tt)
step_used {a} (drops_right n r) all = (all.0, other_right a.script a.right n NoRight all.1 tt)
step_used {a} (drops_grant n g r) all = (all.0, other_right a.script a.right n NoRight all.1 tt)
step_used {a} (drops_answer n upto readers r f) all = (all.0, other_right a.script a.right n NoRight all.1 tt)
step_used {a} (releases t c h n) all = (released all.0 t a.era, all.1)
step_used {a} (releases_change t s h) all = (released all.0 t a.era, all.1)
step_used {a} (releases_to_disk t s h e) all = (released all.0 t a.era, all.1)
step_used {a} (releases_early t c e p h) all = (released all.0 t e, all.1)
step_used {a} (loses t c e h f) all = all
step_used {a} (crashes n f) all = (all.0, other_right a.script a.right n (lost (a.right n)) all.1 (lost_used a.script n (a.right n) (all.1 n)))
step_used {a} falls all = all
step_used {a} (purges n dead s l d) all = (unlisted all.0 (λ t f. dead t && eqb f a.era), all.1)
step_used {a} (redoes s) all = all
step_used {a} (purges_early n e dead p d) all = (unlisted all.0 (λ t f. dead t && eqb f e), all.1)
step_used {a} (buries e dead p closed) all = (unlisted all.0 (λ t f. dead t && leb e f), all.1)
step_used {a} (lowers n upto low readers r p q f) all = (all.0, other_right a.script a.right n (Returning low readers) all.1 (subst (RightUsed a.script n) r (all.1 n)))
step_used {a} (reports n e p q u) all = (reporting_used all.0 a.reached a.home n e u, all.1)
step_used {a} (joins n e p q f) all = all
step_used {a} (completes e o s p f) all = (λ t f above listed. all.0 t f (omega arith) listed, λ n. settled_used a.script n e (a.right n) (all.1 n))
step_used {a} (restores w p q r) all = all
step_used {a} (flushes c d e p) all = all
step_used {a} (evicts n f g) all = all
step_used {a} (cuts n w p) all = all

run_used : (a b : Page) → Run a b → AllUsed a → AllUsed b
run_used a b here all = all
run_used a b (then {b = m} r s) all = step_used s (run_used a m r all)

all_used : (blank : List ℕ) (a : Page) → Reached blank a → AllUsed a
all_used blank a reached = run_used (opening blank reached.0 reached.1) a reached.2 (λ t f p q. absurd (q refl), λ n. tt)

pub later_used : (blank : List ℕ) (a : Page) → Reached blank a → LaterAreUsed a
later_used blank a reached = (all_used blank a reached).0

pub named_used : (blank : List ℕ) (a : Page) → Reached blank a → NamedAreUsed a
named_used blank a reached n upto readers given = subst (RightUsed a.script n) given ((all_used blank a reached).1 n)
