-- A right on its way is for a reader.
use Rattle.std.proofs.Common.{◌≡◌, refl, subst, ℕ, suc, eqb, ltb, Bool, true, false}
use Rattle.std.specs.Prelude.{⊤, List}
use Rattle.pcl_base.specs.declared.tx.Mode.TheVariants.{Shared}
use Rattle.page_protocol.specs.Authority.{dropping, giving, granting, losing, releasing, releasing_change, releasing_to_disk, returning, spending}
use Rattle.page_protocol.specs.Eras.{burying, completing, crashing, falling, joining, lost, lowering, purging, redoing, reporting, settled}
use Rattle.page_protocol.specs.Homes.{accepting, asking, committing, committing_reads, ending, keeping_right, reading, reading_under, taking_right, upgrading, writing}
use Rattle.page_protocol.specs.State.{Dead, Flying, NoRight, Page, Returning, Right, Sent, Shelf, opening, pick, updn}
use Rattle.page_protocol.specs.Steps.{Reached, Run, Step, accepts, asks, buries, commits, commits_reads, completes, crashes, cuts, drops_answer, drops_grant, drops_right, ends_open, evicts, falls, flushes, gives_right, grants_lock, here, joins, keeps_right, loses, lowers, purges, purges_early, reads, reads_under, redoes, releases, releases_change, releases_early, releases_to_disk, reports, restores, retells, returns_right, revokes, takes_right, then, turns, upgrades, upgrades_reader, writes_piece}
use Rattle.page_protocol.specs.Storage.{cutting, evicting, flushing, restoring}

-- where a right is on its way, its grant is one to read
abbrev IsShared : Right → Type 0
IsShared NoRight = ⊤
IsShared (Flying g) = g.mode ≡ Shared
IsShared (Shelf v) = ⊤
IsShared (Returning upto readers) = ⊤
IsShared Dead = ⊤

changed : (f : ℕ → Right) (n : ℕ) (x : Right) → ((m : ℕ) → IsShared (f m)) → IsShared x → (m : ℕ) → IsShared (updn f n x m)
changed f n x all one m = by (eqb m n)
  where
    by : (b : Bool) → IsShared (pick b x (f m))
    by true = one
    by false = all m

lost_shared : (r : Right) → IsShared r → IsShared (lost r)
lost_shared NoRight is = tt
lost_shared (Flying g) is = tt
lost_shared (Shelf v) is = tt
lost_shared (Returning upto readers) is = tt
lost_shared Dead is = tt

settled_shared : (e : ℕ) (r : Right) → IsShared r → IsShared (settled e r)
settled_shared e NoRight is = tt
settled_shared e (Flying g) is = tt
settled_shared e (Shelf v) is = tt
settled_shared e (Returning upto readers) is = by (ltb e upto)
  where
    by : (b : Bool) → IsShared (pick b (Returning upto readers) NoRight)
    by true = tt
    by false = tt
settled_shared e Dead is = tt

abbrev AllShared : Page → Type 0
AllShared a = (n : ℕ) → IsShared (a.right n)

step_shared : {a b : Page} → Step a b → AllShared a → AllShared b
unfolding asking upgrading accepting taking_right keeping_right reading_under reading writing ending committing_reads committing granting giving spending returning dropping releasing releasing_change releasing_to_disk losing crashing falling purging burying lowering redoing reporting joining completing restoring flushing evicting cutting
step_shared {a} (asks t m e) all = all
step_shared {a} (retells t m h e) all = all
step_shared {a} (upgrades t e) all = all
step_shared {a} (upgrades_reader t e) all = all
step_shared {a} (accepts g p r w) all = all
step_shared {a} (takes_right g h f r w) all = changed a.right g.tx.node (Shelf g.version) all tt
step_shared {a} (keeps_right g f r) all = changed a.right g.tx.node (Shelf g.version) all tt
step_shared {a} (reads_under t v c h r s e) all = all
step_shared {a} (reads t g) all = all
step_shared {a} (writes_piece t place piece h) all = all
step_shared {a} (ends_open t) all = all
step_shared {a} (commits_reads t g w) all = all
step_shared {a} (commits t ranges h w f) all = all
step_shared {a} (grants_lock t m w s n l f k) all = all
step_shared {a} (gives_right t w s n r f k) all = changed a.right t.node (Flying (record { tx = t; mode = Shared; version = a.entry; word = w })) all refl
step_shared {a} (revokes n v readers r e f u) all = changed a.right n (Returning (suc a.era) readers) all tt
step_shared {a} (turns n v e readers r p q f u h) all = changed a.right n (Returning e readers) all tt
step_shared {a} (returns_right n readers r) all = changed a.right n NoRight all tt
step_shared {a} (drops_right n r) all = changed a.right n NoRight all tt
step_shared {a} (drops_grant n g r) all = changed a.right n NoRight all tt
step_shared {a} (drops_answer n upto readers r f) all = changed a.right n NoRight all tt
step_shared {a} (releases t c h n) all = all
step_shared {a} (releases_change t s h) all = all
step_shared {a} (releases_to_disk t s h e) all = all
step_shared {a} (releases_early t c e p h) all = all
step_shared {a} (loses t c e h f) all = all
step_shared {a} (crashes n f) all = changed a.right n (lost (a.right n)) all (lost_shared (a.right n) (all n))
step_shared {a} falls all = all
step_shared {a} (purges n dead s l d) all = all
step_shared {a} (redoes s) all = all
step_shared {a} (purges_early n e dead p d) all = all
step_shared {a} (buries e dead p closed) all = all
step_shared {a} (lowers n upto low readers r p q f) all = changed a.right n (Returning low readers) all tt
step_shared {a} (reports n e p q u) all = all
step_shared {a} (joins n e p q f) all = all
step_shared {a} (completes e o s p f) all = λ n. settled_shared e (a.right n) (all n)
step_shared {a} (restores w p q r) all = all
step_shared {a} (flushes c d e p) all = all
step_shared {a} (evicts n f g) all = all
step_shared {a} (cuts n w p) all = all

run_shared : (a b : Page) → Run a b → AllShared a → AllShared b
run_shared a b here all = all
run_shared a b (then {b = m} r s) all = step_shared s (run_shared a m r all)

pub right_is_shared : (blank : List ℕ) (a : Page) → Reached blank a → (n : ℕ) (g : Sent) → a.right n ≡ Flying g → g.mode ≡ Shared
right_is_shared blank a reached n g flying = subst IsShared flying (run_shared (opening blank reached.0 reached.1) a reached.2 (λ m. tt) n)
