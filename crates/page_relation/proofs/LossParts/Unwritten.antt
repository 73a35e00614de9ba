-- Who doesn't hold a page exclusively hasn't written it.
use Rattle.std.proofs.Common.{◌≡◌, refl, sym, subst, ◌∙◌, ℕ, eqb, false, List, [], ◌∷◌, ◌++◌}
use Rattle.std.specs.Prelude.{⊤, leb}
use Rattle.pcl_base.specs.declared.tx.Mode.{Mode}
use Rattle.pcl_base.specs.declared.tx.Mode.TheVariants.{Shared, Exclusive}
use Rattle.pcl_base.specs.declared.tx.TxId.{TxId}
use Rattle.page_protocol.specs.Authority.{granting, giving, spending, registered, returning, dropping, releasing, releasing_change, releasing_to_disk, losing}
use Rattle.page_protocol.specs.Bytes.{Access, Read, Write, writes}
use Rattle.page_protocol.specs.Eras.{crashed, crashing, falling, forgotten, purging, buried, burying, lowering, redoing, reporting, joining, completing}
use Rattle.page_protocol.specs.Homes.{asking, upgrading, Waits, accepting, taking_right, keeping_right, reading_under, seen, reading, writing, ended, ending, committing_reads, committing}
use Rattle.page_protocol.specs.State.{Home, Fresh, Asking, Holding, HoldingAsks, Reading, ReadingAsks, Ended, Gone, Page, IsGranted, opening}
use Rattle.page_protocol.specs.State as machine
use Rattle.page_protocol.specs.Steps.{Step, asks, retells, upgrades, upgrades_reader, accepts, takes_right, keeps_right, reads_under, reads, writes_piece, ends_open, commits_reads, commits, grants_lock, gives_right, revokes, turns, returns_right, drops_right, drops_grant, drops_answer, releases, releases_change, releases_to_disk, releases_early, loses, crashes, falls, purges, redoes, purges_early, buries, lowers, reports, joins, completes, restores, flushes, evicts, cuts, Run, here, then, Reached}
use Rattle.page_protocol.specs.Storage.{restoring, flushing, evicting, cutting}
use Rattle.page_protocol.proofs.Basics.{by_test, by_tx}

-- the script of a transaction that stands so has no write
abbrev pub Unwritten : Home → List Access → Type 0
Unwritten Fresh s = writes s ≡ false
Unwritten (Asking m have) s = writes s ≡ false
Unwritten (Holding Shared) s = writes s ≡ false
Unwritten (Holding Exclusive) s = ⊤
Unwritten HoldingAsks s = writes s ≡ false
Unwritten Reading s = writes s ≡ false
Unwritten ReadingAsks s = writes s ≡ false
Unwritten (Ended change e) s = ⊤
Unwritten Gone s = ⊤

-- at each transaction
abbrev pub AllUnwritten : Page → Type 0
AllUnwritten a = (t : TxId) → Unwritten (a.home t) (a.script t)

closed_unwritten : (h : Home) (s : List Access) → Unwritten h s → Unwritten (crashed h) s
closed_unwritten Fresh s u = u
closed_unwritten (Asking m have) s u = tt
closed_unwritten (Holding m) s u = tt
closed_unwritten HoldingAsks s u = tt
closed_unwritten Reading s u = tt
closed_unwritten ReadingAsks s u = tt
closed_unwritten (Ended change e) s u = tt
closed_unwritten Gone s u = tt

forgotten_unwritten : (e : ℕ) (h : Home) (s : List Access) → Unwritten h s → Unwritten (forgotten e h) s
forgotten_unwritten e Fresh s u = u
forgotten_unwritten e (Asking m have) s u = u
forgotten_unwritten e (Holding m) s u = u
forgotten_unwritten e HoldingAsks s u = u
forgotten_unwritten e Reading s u = u
forgotten_unwritten e ReadingAsks s u = u
forgotten_unwritten e (Ended change f) s u = by_test (eqb f e) (λ h. Unwritten h s) Gone (Ended change f) (λ q. tt) (λ q. tt)
forgotten_unwritten e Gone s u = tt

buried_unwritten : (e : ℕ) (h : Home) (s : List Access) → Unwritten h s → Unwritten (buried e h) s
buried_unwritten e Fresh s u = u
buried_unwritten e (Asking m have) s u = u
buried_unwritten e (Holding m) s u = u
buried_unwritten e HoldingAsks s u = u
buried_unwritten e Reading s u = u
buried_unwritten e ReadingAsks s u = u
buried_unwritten e (Ended change f) s u = by_test (leb e f) (λ h. Unwritten h s) Gone (Ended change f) (λ q. tt) (λ q. tt)
buried_unwritten e Gone s u = tt

registered_unwritten : (h : Home) (s : List Access) → Unwritten h s → Unwritten (registered h) s
registered_unwritten Fresh s u = u
registered_unwritten (Asking m have) s u = u
registered_unwritten (Holding m) s u = u
registered_unwritten HoldingAsks s u = u
registered_unwritten Reading s u = u
registered_unwritten ReadingAsks s u = u
registered_unwritten (Ended change e) s u = tt
registered_unwritten Gone s u = tt

ended_unwritten : (h : Home) (e : ℕ) (s : List Access) → Unwritten (ended h e) s
ended_unwritten Fresh e s = tt
ended_unwritten (Asking m have) e s = tt
ended_unwritten (Holding m) e s = tt
ended_unwritten HoldingAsks e s = tt
ended_unwritten Reading e s = tt
ended_unwritten ReadingAsks e s = tt
ended_unwritten (Ended change f) e s = tt
ended_unwritten Gone e s = tt

holding_unwritten : (h : Home) (m : Mode) (s : List Access) → Waits h m → Unwritten h s → Unwritten (Holding m) s
holding_unwritten h Exclusive s waits u = tt
holding_unwritten Fresh Shared s waits u = absurd waits
holding_unwritten (Asking k have) Shared s waits u = u
holding_unwritten (Holding k) Shared s waits u = absurd waits
holding_unwritten HoldingAsks Shared s waits u = u
holding_unwritten Reading Shared s waits u = absurd waits
holding_unwritten ReadingAsks Shared s waits u = u
holding_unwritten (Ended change e) Shared s waits u = absurd waits
holding_unwritten Gone Shared s waits u = absurd waits

read_writes : (s : List Access) (bytes : List ℕ) → writes (s ++ Read bytes ∷ []) ≡ writes s
read_writes [] bytes = refl
read_writes (Read b ∷ s) bytes = read_writes s bytes
read_writes (Write place piece ∷ s) bytes = refl

read_unwritten : (h : Home) (s : List Access) (bytes : List ℕ) → Unwritten h s → Unwritten h (s ++ Read bytes ∷ [])
read_unwritten Fresh s bytes u = read_writes s bytes ∙ u
read_unwritten (Asking m have) s bytes u = read_writes s bytes ∙ u
read_unwritten (Holding Shared) s bytes u = read_writes s bytes ∙ u
read_unwritten (Holding Exclusive) s bytes u = tt
read_unwritten HoldingAsks s bytes u = read_writes s bytes ∙ u
read_unwritten Reading s bytes u = read_writes s bytes ∙ u
read_unwritten ReadingAsks s bytes u = read_writes s bytes ∙ u
read_unwritten (Ended change e) s bytes u = tt
read_unwritten Gone s bytes u = tt

-- another home of one transaction
home_unwritten : (a : Page) (t : TxId) (h : Home) → Unwritten h (a.script t) → AllUnwritten a → (u : TxId) → Unwritten (machine.upd a.home t h u) (a.script u)
home_unwritten a t h new old u = by_tx (λ v k. Unwritten k (a.script v)) t u h (a.home u) new (old u)

stand_at : (a : Page) (t : TxId) (h : Home) → a.home t ≡ h → AllUnwritten a → Unwritten h (a.script t)
stand_at a t h e old = subst (λ (k : Home). Unwritten k (a.script t)) e (old t)

step_unwritten : {a b : Page} → Step a b → AllUnwritten a → AllUnwritten b
unfolding asking upgrading accepting taking_right keeping_right reading_under reading writing ending committing_reads committing granting giving spending returning dropping releasing releasing_change releasing_to_disk losing crashing falling purging burying lowering redoing reporting joining completing restoring flushing evicting cutting
step_unwritten {a} (asks t m e) old = home_unwritten a t _ (stand_at a t Fresh e old) old
step_unwritten {a} (retells t m h e) old = home_unwritten a t _ (stand_at a t (Asking m h) e old) old
step_unwritten {a} (upgrades t e) old = home_unwritten a t HoldingAsks (stand_at a t (Holding Shared) e old) old
step_unwritten {a} (upgrades_reader t e) old = home_unwritten a t ReadingAsks (stand_at a t Reading e old) old
step_unwritten {a} (accepts g sent takes waits) old = home_unwritten a g.tx (Holding g.mode) (holding_unwritten (a.home g.tx) g.mode (a.script g.tx) waits (old g.tx)) old
step_unwritten {a} (takes_right g h fly takes e) old = home_unwritten a g.tx Reading (stand_at a g.tx (Asking Shared h) e old) old
step_unwritten {a} (keeps_right g fly takes) old = old
step_unwritten {a} (reads_under t v c e right slot same) old = home_unwritten a t Reading (stand_at a t Fresh e old) old
step_unwritten {a} (reads t granted) old =
    λ u. by_tx (λ v s. Unwritten (a.home v) s) t u (a.script t ++ Read (seen a t) ∷ []) (a.script u) (read_unwritten (a.home t) (a.script t) (seen a t) (old t)) (old u)
step_unwritten {a} (writes_piece t place piece e) old =
    λ u. by_tx (λ v s. Unwritten (a.home v) s) t u (a.script t ++ Write place piece ∷ []) (a.script u) (subst (λ (h : Home). Unwritten h (a.script t ++ Write place piece ∷ [])) (sym e) tt) (old u)
step_unwritten {a} (ends_open t) old = home_unwritten a t _ (ended_unwritten (a.home t) (a.reached t.node) (a.script t)) old
step_unwritten {a} (commits_reads t granted none) old = home_unwritten a t _ (ended_unwritten (a.home t) (a.reached t.node) (a.script t)) old
step_unwritten {a} (commits t ranges e some made) old = home_unwritten a t _ tt old
step_unwritten {a} (grants_lock t m w served nobody alone begun fits) old = old
step_unwritten {a} (gives_right t w served nobody none begun fits) old = old
step_unwritten {a} (revokes n v readers shelf takes all named) old =
    λ u. by_test (eqb u.node n) (λ h. Unwritten h (a.script u)) (registered (a.home u)) (a.home u) (λ e. registered_unwritten (a.home u) (a.script u) (old u)) (λ e. old u)
step_unwritten {a} (turns n v e readers shelf over less all named used) old =
    λ u. by_test (eqb u.node n) (λ h. Unwritten h (a.script u)) (registered (a.home u)) (a.home u) (λ e. registered_unwritten (a.home u) (a.script u) (old u)) (λ e. old u)
step_unwritten {a} (returns_right n readers e) old = old
step_unwritten {a} (drops_right n e) old = old
step_unwritten {a} (drops_grant n g e) old = old
step_unwritten {a} (drops_answer n upto readers e all) old = old
step_unwritten {a} (releases t change e other) old = home_unwritten a t Gone tt old
step_unwritten {a} (releases_change t served e) old = home_unwritten a t Gone tt old
step_unwritten {a} (releases_to_disk t served e none) old = home_unwritten a t Gone tt old
step_unwritten {a} (releases_early t change e less is) old = home_unwritten a t Gone tt old
step_unwritten {a} (loses t change e is off) old = home_unwritten a t Gone tt old
step_unwritten {a} (crashes n other) old =
    λ u. by_test (eqb u.node n) (λ h. Unwritten h (a.script u)) (crashed (a.home u)) (a.home u) (λ e. closed_unwritten (a.home u) (a.script u) (old u)) (λ e. old u)
step_unwritten {a} falls old = old
step_unwritten {a} (purges n dead served none all) old =
    λ u. by_test (dead u) (λ h. Unwritten h (a.script u)) (forgotten a.era (a.home u)) (a.home u) (λ e. forgotten_unwritten a.era (a.home u) (a.script u) (old u)) (λ e. old u)
step_unwritten {a} (redoes served) old = old
step_unwritten {a} (purges_early n e dead less all) old =
    λ u. by_test (dead u) (λ h. Unwritten h (a.script u)) (forgotten e (a.home u)) (a.home u) (λ q. forgotten_unwritten e (a.home u) (a.script u) (old u)) (λ q. old u)
step_unwritten {a} (buries e dead less closed) old =
    λ u. by_test (dead u) (λ h. Unwritten h (a.script u)) (buried e (a.home u)) (a.home u) (λ q. buried_unwritten e (a.home u) (a.script u) (old u)) (λ q. old u)
step_unwritten {a} (lowers n upto low readers right over less closed) old = old
step_unwritten {a} (reports n e le less used) old = old
step_unwritten {a} (joins n e le upto closed) old = old
step_unwritten {a} (completes e o off less complete) old = old
step_unwritten {a} (restores w low high entry) old = old
step_unwritten {a} (flushes c dirty slot old_one) old = old
step_unwritten {a} (evicts n clean closed) old = old
step_unwritten {a} (cuts n w le) old = old

run_unwritten : {a b : Page} → Run a b → AllUnwritten a → AllUnwritten b
run_unwritten here old = old
run_unwritten (then r s) old = step_unwritten s (run_unwritten r old)

-- of each state that the machine reaches
pub reached_unwritten : (blank : List ℕ) (a : Page) → Reached blank a → AllUnwritten a
reached_unwritten blank a r = run_unwritten r.2 (λ t. refl)
