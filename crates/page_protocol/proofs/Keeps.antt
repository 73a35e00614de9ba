-- Every step keeps the invariant, and so does every run.
use Rattle.std.specs.Prelude.{ℕ, List}
use Rattle.std.proofs.Common.{suc, refl, arith}
use mathlib.Core.Logic.{inl}
use Rattle.page_protocol.specs.Authority.{spending}
use Rattle.page_protocol.specs.Invariant.{Inv}
use Rattle.page_protocol.specs.State.{Page, opening}
use Rattle.page_protocol.specs.Steps.{Step, asks, retells, upgrades, upgrades_reader, accepts, takes_right, keeps_right, reads_under, reads, writes_piece, ends_open, commits_reads, commits, grants_lock, gives_right, revokes, turns, returns_right, drops_right, drops_grant, drops_answer, releases, releases_change, releases_to_disk, releases_early, loses, crashes, falls, purges, redoes, purges_early, buries, lowers, reports, joins, completes, restores, flushes, evicts, cuts, Run, here, then, Reached}
use Rattle.page_protocol.proofs.KeepsStorage.{keeps_restores, keeps_flushes, keeps_evicts, keeps_cuts}
use Rattle.page_protocol.proofs.KeepsAuthority.{keeps_grants, keeps_gives, keeps_spends, keeps_returns, keeps_drops, keeps_drops_grant, keeps_drops_answer, keeps_releases, keeps_releases_early, keeps_loses, keeps_releases_change, keeps_releases_to_disk}
use Rattle.page_protocol.proofs.KeepsHomes.{keeps_asks, keeps_retells, keeps_upgrades, keeps_upgrades_reader, keeps_accepts, keeps_keeps_right, keeps_takes_right, keeps_reads_under, keeps_reads, keeps_writes_piece, keeps_ends_open, keeps_commits_reads}
use Rattle.page_protocol.proofs.KeepsEras.{keeps_crashes, keeps_falls, keeps_purges, keeps_purges_early, keeps_redoes, keeps_reports, keeps_joins, keeps_completes}
use Rattle.page_protocol.proofs.KeepsBuried.{keeps_buries, keeps_lowers}
use Rattle.page_protocol.proofs.KeepsCommits.{keeps_commits}

pub keeps : (blank : List ℕ) {a b : Page} → Step a b → Inv blank a → Inv blank b
unfolding spending
keeps blank {a} (asks t m e) i = keeps_asks blank a i t m e
keeps blank {a} (retells t m h e) i = keeps_retells blank a i t m h e
keeps blank {a} (upgrades t e) i = keeps_upgrades blank a i t e
keeps blank {a} (upgrades_reader t e) i = keeps_upgrades_reader blank a i t e
keeps blank {a} (accepts g p r w) i = keeps_accepts blank a i g p r w
keeps blank {a} (takes_right g h f r w) i = keeps_takes_right blank a i g h f r w
keeps blank {a} (keeps_right g f r) i = keeps_keeps_right blank a i g f r
keeps blank {a} (reads_under t v c h r s e) i = keeps_reads_under blank a i t v c h r s e
keeps blank {a} (reads t g) i = keeps_reads blank a i t g
keeps blank {a} (writes_piece t place piece h) i = keeps_writes_piece blank a i t place piece h
keeps blank {a} (ends_open t) i = keeps_ends_open blank a i t
keeps blank {a} (commits_reads t g w) i = keeps_commits_reads blank a i t g w
keeps blank {a} (commits t ranges h w f) i = keeps_commits blank a i t ranges h w f
keeps blank {a} (grants_lock t m w s n l f k) i = keeps_grants blank a i t m w s n l f k
keeps blank {a} (gives_right t w s n r f k) i = keeps_gives blank a i t w s n r f k
keeps blank {a} (revokes n v readers r e f u) i = keeps_spends blank a i n v (suc a.era) readers r (omega arith) f
keeps blank {a} (turns n v e readers r p q f u h) i = keeps_reports blank (spending a n e readers) (keeps_spends blank a i n v e readers r q f) n e p q
keeps blank {a} (returns_right n readers r) i = keeps_returns blank a i n readers r
keeps blank {a} (drops_right n r) i = keeps_drops blank a i n r
keeps blank {a} (drops_grant n g r) i = keeps_drops_grant blank a i n g r
keeps blank {a} (drops_answer n upto readers r f) i = keeps_drops_answer blank a i n upto readers r f
keeps blank {a} (releases t c h n) i = keeps_releases blank a i t c h n
keeps blank {a} (releases_change t s h) i = keeps_releases_change blank a i t s h
keeps blank {a} (releases_to_disk t s h e) i = keeps_releases_to_disk blank a i t s h e
keeps blank {a} (releases_early t c e p h) i = keeps_releases_early blank a i t c e p h
keeps blank {a} (loses t c e h f) i = keeps_loses blank a i t c e h
keeps blank {a} (crashes n f) i = keeps_crashes blank a i n f
keeps blank {a} falls i = keeps_falls blank a i
keeps blank {a} (purges n dead s l d) i = keeps_purges blank a i n dead l d
keeps blank {a} (redoes s) i = keeps_redoes blank a i
keeps blank {a} (purges_early n e dead p d) i = keeps_purges_early blank a i n e dead p d
keeps blank {a} (buries e dead p closed) i = keeps_buries blank a i e dead p closed
keeps blank {a} (lowers n upto low readers r p q f) i = keeps_lowers blank a i n upto low readers r p q f
keeps blank {a} (reports n e p q u) i = keeps_reports blank a i n e p q
keeps blank {a} (joins n e p q f) i = keeps_joins blank a i n e p q f
keeps blank {a} (completes e o s p f) i = keeps_completes blank a i e o p f.0 f.1
keeps blank {a} (restores w p q r) i = keeps_restores blank a i w p q r
keeps blank {a} (flushes c d e p) i = keeps_flushes blank a i c d e p
keeps blank {a} (evicts n f g) i = keeps_evicts blank a i n f g
keeps blank {a} (cuts n w p) i = keeps_cuts blank a i n w p

pub opens : (blank : List ℕ) (era owner : ℕ) → Inv blank (opening blank era owner)
opens blank era owner =
    record {
      locks_hold = record {
        exclusive = λ t u e. inl refl;
        no_rights = λ t n e. refl;
        chain = λ t e f m p q l. absurd (cc);
        locks = λ t e p q. tt;
        in_era = λ t. tt;
        shelves = λ n s. absurd s;
        unlisted = λ t e p q. refl;
        ends = λ t. tt;
      };
      grants_hold = record { grants = λ g p. absurd p; asked = λ g p. absurd p; rights = λ n. tt };
      entry_holds = record { version = λ s. inl refl; changes = λ t. tt };
      stores_hold = record {
        disk_is = record { old = omega arith; same = refl };
        slots_are = λ n c e. absurd (cc);
        records = λ n v r e. absurd (cc);
        once = λ n m v r s e f. absurd (cc);
        reach = λ v p q. absurd (omega arith);
      };
      kept_holds = record { disk_behind = λ s. omega arith; in_reach = λ s. inl (omega arith); dirty_served = λ d. absurd (cc); dirty_new = λ d. absurd (cc) };
      accesses_hold = record { slots = λ t. tt; scripts = λ t. refl; serial = refl };
    }

pub keeps_run : (blank : List ℕ) {a b : Page} → Run a b → Inv blank a → Inv blank b
keeps_run blank here i = i
keeps_run blank (then r s) i = keeps blank s (keeps_run blank r i)

pub reached_holds : (blank : List ℕ) (a : Page) → Reached blank a → Inv blank a
reached_holds blank a r = keeps_run blank r.2 (opens blank r.0 r.1)

-- a run after a run
pub and_then : {a b c : Page} → Run a b → Run b c → Run a c
and_then r here = r
and_then r (then s t) = then (and_then r s) t
