-- What an index of listed pages knows, page by page and version by version. From next_base to
-- known_logs these serve only contracts of functions inside this crate.
use Rattle.std.specs.Prelude.{ℕ, ◌+◌, ◌-◌, ◌==◌, ◌&&◌, not, nat_lt, nat_eq, Bool, List, slice_index_or, Option, Some, None}
use Rattle.std.specs.List.{fold}
use Rattle.std.specs.Map.{lookup}
use Rattle.pcl_base.specs.Limits.{Sizes}
use Rattle.pcl_base.specs.declared.log.Seen.{Seen}
use Rattle.partition_redo.specs.declared.site.Site.{Site}
use Rattle.partition_redo.specs.declared.site.Base.{Base}
use Rattle.run_rules.specs.Words.{pick}
use Rattle.run_rules.specs.Disk.{Disk, log_at}
use Rattle.redo_log.specs.Placed.{Placed, seen_of, placed_of}

-- the first changed ranges of versions of a page, with a place for each version behind one
pub record NearView : Type 0 where
  pub from : ℕ
  pub slots : List (Option Site)

-- for page and version the first changed ranges: of each page a list, and those that are far
pub record NotedView : Type 0 where
  pub near : List (ℕ × NearView)
  pub far : List ((ℕ × ℕ) × Site)

-- the newest whole page of each listed page, and for page and version the first changed ranges
pub record IndexView : Type 0 where
  pub bases : List (ℕ × Base)
  pub ranges : NotedView

-- whether two pairs are of one page and version
abbrev pub same_pair : ℕ × ℕ → ℕ × ℕ → Bool
same_pair x y = x.0 == y.0 && x.1 == y.1

-- the newest whole page of page p, where that is listed
abbrev pub base_of : IndexView → ℕ → Option Base
base_of i p = lookup (nat_eq p) i.bases

-- where an answer of the walk over the log of node n stands
abbrev pub site_of : ℕ → Seen → Site
site_of n x = record { node = n; place = x.place; whole = x.whole }

-- the first of two, if there is one
abbrev pub or_else : {X : Type 0} → Option X → Option X → Option X
or_else None y = y
or_else (Some x) y = Some x

-- the changed ranges at version v in the list of a page
abbrev pub near_at : NearView → ℕ → Option Site
near_at n v = pick (nat_lt n.from v) (slice_index_or n.slots (v - (n.from + 1)) None) None

-- and where the page has a list
abbrev pub near_in : Option NearView → ℕ → Option Site
near_in None v = None
near_in (Some n) v = near_at n v

-- the changed ranges of page p at version v
abbrev pub noted_in : NotedView → ℕ → ℕ → Option Site
noted_in n p v = or_else (lookup (same_pair (p, v)) n.far) (near_in (lookup (nat_eq p) n.near) v)

-- and where an index has them
abbrev pub ranges_of : IndexView → ℕ → ℕ → Option Site
ranges_of i p v = noted_in i.ranges p v

-- the newest whole page after one more answer
abbrev pub next_base : ℕ → ℕ → Seen → Option Base → Option Base
next_base p n x None = None
next_base p n x (Some b) =
    pick (x.page == p && nat_lt b.version x.version && x.whole) (Some (record { version = x.version; image = Some (site_of n x) })) (Some b)

-- the changed ranges at version v after one more answer
abbrev pub next_ranges : ℕ → ℕ → ℕ → Seen → Option Base → Option Site → Option Site
next_ranges p v n x None o = o
next_ranges p v n x (Some b) o =
    or_else o (pick (x.page == p && x.version == v && nat_lt b.version x.version && not x.whole) (Some (site_of n x)) None)

-- what is known of a page and a version
pub record Known : Type 0 where
  pub base : Option Base
  pub ranges : Option Site

-- what an index knows of them
abbrev pub known : IndexView → ℕ → ℕ → Known
known i p v = record { base = base_of i p; ranges = ranges_of i p v }

-- after one more answer
abbrev pub next_known : ℕ → ℕ → ℕ → Seen → Known → Known
next_known p v n x k = record { base = next_base p n x k.base; ranges = next_ranges p v n x k.base k.ranges }

-- after the answers of a walk over the log of node n
abbrev pub known_all : ℕ → ℕ → ℕ → List Placed → Known → Known
known_all p v n xs k = fold (λ k x. next_known p v n (seen_of x) k) k xs

-- after the walks over some logs
abbrev pub known_logs : Sizes → Disk → ℕ → ℕ → List ℕ → Known → Known
known_logs c d p v ns k = fold (λ k n. known_all p v n (placed_of c (log_at d n)) k) k ns

-- changed ranges that are noted for a page and a version
abbrev pub noted_at : ℕ → ℕ → Site → ℕ → ℕ → Option Site
noted_at page version site p v = pick (page == p && version == v) (Some site) None
