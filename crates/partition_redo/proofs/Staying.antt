-- Chains on a disk with the same listed pages and the same whole records.
use Rattle.std.proofs.Common.{◌≡◌, refl, sym, ap, subst, ◌∙◌, ℕ, ◌<◌, List, [], ◌∷◌, ◌++◌, arith}
use Rattle.std.specs.Prelude.{IfOk}
use Rattle.std.specs.List.{AllByRecursion, Contains}
use Rattle.pcl_base.specs.Limits.{Sizes}
use Rattle.pcl_base.specs.declared.log.Record.{Record}
use Rattle.pcl_base.specs.declared.log.Logged.{Logged}
use Rattle.text_rules.specs.LogRecord.{records_of}
use Rattle.text_rules.specs.StoredPage.{stored_page}
use Rattle.run_rules.specs.Views.{count_from}
use Rattle.run_rules.specs.Disk.{Disk, raw_page, log_at}
use Rattle.run_rules.specs.Redo.{records_in, all_records}
use Rattle.redo_log.specs.Placed.{placed_from, placed_of}
use Rattle.redo_log.specs.Applied.{with_part}
use Rattle.redo_laws.proofs.Changes.{redo_same}
use Rattle.partition_redo.specs.declared.site.Site.{Site}
use Rattle.partition_redo.specs.declared.site.Chain.{Chain}
use Rattle.partition_redo.specs.Chains.{Stands, IsSite, AllStand, Leads, IsChain, IsNewer}
use Rattle.partition_redo.specs.Plans.{ChainsStay, EntriesStay, NewerStay}
use Rattle.partition_redo.proofs.Plans.{count_all}

-- the same whole records of each log
abbrev pub SameRecords : Sizes → Disk → Disk → Type 0
SameRecords c d e = (n : ℕ) → n < c.nodes → records_of c (log_at e n) ≡ records_of c (log_at d n)

records_alike : (c : Sizes) (d e : Disk) (ns : List ℕ) → AllByRecursion (λ n. records_of c (log_at e n) ≡ records_of c (log_at d n)) ns → records_in c e ns ≡ records_in c d ns
unfolding records_in
records_alike c d e [] all = refl
records_alike c d e (n ∷ ns) all =
    ap (λ (rs : List Record). rs ++ records_in c e ns) all.0 ∙ ap (λ (rs : List Record). records_of c (log_at d n) ++ rs) (records_alike c d e ns all.1)

all_alike : (c : Sizes) (d e : Disk) → SameRecords c d e → all_records c e ≡ all_records c d
all_alike c d e same = records_alike c d e (count_from 0 c.nodes) (count_all (λ n. records_of c (log_at e n) ≡ records_of c (log_at d n)) 0 c.nodes (λ n less. same n (omega arith)))

stands_alike : (c : Sizes) (d e : Disk) (s : Site) (x : Logged) → SameRecords c d e → Stands c d s x → Stands c e s x
unfolding placed_of
stands_alike c d e s x same h =
    let there = h.there in
    record {
      node = h.node;
      placed = h.placed;
      there = record {
        among = subst (λ (rs : List Record). Contains (placed_from 0 rs) h.placed) (sym (same s.node h.node)) there.among;
        there = there.there;
        format = there.format;
      };
      same = h.same;
    }

leads_alike : (c : Sizes) (d e : Disk) (ss : List Site) (from to : List ℕ) → SameRecords c d e → Leads c d ss from to → Leads c e ss from to
leads_alike c d e [] from to same lead = lead
leads_alike c d e (s ∷ ss) from to same lead =
    (lead.0, (stands_alike c d e s lead.0 same lead.1.0, leads_alike c d e ss (with_part lead.0.part from) to same lead.1.1))

chain_alike : (c : Sizes) (d e : Disk) (x : Chain) → raw_page e.pages x.page ≡ raw_page d.pages x.page → SameRecords c d e → IsChain c d x → IsChain c e x
chain_alike c d e x page same h =
    record {
      old = h.old;
      new = h.new;
      stored = ap (stored_page x.page) page ∙ h.stored;
      redone = redo_same c e d x.page (all_alike c d e same) page ∙ h.redone;
      version = h.version;
      leads = λ less. leads_alike c d e x.sites h.old.bytes h.new.bytes same (h.leads less);
      fresh = h.fresh;
      small = h.small;
      fits = h.fits;
    }

chains_alike : (c : Sizes) (d e : Disk) (xs : List Chain) → AllByRecursion (λ x. raw_page e.pages x.page ≡ raw_page d.pages x.page) xs → SameRecords c d e → AllByRecursion (IsChain c d) xs → AllByRecursion (IsChain c e) xs
chains_alike c d e [] pages same all = tt
chains_alike c d e (x ∷ xs) pages same all = (chain_alike c d e x pages.0 same all.0, chains_alike c d e xs pages.1 same all.1)

sites_alike : (c : Sizes) (d e : Disk) (ss : List Site) → SameRecords c d e → AllByRecursion (IsSite c d) ss → AllByRecursion (IsSite c e) ss
sites_alike c d e [] same all = tt
sites_alike c d e (s ∷ ss) same all = ((all.0.0, stands_alike c d e s all.0.0 same all.0.1), sites_alike c d e ss same all.1)

entries_alike : (c : Sizes) (d e : Disk) (xs : List Chain) → SameRecords c d e → AllStand c d xs → AllStand c e xs
entries_alike c d e [] same all = tt
entries_alike c d e (x ∷ xs) same all = (sites_alike c d e x.sites same all.0, entries_alike c d e xs same all.1)

pub chains_stay : ChainsStay
chains_stay c d e xs alike all = chains_alike c d e xs alike.pages alike.records all

pub entries_stay : EntriesStay
entries_stay c d e xs alike all = entries_alike c d e xs alike.records all

newer_alike : (d e : Disk) (xs : List Chain) → AllByRecursion (λ x. raw_page e.pages x.page ≡ raw_page d.pages x.page) xs → AllByRecursion (IsNewer d) xs → AllByRecursion (IsNewer e) xs
newer_alike d e [] pages all = tt
newer_alike d e (x ∷ xs) pages all =
    (λ has. subst (λ raw. IfOk (stored_page x.page raw) (λ old. old.version < x.version)) (sym pages.0) (all.0 has), newer_alike d e xs pages.1 all.1)

pub newer_stay : NewerStay
newer_stay c d e xs alike all = newer_alike d e xs alike.pages all
