-- Chains applied one after the other: what is done of them, and what is left to do.
use Rattle.std.proofs.Common.{inl, inr, ◌≡◌, refl, sym, ap, subst, ◌∙◌, ℕ, zero, suc, ◌+◌, ◌<◌, ◌≤◌, ◌^◌, List, [], ◌∷◌, ◌++◌, length, map, drop, take, Option, Some, None, Result, Ok, Err, true, false, arith}
use Rattle.std.specs.Prelude.{⊤, ◌⊎◌, slice_set, slice_index_or, IfErr, OnOk}
use Rattle.std.specs.List.{AllByRecursion}
use Rattle.std.proofs.lemmas.List.Elements.{All-set}
use Rattle.std.proofs.lemmas.Option.{get_or_from_slice_get}
use Rattle.std.proofs.Math.Seq.{drop-append_seam}
use Rattle.std.proofs.lemmas.List.{length-take}
use Rattle.pcl_base.specs.Limits.{Sizes}
use Rattle.pcl_base.specs.Faults.{Rose}
use Rattle.pcl_base.specs.declared.log.Record.{Record}
use Rattle.pcl_base.specs.declared.log.Logged.{Logged}
use Rattle.pcl_base.specs.declared.trace.Call.{Call}
use Rattle.pcl_base.specs.declared.trace.Call.TheVariants as call
use Rattle.text_rules.specs.StoredPage.{PageAt, stored_page, stored_bytes}
use Rattle.run_rules.specs.Views.{count_from}
use Rattle.run_rules.specs.Disk.{Disk, raw_page, log_at}
use Rattle.run_rules.specs.Redo.{all_records, redone, redone_if, redo}
use Rattle.disk_model.specs.Disk.{Pages, Logs, Rooms, IsIn, HasSizes, with_page}
use Rattle.disk_model.specs.Stops.{Stops, Fate, change_fate, after_change, left_by}
use Rattle.redo_log.specs.Told.{IsLog}
use Rattle.redo_log.specs.Placed.{Placed, IsPlaced}
use Rattle.redo_log.specs.Applied.{with_part, applied}
use Rattle.redo_laws.proofs.Disks.{records_of_logs}
use Rattle.partition_redo.specs.declared.site.Site.{Site}
use Rattle.partition_redo.specs.declared.site.Chain.{Chain}
use Rattle.partition_redo.specs.Chains.{IsSite, Leads, IsChain, PlannedView}
use Rattle.partition_redo.specs.Writes.{page_write, with_write, redo_page, ReadFails, FailsAt, IsUnstopped, stops_after, Ran, Wrote, with_pages}
use Rattle.partition_redo.proofs.Walking.{log_told}
use Rattle.partition_redo.proofs.Redoing.{CanRedo, step_of, redo_kept, redo_on, redo_own, write_none, write_some}

-- the logs as a disk's
logs_disk : List (List ℕ) → Disk
logs_disk l = record { pages = []; logs = l }

-- a site and those behind it, on every disk with these logs
abbrev pub AreSitesOn : Sizes → Logs → List Site → Type 0
AreSitesOn c logs ss = (d : Disk) → logs ≡ Some d.logs → AllByRecursion (IsSite c d) ss

pub site_node : (c : Sizes) (pages : Pages) (logs : Logs) (rooms : Rooms) (s : Site) (ss : List Site) → HasSizes c pages logs rooms → AreSitesOn c logs (s ∷ ss) → IsIn logs s.node
unfolding logs_disk
site_node c pages None rooms s ss sizes all = tt
site_node c pages (Some l) rooms s ss sizes all =
    let count = sizes.logs_told in
    let below = (all (logs_disk l) refl).0.1.node in
    omega arith

pub site_answered : (c : Sizes) (logs : Logs) (s : Site) (ss : List Site) (log : List ℕ) → AreSitesOn c logs (s ∷ ss) → IsLog logs s.node log → (x : Placed) × IsPlaced c log s.place s.whole x
unfolding logs_disk
site_answered c None s ss log all told = absurd (cc)
site_answered c (Some l) s ss log all told =
    let stands = (all (logs_disk l) refl).0.1 in
    let same : slice_index_or l s.node [] ≡ log = get_or_from_slice_get l s.node log [] told in
    (stands.placed, subst (λ (bs : List ℕ). IsPlaced c bs s.place s.whole stands.placed) same stands.there)

-- what one entry puts over a page leads on
pub put_lead : (c : Sizes) (d : Disk) (logs : Logs) (s : Site) (ss : List Site) (raw made to : List ℕ) → IsIn logs s.node → logs ≡ Some d.logs → 16 ≤ length raw → Leads c d (s ∷ ss) (drop 16 raw) to
    → ((log : List ℕ) (x : Placed) → IsLog logs s.node log → IsPlaced c log s.place s.whole x → made ≡ applied x.entry.part raw) → Leads c d ss (drop 16 made) to
put_lead c d logs s ss raw made to inside told long lead applies =
    let stands = lead.1.0 in
    let is = applies (log_at d s.node) stands.placed (log_told d logs s.node inside told) stands.there in
    let entry : stands.placed.entry ≡ lead.0 = stands.same in
    let front : length (take 16 raw) ≡ 16 = length-take 16 raw ∙ omega arith in
    let page : List ℕ = with_part stands.placed.entry.part (drop 16 raw) in
    let back : drop 16 (take 16 raw ++ page) ≡ page = ap (λ (n : ℕ). drop n (take 16 raw ++ page)) (sym front) ∙ drop-append_seam (take 16 raw) page in
    let same : drop 16 made ≡ with_part lead.0.part (drop 16 raw) = ap (drop 16) is ∙ back ∙ ap (λ (x : Logged). with_part x.part (drop 16 raw)) entry in
    subst (λ (bs : List ℕ). Leads c d ss bs to) (sym same) lead.1.1

-- sizes after a write of a page, and after one that may be torn
sizes_set : (c : Sizes) (pages : Pages) (logs : Logs) (rooms : Rooms) (p : ℕ) (raw : List ℕ) → HasSizes c pages logs rooms → length raw ≡ c.size + 16 → HasSizes c (with_page pages p raw) logs rooms
sizes_set c None logs rooms p raw sizes long = record { pages_told = tt; logs_told = sizes.logs_told; rooms_told = sizes.rooms_told }
sizes_set c (Some l) logs rooms p raw sizes long =
    record {
      pages_told = (set_length l p ∙ sizes.pages_told.0, All-set (λ b. length b ≡ c.size + 16) l p raw long sizes.pages_told.1);
      logs_told = sizes.logs_told;
      rooms_told = sizes.rooms_told;
    }
  where
    set_length : (xs : List (List ℕ)) (n : ℕ) → length (slice_set xs n raw) ≡ length xs
    set_length [] n = refl
    set_length (x ∷ xs) zero = refl
    set_length (x ∷ xs) (suc n) = ap suc (set_length xs n)

pub sizes_torn : (c : Sizes) (pages new : Pages) (logs : Logs) (rooms : Rooms) (p : ℕ) (raw : List ℕ) → HasSizes c pages logs rooms → length raw ≡ c.size + 16 → ((new ≡ pages) ⊎ (new ≡ with_page pages p raw)) → HasSizes c new logs rooms
sizes_torn c pages new logs rooms p raw sizes long (inl e) = subst (λ (x : Pages). HasSizes c x logs rooms) (sym e) sizes
sizes_torn c pages new logs rooms p raw sizes long (inr e) = subst (λ (x : Pages). HasSizes c x logs rooms) (sym e) (sizes_set c pages logs rooms p raw sizes long)

-- pages that aren't told stay so after a write
pub page_untold : (old new : Pages) (p : ℕ) (raw : List ℕ) → new ≡ with_page old p raw → old ≡ None → new ≡ None
page_untold old new p raw same none = same ∙ ap (λ (x : Pages). with_page x p raw) none

pub torn_untold : (old new : Pages) (p : ℕ) (raw : List ℕ) → ((new ≡ old) ⊎ (new ≡ with_page old p raw)) → old ≡ None → new ≡ None
torn_untold old new p raw (inl same) none = same ∙ none
torn_untold old new p raw (inr same) none = page_untold old new p raw same none

-- one write that was done, and one that failed
pub wrote_done : (by p : ℕ) (bytes raw : List ℕ) (l : List (List ℕ)) (old new : Pages) (before stops left : Stops) (r : Result ⊤ Call) → old ≡ Some l → before ≡ stops → raw ≡ bytes → new ≡ with_page old p raw → left ≡ after_change before by
    → ((kept : ℕ) → change_fate before by ≡ Fate.Stopped kept → false ≡ true) → r ≡ Ok tt → Wrote by p bytes l stops new left r
wrote_done by p bytes raw l old new before stops left r a b same written after fate ok =
    inr
    (inr (
      (λ kept e. absurd (let bad = fate kept (ap (λ (x : Stops). change_fate x by) b ∙ e) in cc)),
      (written ∙ ap (λ (x : Pages). with_page x p raw) a ∙ ap (λ (bs : List ℕ). Some (slice_set l p bs)) same, (after ∙ ap (λ (x : Stops). after_change x by) b, ok)),
    ))

pub wrote_torn : (by p : ℕ) (bytes raw : List ℕ) (l : List (List ℕ)) (old new : Pages) (before stops left : Stops) (r : Result ⊤ Call) → old ≡ Some l → before ≡ stops → raw ≡ bytes → ((new ≡ old) ⊎ (new ≡ with_page old p raw)) → left ≡ after_change before by
    → (change_fate before by ≡ Fate.Done → false ≡ true) → ((kept : ℕ) → change_fate before by ≡ Fate.Stopped kept → new ≡ left_by kept old (with_page old p raw)) → r ≡ Err call.Write → Wrote by p bytes l stops new left r
wrote_torn by p bytes raw l old new before stops left r a b same torn after fate kept bad =
    inr
    (inl
    (record {
      failed = bad;
      stop = after ∙ ap (λ (x : Stops). after_change x by) b;
      fate = λ e. absurd (let no_fate = fate (ap (λ (x : Stops). change_fate x by) b ∙ e) in cc);
      torn = tear torn;
      kept = λ k e. kept k (ap (λ (x : Stops). change_fate x by) b ∙ e) ∙ ap (λ (x : Pages). left_by k x (with_page x p raw)) a ∙ ap (λ (bs : List ℕ). left_by k (Some l) (Some (slice_set l p bs))) same;
    }))
  where
    tear : (new ≡ old) ⊎ (new ≡ with_page old p raw) → (new ≡ Some l) ⊎ (new ≡ Some (slice_set l p bytes))
    tear (inl e) = inl (e ∙ a)
    tear (inr e) = inr (e ∙ ap (λ (x : Pages). with_page x p raw) a ∙ ap (λ (bs : List ℕ). Some (slice_set l p bs)) same)

-- the page of a chain can be redone
pub redone_is : (c : Sizes) (d : Disk) (p : ℕ) (old new : PageAt) → stored_page p (raw_page d.pages p) ≡ Ok old → redo c d p ≡ Some new → redone (all_records c d) p old ≡ new
redone_is c d p old new stored redoes =
    let both : Some (redone (all_records c d) p old) ≡ Some new = sym (redo_own c d p ∙ ap (redone_if (all_records c d) p) stored) ∙ redoes in
    cc

pub chain_can : (c : Sizes) (d : Disk) (x : Chain) → x.page < length d.pages → IsChain c d x → CanRedo (all_records c d) d.pages x.page
chain_can c d x inside h =
    record {
      at = h.old;
      stored = h.stored;
      inside = inside;
      small = h.small;
      fits = subst (λ (v : ℕ). v < 2 ^ 64) (sym (ap (λ (a : PageAt). a.version) (redone_is c d x.page h.old h.new h.stored h.redone) ∙ h.version)) h.fits;
    }

-- the write of a chain, by its version
pub chain_none : (c : Sizes) (d : Disk) (x : Chain) → x.page < length d.pages → (h : IsChain c d x) → x.version ≤ h.old.version → page_write (all_records c d) d.pages x.page ≡ None
unfolding chain_can
chain_none c d x inside h most =
    let version = ap (λ (a : PageAt). a.version) (redone_is c d x.page h.old h.new h.stored h.redone) ∙ h.version in
    let still : (redone (all_records c d) x.page h.old).version ≤ h.old.version = omega arith in
    write_none (all_records c d) d.pages x.page (chain_can c d x inside h) still

pub chain_some : (c : Sizes) (d : Disk) (x : Chain) → x.page < length d.pages → (h : IsChain c d x) → h.old.version < x.version
    → page_write (all_records c d) d.pages x.page ≡ Some (stored_bytes x.page (record { version = x.version; bytes = h.new.bytes }))
unfolding chain_can
chain_some c d x inside h less =
    let same = redone_is c d x.page h.old h.new h.stored h.redone in
    let version = ap (λ (a : PageAt). a.version) same ∙ h.version in
    let newer : h.old.version < (redone (all_records c d) x.page h.old).version = omega arith in
    write_some (all_records c d) d.pages x.page (chain_can c d x inside h) newer
    ∙ ap (λ (a : PageAt). Some (stored_bytes x.page a)) same
    ∙ ap (λ (v : ℕ). Some (stored_bytes x.page (let a : PageAt = record { version = v; bytes = h.new.bytes } in a))) h.version

-- a chain is one of the same logs with other pages
leads_kept : (c : Sizes) (d e : Disk) (ss : List Site) (from to : List ℕ) → d.logs ≡ e.logs → Leads c d ss from to → Leads c e ss from to
leads_kept c d e [] from to same lead = lead
leads_kept c d e (s ∷ ss) from to same lead =
    let stands = lead.1.0 in (
      lead.0,
      (
        record {
          node = stands.node;
          placed = stands.placed;
          there = subst (λ (ls : List (List ℕ)). IsPlaced c (slice_index_or ls s.node []) s.place s.whole stands.placed) same stands.there;
          same = stands.same;
        },
        leads_kept c d e ss (with_part lead.0.part from) to same lead.1.1,
      ),
    )

pub chain_after : (c : Sizes) (d : Disk) (x y : Chain) → CanRedo (all_records c d) d.pages x.page → IsChain c d y → IsChain c (with_pages d (redo_page (all_records c d) d.pages x.page)) y
chain_after c d x y h k = one ((step_of (all_records c d) d.pages x.page h).others y.page)
  where
    redoes : redo c (with_pages d (redo_page (all_records c d) d.pages x.page)) y.page ≡ Some k.new
    redoes = redo_on c d (redo_page (all_records c d) d.pages x.page) y.page ∙ redo_kept (all_records c d) d.pages x.page y.page h ∙ sym (redo_own c d y.page) ∙ k.redone

    one : (y.page ≡ x.page) ⊎ (raw_page (redo_page (all_records c d) d.pages x.page) y.page ≡ raw_page d.pages y.page) → IsChain c (with_pages d (redo_page (all_records c d) d.pages x.page)) y
    one (inl same) =
        let both : Ok h.at ≡ Ok k.old = sym h.stored ∙ ap (λ (r : ℕ). stored_page r (raw_page d.pages r)) (sym same) ∙ k.stored in
        let page : h.at ≡ k.old = cc in
        let new : redone (all_records c d) x.page h.at ≡ k.new =
        ap (redone (all_records c d) x.page) page ∙ ap (λ (r : ℕ). redone (all_records c d) r k.old) (sym same) ∙ redone_is c d y.page k.old k.new k.stored k.redone in
        let version = k.version in
        record {
          old = k.new;
          new = k.new;
          stored =
              ap (λ (r : ℕ). stored_page r (raw_page (redo_page (all_records c d) d.pages x.page) r)) same
              ∙ (step_of (all_records c d) d.pages x.page h).here
              ∙ ap Ok new;
          redone = redoes;
          version = k.version;
          leads = λ less. absurd (omega (arith, less));
          fresh = λ none. omega arith;
          small = k.small;
          fits = k.fits;
        }
    one (inr same) =
        record {
          old = k.old;
          new = k.new;
          stored = ap (stored_page y.page) same ∙ k.stored;
          redone = redoes;
          version = k.version;
          leads = λ less. leads_kept c d (with_pages d (redo_page (all_records c d) d.pages x.page)) y.sites k.old.bytes k.new.bytes refl (k.leads less);
          fresh = k.fresh;
          small = k.small;
          fits = k.fits;
        }

all_chains_after : (c : Sizes) (d : Disk) (x : Chain) (ys : List Chain) → CanRedo (all_records c d) d.pages x.page → AllByRecursion (IsChain c d) ys → AllByRecursion (IsChain c (with_pages d (redo_page (all_records c d) d.pages x.page))) ys
all_chains_after c d x [] h all = tt
all_chains_after c d x (y ∷ ys) h all = (chain_after c d x y h all.0, all_chains_after c d x ys h all.1)

-- the redo of one page, by the write of it
pub ran_one : (rs : List Record) (by p : ℕ) (w : Option (List ℕ)) (pages : List (List ℕ)) (stops : Stops) (new : Pages) (left : Stops) (r : Result ⊤ Call) → page_write rs pages p ≡ w
    → (ReadFails pages stops new left r ⊎ (FailsAt by p w pages stops new left r ⊎ (IsUnstopped by w stops × ((new ≡ Some (with_write p w pages)) × ((left ≡ stops_after by w stops) × (r ≡ Ok tt)))))) → Ran rs by (p ∷ []) pages stops new left r
ran_one rs by p w pages stops new left r is ran =
    subst (λ (v : Option (List ℕ)). ReadFails pages stops new left r ⊎ (FailsAt by p v pages stops new left r ⊎ (IsUnstopped by v stops × ((new ≡ Some (with_write p v pages)) × ((left ≡ stops_after by v stops) × (r ≡ Ok tt)))))) (sym is) ran

-- what is done of some chains, and what is left
pub record HasRun (c : Sizes) (d : Disk) (by : ℕ) (all rest : List Chain) (first : Stops) (pages : Pages) (stops : Stops) : Type 0 where
  pub now : List (List ℕ)
  pub told : pages ≡ Some now
  pub chains : AllByRecursion (IsChain c (with_pages d now)) rest
  pub ran : (new : Pages) (left : Stops) (r : Result ⊤ Call) → Ran (all_records c d) by (map (λ x. x.page) rest) now stops new left r → Ran (all_records c d) by (map (λ x. x.page) all) d.pages first new left r

records_kept : (c : Sizes) (d : Disk) (pages : List (List ℕ)) → all_records c (with_pages d pages) ≡ all_records c d
records_kept c d pages = records_of_logs c (with_pages d pages) d (count_from 0 c.nodes) refl

-- before the first
pub has_run_none : (c : Sizes) (d : Disk) (by : ℕ) (all : List Chain) (first : Stops) (pages : Pages) → pages ≡ Some d.pages → AllByRecursion (IsChain c d) all → HasRun c d by all all first pages first
has_run_none c d by all first pages told chains = record { now = d.pages; told = told; chains = chains; ran = λ new left r ran. ran }

-- after the last
pub has_run_all : (c : Sizes) (d : Disk) (by : ℕ) (all : List Chain) (first : Stops) (pages : Pages) (stops : Stops) (r : Result ⊤ Call) → HasRun c d by all [] first pages stops → r ≡ Ok tt → Ran (all_records c d) by (map (λ x. x.page) all) d.pages first pages stops r
has_run_all c d by all first pages stops r h ok = h.ran pages stops r (h.told, (refl, ok))

-- one more was done
pub has_run_more : (c : Sizes) (d : Disk) (by : ℕ) (all rest : List Chain) (x : Chain) (first : Stops) (pages new : Pages) (stops left : Stops) (r : Result ⊤ Call) → (h : HasRun c d by all (x ∷ rest) first pages stops) → x.page < length h.now
    → Ran (all_records c (with_pages d h.now)) by (x.page ∷ []) h.now stops new left r → r ≡ Ok tt → HasRun c d by all rest first new left
has_run_more c d by all rest x first pages new stops left r h inside ran ok = one (subst (λ (rs : List Record). Ran rs by (x.page ∷ []) h.now stops new left r) same ran)
  where
    same : all_records c (with_pages d h.now) ≡ all_records c d
    same = records_kept c d h.now

    can : CanRedo (all_records c (with_pages d h.now)) h.now x.page
    can = chain_can c (with_pages d h.now) x inside h.chains.0

    after : AllByRecursion (IsChain c (with_pages d (redo_page (all_records c d) h.now x.page))) rest
    after =
        subst (λ (rs : List Record). AllByRecursion (IsChain c (with_pages d (redo_page rs h.now x.page))) rest) same (all_chains_after c (with_pages d h.now) x rest can h.chains.1)

    no_fault : (w : Option (List ℕ)) → FailsAt by x.page w h.now stops new left r → HasRun c d by all rest first new left
    no_fault None f = absurd f
    no_fault (Some bytes) f = let bad : Ok tt ≡ Err call.Write = sym ok ∙ f.failed in absurd (cc)

    no_read : (q : Result ⊤ Call) → q ≡ Ok tt → ReadFails h.now stops new left q → HasRun c d by all rest first new left
    no_read (Ok u) e f = absurd f.failed
    no_read (Err k) e f = absurd (cc)

    one : Ran (all_records c d) by (x.page ∷ []) h.now stops new left r → HasRun c d by all rest first new left
    one (inl f) = no_read r ok f
    one (inr (inl f)) = no_fault (page_write (all_records c d) h.now x.page) f
    one (inr (inr goes)) =
        record {
          now = redo_page (all_records c d) h.now x.page;
          told = goes.1.0;
          chains = after;
          ran = λ more last q ran. h.ran more last q (inr (inr (goes.0, subst (λ (s : Stops). Ran (all_records c d) by (map (λ x. x.page) rest) (redo_page (all_records c d) h.now x.page) s more last q) goes.1.1.0 ran)));
        }

-- one failed, which ends it
pub has_run_failed : (c : Sizes) (d : Disk) (by : ℕ) (all rest : List Chain) (x : Chain) (first : Stops) (pages new : Pages) (stops left : Stops) (k : Call) → (h : HasRun c d by all (x ∷ rest) first pages stops)
    → Ran (all_records c (with_pages d h.now)) by (x.page ∷ []) h.now stops new left (Err k) → Ran (all_records c d) by (map (λ x. x.page) all) d.pages first new left (Err k)
has_run_failed c d by all rest x first pages new stops left k h ran = h.ran new left (Err k) (one (subst (λ (rs : List Record). Ran rs by (x.page ∷ []) h.now stops new left (Err k)) (records_kept c d h.now) ran))
  where
    one : Ran (all_records c d) by (x.page ∷ []) h.now stops new left (Err k) → Ran (all_records c d) by (x.page ∷ map (λ x. x.page) rest) h.now stops new left (Err k)
    one (inl f) = inl f
    one (inr (inl f)) = inr (inl f)
    one (inr (inr goes)) = let bad : Err k ≡ Ok tt = goes.1.1.1 in absurd (cc)

-- a page of a told storage
pub pages_inside : (c : Sizes) (pages : Pages) (logs : Logs) (rooms : Rooms) (l : List (List ℕ)) (p : ℕ) → HasSizes c pages logs rooms → pages ≡ Some l → p < c.pages → p < length l
pages_inside c None logs rooms l p sizes told below = absurd (cc)
pages_inside c (Some m) logs rooms l p sizes told below =
    let same : m ≡ l = cc in
    let count = ap length same in
    let all = sizes.pages_told.0 in
    omega arith

-- a count that rose from a later number rose
pub cause_later : (before mid now : ℕ) (k : Call) (r : Result ⊤ Call) → before ≤ mid → IfErr r (λ e. e ≡ k → Rose mid now) → IfErr r (λ e. e ≡ k → Rose before now)
cause_later before mid now k (Ok u) less h = h
cause_later before mid now k (Err e) less h = λ same. one (h same)
  where
    one : Rose mid now → Rose before now
    one (inl rose) = inl (omega (arith, rose))
    one (inr last) = inr last

-- what holds where a result is Ok
pub on_ok : {P : Type 0} (r : Result ⊤ Call) → ((u : ⊤) → r ≡ Ok u → P) → OnOk r P
on_ok (Ok u) f = f u refl
on_ok (Err k) f = tt

-- the pages of chains can be redone
pub chains_can : (c : Sizes) (d : Disk) (pages : Pages) (logs : Logs) (rooms : Rooms) (xs : List Chain) → HasSizes c pages logs rooms → pages ≡ Some d.pages → AllByRecursion (λ x. x.page < c.pages) xs → AllByRecursion (IsChain c d) xs
    → AllByRecursion (CanRedo (all_records c d) d.pages) (map (λ x. x.page) xs)
chains_can c d pages logs rooms [] sizes told below all = tt
chains_can c d pages logs rooms (x ∷ xs) sizes told below all =
    (chain_can c d x (pages_inside c pages logs rooms d.pages x.page sizes told below.0) all.0, chains_can c d pages logs rooms xs sizes told below.1 all.1)

-- the pages of a plan are below the configuration's, as its value has them
pub planned_below : (p q : PlannedView) → p ≡ q → AllByRecursion (λ x. x.page < p.config.pages) p.chains → AllByRecursion (λ x. x.page < q.config.pages) q.chains
planned_below p q same below = subst (λ (r : PlannedView). AllByRecursion (λ x. x.page < r.config.pages) r.chains) same below
