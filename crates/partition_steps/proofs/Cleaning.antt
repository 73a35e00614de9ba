-- The copies of written pages, which are clean then.
use Rattle.std.proofs.Common.{◌≡◌, ℕ, nat_lt, Bool, true, false, cond, List, [], ◌∷◌, ◌++◌, map, Some, None, is_some, Result, Ok, Err, refl, ap, sym, ◌∙◌, append-nil}
use Rattle.std.specs.List.{AllByRecursion, filter}
use Rattle.std.proofs.lemmas.List.{append_assoc, map-append}
use Rattle.pcl_base.specs.declared.log.Record.{Record}
use Rattle.text_rules.specs.StoredPage.{PageAt, BadNumber, stored_page, stored_bytes}
use Rattle.run_rules.specs.Disk.{Disk, raw_page}
use Rattle.run_rules.specs.Redo.{redone, all_records}
use Rattle.run_rules.specs.Words.{pick as pick_written}
use Rattle.node_rules.specs.Words.{pick}
use Rattle.node_rules.specs.DiskCalls.{DiskCall}
use Rattle.node_rules.specs.NodeState.{HomeState}
use Rattle.node_rules.specs.Work.{HomeWork, Work, with_home, with_home_work, work_of_home}
use Rattle.home.specs.Moves.{MoveListView, Lists}
use Rattle.install_laws.specs.InstallPlans.{PageWrite, PartitionPlan, turn_over, turned, write_all, write_one}
use Rattle.partition_redo.specs.Chains.{IsChain, IsNewer, PlannedView, written_pages}
use Rattle.partition_redo.specs.Writes.{page_write, write_of}
use Rattle.partition_redo.proofs.Written.{newer_are_written}
use Rattle.page_owner.specs.Carry.{SameNode}
use Rattle.page_owner.specs.Writes.{after_calls}
use Rattle.install_plans.specs.Plans.{writes_by, writes_of, write_of as planned_of}
use Rattle.partition_steps.specs.Carried.{cleaned, write_call}

-- the home's part of a work with some pages written
abbrev pub wrote : List PageWrite → HomeWork → HomeWork
wrote ws w =
    record {
      home = cleaned w.home (map (λ (x : PageWrite). x.page) ws);
      pages = after_calls w.pages (map write_call ws);
      calls = w.calls ++ map write_call ws;
    }

pub all_written : (ws : List PageWrite) (w : HomeWork) → write_all ws w ≡ wrote ws w
unfolding write_all
all_written [] w = ap (λ (l : List DiskCall). let x : HomeWork = record { home = w.home; pages = w.pages; calls = l } in x) (sym (append-nil w.calls))
all_written (x ∷ xs) w =
    all_written xs (write_one x w)
    ∙ ap (λ (l : List DiskCall). record (wrote (x ∷ xs) w) { calls = l }) (append_assoc w.calls (write_call x ∷ []) (map write_call xs))

-- what the home has of a partition turned over, and the pages written
pub turned_over : (q : ℕ) (plan : PartitionPlan) (w : Work) → turn_over q plan w ≡ with_home_work w (wrote plan.writes (work_of_home (with_home w (turned plan.turnover q w.node.home))))
turned_over q plan w = ap (with_home_work w) (all_written plan.writes (work_of_home (with_home w (turned plan.turnover q w.node.home))))

-- the pages that are written are those of which redo writes something
page_of : (rs : List Record) (p : ℕ) (o : Result PageAt BadNumber) (ps : List ℕ)
    → map (λ (x : PageWrite). x.page) (planned_of rs p o) ++ ps ≡ cond (is_some (write_of rs p o)) (p ∷ ps) ps
page_of rs p (Err bad) ps = refl
page_of rs p (Ok old) ps = by (nat_lt old.version (redone rs p old).version)
  where
    by : (b : Bool) → map (λ (x : PageWrite). x.page) (pick b (record { page = p; at = redone rs p old } ∷ []) []) ++ ps
        ≡ cond (is_some (pick_written b (Some (stored_bytes p (redone rs p old))) None)) (p ∷ ps) ps
    by true = refl
    by false = refl

pages_of_writes : (rs : List Record) (pages : List (List ℕ)) (ps : List ℕ) → map (λ (x : PageWrite). x.page) (writes_of rs pages ps) ≡ filter (λ p. is_some (page_write rs pages p)) ps
unfolding writes_of
pages_of_writes rs pages [] = refl
pages_of_writes rs pages (p ∷ ps) =
    map-append (λ (x : PageWrite). x.page) (planned_of rs p (stored_page p (raw_page pages p))) (writes_of rs pages ps)
    ∙ ap (λ (l : List ℕ). map (λ (x : PageWrite). x.page) (planned_of rs p (stored_page p (raw_page pages p))) ++ l) (pages_of_writes rs pages ps)
    ∙ page_of rs p (stored_page p (raw_page pages p)) (filter (λ q. is_some (page_write rs pages q)) ps)

pub pages_written : (d : Disk) (r : PlannedView) → AllByRecursion (IsChain r.config d) r.chains → AllByRecursion (IsNewer d) r.chains → written_pages r.chains ≡ map (λ (x : PageWrite). x.page) (writes_by d (Some r))
pages_written d r chains newer =
    newer_are_written r.config d r.chains chains newer ∙ sym (pages_of_writes (all_records r.config d) d.pages (map (λ x. x.page) r.chains))

-- clean copies change neither the node nor what moves need
pub cleaned_same : (ps : List ℕ) (h : HomeState) → SameNode h (cleaned h ps)
cleaned_same [] h = record { config = refl; node = refl; born = refl }
cleaned_same (p ∷ ps) h = let rest = cleaned_same ps (cleaned h (p ∷ [])) in record { config = rest.config; node = rest.node; born = rest.born }

pub cleaned_listed : (list : MoveListView) (ps : List ℕ) (h : HomeState) → Lists list h → Lists list (cleaned h ps)
cleaned_listed list [] h lists = lists
cleaned_listed list (p ∷ ps) h lists = cleaned_listed list ps (cleaned h (p ∷ [])) (record { txs = lists.txs; rights = lists.rights })
