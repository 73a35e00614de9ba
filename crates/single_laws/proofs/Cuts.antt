-- The log of a node that is alone is cut from its front: no page is read that differs.
use Rattle.std.proofs.Common.{◌≡◌, refl, sym, ap, subst, ◌∙◌, ℕ, zero, suc, ◌+◌, ◌≤◌, ◌==◌, nat_lt, nat_le, Bool, true, false, List, [], ◌∷◌, length, arith}
use Rattle.std.proofs.lemmas.Bool.Decides.{nat_tests}
use Rattle.pcl_base.specs.Limits.{Sizes}
use Rattle.pcl_base.specs.declared.event.Event.TheVariants as event
use Rattle.pcl_base.specs.declared.log.Record.{Record}
use Rattle.pcl_base.specs.declared.log.Logged.{Logged}
use Rattle.pcl_base.specs.declared.reply.Reply.TheVariants as reply
use Rattle.text_rules.specs.StoredPage.{stored_page, unwritten}
use Rattle.text_rules.specs.LogRecord.{record_bytes, records_of}
use Rattle.run_rules.specs.Disk.{Disk, raw_page, log_at}
use Rattle.run_rules.specs.Now.{Story}
use Rattle.node_rules.specs.LockTable.{LockTable}
use Rattle.node_rules.specs.NodeState.{HomeState}
use Rattle.node_rules.specs.NodeState as node
use Rattle.node_rules.specs.CutRule.{further_if, on_disk, count_if, records_on_disk, cuttable}
use Rattle.node_rules.specs.DiskCalls.{done, all_done}
use Rattle.node_rules.specs.Refusals.{refusal}
use Rattle.node_rules.specs.Work.{Outcome, Goes, and_then, and_so, page_or_differs, reply as with_reply}
use Rattle.node_rules.specs.NodeStep.{plan_of, begin_work, cut_if, cut_front, do_event, nodestep}
use Rattle.single_laws.proofs.Told.{cut_fits}
use Rattle.single_laws.proofs.Redone.{Redone, redone_cut}
use Rattle.single_laws.proofs.Pages.{Readable}
use Rattle.single_laws.proofs.Alone.{Alone, node_of, StepOk, alone_again}
use Rattle.single_laws.proofs.Nodes.{by_refusal}

-- nothing is read that differs
abbrev HasGone : {X : Type 0} → Outcome X → Type 0
HasGone {X} o = (x : X) × (o ≡ Goes x)

module _ (pages : List (List ℕ)) (readable : (p : ℕ) → Readable pages p) where
  disk_goes : (xs : List Logged) → HasGone (on_disk pages xs)
  unfolding on_disk
  disk_goes [] = (true, refl)
  disk_goes (x ∷ xs) =
      let read = readable x.page in
      let rest = by (nat_le x.version read.0.version) (disk_goes xs) in
      (rest.0, ap (λ o. and_then o (λ at. further_if (nat_le x.version at.version) (on_disk pages xs))) read.1 ∙ rest.1)
    where
      by : (b : Bool) → HasGone (on_disk pages xs) → HasGone (further_if b (on_disk pages xs))
      by true rest = rest
      by false rest = (false, refl)

  records_go : (rs : List Record) → HasGone (records_on_disk pages rs)
  unfolding records_on_disk
  records_go [] = (0, refl)
  records_go (r ∷ rs) =
      let first = disk_goes r.changes in
      let rest = by first.0 (records_go rs) in
      (rest.0, ap (λ o. and_then o (count_if (length (record_bytes r)) (records_on_disk pages rs))) first.1 ∙ rest.1)
    where
      by : (b : Bool) → HasGone (records_on_disk pages rs) → HasGone (count_if (length (record_bytes r)) (records_on_disk pages rs) b)
      by true rest = (length (record_bytes r) + rest.0, ap (λ o. and_so o (λ m. length (record_bytes r) + m)) rest.1)
      by false rest = (0, refl)

-- no page stands past the last
past_raw : (pages : List (List ℕ)) (p : ℕ) → length pages ≤ p → raw_page pages p ≡ []
past_raw [] p h = refl
past_raw (x ∷ pages) zero h = absurd (omega arith)
past_raw (x ∷ pages) (suc p) h = past_raw pages p (omega arith)

module _ (c : Sizes) (few : c.pages ≤ 65536) (one : c.nodes ≡ 1) (h : HomeState) (tb : LockTable) (d : Disk) (s : Story) (alone : Alone c h tb d s) where
  all_readable : (p : ℕ) → Readable d.pages p
  all_readable p = by (nat_lt p c.pages) refl
    where
      by : (b : Bool) → nat_lt p c.pages ≡ b → Readable d.pages p
      by true e = alone.kept.pages.readable p (grind (arith, nat_tests))
      by false e =
          let count = alone.kept.pages.count in
          (unwritten [], ap (λ bs. page_or_differs p (stored_page p bs)) (past_raw d.pages p (grind (arith, nat_tests))))

  -- the pages are as before
  same_pages : (none : Bool) (n : ℕ) → (all_done 0 d (cut_if none n (begin_work (node_of c h tb) d)).calls).pages ≡ d.pages
  unfolding done
  same_pages true n = refl
  same_pages false n = refl

  -- and what redo makes of them
  still_redone : (none : Bool) (n : ℕ) → cuttable h.config d.pages (log_at d h.txs.node) ≡ Goes n → Redone c alone.base (all_done 0 d (cut_if none n (begin_work (node_of c h tb) d)).calls)
  unfolding done
  still_redone true n goes = alone.kept.pages.redone
  still_redone false n goes =
      redone_cut c one alone.base d n (ap (λ (x : Sizes). cuttable x d.pages (log_at d 0)) (sym alone.kept.config) ∙ ap (λ m. cuttable h.config d.pages (log_at d m)) (sym alone.kept.node) ∙ goes) alone.kept.pages.redone

  cut_alone : (none : Bool) (n : ℕ) → cuttable h.config d.pages (log_at d h.txs.node) ≡ Goes n → Alone c h tb (all_done 0 d (cut_if none n (begin_work (node_of c h tb) d)).calls) s
  cut_alone none n goes =
      alone_again c alone.base d s (record { home = h; pages = d.pages; calls = (cut_if none n (begin_work (node_of c h tb) d)).calls }) tb alone.home
      (record {
        config = alone.kept.config;
        node = alone.kept.node;
        born = alone.kept.born;
        known = alone.kept.known;
        fine = alone.kept.fine;
        pages =
            record {
              pages = alone.kept.pages.pages;
              raw = alone.kept.pages.raw;
              count = alone.kept.pages.count;
              readable = alone.kept.pages.readable;
              redone = still_redone none n goes;
              done = same_pages none n;
            };
        serials = alone.kept.serials;
        later = alone.kept.later;
      })
      alone.serving alone.who

  cut_is : (m n : ℕ) → cuttable h.config d.pages (log_at d h.txs.node) ≡ Goes n → StepOk c (event.Cut m) s d (Goes (plan_of (cut_front (begin_work (node_of c h tb) d) n)))
  cut_is m n goes = by (n == 0)
    where
      by : (none : Bool) → StepOk c (event.Cut m) s d (Goes (plan_of (with_reply (reply.Cut n) (cut_if none n (begin_work (node_of c h tb) d)))))
      by true few_open = record { home = h; table = tb; node = refl; quiet = refl; fits = λ sent. cut_fits s alone.base m n sent _ alone.kept.known (cut_alone true n goes) }
      by false few_open = record { home = h; table = tb; node = refl; quiet = refl; fits = λ sent. cut_fits s alone.base m n sent _ alone.kept.known (cut_alone false n goes) }

  pub cut_step : (m : ℕ) → StepOk c (event.Cut m) s d (nodestep (node_of c h tb) node.Cut d)
  unfolding nodestep refusal do_event cuttable
  cut_step m =
      by_refusal c few one h tb d s alone (event.Cut m) node.Cut (refusal (node_of c h tb) node.Cut) refl
      (λ none.
      let x = records_go d.pages all_readable (records_of h.config (log_at d h.txs.node)) in
      subst (λ o. StepOk c (event.Cut m) s d (and_so (and_so o (cut_front (begin_work (node_of c h tb) d))) plan_of)) (sym x.1) (cut_is m x.0 x.1))
