-- What a change that is put at its place leaves of what is stored.
use Rattle.std.proofs.Common.{◌≡◌, refl, ap, sym, subst, ◌∙◌, ℕ, ◌==◌, Bool, true, false, List, [], ◌∷◌, ◌++◌, slice_index_or, slice_set, Option, Some, None, arith}
use Rattle.std.proofs.lemmas.Bool.Decides.{nat_tests}
use Rattle.pcl_base.specs.Limits.{Sizes}
use Rattle.pcl_base.specs.declared.message.Change.{Change}
use Rattle.text_rules.specs.LogRecord.{records_of}
use Rattle.text_rules.specs.StoredPage.{stored_bytes, stored_page}
use Rattle.run_rules.specs.Disk.{Disk, raw_page}
use Rattle.run_rules.specs.Redo.{entries_of}
use Rattle.node_rules.specs.BufferRule as buffer
use Rattle.node_rules.specs.BufferRule.{copy_at, dirty, is_dirty_copy}
use Rattle.node_rules.specs.DiskCalls.{DiskCall, WritePage, all_done}
use Rattle.node_rules.specs.OwnerRule.{dirty_copy, put_change}
use Rattle.node_rules.specs.Work.{HomeWork}
use Rattle.node_laws.proofs.Lists.{set_look}
use Rattle.cluster_laws.specs.Call.Calls.{BeginsWith}
use Rattle.cluster_laws.proofs.CallParts.Written.{begun, pushed as pushed_call, changed_writes}
use Rattle.page_laws.specs.Look.Buffers.{HasLeft, LetsGo, all, one, stored_copy}
use Rattle.page_protocol.specs.Bytes.{Copy, Ranges}
use Rattle.page_laws.specs.Storage.Looks.{AreRising, IsStored, copy_on, copy_read, entries_at, ranges_in}
use Rattle.page_relation.specs.Work.Letting.{CalledBy}
use Rattle.page_relation.proofs.WorkParts.Called.{pushed, changed_called}
use Rattle.page_relation.proofs.WorkParts.Letting.{logs_after, disk_same}

-- the same bytes of the page and the same logs
pub stored_same : (c : Sizes) (d f : Disk) (p : ℕ) (disk : Copy) (log : ℕ → ℕ → Option Ranges) → raw_page f.pages p ≡ raw_page d.pages p → f.logs ≡ d.logs
    → IsStored c d p disk log → IsStored c f p disk log
unfolding copy_on entries_at
stored_same c d f p disk log raw logs is =
    record {
      disk_same = ap (λ (bytes : List ℕ). copy_read (stored_page p bytes)) raw ∙ is.disk_same;
      log_same = λ n v. ap (λ (ls : List (List ℕ)). ranges_in (entries_of p (records_of c (slice_index_or ls n []))) v) logs ∙ is.log_same n v;
      rising = λ n. subst (λ (ls : List (List ℕ)). AreRising 0 (entries_of p (records_of c (slice_index_or ls n [])))) (sym logs) (is.rising n);
    }

-- copies that leave, with other calls
pub lets_calling : (p : ℕ) (calls : List DiskCall) (w x : HomeWork) → LetsGo p w x → LetsGo p w (record x { calls = calls })
lets_calling p calls w x (all _ _ alike) = all w (record x { calls = calls }) (record { rest = alike.rest; copies = alike.copies; pages = alike.pages })
lets_calling p calls w x (one _ m _ q apart unused left rest) = one w m (record x { calls = calls }) q apart unused left (lets_calling p calls m x rest)

-- they leave the page's bytes
dirty_there : (o : Option buffer.Copy) → is_dirty_copy o ≡ true → (x : buffer.Copy) × (o ≡ Some x) × (x.dirty ≡ true)
dirty_there None e = absurd (cc)
dirty_there (Some x) e = (x, refl, e)

set_other : (ps : List (List ℕ)) (q p : ℕ) (bytes : List ℕ) → (p == q) ≡ false → raw_page (slice_set ps q bytes) p ≡ raw_page ps p
set_other ps q p bytes other = set_look (λ (y : List ℕ). y ≡ raw_page ps p) [] ps q p bytes (λ same. absurd (grind (arith, nat_tests, other, same))) refl

left_raw : (p q : ℕ) (w x : HomeWork) → (p == q) ≡ false → HasLeft q w x → raw_page x.pages p ≡ raw_page w.pages p
left_raw p q w x other left = by (dirty w.home.pool q) refl
  where
    by : (b : Bool) → dirty w.home.pool q ≡ b → raw_page x.pages p ≡ raw_page w.pages p
    by false clean = ap (λ (ps : List (List ℕ)). raw_page ps p) (left.stored.unwritten clean)
    by true marked =
        let copy = dirty_there (copy_at w.home.pool q) marked in
        ap (λ (ps : List (List ℕ)). raw_page ps p) (left.stored.written copy.0 copy.1 copy.2) ∙ set_other w.pages q p (stored_bytes q (stored_copy copy.0)) other

pub lets_raw : (p : ℕ) (w x : HomeWork) → LetsGo p w x → raw_page x.pages p ≡ raw_page w.pages p
lets_raw p w x (all _ _ alike) = ap (λ (ps : List (List ℕ)). raw_page ps p) alike.pages
lets_raw p w x (one _ m _ q apart unused left rest) = lets_raw p m x rest ∙ left_raw p q w m apart left

-- the calls of a change that is put at its place
module _ (n : ℕ) (d : Disk) (q : ℕ) (x : Change) (w : HomeWork) (called : CalledBy n d w) where
  pub put_begins : BeginsWith w.calls (put_change q x w).calls
  put_begins = changed_writes w.calls q x w (begun w.calls)

  pub put_called : CalledBy n d (put_change q x w)
  put_called = changed_called n d q x w called

  pub put_logs : (all_done n d (put_change q x w).calls).logs ≡ (all_done n d w.calls).logs
  put_logs = logs_after n d w.calls (put_change q x w).calls put_begins

  -- where it is written at once, they are one page more
  pub put_stored : (put_change q x w).pages ≡ slice_set w.pages q (stored_bytes q (stored_copy (dirty_copy x)))
      → all_done n d (put_change q x w).calls ≡ all_done n d (w.calls ++ WritePage q (stored_bytes q (stored_copy (dirty_copy x))) ∷ [])
  put_stored pages =
      disk_same (all_done n d (put_change q x w).calls) (all_done n d (w.calls ++ WritePage q (stored_bytes q (stored_copy (dirty_copy x))) ∷ []))
      (sym put_called ∙ pages ∙ pushed n d w.pages w.calls q (stored_bytes q (stored_copy (dirty_copy x))) called)
      (put_logs
      ∙ sym (logs_after n d w.calls (w.calls ++ WritePage q (stored_bytes q (stored_copy (dirty_copy x))) ∷ [])
      (pushed_call w.calls w.calls q (stored_bytes q (stored_copy (dirty_copy x))) (begun w.calls))))

  -- where copies left for it, the bytes of its page are as before
  pub put_raw : (m : HomeWork) → LetsGo q w m → (put_change q x w).pages ≡ m.pages → raw_page (all_done n d (put_change q x w).calls).pages q ≡ raw_page (all_done n d w.calls).pages q
  put_raw m lets pages =
      ap (λ (ps : List (List ℕ)). raw_page ps q) (sym put_called ∙ pages) ∙ lets_raw q w m lets ∙ ap (λ (ps : List (List ℕ)). raw_page ps q) called
