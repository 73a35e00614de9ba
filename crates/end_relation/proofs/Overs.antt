-- What is seen of the work once a transaction was closed and answered.
use Rattle.std.proofs.Common.{◌≡◌, refl, sym, ap, ◌∙◌, ℕ, ◌≤◌, ◌==◌, ◌&&◌, Bool, true, false, List, [], ◌∷◌, ◌++◌, length, Option, Some, None, is_some, arith, append-nil}
use Rattle.std.proofs.lemmas.Bool.Decides.{nat_tests}
use Rattle.pcl_base.specs.declared.reply.Reply.{Reply}
use Rattle.pcl_base.specs.declared.tx.TxId.{TxId}
use Rattle.text_rules.specs.LogRecord.{record_bytes}
use Rattle.run_rules.specs.Views.{View}
use Rattle.node_rules.specs.BufferRule.{Copy, copy_at, cleaned}
use Rattle.node_rules.specs.DiskCalls.{DiskCall, Force}
use Rattle.node_rules.specs.EndRule.{Ending, Closed, commit, abort, commit_record, pages_written, endings, force_if}
use Rattle.pcl_base.specs.Limits.{Sizes}
use Rattle.node_rules.specs.NodeState.{HomeState, NodeState, table_of, table_at, partition}
use Rattle.node_rules.specs.OpenTxs.{OpenTx, with_serial, is_own, is_open, pending_of}
use Rattle.node_rules.specs.OwnerRule.{clean_unserved, is_unserved}
use Rattle.node_rules.specs.Words.{pick}
use Rattle.node_rules.specs.Work.{HomeWork, Work, work_of_home, with_home_work}
use Rattle.rule_laws.proofs.Turns.{and_left, and_right}
use Rattle.home_laws.specs.Homes.{AreSerials, IsHome}
use Rattle.home_laws.proofs.Opens.{open_is_own}
use Rattle.home_laws.proofs.Serials.{serials_below}
use Rattle.page_laws.specs.Look.Ends.{IsWithoutTx, committed_copy}
use Rattle.page_laws.proofs.LookParts.Closing.{abort_is_seen_law, commit_is_seen_law}
use Rattle.cluster_rules.specs.Clusters.{Cluster}
use Rattle.page_relation.specs.Homes.{is_unborn}
use Rattle.page_relation.specs.Work.StepEnds.{start_of}
use Rattle.end_relation.specs.Over.{changes, reply_of, closed_of, over_of}
use Rattle.end_relation.proofs.Cleaned.{AreClean, all_clean, without_beside}
use Rattle.end_relation.proofs.Closing.{IsOver}

-- a transaction that may end
pub record MayClose (b : Bool) (s : NodeState) (t : TxId) : Type 0 where
  pub home : IsHome s.home
  pub view : View
  pub in_view : s.view ≡ Some view
  pub there : is_open s.home.txs t ≡ true
  pub waits : b ≡ true → pending_of s.home.txs t ≡ None

-- the copy that it leaves of a page
abbrev pub left_copy : Bool → HomeState → TxId → ℕ → Option Copy
left_copy true h t q = committed_copy h t q
left_copy false h t q = copy_at h.pool q

-- the calls that it makes
abbrev pub end_calls : Bool → HomeState → TxId → List DiskCall
end_calls true h t = pick (length (pages_written h t) == 0) [] (Force t (record_bytes (commit_record h t)) ∷ [])
end_calls false h t = []

-- what is seen of the home's part
record IsClosedOff (b : Bool) (t : TxId) (w : HomeWork) (x : Closed) : Type 0 where
  home : IsWithoutTx t w.home x.work.home
  copies : (q : ℕ) → copy_at x.work.home.pool q ≡ left_copy b w.home t q
  pages : x.work.pages ≡ w.pages
  calls : x.work.calls ≡ w.calls ++ end_calls b w.home t
  told : x.endings ≡ endings w.home t b

forced_calls : (e : Bool) (t : TxId) (bytes : List ℕ) (w : HomeWork) → (force_if e t bytes w).calls ≡ w.calls ++ pick e [] (Force t bytes ∷ [])
forced_calls true t bytes w = sym (append-nil w.calls)
forced_calls false t bytes w = refl

closed_off : (b : Bool) (t : TxId) (w : HomeWork) → IsHome w.home → is_open w.home.txs t ≡ true → (b ≡ true → pending_of w.home.txs t ≡ None) → IsClosedOff b t w (closed_of b t w)
unfolding commit abort
closed_off true t w is there waits =
    let seen = commit_is_seen_law t w is there (waits refl) in
    record {
      home = seen.home;
      copies = seen.copies;
      pages = seen.pages;
      calls = forced_calls (length (pages_written w.home t) == 0) t (record_bytes (commit_record w.home t)) w;
      told = refl;
    }
closed_off false t w is there waits =
    let seen = abort_is_seen_law t w is there in record { home = seen.home; copies = seen.copies; pages = seen.pages; calls = sym (append-nil w.calls); told = refl }

-- ---- an open transaction was begun

serial_low : (low last serial : ℕ) (xs : List OpenTx) → AreSerials low last xs → is_some (with_serial xs serial) ≡ true → serial ≤ last
unfolding with_serial
serial_low low last serial [] all there = absurd (cc)
serial_low low last serial (x ∷ xs) all there = by (x.serial == serial) refl there (serial_low x.serial last serial xs all.1)
  where
    by : (d : Bool) → (x.serial == serial) ≡ d → is_some (pick d (Some x) (with_serial xs serial)) ≡ true → (is_some (with_serial xs serial) ≡ true → serial ≤ last) → serial ≤ last
    by true same is rest = let upto = serials_below x.serial last xs all.1 in let at : x.serial ≡ serial = grind (arith, nat_tests, same) in omega (arith, upto, at)
    by false other is rest = rest is

open_born : (s : NodeState) (t : TxId) → IsHome s.home → is_open s.home.txs t ≡ true → (v : View) → is_unborn (Some v) s t ≡ false
open_born s t is there v = grind (arith, nat_tests, born, serial)
  where
    own : is_own s.home.txs t ≡ true
    own = open_is_own s.home.txs t there

    born : (t.born == s.home.txs.born) ≡ true
    born = and_right (t.node == s.home.txs.node) (t.born == s.home.txs.born) own

    serial : t.serial ≤ s.home.txs.last
    serial =
        serial_low 0 s.home.txs.last t.serial s.home.txs.txs is.txs.serials
        (sym (ap (λ (d : Bool). is_some (pick d (with_serial s.home.txs.txs t.serial) None)) own) ∙ there)

-- ---- the whole

-- the work, part by part
pub record IsOverWork (b : Bool) (t : TxId) (c : Cluster) (s : NodeState) (x : Work) : Type 0 where
  pub over : IsOver t s x
  pub copies : (q : ℕ) → copy_at x.node.home.pool q ≡ pick (changes q (endings s.home t b) && is_unserved (table_of s q)) (cleaned (left_copy b s.home t q)) (left_copy b s.home t q)
  pub pages : x.pages ≡ c.disk.pages
  pub calls : x.calls ≡ end_calls b s.home t
  pub replies : x.replies ≡ reply_of b t ∷ []
  pub sends : x.sends ≡ []

pub over_is : (b : Bool) (t : TxId) (c : Cluster) (s : NodeState) → MayClose b s t → IsOverWork b t c s (over_of b t c s)
over_is b t c s may =
    record {
      over =
          record {
            home = without_beside t s.home x.work.home (clean_unserved x.endings m).node.home seen.home clean.rest;
            epoch = clean.epoch;
            view = clean.view;
            tables = clean.tables;
            born = ap (λ (o : Option View). is_unborn o s t) may.in_view ∙ open_born s t may.home may.there may.view;
            mine = and_left (t.node == s.home.txs.node) (t.born == s.home.txs.born) (open_is_own s.home.txs t may.there);
          };
      copies = λ q.
          clean.copies q
          ∙ ap (λ (o : Option Copy). pick (changes q x.endings && is_unserved (table_of m.node q)) (cleaned o) o) (seen.copies q)
          ∙ ap (λ (es : List Ending). pick (changes q es && is_unserved (table_of m.node q)) (cleaned (left_copy b s.home t q)) (left_copy b s.home t q)) seen.told
          ∙ ap (λ (k : Sizes). pick (changes q (endings s.home t b) && is_unserved (table_at s (partition k q))) (cleaned (left_copy b s.home t q)) (left_copy b s.home t q)) seen.home.config;
      pages = clean.pages ∙ seen.pages;
      calls = clean.calls ∙ seen.calls;
      replies = ap (λ (rs : List Reply). rs ++ reply_of b t ∷ []) clean.replies;
      sends = clean.sends;
    }
  where
    x : Closed
    x = closed_of b t (work_of_home (start_of c s))

    m : Work
    m = with_home_work (start_of c s) x.work

    seen : IsClosedOff b t (work_of_home (start_of c s)) x
    seen = closed_off b t (work_of_home (start_of c s)) may.home may.there may.waits

    clean : AreClean x.endings m (clean_unserved x.endings m)
    clean = all_clean x.endings m
