-- Every run of one node that has at most one open transaction at a time is fresh and serial.
use Rattle.std.proofs.Common.{subst, slice_index_or, ◌≡◌, refl, sym, ap, ◌∙◌, ℕ, zero, suc, ◌+◌, ◌-◌, ◌<◌, ◌≤◌, ◌==◌, Bool, true, false, List, [], ◌∷◌, map, length, replicate, slice_set, None, Some, Ok, Err, arith}
use Rattle.std.specs.Prelude.{Option, Result}
use Rattle.std.specs.List.{All}
use Rattle.std.proofs.lemmas.Bool.Decides.{nat_tests}
use Rattle.std.proofs.lemmas.List.{length-replicate}
use Rattle.std.proofs.lemmas.List.Elements.{All-head, All-tail}
use Rattle.pcl_base.specs.Limits.{Sizes, InLimits}
use Rattle.pcl_base.specs.declared.event.Event.{Event}
use Rattle.text_rules.specs.StoredPage.{PageAt, BadNumber, stored_page, first_number, unwritten, written}
use Rattle.text_rules.specs.FieldBytes.{pick as text_pick}
use Rattle.run_rules.specs.Base.{BasePage, first_base, page_at, version_at}
use Rattle.run_rules.specs.Disk.{fresh_disk, raw_page, log_at}
use Rattle.run_rules.specs.Script.{script_from}
use Rattle.run_rules.specs.Now.{first_story, first_fault}
use Rattle.run_rules.specs.Account.{account_from}
use Rattle.text_rules.specs.LogRecord.{records_of}
use Rattle.run_rules.specs.Redo.{entries_of}
use Rattle.redo_laws.specs.Words.{IsWhole}
use Rattle.redo_laws.proofs.Chains.{reached_zero}
use Rattle.redo_laws.proofs.Pages.{redone_by}
use Rattle.redo_laws.proofs.Changes.{redo_is}
use Rattle.run_rules.specs.Views.{count_from}
use Rattle.node_rules.specs.Words.{pick}
use Rattle.node_rules.specs.BufferRule.{slot_in}
use Rattle.node_rules.specs.LockRule.{idle}
use Rattle.node_rules.specs.LockTable.{LockTable, pages_of, open_table, entry_in, entry_at}
use Rattle.node_rules.specs.NodeState.{NodeState, open_home, first_node}
use Rattle.node_rules.specs.Work.{Goes, read_page, page_or_differs}
use Rattle.cluster_rules.specs.Clusters.{Cluster, opening, node_at}
use Rattle.cluster_rules.specs.Links.{empty_links}
use Rattle.cluster_rules.specs.ClusterStep.{step}
use Rattle.cluster_rules.specs.Safe.{Safe}
use Rattle.cluster_rules.specs.Run.{run_from, run, last_from, last}
use Rattle.home_laws.proofs.Opened.{open_home_is_sound_law}
use Rattle.single_laws.specs.Alone.{is_plain, open_in, OneAtATime, AloneIsFresh, AloneIsSerial, AloneIsAccounted, AloneIsSafe}
use Rattle.single_laws.proofs.Pages.{IsBase, at}
use Rattle.single_laws.proofs.Alone.{Nobody, Kept, Alone, fresh_work, node_of}
use Rattle.single_laws.proofs.Redone.{Redone, AreOld, own_entries}
use Rattle.single_laws.proofs.Clusters.{IsAlone, step_keeps}
use Rattle.single_laws.proofs.Durables.{durable_of}

-- ---- the first cluster

-- so many of one page
same_page : (n p : ℕ) (x : BasePage) → p < n → page_at (replicate n x) p ≡ x
same_page zero p x h = absurd (omega arith)
same_page (suc n) zero x h = refl
same_page (suc n) (suc p) x h = same_page n p x (omega arith)

same_version : (n p : ℕ) (bytes : List ℕ) → version_at (replicate n (record { version = 0; bytes = bytes })) p ≡ 0
same_version zero p bytes = refl
same_version (suc n) zero bytes = refl
same_version (suc n) (suc p) bytes = same_version n p bytes

same_raw : (n p : ℕ) (bytes : List ℕ) → p < n → raw_page (replicate n bytes) p ≡ bytes
same_raw zero p bytes h = absurd (omega arith)
same_raw (suc n) zero bytes h = refl
same_raw (suc n) (suc p) bytes h = same_raw n p bytes (omega arith)

long : (n x : ℕ) → length (replicate n x) ≡ n
long n x = length-replicate n x

-- zero bytes are the number zero
zero_number : (n : ℕ) → first_number (replicate n 0) ≡ 0
zero_number zero = refl
zero_number (suc zero) = refl
zero_number (suc (suc zero)) = refl
zero_number (suc (suc (suc zero))) = refl
zero_number (suc (suc (suc (suc zero)))) = refl
zero_number (suc (suc (suc (suc (suc zero))))) = refl
zero_number (suc (suc (suc (suc (suc (suc zero)))))) = refl
zero_number (suc (suc (suc (suc (suc (suc (suc zero))))))) = refl
zero_number (suc (suc (suc (suc (suc (suc (suc (suc n)))))))) = refl

zero_page : (c : Sizes) (p : ℕ) → stored_page p (replicate (c.size + 16) 0) ≡ Ok (record { version = 0; bytes = replicate c.size 0 })
zero_page c p =
    by (first_number (replicate (c.size + 16) 0) == 0) (let zero_is = zero_number (c.size + 16) in grind (arith, nat_tests))
  where
    none : ℕ
    none = 0

    bytes : replicate (length (replicate (c.size + 16) none) - 16) none ≡ replicate c.size none
    bytes = ap (λ n. replicate n none) (let count = long (c.size + 16) none in omega (arith, count))

    by : (b : Bool) → b ≡ true
        → text_pick {X = Result PageAt BadNumber} b (Ok (unwritten (replicate (c.size + 16) none)))
        (text_pick (first_number (replicate (c.size + 16) none) == p + 1) (Ok (written (replicate (c.size + 16) none))) (Err (record { expected = p + 1; found = first_number (replicate (c.size + 16) none) })))
        ≡ Ok (record { version = 0; bytes = replicate c.size none })
    by true e = ap (λ (bs : List ℕ). let r : Result PageAt BadNumber = Ok (record { version = 0; bytes = bs }) in r) bytes
    by false e = absurd (cc)

-- a table in which nothing is locked
nothing_locked : (ps : List ℕ) (p : ℕ) → entry_in (map (λ q. record { page = q; entry = idle 0 }) ps) p ≡ idle 0
unfolding entry_in
nothing_locked [] p = refl
nothing_locked (q ∷ ps) p = by (q == p) (nothing_locked ps p)
  where
    by : (b : Bool) → entry_in (map (λ q. record { page = q; entry = idle 0 }) ps) p ≡ idle 0 → pick b (idle 0) (entry_in (map (λ q. record { page = q; entry = idle 0 }) ps) p) ≡ idle 0
    by true rest = refl
    by false rest = rest

module _ (c : Sizes) (limits : InLimits c) (one : c.nodes ≡ 1) where
  first_stored : (p : ℕ) → p < c.pages → stored_page p (raw_page (fresh_disk c).pages p) ≡ Ok (at (first_base c) p)
  first_stored p below =
      ap (stored_page p) (same_raw c.pages p (replicate (c.size + 16) 0) below)
      ∙ zero_page c p
      ∙ ap (λ (x : BasePage). let r : Result PageAt BadNumber = Ok (record { version = x.version; bytes = x.bytes }) in r) (sym (same_page c.pages p (record { version = 0; bytes = replicate c.size 0 }) below))

  first_read : (p : ℕ) → p < c.pages → read_page (fresh_disk c).pages p ≡ Goes (at (first_base c) p)
  first_read p below = ap (page_or_differs p) (first_stored p below)

  first_fine : IsBase c (first_base c)
  first_fine =
      record {
        limits = limits;
        count = length-replicate c.pages (let x : BasePage = record { version = 0; bytes = replicate c.size 0 } in x);
        sizes = λ p below. ap (λ (x : BasePage). length x.bytes) (same_page c.pages p (record { version = 0; bytes = replicate c.size 0 }) below) ∙ long c.size 0;
        below = λ p. let none = same_version c.pages p (replicate c.size 0) in omega (arith, none);
      }

  -- no log has a record
  no_log : log_at (fresh_disk c) 0 ≡ []
  no_log = ap (λ n. let logs : List (List ℕ) = replicate n [] in slice_index_or logs 0 []) one

  no_entries : (p : ℕ) → entries_of p (records_of c (log_at (fresh_disk c) 0)) ≡ []
  unfolding entries_of
  no_entries p = ap (λ bytes. entries_of p (records_of c bytes)) no_log

  first_redone : Redone c (first_base c) (fresh_disk c)
  first_redone =
      record {
        log = let count = length-replicate c.nodes (let x : List ℕ = [] in x) in omega (arith, count, one);
        whole = subst (IsWhole c) (sym no_log) refl;
        redo_is = λ p below.
            redo_is c (fresh_disk c) p (at (first_base c) p) (first_stored p below)
            ∙ ap (λ xs. Some (redone_by xs (at (first_base c) p))) (own_entries c one (fresh_disk c) p ∙ no_entries p)
            ∙ ap (λ (x : PageAt). Some x) (reached_zero [] (at (first_base c) p));
        old = λ p below. subst (AreOld (version_at (first_base c) p)) (sym (no_entries p)) tt;
      }

  first_kept : Kept c (first_base c) (fresh_disk c) (first_story c) (fresh_work (open_home c 0 1) (fresh_disk c))
  unfolding slot_in script_from
  first_kept =
      record {
        config = refl;
        node = refl;
        born = refl;
        known = refl;
        fine = first_fine;
        pages =
            record {
              pages = λ p below. first_read p below;
              raw = λ p below. ap length (same_raw c.pages p (replicate (c.size + 16) 0) below) ∙ long (c.size + 16) 0;
              count = length-replicate c.pages (let x : List ℕ = replicate (c.size + 16) 0 in x);
              readable = λ p below. (at (first_base c) p, first_read p below);
              redone = first_redone;
              done = refl;
            };
        serials = omega arith;
        later = λ k above. refl;
      }

  first_entries : (p : ℕ) → entry_at (open_table c 0 true) p ≡ idle (version_at (first_base c) p)
  unfolding open_table
  first_entries p = nothing_locked (pages_of c 0) p ∙ ap idle (sym (same_version c.pages p (replicate c.size 0)))

  first_serving : (open_table c 0 true).serving ≡ true
  unfolding open_table
  first_serving = refl

  first_alone : Alone c (open_home c 0 1) (open_table c 0 true) (fresh_disk c) (first_story c)
  first_alone =
      record {
        home = open_home_is_sound_law c 0 1 limits (omega (arith, one));
        base = first_base c;
        kept = first_kept;
        serving = first_serving;
        who = Nobody (record { none = refl; entries = first_entries });
      }

  the_node : map (λ n. Some (first_node c n)) (count_from 0 c.nodes) ≡ Some (node_of c (open_home c 0 1) (open_table c 0 true)) ∷ []
  unfolding count_from first_node
  the_node =
      ap (λ n. map (λ m. Some (first_node c m)) (count_from 0 n)) one
      ∙ ap (λ n. Some (with_tables (slice_set (replicate n None) 0 (Some (open_table c 0 true)))) ∷ []) one
    where
      with_tables : List (Option LockTable) → NodeState
      with_tables ts = record (node_of c (open_home c 0 1) (open_table c 0 true)) { tables = ts }

  opening_alone : IsAlone c (opening c)
  unfolding opening first_fault account_from
  opening_alone =
      record {
        config = refl;
        home = open_home c 0 1;
        table = open_table c 0 true;
        nodes = the_node;
        stops = ap (λ n. replicate n None) one;
        links = ap empty_links one;
        views = refl;
        alone = first_alone;
        fresh = refl;
        serial = refl;
        account = refl;
      }

-- ---- its runs

abbrev IsFew : Cluster → Type 0
IsFew k = open_in (node_at k 0) ≤ 1

first_few : (k : Cluster) (es : List Event) → All IsFew (run_from k es) → IsFew k
unfolding run_from
first_few k [] all = All-head IsFew k [] all
first_few k (e ∷ es) all = All-head IsFew k (run_from (step k e) es) all

run_alone : (c : Sizes) → c.pages ≤ 65536 → c.nodes ≡ 1 → (es : List Event) (k : Cluster) → IsAlone c k → All (λ e. is_plain e ≡ true) es → All IsFew (run_from k es) → IsAlone c (last_from k es)
unfolding run_from
run_alone c few one [] k is plain all = is
run_alone c few one (e ∷ es) k is plain all =
    let rest : All IsFew (run_from (step k e) es) = All-tail IsFew k (run_from (step k e) es) all in
    run_alone c few one es (step k e)
    (step_keeps c k is few one e (All-head (λ e. is_plain e ≡ true) e es plain) (first_few (step k e) es rest))
    (All-tail (λ e. is_plain e ≡ true) e es plain) rest

last_alone : (c : Sizes) (es : List Event) → InLimits c → c.nodes ≡ 1 → OneAtATime c es → IsAlone c (last c es)
unfolding run
last_alone c es limits one once = run_alone c limits.most_pages one es (opening c) (opening_alone c limits one) once.plain once.one

pub alone_is_fresh_law : AloneIsFresh
alone_is_fresh_law c es limits one once = (last_alone c es limits one once).fresh

pub alone_is_serial_law : AloneIsSerial
alone_is_serial_law c es limits one once = (last_alone c es limits one once).serial

pub alone_is_accounted_law : AloneIsAccounted
alone_is_accounted_law c es limits one once = (last_alone c es limits one once).account

-- all at once
safe_of : (c : Sizes) (k : Cluster) → k.config ≡ c → IsAlone c k → Safe k
safe_of c k config is =
    subst (λ (x : Sizes). IsAlone x k → Safe k) config (λ own. record { fresh = own.fresh; serial = own.serial; durable = durable_of k.config k own; account = own.account }) is

pub alone_is_safe_law : AloneIsSafe
alone_is_safe_law c es limits one once = let is = last_alone c es limits one once in safe_of c (last c es) is.config is
