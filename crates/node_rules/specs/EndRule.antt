-- The end rule: the record of a commit, the copies that it leaves, and what each page's owner is told.
use Rattle.std.specs.Prelude.{ℕ, ◌+◌, ◌-◌, ◌^◌, ◌==◌, ◌&&◌, not, nat_lt, Bool, true, false, List, [], ◌∷◌, ◌++◌, map, length, slice_range, Option, Some, None}
use Rattle.std.specs.List.{filter, list_any, fold}
use Rattle.pcl_base.specs.declared.tx.TxId.{TxId}
use Rattle.pcl_base.specs.declared.lock.Held.{Held}
use Rattle.pcl_base.specs.declared.lock.Kind.{Kind}
use Rattle.pcl_base.specs.declared.lock.Kind.TheVariants as kind
use Rattle.pcl_base.specs.declared.message.Change.{Change}
use Rattle.pcl_base.specs.declared.log.Record.{Record}
use Rattle.pcl_base.specs.declared.log.Logged.{Logged}
use Rattle.pcl_base.specs.declared.log.Part.TheVariants.{Ranges}
use Rattle.pcl_base.specs.declared.log.ChangedRange.{ChangedRange}
use Rattle.text_rules.specs.LogRecord.{record_bytes}
use Rattle.node_rules.specs.Words.{pick, same_tx}
use Rattle.node_rules.specs.OpenTxs.{locks_of, pending_of, held_by, waits_on, end_pages, close_tx}
use Rattle.node_rules.specs.Shelf.{end_reader}
use Rattle.node_rules.specs.BufferRule.{Pool, PrivateCopy, find, private_bytes, publish, unpin}
use Rattle.node_rules.specs.NodeState.{HomeState, Run, runs_at}
use Rattle.node_rules.specs.DiskCalls.{Force}
use Rattle.node_rules.specs.Work.{HomeWork}
use Rattle.node_rules.specs.AccessRule.{bytes_or, version_or}

-- a page among others that rise by number
unfoldable pub insert_page : ℕ → List ℕ → List ℕ
insert_page p [] = p ∷ []
insert_page p (x ∷ xs) = pick (nat_lt p x) (p ∷ x ∷ xs) (x ∷ insert_page p xs)

-- the pages of which a transaction has a private copy, rising by number
unfoldable pub written_pages : List PrivateCopy → TxId → List ℕ
written_pages [] t = []
written_pages (x ∷ xs) t = pick (same_tx x.tx t) (insert_page x.page (written_pages xs t)) (written_pages xs t)

-- the pages that a transaction wrote
abbrev pub pages_written : HomeState → TxId → List ℕ
pages_written h t = written_pages h.pool.privates t

-- the version that the commit makes of a page, and the page as it leaves it
abbrev pub new_version : HomeState → ℕ → ℕ
new_version h p = version_or (find h.pool p) + 1

-- the bytes of a page as the commit leaves it
abbrev pub new_bytes : HomeState → TxId → ℕ → List ℕ
new_bytes h t p = bytes_or (private_bytes h.pool t p) []

-- the changed ranges of a page: the bytes of the written runs
abbrev pub range_of : List ℕ → Run → ChangedRange
range_of page r = record { place = r.from; bytes = slice_range page r.from r.to }

-- the changed ranges of a page, run by run
abbrev pub ranges_of : List ℕ → List Run → List ChangedRange
ranges_of page runs = map (range_of page) runs

-- the record of a commit
abbrev pub logged : HomeState → TxId → ℕ → Logged
logged h t p =
    record {
      page = p;
      version = new_version h p;
      part = Ranges (ranges_of (new_bytes h t p) (runs_at h.written t p));
    }

-- the record of a transaction that commits
unfoldable pub commit_record : HomeState → TxId → Record
commit_record h t = record { tx = t; changes = map (logged h t) (pages_written h t) }

-- whether a page that the transaction wrote is at the last version
unfoldable pub at_version_end : HomeState → TxId → Bool
at_version_end h t = list_any (λ p. version_or (find h.pool p) == 2 ^ 64 - 1) (pages_written h t)

-- what the owner of a page is told at the end: by what the page was held, and the change
pub record Ending : Type 0 where
  pub page : ℕ
  pub kind : Kind
  pub change : Option Change

-- a page that is waited for counts as registered, unless it is the node's own
abbrev pub registered_if : Bool → Kind → Kind
registered_if waits kind.Own = kind.Own
registered_if waits kind.Registered = kind.Registered
registered_if waits kind.Right = pick waits kind.Registered kind.Right

-- the kind of a page at the end
abbrev pub kind_at_end : Option Held → Bool → Kind
kind_at_end None waits = kind.Registered
kind_at_end (Some h) waits = registered_if waits h.kind

-- the change of a page, where it was written
abbrev pub change_if : Bool → ℕ → List ℕ → Option Change
change_if true version bytes = Some (record { version = version; image = bytes })
change_if false version bytes = None

-- whether a transaction wrote a page
abbrev pub is_written : HomeState → TxId → ℕ → Bool
is_written h t p = list_any (λ x. x == p) (pages_written h t)

-- the ending of a page, where `commits` tells whether the transaction commits
abbrev pub ending : HomeState → TxId → Bool → ℕ → Ending
ending h t commits p =
    record {
      page = p;
      kind = kind_at_end (held_by h.txs t p) (waits_on (pending_of h.txs t) p);
      change = change_if (commits && is_written h t p) (new_version h p) (new_bytes h t p);
    }

-- the pages at which an end is told
abbrev pub pages_at_end : HomeState → TxId → List ℕ
pages_at_end h t = end_pages (locks_of h.txs t) (pending_of h.txs t)

-- what is told of each page, in order
unfoldable pub endings : HomeState → TxId → Bool → List Ending
endings h t commits = map (ending h t commits) (pages_at_end h t)

-- whether a lock is of the node's own page
abbrev pub is_own_kind : Kind → Bool
is_own_kind kind.Own = true
is_own_kind _ = false

-- whether a page is held by a lock of the node's own
abbrev pub is_own_lock : Option Held → Bool
is_own_lock None = false
is_own_lock (Some h) = is_own_kind h.kind

-- each written page's slot becomes the private copy at the next version, dirty where it is an own page
abbrev pub publish_all : HomeState → TxId → Pool
publish_all h t =
    fold (λ b p. publish b t p (is_own_lock (held_by h.txs t p))) h.pool (pages_written h t)

-- the private copies of a transaction are given up, and its slots are unpinned
abbrev pub discard_all : Pool → TxId → Pool
discard_all b t = record b { privates = filter (λ x. not (same_tx x.tx t)) b.privates }

-- the slots of some pages have one pin less
abbrev pub unpin_all : Pool → List ℕ → Pool
unpin_all b ps = fold unpin b ps

-- the home without a transaction, over this pool
unfoldable pub closed : HomeState → TxId → Pool → HomeState
closed h t b =
    record {
      config = h.config;
      txs = close_tx h.txs t;
      shelf = fold (λ rs p. end_reader rs p t) h.shelf (pages_at_end h t);
      pool = unpin_all (discard_all b t) (pages_at_end h t);
      written = filter (λ w. not (same_tx w.tx t)) h.written;
    }

-- an end at home: what the owners are told, and the work after it
pub record Closed : Type 0 where
  pub endings : List Ending
  pub work : HomeWork

-- a transaction is given up
unfoldable pub abort : TxId → HomeWork → Closed
abort t w =
    record { endings = endings w.home t false; work = record w { home = closed w.home t w.home.pool } }

-- a commit with writes forces its record; one without makes no call
abbrev pub force_if : Bool → TxId → List ℕ → HomeWork → HomeWork
force_if true t bytes w = w
force_if false t bytes w = record w { calls = w.calls ++ Force t bytes ∷ [] }

-- a transaction is committed
unfoldable pub commit : TxId → HomeWork → Closed
commit t w =
    record {
      endings = endings w.home t true;
      work =
          record (force_if (length (pages_written w.home t) == 0) t (record_bytes (commit_record w.home t)) w) {
            home = closed w.home t (publish_all w.home t);
          };
    }
