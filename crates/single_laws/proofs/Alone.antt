-- What holds of a node that is alone and has at most one open transaction, after each event.
use Rattle.std.proofs.Common.{◌≡◌, sym, subst, ℕ, ◌<◌, ◌≤◌, true, List, [], ◌∷◌, length, None, Some, ap, ◌∙◌}
use Rattle.std.specs.Prelude.{Option, ⊤}
use Rattle.pcl_base.specs.Limits.{Sizes}
use Rattle.pcl_base.specs.declared.tx.TxId.{TxId}
use Rattle.pcl_base.specs.declared.event.Event.{Event}
use Rattle.pcl_base.specs.declared.lock.Held.{Held}
use Rattle.pcl_base.specs.declared.lock.Kind.TheVariants as kind
use Rattle.pcl_base.specs.declared.trace.Sent.{Sent}
use Rattle.run_rules.specs.Base.{Base, version_at, bytes_at}
use Rattle.run_rules.specs.Disk.{Disk}
use Rattle.run_rules.specs.Script.{script}
use Rattle.run_rules.specs.Now.{Story}
use Rattle.run_rules.specs.Views.{first}
use Rattle.node_rules.specs.OpenTxs.{is_open, held_by, mode_held, pending_of}
use Rattle.node_rules.specs.BufferRule.{Pool, private_bytes}
use Rattle.node_rules.specs.LockRule.{idle}
use Rattle.node_rules.specs.LockTable.{LockTable, entry_at}
use Rattle.node_rules.specs.NodeState.{HomeState, NodeState, runs_at}
use Rattle.node_rules.specs.DiskCalls.{all_done}
use Rattle.node_rules.specs.Work.{HomeWork, Outcome, Goes, Differs}
use Rattle.node_rules.specs.NodeStep.{Plan}
use Rattle.home_laws.specs.Homes.{IsHome}
use Rattle.node_rules.specs.AccessRule.{bytes_or}
use Rattle.page_laws.proofs.WrittenParts.Patches.{Outside, InRuns, byte}
use Rattle.single_laws.proofs.Working.{Look, Working}
use Rattle.single_laws.proofs.Told.{Fits, entry, tx}
use Rattle.single_laws.proofs.Pages.{IsBase, PagesAre}
use Rattle.single_laws.proofs.Entries.{held_entry}

-- the pages that a transaction wrote, as it sees them
abbrev pub look_of : Pool → TxId → Look
look_of b t p = private_bytes b t p

-- a lock, if there is one, is one of an own page
abbrev pub IsOwn : Option Held → Type 0
IsOwn None = ⊤
IsOwn (Some l) = l.kind ≡ kind.Own

-- what it sees of each page is the page outside the places that it wrote
abbrev pub Wrote : HomeState → Base → TxId → Type 0
Wrote h base t = (p : ℕ) → Outside (runs_at h.written t p) (bytes_at base p) (bytes_or (look_of h.pool t p) (bytes_at base p))

-- the same of pages that are seen alike, with the same places
pub wrote_same : (h new : HomeState) (base : Base) (t : TxId) → new.written ≡ h.written → ((p : ℕ) → look_of new.pool t p ≡ look_of h.pool t p) → Wrote h base t → Wrote new base t
wrote_same h new base t written look wrote p i none =
    ap (λ o. byte (bytes_or o (bytes_at base p)) i) (look p) ∙ wrote p i (λ is. none (subst (λ ws. InRuns (runs_at ws t p) i) (sym written) is))

-- one transaction is open, and doesn't wait: it alone holds pages, and its steps are those of its script
pub record Busy (h : HomeState) (tb : LockTable) (base : Base) (s : Story) (t : TxId) : Type 0 where
  pub there : is_open h.txs t ≡ true
  pub one : length h.txs.txs ≡ 1
  pub name : t ≡ tx t.serial
  pub recent : t.serial ≤ h.txs.last
  pub waits : pending_of h.txs t ≡ None
  pub own : (p : ℕ) → IsOwn (held_by h.txs t p)
  pub entries : (p : ℕ) → entry_at tb p ≡ held_entry (version_at base p) t (mode_held (held_by h.txs t p))
  pub work : Working (script t s.seen) base (look_of h.pool t)
  pub wrote : Wrote h base t

-- no transaction is open
pub record Idle (h : HomeState) (tb : LockTable) (base : Base) : Type 0 where
  pub none : h.txs.txs ≡ []
  pub entries : (p : ℕ) → entry_at tb p ≡ idle (version_at base p)

-- one of the two
pub data Who (h : HomeState) (tb : LockTable) (base : Base) (s : Story) : Type 0 where
  Nobody : Idle h tb base → Who h tb base s
  Somebody : (t : TxId) → Busy h tb base s t → Who h tb base s

-- what else holds, within a step too
pub record Kept (c : Sizes) (base : Base) (d : Disk) (s : Story) (w : HomeWork) : Type 0 where
  pub config : w.home.config ≡ c
  pub node : w.home.txs.node ≡ 0
  pub born : w.home.txs.born ≡ 1
  pub known : s.base ≡ Some base
  pub fine : IsBase c base
  pub pages : PagesAre c base d w
  pub serials : w.home.txs.last < 4294967296
  pub later : (k : ℕ) → w.home.txs.last < k → script (tx k) s.seen ≡ []

-- the work of a home before a step
abbrev pub fresh_work : HomeState → Disk → HomeWork
fresh_work h d = record { home = h; pages = d.pages; calls = [] }

-- the home and the table, the disk, and what is known
pub record Alone (c : Sizes) (h : HomeState) (tb : LockTable) (d : Disk) (s : Story) : Type 0 where
  pub home : IsHome h
  pub base : Base
  pub kept : Kept c base d s (fresh_work h d)
  pub serving : tb.serving ≡ true
  pub who : Who h tb base s

-- the pages at the end of a step are those of the disk that its calls leave
pub pages_again : (c : Sizes) (base : Base) (d : Disk) (w : HomeWork) → PagesAre c base d w → PagesAre c base (all_done 0 d w.calls) (fresh_work w.home (all_done 0 d w.calls))
pages_again c base d w is =
    subst (λ ps. PagesAre c base (all_done 0 d w.calls) (record { home = w.home; pages = ps; calls = [] })) (sym is.done)
    (record { pages = is.pages; raw = is.raw; count = is.count; readable = is.readable; redone = is.redone; done = is.done })

pub alone_again : (c : Sizes) (base : Base) (d : Disk) (s : Story) (w : HomeWork) (tb : LockTable) → IsHome w.home → Kept c base d s w → tb.serving ≡ true → Who w.home tb base s
    → Alone c w.home tb (all_done 0 d w.calls) s
alone_again c base d s w tb home kept serving who =
    record {
      home = home;
      base = base;
      kept =
          record {
            config = kept.config;
            node = kept.node;
            born = kept.born;
            known = kept.known;
            fine = kept.fine;
            pages = pages_again c base d w kept.pages;
            serials = kept.serials;
            later = kept.later;
          };
      serving = serving;
      who = who;
    }

-- the node
abbrev pub node_of : Sizes → HomeState → LockTable → NodeState
node_of c h tb = record { home = h; epoch = 1; view = Some (first c); tables = Some tb ∷ [] }

-- a step that was made: it sends nothing, its entry is fresh and serial, and the node is alone after it
pub record Made (c : Sizes) (e : Event) (s : Story) (d : Disk) (p : Plan) : Type 0 where
  pub home : HomeState
  pub table : LockTable
  pub node : p.node ≡ node_of c home table
  pub quiet : p.sends ≡ []
  pub fits : (sent : List Sent) → Fits s (entry e p.replies sent) (λ u. Alone c home table (all_done 0 d p.calls) u)

-- a step, where at most one transaction is open after it
abbrev pub StepOk : Sizes → Event → Story → Disk → Outcome Plan → Type 0
StepOk c e s d (Goes p) = length p.node.home.txs.txs ≤ 1 → Made c e s d p
StepOk c e s d (Differs p expected found) = ⊥
