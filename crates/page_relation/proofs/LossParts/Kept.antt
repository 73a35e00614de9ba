-- A step that a stop ends behind the commit point of its record, at all pages.
use Rattle.std.proofs.Common.{◌≡◌, refl, sym, subst, ◌∙◌, ℕ, suc, ◌<◌, ◌^◌, ◌==◌, nat_lt, Bool, true, false, List, [], ◌∷◌, length, Option, Some, None, arith, ltb-true, lt-ltb}
use Rattle.std.specs.List.{AllByRecursion}
use Rattle.pcl_base.specs.Limits.{Sizes}
use Rattle.pcl_base.specs.declared.trace.Entry.{Entry}
use Rattle.pcl_base.specs.declared.tx.TxId.{TxId}
use Rattle.text_rules.specs.LogRecord.{record_bytes}
use Rattle.run_rules.specs.Disk.{Disk, log_at}
use Rattle.run_rules.specs.Now.{now}
use Rattle.run_rules.specs.Script.{Commits}
use Rattle.node_rules.specs.DiskCalls.{DiskCall, Force, Stop, done, all_done}
use Rattle.node_rules.specs.EndRule.{pages_written, commit_record}
use Rattle.node_rules.specs.NodeState.{NodeState, Commit}
use Rattle.node_rules.specs.Refusals.{refusal}
use Rattle.node_rules.specs.Words.{pick}
use Rattle.cluster_rules.specs.Clusters.{Cluster, node_at}
use Rattle.cluster_rules.specs.Links.{Links, link_at}
use Rattle.cluster_laws.specs.Sound.{IsMember, IsCluster}
use Rattle.cluster_laws.proofs.Steps.{up_is_member_law}
use Rattle.cluster_laws.specs.Call.Calls.{IsWrite}
use Rattle.cluster_laws.proofs.EraParts.Lives.{stands}
use Rattle.page_laws.specs.Moment.Looks.{accesses_in, HasPage, Adds}
use Rattle.page_laws.specs.Moment.Machine.{CommitStep, AreCurrent}
use Rattle.page_laws.proofs.MomentParts.AsSteps.{commits_are_committing_law}
use Rattle.page_laws.proofs.MomentParts.Committing.{pages_are_now_law, now_has_pages_law}
use Rattle.page_protocol.specs.Bytes.{Ranges}
use Rattle.page_protocol.specs.Homes.{committing, committing_reads}
use Rattle.page_protocol.specs.State.{Page, current}
use Rattle.page_protocol.specs.Steps.{Reached}
use Rattle.page_protocol.proofs.Basics.{by_node}
use Rattle.page_protocol.proofs.Keeps.{and_then, reached_holds}
use Rattle.page_protocol.proofs.Promises.{alone_law}
use Rattle.page_relation.specs.Relation.{HistoryIs, IsPageOf}
use Rattle.page_relation.specs.Together.{IsRelated}
use Rattle.redo_laws.specs.Laws.{HasLog}
use Rattle.redo_laws.specs.Words.{IsWhole}
use Rattle.page_laws.specs.Written.Record.{MayCommit}
use Rattle.page_relation.specs.Loss.Leads.{LeadsTo}
use Rattle.page_relation.specs.Loss.Writes.{MayWrite, ScriptsFit}
use Rattle.page_relation.proofs.LossParts.Committing.{mine, forced_page, version_low, page_low}
use Rattle.page_relation.proofs.LossParts.Crashes.{Loses}
use Rattle.page_relation.proofs.LossParts.Halting.{MayEnd, may_end, log_whole, some_pages, all_pages, written_on}
use Rattle.page_relation.proofs.LossParts.Losing.{left_cluster}
use Rattle.page_relation.proofs.LossParts.Past.{IsPast, IsBeside, beside_wrote, beside_read, beside_same, past_wrote, past_read, past_same, past_lost, Forced, page_wrote, page_read, page_untouched, forced_step, forced_run, forced_scripts}

-- ---- one page past its commit point

history_wrote : (c : Cluster) (p : ℕ) (trace : List Entry) (t : TxId) (ranges : Ranges) (a : Page) → IsPageOf c p a → HasPage (now c.config trace) p (current (committing a t ranges)) → length (a.image t) ≡ c.config.size → suc a.now < 2 ^ 64
    → HistoryIs (record c { trace = trace }) p (committing a t ranges).hist (current (committing a t ranges))
unfolding committing
history_wrote c p trace t ranges a r has long fits =
    record {
      now_same = has;
      below = fits;
      sizes = λ v. by_node (λ k (x : List ℕ). length x ≡ c.config.size) (suc a.now) v (a.image t) (a.hist v) long (r.history.sizes v);
    }

module _ (blank : List ℕ) (c : Cluster) (p n : ℕ) (t : TxId) (disk : Disk) (trace : List Entry) (a : Page) (i : IsCluster c) (mine : t.node ≡ n) (reached : Reached blank a) (r : IsPageOf c p a)
    (scripts : (u : TxId) → a.script u ≡ accesses_in u p trace) where
  -- what is known past each way of a commit
  record Known (b : Page) : Type 0 where
    past : IsPast c p n disk trace a b
    beside : IsBeside n a b

  known : (b : Page) → Forced c p t disk a b → HasPage (now c.config trace) p (current b) → Known b
  unfolding committing_reads
  known b (page_wrote ranges holds some made long fits stored) has =
      record {
        past = past_wrote blank c p n t disk trace a mine ranges (alone_law blank a (reached_holds blank a reached) t) holds stored (history_wrote c p trace t ranges a r has long fits) scripts;
        beside = beside_wrote n a t ranges;
      }
  known b (page_read granted none stored) has =
      record { past = past_read blank c p n t disk trace a mine granted stored (record { now_same = has; below = r.history.below; sizes = r.history.sizes }) scripts; beside = beside_read n a t }
  known b (page_untouched none stored) has =
      record { past = past_same blank c p n t disk trace a mine stored (record { now_same = has; below = r.history.below; sizes = r.history.sizes }) scripts; beside = beside_same n a }

  -- the loss behind it
  pub forced_lost : (b : Page) (ls : Links) (ss : List (Option Stop)) → Forced c p t disk a b → HasPage (now c.config trace) p (current b) → ((x y : ℕ) → link_at ls x y ≡ pick (y == n) [] (link_at c.links x y))
      → Loses b (left_cluster c n ls disk ss trace) p n
  forced_lost b ls ss forced has cleared =
      let k = known b forced has in past_lost blank c p n disk trace a b ls ss i reached r k.past k.beside cleared

-- ---- all pages

module _ (blank : List ℕ) (c : Cluster) (n : ℕ) (s : NodeState) (t : TxId) (r : IsRelated blank c) (up : node_at c n ≡ Some s) (allowed : refusal s (Commit t) ≡ None)
    (some : (length (pages_written s.home t) == 0) ≡ false) (fit : ScriptsFit c r.pages.page) where
  member : IsMember c.config c.views n s
  member = (up_is_member_law c n s r.cluster up).1

  may : MayEnd s t
  may = may_end s t allowed

  low_born : s.home.txs.born < 2 ^ 32
  low_born =
      let at = stands c n s may.view member may.in_view in
      let born = at.born in
      let upto = at.upto in
      let epoch = at.epoch in
      let high = member.sound.epoch.1 in
      omega (arith, born, upto, epoch, high)

  can : MayCommit s.home t
  can =
      record {
        limits = member.sound.limits;
        home = member.sound.home;
        there = may.there;
        waits = may.waits;
        some = some_pages (length (pages_written s.home t)) some;
        last = may.last;
        born = low_born;
        serial = fit.serials n s up;
        versions = λ q there.
            let low = page_low blank c n s t r.cluster up allowed q there in
            version_low blank c n s t r.cluster up allowed q (r.pages.page q) (r.pages.reached q low) (r.pages.related q low) there;
      }

  log_there : HasLog s.home.config c.disk n
  log_there =
      let low = (up_is_member_law c n s r.cluster up).0 in
      let long = r.cluster.disk.logs in
      record { node = subst (λ (k : Sizes). n < k.nodes) (sym member.config) low; log = omega (arith, low, long) }

  log_is_whole : IsWhole s.home.config (log_at c.disk n)
  log_is_whole = subst (λ (k : Sizes). IsWhole k (log_at c.disk n)) (sym member.config) (log_whole c n s may.view r.logs up may.in_view)

  -- each page past the commit point
  record Next (p : ℕ) : Type 0 where
    page : Page
    forced : p < c.config.pages → Forced c p t (done n c.disk (Force t (record_bytes (commit_record s.home t)))) (r.pages.page p) page

  next_page : (p : ℕ) → Next p
  next_page p = by (nat_lt p c.config.pages) refl
    where
      by : (b : Bool) → nat_lt p c.config.pages ≡ b → Next p
      by true e =
          let low = ltb-true p c.config.pages e in
          let f = forced_page blank c n s t r.cluster up allowed p (r.pages.page p) (r.pages.reached p low) (r.pages.related p low) log_there log_is_whole can (fit.wrote t p low) in
          record { page = f.0; forced = λ l. f.1 }
      by false e = record { page = r.pages.page p; forced = λ l. (let bad : true ≡ false = sym (lt-ltb p c.config.pages l) ∙ e in absurd (cc)) }

  pub next_state : ℕ → Page
  next_state p = (next_page p).page

  pub next_step : (p : ℕ) → p < c.config.pages → CommitStep t (r.pages.page p) (next_state p)
  unfolding next_state next_page
  next_step p low = forced_step c p t (done n c.disk (Force t (record_bytes (commit_record s.home t)))) (r.pages.page p) (next_state p) ((next_page p).forced low)

  before : AreCurrent c.config c.trace r.pages.page
  before =
      record {
        now_same = pages_are_now_law c.config c.trace (λ p. current (r.pages.page p)) (let l = r.cluster.limits.some_pages in omega (arith, l)) (λ p low. (r.pages.related p low).history.now_same);
        scripts = λ p low u. (r.pages.related p low).homes.scripts u;
      }

  module _ (trace : List Entry) (adds : Adds c.trace (Commits t ∷ []) trace) where
    after : AreCurrent c.config trace next_state
    after =
        commits_are_committing_law c.config c.trace trace t blank r.pages.page next_state adds r.pages.reached
        next_step (λ p past. fit.within t p past) before

    -- what a stop leaves behind the record
    pub kept_leads : (p : ℕ) (ls : Links) (ss : List (Option Stop)) (front : List DiskCall) → p < c.config.pages → ((x y : ℕ) → link_at ls x y ≡ pick (y == n) [] (link_at c.links x y))
        → AllByRecursion IsWrite front → MayWrite (next_state p) p n front
        → LeadsTo (r.pages.page p) (left_cluster c n ls (all_done n (done n c.disk (Force t (record_bytes (commit_record s.home t)))) front) ss trace) p
    unfolding next_state next_page
    kept_leads p ls ss front low cleared all writes =
        record { page = to.page; run = and_then (forced_run c p t (done n c.disk (Force t (record_bytes (commit_record s.home t)))) (r.pages.page p) (next_state p) ((next_page p).forced low)) to.run; related = to.related }
      where
        forced : Forced c p t (done n c.disk (Force t (record_bytes (commit_record s.home t)))) (r.pages.page p) (next_state p)
        forced = (next_page p).forced low

        same : (u : TxId) → (r.pages.page p).script u ≡ accesses_in u p trace
        same u = sym (forced_scripts c p t (done n c.disk (Force t (record_bytes (commit_record s.home t)))) (r.pages.page p) (next_state p) u forced) ∙ after.scripts p low u

        lost : Loses (next_state p) (left_cluster c n ls (done n c.disk (Force t (record_bytes (commit_record s.home t)))) ss trace) p n
        lost =
            forced_lost blank c p n t (done n c.disk (Force t (record_bytes (commit_record s.home t)))) trace (r.pages.page p) r.cluster (mine blank c n s t r.cluster up allowed) (r.pages.reached p low) (r.pages.related p low) same
            (next_state p) ls ss forced (now_has_pages_law c.config trace (λ p. current (next_state p)) after.now_same p low) cleared

        to : LeadsTo (next_state p) (left_cluster c n ls (all_done n (done n c.disk (Force t (record_bytes (commit_record s.home t)))) front) ss trace) p
        to =
            written_on c n p s (Commit t) ls ss trace (next_state p) (done n c.disk (Force t (record_bytes (commit_record s.home t)))) front
            (record { limits = r.cluster.limits; count = all_pages n c.disk (Force t (record_bytes (commit_record s.home t)) ∷ []) ∙ r.cluster.disk.pages.0; page = low }) all writes lost
