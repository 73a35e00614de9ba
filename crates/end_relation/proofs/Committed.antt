-- A commit, whole, of all pages.
use Rattle.std.proofs.Common.{◌≡◌, refl, sym, ap, subst, ◌∙◌, ℕ, ◌<◌, ◌==◌, nat_lt, Bool, true, false, List, [], ◌∷◌, arith, ltb-true, lt-ltb, eqb-true}
use Rattle.pcl_base.specs.declared.event.Event.{Event}
use Rattle.pcl_base.specs.declared.trace.Entry.{Entry}
use Rattle.pcl_base.specs.declared.tx.TxId.{TxId}
use Rattle.run_rules.specs.Now.{now}
use Rattle.node_rules.specs.NodeState.{NodeState, Commit}
use Rattle.node_rules.specs.OpenTxs.{held_by}
use Rattle.rule_laws.proofs.Turns.{and_left}
use Rattle.home_laws.proofs.Opens.{open_is_own}
use Rattle.cluster_rules.specs.Clusters.{Cluster}
use Rattle.cluster_laws.proofs.Steps.{up_is_member_law}
use Rattle.page_laws.specs.Moment.Looks.{accesses_in, HasPage, with_entry}
use Rattle.page_laws.specs.Moment.Machine.{CommitStep, AreCurrent}
use Rattle.page_laws.specs.Moment.Tells.{TellsCommit}
use Rattle.page_laws.proofs.MomentParts.AsSteps.{commits_are_committing_law}
use Rattle.page_laws.proofs.MomentParts.Committing.{pages_are_now_law, now_has_pages_law}
use Rattle.page_laws.proofs.MomentParts.Growing.{commit_tells_law}
use Rattle.page_protocol.specs.State.{Page, current}
use Rattle.page_relation.specs.Together.{IsRelated}
use Rattle.page_relation.specs.Loss.Writes.{ScriptsFit}
use Rattle.page_relation.proofs.LossParts.Halting.{may_end}
use Rattle.page_relation.specs.Work.Landing.{trace_of, disk_of}
use Rattle.end_relation.specs.Ends.{CanEnd, CommitLeaves, CommitIsKept}
use Rattle.end_relation.specs.Over.{reply_of, over_of}
use Rattle.end_relation.proofs.Events.{leaves, end_follows, over_it}
use Rattle.end_relation.proofs.Forcing.{may_commit, page_passes}
use Rattle.end_relation.proofs.Overs.{MayClose, IsOverWork}
use Rattle.end_relation.proofs.Passing.{Passes, passes_commit}
use Rattle.end_relation.proofs.Traced.{end_adds, end_trace}

module _ (blank : List ℕ) (c : Cluster) (e : Event) (n : ℕ) (s : NodeState) (t : TxId) (r : IsRelated blank c) (is : CanEnd blank c e n s (Commit t) t r) (fit : ScriptsFit c r.pages.page) where
  here : t.node ≡ n
  here =
      eqb-true t.node s.home.txs.node (and_left (t.node == s.home.txs.node) (t.born == s.home.txs.born) (open_is_own s.home.txs t (may_end s t is.free).there))
      ∙ (up_is_member_law c n s r.cluster is.handed.up).1.number

  pub may : MayClose true s t
  may = may_commit blank c n s t r is.handed.up here is.free fit

  seen : IsOverWork true t c s (over_of true t c s)
  seen = over_it blank c e n s true t r is may

  -- each page past the commit
  record Next (p : ℕ) : Type 0 where
    page : Page
    passed : p < c.config.pages → Passes c p t true (held_by s.home.txs t p) (disk_of c n (over_of true t c s)) (r.pages.page p) page

  next_page : (p : ℕ) → Next p
  next_page p = by (nat_lt p c.config.pages) refl
    where
      by : (d : Bool) → nat_lt p c.config.pages ≡ d → Next p
      by true low =
          let passes = page_passes blank c n s t r is.handed.up here is.free fit p (ltb-true p c.config.pages low) in
          record { page = passes.0; passed = λ l. passes.1 }
      by false high = record { page = r.pages.page p; passed = λ l. (let bad : true ≡ false = sym (lt-ltb p c.config.pages l) ∙ high in absurd (cc)) }

  pub next_state : ℕ → Page
  next_state p = (next_page p).page

  next_step : (p : ℕ) → p < c.config.pages → CommitStep t (r.pages.page p) (next_state p)
  unfolding next_state next_page
  next_step p low = passes_commit c p t (held_by s.home.txs t p) (disk_of c n (over_of true t c s)) (r.pages.page p) (next_state p) ((next_page p).passed low)

  before : AreCurrent c.config c.trace r.pages.page
  before =
      record {
        now_same = pages_are_now_law c.config c.trace (λ p. current (r.pages.page p)) (let some = r.cluster.limits.some_pages in omega (arith, some)) (λ p low. (r.pages.related p low).history.now_same);
        scripts = λ p low u. (r.pages.related p low).homes.scripts u;
      }

  trace : List Entry
  trace = with_entry c.trace e (reply_of true t ∷ []) []

  after : AreCurrent c.config trace next_state
  unfolding trace
  after =
      commits_are_committing_law c.config c.trace trace t blank r.pages.page next_state (end_adds c e n s true t r.cluster is.handed) r.pages.reached next_step (λ p past. fit.within t p past) before

  traced : trace_of c e n (over_of true t c s) ≡ trace
  unfolding trace
  traced = end_trace c e n s true t r.cluster is.handed (over_of true t c s) seen.replies seen.sends

  tells : TellsCommit c.config c.trace trace t
  unfolding trace
  tells = commit_tells_law c.config c.trace (with_entry c.trace e (reply_of true t ∷ []) []) t (end_adds c e n s true t r.cluster is.handed)

  module _ (p : ℕ) (low : p < c.config.pages) where
    pub passed : Passes c p t true (held_by s.home.txs t p) (disk_of c n (over_of true t c s)) (r.pages.page p) (next_state p)
    unfolding next_state next_page
    passed = (next_page p).passed low

    pub has_now : HasPage (now c.config (trace_of c e n (over_of true t c s))) p (current (next_state p))
    has_now = subst (λ (o : List Entry). HasPage (now c.config o) p (current (next_state p))) (sym traced) (now_has_pages_law c.config trace (λ q. current (next_state q)) after.now_same p low)

    pub has_scripts : (u : TxId) → (r.pages.page p).script u ≡ accesses_in u p (trace_of c e n (over_of true t c s))
    has_scripts u = (r.pages.related p low).homes.scripts u ∙ sym (tells.accesses u p) ∙ sym (ap (accesses_in u p) traced)

pub commit_leaves_law : CommitLeaves
commit_leaves_law blank c e n s t r is fit p low =
    leaves blank c e n s true t r is (may blank c e n s t r is fit) p low (next_state blank c e n s t r is fit p) (passed blank c e n s t r is fit p low) (has_now blank c e n s t r is fit p low)
    (has_scripts blank c e n s t r is fit p low)

pub commit_is_kept_law : CommitIsKept
commit_is_kept_law blank c e n s t w r is fit goes whole p low =
    end_follows blank c e n s true t r is (may blank c e n s t r is fit) p low (next_state blank c e n s t r is fit p) (passed blank c e n s t r is fit p low)
    (has_now blank c e n s t r is fit p low) (has_scripts blank c e n s t r is fit p low) w goes whole
