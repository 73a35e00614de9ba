-- Completing any partition keeps the relation of each page.
use Rattle.std.proofs.Common.{◌≡◌, refl, ap, sym, subst, ◌∙◌, ℕ, ◌<◌, ◌==◌, Bool, true, false, eqb-true}
use Rattle.pcl_base.specs.Limits.{Sizes}
use Rattle.pcl_base.specs.declared.event.Event.{Event}
use Rattle.pcl_base.specs.declared.reply.Reply.TheVariants as reply
use Rattle.run_rules.specs.Redo.{all_records}
use Rattle.node_rules.specs.InstallRule.{begin_serving, complete, complete_if, is_complete, redo_page, serve_table}
use Rattle.node_rules.specs.LockTable.{pages_of}
use Rattle.node_rules.specs.NodeState.{partition, table_at}
use Rattle.node_rules.specs.Work.{Outcome, Work, Goes, Differs, and_then, for_each, reply, with_node}
use Rattle.node_laws.proofs.Works.{Base}
use Rattle.cluster_rules.specs.Clusters.{Cluster}
use Rattle.cluster_laws.specs.Link.EpochLaws.{IsInOrder}
use Rattle.page_protocol.specs.State.{Page}
use Rattle.page_protocol.specs.Steps.{here}
use Rattle.page_relation.specs.Work.Events.{IsEntered}
use Rattle.page_relation.specs.Work.Keeping.{Keeps, Leads}
use Rattle.page_relation.specs.Work.Landing.{Acts}
use Rattle.page_relation.proofs.WorkParts.Framing.{unseen_is_kept_law}
use Rattle.page_relation.proofs.WorkParts.Kept.{leads_on, reached_on}
use Rattle.settle_relation.proofs.Midway.{IsMidway}
use Rattle.settle_relation.proofs.Turns.{IsBetween}
use Rattle.report_relation.specs.Completing.{NewHaveNoRight}
use Rattle.report_relation.specs.Redoing.{records}
use Rattle.report_relation.proofs.AllSettled.{all_are_settled_law}
use Rattle.report_relation.specs.Completion.Completed.{CompleteKeeps, MayBeWhole, Owns}
use Rattle.report_relation.proofs.CompletionParts.Beside.{complete_beside}
use Rattle.report_relation.proofs.CompletionParts.Own.{HasReady, complete_ready, served_leads}

-- what is known of a work before a partition is completed
abbrev pub IsBefore : Base → Cluster → Event → ℕ → ℕ → ℕ → Work → Page → Type 0
IsBefore b c e n p q w a = IsMidway b c e n w × IsEntered a × MayBeWhole c e n p q w a

module _ (b : Base) (c : Cluster) (e : Event) (n p : ℕ) (acts : Acts c n) (order : IsInOrder c) (low : p < c.config.pages) where
  abbrev q : ℕ
  q = partition c.config p

  -- its own partition
  own_completes : partition c.config p < c.config.nodes → NewHaveNoRight c p → Owns b (partition c.config p)
      → Keeps c e n p (IsBefore b c e n p (partition c.config p)) (complete c.disk (partition c.config p)) (IsBetween b c e n)
  unfolding complete
  own_completes inside quiet owns blank w x a reached related known goes = by (is_complete w.node.view q (table_at w.node q)) refl goes
    where
      config : w.node.home.config ≡ c.config
      config = known.0.good.home.config ∙ known.0.config

      after : HasReady c n q w → (o : Outcome Work) → for_each (redo_page (records c) q) (pages_of c.config q) w ≡ o → and_then o (begin_serving q) ≡ Goes x
          → Leads c e n p (IsBetween b c e n) a x
      after has (Differs k expected found) is done = absurd (cc)
      after has (Goes y) is done =
          let first = served_leads b c e n p acts low inside quiet blank w a reached known.0 has.view has.table has.ready known.2 y is in
          leads_on c e n p (IsBetween b c e n) a first.page x first.run
          (all_are_settled_law b c e n p q acts order low inside blank (reply (reply.Serving q) (with_node y (serve_table q (table_at y.node q) y.node))) x first.page
          (reached_on blank a first.page reached first.run) first.related first.known done)

      by : (d : Bool) → is_complete w.node.view q (table_at w.node q) ≡ d → complete_if d c.disk q w ≡ Goes x → Leads c e n p (IsBetween b c e n) a x
      by false off done =
          let same : w ≡ x = cc in
          subst (Leads c e n p (IsBetween b c e n) a) same (record { page = a; run = here; related = related; known = (known.0, known.1) })
      by true on done =
          after (complete_ready b c e n q inside owns w known.0 on) (for_each (redo_page (records c) q) (pages_of c.config q) w) refl
          (sym (ap (λ (k : Sizes). and_then (for_each (redo_page (all_records k c.disk) q) (pages_of k q) w) (begin_serving q)) config) ∙ done)

  -- any
  pub completes : (r : ℕ) → r < c.config.nodes → NewHaveNoRight c p → Owns b r → Keeps c e n p (IsBefore b c e n p r) (complete c.disk r) (IsBetween b c e n)
  completes r inside quiet owns blank w x a reached related known goes = by (r == partition c.config p) refl
    where
      by : (d : Bool) → (r == partition c.config p) ≡ d → Leads c e n p (IsBetween b c e n) a x
      by true at =
          let same : r ≡ q = eqb-true r q at in
          own_completes (subst (λ (k : ℕ). k < c.config.nodes) same inside) quiet (subst (Owns b) same owns) blank w x a reached related
          (subst (λ (k : ℕ). IsBefore b c e n p k w a) same known) (subst (λ (k : ℕ). complete c.disk k w ≡ Goes x) same goes)
      by false other =
          let is = complete_beside b c e n p r inside other w x known.0 goes in
          record { page = a; run = here; related = unseen_is_kept_law c e n p w x a acts is.unseen related; known = (is.midway, known.1) }

pub complete_keeps_law : CompleteKeeps
complete_keeps_law b c e n p q acts order low inside quiet owns = completes b c e n p acts order low q inside quiet owns
