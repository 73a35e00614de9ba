-- A page of the partition that is completed: the machine restores it, and completes its era.
use Rattle.std.proofs.Common.{◌≡◌, refl, ap, sym, subst, ◌∙◌, ℕ, ◌<◌, ◌≤◌, ◌==◌, ◌&&◌, not, Bool, true, false, List, [], ◌∷◌, Option, Some, None, eqb-true}
use Rattle.std.specs.List.{AllByRecursion}
use Rattle.pcl_base.specs.Limits.{Sizes}
use Rattle.pcl_base.specs.declared.event.Event.{Event}
use Rattle.pcl_base.specs.declared.reply.Reply.TheVariants as reply
use Rattle.text_rules.specs.MessageBytes.{IsPageOf}
use Rattle.run_rules.specs.Views.{View, owner_of, since_of}
use Rattle.node_rules.specs.InstallRule.{is_complete, owned_before, redo_page, serve_table}
use Rattle.node_rules.specs.LockTable.{LockTable, pages_of}
use Rattle.node_rules.specs.NodeState.{partition, table_at}
use Rattle.node_rules.specs.Reports.{missing}
use Rattle.node_rules.specs.Work.{Outcome, Work, Goes, Differs, and_then, for_each, reply, with_node}
use Rattle.node_laws.proofs.Tables.{pages_are}
use Rattle.node_laws.proofs.Works.{Base, has_table}
use Rattle.cluster_rules.specs.Clusters.{Cluster, last_view, view_of_epoch}
use Rattle.page_protocol.specs.Eras.{completing}
use Rattle.page_protocol.specs.State.{Page}
use Rattle.page_protocol.specs.Steps.{Reached, then, here}
use Rattle.page_protocol.proofs.Keeps.{and_then as runs_then}
use Rattle.page_relation.specs.Work.Events.{IsEntered}
use Rattle.page_relation.specs.Work.Keeping.{IsWorkOf, Leads}
use Rattle.page_relation.specs.Work.Landing.{Acts}
use Rattle.page_relation.proofs.WorkParts.Kept.{reached_on}
use Rattle.settle_relation.proofs.Midway.{IsMidway}
use Rattle.settle_relation.proofs.Turns.{IsBetween}
use Rattle.report_relation.specs.Completing.{IsReady, NewHaveNoRight}
use Rattle.report_relation.specs.Redoing.{MayRedo, RedoLeads, records}
use Rattle.report_relation.specs.Serving.{IsCompleting}
use Rattle.report_relation.proofs.AllRedone.{all_are_redone_law}
use Rattle.report_relation.proofs.Ready.{may_complete}
use Rattle.report_relation.proofs.RedoMidway.{redo_midway}
use Rattle.report_relation.proofs.Served.{completing_is_step_law}
use Rattle.report_relation.specs.Completion.Completed.{CanBeWhole, MayBeWhole, Owns}
use Rattle.report_relation.proofs.CompletionParts.Beside.{serve_midway}
use Rattle.report_relation.specs.Completion.Looks.{LooksSame}
use Rattle.report_relation.proofs.CompletionParts.Looks.{pages_look, ready_then, whole_then}

-- pages that are redone leave what is known of the work
pub all_midway : (b : Base) (c : Cluster) (e : Event) (n q : ℕ) → q < c.config.nodes → (rs : List ℕ) → AllByRecursion (IsPageOf c.config q) rs → (w x : Work) → IsMidway b c e n w
    → for_each (redo_page (records c) q) rs w ≡ Goes x → IsMidway b c e n x
unfolding for_each
all_midway b c e n q low [] all w x i goes = let same : w ≡ x = cc in subst (IsMidway b c e n) same i
all_midway b c e n q low (r ∷ rs) all w x i goes = by (redo_page (records c) q r w) refl goes (all_midway b c e n q low rs all.1)
  where
    by : (o : Outcome Work) → redo_page (records c) q r w ≡ o → and_then o (for_each (redo_page (records c) q) rs) ≡ Goes x
        → ((w x : Work) → IsMidway b c e n w → for_each (redo_page (records c) q) rs w ≡ Goes x → IsMidway b c e n x) → IsMidway b c e n x
    by (Differs k expected found) is done rest = absurd (cc)
    by (Goes y) is done rest =
        rest y x (redo_midway b c e n q r w y (subst (λ (k : Sizes). q < k.nodes) (sym i.config) low) (subst (λ (k : Sizes). IsPageOf k q r) (sym i.config) all.0) i is) done

-- ---- a table that is complete

first_of : (x y : Bool) → (x && y) ≡ true → x ≡ true
first_of true y e = refl
first_of false y e = absurd (cc)

last_of : (x y : Bool) → (x && y) ≡ true → y ≡ true
last_of true y e = e
last_of false y e = absurd (cc)

not_so : (x : Bool) → not x ≡ true → x ≡ false
not_so true e = absurd (cc)
not_so false e = refl

-- the view of the node and its table
pub record HasReady (c : Cluster) (n q : ℕ) (w : Work) : Type 0 where
  pub view : View
  pub table : LockTable
  pub ready : IsReady c n q w view table

module _ (b : Base) (c : Cluster) (e : Event) (n q : ℕ) (low : q < c.config.nodes) (owns : Owns b q) (w : Work) (i : IsMidway b c e n w) where
  viewed : w.node.view ≡ Some i.view
  viewed = i.good.view ∙ i.in_view

  owner_is : (t : LockTable) → table_at w.node q ≡ Some t → n ≡ owner_of i.view q
  owner_is t there =
      sym (eqb-true (owner_of i.view q) n
      (ap (λ (m : ℕ). owner_of i.view q == m) (sym i.number) ∙ sym (ap (λ (o : Option View). owned_before o q b.number) i.in_view) ∙ sym owns
      ∙ (has_table b i.base q t w (subst (λ (k : Sizes). q < k.nodes) (sym i.config) low) there i.good).0))

  ready_of : (t : LockTable) → table_at w.node q ≡ Some t → is_complete (Some i.view) q (Some t) ≡ true → IsReady c n q w i.view t
  ready_of t there on =
      record {
        all =
            record {
              there = subst (λ (k : ℕ). view_of_epoch c.views k ≡ Some i.view) (sym i.good.epoch) i.there;
              low = subst (λ (k : ℕ). 1 ≤ k) (sym i.good.epoch) i.base.epoch;
              made = subst (λ (k : ℕ). k ≤ (last_view c).epoch) (sym i.good.epoch) i.made;
              owner = owner_is t there;
              none_missing = not_so (missing t i.view q) (last_of (not t.serving) (not (missing t i.view q)) on);
            };
        in_view = viewed;
        there = there;
        rebuilt = not_so t.serving (first_of (not t.serving) (not (missing t i.view q)) on);
      }

  -- it misses no report
  pub complete_ready : is_complete w.node.view q (table_at w.node q) ≡ true → HasReady c n q w
  complete_ready on = by (table_at w.node q) refl (sym (ap (λ (o : Option View). is_complete o q (table_at w.node q)) viewed) ∙ on)
    where
      by : (o : Option LockTable) → table_at w.node q ≡ o → is_complete (Some i.view) q o ≡ true → HasReady c n q w
      by None there on = absurd (cc)
      by (Some t) there on = record { view = i.view; table = t; ready = ready_of t there on }

-- ---- redo and completion

-- the owner's copy is clean then
completed_entered : (a : Page) (era owner : ℕ) → IsEntered (completing a era owner)
unfolding completing
completed_entered a era owner x on there = absurd (cc)

module _ (b : Base) (c : Cluster) (e : Event) (n p : ℕ) (acts : Acts c n) (low : p < c.config.pages) (inside : partition c.config p < c.config.nodes) (quiet : NewHaveNoRight c p) where
  abbrev q : ℕ
  q = partition c.config p

  module _ (blank : List ℕ) (w : Work) (a : Page) (reached : Reached blank a) (i : IsMidway b c e n w) (v : View) (t : LockTable) (ready : IsReady c n q w v t) (may : MayBeWhole c e n p q w a) where
    pub can : CanBeWhole c e n p q w v t a
    can = may.whole v t refl ready

    pub may_redo : MayRedo c n q w can.page
    may_redo =
        record {
          called = i.called;
          same = may.same;
          logs = may.logs;
          nobody = (may_complete c e n p w v t can.page acts inside ready quiet can.related).nobody;
          table = t;
          there = ready.there;
          rebuilt = ready.rebuilt;
        }

    module _ (y : Work) (goes : for_each (redo_page (records c) q) (pages_of c.config q) w ≡ Goes y) where
      looks : LooksSame q t w y
      looks = pages_look q (records c) (pages_of c.config q) t w y ready.there goes

      redo : RedoLeads c e n p q Unit can.page y
      redo = all_are_redone_law c e n p blank w y can.page acts low (reached_on blank a can.page reached can.run) may_redo can.related goes

      completes : IsCompleting c e n p q (since_of v q) y looks.table redo.page
      completes =
          completing_is_step_law c e n p blank y v looks.table redo.page acts inside (reached_on blank can.page redo.page (reached_on blank a can.page reached can.run) redo.run)
          (ready_then c n q t w y looks v ready) quiet (whole_then c n q t w y looks e p (since_of v q) can.page redo.page acts redo.same can.whole) (redo.done tt) redo.related

      -- what is left then is to settle
      pub served_leads : Leads c e n p (IsBetween b c e n) a (reply (reply.Serving q) (with_node y (serve_table q (table_at y.node q) y.node)))
      served_leads =
          record {
            page = completing redo.page (since_of v q) n;
            run = runs_then can.run (runs_then redo.run (then here completes.step));
            related =
                subst (λ (o : Option LockTable). IsWorkOf c e n p (reply (reply.Serving q) (with_node y (serve_table q o y.node))) (completing redo.page (since_of v q) n)) (sym looks.there) completes.related;
            known = (
              serve_midway b c e n q y (subst (λ (k : Sizes). q < k.nodes) (sym i.config) inside)
                  (all_midway b c e n q inside (pages_of c.config q) (pages_are c.config q inside) w y i goes),
              completed_entered redo.page (since_of v q) n,
            );
          }
