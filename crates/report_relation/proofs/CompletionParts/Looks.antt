-- What redo leaves: the node's standing, what it sent and replied, and of its table all but versions. So a table that had
-- all of its era still has.
use Rattle.std.proofs.Common.{◌≡◌, refl, ap, sym, subst, ◌∙◌, ℕ, ◌<◌, ◌==◌, ◌&&◌, not, nat_le, nat_lt, Bool, true, false, List, [], ◌∷◌, length, Some}
use Rattle.std.specs.List.{AllByRecursion, filter, list_any}
use Rattle.pcl_base.specs.declared.event.Event.{Event}
use Rattle.pcl_base.specs.declared.log.Record.{Record}
use Rattle.pcl_base.specs.declared.message.Message.{Message}
use Rattle.pcl_base.specs.declared.reply.Reply.{Reply}
use Rattle.text_rules.specs.StoredPage.{PageAt}
use Rattle.run_rules.specs.Redo.{redone}
use Rattle.run_rules.specs.Views.{View, born_of, count_from, is_live, owner_of, since_of}
use Rattle.node_rules.specs.InstallRule.{redo_page, redo_to}
use Rattle.node_rules.specs.LockTable.{LockTable, marked, set_version}
use Rattle.node_rules.specs.NodeState.{Outgoing, table_at}
use Rattle.node_rules.specs.Reports.{missing}
use Rattle.node_rules.specs.Words.{flag_at}
use Rattle.node_rules.specs.Work.{Outcome, Work, Goes, Differs, and_so, and_then, for_each, read_page}
use Rattle.cluster_rules.specs.Clusters.{Cluster}
use Rattle.cluster_rules.specs.ClusterStep.{is_taken}
use Rattle.cluster_laws.specs.Era.Eras.{era_at}
use Rattle.cluster_laws.specs.Link.Coming.{coming, sent_to}
use Rattle.cluster_laws.specs.Link.Orders.{is_report}
use Rattle.page_protocol.specs.State.{Page, Right}
use Rattle.page_relation.specs.Messages.{CountsFor}
use Rattle.page_relation.specs.Work.Landing.{land, Acts}
use Rattle.page_relation.specs.Work.Rest.{SameRest}
use Rattle.page_relation.specs.Work.Unseen.{SameStanding, speaks}
use Rattle.page_relation.proofs.WorkParts.Comings.{coming_same}
use Rattle.page_relation.proofs.WorkParts.Framing.{standing_self}
use Rattle.settle_relation.proofs.Deciding.{put_there}
use Rattle.report_relation.specs.Completing.{HasAll, IsReady}
use Rattle.report_relation.specs.Serving.{HasWhole}
use Rattle.report_relation.proofs.Restored.{redo_is, redone_to, wrote_to}
use Rattle.report_relation.specs.Completion.Looks.{LooksSame, RedoKeepsWhole, RedoLooksSame}

standing_then : (w x y : Work) → SameStanding w.node x.node → SameStanding x.node y.node → SameStanding w.node y.node
standing_then w x y f g = record { config = g.config ∙ f.config; number = g.number ∙ f.number; epoch = g.epoch ∙ f.epoch; view = g.view ∙ f.view }

module _ (q : ℕ) (rs : List Record) where
  -- a page
  page_looks : (r : ℕ) (t : LockTable) (w x : Work) → table_at w.node q ≡ Some t → redo_page rs q r w ≡ Goes x → LooksSame q t w x
  unfolding redo_page
  page_looks r t w x there goes = by (read_page w.pages r) goes
    where
      wrote : (b : Bool) (at : PageAt) → LooksSame q t w (redone_to q r t at (wrote_to b r at w))
      wrote true at =
          record {
            standing = record { config = refl; number = refl; epoch = refl; view = refl };
            replies = refl;
            sends = refl;
            table = set_version t r at.version;
            there = put_there w.node.tables q t (Some (set_version t r at.version)) there;
            serving = refl;
            reported = refl;
          }
      wrote false at =
          record {
            standing = record { config = refl; number = refl; epoch = refl; view = refl };
            replies = refl;
            sends = refl;
            table = set_version t r at.version;
            there = put_there w.node.tables q t (Some (set_version t r at.version)) there;
            serving = refl;
            reported = refl;
          }

      of : (old : PageAt) → redo_to q r old (redone rs r old) w ≡ x → LooksSame q t w x
      of old same =
          subst (LooksSame q t w) (sym (redo_is q r old (redone rs r old) t w there) ∙ same) (wrote (nat_lt old.version (redone rs r old).version) (redone rs r old))

      by : (o : Outcome PageAt) → and_so o (λ old. redo_to q r old (redone rs r old) w) ≡ Goes x → LooksSame q t w x
      by (Differs k expected found) done = absurd (cc)
      by (Goes old) done = of old (let same : redo_to q r old (redone rs r old) w ≡ x = cc in same)

  -- some pages
  pub pages_look : (ps : List ℕ) (t : LockTable) (w x : Work) → table_at w.node q ≡ Some t → for_each (redo_page rs q) ps w ≡ Goes x → LooksSame q t w x
  unfolding for_each
  pages_look [] t w x there goes =
      let same : w ≡ x = cc in
      subst (LooksSame q t w) same
      (record { standing = standing_self w.node; replies = refl; sends = refl; table = t; there = there; serving = refl; reported = refl })
  pages_look (r ∷ ps) t w x there goes = by (redo_page rs q r w) refl goes (pages_look ps)
    where
      joined : (y : Work) (f : LooksSame q t w y) → LooksSame q f.table y x → LooksSame q t w x
      joined y f g =
          record {
            standing = standing_then w y x f.standing g.standing;
            replies = g.replies ∙ f.replies;
            sends = g.sends ∙ f.sends;
            table = g.table;
            there = g.there;
            serving = g.serving ∙ f.serving;
            reported = g.reported ∙ f.reported;
          }

      by : (o : Outcome Work) → redo_page rs q r w ≡ o → and_then o (for_each (redo_page rs q) ps) ≡ Goes x
          → ((t : LockTable) (w x : Work) → table_at w.node q ≡ Some t → for_each (redo_page rs q) ps w ≡ Goes x → LooksSame q t w x) → LooksSame q t w x
      by (Differs k expected found) is done rest = absurd (cc)
      by (Goes y) is done rest =
          let first : LooksSame q t w y = page_looks r t w y there is in
          joined y first (rest first.table y x first.there done)

-- a report is missing by whom a table marks
missing_by : (t u : LockTable) (v : View) (q : ℕ) → u.reported ≡ t.reported → missing u v q ≡ missing t v q
unfolding missing
missing_by t u v q same =
    ap (λ (marks : List Bool). list_any (λ (m : ℕ). is_live v.live m && (not (m == owner_of v q) && (not (flag_at marks m) && nat_le (born_of v m) (since_of v q)))) (count_from 0 (length v.live))) same

module _ (c : Cluster) (n q : ℕ) (t : LockTable) (w x : Work) (same : LooksSame q t w x) where
  -- the table still misses no report
  pub ready_then : (v : View) → IsReady c n q w v t → IsReady c n q x v same.table
  ready_then v ready =
      record {
        all = subst (λ (k : ℕ). HasAll c n q k v same.table) (sym same.standing.epoch) all;
        in_view = same.standing.view ∙ ready.in_view;
        there = same.there;
        rebuilt = same.serving ∙ ready.rebuilt;
      }
    where
      all : HasAll c n q w.node.epoch v same.table
      all =
          record {
            there = ready.all.there;
            low = ready.all.low;
            made = ready.all.made;
            owner = ready.all.owner;
            none_missing = missing_by t same.table v q same.reported ∙ ready.all.none_missing;
          }

  marks : (m : ℕ) → marked same.table m ≡ marked t m
  marks m = ap (λ (flags : List Bool). flag_at flags m) same.reported

  -- and has all of its era
  pub whole_then : (e : Event) (p era : ℕ) (a d : Page) → Acts c n → SameRest a d → HasWhole c e n p q era w t a → HasWhole c e n p q era x same.table d
  unfolding land era_at
  whole_then e p era a d acts rest whole =
      record {
        listed = λ u off. ap (λ f. f u era) rest.listed ∙ whole.listed u (sym (marks u.node) ∙ off);
        rights = λ m off counts. whole.rights m (sym (marks m) ∙ off) (subst (λ (f : ℕ → Right). CountsFor era (f m)) rest.right counts);
        reports = λ from to.
            subst (λ (ms : List Message). AllByRecursion (λ (m : Message). is_report m.body ≡ true → era < era_at (land c e n w) q m.epoch) ms) (sym (comes from to)) (whole.reports from to);
      }
    where
      comes : (from to : ℕ) → coming (land c e n x) p from to ≡ coming (land c e n w) p from to
      comes = coming_same c e n p acts w x same.standing (ap (λ (k : List Reply). is_taken k) same.replies) (λ m. ap (λ (os : List Outgoing). filter (speaks c.config p) (sent_to m os)) same.sends)

pub redo_looks_same_law : RedoLooksSame
redo_looks_same_law q rs ps t w x there goes = pages_look q rs ps t w x there goes

pub redo_keeps_whole_law : RedoKeepsWhole
redo_keeps_whole_law c n q t w x same = record { ready = ready_then c n q t w x same; whole = whole_then c n q t w x same }
