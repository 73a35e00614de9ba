-- A page of another partition: redo, completion and settling aren't seen at it.
use Rattle.std.proofs.Common.{◌≡◌, ◌≢◌, refl, ap, sym, subst, ◌∙◌, ℕ, ◌<◌, ◌==◌, nat_lt, Bool, true, false, List, [], ◌∷◌, Option, Some, None, arith, eqb-true}
use Rattle.std.specs.List.{AllByRecursion}
use Rattle.std.proofs.lemmas.Bool.Decides.{nat_tests}
use Rattle.pcl_base.specs.Limits.{Sizes}
use Rattle.pcl_base.specs.declared.event.Event.{Event}
use Rattle.pcl_base.specs.declared.log.Record.{Record}
use Rattle.pcl_base.specs.declared.reply.Reply.TheVariants as reply
use Rattle.text_rules.specs.MessageBytes.{IsPageOf}
use Rattle.text_rules.specs.StoredPage.{PageAt, stored_bytes}
use Rattle.run_rules.specs.Redo.{all_records, redone}
use Rattle.node_rules.specs.BufferRule.{copy_at, cleaned}
use Rattle.node_rules.specs.DiskCalls.{WritePage}
use Rattle.node_rules.specs.InstallRule.{begin_serving, complete, complete_if, is_complete, redo_page, redo_to, serve_table, version_in, write_newer}
use Rattle.node_rules.specs.LockTable.{LockTable, pages_of, serve, set_version}
use Rattle.node_rules.specs.NodeState.{partition, put_table, table_at}
use Rattle.node_rules.specs.OwnerRule.{settle_page}
use Rattle.node_rules.specs.Words.{pick}
use Rattle.node_rules.specs.Work.{Outcome, Work, Goes, Differs, and_so, and_then, for_each, read_page, reply, with_node, work_of_home}
use Rattle.node_laws.proofs.Tables.{pages_are, serve_is}
use Rattle.node_laws.proofs.Works.{Base, good_table, has_table}
use Rattle.cluster_rules.specs.Clusters.{Cluster}
use Rattle.page_laws.specs.Look.Buffers.{IsCleaned}
use Rattle.page_laws.proofs.LookParts.Copies.{cleaning_is_seen_law}
use Rattle.page_relation.specs.Work.Unseen.{IsUnseen}
use Rattle.page_relation.proofs.WorkParts.Framing.{unseen_self, unseen_then}
use Rattle.page_relation.proofs.WorkParts.Quiet.{calls_elsewhere_law, homes_elsewhere_law, quiet_replies_law, tables_elsewhere_law}
use Rattle.page_relation.proofs.WorkParts.Storing.{page_beside}
use Rattle.settle_relation.proofs.Elsewhere.{settle_on}
use Rattle.settle_relation.proofs.Midway.{IsMidway, midway_on, reply_midway, still_same}
use Rattle.report_relation.specs.Redoing.{records}
use Rattle.report_relation.proofs.RedoMidway.{redo_midway}
use Rattle.report_relation.proofs.Restored.{wrote_to}
use Rattle.report_relation.specs.Completion.Completed.{CompleteIsBeside, IsBeside}

-- a table that is served, where it is there
pub serve_midway : (b : Base) (c : Cluster) (e : Event) (n q : ℕ) (w : Work) → q < b.config.nodes → IsMidway b c e n w
    → IsMidway b c e n (reply (reply.Serving q) (with_node w (serve_table q (table_at w.node q) w.node)))
serve_midway b c e n q w low i =
    reply_midway b c e n (reply.Serving q) (with_node w (serve_table q (table_at w.node q) w.node)) refl (by (table_at w.node q) refl)
  where
    by : (o : Option LockTable) → table_at w.node q ≡ o → IsMidway b c e n (with_node w (serve_table q o w.node))
    by None there = i
    by (Some t) there =
        let has = has_table b i.base q t w low there i.good in
        midway_on b c e n w (with_node w (put_table w.node q (Some (serve t)))) i (good_table b i.base q (serve t) w has.0 (serve_is b.config b.number q t has.1) i.good) i.called
        (still_same w.node.home.txs) (λ t. refl)

module _ (c : Cluster) (e : Event) (n p q : ℕ) (other : (q == partition c.config p) ≡ false) where
  apart : q ≡ partition c.config p → ⊥
  apart same = absurd (grind (arith, nat_tests, other, same))

  -- another page that is written
  wrote_unseen : (r : ℕ) → p ≢ r → (x : Bool) (at : PageAt) (w : Work) → IsUnseen c e n p w (wrote_to x r at w)
  wrote_unseen r away false at w = unseen_self c e n p w
  wrote_unseen r away true at w =
      homes_elsewhere_law c e n p w (write_newer true r at (work_of_home w)) seen.rest.life
      (page_beside p w.node.home (write_newer true r at (work_of_home w)).home seen.rest
      (seen.copies p ∙ ap (λ (b : Bool). pick b (cleaned (copy_at w.node.home.pool p)) (copy_at w.node.home.pool p)) (by (r == p) refl)))
      (calls_elsewhere_law c n p w.calls (WritePage r (stored_bytes r at) ∷ []) (away, tt))
    where
      seen : IsCleaned r w.node.home (write_newer true r at (work_of_home w)).home
      seen = cleaning_is_seen_law r w.node.home

      by : (b : Bool) → (r == p) ≡ b → b ≡ false
      by true at = absurd (away (sym (eqb-true r p at)))
      by false at = refl

  -- a table of the other partition
  table_unseen : (o : Option LockTable) (w : Work) → IsUnseen c e n p w (with_node w (put_table w.node q o))
  table_unseen o w = tables_elsewhere_law c e n p q o w (λ same. absurd (apart same))

  -- a page of the other partition that is redone
  redone_unseen : (r : ℕ) → p ≢ r → (old new : PageAt) (w : Work) → IsUnseen c e n p w (redo_to q r old new w)
  redone_unseen r away old new w = by (table_at w.node q) (nat_lt old.version new.version)
    where
      by : (o : Option LockTable) (x : Bool)
          → IsUnseen c e n p w (record w { node = record (version_in q r new.version o w.node) { home = (write_newer x r new (work_of_home w)).home }; pages = (write_newer x r new (work_of_home w)).pages; calls = (write_newer x r new (work_of_home w)).calls })
      by None x = wrote_unseen r away x new w
      by (Some t) x =
          unseen_then c e n p w (wrote_to x r new w) (with_node (wrote_to x r new w) (put_table (wrote_to x r new w).node q (Some (set_version t r new.version))))
          (wrote_unseen r away x new w) (table_unseen (Some (set_version t r new.version)) (wrote_to x r new w))

  redo_unseen : (rs : List Record) (r : ℕ) → p ≢ r → (w x : Work) → redo_page rs q r w ≡ Goes x → IsUnseen c e n p w x
  unfolding redo_page
  redo_unseen rs r away w x goes = by (read_page w.pages r) goes
    where
      by : (o : Outcome PageAt) → and_so o (λ old. redo_to q r old (redone rs r old) w) ≡ Goes x → IsUnseen c e n p w x
      by (Differs k expected found) done = absurd (cc)
      by (Goes old) done =
          let same : redo_to q r old (redone rs r old) w ≡ x = cc in
          subst (IsUnseen c e n p w) same (redone_unseen r away old (redone rs r old) w)

  serve_unseen : (w : Work) → IsUnseen c e n p w (reply (reply.Serving q) (with_node w (serve_table q (table_at w.node q) w.node)))
  serve_unseen w =
      unseen_then c e n p w (with_node w (serve_table q (table_at w.node q) w.node)) (reply (reply.Serving q) (with_node w (serve_table q (table_at w.node q) w.node)))
      (by (table_at w.node q)) (quiet_replies_law c e n p (reply.Serving q) (with_node w (serve_table q (table_at w.node q) w.node)) refl refl)
    where
      by : (o : Option LockTable) → IsUnseen c e n p w (with_node w (serve_table q o w.node))
      by None = unseen_self c e n p w
      by (Some t) = table_unseen (Some (serve t)) w

module _ (b : Base) (c : Cluster) (e : Event) (n p q : ℕ) (low : q < c.config.nodes) (other : (q == partition c.config p) ≡ false) where
  -- nothing at all, and one operation after another
  beside_self : (w x : Work) → w ≡ x → IsMidway b c e n w → IsBeside b c e n p w x
  beside_self w x same i = subst (IsBeside b c e n p w) same (record { midway = i; unseen = unseen_self c e n p w })

  beside_then : (w x y : Work) → IsBeside b c e n p w x → IsBeside b c e n p x y → IsBeside b c e n p w y
  beside_then w x y f g = record { midway = g.midway; unseen = unseen_then c e n p w x y f.unseen g.unseen }

  -- one for each page of the other partition
  each_beside : (f : ℕ → Work → Outcome Work) → ((r : ℕ) (w x : Work) → IsPageOf c.config q r → IsMidway b c e n w → f r w ≡ Goes x → IsBeside b c e n p w x) → (rs : List ℕ)
      → AllByRecursion (IsPageOf c.config q) rs → (w x : Work) → IsMidway b c e n w → for_each f rs w ≡ Goes x → IsBeside b c e n p w x
  unfolding for_each
  each_beside f one [] all w x i goes = beside_self w x (let same : w ≡ x = cc in same) i
  each_beside f one (r ∷ rs) all w x i goes = by (f r w) refl goes (each_beside f one rs all.1)
    where
      by : (o : Outcome Work) → f r w ≡ o → and_then o (for_each f rs) ≡ Goes x
          → ((y x : Work) → IsMidway b c e n y → for_each f rs y ≡ Goes x → IsBeside b c e n p y x) → IsBeside b c e n p w x
      by (Differs k expected found) is done rest = absurd (cc)
      by (Goes y) is done rest = let first = one r w y all.0 i is in beside_then w y x first (rest y x first.midway done)

  away : (r : ℕ) → IsPageOf c.config q r → p ≢ r
  away r of same = apart c e n p q other (sym of.1 ∙ ap (λ (k : ℕ). partition c.config k) (sym same))

  in_base : (r : ℕ) (w : Work) → IsMidway b c e n w → IsPageOf c.config q r → IsPageOf b.config q r
  in_base r w i = subst (λ (k : Sizes). IsPageOf k q r) (sym i.config)

  redo_beside : (r : ℕ) (w x : Work) → IsPageOf c.config q r → IsMidway b c e n w → redo_page (records c) q r w ≡ Goes x → IsBeside b c e n p w x
  redo_beside r w x of i goes =
      record {
        midway = redo_midway b c e n q r w x (subst (λ (k : Sizes). q < k.nodes) (sym i.config) low) (in_base r w i of) i goes;
        unseen = redo_unseen c e n p q other (records c) r (away r of) w x goes;
      }

  settle_beside : (r : ℕ) (w x : Work) → IsPageOf c.config q r → IsMidway b c e n w → settle_page r w ≡ Goes x → IsBeside b c e n p w x
  settle_beside r w x of i goes =
      let on = settle_on b c e n p r (in_base r w i of).0 w x i goes in
      record { midway = on.midway; unseen = on.unseen (by (r == p) refl) }
    where
      by : (d : Bool) → (r == p) ≡ d → d ≡ false
      by true at = absurd (away r of (sym (eqb-true r p at)))
      by false at = refl

  pages : AllByRecursion (IsPageOf c.config q) (pages_of c.config q)
  pages = pages_are c.config q low

  config_of : (w : Work) → IsMidway b c e n w → w.node.home.config ≡ c.config
  config_of w i = i.good.home.config ∙ i.config

  serving_beside : (w x : Work) → IsMidway b c e n w → begin_serving q w ≡ Goes x → IsBeside b c e n p w x
  serving_beside w x i goes =
      let first = serve_midway b c e n q w (subst (λ (k : Sizes). q < k.nodes) (sym i.config) low) i in
      let y = reply (reply.Serving q) (with_node w (serve_table q (table_at w.node q) w.node)) in
      beside_then w y x (record { midway = first; unseen = serve_unseen c e n p q other w })
      (each_beside settle_page settle_beside (pages_of c.config q) pages y x first
      (sym (ap (λ (k : Sizes). for_each settle_page (pages_of k q) y) (config_of y first)) ∙ goes))

  pub complete_beside : (w x : Work) → IsMidway b c e n w → complete c.disk q w ≡ Goes x → IsBeside b c e n p w x
  unfolding complete
  complete_beside w x i goes = by (is_complete w.node.view q (table_at w.node q)) goes
    where
      after : (o : Outcome Work) → for_each (redo_page (records c) q) (pages_of c.config q) w ≡ o → and_then o (begin_serving q) ≡ Goes x → IsBeside b c e n p w x
      after (Differs k expected found) is done = absurd (cc)
      after (Goes y) is done =
          let first = each_beside (redo_page (records c) q) redo_beside (pages_of c.config q) pages w y i is in
          beside_then w y x first (serving_beside y x first.midway done)

      by : (d : Bool) → complete_if d c.disk q w ≡ Goes x → IsBeside b c e n p w x
      by false done = beside_self w x (let same : w ≡ x = cc in same) i
      by true done =
          after (for_each (redo_page (records c) q) (pages_of c.config q) w) refl
          (sym (ap (λ (k : Sizes). and_then (for_each (redo_page (all_records k c.disk) q) (pages_of k q) w) (begin_serving q)) (config_of w i)) ∙ done)

pub complete_is_beside_law : CompleteIsBeside
complete_is_beside_law b c e n p q w x low other i goes = complete_beside b c e n p q low other w x i goes
