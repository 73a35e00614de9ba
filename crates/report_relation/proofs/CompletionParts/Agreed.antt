-- No page differs that is read for completing its partition.
use Rattle.std.proofs.Common.{◌≡◌, refl, ap, sym, subst, ◌∙◌, ℕ, ◌<◌, Bool, true, false, List, [], ◌∷◌}
use Rattle.std.specs.List.{AllByRecursion}
use Rattle.pcl_base.specs.Limits.{Sizes}
use Rattle.pcl_base.specs.declared.event.Event.{Event}
use Rattle.pcl_base.specs.declared.reply.Reply.TheVariants as reply
use Rattle.text_rules.specs.MessageBytes.{IsPageOf}
use Rattle.run_rules.specs.Redo.{all_records}
use Rattle.run_rules.specs.Views.{View}
use Rattle.node_rules.specs.InstallRule.{begin_serving, complete, complete_if, is_complete, redo_page, serve_table}
use Rattle.node_rules.specs.LockTable.{LockTable, pages_of}
use Rattle.node_rules.specs.NodeState.{partition, table_at}
use Rattle.node_rules.specs.OwnerRule.{settle_page}
use Rattle.node_rules.specs.Work.{Outcome, Work, Goes, Differs, and_then, for_each, reply, with_node}
use Rattle.node_laws.proofs.Tables.{pages_are}
use Rattle.node_laws.proofs.Works.{Base}
use Rattle.cluster_rules.specs.Clusters.{Cluster}
use Rattle.cluster_laws.specs.Link.EpochLaws.{IsInOrder}
use Rattle.page_protocol.specs.State.{Page}
use Rattle.page_protocol.specs.Steps.{Reached}
use Rattle.page_relation.specs.Work.Keeping.{IsWorkOf, Leads}
use Rattle.page_relation.specs.Work.Landing.{Acts}
use Rattle.page_relation.proofs.WorkParts.Kept.{reached_on}
use Rattle.settle_relation.proofs.Agreeing.{settle_agrees}
use Rattle.settle_relation.proofs.Midway.{IsMidway}
use Rattle.settle_relation.proofs.Turns.{IsBetween, settle_keeps}
use Rattle.report_relation.specs.Completing.{IsReady}
use Rattle.report_relation.specs.Redoing.{MayRedo, records}
use Rattle.report_relation.proofs.Each.{redo_is_related_law}
use Rattle.report_relation.proofs.Restored.{redo_agrees_law}
use Rattle.report_relation.specs.Completion.Agreeing.{CanComplete, CompleteAgrees}
use Rattle.report_relation.specs.Completion.Completed.{Owns}
use Rattle.report_relation.proofs.CompletionParts.Beside.{serve_midway}
use Rattle.report_relation.proofs.CompletionParts.Own.{HasReady, all_midway, can, complete_ready, may_redo, served_leads}

-- one of two differs
differs_in : {X : Type 0} (o : Outcome X) (f : X → Outcome X) (k expected found : ℕ) → and_then o f ≡ Differs k expected found
    → ((k expected found : ℕ) → o ≡ Differs k expected found → ⊥) → ((x : X) → o ≡ Goes x → f x ≡ Differs k expected found → ⊥) → ⊥
differs_in (Goes x) f k expected found is first rest = rest x refl is
differs_in (Differs q d g) f k expected found is first rest = first q d g refl

-- a state of a page, of which something is known with the work
record HasState (blank : List ℕ) (c : Cluster) (e : Event) (n p : ℕ) (Known : Work → Page → Type 0) (w : Work) : Type 0 where
  page : Page
  reached : Reached blank page
  related : IsWorkOf c e n p w page
  known : Known w page

led : (blank : List ℕ) (c : Cluster) (e : Event) (n p : ℕ) (Known : Work → Page → Type 0) (a : Page) (x : Work) → Reached blank a → Leads c e n p Known a x → HasState blank c e n p Known x
led blank c e n p Known a x reached to = record { page = to.page; reached = reached_on blank a to.page reached to.run; related = to.related; known = to.known }

-- Where each page of a list has a state, none differs, if an operation of one keeps all states and doesn't differ at its own.
module _ (S : Work → Type 0) (L : ℕ → Type 0) (f : ℕ → Work → Outcome Work) (agrees : (r : ℕ) (w : Work) → L r → S w → (k expected found : ℕ) → f r w ≡ Differs k expected found → ⊥)
    (keeps : (r : ℕ) (w x : Work) → L r → S w → f r w ≡ Goes x → S x) where
  all_agree : (rs : List ℕ) → AllByRecursion L rs → (w : Work) → S w → (k expected found : ℕ) → for_each f rs w ≡ Differs k expected found → ⊥
  unfolding for_each
  all_agree [] all w s k expected found is = absurd (cc)
  all_agree (r ∷ rs) all w s k expected found is =
      differs_in (f r w) (for_each f rs) k expected found is (agrees r w all.0 s) (λ x goes more. all_agree rs all.1 x (keeps r w x all.0 s goes) k expected found more)

module _ (blank : List ℕ) (b : Base) (c : Cluster) (e : Event) (n q : ℕ) (acts : Acts c n) (order : IsInOrder c) (low : q < c.config.nodes) where
  pages : AllByRecursion (IsPageOf c.config q) (pages_of c.config q)
  pages = pages_are c.config q low

  -- ---- redo

  -- each page of the partition may be redone
  abbrev Redoes : Work → Type 0
  Redoes w = (p : ℕ) → IsPageOf c.config q p → HasState blank c e n p (λ x a. MayRedo c n q x a) w

  redo_agrees : (r : ℕ) (w : Work) → IsPageOf c.config q r → Redoes w → (k expected found : ℕ) → redo_page (records c) q r w ≡ Differs k expected found → ⊥
  redo_agrees r w of all k expected found is = redo_agrees_law c e n r q k expected found w (all r of).page (all r of).known.called (all r of).related is

  one_redone : (r : ℕ) (w x : Work) → redo_page (records c) q r w ≡ Goes x → for_each (redo_page (records c) q) (r ∷ []) w ≡ Goes x
  unfolding for_each
  one_redone r w x goes = ap (λ (o : Outcome Work). and_then o (for_each (redo_page (records c) q) [])) goes

  redo_keeps : (r : ℕ) (w x : Work) → IsPageOf c.config q r → Redoes w → redo_page (records c) q r w ≡ Goes x → Redoes x
  redo_keeps r w x of all goes p in_it = by q (in_it.1) (all p in_it) (one_redone r w x goes)
    where
      by : (k : ℕ) → partition c.config p ≡ k → HasState blank c e n p (λ x a. MayRedo c n k x a) w → for_each (redo_page (records c) k) (r ∷ []) w ≡ Goes x
          → HasState blank c e n p (λ x a. MayRedo c n k x a) x
      by k same state done =
          subst (λ (j : ℕ). HasState blank c e n p (λ x a. MayRedo c n j x a) w → for_each (redo_page (records c) j) (r ∷ []) w ≡ Goes x → HasState blank c e n p (λ x a. MayRedo c n j x a) x) same
          (λ had went.
          let redo = redo_is_related_law c e n p (r ∷ []) blank w x had.page acts in_it.0 had.reached had.known had.related went in
          record { page = redo.page; reached = reached_on blank had.page redo.page had.reached redo.run; related = redo.related; known = redo.may }) state done

  -- ---- settling

  abbrev Settles : Work → Type 0
  Settles w = (p : ℕ) → IsPageOf c.config q p → HasState blank c e n p (IsBetween b c e n) w

  settling_agrees : (r : ℕ) (w : Work) → IsPageOf c.config q r → Settles w → (k expected found : ℕ) → settle_page r w ≡ Differs k expected found → ⊥
  settling_agrees r w of all k expected found is =
      let had = all r of in settle_agrees b c e n r acts order of.0 blank w had.page had.reached had.related had.known k expected found is

  settling_keeps : (r : ℕ) (w x : Work) → IsPageOf c.config q r → Settles w → settle_page r w ≡ Goes x → Settles x
  settling_keeps r w x of all goes p in_it =
      let had = all p in_it in
      led blank c e n p (IsBetween b c e n) had.page x had.reached (settle_keeps b c e n p acts order in_it.0 r of.0 blank w x had.page had.reached had.related had.known goes)

  -- ---- and all of it

  -- one page, whose partition this is
  first_redone : (p k : ℕ) → partition c.config p ≡ k → p < c.config.pages → k < c.config.nodes → (w : Work) (v : View) (t : LockTable) → IsMidway b c e n w → IsReady c n k w v t
      → CanComplete blank c e n p k w → HasState blank c e n p (λ x a. MayRedo c n k x a) w
  first_redone p k same within inside w v t i ready has =
      subst (λ (j : ℕ). j < c.config.nodes → IsReady c n j w v t → CanComplete blank c e n p j w → HasState blank c e n p (λ x a. MayRedo c n j x a) w) same
      (λ inside ready has.
      let whole = can b c e n p acts within inside has.quiet blank w has.page has.reached i v t ready has.may in
      record {
        page = whole.page;
        reached = reached_on blank has.page whole.page has.reached whole.run;
        related = whole.related;
        known = may_redo b c e n p acts within inside has.quiet blank w has.page has.reached i v t ready has.may;
      }) inside ready has

  then_settled : (p k : ℕ) → partition c.config p ≡ k → p < c.config.pages → k < c.config.nodes → (w y : Work) (v : View) (t : LockTable) → IsMidway b c e n w → IsReady c n k w v t
      → CanComplete blank c e n p k w → for_each (redo_page (records c) k) (pages_of c.config k) w ≡ Goes y
      → HasState blank c e n p (IsBetween b c e n) (reply (reply.Serving k) (with_node y (serve_table k (table_at y.node k) y.node)))
  then_settled p k same within inside w y v t i ready has goes =
      subst (λ (j : ℕ). j < c.config.nodes → IsReady c n j w v t → CanComplete blank c e n p j w → for_each (redo_page (records c) j) (pages_of c.config j) w ≡ Goes y
      → HasState blank c e n p (IsBetween b c e n) (reply (reply.Serving j) (with_node y (serve_table j (table_at y.node j) y.node)))) same
      (λ inside ready has goes.
      led blank c e n p (IsBetween b c e n) has.page (reply (reply.Serving (partition c.config p)) (with_node y (serve_table (partition c.config p) (table_at y.node (partition c.config p)) y.node))) has.reached
      (served_leads b c e n p acts within inside has.quiet blank w has.page has.reached i v t ready has.may y goes)) inside ready has goes

  module _ (w : Work) (owns : Owns b q) (i : IsMidway b c e n w) (all : (p : ℕ) → p < c.config.pages → partition c.config p ≡ q → CanComplete blank c e n p q w) where
    serving_agrees : HasReady c n q w → (y : Work) → for_each (redo_page (records c) q) (pages_of c.config q) w ≡ Goes y → (k expected found : ℕ) → begin_serving q y ≡ Differs k expected found → ⊥
    serving_agrees has y goes k expected found is =
        all_agree Settles (IsPageOf c.config q) settle_page settling_agrees settling_keeps (pages_of c.config q) pages z
        (λ p of. then_settled p q of.1 of.0 low w y has.view has.table i has.ready (all p of.0 of.1) goes) k expected found
        (sym (ap (λ (j : Sizes). for_each settle_page (pages_of j q) z) config) ∙ is)
      where
        z : Work
        z = reply (reply.Serving q) (with_node y (serve_table q (table_at y.node q) y.node))

        mid : IsMidway b c e n z
        mid = serve_midway b c e n q y (subst (λ (j : Sizes). q < j.nodes) (sym i.config) low) (all_midway b c e n q low (pages_of c.config q) pages w y i goes)

        config : z.node.home.config ≡ c.config
        config = mid.good.home.config ∙ mid.config

    pub completing_agrees : (k expected found : ℕ) → complete c.disk q w ≡ Differs k expected found → ⊥
    unfolding complete
    completing_agrees k expected found is = by (is_complete w.node.view q (table_at w.node q)) refl is
      where
        config : w.node.home.config ≡ c.config
        config = i.good.home.config ∙ i.config

        redoing : HasReady c n q w → and_then (for_each (redo_page (records c) q) (pages_of c.config q) w) (begin_serving q) ≡ Differs k expected found → ⊥
        redoing has done =
            differs_in (for_each (redo_page (records c) q) (pages_of c.config q) w) (begin_serving q) k expected found done
            (all_agree Redoes (IsPageOf c.config q) (redo_page (records c) q) redo_agrees redo_keeps (pages_of c.config q) pages w
            (λ p of. first_redone p q of.1 of.0 low w has.view has.table i has.ready (all p of.0 of.1)))
            (λ y goes more. serving_agrees has y goes k expected found more)

        by : (d : Bool) → is_complete w.node.view q (table_at w.node q) ≡ d → complete_if d c.disk q w ≡ Differs k expected found → ⊥
        by false off done = absurd (cc)
        by true on done =
            redoing (complete_ready b c e n q low owns w i on)
            (sym (ap (λ (j : Sizes). and_then (for_each (redo_page (all_records j c.disk) q) (pages_of j q) w) (begin_serving q)) config) ∙ done)

pub complete_agrees_law : CompleteAgrees
complete_agrees_law blank b c e n q k expected found w acts order low owns i all is = completing_agrees blank b c e n q acts order low w owns i all k expected found is
