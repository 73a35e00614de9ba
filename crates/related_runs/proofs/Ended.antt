-- What is granted while the end of a transaction is told stands at its home.
use Rattle.std.proofs.Common.{◌≡◌, inl, refl, sym, ap, subst, ℕ, Bool, true, false, List, [], ◌∷◌, ◌++◌, map, Option, Some, None, is_some}
use Rattle.std.specs.Prelude.{⊤}
use Rattle.std.specs.List.{AllByRecursion}
use Rattle.pcl_base.specs.declared.lock.Kind.{Kind}
use Rattle.pcl_base.specs.declared.lock.Kind.TheVariants as kind
use Rattle.pcl_base.specs.declared.reply.Reply.{Reply}
use Rattle.pcl_base.specs.declared.tx.TxId.{TxId}
use Rattle.text_rules.specs.MessageBytes.{IsPage}
use Rattle.node_rules.specs.Words.{pick}
use Rattle.node_rules.specs.AccessRule.{on_pool}
use Rattle.node_rules.specs.BufferRule.{clean}
use Rattle.node_rules.specs.EndRule.{Ending, Closed, ending, endings, pages_at_end}
use Rattle.node_rules.specs.LockTable.{LockTable}
use Rattle.node_rules.specs.NodeState.{HomeState, table_of}
use Rattle.node_rules.specs.OpenTxs.{locks_of, pending_of}
use Rattle.node_rules.specs.OwnerRule.{change_if_served, end_in, send_release, tell_in, tell_end, is_unserved, keep_dirty, clean_unserved, end_work}
use Rattle.node_rules.specs.Work.{HomeWork, Work, work_of_home, with_home_work, for_each, reply}
use Rattle.home_laws.specs.Homes.{IsHome}
use Rattle.home_laws.proofs.Leaves.{clean_is_sound_law}
use Rattle.home_laws.proofs.Opens.{locks_once}
use Rattle.step_laws.proofs.Outcomes.{On, on_then, on_more}
use Rattle.node_laws.proofs.Works.{Base, IsHomeWork}
use Rattle.related_runs.proofs.PageLists.{ArePages, Before, none_here, next_page, ends_once}
use Rattle.related_runs.proofs.Told.{Fine, fine_weaker, Past, enter_fine}

-- a home's copy that is made clean
pub clean_part : (b : Base) (p : ℕ) (w : HomeWork) → IsHomeWork b w → IsHomeWork b (on_pool (λ d. clean d p) w)
clean_part b p w is =
    let of = is.home in
    record {
      home = record { config = of.config; number = of.number; born = of.born; home = clean_is_sound_law p w.home of.home; rights = of.rights };
      stored = is.stored;
    }

-- the pages at which an end is told
abbrev pub pages_in : List Ending → List ℕ
pages_in es = map (λ (e : Ending). e.page) es

pages_same : (h : HomeState) (t : TxId) (commits : Bool) (ps : List ℕ) → pages_in (map (ending h t commits) ps) ≡ ps
pages_same h t commits [] = refl
pages_same h t commits (p ∷ ps) = ap (λ (xs : List ℕ). p ∷ xs) (pages_same h t commits ps)

pub endings_once : (h : HomeState) (t : TxId) (commits : Bool) → IsHome h → ArePages (pages_in (endings h t commits))
unfolding endings
endings_once h t commits is =
    subst ArePages (sym (pages_same h t commits (pages_at_end h t))) (ends_once (locks_of h.txs t) (pending_of h.txs t) (locks_once h.txs t is.txs.once))

module _ (b : Base) (last : ℕ) where
  -- before the first reply
  record Starts (w : Work) : Type 0 where
    part : IsHomeWork b (work_of_home w)
    same : w.node.home.txs.last ≡ last
    silent : w.replies ≡ []

  kept_starts : (w : Work) (p : ℕ) → Starts w → Starts (keep_dirty w p)
  kept_starts w p s = by (is_unserved (table_of w.node p))
    where
      by : (x : Bool) → Starts (pick x (with_home_work w (on_pool (λ d. clean d p) (work_of_home w))) w)
      by true = record { part = clean_part b p (work_of_home w) s.part; same = s.same; silent = s.silent }
      by false = s

  cleaned_starts : (es : List Ending) (w : Work) → Starts w → Starts (clean_unserved es w)
  unfolding clean_unserved
  cleaned_starts [] w s = s
  cleaned_starts (e ∷ es) w s = cleaned_starts es (pick (is_some e.change) (keep_dirty w e.page) w) (by (is_some e.change))
    where
      by : (x : Bool) → Starts (pick x (keep_dirty w e.page) w)
      by true = kept_starts w e.page s
      by false = s

  module _ (front : List Reply) where
    sent_fine : (k : Kind) (D : ℕ → ℕ → Type 0) (t : TxId) (e : Ending) (w : Work) → Fine front last b D w → Fine front last b D (send_release k t e w)
    sent_fine kind.Registered D t e w f = f
    sent_fine kind.Own D t e w f = f
    sent_fine kind.Right D t e w f = f

    tell_fine : (t : TxId) (e : Ending) (low : IsPage b.config e.page) (D : ℕ → Type 0) → (D e.page → ⊥) → (w : Work) → Fine front last b (λ q x. D q) w
        → On (Fine front last b (Past front last b e.page low D)) (tell_end t e w)
    unfolding tell_end
    tell_fine t e low D none w f = by (table_of w.node e.page)
      where
        by : (o : Option LockTable) → On (Fine front last b (Past front last b e.page low D)) (tell_in t e o w)
        by None =
            sent_fine e.kind (Past front last b e.page low D) t e w (fine_weaker front last b (λ q x. D q) (Past front last b e.page low D) (λ q v d. inl d) w f)
        by (Some tb) = enter_fine front last b e.page low D none (end_in t (change_if_served tb.serving e.change)) w f

    tell_list : (t : TxId) (es : List Ending) → AllByRecursion (λ (e : Ending). IsPage b.config e.page) es → ArePages (pages_in es) → (w : Work)
        → Fine front last b (λ q x. Before (λ q. ⊤) (pages_in es) q) w → On (Fine front last b (λ q x. ⊤)) (for_each (tell_end t) es w)
    unfolding for_each
    tell_list t [] all once w f = fine_weaker front last b (λ q x. Before (λ q. ⊤) [] q) (λ q x. ⊤) (λ q v d. tt) w f
    tell_list t (e ∷ es) all once w f =
        on_then (Fine front last b (λ q x. Before (λ q. ⊤) (pages_in es) q)) (Fine front last b (λ q x. ⊤)) (tell_end t e w) (for_each (tell_end t) es)
        (on_more (Fine front last b (Past front last b e.page all.0 (Before (λ q. ⊤) (e.page ∷ pages_in es)))) (Fine front last b (λ q x. Before (λ q. ⊤) (pages_in es) q)) (tell_end t e w)
        (λ x g.
        fine_weaker front last b (Past front last b e.page all.0 (Before (λ q. ⊤) (e.page ∷ pages_in es))) (λ q x. Before (λ q. ⊤) (pages_in es) q)
        (λ q v d. next_page (λ q. ⊤) e.page (pages_in es) tt once.0 q d) x g)
        (tell_fine t e all.0 (Before (λ q. ⊤) (e.page ∷ pages_in es)) (none_here (λ q. ⊤) e.page (pages_in es)) w f))
        (λ x g. tell_list t es all.1 once.1 x g)

  -- an end of a transaction
  pub end_fine : (r : Reply) (t : TxId) (w : Work) (x : Closed) → w.replies ≡ [] → IsHomeWork b x.work → x.work.home.txs.last ≡ last
      → AllByRecursion (λ (e : Ending). IsPage b.config e.page) x.endings → ArePages (pages_in x.endings) → On (Fine (r ∷ []) last b (λ q x. ⊤)) (end_work r t w x)
  end_fine r t w x silent part same all once =
      tell_list (r ∷ []) t x.endings all once (reply r begun)
      (s.part, record { rest = []; joined = ap (λ (rs : List Reply). rs ++ r ∷ []) s.silent; told = tt; last_same = s.same })
    where
      begun : Work
      begun = clean_unserved x.endings (with_home_work w x.work)

      s : Starts begun
      s = cleaned_starts x.endings (with_home_work w x.work) (record { part = record { home = part.home; stored = part.stored }; same = same; silent = silent })
