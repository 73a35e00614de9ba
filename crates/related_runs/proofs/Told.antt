-- The granted accesses that a work's replies tell stand at its home, through settling.
use Rattle.std.proofs.Common.{◌≡◌, ◌⊎◌, inl, inr, refl, sym, ap, subst, ◌∙◌, ℕ, ◌==◌, Bool, true, false, List, [], ◌∷◌, ◌++◌, Option, Some, None, append_assoc}
use Rattle.std.specs.Prelude.{IfSome, ⊤}
use Rattle.std.specs.List.{AllByRecursion}
use Rattle.pcl_base.specs.declared.lock.Decision.{Decision}
use Rattle.pcl_base.specs.declared.lock.Decision.TheVariants as decision
use Rattle.pcl_base.specs.declared.lock.Held.{Held}
use Rattle.pcl_base.specs.declared.lock.Kind.TheVariants as kind
use Rattle.pcl_base.specs.declared.reply.Reply.{Reply}
use Rattle.pcl_base.specs.declared.tx.Mode.{Mode}
use Rattle.pcl_base.specs.declared.tx.TxId.{TxId}
use Rattle.text_rules.specs.MessageBytes.{IsPage}
use Rattle.node_rules.specs.AccessRule.{Granted, granted}
use Rattle.node_rules.specs.LockRule.{LockEntry, Settled, settle}
use Rattle.node_rules.specs.LockTable.{LockTable, entry_at, put_entry}
use Rattle.node_rules.specs.NodeState.{HomeState, number_of, table_of}
use Rattle.node_rules.specs.OpenTxs.{pending_of, waits_as}
use Rattle.node_rules.specs.OwnerRule.{with_table, told, grant_own, carry_grant, carry_out, carry_all, settle_served, settle_in, settle_page, enter_in, enter}
use Rattle.node_rules.specs.Work.{Work, work_of_home, for_each}
use Rattle.home_laws.proofs.Needs.{waiting_pinned}
use Rattle.step_laws.proofs.Outcomes.{On, on_then, on_so, on_more, on_each}
use Rattle.node_laws.proofs.Grants.{granted_good}
use Rattle.node_laws.proofs.Lists.{all_weaker, all_push}
use Rattle.node_laws.proofs.Works.{Base, IsHomeWork, on_is}
use Rattle.cluster_laws.proofs.Lists.{all_any}
use Rattle.related_runs.specs.Granted.{StandsAt, Given, given_by, is_commit}
use Rattle.related_runs.proofs.PageLists.{ArePages, Before, none_here, next_page}
use Rattle.related_runs.proofs.Standing.{waits_here, IsStanding, grant_stands}

-- what a reply grants stands at a home, and is of such a page and version; and it tells no commit point
abbrev pub IsTold : (ℕ → ℕ → Type 0) → HomeState → Reply → Type 0
IsTold D h r = IfSome (given_by r) (λ (g : Given). StandsAt h g.tx g.page g.version × D g.page g.version) × (is_commit r ≡ false)

-- the same of all replies behind the first ones, at a home that gave so many serials
pub record AreTold (front : List Reply) (last : ℕ) (D : ℕ → ℕ → Type 0) (h : HomeState) (rs : List Reply) : Type 0 where
  pub rest : List Reply
  pub joined : rs ≡ front ++ rest
  pub told : AllByRecursion (IsTold D h) rest
  pub last_same : h.txs.last ≡ last

told_moved : (D E : ℕ → ℕ → Type 0) (h g : HomeState) → ((t : TxId) (p v : ℕ) → StandsAt h t p v → D p v → StandsAt g t p v × E p v)
    → (rs : List Reply) → AllByRecursion (IsTold D h) rs → AllByRecursion (IsTold E g) rs
told_moved D E h g k rs all = all_weaker (IsTold D h) (IsTold E g) (λ r a. (by (given_by r) a.0, a.1)) rs all
  where
    by : (o : Option Given) → IfSome o (λ (x : Given). StandsAt h x.tx x.page x.version × D x.page x.version) → IfSome o (λ (x : Given). StandsAt g x.tx x.page x.version × E x.page x.version)
    by None a = tt
    by (Some x) a = k x.tx x.page x.version a.0 a.1

module _ (front : List Reply) (last : ℕ) where
  -- another home, at which they stand too
  pub tells_moved : (D E : ℕ → ℕ → Type 0) (h g : HomeState) (rs : List Reply) → g.txs.last ≡ h.txs.last → ((t : TxId) (p v : ℕ) → StandsAt h t p v → D p v → StandsAt g t p v × E p v)
      → AreTold front last D h rs → AreTold front last E g rs
  tells_moved D E h g rs same k are =
      record { rest = are.rest; joined = are.joined; told = told_moved D E h g k are.rest are.told; last_same = same ∙ are.last_same }

  -- a further reply
  pub tells_more : (D : ℕ → ℕ → Type 0) (h : HomeState) (rs : List Reply) (r : Reply) → IsTold D h r → AreTold front last D h rs → AreTold front last D h (rs ++ r ∷ [])
  tells_more D h rs r is are =
      record {
        rest = are.rest ++ r ∷ [];
        joined = ap (λ xs. xs ++ r ∷ []) are.joined ∙ append_assoc front are.rest (r ∷ []);
        told = all_push (IsTold D h) are.rest r are.told is;
        last_same = are.last_same;
      }

  module _ (b : Base) where
    -- a work with a sound home, whose replies tell what stands there
    abbrev pub Fine : (ℕ → ℕ → Type 0) → Work → Type 0
    Fine D w = IsHomeWork b (work_of_home w) × AreTold front last D w.node.home w.replies

    pub fine_weaker : (D E : ℕ → ℕ → Type 0) → ((p v : ℕ) → D p v → E p v) → (w : Work) → Fine D w → Fine E w
    fine_weaker D E k w f = (f.0, tells_moved D E w.node.home w.node.home w.replies refl (λ t p v s d. (s, k p v d)) f.1)

    -- settling of a page of which nothing was granted before
    module _ (p : ℕ) (low : IsPage b.config p) (D : ℕ → Type 0) where
      abbrev pub Past : ℕ → ℕ → Type 0
      Past q x = D q ⊎ (q ≡ p)

      abbrev During : ℕ → ℕ → ℕ → Type 0
      During v q x = (q ≡ p → x ≡ v) × Past q x

      own_fine : (y : Bool) (t : TxId) (m : Mode) (v : ℕ) (w : Work) → waits_as (pending_of w.node.home.txs t) p m ≡ y → Fine (During v) w → On (Fine (During v)) (grant_own y t m p v w)
      own_fine false t m v w e f = f
      own_fine true t m v w e f =
          let l : Held = record { page = p; mode = m; kind = kind.Own } in
          on_so (λ (g : Granted). IsHomeWork b g.work × IsStanding t p v w.node.home g) (Fine (During v)) (granted t l v None (work_of_home w)) (told w)
          (on_is (λ (g : Granted). IsHomeWork b g.work × IsStanding t p v w.node.home g) (granted t l v None (work_of_home w))
          (λ g goes. (
            subst (On (λ (g : Granted). IsHomeWork b g.work)) goes (granted_good b t l v None (work_of_home w) e refl tt low f.0),
            grant_stands t l v None (work_of_home w) g (waiting_pinned w.node.home t p f.0.home.home (waits_here (pending_of w.node.home.txs t) l e)).0 e goes,
          )))
          (λ g is. (record { home = is.0.home; stored = is.0.stored }, more g is.1))
        where
          more : (g : Granted) → IsStanding t p v w.node.home g → AreTold front last (During v) g.work.home (w.replies ++ g.reply ∷ [])
          more g is =
              tells_more (During v) g.work.home w.replies g.reply
              (subst (λ (o : Option Given). IfSome o (λ (x : Given). StandsAt g.work.home x.tx x.page x.version × During v x.page x.version)) (sym is.given) (is.here, ((λ same. refl), inr refl)), is.commit)
              (tells_moved (During v) (During v) w.node.home g.work.home w.replies is.last (λ u q x stands d. (is.others u q x d.0 stands, d)) f.1)

      grant_fine : (y : Bool) (t : TxId) (m : Mode) (right : Bool) (have : Option ℕ) (v : ℕ) (w : Work) → Fine (During v) w → On (Fine (During v)) (carry_grant y t m right have p v w)
      grant_fine true t m right have v w f = own_fine (waits_as (pending_of w.node.home.txs t) p m) t m v w refl f
      grant_fine false t m right have v w f = f

      carry_fine : (v : ℕ) (d : Decision) (w : Work) → Fine (During v) w → On (Fine (During v)) (carry_out p v d w)
      unfolding carry_out
      carry_fine v (decision.Grant t m right have) w f = grant_fine (t.node == number_of w.node) t m right have v w f
      carry_fine v (decision.Revoke n) w f = f

      module _ (none : D p → ⊥) where
        all_fine : (t : LockTable) (s : Settled) (w : Work) → Fine (λ q x. D q) w → On (Fine Past) (carry_all p t s w)
        all_fine t s w f =
            on_more (Fine (During s.entry.version)) (Fine Past) (carry_all p t s w) (λ x g. fine_weaker (During s.entry.version) Past (λ q v d. d.1) x g)
            (on_each (Fine (During s.entry.version)) (λ (d : Decision). ⊤) (carry_out p s.entry.version) (λ d x any g. carry_fine s.entry.version d x g) s.decisions (all_any s.decisions)
            (with_table p (put_entry t p s.entry) w)
            (f.0, tells_moved (λ q x. D q) (During s.entry.version) w.node.home w.node.home w.replies refl (λ u q x stands d. (stands, ((λ same. absurd (none (subst D same d))), inl d))) f.1))

        pub settle_fine : (w : Work) → Fine (λ q x. D q) w → On (Fine Past) (settle_page p w)
        unfolding settle_page
        settle_fine w f = by (table_of w.node p)
          where
            same : Fine Past w
            same = fine_weaker (λ q x. D q) Past (λ q v d. inl d) w f

            served : (y : Bool) (t : LockTable) → On (Fine Past) (settle_served y p t w)
            served false t = same
            served true t = all_fine t (settle (number_of w.node) (entry_at t p)) w f

            by : (o : Option LockTable) → On (Fine Past) (settle_in p o w)
            by None = same
            by (Some t) = served t.serving t

        pub enter_fine : (g : LockEntry → LockEntry) (w : Work) → Fine (λ q x. D q) w → On (Fine Past) (enter g p w)
        unfolding enter
        enter_fine g w f = by (table_of w.node p)
          where
            by : (o : Option LockTable) → On (Fine Past) (enter_in g p o w)
            by None = fine_weaker (λ q x. D q) Past (λ q v d. inl d) w f
            by (Some t) = settle_fine (with_table p (put_entry t p (g (entry_at t p))) w) f

    -- pages that are settled one after the other
    pub settle_list : (E : ℕ → Type 0) (ps : List ℕ) → AllByRecursion (λ p. IsPage b.config p × E p) ps → ArePages ps → (w : Work) → Fine (λ q x. Before E ps q) w
        → On (Fine (λ q x. E q)) (for_each settle_page ps w)
    unfolding for_each
    settle_list E [] all once w f = fine_weaker (λ q x. Before E [] q) (λ q x. E q) (λ q v d. d.0) w f
    settle_list E (p ∷ ps) all once w f =
        on_then (Fine (λ q x. Before E ps q)) (Fine (λ q x. E q)) (settle_page p w) (for_each settle_page ps)
        (on_more (Fine (Past p all.0.0 (Before E (p ∷ ps)))) (Fine (λ q x. Before E ps q)) (settle_page p w)
        (λ x g. fine_weaker (Past p all.0.0 (Before E (p ∷ ps))) (λ q x. Before E ps q) (λ q v d. next_page E p ps all.0.1 once.0 q d) x g)
        (settle_fine p all.0.0 (Before E (p ∷ ps)) (none_here E p ps) w f))
        (λ x g. settle_list E ps all.1 once.1 x g)
