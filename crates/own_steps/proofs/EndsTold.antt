-- The ends of a transaction that are told one after the other: what each comes to, and what stays for the others.
use Rattle.std.proofs.Common.{◌≡◌, ◌≢◌, ℕ, zero, suc, ◌<◌, ◌≤◌, ◌==◌, ◌||◌, ◌%◌, Bool, true, false, List, [], ◌∷◌, length, map, get_or, set, Option, Some, None, IsSome, is_some, Result, Ok, Err, refl, ap, sym, subst, ◌∙◌, arith}
use Rattle.std.specs.List.{AllByRecursion}
use Rattle.std.specs.Option.{option_map}
use Rattle.pcl_base.specs.Limits.{Sizes}
use Rattle.pcl_base.specs.declared.message.Change.{Change}
use Rattle.pcl_base.specs.declared.tx.TxId.{TxId}
use Rattle.node_rules.specs.Words.{pick}
use Rattle.node_rules.specs.EndRule.{Ending}
use Rattle.node_rules.specs.LockRule.{LockEntry, Settled, end_tx, idle, takes_change}
use Rattle.node_rules.specs.LockTable.{LockTable, PageEntry, entries_with, entry_at, entry_in, put_entry}
use Rattle.node_rules.specs.NodeState.{HomeState, NodeState, number_of, table_of}
use Rattle.node_rules.specs.OwnerRule.{carry_all, change_if_served, end_in, send_release, tell_end, tell_in, version_of_change}
use Rattle.node_rules.specs.Work.{Work, Outcome as Rule, Goes, for_each}
use Rattle.authority.specs.Plans.{Plan, plan, plan_release, settled, version_if}
use Rattle.authority.specs.declared.outcome.Outcome.{Outcome}
use Rattle.authority.proofs.Entering.{enter_as_plan}
use Rattle.home.specs.Ends.{listed}
use Rattle.home_laws.proofs.Words.{equal, self_test}
use Rattle.node_parts.specs.Comes.{Comes}
use Rattle.node_parts.specs.Outputs.{OutputsView}
use Rattle.node_parts.specs.State.{AreParts, PartsView, node_of}
use Rattle.node_parts.specs.Stock.{StockView}
use Rattle.node_parts.specs.Tables.{AreTidyBut, TablesView, made_at, with_entry_at}
use Rattle.node_parts.specs.declared.fault.StepFault.{StepFault}
use Rattle.page_owner.specs.Carry.{SameNode}
use Rattle.page_owner.specs.Planned.{ArePartsBut, IsPlanFor, SameView, plan_of, settled_of}
use Rattle.page_owner.proofs.Carrying.{and_done, and_failed}
use Rattle.page_owner.proofs.Planned.{node_kept}
use Rattle.own_steps.specs.Ends.{AreEndPlans, AwaitsEnds, HasEntry, HasMemoryFor, IsDuePlan, MayTell, SameEntry, UsesEnd, decisions_of, due, due_pages, pages_in}
use Rattle.own_steps.specs.declared.page_end.PageEnd.{PageEnd}

-- the entry of another page is as it was
entry_other : (xs : List PageEntry) (p r : ℕ) (e : LockEntry) → (p == r) ≡ false → entry_in (entries_with xs p e) r ≡ entry_in xs r
unfolding entry_in entries_with
entry_other [] p r e apart = ap (λ b. pick b e (idle 0)) apart
entry_other (x ∷ xs) p r e apart = by (x.page == p) refl (entry_other xs p r e apart)
  where
    here : (x.page == p) ≡ true → (x.page == r) ≡ false
    here same = ap (λ k. k == r) (equal x.page p same) ∙ apart

    by : (b : Bool) → (x.page == p) ≡ b → entry_in (entries_with xs p e) r ≡ entry_in xs r
        → entry_in (pick b (record { page = p; entry = e } ∷ xs) (x ∷ entries_with xs p e)) r ≡ entry_in (x ∷ xs) r
    by true same rest = ap (λ b. pick b e (entry_in xs r)) apart ∙ sym (ap (λ b. pick b x.entry (entry_in xs r)) (here same))
    by false other rest = ap (λ y. pick (x.page == r) x.entry y) rest

pub entry_same : (o : Option LockTable) (p : ℕ) → SameEntry o o p
entry_same None p = tt
entry_same (Some t) p = (refl, refl)

tables_entry : (f : LockTable → LockTable) (p : ℕ) (keeps : (t : LockTable) → SameEntry (Some t) (Some (f t)) p) (l : List (Option LockTable)) (k i : ℕ)
    → SameEntry (get_or l i None) (get_or (set l k (option_map f (get_or l k None))) i None) p
tables_entry f p keeps [] k i = entry_same (get_or (let e : List (Option LockTable) = [] in e) i None) p
tables_entry f p keeps (x ∷ l) zero zero = of x
  where
    of : (o : Option LockTable) → SameEntry o (option_map f o) p
    of None = tt
    of (Some t) = keeps t
tables_entry f p keeps (x ∷ l) zero (suc i) = entry_same (get_or l i None) p
tables_entry f p keeps (x ∷ l) (suc k) zero = entry_same x p
tables_entry f p keeps (x ∷ l) (suc k) (suc i) = tables_entry f p keeps l k i

not_same : (p r : ℕ) → r ≢ p → (p == r) ≡ false
not_same p r other = by (p == r) refl
  where
    by : (b : Bool) → (p == r) ≡ b → b ≡ false
    by true e = absurd (other (sym (equal p r e)))
    by false e = refl

-- the entries of other pages stay where an entry was put in
pub entered_others : (n later : NodeState) (c : Sizes) (q : ℕ) (e : LockEntry) → later.home.config ≡ n.home.config → c ≡ n.home.config → later.tables ≡ with_entry_at n.tables (q % c.nodes) q e
    → (p : ℕ) → p ≢ q → SameEntry (table_of n p) (table_of later p) p
entered_others n later c q e config same put p other =
    subst (λ (k : Sizes). SameEntry (table_of n p) (get_or later.tables (p % k.nodes) None) p) (sym config)
    (subst (λ l. SameEntry (table_of n p) (get_or l (p % n.home.config.nodes) None) p) (sym put)
    (tables_entry (λ t. put_entry t q e) p (λ t. (refl, entry_other t.entries q p e (not_same q p other))) n.tables (q % c.nodes) (p % n.home.config.nodes)))

-- what was planned for a page with the same entry stays
plan_stays : (t u : Option LockTable) (p me : ℕ) (x : TxId) (c : Option ℕ) (k : Option Outcome) → SameEntry t u p → IsPlanFor t (λ tb. plan_release tb me p x c) k → IsPlanFor u (λ tb. plan_release tb me p x c) k
plan_stays None None p me x c k same is = is
plan_stays None (Some u) p me x c k same is = absurd same
plan_stays (Some t) None p me x c k same is = absurd same
plan_stays (Some t) (Some u) p me x c None same is = absurd is
plan_stays (Some t) (Some u) p me x c (Some o) same is = is ∙ (λ i. at (sym same.0 i) (sym same.1 i))
  where
    at : Bool → LockEntry → Plan
    at s e = plan s (takes_change e x (version_if s c)) me (end_tx e x (version_if s c))

neither : (a b : Bool) → (a || b) ≡ false → (a ≡ false) × (b ≡ false)
neither true b e = absurd (cc)
neither false b e = (refl, e)

other_page : (p q : ℕ) → (p == q) ≡ false → p ≢ q
other_page p q e same = let yes : (p == q) ≡ true = ap (λ k. k == q) same ∙ self_test q in absurd (cc)

module _ (n later : NodeState) (me next : ℕ) (t : TxId) (q : ℕ) (number : next ≡ me) (entries : (p : ℕ) → p ≢ q → SameEntry (table_of n p) (table_of later p) p) where
  plans_stay : (ds : List (ℕ × Option ℕ)) (xs : List PageEnd) → listed (due_pages ds) q ≡ false → AreEndPlans n me t ds xs → AreEndPlans later next t ds xs
  plans_stay [] [] none are = tt
  plans_stay [] (x ∷ xs) none are = absurd are
  plans_stay (d ∷ ds) [] none are = absurd are
  plans_stay (d ∷ ds) (x ∷ xs) none are =
      let no = neither (d.0 == q) (listed (due_pages ds) q) none in (
        (are.0.0, subst (λ k. IsDuePlan later k t d x.planned) (sym number) (plan_stays (table_of n d.0) (table_of later d.0) d.0 me t d.1 x.planned (entries d.0 (other_page d.0 q no.0)) are.0.1)),
        plans_stay ds xs no.1 are.1,
      )

rooms_stay : (n : NodeState) (me : ℕ) (t : TxId) (u v : TablesView) (q : ℕ) (ds : List (ℕ × Option ℕ)) (xs : List PageEnd) → listed (due_pages ds) q ≡ false → AreEndPlans n me t ds xs
    → ((p : ℕ) → p ≢ q → made_at v p ≡ made_at u p) → AllByRecursion (HasEntry u) xs → AllByRecursion (HasEntry v) xs
rooms_stay n me t u v q [] [] none are others all = tt
rooms_stay n me t u v q [] (x ∷ xs) none are others all = absurd are
rooms_stay n me t u v q (d ∷ ds) [] none are others all = absurd are
rooms_stay n me t u v q (d ∷ ds) (x ∷ xs) none are others all =
    let no = neither (d.0 == q) (listed (due_pages ds) q) none in
    let apart : x.page ≢ q = λ same. other_page d.0 q no.0 (sym are.0.0 ∙ same) in (
      record { made = λ some. subst IsSome (sym (others x.page apart)) (all.0.made some) },
      rooms_stay n me t u v q ds xs no.1 are.1 others all.1,
    )

-- the end that is told first
pub may_tell : (v : PartsView) (t : TxId) (d : ℕ × Option ℕ) (ds : List (ℕ × Option ℕ)) (x : PageEnd) (xs : List PageEnd) → AwaitsEnds v t (d ∷ ds) (x ∷ xs) → MayTell v t d x.planned
may_tell v t d ds x xs is = record {
  node = is.node;
  number = is.number;
  config = is.config;
  plan = is.plans.0.1;
  room = λ some. subst (λ p. IsSome (made_at v.tables p)) is.plans.0.0 (is.rooms.0.made some);
  below = is.below.0;
}

-- the other ends once it is told
pub awaits_next : (v later : PartsView) (t : TxId) (d : ℕ × Option ℕ) (ds : List (ℕ × Option ℕ)) (x : PageEnd) (xs : List PageEnd) → AwaitsEnds v t (d ∷ ds) (x ∷ xs)
    → ((ps : List ℕ) → AreTidyBut (d.0 ∷ ps) v.tables → ArePartsBut ps later) → ((p : ℕ) → p ≢ d.0 → made_at later.tables p ≡ made_at v.tables p)
    → ((p : ℕ) → p ≢ d.0 → SameEntry (table_of (node_of v) p) (table_of (node_of later) p) p) → SameView v later → SameNode v.home later.home → AwaitsEnds later t ds xs
awaits_next v later t d ds x xs is parts others entries view same =
    let but : ArePartsBut (due_pages ds) later = parts (due_pages ds) is.tidy in
    record {
      node = but.node;
      number = but.number;
      config = but.config;
      plans = plans_stay (node_of v) (node_of later) v.me later.me t d.0 view.me entries ds xs is.apart.0 is.plans.1;
      rooms = rooms_stay (node_of v) v.me t v.tables later.tables d.0 ds xs is.apart.0 is.plans.1 others is.rooms.1;
      below = subst (λ (c : Sizes). AllByRecursion (λ p. p < c.pages) (due_pages ds)) (sym same.config) is.below.1;
      apart = is.apart.1;
      tidy = but.tidy;
    }

-- the ends with another home of the node
pub awaits_home : (v : PartsView) (h : HomeState) (t : TxId) (ds : List (ℕ × Option ℕ)) (xs : List PageEnd) → SameNode v.home h → AwaitsEnds v t ds xs → AwaitsEnds (record v { home = h }) t ds xs
awaits_home v h t ds xs same is = record {
  node = node_kept (node_of v) h is.node same (node_of v).tables refl (λ q. refl);
  number = is.number ∙ sym same.node;
  config = is.config ∙ sym same.config;
  plans = plans_home ds xs is.plans;
  rooms = is.rooms;
  below = subst (λ (c : Sizes). AllByRecursion (λ p. p < c.pages) (due_pages ds)) (sym same.config) is.below;
  apart = is.apart;
  tidy = is.tidy;
}
  where
    plans_home : (ds : List (ℕ × Option ℕ)) (xs : List PageEnd) → AreEndPlans (node_of v) v.me t ds xs → AreEndPlans (node_of (record v { home = h })) v.me t ds xs
    plans_home [] [] are = tt
    plans_home [] (x ∷ xs) are = absurd are
    plans_home (d ∷ ds) [] are = absurd are
    plans_home (d ∷ ds) (x ∷ xs) are =
        ((are.0.0, subst (λ (c : Sizes). IsPlanFor (get_or (node_of v).tables (d.0 % c.nodes) None) (λ tb. plan_release tb v.me d.0 t d.1) x.planned) (sym same.config) are.0.1), plans_home ds xs are.1)

-- the pages of plans are those of the ends
pub plan_pages : (n : NodeState) (me : ℕ) (t : TxId) (ds : List (ℕ × Option ℕ)) (xs : List PageEnd) → AreEndPlans n me t ds xs → map (λ x. x.page) xs ≡ due_pages ds
plan_pages n me t [] [] are = refl
plan_pages n me t [] (x ∷ xs) are = absurd are
plan_pages n me t (d ∷ ds) [] are = absurd are
plan_pages n me t (d ∷ ds) (x ∷ xs) are = λ i. are.0.0 i ∷ plan_pages n me t ds xs are.1 i

pub ends_over : (n : NodeState) (me : ℕ) (t : TxId) (es : List Ending) (xs : List PageEnd) → xs ≡ [] → AreEndPlans n me t (map due es) xs → es ≡ []
ends_over n me t [] xs none are = refl
ends_over n me t (e ∷ es) xs none are = absurd (subst (AreEndPlans n me t (map due (e ∷ es))) none are)

-- all ends are told
pub all_told_parts : (v : PartsView) (t : TxId) (ds : List (ℕ × Option ℕ)) (xs : List PageEnd) → ds ≡ [] → AwaitsEnds v t ds xs → AreParts v
all_told_parts v t ds xs none is = record { node = is.node; number = is.number; config = is.config; tidy = subst (λ l. AreTidyBut (due_pages l) v.tables) none is.tidy }

same_version : (b : Bool) (c : Option Change) → version_if b (version_of_change c) ≡ version_of_change (change_if_served b c)
same_version true c = refl
same_version false c = refl

-- the end of an own page is its plan
module _ (n : NodeState) (me : ℕ) (number : me ≡ number_of n) (t : TxId) (e : Ending) (o : Outcome) (is : IsDuePlan n me t (due e) (Some o)) where
  module _ (tb : LockTable) (there : table_of n e.page ≡ Some tb) where
    planned : plan_of o ≡ plan_release tb me e.page t (version_of_change e.change)
    planned = subst (λ k. IsPlanFor k (λ tb. plan_release tb me e.page t (version_of_change e.change)) (Some o)) there is

    settled_is : settled tb.serving me (end_in t (change_if_served tb.serving e.change) (entry_at tb e.page)) ≡ settled_of o
    settled_is =
        ap (λ c. settled tb.serving me (end_tx (entry_at tb e.page) t c)) (sym (same_version tb.serving e.change))
        ∙ ap (λ (x : Plan). let s : Settled = record { decisions = x.decisions; entry = x.entry } in s) (sym planned)

    tell_as_plan : (w : Work) → w.node ≡ n → tell_end t e w ≡ carry_all e.page tb (settled_of o) w
    unfolding tell_end
    tell_as_plan w at =
        let table : table_of w.node e.page ≡ Some tb = ap (λ k. table_of k e.page) at ∙ there in
        ap (λ k. tell_in t e k w) table
        ∙ enter_as_plan e.page tb w table (end_in t (change_if_served tb.serving e.change))
        ∙ ap (λ k. carry_all e.page tb (settled tb.serving k (end_in t (change_if_served tb.serving e.change) (entry_at tb e.page))) w) (ap number_of at ∙ sym number)
        ∙ ap (λ s. carry_all e.page tb s w) settled_is

  pub tell_comes : {X : Type 0} (r : Result X StepFault) (w after : Work) → w.node ≡ n → ((tb : LockTable) → table_of n e.page ≡ Some tb → Comes (carry_all e.page tb (settled_of o) w) r after) → Comes (tell_end t e w) r after
  tell_comes r w after at comes = by (table_of n e.page) refl
    where
      by : (k : Option LockTable) → table_of n e.page ≡ k → Comes (tell_end t e w) r after
      by None none = absurd (subst (λ k. IsPlanFor k (λ tb. plan_release tb me e.page t (version_of_change e.change)) (Some o)) none is)
      by (Some tb) there = subst (λ k. Comes k r after) (sym (tell_as_plan tb there w at)) (comes tb there)

-- the end of another owner's page is a release, or nothing
pub none_owned : (n : NodeState) (me : ℕ) (t : TxId) (d : ℕ × Option ℕ) → IsDuePlan n me t d None → table_of n d.0 ≡ None
none_owned n me t d is = by (table_of n d.0) is
  where
    by : (k : Option LockTable) → IsPlanFor k (λ tb. plan_release tb me d.0 t d.1) None → k ≡ None
    by None is = refl
    by (Some tb) is = absurd is

pub tell_none : (t : TxId) (e : Ending) (w : Work) → table_of w.node e.page ≡ None → tell_end t e w ≡ Goes (send_release e.kind t e w)
unfolding tell_end
tell_none t e w none = ap (λ k. tell_in t e k w) none

pub some_owned : (n : NodeState) (me : ℕ) (t : TxId) (d : ℕ × Option ℕ) (k : Option Outcome) → IsDuePlan n me t d k → is_some k ≡ true → is_some (table_of n d.0) ≡ true
some_owned n me t d k is some = by (table_of n d.0) k is some
  where
    by : (b : Option LockTable) (k : Option Outcome) → IsPlanFor b (λ tb. plan_release tb me d.0 t d.1) k → is_some k ≡ true → is_some b ≡ true
    by None None is some = some
    by None (Some o) is some = absurd is
    by (Some tb) k is some = refl

-- one end after another
module _ {X : Type 0} (f : X → Work → Rule Work) (x : X) (xs : List X) (w mid : Work) where
  pub each_done : {Y : Type 0} (y : Y) → Comes (f x w) (Ok y) mid → for_each f (x ∷ xs) w ≡ for_each f xs mid
  unfolding for_each
  each_done y done = and_done (f x w) (for_each f xs) y mid done

  pub each_failed : (Y Z : Type 0) (e : StepFault) → Comes {T = Y} (f x w) (Err e) mid → Comes {T = Z} (for_each f (x ∷ xs) w) (Err e) mid
  unfolding for_each
  each_failed Y Z e failed = and_failed Y Z (f x w) (for_each f xs) e mid failed

pub none_left : {X : Type 0} (xs : List X) → length xs ≤ 0 → xs ≡ []
none_left [] none = refl
none_left (x ∷ xs) none = absurd (omega (arith, none))

-- memory for the ends to come
pub memory_next : (x : PageEnd) (xs : List PageEnd) (stock later : StockView) (out after : OutputsView) → HasMemoryFor (x ∷ xs) stock out → UsesEnd (decisions_of x.planned) stock later out after → HasMemoryFor xs later after
memory_next x xs stock later out after has used =
    let i = has.images in
    let r = has.replies in
    let s = has.sends in
    let ui = used.images in
    let ur = used.replies in
    let us = used.sends in
    record { images = omega (arith, i, ui); replies = omega (arith, r, ur); sends = omega (arith, s, us) }

pub told_over : {X : Type 0} (f : X → Work → Rule Work) (xs : List X) (w : Work) → xs ≡ [] → for_each f xs w ≡ Goes w
unfolding for_each
told_over f xs w none = ap (λ l. for_each f l w) none

-- the parts that await ends, as they are where these are told no more
pub awaits_but : (v : PartsView) (t : TxId) (ds : List (ℕ × Option ℕ)) (xs : List PageEnd) → AwaitsEnds v t ds xs → ArePartsBut (pages_in xs) v
awaits_but v t ds xs is = record {
  node = is.node;
  number = is.number;
  config = is.config;
  tidy = subst (λ l. AreTidyBut l v.tables) (sym (plan_pages (node_of v) v.me t ds xs is.plans)) is.tidy;
}
