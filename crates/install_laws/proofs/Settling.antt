-- Settling some pages is putting their settled table, and then carrying the decisions out.
use Rattle.std.proofs.Common.{◌≡◌, ℕ, ◌<◌, true, List, [], ◌∷◌, map, length, slice_index_or, slice_set, Option, Some, None, refl, ap, sym, subst, ◌∙◌}
use Rattle.std.specs.List.{AllByRecursion}
use Rattle.pcl_base.specs.declared.lock.Decision.{Decision}
use Rattle.node_rules.specs.LockRule.{Settled, settle}
use Rattle.node_rules.specs.LockTable.{LockTable, entry_at, put_entry}
use Rattle.node_rules.specs.NodeState.{number_of, partition, table_at}
use Rattle.node_rules.specs.Work.{Work, Outcome, Goes, Differs, and_then, and_so, for_each}
use Rattle.node_rules.specs.OwnerRule.{carry_out, settle_served, settle_in, settle_page}
use Rattle.install_laws.specs.InstallPlans.{Due, SettlePlan, decided, plan_settling, carry_due, put_planned}
use Rattle.install_laws.specs.Laws.{SettlingIsPlanned}
use Rattle.install_laws.proofs.Words.{set_here, set_twice, set_same, set_length}
use Rattle.install_laws.proofs.Outcomes.{On, on_more, same_then, each_append}
use Rattle.install_laws.proofs.Grants.{IsCarried, each_carried, with_tables, each_tables}

-- the decisions about a page, with their page and version
each_decided : (p v : ℕ) (ds : List Decision) (w : Work) → for_each (carry_out p v) ds w ≡ for_each carry_due (map (λ d. record { page = p; version = v; decision = d }) ds) w
unfolding for_each
each_decided p v [] w = refl
each_decided p v (d ∷ ds) w = by (carry_out p v d w) (each_decided p v ds)
  where
    dues : List Due
    dues = map (λ d. record { page = p; version = v; decision = d }) ds

    by : (o : Outcome Work) → ((x : Work) → for_each (carry_out p v) ds x ≡ for_each carry_due dues x) → and_then o (for_each (carry_out p v) ds) ≡ and_then o (for_each carry_due dues)
    by (Goes x) rest = rest x
    by (Differs n e f) rest = refl

-- they are about that page
pub decided_of : (P : ℕ → Type 0) (p v : ℕ) (ds : List Decision) → P p → AllByRecursion (λ (x : Due). P x.page) (map (λ d. record { page = p; version = v; decision = d }) ds)
decided_of P p v [] here = tt
decided_of P p v (d ∷ ds) here = (here, decided_of P p v ds here)

-- the table that is put before some decisions may as well be put after them
table_before : (q : ℕ) (t : Option LockTable) (ds : List Due) (x : Work) → for_each carry_due ds (put_planned q t x) ≡ and_so (for_each carry_due ds x) (with_tables (slice_set x.node.tables q t))
table_before q t ds x = each_tables (slice_set x.node.tables q t) ds x

-- what follows decisions that leave the tables
put_after : (o : Outcome Work) (q : ℕ) (t : Option LockTable) (ts : List (Option LockTable)) (f : Work → Outcome Work) → On (λ x. x.node.tables ≡ ts) o
    → and_then o (λ x. f (put_planned q t x)) ≡ and_then (and_so o (with_tables (slice_set ts q t))) f
put_after (Goes x) q t ts f same = ap (λ l. f (with_tables (slice_set l q t) x)) same
put_after (Differs n e d) q t ts f same = refl

-- a page is settled
page_settled : (q p : ℕ) (t : LockTable) (w : Work) → partition w.node.home.config p ≡ q → table_at w.node q ≡ Some t → t.serving ≡ true
    → settle_page p w ≡ for_each carry_due (decided p (settle (number_of w.node) (entry_at t p))) (put_planned q (Some (put_entry t p (settle (number_of w.node) (entry_at t p)).entry)) w)
unfolding settle_page
page_settled q p t w of there serves =
    let s : Settled = settle (number_of w.node) (entry_at t p) in
    ap (λ o. settle_in p o w) (ap (table_at w.node) of ∙ there)
    ∙ ap (λ b. settle_served b p t w) serves
    ∙ ap (λ n. for_each (carry_out p s.entry.version) s.decisions (put_planned n (Some (put_entry t p s.entry)) w)) of
    ∙ each_decided p s.entry.version s.decisions (put_planned q (Some (put_entry t p s.entry)) w)

-- a page is settled before others
page_then : (q p : ℕ) (ps : List ℕ) (t : LockTable) (w : Work) → q < length w.node.tables → AllByRecursion (λ p. partition w.node.home.config p ≡ q) (p ∷ ps)
    → table_at w.node q ≡ Some t → t.serving ≡ true
    → ((u : LockTable) (x : Work) → q < length x.node.tables → AllByRecursion (λ p. partition x.node.home.config p ≡ q) ps → table_at x.node q ≡ Some u → u.serving ≡ true
    → for_each settle_page ps x
    ≡ for_each carry_due (plan_settling (number_of x.node) ps u).decisions (put_planned q (Some (plan_settling (number_of x.node) ps u).table) x))
    → and_then (settle_page p w) (for_each settle_page ps)
    ≡ for_each carry_due (plan_settling (number_of w.node) (p ∷ ps) t).decisions (put_planned q (Some (plan_settling (number_of w.node) (p ∷ ps) t).table) w)
unfolding plan_settling
page_then q p ps t w low all there serves later =
    let s : Settled = settle (number_of w.node) (entry_at t p) in
    let u : LockTable = put_entry t p s.entry in
    let first : Work = put_planned q (Some u) w in
    let rest : SettlePlan = plan_settling (number_of w.node) ps u in
    let ds : List Due = decided p s in
    let step : (x : Work) → IsCarried q first x → for_each settle_page ps x ≡ for_each carry_due rest.decisions (put_planned q (Some rest.table) x) =
    λ x is.
    later u x (subst (λ n. q < n) (sym (ap length is.tables ∙ set_length w.node.tables q (Some u))) low)
    (subst (λ c. AllByRecursion (λ p. partition c p ≡ q) ps) (sym is.config) all.1)
    (ap (λ ts. slice_index_or ts q None) is.tables ∙ set_here w.node.tables q (Some u) None low) serves
    ∙ ap (λ n. for_each carry_due (plan_settling n ps u).decisions (put_planned q (Some (plan_settling n ps u).table) x)) is.number in
    let kept : On (IsCarried q first) (for_each carry_due ds first) =
    each_carried q ds first (decided_of (λ n. partition w.node.home.config n ≡ q) p s.entry.version s.decisions all.0) in
    ap (λ o. and_then o (for_each settle_page ps)) (page_settled q p t w all.0 there serves)
    ∙ same_then (IsCarried q first) (for_each carry_due ds first) (for_each settle_page ps) (λ x. for_each carry_due rest.decisions (put_planned q (Some rest.table) x)) kept step
    ∙ put_after (for_each carry_due ds first) q (Some rest.table) first.node.tables (for_each carry_due rest.decisions)
    (on_more (IsCarried q first) (λ x. x.node.tables ≡ first.node.tables) (for_each carry_due ds first) (λ x is. is.tables) kept)
    ∙ ap (λ o. and_then o (for_each carry_due rest.decisions)) (sym (each_tables (slice_set first.node.tables q (Some rest.table)) ds first))
    ∙ ap (λ ts. and_then (for_each carry_due ds (with_tables ts first)) (for_each carry_due rest.decisions)) (set_twice w.node.tables q (Some u) (Some rest.table))
    ∙ sym (each_append carry_due ds rest.decisions (put_planned q (Some rest.table) w))

-- a table that is there may as well be put
pub put_same : (q : ℕ) (t : LockTable) (w : Work) → table_at w.node q ≡ Some t → put_planned q (Some t) w ≡ w
put_same q t w there = ap (λ ts. with_tables ts w) (ap (slice_set w.node.tables q) (sym there) ∙ set_same w.node.tables q None)

pub settling_is_planned_law : SettlingIsPlanned
unfolding for_each plan_settling
settling_is_planned_law q [] t w low all there serves =
    ap Goes (sym (put_same q t w there))
settling_is_planned_law q (p ∷ ps) t w low all there serves = page_then q p ps t w low all there serves (λ u x. settling_is_planned_law q ps u x)
