use Rattle.std.proofs.Common.{◌≡◌, ◌<◌, ◌++◌, ◌∙◌, refl, ap, sym, subst}
use Rattle.std.proofs.lemmas.List.Elements.{All-get_or}
use Rattle.std.specs.List.{All}
use Rattle.node_rules.specs.LockTable.{LockTable}
use Rattle.install_laws.specs.InstallPlans.{SettlePlan, plan_settling}
use Rattle.lock_table.specs.Tables.{IsPageOf, pages_made, table_of}
use Rattle.lock_table.proofs.Places.{page_kept}
use Rattle.install_plans.proofs.Settled.{AreLeft, left_first, left_step, left_end, made_own, made_settled, settled_table, settled_decisions, settled_end, decided_end}
use Rattle.install_plans.proofs.settling.settle_table.Goals as goal

pub loop-page-init : goal.loop-page-init
loop-page-init c =
    let t = c.args.t.now in
    let within : t.partition < t.config.nodes = subst (λ s. t.partition < s.nodes) c.requires.table.config c.requires.table.partition in
    let listed : c.as_slice-page-items.result.now ≡ pages_made t = c.as_slice-page-items.ensures.value ∙ c.in_ok-pages.ensures.listed in
    record {
      table = refl;
      decisions = ap (λ ds. ds ++ (plan_settling c.args.by.now.me c.as_slice-page-items.result.now (table_of t)).decisions) c.new-dues.ensures.items;
      serving = c.requires.serving;
      left = subst (AreLeft t) (sym listed) (left_first t within c.in_ok-pages.ensures.own);
      place = record { config = refl; partition = refl };
    }

pub settle_entry-requires-clause-page : goal.settle_entry-requires-clause-page
settle_entry-requires-clause-page c =
    let t = c.args.t.now in
    let within : t.partition < t.config.nodes = subst (λ s. t.partition < s.nodes) c.requires.table.config c.requires.table.partition in
    let listed : c.as_slice-page-items.result.now ≡ pages_made t = c.as_slice-page-items.ensures.value ∙ c.in_ok-pages.ensures.listed in
    page_kept t c.loop-page.t _ c.loop-page.invariant.place.config c.loop-page.invariant.place.partition
    (All-get_or (IsPageOf t) c.as_slice-page-items.result.now c.loop-page.page-index 0 c.loop-page-test.true (subst (All (IsPageOf t)) (sym listed) (made_own t within)))

pub loop-page-preserved : goal.loop-page-preserved
loop-page-preserved c =
    let me = c.args.by.now.me in
    let ps = c.as_slice-page-items.result.now in
    let i = c.loop-page.page-index in
    let t = c.loop-page.t in
    let later = c.settle_entry.new.t in
    let inv = c.loop-page.invariant in
    let done = c.in_ok-settle_entry.ensures in
    record {
      table = settled_table me ps i 0 (table_of t) (table_of later) c.loop-page-test.true done.table ∙ inv.table;
      decisions = settled_decisions me ps i 0 (table_of t) (table_of later) c.loop-page-test.true done.table _ _ done.decisions ∙ inv.decisions;
      serving = ap (λ (u : LockTable). u.serving) done.table ∙ inv.serving;
      left = left_step ps i 0 t later c.loop-page-test.true inv.left done.used done.others;
      place = record {
        config = done.place.config ∙ inv.place.config;
        partition = done.place.partition ∙ inv.place.partition;
      };
    }

pub returns-clause-table : goal.returns-clause-table
returns-clause-table c =
    let t = c.args.t.now in
    let within : t.partition < t.config.nodes = subst (λ s. t.partition < s.nodes) c.requires.table.config c.requires.table.partition in
    let listed : c.as_slice-page-items.result.now ≡ pages_made t = c.as_slice-page-items.ensures.value ∙ c.in_ok-pages.ensures.listed in
    settled_end c.args.by.now.me c.as_slice-page-items.result.now c.loop-page.page-index (table_of c.loop-page.t) c.loop-page-test.false
    ∙ (c.loop-page.invariant.table
    ∙ (ap (λ ps. (plan_settling c.args.by.now.me ps (table_of t)).table) listed ∙ sym (ap (λ (x : SettlePlan). x.table) (made_settled c.args.by.now.me t within))))

pub returns-clause-decisions : goal.returns-clause-decisions
returns-clause-decisions c =
    let t = c.args.t.now in
    let within : t.partition < t.config.nodes = subst (λ s. t.partition < s.nodes) c.requires.table.config c.requires.table.partition in
    let listed : c.as_slice-page-items.result.now ≡ pages_made t = c.as_slice-page-items.ensures.value ∙ c.in_ok-pages.ensures.listed in
    decided_end c.args.by.now.me c.as_slice-page-items.result.now c.loop-page.page-index (table_of c.loop-page.t) _ c.loop-page-test.false
    ∙ (c.loop-page.invariant.decisions
    ∙ (ap (λ ps. (plan_settling c.args.by.now.me ps (table_of t)).decisions) listed ∙ sym (ap (λ (x : SettlePlan). x.decisions) (made_settled c.args.by.now.me t within))))

pub returns-clause-tidy : goal.returns-clause-tidy
returns-clause-tidy c = left_end c.as_slice-page-items.result.now c.loop-page.page-index c.loop-page.t c.loop-page-test.false c.loop-page.invariant.left
