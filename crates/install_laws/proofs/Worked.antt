-- What a plan that is carried out leaves as it was: all that is read of other partitions.
use Rattle.std.proofs.Common.{◌≡◌, ℕ, ◌<◌, Bool, true, false, List, [], ◌∷◌, length, slice_index_or, Option, Some, None, refl, ap, sym, subst, ◌∙◌}
use Rattle.std.specs.List.{AllByRecursion}
use Rattle.pcl_base.specs.Limits.{Sizes}
use Rattle.pcl_base.specs.declared.message.Report.{Report}
use Rattle.run_rules.specs.Disk.{Disk, raw_page}
use Rattle.run_rules.specs.Redo.{all_records}
use Rattle.run_rules.specs.Views.{View}
use Rattle.node_rules.specs.LockTable.{pages_of}
use Rattle.node_rules.specs.BufferRule.{find}
use Rattle.node_rules.specs.NodeState.{HomeState, NodeState, number_of, partition, table_at}
use Rattle.node_rules.specs.Work.{HomeWork, Work, for_each, work_of_home, with_home}
use Rattle.install_laws.specs.InstallPlans.{Turnover, Stays, IsTaken, IsLeft, turned, PageWrite, Due, PartitionPlan, plan_partition, write_one, write_all, turn_over, put_planned, reply_if, carry_due, tell, carry_plan}
use Rattle.install_laws.specs.Laws.{carry_planned}
use Rattle.install_laws.proofs.Words.{set_other, set_length, pages_are_of, all_weaker}
use Rattle.install_laws.proofs.Outcomes.{On, on_then, on_so, on_more}
use Rattle.install_laws.proofs.Reports.{HomeSame, home_same_self, home_same_then, found_cleaned, taken_same, left_same, pool_same}
use Rattle.install_laws.proofs.Grants.{IsCarried, each_carried}
use Rattle.install_laws.proofs.Parts.{HasParts, plan_parts, settling_of}
use Rattle.install_laws.proofs.Redoing.{write_home, write_pages, writes_of}

-- a plan writes pages of its partition alone, and decides about them alone
abbrev IsPlanOf : Sizes → ℕ → PartitionPlan → Type 0
IsPlanOf c q plan =
    HasParts (λ ws. AllByRecursion (λ (x : PageWrite). partition c x.page ≡ q) ws) (λ ds. AllByRecursion (λ (x : Due). partition c x.page ≡ q) ds) plan

-- a partition was worked off: the rest of the node and of the pages is as it was
pub record IsWorked (q : ℕ) (w x : Work) : Type 0 where
  pub many : length x.node.tables ≡ length w.node.tables
  pub view : x.node.view ≡ w.node.view
  pub config : x.node.home.config ≡ w.node.home.config
  pub home : (r : ℕ) → (q ≡ r → ⊥) → HomeSame r w.node.home x.node.home
  pub table : (r : ℕ) → (q ≡ r → ⊥) → table_at x.node r ≡ table_at w.node r
  pub pages : (p : ℕ) → (partition w.node.home.config p ≡ q → ⊥) → raw_page x.pages p ≡ raw_page w.pages p

write_found : (xs : List PageWrite) (w : HomeWork) (p : ℕ) → find (write_all xs w).home.pool p ≡ find w.home.pool p
unfolding write_all
write_found [] w p = refl
write_found (x ∷ xs) w p = write_found xs (write_one x w) p ∙ found_cleaned w.home.pool x.page p

written_same : (r : ℕ) (xs : List PageWrite) (w : HomeWork) → HomeSame r w.home (write_all xs w).home
written_same r xs w =
    subst (λ h. HomeSame r w.home h) (sym (write_home xs w)) (pool_same r w.home (write_all xs w).home.pool (λ p e. write_found xs w p))

turned_same : (o : Turnover) (q r : ℕ) (h : HomeState) → (q ≡ r → ⊥) → HomeSame r h (turned o q h)
turned_same Stays q r h apart = home_same_self r h
turned_same IsTaken q r h apart = taken_same q r h apart
turned_same IsLeft q r h apart = left_same q r h apart

turned_sizes : (o : Turnover) (q : ℕ) (h : HomeState) → (turned o q h).config ≡ h.config
turned_sizes Stays q h = refl
turned_sizes IsTaken q h = refl
turned_sizes IsLeft q h = refl

-- the work before the decisions
prepared : (q : ℕ) (plan : PartitionPlan) (w : Work) → IsPlanOf w.node.home.config q plan → IsWorked q w (put_planned q plan.table (turn_over q plan w))
prepared q plan w is =
    record {
      many = set_length w.node.tables q plan.table;
      view = refl;
      config = ap (λ (h : HomeState). h.config) (write_home plan.writes over) ∙ turned_sizes plan.turnover q w.node.home;
      home = λ r apart. home_same_then r w.node.home over.home (write_all plan.writes over).home (turned_same plan.turnover q r w.node.home apart) (written_same r plan.writes over);
      table = λ r apart. set_other w.node.tables q r plan.table None (λ e. apart (sym e));
      pages = λ p apart.
          write_pages plan.writes over p
          (all_weaker (λ (x : PageWrite). partition w.node.home.config x.page ≡ q) (λ x. p ≡ x.page → ⊥) (λ x of same. apart (ap (partition w.node.home.config) same ∙ of)) plan.writes is.writes);
    }
  where
    over : HomeWork
    over = work_of_home (with_home w (turned plan.turnover q w.node.home))

replied : (q : ℕ) (b : Bool) (w x : Work) → IsWorked q w x → IsWorked q w (reply_if b q x)
replied q true w x is =
    record { many = is.many; view = is.view; config = is.config; home = is.home; table = is.table; pages = is.pages }
replied q false w x is = is

told_on : (q : ℕ) (o : Option (ℕ × Report)) (w x : Work) → IsWorked q w x → IsWorked q w (tell o x)
told_on q None w x is = is
told_on q (Some r) w x is =
    record { many = is.many; view = is.view; config = is.config; home = is.home; table = is.table; pages = is.pages }

carried_on : (q : ℕ) (w x y : Work) → IsWorked q w x → IsCarried q x y → IsWorked q w y
carried_on q w x y is more =
    record {
      many = ap length more.tables ∙ is.many;
      view = more.view ∙ is.view;
      config = more.config ∙ is.config;
      home = λ r apart. home_same_then r w.node.home x.node.home y.node.home (is.home r apart) (more.home r apart);
      table = λ r apart. ap (λ ts. slice_index_or ts r None) more.tables ∙ is.table r apart;
      pages = λ p apart. ap (λ ps. raw_page ps p) more.pages ∙ is.pages p apart;
    }

carry_works : (q : ℕ) (plan : PartitionPlan) (w : Work) → IsPlanOf w.node.home.config q plan → On (IsWorked q w) (carry_plan q plan w)
unfolding carry_plan
carry_works q plan w is =
    on_so (IsWorked q w) (IsWorked q w) (for_each carry_due plan.decisions ready) (tell plan.told)
    (on_more (IsCarried q ready) (IsWorked q w) (for_each carry_due plan.decisions ready) (λ y more. carried_on q w ready y worked more)
    (each_carried q plan.decisions ready (subst (λ c. AllByRecursion (λ (x : Due). partition c x.page ≡ q) plan.decisions) (sym worked.config) is.decisions)))
    (λ x h. told_on q plan.told w x h)
  where
    ready : Work
    ready = reply_if plan.begins q (put_planned q plan.table (turn_over q plan w))

    worked : IsWorked q w ready
    worked = replied q plan.begins w (put_planned q plan.table (turn_over q plan w)) (prepared q plan w is)

plan_is_of : (d : Disk) (pages : List (List ℕ)) (before : Option View) (v : View) (q : ℕ) (n : NodeState) → q < n.home.config.nodes → On (IsPlanOf n.home.config q) (plan_partition d pages before v q n)
plan_is_of d pages before v q n low =
    plan_parts d pages q n (λ ws. AllByRecursion (λ (x : PageWrite). partition n.home.config x.page ≡ q) ws) (λ ds. AllByRecursion (λ (x : Due). partition n.home.config x.page ≡ q) ds) tt tt
    (λ needed t. writes_of needed (all_records n.home.config d) pages (λ p. partition n.home.config p ≡ q) (pages_of n.home.config q) t (pages_are_of n.home.config q low))
    (λ t. settling_of (λ p. partition n.home.config p ≡ q) (number_of n) (pages_of n.home.config q) t (pages_are_of n.home.config q low)) before v

-- a partition that is planned and carried out
pub planned_works : (d : Disk) (before : Option View) (v : View) (q : ℕ) (w : Work) → q < w.node.home.config.nodes → On (IsWorked q w) (carry_planned q (plan_partition d w.pages before v q w.node) w)
planned_works d before v q w low =
    on_then (IsPlanOf w.node.home.config q) (IsWorked q w) (plan_partition d w.pages before v q w.node) (λ x. carry_plan q x w)
    (plan_is_of d w.pages before v q w.node low) (λ plan is. carry_works q plan w is)
