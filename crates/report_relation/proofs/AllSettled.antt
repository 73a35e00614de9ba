-- All pages of a partition are settled.
use Rattle.std.proofs.Common.{ap, sym, ◌∙◌, ℕ}
use Rattle.pcl_base.specs.Limits.{Sizes}
use Rattle.text_rules.specs.MessageBytes.{IsPageOf}
use Rattle.node_rules.specs.LockTable.{pages_of}
use Rattle.node_rules.specs.OwnerRule.{settle_page}
use Rattle.node_rules.specs.Work.{for_each}
use Rattle.node_laws.proofs.Lists.{all_weaker}
use Rattle.node_laws.proofs.Tables.{pages_are}
use Rattle.page_relation.specs.Work.Keeping.{Keeps}
use Rattle.page_relation.proofs.WorkParts.Kept.{each_keeps}
use Rattle.settle_relation.proofs.Turns.{IsBetween, settle_keeps}
use Rattle.report_relation.specs.Settled.{AllAreSettled}

pub all_are_settled_law : AllAreSettled
all_are_settled_law b c e n p q acts order low known blank w x a reached is between goes =
    each_keeps c e n p ℕ (IsBetween b c e n) settle_page (pages_of c.config q)
    (all_weaker (IsPageOf c.config q) (λ (r : ℕ). Keeps c e n p (IsBetween b c e n) (settle_page r) (IsBetween b c e n)) (λ r inside. settle_keeps b c e n p acts order low r inside.0)
    (pages_of c.config q) (pages_are c.config q known)) blank w x a reached is between
    (sym (ap (λ (k : Sizes). for_each settle_page (pages_of k q) w) (between.0.good.home.config ∙ between.0.config)) ∙ goes)
