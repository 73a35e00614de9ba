use Rattle.std.proofs.Common.{ℕ, All, map, sym, subst}
use Rattle.lock_table.specs.Tables.{IsPageOf}
use Rattle.install_plans.specs.Plans.{versions_by}
use Rattle.install_plans.proofs.Words.{all_unmapped}
use Rattle.install_plans.proofs.completing.serve.Goals as goal

pub serve-requires-in-Some : goal.serve-requires-in-Some
serve-requires-in-Some c =
    let t = c.args.t.now in
    subst (All (λ (x : ℕ × ℕ). IsPageOf t x.0)) (sym c.versions.ensures)
    (all_unmapped (IsPageOf t) (λ (v : ℕ × ℕ). v.0) c.in-Some.plan.versions
    (subst (λ r. All (IsPageOf t) (map (λ (v : ℕ × ℕ). v.0) (versions_by r))) c.in-Some.is c.requires))
