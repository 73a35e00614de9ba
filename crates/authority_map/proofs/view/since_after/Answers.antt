use Rattle.std.proofs.Common.{ℕ, ◌≡◌, List, IfOk, subst}
use Rattle.authority_map.proofs.Made.{since-zip}
use Rattle.authority_map.proofs.view.since_after.Goals as goal

pub returns : goal.returns
returns c =
    let P : List ℕ → Type 0 = λ l. IfOk c.zipped_since.result (λ v. v.items ≡ l) in
    subst P (since-zip c.args.epoch c.args.old.now c.args.new.now c.args.since.now) c.zipped_since.ensures
