use Rattle.std.proofs.Common.{ℕ, ◌≡◌, List, IfOk, subst}
use Rattle.authority_map.proofs.Made.{born-zip}
use Rattle.authority_map.proofs.view.born_after.Goals as goal

pub returns : goal.returns
returns c =
    let P : List ℕ → Type 0 = λ l. IfOk c.zipped_born.result (λ v. v.items ≡ l) in
    subst P (born-zip c.args.epoch c.args.old.now c.args.new.now c.args.born.now) c.zipped_born.ensures
