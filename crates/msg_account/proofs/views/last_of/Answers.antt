use Rattle.std.proofs.Common.{◌≡◌, ◌∙◌, ◌-◌, ◌==◌, suc, false, length, arith}
use Rattle.std.proofs.lemmas.Bool.Decides.{nat_tests}
use Rattle.msg_account.proofs.ViewLemmas.{last_at}
use Rattle.msg_account.proofs.views.last_of.Goals as goal

pub returns : goal.returns
returns c =
    let one : false ≡ (length c.args.later.now == 0) = c.if-is_empty.ensures in
    let some : suc (length c.args.later.now - 1) ≡ length c.args.later.now = grind (arith, nat_tests) in
    c.index-later-later.is ∙ last_at _ _ _ _ some
