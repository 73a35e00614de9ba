use Rattle.std.proofs.Common.{ap, ◌∙◌, ◌==◌}
use Rattle.std.specs.List.{list_any}
use Rattle.std.proofs.lemmas.List.Sorted.{list_any-IsPermutation, IsPermutation-reverse}
use Rattle.msg_account.specs.Kept.{Once}
use Rattle.msg_account.proofs.once.Once.has_reported.Goals as goal

pub returns : goal.returns
returns c =
    c.has_node.ensures
    ∙ ap (list_any (λ e. e == c.args.partition)) c.as_slice.ensures.value
    ∙ list_any-IsPermutation (λ e. e == c.args.partition) c.self.inside.reported.items _ (IsPermutation-reverse c.self.inside.reported.items)
    ∙ ap (λ (o : Once). list_any (λ e. e == c.args.partition) o.reported) c.self.view_is
