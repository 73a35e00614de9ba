use Rattle.std.proofs.Common.{ap, ◌∙◌, ◌==◌}
use Rattle.std.specs.List.{list_any}
use Rattle.std.proofs.lemmas.List.Sorted.{list_any-IsPermutation, IsPermutation-reverse}
use Rattle.msg_account.proofs.seen.Epochs.has.Goals as goal

pub returns : goal.returns
returns c =
    c.is_among.ensures
    ∙ ap (list_any (λ e. e == c.args.epoch)) c.as_slice.ensures.value
    ∙ list_any-IsPermutation (λ e. e == c.args.epoch) c.self.inside.items.items _ (IsPermutation-reverse c.self.inside.items.items)
    ∙ ap (list_any (λ e. e == c.args.epoch)) c.self.view_is
