use Rattle.std.proofs.Common.{◌∷◌, [], ap, sym, ◌∙◌}
use Rattle.text_rules.specs.Totals.{Totals, totals_of}
use Rattle.msg_account.specs.Counting.{plus}
use Rattle.msg_account.proofs.CountLemmas.{totals_append}
use Rattle.msg_account.proofs.tally.Tally.add.Goals as goal

pub returns-clause-trace : goal.returns-clause-trace
returns-clause-trace c es before =
    c.add_parts.ensures ∙ ap (λ (t : Totals). plus t (totals_of (c.args.e.now ∷ []))) before ∙ sym (totals_append es (c.args.e.now ∷ []))
