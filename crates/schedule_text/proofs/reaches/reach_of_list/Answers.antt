use Rattle.std.proofs.Common.{ap, sym, ◌∙◌}
use Rattle.text_rules.specs.LineForms.{reach_of_more}
use Rattle.std.proofs.lemmas.List.{take_rest}
use Rattle.line_laws.proofs.Steps.{owners_whole}
use Rattle.schedule_text.proofs.reaches.reach_of_list.Goals as goal

pub returns-clause-value : goal.returns-clause-value
returns-clause-value c =
    c.behind.ensures
    ∙ owners_whole c.args.further c.args.bytes.now c.reach_of_number-first.result c.reach_of_more.result c.count.result c.count-2.result c.reach_of_number-first.ensures.value
    (sym c.is_whole.ensures ∙ c.if-not-is_whole.false) c.count.ensures c.count-2.ensures (c.reach_of_more.ensures.value ∙ ap (reach_of_more c.args.further) (take_rest c.args.bytes.now c.count.result))
