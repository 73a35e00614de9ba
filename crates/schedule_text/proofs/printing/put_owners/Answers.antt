use Rattle.std.proofs.Common.{◌++◌, take, get_or, ap, ◌∙◌, append_assoc}
use Rattle.text_rules.specs.ScheduleLine.{numbers_text}
use Rattle.schedule_text.specs.Seen.{owner_text}
use Rattle.schedule_text.proofs.OwnersText.{numbers_more}
use Rattle.schedule_text.proofs.printing.put_owners.Goals as goal

pub loop-i-preserved : goal.loop-i-preserved
loop-i-preserved c =
    let i = c.loop-i.i in
    let owners = c.args.owners.now in
    c.in_ok-put_owner.ensures
    ∙ (ap (λ l. l ++ owner_text i (get_or owners i 0)) c.loop-i.invariant
    ∙ (append_assoc c.args.out.now.items (numbers_text (take i owners)) (owner_text i (get_or owners i 0))
    ∙ ap (λ l. c.args.out.now.items ++ l) (numbers_more owners i c.loop-i-test.true)))
