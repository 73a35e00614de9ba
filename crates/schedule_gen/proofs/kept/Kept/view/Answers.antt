use Rattle.std.proofs.Common.{length, subst}
use Rattle.text_rules.specs.Generator.{Making, flags_of}
use Rattle.text_rules.specs.ScheduleLine.{HasLine}
use Rattle.pcl_base.specs.declared.event.Event.TheVariants.{View}
use Rattle.schedule_gen.proofs.LimitLemmas.{view_has_line}
use Rattle.schedule_gen.proofs.kept.Kept.view.Goals as goal

pub returns-clause-has_line : goal.returns-clause-has_line
returns-clause-has_line c =
    subst (λ (s : Making). HasLine (View (flags_of (length s.serials) s.live) s.owners)) c.self.view_is
    (view_has_line (record { draws = c.self.inside.draws; live = c.self.inside.live.items; owners = c.self.inside.owners.items; serials = c.self.inside.serials.items }) c.self.invariant)
