use Rattle.std.proofs.Common.{◌≡◌, ◌%◌, None, ap, sym, ◌∙◌}
use Rattle.pcl_base.specs.Limits.{Sizes}
use Rattle.node_rules.specs.OwnerRule.{is_unserved}
use Rattle.node_parts.specs.State.{PartsView}
use Rattle.node_parts.specs.Tables.{place_at}
use Rattle.own_steps.proofs.MadeRooms.{no_table}
use Rattle.own_steps.proofs.tell_all.is_unserved.Goals as goal

pub returns-in-None : goal.returns-in-None
returns-in-None c =
    let none : place_at c.args.parts.now.tables.places c.partition-q.result ≡ None =
    sym (c.in-None.ensures.value ∙ ap (λ (v : PartsView). place_at v.tables.places c.partition-q.result) c.parts.view_is) in
    let q : c.partition-q.result ≡ c.args.page % c.args.parts.now.home.config.nodes =
    c.partition-q.ensures.value ∙ ap (λ (k : Sizes). c.args.page % k.nodes) (c.config.ensures.value ∙ ap (λ (v : PartsView). v.home.config) c.parts.view_is) in
    sym (ap is_unserved (no_table c.args.parts.now c.args.page c.partition-q.result c.requires.config q none))
