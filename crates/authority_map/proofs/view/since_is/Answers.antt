use Rattle.std.proofs.Common.{◌∙◌}
use Rattle.authority_map.proofs.Made.{since-same}
use Rattle.authority_map.proofs.view.since_is.Goals as goal

pub returns : goal.returns
returns c =
    c.zipped_since_is.ensures ∙ since-same c.args.epoch c.args.old.now c.args.new.now c.args.since.now c.args.found.now c.requires.old c.requires.new c.requires.since
