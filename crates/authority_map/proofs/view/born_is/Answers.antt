use Rattle.std.proofs.Common.{◌∙◌}
use Rattle.authority_map.proofs.Made.{born-same}
use Rattle.authority_map.proofs.view.born_is.Goals as goal

pub returns : goal.returns
returns c =
    c.zipped_born_is.ensures ∙ born-same c.args.epoch c.args.old.now c.args.new.now c.args.born.now c.args.found.now c.requires.old c.requires.new c.requires.born
