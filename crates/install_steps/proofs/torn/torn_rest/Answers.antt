use Rattle.install_steps.proofs.Trimming.{keeps_answered, log_inside}
use Rattle.install_steps.proofs.torn.torn_rest.Goals as goal

pub returns-clause-keeps : goal.returns-clause-keeps
returns-clause-keeps g c =
    keeps_answered c.args.config.now (g.S.Storage.logs c.args.s.now) c.args.me c.walked_rest.result (log_inside c.args.config.now c.args.me _ (g.S.Storage.logs c.args.s.now) _ c.requires.sizes c.requires.me) c.walked_rest.ensures.found
