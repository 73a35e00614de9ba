use Rattle.std.proofs.Common.{rules, ◌≡◌, sym, subst}
use Rattle.run_rules.specs.Views.{View, anew}
use Rattle.authority_map.specs.Sound.{IsSound}
use Rattle.authority_map.proofs.Stays.{sound_anew}
use Rattle.authority_map.proofs.view.anew.Goals as goal

pub invariant_of-result : goal.invariant_of-result
invariant_of-result c =
    let v : View = record { epoch = c.args.epoch; live = c.of.result; owners = c.of-2.result; since = c.of-3.result; born = c.of-4.result } in
    let e : v ≡ anew c.args.config.now c.args.epoch = search rules in
    subst IsSound (sym e) (sound_anew c.args.config.now c.args.epoch c.nodes-nodes.ensures.limits.some_nodes c.nodes-nodes.ensures.limits.most_nodes c.requires)
