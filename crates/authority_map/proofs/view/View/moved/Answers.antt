use Rattle.std.proofs.Common.{rules, length, ◌≡◌, ◌+◌, Ok, sym, subst, ap, ◌∙◌}
use Rattle.run_rules.specs.Views.{View, moved}
use Rattle.authority_map.specs.Sound.{IsSound}
use Rattle.authority_map.proofs.Stays.{sound_moved, next_none, nodes_kept, broken_nodes}
use Rattle.authority_map.proofs.view.View.moved.Goals as goal

pub invariant_of-result : goal.invariant_of-result
invariant_of-result c =
    let v : View = record { epoch = c.self.inside.epoch + 1; live = c.of.result; owners = c.of-2.result; since = c.of-3.result; born = c.of-4.result } in
    let e : v ≡ moved c.args.self.now c.args.live.now c.args.owners.now = search rules in
    subst IsSound (sym e) (sound_moved c.args.self.now c.args.live.now c.args.owners.now (subst IsSound c.self.view_is c.self.invariant) (broken_nodes c.args.config.now c.args.self.now c.args.live.now c.args.owners.now c.requires.nodes ∙ c.requires.kept))

pub returns-clause-made : goal.returns-clause-made
returns-clause-made c =
    let v : View = record { epoch = c.self.inside.epoch + 1; live = c.of.result; owners = c.of-2.result; since = c.of-3.result; born = c.of-4.result } in
    let e : v ≡ moved c.args.self.now c.args.live.now c.args.owners.now = search rules in
    next_none c.args.config.now c.args.self.now c.args.live.now c.args.owners.now c.requires.kept ∙ ap Ok (sym e)

pub returns-clause-nodes : goal.returns-clause-nodes
returns-clause-nodes c =
    let e : length c.of.result ≡ length c.args.live.now = search rules in
    e ∙ nodes_kept c.args.config.now c.args.self.now c.args.live.now c.args.owners.now c.requires.kept
