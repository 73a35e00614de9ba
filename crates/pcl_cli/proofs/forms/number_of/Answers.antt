use Rattle.std.proofs.Common.{◌≡◌, ◌∙◌, true, ap, sym, rules}
use Rattle.pcl_cli.specs.MakeWords.{is_plain}
use Rattle.pcl_cli.proofs.NumberLemmas.{no_number}
use Rattle.pcl_cli.proofs.forms.number_of.Goals as goal

pub returns-in-Err : goal.returns-in-Err
returns-in-Err c =
    let plain : is_plain c.args.word.now ≡ true = sym (c.if-not-is_plain.ensures ∙ ap is_plain c.as_bytes.ensures.value) in
    no_number c.args.low c.args.high c.args.word.now (search rules) plain c.in-Err.ensures.value.0
