use Rattle.std.proofs.Common.{take, ap, ◌∙◌, arith}
use Rattle.std.specs.Char.{is_ascii_digit}
use Rattle.std.proofs.lemmas.List.Sums.{prefix_len-le-length}
use Rattle.line_laws.proofs.Digits.{digits_at_front}
use Rattle.schedule_text.proofs.fields.number_at.Goals as goal

pub split_at-requires : goal.split_at-requires
split_at-requires c =
    let most = prefix_len-le-length is_ascii_digit c.args.bytes.now in
    omega (arith, c.digits_len.ensures.value, most)

pub number_of-requires : goal.number_of-requires
number_of-requires c =
    rw (c.split_at.ensures.front ∙ ap (λ n. take n c.args.bytes.now) c.digits_len.ensures.value) (digits_at_front c.args.bytes.now)
