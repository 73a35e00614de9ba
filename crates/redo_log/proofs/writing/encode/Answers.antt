use Rattle.std.proofs.Common.{◌≡◌, ◌++◌, length, drop, ap, arith, ◌∙◌}
use Rattle.std.proofs.lemmas.List.{take_at}
use Rattle.std.specs.Int.{w32, to_be_bytes}
use Rattle.redo_log.proofs.WritingLemmas.{record_small, record_count, count_small, length_put}
use Rattle.redo_log.proofs.writing.encode.Goals as goal

pub put_body-requires-clause-count : goal.put_body-requires-clause-count
put_body-requires-clause-count c = omega (arith, record_count c.args.config.now c.args.r.now c.size-limits.ensures.limits c.requires)

pub put_body-requires-clause-small : goal.put_body-requires-clause-small
put_body-requires-clause-small c = record_small c.args.config.now c.args.r.now c.size-limits.ensures.limits c.requires

pub set_length-requires-clause-small : goal.set_length-requires-clause-small
set_length-requires-clause-small c =
    let zeros = c.in_ok-put32.ensures ∙ ap (λ b. b ++ to_be_bytes w32 0) c.new-out.ensures.items in
    let counted : c.len-count.result ≡ length c.put_body.new.out.items = omega (arith, c.len-count.ensures, c.put_body.new.out.ok.0) in
    count_small c.args.config.now c.args.r.now _ _ _ c.size-limits.ensures.limits c.requires zeros c.in_ok-put_body.ensures counted

pub returns : goal.returns
returns c =
    let zeros = c.in_ok-put32.ensures ∙ ap (λ b. b ++ to_be_bytes w32 0) c.new-out.ensures.items in
    let counted : c.len-count.result ≡ length c.put_body.new.out.items = omega (arith, c.len-count.ensures, c.put_body.new.out.ok.0) in
    let kept : length c.set_length.new.out ≡ c.put_body.new.out.len = omega (arith, c.set_length.auto.out, ap length c.deref_mut.ensures.value, c.put_body.new.out.ok.0) in
    let put = take_at c.set_length.new.out _ _ kept ∙ c.set_length.ensures ∙ ap (λ b. to_be_bytes w32 c.len-count.result ++ drop 4 b) c.deref_mut.ensures.value in
    length_put c.args.r.now _ _ _ _ zeros c.in_ok-put_body.ensures counted put
