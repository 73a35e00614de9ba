use Rattle.std.proofs.Common.{◌∙◌, sym}
use Rattle.lock_entry.proofs.Lists.{no_holder, same_by, mode_here, mode_next, mode_past}
use Rattle.lock_entry.proofs.find.mode_of.Goals as goal

pub returns : goal.returns
returns c = sym (mode_past _ _ _ c.loop-holder-test.false) ∙ c.loop-holder.invariant

pub returns-then-eq : goal.returns-then-eq
returns-then-eq c =
    let hs = c.args.holders.now in
    let i = c.loop-holder.holder-index in
    let same = same_by hs c.args.tx i _ c.eq.ensures ∙ c.if-eq.true in
    sym (mode_here hs c.args.tx i no_holder c.loop-holder-test.true same) ∙ c.loop-holder.invariant

pub loop-holder-preserved : goal.loop-holder-preserved
loop-holder-preserved c =
    let hs = c.args.holders.now in
    let i = c.loop-holder.holder-index in
    let other = same_by hs c.args.tx i _ c.eq.ensures ∙ c.if-eq.false in
    mode_next hs c.args.tx i no_holder c.loop-holder-test.true other ∙ c.loop-holder.invariant
