use Rattle.std.proofs.Common.{◌≡◌, ◌++◌, take, drop, slice_index_or, ap, ap₂, subst, ◌∙◌, arith}
use Rattle.std.specs.Prelude.{insert, remove, OnOk}
use Rattle.node_rules.specs.NodeState.{cover}
use Rattle.home.proofs.Covering.{skipped, put_before, joined_with, put_last}
use Rattle.home.proofs.runs.put_run.Goals as goal

pub loop-at-preserved-then-next-run : goal.loop-at-preserved-then-next-run
loop-at-preserved-then-next-run c =
    let at : c.index-deref-at.result ≡ slice_index_or c.loop-at.runs.items c.loop-at.at c.index-deref-at.result = c.index-deref-at.is ∙ ap (λ l. slice_index_or l c.loop-at.at c.index-deref-at.result) c.deref.ensures in
    let to = ap (λ r. r.to) c.next.view_is in
    let from = ap (λ r. r.from) c.run.view_is in
    let less = c.if-next-run.true in
    let within = c.loop-at-test.true in
    record {
      rest = skipped c.loop-at.at c.loop-at.runs.items c.index-deref-at.result c.loop-at.run.from c.loop-at.run.to (omega (arith, within, c.len.ensures)) at (omega (arith, to, from, less)) ∙ c.loop-at.invariant.rest;
      room = c.loop-at.invariant.room;
      within = omega (arith, within, c.len.ensures);
    }

pub returns-then-run-next : goal.returns-then-run-next
returns-then-run-next c =
    let at : c.index-deref-at.result ≡ slice_index_or c.loop-at.runs.items c.loop-at.at c.index-deref-at.result = c.index-deref-at.is ∙ ap (λ l. slice_index_or l c.loop-at.at c.index-deref-at.result) c.deref.ensures in
    let to = ap (λ r. r.to) c.next.view_is in
    let from = ap (λ r. r.from) c.next.view_is in
    let run_to = ap (λ r. r.to) c.run.view_is in
    let run_from = ap (λ r. r.from) c.run.view_is in
    let high = c.if-next-run.false in
    let low = c.if-run-next.true in
    let within = c.loop-at-test.true in
    subst (λ r. OnOk r (c.insert.new.self.items ≡ insert c.loop-at.runs.items c.loop-at.at c.loop-at.run)) c.unwrap.ensures c.insert.ensures.ok
    ∙ put_before c.loop-at.at c.loop-at.runs.items c.index-deref-at.result c.loop-at.run.from c.loop-at.run.to (omega (arith, within, c.len.ensures)) at (omega (arith, to, run_from, high)) (omega (arith, from, run_to, low))
    ∙ c.loop-at.invariant.rest

pub loop-at-preserved : goal.loop-at-preserved
loop-at-preserved c =
    let at : c.index-deref-at.result ≡ slice_index_or c.loop-at.runs.items c.loop-at.at c.index-deref-at.result = c.index-deref-at.is ∙ ap (λ l. slice_index_or l c.loop-at.at c.index-deref-at.result) c.deref.ensures in
    let to = ap (λ r. r.to) c.next.view_is in
    let from = ap (λ r. r.from) c.next.view_is in
    let run_to = ap (λ r. r.to) c.run.view_is in
    let run_from = ap (λ r. r.from) c.run.view_is in
    let high = c.if-next-run.false in
    let low = c.if-run-next.false in
    let within = c.loop-at-test.true in
    let kept =
    joined_with c.loop-at.at c.loop-at.runs.items c.index-deref-at.result c.loop-at.run.from c.loop-at.run.to (omega (arith, within, c.len.ensures)) at (omega (arith, to, run_from, high)) (omega (arith, from, run_to, low)) in
    record {
      rest =
          ap (λ l. take c.loop-at.at l ++ cover (drop c.loop-at.at l) c.joined-run.result.from c.joined-run.result.to) c.remove.ensures.items
          ∙ ap₂ (λ f t. take c.loop-at.at (remove c.loop-at.runs.items c.loop-at.at) ++ cover (drop c.loop-at.at (remove c.loop-at.runs.items c.loop-at.at)) f t) c.joined-run.ensures.from c.joined-run.ensures.to
          ∙ kept ∙ c.loop-at.invariant.rest;
      room = let room = c.loop-at.invariant.room in let len = c.remove.ensures.len in let cap = c.remove.ensures.capacity in omega (arith, room, len, cap);
      within = let len = c.remove.ensures.len in omega (arith, within, c.len.ensures, len);
    }

pub returns : goal.returns
returns c =
    let within = c.loop-at-test.false in
    c.push_reserved.ensures.items
    ∙ put_last c.loop-at.at c.loop-at.runs.items c.loop-at.run.from c.loop-at.run.to (omega (arith, within, c.len.ensures))
    ∙ c.loop-at.invariant.rest
