use Rattle.std.proofs.Common.{◌≡◌, ◌∙◌, sym, ap, refl, slice_set, true, false, None}
use Rattle.node_rules.specs.OpenTxs.{OpenTx, waits_on}
use Rattle.tx_table.proofs.Locks.{put_at, place_within, with_lock_is}
use Rattle.tx_table.proofs.open.Open.replace.Goals as goal

pub put-requires : goal.put-requires
put-requires c = place_within c.args.self.now.pages c.args.lock.page c.args.place c.requires

pub returns-then-waits_on-clause-lock : goal.returns-then-waits_on-clause-lock
returns-then-waits_on-clause-lock c =
    let now = c.args.self.now in
    let l = c.args.lock in
    let same = ap (λ (o : OpenTx). o.waiting) c.self.view_is ∙ ap (λ (o : OpenTx). o.waiting) c.put.ensures in
    let test : waits_on now.waiting l.page ≡ true = ap (λ w. waits_on w l.page) (sym same) ∙ (sym c.waits_on.ensures ∙ c.if-waits_on.true) in
    c.stop_waiting.ensures
    ∙ (ap (λ (o : OpenTx). record { serial = o.serial; pages = o.pages; waiting = None }) c.put.ensures
    ∙ with_lock_is now l (slice_set now.pages c.args.place l) None true (put_at now.pages l c.args.place c.requires) test refl)

pub returns-else-waits_on-clause-lock : goal.returns-else-waits_on-clause-lock
returns-else-waits_on-clause-lock c =
    let now = c.args.self.now in
    let l = c.args.lock in
    let same = ap (λ (o : OpenTx). o.waiting) c.self.view_is ∙ ap (λ (o : OpenTx). o.waiting) c.put.ensures in
    let test : waits_on now.waiting l.page ≡ false = ap (λ w. waits_on w l.page) (sym same) ∙ (sym c.waits_on.ensures ∙ c.if-waits_on.false) in
    c.put.ensures
    ∙ with_lock_is now l (slice_set now.pages c.args.place l) now.waiting false (put_at now.pages l c.args.place c.requires) test refl
