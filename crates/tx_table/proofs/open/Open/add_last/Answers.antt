use Rattle.std.proofs.Common.{◌≡◌, ◌∙◌, sym, ap, refl, ◌∷◌, ◌++◌, [], true, false, None}
use Rattle.node_rules.specs.OpenTxs.{OpenTx, waits_on, with_lock}
use Rattle.tx_table.proofs.Locks.{put_last, with_lock_is}
use Rattle.tx_table.proofs.Serials.{on_ok}
use Rattle.tx_table.proofs.open.Open.add_last.Goals as goal

pub returns-then-waits_on-clause-ok : goal.returns-then-waits_on-clause-ok
returns-then-waits_on-clause-ok c =
    let now = c.args.self.now in
    let l = c.args.lock in
    let test : waits_on now.waiting l.page ≡ true = ap (λ (o : OpenTx). waits_on o.waiting l.page) (sym c.self.view_is) ∙ (sym c.waits_on.ensures ∙ c.if-waits_on.true) in
    c.put_last.ensures ∙ with_lock_is now l (now.pages ++ l ∷ []) None true (put_last now.pages l c.requires) test refl

pub returns-clause-ok : goal.returns-clause-ok
returns-clause-ok c =
    let now = c.args.self.now in
    let l = c.args.lock in
    let test : waits_on now.waiting l.page ≡ false = ap (λ (o : OpenTx). waits_on o.waiting l.page) (sym c.self.view_is) ∙ (sym c.waits_on.ensures ∙ c.if-waits_on.false) in
    let last : record { serial = now.serial; pages = now.pages ++ l ∷ []; waiting = now.waiting } ≡ with_lock l now = with_lock_is now l (now.pages ++ l ∷ []) now.waiting false (put_last now.pages l c.requires) test refl in
    on_ok (c.put_next.new.self ≡ record { serial = now.serial; pages = now.pages ++ l ∷ []; waiting = now.waiting }) (c.put_next.new.self ≡ with_lock l now) c.put_next.result (λ new. new ∙ last) c.put_next.ensures.ok
