use Rattle.std.proofs.Common.{◌≡◌, ◌∙◌, sym, ap, not, ◌&&◌}
use Rattle.std.specs.List.{list_any}
use Rattle.node_rules.specs.Words.{same_tx, is_exclusive}
use Rattle.node_rules.specs.LockRule.{LockEntry, has_right}
use Rattle.lock_entry.proofs.Lists.{gives_right_by}
use Rattle.lock_entry.proofs.entry.Entry.gives_right.Goals as goal

pub returns : goal.returns
returns c =
    let e = c.args.self.now in
    let w = c.args.waiter in
    let rights : e.rights ≡ c.as_slice.result.now = sym (ap (λ (x : LockEntry). x.rights) c.self.view_is) ∙ sym c.as_slice.ensures in
    let waiting : e.waiting ≡ c.as_slice-2.result.now = sym (ap (λ (x : LockEntry). x.waiting) c.self.view_is) ∙ sym c.as_slice-2.ensures in
    gives_right_by c.args.owner e w c.exclusive_waits.result c.if-waiter-owner.false
    (ap (λ rs. has_right rs w.tx.node) rights ∙ (sym c.has_right.ensures ∙ c.if-has_right.false))
    (c.exclusive_waits.ensures ∙ sym (ap (λ ws. list_any (λ x. not (same_tx x.tx w.tx) && is_exclusive x.mode) ws) waiting))
