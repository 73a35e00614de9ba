use Rattle.std.proofs.Common.{ℕ, nat_eq, ◌==◌, ◌&&◌, cond, is_some, Option, Some, ap, sym, ◌∙◌}
use Rattle.std.specs.Map.{lookup}
use Rattle.partition_redo.specs.declared.site.Site.{Site}
use Rattle.partition_redo.specs.Index.{NotedView, same_pair, near_in, or_else}
use Rattle.partition_redo.proofs.Noted.{noted_far}
use Rattle.partition_redo.proofs.ranges.Noted.note.Goals as goal

pub returns : goal.returns
returns c = λ p v.
    let far : ℕ → ℕ → Option Site = λ q w. lookup (same_pair (q, w)) c.args.self.now.far in
    let near : ℕ → ℕ → Option Site = λ q w. near_in (lookup (nat_eq q) c.args.self.now.near) w in
    let new : Option Site → Option Site = λ o. cond (c.args.page == p && c.args.version == v) (Some c.args.site) o in
    ap (λ (o : Option Site). or_else o (near_in (lookup (nat_eq p) c.self.inside.near.entries) v)) (c.in_ok-insert.ensures.updates.0 (p, v))
    ∙ ap (λ (n : NotedView). or_else (new (lookup (same_pair (p, v)) n.far)) (near_in (lookup (nat_eq p) n.near) v)) c.self.view_is
    ∙ ap (λ es. or_else (new (lookup (same_pair (p, v)) es)) (near_in (lookup (nat_eq p) c.keep.new.self.near) v)) c.in_ok-keep.ensures.far
    ∙ ap (or_else (new (far p v))) (c.in_ok-keep.ensures.same c.if-branch.false p v)
    ∙ noted_far far near c.args.page c.args.version p v c.args.site (ap is_some (sym c.far_at.ensures) ∙ sym c.is_some.ensures ∙ c.if-is_some.false) (c.in_ok-keep.ensures.none c.if-branch.false)
