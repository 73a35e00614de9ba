use Rattle.std.proofs.Common.{◌≡◌, ◌∙◌, sym, ap, true, false}
use Rattle.lock_entry.specs.Turns.{goes_on}
use Rattle.node_rules.specs.LockRule.{LockEntry, turn, first_upgrade}
use Rattle.lock_entry.proofs.Settling.{turn_first, turn_last, turns_over, settled_entry, settled_decisions}
use Rattle.lock_entry.proofs.Upgrades.{no_upgrade_after}
use Rattle.lock_entry.proofs.entry.Entry.take_turns.Goals as goal

pub returns-then-not-branch-clause-decisions : goal.returns-then-not-branch-clause-decisions
returns-then-not-branch-clause-decisions c =
    let stops : goes_on (turn c.args.owner c.loop-taken.self) ≡ false = sym c.in_ok-take_turn.ensures.goes ∙ c.if-not-branch.true in
    settled_decisions _ _ _ _ _ _ c.loop-taken.invariant.most
    (turn_last _ _ _ _ _ _ _ _ c.loop-taken-test.true stops c.in_ok-take_turn.ensures.entry c.in_ok-take_turn.ensures.decided c.loop-taken.invariant.rest)

pub returns-then-not-branch-clause-entry : goal.returns-then-not-branch-clause-entry
returns-then-not-branch-clause-entry c =
    let stops : goes_on (turn c.args.owner c.loop-taken.self) ≡ false = sym c.in_ok-take_turn.ensures.goes ∙ c.if-not-branch.true in
    settled_entry _ _ _ _ _ _ c.loop-taken.invariant.most
    (turn_last _ _ _ _ _ _ _ _ c.loop-taken-test.true stops c.in_ok-take_turn.ensures.entry c.in_ok-take_turn.ensures.decided c.loop-taken.invariant.rest)

pub loop-taken-preserved : goal.loop-taken-preserved
loop-taken-preserved c =
    let goes : goes_on (turn c.args.owner c.loop-taken.self) ≡ true = sym c.in_ok-take_turn.ensures.goes ∙ c.if-not-branch.false in
    record {
      most = c.loop-taken.invariant.most;
      upgrade = c.next_upgrade-upgrade.ensures;
      rest = turn_first _ _ _ _ _ _ _ _ c.loop-taken-test.true goes c.in_ok-take_turn.ensures.entry c.in_ok-take_turn.ensures.decided c.loop-taken.invariant.rest;
    }

pub returns-clause-decisions : goal.returns-clause-decisions
returns-clause-decisions c =
    settled_decisions _ _ _ _ _ _ c.loop-taken.invariant.most
    (turns_over _ _ _ _ _ _ c.loop-taken-test.false c.loop-taken.invariant.rest)

pub returns-clause-entry : goal.returns-clause-entry
returns-clause-entry c =
    settled_entry _ _ _ _ _ _ c.loop-taken.invariant.most
    (turns_over _ _ _ _ _ _ c.loop-taken-test.false c.loop-taken.invariant.rest)

pub next_upgrade-upgrade-requires : goal.next_upgrade-upgrade-requires
next_upgrade-upgrade-requires c = λ none.
    let goes : goes_on (turn c.args.owner c.loop-taken.self) ≡ true = sym c.in_ok-take_turn.ensures.goes ∙ c.if-not-branch.false in
    ap (λ (e : LockEntry). first_upgrade e.holders e.waiting) c.in_ok-take_turn.ensures.entry
    ∙ no_upgrade_after c.args.owner c.loop-taken.self (sym c.loop-taken.invariant.upgrade ∙ none) goes
