use Rattle.std.proofs.Common.{◌≤◌, ◌+◌, length, is_some, ap, sym, subst, ◌∙◌}
use Rattle.node_rules.specs.BufferRule.{copy_at, copy_of_slot, has_private, touch}
use Rattle.node_rules.specs.AccessRule.{filled}
use Rattle.home_laws.proofs.Performed.{touch_done, filled_done}
use Rattle.home.proofs.finish.write_granted.Goals as goal

pub fill_once-requires-clause-copy : goal.fill_once-requires-clause-copy
fill_once-requires-clause-copy c =
    ap (λ b. is_some (copy_at b c.args.page)) c.touch.ensures.touched
    ∙ ap (λ o. is_some (copy_of_slot o)) ((touch_done c.args.tx c.args.page c.args.pool.now c.requires.sound).slots c.args.page) ∙ c.requires.copy

pub fill_once-requires-clause-private : goal.fill_once-requires-clause-private
fill_once-requires-clause-private c =
    ap (λ b. has_private b c.args.tx c.args.page) c.touch.ensures.touched
    ∙ (touch_done c.args.tx c.args.page c.args.pool.now c.requires.sound).has c.args.tx c.args.page ∙ c.requires.private

pub change-requires-clause-private : goal.change-requires-clause-private
change-requires-clause-private c =
    let touched = touch_done c.args.tx c.args.page c.args.pool.now c.requires.sound in
    let copy = ap (λ o. is_some (copy_of_slot o)) (touched.slots c.args.page) ∙ c.requires.copy in
    ap (λ b. has_private b c.args.tx c.args.page) c.fill_once.ensures
    ∙ ap (λ b. has_private (filled b c.args.tx c.args.page) c.args.tx c.args.page) c.touch.ensures.touched
    ∙ (filled_done c.args.tx c.args.page (touch c.args.pool.now c.args.page) touched.buffer copy).has c.args.tx c.args.page
    ∙ touched.has c.args.tx c.args.page ∙ c.requires.private

pub change-requires-clause-inside : goal.change-requires-clause-inside
change-requires-clause-inside c =
    let touched = touch_done c.args.tx c.args.page c.args.pool.now c.requires.sound in
    let copy = ap (λ o. is_some (copy_of_slot o)) (touched.slots c.args.page) ∙ c.requires.copy in
    let size =
    ap (λ b. b.size) c.fill_once.ensures
    ∙ ap (λ b. (filled b c.args.tx c.args.page).size) c.touch.ensures.touched
    ∙ (filled_done c.args.tx c.args.page (touch c.args.pool.now c.args.page) touched.buffer copy).size ∙ touched.size in
    subst (λ n. c.args.place + length c.args.bytes.now ≤ n) (sym size) c.requires.inside
