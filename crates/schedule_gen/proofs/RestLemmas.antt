-- What is left from each stage on: its event, and what is left from the next stage on.
use Rattle.std.proofs.Common.{◌≡◌, ℕ, suc, ◌+◌, ◌==◌, ◌||◌, not, [], ◌∷◌, ◌++◌, filter, map, ap, ◌∙◌, append_assoc}
use Rattle.pcl_base.specs.declared.tx.TxId.{TxId}
use Rattle.pcl_base.specs.declared.event.Event.TheVariants.{Begin, Commit, Abort, Crash, View, Install}
use Rattle.text_rules.specs.Generator.{Making, Part, ◌>>◌, say, draw_live, begin, access, drawn, deliveries, sweep, turn, maybe_failure, failure_if, failure, flags_of}
use Rattle.schedule_gen.specs.Rest.{Round, Events, next_rounds, from_commit_first, from_access_first, after_second, resumed, is_due, after_first, from_view, from_crash, from_begin_second}
use Rattle.schedule_gen.proofs.OwnerLemmas.{new_owners_silent}

-- a turn and what follows it
turn_of : Round → Part (Unit {0})
turn_of w = turn w.sizes.pages w.first w.second

turn_is : (w : Round) (follow : Events) (s : Making) → (turn_of w s).events ++ follow (turn_of w s).next ≡ from_access_first w follow s
unfolding turn_of
turn_is w follow s =
    let t = (access w.sizes.pages w.first s).next in
    let u = (access w.sizes.pages w.second t).next in
    append_assoc (access w.sizes.pages w.first s).events ((access w.sizes.pages w.second t).events ++ deliveries u.live) (follow u)
    ∙ ap (λ l. (access w.sizes.pages w.first s).events ++ l) (append_assoc (access w.sizes.pages w.second t).events (deliveries u.live) (follow u))

-- the parts of a round, from the last one
ends : Round → Part (Unit {0})
ends w = say (Commit w.first ∷ Abort w.first ∷ Commit w.second ∷ Abort w.second ∷ []) >> sweep

third : Round → Part (Unit {0})
third w = turn_of w >> ends w

second : Round → Part (Unit {0})
second w = turn_of w >> third w

broken : Round → Part (Unit {0})
broken w = maybe_failure (w.number == 20 || w.number == 40) w.sizes.nodes >> second w

first : Round → Part (Unit {0})
first w = turn_of w >> broken w

third_is : (w : Round) (s : Making) → (third w s).events ++ next_rounds w (third w s).next ≡ after_second w s
unfolding ends third
third_is w s =
    let t = (turn_of w s).next in
    append_assoc (turn_of w s).events (ends w t).events (next_rounds w (ends w t).next) ∙ turn_is w (from_commit_first w) s

second_is : (w : Round) (s : Making) → (second w s).events ++ next_rounds w (second w s).next ≡ resumed w s
unfolding second third
second_is w s =
    let t = (turn_of w s).next in
    append_assoc (turn_of w s).events (third w t).events (next_rounds w (third w t).next)
    ∙ (ap (λ l. (turn_of w s).events ++ l) (third_is w t) ∙ turn_is w (after_second w) s)

broken_is : (w : Round) (s : Making) → (broken w s).events ++ next_rounds w (broken w s).next ≡ after_first w s
unfolding broken second
broken_is w s =
    let f = failure_if (is_due w s) w.sizes.nodes s in
    append_assoc f.events (second w f.next).events (next_rounds w (second w f.next).next) ∙ ap (λ l. f.events ++ l) (second_is w f.next)

first_is : (w : Round) (s : Making) → (first w s).events ++ next_rounds w (first w s).next ≡ from_access_first w (after_first w) s
unfolding first broken
first_is w s =
    let t = (turn_of w s).next in
    append_assoc (turn_of w s).events (broken w t).events (next_rounds w (broken w t).next)
    ∙ (ap (λ l. (turn_of w s).events ++ l) (broken_is w t) ∙ turn_is w (after_first w) s)

-- a round begins: two draws, and the first begin
abbrev pub first_node : Making → ℕ
first_node s = (draw_live s).value

abbrev pub second_node : Making → ℕ
second_node s = (draw_live (draw_live s).next).value

abbrev pub first_begun : Making → TxId
first_begun s = (begin (first_node s) (draw_live (draw_live s).next).next).value

abbrev pub after_begun : Making → Making
after_begun s = (begin (first_node s) (draw_live (draw_live s).next).next).next

pub begins : (w : Round) (later : ℕ) (s : Making) → w.later ≡ suc later
    → next_rounds w s ≡ Begin (first_node s) ∷ from_begin_second (record w { number = w.number + 1; later = later; first = first_begun s }) (second_node s) (after_begun s)
unfolding turn_of ends third second broken first
begins w later s is =
    let b = begin (second_node s) (after_begun s) in
    rw is
    (ap (λ l. Begin (first_node s) ∷ Begin (second_node s) ∷ l)
    (first_is (record { sizes = w.sizes; number = w.number + 1; later = later; first = first_begun s; second = b.value }) b.next))

-- a failure begins with a crash
pub crashes : (w : Round) (s : Making) → from_crash w s ≡ Crash (draw_live s).value ∷ from_view w (failure w.sizes.nodes s).next
crashes w s =
    let lost = (draw_live s).value in
    let f = (failure w.sizes.nodes s).next in
    let silent = new_owners_silent lost s.owners (record s { draws = drawn s.draws; live = filter (λ x. not (x == lost)) s.live }) in
    rw silent
    (ap (λ l. Crash lost ∷ View (flags_of w.sizes.nodes f.live) f.owners ∷ l)
    (append_assoc (map (λ x. Install x) f.live) (deliveries f.live ++ deliveries f.live) (resumed w f)
    ∙ ap (λ l. map (λ x. Install x) f.live ++ l) (append_assoc (deliveries f.live) (deliveries f.live) (resumed w f))))
