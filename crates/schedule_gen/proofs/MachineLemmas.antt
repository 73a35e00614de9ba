-- Each step of the machine gives the event that follows, and leaves it sound.
use Rattle.std.proofs.Common.{◌≡◌, ℕ, zero, suc, ◌+◌, ◌-◌, ◌<◌, ◌≤◌, ◌==◌, ◌&&◌, ◌||◌, nat_le, Bool, true, false, List, [], ◌∷◌, ◌++◌, length, filter, map, drop, slice_index, slice_set, refl, sym, ap, subst, ◌∙◌, arith, append_assoc, add-one, length-set}
use Rattle.std.proofs.lemmas.List.{append-nil, map-append, length-map}
use Rattle.std.specs.List.{AllByRecursion}
use Rattle.pcl_base.specs.Limits.{Sizes, InLimits}
use Rattle.pcl_base.specs.declared.tx.TxId.{TxId}
use Rattle.pcl_base.specs.declared.event.Event.{Event}
use Rattle.pcl_base.specs.declared.event.Event.TheVariants.{Begin, Abort, Crash as CrashEvent, Install as InstallEvent}
use Rattle.text_rules.specs.ScheduleLine.{HasTx, HasLine}
use Rattle.text_rules.specs.Generator.{Making, draw_live, begin, access, deliveries, failure, first_making, numbers_below}
use Rattle.schedule_gen.specs.declared.machine.Machine.{Machine}
use Rattle.schedule_gen.specs.declared.stage.Turn.{Turn}
use Rattle.schedule_gen.specs.declared.stage.Turn.TheVariants.{First, Second, Third}
use Rattle.schedule_gen.specs.declared.stage.Stage.{Stage}
use Rattle.schedule_gen.specs.declared.stage.Stage.TheVariants.{BeginFirst, BeginSecond, AccessFirst, AccessSecond, Crash, View, Install, AbortSecond}
use Rattle.schedule_gen.specs.Links.{SweepsView, links_of, delivered, repeated, avoids}
use Rattle.schedule_gen.specs.Rest.{Round, rest, is_due, resumed, after_turn}
use Rattle.schedule_gen.specs.Machines.{round_of, left, stage_if, stage_after, IsStage, IsSound, IsAt, Gives}
use Rattle.schedule_gen.proofs.LimitLemmas.{all_map, all_at, others, length_numbers}
use Rattle.schedule_gen.proofs.LinkLemmas.{are_delivered, links_left}
use Rattle.schedule_gen.proofs.RestLemmas.{begins, crashes}

-- sweeps that are due
pub one_sweep : (sweep : List (ℕ × ℕ)) (live : List ℕ) (l : List Event) → sweep ≡ links_of live → delivered (repeated 1 sweep) ++ l ≡ deliveries live ++ l
one_sweep sweep live l is = rw (is, append-nil (links_of live)) (ap (λ d. d ++ l) (are_delivered live))

pub two_sweeps : (sweep : List (ℕ × ℕ)) (live : List ℕ) (l : List Event) → sweep ≡ links_of live → delivered (repeated 2 sweep) ++ l ≡ deliveries live ++ (deliveries live ++ l)
two_sweeps sweep live l is =
    rw (is, append-nil (links_of live), map-append, are_delivered live) (append_assoc (deliveries live) (deliveries live) l)

-- the serials go up by one at most
all_set : (given node n : ℕ) (ns : List ℕ) → n ≤ given → AllByRecursion (λ m. m ≤ given) ns → AllByRecursion (λ m. m ≤ given) (slice_set ns node n)
all_set given node n [] most all = tt
all_set given zero n (m ∷ ns) most all = (most, all.1)
all_set given (suc node) n (m ∷ ns) most all = (all.0, all_set given node n ns most all.1)

pub more_serials : (given : ℕ) (ns : List ℕ) → AllByRecursion (λ m. m ≤ given) ns → AllByRecursion (λ m. m ≤ given + 1) ns
more_serials given ns all = all_map (λ m. m ≤ given) (λ m. m ≤ given + 1) ns (λ m most. omega (arith, most)) all

pub begun_serials : (given node : ℕ) (s : Making) → node < length s.serials → AllByRecursion (λ m. m ≤ given) s.serials → AllByRecursion (λ m. m ≤ given + 1) (begin node s).next.serials
begun_serials given node s inside all =
    let last : slice_index s.serials node ≤ given = all_at (λ m. m ≤ given) s.serials node inside all in
    all_set (given + 1) node (slice_index s.serials node + 1) s.serials (omega (arith, last)) (more_serials given s.serials all)

-- one event more
pub sound_next : (m : Machine) (rounds : ℕ) (s : Making) (v : SweepsView) (a b : TxId) (stage : Stage)
    → IsSound m → m.given < m.lines → rounds ≤ m.given + 1 → length s.serials ≡ length m.kept.serials
    → AllByRecursion (λ n. n ≤ m.given + 1) s.serials → v.sweep ≡ links_of s.live → HasTx a → HasTx b → IsStage stage s
    → IsSound (record { config = m.config; lines = m.lines; given = m.given + 1; rounds = rounds; kept = s; sweeps = v; first = a; second = b; stage = stage })
sound_next m rounds s v a b stage sound more counted many serials sweep first second there =
    record {
      limits = sound.limits;
      nodes = sound.nodes ∙ sym many;
      rounds = counted;
      given = omega (arith, more);
      lines = sound.lines;
      serials = serials;
      sweep = sweep;
      first = first;
      second = second;
      stage = there;
    }

-- the stage alone changes
pub moved : (m : Machine) (v : SweepsView) (stage : Stage) → IsSound m → m.given < m.lines → v.sweep ≡ m.sweeps.sweep → IsStage stage m.kept
    → IsSound (record m { given = m.given + 1; sweeps = v; stage = stage })
moved m v stage sound more same there =
    sound_next m m.rounds m.kept v m.first m.second stage sound more (omega (arith, sound.rounds)) refl (more_serials m.given m.kept.serials sound.serials) (same ∙ sound.sweep) sound.first sound.second there

-- a round begins
pub gives_begin_first : (m : Machine) (x y : ℕ) (t u v : Making) (a : TxId) → IsAt BeginFirst m
    → x ≡ (draw_live m.kept).value → t ≡ (draw_live m.kept).next → y ≡ (draw_live t).value → u ≡ (draw_live t).next
    → a ≡ (begin x u).value → v ≡ (begin x u).next → x ≤ 15 → x < length t.serials → y < length u.serials → HasTx a
    → Gives m (record m { given = m.given + 1; rounds = m.rounds + 1; kept = v; first = a; stage = BeginSecond y }) (Begin x)
gives_begin_first m x y t u v a here xe te ye ue ae ve node known next named =
    let inside : x < length u.serials = subst (λ ns. x < length ns) (sym (ap (λ (s : Making). s.serials) ue)) known in
    let serials : u.serials ≡ m.kept.serials = ap (λ (s : Making). s.serials) ue ∙ ap (λ (s : Making). s.serials) te in
    let live : v.live ≡ m.kept.live = ap (λ (s : Making). s.live) ve ∙ (ap (λ (s : Making). s.live) ue ∙ ap (λ (s : Making). s.live) te) in
    let many : length v.serials ≡ length u.serials = ap (λ (s : Making). length s.serials) ve ∙ length-set u.serials x (slice_index u.serials x + 1) in
    let raised = subst (λ (s : Making). AllByRecursion (λ n. n ≤ m.given + 1) s.serials) (sym ve) (begun_serials m.given x u inside (subst (AllByRecursion (λ n. n ≤ m.given)) (sym serials) here.sound.serials)) in
    let later : m.lines - m.rounds ≡ suc (m.lines - (m.rounds + 1)) = omega (arith, here.more, here.sound.rounds) in
    record {
      following = rw (here.none_due, here.here) (rw (ae, ve, ye, ue, te, xe) (begins (round_of m) (m.lines - (m.rounds + 1)) m.kept later));
      given = refl;
      lines = refl;
      sound =
          sound_next m (m.rounds + 1) v m.sweeps a m.second (BeginSecond y) here.sound here.more (omega (arith, here.sound.rounds))
          (many ∙ ap length serials) raised (here.sound.sweep ∙ ap links_of (sym live)) named here.sound.second (subst (λ n. y < n) (sym many) next);
      has_line = node;
    }

pub gives_begin_second : (m : Machine) (node : ℕ) (v : Making) (b : TxId) → IsAt (BeginSecond node) m
    → b ≡ (begin node m.kept).value → v ≡ (begin node m.kept).next → HasTx b
    → Gives m (record m { given = m.given + 1; kept = v; second = b; stage = AccessFirst First }) (Begin node)
gives_begin_second m node v b here bs vs named =
    let inside : node < length m.kept.serials = subst (λ st. IsStage st m.kept) here.here here.sound.stage in
    let live : v.live ≡ m.kept.live = ap (λ (s : Making). s.live) vs in
    let many : length v.serials ≡ length m.kept.serials = ap (λ (s : Making). length s.serials) vs ∙ length-set m.kept.serials node (slice_index m.kept.serials node + 1) in
    let raised = subst (λ (s : Making). AllByRecursion (λ n. n ≤ m.given + 1) s.serials) (sym vs) (begun_serials m.given node m.kept inside here.sound.serials) in
    record {
      following = rw (here.none_due, here.here) (rw (bs, vs) refl);
      given = refl;
      lines = refl;
      sound =
          sound_next m m.rounds v m.sweeps m.first b (AccessFirst First) here.sound here.more (omega (arith, here.sound.rounds))
          many raised (here.sound.sweep ∙ ap links_of (sym live)) here.sound.first named tt;
      has_line = omega (arith, inside, here.sound.nodes, here.sound.limits.most_nodes);
    }

-- what follows a turn
after_if : (b : Bool) (w : Round) (s : Making) → b ≡ is_due w s → rest w (stage_if b) s ≡ after_turn w First s
after_if true w s is = rw (← is) refl
after_if false w s is = rw (← is) refl

pub after_is : (m : Machine) (turn : Turn) → rest (round_of m) (stage_after m turn) m.kept ≡ after_turn (round_of m) turn m.kept
after_is m First = after_if (is_due (round_of m) m.kept) (round_of m) m.kept refl
after_is m Second = refl
after_is m Third = refl

due_live : (a : Bool) (n : ℕ) → (a && nat_le 2 n) ≡ true → 2 ≤ n
due_live true n is = grind (arith, is)
due_live false n is = absurd (cc)

stage_fits : (m : Machine) (b : Bool) → is_due (round_of m) m.kept ≡ b → IsStage (stage_if b) m.kept
stage_fits m true is = due_live (m.rounds == 20 || m.rounds == 40) (length m.kept.live) is
stage_fits m false is = tt

pub after_fits : (m : Machine) (turn : Turn) → IsStage (stage_after m turn) m.kept
after_fits m First = stage_fits m (is_due (round_of m) m.kept) refl
after_fits m Second = tt
after_fits m Third = tt

pub gives_access_second : (m : Machine) (turn : Turn) (e : Event) (s : Making) (stage : Stage) → IsAt (AccessSecond turn) m
    → (access m.config.pages m.second m.kept).events ≡ e ∷ [] → s ≡ (access m.config.pages m.second m.kept).next → s ≡ record m.kept { draws = s.draws } → HasLine e
    → stage ≡ stage_after (record m { kept = s; sweeps = record m.sweeps { due = repeated 1 m.sweeps.sweep } }) turn
    → Gives m (record m { given = m.given + 1; kept = s; sweeps = record m.sweeps { due = repeated 1 m.sweeps.sweep }; stage = stage }) e
gives_access_second m turn e s stage here event next kept line after =
    let m' : Machine = record m { kept = s; sweeps = record m.sweeps { due = repeated 1 m.sweeps.sweep } } in
    let live : m.kept.live ≡ s.live = sym (ap (λ (s : Making). s.live) kept) in
    let serials : m.kept.serials ≡ s.serials = sym (ap (λ (s : Making). s.serials) kept) in
    let sweep : m.sweeps.sweep ≡ links_of s.live = here.sound.sweep ∙ ap links_of live in
    record {
      following =
          rw (here.none_due, here.here)
          (rw (event, ← next, after, after_is m' turn)
          (ap (λ l. e ∷ l) (sym (one_sweep m.sweeps.sweep s.live (after_turn (round_of m) turn s) sweep))));
      given = refl;
      lines = refl;
      sound =
          sound_next m m.rounds s (record m.sweeps { due = repeated 1 m.sweeps.sweep }) m.first m.second stage here.sound here.more (omega (arith, here.sound.rounds))
          (sym (ap length serials)) (subst (AllByRecursion (λ n. n ≤ m.given + 1)) serials (more_serials m.given m.kept.serials here.sound.serials)) sweep here.sound.first here.sound.second
          (subst (λ st. IsStage st s) (sym after) (after_fits m' turn));
      has_line = line;
    }

-- a failure
pub gives_crash : (m : Machine) (lost : ℕ) (s : Making) → IsAt Crash m
    → lost ≡ (draw_live m.kept).value → s ≡ (failure (length m.kept.serials) m.kept).next → s.live ≡ others lost m.kept.live → s.serials ≡ m.kept.serials → lost ≤ 15
    → Gives m (record m { given = m.given + 1; kept = s; sweeps = record { sweep = filter (avoids lost) m.sweeps.sweep; due = [] }; stage = View }) (CrashEvent lost)
gives_crash m lost s here node next live serials most =
    let sweep : filter (avoids lost) m.sweeps.sweep ≡ links_of s.live = ap (filter (avoids lost)) here.sound.sweep ∙ (links_left lost m.kept.live ∙ ap links_of (sym live)) in
    let state : s ≡ (failure m.config.nodes m.kept).next = next ∙ ap (λ n. (failure n m.kept).next) (sym here.sound.nodes) in
    record {
      following = rw (here.none_due, here.here) (rw (node, state) (crashes (round_of m) m.kept));
      given = refl;
      lines = refl;
      sound =
          sound_next m m.rounds s (record { sweep = filter (avoids lost) m.sweeps.sweep; due = [] }) m.first m.second View here.sound here.more (omega (arith, here.sound.rounds))
          (ap length serials) (subst (AllByRecursion (λ n. n ≤ m.given + 1)) (sym serials) (more_serials m.given m.kept.serials here.sound.serials)) sweep here.sound.first here.sound.second tt;
      has_line = most;
    }

-- an install
next_install : (place : ℕ) (ns : List ℕ) → place < length ns → drop place (map (λ x. InstallEvent x) ns) ≡ InstallEvent (slice_index ns place) ∷ drop (place + 1) (map (λ x. InstallEvent x) ns)
next_install place [] inside = elim inside [ ]
next_install zero (n ∷ ns) inside = refl
next_install (suc place) (n ∷ ns) inside = rw (add-one (suc place)) (next_install place ns (omega (arith, inside)) ∙ rw (add-one place) refl)

none_behind : (k : ℕ) (ns : List ℕ) → k ≡ length ns → drop k (map (λ x. InstallEvent x) ns) ≡ []
none_behind zero [] is = refl
none_behind zero (n ∷ ns) is = absurd (cc)
none_behind (suc k) [] is = absurd (cc)
none_behind (suc k) (n ∷ ns) is = none_behind k ns (omega (arith, is))

pub gives_install : (m : Machine) (place : ℕ) → IsAt (Install place) m → place + 1 < length m.kept.live → AllByRecursion (λ n. n ≤ 15) m.kept.live
    → Gives m (record m { given = m.given + 1; stage = Install (place + 1) }) (InstallEvent (slice_index m.kept.live place))
gives_install m place here more nodes =
    let inside : place < length m.kept.live = omega (arith, more) in
    record {
      following =
          rw (here.none_due, here.here)
          (ap (λ l. l ++ (deliveries m.kept.live ++ (deliveries m.kept.live ++ resumed (round_of m) m.kept))) (next_install place m.kept.live inside));
      given = refl;
      lines = refl;
      sound = moved m m.sweeps (Install (place + 1)) here.sound here.more refl more;
      has_line = all_at (λ n. n ≤ 15) m.kept.live place inside nodes;
    }

pub gives_last_install : (m : Machine) (place : ℕ) → IsAt (Install place) m → place + 1 ≡ length m.kept.live → AllByRecursion (λ n. n ≤ 15) m.kept.live
    → Gives m (record m { given = m.given + 1; sweeps = record m.sweeps { due = repeated 2 m.sweeps.sweep }; stage = AccessFirst Second }) (InstallEvent (slice_index m.kept.live place))
gives_last_install m place here last nodes =
    let inside : place < length m.kept.live = omega (arith, last) in
    let after = resumed (round_of m) m.kept in
    record {
      following =
          rw (here.none_due, here.here)
          (ap (λ l. l ++ (deliveries m.kept.live ++ (deliveries m.kept.live ++ after))) (next_install place m.kept.live inside ∙ ap (λ l. InstallEvent (slice_index m.kept.live place) ∷ l) (none_behind (place + 1) m.kept.live last))
          ∙ ap (λ l. InstallEvent (slice_index m.kept.live place) ∷ l) (sym (two_sweeps m.sweeps.sweep m.kept.live after here.sound.sweep)));
      given = refl;
      lines = refl;
      sound = moved m (record m.sweeps { due = repeated 2 m.sweeps.sweep }) (AccessFirst Second) here.sound here.more refl tt;
      has_line = all_at (λ n. n ≤ 15) m.kept.live place inside nodes;
    }

-- the last event of a round but for the deliveries
pub gives_abort_second : (m : Machine) → IsAt AbortSecond m
    → Gives m (record m { given = m.given + 1; sweeps = record m.sweeps { due = repeated 1 m.sweeps.sweep }; stage = BeginFirst }) (Abort m.second)
gives_abort_second m here =
    record {
      following =
          rw (here.none_due, here.here)
          (ap (λ l. Abort m.second ∷ l) (sym (one_sweep m.sweeps.sweep m.kept.live (rest (round_of m) BeginFirst m.kept) here.sound.sweep)));
      given = refl;
      lines = refl;
      sound = moved m (record m.sweeps { due = repeated 1 m.sweeps.sweep }) BeginFirst here.sound here.more refl tt;
      has_line = here.sound.second;
    }

-- at first
no_serials : (ns : List ℕ) → AllByRecursion (λ n. n ≤ 0) (map (λ (n : ℕ). 0) ns)
no_serials [] = tt
no_serials (n ∷ ns) = (omega arith, no_serials ns)

pub first_sound : (c : Sizes) (seed lines : ℕ) (s : Making) (v : SweepsView) (a : TxId) → InLimits c → lines ≤ 4294967295
    → s ≡ first_making c seed → v.sweep ≡ links_of s.live → HasTx a
    → IsSound (record { config = c; lines = lines; given = 0; rounds = 0; kept = s; sweeps = v; first = a; second = a; stage = BeginFirst })
first_sound c seed lines s v a limits most is sweep named =
    let serials : map (λ (n : ℕ). 0) (numbers_below c.nodes) ≡ s.serials = sym (ap (λ (s : Making). s.serials) is) in
    record {
      limits = limits;
      nodes = sym (sym (ap length serials) ∙ (length-map (numbers_below c.nodes) (λ (n : ℕ). 0) ∙ length_numbers c.nodes));
      rounds = omega arith;
      given = omega arith;
      lines = most;
      serials = subst (AllByRecursion (λ n. n ≤ 0)) serials (no_serials (numbers_below c.nodes));
      sweep = sweep;
      first = named;
      second = named;
      stage = tt;
    }

-- what is left of a schedule begins with the event that is given
pub gives_left : (m m' : Machine) (e : Event) → m.given < m.lines → Gives m m' e → left m ≡ e ∷ left m'
gives_left m m' e more gives =
    let one : m.lines - m.given ≡ suc (m'.lines - m'.given) = omega (arith, more, gives.given, gives.lines) in
    rw (one, gives.following) refl
