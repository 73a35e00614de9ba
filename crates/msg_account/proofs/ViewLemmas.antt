-- Views that follow one another.
use Rattle.std.proofs.Common.{◌≡◌, ℕ, zero, suc, ◌+◌, ◌-◌, ◌==◌, ◌<◌, ◌≤◌, List, [], ◌∷◌, ◌++◌, refl, ap, ◌∙◌, sym, subst, length, Bool, true, false, cond, nat_lt, Option, Some, None, get_or, arith}
use Rattle.std.proofs.lemmas.Bool.Decides.{nat_tests}
use Rattle.std.proofs.lemmas.List.{length-replicate}
use Rattle.std.specs.Prelude.{Result, Ok, Err}
use Rattle.pcl_base.specs.Limits.{Sizes}
use Rattle.run_rules.specs.Words.{pick}
use Rattle.run_rules.specs.Views.{View, first, next, reopen, moved, anew, unless_broken, first_broken, keeps_six}
use Rattle.run_rules.specs.Ledger.{last_or, view_of_epoch}
use Rattle.msg_account.specs.Kept.{AreInTurn, AreMade, made_of}

pub turn_last : (n e : ℕ) (d : View) (vs : List View) → length d.live ≡ n → suc d.epoch ≡ e → AreInTurn n e vs
    → (length (last_or d vs).live ≡ n) × (suc (last_or d vs).epoch ≡ e + length vs)
turn_last n e d [] nodes turn h = (nodes, omega (arith, turn))
turn_last n e d (v ∷ vs) nodes turn h =
    let rest = turn_last n (suc e) v vs h.0 (ap suc h.1) h.2 in (rest.0, omega (arith, rest.1))

pub turn_push : (n e : ℕ) (v : View) (vs : List View) → length v.live ≡ n → v.epoch ≡ e + length vs → AreInTurn n e vs → AreInTurn n e (vs ++ v ∷ [])
turn_push n e v [] nodes turn h = (nodes, omega (arith, turn), tt)
turn_push n e v (w ∷ vs) nodes turn h = (h.0, h.1, turn_push n (suc e) v vs nodes (omega (arith, turn)) h.2)

pub turn_nodes : (n e k : ℕ) (d : View) (vs : List View) → length d.live ≡ n → AreInTurn n e vs → length (get_or vs k d).live ≡ n
turn_nodes n e k d [] nodes h = nodes
turn_nodes n e zero d (v ∷ vs) nodes h = h.0
turn_nodes n e (suc k) d (v ∷ vs) nodes h = turn_nodes n (suc e) k d vs nodes h.2

early_case : (d v : View) (vs : List View) (k : ℕ) (b : Bool) → b ≡ false → view_of_epoch d vs k ≡ d → pick b v (view_of_epoch d vs k) ≡ d
early_case d v vs k true h rest = absurd (cc)
early_case d v vs k false h rest = rest

turn_early : (n e k : ℕ) (d : View) (vs : List View) → k < e → AreInTurn n e vs → view_of_epoch d vs k ≡ d
unfolding view_of_epoch
turn_early n e k d [] less h = refl
turn_early n e k d (v ∷ vs) less h =
    let at = h.1 in
    let differs : (v.epoch == k) ≡ false = grind (arith, nat_tests) in
    early_case d v vs k (v.epoch == k) differs (turn_early n (suc e) k d vs (omega (arith, less)) h.2)

at_case : (d v : View) (vs : List View) (e k : ℕ) (b : Bool) → (v.epoch == k) ≡ b → v.epoch ≡ e → e ≤ k
    → (e < k → view_of_epoch d vs k ≡ get_or vs (k - suc e) d) → pick b v (view_of_epoch d vs k) ≡ get_or (v ∷ vs) (k - e) d
at_case d v vs e k true same at le rest =
    let none : 0 ≡ k - e = grind (arith, nat_tests) in ap (λ i. get_or (v ∷ vs) i d) none
at_case d v vs e k false same at le rest =
    let less : e < k = grind (arith, nat_tests) in
    let next : suc (k - suc e) ≡ k - e = omega (arith, less) in
    rest less ∙ ap (λ i. get_or (v ∷ vs) i d) next

turn_at : (n e k : ℕ) (d : View) (vs : List View) → e ≤ k → AreInTurn n e vs → view_of_epoch d vs k ≡ get_or vs (k - e) d
unfolding view_of_epoch
turn_at n e k d [] le h = refl
turn_at n e k d (v ∷ vs) le h =
    at_case d v vs e k (v.epoch == k) refl h.1 le (λ less. turn_at n (suc e) k d vs (omega (arith, less)) h.2)

same_case : (x y : View) (b : Bool) → y ≡ x → pick b x y ≡ x
same_case x y true h = refl
same_case x y false h = h

found_case : (c : Sizes) (n k : ℕ) (vs : List View) (b : Bool) → nat_lt k 2 ≡ b → AreInTurn n 2 vs
    → cond b (first c) (get_or vs (k - 2) (first c)) ≡ view_of_epoch (first c) (first c ∷ vs) k
unfolding view_of_epoch
found_case c n k vs true less h =
    let below : k < 2 = grind (arith, nat_tests) in
    sym (same_case (first c) (view_of_epoch (first c) vs k) (1 == k) (turn_early n 2 k (first c) vs below h))
found_case c n k vs false less h =
    let above : 2 ≤ k = grind (arith, nat_tests) in
    let differs : (1 == k) ≡ false = grind (arith, nat_tests) in
    sym (ap (λ b. pick b (first c) (view_of_epoch (first c) vs k)) differs ∙ turn_at n 2 k (first c) vs above h)

-- the view of an epoch stands at its place
pub found : (c : Sizes) (n k : ℕ) (vs : List View) → AreInTurn n 2 vs
    → cond (nat_lt k 2) (first c) (get_or vs (k - 2) (first c)) ≡ view_of_epoch (first c) (first c ∷ vs) k
found c n k vs h = found_case c n k vs (nat_lt k 2) refl h

nodes_case : (n : ℕ) (v w : View) (b : Bool) → length v.live ≡ n → length w.live ≡ n → length (cond b v w).live ≡ n
nodes_case n v w true hv hw = hv
nodes_case n v w false hv hw = hw

pub found_nodes : (n k : ℕ) (d : View) (vs : List View) → length d.live ≡ n → AreInTurn n 2 vs → length (cond (nat_lt k 2) d (get_or vs (k - 2) d)).live ≡ n
found_nodes n k d vs nodes h = nodes_case n d (get_or vs (k - 2) d) (nat_lt k 2) nodes (turn_nodes n 2 (k - 2) d vs nodes h)

pub last_none : (d : View) (vs : List View) → length vs ≡ 0 → d ≡ last_or d vs
last_none d [] h = refl
last_none d (v ∷ vs) h = absurd (omega (arith, h))

pub last_at : (d x : View) (vs : List View) (k : ℕ) → suc k ≡ length vs → get_or vs k x ≡ last_or d vs
last_at d x [] k h = absurd (omega (arith, h))
last_at d x (v ∷ vs) zero h = last_none v vs (omega (arith, h))
last_at d x (v ∷ vs) (suc k) h = last_at v x vs k (omega (arith, h))

turned : (r : Option ℕ) (v w : View) → unless_broken r w ≡ Ok v → v ≡ w
turned None v w h = cc
turned (Some rule) v w h = absurd (cc)

-- a next view is of the next epoch
pub next_turn : (c : Sizes) (b v : View) (live : List Bool) (owners : List ℕ) → next c b live owners ≡ Ok v → v.epoch ≡ b.epoch + 1
unfolding next
next_turn c b v live owners h = ap (λ (w : View). w.epoch) (turned (first_broken c b live owners) v (moved b live owners) h)

reopen_case : (c : Sizes) (k : Bool) (v w : View) → pick {X = Result View ℕ} k (Ok w) (Err 6) ≡ Ok v → v ≡ w
reopen_case c true v w h = cc
reopen_case c false v w h = absurd (cc)

pub reopen_turn : (c : Sizes) (b v : View) → reopen c b ≡ Ok v → v.epoch ≡ b.epoch + 1
unfolding reopen
reopen_turn c b v h = ap (λ (w : View). w.epoch) (reopen_case c (keeps_six b) v (anew c (b.epoch + 1)) h)

-- where a rule is broken none is made
pub next_broken : (c : Sizes) (b : View) (live : List Bool) (owners : List ℕ) (rule : ℕ) → Some rule ≡ first_broken c b live owners → None ≡ made_of (next c b live owners)
unfolding next
next_broken c b live owners rule h = ap (λ (r : Option ℕ). made_of (unless_broken r (moved b live owners))) h

pub reopen_broken_none : (c : Sizes) (b : View) (rule : ℕ) (k : Bool) → keeps_six b ≡ k → Some rule ≡ pick k None (Some 6) → None ≡ made_of (reopen c b)
unfolding reopen
reopen_broken_none c b rule true is h = absurd (cc)
reopen_broken_none c b rule false is h = sym (ap (λ k. made_of (pick {X = Result View ℕ} k (Ok (anew c (b.epoch + 1))) (Err 6))) is)

first_nodes : (c : Sizes) (v : View) → v ≡ first c → length v.live ≡ c.nodes
first_nodes c v is = ap (λ (w : View). length w.live) is ∙ length-replicate c.nodes true

first_turn : (c : Sizes) (v : View) → v ≡ first c → suc v.epoch ≡ 2
first_turn c v is = ap (λ (w : View). suc w.epoch) is

-- the last view has the nodes of the configuration, and its epoch counts the views
pub made_last : (c : Sizes) (v : View) (vs : List View) → AreMade c v vs → (length (last_or v vs).live ≡ c.nodes) × ((last_or v vs).epoch ≡ length (v ∷ vs))
made_last c v vs h =
    let last = turn_last c.nodes 2 v vs (first_nodes c v h.is_first) (first_turn c v h.is_first) h.in_turn in
    (last.0, omega (arith, last.1))

pub made_push : (c : Sizes) (v w : View) (vs : List View) → AreMade c v vs → length w.live ≡ c.nodes → w.epoch ≡ length (v ∷ vs) + 1 → AreMade c v (vs ++ w ∷ [])
made_push c v w vs h nodes turn =
    record { is_first = h.is_first; in_turn = turn_push c.nodes 2 w vs nodes (omega (arith, turn)) h.in_turn }

pub made_found : (c : Sizes) (v : View) (vs : List View) (k : ℕ) → AreMade c v vs
    → cond (nat_lt k 2) v (get_or vs (k - 2) v) ≡ view_of_epoch (first c) (v ∷ vs) k
made_found c v vs k h =
    let P : View → Type 0 = λ w. cond (nat_lt k 2) w (get_or vs (k - 2) w) ≡ view_of_epoch (first c) (w ∷ vs) k in
    subst P (sym h.is_first) (found c c.nodes k vs h.in_turn)

pub made_nodes : (c : Sizes) (v : View) (vs : List View) (k : ℕ) → AreMade c v vs → length (cond (nat_lt k 2) v (get_or vs (k - 2) v)).live ≡ c.nodes
made_nodes c v vs k h = found_nodes c.nodes k v vs (first_nodes c v h.is_first) h.in_turn
