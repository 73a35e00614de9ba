-- Who is past in the acting node's view may be buried.
use Rattle.std.proofs.Common.{◌≡◌, refl, ap, sym, subst, ◌∙◌, ℕ, ◌<◌, ◌≤◌, ◌==◌, ◌&&◌, nat_le, cond, Bool, true, false, List, [], ◌∷◌, Option, Some, None, arith, eqb-true}
use Rattle.std.specs.List.{AllByRecursion, filter}
use Rattle.std.specs.Prelude.{IfSome, is_some}
use Rattle.std.proofs.lemmas.Bool.Decides.{nat_tests}
use Rattle.pcl_base.specs.Limits.{Sizes}
use Rattle.pcl_base.specs.declared.event.Event.{Event}
use Rattle.pcl_base.specs.declared.message.Body.{Body}
use Rattle.pcl_base.specs.declared.message.Body.TheVariants as body
use Rattle.pcl_base.specs.declared.message.Message.{Message}
use Rattle.pcl_base.specs.declared.message.ReportLock.{ReportLock}
use Rattle.pcl_base.specs.declared.tx.Mode.{Mode}
use Rattle.pcl_base.specs.declared.tx.TxId.{TxId}
use Rattle.run_rules.specs.Views.{View, born_of, is_live, owner_of, since_of}
use Rattle.rule_laws.proofs.Turns.{same_equal}
use Rattle.node_rules.specs.InstallRule.{owned_before}
use Rattle.node_rules.specs.LockRule.{mode_of}
use Rattle.node_rules.specs.LockTable.{LockTable, entry_at}
use Rattle.node_rules.specs.NodeState.{NodeState, number_of, partition, table_at}
use Rattle.node_rules.specs.Words.{pick, same_tx}
use Rattle.node_rules.specs.Work.{Work}
use Rattle.cluster_rules.specs.Clusters.{Cluster, node_at, view_of_epoch}
use Rattle.cluster_rules.specs.Links.{link_at}
use Rattle.cluster_laws.specs.Sound.{IsMember}
use Rattle.cluster_laws.proofs.Steps.{up_is_member_law}
use Rattle.cluster_laws.specs.Era.Counts.{counts_at, counts_in}
use Rattle.cluster_laws.specs.Era.Eras.{era_at, era_in}
use Rattle.cluster_laws.proofs.EraParts.Ages.{era_is}
use Rattle.cluster_laws.specs.Link.Coming.{coming, is_coming, speaks_of}
use Rattle.page_relation.specs.Messages.{mode_listed}
use Rattle.page_relation.specs.Together.{IsOf, IsParty, PartiesAre}
use Rattle.related_runs.specs.Parties.{IsLiving}
use Rattle.page_relation.specs.Work.Landing.{land, Acts}
use Rattle.page_relation.proofs.WorkParts.Nodes.{at_node, of_node}
use Rattle.report_relation.specs.Bury.Burying.{HoldsNone, MayBury, NamedIn, NamesNone}
use Rattle.report_relation.specs.Bury.Past.{HoldersLive, IsOwner, OthersLive, PastMayBeBuried, past_in}
use Rattle.report_relation.proofs.BuryParts.Living.{both_parts, counted_alive, earlier_living, later_living, living_not_past, owner_then, past_early}

-- what passes a test
pub all_pass : (f : Message → Bool) (ms : List Message) → AllByRecursion (λ (m : Message). f m ≡ true) (filter f ms)
all_pass f [] = tt
all_pass f (m ∷ ms) = by (f m) refl (all_pass f ms)
  where
    by : (b : Bool) → f m ≡ b → AllByRecursion (λ (k : Message). f k ≡ true) (filter f ms) → AllByRecursion (λ (k : Message). f k ≡ true) (cond b (m ∷ filter f ms) (filter f ms))
    by true is rest = (is, rest)
    by false is rest = rest

pub two_all : {X : Type 0} (P Q R : X → Type 0) → ((x : X) → P x → Q x → R x) → (xs : List X) → AllByRecursion P xs → AllByRecursion Q xs → AllByRecursion R xs
two_all P Q R f [] p q = tt
two_all P Q R f (x ∷ xs) p q = (f x p.0 q.0, two_all P Q R f xs p.1 q.1)

pub all_come : (c : Cluster) (e : Event) (n p from to : ℕ) (w : Work)
    → AllByRecursion (λ (m : Message). is_coming c.config p from (node_at (land c e n w) to) m ≡ true) (coming (land c e n w) p from to)
unfolding coming land
all_come c e n p from to w = all_pass (is_coming c.config p from (node_at (land c e n w) to)) (link_at (land c e n w).links from to)

-- a report of the living lists nobody who is past
none_listed : (v : View) (p : ℕ) (t : TxId) → past_in v t ≡ true → (xs : List ReportLock) → AllByRecursion (λ (x : ReportLock). past_in v x.tx ≡ true → ⊥) xs → mode_listed xs t p ≡ None
unfolding mode_listed
none_listed v p t is [] all = refl
none_listed v p t is (x ∷ xs) all = by (same_tx x.tx t) refl (none_listed v p t is xs all.1)
  where
    by : (b : Bool) → same_tx x.tx t ≡ b → mode_listed xs t p ≡ None → pick (b && x.page == p) (Some x.mode) (mode_listed xs t p) ≡ None
    by true same rest = absurd (all.0 (ap (past_in v) (same_equal x.tx t same) ∙ is))
    by false other rest = rest

module _ (c : Cluster) (e : Event) (n p low : ℕ) (v : View) (w : Work) (acts : Acts c n) (i : IsOwner c e n p v w) (upto : since_of v (partition c.config p) ≤ low) where
  abbrev q : ℕ
  q = partition c.config p

  -- what counts at the acting node
  counts_here : (from to epoch : ℕ) → to ≡ n → counts_in (node_at (land c e n w) to) from q epoch ≡ true → counts_at w.node (Some v) from q epoch ≡ true
  counts_here from to epoch same counts =
      subst (λ (o : Option View). counts_at w.node o from q epoch ≡ true) i.view (at_node c e n acts w to (λ o. counts_in o from q epoch ≡ true) same counts)

  -- a transaction that a message to the owner of its era names, and that counts
  named_lives : (from to epoch : ℕ) (u : View) (t : TxId) → view_of_epoch c.views epoch ≡ Some u → is_live u.live from ≡ true → owner_of u q ≡ to → IsOf u from t
      → counts_in (node_at (land c e n w) to) from q epoch ≡ true → low ≤ era_at c q epoch → past_in v t ≡ true → ⊥
  named_lives from to epoch u t at on owns of counts late past = by (nat_le v.epoch epoch) refl
    where
      then : IsLiving u t
      then = record { live = ap (is_live u.live) of.node ∙ on; born = of.born ∙ ap (born_of u) (sym of.node) }

      by : (b : Bool) → nat_le v.epoch epoch ≡ b → ⊥
      by true test = living_not_past v t (later_living c acts.cluster v i.there epoch u t at (grind (arith, nat_tests, test)) then (past_early v t past)) past
      by false test =
          let before : epoch < v.epoch = grind (arith, nat_tests, test) in
          let early : epoch ≤ v.epoch = omega (arith, before) in
          let own = owner_then c acts.cluster v i.there q epoch low u at i.made early upto late in
          let here : to ≡ n = sym owns ∙ (own.1 ∙ i.owner) in
          let alive = counted_alive w.node v from q epoch early (counts_here from to epoch here counts) in
          living_not_past v t
          (earlier_living c acts.cluster v i.there epoch u t at early then (ap (is_live v.live) of.node ∙ alive.0) (subst (λ (k : ℕ). born_of v k ≤ epoch) (sym of.node) alive.1)) past

  named_one : (from to epoch : ℕ) (x : Body) (u : View) → view_of_epoch c.views epoch ≡ Some u → is_live u.live from ≡ true → PartiesAre c u from to epoch x
      → speaks_of c.config p x ≡ true → counts_in (node_at (land c e n w) to) from q epoch ≡ true → NamesNone low (past_in v) p from (era_at c q epoch) x
  named_one from to epoch (body.Request r) u at on parties speaks counts = tt
  named_one from to epoch (body.Grant g) u at on parties speaks counts = tt
  named_one from to epoch (body.Release r) u at on parties speaks counts =
      λ late. by late (past_in v r.tx) refl
    where
      owns : owner_of u q ≡ to
      owns = ap (λ (k : ℕ). owner_of u (partition c.config k)) (sym (eqb-true r.page p speaks)) ∙ parties.0

      by : low ≤ era_at c q epoch → (b : Bool) → past_in v r.tx ≡ b → b ≡ false
      by late true is = absurd (named_lives from to epoch u r.tx at on owns parties.1 counts late is)
      by late false is = refl
  named_one from to epoch (body.Revoke page) u at on parties speaks counts = tt
  named_one from to epoch (body.Return r) u at on parties speaks counts = tt
  named_one from to epoch (body.Report r) u at on parties speaks counts =
      λ late t home past. none_listed v p t past r.locks (all late r.locks parties.2)
    where
      owns : owner_of u q ≡ to
      owns = ap (owner_of u) (sym (eqb-true r.partition (partition c.config p) speaks)) ∙ parties.0

      all : low ≤ era_at c q epoch → (xs : List ReportLock) → AllByRecursion (λ (x : ReportLock). IsOf u from x.tx) xs → AllByRecursion (λ (x : ReportLock). past_in v x.tx ≡ true → ⊥) xs
      all late [] of = tt
      all late (x ∷ xs) of = (λ past. named_lives from to epoch u x.tx at on owns of.0 counts late past, all late xs of.1)

  named_each : (from to : ℕ) (m : Message) → is_coming c.config p from (node_at (land c e n w) to) m ≡ true → IsParty c from to m → NamedIn (land c e n w) q low (past_in v) p from m
  unfolding land era_at
  named_each from to m comes party =
      let parts = both_parts (speaks_of c.config p m.body) (counts_in (node_at (land c e n w) to) from (partition c.config p) m.epoch) comes in
      named_one from to m.epoch m.body party.view party.made party.live party.parties parts.0 parts.1

  pub named_all : (from to : ℕ) → AllByRecursion (NamedIn (land c e n w) q low (past_in v) p from) (coming (land c e n w) p from to)
  named_all from to =
      two_all (λ (m : Message). is_coming c.config p from (node_at (land c e n w) to) m ≡ true) (IsParty c from to) (NamedIn (land c e n w) q low (past_in v) p from)
      (named_each from to) (coming (land c e n w) p from to) (all_come c e n p from to w) (i.parties from to)

  -- ---- tables

  none_holds : (u : View) (t : LockTable) (x : TxId) → HoldersLive u t p → (IsLiving u x → past_in v x ≡ true → ⊥) → past_in v x ≡ true → mode_of (entry_at t p).holders x ≡ None
  none_holds u t x live never past = by (mode_of (entry_at t p).holders x) refl
    where
      by : (o : Option Mode) → mode_of (entry_at t p).holders x ≡ o → o ≡ None
      by None is = refl
      by (Some m) is = absurd (never (live x (λ none. let bad : Some m ≡ None = sym is ∙ none in absurd (cc))) past)

  others_hold : partition c.config p < c.config.nodes → OthersLive c n p → (m : ℕ) → (m == n) ≡ false → HoldsNone low (past_in v) p q (node_at c m)
  others_hold known lives m other = by (node_at c m) refl
    where
      member_of : (s : NodeState) → node_at c m ≡ Some s → IsMember c.config c.views m s
      member_of s up = (up_is_member_law c m s acts.cluster up).1

      owned_as : (s : NodeState) → node_at c m ≡ Some s → (o : Option View) → s.view ≡ o → (t : LockTable) → table_at s q ≡ Some t → owned_before o q (number_of s) ≡ true
      owned_as s up o viewed t at =
          sym (ap (λ (k : Option View). owned_before k q (number_of s)) viewed)
          ∙ (sym ((member_of s up).sound.owned q (subst (λ (k : Sizes). q < k.nodes) (sym (member_of s up).config) known)) ∙ ap (λ (k : Option LockTable). is_some k) at)

      not_owned : (s : NodeState) → node_at c m ≡ Some s → (o : Option View) → o ≡ None → s.view ≡ o → (t : LockTable) → table_at s q ≡ Some t → ⊥
      not_owned s up (Some u) none viewed t at = absurd (cc)
      not_owned s up None none viewed t at = let bad : false ≡ true = owned_as s up None viewed t at in absurd (cc)

      owned : (s : NodeState) → node_at c m ≡ Some s → (u : View) → s.view ≡ Some u → (t : LockTable) → table_at s q ≡ Some t → owner_of u q ≡ m
      owned s up u viewed t at = eqb-true (owner_of u q) (number_of s) (owned_as s up (Some u) viewed t at) ∙ (member_of s up).number

      in_view : (s : NodeState) → node_at c m ≡ Some s → (o : Option View) → s.view ≡ o → (t : LockTable) (x : TxId) → table_at s q ≡ Some t → t.serving ≡ false → low ≤ era_in s.view q → past_in v x ≡ true
          → mode_of (entry_at t p).holders x ≡ None
      in_view s up None none t x at off late past =
          absurd (not_owned s up None refl none t at)
      in_view s up (Some u) viewed t x at off late past = none_holds u t x (lives m s u t other up viewed at) (by (nat_le v.epoch s.epoch) refl) past
        where
          then : view_of_epoch c.views s.epoch ≡ Some u
          then = subst (λ (o : Option View). IfSome o (λ k. view_of_epoch c.views s.epoch ≡ Some k)) viewed (member_of s up).view

          era : low ≤ era_at c q s.epoch
          era = subst (λ (k : ℕ). low ≤ k) (ap (λ (o : Option View). era_in o q) viewed ∙ sym (era_is c s.epoch u then q)) late

          by : (b : Bool) → nat_le v.epoch s.epoch ≡ b → IsLiving u x → past_in v x ≡ true → ⊥
          by true test living is = living_not_past v x (later_living c acts.cluster v i.there s.epoch u x then (grind (arith, nat_tests, test)) living (past_early v x is)) is
          by false test living is =
              let before : s.epoch < v.epoch = grind (arith, nat_tests, test) in
              let own = owner_then c acts.cluster v i.there q s.epoch low u then i.made (omega (arith, before)) upto era in
              let same : m ≡ n = sym (owned s up u viewed t at) ∙ (own.1 ∙ i.owner) in
              absurd (grind (arith, nat_tests, other, same))

      by : (o : Option NodeState) → node_at c m ≡ o → HoldsNone low (past_in v) p q o
      by None down = tt
      by (Some s) up = in_view s up s.view refl

own_holds : (c : Cluster) (e : Event) (n p low : ℕ) (v : View) (w : Work) (acts : Acts c n) (i : IsOwner c e n p v w) (upto : since_of v (partition c.config p) ≤ low)
    → ((t : LockTable) → table_at w.node (partition c.config p) ≡ Some t → low ≤ since_of v (partition c.config p) → HoldersLive v t p)
    → HoldsNone low (past_in v) p (partition c.config p) (Some w.node)
own_holds c e n p low v w acts i upto own t x at off late past =
    none_holds c e n p low v w acts i upto v t x
    (own t at (subst (λ (k : ℕ). low ≤ k) (ap (λ (o : Option View). era_in o (partition c.config p)) i.view) late)) (living_not_past v x) past

pub past_may_be_buried_law : PastMayBeBuried
unfolding land
past_may_be_buried_law c e n p low v w acts known i others upto own = all (named_all c e n p low v w acts i upto)
  where
    holds : (m : ℕ) → HoldsNone low (past_in v) p (partition c.config p) (node_at (land c e n w) m)
    holds m =
        of_node c e n acts w m (HoldsNone low (past_in v) p (partition c.config p)) (λ same. own_holds c e n p low v w acts i upto own)
        (λ other. others_hold c e n p low v w acts i upto known others m other)

    all : ((from to : ℕ) → AllByRecursion (NamedIn (land c e n w) (partition c.config p) low (past_in v) p from) (coming (land c e n w) p from to)) → MayBury (land c e n w) p low (past_in v)
    all named = record { tables = holds; messages = named }
