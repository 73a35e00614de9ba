-- A partition that the acting node keeps and still rebuilds is clear of the nodes that its new view drops, once who is past is
-- buried and their rights count no more.
use Rattle.std.proofs.Common.{◌≡◌, inr, refl, ap, sym, subst, ◌∙◌, ℕ, suc, ◌<◌, ◌≤◌, ◌==◌, ◌&&◌, leb, ltb, not, nat_le, Bool, true, false, List, Option, Some, None, is_some, arith, eqb-true}
use Rattle.std.specs.Prelude.{IfSome}
use Rattle.std.proofs.lemmas.Bool.Decides.{nat_tests}
use Rattle.pcl_base.specs.Limits.{Sizes}
use Rattle.pcl_base.specs.declared.event.Event.{Event}
use Rattle.pcl_base.specs.declared.tx.Mode.{Mode}
use Rattle.pcl_base.specs.declared.tx.TxId.{TxId}
use Rattle.run_rules.specs.Views.{View, is_live, owner_of, since_of}
use Rattle.node_rules.specs.InstallRule.{owned_before, purge_table}
use Rattle.node_rules.specs.LockRule.{LockEntry, mode_of, purge}
use Rattle.node_rules.specs.LockTable.{LockTable, entry_at, marked}
use Rattle.node_rules.specs.NodeState.{NodeState, number_of, partition, table_at}
use Rattle.node_rules.specs.Words.{flag_at, pick}
use Rattle.node_rules.specs.Work.{Work}
use Rattle.cluster_rules.specs.Clusters.{Cluster, node_at, view_of_epoch}
use Rattle.cluster_laws.specs.Sound.{IsMember}
use Rattle.cluster_laws.proofs.Steps.{up_is_member_law}
use Rattle.page_laws.specs.Entry.Looks.{IsPurged}
use Rattle.page_laws.proofs.EntryParts.Looked.{purging_is_seen_law}
use Rattle.page_laws.proofs.EntryParts.Tabled.{tables_are_seen_law}
use Rattle.cluster_laws.specs.Era.Eras.{era_at, era_in}
use Rattle.cluster_laws.proofs.EraParts.Ages.{era_is, eras_have_one_owner_law, owner_is}
use Rattle.kept_relation.specs.Emptying.{AreDead, dead_below, nobody}
use Rattle.kept_relation.specs.Purging.{AreSpared, FitsRebuilt, HasNoTable, SparedIn}
use Rattle.kept_relation.specs.Sparing.{OwnsIn, dead_in}
use Rattle.kept_relation.proofs.Purged.{own_table}
use Rattle.kept_relation.proofs.Spared.{all_weak, coming_is_spared_early_law}
use Rattle.cluster_laws.specs.Link.Coming.{coming}
use Rattle.page_protocol.specs.State as machine
use Rattle.page_protocol.specs.State.{Page, IsClosed}
use Rattle.page_protocol.specs.Steps.{Reached}
use Rattle.page_protocol.proofs.Used.{named_used}
use Rattle.page_relation.specs.Messages.{CountsFor}
use Rattle.page_relation.specs.Tables.{IsRebuilt}
use Rattle.related_runs.specs.Parties.{IsLiving}
use Rattle.page_relation.specs.Work.Events.{IsEntered}
use Rattle.page_relation.specs.Work.Keeping.{IsWorkOf, Leads}
use Rattle.page_relation.specs.Work.Landing.{land, Acts}
use Rattle.page_relation.proofs.WorkParts.Kept.{leads_on}
use Rattle.report_relation.specs.Bury.Burying.{MayBury, burial, lower, lowered}
use Rattle.report_relation.specs.Bury.Kept.{IsClearEarly, IsKept, KeptIsClearEarly, PurgedAreLiving}
use Rattle.report_relation.specs.Bury.Past.{past_in}
use Rattle.report_relation.specs.Bury.Running.{AreBounded, AreOver}
use Rattle.report_relation.proofs.BuryParts.Bounds.{rights_are_bounded_law}
use Rattle.report_relation.proofs.BuryParts.Burials.{buried_closed, buried_none, listed_early}
use Rattle.report_relation.proofs.BuryParts.Closed.{past_are_closed_law}
use Rattle.report_relation.proofs.BuryParts.Keeping.{dead, dead_named, dead_past, gone, held_before, named_past, no_shelf, not_so, owns_in}
use Rattle.report_relation.proofs.BuryParts.KeptServed.{last_false, less_dead, live_spared, spared_weaker}
use Rattle.report_relation.proofs.BuryParts.KnownWhole.{burial_is_work, lowered_is_work}
use Rattle.report_relation.proofs.BuryParts.Naming.{past_may_be_buried_law}
use Rattle.report_relation.proofs.BuryParts.Runs.{burial_is_run_law, lowering_is_run_law}
use Rattle.report_relation.proofs.BuryParts.Wholes.{lowered_out}

-- who has a table of a partition owns it in its view
module _ (c : Cluster) (n q : ℕ) (acts : Acts c n) (low : q < c.config.nodes) (m : ℕ) (s : NodeState) (up : node_at c m ≡ Some s) (t : LockTable) (at : table_at s q ≡ Some t) where
  member : IsMember c.config c.views m s
  member = (up_is_member_law c m s acts.cluster up).1

  owned_as : (o : Option View) → s.view ≡ o → owned_before o q (number_of s) ≡ true
  owned_as o viewed =
      sym (ap (λ (k : Option View). owned_before k q (number_of s)) viewed)
      ∙ (sym (member.sound.owned q (subst (λ (k : Sizes). q < k.nodes) (sym member.config) low)) ∙ ap (λ (k : Option LockTable). is_some k) at)

  -- so it is of an era of that owner
  pub era_owned : (v : View) → view_of_epoch c.views v.epoch ≡ Some v → era_in s.view q ≡ since_of v q → owner_of v q ≡ m
  era_owned v there same = by s.view refl
    where
      by : (o : Option View) → s.view ≡ o → owner_of v q ≡ m
      by None viewed = let bad : false ≡ true = owned_as None viewed in absurd (cc)
      by (Some u) viewed =
          let then : view_of_epoch c.views s.epoch ≡ Some u = subst (λ (o : Option View). IfSome o (λ k. view_of_epoch c.views s.epoch ≡ Some k)) viewed member.view in
          let own : owner_of u q ≡ m = eqb-true (owner_of u q) (number_of s) (owned_as (Some u) viewed) ∙ member.number in
          let eras : era_at c q v.epoch ≡ era_at c q s.epoch = era_is c v.epoch v there q ∙ (sym same ∙ (ap (λ (o : Option View). era_in o q) viewed ∙ sym (era_is c s.epoch u then q))) in
          sym (owner_is c v.epoch v there q) ∙ (eras_have_one_owner_law c q v.epoch s.epoch acts.cluster eras ∙ (owner_is c s.epoch u then q ∙ own))

pick_some : (b : Bool) (x : Option Mode) (m : Mode) → b ≡ true → x ≡ Some m → pick b x None ≡ Some m
pick_some true x m is some = some
pick_some false x m is some = absurd (cc)

module _ (c : Cluster) (e : Event) (n p k : ℕ) (old v : View) (t : LockTable) (blank : List ℕ) (w : Work) (a : Page) (acts : Acts c n) (low : partition c.config p < c.config.nodes) (known : IsKept c e n p old v w t) (rebuilds : t.serving ≡ false) (inside : (m : ℕ) → is_live old.live m ≡ true → m < k) (reached : Reached blank a) (is : IsWorkOf c e n p w a) where
  abbrev q : ℕ
  q = partition c.config p

  abbrev era : ℕ
  era = era_in w.node.view q

  abbrev off : ℕ → Bool
  off = gone c e n p old v t w a acts known

  abbrev no_more : TxId → Bool
  no_more = dead c e n p old v t w a acts known

  abbrev out : ℕ → Bool
  out m = not (is_live v.live m)

  abbrev b : Page
  b = burial a (suc era) (past_in v)

  abbrev z : Page
  z = lowered b era out

  rebuilt : IsRebuilt a.era a.listed a.right a.reached a.home era t (entry_at t p)
  rebuilt = own_table c e n p t w a false acts known.there rebuilds is

  own_era : era ≡ since_of v q
  own_era = ap (λ (o : Option View). era_in o q) known.owner.view

  later : a.era < era
  later = rebuilt.later

  after : a.era < suc era
  after = let one = later in omega (arith, one)

  may : MayBury (land c e n w) p (suc era) (past_in v)
  may =
      past_may_be_buried_law c e n p (suc era) v w acts low known.owner known.others (let own = own_era in omega (arith, own))
      (λ x at upto. let own = own_era in absurd (omega (arith, own, upto)))

  related : IsWorkOf c e n p w b
  related = burial_is_work c e n p (suc era) v w a after may is

  closed_of : (u : TxId) → past_in v u ≡ true → IsClosed (b.home u)
  closed_of u past = buried_closed (past_in v u) (suc era) (a.home u) (past_are_closed_law c e n p v w a u acts known.owner is past)

  unlisted_of : (u : TxId) → past_in v u ≡ true → (f : ℕ) → era < f → b.listed u f ≡ None
  unlisted_of u past f then = buried_none (past_in v u) (leb (suc era) f) (a.listed u f) (inr (past, grind (arith, nat_tests, then)))

  over : AreOver b era out
  over m upto readers there right less u home named =
      let past = named_past c e n p old v t w a acts known (named_used blank a reached) is m upto readers (not_so (is_live v.live m) there) right u home named in
      (closed_of u past, unlisted_of u past)

  bounded : AreBounded b
  bounded = let all = rights_are_bounded_law blank a reached in record { bound = all.bound; none = all.none }

  are : AreDead z era no_more off
  are =
      record {
        named = dead_named c e n p old v t w a acts known;
        closed = λ u is_dead. closed_of u (dead_past c e n p old v t w a acts known u is_dead);
        unlisted = λ u is_dead. unlisted_of u (dead_past c e n p old v t w a acts known u is_dead);
      }

  dead_there : (u : TxId) → is_live v.live u.node ≡ false → (is_live old.live u.node ≡ true) × (u.born ≤ v.epoch) → dead_below k no_more u ≡ true
  dead_there u not_live both =
      let less = inside u.node both.0 in
      let below : ltb u.node k ≡ true = grind (arith, nat_tests, less) in
      let born = both.1 in
      let early : nat_le u.born v.epoch ≡ true = grind (arith, nat_tests, born) in
      let was = both.0 in
      (λ j. below j && ((was j && not (not_live j)) && early j))

  next : era < suc era
  next = omega arith

  fits : FitsRebuilt v.live z era t (dead_below k no_more)
  fits =
      record {
        spared = λ u on. last_false (ltb u.node k) (no_more u) (live_spared (is_live old.live u.node) (is_live v.live u.node) (nat_le u.born v.epoch) on);
        listed = λ u not_live alive on. listed_early a (suc era) (past_in v) u era next ∙ none u not_live alive on (a.listed u era) refl;
        rights = λ m on counts. live_still m counts (is_live v.live m) refl;
      }
    where
      none : (u : TxId) → is_live v.live u.node ≡ false → dead_below k no_more u ≡ false → marked t u.node ≡ true → (o : Option Mode) → a.listed u era ≡ o → a.listed u era ≡ None
      none u not_live alive on None lists = lists
      none u not_live alive on (Some m) lists =
          let holds : mode_of (entry_at t p).holders u ≡ Some m = rebuilt.holders u ∙ pick_some (marked t u.node) (a.listed u era) m on lists in
          let there = dead_there u not_live (held_before c e n p old v t w a acts known u (λ nothing. let bad : Some m ≡ None = sym holds ∙ nothing in absurd (cc))) in
          let bad : true ≡ false = sym there ∙ alive in
          absurd (cc)

      live_still : (m : ℕ) → CountsFor era (z.right m) → (l : Bool) → is_live v.live m ≡ l → is_live v.live m ≡ true
      live_still m counts true live = live
      live_still m counts false not_live =
          let one = lowered_out era (a.right m) (subst (λ (x : Bool). CountsFor era (machine.pick (not x) (lower era (a.right m)) (a.right m))) not_live counts) in
          absurd (no_shelf c e n p old v t w a acts known is m one.0 not_live one.1)

  alone : (m : ℕ) → (m == n) ≡ false → HasNoTable q era (node_at c m)
  alone m other = by (node_at c m) refl
    where
      by : (o : Option NodeState) → node_at c m ≡ o → HasNoTable q era o
      by None down = tt
      by (Some s) up =
          λ x at same.
          let own : owner_of v q ≡ m = era_owned c n q acts low m s up x at v known.owner.there (same ∙ own_era) in
          let here : m ≡ n = sym own ∙ known.owner.owner in
          grind (arith, nat_tests, other, here)

  related_low : IsWorkOf c e n p w z
  related_low = lowered_is_work c e n p era out w b later related

  owns : OwnsIn c e n p v nobody w era
  owns = subst (OwnsIn c e n p v nobody w) (sym own_era) (owns_in c e n p old v t w a acts known nobody (λ m there. absurd (cc)))

  spared : AreSpared c e n p w z era (dead_below k no_more) nobody
  spared from to =
      all_weak (SparedIn (land c e n w) q z era (dead_in v) nobody from to) (SparedIn (land c e n w) q z era (dead_below k no_more) nobody from to)
      (λ m one.
      spared_weaker z era (dead_in v) (dead_below k no_more) nobody nobody from to (era_at (land c e n w) q m.epoch) m.body
      (λ u alive. last_false (ltb u.node k) (no_more u) (less_dead (is_live old.live u.node) (is_live v.live u.node) (nat_le u.born v.epoch) alive)) (λ m there. there) one)
      (coming (land c e n w) p from to) (coming_is_spared_early_law c e n p v era w z acts related_low owns from to)

  leads : IsEntered a → Leads c e n p (λ x d. IsEntered d × IsClearEarly c e n p k old v t x d) a w
  leads entered =
      leads_on c e n p (λ x d. IsEntered d × IsClearEarly c e n p k old v t x d) a b w
      (burial_is_run_law a (suc era) (past_in v) after (λ u past. past_are_closed_law c e n p v w a u acts known.owner is past))
      (record {
        page = z;
        run = lowering_is_run_law b era out later bounded over;
        related = related_low;
        known = (entered, record { are = are; fits = fits; alone = alone; spared = spared });
      })

pub kept_is_clear_early_law : KeptIsClearEarly
kept_is_clear_early_law c e n p k old v t blank w a acts low known rebuilds inside reached is entered = leads c e n p k old v t blank w a acts low known rebuilds inside reached is entered

pub purged_are_living_law : PurgedAreLiving
purged_are_living_law old v t p goes_on live u holds = by (flag_at v.live u.node) refl (mode_of (entry_at t p).holders u) refl
  where
    seen : IsPurged (entry_at t p) v.live (purge (entry_at t p) v.live)
    seen = purging_is_seen_law (entry_at t p) v.live

    modes : mode_of (entry_at (purge_table v.live t) p).holders u ≡ pick (flag_at v.live u.node) (mode_of (entry_at t p).holders u) None
    modes = ap (λ (x : LockEntry). mode_of x.holders u) ((tables_are_seen_law t).purged v.live p) ∙ seen.holders u

    none_of : (x : Option Mode) → pick false x None ≡ None
    none_of x = refl

    by : (l : Bool) → flag_at v.live u.node ≡ l → (o : Option Mode) → mode_of (entry_at t p).holders u ≡ o → IsLiving v u
    by true on (Some m) was =
        let lives = live u (λ none. let bad : Some m ≡ None = sym was ∙ none in absurd (cc)) in
        record { live = on; born = lives.born ∙ sym (goes_on u.node lives.live on) }
    by true on None was = absurd (holds (modes ∙ (ap (λ (b : Bool). pick b (mode_of (entry_at t p).holders u) None) on ∙ was)))
    by false off o was = absurd (holds (modes ∙ ap (λ (b : Bool). pick b (mode_of (entry_at t p).holders u) None) off))
