-- A partition that the acting node keeps and serves is clear of the nodes that its new view drops, once who is past is buried.
use Rattle.std.proofs.Common.{◌≡◌, ◌≢◌, inr, refl, ap, sym, subst, ◌∙◌, ℕ, suc, ◌<◌, ◌≤◌, ◌&&◌, leb, ltb, not, nat_le, Bool, true, false, List, Option, Some, None, arith}
use Rattle.std.proofs.lemmas.Bool.Decides.{nat_tests}
use Rattle.pcl_base.specs.declared.event.Event.{Event}
use Rattle.pcl_base.specs.declared.message.Body.{Body}
use Rattle.pcl_base.specs.declared.message.Body.TheVariants as body
use Rattle.pcl_base.specs.declared.tx.Mode.{Mode}
use Rattle.pcl_base.specs.declared.tx.TxId.{TxId}
use Rattle.run_rules.specs.Views.{View, is_live, since_of}
use Rattle.node_rules.specs.LockRule.{mode_of}
use Rattle.node_rules.specs.LockTable.{LockTable, entry_at}
use Rattle.node_rules.specs.NodeState.{partition}
use Rattle.node_rules.specs.Work.{Work}
use Rattle.cluster_rules.specs.Clusters.{Cluster}
use Rattle.cluster_laws.specs.Era.Eras.{era_at, era_in}
use Rattle.kept_relation.specs.Clearing.{IsClear}
use Rattle.kept_relation.specs.Emptying.{AreDead, dead_below, gone_below}
use Rattle.kept_relation.specs.Purging.{AreSpared, FitsServed, IsSpared, SparedIn}
use Rattle.kept_relation.specs.Sparing.{OwnsIn, dead_in}
use Rattle.kept_relation.proofs.Purged.{own_table}
use Rattle.kept_relation.proofs.Spared.{all_weak, coming_is_spared_law}
use Rattle.cluster_laws.specs.Link.Coming.{coming}
use Rattle.page_protocol.specs.State as machine
use Rattle.page_protocol.specs.State.{has, NoRight, Returning, Right, Page, IsClosed, IsShelf}
use Rattle.page_protocol.specs.Steps.{Reached}
use Rattle.page_protocol.proofs.Used.{named_used}
use Rattle.page_relation.specs.Tables.{IsServed}
use Rattle.page_laws.specs.Storage.Looks.{is_among}
use Rattle.page_relation.specs.Work.Events.{IsEntered}
use Rattle.page_relation.specs.Work.Keeping.{IsWorkOf, Leads}
use Rattle.page_relation.specs.Work.Landing.{land, Acts}
use Rattle.report_relation.specs.Bury.Burying.{MayBury, burial}
use Rattle.report_relation.specs.Bury.Kept.{IsKept, KeptIsClear}
use Rattle.report_relation.specs.Bury.Past.{past_in}
use Rattle.report_relation.proofs.BuryParts.Burials.{buried_closed, buried_none, listed_early}
use Rattle.report_relation.proofs.BuryParts.Closed.{past_are_closed_law}
use Rattle.report_relation.proofs.BuryParts.Keeping.{dead, dead_named, dead_past, gone, held_before, named_past, no_shelf, off_of, owns_in}
use Rattle.report_relation.proofs.BuryParts.KnownWhole.{burial_is_work}
use Rattle.report_relation.proofs.BuryParts.Naming.{past_may_be_buried_law}
use Rattle.report_relation.proofs.BuryParts.Runs.{burial_is_run_law}

-- ---- tests

pub last_false : (x y : Bool) → y ≡ false → (x && y) ≡ false
last_false true y e = e
last_false false y e = refl

pub less_dead : (b l k : Bool) → (not l && k) ≡ false → ((b && not l) && k) ≡ false
less_dead true l k e = e
less_dead false l k e = refl

pub live_spared : (b l k : Bool) → l ≡ true → ((b && not l) && k) ≡ false
live_spared true true k e = refl
live_spared true false k e = absurd (cc)
live_spared false l k e = refl

-- fewer dead, and fewer nodes that are gone
pub spared_weaker : (a : Page) (e : ℕ) (dead less : TxId → Bool) (gone fewer : ℕ → Bool) (from to f : ℕ) (x : Body) → ((t : TxId) → dead t ≡ false → less t ≡ false)
    → ((m : ℕ) → gone m ≡ false → fewer m ≡ false) → IsSpared a e dead gone from to f x → IsSpared a e less fewer from to f x
spared_weaker a e dead less gone fewer from to f (body.Request r) d g old = old
spared_weaker a e dead less gone fewer from to f (body.Grant r) d g old = λ same. g to (old same)
spared_weaker a e dead less gone fewer from to f (body.Release r) d g old = λ same. d r.tx (old same)
spared_weaker a e dead less gone fewer from to f (body.Revoke page) d g old = old
spared_weaker a e dead less gone fewer from to f (body.Return r) d g old = λ same. g from (old same)
spared_weaker a e dead less gone fewer from to f (body.Report r) d g old = λ same t at. d t (old same t at)

-- a right on a shelf
pub a_shelf : (r : Right) → IsShelf r → (x : ℕ) × (r ≡ machine.Shelf x)
a_shelf NoRight is = absurd is
a_shelf (machine.Flying g) is = absurd is
a_shelf (machine.Shelf x) is = (x, refl)
a_shelf (Returning upto readers) is = absurd is
a_shelf machine.Dead is = absurd is

-- no right, unless one is out
no_right : (r : Right) → (r ≢ NoRight → ⊥) → r ≡ NoRight
no_right NoRight never = refl
no_right (machine.Flying g) never = absurd (never (λ same. absurd (cc)))
no_right (machine.Shelf x) never = absurd (never (λ same. absurd (cc)))
no_right (Returning upto readers) never = absurd (never (λ same. absurd (cc)))
no_right machine.Dead never = absurd (never (λ same. absurd (cc)))

module _ (c : Cluster) (e : Event) (n p k : ℕ) (old v : View) (lost : List ℕ) (t : LockTable) (blank : List ℕ) (w : Work) (a : Page) (acts : Acts c n) (known : IsKept c e n p old v w t) (serves : t.serving ≡ true) (inside : (m : ℕ) → is_live old.live m ≡ true → m < k) (reached : Reached blank a) (is : IsWorkOf c e n p w a) where
  abbrev q : ℕ
  q = partition c.config p

  abbrev off : ℕ → Bool
  off = gone c e n p old v t w a acts known

  abbrev no_more : TxId → Bool
  no_more = dead c e n p old v t w a acts known

  abbrev b : Page
  b = burial a (suc a.era) (past_in v)

  served : IsServed a.served a.owner a.era a.entry a.listed a.right a.reached a.home n (era_in w.node.view q) (entry_at t p)
  served = own_table c e n p t w a true acts known.there serves is

  era_is_own : since_of v q ≡ a.era
  era_is_own = sym (ap (λ (o : Option View). era_in o q) known.owner.view) ∙ served.now

  next : a.era < suc a.era
  next = omega arith

  may : partition c.config p < c.config.nodes → MayBury (land c e n w) p (suc a.era) (past_in v)
  may low =
      past_may_be_buried_law c e n p (suc a.era) v w acts low known.owner known.others (let own = era_is_own in omega (arith, own))
      (λ x at upto. let own = era_is_own in absurd (omega (arith, own, upto)))

  related : partition c.config p < c.config.nodes → IsWorkOf c e n p w b
  related low = burial_is_work c e n p (suc a.era) v w a next (may low) is

  closed_of : (u : TxId) → past_in v u ≡ true → IsClosed (b.home u)
  closed_of u past = buried_closed (past_in v u) (suc a.era) (a.home u) (past_are_closed_law c e n p v w a u acts known.owner is past)

  unlisted_of : (u : TxId) → past_in v u ≡ true → (f : ℕ) → a.era < f → b.listed u f ≡ None
  unlisted_of u past f after = buried_none (past_in v u) (leb (suc a.era) f) (a.listed u f) (inr (past, grind (arith, nat_tests, after)))

  are : AreDead b b.era no_more off
  are =
      record {
        named = dead_named c e n p old v t w a acts known;
        closed = λ u is_dead. closed_of u (dead_past c e n p old v t w a acts known u is_dead);
        unlisted = λ u is_dead. unlisted_of u (dead_past c e n p old v t w a acts known u is_dead);
      }

  gone_there : (m : ℕ) → is_live v.live m ≡ false → is_live old.live m ≡ true → gone_below k off m ≡ true
  gone_there m not_live was =
      let less = inside m was in
      let low : ltb m k ≡ true = grind (arith, nat_tests, less) in
      (λ j. low j && (was j && not (not_live j)))

  dead_there : (u : TxId) → is_live v.live u.node ≡ false → (is_live old.live u.node ≡ true) × (u.born ≤ v.epoch) → dead_below k no_more u ≡ true
  dead_there u not_live both =
      let less = inside u.node both.0 in
      let low : ltb u.node k ≡ true = grind (arith, nat_tests, less) in
      let born = both.1 in
      let early : nat_le u.born v.epoch ≡ true = grind (arith, nat_tests, born) in
      let was = both.0 in
      (λ j. low j && ((was j && not (not_live j)) && early j))

  fits : FitsServed v.live b (dead_below k no_more) (gone_below k off)
  fits =
      record {
        spared = λ u on. last_false (ltb u.node k) (no_more u) (live_spared (is_live old.live u.node) (is_live v.live u.node) (nat_le u.born v.epoch) on);
        listed = λ u not_live alive. listed_early a (suc a.era) (past_in v) u a.era next ∙ (sym (served.holders u) ∙ none u not_live alive (mode_of (entry_at t p).holders u) refl);
        rights = λ m not_live left. no_right (a.right m) (λ out. right_there m not_live left (known.rights m (served.rights m out)));
      }
    where
      none : (u : TxId) → is_live v.live u.node ≡ false → dead_below k no_more u ≡ false → (o : Option Mode) → mode_of (entry_at t p).holders u ≡ o → mode_of (entry_at t p).holders u ≡ None
      none u not_live alive None holds = holds
      none u not_live alive (Some m) holds =
          let there = dead_there u not_live (held_before c e n p old v t w a acts known u (λ nothing. let bad : Some m ≡ None = sym holds ∙ nothing in absurd (cc))) in
          let bad : true ≡ false = sym there ∙ alive in
          absurd (cc)

      right_there : (m : ℕ) → is_live v.live m ≡ false → gone_below k off m ≡ false → is_live old.live m ≡ true → ⊥
      right_there m not_live left was = let bad : true ≡ false = sym (gone_there m not_live was) ∙ left in absurd (cc)

  owns : OwnsIn c e n p v off w b.era
  owns = subst (OwnsIn c e n p v off w) era_is_own (owns_in c e n p old v t w a acts known off (off_of c e n p old v t w a acts known))

  spared : partition c.config p < c.config.nodes → AreSpared c e n p w b b.era (dead_below k no_more) (gone_below k off)
  spared low from to =
      all_weak (SparedIn (land c e n w) q b b.era (dead_in v) off from to) (SparedIn (land c e n w) q b b.era (dead_below k no_more) (gone_below k off) from to)
      (λ m old_one.
      spared_weaker b b.era (dead_in v) (dead_below k no_more) off (gone_below k off) from to (era_at (land c e n w) q m.epoch) m.body
      (λ u alive. last_false (ltb u.node k) (no_more u) (less_dead (is_live old.live u.node) (is_live v.live u.node) (nat_le u.born v.epoch) alive)) (λ m there. last_false (ltb m k) (off m) there)
      old_one)
      (coming (land c e n w) p from to) (coming_is_spared_law c e n p v off w b acts (related low) owns from to)

  clear : partition c.config p < c.config.nodes → ((m : ℕ) → off m ≡ true → is_among lost m ≡ true) → IsClear c e n p v lost k no_more off w b
  clear low among =
      record {
        are = are;
        shelves = λ m there shelf. let one = a_shelf (a.right m) shelf in no_shelf c e n p old v t w a acts known is m one.0 (off_of c e n p old v t w a acts known m there) one.1;
        readers = λ m upto readers there right u home named.
            let past = named_past c e n p old v t w a acts known (named_used blank a reached) is m upto readers (off_of c e n p old v t w a acts known m there) right u home named in
            (closed_of u past, unlisted_of u past);
        lost_too = among;
        fits = fits;
        spared = spared low;
      }

  leads : partition c.config p < c.config.nodes → ((m : ℕ) → off m ≡ true → is_among lost m ≡ true) → IsEntered a → Leads c e n p (λ x d. IsEntered d × IsClear c e n p v lost k no_more off x d) a w
  leads low among entered =
      record {
        page = b;
        run = burial_is_run_law a (suc a.era) (past_in v) next (λ u past. past_are_closed_law c e n p v w a u acts known.owner is past);
        related = related low;
        known = (entered, clear low among);
      }

pub kept_is_clear_law : KeptIsClear
kept_is_clear_law c e n p k old v lost t blank w a acts low known serves among inside reached is entered = leads c e n p k old v lost t blank w a acts known serves inside reached is low among entered
