-- What is known of a partition makes it clear of the nodes that a view drops.
use Rattle.std.proofs.Common.{◌≡◌, ◌⊎◌, inl, inr, refl, ap, sym, subst, ◌∙◌, ℕ, ◌<◌, ◌≤◌, ◌==◌, ◌&&◌, ltb, not, nat_le, Bool, true, false, Option, Some, None, arith, eqb-true}
use Rattle.std.proofs.lemmas.Bool.Decides.{nat_tests}
use Rattle.pcl_base.specs.declared.event.Event.{Event}
use Rattle.pcl_base.specs.declared.message.Body.{Body}
use Rattle.pcl_base.specs.declared.message.Body.TheVariants as body
use Rattle.pcl_base.specs.declared.tx.TxId.{TxId}
use Rattle.run_rules.specs.Views.{View, is_live}
use Rattle.node_rules.specs.NodeState.{NodeState, partition}
use Rattle.node_rules.specs.Work.{Work}
use Rattle.cluster_rules.specs.Clusters.{Cluster, node_at}
use Rattle.cluster_laws.specs.Era.Eras.{era_at, live_at, live_in}
use Rattle.cluster_laws.proofs.EraParts.Ages.{eras_never_fall_law}
use Rattle.cluster_laws.proofs.EraParts.Lives.{lives_go_on_law}
use Rattle.cluster_laws.specs.Link.Coming.{coming}
use Rattle.page_protocol.specs.State.{IsClosed, IsShelf, NoRight, Page}
use Rattle.page_relation.specs.Work.Keeping.{IsWorkOf}
use Rattle.page_relation.specs.Work.Landing.{land, Acts}
use Rattle.cluster_laws.specs.Era.Eras.{born_at}
use Rattle.kept_relation.specs.Emptying.{AreDead, dead_below, gone_below}
use Rattle.kept_relation.specs.Known.{AreKnown, IsOfLife, KnownIsClear, dead_of, gone_in}
use Rattle.kept_relation.specs.Purging.{AreSpared, FitsServed, IsSpared, SparedIn}
use Rattle.kept_relation.specs.Sparing.{OwnsIn, dead_in}
use Rattle.kept_relation.proofs.Spared.{all_weak, coming_is_spared_law}
use Rattle.kept_relation.proofs.Unlisted.{down_have_no_shelf_law, gone_are_closed_law, later_life}

-- ---- tests

both_parts : (x y : Bool) → (x && y) ≡ true → (x ≡ true) × (y ≡ true)
both_parts true y e = (refl, e)
both_parts false y e = absurd (cc)

not_so : (x : Bool) → not x ≡ true → x ≡ false
not_so true e = absurd (cc)
not_so false e = refl

last_false : (x y : Bool) → y ≡ false → (x && y) ≡ false
last_false true y e = e
last_false false y e = refl

less_dead : (b l k : Bool) → (not l && k) ≡ false → ((b && not l) && k) ≡ false
less_dead true l k e = e
less_dead false l k e = refl

live_spared : (b l k : Bool) → l ≡ true → ((b && not l) && k) ≡ false
live_spared true true k e = refl
live_spared true false k e = absurd (cc)
live_spared false l k e = refl

-- fewer dead, and fewer nodes that are gone
spared_weaker : (a : Page) (e : ℕ) (dead less : TxId → Bool) (gone fewer : ℕ → Bool) (from to f : ℕ) (x : Body) → ((t : TxId) → dead t ≡ false → less t ≡ false)
    → ((m : ℕ) → gone m ≡ false → fewer m ≡ false) → IsSpared a e dead gone from to f x → IsSpared a e less fewer from to f x
spared_weaker a e dead less gone fewer from to f (body.Request r) d g old = old
spared_weaker a e dead less gone fewer from to f (body.Grant r) d g old = λ same. g to (old same)
spared_weaker a e dead less gone fewer from to f (body.Release r) d g old = λ same. d r.tx (old same)
spared_weaker a e dead less gone fewer from to f (body.Revoke page) d g old = old
spared_weaker a e dead less gone fewer from to f (body.Return r) d g old = λ same. g from (old same)
spared_weaker a e dead less gone fewer from to f (body.Report r) d g old = λ same t at. d t (old same t at)

module _ (c : Cluster) (e : Event) (n p k : ℕ) (v : View) (before : ℕ → Bool) (w : Work) (a : Page) (acts : Acts c n) (is : IsWorkOf c e n p w a) (i : OwnsIn c e n p v (gone_in before v) w a.era) (known : AreKnown c (partition c.config p) v.epoch before a) where
  abbrev q : ℕ
  q = partition c.config p

  abbrev gone : ℕ → Bool
  gone = gone_in before v

  abbrev dead : TxId → Bool
  dead = dead_of before v

  -- of a node that isn't listed, born by then
  closed_of : (t : TxId) → is_live v.live t.node ≡ false → t.born ≤ v.epoch → IsClosed (a.home t)
  closed_of t off early = gone_are_closed_law c e n p v w a t acts is i.there i.made i.listed off early

  live_of : (m : ℕ) → live_at c m v.epoch ≡ is_live v.live m
  unfolding live_at
  live_of m = ap (λ (o : Option View). live_in o m) i.there

  unlisted_of : (t : TxId) → is_live v.live t.node ≡ false → t.born ≤ v.epoch → (f : ℕ) → a.era < f → a.listed t f ≡ None
  unlisted_of t off early f later = of (known.later t f later)
    where
      never : (l : IsOfLife c q t f) → (b : Bool) → nat_le v.epoch l.at ≡ b → ⊥
      never l true test =
          let after : v.epoch ≤ l.at = grind (arith, nat_tests, test) in
          let born : born_at c t.node l.at ≤ v.epoch = subst (λ (x : ℕ). x ≤ v.epoch) (sym l.lives.born) early in
          let lives = lives_go_on_law c t.node l.at v.epoch acts.cluster l.lives.live born after in
          let bad : true ≡ false = sym lives.live ∙ (live_of t.node ∙ off) in
          absurd (cc)
      never l false test =
          let ahead : l.at ≤ v.epoch = grind (arith, nat_tests, test) in
          let falls = eras_never_fall_law c q l.at v.epoch acts.cluster ahead i.made in
          let era = l.era in
          let has = i.has in
          omega (arith, falls, era, has, later)

      of : (a.listed t f ≡ None) ⊎ IsOfLife c q t f → a.listed t f ≡ None
      of (inl none) = none
      of (inr l) = absurd (never l (nat_le v.epoch l.at) refl)

  off_of : (m : ℕ) → gone m ≡ true → is_live v.live m ≡ false
  off_of m there = not_so (is_live v.live m) (both_parts (before m) (not (is_live v.live m)) there).1

  early_of : (t : TxId) → nat_le t.born v.epoch ≡ true → t.born ≤ v.epoch
  early_of t test = grind (arith, nat_tests, test)

  are : AreDead a a.era dead gone
  are =
      record {
        named = λ t is. (both_parts (gone t.node) (nat_le t.born v.epoch) is).0;
        closed = λ t is. let parts = both_parts (gone t.node) (nat_le t.born v.epoch) is in closed_of t (off_of t.node parts.0) (early_of t parts.1);
        unlisted = λ t is. let parts = both_parts (gone t.node) (nat_le t.born v.epoch) is in unlisted_of t (off_of t.node parts.0) (early_of t parts.1);
      }

  -- whether a node is another one than the acting one
  other_of : (m : ℕ) → is_live v.live m ≡ false → (m == n) ≡ false
  other_of m off = by (m == n) refl
    where
      by : (b : Bool) → (m == n) ≡ b → b ≡ false
      by true test = let bad : false ≡ true = sym off ∙ (ap (is_live v.live) (eqb-true m n test) ∙ i.listed) in absurd (cc)
      by false test = refl

  no_shelf : (m : ℕ) → gone m ≡ true → IsShelf (a.right m) → ⊥
  no_shelf m there shelf = by (node_at c m) refl
    where
      by : (o : Option NodeState) → node_at c m ≡ o → ⊥
      by None down = down_have_no_shelf_law c e n p m w a acts is (other_of m (off_of m there)) down shelf
      by (Some s) up =
          let later = later_life c n acts v i.there i.made m s up (off_of m there) in
          let life = known.shelves m s up shelf in
          omega (arith, later, life)

  module _ (inside : (m : ℕ) → before m ≡ true → m < k) where
    gone_there : (m : ℕ) → is_live v.live m ≡ false → before m ≡ true → gone_below k gone m ≡ true
    gone_there m off was =
        let less = inside m was in
        let low : ltb m k ≡ true = grind (arith, nat_tests, less) in
        (λ j. low j && (was j && not (off j)))

    fits : FitsServed v.live a (dead_below k dead) (gone_below k gone)
    fits =
        record {
          spared = λ t on. last_false (ltb t.node k) (dead t) (live_spared (before t.node) (is_live v.live t.node) (nat_le t.born v.epoch) on);
          listed = λ t off alive. of t off alive (known.listed t);
          rights = λ m off left. by m off left (before m) refl;
        }
      where
        of : (t : TxId) → is_live v.live t.node ≡ false → dead_below k dead t ≡ false → (a.listed t a.era ≡ None) ⊎ ((before t.node ≡ true) × (t.born ≤ v.epoch)) → a.listed t a.era ≡ None
        of t off alive (inl none) = none
        of t off alive (inr both) =
            let there = both_parts (ltb t.node k) (gone t.node) (gone_there t.node off both.0) in
            let born = both.1 in
            let early : nat_le t.born v.epoch ≡ true = grind (arith, nat_tests, born) in
            let so : dead_below k dead t ≡ true = (λ j. there.0 j && (there.1 j && early j)) in
            let bad : true ≡ false = sym so ∙ alive in
            absurd (cc)

        by : (m : ℕ) → is_live v.live m ≡ false → gone_below k gone m ≡ false → (b : Bool) → before m ≡ b → a.right m ≡ NoRight
        by m off left true was = let bad : true ≡ false = sym (gone_there m off was) ∙ left in absurd (cc)
        by m off left false was = known.rights m was

    spared : AreSpared c e n p w a a.era (dead_below k dead) (gone_below k gone)
    spared from to =
        all_weak (SparedIn (land c e n w) q a a.era (dead_in v) gone from to) (SparedIn (land c e n w) q a a.era (dead_below k dead) (gone_below k gone) from to)
        (λ m old.
        spared_weaker a a.era (dead_in v) (dead_below k dead) gone (gone_below k gone) from to (era_at (land c e n w) q m.epoch) m.body
        (λ t alive. last_false (ltb t.node k) (dead t) (less_dead (before t.node) (is_live v.live t.node) (nat_le t.born v.epoch) alive))
        (λ m there. last_false (ltb m k) (gone m) there) old)
        (coming (land c e n w) p from to) (coming_is_spared_law c e n p v gone w a acts is i from to)

pub known_is_clear_law : KnownIsClear
known_is_clear_law c e n p k v before lost w a acts is i known among inside =
    record {
      are = are c e n p k v before w a acts is i known;
      shelves = no_shelf c e n p k v before w a acts is i known;
      readers = λ m upto readers there right t home named.
          let off : is_live v.live t.node ≡ false = ap (is_live v.live) home ∙ off_of c e n p k v before w a acts is i known m there in
          let early = known.readers m upto readers right t named in
          (closed_of c e n p k v before w a acts is i known t off early, unlisted_of c e n p k v before w a acts is i known t off early);
      lost_too = among;
      fits = fits c e n p k v before w a acts is i known inside;
      spared = spared c e n p k v before w a acts is i known inside;
    }
