-- No page that is read in settling differs.
use Rattle.std.proofs.Common.{◌≡◌, refl, ap, sym, subst, ◌∙◌, ℕ, ◌<◌, ◌==◌, Bool, true, false, List, Option, Some, None, eqb-true}
use Rattle.std.specs.List.{AllByRecursion}
use Rattle.pcl_base.specs.declared.event.Event.{Event}
use Rattle.pcl_base.specs.declared.lock.Decision.{Decision}
use Rattle.pcl_base.specs.declared.lock.Decision.TheVariants as decision
use Rattle.pcl_base.specs.declared.lock.Kind.TheVariants as kind
use Rattle.pcl_base.specs.declared.tx.Mode.{Mode}
use Rattle.pcl_base.specs.declared.tx.Mode.TheVariants.{Shared}
use Rattle.pcl_base.specs.declared.tx.TxId.{TxId}
use Rattle.node_rules.specs.AccessRule.{Granted, granted}
use Rattle.node_rules.specs.BufferRule.{bytes_of_copy, copy_at, find}
use Rattle.node_rules.specs.CopyRule.{is_version}
use Rattle.node_rules.specs.LockRule.{LockEntry, settle}
use Rattle.node_rules.specs.LockTable.{LockTable, entry_at, put_entry}
use Rattle.node_rules.specs.NodeState.{number_of, partition, table_of}
use Rattle.node_rules.specs.OpenTxs.{pending_of, waits_as}
use Rattle.node_rules.specs.OwnerRule.{carry_grant, carry_out, enter, enter_in, grant_own, settle_in, settle_page, settle_served, told, with_table}
use Rattle.node_rules.specs.Words.{pick}
use Rattle.node_rules.specs.Work.{Outcome, Goes, Differs, Work, and_so, and_then, for_each, work_of_home}
use Rattle.node_laws.specs.Nodes.{IsEntry}
use Rattle.node_laws.proofs.Entries.{IsDecision}
use Rattle.node_laws.proofs.Pages.{entry_there}
use Rattle.node_laws.proofs.Works.{Base}
use Rattle.cluster_rules.specs.Clusters.{Cluster}
use Rattle.page_laws.specs.Entry.Decisions.{IsLocked, IsGiven, Settles, rests, locks, gives, revokes}
use Rattle.cluster_laws.specs.Link.EpochLaws.{IsInOrder}
use Rattle.page_protocol.specs.State.{Image, OnDisk, Page}
use Rattle.page_protocol.specs.Steps.{Reached, here, then}
use Rattle.page_relation.specs.Work.Events.{IsEntered}
use Rattle.page_relation.specs.Work.Keeping.{IsWorkOf, Leads}
use Rattle.page_relation.specs.Work.Landing.{Acts}
use Rattle.page_relation.proofs.WorkParts.Kept.{reached_on}
use Rattle.settle_relation.specs.Grant.Carrying.{HasOwnImage}
use Rattle.settle_relation.proofs.GrantParts.Accepting.{own_grant_goes_law}
use Rattle.settle_relation.specs.Deciding.{rewound}
use Rattle.settle_relation.proofs.Carrying.{entry_midway}
use Rattle.settle_relation.proofs.Decisions.{IsSettling, at_version}
use Rattle.settle_relation.proofs.Midway.{IsMidway}
use Rattle.settle_relation.proofs.OwnGrants as own
use Rattle.settle_relation.proofs.Turns.{IsBetween, before, decisions, given_step, locked_step, number, revoked_step, well}

-- one of two differs
differs_in : {X : Type 0} (o : Outcome X) (f : X → Outcome X) (k expected found : ℕ) → and_then o f ≡ Differs k expected found
    → ((k expected found : ℕ) → o ≡ Differs k expected found → ⊥) → ((x : X) → o ≡ Goes x → f x ≡ Differs k expected found → ⊥) → ⊥
differs_in (Goes x) f k expected found is first rest = rest x refl is
differs_in (Differs q d g) f k expected found is first rest = first q d g refl

-- the word of an own image is that of the own copy
own_image : (v entry : ℕ) (o : Option ℕ) (bytes image : List ℕ) → v ≡ entry → pick (is_version o v) (Image image) OnDisk ≡ Image bytes → o ≡ Some entry
own_image v entry None bytes image same is = absurd (cc)
own_image v entry (Some k) bytes image same is = by (k == v) refl is
  where
    by : (d : Bool) → (k == v) ≡ d → pick d (Image image) OnDisk ≡ Image bytes → Some k ≡ Some entry
    by true at word = ap Some (eqb-true k v at ∙ same)
    by false at word = absurd (cc)

module _ (b : Base) (c : Cluster) (e : Event) (n p : ℕ) (acts : Acts c n) (order : IsInOrder c) (tb ub : LockTable) (on : tb.serving ≡ true) (blank : List ℕ) (low : p < c.config.pages) where
  abbrev q : ℕ
  q = partition c.config p

  module _ (v : ℕ) (x : LockEntry) (y : Work) (a : Page) (s : IsSettling b c e n p acts order tb ub on blank v x y a) where
    own_agrees : (tx : TxId) (m : Mode) (have : Option ℕ) (later : LockEntry) → IsLocked x tx m have later → tx.node ≡ n → (d : Bool) → waits_as (pending_of y.node.home.txs tx) p m ≡ d
        → (k expected found : ℕ) → grant_own d tx m p v y ≡ Differs k expected found → ⊥
    own_agrees tx m have later l mine false waits k expected found is = absurd (cc)
    own_agrees tx m have later l mine true waits k expected found is = by (granted tx (record { page = p; mode = m; kind = kind.Own }) v None (work_of_home y)) refl is
      where
        image : HasOwnImage p (own.g b c e n p acts order tb ub on blank low v x y a s tx m have later l mine) None (rewound q tb p later y)
        image bytes none word = own_image v a.entry (find y.node.home.pool p) bytes (bytes_of_copy (copy_at y.node.home.pool p)) (at_version b c e n p acts order tb ub on blank v x y a s) word

        carried : (r f g : ℕ) → granted tx (record { page = p; mode = m; kind = kind.Own }) v None (work_of_home y) ≡ Differs r f g
            → grant_own true tx m p a.entry (rewound q tb p later y) ≡ Differs r f g
        carried r f g goes =
            ap (λ (j : ℕ). grant_own true tx m p j (rewound q tb p later y)) (sym (at_version b c e n p acts order tb ub on blank v x y a s))
            ∙ ap (λ (o : Outcome Granted). and_so o (told (rewound q tb p later y))) goes

        by : (o : Outcome Granted) → granted tx (record { page = p; mode = m; kind = kind.Own }) v None (work_of_home y) ≡ o → and_so o (told y) ≡ Differs k expected found → ⊥
        by (Goes o) goes done = absurd (cc)
        by (Differs r f g) goes done =
            own_grant_goes_law c e n p (own.g b c e n p acts order tb ub on blank low v x y a s tx m have later l mine) blank (rewound q tb p later y)
            (own.given b c e n p acts order tb ub on blank low v x y a s tx m have later l mine) r f g acts low
            (reached_on blank a (own.given b c e n p acts order tb ub on blank low v x y a s tx m have later l mine) s.reached
            (then here (own.is b c e n p acts order tb ub on blank low v x y a s tx m have later l mine).step))
            (own.may b c e n p acts order tb ub on blank low v x y a s tx m have later l mine waits) image
            (own.with_it b c e n p acts order tb ub on blank low v x y a s tx m have later l mine) (carried r f g goes)

    locked_agrees : (tx : TxId) (m : Mode) (have : Option ℕ) (later : LockEntry) → IsLocked x tx m have later → (k expected found : ℕ)
        → carry_out p v (decision.Grant tx m false have) y ≡ Differs k expected found → ⊥
    unfolding carry_out
    locked_agrees tx m have later l k expected found is = by (tx.node == number_of y.node) refl is
      where
        by : (d : Bool) → (tx.node == number_of y.node) ≡ d → carry_grant d tx m false have p v y ≡ Differs k expected found → ⊥
        by true at done =
            own_agrees tx m have later l (eqb-true tx.node (number_of y.node) at ∙ number b c e n p acts order tb ub on blank low v x y a s)
            (waits_as (pending_of y.node.home.txs tx) p m) refl k expected found done
        by false at done = absurd (cc)

    given_agrees : (tx : TxId) (have : Option ℕ) (later : LockEntry) → IsGiven n x tx have later → (k expected found : ℕ)
        → carry_out p v (decision.Grant tx Shared true have) y ≡ Differs k expected found → ⊥
    unfolding carry_out
    given_agrees tx have later l k expected found is = by (tx.node == number_of y.node) refl is
      where
        by : (d : Bool) → (tx.node == number_of y.node) ≡ d → carry_grant d tx Shared true have p v y ≡ Differs k expected found → ⊥
        by true at done = absurd (l.away (eqb-true tx.node (number_of y.node) at ∙ number b c e n p acts order tb ub on blank low v x y a s))
        by false at done = absurd (cc)

    revoked_agrees : (j k expected found : ℕ) → carry_out p v (decision.Revoke j) y ≡ Differs k expected found → ⊥
    unfolding carry_out
    revoked_agrees j k expected found is = absurd (cc)

  all_agree : {x after : LockEntry} {ds : List Decision} → Settles n x ds after → (v : ℕ) (y : Work) (a : Page) → IsSettling b c e n p acts order tb ub on blank v x y a
      → AllByRecursion (IsDecision b.config b.number) ds → (k expected found : ℕ) → for_each (carry_out p v) ds y ≡ Differs k expected found → ⊥
  unfolding for_each
  all_agree (rests x) v y a s all k expected found is = absurd (cc)
  all_agree (locks x middle after tx m have ds l rest) v y a s all k expected found is =
      differs_in (carry_out p v (decision.Grant tx m false have) y) (for_each (carry_out p v) ds) k expected found is (locked_agrees v x y a s tx m have middle l)
      (λ z goes more.
      let first = locked_step b c e n p acts order tb ub on blank low v x y a s tx m have middle z l all.0 goes in
      all_agree rest v z first.page first.state all.1 k expected found more)
  all_agree (gives x middle after tx have ds l rest) v y a s all k expected found is =
      differs_in (carry_out p v (decision.Grant tx Shared true have) y) (for_each (carry_out p v) ds) k expected found is (given_agrees v x y a s tx have middle l)
      (λ z goes more.
      let first = given_step b c e n p acts order tb ub on blank low v x y a s tx have middle z l all.0 goes in
      all_agree rest v z first.page first.state all.1 k expected found more)
  all_agree (revokes x middle after j ds l rest) v y a s all k expected found is =
      differs_in (carry_out p v (decision.Revoke j) y) (for_each (carry_out p v) ds) k expected found is (revoked_agrees v x y a s j)
      (λ z goes more.
      let first = revoked_step b c e n p acts order tb ub on blank low v x y a s j middle z l all.0 goes in
      all_agree rest v z first.page first.state all.1 k expected found more)

module _ (b : Base) (c : Cluster) (e : Event) (n p : ℕ) (acts : Acts c n) (order : IsInOrder c) (low : p < c.config.pages) (blank : List ℕ) where
  -- settling a page that is related
  pub settle_agrees : (w : Work) (a : Page) → Reached blank a → IsWorkOf c e n p w a → IsBetween b c e n w a → (k expected found : ℕ) → settle_page p w ≡ Differs k expected found → ⊥
  unfolding settle_page
  settle_agrees w a reached related known k expected found is = by (table_of w.node p) refl is
    where
      of : (t : LockTable) (d : Bool) → table_of w.node p ≡ Some t → t.serving ≡ d → settle_served d p t w ≡ Differs k expected found → ⊥
      of t true there on done =
          all_agree b c e n p acts order t (put_entry t p (settle (number_of w.node) (entry_at t p)).entry) on blank low
          (decisions b c e n p acts order low blank w w a reached related known t there on) (settle (number_of w.node) (entry_at t p)).entry.version
          (with_table p (put_entry t p (settle (number_of w.node) (entry_at t p)).entry) w) a (before b c e n p acts order low blank w w a reached related known t there on)
          (well b c e n p acts order low blank w w a reached related known t there on).0 k expected found done
      of t false there on done = absurd (cc)

      by : (o : Option LockTable) → table_of w.node p ≡ o → settle_in p o w ≡ Differs k expected found → ⊥
      by None there done = absurd (cc)
      by (Some t) there done = of t t.serving there refl done

  -- an entry that is changed, where there is a table
  pub entered_agrees : (f : LockEntry → LockEntry) → ((x : LockEntry) → IsEntry b.config b.number x → IsEntry b.config b.number (f x)) → (w : Work) (a : Page) (t : LockTable) → Reached blank a
      → IsMidway b c e n w → table_of w.node p ≡ Some t → Leads c e n p (λ k d. IsEntered d) a (with_table p (put_entry t p (f (entry_at t p))) w)
      → (k expected found : ℕ) → enter f p w ≡ Differs k expected found → ⊥
  unfolding enter
  entered_agrees f each w a t reached i there first k expected found is =
      let within = subst (λ j. p < j.pages) (sym i.config) low in
      settle_agrees (with_table p (put_entry t p (f (entry_at t p))) w) first.page (reached_on blank a first.page reached first.run) first.related
      (entry_midway b c e n p within t (f (entry_at t p)) w there (each (entry_at t p) (entry_there b i.base p within t w there i.good)) i, first.known) k expected found
      (sym (ap (λ (o : Option LockTable). enter_in f p o w) there) ∙ is)

  -- and where there may be none
  pub enter_agrees : (f : LockEntry → LockEntry) → ((x : LockEntry) → IsEntry b.config b.number x → IsEntry b.config b.number (f x)) → (w : Work) (a : Page) → Reached blank a
      → IsMidway b c e n w → ((t : LockTable) → table_of w.node p ≡ Some t → Leads c e n p (λ k d. IsEntered d) a (with_table p (put_entry t p (f (entry_at t p))) w))
      → (k expected found : ℕ) → enter f p w ≡ Differs k expected found → ⊥
  unfolding enter
  enter_agrees f each w a reached i step k expected found is = by (table_of w.node p) refl is
    where
      by : (o : Option LockTable) → table_of w.node p ≡ o → enter_in f p o w ≡ Differs k expected found → ⊥
      by None there done = absurd (cc)
      by (Some t) there done = entered_agrees f each w a t reached i there (step t there) k expected found is
