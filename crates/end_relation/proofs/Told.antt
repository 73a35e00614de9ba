-- The owners of all pages are told the end of a transaction, one after the other.
use Rattle.std.proofs.Common.{◌≡◌, ◌≢◌, refl, sym, ap, subst, ◌∙◌, ℕ, ◌<◌, ◌==◌, ◌&&◌, Bool, true, false, List, [], ◌∷◌, Option, Some, None, is_some, eqb-true}
use Rattle.std.specs.List.{AllByRecursion}
use Rattle.pcl_base.specs.Limits.{Sizes}
use Rattle.pcl_base.specs.declared.event.Event.{Event}
use Rattle.pcl_base.specs.declared.lock.Kind.{Kind}
use Rattle.pcl_base.specs.declared.lock.Kind.TheVariants as kind
use Rattle.pcl_base.specs.declared.message.Message.{Message}
use Rattle.pcl_base.specs.declared.tx.TxId.{TxId}
use Rattle.text_rules.specs.MessageBytes.{IsTx}
use Rattle.node_rules.specs.EndRule.{Ending}
use Rattle.node_rules.specs.LockTable.{LockTable}
use Rattle.node_rules.specs.NodeState.{NodeState, partition, table_of, page_owner}
use Rattle.node_rules.specs.OwnerRule.{send_release, tell_in, tell_end}
use Rattle.node_rules.specs.Work.{Work, Goes, for_each}
use Rattle.node_laws.proofs.Bases.{base_of}
use Rattle.node_laws.proofs.Ends.{IsEnding}
use Rattle.node_laws.proofs.Works.{Base}
use Rattle.cluster_rules.specs.Clusters.{Cluster, node_at}
use Rattle.cluster_laws.specs.Era.Eras.{era_at}
use Rattle.cluster_laws.specs.Link.Coming.{coming}
use Rattle.cluster_laws.specs.Link.EpochLaws.{IsInOrder}
use Rattle.cluster_laws.specs.Link.Orders.{is_report, how_many}
use Rattle.page_protocol.specs.State.{Page}
use Rattle.page_protocol.specs.Steps.{here}
use Rattle.page_relation.specs.Messages.{is_release}
use Rattle.page_relation.specs.Work.Events.{IsEntered}
use Rattle.page_relation.specs.Work.Keeping.{IsWorkOf, Leads, Keeps}
use Rattle.page_relation.specs.Work.Landing.{Acts}
use Rattle.page_relation.proofs.WorkParts.Framing.{unseen_self}
use Rattle.page_relation.proofs.WorkParts.Kept.{two_keep}
use Rattle.page_relation.proofs.WorkParts.Quiet.{sends_elsewhere_law}
use Rattle.page_relation.proofs.WorkParts.Sending.{send_is_kept_law}
use Rattle.end_relation.specs.Midway.{IsMidway, IsUntold, OwnEndsKeep}
use Rattle.end_relation.specs.Owing.{OwesEnd, IsOwed, IsAbsent, SameComing}
use Rattle.end_relation.proofs.Telling.{IsTelling, release, released, released_midway, may_release, unserved, unseen_tells, own_owed, done, stays, is_owned}

-- the end of t was told by no message before the step, and no report that counts is of the era that its node has reached
pub record IsUntoldBefore (c : Cluster) (n p : ℕ) (t : TxId) (reached : ℕ) : Type 0 where
  pub unreleased : (y z : ℕ) → how_many (is_release t) (coming c p y z) ≡ 0
  pub unreported : (y z : ℕ) → AllByRecursion (λ (m : Message). is_report m.body ≡ true → y ≡ t.node → era_at c (partition c.config p) m.epoch ≢ reached) (coming c p y z)

module _ (c : Cluster) (e : Event) (n p : ℕ) (s : NodeState) (t : TxId) (acts : Acts c n) (order : IsInOrder c) (up : node_at c n ≡ Some s) (tx : IsTx s.home.config t)
    (unreleased : (y z : ℕ) → how_many (is_release t) (coming c p y z) ≡ 0)
    (unreported : (w : Work) (a : Page) (tb : LockTable) → IsMidway (base_of s) c e n w → IsWorkOf c e n p w a → table_of w.node p ≡ Some tb
    → (y z : ℕ) → AllByRecursion (λ (m : Message). is_report m.body ≡ true → y ≡ t.node → era_at c (partition c.config p) m.epoch ≢ a.reached n) (coming c p y z))
    (own : OwnEndsKeep (base_of s) c e n p t) where
  abbrev b : Base
  b = base_of s

  abbrev Known : List Ending → Work → Page → Type 0
  Known es = IsTelling b c e n p t es

  -- a page of another owner
  module _ (x : Ending) (es : List Ending) (is : IsEnding b.config x) (w : Work) (a : Page) (related : IsWorkOf c e n p w a) (known : Known (x ∷ es) w a) (none : table_of w.node x.page ≡ None) where
    kept : (x.page == p) ≡ false → (k : Kind) → Leads c e n p (Known es) a (send_release k t x w)
    kept other kind.Registered =
        unseen_tells c e n p s t acts order up tx unreleased x es w (released c e n p s t acts order up tx unreleased x w) a other
        (sends_elsewhere_law c e n p (page_owner w.node x.page) (release c e n p s t acts order up tx unreleased x) w other)
        (released_midway c e n p s t acts order up tx unreleased x w is none known.midway) known related
    kept other kind.Own = unseen_tells c e n p s t acts order up tx unreleased x es w w a other (unseen_self c e n p w) known.midway known related
    kept other kind.Right = unseen_tells c e n p s t acts order up tx unreleased x es w w a other (unseen_self c e n p w) known.midway known related

    here_none : x.page ≡ p → table_of w.node p ≡ None
    here_none at = subst (λ (q : ℕ). table_of w.node q ≡ None) at none

    off : OwesEnd n t x.change a → x.page ≡ p → IsEntered a
    off owes at =
        owes.entered
        (both_false (is_some x.change) (a.served && n == a.owner) (unserved c e n p s t acts order up tx unreleased w a (here_none at) known.midway related))
      where
        both_false : (u v : Bool) → v ≡ false → (u && v) ≡ false
        both_false true v is = is
        both_false false v is = refl

    told : x.page ≡ p → (k : Kind) → IsOwed (b.has (partition b.config p)) n t k x.change a → IsAbsent p es → SameComing c e n p w → Leads c e n p (Known es) a (send_release k t x w)
    told at kind.Right owed absent same = stays c e n p s t acts order up tx unreleased es w a absent known.midway owed.1 related
    told at kind.Own owed absent same = stays c e n p s t acts order up tx unreleased es w a absent known.midway (off owed at) related
    told at kind.Registered owed absent same =
        stays c e n p s t acts order up tx unreleased es (released c e n p s t acts order up tx unreleased x w) a absent
        (released_midway c e n p s t acts order up tx unreleased x w is none known.midway) (off owed at)
        (send_is_kept_law c e n p (page_owner w.node x.page) (release c e n p s t acts order up tx unreleased x) w a acts
        (may_release c e n p s t acts order up tx unreleased x w a at known.midway owed same none related) related)

    told_release : Leads c e n p (Known es) a (send_release x.kind t x w)
    told_release = by (x.page == p) refl
      where
        by : (d : Bool) → (x.page == p) ≡ d → Leads c e n p (Known es) a (send_release x.kind t x w)
        by true same =
            let owed = own_owed c e n p s t acts order up tx unreleased x es w a same known in
            told (eqb-true x.page p same) x.kind owed.0 owed.1 owed.2
        by false other = kept other x.kind

  -- a page with a table of the node's own
  pub own_owes : (x : Ending) (w : Work) (a : Page) → (k : Kind) → (b.has (partition b.config p) ≡ true) → IsOwed (b.has (partition b.config p)) n t k x.change a → OwesEnd n t x.change a
  own_owes x w a kind.Right has owed = absurd (let bad : true ≡ false = sym has ∙ owed.0 in cc)
  own_owes x w a kind.Own has owed = owed
  own_owes x w a kind.Registered has owed = owed

  pub untold : (w : Work) (a : Page) (tb : LockTable) → IsMidway b c e n w → IsWorkOf c e n p w a → table_of w.node p ≡ Some tb → SameComing c e n p w → IsUntold c e n p t w a
  untold w a tb m related there same =
      record {
        unreleased = λ y z. ap (how_many (is_release t)) (same y z) ∙ unreleased y z;
        unreported = λ y z.
            subst (AllByRecursion (λ (k : Message). is_report k.body ≡ true → y ≡ t.node → era_at c (partition c.config p) k.epoch ≢ a.reached n)) (sym (same y z)) (unreported w a tb m related there y z);
      }

  -- one end
  pub tells_one : (x : Ending) (es : List Ending) → IsEnding b.config x → Keeps c e n p (Known (x ∷ es)) (tell_end t x) (Known es)
  unfolding tell_end
  tells_one x es is blank w y a reached related known goes = by (table_of w.node x.page) refl goes
    where
      low : x.page < c.config.pages
      low = subst (λ (k : Sizes). x.page < k.pages) known.midway.config is.page

      own_page : (tb : LockTable) → table_of w.node x.page ≡ Some tb → tell_end t x w ≡ Goes y → (d : Bool) → (x.page == p) ≡ d → Leads c e n p (Known es) a y
      own_page tb there told true same =
          let owed = own_owed c e n p s t acts order up tx unreleased x es w a same known in
          let at : x.page ≡ p = eqb-true x.page p same in
          let table : table_of w.node p ≡ Some tb = subst (λ (q : ℕ). table_of w.node q ≡ Some tb) at there in
          let to =
          own.own x tb at blank w y a reached related
          (record {
            midway = known.midway;
            owes = own_owes x w a x.kind (is_owned c e n p s t acts order up tx unreleased p w tb known.midway table) owed.0;
            untold = untold w a tb known.midway related table owed.2;
            table = table;
          }) told in
          record { page = to.page; run = to.run; related = to.related; known = done c e n p s t acts order up tx unreleased es y to.page owed.1 to.known.0 to.known.1 }
      own_page tb there told false other =
          let seen = own.elsewhere x tb w y other low known.midway there told in
          unseen_tells c e n p s t acts order up tx unreleased x es w y a other seen.unseen seen.midway known related

      by : (o : Option LockTable) → table_of w.node x.page ≡ o → tell_in t x o w ≡ Goes y → Leads c e n p (Known es) a y
      by None none released_to =
          let same : send_release x.kind t x w ≡ y = cc in
          subst (λ (z : Work). Leads c e n p (Known es) a z) same (told_release x es is w a related known none)
      by (Some tb) there told = own_page tb there goes (x.page == p) refl

  -- all of them
  nothing_left : Keeps c e n p (Known []) (for_each (tell_end t) []) (λ w a. IsEntered a)
  unfolding for_each
  nothing_left blank w y a reached related known goes =
      let same : w ≡ y = cc in
      subst (λ (z : Work). Leads c e n p (λ v k. IsEntered k) a z) same (record { page = a; run = here; related = related; known = known.owed })

  pub tells_all : (es : List Ending) → AllByRecursion (IsEnding b.config) es → Keeps c e n p (Known es) (for_each (tell_end t) es) (λ w a. IsEntered a)
  unfolding for_each
  tells_all [] all = nothing_left
  tells_all (x ∷ es) all = two_keep c e n p (Known (x ∷ es)) (Known es) (λ w a. IsEntered a) (tell_end t x) (for_each (tell_end t) es) (tells_one x es all.0) (tells_all es all.1)
