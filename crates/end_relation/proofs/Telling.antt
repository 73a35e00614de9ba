-- The owner of one page is told the end of a transaction.
use Rattle.std.proofs.Common.{◌≡◌, refl, sym, ap, subst, ◌∙◌, ℕ, ◌<◌, ◌≤◌, ◌==◌, ◌&&◌, Bool, true, false, List, [], ◌∷◌, Option, Some, None, is_some, slice_index_or, arith, mod-lt}
use Rattle.std.specs.List.{AllByRecursion}
use Rattle.std.proofs.lemmas.Bool.Decides.{nat_tests}
use Rattle.pcl_base.specs.Limits.{Sizes}
use Rattle.pcl_base.specs.declared.event.Event.{Event}
use Rattle.pcl_base.specs.declared.message.Body.{Body}
use Rattle.pcl_base.specs.declared.message.Body.TheVariants as body
use Rattle.pcl_base.specs.declared.tx.TxId.{TxId}
use Rattle.text_rules.specs.MessageBytes.{IsTx}
use Rattle.run_rules.specs.Views.{View}
use Rattle.node_rules.specs.EndRule.{Ending}
use Rattle.node_rules.specs.LockTable.{LockTable}
use Rattle.node_rules.specs.NodeState.{NodeState, Outgoing, partition, table_at, table_of, page_owner, is_serving}
use Rattle.node_rules.specs.Work.{Work, send}
use Rattle.node_laws.specs.Nodes.{IsOther}
use Rattle.node_laws.proofs.Bases.{base_of, base_sound, page_other}
use Rattle.node_laws.proofs.Ends.{IsEnding}
use Rattle.node_laws.proofs.Lists.{all_weaker}
use Rattle.node_laws.proofs.Works.{Base, IsSent}
use Rattle.home_laws.proofs.Tests.{tx_equal}
use Rattle.cluster_rules.specs.Clusters.{Cluster, node_at, view_of_epoch, version_of_change}
use Rattle.cluster_laws.specs.Sound.{IsMember}
use Rattle.cluster_laws.proofs.Steps.{up_is_member_law}
use Rattle.cluster_laws.specs.Era.Eras.{era_at, era_in}
use Rattle.cluster_laws.specs.Link.Coming.{coming}
use Rattle.cluster_laws.specs.Link.EpochLaws.{IsInOrder}
use Rattle.cluster_laws.specs.Link.Orders.{how_many}
use Rattle.page_protocol.specs.State.{Ended, Page}
use Rattle.page_protocol.specs.Steps.{here}
use Rattle.page_relation.specs.Messages.{is_release}
use Rattle.page_relation.specs.Tables.{ReachedBy, ReachedIn}
use Rattle.page_relation.specs.Work.Events.{IsEntered}
use Rattle.page_relation.specs.Work.Keeping.{IsWorkOf, Leads}
use Rattle.page_relation.specs.Work.Landing.{land, Acts}
use Rattle.page_relation.specs.Work.Sends.{MaySend}
use Rattle.page_relation.specs.Work.Unseen.{IsUnseen}
use Rattle.page_relation.proofs.WorkParts.Comings.{coming_same}
use Rattle.page_relation.proofs.WorkParts.Framing.{unseen_is_kept_law}
use Rattle.page_relation.proofs.WorkParts.Landed.{landing_is_seen_law}
use Rattle.page_relation.proofs.WorkParts.Sending.{nothing_is_ahead_law}
use Rattle.end_relation.specs.Midway.{IsMidway}
use Rattle.end_relation.specs.Owing.{OwesEnd, IsOwed, choose, IsAbsent, AreOwed, SameComing}
use Rattle.end_relation.proofs.Midway.{send_midway}
use Rattle.end_relation.proofs.Serving.{serving_is}

-- what is known where some ends are still to be told
pub record IsTelling (b : Base) (c : Cluster) (e : Event) (n p : ℕ) (t : TxId) (es : List Ending) (w : Work) (a : Page) : Type 0 where
  pub midway : IsMidway b c e n w
  pub owed : AreOwed (SameComing c e n p w) (b.has (partition b.config p)) n t p es a

-- where no ending is of the page, nothing is owed
pub absent_owed : (Before : Type 0) (owned : Bool) (n : ℕ) (t : TxId) (p : ℕ) (es : List Ending) (a : Page) → IsAbsent p es → IsEntered a → AreOwed Before owned n t p es a
absent_owed Before owned n t p [] a none is = is
absent_owed Before owned n t p (x ∷ es) a none is =
    subst (λ (d : Bool). choose d (IsOwed owned n t x.kind x.change a × IsAbsent p es × Before) (AreOwed Before owned n t p es a)) (sym none.0) (absent_owed Before owned n t p es a none.1 is)

-- what is owed is so as long as what holds besides does
pub owed_on : (Before After : Type 0) (owned : Bool) (n : ℕ) (t : TxId) (p : ℕ) (es : List Ending) (a : Page) → (Before → After) → AreOwed Before owned n t p es a → AreOwed After owned n t p es a
owed_on Before After owned n t p [] a f is = is
owed_on Before After owned n t p (x ∷ es) a f is = by (x.page == p) (owed_on Before After owned n t p es a f) is
  where
    by : (d : Bool) → (AreOwed Before owned n t p es a → AreOwed After owned n t p es a) → choose d (IsOwed owned n t x.kind x.change a × IsAbsent p es × Before) (AreOwed Before owned n t p es a)
        → choose d (IsOwed owned n t x.kind x.change a × IsAbsent p es × After) (AreOwed After owned n t p es a)
    by true rest is = (is.0, is.1, f is.2)
    by false rest is = rest is

module _ (c : Cluster) (e : Event) (n p : ℕ) (s : NodeState) (t : TxId) (acts : Acts c n) (order : IsInOrder c) (up : node_at c n ≡ Some s) (tx : IsTx s.home.config t)
    (unreleased : (y z : ℕ) → how_many (is_release t) (coming c p y z) ≡ 0) where
  abbrev pub b : Base
  b = base_of s

  member : IsMember c.config c.views n s
  member = (up_is_member_law c n s acts.cluster up).1

  pub partition_low : (q : ℕ) → partition b.config q < b.config.nodes
  partition_low q = mod-lt q (let some = member.sound.limits.some_nodes in omega (arith, some))

  -- a page without a table isn't the node's own
  pub not_owned : (q : ℕ) (w : Work) → IsMidway b c e n w → table_of w.node q ≡ None → b.has (partition b.config q) ≡ false
  not_owned q w m none =
      sym (m.good.tables.owned (partition b.config q) (partition_low q))
      ∙ ap (λ (k : Sizes). is_some (slice_index_or w.node.tables (partition k q) None)) (sym m.good.home.config)
      ∙ ap (λ (o : Option LockTable). is_some o) none

  -- a page with one is
  pub is_owned : (q : ℕ) (w : Work) (tb : LockTable) → IsMidway b c e n w → table_of w.node q ≡ Some tb → b.has (partition b.config q) ≡ true
  is_owned q w tb m some =
      sym (m.good.tables.owned (partition b.config q) (partition_low q))
      ∙ ap (λ (k : Sizes). is_some (slice_index_or w.node.tables (partition k q) None)) (sym m.good.home.config)
      ∙ ap (λ (o : Option LockTable). is_some o) some

  other_owner : (q : ℕ) (w : Work) → IsMidway b c e n w → table_of w.node q ≡ None → IsOther b.config b.number (page_owner w.node q)
  other_owner q w m none = page_other b m.view (base_sound s member.sound) m.in_view w m.good q (partition_low q) (not_owned q w m none)

  -- the release of an end
  abbrev pub release : Ending → Body
  release x = body.Release (record { tx = t; page = x.page; change = x.change })

  abbrev pub released : Ending → Work → Work
  released x w = send (page_owner w.node x.page) (release x) w

  pub released_midway : (x : Ending) (w : Work) → IsEnding b.config x → table_of w.node x.page ≡ None → IsMidway b c e n w → IsMidway b c e n (released x w)
  released_midway x w is none m = send_midway b c e n (page_owner w.node x.page) (release x) w (other_owner x.page w m none) (tx, is.page, is.change) m

  -- the era that the node has reached
  pub reached_era : (w : Work) (a : Page) → IsMidway b c e n w → IsWorkOf c e n p w a → a.reached n ≡ era_at c (partition c.config p) w.node.epoch
  unfolding land era_at
  reached_era w a m r =
      (subst (λ (o : Option View). ReachedBy (land c e n w) (partition c.config p) a.era w.node o (a.reached n)) (m.good.view ∙ m.in_view)
      (subst (λ (o : Option NodeState). ReachedIn (land c e n w) (partition c.config p) a.era o (a.reached n)) (landing_is_seen_law c e n w acts).node (r.nodes.eras n))).0
      ∙ sym (ap (λ (o : Option View). era_in o (partition c.config p)) (ap (λ k. view_of_epoch c.views k) m.good.epoch ∙ m.there))

  -- it may be sent
  pub may_release : (x : Ending) (w : Work) (a : Page) → x.page ≡ p → IsMidway b c e n w → OwesEnd n t x.change a → SameComing c e n p w → table_of w.node x.page ≡ None → IsWorkOf c e n p w a
      → MaySend c e n p w a (page_owner w.node x.page) (release x)
  may_release x w a at m owes same none r =
      record {
        other = apart;
        no_report = refl;
        says = λ comes. (owes.ended ∙ ap (λ (k : ℕ). Ended (version_of_change x.change) k) (reached_era w a m r), owes.image);
        behind = nothing_is_ahead_law c e n p to w.node.epoch s w acts order up (let same_epoch = m.good.epoch in omega (arith, same_epoch)) epochs;
        no_release = λ u k.
            let is : t ≡ u = tx_equal t u k in
            subst (λ (v : TxId). how_many (is_release v) (coming (land c e n w) p n to) ≡ 0) is (ap (how_many (is_release t)) (same n to) ∙ unreleased n to);
        no_right = λ k. absurd (cc);
        no_answer = λ k. absurd (cc);
      }
    where
      to : ℕ
      to = page_owner w.node x.page

      apart : (to == n) ≡ false
      apart =
          let differs = (other_owner x.page w m none).1 in
          let number = m.number in
          grind (arith, nat_tests, differs, number)

      epochs : AllByRecursion (λ (o : Outgoing). o.message.epoch ≤ w.node.epoch) w.sends
      epochs = all_weaker (IsSent b) (λ (o : Outgoing). o.message.epoch ≤ w.node.epoch) (λ o is. let at = is.1 in let same_epoch = m.good.epoch in omega (arith, at, same_epoch)) w.sends m.good.sends

  -- the node doesn't serve a page of which it has no table
  pub unserved : (w : Work) (a : Page) → table_of w.node p ≡ None → IsMidway b c e n w → IsWorkOf c e n p w a → (a.served && n == a.owner) ≡ false
  unfolding land
  unserved w a none m r =
      sym (serves (landing_is_seen_law c e n w acts).node)
      ∙ ap (λ (k : Sizes). is_serving (table_at w.node (partition k p))) (sym (m.good.home.config ∙ m.config)) ∙ ap is_serving none
    where
      serves : node_at (land c e n w) n ≡ Some w.node → is_serving (table_at w.node (partition c.config p)) ≡ (a.served && n == a.owner)
      serves there = serving_is (land c e n w) n p w.node a there r

  -- what is not seen of the page keeps what is known
  pub unseen_tells : (x : Ending) (es : List Ending) (w y : Work) (a : Page) → (x.page == p) ≡ false → IsUnseen c e n p w y → IsMidway b c e n y → IsTelling b c e n p t (x ∷ es) w a → IsWorkOf c e n p w a
      → Leads c e n p (λ z k. IsTelling b c e n p t es z k) a y
  unseen_tells x es w y a other unseen m is r =
      record {
        page = a;
        run = here;
        related = unseen_is_kept_law c e n p w y a acts unseen r;
        known =
            record {
              midway = m;
              owed =
                  owed_on (SameComing c e n p w) (SameComing c e n p y) (b.has (partition b.config p)) n t p es a
                  (λ same j k. coming_same c e n p acts w y unseen.standing unseen.taken unseen.sends j k ∙ same j k)
                  (subst (λ (d : Bool). choose d (IsOwed (b.has (partition b.config p)) n t x.kind x.change a × IsAbsent p es × SameComing c e n p w) (AreOwed (SameComing c e n p w) (b.has (partition b.config p)) n t p es a)) other is.owed);
            };
      }

  -- what is owed of the page itself
  pub own_owed : (x : Ending) (es : List Ending) (w : Work) (a : Page) → (x.page == p) ≡ true → IsTelling b c e n p t (x ∷ es) w a
      → IsOwed (b.has (partition b.config p)) n t x.kind x.change a × IsAbsent p es × SameComing c e n p w
  own_owed x es w a same is =
      subst (λ (d : Bool). choose d (IsOwed (b.has (partition b.config p)) n t x.kind x.change a × IsAbsent p es × SameComing c e n p w) (AreOwed (SameComing c e n p w) (b.has (partition b.config p)) n t p es a)) same is.owed

  -- nothing more is owed
  pub done : (es : List Ending) (y : Work) (a : Page) → IsAbsent p es → IsMidway b c e n y → IsEntered a → IsTelling b c e n p t es y a
  done es y a none m in_entry = record { midway = m; owed = absent_owed (SameComing c e n p y) (b.has (partition b.config p)) n t p es a none in_entry }

  pub stays : (es : List Ending) (w : Work) (a : Page) → IsAbsent p es → IsMidway b c e n w → IsEntered a → IsWorkOf c e n p w a → Leads c e n p (λ z k. IsTelling b c e n p t es z k) a w
  stays es w a none m in_entry r = record { page = a; run = here; related = r; known = done es w a none m in_entry }
