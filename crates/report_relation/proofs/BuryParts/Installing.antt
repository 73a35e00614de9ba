-- What is known of the work of an install before a page's turn, and with the new table.
use Rattle.std.proofs.Common.{◌≡◌, refl, ap, sym, subst, ◌∙◌, ℕ, ◌<◌, ◌≤◌, ◌==◌, not, Bool, true, false, List, [], ◌∷◌, Option, Some, arith, eqb-true}
use Rattle.std.specs.List.{AllByRecursion}
use Rattle.std.specs.Prelude.{IfSome}
use Rattle.pcl_base.specs.declared.event.Event.{Event}
use Rattle.pcl_base.specs.declared.message.Body.{Body}
use Rattle.pcl_base.specs.declared.message.Body.TheVariants as body
use Rattle.pcl_base.specs.declared.message.Message.{Message}
use Rattle.pcl_base.specs.declared.message.ReturnRight.{ReturnRight}
use Rattle.run_rules.specs.Views.{View, since_of}
use Rattle.node_rules.specs.Judging.{judge}
use Rattle.node_rules.specs.LockRule.{LockEntry, has_right, mode_of}
use Rattle.node_rules.specs.LockTable.{LockTable}
use Rattle.node_rules.specs.NodeState.{NodeState, partition, table_at}
use Rattle.node_rules.specs.Work.{Work}
use Rattle.node_laws.specs.Nodes.{IsViewOf}
use Rattle.cluster_rules.specs.Clusters.{Cluster, node_at, view_of_epoch}
use Rattle.cluster_rules.specs.Links.{link_at}
use Rattle.cluster_laws.specs.Sound.{IsMember}
use Rattle.cluster_laws.proofs.Steps.{up_is_member_law}
use Rattle.cluster_laws.specs.Era.Counts.{counts_at, counts_in, is_dropped}
use Rattle.cluster_laws.specs.Era.Eras.{life_of}
use Rattle.cluster_laws.proofs.EraParts.Counted.{counted_before_law}
use Rattle.cluster_laws.proofs.EraParts.Epochs.{later_epochs_law}
use Rattle.cluster_laws.specs.Link.Coming.{Stands, coming, is_coming, speaks_of}
use Rattle.page_relation.specs.Looks.{shelf_in}
use Rattle.page_relation.specs.Messages.{is_answer}
use Rattle.page_relation.specs.Together.{IsParty}
use Rattle.page_relation.specs.Work.Landing.{land, Acts}
use Rattle.page_relation.specs.Work.Unseen.{SameEntry}
use Rattle.page_relation.proofs.WorkParts.Landed.{landing_is_seen_law}
use Rattle.page_relation.proofs.WorkParts.Nodes.{at_node}
use Rattle.report_relation.specs.Bury.Installed.{AreBornBefore, InstalledIsAwaited, InstalledIsKept, IsInstalled, ReportsAreMissing, WasKnown}
use Rattle.report_relation.specs.Bury.Kept.{AnswerIsOld, IsKept}
use Rattle.report_relation.specs.Bury.Past.{IsOwner}
use Rattle.report_relation.specs.Bury.Whole.{IsAwaited, ReadersAreBorn, UsersAreBorn}
use Rattle.report_relation.proofs.BuryParts.Awaiting.{a_report}
use Rattle.report_relation.proofs.BuryParts.KeptWorks.{whole_view}
use Rattle.report_relation.proofs.BuryParts.Links.{all_standing}
use Rattle.report_relation.proofs.BuryParts.Living.{both_parts}
use Rattle.report_relation.proofs.BuryParts.Naming.{all_come, two_all}
use Rattle.report_relation.proofs.BuryParts.Unsent.{all_there}

-- an answer, as what it is
an_answer : (c : Cluster) (p : ℕ) (x : Body) → speaks_of c.config p x ≡ true → is_answer x ≡ true → (r : ReturnRight) × (x ≡ body.Return r) × (r.page ≡ p)
an_answer c p (body.Request r) speaks is = absurd (cc)
an_answer c p (body.Grant r) speaks is = absurd (cc)
an_answer c p (body.Release r) speaks is = absurd (cc)
an_answer c p (body.Revoke r) speaks is = absurd (cc)
an_answer c p (body.Return r) speaks is = (r, refl, eqb-true r.page p speaks)
an_answer c p (body.Report r) speaks is = absurd (cc)

module _ (c : Cluster) (e : Event) (n p : ℕ) (s : NodeState) (v : View) (w : Work) (acts : Acts c n) (i : IsInstalled c e n p s v w) where
  abbrev q : ℕ
  q = partition c.config p

  on_links : (P : Message → Type 0) (from to : ℕ) → AllByRecursion P (link_at c.links from to) → AllByRecursion P (coming (land c e n w) p from to)
  on_links P from to all = all_there c e n p w acts i.unheard i.none P from to all

  -- the same where it is known that they come
  on_coming : (P : Message → Type 0) (from to : ℕ)
      → ((m : Message) → Stands (link_at c.links from to) m → is_coming c.config p from (node_at (land c e n w) to) m ≡ true → P m) → AllByRecursion P (coming (land c e n w) p from to)
  on_coming P from to each =
      two_all (λ (m : Message). is_coming c.config p from (node_at (land c e n w) to) m ≡ true) (λ (m : Message). is_coming c.config p from (node_at (land c e n w) to) m ≡ true → P m) P
      (λ m comes f. f comes) (coming (land c e n w) p from to) (all_come c e n p from to w)
      (on_links (λ (m : Message). is_coming c.config p from (node_at (land c e n w) to) m ≡ true → P m) from to
      (all_standing (λ (m : Message). is_coming c.config p from (node_at (land c e n w) to) m ≡ true → P m) (link_at c.links from to) each))

  pub owner_at_install : IsOwner c e n p v w
  owner_at_install =
      record {
        there = i.there;
        made = i.made;
        number = i.number;
        view = i.view;
        listed = i.listed;
        born = i.born;
        owner = i.owner;
        parties = λ from to. on_links (IsParty c from to) from to (i.parties from to);
      }

  member : IsMember c.config c.views n s
  member = (up_is_member_law c n s acts.cluster i.up).1

  module _ (epoch : ℕ) (known : AreBornBefore c n p epoch) where
    pub users_at_install : UsersAreBorn c e n p w epoch
    users_at_install u used = known.users u (λ none. used (i.told u ∙ none))

    pub readers_at_install : ReadersAreBorn c e n p w epoch
    readers_at_install m x up shelf = by (m == n) refl
      where
        by : (b : Bool) → (m == n) ≡ b → life_of x < epoch
        by true test =
            let same : m ≡ n = eqb-true m n test in
            let both : Some w.node ≡ Some x = sym (landing_is_seen_law c e n w acts).node ∙ subst (λ (k : ℕ). node_at (land c e n w) k ≡ Some x) same up in
            let node : w.node ≡ x = cc both in
            let was = i.shelf (λ none. shelf (sym (ap (λ (k : NodeState). shelf_in (Some k) p) node) ∙ none)) in
            subst (λ (k : NodeState). life_of k < epoch) node (subst (λ (k : ℕ). k < epoch) (sym was.1) (known.readers n s i.up was.0))
        by false other = known.readers m x (sym ((landing_is_seen_law c e n w acts).others m other) ∙ up) shelf

  behind : (to : ℕ) → AllByRecursion (λ (m : Message). m.epoch ≤ v.epoch) (coming (land c e n w) p n to)
  behind to =
      on_links (λ (m : Message). m.epoch ≤ v.epoch) n to
      (weak (link_at c.links n to) (subst (λ (o : Option NodeState). IfSome o (λ k. AllByRecursion (λ m. m.epoch ≤ k.epoch) (link_at c.links n to))) i.up (i.order.behind n to)))
    where
      weak : (ms : List Message) → AllByRecursion (λ (m : Message). m.epoch ≤ s.epoch) ms → AllByRecursion (λ (m : Message). m.epoch ≤ v.epoch) ms
      weak [] all = tt
      weak (m ∷ ms) all = (let low = all.0 in let next = i.next in omega (arith, low, next), weak ms all.1)

  -- ---- a table that is kept

  module _ (old : View) (viewed : s.view ≡ Some old) where
    old_view : IsViewOf s old
    old_view = subst (λ (o : Option View). IfSome o (IsViewOf s)) viewed member.sound.view

    pub old_there : view_of_epoch c.views old.epoch ≡ Some old
    old_there =
        subst (λ (k : ℕ). view_of_epoch c.views k ≡ Some old) (sym old_view.epoch)
        (subst (λ (o : Option View). IfSome o (λ u. view_of_epoch c.views s.epoch ≡ Some u)) viewed member.view)

    pub old_below : old.epoch ≤ v.epoch
    old_below = let same = old_view.epoch in let next = i.next in omega (arith, same, next)

    -- what counts in the new view counted in the old one
    pub counted_then : (from epoch : ℕ) → counts_at w.node (Some v) from q epoch ≡ true → counts_in (Some s) from q epoch ≡ true
    counted_then from epoch counts =
        ap (λ (o : Option View). counts_at s o from q epoch) viewed
        ∙ counted_before_law c.config s old v from q epoch (whole_view c old acts.cluster old_there)
        (later_epochs_law c old.epoch v.epoch old v acts.cluster old_below old_there i.there)
        (subst (λ (k : ℕ). not (is_dropped (judge v k from epoch q)) ≡ true) (i.number ∙ sym member.number) counts)

    pub kept_at_install : (before t : LockTable) → AreBornBefore c n p v.epoch → WasKnown c n p s old v before → table_at w.node q ≡ Some t → SameEntry p before t → IsKept c e n p old v w t
    kept_at_install before t known was at same =
        record {
          owner = owner_at_install;
          earlier = old_there;
          rises = old_below;
          there = at;
          holders = λ u holds. was.holders u (λ none. holds (ap (λ (x : LockEntry). mode_of x.holders u) same.entry ∙ none));
          rights = λ m has. was.rights m (sym (ap (λ (x : LockEntry). has_right x.rights m) same.entry) ∙ has);
          others = known.others;
          users = users_at_install v.epoch known;
          readers = readers_at_install v.epoch known;
          behind = behind;
          answers = λ from to off. on_coming (AnswerIsOld c from v.epoch) from to (answer from to);
        }
      where
        answer : (from to : ℕ) (m : Message) → Stands (link_at c.links from to) m → is_coming c.config p from (node_at (land c e n w) to) m ≡ true → AnswerIsOld c from v.epoch m
        answer from to m stands comes is =
            let one = an_answer c p m.body (both_parts (speaks_of c.config p m.body) (counts_in (node_at (land c e n w) to) from q m.epoch) comes).0 is in
            was.answers from to m one.0 stands one.1 one.2

    pub awaited_at_install : (before t : LockTable) → SameEntry p before t → ReportsAreMissing c n q s before (since_of v q) → (from : ℕ)
        → AllByRecursion (IsAwaited c n q t (since_of v q) from) (coming (land c e n w) p from n)
    awaited_at_install before t same missing from = on_coming (IsAwaited c n q t (since_of v q) from) from n each
      where
        each : (m : Message) → Stands (link_at c.links from n) m → is_coming c.config p from (node_at (land c e n w) n) m ≡ true → IsAwaited c n q t (since_of v q) from m
        each m stands comes report era =
            let parts = both_parts (speaks_of c.config p m.body) (counts_in (node_at (land c e n w) n) from q m.epoch) comes in
            let one = a_report c p m.body parts.0 report in
            let counts = counted_then from m.epoch
            (subst (λ (o : Option View). counts_at w.node o from q m.epoch ≡ true) i.view (at_node c e n acts w n (λ o. counts_in o from q m.epoch ≡ true) refl parts.1)) in
            let was = missing from m one.0 stands one.1 one.2 counts era in
            (was.0, same.marks from ∙ was.1)

pub installed_is_kept_law : InstalledIsKept
installed_is_kept_law c e n p s old v w before t acts i known was at same = kept_at_install c e n p s v w acts i old was.view before t known was at same

pub installed_is_awaited_law : InstalledIsAwaited
installed_is_awaited_law c e n p s old v w before t acts i viewed same missing = awaited_at_install c e n p s v w acts i old viewed before t same missing
