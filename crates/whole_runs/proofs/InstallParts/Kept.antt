-- What is known of a partition that the node keeps.
use Rattle.std.proofs.Common.{◌≡◌, inl, inr, ap, sym, subst, ◌∙◌, ℕ, ◌<◌, ◌≤◌, true, false, List, [], ◌∷◌, Option, Some, arith, eqb-true}
use Rattle.std.specs.Prelude.{IfSome}
use Rattle.std.specs.List.{AllByRecursion}
use Rattle.pcl_base.specs.declared.event.Event.{Event}
use Rattle.pcl_base.specs.declared.message.Body.{Body}
use Rattle.pcl_base.specs.declared.message.Body.TheVariants as body
use Rattle.pcl_base.specs.declared.message.Message.{Message}
use Rattle.run_rules.specs.Views.{View, is_live, since_of}
use Rattle.node_rules.specs.LockRule.{LockEntry, has_right, mode_of}
use Rattle.node_rules.specs.InstallRule.{purge_table, purge_work}
use Rattle.node_rules.specs.LockTable.{LockTable, entry_at, marked}
use Rattle.node_rules.specs.NodeState.{NodeState, partition, table_at}
use Rattle.node_rules.specs.Work.{Work}
use Rattle.node_laws.proofs.Lists.{all_weaker}
use Rattle.cluster_rules.specs.Clusters.{Cluster, last_view, node_at}
use Rattle.cluster_rules.specs.Links.{link_at}
use Rattle.cluster_laws.specs.Sound.{IsOnLink}
use Rattle.cluster_laws.specs.Era.Counts.{counts_in}
use Rattle.cluster_laws.specs.Era.Eras.{born_at}
use Rattle.cluster_laws.proofs.EraParts.Ages.{era_is}
use Rattle.cluster_facts.specs.Known.Births.{AnswerKnown, KnownBirth}
use Rattle.cluster_laws.specs.Link.Coming.{Stands, coming, is_coming, speaks_of}
use Rattle.cluster_laws.specs.Link.Orders.{is_report}
use Rattle.page_relation.specs.Messages.{is_answer}
use Rattle.page_relation.specs.Together.{IsParty, PartiesAre}
use Rattle.settle_relation.specs.Midway.{IsMidway}
use Rattle.cluster_facts.specs.Table.Lives.{IsTableOf}
use Rattle.cluster_facts.proofs.TableParts.Standing.{holders_are_living_law, rights_are_living_law}
use Rattle.page_relation.specs.Work.Landing.{land}
use Rattle.report_relation.specs.Bury.Kept.{AnswerIsOld, IsKept}
use Rattle.report_relation.specs.Bury.Past.{HoldersLive, OthersLive}
use Rattle.report_relation.specs.Bury.Whole.{IsAwaited, IsKnown}
use Rattle.report_relation.proofs.BuryParts.Carried.{purged_is_known_law}
use Rattle.report_relation.proofs.BuryParts.Living.{both_parts}
use Rattle.install_relation.specs.Installing.{numbers_at}
use Rattle.cluster_facts.specs.Reports.Reported.{HasReport, IsReportOf}
use Rattle.whole_runs.specs.Install.Turns.{IsKeptBy, IsTurn, TurnsAreKept, TurnsArePurged}
use Rattle.whole_runs.proofs.InstallParts.Births.{early_bound, kept_bound, own_born, readers_born, users_born}
use Rattle.whole_runs.proofs.InstallParts.Coming.{all_coming, all_stand}
use Rattle.whole_runs.proofs.InstallParts.Standing.{HadTable, acts, cluster, epoch, goes_on, had_table, inside, old_epoch, old_there, owner_then, since_stays, told, unsent}

-- what is so of all, of one that stands among them
pub stands_one : (P : Message → Type 0) (ms : List Message) (m : Message) → AllByRecursion P ms → Stands ms m → P m
stands_one P [] m all at = absurd at
stands_one P (x ∷ ms) m all (inl same) = subst P same all.0
stands_one P (x ∷ ms) m all (inr at) = stands_one P ms m all.1 at

has_report : (q era : ℕ) (ms : List Message) (m : Message) → m.epoch ≡ era → IsReportOf q m.body → Stands ms m → HasReport q era ms
has_report q era [] m now is at = absurd at
has_report q era (x ∷ ms) m now is (inl same) = inl (ap (λ (y : Message). y.epoch) same ∙ now, subst (λ (y : Message). IsReportOf q y.body) (sym same) is)
has_report q era (x ∷ ms) m now is (inr at) = inr (has_report q era ms m now is at)

-- ---- who holds in tables of other nodes

pub others_live : (blank : List ℕ) (c : Cluster) (e : Event) (n p : ℕ) (s : NodeState) (v : View) (w : Work) → IsTurn blank c e n p s v w → OthersLive c n p
others_live blank c e n p s v w i m r u t other up view at x some =
    holders_are_living_law c p m r u t (cluster blank c e n p s v w i) i.facts.tables (record { up = up; view = view; table = at }) x some

module _ (blank : List ℕ) (c : Cluster) (e : Event) (n p : ℕ) (s : NodeState) (old v : View) (w : Work) (t : LockTable) (i : IsTurn blank c e n p s v w) (kept : IsKeptBy c n p v) (view : s.view ≡ Some old) (at : table_at w.node (partition c.config p) ≡ Some t) where
  abbrev q : ℕ
  q = partition c.config p

  abbrev midway : IsMidway (numbers_at s v q) c e n w
  midway = i.waits.installing.midway

  had : HadTable s p q t
  had = had_table blank c e n p s v w i t at

  of : IsTableOf c p n s old had.table
  of = record { up = i.install.handed.up; view = view; table = had.there }

  entry_same : entry_at t p ≡ entry_at had.table p
  entry_same = had.same.entry

  holders : HoldersLive old t p
  holders u some =
      holders_are_living_law c p n s old had.table (cluster blank c e n p s v w i) i.facts.tables of u
      (λ none. some (ap (λ (x : LockEntry). mode_of x.holders u) entry_same ∙ none))

  rights : (m : ℕ) → has_right (entry_at t p).rights m ≡ true → is_live old.live m ≡ true
  rights m has =
      rights_are_living_law c p n s old had.table (cluster blank c e n p s v w i) i.facts.tables of m (sym (ap (λ (x : LockEntry). has_right x.rights m) entry_same) ∙ has)

  -- ---- what comes

  rises : old.epoch ≤ v.epoch
  rises = (let same = old_epoch blank c e n p s v w i old view in let next = epoch blank c e n p s v w i in omega (arith, same, next))

  behind : (to : ℕ) → AllByRecursion (λ (m : Message). m.epoch ≤ v.epoch) (coming (land c e n w) p n to)
  behind to =
      all_coming c e n p (acts blank c e n p s v w i) w (unsent blank c e n p s v w i) (λ (m : Message). m.epoch ≤ v.epoch) n to
      (all_weaker (λ (m : Message). m.epoch ≤ s.epoch) (λ (m : Message). is_coming c.config p n (node_at (land c e n w) to) m ≡ true → m.epoch ≤ v.epoch)
      (λ m low test. (let next = epoch blank c e n p s v w i in omega (arith, low, next))) (link_at c.links n to)
      (subst (λ (o : Option NodeState). IfSome o (λ r. AllByRecursion (λ m. m.epoch ≤ r.epoch) (link_at c.links n to))) i.install.handed.up (i.run.related.order.behind n to)))

  answer_old : (from k : ℕ) (x : Body) → speaks_of c.config p x ≡ true → AnswerKnown c from k x → is_answer x ≡ true → born_at c from k < v.epoch
  answer_old from k (body.Return r) speaks known is =
      kept_bound blank c e n p s v w i old view had.table had.there (born_at c from k)
      (subst (λ (z : ℕ). KnownBirth c (partition c.config z) (born_at c from k)) (eqb-true r.page p speaks) known)
  answer_old from k (body.Request r) speaks known is = absurd (cc)
  answer_old from k (body.Grant g) speaks known is = absurd (cc)
  answer_old from k (body.Release r) speaks known is = absurd (cc)
  answer_old from k (body.Revoke page) speaks known is = absurd (cc)
  answer_old from k (body.Report r) speaks known is = absurd (cc)

  answers : (from to : ℕ) → AllByRecursion (AnswerIsOld c from v.epoch) (coming (land c e n w) p from to)
  answers from to =
      all_coming c e n p (acts blank c e n p s v w i) w (unsent blank c e n p s v w i) (AnswerIsOld c from v.epoch) from to
      (all_weaker (λ (m : Message). AnswerKnown c from m.epoch m.body) (λ (m : Message). is_coming c.config p from (node_at (land c e n w) to) m ≡ true → AnswerIsOld c from v.epoch m)
      (λ m known test. answer_old from m.epoch m.body (both_parts (speaks_of c.config p m.body) (counts_in (node_at (land c e n w) to) from q m.epoch) test).0 known) (link_at c.links from to)
      (i.facts.births.answers from to))

  pub is_kept : IsKept c e n p old v w t
  is_kept =
      record {
        owner = owner_then blank c e n p s v w i w q midway (unsent blank c e n p s v w i) kept.0;
        earlier = old_there blank c e n p s v w i old view;
        rises = rises;
        there = at;
        holders = holders;
        rights = rights;
        others = others_live blank c e n p s v w i;
        users = users_born blank c e n p s v w i w v.epoch bound (told blank c e n p s v w i);
        readers = readers_born blank c e n p s v w i w v.epoch bound (own_born blank c e n p s v w i q v.epoch midway bound);
        behind = behind;
        answers = λ from to gone. answers from to;
      }
    where
      bound : (b : ℕ) → KnownBirth c q b → b < v.epoch
      bound = kept_bound blank c e n p s v w i old view had.table had.there

  -- ---- a table that is being rebuilt

  module _ (rebuilt : t.serving ≡ false) where
    had_rebuilt : had.table.serving ≡ false
    had_rebuilt = sym had.same.serving ∙ rebuilt

    since : since_of v q ≡ since_of old q
    since = since_stays blank c e n p s v w i old view kept.1

    report_since : (k : ℕ) (from : ℕ) (u : View) (x : Body) → PartiesAre c u from n k x → speaks_of c.config p x ≡ true → is_report x ≡ true → (since_of u q ≡ k) × IsReportOf q x
    report_since k from u (body.Report r) parties speaks is =
        let same : r.partition ≡ q = eqb-true r.partition q speaks in
        (sym (ap (since_of u) same) ∙ parties.1, same)
    report_since k from u (body.Request r) parties speaks is = absurd (cc)
    report_since k from u (body.Grant g) parties speaks is = absurd (cc)
    report_since k from u (body.Release r) parties speaks is = absurd (cc)
    report_since k from u (body.Revoke page) parties speaks is = absurd (cc)
    report_since k from u (body.Return r) parties speaks is = absurd (cc)

    awaited_one : (from : ℕ) (m : Message) → Stands (link_at c.links from n) m → speaks_of c.config p m.body ≡ true → IsAwaited c n q t (since_of v q) from m
    awaited_one from m stands speaks is era =
        ((stands_one (IsOnLink c.config (last_view c).epoch from n) (link_at c.links from n) m ((cluster blank c e n p s v w i).links.messages from n) stands).others, unmarked)
      where
        party : IsParty c from n m
        party = stands_one (IsParty c from n) (link_at c.links from n) m (i.run.related.parties from n) stands

        report : (since_of party.view q ≡ m.epoch) × IsReportOf q m.body
        report = report_since m.epoch from party.view m.body party.parties speaks is

        now : m.epoch ≡ since_of old q
        now = sym report.0 ∙ (sym (era_is c m.epoch party.view party.made q) ∙ (era ∙ since))

        unmarked : marked t from ≡ false
        unmarked =
            had.same.marks from
            ∙ i.facts.reports.awaited n s old q had.table from i.install.handed.up view (inside blank c e n p s v w i) had.there had_rebuilt
            (has_report q (since_of old q) (link_at c.links from n) m now report.1 stands)

    awaited : (from : ℕ) → AllByRecursion (IsAwaited c n q t (since_of v q) from) (coming (land c e n w) p from n)
    awaited from =
        all_coming c e n p (acts blank c e n p s v w i) w (unsent blank c e n p s v w i) (IsAwaited c n q t (since_of v q) from) from n
        (all_stand (λ (m : Message). is_coming c.config p from (node_at (land c e n w) n) m ≡ true → IsAwaited c n q t (since_of v q) from m) (link_at c.links from n)
        (λ m stands test. awaited_one from m stands (both_parts (speaks_of c.config p m.body) (counts_in (node_at (land c e n w) n) from q m.epoch) test).0))

    bound_early : (b : ℕ) → KnownBirth c q b → b < since_of v q
    bound_early = early_bound blank c e n p s v w i old view kept.1 had.table had.there had_rebuilt

    pub is_purged : IsKnown c e n p v (purge_work q v w) (purge_table v.live t)
    is_purged =
        purged_is_known_law c e n p old v t w (acts blank c e n p s v w i) is_kept (goes_on blank c e n p s v w i old view)
        (had.same.marks n ∙ (i.facts.reports.reached n s old q had.table i.install.handed.up view (inside blank c e n p s v w i) had.there had_rebuilt).own)
        (users_born blank c e n p s v w i w (since_of v q) bound_early (told blank c e n p s v w i))
        (readers_born blank c e n p s v w i w (since_of v q) bound_early (own_born blank c e n p s v w i q (since_of v q) midway bound_early)) awaited

pub turns_are_kept_law : TurnsAreKept
turns_are_kept_law blank c e n p s old v w t i kept view at = is_kept blank c e n p s old v w t i kept view at

pub turns_are_purged_law : TurnsArePurged
turns_are_purged_law blank c e n p s old v w t i kept view at rebuilt = is_purged blank c e n p s old v w t i kept view at rebuilt
