-- A whole install from a cluster of a run keeps the relation of each page.
use Rattle.std.proofs.Common.{◌≡◌, ℕ, ◌<◌, ◌==◌, true, false, List, Some, arith}
use Rattle.std.proofs.lemmas.Bool.Decides.{nat_tests}
use Rattle.pcl_base.specs.declared.event.Event.{Event}
use Rattle.run_rules.specs.Views.{View, since_of}
use Rattle.node_rules.specs.NodeState.{NodeState, partition}
use Rattle.node_rules.specs.Work.{Work}
use Rattle.cluster_rules.specs.Clusters.{Cluster}
use Rattle.cluster_laws.proofs.EraParts.Ages.{since_upto}
use Rattle.page_protocol.specs.State.{Page}
use Rattle.page_protocol.specs.Steps.{Reached}
use Rattle.page_relation.specs.Relation.{IsPageOf}
use Rattle.related_runs.specs.RunLaws.{IsOfRun}
use Rattle.related_runs.proofs.LocksParts.Stands.{used_is_seen_law}
use Rattle.page_relation.specs.Work.Events.{IsEntered}
use Rattle.install_relation.specs.Installing.{IsInstall, IsWaiting}
use Rattle.install_relation.specs.Whole.{IsInstallOf, MayOwn}
use Rattle.install_relation.proofs.Whole.{install_is_kept_law}
use Rattle.cluster_facts.specs.Facts.{HaveFacts}
use Rattle.whole_runs.specs.Install.Installs.{InstallsActOn, InstallsAreKnown}
use Rattle.whole_runs.specs.Install.Turns.{IsTurn}
use Rattle.whole_runs.proofs.InstallParts.Early.{unviewed_are_quiet_law, waiters_are_heard_law}
use Rattle.whole_runs.proofs.InstallParts.Going.{kept_goes_on_law}
use Rattle.whole_runs.proofs.InstallParts.Standing.{epoch, old_epoch, old_whole}
use Rattle.whole_runs.proofs.InstallParts.Taken.{taken_can_be_whole_law}

module _ (blank : List ℕ) (c : Cluster) (e : Event) (n p : ℕ) (s : NodeState) (v : View) (a : Page) (run : IsOfRun blank c) (facts : HaveFacts c) (install : IsInstall c e n s v) (low : p < c.config.pages) (reached : Reached blank a) (entered : IsEntered a) (related : IsPageOf c p a) where
  abbrev q : ℕ
  q = partition c.config p

  turn : (w : Work) → IsWaiting c e n p s v q w → IsTurn blank c e n p s v w
  turn w waits = record { run = run; facts = facts; install = install; low = low; waits = waits }

  -- an era that stays isn't new
  stays : (w : Work) → IsWaiting c e n p s v q w → (old : View) → s.view ≡ Some old → since_of v q ≡ since_of old q → (since_of v q == v.epoch) ≡ false
  stays w waits old view same =
      let upto = since_upto c.config old q (old_whole blank c e n p s v w (turn w waits) old view) in
      let at = old_epoch blank c e n p s v w (turn w waits) old view in
      let next = epoch blank c e n p s v w (turn w waits) in
      grind (arith, nat_tests, same, upto, at, next)

  pub is_install : IsInstallOf c e n p s v blank a
  is_install =
      record {
        install = install;
        order = run.related.order;
        parties = run.related.parties;
        below = low;
        reached = reached;
        entered = entered;
        heard = waiters_are_heard_law c n p s install.cluster facts.reached install.handed.up;
        used = λ t own. used_is_seen_law c p a related run.used t;
        quiet = unviewed_are_quiet_law c p facts.unviewed;
        related = related;
      }

  pub may_own : MayOwn c e n p s v blank a
  may_own =
      record {
        gets = λ w b t waits owns new there known is ready.
            taken_can_be_whole_law blank c e n p s v w b t (turn w waits) (owns, (let same = new in let test : (since_of v q == v.epoch) ≡ true = grind (arith, nat_tests, same) in test)) there is known ready;
        keeps = λ w x old view waits owns same is mid goes.
            kept_goes_on_law blank c e n p s v w x a (turn w waits) (owns, stays w waits old view same) reached is entered goes;
      }

pub installs_are_known_law : InstallsAreKnown
installs_are_known_law blank c e n p s v a run facts install low reached entered related =
    (is_install blank c e n p s v a run facts install low reached entered related, may_own blank c e n p s v a run facts install low reached entered related)

pub installs_act_on_law : InstallsActOn
installs_act_on_law blank c v facts e n s w run made p low =
    install_is_kept_law c e n p s v w blank (run.related.pages.page p) known.0 known.1 made.goes made.whole
  where
    install : IsInstall c e n s v
    install = record { cluster = run.related.cluster; asks = run.related.asked; handed = made.handed; free = made.free }

    known : IsInstallOf c e n p s v blank (run.related.pages.page p) × MayOwn c e n p s v blank (run.related.pages.page p)
    known =
        installs_are_known_law blank c e n p s v (run.related.pages.page p) run facts install low (run.related.pages.reached p low) (run.between.entered p low) (run.related.pages.related p low)
