-- A granted read.
use Rattle.std.proofs.Common.{◌≡◌, ◌≢◌, refl, sym, subst, ◌∙◌, ℕ, suc, List, [], ◌∷◌, ◌++◌, None, arith}
use Rattle.pcl_base.specs.declared.event.Event.{Event}
use Rattle.pcl_base.specs.declared.reply.Reply.TheVariants as reply
use Rattle.pcl_base.specs.declared.tx.TxId.{TxId}
use Rattle.run_rules.specs.Script.{Gets}
use Rattle.node_rules.specs.AccessRule.{bytes_read, perform, version_or}
use Rattle.node_rules.specs.BufferRule.{find}
use Rattle.node_rules.specs.NodeState.{Run, partition, table_at}
use Rattle.node_rules.specs.OwnerRule.{told}
use Rattle.node_rules.specs.Work.{Work, work_of_home}
use Rattle.cluster_rules.specs.Clusters.{Cluster, last_view}
use Rattle.page_laws.specs.Look.Accesses.{IsRead}
use Rattle.page_laws.proofs.LookParts.Accessing.{reading_is_seen_law}
use Rattle.page_laws.specs.Moment.Looks.{Adds}
use Rattle.page_laws.specs.Moment.Machine.{HasScripts}
use Rattle.page_laws.proofs.MomentParts.AsSteps.{reads_are_reading_law}
use Rattle.page_laws.proofs.MomentParts.Growing.{read_tells_law}
use Rattle.page_protocol.specs.Bytes.{Read}
use Rattle.page_protocol.specs.Homes.{seen, reading}
use Rattle.page_protocol.specs.State.{Page, current, upd}
use Rattle.page_protocol.specs.Steps.{Reached}
use Rattle.page_laws.specs.Written.Written.{DiffersWithin}
use Rattle.page_relation.specs.Work.Keeping.{IsWorkOf}
use Rattle.page_relation.specs.Work.Landing.{land, Acts, trace_of}
use Rattle.page_relation.specs.Work.Unseen.{SameStanding, SamePage}
use Rattle.page_relation.proofs.WorkParts.Framing.{entry_self}
use Rattle.page_relation.proofs.WorkParts.Nodes.{stands_same, kind_same}
use Rattle.page_relation.proofs.WorkParts.Quiet.{reads_elsewhere_law, reply_told}
use Rattle.page_relation.proofs.WorkParts.Storing.{page_beside}
use Rattle.end_relation.specs.Access.Altered.{IsAltered}
use Rattle.end_relation.proofs.AccessParts.Altered.{altered_is_related_law}
use Rattle.end_relation.proofs.AccessParts.Looking.{may_stay, read_here}

pub next_page : (p : ℕ) → suc p ≢ p
next_page p e = absurd (omega (arith, e))

module _ (c : Cluster) (e : Event) (n p : ℕ) (acts : Acts c n) (w : Work) (a : Page) (blank : List ℕ) (reached : Reached blank a) (related : IsWorkOf c e n p w a) (t : TxId) (mine : t.node ≡ n) where
  -- the work after the read
  abbrev pub read_work : Work
  read_work = told w (perform t p None (work_of_home w))

  read_seen : IsRead t p (work_of_home w) (perform t p None (work_of_home w))
  read_seen = reading_is_seen_law t p (work_of_home w)

  read_standing : SameStanding w.node read_work.node
  read_standing = record { config = read_seen.work.rest.life.config; number = read_seen.work.rest.life.node; epoch = refl; view = refl }

  read_page : SamePage p w.node.home read_work.node.home
  read_page = page_beside p w.node.home read_work.node.home read_seen.work.rest (read_seen.work.copies p)

  read_adds : Adds (trace_of c e n w) (Gets t p (version_or (find w.node.home.pool p)) (seen a t) ∷ []) (trace_of c e n read_work)
  unfolding perform
  read_adds =
      subst (λ (bytes : List ℕ). Adds (trace_of c e n w) (Gets t p (version_or (find w.node.home.pool p)) bytes ∷ []) (trace_of c e n read_work))
      (read_here c e n p acts w a related t mine)
      (reply_told c e n (reply.Value t p (version_or (find w.node.home.pool p)) (bytes_read w.node.home.pool t p)) w refl)

  read_scripts : HasScripts (trace_of c e n read_work) p (reading a t)
  unfolding land
  read_scripts =
      (reads_are_reading_law c.config (trace_of c e n w) (trace_of c e n read_work) t p (version_or (find w.node.home.pool p)) blank a read_adds reached related.homes.scripts).0

  read_altered : IsAltered c e n p w read_work a a.home (reading a t).script a.image
  unfolding perform
  read_altered =
      record {
        may = λ u. may_stay (a.home u);
        standing = read_standing;
        copy = read_page.copy;
        right = read_page.right;
        table = entry_self p (table_at w.node (partition c.config p));
        stored = λ disk log is. is;
        now_same = (read_tells_law c.config (trace_of c e n w) (trace_of c e n read_work) t p (version_or (find w.node.home.pool p)) (seen a t) read_adds).0.now_same;
        taken = (reads_elsewhere_law c e n (suc p) p (version_or (find w.node.home.pool p)) t (bytes_read w.node.home.pool t p) w (next_page p)).taken;
        sends = λ b. refl;
        away = λ u other. (refl, refl);
        stands = λ u at old. stands_same w.node read_work.node read_standing (last_view c).epoch p u (a.home u) read_seen.work.rest.life read_page.uses old;
        kinds = λ u at old. kind_same w.node read_work.node read_standing p u (read_page.uses.held u) old;
        told = read_scripts;
        private = λ u at old. read_page.uses.bytes u ∙ old;
        written = λ u at holds old.
            subst (λ (rs : List Run). DiffersWithin rs (current a).bytes (a.image u)) (sym (read_page.uses.runs u)) (old holds);
      }

  pub read_related : IsWorkOf c e n p read_work (reading a t)
  unfolding reading
  read_related = altered_is_related_law c e n p w read_work a a.home (upd a.script t (a.script t ++ Read (seen a t) ∷ [])) a.image acts read_altered related
