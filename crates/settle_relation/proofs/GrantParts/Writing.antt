-- A piece that is put into a writer's private copy.
use Rattle.std.proofs.Common.{◌≡◌, refl, ap, sym, subst, ◌∙◌, ℕ, ◌+◌, ◌≤◌, ◌==◌, ◌&&◌, Bool, true, false, List, length, Option, Some, arith}
use Rattle.std.proofs.lemmas.Bool.Decides.{nat_tests}
use Rattle.pcl_base.specs.declared.event.Event.{Event}
use Rattle.pcl_base.specs.declared.lock.Pending.{Pending}
use Rattle.pcl_base.specs.declared.tx.Mode.TheVariants.{Exclusive}
use Rattle.pcl_base.specs.declared.tx.TxId.{TxId}
use Rattle.text_rules.specs.ChangedRanges as text
use Rattle.node_rules.specs.AccessRule.{Granted, bytes_or}
use Rattle.node_rules.specs.BufferRule.{bytes_of_copy, copy_at, private_bytes}
use Rattle.node_rules.specs.DiskCalls.{all_done}
use Rattle.node_rules.specs.NodeState.{Run, cover, partition, runs_at, table_at}
use Rattle.node_rules.specs.OpenTxs.{held_by, is_open, pending_of}
use Rattle.node_rules.specs.Words.{same_tx}
use Rattle.node_rules.specs.Work.{Work, with_home_work, work_of_home}
use Rattle.home_laws.proofs.Tests.{tx_equal}
use Rattle.cluster_rules.specs.Clusters.{Cluster, node_at, last_view}
use Rattle.page_laws.specs.Look.Accesses.{IsWritten}
use Rattle.page_laws.specs.Look.Ends.{version_of_right}
use Rattle.page_laws.specs.Look.Parts.{is_place}
use Rattle.page_protocol.specs.Bytes.{put}
use Rattle.page_protocol.specs.State.{Home, Holding, Page, current, upd}
use Rattle.page_protocol.specs.State as machine
use Rattle.page_protocol.proofs.Basics.{same_tx_refl, same_tx_true}
use Rattle.page_relation.specs.Homes.{StandsIn, KindIn, ImageIn, image_of, is_unborn, runs_in, wait_on}
use Rattle.page_relation.specs.Relation.{HomesAre}
use Rattle.page_laws.specs.Written.Written.{DiffersWithin}
use Rattle.page_laws.proofs.WrittenParts.Differing.{piece_differs_law, piece_is_put_law}
use Rattle.page_relation.specs.Work.Keeping.{IsWorkOf}
use Rattle.page_relation.specs.Work.Landing.{land, Acts, disk_of}
use Rattle.page_relation.specs.Work.Unseen.{SameStanding, SameStored}
use Rattle.page_relation.proofs.WorkParts.Framing.{entry_self, history_stays_law, stored_stays_law, copies_stay_law, nodes_stay_law, tables_stay_law, links_stay_law}
use Rattle.page_relation.proofs.WorkParts.Nodes.{at_node, changed_node, kept_node, kind_same, stands_as, unborn_same}
use Rattle.settle_relation.proofs.GrantParts.Going.{tables_on, links_on, stays_on}

-- other transactions are at other places
pub other_place : (t u : TxId) (p : ℕ) → machine.same_tx u t ≡ false → is_place t p u p ≡ false
other_place t u p other = by (same_tx u t) refl
  where
    by : (b : Bool) → same_tx u t ≡ b → (b && p == p) ≡ false
    by true is =
        let bad : true ≡ false = sym (same_tx_refl t) ∙ ap (λ (x : TxId). machine.same_tx x t) (sym (tx_equal u t is)) ∙ other in
        absurd (cc)
    by false is = refl

-- what holds of a transaction, and of each other one
pub by_tx : (t u : TxId) (P : TxId → Type 0) → P t → (machine.same_tx u t ≡ false → P u) → P u
by_tx t u P own others = by (machine.same_tx u t) refl
  where
    by : (b : Bool) → machine.same_tx u t ≡ b → P u
    by true is = subst P (sym (same_tx_true u t is)) own
    by false is = others is

pub upd_here : {X : Type 0} (f : TxId → X) (t : TxId) (x : X) → upd f t x t ≡ x
upd_here f t x = ap (λ (b : Bool). machine.pick b x (f t)) (same_tx_refl t)

pub upd_there : {X : Type 0} (f : TxId → X) (t u : TxId) (x : X) → machine.same_tx u t ≡ false → upd f t x u ≡ f u
upd_there f t u x other = ap (λ (b : Bool). machine.pick b x (f u)) other

module _ (c : Cluster) (e : Event) (n p : ℕ) (t : TxId) (write : ℕ × List ℕ) (w : Work) (g : Granted) (a : Page) (acts : Acts c n) (mine : t.node ≡ n) (holds : a.home t ≡ Holding Exclusive)
    (seen : IsWritten t p write (work_of_home w) g) where
  abbrev x : Work
  x = with_home_work w g.work

  abbrev image : TxId → List ℕ
  image = upd a.image t (put write.0 write.1 (a.image t))

  abbrev next : Page
  next = record a { image = image }

  standing : SameStanding w.node x.node
  standing = record { config = seen.life.config; number = seen.life.node; epoch = refl; view = refl }

  -- the private copy before and after
  was_image : HomesAre (land c e n w) p (current a) a → private_bytes w.node.home.pool t p ≡ Some (a.image t)
  was_image is = at_node c e n acts w t.node (λ o. ImageIn o t p (a.home t) (a.image t)) mine (is.images t) ∙ ap (λ (h : Home). image_of h (a.image t)) holds

  now_image : HomesAre (land c e n w) p (current a) a → private_bytes x.node.home.pool t p ≡ Some (image t)
  now_image is =
      seen.bytes
      ∙ ap (λ (o : Option (List ℕ)). Some (text.put write.0 write.1 (bytes_or o (bytes_of_copy (copy_at w.node.home.pool p))))) (was_image is)
      ∙ ap (λ (bytes : List ℕ). let o : Option (List ℕ) = Some bytes in o) (piece_is_put_law write.0 write.1 (a.image t) ∙ sym (upd_here a.image t (put write.0 write.1 (a.image t))))

  stands_on : (last : ℕ) (u : TxId) → StandsIn last (Some w.node) u p (a.home u) → StandsIn last (Some x.node) u p (a.home u)
  stands_on last u old =
      stands_as (a.home u) (is_open w.node.home.txs u) (is_open x.node.home.txs u) (is_unborn w.node.view w.node u) (is_unborn x.node.view x.node u) (held_by w.node.home.txs u p)
      (held_by x.node.home.txs u p) (wait_on (pending_of w.node.home.txs u) p) (wait_on (pending_of x.node.home.txs u) p) (seen.life.alive u)
      (unborn_same w.node x.node standing u seen.life) (seen.locks.held u p) (ap (λ (o : Option Pending). wait_on o p) (seen.locks.waits u)) old

  homes_written : (inside : write.0 + length write.1 ≤ length (a.image t)) → HomesAre (land c e n w) p (current a) a → HomesAre (land c e n x) p (current a) next
  unfolding land
  homes_written inside is =
      record {
        stands = λ u. kept_node c e n acts w x u.node (λ o. StandsIn (last_view c).epoch o u p (a.home u)) (λ at. stands_on (last_view c).epoch u) (is.stands u);
        kinds = λ u. kept_node c e n acts w x u.node (λ o. KindIn o u p) (λ at. kind_same w.node x.node standing p u (seen.locks.held u p)) (is.kinds u);
        scripts = is.scripts;
        images = λ u.
            by_tx t u (λ (v : TxId). ImageIn (node_at (land c e n x) v.node) v p (a.home v) (image v))
            (changed_node c e n acts w x t.node (λ o. ImageIn o t p (a.home t) (a.image t)) (λ o. ImageIn o t p (a.home t) (image t))
            (λ at old. now_image is ∙ sym (ap (λ (h : Home). image_of h (image t)) holds)) (λ o other old. apart other) (is.images t))
            (λ other.
            subst (ImageIn (node_at (land c e n x) u.node) u p (a.home u)) (sym (upd_there a.image t u (put write.0 write.1 (a.image t)) other))
            (kept_node c e n acts w x u.node (λ o. ImageIn o u p (a.home u) (a.image u)) (λ at old. seen.other_bytes u p (other_place t u p other) ∙ old) (is.images u)));
        written = λ u. by_tx t u (λ (v : TxId). a.home v ≡ Holding Exclusive → DiffersWithin (runs_in (node_at (land c e n x) v.node) v p) (current a).bytes (image v))
            (λ k.
            changed_node c e n acts w x t.node (λ o. DiffersWithin (runs_in o t p) (current a).bytes (a.image t)) (λ o. DiffersWithin (runs_in o t p) (current a).bytes (image t))
            (λ at old.
            subst (λ (rs : List Run). DiffersWithin rs (current a).bytes (image t)) (sym seen.runs)
            (subst (DiffersWithin (cover (runs_at w.node.home.written t p) write.0 (write.0 + length write.1)) (current a).bytes) (sym (upd_here a.image t (put write.0 write.1 (a.image t))))
            (piece_differs_law (runs_at w.node.home.written t p) (current a).bytes (a.image t) write.0 write.1 inside old)))
            (λ o other old. apart other) (is.written t k))
            (λ other k.
            subst (DiffersWithin (runs_in (node_at (land c e n x) u.node) u p) (current a).bytes) (sym (upd_there a.image t u (put write.0 write.1 (a.image t)) other))
            (kept_node c e n acts w x u.node (λ o. DiffersWithin (runs_in o u p) (current a).bytes (a.image u))
            (λ at old. subst (λ (rs : List Run). DiffersWithin rs (current a).bytes (a.image u)) (sym (seen.other_runs u p (other_place t u p other))) old) (is.written u k)));
      }
    where
      apart : {X : Type 0} → (t.node == n) ≡ false → X
      apart other = absurd (grind (arith, nat_tests, mine, other))

  -- the relation with the private copy changed, where the reply isn't told yet
  pub written_related : write.0 + length write.1 ≤ c.config.size → SameStored c.config p (disk_of c n w) (all_done n c.disk g.work.calls) → IsWorkOf c e n p w a → IsWorkOf c e n p x next
  unfolding land
  written_related inside stored is =
      record {
        history = history_stays_law c e n p w x a.hist (current a) (record { accesses = λ u. refl; now_same = refl }) is.history;
        stored = stored_stays_law c e n p w x a.disk a.log stored is.stored;
        copies = copies_stay_law c e n p w x a.slot a.owner a.dirty acts (seen.copies p) is.copies;
        homes = homes_written (subst (λ (k : ℕ). write.0 + length write.1 ≤ k) (sym long) inside) is.homes;
        nodes = nodes_stay_law c e n p (partition c.config p) a.era w x a.right a.reached acts standing (ap version_of_right (seen.rights p)) is.nodes;
        tables =
            tables_on a a.home a.slot a.script image (λ u. stays_on (a.home u)) (land c e n x) p (partition c.config p)
            (tables_stay_law c e n p (partition c.config p) w x a acts standing (entry_self p (table_at w.node (partition c.config p))) is.tables);
        links =
            links_on a a.home a.slot a.script image (λ u. stays_on (a.home u)) (land c e n x) p (partition c.config p)
            (links_stay_law c e n p (partition c.config p) w x a acts standing refl (λ b. refl) is.links);
      }
    where
      long : length (a.image t) ≡ c.config.size
      long = (is.homes.written t holds).long ∙ is.history.sizes a.now
