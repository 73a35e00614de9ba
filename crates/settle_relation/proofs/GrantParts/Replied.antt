-- A granted access that is told: the script has it.
use Rattle.std.proofs.Common.{◌≡◌, ◌≢◌, refl, sym, subst, ◌∙◌, ℕ, suc, List, [], ◌∷◌, ◌++◌, Option, Some, arith}
use Rattle.pcl_base.specs.declared.event.Event.{Event}
use Rattle.pcl_base.specs.declared.reply.Reply.{Reply}
use Rattle.pcl_base.specs.declared.reply.Reply.TheVariants as reply
use Rattle.pcl_base.specs.declared.trace.Entry.{Entry}
use Rattle.pcl_base.specs.declared.tx.TxId.{TxId}
use Rattle.run_rules.specs.Now.{now}
use Rattle.node_rules.specs.NodeState.{NodeState, partition, table_at}
use Rattle.node_rules.specs.Work.{Work, reply}
use Rattle.cluster_rules.specs.Clusters.{Cluster, node_at, last_view}
use Rattle.cluster_rules.specs.ClusterStep.{is_taken}
use Rattle.page_laws.specs.Moment.Looks.{HasPage, accesses_in, asked_last}
use Rattle.page_laws.specs.Moment.Tells.{TellsAccess}
use Rattle.page_laws.proofs.MomentParts.Growing.{read_tells_law, write_tells_law}
use Rattle.page_protocol.specs.Bytes.{Access, Read, Write}
use Rattle.page_protocol.specs.State.{Page, current, upd}
use Rattle.page_protocol.specs.State as machine
use Rattle.page_relation.specs.Homes.{StandsIn, KindIn, ImageIn, runs_in}
use Rattle.page_relation.specs.Relation.{HomesAre}
use Rattle.page_laws.specs.Written.Written.{DiffersWithin}
use Rattle.page_relation.specs.Work.Keeping.{IsWorkOf}
use Rattle.page_relation.specs.Work.Landing.{land, Acts, trace_of}
use Rattle.page_relation.proofs.WorkParts.Framing.{entry_self, standing_self, copies_stay_law, nodes_stay_law, tables_stay_law, links_stay_law}
use Rattle.page_relation.proofs.WorkParts.Nodes.{kept_node}
use Rattle.page_relation.proofs.WorkParts.Quiet.{reply_told, reads_elsewhere_law, writes_elsewhere_law}
use Rattle.settle_relation.proofs.GrantParts.Going.{tables_on, links_on, stays_on}

module _ (c : Cluster) (e : Event) (n p : ℕ) (acts : Acts c n) where
  -- a state with another script
  abbrev with_script : Page → (TxId → List Access) → Page
  with_script a script = record a { script = script }

  homes_told : (w x : Work) (a : Page) (script : TxId → List Access) → x.node ≡ w.node → ((t : TxId) → script t ≡ accesses_in t p (trace_of c e n x))
      → HomesAre (land c e n w) p (current a) a → HomesAre (land c e n x) p (current a) (with_script a script)
  unfolding land
  homes_told w x a script same scripts is =
      record {
        stands = λ t. kept t (λ o. StandsIn (last_view c).epoch o t p (a.home t)) (is.stands t);
        kinds = λ t. kept t (λ o. KindIn o t p) (is.kinds t);
        scripts = scripts;
        images = λ t. kept t (λ o. ImageIn o t p (a.home t) (a.image t)) (is.images t);
        written = λ t holds. kept t (λ o. DiffersWithin (runs_in o t p) (current a).bytes (a.image t)) (is.written t holds);
      }
    where
      kept : (t : TxId) (Q : Option NodeState → Type 0) → Q (node_at (land c e n w) t.node) → Q (node_at (land c e n x) t.node)
      kept t Q old = kept_node c e n acts w x t.node Q (λ at was. subst (λ (s : NodeState). Q (Some s)) (sym same) was) old

  -- the relation with a reply more
  told_related : (r : Reply) (w : Work) (a : Page) (script : TxId → List Access) → is_taken (reply r w).replies ≡ is_taken w.replies
      → now c.config (trace_of c e n (reply r w)) ≡ now c.config (trace_of c e n w) → ((t : TxId) → script t ≡ accesses_in t p (trace_of c e n (reply r w)))
      → IsWorkOf c e n p w a → IsWorkOf c e n p (reply r w) (with_script a script)
  unfolding land
  told_related r w a script taken same scripts is =
      record {
        history = record { now_same = subst (λ o. HasPage o p (current a)) (sym same) is.history.now_same; below = is.history.below; sizes = is.history.sizes };
        stored = is.stored;
        copies = copies_stay_law c e n p w (reply r w) a.slot a.owner a.dirty acts refl is.copies;
        homes = homes_told w (reply r w) a script refl scripts is.homes;
        nodes = nodes_stay_law c e n p (partition c.config p) a.era w (reply r w) a.right a.reached acts (standing_self w.node) refl is.nodes;
        tables =
            tables_on a a.home a.slot script a.image (λ t. stays_on (a.home t)) (land c e n (reply r w)) p (partition c.config p)
            (tables_stay_law c e n p (partition c.config p) w (reply r w) a acts (standing_self w.node) (entry_self p (table_at w.node (partition c.config p))) is.tables);
        links =
            links_on a a.home a.slot script a.image (λ t. stays_on (a.home t)) (land c e n (reply r w)) p (partition c.config p)
            (links_stay_law c e n p (partition c.config p) w (reply r w) a acts (standing_self w.node) taken (λ b. refl) is.links);
      }

  -- the script of the machine and that of the trace have the same access more
  scripts_more : (a : Page) (old new : List Entry) (t : TxId) (x : Access) → ((u : TxId) → a.script u ≡ accesses_in u p old) → TellsAccess c.config old new t p x
      → (u : TxId) → upd a.script t (a.script t ++ x ∷ []) u ≡ accesses_in u p new
  scripts_more a old new t x same tells u =
      (λ i. machine.pick (machine.same_tx u t) (same t i ++ x ∷ []) (same u i)) ∙ sym (tells.here u)

  scripts_are : (w : Work) (a : Page) → IsWorkOf c e n p w a → (u : TxId) → a.script u ≡ accesses_in u p (trace_of c e n w)
  unfolding land
  scripts_are w a is u = is.homes.scripts u

  apart : suc p ≢ p
  apart is = absurd (omega (arith, is))

  -- a read that is told
  pub read_told : (t : TxId) (v : ℕ) (bytes : List ℕ) (w : Work) (a : Page) → IsWorkOf c e n p w a
      → IsWorkOf c e n p (reply (reply.Value t p v bytes) w) (with_script a (upd a.script t (a.script t ++ Read bytes ∷ [])))
  read_told t v bytes w a is =
      told_related r w a (upd a.script t (a.script t ++ Read bytes ∷ [])) (reads_elsewhere_law c e n (suc p) p v t bytes w apart).taken tells.now_same
      (scripts_more a (trace_of c e n w) (trace_of c e n (reply r w)) t (Read bytes) (scripts_are w a is) tells) is
    where
      r : Reply
      r = reply.Value t p v bytes

      tells : TellsAccess c.config (trace_of c e n w) (trace_of c e n (reply r w)) t p (Read bytes)
      tells = (read_tells_law c.config (trace_of c e n w) (trace_of c e n (reply r w)) t p v bytes (reply_told c e n r w refl)).0

  -- a write that is told
  pub write_told : (t : TxId) (v : ℕ) (write : ℕ × List ℕ) (w : Work) (a : Page) → asked_last t (trace_of c e n w) ≡ Some write → IsWorkOf c e n p w a
      → IsWorkOf c e n p (reply (reply.Done t p v) w) (with_script a (upd a.script t (a.script t ++ Write write.0 write.1 ∷ [])))
  write_told t v write w a asked is =
      told_related r w a (upd a.script t (a.script t ++ Write write.0 write.1 ∷ [])) (writes_elsewhere_law c e n (suc p) p v t write w apart asked).taken tells.now_same
      (scripts_more a (trace_of c e n w) (trace_of c e n (reply r w)) t (Write write.0 write.1) (scripts_are w a is) tells) is
    where
      r : Reply
      r = reply.Done t p v

      tells : TellsAccess c.config (trace_of c e n w) (trace_of c e n (reply r w)) t p (Write write.0 write.1)
      tells = (write_tells_law c.config (trace_of c e n w) (trace_of c e n (reply r w)) t p v write.0 write.1 asked (reply_told c e n r w refl)).0
