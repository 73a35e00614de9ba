-- A granted write.
use Rattle.std.proofs.Common.{◌≡◌, refl, ap, sym, subst, ◌∙◌, ℕ, suc, ◌+◌, ◌≤◌, ◌==◌, true, false, List, [], ◌∷◌, ◌++◌, length, Some, arith}
use Rattle.std.proofs.lemmas.Bool.Decides.{nat_tests}
use Rattle.pcl_base.specs.declared.event.Event.{Event}
use Rattle.pcl_base.specs.declared.reply.Reply.TheVariants as reply
use Rattle.pcl_base.specs.declared.tx.Mode.TheVariants.{Exclusive}
use Rattle.pcl_base.specs.declared.tx.TxId.{TxId}
use Rattle.text_rules.specs.ChangedRanges as text
use Rattle.run_rules.specs.Script.{Writes}
use Rattle.node_rules.specs.AccessRule.{perform, version_or, bytes_or}
use Rattle.node_rules.specs.BufferRule.{find, has_private, private_bytes, bytes_of_copy, copy_at}
use Rattle.node_rules.specs.NodeState.{Run, runs_at, partition, table_at}
use Rattle.node_rules.specs.OwnerRule.{told}
use Rattle.node_rules.specs.Work.{Work, work_of_home}
use Rattle.cluster_rules.specs.Clusters.{Cluster, last_view}
use Rattle.page_laws.specs.Look.Accesses.{IsWritten}
use Rattle.page_laws.specs.Look.Ends.{version_of_right}
use Rattle.page_laws.proofs.LookParts.Accessing.{writing_is_seen_law}
use Rattle.page_laws.specs.Moment.Looks.{asked_last, Adds}
use Rattle.page_laws.specs.Moment.Machine.{HasScripts}
use Rattle.page_laws.proofs.MomentParts.AsSteps.{writes_are_writing_law}
use Rattle.page_laws.proofs.MomentParts.Growing.{write_tells_law}
use Rattle.page_protocol.specs.Bytes.{put, Write}
use Rattle.page_protocol.specs.Homes.{writing}
use Rattle.page_protocol.specs.State.{Holding, Page, current, upd}
use Rattle.page_protocol.specs.State as machine
use Rattle.page_protocol.specs.Steps.{Reached}
use Rattle.page_protocol.proofs.Basics.{by_test, same_tx_true}
use Rattle.page_relation.specs.Homes.{image_of, wait_on}
use Rattle.page_laws.specs.Written.Written.{DiffersWithin}
use Rattle.page_laws.proofs.WrittenParts.Differing.{piece_is_put_law, piece_differs_law}
use Rattle.page_relation.specs.Work.Keeping.{IsWorkOf}
use Rattle.page_relation.specs.Work.Landing.{land, Acts, trace_of}
use Rattle.page_relation.specs.Work.Unseen.{SameStanding}
use Rattle.page_relation.proofs.WorkParts.Framing.{entry_self}
use Rattle.page_relation.proofs.WorkParts.Nodes.{kind_same}
use Rattle.page_relation.proofs.WorkParts.Quiet.{writes_elsewhere_law, reply_told}
use Rattle.end_relation.specs.Access.Altered.{IsAltered}
use Rattle.end_relation.proofs.AccessParts.Altered.{altered_is_related_law}
use Rattle.end_relation.proofs.AccessParts.Looking.{may_stay, apart, stands_like, private_here}
use Rattle.end_relation.proofs.AccessParts.Reading.{next_page}

module _ (c : Cluster) (e : Event) (n p : ℕ) (acts : Acts c n) (w : Work) (a : Page) (blank : List ℕ) (reached : Reached blank a) (related : IsWorkOf c e n p w a) (t : TxId) (mine : t.node ≡ n)
    (write : ℕ × List ℕ) (holds : a.home t ≡ Holding Exclusive) (there : has_private w.node.home.pool t p ≡ true) (within : write.0 + length write.1 ≤ c.config.size)
    (asked : asked_last t (trace_of c e n w) ≡ Some write) where
  -- the work after the write
  abbrev pub write_work : Work
  write_work = told w (perform t p (Some write) (work_of_home w))

  write_seen : IsWritten t p write (work_of_home w) (perform t p (Some write) (work_of_home w))
  write_seen = writing_is_seen_law t p write (work_of_home w) there

  write_standing : SameStanding w.node write_work.node
  write_standing = record { config = write_seen.life.config; number = write_seen.life.node; epoch = refl; view = refl }

  write_adds : Adds (trace_of c e n w) (Writes t p (version_or (find w.node.home.pool p)) ∷ []) (trace_of c e n write_work)
  unfolding perform
  write_adds = reply_told c e n (reply.Done t p (version_or (find w.node.home.pool p))) w refl

  write_scripts : HasScripts (trace_of c e n write_work) p (writing a t write.0 write.1)
  unfolding land
  write_scripts =
      (writes_are_writing_law c.config (trace_of c e n w) (trace_of c e n write_work) t p (version_or (find w.node.home.pool p)) write.0 write.1 blank a write_adds asked reached
      related.homes.scripts).0

  -- the private copy before and after
  abbrev new_image : List ℕ
  new_image = put write.0 write.1 (a.image t)

  image_before : private_bytes w.node.home.pool t p ≡ Some (a.image t)
  image_before = private_here c e n p acts w a related t mine ∙ ap (λ h. image_of h (a.image t)) holds

  image_after : private_bytes write_work.node.home.pool t p ≡ image_of (a.home t) new_image
  image_after =
      write_seen.bytes
      ∙ ap (λ o. Some (text.put write.0 write.1 (bytes_or o (bytes_of_copy (copy_at w.node.home.pool p))))) image_before
      ∙ ap (λ (bytes : List ℕ). Some bytes) (piece_is_put_law write.0 write.1 (a.image t))
      ∙ sym (ap (λ h. image_of h new_image) holds)

  written_after : DiffersWithin (runs_at w.node.home.written t p) (current a).bytes (a.image t) → DiffersWithin (runs_at write_work.node.home.written t p) (current a).bytes new_image
  unfolding land
  written_after old =
      subst (λ (rs : List Run). DiffersWithin rs (current a).bytes new_image) (sym write_seen.runs)
      (piece_differs_law (runs_at w.node.home.written t p) (current a).bytes (a.image t) write.0 write.1
      (let long = old.long in let size = related.history.sizes a.now in omega (arith, within, long, size)) old)

  write_altered : IsAltered c e n p w write_work a a.home (writing a t write.0 write.1).script (upd a.image t new_image)
  unfolding perform
  write_altered =
      record {
        may = λ u. may_stay (a.home u);
        standing = write_standing;
        copy = write_seen.copies p;
        right = ap version_of_right (write_seen.rights p);
        table = entry_self p (table_at w.node (partition c.config p));
        stored = λ disk log is. is;
        now_same =
            (write_tells_law c.config (trace_of c e n w) (trace_of c e n write_work) t p (version_or (find w.node.home.pool p)) write.0 write.1 asked write_adds).0.now_same;
        taken = (writes_elsewhere_law c e n (suc p) p (version_or (find w.node.home.pool p)) t write w (next_page p) asked).taken;
        sends = λ b. refl;
        away = λ u other.
            (refl, by_test (machine.same_tx u t) (λ im. im ≡ a.image u) new_image (a.image u) (λ same. absurd (not_here u other (same_tx_true u t same))) (λ off. refl));
        stands = λ u at old.
            stands_like w.node write_work.node (last_view c).epoch p u (a.home u) write_standing write_seen.life (write_seen.locks.held u p) (ap (λ o. wait_on o p) (write_seen.locks.waits u)) old;
        kinds = λ u at old. kind_same w.node write_work.node write_standing p u (write_seen.locks.held u p) old;
        told = write_scripts;
        private = λ u at old.
            by_test (machine.same_tx u t) (λ im. private_bytes write_work.node.home.pool u p ≡ image_of (a.home u) im) new_image (a.image u)
            (λ same. subst (λ (v : TxId). private_bytes write_work.node.home.pool v p ≡ image_of (a.home v) new_image) (sym (same_tx_true u t same)) image_after)
            (λ off. write_seen.other_bytes u p (apart t u p off) ∙ old);
        written = λ u at exclusive old.
            by_test (machine.same_tx u t) (DiffersWithin (runs_at write_work.node.home.written u p) (current a).bytes) new_image (a.image u)
            (λ same. subst (λ (v : TxId). DiffersWithin (runs_at write_work.node.home.written v p) (current a).bytes new_image) (sym (same_tx_true u t same))
            (written_after (subst (λ (v : TxId). DiffersWithin (runs_at w.node.home.written v p) (current a).bytes (a.image v)) (same_tx_true u t same) (old exclusive))))
            (λ off.
            subst (λ (rs : List Run). DiffersWithin rs (current a).bytes (a.image u)) (sym (write_seen.other_runs u p (apart t u p off))) (old exclusive));
      }
    where
      not_here : (u : TxId) → (u.node == n) ≡ false → u ≡ t → ⊥
      not_here u other same = absurd (let at : u.node ≡ n = ap (λ (v : TxId). v.node) same ∙ mine in grind (arith, nat_tests, other, at))

  pub write_related : IsWorkOf c e n p write_work (writing a t write.0 write.1)
  unfolding writing
  write_related =
      altered_is_related_law c e n p w write_work a a.home (upd a.script t (a.script t ++ Write write.0 write.1 ∷ [])) (upd a.image t (put write.0 write.1 (a.image t))) acts write_altered related
