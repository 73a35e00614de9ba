-- Changes of a work that aren't seen at a page.
use Rattle.std.proofs.Common.{◌≡◌, refl, ap, sym, subst, ◌∙◌, ℕ, ◌==◌, cond, Bool, true, false, List, [], ◌∷◌, ◌++◌, append-nil, map, Option, Some, None, arith}
use Rattle.std.specs.List.{AllByRecursion, filter}
use Rattle.std.proofs.lemmas.Bool.Decides.{nat_tests}
use Rattle.std.proofs.lemmas.List.Sums.{fold-append}
use Rattle.pcl_base.specs.declared.event.Event.{Event}
use Rattle.pcl_base.specs.declared.message.Message.{Message}
use Rattle.pcl_base.specs.declared.reply.Reply.{Reply}
use Rattle.pcl_base.specs.declared.reply.Reply.TheVariants as reply
use Rattle.run_rules.specs.Disk.{Disk}
use Rattle.run_rules.specs.Script.{is_refusal, told}
use Rattle.node_rules.specs.DiskCalls.{DiskCall, WritePage, Force, TrimLog, CutLog, done, all_done}
use Rattle.node_rules.specs.LockTable.{LockTable, put_entry, entry_at}
use Rattle.node_rules.specs.NodeState.{Outgoing, partition, table_at}
use Rattle.node_rules.specs.Words.{pick}
use Rattle.node_rules.specs.Work.{Work, reply, send}
use Rattle.node_laws.proofs.Lists.{set_look}
use Rattle.cluster_rules.specs.Clusters.{Cluster, sent_by}
use Rattle.cluster_rules.specs.ClusterStep.{is_taken}
use Rattle.cluster_laws.specs.Link.Coming.{sent_to}
use Rattle.cluster_laws.proofs.LinkParts.Ordered.{some_at_the_end_law}
use Rattle.page_laws.proofs.EntryParts.Tabled.{tables_are_seen_law}
use Rattle.page_laws.proofs.MomentParts.Entries.{reply_adds_law, sent_adds_nothing_law}
use Rattle.page_laws.proofs.MomentParts.Growing.{nothing_tells_law, read_tells_law, write_tells_law}
use Rattle.page_laws.specs.Moment.Looks.{Adds}
use Rattle.page_laws.specs.Moment.Tells.{TellsSame}
use Rattle.page_laws.proofs.StorageParts.Calls.{written_elsewhere_law}
use Rattle.page_relation.specs.Work.Alike.{QuietReplies, ReadsElsewhere, WritesElsewhere, SendsElsewhere, HomesElsewhere, TablesElsewhere, EntriesElsewhere, IsWriteElsewhere, CallsElsewhere}
use Rattle.page_relation.specs.Work.Landing.{trace_of}
use Rattle.page_relation.specs.Work.Unseen.{SameEntry, SameTable, SameStored, SameTold, speaks, IsUnseen}
use Rattle.page_relation.proofs.WorkParts.Framing.{entry_self, standing_self, life_self, page_self}

-- a reply that lets the head be taken is no refusal
taken_goes : (r : Reply) → is_taken (r ∷ []) ≡ true → is_refusal r ≡ false
taken_goes (reply.Begun t) e = refl
taken_goes (reply.Committed t) e = refl
taken_goes (reply.Aborted t) e = refl
taken_goes (reply.Value t q v bytes) e = refl
taken_goes (reply.Done t q v) e = refl
taken_goes (reply.Waits t q) e = refl
taken_goes reply.Taken e = refl
taken_goes reply.Held e = refl
taken_goes reply.Dropped e = refl
taken_goes reply.Evicted e = refl
taken_goes reply.Flushed e = refl
taken_goes reply.Crashed e = refl
taken_goes reply.Armed e = refl
taken_goes (reply.Cut n) e = refl
taken_goes (reply.Viewed n) e = refl
taken_goes (reply.Installed n) e = refl
taken_goes (reply.Reopened n) e = refl
taken_goes (reply.Serving q) e = refl
taken_goes (reply.Refused x) e = absurd (cc)

-- the first reply decides
taken_first : (r : Reply) (rs ss : List Reply) → is_taken (r ∷ rs) ≡ is_taken (r ∷ ss)
taken_first (reply.Begun t) rs ss = refl
taken_first (reply.Committed t) rs ss = refl
taken_first (reply.Aborted t) rs ss = refl
taken_first (reply.Value t q v bytes) rs ss = refl
taken_first (reply.Done t q v) rs ss = refl
taken_first (reply.Waits t q) rs ss = refl
taken_first reply.Taken rs ss = refl
taken_first reply.Held rs ss = refl
taken_first reply.Dropped rs ss = refl
taken_first reply.Evicted rs ss = refl
taken_first reply.Flushed rs ss = refl
taken_first reply.Crashed rs ss = refl
taken_first reply.Armed rs ss = refl
taken_first (reply.Cut n) rs ss = refl
taken_first (reply.Viewed n) rs ss = refl
taken_first (reply.Installed n) rs ss = refl
taken_first (reply.Reopened n) rs ss = refl
taken_first (reply.Serving q) rs ss = refl
taken_first (reply.Refused x) rs ss = refl

taken_more : (rs : List Reply) (r : Reply) → is_taken (r ∷ []) ≡ true → is_taken (rs ++ r ∷ []) ≡ is_taken rs
taken_more [] r e = e
taken_more (x ∷ rs) r e = taken_first x (rs ++ r ∷ []) rs

-- a reply of which nothing is told of the page
pub replied : (c : Cluster) (e : Event) (n p : ℕ) (r : Reply) (w : Work) → is_taken (r ∷ []) ≡ true
    → SameTold c.config p (trace_of c e n w) (trace_of c e n (reply r w)) → IsUnseen c e n p w (reply r w)
replied c e n p r w goes same =
    record {
      standing = standing_self w.node;
      life = life_self w.node.home;
      page = page_self p w.node.home;
      table = entry_self p (table_at w.node (partition c.config p));
      stored = λ disk log is. is;
      told = same;
      taken = taken_more w.replies r goes;
      sends = λ b. refl;
    }

-- what a reply adds to the trace
pub reply_told : (c : Cluster) (e : Event) (n : ℕ) (r : Reply) (w : Work) → is_taken (r ∷ []) ≡ true → Adds (trace_of c e n w) (told r) (trace_of c e n (reply r w))
reply_told c e n r w goes = reply_adds_law c.trace e w.replies r (map (sent_by n) w.sends) (map (sent_by n) w.sends) (taken_goes r goes)

pub quiet_replies_law : QuietReplies
quiet_replies_law c e n p r w goes none =
    let same : TellsSame c.config (trace_of c e n w) (trace_of c e n (reply r w)) =
    nothing_tells_law c.config (trace_of c e n w) (trace_of c e n (reply r w))
    (subst (λ ms. Adds (trace_of c e n w) ms (trace_of c e n (reply r w))) none (reply_told c e n r w goes)) in
    replied c e n p r w goes (record { accesses = λ t. same.accesses t p; now_same = same.now_same })

pub reads_elsewhere_law : ReadsElsewhere
reads_elsewhere_law c e n p q v t bytes w other =
    let r : Reply = reply.Value t q v bytes in
    let tells = (read_tells_law c.config (trace_of c e n w) (trace_of c e n (reply r w)) t q v bytes (reply_told c e n r w refl)).0 in
    replied c e n p r w refl (record { accesses = λ u. tells.there u p other; now_same = tells.now_same })

pub writes_elsewhere_law : WritesElsewhere
writes_elsewhere_law c e n p q v t write w other asked =
    let r : Reply = reply.Done t q v in
    let tells = (write_tells_law c.config (trace_of c e n w) (trace_of c e n (reply r w)) t q v write.0 write.1 asked (reply_told c e n r w refl)).0 in
    replied c e n p r w refl (record { accesses = λ u. tells.there u p other; now_same = tells.now_same })

-- messages to a node, some after the others
pub sent_more : (b : ℕ) (os ps : List Outgoing) → sent_to b (os ++ ps) ≡ sent_to b os ++ sent_to b ps
unfolding sent_to
sent_more b [] ps = refl
sent_more b (o ∷ os) ps = by (o.to == b) (sent_more b os ps)
  where
    by : (t : Bool) → sent_to b (os ++ ps) ≡ sent_to b os ++ sent_to b ps
        → pick t (o.message ∷ sent_to b (os ++ ps)) (sent_to b (os ++ ps)) ≡ pick t (o.message ∷ sent_to b os) (sent_to b os) ++ sent_to b ps
    by true rest = ap (λ (ms : List Message). o.message ∷ ms) rest
    by false rest = rest

-- one that doesn't speak of the page
one_silent : (f : Message → Bool) (b : ℕ) (o : Outgoing) → f o.message ≡ false → filter f (sent_to b (o ∷ [])) ≡ []
unfolding sent_to
one_silent f b o none = by (o.to == b)
  where
    by : (t : Bool) → filter f (pick t (o.message ∷ []) []) ≡ []
    by true = ap (λ (x : Bool). cond x (o.message ∷ []) []) none
    by false = refl

pub sends_elsewhere_law : SendsElsewhere
sends_elsewhere_law c e n p to body w none =
    record {
      standing = standing_self w.node;
      life = life_self w.node.home;
      page = page_self p w.node.home;
      table = entry_self p (table_at w.node (partition c.config p));
      stored = λ disk log is. is;
      told = record { accesses = λ t. same.accesses t p; now_same = same.now_same };
      taken = refl;
      sends = λ b.
          ap (filter (speaks c.config p)) (sent_more b w.sends (o ∷ []))
          ∙ some_at_the_end_law (speaks c.config p) (sent_to b w.sends) (sent_to b (o ∷ []))
          ∙ ap (λ (ms : List Message). filter (speaks c.config p) (sent_to b w.sends) ++ ms) (one_silent (speaks c.config p) b o none)
          ∙ append-nil (filter (speaks c.config p) (sent_to b w.sends));
    }
  where
    o : Outgoing
    o = record { to = to; message = record { epoch = w.node.epoch; body = body } }

    same : TellsSame c.config (trace_of c e n w) (trace_of c e n (send to body w))
    same =
        nothing_tells_law c.config (trace_of c e n w) (trace_of c e n (send to body w))
        (sent_adds_nothing_law c.trace e w.replies (map (sent_by n) w.sends) (map (sent_by n) (w.sends ++ o ∷ [])))

pub homes_elsewhere_law : HomesElsewhere
homes_elsewhere_law c e n p w h life page stored =
    record {
      standing = record { config = life.config; number = life.node; epoch = refl; view = refl };
      life = life;
      page = page;
      table = entry_self p (table_at w.node (partition c.config p));
      stored = stored;
      told = record { accesses = λ t. refl; now_same = refl };
      taken = refl;
      sends = λ b. refl;
    }

pub tables_elsewhere_law : TablesElsewhere
tables_elsewhere_law c e n p q t w same =
    record {
      standing = record { config = refl; number = refl; epoch = refl; view = refl };
      life = life_self w.node.home;
      page = page_self p w.node.home;
      table =
          set_look (λ (o : Option LockTable). SameTable p (table_at w.node (partition c.config p)) o) None w.node.tables q (partition c.config p) t
          (λ is. subst (λ (k : ℕ). SameTable p (table_at w.node k) t) (sym is) (same (sym is)))
          (entry_self p (table_at w.node (partition c.config p)));
      stored = λ disk log is. is;
      told = record { accesses = λ u. refl; now_same = refl };
      taken = refl;
      sends = λ b. refl;
    }

pub entries_elsewhere_law : EntriesElsewhere
entries_elsewhere_law c e n p r t x w other config there =
    tables_elsewhere_law c e n p (partition w.node.home.config r) (Some (put_entry t r x)) w
    (λ is. subst (λ (o : Option LockTable). SameTable p o (Some (put_entry t r x))) (sym (ap (λ k. table_at w.node (partition k r)) config ∙ there)) same)
  where
    apart : (b : Bool) → (r == p) ≡ b → b ≡ false
    apart true is = let same : r ≡ p = grind (arith, nat_tests, is) in absurd (other (sym same))
    apart false is = refl

    same : SameEntry p t (put_entry t r x)
    same =
        record {
          serving = refl;
          entry = (tables_are_seen_law t).put r x p ∙ ap (λ (b : Bool). pick b x (entry_at t p)) (apart (r == p) refl);
          marks = λ m. refl;
        }

-- page writes of other pages, one after the other
written_on : (c : Cluster) (n p : ℕ) (d : Disk) (more : List DiskCall) → AllByRecursion (IsWriteElsewhere p) more → SameStored c.config p d (all_done n d more)
written_on c n p d [] all disk log is = is
written_on c n p d (WritePage q bytes ∷ more) all disk log is =
    written_on c n p (done n d (WritePage q bytes)) more all.1 disk log (written_elsewhere_law c.config d n p q bytes disk log all.0 is)
written_on c n p d (Force t bytes ∷ more) all disk log is = absurd all.0
written_on c n p d (TrimLog keep ∷ more) all disk log is = absurd all.0
written_on c n p d (CutLog count ∷ more) all disk log is = absurd all.0

pub calls_elsewhere_law : CallsElsewhere
calls_elsewhere_law c n p calls more all =
    subst (SameStored c.config p (all_done n c.disk calls)) (sym (fold-append (done n) c.disk calls more)) (written_on c n p (all_done n c.disk calls) more all)
