-- What isn't seen of a page isn't seen with the old view either; and how an install begins.
use Rattle.std.proofs.Common.{◌≡◌, inl, inr, refl, ap, sym, subst, ◌∙◌, ℕ, ◌==◌, nat_lt, Bool, true, false, [], ◌∷◌, length, Option, is_some}
use Rattle.pcl_base.specs.Limits.{Sizes}
use Rattle.pcl_base.specs.declared.event.Event.{Event}
use Rattle.pcl_base.specs.declared.reply.Reply.TheVariants as reply
use Rattle.pcl_base.specs.declared.tx.TxId.{TxId}
use Rattle.text_rules.specs.LogRecord.{whole_len}
use Rattle.run_rules.specs.Disk.{log_at}
use Rattle.run_rules.specs.Views.{View, born_of}
use Rattle.node_rules.specs.DiskCalls.{TrimLog, done}
use Rattle.node_rules.specs.InstallRule.{begin_life, born_at, in_view, trim_if}
use Rattle.node_rules.specs.NodeState.{NodeState, number_of}
use Rattle.node_rules.specs.OpenTxs.{OpenTx, open_at, pages_of_open, waiting_of_open, lock_on}
use Rattle.node_rules.specs.Work.{Work, reply, with_home_work, with_node}
use Rattle.cluster_rules.specs.Clusters.{Cluster}
use Rattle.page_relation.specs.Homes.{wait_on}
use Rattle.page_laws.specs.Storage.Looks.{IsStored}
use Rattle.page_laws.proofs.StorageParts.Calls.{trimmed_is_stored_law}
use Rattle.page_relation.specs.Work.StepEnds.{start_of}
use Rattle.page_relation.specs.Work.Unseen.{IsUnseen, SameStored}
use Rattle.page_relation.proofs.WorkParts.Framing.{life_self, page_self, unseen_then}
use Rattle.page_relation.proofs.WorkParts.Quiet.{homes_elsewhere_law, quiet_replies_law}
use Rattle.kept_relation.specs.Turn.Standing.{stood, as_before}
use Rattle.kept_relation.proofs.TurnParts.Unborn.{none_open}
use Rattle.install_relation.specs.Unseen.{UnseenBefore, EnteringIsUnseen}

module _ (c : Cluster) (e : Event) (n p : ℕ) (s : NodeState) (w x : Work) (u : IsUnseen c e n p w x) where
  -- with the births that they have
  unseen_stood : IsUnseen c e n p (with_node w (stood s.epoch s.view w.node.home.txs.born w.node)) (with_node x (stood s.epoch s.view x.node.home.txs.born x.node))
  unseen_stood =
      record {
        standing = record { config = u.standing.config; number = u.standing.number; epoch = refl; view = refl };
        life = record { config = u.life.config; node = u.life.node; born = u.life.born; last = u.life.last; alive = u.life.alive };
        page = record { uses = record { held = u.page.uses.held; waits = u.page.uses.waits; bytes = u.page.uses.bytes; runs = u.page.uses.runs }; copy = u.page.copy; right = u.page.right };
        table = u.table;
        stored = u.stored;
        told = u.told;
        taken = u.taken;
        sends = u.sends;
      }

  -- with no open transaction
  unseen_empty : w.node.home.txs.txs ≡ [] → x.node.home.txs.txs ≡ [] → IsUnseen c e n p (as_before s w) (as_before s x)
  unseen_empty none_w none_x =
      record {
        standing = record { config = u.standing.config; number = u.standing.number; epoch = refl; view = refl };
        life = record { config = u.life.config; node = u.life.node; born = refl; last = u.life.last; alive = λ t. ap (λ (o : Option OpenTx). is_some o) (both t) };
        page = record {
          uses = record {
            held = λ t. ap (λ (o : Option OpenTx). lock_on (pages_of_open o) p) (both t);
            waits = λ t. ap (λ (o : Option OpenTx). wait_on (waiting_of_open o) p) (both t);
            bytes = u.page.uses.bytes;
            runs = u.page.uses.runs;
          };
          copy = u.page.copy;
          right = u.page.right;
        };
        table = u.table;
        stored = u.stored;
        told = u.told;
        taken = u.taken;
        sends = u.sends;
      }
    where
      both : (t : TxId) → open_at (stood s.epoch s.view s.home.txs.born x.node).home.txs t ≡ open_at (stood s.epoch s.view s.home.txs.born w.node).home.txs t
      both t =
          none_open (stood s.epoch s.view s.home.txs.born x.node).home.txs t none_x ∙ sym (none_open (stood s.epoch s.view s.home.txs.born w.node).home.txs t none_w)

pub unseen_before_law : UnseenBefore
unseen_before_law c e n p s w x (inl same) u =
    subst (λ (b : ℕ). IsUnseen c e n p (with_node w (stood s.epoch s.view b w.node)) (as_before s x)) same
    (subst (λ (b : ℕ). IsUnseen c e n p (with_node w (stood s.epoch s.view w.node.home.txs.born w.node)) (with_node x (stood s.epoch s.view b x.node))) (u.life.born ∙ same) (unseen_stood c e n p s w x u))
unseen_before_law c e n p s w x (inr none) u = unseen_empty c e n p s w x u none.0 none.1

-- ---- how an install begins

module _ (c : Cluster) (e : Event) (n p : ℕ) (s : NodeState) (v : View) (config : s.home.config ≡ c.config) (number : number_of s ≡ n) where
  abbrev answered : Work
  answered = reply (reply.Installed v.epoch) (start_of c s)

  first : IsUnseen c e n p (start_of c s) answered
  first = quiet_replies_law c e n p (reply.Installed v.epoch) (start_of c s) refl refl

  abbrev keep : ℕ
  keep = whole_len s.home.config (log_at c.disk (number_of s))

  trimmed : SameStored c.config p c.disk (done n c.disk (TrimLog keep))
  trimmed disk log is =
      subst (λ (k : Sizes). IsStored c.config (done n c.disk (TrimLog (whole_len k (log_at c.disk (number_of s))))) p disk log) (sym config)
      (subst (λ (m : ℕ). IsStored c.config (done n c.disk (TrimLog (whole_len c.config (log_at c.disk m)))) p disk log) (sym number)
      (trimmed_is_stored_law c.config c.disk n p disk log is))

  trims : (x : Bool) → IsUnseen c e n p (start_of c s) (as_before s (trim_if x keep (with_node answered (born_at v.epoch (in_view v s)))))
  trims false = first
  trims true =
      unseen_then c e n p (start_of c s) answered (with_home_work answered (record { home = s.home; pages = c.disk.pages; calls = TrimLog keep ∷ [] })) first
      (homes_elsewhere_law c e n p answered (record { home = s.home; pages = c.disk.pages; calls = TrimLog keep ∷ [] }) (life_self s.home) (page_self p s.home) trimmed)

  enters : (x : Bool) → IsUnseen c e n p (start_of c s) (as_before s (begin_life x c.disk v (reply (reply.Installed v.epoch) (with_node (start_of c s) (in_view v s)))))
  enters false = first
  enters true = trims (nat_lt keep (length (log_at c.disk (number_of s))))

pub entering_is_unseen_law : EnteringIsUnseen
entering_is_unseen_law c e n p s v config number = enters c e n p s v config number (born_of v (number_of s) == v.epoch)
