-- What sends with their causes leave of the whole cluster in the ledger.
use Rattle.std.proofs.Common.{◌≡◌, refl, ap, sym, subst, ◌∙◌, ℕ, ◌==◌, ◌&&◌, not, Bool, true, false, List, [], ◌∷◌, ◌++◌, map, slice_index_or, Option, Some, None}
use Rattle.std.specs.List.{list_all}
use Rattle.pcl_base.specs.declared.trace.Entry.{Entry}
use Rattle.pcl_base.specs.declared.trace.Note.{Note}
use Rattle.pcl_base.specs.declared.trace.Note.TheVariants as note
use Rattle.pcl_base.specs.declared.trace.Sent.{Sent}
use Rattle.run_rules.specs.Words.{pick}
use Rattle.run_rules.specs.Ledger.{Ledger, view_at, is_up, link_at as ledger_link, put_link as put_ledger_link}
use Rattle.run_rules.specs.Taking.{From}
use Rattle.run_rules.specs.Causes.{Sending, because, still_wait, writer_waits}
use Rattle.run_rules.specs.Account.{cause, on_link, then_on_link, cause_if, one_send, and_then, all_sends}
use Rattle.node_rules.specs.NodeState.{Outgoing}
use Rattle.cluster_rules.specs.Links.{Links, send, send_all}
use Rattle.cluster_rules.specs.Clusters.{sent_by}
use Rattle.account_relation.specs.World.{noted_links}
use Rattle.account_relation.proofs.Heard.{SameWorld, same_self}
use Rattle.account_relation.proofs.Noted.{push_noted}

-- the whole cluster, and what nodes have installed, are the same in two ledgers
pub record Beside (l m : Ledger) : Type 0 where
  pub world : SameWorld l m
  pub seen : m.seen ≡ l.seen
  pub installed : m.installed ≡ l.installed

pub because_is : (P : Sending → Type 0) (b : Bool) (x y : Sending) → because b x ≡ Some y → P x → P y
because_is P true x y e h = let same : x ≡ y = cc in subst P same h
because_is P false x y e h = absurd (cc)

beside_self : (l : Ledger) → Beside l l
beside_self l = record { world = same_self l; seen = refl; installed = refl }

-- each cause
cause_beside : (e : Entry) (f : Option From) (n to : ℕ) (x : Note) (s y : Sending) → cause e f n to x s ≡ Some y → Beside s.ledger y.ledger
cause_beside e f n to (note.Request t p m have) s y is = because_is (λ z. Beside s.ledger z.ledger) _ _ y is (record { world = record { config = refl; up = refl; links = refl; views = refl }; seen = refl; installed = refl })
cause_beside e f n to (note.Grant t p m right v copy) s y is = because_is (λ z. Beside s.ledger z.ledger) _ _ y is (record { world = record { config = refl; up = refl; links = refl; views = refl }; seen = refl; installed = refl })
cause_beside e f n to (note.Release t p change) s y is = because_is (λ z. Beside s.ledger z.ledger) _ _ y is (record { world = record { config = refl; up = refl; links = refl; views = refl }; seen = refl; installed = refl })
cause_beside e f n to (note.Revoke p) s y is = because_is (λ z. Beside s.ledger z.ledger) _ _ y is (record { world = record { config = refl; up = refl; links = refl; views = refl }; seen = refl; installed = refl })
cause_beside e f n to (note.Return p readers) s y is = because_is (λ z. Beside s.ledger z.ledger) _ _ y is (record { world = record { config = refl; up = refl; links = refl; views = refl }; seen = refl; installed = refl })
cause_beside e f n to (note.Report q waits locks rights) s y is = because_is (λ z. Beside s.ledger z.ledger) _ _ y is (record { world = record { config = refl; up = refl; links = refl; views = refl }; seen = refl; installed = refl })

-- a send: its cause, and then its place on the link
pub record IsSent (x : Sent) (s y : Sending) : Type 0 where
  pub between : Ledger
  pub beside : Beside s.ledger between
  pub ledger : y.ledger ≡ on_link x between

sent_one : (e : Entry) (f : Option From) (n : ℕ) (x : Sent) (s y : Sending) → one_send e f (Some n) x s ≡ Some y → IsSent x s y
unfolding one_send
sent_one e f n x s y is = by ((x.from == n && not (x.to == n)) && x.epoch == (view_at s.ledger n).epoch) is
  where
    done : (o : Option Sending) → cause e f n x.to x.note s ≡ o → then_on_link x o ≡ Some y → IsSent x s y
    done None c is = absurd (cc)
    done (Some z) c is =
        let same : record z { ledger = on_link x z.ledger } ≡ y = cc in
        record { between = z.ledger; beside = cause_beside e f n x.to x.note s z c; ledger = ap (λ (w : Sending). w.ledger) (sym same) }

    by : (b : Bool) → cause_if b e f n x s ≡ Some y → IsSent x s y
    by false is = absurd (cc)
    by true is = done (cause e f n x.to x.note s) refl is

-- who is up, by a list of flags
abbrev pub up_in : List Bool → ℕ → Bool
up_in u n = slice_index_or u n false

-- all but the links stays, and these are the links that the sends leave
pub record IsSentAll (u : List Bool) (n : ℕ) (os : List Outgoing) (ls : Links) (l m : Ledger) : Type 0 where
  pub config : m.config ≡ l.config
  pub up : m.up ≡ l.up
  pub views : m.views ≡ l.views
  pub seen : m.seen ≡ l.seen
  pub installed : m.installed ≡ l.installed
  pub links : m.links ≡ noted_links (send_all (up_in u) n ls os)

on_links : (u : List Bool) (n : ℕ) (o : Outgoing) (ls : Links) (l : Ledger) → l.up ≡ u → l.links ≡ noted_links ls → IsSentAll u n (o ∷ []) ls l (on_link (sent_by n o) l)
unfolding send_all
on_links u n o ls l up links = by (is_up l o.to) (ap (λ (x : List Bool). up_in x o.to) up)
  where
    put : put_ledger_link l.links n o.to (ledger_link l.links n o.to ++ (sent_by n o).note ∷ []) ≡ noted_links (send (λ k. true) n ls o)
    put = ap (λ (x : List (List (List Note))). put_ledger_link x n o.to (ledger_link x n o.to ++ (sent_by n o).note ∷ [])) links ∙ push_noted ls n o.to o.message

    by : (b : Bool) → b ≡ up_in u o.to → IsSentAll u n (o ∷ []) ls l (pick b (record l { links = put_ledger_link l.links n o.to (ledger_link l.links n o.to ++ (sent_by n o).note ∷ []) }) l)
    by true e = record { config = refl; up = refl; views = refl; seen = refl; installed = refl; links = put ∙ ap (λ b. noted_links (send (λ k. b) n ls o)) e }
    by false e = record { config = refl; up = refl; views = refl; seen = refl; installed = refl; links = links ∙ ap (λ b. noted_links (send (λ k. b) n ls o)) e }

still_same : (n : ℕ) (s y : Sending) → still_wait (Some n) s ≡ Some y → s ≡ y
still_same n s y is = because_is (λ z. s ≡ z) (list_all (writer_waits s.ledger n) s.revoked) s y is refl

pub all_sent : (e : Entry) (f : Option From) (n : ℕ) (u : List Bool) (os : List Outgoing) (ls : Links) (s y : Sending) → s.ledger.up ≡ u → s.ledger.links ≡ noted_links ls
    → all_sends e f (Some n) (map (sent_by n) os) s ≡ Some y → IsSentAll u n os ls s.ledger y.ledger
unfolding all_sends send_all
all_sent e f n u [] ls s y up links is =
    subst (λ (z : Sending). IsSentAll u n [] ls s.ledger z.ledger) (still_same n s y is) (record { config = refl; up = refl; views = refl; seen = refl; installed = refl; links = links })
all_sent e f n u (o ∷ os) ls s y up links is = by (one_send e f (Some n) (sent_by n o) s) refl is (λ z. all_sent e f n u os (send (up_in u) n ls o) z y)
  where
    by : (r : Option Sending) → one_send e f (Some n) (sent_by n o) s ≡ r → and_then r (all_sends e f (Some n) (map (sent_by n) os)) ≡ Some y
        → ((z : Sending) → z.ledger.up ≡ u → z.ledger.links ≡ noted_links (send (up_in u) n ls o) → all_sends e f (Some n) (map (sent_by n) os) z ≡ Some y → IsSentAll u n os (send (up_in u) n ls o) z.ledger y.ledger)
        → IsSentAll u n (o ∷ os) ls s.ledger y.ledger
    by None first is rest = absurd (cc)
    by (Some z) first is rest =
        let one = sent_one e f n (sent_by n o) s z first in
        let on = on_links u n o ls one.between (one.beside.world.up ∙ up) (one.beside.world.links ∙ links) in
        let further = rest z (ap (λ (l : Ledger). l.up) one.ledger ∙ on.up ∙ one.beside.world.up ∙ up) (ap (λ (l : Ledger). l.links) one.ledger ∙ on.links) is in
        record {
          config = further.config ∙ ap (λ (l : Ledger). l.config) one.ledger ∙ on.config ∙ one.beside.world.config;
          up = further.up ∙ ap (λ (l : Ledger). l.up) one.ledger ∙ on.up ∙ one.beside.world.up;
          views = further.views ∙ ap (λ (l : Ledger). l.views) one.ledger ∙ on.views ∙ one.beside.world.views;
          seen = further.seen ∙ ap (λ (l : Ledger). l.seen) one.ledger ∙ on.seen ∙ one.beside.seen;
          installed = further.installed ∙ ap (λ (l : Ledger). l.installed) one.ledger ∙ on.installed ∙ one.beside.installed;
          links = further.links;
        }
