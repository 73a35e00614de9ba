-- Requests, answers and reports have their causes.
use Rattle.std.proofs.Common.{◌≡◌, refl, ap, sym, subst, ◌∙◌, ℕ, ◌+◌, ◌<◌, ◌≤◌, ◌==◌, ◌&&◌, ◌||◌, not, Bool, true, false, List, [], ◌∷◌, ◌++◌, map, Option, Some, arith}
use Rattle.std.specs.List.{AllByRecursion, filter, list_any, list_all}
use Rattle.std.proofs.lemmas.Bool.Decides.{nat_tests}
use Rattle.pcl_base.specs.declared.message.Body.{Body}
use Rattle.pcl_base.specs.declared.message.Body.TheVariants as body
use Rattle.pcl_base.specs.declared.message.ReportLock.{ReportLock}
use Rattle.pcl_base.specs.declared.message.ReportWait.{ReportWait}
use Rattle.pcl_base.specs.declared.trace.Entry.{Entry}
use Rattle.pcl_base.specs.declared.trace.Sent.{Sent}
use Rattle.pcl_base.specs.declared.tx.TxId.{TxId}
use Rattle.pcl_base.specs.declared.tx.Mode.{Mode}
use Rattle.run_rules.specs.Account.{cause, on_link, then_on_link, cause_if, one_send, and_then, all_sends}
use Rattle.run_rules.specs.Causes.{Sending, because, writer_waits, is_access, owner_for, is_revocation, is_installed, is_install, lock_of}
use Rattle.run_rules.specs.Ledger.{Ledger, view_at, is_up, link_at, put_link}
use Rattle.run_rules.specs.Taking.{From, is_waiting, want_of}
use Rattle.run_rules.specs.Words.{pick}
use Rattle.run_rules.specs.Views.{View, owner_of, since_of}
use Rattle.node_rules.specs.NodeState.{Outgoing}
use Rattle.cluster_rules.specs.Clusters.{note_of, sent_by}
use Rattle.home_laws.proofs.Tests.{number_same}
use Rattle.account_relation.specs.Step.Sends.{is_lock, ReportsBehind, AreReports, to_node}

-- a list of sends has its causes, from some state of the sends on
pub record HasCauses (e : Entry) (f : Option From) (n : ℕ) (os : List Outgoing) (s : Sending) : Type 0 where
  pub after : Sending
  pub goes : all_sends e f (Some n) (map (sent_by n) os) s ≡ Some after

because_true : (b : Bool) (s : Sending) → b ≡ true → because b s ≡ Some s
because_true true s e = refl
because_true false s e = absurd (cc)

-- nothing is sent, and no right was asked back
pub nothing_caused : (e : Entry) (f : Option From) (n : ℕ) (s : Sending) → s.revoked ≡ [] → HasCauses e f n [] s
unfolding all_sends
nothing_caused e f n s none = record { after = s; goes = because_true (list_all (writer_waits s.ledger n) s.revoked) s (ap (list_all (writer_waits s.ledger n)) none) }

-- the test that a send is of the acting node, to another one, at the epoch of its view
abbrev pub IsOfNode : ℕ → Sending → Outgoing → Type 0
IsOfNode n s o = (not (o.to == n) ≡ true) × (o.message.epoch ≡ (view_at s.ledger n).epoch)

-- a send whose cause is there, and those behind it
pub one_caused : (e : Entry) (f : Option From) (n : ℕ) (o : Outgoing) (os : List Outgoing) (s y : Sending) → IsOfNode n s o → cause e f n o.to (note_of o.message.body) s ≡ Some y
    → HasCauses e f n os (record y { ledger = on_link (sent_by n o) y.ledger }) → HasCauses e f n (o ∷ os) s
unfolding all_sends one_send
one_caused e f n o os s y of is rest =
    record {
      after = rest.after;
      goes =
          ap (λ (b : Bool). and_then (cause_if b e f n (sent_by n o) s) (all_sends e f (Some n) (map (sent_by n) os))) test
          ∙ ap (λ (r : Option Sending). and_then (then_on_link (sent_by n o) r) (all_sends e f (Some n) (map (sent_by n) os))) is ∙ rest.goes;
    }
  where
    both : (a b c : Bool) → a ≡ true → b ≡ true → c ≡ true → (a && b) && c ≡ true
    both a b c x y z = cc

    test : ((n == n) && not (o.to == n)) && (o.message.epoch == (view_at s.ledger n).epoch) ≡ true
    test = both (n == n) (not (o.to == n)) (o.message.epoch == (view_at s.ledger n).epoch) (number_same n) of.0 (subst (λ k. (o.message.epoch == k) ≡ true) of.1 (number_same o.message.epoch))

-- ---- a request

pub request_caused : (e : Entry) (f : Option From) (n to epoch : ℕ) (t : TxId) (p : ℕ) (m : Mode) (have : Option ℕ) (s : Sending) → s.requested ≡ false → s.revoked ≡ []
    → is_access e.event t p m ≡ true → list_any (is_waiting t p) e.replies ≡ true → owner_for s.ledger n p ≡ to
    → IsOfNode n s (to_node to epoch (body.Request (record { tx = t; page = p; mode = m; have = have })))
    → HasCauses e f n (to_node to epoch (body.Request (record { tx = t; page = p; mode = m; have = have })) ∷ []) s
unfolding note_of
request_caused e f n to epoch t p m have s first none access waits owner of =
    one_caused e f n (to_node to epoch (body.Request (record { tx = t; page = p; mode = m; have = have }))) [] s _ of
    (because_true (not s.requested && (is_access e.event t p m && (list_any (is_waiting t p) e.replies && owner_for s.ledger n p == to))) _
    (all_four (not s.requested) (is_access e.event t p m) (list_any (is_waiting t p) e.replies) (owner_for s.ledger n p == to) (ap not first) access waits (same owner)))
    (nothing_caused e f n _ none)
  where
    all_four : (a b c d : Bool) → a ≡ true → b ≡ true → c ≡ true → d ≡ true → a && (b && (c && d)) ≡ true
    all_four a b c d w x y z = cc

    same : {a b : ℕ} → a ≡ b → (a == b) ≡ true
    same {a} is = subst (λ k. (a == k) ≡ true) is (number_same a)

-- ---- an answer

pub answer_caused : (e : Entry) (f : Option From) (n to epoch p : ℕ) (readers : List TxId) (s : Sending) → s.returned ≡ false → s.revoked ≡ [] → is_revocation to p f ≡ true
    → IsOfNode n s (to_node to epoch (body.Return (record { page = p; readers = readers }))) → HasCauses e f n (to_node to epoch (body.Return (record { page = p; readers = readers })) ∷ []) s
unfolding note_of
answer_caused e f n to epoch p readers s first none revoked of =
    one_caused e f n (to_node to epoch (body.Return (record { page = p; readers = readers }))) [] s _ of (because_true (not s.returned && is_revocation to p f) _ (both (not s.returned) (is_revocation to p f) (ap not first) revoked)) (nothing_caused e f n _ none)
  where
    both : (a b : Bool) → a ≡ true → b ≡ true → a && b ≡ true
    both a b x y = cc

-- ---- reports

-- partitions below a bound
abbrev Below : ℕ → List ℕ → Type 0
Below low qs = AllByRecursion (λ q. q < low) qs

not_among : (low q : ℕ) (qs : List ℕ) → low ≤ q → Below low qs → list_any (λ r. r == q) qs ≡ false
not_among low q [] le all = refl
not_among low q (r ∷ qs) le all = by (r == q) refl (not_among low q qs le all.1)
  where
    by : (b : Bool) → (r == q) ≡ b → list_any (λ x. x == q) qs ≡ false → (r == q) || list_any (λ x. x == q) qs ≡ false
    by true is rest = let less = all.0 in absurd (grind (arith, nat_tests, is, less, le))
    by false is rest = ap (λ b. b || list_any (λ x. x == q) qs) is ∙ rest

below_more : (low high : ℕ) (qs : List ℕ) → low ≤ high → Below low qs → Below high qs
below_more low high [] le all = tt
below_more low high (q ∷ qs) le all = let less = all.0 in (omega (arith, le, less), below_more low high qs le all.1)

-- the view of a node once a message is on its link
link_view : (x : Sent) (l : Ledger) (n : ℕ) → view_at (on_link x l) n ≡ view_at l n
link_view x l n = by (is_up l x.to)
  where
    k : Ledger
    k = record l { links = put_link l.links x.from x.to (link_at l.links x.from x.to ++ x.note ∷ []) }

    by : (b : Bool) → view_at (pick b k l) n ≡ view_at l n
    by true = refl
    by false = refl

module _ (e : Entry) (f : Option From) (n : ℕ) (v : View) (install : is_install e.event ≡ true) (told : list_any (is_installed v.epoch) e.replies ≡ true) where
  -- what is sent goes to other nodes, at the epoch of the view, and is no lock
  abbrev pub Goes : List Outgoing → Type 0
  Goes os = AllByRecursion (λ (o : Outgoing). (not (o.to == n) ≡ true) × (o.message.epoch ≡ v.epoch) × (is_lock o.message.body ≡ false)) os

  pub reports_caused : (low high : ℕ) (os : List Outgoing) (s : Sending) → view_at s.ledger n ≡ v → s.revoked ≡ [] → Below low s.reported → AreReports v low high os → Goes os → HasCauses e f n os s
  unfolding note_of
  reports_caused low high [] s view none below are goes = nothing_caused e f n s none
  reports_caused low high (o ∷ os) s view none below are goes = by o.message.body refl are goes.0.2 (λ next y seen back under more. reports_caused next high os y seen back under more goes.1)
    where
      of : IsOfNode n s o
      of = (goes.0.0, goes.0.1 ∙ ap (λ (w : View). w.epoch) (sym view))

      test : ℕ → View → Bool
      test q w = (is_install e.event && list_any (is_installed w.epoch) e.replies) && ((since_of w q == w.epoch && owner_of w q == o.to) && not (list_any (λ r. r == q) s.reported))

      all_five : (a b c d g : Bool) → a ≡ true → b ≡ true → c ≡ true → d ≡ true → g ≡ true → (a && b) && ((c && d) && g) ≡ true
      all_five a b c d g x y z u w = cc

      same : {a b : ℕ} → a ≡ b → (a == b) ≡ true
      same {a} is = subst (λ k. (a == k) ≡ true) is (number_same a)

      holds : (q : ℕ) → low ≤ q → owner_of v q ≡ o.to → since_of v q ≡ v.epoch → test q (view_at s.ledger n) ≡ true
      holds q le owner since =
          subst (λ w. test q w ≡ true) (sym view)
          (all_five (is_install e.event) (list_any (is_installed v.epoch) e.replies) (since_of v q == v.epoch) (owner_of v q == o.to) (not (list_any (λ r. r == q) s.reported)) install told (same since) (same owner)
          (ap not (not_among low q s.reported le below)))

      by : (b : Body) → o.message.body ≡ b → ReportsBehind v low o.to b (λ next. AreReports v next high os) → is_lock b ≡ false
          → ((next : ℕ) (y : Sending) → view_at y.ledger n ≡ v → y.revoked ≡ [] → Below next y.reported → AreReports v next high os → HasCauses e f n os y) → HasCauses e f n (o ∷ os) s
      by (body.Grant g) at is free rest = absurd (cc)
      by (body.Revoke p) at is free rest = absurd (cc)
      by (body.Release r) at is free rest = absurd (cc)
      by (body.Request r) at is free rest = let bad = is.0 in absurd (cc)
      by (body.Return r) at is free rest = let bad = is.0 in absurd (cc)
      by (body.Report r) at is free rest =
          let y : Sending =
          record s {
            ledger =
                record (s.ledger) {
                  asked = s.ledger.asked ++ map want_of (filter (λ (w : ReportWait). w.tx.node == n) r.waits);
                  registered = s.ledger.registered ++ map lock_of (filter (λ (x : ReportLock). x.tx.node == n) r.locks);
                };
            reported = r.partition ∷ s.reported;
          } in
          one_caused e f n o os s y of
          (ap (λ (b : Body). cause e f n o.to (note_of b) s) at ∙ because_true (test r.partition (view_at s.ledger n)) y (holds r.partition is.0 is.1 is.2))
          (rest (r.partition + 1) (record y { ledger = on_link (sent_by n o) y.ledger }) (link_view (sent_by n o) y.ledger n ∙ view) none (omega arith, below_more low (r.partition + 1) s.reported (let le = is.0 in omega (arith, le)) below) is.3)
