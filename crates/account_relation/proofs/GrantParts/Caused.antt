-- The messages for decisions have their causes.
use Rattle.std.proofs.Common.{◌≡◌, ◌≢◌, refl, ap, sym, subst, ◌∙◌, ℕ, ◌<◌, ◌%◌, ◌==◌, ◌&&◌, not, Bool, true, false, List, [], ◌∷◌, ◌++◌, length, slice_index_or, Option, Some, eqb-true}
use Rattle.std.specs.List.{AllByRecursion, list_any, list_all}
use Rattle.pcl_base.specs.Limits.{Sizes}
use Rattle.pcl_base.specs.declared.lock.Decision.{Decision}
use Rattle.pcl_base.specs.declared.lock.Decision.TheVariants.{Grant, Revoke}
use Rattle.pcl_base.specs.declared.message.Body.{Body}
use Rattle.pcl_base.specs.declared.tx.Mode.{Mode}
use Rattle.pcl_base.specs.declared.tx.TxId.{TxId}
use Rattle.pcl_base.specs.declared.trace.Entry.{Entry}
use Rattle.pcl_base.specs.declared.trace.Sent.{Sent}
use Rattle.run_rules.specs.Account.{cause, on_link, then_on_link, cause_if, one_send, and_then}
use Rattle.run_rules.specs.Causes.{Sending, because, holds, with_ledger, without_first, change_first, may_revoke, out_if, asked_back}
use Rattle.run_rules.specs.Ledger.{Ledger, Out, is_want, is_up, link_at, put_link, view_at, wanted_at, rights_at, put_wanted, put_rights}
use Rattle.run_rules.specs.Taking.{From}
use Rattle.run_rules.specs.Views.{View, first, owner_of, since_of}
use Rattle.run_rules.specs.Words.{pick}
use Rattle.node_rules.specs.NodeState.{Outgoing}
use Rattle.cluster_rules.specs.Clusters.{note_of, sent_by}
use Rattle.home_laws.proofs.Tests.{number_same}
use Rattle.node_laws.proofs.Lists.{set_same, set_length}
use Rattle.account_relation.specs.Settle.Settling.{has_item, items_after, items_left, FindItems, outs_left, FindOuts}
use Rattle.account_relation.specs.Grant.Decided.{IsGrantTo, UnlessOwn, IsRevocationTo, AreSendsOf, GivesOwnNone, sent_on, MaySend, HaveFound, DecisionsHaveCauses}

-- ---- what a message on its link leaves

-- all but the links
record SameBut (l m : Ledger) : Type 0 where
  config : m.config ≡ l.config
  seen : m.seen ≡ l.seen
  installed : m.installed ≡ l.installed
  wanted : m.wanted ≡ l.wanted
  rights : m.rights ≡ l.rights

on_link_same : (x : Sent) (l : Ledger) → SameBut l (on_link x l)
on_link_same x l = by (is_up l x.to)
  where
    k : Ledger
    k = record l { links = put_link l.links x.from x.to (link_at l.links x.from x.to ++ x.note ∷ []) }

    by : (b : Bool) → SameBut l (pick b k l)
    by true = record { config = refl; seen = refl; installed = refl; wanted = refl; rights = refl }
    by false = record { config = refl; seen = refl; installed = refl; wanted = refl; rights = refl }

-- a node holds a page by its view and its installs
holds_same : (l m : Ledger) (n p : ℕ) → m.config ≡ l.config → m.seen ≡ l.seen → m.installed ≡ l.installed → holds m n p ≡ holds l n p
holds_same l m n p config seen installed =
    ap (λ (c : Sizes). holds_of c m.seen m.installed) config ∙ ap (λ (vs : List View). holds_of l.config vs m.installed) seen ∙ ap (λ (es : List (List ℕ)). holds_of l.config l.seen es) installed
  where
    holds_of : Sizes → List View → List (List ℕ) → Bool
    holds_of c vs es =
        let v : View = slice_index_or vs n (first c) in
        (owner_of v (p % c.nodes) == n) && list_any (λ e. e == since_of v (p % c.nodes)) (slice_index_or es n [])

view_same : (l m : Ledger) (n : ℕ) → m.config ≡ l.config → m.seen ≡ l.seen → view_at m n ≡ view_at l n
view_same l m n config seen = ap (λ (c : Sizes). slice_index_or m.seen n (first c)) config ∙ ap (λ (vs : List View). slice_index_or vs n (first l.config)) seen

because_true : (b : Bool) (s : Sending) → b ≡ true → because b s ≡ Some s
because_true true s e = refl
because_true false s e = absurd (cc)

-- ---- one message

module _ (e : Entry) (f : Option From) (n p : ℕ) where
  -- a message with a cause, which leaves the node in its view
  record Found (o : Outgoing) (s y : Sending) : Type 0 where
    goes : one_send e f (Some n) (sent_by n o) s ≡ Some y
    config : y.ledger.config ≡ s.ledger.config
    seen : y.ledger.seen ≡ s.ledger.seen
    installed : y.ledger.installed ≡ s.ledger.installed
    wanted : length y.ledger.wanted ≡ length s.ledger.wanted
    rights : length y.ledger.rights ≡ length s.ledger.rights

  -- the cause, and the place on the link
  placed : (o : Outgoing) (s z : Sending) → o.to ≢ n → o.message.epoch ≡ (view_at s.ledger n).epoch → cause e f n o.to (note_of o.message.body) s ≡ Some z
      → one_send e f (Some n) (sent_by n o) s ≡ Some (record z { ledger = on_link (sent_by n o) z.ledger })
  unfolding one_send
  placed o s z other epoch is = ap (λ (b : Bool). cause_if b e f n (sent_by n o) s) test ∙ ap (then_on_link (sent_by n o)) is
    where
      both : (a b c : Bool) → a ≡ true → b ≡ true → c ≡ true → (a && b) && c ≡ true
      both a b c x y z = cc

      apart : not (o.to == n) ≡ true
      apart = by (o.to == n) refl
        where
          by : (b : Bool) → (o.to == n) ≡ b → not b ≡ true
          by true is = absurd (other (eqb-true o.to n is))
          by false is = refl

      test : ((n == n) && not (o.to == n)) && (o.message.epoch == (view_at s.ledger n).epoch) ≡ true
      test = both (n == n) (not (o.to == n)) (o.message.epoch == (view_at s.ledger n).epoch) (number_same n) apart (subst (λ k. (o.message.epoch == k) ≡ true) epoch (number_same o.message.epoch))

  -- a grant
  record GrantFound (t : TxId) (m : Mode) (right : Bool) (o : Outgoing) (s : Sending) : Type 0 where
    after : Sending
    found : Found o s after
    wanted : wanted_at after.ledger n ≡ without_first (is_want t p m) (wanted_at s.ledger n)
    rights : rights_at after.ledger n ≡ out_if right t.node p (rights_at s.ledger n)
    asked_back : after.revoked ≡ s.revoked

  grant_found : (t : TxId) (m : Mode) (right : Bool) (o : Outgoing) (s : Sending) → IsGrantTo t p m right o → o.to ≢ n → o.message.epoch ≡ (view_at s.ledger n).epoch → holds s.ledger n p ≡ true
      → has_item (wanted_at s.ledger n) t p m ≡ true → n < length s.ledger.wanted → n < length s.ledger.rights → GrantFound t m right o s
  unfolding note_of
  grant_found t m right o s is other epoch holding item low low_rights =
      record {
        after = record z { ledger = on_link (sent_by n o) z.ledger };
        found =
            record {
              goes = placed o s z other epoch (ap (λ (b : Body). cause e f n o.to (note_of b) s) is.says ∙ because_true (holds s.ledger n p && ((o.to == t.node) && has_item (wanted_at s.ledger n) t p m)) z test);
              config = same.config;
              seen = same.seen;
              installed = same.installed;
              wanted = ap length same.wanted ∙ set_length s.ledger.wanted n (without_first (is_want t p m) (wanted_at s.ledger n));
              rights = ap length same.rights ∙ set_length s.ledger.rights n (out_if right o.to p (rights_at s.ledger n));
            };
        wanted = ap (λ ws. slice_index_or ws n []) same.wanted ∙ set_same [] s.ledger.wanted n (without_first (is_want t p m) (wanted_at s.ledger n)) low;
        rights =
            ap (λ rs. slice_index_or rs n []) same.rights ∙ set_same [] s.ledger.rights n (out_if right o.to p (rights_at s.ledger n)) low_rights
            ∙ ap (λ k. out_if right k p (rights_at s.ledger n)) is.to;
        asked_back = refl;
      }
    where
      z : Sending
      z = with_ledger s (put_rights n (out_if right o.to p (rights_at s.ledger n)) (put_wanted n (without_first (is_want t p m) (wanted_at s.ledger n)) s.ledger))

      same : SameBut z.ledger (on_link (sent_by n o) z.ledger)
      same = on_link_same (sent_by n o) z.ledger

      all_three : (a b c : Bool) → a ≡ true → b ≡ true → c ≡ true → a && (b && c) ≡ true
      all_three a b c x y z = cc

      test : holds s.ledger n p && ((o.to == t.node) && has_item (wanted_at s.ledger n) t p m) ≡ true
      test = all_three (holds s.ledger n p) (o.to == t.node) (has_item (wanted_at s.ledger n) t p m) holding (subst (λ k. (o.to == k) ≡ true) is.to (number_same o.to)) item

  -- a revocation
  record RevokeFound (k : ℕ) (o : Outgoing) (s : Sending) : Type 0 where
    after : Sending
    found : Found o s after
    wanted : wanted_at after.ledger n ≡ wanted_at s.ledger n
    rights : rights_at after.ledger n ≡ change_first (may_revoke k p) (λ (r : Out). record r { revoked = true }) (rights_at s.ledger n)
    asked_back : after.revoked ≡ p ∷ s.revoked

  revoke_found : (k : ℕ) (o : Outgoing) (s : Sending) → IsRevocationTo k p o → o.to ≢ n → o.message.epoch ≡ (view_at s.ledger n).epoch → holds s.ledger n p ≡ true
      → list_any (may_revoke k p) (rights_at s.ledger n) ≡ true → n < length s.ledger.rights → RevokeFound k o s
  unfolding note_of
  revoke_found k o s is other epoch holding out low_rights =
      record {
        after = record z { ledger = on_link (sent_by n o) z.ledger };
        found =
            record {
              goes = placed o s z other epoch (ap (λ (b : Body). cause e f n o.to (note_of b) s) is.1 ∙ because_true (holds s.ledger n p && list_any (may_revoke o.to p) (rights_at s.ledger n)) z test);
              config = same.config;
              seen = same.seen;
              installed = same.installed;
              wanted = ap length same.wanted;
              rights = ap length same.rights ∙ set_length s.ledger.rights n (change_first (may_revoke o.to p) (λ (r : Out). record r { revoked = true }) (rights_at s.ledger n));
            };
        wanted = ap (λ ws. slice_index_or ws n []) same.wanted;
        rights =
            ap (λ rs. slice_index_or rs n []) same.rights ∙ set_same [] s.ledger.rights n (change_first (may_revoke o.to p) (λ (r : Out). record r { revoked = true }) (rights_at s.ledger n)) low_rights
            ∙ ap (λ j. change_first (may_revoke j p) (λ (r : Out). record r { revoked = true }) (rights_at s.ledger n)) is.0;
        asked_back = refl;
      }
    where
      z : Sending
      z = record s { ledger = asked_back n o.to p s.ledger; revoked = p ∷ s.revoked }

      same : SameBut z.ledger (on_link (sent_by n o) z.ledger)
      same = on_link_same (sent_by n o) z.ledger

      both : (a b : Bool) → a ≡ true → b ≡ true → a && b ≡ true
      both a b x y = cc

      test : holds s.ledger n p && list_any (may_revoke o.to p) (rights_at s.ledger n) ≡ true
      test = both (holds s.ledger n p) (list_any (may_revoke o.to p) (rights_at s.ledger n)) holding (ap (λ j. list_any (may_revoke j p) (rights_at s.ledger n)) is.0 ∙ out)

  -- ---- all messages

  -- what holds still once a message was sent
  may_on : (o : Outgoing) (os : List Outgoing) (s y : Sending) → Found o s y → MaySend n p (o ∷ os) s → MaySend n p os y
  may_on o os s y found may =
      record {
        holds_page = holds_same s.ledger y.ledger n p found.config found.seen found.installed ∙ may.holds_page;
        wanted = subst (λ k. n < k) (sym found.wanted) may.wanted;
        rights = subst (λ k. n < k) (sym found.rights) may.rights;
        well =
            subst (λ (v : View). AllByRecursion (λ (o : Outgoing). (o.to ≢ n) × (o.message.epoch ≡ v.epoch)) os) (sym (view_same s.ledger y.ledger n found.config found.seen)) may.well.1;
      }

  -- a message, and those of further decisions
  more_found : (d : Decision) (ds : List Decision) (o : Outgoing) (os : List Outgoing) (s y : Sending) → Found o s y → ((test : ℕ → Bool) → test p ≡ true → list_all test s.revoked ≡ true → list_all test y.revoked ≡ true)
      → items_left n p ds (wanted_at y.ledger n) ≡ items_left n p (d ∷ ds) (wanted_at s.ledger n) → outs_left p ds (rights_at y.ledger n) ≡ outs_left p (d ∷ ds) (rights_at s.ledger n)
      → HaveFound e f n p ds os y → HaveFound e f n p (d ∷ ds) (o ∷ os) s
  unfolding sent_on
  more_found d ds o os s y found kept items outs rest =
      record {
        after = rest.after;
        goes = ap (λ (r : Option Sending). and_then r (sent_on e f n os)) found.goes ∙ rest.goes;
        wanted = rest.wanted ∙ items;
        rights = rest.rights ∙ outs;
        asked_back = λ test is all. rest.asked_back test is (kept test is all);
      }

  decided : (ds : List Decision) (os : List Outgoing) (s : Sending) → AreSendsOf n p ds os → GivesOwnNone n ds → FindItems n p ds (wanted_at s.ledger n) → FindOuts p ds (rights_at s.ledger n) → MaySend n p os s → HaveFound e f n p ds os s
  unfolding AreSendsOf FindItems FindOuts GivesOwnNone items_left outs_left sent_on
  decided [] os s are none items outs may = subst (λ (xs : List Outgoing). HaveFound e f n p [] xs s) (sym are) nothing
    where
      nothing : HaveFound e f n p [] [] s
      nothing = record { after = s; goes = refl; wanted = refl; rights = refl; asked_back = λ test is all. all }
  decided (Revoke k ∷ ds) [] s are none items outs may = absurd are
  decided (Revoke k ∷ ds) (o ∷ os) s are none items outs may =
      let r = revoke_found k o s are.0 may.well.0.0 may.well.0.1 may.holds_page outs.0 may.rights in
      more_found (Revoke k) ds o os s r.after r.found (λ test is all. ap (list_all test) r.asked_back ∙ both (test p) (list_all test s.revoked) is all) (ap (items_left n p ds) r.wanted) (ap (outs_left p ds) r.rights)
      (decided ds os r.after are.1 none (subst (FindItems n p ds) (sym r.wanted) items) (subst (FindOuts p ds) (sym r.rights) outs.1) (may_on o os s r.after r.found may))
    where
      both : (a b : Bool) → a ≡ true → b ≡ true → a && b ≡ true
      both a b x y = cc
  decided (Grant t m right have ∷ ds) os s are none items outs may = by (t.node == n) refl os are may (λ xs y a b c d. decided ds xs y a none.1 b c d)
    where
      Rest : Type 0
      Rest = (xs : List Outgoing) (y : Sending) → AreSendsOf n p ds xs → FindItems n p ds (wanted_at y.ledger n) → FindOuts p ds (rights_at y.ledger n) → MaySend n p xs y → HaveFound e f n p ds xs y

      items_are : (b : Bool) → (t.node == n) ≡ b → items_after n p t m (wanted_at s.ledger n) ≡ pick b (wanted_at s.ledger n) (without_first (is_want t p m) (wanted_at s.ledger n))
      items_are b is = ap (λ x. pick x (wanted_at s.ledger n) (without_first (is_want t p m) (wanted_at s.ledger n))) is

      by : (b : Bool) → (t.node == n) ≡ b → (xs : List Outgoing) → UnlessOwn b (IsGrantTo t p m right) (AreSendsOf n p ds) xs → MaySend n p xs s → Rest → HaveFound e f n p (Grant t m right have ∷ ds) xs s
      by true is xs are may rest =
          let same : out_if right t.node p (rights_at s.ledger n) ≡ rights_at s.ledger n = ap (λ b. out_if b t.node p (rights_at s.ledger n)) (none.0 is) in
          let h = rest xs s are (subst (FindItems n p ds) (items_are true is) items.1) (subst (FindOuts p ds) same outs) may in
          record { after = h.after; goes = h.goes; wanted = h.wanted ∙ ap (items_left n p ds) (sym (items_are true is)); rights = h.rights ∙ ap (outs_left p ds) (sym same); asked_back = h.asked_back }
      by false is [] are may rest = absurd are
      by false is (o ∷ xs) are may rest =
          let g = grant_found t m right o s are.0 may.well.0.0 may.well.0.1 may.holds_page (items.0 is) may.wanted may.rights in
          more_found (Grant t m right have) ds o xs s g.after g.found (λ test is all. ap (list_all test) g.asked_back ∙ all) (ap (items_left n p ds) (g.wanted ∙ sym (items_are false is))) (ap (outs_left p ds) g.rights)
          (rest xs g.after are.1 (subst (FindItems n p ds) (items_are false is ∙ sym g.wanted) items.1) (subst (FindOuts p ds) (sym g.rights) outs) (may_on o xs s g.after g.found may))

pub decisions_have_causes_law : DecisionsHaveCauses
decisions_have_causes_law e f n p ds os s are none items outs may = decided e f n p ds os s are none items outs may
