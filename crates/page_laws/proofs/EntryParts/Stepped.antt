-- Decisions and changes of a served entry as steps of the machine of one page.
use Rattle.std.proofs.Common.{◌≡◌, ◌≢◌, ℕ, suc, ◌+◌, ◌==◌, ◌&&◌, ◌||◌, not, Bool, true, false, List, [], ◌∷◌, Option, Some, None, refl, sym, ap, subst, ◌∙◌, arith, inl, inr}
use Rattle.std.specs.Prelude.{eqb}
use Rattle.pcl_base.specs.declared.tx.TxId.{TxId}
use Rattle.pcl_base.specs.declared.tx.Mode.{Mode}
use Rattle.pcl_base.specs.declared.tx.Mode.TheVariants.{Shared, Exclusive}
use Rattle.pcl_base.specs.declared.lock.Holder.{Holder}
use Rattle.pcl_base.specs.declared.lock.RightMark.{RightMark}
use Rattle.node_rules.specs.Words.{pick, same_tx, among}
use Rattle.node_rules.specs.LockRule.{LockEntry, mode_of, has_right, takes_change, end_tx, returned}
use Rattle.page_protocol.specs.State as machine
use Rattle.page_protocol.specs.State.{Word, Sent, Right, NoRight, Flying, Shelf, Returning, Dead, Ended, Page, updn, set_at, has, IsFresh}
use Rattle.page_protocol.specs.Authority.{granting, giving, returning, releasing, releasing_change, releasing_to_disk, NobodyWrites, Alone, with_shared}
use Rattle.page_protocol.specs.Steps.{Step, grants_lock, gives_right, releases, releases_change, releases_to_disk, returns_right}
use Rattle.page_protocol.proofs.Basics.{same_tx_tells, eqb_refl}
use Rattle.page_laws.specs.Entry.Decisions.{HasNoWriter, IsFreeFor}
use Rattle.page_laws.specs.Entry.Looks.{IsWithout, IsReturned}
use Rattle.page_laws.specs.Entry.Steps.{IsEntryOf, GrantIsStep, RightIsStep, RevocationIsNone, ReleaseIsStep, ChangeIsStep, ReturnIsStep}
use Rattle.page_laws.proofs.EntryParts.Words.{same_tells, same_swap, number_equal, number_swap, or_last, any_pushed}
use Rattle.page_laws.proofs.EntryParts.Decided.{marked_is_seen_law}
use Rattle.page_laws.proofs.EntryParts.Looked.{next_change, ending_is_seen_law, returning_is_seen_law}

-- the two tests of transactions are one
pub one_test : (t u : TxId) → machine.same_tx u t ≡ same_tx t u
one_test t u =
    elim (same_tx_tells u t) [
      | inl same ↦ elim (same_tells t u) [ inl one ↦ same.0 ∙ sym one.0 | inr none ↦ absurd (none.1 (sym same.1)) ]
      | inr other ↦ elim (same_tells t u) [ inl one ↦ absurd (other.1 (sym one.1)) | inr none ↦ other.0 ∙ sym none.0 ]
    ]

-- and so are the two tests of lists
pub one_list : (ts : List TxId) (t : TxId) → has t ts ≡ among ts t
unfolding among
one_list [] t = refl
one_list (u ∷ ts) t = ap (λ b. b || has t ts) (one_test t u ∙ same_swap t u) ∙ ap (λ b. same_tx u t || b) (one_list ts t)

-- what a table lists of the era, with one transaction changed
pub set_seen : (listed : TxId → ℕ → Option Mode) (t : TxId) (e : ℕ) (x : Option Mode) (u : TxId) → set_at listed t e x u e ≡ pick (same_tx t u) x (listed u e)
set_seen listed t e x u =
    ap (λ b. machine.pick (b && eqb e e) x (listed u e)) (one_test t u)
    ∙ (ap (λ b. machine.pick (same_tx t u && b) x (listed u e)) (eqb_refl e) ∙ by (same_tx t u))
  where
    by : (b : Bool) → machine.pick (b && true) x (listed u e) ≡ pick b x (listed u e)
    by true = refl
    by false = refl

-- a right that isn't in the entry isn't out
pub not_out : (r : Right) (b : Bool) → (r ≢ NoRight → b ≡ true) → b ≡ false → r ≡ NoRight
not_out NoRight b f e = refl
not_out (Flying g) b f e = let bad = f (λ q. absurd (cc)) in absurd (cc)
not_out (Shelf v) b f e = let bad = f (λ q. absurd (cc)) in absurd (cc)
not_out (Returning upto readers) b f e = let bad = f (λ q. absurd (cc)) in absurd (cc)
not_out Dead b f e = let bad = f (λ q. absurd (cc)) in absurd (cc)

nobody : (a : Page) (e : LockEntry) → IsEntryOf a e → HasNoWriter e → NobodyWrites a
nobody a e i n t q = n t (i.holders t ∙ q)

-- a right after one of a node was changed
right_by : (right : ℕ → Right) (n : ℕ) (r : Right) (m : ℕ) (P : Right → Type 0) → ((m == n) ≡ true → m ≡ n → P r) → ((m == n) ≡ false → P (right m)) → P (updn right n r m)
right_by right n r m P here else = by (m == n) refl
  where
    by : (b : Bool) → (m == n) ≡ b → P (machine.pick b r (right m))
    by true q = here q (number_equal m n q)
    by false q = else q

pub grant_is_step_law : GrantIsStep
unfolding granting
grant_is_step_law a e later t m have w i l served asked fits =
    record {
      step = grants_lock t m w served (nobody a e i l.no_writer) (alone m l.free) asked fits;
      entry = record {
        version = l.version ∙ i.version;
        holders = λ u.
            l.holders u
            ∙ (ap (λ (o : Option Mode). pick (same_tx t u) (Some m) o) (i.holders u)
            ∙ sym (set_seen a.listed t a.era (Some m) u));
        rights = λ n q. ap (λ (rs : List RightMark). has_right rs n) l.rights ∙ i.rights n q;
      };
    }
  where
    alone : (k : Mode) → IsFreeFor e t k → Alone a t k
    alone Shared f = tt
    alone Exclusive f = (
      λ u. elim (f.others u) [ inl none ↦ inl (sym (i.holders u) ∙ none) | inr same ↦ inr same ],
      λ n. not_out (a.right n) (has_right e.rights n) (i.rights n) (ap (λ (rs : List RightMark). has_right rs n) f.rights),
    )

pub right_is_step_law : RightIsStep
unfolding giving
right_is_step_law a owner e later t have w i l served asked fits =
    record {
      step = gives_right t w served (nobody a e i l.no_writer) (not_out (a.right t.node) (has_right e.rights t.node) (i.rights t.node) l.no_right) asked fits;
      entry = record {
        version = l.version ∙ i.version;
        holders = λ u. ap (λ (hs : List Holder). mode_of hs u) l.holders ∙ i.holders u;
        rights = λ n. right_by a.right t.node (Flying (record { tx = t; mode = Shared; version = a.entry; word = w })) n (λ r. r ≢ NoRight → has_right later.rights n ≡ true)
            (λ f same out. seen n ∙ or_last (has_right e.rights n) (t.node == n) (number_swap t.node n ∙ f))
            (λ f out. seen n ∙ ap (λ b. b || t.node == n) (i.rights n out));
      };
    }
  where
    seen : (n : ℕ) → has_right later.rights n ≡ has_right e.rights n || t.node == n
    seen n = ap (λ (rs : List RightMark). has_right rs n) l.rights ∙ any_pushed (λ r. r.node == n) e.rights (record { node = t.node; revoked = false })

pub revocation_is_none_law : RevocationIsNone
revocation_is_none_law a e later n i l =
    let seen = marked_is_seen_law e later n l in
    record {
      version = l.version ∙ i.version;
      holders = λ t. seen.0 t ∙ i.holders t;
      rights = λ m q. seen.1 m ∙ i.rights m q;
    }

-- a release: the transaction holds nothing in the era
listed_without : (a : Page) (e later : LockEntry) (t : TxId) → IsEntryOf a e → IsWithout e t later → (u : TxId) → mode_of later.holders u ≡ set_at a.listed t a.era None u a.era
listed_without a e later t i l u =
    l.holders u ∙ (ap (λ (o : Option Mode). pick (same_tx t u) None o) (i.holders u) ∙ sym (set_seen a.listed t a.era None u))

pub release_is_step_law : ReleaseIsStep
unfolding releasing
release_is_step_law a e t change i home late writer =
    let ended = ending_is_seen_law e t in
    record {
      step = releases t change home not_next;
      entry = record {
        version = ended.kept change late ∙ i.version;
        holders = λ u. listed_without a e (end_tx e t change) t i (ended.looks change) u;
        rights = λ n q. ap (λ (rs : List RightMark). has_right rs n) (ended.looks change).rights ∙ i.rights n q;
      };
    }
  where
    not_next : change ≢ Some (suc a.entry)
    not_next q =
        let version = i.version in
        let number : suc a.entry ≡ e.version + 1 = omega (arith, version) in
        let taken : takes_change e t (Some (suc a.entry)) ≡ true = (next_change e t (suc a.entry)).1 (record { holds = i.holders t ∙ writer (suc a.entry) q; next = number }) in
        let not_taken : takes_change e t (Some (suc a.entry)) ≡ false = subst (λ (c : Option ℕ). takes_change e t c ≡ false) q late in
        absurd (cc)

pub change_is_step_law : ChangeIsStep
unfolding releasing_change releasing_to_disk
change_is_step_law a e t v i served home taken =
    let ended = ending_is_seen_law e t in
    let next = (next_change e t v).0 taken in
    let is_next = next.next in
    let version = i.version in
    let number : v ≡ suc a.entry = omega (arith, is_next, version) in
    let made : (end_tx e t (Some v)).version ≡ v = ended.version (Some v) taken ∙ sym is_next in
    let home_next : a.home t ≡ Ended (Some (suc a.entry)) a.era = subst (λ x. a.home t ≡ Ended (Some x) a.era) number home in
    let holders : (u : TxId) → mode_of (end_tx e t (Some v)).holders u ≡ set_at a.listed t a.era None u a.era = listed_without a e (end_tx e t (Some v)) t i (ended.looks (Some v)) in
    let rights : (n : ℕ) → a.right n ≢ NoRight → has_right (end_tx e t (Some v)).rights n ≡ true = (λ n q. ap (λ (rs : List RightMark). has_right rs n) (ended.looks (Some v)).rights ∙ i.rights n q) in
    record {
      next = number;
      to_slot = record {
        step = subst (λ x. Step a (releasing_change a t x)) (sym number) (releases_change t served home_next);
        entry = record { version = made; holders = holders; rights = rights };
      };
      to_disk = λ empty. record {
        step = subst (λ x. Step a (releasing_to_disk a t x)) (sym number) (releases_to_disk t served home_next empty);
        entry = record { version = made; holders = holders; rights = rights };
      };
    }

pub return_is_step_law : ReturnIsStep
unfolding returning
return_is_step_law a e n readers i back =
    record {
      step = returns_right n readers back;
      entry = record {
        version = r.version ∙ i.version;
        holders = λ t. r.holders t ∙ (ap (λ (o : Option Mode). pick (among readers t) (with_shared o) o) (i.holders t) ∙ sym (seen t));
        rights = λ m. right_by a.right n NoRight m (λ x. x ≢ NoRight → has_right (returned e n readers).rights m ≡ true)
            (λ f same out. absurd (out refl))
            (λ f out. r.rights m ∙ (ap (λ b. not b && has_right e.rights m) (number_swap n m ∙ f) ∙ i.rights m out));
      };
    }
  where
    there : has_right e.rights n ≡ true
    there = i.rights n (λ q. let bad : Returning (suc a.era) readers ≡ NoRight = sym back ∙ q in absurd (cc))

    r : IsReturned e n readers (returned e n readers)
    r = (returning_is_seen_law e n readers).0 there

    seen : (t : TxId) → machine.pick (has t readers && eqb a.era a.era) (with_shared (a.listed t a.era)) (a.listed t a.era) ≡ pick (among readers t) (with_shared (a.listed t a.era)) (a.listed t a.era)
    seen t =
        ap (λ b. machine.pick (b && eqb a.era a.era) (with_shared (a.listed t a.era)) (a.listed t a.era)) (one_list readers t)
        ∙ (ap (λ b. machine.pick (among readers t && b) (with_shared (a.listed t a.era)) (a.listed t a.era)) (eqb_refl a.era) ∙ by (among readers t))
      where
        by : (b : Bool) → machine.pick (b && true) (with_shared (a.listed t a.era)) (a.listed t a.era) ≡ pick b (with_shared (a.listed t a.era)) (a.listed t a.era)
        by true = refl
        by false = refl
