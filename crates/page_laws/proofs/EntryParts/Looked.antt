-- The looks at an entry after each change of it.
use Rattle.std.proofs.Common.{◌≡◌, ◌↔◌, ℕ, ◌+◌, ◌==◌, ◌&&◌, ◌||◌, not, Bool, true, false, List, [], ◌∷◌, ◌++◌, Option, Some, None, is_some, refl, sym, ap, subst, ◌∙◌, inl, inr}
use Rattle.pcl_base.specs.declared.tx.TxId.{TxId}
use Rattle.pcl_base.specs.declared.tx.Mode.{Mode}
use Rattle.pcl_base.specs.declared.tx.Mode.TheVariants.{Shared, Exclusive}
use Rattle.pcl_base.specs.declared.lock.Holder.{Holder}
use Rattle.pcl_base.specs.declared.lock.Waiter.{Waiter}
use Rattle.pcl_base.specs.declared.lock.RightMark.{RightMark}
use Rattle.node_rules.specs.Words.{pick, same_tx, covers, among, flag_at, or_else}
use Rattle.node_rules.specs.LockRule.{LockEntry, mode_of, has_right, waits_in, waiting_without, holders_without, rights_without, register, ask, takes_change, holds_alone, end_tx, returned, reported, reported_right, purge}
use Rattle.page_protocol.specs.Authority.{with_shared}
use Rattle.rule_laws.proofs.Lists.{contains_filtered}
use Rattle.rule_laws.proofs.Turns.{same_equal}
use Rattle.page_laws.specs.Entry.Looks.{IsAsked, AskingIsSeen, IsNext, EndingIsSeen, IsReturned, ReturningIsSeen, IsReported, HasRightToo, ReportingIsSeen, PurgingIsSeen}
use Rattle.page_laws.proofs.EntryParts.Words.{same_tells, same_swap, number_equal, number_self, number_swap, any_pushed, any_kept, pushed_in, mode_pushed, mode_kept}

-- choices and tests
pub or_none : (b : Bool) → b || false ≡ b
or_none true = refl
or_none false = refl

pub and_none : (b : Bool) → b && false ≡ false
and_none true = refl
and_none false = refl

and_one : (b : Bool) → b && true ≡ b
and_one true = refl
and_one false = refl

pub else_none : (o : Option Mode) → or_else o None ≡ o
else_none None = refl
else_none (Some m) = refl

else_some : (o x : Option Mode) → is_some o ≡ true → or_else o x ≡ o
else_some None x e = absurd (cc)
else_some (Some m) x e = refl

kept_side : (b : Bool) (o : Option Mode) → pick (not b) o None ≡ pick b None o
kept_side true o = refl
kept_side false o = refl

-- a request
pub asking_is_seen_law : AskingIsSeen
unfolding ask
asking_is_seen_law e w = by (waits_in e.waiting w.tx) refl (covers (mode_of e.holders w.tx) w.mode) refl
  where
    there : (t : TxId) → waits_in e.waiting w.tx ≡ true → waits_in e.waiting t ≡ waits_in e.waiting t || (same_tx w.tx t && not (covers (mode_of e.holders w.tx) w.mode))
    there t q =
        elim (same_tells w.tx t) [
          | inl same ↦
              let yes : waits_in e.waiting t ≡ true = subst (λ (x : TxId). waits_in e.waiting x ≡ true) same.1 q in
              yes ∙ sym (ap (λ b. b || (same_tx w.tx t && not (covers (mode_of e.holders w.tx) w.mode))) yes)
          | inr other ↦ sym (ap (λ b. waits_in e.waiting t || (b && not (covers (mode_of e.holders w.tx) w.mode))) other.0 ∙ or_none (waits_in e.waiting t))
        ]

    by : (b : Bool) → waits_in e.waiting w.tx ≡ b → (c : Bool) → covers (mode_of e.holders w.tx) w.mode ≡ c
        → IsAsked e w (pick (b || c) e (record e { waiting = e.waiting ++ w ∷ [] }))
    by true q c r = record { version = refl; holders = refl; rights = refl; waits = λ t. there t q; waiting = λ x i. inl i }
    by false q true r =
        record {
          version = refl;
          holders = refl;
          rights = refl;
          waits = λ t. sym (ap (λ d. waits_in e.waiting t || (same_tx w.tx t && not d)) r ∙ (ap (λ d. waits_in e.waiting t || d) (and_none (same_tx w.tx t)) ∙ or_none (waits_in e.waiting t)));
          waiting = λ x i. inl i;
        }
    by false q false r =
        record {
          version = refl;
          holders = refl;
          rights = refl;
          waits = λ t.
              any_pushed (λ x. same_tx x.tx t) e.waiting w
              ∙ sym (ap (λ d. waits_in e.waiting t || (same_tx w.tx t && not d)) r ∙ ap (λ d. waits_in e.waiting t || d) (and_one (same_tx w.tx t)));
          waiting = λ x i. pushed_in e.waiting w x i;
        }

-- holders, rights and those that wait, without a transaction or a node
without_mode : (hs : List Holder) (t u : TxId) → mode_of (holders_without hs t) u ≡ pick (same_tx t u) None (mode_of hs u)
without_mode hs t u =
    mode_kept (λ x. not (same_tx x t)) hs u
    ∙ (kept_side (same_tx u t) (mode_of hs u) ∙ ap (λ b. pick b None (mode_of hs u)) (same_swap u t))

without_waits : (ws : List Waiter) (t u : TxId) → waits_in (waiting_without ws t) u ≡ not (same_tx t u) && waits_in ws u
without_waits ws t u =
    any_kept (λ w. same_tx w.tx u) (λ w. not (same_tx w.tx t)) (not (same_tx t u))
    (λ w q. ap (λ (x : TxId). not (same_tx x t)) (same_equal w.tx u q) ∙ ap not (same_swap u t)) ws

without_right : (rs : List RightMark) (n m : ℕ) → has_right (rights_without rs n) m ≡ not (n == m) && has_right rs m
without_right rs n m =
    any_kept (λ r. r.node == m) (λ r. not (r.node == n)) (not (n == m))
    (λ r q. ap (λ x. not (x == n)) (number_equal r.node m q) ∙ ap not (number_swap m n)) rs

-- the end of a transaction
pub next_change : (e : LockEntry) (t : TxId) (v : ℕ) → (takes_change e t (Some v) ≡ true) ↔ IsNext e t v
unfolding takes_change
next_change e t v = (
  λ q. let both = both_true (holds_alone (mode_of e.holders t)) (v == e.version + 1) q in record { holds = writes (mode_of e.holders t) both.0; next = number_equal v (e.version + 1) both.1 },
  λ n.
      ap (λ (o : Option Mode). holds_alone o && v == e.version + 1) n.holds
      ∙ (ap (λ x. x == e.version + 1) n.next ∙ number_self (e.version + 1)),
)
  where
    both_true : (a b : Bool) → a && b ≡ true → (a ≡ true) × (b ≡ true)
    both_true true b q = (refl, q)
    both_true false b q = absurd (cc)

    writes : (o : Option Mode) → holds_alone o ≡ true → o ≡ Some Exclusive
    writes None q = absurd (cc)
    writes (Some Shared) q = absurd (cc)
    writes (Some Exclusive) q = refl

pub ending_is_seen_law : EndingIsSeen
unfolding end_tx
ending_is_seen_law e t =
    record {
      looks = λ change. record {
        holders = λ u. without_mode e.holders t u;
        rights = refl;
        waits = λ u. without_waits e.waiting t u;
        waiting = λ w c. contains_filtered (λ x. not (same_tx x.tx t)) e.waiting w c;
      };
      taken = next_change e t;
      version = λ change q. ap (λ b. pick b (e.version + 1) e.version) q;
      kept = λ change q. ap (λ b. pick b (e.version + 1) e.version) q;
    }

-- a right that comes back
registered_one : (hs : List Holder) (t u : TxId)
    → mode_of (pick (is_some (mode_of hs t)) hs (hs ++ record { tx = t; mode = Shared } ∷ [])) u ≡ pick (same_tx t u) (with_shared (mode_of hs u)) (mode_of hs u)
registered_one hs t u = by (is_some (mode_of hs t)) refl
  where
    stays : (o : Option Mode) → is_some o ≡ true → o ≡ with_shared o
    stays None q = absurd (cc)
    stays (Some m) q = refl

    comes : (o : Option Mode) (c : Bool) → or_else o (pick c (Some Shared) None) ≡ pick c (with_shared o) o
    comes None true = refl
    comes (Some m) true = refl
    comes None false = refl
    comes (Some m) false = refl

    by : (b : Bool) → is_some (mode_of hs t) ≡ b → mode_of (pick b hs (hs ++ record { tx = t; mode = Shared } ∷ [])) u ≡ pick (same_tx t u) (with_shared (mode_of hs u)) (mode_of hs u)
    by true q =
        elim (same_tells t u) [
          | inl same ↦
              stays (mode_of hs u) (subst (λ (x : TxId). is_some (mode_of hs x) ≡ true) same.1 q)
              ∙ sym (ap (λ b. pick b (with_shared (mode_of hs u)) (mode_of hs u)) same.0)
          | inr other ↦ sym (ap (λ b. pick b (with_shared (mode_of hs u)) (mode_of hs u)) other.0)
        ]
    by false q = mode_pushed hs (record { tx = t; mode = Shared }) u ∙ comes (mode_of hs u) (same_tx t u)

registered_mode : (hs : List Holder) (ts : List TxId) (u : TxId) → mode_of (register hs ts) u ≡ pick (among ts u) (with_shared (mode_of hs u)) (mode_of hs u)
unfolding register among
registered_mode hs [] u = refl
registered_mode hs (t ∷ ts) u =
    let later : List Holder = pick (is_some (mode_of hs t)) hs (hs ++ record { tx = t; mode = Shared } ∷ []) in
    registered_mode later ts u
    ∙ (ap (λ (o : Option Mode). pick (among ts u) (with_shared o) o) (registered_one hs t u) ∙ by (same_tx t u) (among ts u) (mode_of hs u))
  where
    by : (c d : Bool) (o : Option Mode) → pick d (with_shared (pick c (with_shared o) o)) (pick c (with_shared o) o) ≡ pick (c || d) (with_shared o) o
    by true true None = refl
    by true true (Some m) = refl
    by true false o = refl
    by false true o = refl
    by false false o = refl

pub returning_is_seen_law : ReturningIsSeen
unfolding returned
returning_is_seen_law e n readers = (there (has_right e.rights n), away (has_right e.rights n))
  where
    there : (b : Bool) → b ≡ true → IsReturned e n readers (pick b (record e { rights = rights_without e.rights n; holders = register e.holders readers }) e)
    there false q = absurd (cc)
    there true q =
        record {
          version = refl;
          holders = λ t. registered_mode e.holders readers t;
          rights = λ m. without_right e.rights n m;
          waiting = refl;
        }

    away : (b : Bool) → b ≡ false → pick b (record e { rights = rights_without e.rights n; holders = register e.holders readers }) e ≡ e
    away true q = absurd (cc)
    away false q = refl

-- what a report lists
pub reported_lock : (e : LockEntry) (t : TxId) (m : Mode) → IsReported e t m (reported e t m)
unfolding reported
reported_lock e t m = by (is_some (mode_of e.holders t)) refl
  where
    by : (b : Bool) → is_some (mode_of e.holders t) ≡ b → IsReported e t m (pick b e (record e { holders = e.holders ++ record { tx = t; mode = m } ∷ [] }))
    by true q =
        record {
          version = refl;
          holders = λ u. elim (same_tells t u) [
            | inl same ↦ sym (else_some (mode_of e.holders u) (pick (same_tx t u) (Some m) None) (subst (λ (x : TxId). is_some (mode_of e.holders x) ≡ true) same.1 q))
            | inr other ↦ sym (ap (λ b. or_else (mode_of e.holders u) (pick b (Some m) None)) other.0 ∙ else_none (mode_of e.holders u))
          ];
          rights = refl;
          waiting = refl;
        }
    by false q = record { version = refl; holders = λ u. mode_pushed e.holders (record { tx = t; mode = m }) u; rights = refl; waiting = refl }

pub reported_too : (e : LockEntry) (n : ℕ) → HasRightToo e n (reported_right e n)
unfolding reported_right
reported_too e n = by (has_right e.rights n) refl
  where
    same : (m : ℕ) (c : Bool) → has_right e.rights n ≡ true → (n == m) ≡ c → has_right e.rights m ≡ has_right e.rights m || c
    same m true q f = let yes : has_right e.rights m ≡ true = subst (λ x. has_right e.rights x ≡ true) (number_equal n m f) q in yes ∙ sym (ap (λ b. b || true) yes)
    same m false q f = sym (or_none (has_right e.rights m))

    by : (b : Bool) → has_right e.rights n ≡ b → HasRightToo e n (pick b e (record e { rights = e.rights ++ record { node = n; revoked = false } ∷ [] }))
    by true q = record { version = refl; holders = refl; rights = λ m. same m (n == m) q refl; waiting = refl }
    by false q =
        record {
          version = refl;
          holders = refl;
          rights = λ m. any_pushed (λ r. r.node == m) e.rights (record { node = n; revoked = false });
          waiting = refl;
        }

pub reporting_is_seen_law : ReportingIsSeen
reporting_is_seen_law e = (reported_lock e, reported_too e)

-- a purge
pub purging_is_seen_law : PurgingIsSeen
unfolding purge
purging_is_seen_law e live =
    record {
      version = refl;
      holders = λ t. mode_kept (λ x. flag_at live x.node) e.holders t;
      rights = λ n. any_kept (λ r. r.node == n) (λ r. flag_at live r.node) (flag_at live n) (λ r q. ap (λ x. flag_at live x) (number_equal r.node n q)) e.rights;
      waits = λ t. any_kept (λ w. same_tx w.tx t) (λ w. flag_at live w.tx.node) (flag_at live t.node) (λ w q. ap (λ (x : TxId). flag_at live x.node) (same_equal w.tx t q)) e.waiting;
      waiting = λ w c. contains_filtered (λ x. flag_at live x.tx.node) e.waiting w c;
    }
