-- The entry of a page after a report was put into its table.
use Rattle.std.proofs.Common.{◌≡◌, ◌⊎◌, inl, inr, refl, ap, sym, subst, ◌∙◌, ℕ, ◌<◌, ◌≤◌, ◌==◌, ◌&&◌, ◌||◌, nat_lt, Bool, true, false, List, [], ◌∷◌, length, Option, Some, None, arith, eqb-true}
use Rattle.std.specs.List.{AllByRecursion}
use Rattle.std.proofs.lemmas.Bool.Decides.{nat_tests}
use Rattle.pcl_base.specs.declared.message.Report.{Report}
use Rattle.pcl_base.specs.declared.message.ReportLock.{ReportLock}
use Rattle.pcl_base.specs.declared.tx.Mode.{Mode}
use Rattle.pcl_base.specs.declared.tx.Mode.TheVariants.{Exclusive}
use Rattle.pcl_base.specs.declared.tx.TxId.{TxId}
use Rattle.node_rules.specs.LockRule.{has_right, mode_of, waits_in}
use Rattle.node_rules.specs.LockTable.{LockTable, entry_at, marked}
use Rattle.node_rules.specs.Reports.{gather}
use Rattle.node_rules.specs.Words.{pick, same_tx, or_else}
use Rattle.rule_laws.proofs.Turns.{same_equal}
use Rattle.page_laws.specs.Entry.Tables.{ReportIsSeen, IsGathered, IsListed}
use Rattle.page_laws.specs.Entry.Tables as entry
use Rattle.page_laws.proofs.EntryParts.Gathered.{gathering_is_seen_law}
use Rattle.page_laws.proofs.EntryParts.Words.{all_from, all_in}
use Rattle.page_protocol.specs.State.{Page}
use Rattle.page_relation.specs.Messages.{ReportIs, WaitIs, lists_right, CountsFor}
use Rattle.page_relation.specs.Messages as said
use Rattle.page_relation.specs.Tables.{IsRebuilt, WaiterIs}
use Rattle.report_relation.specs.Gathering.{LocksAreOf, NoneIsAhead}

-- ---- what a report lists

-- both words for it are one
listed_same : (xs : List ReportLock) (u : TxId) (p : ℕ) → entry.mode_listed xs u p ≡ said.mode_listed xs u p
unfolding entry.mode_listed said.mode_listed
listed_same [] u p = refl
listed_same (x ∷ xs) u p = ap (λ (o : Option Mode). pick (same_tx x.tx u && x.page == p) (Some x.mode) o) (listed_same xs u p)

-- nothing of another node
none_listed : (from p : ℕ) (u : TxId) (xs : List ReportLock) → AllByRecursion (λ (x : ReportLock). x.tx.node ≡ from) xs → (from == u.node) ≡ false → entry.mode_listed xs u p ≡ None
unfolding entry.mode_listed
none_listed from p u [] all other = refl
none_listed from p u (x ∷ xs) all other = by (same_tx x.tx u) refl (none_listed from p u xs all.1 other)
  where
    by : (b : Bool) → same_tx x.tx u ≡ b → entry.mode_listed xs u p ≡ None → pick (b && x.page == p) (Some x.mode) (entry.mode_listed xs u p) ≡ None
    by true is rest =
        let same : x.tx.node ≡ u.node = ap (λ (t : TxId). t.node) (same_equal x.tx u is) in
        let node : x.tx.node ≡ from = all.0 in
        absurd (grind (arith, nat_tests, other, same, node))
    by false is rest = rest

or_itself : (x : Option Mode) → or_else x x ≡ x
or_itself None = refl
or_itself (Some m) = refl

or_nothing : (x : Option Mode) → or_else x None ≡ x
or_nothing None = refl
or_nothing (Some m) = refl

-- who holds the page then
holders_by : (b d : Bool) (x l : Option Mode) → (d ≡ true → l ≡ x) → (d ≡ false → l ≡ None) → or_else (pick b x None) l ≡ pick (b || d) x None
holders_by true true x l own none = ap (λ (o : Option Mode). or_else x o) (own refl) ∙ or_itself x
holders_by true false x l own none = ap (λ (o : Option Mode). or_else x o) (none refl) ∙ or_nothing x
holders_by false true x l own none = own refl
holders_by false false x l own none = none refl

and_true : (b d : Bool) → d ≡ true → b && d ≡ b
and_true true d is = is
and_true false d is = refl

or_true : (b d : Bool) → b || d ≡ true → (b ≡ true) ⊎ (d ≡ true)
or_true true d is = inl refl
or_true false d is = inr is

true_or : (b d : Bool) → b ≡ true → b || d ≡ true
true_or true d is = refl
true_or false d is = absurd (cc)

or_last : (b d : Bool) → d ≡ true → b || d ≡ true
or_last true d is = refl
or_last false d is = is

module _ (a : Page) (p from e : ℕ) (r : Report) (t : LockTable) (known : from < length t.reported) (of : LocksAreOf from r) (behind : NoneIsAhead a.listed e p t) (says : ReportIs a.era a.reached a.listed a.right a.home p from e r) (is : IsRebuilt a.era a.listed a.right a.reached a.home e t (entry_at t p)) where
  seen : ReportIsSeen t from r
  seen = gathering_is_seen_law t from r

  at_page : IsGathered p from r (entry_at t p) (entry_at (gather t from r) p)
  at_page = seen.entries p

  -- one node more is marked
  marks_are : (m : ℕ) → marked (gather t from r) m ≡ marked t m || from == m
  marks_are m =
      let room : nat_lt from (length t.reported) ≡ true = grind (arith, nat_tests, known) in
      seen.marks m ∙ ap (λ (b : Bool). marked t m || b) (and_true (from == m) (nat_lt from (length t.reported)) room)

  marked_by : (m : ℕ) → marked (gather t from r) m ≡ true → (marked t m ≡ true) ⊎ (from ≡ m)
  marked_by m on =
      elim (or_true (marked t m) (from == m) (sym (marks_are m) ∙ on)) [ inl old ↦ inl old | inr new ↦ inr (eqb-true from m new) ]

  lists_own : (u : TxId) → (from == u.node) ≡ true → entry.mode_listed r.locks u p ≡ a.listed u e
  lists_own u same = listed_same r.locks u p ∙ says.locks u (sym (eqb-true from u.node same))

  holders_are : (u : TxId) → mode_of (entry_at (gather t from r) p).holders u ≡ pick (marked (gather t from r) u.node) (a.listed u e) None
  holders_are u =
      at_page.holders u
      ∙ ap (λ (o : Option Mode). or_else o (entry.mode_listed r.locks u p)) (is.holders u)
      ∙ holders_by (marked t u.node) (from == u.node) (a.listed u e) (entry.mode_listed r.locks u p) (lists_own u) (λ other. none_listed from p u r.locks of other)
      ∙ ap (λ (b : Bool). pick b (a.listed u e) None) (sym (marks_are u.node))

  rights_are : (m : ℕ) → marked (gather t from r) m ≡ true → CountsFor e (a.right m) → has_right (entry_at (gather t from r) p).rights m ≡ true
  rights_are m on counts =
      at_page.rights m
      ∙ elim (marked_by m on) [
        | inl old ↦ true_or (has_right (entry_at t p).rights m) (from == m && lists_right r.rights p) (is.rights m old counts)
        | inr new ↦
            or_last (has_right (entry_at t p).rights m) (from == m && lists_right r.rights p)
            (let same : (from == m) ≡ true = grind (arith, nat_tests, new) in
            ap (λ (b : Bool). b && lists_right r.rights p) same ∙ says.rights (subst (λ (k : ℕ). CountsFor e (a.right k)) (sym new) counts))
      ]

  waiting_are : AllByRecursion (WaiterIs a.reached a.home e) (entry_at (gather t from r) p).waiting
  waiting_are =
      all_from (WaiterIs a.reached a.home e) (entry_at (gather t from r) p).waiting
      (λ w inside. elim (at_page.waiting w inside) [
        | inl old ↦ all_in (WaiterIs a.reached a.home e) (entry_at t p).waiting w is.waiting old
        | inr new ↦
            subst (WaiterIs a.reached a.home e) (sym new.same)
            (all_in (WaitIs a.reached a.home p e) r.waits new.item says.waits new.inside new.page)
      ])

  none_waits : (u : TxId) → entry.mode_listed r.locks u p ≡ Some Exclusive → waits_in (entry_at t p).waiting u ≡ false
  none_waits u writes = by (from == u.node) refl (marked t u.node) refl
    where
      by : (d : Bool) → (from == u.node) ≡ d → (b : Bool) → marked t u.node ≡ b → waits_in (entry_at t p).waiting u ≡ false
      by true same true on =
          is.writers u (is.holders u ∙ ap (λ (b : Bool). pick b (a.listed u e) None) on ∙ sym (lists_own u same) ∙ writes)
      by true same false off = behind u off (sym (lists_own u same) ∙ writes)
      by false other b on = let none : entry.mode_listed r.locks u p ≡ None = none_listed from p u r.locks of other in absurd (cc)

  pub gathered_is : IsRebuilt a.era a.listed a.right a.reached a.home e (gather t from r) (entry_at (gather t from r) p)
  gathered_is =
      record {
        later = is.later;
        reaches = λ m on. elim (marked_by m on) [ inl old ↦ is.reaches m old | inr new ↦ subst (λ (k : ℕ). e ≤ a.reached k) new says.reaches ];
        holders = holders_are;
        rights = rights_are;
        waiting = waiting_are;
        writers = at_page.writers none_waits is.writers;
      }
