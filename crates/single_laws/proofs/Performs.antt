-- A granted access: it finds its page as it is, and the node is alone after it.
use Rattle.std.proofs.Common.{◌≡◌, refl, sym, ap, subst, ◌∙◌, ℕ, ◌<◌, ◌≤◌, ◌==◌, ◌&&◌, Bool, true, false, List, [], ◌∷◌, ◌++◌, length, None, Some, is_some, arith, ◌+◌}
use Rattle.std.specs.Prelude.{Option, IfSome, option_map}
use Rattle.std.proofs.lemmas.Bool.Decides.{nat_tests}
use Rattle.pcl_base.specs.Limits.{Sizes}
use Rattle.pcl_base.specs.declared.tx.TxId.{TxId}
use Rattle.pcl_base.specs.declared.event.Event.TheVariants as event
use Rattle.pcl_base.specs.declared.script.Step.{Step}
use Rattle.pcl_base.specs.declared.trace.Sent.{Sent}
use Rattle.text_rules.specs.StoredPage.{PageAt}
use Rattle.run_rules.specs.Words.{same_tx}
use Rattle.run_rules.specs.Base.{Base, version_at, bytes_at, put_over}
use Rattle.run_rules.specs.Disk.{Disk}
use Rattle.run_rules.specs.Script.{Asks, Gets, script}
use Rattle.run_rules.specs.Now.{Story}
use Rattle.run_rules.specs.Fresh.{written_over, is_current}
use Rattle.node_rules.specs.Words.{pick}
use Rattle.node_rules.specs.BufferRule.{Copy, PrivateCopy, copy_at, copy_of_slot, find, has_private, private_at, private_bytes, bytes_of_private, bytes_of_copy, version_of_copy, over_filled, touch, fill, change}
use Rattle.node_rules.specs.LockTable.{LockTable}
use Rattle.node_rules.specs.DiskCalls.{all_done}
use Rattle.node_rules.specs.Work.{HomeWork, Outcome, read_page}
use Rattle.node_rules.specs.AccessRule.{bytes_or, bytes_read, version_or, filled, perform}
use Rattle.buffer_pool.specs.Buffer.{IsBuffer}
use Rattle.home_laws.specs.Homes.{IsHome, IsWithin}
use Rattle.home_laws.proofs.Tests.{some_there, number_equal}
use Rattle.home_laws.proofs.SlotFound.{front_same}
use Rattle.home_laws.proofs.Privates.{private_among}
use Rattle.home_laws.proofs.Runs.{put_here as runs_here, put_there as runs_there}
use Rattle.page_laws.proofs.WrittenParts.Patches.{Outside, outside_more}
use Rattle.node_rules.specs.NodeState.{Run, cover, runs_at, put_runs}
use Rattle.home_laws.proofs.PrivateLooks.{with_bytes, changed_here}
use Rattle.home_laws.proofs.Performed.{IsDone, written_done, pool_written}
use Rattle.home_laws.proofs.Steps.{other_page}
use Rattle.single_laws.proofs.Working.{Working, Puts, reads, writes_more, same_test}
use Rattle.single_laws.proofs.Told.{Fits, entry, tx, tx_other, seen_read, seen_write, read_fits, write_fits, script-asks, own_read, other_read, own_write, other_write}
use Rattle.single_laws.proofs.Pages.{PageIs, at, same_copies}
use Rattle.single_laws.proofs.Alone.{look_of, Busy, Somebody, Kept, Alone, alone_again}

-- a copy that is there is the page's
copy_version : (o : Option Copy) (r : Outcome PageAt) (x : PageAt) → is_some o ≡ true → PageIs o r x → version_or (version_of_copy o) ≡ x.version
copy_version None r x e is = absurd (cc)
copy_version (Some c) r x e is = is.0

copy_bytes : (o : Option Copy) (r : Outcome PageAt) (x : PageAt) → is_some o ≡ true → PageIs o r x → bytes_of_copy o ≡ x.bytes
copy_bytes None r x e is = absurd (cc)
copy_bytes (Some c) r x e is = is.1

both_true : (a b : Bool) → a ≡ true → b ≡ true → (a && b) ≡ true
both_true true b e f = f
both_true false b e f = e

-- a later transaction is another one
other_later : (t : TxId) (last k : ℕ) → t ≡ tx t.serial → t.serial ≤ last → last < k → same_tx (tx k) t ≡ false
other_later t last k name recent later = ap (same_tx (tx k)) name ∙ tx_other k t.serial (omega (arith, recent, later))

module _ (c : Sizes) (base : Base) (d : Disk) (s : Story) (t : TxId) (p : ℕ) (w : HomeWork) (tb : LockTable)
    (kept : Kept c base d s w) (busy : Busy w.home tb base s t) (below : p < c.pages) (there : is_some (copy_at w.home.pool p) ≡ true) (serving : tb.serving ≡ true) where
  page : PageIs (copy_at w.home.pool p) (read_page w.pages p) (at base p)
  page = kept.pages.pages p below

  version_is : version_or (find w.home.pool p) ≡ version_at base p
  version_is = copy_version (copy_at w.home.pool p) (read_page w.pages p) (at base p) there page

  bytes_are : bytes_of_copy (copy_at w.home.pool p) ≡ bytes_at base p
  bytes_are = copy_bytes (copy_at w.home.pool p) (read_page w.pages p) (at base p) there page

  seen_is : bytes_read w.home.pool t p ≡ bytes_or (look_of w.home.pool t p) (bytes_at base p)
  seen_is = ap (bytes_or (look_of w.home.pool t p)) bytes_are

  version_test : (version_or (find w.home.pool p) == version_at base p) ≡ true
  version_test = let e = version_is in grind (arith, nat_tests)

  -- a read
  read_current : is_current base (s.seen ++ Asks t None ∷ []) (Gets t p (version_or (find w.home.pool p)) (bytes_read w.home.pool t p)) ≡ true
  read_current =
      both_true _ _ version_test
      (same_test (bytes_read w.home.pool t p) (written_over (script t (s.seen ++ Asks t None ∷ [])) p (bytes_at base p))
      (seen_is ∙ sym (busy.work.over p) ∙ ap (λ (steps : List Step). written_over steps p (bytes_at base p)) (sym (script-asks t t None s.seen))))

  inside : p < length base
  inside = let count = kept.fine.count in omega (arith, below, count)

  pub read_done : IsHome (perform t p None w).work.home → (sent : List Sent)
      → Fits s (entry (event.Read t p) ((perform t p None w).reply ∷ []) sent) (λ u. Alone c (perform t p None w).work.home tb (all_done 0 d w.calls) u)
  unfolding perform touch
  read_done home sent =
      read_fits s base t p (version_or (find w.home.pool p)) (bytes_read w.home.pool t p) sent _ kept.known read_current
      (alone_again c base d after_read (perform t p None w).work tb home
      (record {
        config = kept.config;
        node = kept.node;
        born = kept.born;
        known = kept.known;
        fine = kept.fine;
        pages = same_copies c base d w (perform t p None w).work.home (λ q. ap copy_of_slot (front_same w.home.pool.slots p q)) kept.pages;
        serials = kept.serials;
        later = λ k above. other_read (tx k) t s.seen p (version_or (find w.home.pool p)) (bytes_read w.home.pool t p) (other_later t w.home.txs.last k busy.name busy.recent above) ∙ kept.later k above;
      })
      serving
      (Somebody t
      (record {
        there = busy.there;
        one = busy.one;
        name = busy.name;
        recent = busy.recent;
        waits = busy.waits;
        own = busy.own;
        entries = busy.entries;
        work =
            subst (λ steps. Working steps base (look_of w.home.pool t)) (sym (own_read t s.seen p (version_or (find w.home.pool p)) (bytes_read w.home.pool t p)))
            (reads (script t s.seen) base (look_of w.home.pool t) p (bytes_read w.home.pool t p) busy.work inside seen_is);
        wrote = busy.wrote;
      })))
    where
      after_read : Story
      after_read = seen_read s t p (version_or (find w.home.pool p)) (bytes_read w.home.pool t p)

  -- a write
  module _ (x : ℕ × List ℕ) (buffer : IsBuffer w.home.pool) (size : w.home.pool.size ≡ c.size) (within : IsWithin c.size x) (has : has_private w.home.pool t p ≡ true) where
    done : IsDone t p w.home.pool (pool_written w.home.pool t p x.0 x.1)
    done = let fits = within.1 in written_done t p x.0 x.1 w.home.pool buffer there (omega (arith, fits, size))

    -- the bytes of the private copy before it is written
    filled_bytes : private_bytes (filled (touch w.home.pool p) t p) t p ≡ Some (bytes_or (look_of w.home.pool t p) (bytes_at base p))
    unfolding fill touch
    filled_bytes = by (private_bytes w.home.pool t p) refl
      where
        found : (y : PrivateCopy) × (private_at w.home.pool t p ≡ Some y)
        found = some_there (private_at w.home.pool t p) has

        new : List ℕ
        new = bytes_of_copy (copy_at (touch w.home.pool p) p)

        by : (o : Option (List ℕ)) → private_bytes w.home.pool t p ≡ o
            → private_bytes (filled (touch w.home.pool p) t p) t p ≡ Some (bytes_or o (bytes_at base p))
        by (Some bytes) e = ap (λ (o : Option (List ℕ)). private_bytes (pick (is_some o) (touch w.home.pool p) (fill (touch w.home.pool p) t p)) t p) e ∙ e
        by None e =
            ap (λ (o : Option (List ℕ)). private_bytes (pick (is_some o) (touch w.home.pool p) (fill (touch w.home.pool p) t p)) t p) e
            ∙ ap bytes_of_private (changed_here (λ old. Some new) w.home.pool.privates t p ∙ ap (option_map (with_bytes (λ old. Some new))) found.1)
            ∙ ap (λ (o : Option Copy). Some (bytes_of_copy o)) (ap copy_of_slot (front_same w.home.pool.slots p p))
            ∙ ap (λ (bs : List ℕ). Some bs) bytes_are

    mapped_bytes : (f : Option (List ℕ) → Option (List ℕ)) → (o : Option PrivateCopy) → is_some o ≡ true → bytes_of_private (option_map (with_bytes f) o) ≡ f (bytes_of_private o)
    mapped_bytes f None e = absurd (cc)
    mapped_bytes f (Some y) e = refl

    filled_has : has_private (filled (touch w.home.pool p) t p) t p ≡ true
    filled_has = some_of (private_at (filled (touch w.home.pool p) t p) t p) (ap is_some filled_bytes)
      where
        some_of : (o : Option PrivateCopy) → is_some (bytes_of_private o) ≡ true → is_some o ≡ true
        some_of None e = absurd (cc)
        some_of (Some y) e = refl

    put_here : private_bytes (pool_written w.home.pool t p x.0 x.1) t p ≡ Some (put_over x.0 x.1 (bytes_or (look_of w.home.pool t p) (bytes_at base p)))
    unfolding change
    put_here =
        ap bytes_of_private (changed_here (over_filled x.0 x.1) (filled (touch w.home.pool p) t p).privates t p)
        ∙ mapped_bytes (over_filled x.0 x.1) (private_at (filled (touch w.home.pool p) t p) t p) filled_has
        ∙ ap (over_filled x.0 x.1) filled_bytes

    puts : Puts base (look_of w.home.pool t) (look_of (pool_written w.home.pool t p x.0 x.1) t) p x.0 x.1
    puts = record { here = put_here; there = λ q other. done.others t q (other_page t p q other) }

    -- the bytes before are those of a page
    long : length (bytes_or (look_of w.home.pool t p) (bytes_at base p)) ≡ c.size
    long = by (private_at w.home.pool t p) (private_among (λ y. IfSome y.bytes (λ bytes. length bytes ≡ w.home.pool.size)) w.home.pool.privates t p buffer.images)
      where
        of : (o : Option (List ℕ)) → IfSome o (λ bytes. length bytes ≡ w.home.pool.size) → length (bytes_or o (bytes_at base p)) ≡ c.size
        of None is = kept.fine.sizes p below
        of (Some bytes) is = is ∙ size

        by : (o : Option PrivateCopy) → IfSome o (λ y. IfSome y.bytes (λ bytes. length bytes ≡ w.home.pool.size)) → length (bytes_or (bytes_of_private o) (bytes_at base p)) ≡ c.size
        by None is = kept.fine.sizes p below
        by (Some y) is = of y.bytes is

    -- the places that were written
    abbrev places : List Run
    places = cover (runs_at w.home.written t p) x.0 (x.0 + length x.1)

    wrote_more : (q : ℕ) → Outside (runs_at (put_runs w.home.written t p places) t q) (bytes_at base q) (bytes_or (look_of (pool_written w.home.pool t p x.0 x.1) t q) (bytes_at base q))
    wrote_more q = by (p == q) refl
      where
        here : Outside (runs_at (put_runs w.home.written t p places) t p) (bytes_at base p) (bytes_or (look_of (pool_written w.home.pool t p x.0 x.1) t p) (bytes_at base p))
        here =
            subst (λ rs. Outside rs (bytes_at base p) (bytes_or (look_of (pool_written w.home.pool t p x.0 x.1) t p) (bytes_at base p))) (sym (runs_here w.home.written t p places))
            (subst (λ o. Outside places (bytes_at base p) (bytes_or o (bytes_at base p))) (sym put_here)
            (outside_more (runs_at w.home.written t p) (bytes_at base p) (bytes_or (look_of w.home.pool t p) (bytes_at base p)) x.0 x.1 (let fits = within.1 in omega (arith, fits, long)) (busy.wrote p)))

        by : (e : Bool) → (p == q) ≡ e → Outside (runs_at (put_runs w.home.written t p places) t q) (bytes_at base q) (bytes_or (look_of (pool_written w.home.pool t p x.0 x.1) t q) (bytes_at base q))
        by true e =
            subst (λ n. Outside (runs_at (put_runs w.home.written t p places) t n) (bytes_at base n) (bytes_or (look_of (pool_written w.home.pool t p x.0 x.1) t n) (bytes_at base n))) (number_equal p q e) here
        by false e =
            subst (λ rs. Outside rs (bytes_at base q) (bytes_or (look_of (pool_written w.home.pool t p x.0 x.1) t q) (bytes_at base q))) (sym (runs_there w.home.written t t p q places (other_page t p q e)))
            (subst (λ o. Outside (runs_at w.home.written t q) (bytes_at base q) (bytes_or o (bytes_at base q))) (sym (puts.there q e)) (busy.wrote q))

    pub write_done : IsHome (perform t p (Some x) w).work.home → (sent : List Sent)
        → Fits s (entry (event.Write t p x.0 x.1) ((perform t p (Some x) w).reply ∷ []) sent) (λ u. Alone c (perform t p (Some x) w).work.home tb (all_done 0 d w.calls) u)
    unfolding perform
    write_done home sent =
        write_fits s base t p (version_or (find w.home.pool p)) x sent _ kept.known version_test
        (alone_again c base d after_write (perform t p (Some x) w).work tb home
        (record {
          config = kept.config;
          node = kept.node;
          born = kept.born;
          known = kept.known;
          fine = kept.fine;
          pages = same_copies c base d w (perform t p (Some x) w).work.home (λ q. ap copy_of_slot (done.slots q)) kept.pages;
          serials = kept.serials;
          later = λ k above. other_write (tx k) t s.seen p (version_or (find w.home.pool p)) x (other_later t w.home.txs.last k busy.name busy.recent above) ∙ kept.later k above;
        })
        serving
        (Somebody t
        (record {
          there = busy.there;
          one = busy.one;
          name = busy.name;
          recent = busy.recent;
          waits = busy.waits;
          own = busy.own;
          entries = busy.entries;
          work =
              subst (λ steps. Working steps base (look_of (pool_written w.home.pool t p x.0 x.1) t)) (sym (own_write t s.seen p (version_or (find w.home.pool p)) x))
              (writes_more (script t s.seen) base (look_of w.home.pool t) (look_of (pool_written w.home.pool t p x.0 x.1) t) p x.0 x.1 busy.work puts);
          wrote = wrote_more;
        })))
      where
        after_write : Story
        after_write = seen_write s t p (version_or (find w.home.pool p)) x
