-- An access that isn't refused, at each page.
use Rattle.std.proofs.Common.{◌≡◌, refl, ap, sym, subst, ◌∙◌, ℕ, ◌<◌, ◌==◌, Bool, true, false, List, [], ◌∷◌, Option, Some, None, is_some, eqb-true}
use Rattle.pcl_base.specs.Limits.{Sizes}
use Rattle.pcl_base.specs.declared.event.Event.{Event}
use Rattle.pcl_base.specs.declared.message.Body.TheVariants as body
use Rattle.pcl_base.specs.declared.reply.Reply.TheVariants as reply
use Rattle.run_rules.specs.Script.{Asks, asked}
use Rattle.run_rules.specs.Views.{View}
use Rattle.node_rules.specs.AccessRule.{Access, is_allowed, is_held, perform}
use Rattle.node_rules.specs.InstallRule.{owned_before}
use Rattle.node_rules.specs.LockRule.{ask}
use Rattle.node_rules.specs.LockTable.{LockTable, entry_at}
use Rattle.node_rules.specs.NodeState.{NodeState, owner_in, partition, page_owner, number_of, table_at, table_of}
use Rattle.node_rules.specs.OwnerRule.{do_access, enter, enter_in, settle_page, told, waits_first}
use Rattle.node_rules.specs.Shelf as rules
use Rattle.node_rules.specs.Work.{Work, Outcome, Goes, Differs, and_so, send, work_of_home}
use Rattle.home_laws.specs.Homes.{IsHome}
use Rattle.home_laws.specs.Refused.{access_refusal}
use Rattle.node_laws.proofs.Bases.{base_of}
use Rattle.cluster_rules.specs.Clusters.{Cluster, node_at}
use Rattle.cluster_laws.specs.Sound.{IsMember, IsCluster}
use Rattle.cluster_laws.proofs.Steps.{up_is_member_law}
use Rattle.cluster_laws.specs.Link.Coming.{delivers}
use Rattle.cluster_laws.specs.Link.EpochLaws.{IsInOrder}
use Rattle.page_protocol.specs.State.{Page}
use Rattle.page_protocol.specs.Steps.{Reached}
use Rattle.page_protocol.proofs.Keeps.{and_then as runs_then}
use Rattle.page_relation.specs.Work.Events.{IsEntered}
use Rattle.page_relation.specs.Work.Keeping.{IsWorkOf, Leads}
use Rattle.page_relation.specs.Work.Landing.{Acts}
use Rattle.page_relation.specs.Work.StepEnds.{start_of}
use Rattle.page_relation.specs.Work.Unseen.{IsUnseen}
use Rattle.page_relation.proofs.WorkParts.Framing.{unseen_is_kept_law, unseen_then}
use Rattle.page_relation.proofs.WorkParts.Kept.{reached_on, leads_on}
use Rattle.page_relation.proofs.WorkParts.Letting.{frames_keep_law}
use Rattle.page_relation.proofs.WorkParts.Quiet.{entries_elsewhere_law, quiet_replies_law, sends_elsewhere_law}
use Rattle.end_relation.specs.Access.Events.{HasAskedAll}
use Rattle.end_relation.specs.Access.Midway.{SettleKeeps}
use Rattle.end_relation.proofs.AccessParts.Done.{held_leads, under_leads}
use Rattle.end_relation.proofs.AccessParts.Elsewhere.{read_elsewhere, write_elsewhere, under_elsewhere, wait_elsewhere}
use Rattle.end_relation.proofs.AccessParts.Entering.{entered_related, waits_related}
use Rattle.end_relation.proofs.AccessParts.Framed.{framed, owned, may, beside, opened, idle, mine, writable, held_goes, reader, allowed_goes, not_owned, has_right, waiter, request, item, replied, owner_goes, own_goes}
use Rattle.end_relation.proofs.AccessParts.Looking.{own_page}
use Rattle.end_relation.proofs.AccessParts.Midway.{asked_now, entered, entered_midway}
use Rattle.end_relation.proofs.AccessParts.Requesting.{asked_entered, asked_leads, asked_page, asked_related, asked_run, has_asked}

same_outcome : (x y : Work) (o : Outcome Work) → o ≡ Goes x → o ≡ Goes y → x ≡ y
same_outcome x y o e f = by (sym e ∙ f)
  where
    by : (let k : Outcome Work = Goes x in k) ≡ Goes y → x ≡ y
    by same = cc

-- what goes on after an outcome
went : (o : Outcome Work) (f : Work → Work) (y : Work) → and_so o f ≡ Goes y → (m : Work) × (o ≡ Goes m) × (f m ≡ y)
went (Goes m) f y e = (m, refl, cc)
went (Differs q expected found) f y e = absurd (cc)

module _ (c : Cluster) (e : Event) (n p : ℕ) (s : NodeState) (x : Access) (i : IsCluster c) (up : node_at c n ≡ Some s) (fine : access_refusal x s.home ≡ None)
    (tells : asked e ≡ Asks x.tx x.write ∷ []) (v : View) (viewed : s.view ≡ Some v) (low : p < c.config.pages) (blank : List ℕ) (a : Page) (reached : Reached blank a)
    (enters : IsEntered a) (started : IsWorkOf c e n p (start_of c s) a) where
  abbrev w : Work
  w = start_of c s

  member : IsMember c.config c.views n s
  member = (up_is_member_law c n s i up).1

  pub acts : Acts c n
  acts = record { cluster = i; known = (up_is_member_law c n s i up).0 }

  abbrev home : IsHome s.home
  home = (up_is_member_law c n s i up).1.sound.home

  at : x.tx.node ≡ n
  at = mine x w home fine ∙ member.number

  abbrev y : Work
  y = framed x w home fine

  -- the frames
  first : Leads c e n p (λ k b. IsEntered b) a y
  first = frames_keep_law c e n p x acts low blank w y a reached started (record { entered = enters; home = home; allowed = fine; called = refl }) refl

  first_reached : Reached blank first.page
  first_reached = reached_on blank a first.page reached first.run

  -- at the page of the access itself, and at another one
  own_page_leads : (z : Work) → x.page ≡ p → ((b : Page) → Reached blank b → IsWorkOf c e n x.page y b → IsEntered b → Leads c e n x.page (λ k b. IsEntered b) b z)
      → Leads c e n p (λ k b. IsEntered b) a z
  own_page_leads z same leads =
      leads_on c e n p (λ k b. IsEntered b) a first.page z first.run
      (subst (λ (q : ℕ). Leads c e n q (λ k b. IsEntered b) first.page z) same
      (leads first.page first_reached (subst (λ (q : ℕ). IsWorkOf c e n q y first.page) (sym same) first.related) first.known))

  other_page_leads : (z : Work) → IsUnseen c e n p y z → Leads c e n p (λ k b. IsEntered b) a z
  other_page_leads z unseen = record { page = first.page; run = first.run; related = unseen_is_kept_law c e n p y z first.page acts unseen first.related; known = first.known }

  by_page : (z : Work) → ((b : Page) → Reached blank b → IsWorkOf c e n x.page y b → IsEntered b → Leads c e n x.page (λ k b. IsEntered b) b z)
      → ((x.page == p) ≡ false → IsUnseen c e n p y z) → Leads c e n p (λ k b. IsEntered b) a z
  by_page z leads unseen = by (x.page == p) refl
    where
      by : (b : Bool) → (x.page == p) ≡ b → Leads c e n p (λ k b. IsEntered b) a z
      by true same = own_page_leads z (eqb-true x.page p same) leads
      by false other = other_page_leads z (unseen other)

  -- ---- done at once

  held_unseen : is_held x s.home ≡ true → (x.page == p) ≡ false → IsUnseen c e n p y (told y (perform x.tx x.page x.write (work_of_home y)))
  held_unseen held other = by x.write refl
    where
      by : (o : Option (ℕ × List ℕ)) → x.write ≡ o → IsUnseen c e n p y (told y (perform x.tx x.page o (work_of_home y)))
      by None is = read_elsewhere c e n p x.page other y x.tx
      by (Some write) is = write_elsewhere c e n p x.page other y x.tx write (writable x w home fine held write is) (asked_now c e n s x i up fine tells ∙ is)

  held_done : is_held x s.home ≡ true → Leads c e n p (λ k b. IsEntered b) a (told y (perform x.tx x.page x.write (work_of_home y)))
  held_done held =
      by_page (told y (perform x.tx x.page x.write (work_of_home y)))
      (λ b reach is known. held_leads c e n acts x w home fine at member.config (asked_now c e n s x i up fine tells) b blank reach is known held)
      (held_unseen held)

  not_own : is_allowed x (owned x w home fine) s.home ≡ true → owned_before y.node.view (partition y.node.home.config x.page) (number_of y.node) ≡ false
  not_own allows =
      (λ j. owned_before s.view (partition ((beside x w home fine).life.config j) x.page) ((beside x w home fine).life.node j))
      ∙ subst (λ (o : Option View). (owner_in o (partition s.home.config x.page) == number_of s) ≡ false → owned_before o (partition s.home.config x.page) (number_of s) ≡ false) (sym viewed)
      (λ off. off) (not_owned x w home fine allows)

  under_done : is_held x s.home ≡ false → is_allowed x (owned x w home fine) s.home ≡ true
      → Leads c e n p (λ k b. IsEntered b) a (told (reader x w home fine) (perform x.tx x.page None (work_of_home (reader x w home fine))))
  under_done held allows =
      by_page (told (reader x w home fine) (perform x.tx x.page None (work_of_home (reader x w home fine))))
      (λ b reach is known.
      under_leads c e n acts x w home fine at member.config (asked_now c e n s x i up fine tells) b blank reach is known held allows (not_own allows))
      (λ other.
      unseen_then c e n p y (reader x w home fine) (told (reader x w home fine) (perform x.tx x.page None (work_of_home (reader x w home fine))))
      (under_elsewhere c e n p x.page other y x.tx (opened x w home fine) (idle x w home fine) (ap (λ (o : Option rules.Right). is_some o) (has_right x w home fine allows).1))
      (read_elsewhere c e n p x.page other (reader x w home fine) x.tx))

  -- ---- a request

  abbrev sent : Work
  sent = send (page_owner (replied x w home fine).node x.page) (body.Request (request x w home fine)) (replied x w home fine)

  sent_done : IsInOrder c → is_held x s.home ≡ false → owned x w home fine ≡ false → Leads c e n p (λ k b. IsEntered b) a sent
  sent_done order held away =
      by_page sent (λ b reach is known. asked_leads c e n acts x s home fine at held b is order up member.number away known)
      (λ other.
      unseen_then c e n p y (waiter x w home fine) sent (wait_elsewhere c e n p x y other (opened x w home fine) (idle x w home fine))
      (unseen_then c e n p (waiter x w home fine) (replied x w home fine) sent (quiet_replies_law c e n p (reply.Waits x.tx x.page) (waiter x w home fine) refl refl)
      (sends_elsewhere_law c e n p (page_owner (replied x w home fine).node x.page) (body.Request (request x w home fine)) (replied x w home fine) other)))

  -- ---- an own page

  waits_config : (waiter x w home fine).node.home.config ≡ c.config
  waits_config = (beside x w home fine).life.config ∙ member.config

  waits_leads : is_held x s.home ≡ false → Leads c e n p (λ k b. IsEntered b) a (waiter x w home fine)
  waits_leads held =
      by_page (waiter x w home fine)
      (λ b reach is known.
      record {
        page = asked_page c e n acts x s home fine at held b is;
        run = asked_run c e n acts x s home fine at held b is;
        related = asked_related c e n acts x s home fine at held b is;
        known = asked_entered c e n acts x s home fine at held b is known;
      })
      (λ other. wait_elsewhere c e n p x y other (opened x w home fine) (idle x w home fine))

  module _ (t : LockTable) (there : table_of (waiter x w home fine).node x.page ≡ Some t) where
    abbrev put : Work
    put = entered c e n s x i up fine tells t there

    pub entered_leads : is_held x s.home ≡ false → Leads c e n p (λ k b. IsEntered b) a put
    entered_leads held =
        by_page put
        (λ b reach is known.
        record {
          page = asked_page c e n acts x s home fine at held b is;
          run = asked_run c e n acts x s home fine at held b is;
          related =
              entered_related c e n x.page acts (waiter x w home fine) (asked_page c e n acts x s home fine at held b is) waits_config t there (item x w home fine)
              (has_asked c e n acts x s home fine at held b is) (asked_related c e n acts x s home fine at held b is);
          known = asked_entered c e n acts x s home fine at held b is known;
        })
        (λ other.
        unseen_then c e n p y (waiter x w home fine) put (wait_elsewhere c e n p x y other (opened x w home fine) (idle x w home fine))
        (entries_elsewhere_law c e n p x.page t (ask (entry_at t x.page) (item x w home fine)) (waiter x w home fine) (apart other) waits_config
        (ap (λ (k : Sizes). table_at (waiter x w home fine).node (partition k x.page)) (sym waits_config) ∙ there)))
      where
        apart : (x.page == p) ≡ false → p ≡ x.page → ⊥
        apart other same = let bad : true ≡ false = sym (own_page x.page) ∙ ap (λ (k : ℕ). x.page == k) (sym same) ∙ other in absurd (cc)

    settled_leads : SettleKeeps → IsInOrder c → HasAskedAll c → is_held x s.home ≡ false → is_allowed x (owned x w home fine) s.home ≡ false
        → (m : Work) → settle_page x.page put ≡ Goes m → Leads c e n p (λ k b. IsEntered b) a m
    settled_leads settles order asks held allows m goes =
        let led = entered_leads held in
        let done =
        settles (base_of s) c e n p x.page acts order low (subst (λ (k : Sizes). x.page < k.pages) member.config (may x w home fine).page) blank put m led.page
        (reached_on blank a led.page reached led.run) led.related (entered_midway c e n s x i up fine tells t there asks v viewed held allows, led.known) goes in
        record { page = done.page; run = runs_then led.run done.run; related = done.related; known = done.known.1 }

  pub enter_is : enter (λ k. ask k (item x w home fine)) x.page (waiter x w home fine)
      ≡ enter_in (λ k. ask k (item x w home fine)) x.page (table_of (waiter x w home fine).node x.page) (waiter x w home fine)
  unfolding enter
  enter_is = refl

  own_done : SettleKeeps → IsInOrder c → HasAskedAll c → is_held x s.home ≡ false → is_allowed x (owned x w home fine) s.home ≡ false
      → (m : Work) → enter (λ k. ask k (item x w home fine)) x.page (waiter x w home fine) ≡ Goes m → Leads c e n p (λ k b. IsEntered b) a m
  own_done settles order asks held allows m goes = by (table_of (waiter x w home fine).node x.page) refl (sym enter_is ∙ goes)
    where
      by : (o : Option LockTable) → table_of (waiter x w home fine).node x.page ≡ o
          → enter_in (λ k. ask k (item x w home fine)) x.page (table_of (waiter x w home fine).node x.page) (waiter x w home fine) ≡ Goes m → Leads c e n p (λ k b. IsEntered b) a m
      by None absent enters =
          subst (λ (z : Work). Leads c e n p (λ k b. IsEntered b) a z)
          (same_outcome (waiter x w home fine) m _ (ap (λ o. enter_in (λ k. ask k (item x w home fine)) x.page o (waiter x w home fine)) absent) enters) (waits_leads held)
      by (Some t) there enters =
          settled_leads t there settles order asks held allows m (sym (ap (λ o. enter_in (λ k. ask k (item x w home fine)) x.page o (waiter x w home fine)) there) ∙ enters)

  -- ---- all

  pub access_leads : SettleKeeps → IsInOrder c → HasAskedAll c → ((k m : ℕ) → delivers e k m ≡ false) → (z : Work) → do_access x w ≡ Goes z → Leads c e n p (λ k b. IsEntered b) a z
  access_leads settles order asks quiet z goes = by (is_held x s.home) (is_allowed x (owned x w home fine) s.home) (owned x w home fine) refl refl refl
    where
      moved : (k : Work) → do_access x w ≡ Goes k → Leads c e n p (λ k b. IsEntered b) a k → Leads c e n p (λ k b. IsEntered b) a z
      moved k is led = subst (λ (z : Work). Leads c e n p (λ k b. IsEntered b) a z) (same_outcome k z (do_access x w) is goes) led

      own : is_held x s.home ≡ false → is_allowed x (owned x w home fine) s.home ≡ false → owned x w home fine ≡ true → Leads c e n p (λ k b. IsEntered b) a z
      own held allows ours =
          let after =
          went (enter (λ k. ask k (item x w home fine)) x.page (waiter x w home fine)) (waits_first x.tx x.page) z (sym (own_goes x w home fine held allows ours) ∙ goes) in
          let led = own_done settles order asks held allows after.0 after.1 in
          subst (λ (z : Work). Leads c e n p (λ k b. IsEntered b) a z) after.2
          (record { page = led.page; run = led.run; related = waits_related c e n p acts quiet x.tx x.page after.0 led.page led.related; known = led.known })

      by : (b d o : Bool) → is_held x s.home ≡ b → is_allowed x (owned x w home fine) s.home ≡ d → owned x w home fine ≡ o → Leads c e n p (λ k b. IsEntered b) a z
      by true d o held allows ours = moved (told y (perform x.tx x.page x.write (work_of_home y))) (held_goes x w home fine held) (held_done held)
      by false true o held allows ours =
          moved (told (reader x w home fine) (perform x.tx x.page None (work_of_home (reader x w home fine)))) (allowed_goes x w home fine held allows) (under_done held allows)
      by false false true held allows ours = own held allows ours
      by false false false held allows ours = moved sent (owner_goes x w home fine held allows ours) (sent_done order held ours)
