-- No page differs in an access that isn't refused.
use Rattle.std.proofs.Common.{◌≡◌, refl, ap, sym, subst, ◌∙◌, ℕ, ◌<◌, Bool, true, false, List, [], ◌∷◌, Option, Some, None}
use Rattle.pcl_base.specs.Limits.{Sizes}
use Rattle.pcl_base.specs.declared.event.Event.{Event}
use Rattle.pcl_base.specs.declared.message.Body.TheVariants as body
use Rattle.run_rules.specs.Script.{Asks, asked}
use Rattle.run_rules.specs.Views.{View}
use Rattle.node_rules.specs.AccessRule.{Access, is_allowed, is_held, perform}
use Rattle.node_rules.specs.LockRule.{ask}
use Rattle.node_rules.specs.LockTable.{LockTable}
use Rattle.node_rules.specs.NodeState.{NodeState, page_owner, table_of}
use Rattle.node_rules.specs.OwnerRule.{do_access, enter, enter_in, settle_page, told, waits_first}
use Rattle.node_rules.specs.Work.{Work, Outcome, Goes, Differs, and_so, send, work_of_home}
use Rattle.home_laws.specs.Homes.{IsHome}
use Rattle.home_laws.specs.Refused.{access_refusal}
use Rattle.node_laws.proofs.Bases.{base_of}
use Rattle.cluster_rules.specs.Clusters.{Cluster, node_at}
use Rattle.cluster_laws.specs.Sound.{IsCluster}
use Rattle.cluster_laws.proofs.Steps.{up_is_member_law}
use Rattle.cluster_laws.specs.Link.EpochLaws.{IsInOrder}
use Rattle.page_protocol.specs.State.{Page}
use Rattle.page_protocol.specs.Steps.{Reached}
use Rattle.page_relation.specs.Work.Events.{IsEntered}
use Rattle.page_relation.specs.Work.Keeping.{IsWorkOf, Leads}
use Rattle.page_relation.specs.Work.StepEnds.{start_of}
use Rattle.page_relation.proofs.WorkParts.Kept.{reached_on}
use Rattle.end_relation.specs.Access.Events.{HasAskedAll}
use Rattle.end_relation.specs.Access.Midway.{SettleGoes}
use Rattle.end_relation.proofs.AccessParts.Accessing.{acts, entered_leads, enter_is}
use Rattle.end_relation.proofs.AccessParts.Framed.{framed, owned, may, held_goes, reader, allowed_goes, waiter, request, item, replied, owner_goes, own_goes}
use Rattle.end_relation.proofs.AccessParts.Midway.{entered, entered_midway}

goes_on : (o : Outcome Work) (x : Work) (q expected found : ℕ) → o ≡ Goes x → o ≡ Differs q expected found → ⊥
goes_on o x q expected found goes differs = no (sym goes ∙ differs)
  where
    no : (let k : Outcome Work = Goes x in k) ≡ Differs q expected found → ⊥
    no bad = absurd (cc)

differs_so : (o : Outcome Work) (f : Work → Work) (q expected found : ℕ) → and_so o f ≡ Differs q expected found → o ≡ Differs q expected found
differs_so (Goes m) f q expected found is = absurd (cc)
differs_so (Differs k l m) f q expected found is =
    let page : k ≡ q = cc in
    let wanted : l ≡ expected = cc in
    let read : m ≡ found = cc in
    (λ i. Differs (page i) (wanted i) (read i))

module _ (c : Cluster) (e : Event) (n : ℕ) (s : NodeState) (x : Access) (i : IsCluster c) (up : node_at c n ≡ Some s) (fine : access_refusal x s.home ≡ None)
    (tells : asked e ≡ Asks x.tx x.write ∷ []) (v : View) (viewed : s.view ≡ Some v) (blank : List ℕ) (a : Page) (reached : Reached blank a)
    (enters : IsEntered a) (started : IsWorkOf c e n x.page (start_of c s) a) where
  abbrev w : Work
  w = start_of c s

  abbrev home : IsHome s.home
  home = (up_is_member_law c n s i up).1.sound.home

  low : x.page < c.config.pages
  low = subst (λ (k : Sizes). x.page < k.pages) (up_is_member_law c n s i up).1.config (may x w home fine).page

  settled_goes : SettleGoes → IsInOrder c → HasAskedAll c → is_held x s.home ≡ false → is_allowed x (owned x w home fine) s.home ≡ false
      → (t : LockTable) (there : table_of (waiter x w home fine).node x.page ≡ Some t) (q expected found : ℕ)
      → settle_page x.page (entered c e n s x i up fine tells t there) ≡ Differs q expected found → ⊥
  settled_goes settles order asks held allows t there q expected found differs =
      settles (base_of s) c e n x.page q expected found blank (entered c e n s x i up fine tells t there) led.page (acts c e n x.page s x i up fine tells v viewed low blank a reached enters started)
      order low (reached_on blank a led.page reached led.run) led.related (entered_midway c e n s x i up fine tells t there asks v viewed held allows) led.known differs
    where
      led : Leads c e n x.page (λ k b. IsEntered b) a (entered c e n s x i up fine tells t there)
      led = entered_leads c e n x.page s x i up fine tells v viewed low blank a reached enters started t there held

  own_goes_on : SettleGoes → IsInOrder c → HasAskedAll c → is_held x s.home ≡ false → is_allowed x (owned x w home fine) s.home ≡ false
      → (q expected found : ℕ) → enter (λ k. ask k (item x w home fine)) x.page (waiter x w home fine) ≡ Differs q expected found → ⊥
  own_goes_on settles order asks held allows q expected found differs =
      by (table_of (waiter x w home fine).node x.page) refl
      (sym (enter_is c e n x.page s x i up fine tells v viewed low blank a reached enters started) ∙ differs)
    where
      by : (o : Option LockTable) → table_of (waiter x w home fine).node x.page ≡ o
          → enter_in (λ k. ask k (item x w home fine)) x.page (table_of (waiter x w home fine).node x.page) (waiter x w home fine) ≡ Differs q expected found → ⊥
      by None absent is =
          goes_on _ (waiter x w home fine) q expected found (ap (λ o. enter_in (λ k. ask k (item x w home fine)) x.page o (waiter x w home fine)) absent) is
      by (Some t) there is =
          settled_goes settles order asks held allows t there q expected found
          (sym (ap (λ o. enter_in (λ k. ask k (item x w home fine)) x.page o (waiter x w home fine)) there) ∙ is)

  pub access_goes : SettleGoes → IsInOrder c → HasAskedAll c → (q expected found : ℕ) → do_access x w ≡ Differs q expected found → ⊥
  access_goes settles order asks q expected found differs = by (is_held x s.home) (is_allowed x (owned x w home fine) s.home) (owned x w home fine) refl refl refl
    where
      by : (b d o : Bool) → is_held x s.home ≡ b → is_allowed x (owned x w home fine) s.home ≡ d → owned x w home fine ≡ o → ⊥
      by true d o held allows ours =
          goes_on (do_access x w) (told (framed x w home fine) (perform x.tx x.page x.write (work_of_home (framed x w home fine)))) q expected found (held_goes x w home fine held) differs
      by false true o held allows ours =
          goes_on (do_access x w) (told (reader x w home fine) (perform x.tx x.page None (work_of_home (reader x w home fine)))) q expected found (allowed_goes x w home fine held allows) differs
      by false false true held allows ours =
          own_goes_on settles order asks held allows q expected found
          (differs_so (enter (λ k. ask k (item x w home fine)) x.page (waiter x w home fine)) (waits_first x.tx x.page) q expected found (sym (own_goes x w home fine held allows ours) ∙ differs))
      by false false false held allows ours =
          goes_on (do_access x w) (send (page_owner (replied x w home fine).node x.page) (body.Request (request x w home fine)) (replied x w home fine)) q expected found
          (owner_goes x w home fine held allows ours) differs
