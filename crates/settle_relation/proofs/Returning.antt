-- An answer to a revocation that comes to the owner.
use Rattle.std.proofs.Common.{◌≡◌, ◌≢◌, refl, ap, sym, subst, ◌∙◌, ℕ, suc, ◌<◌, ◌≤◌, ◌==◌, ◌&&◌, Bool, true, false, List, [], ◌++◌, Option, Some, arith, eqb-true}
use Rattle.std.specs.Prelude.{eqb}
use Rattle.std.specs.List.{AllByRecursion}
use Rattle.std.proofs.lemmas.Bool.Decides.{nat_tests}
use Rattle.pcl_base.specs.Limits.{Sizes}
use Rattle.pcl_base.specs.declared.event.Event.{Event}
use Rattle.pcl_base.specs.declared.message.Body.TheVariants as body
use Rattle.pcl_base.specs.declared.message.Message.{Message}
use Rattle.pcl_base.specs.declared.message.ReturnRight.{ReturnRight}
use Rattle.text_rules.specs.MessageBytes.{IsBody}
use Rattle.node_rules.specs.LockRule.{LockEntry, returned}
use Rattle.node_rules.specs.LockTable.{LockTable, entry_at, put_entry}
use Rattle.node_rules.specs.NodeState.{NodeState, partition, table_at, table_of}
use Rattle.node_rules.specs.OwnerRule.{with_table}
use Rattle.node_rules.specs.Words.{pick}
use Rattle.node_rules.specs.Work.{Goes, Work}
use Rattle.node_laws.specs.Nodes.{IsEntry}
use Rattle.node_laws.proofs.Bases.{base_of}
use Rattle.node_laws.proofs.Entries.{returned_is}
use Rattle.node_laws.proofs.Lists.{all_append, all_each, all_weaker}
use Rattle.cluster_rules.specs.Clusters.{Cluster, node_at, is_up}
use Rattle.cluster_rules.specs.ClusterStep.{is_taken}
use Rattle.cluster_rules.specs.Links.{link_at, tail_of}
use Rattle.page_laws.specs.Entry.Looks.{IsReturned}
use Rattle.page_laws.specs.Entry.Steps.{IsEntryOf, IsStepTo}
use Rattle.page_laws.proofs.EntryParts.Looked.{returning_is_seen_law}
use Rattle.page_laws.proofs.EntryParts.Stepped.{return_is_step_law}
use Rattle.page_laws.proofs.EntryParts.Writers.{writers_wait_for_nothing_law}
use Rattle.cluster_laws.specs.Era.Eras.{era_at, era_in, owner_at}
use Rattle.cluster_laws.specs.Link.Coming.{speaks_of, is_coming, coming, sent_to, delivers}
use Rattle.cluster_laws.specs.Link.Orders.{how_many}
use Rattle.page_protocol.specs.Authority.{returning, with_shared}
use Rattle.page_protocol.specs.State.{Right, NoRight, Returning, Page, has, pick as picked, updn}
use Rattle.page_protocol.specs.Steps.{here, then}
use Rattle.page_protocol.proofs.Basics.{updn_other}
use Rattle.page_relation.specs.Messages.{SaysSo, is_answer}
use Rattle.page_relation.specs.Relation.{MessageIs}
use Rattle.page_relation.specs.Tables.{IsServed, TableIs, TableIn, TableOf, WaiterIs}
use Rattle.page_relation.specs.Together.{IsParty}
use Rattle.page_relation.specs.Work.Events.{IsEntered}
use Rattle.page_relation.specs.Work.Keeping.{IsWorkOf, Leads}
use Rattle.page_relation.specs.Work.Landing.{land, Acts}
use Rattle.page_relation.proofs.WorkParts.Comings.{landed_coming}
use Rattle.page_relation.proofs.WorkParts.Nodes.{at_node}
use Rattle.settle_relation.specs.Arriving.{HaveParties, IsTakenIn, IsWhole, ReturnIsKept}
use Rattle.settle_relation.specs.Deciding.{rewound, StillAnswers}
use Rattle.settle_relation.proofs.Counting.{coming_is_not_past_law, filtered, less_all, sent_all}
use Rattle.settle_relation.proofs.Deciding.{deciding_is_related_law}
use Rattle.settle_relation.proofs.Changing.{links_of, message_of_land, two_all}
use Rattle.settle_relation.proofs.Entering.{enter_leads}
use Rattle.settle_relation.proofs.Requesting.{acts, can, ended, goes_on, low_page, midway, own_era_is, said, w}
use Rattle.settle_relation.proofs.Rewinding.{sent_made}
use Rattle.settle_relation.proofs.Turns.{IsBetween}
use Rattle.settle_relation.proofs.Answering.{answers_to, both_first, none_are, owner_of_era, return_decides}

-- ---- the event

module _ (c : Cluster) (e : Event) (n p from : ℕ) (s : NodeState) (m : Message) (blank : List ℕ) (a : Page) (i : IsTakenIn c e n p from s m blank a) (parties : HaveParties c from) (r : ReturnRight) (is : m.body ≡ body.Return r) where
  abbrev q : ℕ
  q = partition c.config p

  abbrev v : Work
  v = w c e n p from s m blank a i

  acting_now : Acts c n
  acting_now = acts c e n p from s m blank a i

  related : IsWorkOf c e n p v a
  related = (said c e n p from s m blank a i).related

  named : IsBody s.home.config (body.Return r)
  named = subst (IsBody s.home.config) is (can c e n p from s m blank a i)

  -- what comes from the sender has its parties
  parties_coming : (to : ℕ) → AllByRecursion (λ (k : Message). IsParty c from to k × (speaks_of c.config p k.body ≡ true)) (coming (land c e n v) p from to)
  unfolding sent_to
  parties_coming to =
      subst (AllByRecursion P) (sym (landed_coming c e n p v from to acting_now))
      (filtered P test (before ++ after)
      (all_append Q before after
      (less_all Q (delivers e from to && is_taken v.replies) (link_at c.links from to)
      (all_weaker (IsParty c from to) Q (λ k party comes. (party, both_first (speaks_of c.config p k.body) _ comes)) (link_at c.links from to) (parties to)))
      (sent_all Q (from == n && is_up c to) (sent_to to v.sends) tt)))
    where
      P : Message → Type 0
      P k = IsParty c from to k × (speaks_of c.config p k.body ≡ true)

      test : Message → Bool
      test = is_coming c.config p from (node_at (land c e n v) to)

      Q : Message → Type 0
      Q k = test k ≡ true → P k

      before : List Message
      before = pick (delivers e from to && is_taken v.replies) (tail_of (link_at c.links from to)) (link_at c.links from to)

      after : List Message
      after = pick (from == n && is_up c to) (sent_to to v.sends) []

  module _ (at : r.page ≡ p) where
    speaks : speaks_of c.config p m.body ≡ true
    speaks = ap (speaks_of c.config p) is ∙ (let same : (r.page == p) ≡ true = grind (arith, nat_tests, at) in same)

    says : SaysSo a.era a.hist a.reached a.listed a.right a.home a.sent p from n (era_at c q m.epoch) (body.Return r)
    says = subst (SaysSo a.era a.hist a.reached a.listed a.right a.home a.sent p from n (era_at c q m.epoch)) is ((said c e n p from s m blank a i).head speaks).says

    -- the answer is of the era that serves
    now : era_at c q m.epoch ≡ a.era
    now =
        let most = says.0 in
        let low = (said c e n p from s m blank a i).not_past in
        let reached = (said c e n p from s m blank a i).reached speaks in
        omega (arith, most, low, reached)

    back : a.right from ≡ Returning (suc a.era) r.readers
    back = says.1 now

    own_now : era_in s.view q ≡ a.era
    own_now = own_era_is c e n p from s m blank a i speaks ∙ now

    none_here : how_many is_answer (coming (land c e n v) p from n) ≡ 0
    none_here = ((said c e n p from s m blank a i).head speaks).no_answer (ap is_answer is)

    right_after : ℕ → Right
    right_after = updn a.right from NoRight

    -- further answers come from other nodes alone
    still : n ≡ a.owner → (f to : ℕ) → AllByRecursion (StillAnswers a (updn a.right from NoRight) f) (coming (land c e n v) p f to)
    still owns f to = by (f == from) refl
      where
        other : f ≢ from → AllByRecursion (StillAnswers a (updn a.right from NoRight) f) (coming (land c e n v) p f to)
        other apart = all_each (StillAnswers a (updn a.right from NoRight) f) (λ k answer readers old. updn_other a.right from f NoRight apart ∙ old) (coming (land c e n v) p f to)

        ours : (to == n) ≡ true → AllByRecursion (StillAnswers a (updn a.right from NoRight) from) (coming (land c e n v) p from to)
        ours same =
            all_weaker (λ (k : Message). is_answer k.body ≡ false) (StillAnswers a (updn a.right from NoRight) from)
            (λ k no answer readers old. absurd (cc)) (coming (land c e n v) p from to)
            (subst (λ (k : ℕ). AllByRecursion (λ (j : Message). is_answer j.body ≡ false) (coming (land c e n v) p from k)) (sym (eqb-true to n same))
            (none_are is_answer (coming (land c e n v) p from n) none_here))

        elsewhere : (to == n) ≡ false → AllByRecursion (StillAnswers a (updn a.right from NoRight) from) (coming (land c e n v) p from to)
        elsewhere away =
            two_all (λ (k : Message). IsParty c from to k × (speaks_of c.config p k.body ≡ true)) (λ (k : Message). MessageIs (land c e n v) p q a from to k × (a.era ≤ era_at c q k.epoch))
            (StillAnswers a (updn a.right from NoRight) from)
            (λ k party told answer readers old.
            let same : to ≡ n =
            answers_to c p from to n a.era a k party.0 party.1 told.1 (message_of_land c e n p q v a from to k told.0) (owned k) answer in
            absurd (grind (arith, nat_tests, away, same)))
            (coming (land c e n v) p from to) (parties_coming to)
            (two_all (MessageIs (land c e n v) p q a from to) (λ (k : Message). a.era ≤ era_at c q k.epoch) (λ (k : Message). MessageIs (land c e n v) p q a from to k × (a.era ≤ era_at c q k.epoch))
            (λ k told low. (told, low)) (coming (land c e n v) p from to) ((links_of c e n p v a related).say from to)
            (coming_is_not_past_law c e n p from to v a acting_now away (sent_made (base_of s) c e n v (midway c e n p from s m blank a i)) related))
          where
            owned : (k : Message) → era_at c q k.epoch ≡ a.era → owner_at c q k.epoch ≡ n
            owned k same = owner_of_era c e n p v a acting_now related k.epoch same ∙ sym owns

        by : (d : Bool) → (f == from) ≡ d → AllByRecursion (StillAnswers a (updn a.right from NoRight) f) (coming (land c e n v) p f to)
        by true same =
            subst (λ (k : ℕ). AllByRecursion (StillAnswers a (updn a.right from NoRight) k) (coming (land c e n v) p k to)) (sym (eqb-true f from same)) (of (to == n) refl)
          where
            of : (d : Bool) → (to == n) ≡ d → AllByRecursion (StillAnswers a (updn a.right from NoRight) from) (coming (land c e n v) p from to)
            of true mine = ours mine
            of false away = elsewhere away
        by false apart = other (λ same. absurd (grind (arith, nat_tests, apart, same)))

    -- the table of the page serves
    module _ (t : LockTable) (there : table_at s q ≡ Some t) where
      table_is : TableIs a p n (era_in s.view q) t.serving t
      unfolding land
      table_is =
          subst (λ (o : Option LockTable). TableIn a p n (era_in s.view q) o) there (at_node c e n acting_now v n (λ o. TableOf a p q n o) refl (related.tables.tables n))

      serves : t.serving ≡ true
      serves = by t.serving table_is
        where
          by : (d : Bool) → TableIs a p n (era_in s.view q) d t → d ≡ true
          by true old = refl
          by false old =
              let later = old.later in
              let same = own_now in
              absurd (omega (arith, later, same))

      served : IsServed a.served a.owner a.era a.entry a.listed a.right a.reached a.home n (era_in s.view q) (entry_at t p)
      served = subst (λ (d : Bool). TableIs a p n (era_in s.view q) d t) serves table_is

      entry : IsEntryOf a (entry_at t p)
      entry = record { version = served.version; holders = served.holders; rights = served.rights }

      stepped : IsStepTo a (returning a from r.readers) (returned (entry_at t p) from r.readers)
      stepped = return_is_step_law a (entry_at t p) from r.readers entry back

      same_waiting : IsReturned (entry_at t p) from r.readers (returned (entry_at t p) from r.readers)
      same_waiting =
          (returning_is_seen_law (entry_at t p) from r.readers).0
          (served.rights from (λ none. let clash : Returning (suc a.era) r.readers ≡ NoRight = sym back ∙ none in absurd (cc)))

      with_it : IsWorkOf c e n p (rewound q t p (returned (entry_at t p) from r.readers) v) (returning a from r.readers)
      unfolding returning
      with_it =
          deciding_is_related_law c e n p t t (returned (entry_at t p) from r.readers) v a (λ u f. picked (has u r.readers && eqb f a.era) (with_shared (a.listed u f)) (a.listed u f)) a.sent
          (updn a.right from NoRight) acting_now (return_decides a from r.readers back) (still served.here)
          (record {
            there = there;
            serving = serves;
            served = served.serves;
            here = served.here;
            now = served.now;
            entry = stepped.entry;
            waiting = subst (AllByRecursion (WaiterIs a.reached a.home a.era)) (sym same_waiting.waiting) served.waiting;
            writers = (writers_wait_for_nothing_law (entry_at t p) served.writers).back from r.readers;
          })
          related

      returned_leads : Leads c e n p (λ k d. IsEntered d) a (rewound q t p (returned (entry_at t p) from r.readers) v)
      unfolding returning
      returned_leads = record { page = returning a from r.readers; run = then here stepped.step; related = with_it; known = i.entered }

  -- whatever the page
  pub comes_back : (t : LockTable) → r.page ≡ p → table_of s r.page ≡ Some t
      → Leads c e n p (λ k d. IsEntered d) a (with_table r.page (put_entry t r.page (returned (entry_at t r.page) from r.readers)) v)
  comes_back t at there =
      subst (λ (k : ℕ). table_of s k ≡ Some t → Leads c e n p (λ k d. IsEntered d) a (with_table k (put_entry t k (returned (entry_at t k) from r.readers)) v)) (sym at)
      (λ own.
      subst (λ (k : ℕ). Leads c e n p (λ k d. IsEntered d) a (rewound k t p (returned (entry_at t p) from r.readers) v)) (ap (λ (k : Sizes). partition k p) (sym config))
      (returned_leads at t (ap (λ (k : Sizes). table_at s (partition k p)) (sym config) ∙ own))) there
    where
      config : s.home.config ≡ c.config
      config = (midway c e n p from s m blank a i).config

  inside : r.page < c.config.pages
  inside = low_page c e n p from s m blank a i r.page named.0

  pub returns_well : (k : LockEntry) → IsEntry s.home.config (base_of s).number k → IsEntry s.home.config (base_of s).number (returned k from r.readers)
  returns_well k fits = returned_is s.home.config (base_of s).number from r.readers k fits named.2

  pub return_leads : (x : Work) → IsWhole c n from s m x → Leads c e n p (IsBetween (base_of s) c e n) a x
  return_leads x whole =
      enter_leads (base_of s) c e n p acting_now i.order i.below r.page inside (λ k. returned k from r.readers) returns_well blank v x a i.reached related
      (midway c e n p from s m blank a i, i.entered) comes_back (goes_on c e n p from s m blank a i (body.Return r) (Goes x) is whole.goes)

pub return_is_kept_law : ReturnIsKept
return_is_kept_law c e n p from s m r x blank a i whole parties is =
    ended c e n p from s m blank a i x whole (return_leads c e n p from s m blank a i parties r is x whole)
