-- The decisions of settling, carried out one by one.
use Rattle.std.proofs.Common.{◌≡◌, inl, refl, ap, sym, subst, ◌∙◌, ℕ, suc, ◌≤◌, ◌==◌, true, false, List, ◌∷◌, Option, Some, arith}
use Rattle.std.specs.List.{AllByRecursion, Contains}
use Rattle.pcl_base.specs.declared.event.Event.{Event}
use Rattle.pcl_base.specs.declared.message.Body.TheVariants as body
use Rattle.pcl_base.specs.declared.message.Grant.{Grant}
use Rattle.pcl_base.specs.declared.message.Message.{Message}
use Rattle.pcl_base.specs.declared.tx.Mode.{Mode}
use Rattle.pcl_base.specs.declared.tx.Mode.TheVariants.{Shared}
use Rattle.pcl_base.specs.declared.tx.TxId.{TxId}
use Rattle.node_rules.specs.BufferRule.{bytes_of_copy, copy_at, find}
use Rattle.node_rules.specs.CopyRule.{copy_for}
use Rattle.node_rules.specs.LockRule.{LockEntry, has_right}
use Rattle.node_rules.specs.LockTable.{LockTable, put_entry}
use Rattle.node_rules.specs.NodeState.{partition, table_at}
use Rattle.node_rules.specs.OwnerRule.{copy_part, send_grant}
use Rattle.node_rules.specs.Work.{Work, send}
use Rattle.node_laws.proofs.Lists.{all_each}
use Rattle.node_laws.proofs.Works.{Base}
use Rattle.cluster_rules.specs.Clusters.{Cluster}
use Rattle.page_laws.specs.Entry.Decisions.{IsLocked, IsGiven, IsMarked, NoWriterWaits}
use Rattle.page_laws.specs.Entry.Steps.{IsEntryOf, IsStepTo}
use Rattle.page_laws.proofs.EntryParts.Decided.{locked_keeps, given_keeps, marked_keeps}
use Rattle.page_laws.proofs.EntryParts.Stepped.{grant_is_step_law, right_is_step_law, revocation_is_none_law, not_out}
use Rattle.page_laws.proofs.EntryParts.Words.{all_in}
use Rattle.cluster_laws.specs.Era.Eras.{era_at, era_in}
use Rattle.cluster_laws.specs.Link.Coming.{coming}
use Rattle.cluster_laws.specs.Link.EpochLaws.{IsInOrder}
use Rattle.cluster_laws.specs.Link.Orders.{how_many}
use Rattle.page_protocol.specs.Authority.{granting, giving, WordFits}
use Rattle.page_protocol.specs.State.{Word, Sent, Right, NoRight, Flying, Returning, Page, set_at, updn}
use Rattle.page_protocol.specs.Steps.{Run, Reached, here, then}
use Rattle.page_protocol.proofs.Basics.{updn_same}
use Rattle.page_relation.specs.Messages.{HasAsked, SaysSo, is_right}
use Rattle.page_relation.specs.Relation.{LinksAre, MessageIs}
use Rattle.page_relation.specs.Tables.{IsServed, WaiterIs}
use Rattle.page_relation.specs.Work.Events.{IsEntered}
use Rattle.page_relation.specs.Work.Keeping.{IsWorkOf}
use Rattle.page_relation.specs.Work.Landing.{land, Acts}
use Rattle.page_relation.specs.Work.Sends.{MaySend}
use Rattle.page_relation.proofs.WorkParts.Comings.{coming_same}
use Rattle.page_relation.proofs.WorkParts.Kept.{reached_on}
use Rattle.page_relation.proofs.WorkParts.Sending.{send_is_kept_law}
use Rattle.settle_relation.specs.Deciding.{rewound, decided, IsDecided, StillAnswers}
use Rattle.settle_relation.specs.Fitting.{word_sent}
use Rattle.settle_relation.proofs.Counting.{coming_is_not_past_law}
use Rattle.settle_relation.proofs.Deciding.{deciding_is_related_law}
use Rattle.settle_relation.proofs.Fitting.{words_fit_law}
use Rattle.settle_relation.proofs.Midway.{IsMidway}
use Rattle.settle_relation.proofs.Rewinding.{nothing_later, own_era, rewound_there, rewound_twice, sent_made, served_of}
use Rattle.settle_relation.proofs.Changing.{fewer_wait, giving_answers, giving_decides, granting_decides, links_of, message_of_land, no_right_says, none_of_kind, nothing_decides, two_all}

-- ---- the loop

module _ (b : Base) (c : Cluster) (e : Event) (n p : ℕ) (acts : Acts c n) (order : IsInOrder c) (tb ub : LockTable) (on : tb.serving ≡ true) (blank : List ℕ) where
  abbrev q : ℕ
  q = partition c.config p

  -- The decisions so far led to this entry: the relation holds of the work with it.
  pub record IsSettling (v : ℕ) (x : LockEntry) (y : Work) (a : Page) : Type 0 where
    pub midway : IsMidway b c e n y
    pub there : table_at y.node q ≡ Some ub
    pub version : v ≡ x.version
    pub entered : IsEntered a
    pub reached : Reached blank a
    pub related : IsWorkOf c e n p (rewound q tb p x y) a

  -- one decision more
  pub record Decides (v : ℕ) (x : LockEntry) (y : Work) (a : Page) : Type 0 where
    pub page : Page
    pub run : Run a page
    pub state : IsSettling v x y page

  module _ (v : ℕ) (x : LockEntry) (y : Work) (a : Page) (s : IsSettling v x y a) where
    pub served : IsServed a.served a.owner a.era a.entry a.listed a.right a.reached a.home n (era_in y.node.view q) x
    served = served_of c e n p acts tb ub x y a s.there on s.related

    pub entry : IsEntryOf a x
    entry = record { version = served.version; holders = served.holders; rights = served.rights }

    pub now_era : era_at c q y.node.epoch ≡ a.era
    now_era = own_era b c e n y s.midway q ∙ served.now

    -- the state with the entry after a decision
    pub related_with : (later : LockEntry) (listed : TxId → ℕ → Option Mode) (sent : List Sent) (right : ℕ → Right) → IsEntryOf (decided a listed sent right) later → IsDecided a listed sent right
        → ((m : ℕ) (readers : List TxId) → a.right m ≡ Returning (suc a.era) readers → right m ≡ Returning (suc a.era) readers) → AllByRecursion (WaiterIs a.reached a.home a.era) later.waiting
        → NoWriterWaits later → IsWorkOf c e n p (rewound q tb p later y) (decided a listed sent right)
    related_with later listed sent right fits dec back waiting writers =
        subst (λ (k : Work). IsWorkOf c e n p k (decided a listed sent right)) (rewound_twice q p tb x later y)
        (deciding_is_related_law c e n p tb (put_entry tb p x) later (rewound q tb p x y) a listed sent right acts dec
        (λ from to. all_each (StillAnswers a right from) (λ m is readers. back from readers) (coming (land c e n (rewound q tb p x y)) p from to))
        (record {
          there = rewound_there c e n p acts tb ub x y a s.there;
          serving = on;
          served = served.serves;
          here = served.here;
          now = served.now;
          entry = fits;
          waiting = waiting;
          writers = writers;
        })
        s.related)

    -- a revocation
    pub revoked_on : (later : LockEntry) (k : ℕ) → IsMarked x k later → (k == n) ≡ false → IsMidway b c e n (send k (body.Revoke p) y) → Decides v later (send k (body.Revoke p) y) a
    revoked_on later k marked away known =
        record {
          page = a;
          run = here;
          state =
              record {
                midway = known;
                there = s.there;
                version = s.version ∙ sym marked.version;
                entered = s.entered;
                reached = s.reached;
                related = send_is_kept_law c e n p k (body.Revoke p) (rewound q tb p later y) a acts may with_it;
              };
        }
      where
        with_it : IsWorkOf c e n p (rewound q tb p later y) a
        with_it =
            related_with later a.listed a.sent a.right (revocation_is_none_law a x later k entry marked) (nothing_decides a) (λ m readers is. is)
            (subst (AllByRecursion (WaiterIs a.reached a.home a.era)) (sym marked.waiting) served.waiting) (marked_keeps x later k marked served.writers)

        may : MaySend c e n p (rewound q tb p later y) a k (body.Revoke p)
        may =
            record {
              other = away;
              no_report = refl;
              says = λ comes. let now = now_era in omega (arith, now);
              behind = nothing_later b c e n y s.midway p k (rewound q tb p later y).node.tables acts order;
              no_release = λ t kind. absurd (cc);
              no_right = λ kind. absurd (cc);
              no_answer = λ kind. absurd (cc);
            }

    -- ---- a grant to another node

    pub asked_of : (tx : TxId) (m : Mode) (have : Option ℕ) → Contains x.waiting (record { tx = tx; mode = m; have = have }) → HasAsked (a.reached tx.node) a.era (a.home tx) have
    asked_of tx m have waited = all_in (WaiterIs a.reached a.home a.era) x.waiting (record { tx = tx; mode = m; have = have }) served.waiting waited

    pub at_version : v ≡ a.entry
    at_version = s.version ∙ served.version

    abbrev word : TxId → Option ℕ → Word
    word tx have = word_sent y.node.home.pool p have v

    fits : (tx : TxId) (m : Mode) (have : Option ℕ) → Contains x.waiting (record { tx = tx; mode = m; have = have }) → (tx.node == n) ≡ false → WordFits a tx (word tx have)
    fits tx m have waited away = (words_fit_law c e n p v tx (rewound q tb p x y) a acts served.here at_version s.related).0 have away (asked_of tx m have waited)

    pub locked_away : (later : LockEntry) (tx : TxId) (m : Mode) (have : Option ℕ) → IsLocked x tx m have later → (tx.node == n) ≡ false
        → IsMidway b c e n (send_grant tx m false have p v y) → Decides v later (send_grant tx m false have p v y) a
    unfolding granting
    locked_away later tx m have l away known =
        record {
          page = granting a tx m (word tx have);
          run = then here is.step;
          state =
              record {
                midway = known;
                there = s.there;
                version = s.version ∙ sym l.version;
                entered = s.entered;
                reached = reached_on blank a (granting a tx m (word tx have)) s.reached (then here is.step);
                related = send_is_kept_law c e n p tx.node _ (rewound q tb p later y) (granting a tx m (word tx have)) acts may with_it;
              };
        }
      where
        g : Sent
        g = record { tx = tx; mode = m; version = a.entry; word = word tx have }

        is : IsStepTo a (granting a tx m (word tx have)) later
        is = grant_is_step_law a x later tx m have (word tx have) entry l served.serves (asked_of tx m have l.waited).begun (fits tx m have l.waited away)

        with_it : IsWorkOf c e n p (rewound q tb p later y) (decided a (set_at a.listed tx a.era (Some m)) (g ∷ a.sent) a.right)
        with_it =
            related_with later (set_at a.listed tx a.era (Some m)) (g ∷ a.sent) a.right is.entry (granting_decides a tx m g) (λ k readers back. back)
            (fewer_wait (WaiterIs a.reached a.home a.era) x later tx l.waiting served.waiting) (locked_keeps x later tx m have l served.writers)

        grant : Grant
        grant =
            record {
              tx = tx;
              page = p;
              mode = m;
              right = false;
              version = v;
              copy = copy_part (copy_for have v (find y.node.home.pool p)) (bytes_of_copy (copy_at y.node.home.pool p));
            }

        may : MaySend c e n p (rewound q tb p later y) (decided a (set_at a.listed tx a.era (Some m)) (g ∷ a.sent) a.right) tx.node (body.Grant grant)
        may =
            record {
              other = away;
              no_report = refl;
              says = λ comes. (
                (let now = now_era in omega (arith, now)),
                λ now. inl (ap (λ (k : ℕ). let h : Sent = record { tx = tx; mode = m; version = k; word = word tx have } in h) at_version),
              );
              behind = nothing_later b c e n y s.midway p tx.node (rewound q tb p later y).node.tables acts order;
              no_release = λ t kind. absurd (cc);
              no_right = λ kind. absurd (cc);
              no_answer = λ kind. absurd (cc);
            }

    -- ---- a grant with a right

    no_right_comes : (later : LockEntry) (to : ℕ) → (to == n) ≡ false → a.right to ≡ NoRight → how_many is_right (coming (land c e n (rewound q tb p later y)) p n to) ≡ 0
    no_right_comes later to away none =
        ap (how_many is_right) (coming_same c e n p acts (rewound q tb p x y) (rewound q tb p later y) (record { config = refl; number = refl; epoch = refl; view = refl }) refl (λ k. refl) n to)
        ∙ none_of_kind is_right (coming (land c e n k) p n to)
        (two_all (MessageIs (land c e n k) p q a n to) (λ (m : Message). a.era ≤ era_at c q m.epoch) (λ (m : Message). is_right m.body ≡ false)
        (λ m says low. no_right_says a p n to (era_at c q m.epoch) m.body none low (landed m says)) (coming (land c e n k) p n to) (related_links.say n to)
        (coming_is_not_past_law c e n p n to k a acts away (sent_made b c e n y s.midway) s.related))
      where
        k : Work
        k = rewound q tb p x y

        related_links : LinksAre (land c e n k) p q a
        related_links = links_of c e n p k a s.related

        landed : (m : Message) → MessageIs (land c e n k) p q a n to m → SaysSo a.era a.hist a.reached a.listed a.right a.home a.sent p n to (era_at c q m.epoch) m.body
        landed m says = message_of_land c e n p q k a n to m says

    pub given_away : (later : LockEntry) (tx : TxId) (have : Option ℕ) → IsGiven n x tx have later → (tx.node == n) ≡ false
        → IsMidway b c e n (send_grant tx Shared true have p v y) → Decides v later (send_grant tx Shared true have p v y) a
    unfolding giving
    given_away later tx have l away known =
        record {
          page = giving a tx (word tx have);
          run = then here is.step;
          state =
              record {
                midway = known;
                there = s.there;
                version = s.version ∙ sym l.version;
                entered = s.entered;
                reached = reached_on blank a (giving a tx (word tx have)) s.reached (then here is.step);
                related = send_is_kept_law c e n p tx.node _ (rewound q tb p later y) (giving a tx (word tx have)) acts may with_it;
              };
        }
      where
        g : Sent
        g = record { tx = tx; mode = Shared; version = a.entry; word = word tx have }

        none : a.right tx.node ≡ NoRight
        none = not_out (a.right tx.node) (has_right x.rights tx.node) (served.rights tx.node) l.no_right

        is : IsStepTo a (giving a tx (word tx have)) later
        is = right_is_step_law a n x later tx have (word tx have) entry l served.serves (asked_of tx Shared have l.waited).begun (fits tx Shared have l.waited away)

        with_it : IsWorkOf c e n p (rewound q tb p later y) (decided a a.listed a.sent (updn a.right tx.node (Flying g)))
        with_it =
            related_with later a.listed a.sent (updn a.right tx.node (Flying g)) is.entry (giving_decides a tx.node g none) (giving_answers a tx.node g none)
            (fewer_wait (WaiterIs a.reached a.home a.era) x later tx l.waiting served.waiting) (given_keeps n x later tx have l served.writers)

        grant : Grant
        grant =
            record {
              tx = tx;
              page = p;
              mode = Shared;
              right = true;
              version = v;
              copy = copy_part (copy_for have v (find y.node.home.pool p)) (bytes_of_copy (copy_at y.node.home.pool p));
            }

        may : MaySend c e n p (rewound q tb p later y) (decided a a.listed a.sent (updn a.right tx.node (Flying g))) tx.node (body.Grant grant)
        may =
            record {
              other = away;
              no_report = refl;
              says = λ comes. (
                (let now = now_era in omega (arith, now)),
                λ now.
                    updn_same a.right tx.node (Flying g)
                    ∙ sym (ap (λ (k : ℕ). Flying (record { tx = tx; mode = Shared; version = k; word = word tx have })) at_version),
              );
              behind = nothing_later b c e n y s.midway p tx.node (rewound q tb p later y).node.tables acts order;
              no_release = λ t kind. absurd (cc);
              no_right = λ kind. no_right_comes later tx.node away none;
              no_answer = λ kind. absurd (cc);
            }
