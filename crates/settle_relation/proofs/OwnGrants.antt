-- A grant of an owner to a transaction of its own.
use Rattle.std.proofs.Common.{◌≡◌, inl, refl, ap, sym, subst, ◌∙◌, ℕ, ◌<◌, Bool, true, false, List, ◌∷◌, Option, Some, None, arith}
use Rattle.std.proofs.lemmas.Bool.Decides.{nat_tests}
use Rattle.pcl_base.specs.Limits.{Sizes}
use Rattle.pcl_base.specs.declared.event.Event.{Event}
use Rattle.pcl_base.specs.declared.lock.Kind.TheVariants as kind
use Rattle.pcl_base.specs.declared.tx.Mode.{Mode}
use Rattle.pcl_base.specs.declared.tx.TxId.{TxId}
use Rattle.run_rules.specs.Views.{View, owner_of}
use Rattle.node_rules.specs.AccessRule.{Granted, granted}
use Rattle.node_rules.specs.InstallRule.{owned_before}
use Rattle.node_rules.specs.LockRule.{LockEntry}
use Rattle.node_rules.specs.LockTable.{LockTable}
use Rattle.node_rules.specs.NodeState.{number_of, owner_in, partition, table_at}
use Rattle.node_rules.specs.OpenTxs.{pending_of, waits_as}
use Rattle.node_rules.specs.OwnerRule.{grant_own, told}
use Rattle.node_rules.specs.Work.{Outcome, Goes, Differs, Work, and_so, and_then, work_of_home}
use Rattle.node_laws.proofs.Works.{Base}
use Rattle.cluster_rules.specs.Clusters.{Cluster}
use Rattle.page_laws.specs.Entry.Decisions.{IsLocked}
use Rattle.page_laws.specs.Entry.Steps.{IsStepTo}
use Rattle.page_laws.proofs.EntryParts.Decided.{locked_keeps}
use Rattle.page_laws.proofs.EntryParts.Stepped.{grant_is_step_law}
use Rattle.cluster_laws.specs.Link.EpochLaws.{IsInOrder}
use Rattle.page_protocol.specs.Authority.{granting, WordFits}
use Rattle.page_protocol.specs.State.{Word, Sent, Page, set_at}
use Rattle.page_protocol.specs.Steps.{here, then}
use Rattle.page_protocol.proofs.Keeps.{and_then as runs_then}
use Rattle.page_relation.specs.Tables.{EraIs, WaiterIs}
use Rattle.page_relation.specs.Work.Events.{IsEntered}
use Rattle.page_relation.specs.Work.Keeping.{IsWorkOf, Leads}
use Rattle.page_relation.specs.Work.Landing.{land, Acts}
use Rattle.page_relation.proofs.WorkParts.Kept.{reached_on}
use Rattle.settle_relation.specs.Grant.Carrying.{MayCarry}
use Rattle.settle_relation.proofs.GrantParts.Accepting.{own_grant_leads_law}
use Rattle.settle_relation.specs.Deciding.{rewound}
use Rattle.settle_relation.specs.Fitting.{word_own}
use Rattle.settle_relation.proofs.Changing.{fewer_wait, granting_decides}
use Rattle.settle_relation.proofs.Decisions.{IsSettling, Decides, asked_of, at_version, entry, related_with, served}
use Rattle.settle_relation.proofs.Fitting.{words_fit_law}
use Rattle.settle_relation.proofs.Midway.{IsMidway}
use Rattle.settle_relation.proofs.Rewinding.{own_owner, own_reached}

-- an owner's locks are own ones
owned_is : (o : Option View) (q n : ℕ) (v : View) → o ≡ Some v → owner_in o q ≡ n → owned_before o q n ≡ true
owned_is None q n v is owner = absurd (cc)
owned_is (Some u) q n v is owner = (let same : owner_of u q ≡ n = owner in grind (arith, nat_tests, same))

-- the first of two goes
pub record Went (o : Outcome Work) (f : Work → Outcome Work) (z : Work) : Type 0 where
  pub middle : Work
  pub first : o ≡ Goes middle
  pub rest : f middle ≡ Goes z

pub went : (o : Outcome Work) (f : Work → Outcome Work) (z : Work) → and_then o f ≡ Goes z → Went o f z
went (Goes m) f z is = record { middle = m; first = refl; rest = is }
went (Differs q expected found) f z is = absurd (cc)

pub eras_of : (c : Cluster) (e : Event) (n p : ℕ) (k : Work) (a : Page) → IsWorkOf c e n p k a → EraIs (land c e n k) (partition c.config p) a.era a.owner
unfolding land
eras_of c e n p k a is = is.tables.era

module _ (b : Base) (c : Cluster) (e : Event) (n p : ℕ) (acts : Acts c n) (order : IsInOrder c) (tb ub : LockTable) (on : tb.serving ≡ true) (blank : List ℕ) (low : p < c.config.pages) where
  abbrev q : ℕ
  q = partition c.config p

  module _ (v : ℕ) (x : LockEntry) (y : Work) (a : Page) (s : IsSettling b c e n p acts order tb ub on blank v x y a) (tx : TxId) (m : Mode) (have : Option ℕ) (later : LockEntry) (l : IsLocked x tx m have later) (mine : tx.node ≡ n) where
    abbrev pub word : Word
    word = word_own y.node.home.pool p v

    abbrev pub given : Page
    given = granting a tx m word

    abbrev pub g : Sent
    g = record { tx = tx; mode = m; version = a.entry; word = word }

    fits : WordFits a tx word
    fits = (words_fit_law c e n p v tx (rewound q tb p x y) a acts (served b c e n p acts order tb ub on blank v x y a s).here (at_version b c e n p acts order tb ub on blank v x y a s) s.related).1

    pub is : IsStepTo a given later
    is =
        grant_is_step_law a x later tx m have word (entry b c e n p acts order tb ub on blank v x y a s) l (served b c e n p acts order tb ub on blank v x y a s).serves
        (asked_of b c e n p acts order tb ub on blank v x y a s tx m have l.waited).begun fits

    pub with_it : IsWorkOf c e n p (rewound q tb p later y) given
    unfolding granting
    with_it =
        related_with b c e n p acts order tb ub on blank v x y a s later (set_at a.listed tx a.era (Some m)) (record { tx = tx; mode = m; version = a.entry; word = word } ∷ a.sent) a.right is.entry
        (granting_decides a tx m (record { tx = tx; mode = m; version = a.entry; word = word })) (λ k readers back. back)
        (fewer_wait (WaiterIs a.reached a.home a.era) x later tx l.waiting (served b c e n p acts order tb ub on blank v x y a s).waiting)
        (locked_keeps x later tx m have l (served b c e n p acts order tb ub on blank v x y a s).writers)

    -- it isn't waited for at its home
    unawaited : (z : Work) → y ≡ z → IsMidway b c e n z → Decides b c e n p acts order tb ub on blank v later z a
    unfolding granting
    unawaited z same known =
        record {
          page = given;
          run = then here is.step;
          state =
              record {
                midway = known;
                there = subst (λ (k : Work). table_at k.node q ≡ Some ub) same s.there;
                version = s.version ∙ sym l.version;
                entered = s.entered;
                reached = reached_on blank a given s.reached (then here is.step);
                related = subst (λ (k : Work). IsWorkOf c e n p (rewound q tb p later k) given) same with_it;
              };
        }

    pub may : waits_as (pending_of y.node.home.txs tx) p m ≡ true → MayCarry c e n p g kind.Own None (rewound q tb p later y) given
    unfolding granting
    may waits =
        record {
          mine = mine;
          home = s.midway.good.home.home;
          waits = waits;
          asked = s.midway.asked tx;
          called = s.midway.called;
          config = s.midway.good.home.config ∙ s.midway.config;
          kind = sym owned;
          registered = refl;
          sent = inl refl;
          takes = own_reached b c e n y s.midway p a (rewound q tb p x y).node.tables acts s.related ∙ (served b c e n p acts order tb ub on blank v x y a s).now;
          image_is = λ bytes some. absurd (cc);
          entered = s.entered;
        }
      where
        owned : owned_before y.node.view (partition y.node.home.config p) (number_of y.node) ≡ true
        owned =
            ap (λ (k : Sizes). owned_before y.node.view (partition k p) (number_of y.node)) (s.midway.good.home.config ∙ s.midway.config)
            ∙ ap (owned_before y.node.view q) (s.midway.good.home.number ∙ s.midway.number)
            ∙ owned_is y.node.view q n s.midway.view (s.midway.good.view ∙ s.midway.in_view)
            (own_owner b c e n y s.midway q a.era a.owner (rewound q tb p x y) acts (served b c e n p acts order tb ub on blank v x y a s).now
            (served b c e n p acts order tb ub on blank v x y a s).here (eras_of c e n p (rewound q tb p x y) a s.related))

    -- it is carried out
    awaited : (z : Work) (o : Granted) → waits_as (pending_of y.node.home.txs tx) p m ≡ true → granted tx (record { page = p; mode = m; kind = kind.Own }) v None (work_of_home y) ≡ Goes o
        → told y o ≡ z → IsMidway b c e n z → Decides b c e n p acts order tb ub on blank v later z a
    awaited z o waits goes same known =
        record {
          page = led.page;
          run = runs_then (then here is.step) led.run;
          state =
              record {
                midway = known;
                there = subst (λ (k : Work). table_at k.node q ≡ Some ub) same s.there;
                version = s.version ∙ sym l.version;
                entered = led.known;
                reached = reached_on blank a led.page s.reached (runs_then (then here is.step) led.run);
                related = subst (λ (k : Work). IsWorkOf c e n p (rewound q tb p later k) led.page) same led.related;
              };
        }
      where
        carried : grant_own true tx m p a.entry (rewound q tb p later y) ≡ Goes (rewound q tb p later (told y o))
        carried =
            ap (λ (k : ℕ). grant_own true tx m p k (rewound q tb p later y)) (sym (at_version b c e n p acts order tb ub on blank v x y a s))
            ∙ ap (λ (k : Outcome Granted). and_so k (told (rewound q tb p later y))) goes

        led : Leads c e n p (λ k d. IsEntered d) given (rewound q tb p later (told y o))
        led =
            own_grant_leads_law c e n p g blank (rewound q tb p later y) (rewound q tb p later (told y o)) given acts low
            (reached_on blank a given s.reached (then here is.step)) (may waits) with_it carried

    pub locked_own : (w : Bool) (z : Work) → waits_as (pending_of y.node.home.txs tx) p m ≡ w → grant_own w tx m p v y ≡ Goes z → IsMidway b c e n z
        → Decides b c e n p acts order tb ub on blank v later z a
    locked_own false z waits goes known = unawaited z (let same : y ≡ z = cc in same) known
    locked_own true z waits goes known = by (granted tx (record { page = p; mode = m; kind = kind.Own }) v None (work_of_home y)) refl goes
      where
        by : (o : Outcome Granted) → granted tx (record { page = p; mode = m; kind = kind.Own }) v None (work_of_home y) ≡ o → and_so o (told y) ≡ Goes z
            → Decides b c e n p acts order tb ub on blank v later z a
        by (Goes o) is done = awaited z o waits is (let same : told y o ≡ z = cc in same) known
        by (Differs r expected found) is done = absurd (cc)
