use Rattle.std.proofs.Common.{◌+◌, ◌≤◌, ◌∙◌, ap, refl, sym}
use Rattle.cluster_rules.specs.Links.{tail_of}
use Rattle.node_rules.specs.Words.{head_of}
use Rattle.link_model.proofs.LinksLemmas.{link_is, changed_links, changed_spares, changed_spare, some_head, no_head}
use Rattle.link_model.proofs.links.Links.take.Goals as goal
use Rattle.link_model.proofs.links.Links.take.Goals.{in-Some, in-None}

pub returns-clause-ok : goal.returns-clause-ok
returns-clause-ok c =
    elim c.match-take.branch [
      | in-Some w ↦ rw w.result-is (ap head_of (sym (link_is _ _ c.self.view_is c.args.from c.args.to c.index_mut-row.result.now c.requires.sender c.index_mut-row.ensures.value)) ∙ sym w.in-Some.ensures.head)
      | in-None w ↦ rw w.result-is tt
    ]

pub returns-clause-empty : goal.returns-clause-empty
returns-clause-empty c =
    elim c.match-take.branch [
      | in-Some w ↦ rw w.result-is ((λ bad. absurd (cc)), (λ e. absurd (some_head _ _ (w.in-Some.ensures.head ∙ ap head_of (link_is _ _ c.self.view_is c.args.from c.args.to c.index_mut-row.result.now c.requires.sender c.index_mut-row.ensures.value)) e)))
      | in-None w ↦ rw w.result-is ((λ u. no_head _ (w.in-None.ensures.head ∙ ap head_of (link_is _ _ c.self.view_is c.args.from c.args.to c.index_mut-row.result.now c.requires.sender c.index_mut-row.ensures.value))), (λ e. refl))
    ]

pub returns-clause-links : goal.returns-clause-links
returns-clause-links c = changed_links _ _ c.self.view_is c.args.from c.args.to c.index_mut-row.result.now c.take.new.self tail_of c.requires.sender c.index_mut-row.ensures.value c.take.ensures.rest

pub returns-clause-spares : goal.returns-clause-spares
returns-clause-spares c =
    elim c.match-take.branch [
      | in-Some w ↦
          rw w.result-is
          (record {
            others = changed_spares _ _ c.self.view_is c.args.from c.args.to c.index_mut-row.result.now c.take.new.self c.requires.sender c.index_mut-row.ensures.value c.take.ensures.others;
            one = changed_spare _ _ c.self.view_is (λ x y. x + 1 ≤ y) c.args.from c.args.to c.index_mut-row.result.now c.take.new.self c.requires.sender c.index_mut-row.ensures.value (w.in-Some.ensures.one refl);
          })
      | in-None w ↦ rw w.result-is tt
    ]
