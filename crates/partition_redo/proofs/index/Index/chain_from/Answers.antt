use Rattle.std.proofs.Common.{inl, ◌≡◌, ◌+◌, ◌∷◌, [], ◌++◌, refl, ap, sym, ◌∙◌, append_assoc, Some, List}
use Rattle.partition_redo.specs.declared.site.Site.{Site}
use Rattle.partition_redo.specs.Index.{IndexView, ranges_of}
use Rattle.partition_redo.proofs.Noted.{next_more}
use Rattle.partition_redo.proofs.index.Index.chain_from.Goals as goal

pub returns-in-None-clause-follows : goal.returns-in-None-clause-follows
returns-in-None-clause-follows c =
    record {
      page_same = refl;
      more = c.loop-version.invariant.more;
      sites_same = c.loop-version.invariant.same;
      next = c.loop-version.invariant.next;
      last = inl
          (sym (ap (λ (i : IndexView). ranges_of i c.args.page (c.loop-version.version + 1)) c.self.view_is)
          ∙ sym c.at.ensures
          ∙ c.in-None.is);
    }

pub loop-version-preserved : goal.loop-version-preserved
loop-version-preserved c =
    let found : ranges_of c.args.self.now c.args.page (c.loop-version.version + 1) ≡ Some c.in-Some.site =
    sym (ap (λ (i : IndexView). ranges_of i c.args.page (c.loop-version.version + 1)) c.self.view_is)
    ∙ sym c.at.ensures
    ∙ c.in-Some.is in
    record {
      more = c.loop-version.invariant.more ++ c.in-Some.site ∷ [];
      same =
          c.in_ok-push-in-Some.ensures.ok
          ∙ ap (λ (ss : List Site). ss ++ c.in-Some.site ∷ []) c.loop-version.invariant.same
          ∙ append_assoc c.args.sites c.loop-version.invariant.more (c.in-Some.site ∷ []);
      next = next_more (ranges_of c.args.self.now c.args.page) c.loop-version.invariant.more c.in-Some.site c.args.from c.loop-version.version c.loop-version.invariant.next found;
    }
