use Rattle.schedule_text.proofs.views.+push_owners.Given as goal

-- how many owners may still follow
abbrev pub decreases-push_owners : goal.decreases-push_owners
decreases-push_owners l = l.most
