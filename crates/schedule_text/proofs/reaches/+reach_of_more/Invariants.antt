use Rattle.schedule_text.proofs.reaches.+reach_of_more.Given as goal

-- how many owners may still follow
abbrev pub decreases-reach_of_more : goal.decreases-reach_of_more
decreases-reach_of_more l = l.owners
