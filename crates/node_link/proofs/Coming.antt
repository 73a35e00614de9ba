-- A frame to a node asks for steps that can come to it.
use Rattle.std.proofs.Common.{◌≡◌, sym, subst, ◌∙◌, ℕ, Bool, true, false, nat_lt, length, Some, None}
use Rattle.pcl_base.specs.declared.event.Event.{Event}
use Rattle.pcl_base.specs.declared.event.Event.TheVariants as line
use Rattle.run_rules.specs.Views.{is_live}
use Rattle.text_rules.specs.FieldBytes.{pick}
use Rattle.node_rules.specs.NodeState.{NodeState, NodeEvent, Begin, Read, Write, Commit, Abort, Deliver, Evict, Flush, Install, Cut, number_of}
use Rattle.frame_rules.specs.Frames.{Frame, LineFrame, MessageFrame, ViewFrame, IsFrame, asked_by, own_step, step_of}
use Rattle.node_frames.proofs.ViewLemmas.{and_second}
use Rattle.node_core.specs.Steps.{MayCome}

module _ (n : NodeState) (me : ℕ) (e : NodeEvent) where
  -- the step of a line, where it names the node
  picked : (b : Bool) (x : NodeEvent) → pick b (Some x) None ≡ Some e → MayCome n x → MayCome n e
  picked true x is may = let same : x ≡ e = cc in subst (MayCome n) same may
  picked false x is may = absurd (cc)

  line_comes : (ev : Event) → own_step me (asked_by ev) ≡ Some e → MayCome n e
  line_comes (line.Begin m) is = picked _ Begin is tt
  line_comes (line.Read t p) is = picked _ (Read t p) is tt
  line_comes (line.Write t p place bytes) is = picked _ (Write t p place bytes) is tt
  line_comes (line.Commit t) is = picked _ (Commit t) is tt
  line_comes (line.Abort t) is = picked _ (Abort t) is tt
  line_comes (line.Evict m p) is = picked _ (Evict p) is tt
  line_comes (line.Flush m p) is = picked _ (Flush p) is tt
  line_comes (line.Cut m) is = picked _ Cut is tt
  line_comes (line.Deliver from to) is = absurd (cc)
  line_comes (line.Crash m) is = absurd (cc)
  line_comes (line.View live owners) is = absurd (cc)
  line_comes (line.Install m) is = absurd (cc)
  line_comes line.Reopen is = absurd (cc)
  line_comes (line.Arm m count kept) is = absurd (cc)

  pub step_comes : (f : Frame) → number_of n ≡ me → IsFrame n.home.config me f → step_of me f ≡ Some e → MayCome n e
  step_comes (LineFrame ev) number fits is = line_comes ev is
  step_comes (MessageFrame from m) number fits is =
      let same : Deliver from m ≡ e = cc in
      subst (MayCome n) same ((fits.0, λ own. fits.1 (own ∙ number)), fits.2)
  step_comes (ViewFrame v) number fits is =
      let same : Install v ≡ e = cc in
      subst (MayCome n) same (
        fits.each_live,
        subst (λ m. is_live v.live m ≡ true) (sym number) (and_second (nat_lt me (length v.live)) (is_live v.live me) fits.me_live),
      )
