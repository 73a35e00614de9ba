-- The frames that a node writes: the replies of a step, its messages, and the last line.
use Rattle.std.specs.Prelude.{ℕ, List, [], ◌∷◌, ◌++◌, flat_map, codes, Some}
use Rattle.pcl_base.specs.declared.reply.Reply.{Reply}
use Rattle.pcl_base.specs.declared.reply.Reply.TheVariants as reply
use Rattle.pcl_base.specs.declared.reply.Reason.TheVariants as reason
use Rattle.pcl_base.specs.declared.trace.Halt.{Halt}
use Rattle.text_rules.specs.FieldBytes.{Fault, Short, BadKind, BadField, TooLong}
use Rattle.text_rules.specs.MessageBytes.{message_bytes}
use Rattle.text_rules.specs.ScheduleLine.{spaced}
use Rattle.text_rules.specs.TraceText.{ended, reply_line, halt_text}
use Rattle.text_rules.specs.BadLine.{why_text}
use Rattle.node_rules.specs.NodeState.{Outgoing}
use Rattle.frame_rules.specs.Frames.{framed, replies_kind, message_kind, end_kind}
use Rattle.frame_rules.specs.ReadFrame.{Reason, BadLength, CutOff, NoKind, InLine, InField, BadFrame}

-- the lines of replies
abbrev pub replies_text : List Reply → List ℕ
replies_text rs = flat_map (λ r. ended (reply_line r)) rs

-- the replies of one step
abbrev pub replies_frame : List Reply → List ℕ
replies_frame rs = framed replies_kind (replies_text rs)

-- a message to a node
abbrev pub sent_frame : Outgoing → List ℕ
sent_frame s = framed message_kind (s.to ∷ message_bytes s.message)

-- what a step writes: its replies, then its messages in order
abbrev pub step_frames : List Reply → List Outgoing → List ℕ
step_frames rs sends = replies_frame rs ++ flat_map sent_frame sends

-- what a line writes that names another node
abbrev pub other_node_frame : List ℕ
other_node_frame = replies_frame (reply.Refused reason.NoNode ∷ [])

-- the last frame: one line
abbrev pub end_frame : List ℕ → List ℕ
end_frame line = framed end_kind line

-- the word of a field's fault, and of a bad frame's reason
abbrev pub fault_text : Fault → List ℕ
fault_text Short = codes "Short"
fault_text BadKind = codes "BadKind"
fault_text BadField = codes "BadField"
fault_text TooLong = codes "TooLong"

abbrev pub reason_text : Reason → List ℕ
reason_text BadLength = codes "length"
reason_text CutOff = codes "cut"
reason_text NoKind = codes "kind"
reason_text (InLine why) = why_text why
reason_text (InField fault) = fault_text fault

-- the last line at a bad frame, of which there were so many with it
abbrev pub bad_frame_text : ℕ → BadFrame → List ℕ
bad_frame_text frame bad = ended (codes "bad" ++ spaced frame ++ spaced bad.place ++ codes " " ++ reason_text bad.reason)

-- the last line where a page that was read differs from what it must be
abbrev pub differs_text : ℕ → ℕ → ℕ → List ℕ
differs_text page expected found = ended (codes "differs" ++ spaced page ++ spaced expected ++ spaced found)

-- the last line at a frame past the last one
abbrev pub long_text : ℕ → List ℕ
long_text frame = ended (codes "long" ++ spaced frame)

-- the last line where a call of the storage failed
abbrev pub halted_text : Halt → List ℕ
halted_text h = halt_text (Some h)
