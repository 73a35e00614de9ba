-- Frames and their faults as the code has them, in the words of the definitions.
use Rattle.std.specs.Prelude.{Option, Some, None}
use Rattle.text_rules.specs.FieldBytes.{Fault, Short, BadKind, BadField, TooLong, Stop}
use Rattle.frame_rules.specs.Frames.{Frame as frame, LineFrame, MessageFrame, ViewFrame}
use Rattle.frame_rules.specs.ReadFrame.{Reason, BadLength, CutOff, NoKind, InLine, InField, BadFrame, bad_frame}
use Rattle.node_frames.specs.declared.frame.Frame.{Frame}
use Rattle.node_frames.specs.declared.frame.Frame.TheVariants.{Line, Message, View}
use Rattle.node_frames.specs.declared.fault.FrameReason.{FrameReason}
use Rattle.node_frames.specs.declared.fault.FrameReason.TheVariants as reason
use Rattle.node_frames.specs.declared.fault.FrameFault.{FrameFault}
use Rattle.node_frames.specs.declared.fault.FrameFault.TheVariants as fault
use Rattle.node_frames.specs.declared.fields.Stopped.{Stopped}
use Rattle.node_frames.specs.declared.fields.ReadFault.{ReadFault}
use Rattle.node_frames.specs.declared.fields.ReadFault.TheVariants.{Stopped as a_stop, NoMemory as no_memory}
use Rattle.schedule_text.specs.LineAnswer.{why_of}
use Rattle.node_frames.specs.declared.fault.FieldFault.{FieldFault}
use Rattle.node_frames.specs.declared.fault.FieldFault.TheVariants as field

-- a frame
abbrev pub frame_in : Frame → frame
frame_in (Line e) = LineFrame e
frame_in (Message from m) = MessageFrame from m
frame_in (View v) = ViewFrame v

-- what is wrong with a field, and why a frame is bad
abbrev pub field_fault : FieldFault → Fault
field_fault field.Short = Short
field_fault field.BadKind = BadKind
field_fault field.BadField = BadField
field_fault field.TooLong = TooLong

abbrev pub reason_in : FrameReason → Reason
reason_in reason.Length = BadLength
reason_in reason.Cut = CutOff
reason_in reason.Kind = NoKind
reason_in (reason.Line why) = InLine (why_of why)
reason_in (reason.Field fault) = InField (field_fault fault)

-- the bad frame that a fault tells; want of memory tells none
abbrev pub bad_in : FrameFault → Option BadFrame
bad_in (fault.Bad place why) = Some (bad_frame place (reason_in why))
bad_in fault.NoMemory = None

-- a stop of the code is one of the definitions; want of memory is none
abbrev pub stop_of : Stopped → Stop
stop_of s = record { fault = field_fault s.fault; left = s.left }

abbrev pub stop_in : ReadFault → Option Stop
stop_in (a_stop s) = Some (stop_of s)
stop_in no_memory = None
