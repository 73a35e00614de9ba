-- An access and what it comes to, in the words of the rules.
use Rattle.std.specs.Prelude.{Result, Ok, Err}
use Rattle.node_rules.specs.AccessRule.{Access as Asked, Next as NextRule, Now as now, AskOwn as ask_own, AskOwner as ask_owner}
use Rattle.pcl_base.specs.declared.reply.Reply.{Reply}
use Rattle.pcl_base.specs.declared.fault.NoMemory.{NoMemory as Wanting}
use Rattle.home.specs.declared.fault.HomeFault.{HomeFault}
use Rattle.home.specs.declared.fault.HomeFault.TheVariants.{NoMemory}
use Rattle.home.specs.declared.access.Access.{Access}
use Rattle.home.specs.declared.access.Next.{Next}
use Rattle.home.specs.declared.access.Next.TheVariants.{Now, AskOwn, Send}

-- the access that is asked for
abbrev pub asked : Access → Asked
asked a = record { tx = a.tx; page = a.page; write = a.write }

-- what it comes to
abbrev pub next_as : Next → NextRule
next_as (Now r) = now r
next_as (AskOwn w) = ask_own w
next_as (Send r) = ask_owner r

-- the answer where an access was done at once, or memory was wanting
abbrev pub done_as : Result Reply Wanting → Result Next HomeFault
done_as (Ok r) = Ok (Now r)
done_as (Err e) = Err NoMemory
