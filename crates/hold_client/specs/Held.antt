-- What is read under a hold, if one is granted. Assumes nothing.
use Rattle.std.specs.Prelude.{cond, Ok, Err, Result, nat_lt}
use Rattle.runs.specs.Calls.{State, Answer, refused, busy}
use Rattle.hold_client.specs.declared.fault.HoldFault.{HoldFault}
use Rattle.hold_client.specs.declared.fault.HoldFault.TheVariants.{Busy, Refused}

-- x where a hold is granted, or else y
abbrev pub if_free : {A : Type 0} → State → A → A → A
if_free s x y = cond (nat_lt s.holds 16) x y

abbrev pub no_hold : Answer
no_hold = refused busy

-- what is read, or why it is not; `f` says so of what the node answers
abbrev pub read_told : {A E : Type 0} → (Result A E → Answer) → Result A (HoldFault E) → Answer
read_told f (Ok x) = f (Ok x)
read_told f (Err Busy) = no_hold
read_told f (Err (Refused e)) = f (Err e)
