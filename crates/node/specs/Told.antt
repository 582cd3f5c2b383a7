-- What each call answers, as an answer of its kind, and the number of each refusal with the values that it names. Assumes nothing.
use Rattle.std.specs.Prelude.{ℕ, Bool, true, false, Ok, Err, Result}
use Rattle.keyed.specs.declared.store.Full.{Full}
use Rattle.report.specs.Reports.{Report, means, whole}
use Rattle.report.specs.declared.Report as code
use Rattle.report.specs.Refusals.{Refusal, short, word_refusal}
use Rattle.report.specs.Crossed.{crossed}
use Rattle.inauguration.specs.Answered as inauguration
use Rattle.addressing.specs.Addressing as addressing
use Rattle.addressing.specs.declared.device.Refused.{Refused}
use Rattle.addressing.specs.declared.device.Device.{Device}
use Rattle.runs.specs.Calls.{Answer, told, held, counter, granted, returned, rows, node, at_address, device, refused, full, unknown, barred, busy}
use Rattle.node.specs.declared.fault.TakeFault.{TakeFault}
use Rattle.node.specs.declared.fault.TakeFault.TheVariants as take
use Rattle.node.specs.declared.fault.Unknown.{Unknown}
use Rattle.node.specs.declared.fault.InaugurationFault.{InaugurationFault}
use Rattle.node.specs.declared.fault.InaugurationFault.TheVariants as inaugurate
use Rattle.node.specs.declared.fault.Busy.{Busy}
use Rattle.node.specs.declared.fault.DirectoryFault.{DirectoryFault}
use Rattle.node.specs.declared.fault.DirectoryFault.TheVariants as directory
use Rattle.node.specs.declared.hold.Hold.{Hold}
use Rattle.node.specs.declared.status.Presence.{Presence}
use Rattle.node.specs.declared.status.Presence.TheVariants.{Awake, Silent}
use Rattle.node.specs.declared.status.Status.{Status}

abbrev pub take_refusal : TakeFault → Refusal
take_refusal (take.Garbled w) = word_refusal w
take_refusal take.Crossed = crossed
take_refusal take.Full = full

abbrev pub inauguration_refusal : InaugurationFault → Refusal
inauguration_refusal (inaugurate.Refused f) = inauguration.refusal f
inauguration_refusal inaugurate.Barred = barred

abbrev pub directory_refusal : DirectoryFault → Refusal
directory_refusal directory.NoDirectory = addressing.no_directory
directory_refusal directory.Short = short

-- a report that is let through, or why it is not
abbrev pub through_told : Result code.Report TakeFault → Result Report Refusal
through_told (Ok r) = Ok (means r)
through_told (Err f) = Err (take_refusal f)

abbrev pub keep_told : Result ℕ Full → Result ℕ Refusal
keep_told (Ok n) = Ok n
keep_told (Err f) = Err full

abbrev pub take_told : Result ℕ TakeFault → Answer
take_told (Ok n) = held n
take_told (Err f) = refused (take_refusal f)

abbrev pub silence_told : Result ℕ Unknown → Answer
silence_told (Ok n) = held n
silence_told (Err f) = refused unknown

abbrev pub inauguration_told : Result ℕ InaugurationFault → Answer
inauguration_told (Ok n) = counter n
inauguration_told (Err f) = refused (inauguration_refusal f)

-- the hold bears a MAC
abbrev pub hold_told : Result Hold Busy → Answer
hold_told (Ok h) = granted h.mac.0
hold_told (Err f) = refused busy

abbrev pub return_told : Bool → Answer
return_told b = returned b

abbrev pub directory_told : Result ℕ DirectoryFault → Answer
directory_told (Ok n) = rows n
directory_told (Err f) = refused (directory_refusal f)

abbrev pub is_awake_told : Presence → Bool
is_awake_told Awake = true
is_awake_told Silent = false

abbrev pub status_told : Result Status Refused → Answer
status_told (Ok s) = node (whole s.uuid) s.position (is_awake_told s.presence)
status_told (Err f) = refused (addressing.refusal f)

abbrev pub address_answer : Result ℕ Refused → Answer
address_answer r = told at_address (addressing.address_told r)

abbrev pub trace_answer : Result Device Refused → Answer
trace_answer r = told device (addressing.trace_told r)
