-- What address and trace answer, under a plan of which `serves` and `stands` say the meaning. Assumes nothing.
use Rattle.std.specs.Prelude.{ℕ, cond, List, [], length, Ok, Err, Option, Result, option_and_then, ◌==◌}
use Rattle.std.specs.Option.{ok_or}
use Rattle.report.specs.Refusals.{Refusal}
use Rattle.train.specs.Rows.{Row}
use Rattle.addressing.specs.declared.device.Device as code
use Rattle.addressing.specs.declared.device.Refused.{Refused}
use Rattle.addressing.specs.declared.device.Refused.TheVariants.{NoDirectory, Absent}
use Rattle.addressing.specs.Devices.{Device, device_means, device_place, device_at}

abbrev pub no_directory : Refusal
no_directory = (12, [])

abbrev pub absent : Refusal
absent = (13, [])

abbrev pub refusal : Refused → Refusal
refusal NoDirectory = no_directory
refusal Absent = absent

abbrev pub address_told : Result ℕ Refused → Result ℕ Refusal
address_told (Ok a) = Ok a
address_told (Err e) = Err (refusal e)

abbrev pub trace_told : Result code.Device Refused → Result Device Refusal
trace_told (Ok d) = Ok (device_means d)
trace_told (Err e) = Err (refusal e)

-- a directory that counts no row is not in force
abbrev pub in_force : {A : Type 0} → List Row → Option A → Result A Refusal
in_force rs o = cond (length rs == 0) (Err no_directory) (ok_or o absent)

abbrev pub addressed : (ℕ × ℕ → Option ℕ) → List Row → Device → Result ℕ Refusal
addressed serves rs d = in_force rs (option_and_then serves (device_place rs d))

abbrev pub traced : (ℕ → Option (ℕ × ℕ)) → List Row → ℕ → Result Device Refusal
traced stands rs a = in_force rs (option_and_then (device_at rs) (stands a))
