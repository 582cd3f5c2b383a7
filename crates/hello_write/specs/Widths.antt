-- The fields of a HELLO that can be written: in range, and not too wide or of another length. Assumes nothing.
use Rattle.std.specs.Prelude.{◌≡◌, ℕ, ◌^◌, ◌<◌, Bool, ◌&&◌, List, [], ◌∷◌, ◌++◌, length, ◌==◌, nat_lt, slice_index}
use Rattle.hello_read.specs.declared.fault.FieldFault.{FieldFault}
use Rattle.hello_read.specs.declared.fault.FieldFault.TheVariants.{Vendor, Statuses, Inhibition, Remote, Uuid}
use Rattle.hello_read.specs.Hellos.{Hello, ranges}

-- four times two bits
abbrev pub narrow : List ℕ → Bool
narrow s = nat_lt (slice_index s 0) 4 && nat_lt (slice_index s 1) 4 && nat_lt (slice_index s 2) 4 && nat_lt (slice_index s 3) 4

-- a field, and whether it can be written; from the left
abbrev pub writable : Hello → List (FieldFault × Bool)
writable h =
    (Vendor, (length h.vendor == 32)) ∷ (Statuses, narrow h.statuses)
    ∷ (ranges h ++ (Inhibition, nat_lt h.inhibition 4) ∷ (Remote, nat_lt h.remote (2 ^ 48)) ∷ (Uuid, (length h.uuid == 16)) ∷ [])

-- what the types of the code's numbers leave to no check
pub record Widths (h : Hello) : Type 0 where
  pub checksum : h.checksum < 2 ^ 16
  pub life_sign : h.life_sign < 2 ^ 32
  pub counter : h.counter < 2 ^ 32
  pub port : h.port < 2 ^ 8
  pub statuses : length h.statuses ≡ 4
