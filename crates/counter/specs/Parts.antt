-- What the CRC of a row depends on: not on how the row is parted, and on each of its bytes.
-- Assumes nothing.
use Rattle.std.specs.Prelude.{◌≡◌, ℕ, ◌-◌, ◌<◌, List, [], ◌∷◌, ◌++◌}
use mathlib.Core.List.{flatten}
use Rattle.counter.specs.Crc.{all_ones, register_after, crc}

-- the register after one part and then the next, to the last
unfoldable pub after_each : ℕ → List (List ℕ) → ℕ
after_each register [] = register
after_each register (part ∷ parts) = after_each (register_after register part) parts

-- how a row is parted does nothing to its CRC
pub record PartsJoin : Type 0 where
  -- bytes taken in two parts leave the register as all of them at once
  pub two :
      (register : ℕ) (first second : List ℕ) → register_after register (first ++ second) ≡ register_after (register_after register first) second
  -- a start, any number of parts and the complement at the end give the CRC of the parts in a row
  pub any : (parts : List (List ℕ)) → all_ones - after_each all_ones parts ≡ crc (flatten parts)

-- two rows that differ in one byte alone, in one bit of it or more, have different CRCs
abbrev pub DetectsOneByte : Type 0
DetectsOneByte =
    (before after : List ℕ) (a b : ℕ) → a < 256 → b < 256 → crc (before ++ (a ∷ after)) ≡ crc (before ++ (b ∷ after)) → a ≡ b
