-- What is answered, in plain numbers. Assumes nothing.
use Rattle.std.specs.Prelude.{ℕ, Option, option_map}
use Rattle.report.specs.Reports.{whole}
use Rattle.report.specs.declared.Uuid.{Uuid}

-- a UUID with a position or a network
abbrev pub place_told : Option (Uuid × ℕ) → Option (ℕ × ℕ)
place_told o = option_map (λ p. (whole p.0, p.1)) o
