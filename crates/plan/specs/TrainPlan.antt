-- The train plan of backbone b. Assumes nothing.
use Rattle.std.specs.Prelude.{◌≡◌, ℕ, ◌+◌, ◌-◌, ◌*◌, ◌/◌, ◌%◌, ◌≤◌, cond, ◌&&◌, Some, None, Option, nat_le, nat_lt}
use Rattle.plan.specs.Places.{usable}
use Rattle.plan.specs.Meaning.{Meaning}

-- it serves place p at address a
pub record TrainServes (b : ℕ) (p : ℕ × ℕ) (a : ℕ) : Type 0 where
  pub backbone : b ≤ 3
  pub subnet : p.0 ≤ 63
  pub first : 1 ≤ p.1
  pub last : p.1 ≤ 16382
  pub address : a ≡ 0x0a80_0000 + b * 2097152 + p.0 * 16384 + p.1

-- the address before the backbone's first
abbrev pub start : ℕ → ℕ
start b = 0x0a80_0000 + b * 2097152

abbrev pub train_serves : ℕ → ℕ × ℕ → Option ℕ
train_serves b p = cond (nat_le b 3 && nat_le p.0 63 && usable p) (Some (start b + p.0 * 16384 + p.1)) None

-- the place at an offset from the start
abbrev pub place_in : ℕ → ℕ × ℕ
place_in n = (n / 16384, n % 16384)

abbrev pub train_stands : ℕ → ℕ → Option (ℕ × ℕ)
train_stands b a =
    cond (nat_le b 3 && nat_le (start b) a && nat_lt (a - start b) 1048576 && usable (place_in (a - start b)))
    (Some (place_in (a - start b)))
    None

abbrev pub train_means : ℕ → Meaning
train_means b = record { serves = train_serves b; stands = train_stands b }
