-- Places as pairs of numbers, a subnet and a host. Assumes nothing.
use Rattle.std.specs.Prelude.{ℕ, ◌≤◌, Bool, cond, ◌&&◌, Some, None, Option, nat_le}
use Rattle.plan.specs.declared.place.Place.{Place}

-- the pair is a place
abbrev pub Exists : ℕ × ℕ → Type 0
Exists p = (p.0 ≤ 63) × (p.1 ≤ 16383)

abbrev pub place_means : Place → ℕ × ℕ
place_means p = (p.subnet, p.host)

abbrev pub located : Option Place → Option (ℕ × ℕ)
located (Some p) = Some (place_means p)
located None = None

-- the place of two numbers, if there is one
abbrev pub placed : ℕ × ℕ → Option (ℕ × ℕ)
placed p = cond (nat_le p.0 63 && nat_le p.1 16383) (Some p) None

-- the host is neither the first nor the last of its subnet
abbrev pub usable : ℕ × ℕ → Bool
usable p = nat_le 1 p.1 && nat_le p.1 16382
