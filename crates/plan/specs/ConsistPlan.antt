-- The consist plan of subnet s, and the local range that its addresses are in. Assumes nothing.
use Rattle.std.specs.Prelude.{◌≡◌, ℕ, ◌+◌, ◌-◌, ◌≤◌, Bool, cond, ◌&&◌, Some, None, Option, ◌==◌, nat_le}
use Rattle.plan.specs.Places.{usable}
use Rattle.plan.specs.Meaning.{Meaning}

-- it serves place p at address a
pub record ConsistServes (s : ℕ) (p : ℕ × ℕ) (a : ℕ) : Type 0 where
  pub lowest : 1 ≤ s
  pub highest : s ≤ 63
  pub subnet : p.0 ≡ s
  pub first : 1 ≤ p.1
  pub last : p.1 ≤ 16382
  pub address : a ≡ 0x0a00_0000 + p.1

-- 10.0.0.0 to 10.0.63.255
abbrev pub is_local : ℕ → Bool
is_local a = nat_le 0x0a00_0000 a && nat_le a 0x0a00_3fff

-- s is the subnet of a consist plan, and p is in it
abbrev pub is_own : ℕ → ℕ × ℕ → Bool
is_own s p = nat_le 1 s && nat_le s 63 && p.0 == s

abbrev pub consist_serves : ℕ → ℕ × ℕ → Option ℕ
consist_serves s p = cond (is_own s p && usable p) (Some (0x0a00_0000 + p.1)) None

abbrev pub consist_stands : ℕ → ℕ → Option (ℕ × ℕ)
consist_stands s a =
    let p : ℕ × ℕ = (s, a - 0x0a00_0000) in
    cond (is_local a && is_own s p && usable p) (Some p) None

abbrev pub consist_means : ℕ → Meaning
consist_means s = record { serves = consist_serves s; stands = consist_stands s }
