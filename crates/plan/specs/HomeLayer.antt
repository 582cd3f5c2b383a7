-- The home layer of subnet s over a plan of which `below` says what it answers. Assumes nothing.
use Rattle.std.specs.Prelude.{◌≡◌, ℕ, ◌≤◌, cond, ◌⊎◌, Some, None, Option}
use Rattle.plan.specs.Meaning.{Meaning}
use Rattle.plan.specs.ConsistPlan.{is_local, is_own, consist_serves, consist_stands, ConsistServes}

abbrev pub Own : ℕ → ℕ × ℕ → Type 0
Own s p = (1 ≤ s) × (s ≤ 63) × (p.0 ≡ s)

abbrev pub Local : ℕ → Type 0
Local a = (0x0a00_0000 ≤ a) × (a ≤ 0x0a00_3fff)

-- neither in its own subnet nor in the local range
pub record Outside (s : ℕ) (p : ℕ × ℕ) (a : ℕ) : Type 0 where
  pub place : Own s p → ⊥
  pub address : Local a → ⊥

-- it serves place p at address a: as the consist plan, or outside as the plan below
abbrev pub HomeServes : ℕ → (ℕ × ℕ → ℕ → Type 0) → ℕ × ℕ → ℕ → Type 0
HomeServes s Below p a = ConsistServes s p a ⊎ (Outside s p a × Below p a)

abbrev pub unless_local : Option ℕ → Option ℕ
unless_local None = None
unless_local (Some a) = cond (is_local a) None (Some a)

abbrev pub unless_own : ℕ → Option (ℕ × ℕ) → Option (ℕ × ℕ)
unless_own s None = None
unless_own s (Some p) = cond (is_own s p) None (Some p)

abbrev pub home_serves : ℕ → (ℕ × ℕ → Option ℕ) → ℕ × ℕ → Option ℕ
home_serves s below p = cond (is_own s p) (consist_serves s p) (unless_local (below p))

abbrev pub home_stands : ℕ → (ℕ → Option (ℕ × ℕ)) → ℕ → Option (ℕ × ℕ)
home_stands s below a = cond (is_local a) (consist_stands s a) (unless_own s (below a))

abbrev pub home_means : ℕ → Meaning → Meaning
home_means s below = record { serves = home_serves s below.serves; stands = home_stands s below.stands }
