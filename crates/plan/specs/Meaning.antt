-- What a plan means, and when an answer is what a relation says. Assumes nothing.
use Rattle.std.specs.Prelude.{◌≡◌, ℕ, ◌^◌, ◌<◌, Some, Option}
use Rattle.plan.specs.Places.{Exists}

-- what a plan means: the address of each place that it serves, and the place that stands at each address
pub record Meaning : Type 0 where
  pub serves : ℕ × ℕ → Option ℕ
  pub stands : ℕ → Option (ℕ × ℕ)

-- a plan serves places, each at an address, and has a place stand at an address
pub record Lawful (serves : ℕ × ℕ → Option ℕ) (stands : ℕ → Option (ℕ × ℕ)) : Type 0 where
  -- only places are served
  pub places : (p : ℕ × ℕ) (a : ℕ) → serves p ≡ Some a → Exists p
  -- at addresses of 32 bits
  pub addresses : (p : ℕ × ℕ) (a : ℕ) → serves p ≡ Some a → a < 2 ^ 32
  -- a served place stands at its address
  pub found : (p : ℕ × ℕ) (a : ℕ) → serves p ≡ Some a → stands a ≡ Some p
  -- what stands at an address is served there, so elsewhere nothing stands
  pub given : (p : ℕ × ℕ) (a : ℕ) → stands a ≡ Some p → serves p ≡ Some a
  -- two places never share an address
  pub unshared : (p q : ℕ × ℕ) (a : ℕ) → serves p ≡ Some a → serves q ≡ Some a → p ≡ q

-- the answer is the one value of which R holds, or none if there is none
pub record Exactly {A : Type 0} (R : A → Type 0) (o : Option A) : Type 0 where
  pub only : (x : A) → o ≡ Some x → R x
  pub each : (x : A) → R x → o ≡ Some x
