-- Lists of numbers that run from 1 without a gap, or rise. Assumes nothing.
use Rattle.std.specs.Prelude.{ℕ, ◌+◌, ◌≤◌, max, Bool, true, ◌&&◌, List, [], ◌∷◌, nat_le}
use Rattle.std.specs.List.{AllByRecursion}
use Rattle.train.specs.Truth.{In}

-- the numbers of the list are those from 1 to n: no other, and each of them
pub record RunsTo (n : ℕ) (xs : List ℕ) : Type 0 where
  pub between : (x : ℕ) → In x xs → (1 ≤ x) × (x ≤ n)
  pub each : (x : ℕ) → 1 ≤ x → x ≤ n → In x xs

-- none is above one behind it
abbrev pub Rising : List ℕ → Type 0
Rising [] = Unit {0}
Rising (x ∷ xs) = AllByRecursion (λ y. x ≤ y) xs × Rising xs

-- the numbers from 1 on first occur in their order: each is at most one more than the highest before it
abbrev pub climbs : ℕ → List ℕ → Bool
climbs highest [] = true
climbs highest (x ∷ xs) = nat_le 1 x && nat_le x (highest + 1) && climbs (max highest x) xs
