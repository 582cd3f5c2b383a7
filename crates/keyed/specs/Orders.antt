-- What a total order is, and the orders of numbers and of pairs of numbers. Assumes nothing.
use Rattle.std.specs.Prelude.{◌≡◌, ℕ, ◌+◌, ◌*◌, ◌^◌, cond, ◌==◌, nat_lt}
use Rattle.std.specs.declared.cmp.Ordering.TheVariants.{Less, Equal, Greater}
use Rattle.std.specs.declared.cmp.Ordering.{Ordering}
use Rattle.std.specs.Ordering.{ordering_reverse, ordering_then}

-- An order is a function, so two keys are just one of less, equal and greater.
pub record Total {K : Type 0} (order : K → K → Ordering) : Type 0 where
  -- Equal means the same key.
  pub itself : (a : K) → order a a ≡ Equal
  pub same : (a b : K) → order a b ≡ Equal → a ≡ b
  -- Greater is less with the two exchanged.
  pub exchanged : (a b : K) → order b a ≡ ordering_reverse (order a b)
  -- Less carries over.
  pub carries : (a b c : K) → order a b ≡ Less → order b c ≡ Less → order a c ≡ Less

-- how two numbers compare
abbrev pub numbers : ℕ → ℕ → Ordering
numbers a b = cond (nat_lt a b) Less (cond (a == b) Equal Greater)

-- how two pairs compare: the first numbers decide, and where they are equal the second
abbrev pub pairs : ℕ × ℕ → ℕ × ℕ → Ordering
pairs a b = ordering_then (numbers a.0 b.0) (numbers a.1 b.1)

-- a pair of 64-bit halves as one number of 128 bits
abbrev pub whole : ℕ × ℕ → ℕ
whole p = p.0 * 2 ^ 64 + p.1
