-- The whole table, computed: the code's table is compared with it once. Assumes nothing.
use Rattle.std.proofs.Common.{◌≡◌, ℕ, zero, suc, ◌+◌, ◌<◌, List, [], ◌∷◌, get_or, sym, ap, ◌∙◌, arith}
use Rattle.counter.specs.Crc.{register_after}
use Rattle.counter.proofs.Division.{shiftsOut}
use Rattle.counter.proofs.Register.{register_from_zero}

unfoldable pub tableFrom : ℕ → ℕ → List ℕ
tableFrom byte zero = []
tableFrom byte (suc n) = shiftsOut 8 byte ∷ tableFrom (suc byte) n

from_at : (n i k : ℕ) → k < n → get_or (tableFrom i n) k 0 ≡ shiftsOut 8 (i + k)
unfolding tableFrom
from_at zero i k h = absurd (let f : ⊥ = omega arith in f)
from_at (suc n) i zero h = ap (λ (x : ℕ). shiftsOut 8 x) (let z : i ≡ i + 0 = omega arith in z)
from_at (suc n) i (suc k) h =
    from_at n (suc i) k (omega arith) ∙ ap (λ (x : ℕ). shiftsOut 8 x) (let z : suc i + k ≡ i + suc k = omega arith in z)

pub table_at : (k : ℕ) → k < 256 → get_or (tableFrom 0 256) k 0 ≡ register_after 0 (k ∷ [])
table_at k h =
    from_at 256 0 k h ∙ rw (let z : 0 + k ≡ k = omega arith in z) (sym (register_from_zero k h))
