-- What the checks of a frame make of the answer. Assumes nothing.
use Rattle.std.proofs.Common.{◌≡◌, ℕ, ◌+◌, ◌≤◌, true, cond, List, length, drop, Some, None, Err, Option, Result, ap, ◌∙◌, arith}
use Rattle.std.proofs.lemmas.Bool.{le-leb}
use Rattle.hello_read.specs.declared.Hello as code
use Rattle.hello_read.specs.declared.fault.FieldFault.{FieldFault}
use Rattle.hello_read.specs.declared.fault.TlvFault.{TlvFault}
use Rattle.hello_read.specs.declared.fault.TlvFault.TheVariants.{Field}
use Rattle.hello_read.specs.Hellos.{means}
use Rattle.hello_read.specs.Layout.{bytes_at, hello_in}
use Rattle.hello_read.specs.Refusals.{foreign}
use Rattle.hello_read.specs.Tlvs.{walk}
use Rattle.hello_read.specs.Reading.{headed, contents_at, Refuses, found, read}
use Rattle.hello_read.proofs.Numbers.{part_of_part}

pub refuses : (o : Option FieldFault) (f : FieldFault) (e : TlvFault) → o ≡ Some f → e ≡ Field f → Refuses o e
refuses None f e is so = let z : ◌≡◌ {A = ℕ} 0 1 = cc is in absurd (let n : ⊥ = omega arith in n)
refuses (Some g) f e is so = cc

-- vendor and UUID of the HELLO at a place are parts of the frame
pub parts_there : (h : code.Hello) (frame : List ℕ) (at : ℕ) → means h ≡ hello_in (contents_at at frame) → (h.vendor.now ≡ bytes_at (at + 2 + 18) 32 frame) × (h.uuid.now ≡ bytes_at (at + 2 + 70) 16 frame)
parts_there h frame at is = (
  ap (λ x. x.vendor) is ∙ part_of_part frame (at + 2) 86 18 32 (omega arith),
  ap (λ x. x.uuid) is ∙ part_of_part frame (at + 2) 86 70 16 (omega arith),
)

-- ---- a frame by the first check that fails

module _ (bs : List ℕ) where
  pub by_walk : {w : Result (Option ℕ) TlvFault} → 18 ≤ length bs → length bs ≤ 1518 → headed bs ≡ true → walk 0 18 0 None (drop 18 bs) ≡ w → read bs ≡ found bs w
  by_walk low high so is =
      rw (le-leb 18 (length bs) low, le-leb (length bs) 1518 high) (ap (λ b. cond b (found bs (walk 0 18 0 None (drop 18 bs))) (Err foreign)) so ∙ ap (found bs) is)
