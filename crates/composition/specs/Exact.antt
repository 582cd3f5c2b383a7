-- What a check of a line says of it. Assumes nothing.
use Rattle.std.specs.Prelude.{◌≡◌, true, is_ok, Result}
use Rattle.train.specs.Line.{Line}
use Rattle.train.specs.Rules.{IsLine, Within}
use Rattle.composition.specs.declared.fault.LineFault.{LineFault}

-- the answer is Ok exactly where this is a line within the limits
pub record Exactly (l : Line) (r : Result (Unit {0}) LineFault) : Type 0 where
  pub ok : IsLine l → Within l → is_ok r ≡ true
  pub line : is_ok r ≡ true → IsLine l
  pub within : is_ok r ≡ true → Within l
