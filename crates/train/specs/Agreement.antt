-- How lines are compared whose sleepers differ. Assumes nothing.
use Rattle.std.specs.Prelude.{◌≡◌, ℕ, ◌⊎◌, List, map}
use Rattle.train.specs.Line.{Way, masks, Coupled, Line, flip}

-- a consist by its UUID, masks and way alone
pub record Outline : Type 0 where
  pub uuid : ℕ
  pub masks : List ℕ
  pub way : Way

abbrev pub outline : Coupled → Outline
outline s = record { uuid = s.consist.uuid; masks = masks s.consist; way = s.way }

abbrev pub skeleton : Line → List Outline
skeleton l = map outline l

-- two lines agree, read from either end, whoever sleeps
abbrev pub Agree : Line → Line → Type 0
Agree l k = (skeleton k ≡ skeleton l) ⊎ (skeleton k ≡ skeleton (flip l))
