-- The scan of the reports held for a node. Assumes nothing.
use Rattle.std.proofs.Common.{◌≡◌, ℕ, Bool, ◌&&◌, ◌||◌, eqb, List, [], ◌∷◌, map, refl, ap}
use Rattle.std.specs.List.{list_any}
use Rattle.report.specs.declared.Report as code
use Rattle.report.specs.Reports.{means}
use Rattle.runs.specs.Calls.{is_awake}

module _ (u k : ℕ) where
  abbrev pub is_of : code.Report → Bool
  is_of r = eqb (means r).uuid u && eqb r.position k

  pub awake_any : (held : List code.Report) → list_any is_of held ≡ is_awake u k (map means held)
  awake_any [] = refl
  awake_any (r ∷ held) = ap (λ b. is_of r || b) (awake_any held)
