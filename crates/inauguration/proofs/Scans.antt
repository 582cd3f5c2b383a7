-- What the scans of the reports held find. Assumes nothing.
use Rattle.std.proofs.Common.{◌≡◌, ℕ, ◌+◌, Bool, true, false, cond, not, ◌||◌, eqb, List, [], ◌∷◌, Some, refl, ap}
use Rattle.std.specs.List.{find, position_from}
use Rattle.std.specs.Option.{option_map, unwrap_or}
use Rattle.report.specs.declared.Report as code
use Rattle.report.specs.Reports.{Report, means}
use Rattle.fitting.specs.Neighbours.{place_of, is_firm, loose_of}
use Rattle.fitting.specs.Walk.{end_mac}
use Rattle.inauguration.specs.Meaning.{all_mean}

pub placed : (m k : ℕ) (held : List code.Report) → position_from (λ r. eqb r.mac.0 m) k held ≡ place_of m k (all_mean held)
placed m k [] = refl
placed m k (r ∷ rs) = ap (cond (eqb r.mac.0 m) (Some k)) (placed m (k + 1) rs)

pub first_loose : (all : List Report) (held : List code.Report)
    → option_map (λ r. r.mac.0) (find (λ r. not (is_firm all (means r))) held) ≡ loose_of all (all_mean held)
first_loose all [] = refl
first_loose all (r ∷ rs) = go (is_firm all (means r)) (first_loose all rs)
  where
    go : (b : Bool) → option_map (λ r. r.mac.0) (find (λ r. not (is_firm all (means r))) rs) ≡ loose_of all (all_mean rs)
        → option_map (λ r. r.mac.0) (cond (not b) (Some r) (find (λ r. not (is_firm all (means r))) rs)) ≡ cond b (loose_of all (all_mean rs)) (Some r.mac.0)
    go true e = e
    go false e = refl

pub first_end : (held : List code.Report)
    → unwrap_or (option_map (λ r. r.mac.0) (find (λ r. eqb r.side1.0 0 || eqb r.side2.0 0) held)) 0 ≡ end_mac (all_mean held)
first_end [] = refl
first_end (r ∷ rs) = go (eqb r.side1.0 0) (eqb r.side2.0 0) (first_end rs)
  where
    go : (a b : Bool) → unwrap_or (option_map (λ r. r.mac.0) (find (λ r. eqb r.side1.0 0 || eqb r.side2.0 0) rs)) 0 ≡ end_mac (all_mean rs)
        → unwrap_or (option_map (λ r. r.mac.0) (cond (a || b) (Some r) (find (λ r. eqb r.side1.0 0 || eqb r.side2.0 0) rs))) 0
        ≡ cond a r.mac.0 (cond b r.mac.0 (end_mac (all_mean rs)))
    go true b e = refl
    go false true e = refl
    go false false e = e
