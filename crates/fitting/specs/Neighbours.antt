-- How held reports name each other as neighbours. Assumes nothing.
use Rattle.std.specs.Prelude.{◌≡◌, ℕ, ◌+◌, ◌<◌, Bool, true, false, cond, ◌&&◌, ◌||◌, ◌⊎◌, List, [], ◌∷◌, map, Some, None, Option, ◌==◌, slice_index_or}
use Rattle.report.specs.Reports.{Report}
use Rattle.train.specs.Truth.{In}
use Rattle.train.specs.Rules.{Different, IsMac}

-- what stands past the end of the reports held
abbrev pub blank : Report
blank = record { mac = 0; side1 = 0; side2 = 0; uuid = 0; position = 0; masks = [] }

-- where the report of MAC m stands, of reports that begin at place k
abbrev pub place_of : ℕ → ℕ → List Report → Option ℕ
place_of m k [] = None
place_of m k (r ∷ rs) = cond (r.mac == m) (Some k) (place_of m (k + 1) rs)

abbrev pub is_some : {A : Type 0} → Option A → Bool
is_some None = false
is_some (Some x) = true

-- a report is held under the MAC m
abbrev pub is_held : ℕ → List Report → Bool
is_held m held = is_some (place_of m 0 held)

-- the report names m on a side
abbrev pub names : ℕ → Report → Bool
names m r = r.side1 == m || r.side2 == m

abbrev pub names_at : ℕ → List Report → Option ℕ → Bool
names_at m held None = false
names_at m held (Some i) = names m (slice_index_or held i blank)

-- x is no neighbour, or its report is held and names m back
abbrev pub is_backed : List Report → ℕ → ℕ → Bool
is_backed held m x = x == 0 || names_at m held (place_of x 0 held)

abbrev pub is_firm : List Report → Report → Bool
is_firm held r = is_backed held r.mac r.side1 && is_backed held r.mac r.side2

-- the MAC of the first of the reports rs that is loose among those held
abbrev pub loose_of : List Report → List Report → Option ℕ
loose_of held [] = None
loose_of held (r ∷ rs) = cond (is_firm held r) (loose_of held rs) (Some r.mac)

abbrev pub loose : List Report → Option ℕ
loose held = loose_of held held

-- m is the MAC of a loose report
pub record IsLoose (held : List Report) (m : ℕ) : Type 0 where
  pub report : Report
  pub among : In report held
  pub own : report.mac ≡ m
  pub not_firm : is_firm held report ≡ false

-- The same as relations, which agree with the tests above where each report has a MAC of its own: r names x on a side.
abbrev pub Names : Report → ℕ → Type 0
Names r x = (r.side1 ≡ x) ⊎ (r.side2 ≡ x)

-- x, where it is a neighbour, is held and names m
abbrev pub Backed : List Report → ℕ → ℕ → Type 0
Backed held m x = 0 < x → (s : Report) × In s held × (s.mac ≡ x) × Names s m

-- each neighbour that r names is held and names r back
abbrev pub Firm : List Report → Report → Type 0
Firm held r = (x : ℕ) → Names r x → Backed held r.mac x

abbrev pub NoLoose : List Report → Type 0
NoLoose held = (r : Report) → In r held → Firm held r

-- each report has a MAC of its own
pub record OwnReports (held : List Report) : Type 0 where
  pub real : (r : Report) → In r held → IsMac r.mac
  pub differ : Different (map (λ r. r.mac) held)
