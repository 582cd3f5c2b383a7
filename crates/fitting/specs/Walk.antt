-- The walk along the reports held, from neighbour to neighbour. Assumes nothing.
use Rattle.std.specs.Prelude.{ℕ, zero, suc, Bool, true, false, cond, List, [], ◌∷◌, map, length, Some, None, Option, ◌==◌, slice_index_or, slice_set}
use Rattle.report.specs.Reports.{Report}
use Rattle.train.specs.Line.{Way, forward, turned}
use Rattle.train.specs.Truth.{Awake, reports, In}
use Rattle.train.specs.Rules.{Different, macs}
use Rattle.fitting.specs.Neighbours.{blank, place_of}

-- the MAC of the first report with no neighbour on a side, 0 for none
abbrev pub end_mac : List Report → ℕ
end_mac [] = 0
end_mac (r ∷ rs) = cond (r.side1 == 0) r.mac (cond (r.side2 == 0) r.mac (end_mac rs))

-- a node with l to its left stands forward if l is on side 1; then side 2 is to its right. A lone one stands forward.
abbrev pub way_from : ℕ → Report → Way
way_from l r = cond (r.side1 == l) forward turned

abbrev pub next_from : ℕ → Report → ℕ
next_from l r = cond (r.side1 == l) r.side2 r.side1

-- a report met on the walk: its place among those held, and how its node stands
pub record Step : Type 0 where
  pub place : ℕ
  pub way : Way

-- how many reports are not met yet
abbrev pub unmet : List Bool → ℕ
unmet [] = 0
unmet (b ∷ bs) = cond b (unmet bs) (suc (unmet bs))

abbrev pub if_some : {A B : Type 0} → Option A → (A → Option B) → Option B
if_some None f = None
if_some (Some a) f = f a

-- the end of the walk: there is a chain where all are met
abbrev pub ended : List Bool → Option (List Step)
ended met = cond (unmet met == 0) (Some []) None

-- the walk from the MAC m, with l to its left, in at most n steps; `met` marks the reports met before
abbrev pub walk : ℕ → List Report → List Bool → ℕ → ℕ → Option (List Step)
walk zero held met l m = cond (m == 0) (ended met) None
walk (suc n) held met l m =
    cond (m == 0) (ended met) (if_some (place_of m 0 held) (λ i. cond (slice_index_or met i true) None
    (if_some (walk n held (slice_set met i true) (slice_index_or held i blank).mac (next_from l (slice_index_or held i blank)))
    (λ ss. Some (record { place = i; way = way_from l (slice_index_or held i blank) } ∷ ss)))))

abbrev pub steps_of : List Report → Option (List Step)
steps_of held = walk (length held) held (map (λ _. false) held) 0 (end_mac held)

-- the awake node of a report, standing so
abbrev pub standing : Way → Report → Awake
standing w r = record { mac = r.mac; uuid = r.uuid; position = r.position; masks = r.masks; way = w }

abbrev pub stands : List Report → Step → Awake
stands held s = standing s.way (slice_index_or held s.place blank)

-- the awake nodes of the reports held, from one end of their chain, if they are one chain
abbrev pub chain_of : List Report → Option (List Awake)
chain_of held = if_some (steps_of held) (λ ss. Some (map (stands held) ss))

-- the reports of awake nodes in this order are exactly those held
pub record IsChain (held : List Report) (xs : List Awake) : Type 0 where
  pub each_true : (r : Report) → In r held → In r (reports 0 xs)
  pub each_held : (r : Report) → In r (reports 0 xs) → In r held
  pub own_macs : Different (macs xs)
