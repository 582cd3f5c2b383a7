-- What a node reports, in plain numbers, and what a report of the code means. Assumes nothing.
use Rattle.std.specs.Prelude.{ℕ, zero, suc, ◌+◌, ◌*◌, ◌^◌, Bool, true, ◌&&◌, List, [], ◌∷◌, length, take, ◌==◌, nat_le, nat_lt}
use Rattle.report.specs.declared.Uuid.{Uuid}
use Rattle.report.specs.declared.Report as code
use Rattle.report.specs.Masks.{is_mask, all_masks, gapless}

pub record Report : Type 0 where
  pub mac : ℕ
  -- the neighbour on side 1 and on side 2, 0 for none
  pub side1 : ℕ
  pub side2 : ℕ
  pub uuid : ℕ
  -- from the consist's end 1, counted from 1
  pub position : ℕ
  -- of all nodes of the consist, from its end 1
  pub masks : List ℕ

-- The values that a report can have.
abbrev pub is_mac : ℕ → Bool
is_mac m = nat_le 1 m && nat_lt m (2 ^ 48)

-- a MAC, or 0 for none
abbrev pub is_neighbour : ℕ → Bool
is_neighbour m = nat_lt m (2 ^ 48)

abbrev pub is_uuid : ℕ → Bool
is_uuid u = nat_le 1 u && nat_lt u (2 ^ 128)

abbrev pub macs_fit : Report → Bool
macs_fit r = is_mac r.mac && is_neighbour r.side1 && is_neighbour r.side2

-- at most 4 nodes, of which this is one
abbrev pub place_fits : Report → Bool
place_fits r = nat_le (length r.masks) 4 && nat_le 1 r.position && nat_le r.position (length r.masks)

abbrev pub masks_fit : Report → Bool
masks_fit r = all_masks r.masks && gapless r.masks

abbrev pub is_report : Report → Bool
is_report r = macs_fit r && is_uuid r.uuid && place_fits r && masks_fit r

-- a UUID as one number
abbrev pub whole : Uuid → ℕ
whole u = u.high * 2 ^ 64 + u.low

abbrev pub means : code.Report → Report
means r = record {
  mac = r.mac.0;
  side1 = r.side1.0;
  side2 = r.side2.0;
  uuid = whole r.uuid;
  position = r.position;
  masks = take r.nodes r.masks;
}

-- the first n places hold a mask, and the others are 0
abbrev pub filled : ℕ → List ℕ → Bool
filled n [] = true
filled zero (m ∷ ms) = m == 0 && filled zero ms
filled (suc n) (m ∷ ms) = is_mask m && filled n ms

-- every value is in its range, and the mask places past the consist's nodes are 0
abbrev pub in_range : code.Report → Bool
in_range r = nat_le r.nodes 4 && filled r.nodes r.masks && is_report (means r)
