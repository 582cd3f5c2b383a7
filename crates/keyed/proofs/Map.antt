-- A table is a map from keys to records. Assumes that the order is total.
use Rattle.std.proofs.Common.{Ordering}
use Rattle.keyed.specs.Orders.{Total}
use Rattle.keyed.specs.Map.{TableIsMap}
use Rattle.keyed.proofs.Found.{found_key}
use Rattle.keyed.proofs.Rising.{each_found, each_key_once}
use Rattle.keyed.proofs.Stored.{stored_found, stored_others, full_only, full_then, place_free, store_rises}
use Rattle.keyed.proofs.Removed.{removed_gone, removed_others, remove_rises}

pub table_is_map : {R K : Type 0} (order : K → K → Ordering) (under : R → K) → Total order → TableIsMap order under
table_is_map order under laws = record {
  found_key = found_key order under laws;
  stored_found = stored_found order under laws;
  stored_others = stored_others order under laws;
  removed_gone = removed_gone order under laws;
  removed_others = removed_others order under laws;
  full_only = full_only order under;
  full_then = full_then order under;
  place_free = place_free order under;
  store_rises = store_rises order under laws;
  remove_rises = remove_rises order under;
  each_found = each_found order under laws;
  each_key_once = each_key_once order under laws;
}
