-- The table of reports, in what its reports mean. Assumes nothing.
use Rattle.std.proofs.Common.{◌≡◌, ℕ, Bool, true, false, cond, List, map, length, take, Ok, Err, Result, Ordering, sym, refl, ap, ◌∙◌, ap₂}
use Rattle.std.specs.Option.{option_map}
use Rattle.std.proofs.lemmas.List.{length-map}
use Rattle.keyed.specs.declared.store.Full.{Full}
use Rattle.keyed.specs.declared.table.Table.{Table}
use Rattle.keyed.specs.Orders.{numbers}
use Rattle.keyed.specs.Table.{live}
use Rattle.keyed.specs.Find.{found}
use Rattle.keyed.specs.Store as store
use Rattle.keyed.specs.Store.{stored, store_answer, store_keeps, store_leaves}
use Rattle.keyed.specs.Remove.{removed, remove_leaves}
use Rattle.keyed.proofs.Carried.{found_map, removed_map, stored_map, refused_map, keeps_map, long_stored, long_removed}
use Rattle.report.specs.declared.Mac.{Mac}
use Rattle.report.specs.declared.Report as code
use Rattle.report.specs.Reports.{Report, means}
use Rattle.runs.specs.Calls.{own_mac, full, stored_count, holding}
use Rattle.node.specs.declared.node.Node.{Node}
use Rattle.node.specs.Seen.{held_in, room_of, seen}
use Rattle.node.specs.Told.{keep_told}

-- MACs compare as their numbers
abbrev macs : Mac → Mac → Ordering
macs a b = numbers a.0 b.0

abbrev mac_of : code.Report → Mac
mac_of r = r.mac

keep_answer : (r : code.Report) (room : ℕ) (xs : List code.Report) → keep_told (store_answer macs mac_of r room xs) ≡ stored_count room (map means xs) (means r)
keep_answer r room xs =
    go (store.refused macs mac_of r room xs)
    ∙ ap₂ (λ b n. cond b (Err full) (Ok n)) (refused_map macs mac_of numbers own_mac means r (λ _. refl) room xs) (sym (length-map (stored macs mac_of r xs) means) ∙ ap length (stored_map macs mac_of numbers own_mac means r (λ _. refl) xs))
  where
    go : (b : Bool) → keep_told (cond b (Err store.full) (Ok (length (stored macs mac_of r xs)))) ≡ cond b (Err full) (Ok (length (stored macs mac_of r xs)))
    go true = refl
    go false = refl

pub kept_answer : (r : code.Report) (t : Table code.Report) (a : Result ℕ Full) → a ≡ store_answer macs mac_of r (room_of t) (live t) → keep_told a ≡ stored_count (room_of t) (held_in t) (means r)
kept_answer r t a e = ap keep_told e ∙ keep_answer r (room_of t) (live t)

pub kept_held : (r : code.Report) (room : ℕ) (xs : List code.Report) → map means (store_keeps macs mac_of r room xs) ≡ store_keeps numbers own_mac (means r) room (map means xs)
kept_held r room xs = keeps_map macs mac_of numbers own_mac means r (λ _. refl) room xs

pub kept_room : (r : code.Report) (slots : List code.Report) (len : ℕ) → length (store_leaves macs mac_of r slots (take len slots)) ≡ length slots
kept_room r slots len = long_stored macs mac_of r slots len

pub forgot_answer : (m : Mac) (xs : List code.Report) → option_map means (found macs mac_of m xs) ≡ found numbers own_mac m.0 (map means xs)
forgot_answer m xs = found_map macs mac_of numbers own_mac means m m.0 (λ _. refl) xs

pub forgot_held : (m : Mac) (xs : List code.Report) → map means (removed macs mac_of m xs) ≡ removed numbers own_mac m.0 (map means xs)
forgot_held m xs = removed_map macs mac_of numbers own_mac means m m.0 (λ _. refl) xs

pub forgot_room : (m : Mac) (slots : List code.Report) (len : ℕ) → length (remove_leaves macs mac_of m slots (take len slots)) ≡ length slots
forgot_room m slots len = long_removed macs mac_of m slots len

pub counted : (t : Table code.Report) → length (held_in t) ≡ length (live t)
counted t = length-map (live t) means

-- a node whose table alone has changed
pub with_table : (n : Node) (t : Table code.Report) (hs : List Report) → held_in t ≡ hs → room_of t ≡ room_of n.reports
    → seen (record { mac = n.mac; reports = t; holds = n.holds; directory = n.directory }) ≡ holding (seen n) hs
with_table n t hs h r = λ i. record { mac = n.mac.0; room = r i; held = h i; holds = n.holds; rows = (seen n).rows }
