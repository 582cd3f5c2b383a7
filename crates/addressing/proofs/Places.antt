-- The places of devices by the rows of a directory. Assumes nothing.
use Rattle.std.proofs.Common.{◌≡◌, ℕ, ◌+◌, ◌<◌, ◌≤◌, max, Bool, true, false, cond, ◌&&◌, eqb, leb, List, [], ◌∷◌, map, length, take, Some, None, Option, sym, refl, ap, ◌∙◌, arith, length-take, find, option_map, option_and_then}
use Rattle.std.proofs.lemmas.Bool.{and_from, eq-eqb, ne_eqb, le-leb, cond-true, cond-false, and_parts, leb-true}
use Rattle.train.specs.Truth.{In}
use Rattle.train.specs.Numbers.{climbs}
use Rattle.train.specs.Rows.{Row, given}
use Rattle.directory.specs.declared.row.Row as code
use Rattle.directory.specs.declared.directory.Directory.{Directory}
use Rattle.directory.specs.Meaning.{row_means, rows_mean, rows_of}
use Rattle.directory.specs.Asked.{position_in, place_of, number_of, network_of}
use Rattle.directory.specs.Lookups.{NetworksUndo, NodesUndo}
use Rattle.directory.proofs.Climbs.{climbs_first}
use Rattle.directory.proofs.NetworksUndo.{given_by}
use Rattle.plan.specs.Places.{Exists, placed}
use Rattle.addressing.specs.Devices.{Device, host, node, device_place, device_at}

-- Rows that climb from 1 have no node number above their count.
none_above :
    (h t : ℕ) (rows : List code.Row) → climbs t (map (λ r. r.node) rows) ≡ true → t + length rows < h
    → find (λ r. eqb r.node h) (rows_mean rows) ≡ None
none_above h t [] run few = refl
none_above h t (r ∷ rows) run few =
    let c = climbs_first t r.node (map (λ r. r.node) rows) run in
    let rest = find (λ q. eqb q.node h) (rows_mean rows) in
    cond-false (eqb r.node h) (Some (row_means r)) rest (ne_eqb r.node h (λ e. omega (arith, c.1)))
    ∙ none_above h (max t r.node) rows c.2 (omega (arith, c.1))

pub no_node : (d : Directory) (p : ℕ × ℕ) → p.0 ≡ 0 → (p.1 < 256 → ⊥) → None ≡ device_at (rows_of d) p
no_node d p e far =
    let counted = take d.count d.rows in
    let few = length-take d.count d.rows in
    let none = none_above p.1 0 counted d.numbered (omega (arith, d.within)) in
    sym
    (cond-true (eqb p.0 0) (option_map (λ (q : ℕ × ℕ). node q.0 q.1) (place_of p.1 (rows_of d)))
    (option_map (λ (q : ℕ × ℕ). host q.0 q.1 p.1) (network_of p.0 (rows_of d))) (eq-eqb p.0 0 e)
    ∙ ap (λ o. option_map (λ (q : ℕ × ℕ). node q.0 q.1) (option_map (λ (r : Row). (r.uuid, position_in (rows_of d) r)) o)) none)

pub placed_there : (p : ℕ × ℕ) → Exists p → placed p ≡ Some p
placed_there p e =
    cond-true (leb p.0 63 && leb p.1 16383) (Some p) None (and_from (leb p.0 63) (leb p.1 16383) (le-leb p.0 63 e.0) (le-leb p.1 16383 e.1))

some_is : (p q : ℕ × ℕ) (b : Bool) → cond b (Some p) None ≡ Some q → q ≡ p
some_is p q true e = cc
some_is p q false e = cc

pub placed_is : (p q : ℕ × ℕ) → placed p ≡ Some q → q ≡ p
placed_is p q e = some_is p q (leb p.0 63 && leb p.1 16383) e

pub some_same : {A : Type 0} {x y : A} → ◌≡◌ {A = Option A} (Some x) (Some y) → x ≡ y
some_same e = cc

-- and the pair is a place
pub placed_exists : (p q : ℕ × ℕ) → placed p ≡ Some q → Exists p
placed_exists p q e = go (leb p.0 63 && leb p.1 16383) refl e
  where
    go : (b : Bool) → (leb p.0 63 && leb p.1 16383) ≡ b → cond b (Some p) None ≡ Some q → Exists p
    go true t e = let h = and_parts (leb p.0 63) (leb p.1 16383) t in (leb-true p.0 63 h.0, leb-true p.1 16383 h.1)
    go false t e = cc

pub through_some : {A B : Type 0} (f : A → Option B) (o : Option A) (y : B) → option_and_then f o ≡ Some y → (x : A) × (o ≡ Some x) × (f x ≡ Some y)
through_some f (Some x) y e = (x, refl, e)
through_some f None y e = cc

-- the device at the place of a device is this device
pub device_back :
    (rs : List Row) → NetworksUndo rs → NodesUndo rs → ((r : Row) → In r rs → 1 ≤ r.subnet) → (d : Device) (p : ℕ × ℕ)
    → device_place rs d ≡ Some p → device_at rs p ≡ Some d
device_back rs networks nodes some (host u c h) p e =
    let f = through_some (λ s. placed (s, h)) (given u c rs) p e in
    let s = f.0 in
    let is : p ≡ (s, h) = placed_is (s, h) p f.2 in
    let r = given_by u c s rs f.1 in
    let ne = ne_eqb s 0 (λ z. omega (arith, some r.giver r.is_in, r.subnet)) in
    ap (λ q. device_at rs q) is
    ∙ cond-false (eqb s 0) (option_map (λ (q : ℕ × ℕ). node q.0 q.1) (place_of h rs)) (option_map (λ (q : ℕ × ℕ). host q.0 q.1 h) (network_of s rs)) ne
    ∙ ap (λ o. option_map (λ (q : ℕ × ℕ). host q.0 q.1 h) o) (networks.network_back u c s f.1)
device_back rs networks nodes some (node u k) p e =
    let f = through_some (λ n. placed (0, n)) (number_of u k rs) p e in
    let is : p ≡ (0, f.0) = placed_is (0, f.0) p f.2 in
    ap (λ q. device_at rs q) is ∙ ap (λ o. option_map (λ (q : ℕ × ℕ). node q.0 q.1) o) (nodes.place_back u k f.0 f.1)
