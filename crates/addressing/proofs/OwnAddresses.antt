-- Under a lawful plan each device of a line whose place is served has an address of its own. Assumes nothing.
use Rattle.std.proofs.Common.{◌≡◌, ℕ, ◌≤◌, Bool, true, false, cond, eqb, List, map, length, take, Some, None, Ok, Err, Option, sym, refl, ap, ◌∙◌, subst, arith, take_all, find, option_map, option_and_then}
use Rattle.std.specs.Option.{ok_or}
use Rattle.std.proofs.lemmas.Bool.{eq-eqb, ne_eqb, eqb-true, cond-false}
use Rattle.train.specs.Line.{Line}
use Rattle.train.specs.Truth.{In}
use Rattle.train.specs.Rules.{IsLine, Within}
use Rattle.train.specs.Rows.{reading, counted, met, Row, given, rows}
use Rattle.train.specs.Theorems.{NumberedLine, PlacedLine, RowFits}
use Rattle.train.proofs.Members.{all_in, some_count, one_element}
use Rattle.train.proofs.Places.{place}
use Rattle.train.proofs.Numbered.{numbered}
use Rattle.train.proofs.Limits.{limits_suffice}
use Rattle.directory.specs.Asked.{position_in, place_of, number_of, network_of}
use Rattle.directory.specs.Lookups.{NetworksUndo, NodesUndo}
use Rattle.directory.proofs.Members.{first_in, first_some, carried_some}
use Rattle.directory.proofs.NetworksUndo.{given_by, given_there, networks_undo}
use Rattle.directory.proofs.Readings.{line_undo}
use Rattle.plan.specs.Places.{Exists, placed}
use Rattle.plan.specs.Meaning.{Lawful}
use Rattle.addressing.specs.Devices.{Device, host, node, device_place, device_at}
use Rattle.addressing.specs.Addressing.{no_directory, absent, in_force}
use Rattle.addressing.specs.OwnAddresses.{HasPlace, OwnAddresses, OwnAddress}
use Rattle.addressing.proofs.Positions.{counted_map, map_counted, position_own}
use Rattle.addressing.proofs.Places.{placed_there, placed_is, placed_exists, through_some, some_same, device_back}

-- in a directory in force
pub in_force_some : {A : Type 0} (rs : List Row) (o : Option A) (x : A) → 1 ≤ length rs → o ≡ Some x → in_force rs o ≡ Ok x
in_force_some rs o x some e =
    cond-false (eqb (length rs) 0) (Err no_directory) (ok_or o absent) (ne_eqb (length rs) 0 (λ z. omega arith)) ∙ ap (λ q. ok_or q absent) e

ok_some : {A : Type 0} (o : Option A) (x : A) → ok_or o absent ≡ Ok x → o ≡ Some x
ok_some (Some y) x e = cc
ok_some None x e = cc

pub of_in_force : {A : Type 0} (rs : List Row) (o : Option A) (x : A) → 1 ≤ length rs → in_force rs o ≡ Ok x → o ≡ Some x
of_in_force rs o x some e =
    ok_some o x (sym (cond-false (eqb (length rs) 0) (Err no_directory) (ok_or o absent) (ne_eqb (length rs) 0 (λ z. omega arith))) ∙ e)

-- and where nothing is found, 13 is answered
pub in_force_none : {A : Type 0} (rs : List Row) (o : Option A) → 1 ≤ length rs → ((x : A) → o ≡ Some x → ⊥) → in_force rs o ≡ Err absent
in_force_none rs o some n =
    cond-false (eqb (length rs) 0) (Err no_directory) (ok_or o absent) (ne_eqb (length rs) 0 (λ z. omega arith)) ∙ go o n
  where
    go : {A : Type 0} (o : Option A) → ((x : A) → o ≡ Some x → ⊥) → ok_or o absent ≡ Err absent
    go (Some x) n = absurd (n x refl)
    go None n = refl

module _ (l : Line) (is : IsLine l) (within : Within l) where
  numbers : NumberedLine l
  numbers = (numbered l is).0

  places : PlacedLine l
  places = (numbered l is).1

  all : take 128 (rows l) ≡ rows l
  all = take_all 128 (rows l) (limits_suffice.few_rows l within)

  networks : NetworksUndo (rows l)
  networks = subst NetworksUndo all (networks_undo (met (reading l)))

  nodes : NodesUndo (rows l)
  nodes = subst NodesUndo all (line_undo l is)

  fits : (r : Row) → In r (rows l) → RowFits r
  fits r i = all_in RowFits r (rows l) i (limits_suffice.rows_fit l is within)

  -- the node with number n of the reading is the one that the rows say
  pub node_of : (n u k : ℕ) → In (n, (u, k)) (counted 1 (map place (met (reading l)))) → (place_of n (rows l) ≡ Some (u, k)) × (n ≤ 63)
  node_of n u k i =
      let m = counted_map place 1 n (u, k) (met (reading l)) i in
      let x = m.0 in
      let r = numbers.node_row n x m.1 in
      let f = first_some (λ (q : Row). eqb q.node n) (rows l) r.0 r.1 (eq-eqb r.0.node n r.2) in
      let s = f.0 in
      let j = first_in (λ (q : Row). eqb q.node n) (rows l) s f.1 in
      let sn = eqb-true s.node n j.1 in
      let y = numbers.row_node s j.0 in
      let same : y.0 ≡ x = one_element 1 n y.0 x (met (reading l)) (subst (λ v. In (v, y.0) (counted 1 (met (reading l)))) sn y.1) m.1 in
      let eu : s.uuid ≡ u = y.3 ∙ ap (λ z. z.uuid) same ∙ sym (ap (λ q. q.0) m.2) in
      let ep : position_in (rows l) s ≡ k =
      position_own l is numbers places s y.0 j.0 y.1 y.3 y.4 ∙ ap (λ z. z.position) same ∙ sym (ap (λ q. q.1) m.2) in
      (ap (λ o. option_map (λ (q : Row). (q.uuid, position_in (rows l) q)) o) f.1 ∙ (λ t. Some (eu t, ep t)), omega (arith, sn, (fits s j.0).node.1))

  -- and no other node is
  pub node_only : (n u k : ℕ) → place_of n (rows l) ≡ Some (u, k) → In (n, (u, k)) (counted 1 (map place (met (reading l))))
  node_only n u k e =
      let f = carried_some (λ (q : Row). (q.uuid, position_in (rows l) q)) (find (λ (q : Row). eqb q.node n) (rows l)) (u, k) e in
      let j = first_in (λ (q : Row). eqb q.node n) (rows l) f.0 f.1 in
      let y = numbers.row_node f.0 j.0 in
      let at = subst (λ v. In (v, y.0) (counted 1 (met (reading l)))) (eqb-true f.0.node n j.1) y.1 in
      let there = map_counted place 1 n y.0 (met (reading l)) at in
      let same : place y.0 ≡ (u, k) = some_same (sym (node_of n y.0.uuid y.0.position there).0 ∙ e) in
      subst (λ q. In (n, q) (counted 1 (map place (met (reading l))))) same there

  place_is : (d : Device) (p : ℕ × ℕ) → HasPlace l d p → device_place (rows l) d ≡ Some p
  place_is (host u c h) p (r, i, eu, ec, low, e) =
      let s = given_there u c (rows l) r i eu ec in
      let q = given_by u c s.0 (rows l) s.1 in
      let one = sym q.subnet ∙ numbers.one_subnet q.giver r q.is_in i (q.uuid ∙ sym eu) (q.cn ∙ sym ec) in
      ap (λ o. option_and_then (λ s. placed (s, h)) o) (s.1 ∙ ap Some one) ∙ placed_there (r.subnet, h) ((fits r i).subnet.1, low) ∙ ap Some (sym e)
  place_is (node u k) p (n, i, e) =
      let m = node_of n u k i in
      ap (λ o. option_and_then (λ v. placed (0, v)) o) (nodes.number_back u k n m.0) ∙ placed_there (0, n) (omega arith, omega (arith, m.1)) ∙ ap Some (sym e)

  host_only : (u c s h : ℕ) → given u c (rows l) ≡ Some s → h ≤ 16383 → HasPlace l (host u c h) (s, h)
  host_only u c s h e low = let r = given_by u c s (rows l) e in (r.giver, r.is_in, r.uuid, r.cn, low, λ t. (sym r.subnet t, h))

  place_only : (d : Device) (p : ℕ × ℕ) → device_place (rows l) d ≡ Some p → HasPlace l d p
  place_only (host u c h) p e =
      let f = through_some (λ s. placed (s, h)) (given u c (rows l)) p e in
      subst (HasPlace l (host u c h)) (sym (placed_is (f.0, h) p f.2)) (host_only u c f.0 h f.1 (placed_exists (f.0, h) p f.2).1)
  place_only (node u k) p e =
      let f = through_some (λ n. placed (0, n)) (number_of u k (rows l)) p e in
      (f.0, node_only f.0 u k (nodes.place_back u k f.0 f.1), placed_is (0, f.0) p f.2)

  at_only : (d : Device) (p : ℕ × ℕ) → Exists p → device_at (rows l) p ≡ Some d → HasPlace l d p
  at_only d p ex e = go (eqb p.0 0) refl e
    where
      go : (b : Bool) → eqb p.0 0 ≡ b
          → cond b (option_map (λ (q : ℕ × ℕ). node q.0 q.1) (place_of p.1 (rows l))) (option_map (λ (q : ℕ × ℕ). host q.0 q.1 p.1) (network_of p.0 (rows l))) ≡ Some d
          → HasPlace l d p
      go true t e =
          let f = carried_some (λ (q : ℕ × ℕ). node q.0 q.1) (place_of p.1 (rows l)) d e in
          subst (λ (x : Device). HasPlace l x p) f.2 (p.1, node_only p.1 f.0.0 f.0.1 f.1, λ i. (eqb-true p.0 0 t i, p.1))
      go false t e =
          let f = carried_some (λ (q : ℕ × ℕ). host q.0 q.1 p.1) (network_of p.0 (rows l)) d e in
          subst (λ (x : Device). HasPlace l x p) f.2
          (host_only f.0.0 f.0.1 p.0 p.1 (networks.subnet_back f.0.0 f.0.1 p.0 f.1) ex.1)

  at_back : (d : Device) (p : ℕ × ℕ) → device_place (rows l) d ≡ Some p → device_at (rows l) p ≡ Some d
  at_back = device_back (rows l) networks nodes (λ r i. (fits r i).subnet.0)

  pub own_addresses : (serves : ℕ × ℕ → Option ℕ) (stands : ℕ → Option (ℕ × ℕ)) → Lawful serves stands → OwnAddresses serves stands l
  own_addresses serves stands laws = record {
    host_place = λ s c h i j low. let r = places.has_row s c i j in ((r.0.subnet, h), (r.0, r.1, r.2, r.3, low, refl));
    node_place = λ s k i low high.
        let n = some_count (s.consist.uuid, k) 1 (map place (met (reading l))) (places.placed s k i low high) in
        ((0, n.0), (n.0, n.1, refl));
    gets = λ d p a has e.
        in_force_some (rows l) (option_and_then serves (device_place (rows l) d)) a numbers.some_row (ap (λ o. option_and_then serves o) (place_is d p has) ∙ e);
    gets_only = λ d a got.
        let t = through_some serves (device_place (rows l) d) a (of_in_force (rows l) (option_and_then serves (device_place (rows l) d)) a numbers.some_row got) in
        (t.0, place_only d t.0 t.1, t.2);
    back_only = λ d a got.
        let t = through_some (device_at (rows l)) (stands a) d (of_in_force (rows l) (option_and_then (device_at (rows l)) (stands a)) d numbers.some_row got) in
        let e = laws.given t.0 a t.1 in
        (t.0, at_only d t.0 (laws.places t.0 a e) t.2, e);
    back = λ d p a has e.
        in_force_some (rows l) (option_and_then (device_at (rows l)) (stands a)) d numbers.some_row
        (ap (λ o. option_and_then (device_at (rows l)) o) (laws.found p a e) ∙ at_back d p (place_is d p has));
    alone = λ d f p a has e got.
        let t = through_some serves (device_place (rows l) f) a (of_in_force (rows l) (option_and_then serves (device_place (rows l) f)) a numbers.some_row got) in
        let same = laws.unshared t.0 p a t.2 e in
        let mine = at_back d p (place_is d p has) in
        let theirs = at_back f p (t.1 ∙ ap Some same) in
        cc;
  }

pub own_address : OwnAddress
own_address serves stands laws l is within = own_addresses l is within serves stands laws
