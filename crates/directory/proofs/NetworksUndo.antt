-- Subnets and the networks of consists undo each other. Assumes nothing.
use Rattle.std.proofs.Common.{◌≡◌, ℕ, ◌≤◌, max, eqb, List, [], ◌∷◌, ◌++◌, map, take, Some, None, Option, sym, refl, ap, ◌∙◌, ⊎_elim, arith, find, option_map}
use Rattle.std.proofs.lemmas.Bool.{and_parts, and_from, eqb-true, eq-eqb}
use Rattle.train.specs.Truth.{In, here, there}
use Rattle.train.specs.Rows.{Met, Meeting, meetings, Row, row, given, rows_met}
use Rattle.directory.specs.Asked.{highest}
use Rattle.directory.specs.Lookups.{NetworksUndo}
use Rattle.directory.proofs.Climbs.{highest_above}
use Rattle.directory.proofs.Subnets.{or_next, is_for, Filled, filled_push, filled_none, filled_all}
use Rattle.directory.proofs.Searches.{given_first}
use Rattle.directory.proofs.Members.{in_push, in_take, carried_some, first_in, first_some}

-- a network has one subnet, and a subnet is of one network
pub record OneToOne (rs : List Row) : Type 0 where
  pub one_subnet : (r s : Row) → In r rs → In s rs → r.uuid ≡ s.uuid → r.cn ≡ s.cn → r.subnet ≡ s.subnet
  pub one_network : (r s : Row) → In r rs → In s rs → r.subnet ≡ s.subnet → (r.uuid ≡ s.uuid) × (r.cn ≡ s.cn)

-- the row that gave a subnet
pub record Giver (u c s : ℕ) (rs : List Row) : Type 0 where
  pub giver : Row
  pub is_in : In giver rs
  pub uuid : giver.uuid ≡ u
  pub cn : giver.cn ≡ c
  pub subnet : giver.subnet ≡ s

pub given_by : (u c s : ℕ) (rs : List Row) → given u c rs ≡ Some s → Giver u c s rs
given_by u c s rs e =
    let f = carried_some (λ (r : Row). r.subnet) (find (is_for u c) rs) s (given_first u c rs ∙ e) in
    let i = first_in (is_for u c) rs f.0 f.1 in
    let p = and_parts (eqb f.0.uuid u) (eqb f.0.cn c) i.1 in
    record { giver = f.0; is_in = i.0; uuid = eqb-true f.0.uuid u p.0; cn = eqb-true f.0.cn c p.1; subnet = f.2 }

-- a row of a network that is there gives it a subnet
pub given_there : (u c : ℕ) (rs : List Row) (r : Row) → In r rs → r.uuid ≡ u → r.cn ≡ c → (s : ℕ) × (given u c rs ≡ Some s)
given_there u c rs r i eu ec =
    let f = first_some (is_for u c) rs r i (and_from (eqb r.uuid u) (eqb r.cn c) (eq-eqb r.uuid u eu) (eq-eqb r.cn c ec)) in
    (f.0.subnet, sym (given_first u c rs) ∙ ap (λ o. option_map (λ (r : Row). r.subnet) o) f.1)

in_highest : (t : ℕ) (r : Row) (rs : List Row) → In r rs → r.subnet ≤ highest t (map (λ r. r.subnet) rs)
in_highest t r [] i = elim i [ ]
in_highest t r (q ∷ rs) here = omega (arith, highest_above (max t q.subnet) (map (λ r. r.subnet) rs))
in_highest t r (q ∷ rs) (there i) = in_highest (max t q.subnet) r rs i

-- the new row beside an old one
record Beside (q r : Row) : Type 0 where
  one_subnet : r.uuid ≡ q.uuid → r.cn ≡ q.cn → r.subnet ≡ q.subnet
  one_network : r.subnet ≡ q.subnet → (r.uuid ≡ q.uuid) × (r.cn ≡ q.cn)

module _ (rs : List Row) (top : ℕ) (m : Meeting) (left : List Meeting) (all : List Row) (s : ℕ) (f : Filled rs top (m ∷ left) all) (g : OneToOne rs) where
  beside : (o : Option ℕ) → given m.uuid m.cn rs ≡ o → s ≡ or_next top o → (r : Row) → In r rs → Beside (row m s) r
  beside (Some x) e is r i =
      let w = given_by m.uuid m.cn x rs e in
      record {
        one_subnet = λ eu ec. g.one_subnet r w.giver i w.is_in (eu ∙ sym w.uuid) (ec ∙ sym w.cn) ∙ w.subnet ∙ sym is;
        one_network =
            λ es.
            let p = g.one_network r w.giver i w.is_in (es ∙ is ∙ sym w.subnet) in
            (p.0 ∙ w.uuid, p.1 ∙ w.cn);
      }
  beside None e is r i =
      let low = in_highest 0 r rs i in
      record {
        one_subnet =
            λ eu ec.
            let w = given_there m.uuid m.cn rs r i eu ec in
            let no : None ≡ Some w.0 = sym e ∙ w.1 in
            absurd (let z : ◌≡◌ {A = ℕ} 0 1 = cc in let b : ⊥ = omega arith in b);
        one_network = λ es. absurd (let z : ⊥ = omega (arith, f.top_is) in z);
      }

  one_to_one_push : s ≡ or_next top (given m.uuid m.cn rs) → OneToOne (rs ++ row m s ∷ [])
  one_to_one_push is =
      let q = row m s in
      let old = beside (given m.uuid m.cn rs) refl is in
      record {
        one_subnet =
            λ r t i j eu ec.
            ⊎_elim
            (λ ri. ⊎_elim (λ ti. g.one_subnet r t ri ti eu ec) (λ te. (old r ri).one_subnet (eu ∙ ap (λ x. x.uuid) te) (ec ∙ ap (λ x. x.cn) te) ∙ sym (ap (λ x. x.subnet) te)) (in_push t q rs j))
            (λ re.
            ⊎_elim
            (λ ti. ap (λ x. x.subnet) re ∙ sym ((old t ti).one_subnet (sym eu ∙ ap (λ x. x.uuid) re) (sym ec ∙ ap (λ x. x.cn) re)))
            (λ te. ap (λ x. x.subnet) (re ∙ sym te)) (in_push t q rs j))
            (in_push r q rs i);
        one_network =
            λ r t i j es.
            ⊎_elim
            (λ ri.
            ⊎_elim (λ ti. g.one_network r t ri ti es)
            (λ te.
            let p = (old r ri).one_network (es ∙ ap (λ x. x.subnet) te) in
            (p.0 ∙ sym (ap (λ x. x.uuid) te), p.1 ∙ sym (ap (λ x. x.cn) te)))
            (in_push t q rs j))
            (λ re.
            ⊎_elim
            (λ ti.
            let p = (old t ti).one_network (sym es ∙ ap (λ x. x.subnet) re) in
            (ap (λ x. x.uuid) re ∙ sym p.0, ap (λ x. x.cn) re ∙ sym p.1))
            (λ te. (ap (λ x. x.uuid) (re ∙ sym te), ap (λ x. x.cn) (re ∙ sym te))) (in_push t q rs j))
            (in_push r q rs i);
      }

one_to_one_on : (rs : List Row) (top : ℕ) (ms : List Meeting) (all : List Row) → Filled rs top ms all → OneToOne rs → OneToOne all
one_to_one_on rs top [] all f g = rw (sym (filled_all rs top all f)) g
one_to_one_on rs top (m ∷ ms) all f g =
    let s = or_next top (given m.uuid m.cn rs) in
    one_to_one_on (rs ++ row m s ∷ []) (max top s) ms all (filled_push rs top m ms all s f refl) (one_to_one_push rs top m ms all s f g refl)

pub one_to_one : (xs : List Met) → OneToOne (rows_met xs)
one_to_one xs =
    one_to_one_on [] 0 (meetings 1 xs) (rows_met xs) (filled_none (meetings 1 xs))
    (record { one_subnet = λ r s i j _ _. elim i [ ]; one_network = λ r s i j _. elim i [ ] })

one_to_one_take : (n : ℕ) (rs : List Row) → OneToOne rs → OneToOne (take n rs)
one_to_one_take n rs g = record {
  one_subnet = λ r s i j. g.one_subnet r s (in_take r n rs i) (in_take s n rs j);
  one_network = λ r s i j. g.one_network r s (in_take r n rs i) (in_take s n rs j);
}

undo : (rs : List Row) → OneToOne rs → NetworksUndo rs
undo rs g = record {
  network_back =
      λ u c s e.
      let w = given_by u c s rs e in
      let p = λ (r : Row). eqb r.subnet s in
      let f = first_some p rs w.giver w.is_in (eq-eqb w.giver.subnet s w.subnet) in
      let i = first_in p rs f.0 f.1 in
      let n = g.one_network f.0 w.giver i.0 w.is_in (eqb-true f.0.subnet s i.1 ∙ sym w.subnet) in
      ap (λ o. option_map (λ (r : Row). (r.uuid, r.cn)) o) f.1 ∙ (λ j. Some ((n.0 ∙ w.uuid) j, (n.1 ∙ w.cn) j));
  subnet_back =
      λ u c s e.
      let p = λ (r : Row). eqb r.subnet s in
      let f = carried_some (λ (r : Row). (r.uuid, r.cn)) (find p rs) (u, c) e in
      let i = first_in p rs f.0 f.1 in
      let w = given_there u c rs f.0 i.0 (ap (λ x. x.0) f.2) (ap (λ x. x.1) f.2) in
      let q = given_by u c w.0 rs w.1 in
      let n =
      g.one_subnet q.giver f.0 q.is_in i.0 (q.uuid ∙ sym (ap (λ x. x.0) f.2)) (q.cn ∙ sym (ap (λ x. x.1) f.2))
      in
      w.1 ∙ ap (λ k. Some k) (sym q.subnet ∙ n ∙ eqb-true f.0.subnet s i.1);
}

pub networks_undo : (xs : List Met) → NetworksUndo (take 128 (rows_met xs))
networks_undo xs = undo (take 128 (rows_met xs)) (one_to_one_take 128 (rows_met xs) (one_to_one xs))
