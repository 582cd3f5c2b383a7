-- What the loop of `gather` keeps. Assumes nothing.
use Rattle.std.proofs.Common.{◌≡◌, ℕ, zero, suc, ◌+◌, ◌-◌, ◌^◌, ◌<◌, ◌≤◌, Bool, true, false, cond, not, ◌&&◌, ◌||◌, eqb, List, [], ◌∷◌, ◌++◌, length, drop, Some, None, Ok, Err, Option, Ordering, Less, Equal, Greater, sym, refl, ap, ◌∙◌, subst, ap₂, ⊎_elim, arith}
use mathlib.Core.List.{map-append}
use Rattle.std.specs.Bool.{then_some}
use Rattle.std.specs.List.{slice_get}
use Rattle.std.proofs.lemmas.List.Recursion.{or_push}
use Rattle.std.specs.Option.{option_map, is_some}
use Rattle.std.proofs.Math.Bool.{or-false}
use Rattle.std.proofs.lemmas.Bool.{or_cases, or_parts, or_right, eqb-true, eqb-false, eq-eqb, ne_eqb, cond-true, cond-false, both_ways, cases_Bool, and_parts}
use Rattle.std.proofs.lemmas.List.{length-append, length-drop}
use Rattle.report.specs.declared.Uuid.{Uuid}
use Rattle.report.specs.Reports.{whole}
use Rattle.keyed.specs.Orders.{pairs}
use Rattle.keyed.specs.Find.{found}
use Rattle.keyed.specs.Store.{stored, refused, store_answer, store_keeps, store_leaves, full}
use Rattle.keyed.specs.Table.{written}
use Rattle.keyed.specs.Map.{TableIsMap}
use Rattle.keyed.proofs.Orders.{total_pairs, total_by}
use Rattle.keyed.proofs.Map.{table_is_map}
use Rattle.train.specs.Line.{masks, Line}
use Rattle.train.specs.Truth.{Awake}
use Rattle.train.specs.Rules.{uuids}
use Rattle.train.specs.Agreement.{Outline, outline, skeleton}
use Rattle.directory.specs.Meaning.{way_means}
use Rattle.fitting.specs.Assemble.{among, same_way, same_masks, behind, asleep, begun, Part, goes_on, grown, next, put, all_of, put_all, first_part, assemble}
use Rattle.fitting.proofs.Wake.{wake_masks, asleep_masks}
use Rattle.fitting.proofs.Assembling.{masks_same, way_same}
use Rattle.inauguration.specs.declared.awake.Awake as node
use Rattle.inauguration.specs.Meaning.{node_means, nodes_mean}
use Rattle.inauguration.specs.Consists.{masks_of, coupled, line_of, goes, outlines_from}

-- the order of the table
abbrev pub order : Uuid → Uuid → Ordering
order a b = pairs (a.high, a.low) (b.high, b.low)

abbrev pub under : node.Awake → Uuid
under a = a.report.uuid

same_halves : (u v : Uuid) → ◌≡◌ {A = ℕ × ℕ} (u.high, u.low) (v.high, v.low) → u ≡ v
same_halves u v e = λ i. record { high = (e i).0; low = (e i).1 }

table_map : TableIsMap order under
table_map = table_is_map order under (total_by (λ u. (u.high, u.low)) pairs total_pairs same_halves)

-- a UUID of the code
abbrev pub Halves : Uuid → Type 0
Halves u = (u.high < 2 ^ 64) × (u.low < 2 ^ 64)

whole_same : (u v : Uuid) → Halves u → Halves v → whole u ≡ whole v → u ≡ v
whole_same u v hu hv e =
    let h : u.high ≡ v.high = omega (arith, hu.0, hu.1, hv.0, hv.1) in
    let l : u.low ≡ v.low = omega (arith, h) in
    λ i. record { high = h i; low = l i }

agree : (u v : Uuid) → eqb u.high v.high && eqb u.low v.low ≡ true → u ≡ v
agree u v e =
    let p = and_parts (eqb u.high v.high) (eqb u.low v.low) e in
    same_halves u v (λ i. (eqb-true u.high v.high p.0 i, eqb-true u.low v.low p.1 i))

differ : (u v : Uuid) → eqb u.high v.high && eqb u.low v.low ≡ false → u ≡ v → ⊥
differ u v e k = both_ways (eqb u.high v.high && eqb u.low v.low) e (ap₂ ◌&&◌ (eq-eqb u.high v.high (ap (λ w. w.high) k)) (eq-eqb u.low v.low (ap (λ w. w.low) k)))

-- what is assembled so far, if a node was met
abbrev run : Option Part → List Awake → Option Line
run None xs = assemble xs
run (Some b) xs = put_all b xs

abbrev uuids_of : Option Part → List ℕ
uuids_of None = []
uuids_of (Some b) = uuids (all_of b)

abbrev skeleton_of : Option Part → List Outline
skeleton_of None = []
skeleton_of (Some b) = skeleton (all_of b)

-- the consist being assembled, as the table has it
record Current (b : Part) (live : List node.Awake) (u : Uuid) : Type 0 where
  met : node.Awake
  at : found order under u live ≡ Some met
  halves : Halves u
  uuid : whole u ≡ b.growing.consist.uuid
  masks : masks_of met ≡ masks b.growing.consist
  way : way_means met.way ≡ b.growing.way
  last : met.report.position ≡ b.last

-- it stands last in the row
record StandsLast (b : Part) (live row : List node.Awake) : Type 0 where
  front : List node.Awake
  first : node.Awake
  row_is : row ≡ front ++ first ∷ []
  current : Current b live first.report.uuid

abbrev CurrentOf : Option Part → List node.Awake → List node.Awake → Type 0
CurrentOf None live row = row ≡ []
CurrentOf (Some b) live row = StandsLast b live row

-- xs are the nodes of the chain, rest those still to be met, and row the consists so far
pub record Gathered (xs : List Awake) (rest live slots row : List node.Awake) : Type 0 where
  part : Option Part
  on : run part (nodes_mean rest) ≡ assemble xs
  pub few : length live + length rest ≤ 63
  pub places : length slots ≡ 63
  pub short : length row + length rest ≤ 63
  shown : skeleton (line_of row) ≡ skeleton_of part
  known : (u : Uuid) → Halves u → is_some (found order under u live) ≡ among (whole u) (uuids_of part)
  current : CurrentOf part live row

pub gathered_start : (chain live slots row : List node.Awake) → length chain ≤ 63 → live ≡ [] → length slots ≡ 63 → row ≡ [] → Gathered (nodes_mean chain) chain live slots row
gathered_start chain live slots row f e s r = record {
  part = None;
  on = refl;
  few = omega (arith, ap length e);
  places = s;
  short = omega (arith, ap length r);
  shown = ap (λ cs. skeleton (line_of cs)) r;
  known = λ u h. ap (λ l. is_some (found order under u l)) e;
  current = r;
}

-- UUIDs and outlines with one consist more
among_push : (u v : ℕ) (vs : List ℕ) → among u (vs ++ v ∷ []) ≡ among u vs || eqb u v
among_push u v vs = or_push (among u) (eqb u) refl (λ _ _. refl) vs v

uuids_all : (b : Part) → uuids (all_of b) ≡ uuids b.finished ++ b.growing.consist.uuid ∷ []
uuids_all b = map-append (λ s. s.consist.uuid) b.finished (b.growing ∷ [])

skeleton_all : (b : Part) → skeleton (all_of b) ≡ skeleton b.finished ++ outline b.growing ∷ []
skeleton_all b = map-append outline b.finished (b.growing ∷ [])

begun_masks : (a : Awake) → masks (begun a).consist ≡ a.masks
begun_masks a = wake_masks 1 a.position a.mac (asleep a.masks) ∙ asleep_masks a.masks

begun_outline : (c : node.Awake) → outline (coupled c) ≡ outline (begun (node_means c))
begun_outline c = λ i. record { uuid = whole c.report.uuid; masks = (asleep_masks (masks_of c) ∙ sym (begun_masks (node_means c))) i; way = way_means c.way }

-- a node that begins a consist
abbrev after_new : Option Part → Awake → Part
after_new None a = first_part a
after_new (Some b) a = next b a

new_growing : (o : Option Part) (a : Awake) → ((after_new o a).growing ≡ begun a) × ((after_new o a).last ≡ a.position)
new_growing None a = (refl, refl)
new_growing (Some b) a = (refl, refl)

new_uuids : (o : Option Part) (a : Awake) → uuids (all_of (after_new o a)) ≡ uuids_of o ++ a.uuid ∷ []
new_uuids None a = refl
new_uuids (Some b) a = map-append (λ s. s.consist.uuid) (all_of b) (begun a ∷ [])

new_skeleton : (o : Option Part) (a : Awake) → skeleton (all_of (after_new o a)) ≡ skeleton_of o ++ outline (begun a) ∷ []
new_skeleton None a = refl
new_skeleton (Some b) a = map-append outline (all_of b) (begun a ∷ [])

new_on : (o : Option Part) (a : Awake) (ys : List Awake) → among a.uuid (uuids_of o) ≡ false → run o (a ∷ ys) ≡ put_all (after_new o a) ys
new_on None a ys e = refl
new_on (Some b) a ys e =
    let back = eqb a.uuid b.growing.consist.uuid in
    let before = among a.uuid (uuids b.finished) in
    let f = or_parts before back (sym (among_push a.uuid b.growing.consist.uuid (uuids b.finished)) ∙ ap (among a.uuid) (sym (uuids_all b)) ∙ e) in
    let puts : put b a ≡ Some (next b a)
    = cond-false back (cond (goes_on b a) (Some (grown b a)) None) (cond before None (Some (next b a))) f.1 ∙ cond-false before None (Some (next b a)) f.0 in
    ap {A = Option Part} (λ o. elim o [ Some c ↦ put_all c ys | None ↦ None ]) puts

-- storing
stored_cons : (c x : node.Awake) (xs : List node.Awake)
    → elim (order (under x) (under c)) [ Less ↦ x ∷ stored order under c xs | Equal ↦ c ∷ xs | Greater ↦ c ∷ x ∷ xs ] ≡ stored order under c (x ∷ xs)
stored_cons c x xs = any order
  where
    any : (f : Uuid → Uuid → Ordering) → elim (f (under x) (under c)) [ Less ↦ x ∷ stored f under c xs | Equal ↦ c ∷ xs | Greater ↦ c ∷ x ∷ xs ] ≡ stored f under c (x ∷ xs)
    any f = grind arith

length_stored : (c : node.Awake) (live : List node.Awake) → length (stored order under c live) ≤ length live + 1
length_stored c [] = omega arith
length_stored c (x ∷ xs) = subst (λ ys. length ys ≤ length (x ∷ xs) + 1) (stored_cons c x xs) (go (order (under x) (under c)) (length_stored c xs))
  where
    go : (o : Ordering) → length (stored order under c xs) ≤ length xs + 1
        → length {A = node.Awake} (elim o [ Less ↦ x ∷ stored order under c xs | Equal ↦ c ∷ xs | Greater ↦ c ∷ x ∷ xs ]) ≤ length (x ∷ xs) + 1
    go Less h = omega arith
    go Equal h = omega arith
    go Greater h = omega arith

module _ (xs : List Awake) (all : List node.Awake) (c : node.Awake) (rest : List node.Awake) (is : all ≡ c ∷ rest) (live slots row : List node.Awake)
    (g : Gathered xs all live slots row) (key : Uuid) (told : key ≡ c.report.uuid) (high : key.high < 2 ^ 64) (low : key.low < 2 ^ 64) where
  abbrev a : Awake
  a = node_means c

  halves : Halves c.report.uuid
  halves = subst Halves told (high, low)

  at_key : (o : Option node.Awake) → found order under key live ≡ o → found order under c.report.uuid live ≡ o
  at_key o e = ap (λ w. found order under w live) (sym told) ∙ e

  on : run g.part (a ∷ nodes_mean rest) ≡ assemble xs
  on = ap (λ ys. run g.part (nodes_mean ys)) (sym is) ∙ g.on

  -- the table is not full
  pub never_full : store_answer order under c (length slots) live ≡ Ok (length (stored order under c live))
  never_full = table_map.place_free c (length slots) live (omega (arith, g.few, g.places, ap length is))

  keeps : store_keeps order under c (length slots) live ≡ stored order under c live
  keeps = go (refused order under c (length slots) live) refl
    where
      go : (b : Bool) → refused order under c (length slots) live ≡ b → cond b live (stored order under c live) ≡ stored order under c live
      go false e = refl
      go true e = absurd (let z : ◌≡◌ {A = ℕ} 0 1 = wrong (sym (cond-true _ (Err full) _ e) ∙ never_full) in omega arith)
        where
          wrong : {n : ℕ} → Err full ≡ Ok n → ◌≡◌ {A = ℕ} 0 1
          wrong e = cc

  leaves_long : length (store_leaves order under c slots live) ≡ 63
  leaves_long = go (refused order under c (length slots) live)
    where
      go : (b : Bool) → length (cond b slots (written (stored order under c live) slots)) ≡ 63
      go true = g.places
      go false =
          let few = length_stored c live in
          let all = length-append (stored order under c live) (drop (length (stored order under c live)) slots) in
          let left = length-drop (length (stored order under c live)) slots in
          omega (arith, g.few, g.places, ap length is)

  pub room_left : length row < 63
  room_left = omega (arith, g.short, ap length is)

  stored_known : (vs : List ℕ) → ((u : Uuid) → Halves u → (whole u ≡ whole c.report.uuid → ⊥) → among (whole u) vs ≡ among (whole u) (uuids_of g.part))
      → among a.uuid vs ≡ true → (u : Uuid) → Halves u → is_some (found order under u (stored order under c live)) ≡ among (whole u) vs
  stored_known vs others own u h = ⊎_elim same differ (cases_Bool (eqb (whole u) (whole c.report.uuid)))
    where
      same : eqb (whole u) (whole c.report.uuid) ≡ true → is_some (found order under u (stored order under c live)) ≡ among (whole u) vs
      same e =
          let k = eqb-true _ _ e in
          ap (λ v. is_some (found order under v (stored order under c live))) (whole_same u c.report.uuid h halves k) ∙ ap is_some (table_map.stored_found c live)
          ∙ sym own ∙ ap (λ n. among n vs) (sym k)

      differ : eqb (whole u) (whole c.report.uuid) ≡ false → is_some (found order under u (stored order under c live)) ≡ among (whole u) vs
      differ e =
          let d = eqb-false _ _ e in
          ap is_some (table_map.stored_others c u live (λ q. d (ap whole q))) ∙ g.known u h ∙ sym (others u h d)

  -- a UUID that was not met begins a consist
  pub gathered_new : found order under key live ≡ None → (more left longer : List node.Awake) → more ≡ store_keeps order under c (length slots) live
      → left ≡ store_leaves order under c slots live → longer ≡ row ++ c ∷ [] → Gathered xs rest more left longer
  gathered_new none more left longer is_stored leaves is_longer =
      let o = g.part in
      let new : among a.uuid (uuids_of o) ≡ false = sym (g.known c.report.uuid halves) ∙ ap is_some (at_key None none) in
      let us = new_uuids o a in
      record {
        part = Some (after_new o a);
        on = sym (new_on o a (nodes_mean rest) new) ∙ on;
        few = omega (arith, ap length (is_stored ∙ keeps), length_stored c live, g.few, ap length is);
        places = ap length leaves ∙ leaves_long;
        short = omega (arith, ap length is_longer, length-append row (c ∷ []), g.short, ap length is);
        shown = ap (λ cs. skeleton (line_of cs)) is_longer ∙ skeleton_push row ∙ ap₂ (λ s v. s ++ v ∷ []) g.shown (begun_outline c) ∙ sym (new_skeleton o a);
        known = λ u h. ap (λ l. is_some (found order under u l)) (is_stored ∙ keeps) ∙ stored_known (uuids (all_of (after_new o a)))
            (λ u h d. ap (among (whole u)) us ∙ among_push (whole u) a.uuid (uuids_of o)
            ∙ ap (λ b. among (whole u) (uuids_of o) || b) (ne_eqb _ _ d) ∙ or-false _)
            (ap (among a.uuid) us ∙ among_push a.uuid a.uuid (uuids_of o) ∙ ap (λ b. among a.uuid (uuids_of o) || b) (eq-eqb a.uuid a.uuid refl) ∙ or_right _ true refl) u h;
        current = record { front = row; first = c; row_is = is_longer; current = now_current };
      }
    where
      skeleton_push : (cs : List node.Awake) → skeleton (line_of (cs ++ c ∷ [])) ≡ skeleton (line_of cs) ++ outline (coupled c) ∷ []
      skeleton_push [] = refl
      skeleton_push (b ∷ cs) = ap (λ r. outline (coupled b) ∷ r) (skeleton_push cs)

      now_current : Current (after_new g.part a) more c.report.uuid
      now_current =
          let n = new_growing g.part a in
          record {
            met = c;
            at = ap (found order under c.report.uuid) (is_stored ∙ keeps) ∙ table_map.stored_found c live;
            halves = halves;
            uuid = ap (λ s. s.consist.uuid) (sym n.0);
            masks = sym (begun_masks a) ∙ ap (λ s. masks s.consist) (sym n.0);
            way = ap (λ s. s.way) (sym n.0);
            last = sym n.1;
          }

  -- the consist being assembled, where the UUID was met
  grown_uuids : (b : Part) → uuids (all_of (grown b a)) ≡ uuids (all_of b)
  grown_uuids b = uuids_all (grown b a) ∙ sym (uuids_all b)

  grown_skeleton : (b : Part) → skeleton (all_of (grown b a)) ≡ skeleton (all_of b)
  grown_skeleton b =
      skeleton_all (grown b a) ∙ ap (λ ms. skeleton b.finished ++ record { uuid = b.growing.consist.uuid; masks = ms; way = b.growing.way } ∷ [])
      (wake_masks 1 a.position a.mac b.growing.consist.nodes) ∙ sym (skeleton_all b)

  module _ (b : Part) (m : node.Awake) (u : Uuid) (is_part : g.part ≡ Some b) (v : Current b live u) (at : found order under c.report.uuid live ≡ Some m) where
    steps_on : elim (put b a) [ Some p ↦ put_all p (nodes_mean rest) | None ↦ None ] ≡ assemble xs
    steps_on = ap (λ o. run o (a ∷ nodes_mean rest)) (sym is_part) ∙ on

    same_met : u ≡ c.report.uuid → v.met ≡ m
    same_met q = some_is (sym v.at ∙ ap (λ w. found order under w live) q ∙ at)
      where
        some_is : {y z : node.Awake} → Some y ≡ Some z → y ≡ z
        some_is e = cc

    goes_same : v.met ≡ m → goes c m ≡ goes_on b a
    goes_same e =
        let p : masks_of m ≡ masks b.growing.consist = ap masks_of (sym e) ∙ v.masks in
        let w : way_means m.way ≡ b.growing.way = ap (λ n. way_means n.way) (sym e) ∙ v.way in
        let l : m.report.position ≡ b.last = ap (λ n. n.report.position) (sym e) ∙ v.last in
        ap₂ ◌&&◌ (ap₂ ◌&&◌ (ap (same_masks (masks_of c)) p) (ap (same_way (way_means c.way)) w)) (ap₂ (λ n d. behind n d c.report.position) w l)

    grows : u ≡ c.report.uuid → goes c m ≡ true → put b a ≡ Some (grown b a)
    grows e h = cond-true _ _ _ (eq-eqb _ _ (sym (ap whole e) ∙ v.uuid)) ∙ cond-true _ _ _ (sym (goes_same (same_met e)) ∙ h)

    known_met : among a.uuid (uuids (all_of b)) ≡ true
    known_met = ap (λ o. among (whole c.report.uuid) (uuids_of o)) (sym is_part) ∙ sym (g.known c.report.uuid halves) ∙ ap is_some at

    -- another consist was met last
    other : (u ≡ c.report.uuid → ⊥) → put b a ≡ None
    other d =
        let away : eqb a.uuid b.growing.consist.uuid ≡ false = ne_eqb _ _ (λ q. d (whole_same u c.report.uuid v.halves halves (v.uuid ∙ sym q))) in
        let before : among a.uuid (uuids b.finished) ≡ true
        = ⊎_elim (λ e. e) (λ e. absurd (both_ways (eqb a.uuid b.growing.consist.uuid) away e))
        (or_cases (among a.uuid (uuids b.finished)) (eqb a.uuid b.growing.consist.uuid)
        (sym (among_push a.uuid b.growing.consist.uuid (uuids b.finished)) ∙ ap (among a.uuid) (sym (uuids_all b)) ∙ known_met)) in
        cond-false (eqb a.uuid b.growing.consist.uuid) (cond (goes_on b a) (Some (grown b a)) None) (cond (among a.uuid (uuids b.finished)) None (Some (next b a))) away
        ∙ cond-true (among a.uuid (uuids b.finished)) None (Some (next b a)) before

    mixed : u ≡ c.report.uuid → goes c m ≡ false → put b a ≡ None
    mixed e n =
        cond-true (eqb a.uuid b.growing.consist.uuid) (cond (goes_on b a) (Some (grown b a)) None) (cond (among a.uuid (uuids b.finished)) None (Some (next b a)))
        (eq-eqb a.uuid b.growing.consist.uuid (sym (ap whole e) ∙ v.uuid)) ∙ cond-false (goes_on b a) (Some (grown b a)) None (sym (goes_same (same_met e)) ∙ n)

    stopped : put b a ≡ None → None ≡ assemble xs
    stopped e = ap {A = Option Part} (λ o. elim o [ Some p ↦ put_all p (nodes_mean rest) | None ↦ None ]) (sym e) ∙ steps_on

    gone_on : u ≡ c.report.uuid → goes c m ≡ true → (more left same : List node.Awake) → more ≡ stored order under c live → length left ≡ 63 → same ≡ row
        → (front : List node.Awake) (first : node.Awake) → row ≡ front ++ first ∷ [] → first.report.uuid ≡ u → Gathered xs rest more left same
    gone_on e h more left same is_more long is_same front first is_row is_first =
        let us = grown_uuids b in
        let p = and_parts _ _ h in
        let q = and_parts _ _ p.0 in
        let m_same = same_met e in
        record {
          part = Some (grown b a);
          on = ap {A = Option Part} (λ o. elim o [ Some p ↦ put_all p (nodes_mean rest) | None ↦ None ]) (sym (grows e h)) ∙ steps_on;
          few = omega (arith, ap length is_more, length_stored c live, g.few, ap length is);
          places = long;
          short = omega (arith, ap length is_same, g.short, ap length is);
          shown = ap (λ cs. skeleton (line_of cs)) is_same ∙ g.shown ∙ ap skeleton_of is_part ∙ sym (grown_skeleton b);
          known = λ w hw. ap (λ l. is_some (found order under w l)) is_more ∙ stored_known (uuids (all_of (grown b a)))
              (λ w hw dw. ap (among (whole w)) us ∙ ap (λ o. among (whole w) (uuids_of o)) (sym is_part)) (ap (among a.uuid) us ∙ known_met) w hw;
          current = record {
            front = front;
            first = first;
            row_is = is_same ∙ is_row;
            current = record {
              met = c;
              at = ap₂ (found order under) (is_first ∙ e) is_more ∙ table_map.stored_found c live;
              halves = subst Halves (sym is_first) v.halves;
              uuid = ap whole is_first ∙ v.uuid;
              masks = masks_same _ _ q.0 ∙ ap masks_of (sym m_same) ∙ v.masks ∙ sym (wake_masks 1 a.position a.mac b.growing.consist.nodes);
              way = way_same _ _ q.1 ∙ ap (λ n. way_means n.way) (sym m_same) ∙ v.way;
              last = refl;
            };
          };
        }

  -- where the UUID was met, a consist is being assembled
  met_part : (m : node.Awake) → found order under c.report.uuid live ≡ Some m → (b : Part) × (g.part ≡ Some b) × StandsLast b live row
  met_part m e = go g.part refl g.current
    where
      go : (o : Option Part) → g.part ≡ o → CurrentOf o live row → (b : Part) × (g.part ≡ Some b) × StandsLast b live row
      go None p n =
          absurd (both_ways (is_some (found order under c.report.uuid live)) (g.known c.report.uuid halves ∙ ap (λ o. among (whole c.report.uuid) (uuids_of o)) p) (ap is_some e))
      go (Some b) p n = (b, p, n)

  module _ (m : node.Awake) (at : found order under key live ≡ Some m) (y : node.Awake) (last : slice_get row (length row - 1) ≡ Some y) where
    e : found order under c.report.uuid live ≡ Some m
    e = at_key (Some m) at

    is_last : (front : List node.Awake) (first : node.Awake) → row ≡ front ++ first ∷ [] → first ≡ y
    is_last front first k = some_is (sym (there front) ∙ ap₂ slice_get (sym k) (let n = length-append front (first ∷ []) in let w = ap length k in omega arith) ∙ last)
      where
        some_is : {y z : node.Awake} → Some y ≡ Some z → y ≡ z
        some_is e = cc

        there : (xs : List node.Awake) → slice_get (xs ++ first ∷ []) (length xs) ≡ Some first
        there [] = refl
        there (x ∷ xs) = there xs

    pub gathered_on : eqb y.report.uuid.high key.high && eqb y.report.uuid.low key.low ≡ true → goes c m ≡ true → (more left same : List node.Awake) → more ≡ store_keeps order under c (length slots) live
        → left ≡ store_leaves order under c slots live → same ≡ row → Gathered xs rest more left same
    gathered_on s h more left same is_stored leaves is_same =
        let p = met_part m e in
        let n = p.2 in
        let k : n.first.report.uuid ≡ c.report.uuid = ap (λ z. z.report.uuid) (is_last n.front n.first n.row_is) ∙ agree y.report.uuid key s ∙ told in
        gone_on p.0 m n.first.report.uuid p.1 n.current e k h more left same (is_stored ∙ keeps) (ap length leaves ∙ leaves_long) is_same n.front n.first n.row_is refl

    pub stops_other : eqb y.report.uuid.high key.high && eqb y.report.uuid.low key.low ≡ false → None ≡ outlines_from xs
    stops_other d =
        let p = met_part m e in
        let n = p.2 in
        ap (option_map skeleton) (stopped p.0 m n.first.report.uuid p.1 n.current e (other p.0 m n.first.report.uuid p.1 n.current e
        (λ q. differ y.report.uuid key d (ap (λ z. z.report.uuid) (sym (is_last n.front n.first n.row_is)) ∙ q ∙ sym told))))

    pub stops_mixed : eqb y.report.uuid.high key.high && eqb y.report.uuid.low key.low ≡ true → goes c m ≡ false → None ≡ outlines_from xs
    stops_mixed s h =
        let p = met_part m e in
        let n = p.2 in
        let k : n.first.report.uuid ≡ c.report.uuid = ap (λ z. z.report.uuid) (is_last n.front n.first n.row_is) ∙ agree y.report.uuid key s ∙ told in
        ap (option_map skeleton) (stopped p.0 m n.first.report.uuid p.1 n.current e (mixed p.0 m n.first.report.uuid p.1 n.current e k h))

  -- a consist was met before
  pub some_last : (m : node.Awake) → found order under key live ≡ Some m → None ≡ slice_get row (length row - 1) → ⊥
  some_last m at k =
      let n = (met_part m (at_key (Some m) at)).2 in
      let long : 1 ≤ length row = omega (arith, ap length n.row_is, length-append n.front (n.first ∷ [])) in
      absurd (there row (length row - 1) (omega arith) k)
    where
      there : (ys : List node.Awake) (i : ℕ) → i < length ys → None ≡ slice_get ys i → ⊥
      there [] i h e = omega arith
      there (z ∷ ys) zero h e = let w : ◌≡◌ {A = ℕ} 0 1 = cc in omega arith
      there (z ∷ ys) (suc i) h e = there ys i (omega arith) e

-- a vector of the row is answered where it is not empty
pub gathered_end : {V : Type 0} (items : V → List node.Awake) (v : V) (xs : List Awake) (rest live slots : List node.Awake) → Gathered xs rest live slots (items v) → rest ≡ []
    → (b : Bool) → b ≡ eqb (length (items v)) 0 → option_map (λ v. skeleton (line_of (items v))) (then_some (not b) v) ≡ outlines_from xs
gathered_end items v xs rest live slots g is b e = go g.part (ap (λ ys. run g.part (nodes_mean ys)) (sym is) ∙ g.on) g.current g.shown
  where
    go : (o : Option Part) → run o [] ≡ assemble xs → CurrentOf o live (items v) → skeleton (line_of (items v)) ≡ skeleton_of o
        → option_map (λ v. skeleton (line_of (items v))) (then_some (not b) v) ≡ outlines_from xs
    go None r n s = ap (λ b. option_map (λ v. skeleton (line_of (items v))) (then_some (not b) v)) (e ∙ ap (λ cs. eqb (length cs) 0) n) ∙ ap (option_map skeleton) r
    go (Some p) r n s =
        ap (λ b. option_map (λ v. skeleton (line_of (items v))) (then_some (not b) v))
        (e ∙ ne_eqb (length (items v)) 0 (λ z. let w : ◌≡◌ {A = ℕ} 0 1 = omega (arith, ap length n.row_is, length-append n.front (n.first ∷ [])) in omega arith))
        ∙ ap Some s ∙ ap (option_map skeleton) r
