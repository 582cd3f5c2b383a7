-- Every line is assembled from its awake nodes, and any chain of reports tells whether they fit a line. Assumes nothing.
use Rattle.std.proofs.Common.{◌≡◌, ℕ, ◌+◌, ◌<◌, ◌≤◌, true, false, cond, ◌⊎◌, List, [], ◌∷◌, ◌++◌, length, Some, None, Option, sym, refl, ap, ◌∙◌, subst, ap₂, inl, inr, ⊎_elim, append_assoc, arith}
use mathlib.Core.List.{reverse_aux, map-append}
use Rattle.std.specs.List.{AllByRecursion}
use Rattle.std.proofs.lemmas.List.{length-map}
use Rattle.std.proofs.ByRecursion.{All-append, All-weaker}
use Rattle.std.proofs.lemmas.Bool.{eq-eqb, ne_eqb, lt-ltb, ltb-true, and_from, or_from}
use Rattle.report.specs.Masks.{gapless}
use Rattle.report.specs.Reports.{Report}
use Rattle.train.specs.Line.{Way, forward, turned, Node, Consist, Coupled, Line, masks, flip}
use Rattle.train.specs.Truth.{Awake, awake_from, awake_of, awake, first_mac, reports, In, here, there, Fits}
use Rattle.train.specs.Rules.{Different, uuids, IsUuid, IsConsist, IsLine}
use Rattle.train.proofs.Members.{in_right, all_in, all_reverse}
use Rattle.train.proofs.Flip.{flip_flip, awake_at, awake_up, awake_flip, flip_awake, flip_awake_twice, first_flip, flip_fits}
use Rattle.train.proofs.SameAwake.{Of, of_awake, all_later, line_same}
use Rattle.train.proofs.Chain.{OneEach, OwnMacs, Chains, one_each, an_end, first_report, chains_same}
use Rattle.train.proofs.Fit.{flip_is_line, some_awake_in, line_macs, fits_chain}
use Rattle.fitting.specs.Assemble.{same_way, same_masks, among, behind, Part, goes_on, grown, next, put, all_of, put_all, first_part, assemble}
use Rattle.fitting.proofs.Wake.{wake_masks, asleep_masks}
use Rattle.fitting.proofs.Assembling.{IsNode, Nodes, assemble_sound}

-- tests that succeed
way_self : (w : Way) → same_way w w ≡ true
way_self forward = refl
way_self turned = refl

pub masks_self : (ms : List ℕ) → same_masks ms ms ≡ true
masks_self [] = refl
masks_self (m ∷ ms) = and_from _ _ (eq-eqb m m refl) (masks_self ms)

-- positions in the order met, behind position p
abbrev Ordered : Way → ℕ → List Awake → Type 0
Ordered w p [] = Unit {0}
Ordered w p (a ∷ xs) = (behind w p a.position ≡ true) × Ordered w a.position xs

rising : (q p : ℕ) (ss : List Node) (f : ℕ → ℕ → Awake) → ((m r : ℕ) → (f m r).position ≡ r) → q < p → Ordered forward q (awake_from p ss f)
rising q p [] f fp h = tt
rising q p (s ∷ ss) f fp h = go s.mac (λ r. rising r (p + 1) ss f fp)
  where
    go : (o : Option ℕ) → ((r : ℕ) → r < p + 1 → Ordered forward r (awake_from (p + 1) ss f)) → Ordered forward q (awake_from p (record { mask = s.mask; mac = o } ∷ ss) f)
    go (Some m) ih = (lt-ltb _ _ (omega (arith, fp m p)), ih (f m p).position (omega (arith, fp m p)))
    go None ih = ih q (omega arith)

below : (p : ℕ) (ss : List Node) (f : ℕ → ℕ → Awake) → ((m r : ℕ) → (f m r).position ≡ r) → AllByRecursion (λ a. a.position < p + length ss) (awake_from p ss f)
below p [] f fp = tt
below p (s ∷ ss) f fp = go s.mac (All-weaker _ _ (λ a k. omega arith) _ (below (p + 1) ss f fp))
  where
    go : (o : Option ℕ) → AllByRecursion (λ a. a.position < p + length (s ∷ ss)) (awake_from (p + 1) ss f) → AllByRecursion (λ a. a.position < p + length (s ∷ ss)) (awake_from p (record { mask = s.mask; mac = o } ∷ ss) f)
    go (Some m) k = (omega (arith, fp m p), k)
    go None k = k

falling : (n q : ℕ) (xs r : List Awake) → Ordered forward q xs → ((p : ℕ) → q < p → Ordered turned p r) → AllByRecursion (λ a. a.position < n) xs → q < n → Ordered turned n (reverse_aux xs r)
falling n q [] r o h k j = h n j
falling n q (a ∷ xs) r o h k j =
    falling n a.position xs (a ∷ r) o.1 (λ p i. (lt-ltb _ _ i, h a.position (ltb-true _ _ o.0))) k.1 k.0

-- those of a consist are met in order
in_order : (c : Consist) (w : Way) → (n : ℕ) × Ordered w n (awake_of (record { consist = c; way = w }))
in_order c forward = (0, rising 0 1 c.nodes (awake_at c forward) (λ m q. refl) (omega arith))
in_order c turned =
    let n = 1 + length c.nodes in
    (n, falling n 0 (awake_up c turned) [] (rising 0 1 c.nodes (awake_at c turned) (λ m q. refl) (omega arith)) (λ p i. tt) (below 1 c.nodes (awake_at c turned) (λ m q. refl)) (omega arith))

-- they all go on with the consist of the first
record Taken (b : Part) (xs ys : List Awake) : Type 0 where
  after : Part
  same : put_all b (xs ++ ys) ≡ put_all after ys
  finished : after.finished ≡ b.finished
  uuid : after.growing.consist.uuid ≡ b.growing.consist.uuid

put_grown : (b : Part) (a : Awake) → a.uuid ≡ b.growing.consist.uuid → a.masks ≡ masks b.growing.consist → a.way ≡ b.growing.way
    → behind b.growing.way b.last a.position ≡ true → put b a ≡ Some (grown b a)
put_grown b a u k w h =
    let t : goes_on b a ≡ true = and_from _ _ (and_from _ _ (ap (λ ms. same_masks ms (masks b.growing.consist)) k ∙ masks_self (masks b.growing.consist)) (ap (λ v. same_way v b.growing.way) w ∙ way_self b.growing.way)) h in
    ap₂ (λ x y. cond x (cond y (Some (grown b a)) None) (cond (among a.uuid (uuids b.finished)) None (Some (next b a)))) (eq-eqb _ _ u) t

put_next : (b : Part) (a : Awake) → (a.uuid ≡ b.growing.consist.uuid → ⊥) → among a.uuid (uuids b.finished) ≡ false → put b a ≡ Some (next b a)
put_next b a d k = ap₂ (λ x z. cond x (cond (goes_on b a) (Some (grown b a)) None) (cond z None (Some (next b a)))) (ne_eqb _ _ d) k

pub put_step : (b c : Part) (a : Awake) (xs : List Awake) → put b a ≡ Some c → put_all b (a ∷ xs) ≡ put_all c xs
put_step b c a xs e = ap (λ o. elim o [ Some d ↦ put_all d xs | None ↦ None ]) e

taken : (c : Consist) (w : Way) (xs ys : List Awake) (b : Part) → c.uuid ≡ b.growing.consist.uuid → masks c ≡ masks b.growing.consist → w ≡ b.growing.way
    → AllByRecursion (Of c w) xs → Ordered w b.last xs → Taken b xs ys
taken c w [] ys b u k v h o = record { after = b; same = refl; finished = refl; uuid = refl }
taken c w (a ∷ xs) ys b u k v h o =
    let p = put_grown b a (h.0.0 ∙ u) (h.0.1 ∙ k) (h.0.2 ∙ v) (ap (λ x. behind x b.last a.position) (sym v) ∙ o.0) in
    let t = taken c w xs ys (grown b a) u (k ∙ sym (wake_masks 1 a.position a.mac b.growing.consist.nodes)) v h.1 o.1 in
    record { after = t.after; same = put_step b (grown b a) a (xs ++ ys) p ∙ t.same; finished = t.finished; uuid = t.uuid }

-- UUIDs that differ
among_no : (u : ℕ) (xs ys : List ℕ) → Different (xs ++ ys) → In u ys → among u xs ≡ false
among_no u [] ys d i = refl
among_no u (x ∷ xs) ys d i =
    or_from _ _ (ne_eqb u x (λ e. all_in (λ y. x ≡ y → ⊥) u (xs ++ ys) (in_right u xs ys i) d.0 (sym e))) (among_no u xs ys d.1 i)

different_right : (xs ys : List ℕ) → Different (xs ++ ys) → Different ys
different_right [] ys d = d
different_right (x ∷ xs) ys d = different_right xs ys d.1

-- the rest of a line is put to what is built of it
abbrev Puts : Part → List Awake → Type 0
Puts b xs = (k : Line) × (put_all b xs ≡ Some k)

-- one more consist, of which a is met first
one_more : (s : Coupled) (l : Line) (b : Part) → Different (uuids b.finished ++ b.growing.consist.uuid ∷ uuids (s ∷ l))
    → ((b : Part) → Different (uuids b.finished ++ b.growing.consist.uuid ∷ uuids l) → Puts b (awake l))
    → (n : ℕ) (xs : List Awake) → 1 ≤ length xs → AllByRecursion (Of s.consist s.way) xs → Ordered s.way n xs → Puts b (xs ++ awake l)
one_more s l b d ih n [] some h o = absurd (omega arith)
one_more s l b d ih n (a ∷ xs) some h o =
    let c = s.consist in
    let g = b.growing.consist.uuid in
    let e : a.uuid ≡ c.uuid = h.0.0 in
    let no : among a.uuid (uuids b.finished) ≡ false = among_no a.uuid (uuids b.finished) (g ∷ uuids (s ∷ l)) d (there (subst (λ v. In a.uuid (v ∷ uuids l)) e here)) in
    let p = put_next b a (λ k. (different_right (uuids b.finished) (g ∷ uuids (s ∷ l)) d).0.0 (sym k ∙ e)) no in
    let t = taken c s.way xs (awake l) (next b a) (sym e)
    (sym h.0.1 ∙ sym (wake_masks 1 a.position a.mac _ ∙ asleep_masks a.masks)) (sym h.0.2) h.1 o.1 in
    let moved : uuids (b.finished ++ b.growing ∷ []) ++ c.uuid ∷ uuids l ≡ uuids b.finished ++ g ∷ uuids (s ∷ l)
    = ap (λ r. r ++ c.uuid ∷ uuids l) (map-append (λ t. t.consist.uuid) b.finished (b.growing ∷ [])) ∙ append_assoc (uuids b.finished) (g ∷ []) (c.uuid ∷ uuids l) in
    let d' : Different (uuids t.after.finished ++ t.after.growing.consist.uuid ∷ uuids l)
    = subst Different (sym (ap₂ (λ f v. uuids f ++ v ∷ uuids l) t.finished (t.uuid ∙ e) ∙ moved)) d in
    let r = ih t.after d' in
    (r.0, put_step b (next b a) a (xs ++ awake l) p ∙ t.same ∙ r.1)

puts : (l : Line) (b : Part) → Different (uuids b.finished ++ b.growing.consist.uuid ∷ uuids l) → AllByRecursion (λ s. 1 ≤ length (awake_of s)) l → Puts b (awake l)
puts [] b d h = (all_of b, refl)
puts (s ∷ l) b d h =
    let o = in_order s.consist s.way in
    one_more s l b d (λ c k. puts l c k h.1) o.0 (awake_of s) h.0 (of_awake s.consist s.way) o.1

-- a line is assembled into some line
first_consist : (s : Coupled) (l : Line) → Different (uuids (s ∷ l)) → AllByRecursion (λ s. 1 ≤ length (awake_of s)) l
    → (n : ℕ) (xs : List Awake) → 1 ≤ length xs → AllByRecursion (Of s.consist s.way) xs → Ordered s.way n xs → (k : Line) × (assemble (xs ++ awake l) ≡ Some k)
first_consist s l d j n [] some h o = absurd (omega arith)
first_consist s l d j n (a ∷ xs) some h o =
    let c = s.consist in
    let b = first_part a in
    let t = taken c s.way xs (awake l) b (sym h.0.0) (sym h.0.1 ∙ sym (wake_masks 1 a.position a.mac _ ∙ asleep_masks a.masks)) (sym h.0.2) h.1 o.1 in
    let r = puts l t.after (subst Different (sym (ap₂ (λ f v. uuids f ++ v ∷ uuids l) t.finished (t.uuid ∙ h.0.0))) d) j in
    (r.0, t.same ∙ r.1)

assembles : (l : Line) → IsLine l → (k : Line) × (assemble (awake l) ≡ Some k)
assembles l h = go l h.some_consist h.own_uuids h.some_awake
  where
    go : (l : Line) → 1 ≤ length l → Different (uuids l) → AllByRecursion (λ s. 1 ≤ length (awake_of s)) l → (k : Line) × (assemble (awake l) ≡ Some k)
    go [] n d j = absurd (omega arith)
    go (s ∷ l) n d j =
        let o = in_order s.consist s.way in
        first_consist s l d j.1 o.0 (awake_of s) j.0 (of_awake s.consist s.way) o.1

-- the awake nodes of a line are real
all_both : {A : Type 0} (P Q : A → Type 0) (xs : List A) → AllByRecursion P xs → AllByRecursion Q xs → AllByRecursion (λ x. P x × Q x) xs
all_both P Q [] h k = tt
all_both P Q (x ∷ xs) h k = ((h.0, k.0), all_both P Q xs h.1 k.1)

all_ways : (P : Awake → Type 0) (c : Consist) (w : Way) → AllByRecursion P (awake_up c w) → AllByRecursion P (awake_of (record { consist = c; way = w }))
all_ways P c forward h = h
all_ways P c turned h = all_reverse P (awake_up c turned) h

nodes_of : (c : Consist) (w : Way) → IsConsist c → AllByRecursion IsNode (awake_of (record { consist = c; way = w }))
nodes_of c w h =
    let low = all_ways (λ a. 1 ≤ a.position) c w (all_later c w 1 c.nodes) in
    let high = all_ways (λ a. a.position < 1 + length c.nodes) c w (below 1 c.nodes (awake_at c w) (λ m q. refl)) in
    All-weaker _ _ is_node _ (all_both _ _ _ (of_awake c w) (all_both _ _ _ low high))
  where
    is_node : (a : Awake) → Of c w a × ((1 ≤ a.position) × (a.position < 1 + length c.nodes)) → IsNode a
    is_node a k =
        let e = k.0.1 in
        let n : length a.masks ≡ length c.nodes = ap length e ∙ length-map c.nodes (λ s. s.mask) in
        record {
          named = subst IsUuid (sym k.0.0) h.named;
          placed = (k.1.0, omega (arith, k.1.1));
          few_nodes = omega (arith, h.few_nodes);
          some_network = subst (AllByRecursion (λ m. (1 ≤ m) × (m ≤ 255))) (sym e) h.some_network;
          no_gap = ap gapless e ∙ h.no_gap;
        }

nodes : (l : Line) → AllByRecursion (λ s. IsConsist s.consist) l → AllByRecursion IsNode (awake l)
nodes [] h = tt
nodes (s ∷ l) h = All-append IsNode (awake_of s) (awake l) (nodes_of s.consist s.way h.0) (nodes l h.1)

pub line_nodes : (l : Line) → IsLine l → Nodes (awake l)
line_nodes l h = record { some = some_awake_in l h; each = nodes l h.consists; real_macs = h.real_macs; own_macs = h.own_macs }

-- and it is that line, since its awake nodes give it back
pub assemble_complete : (l : Line) → IsLine l → assemble (awake l) ≡ Some l
assemble_complete l h =
    let r = assembles l h in
    let k = assemble_sound (awake l) r.0 (line_nodes l h) r.1 in
    r.1 ∙ ap Some (line_same r.0 l k.0.own_uuids h.own_uuids k.0.some_awake h.some_awake k.1)

complete_at : (xs : List Awake) (l : Line) → IsLine l → awake l ≡ xs → assemble xs ≡ Some l
complete_at xs l h e = ap assemble (sym e) ∙ assemble_complete l h

-- a chain of the reports that a line fits is the row of its awake nodes, from one end
module _ (held : List Report) (xs : List Awake) (h : Nodes xs) (c : Chains xs held) where
  xs_macs : OwnMacs xs
  xs_macs = (h.real_macs, h.own_macs)

  one_held : OneEach held
  one_held r s i j e = one_each 0 xs h.own_macs r s (c.each_true r i) (c.each_true s j) e

  turned_back : (k : Line) → awake k ≡ flip_awake xs → awake (flip k) ≡ xs
  turned_back k e = awake_flip k ∙ ap flip_awake e ∙ flip_awake_twice xs

  same_end : (k : Line) → IsLine k → Fits k held → first_mac xs ≡ first_mac (awake k) → (awake k ≡ xs) ⊎ (awake (flip k) ≡ xs)
  same_end k hk fk m =
      ⊎_elim (λ e. inl e) (λ e. inr (turned_back k e))
      (chains_same held one_held xs (awake k) xs_macs (line_macs k hk) h.some (some_awake_in k hk) c (fits_chain held k fk) m)

  either_end : (k : Line) → IsLine k → Fits k held → (awake k ≡ xs) ⊎ (awake (flip k) ≡ xs)
  either_end k hk fk =
      let f = first_report xs h.some in
      ⊎_elim (λ e. same_end k hk fk (sym f.2 ∙ e))
      (λ e. ⊎_elim (λ q. inr q) (λ q. inl (ap awake (sym (flip_flip k)) ∙ q))
      (same_end (flip k) (flip_is_line k hk) (flip_fits held k fk) (sym f.2 ∙ e ∙ sym (first_flip (awake k)) ∙ ap first_mac (sym (awake_flip k)))))
      (an_end (awake k) hk.real_macs f.0 (fk.each_true f.0 (c.each_held f.0 f.1)) f.3)

  -- a line that fits is assembled from the chain, or its flip is
  pub assembled_fits : (k : Line) → IsLine k → Fits k held → (assemble xs ≡ Some k) ⊎ (assemble xs ≡ Some (flip k))
  assembled_fits k hk fk = ⊎_elim (λ e. inl (complete_at xs k hk e)) (λ e. inr (complete_at xs (flip k) (flip_is_line k hk) e)) (either_end k hk fk)

  -- and what is assembled fits
  pub fits_assembled : (l : Line) → assemble xs ≡ Some l → IsLine l × Fits l held × (awake l ≡ xs)
  fits_assembled l e =
      let r = assemble_sound xs l h e in (
        r.0,
        record {
          each_true = λ q i. subst (λ ys. In q (reports 0 ys)) (sym r.1) (c.each_true q i);
          each_held = λ q i. c.each_held q (subst (λ ys. In q (reports 0 ys)) r.1 i);
        },
        r.1,
      )
