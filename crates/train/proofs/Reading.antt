-- A line is read in the same way from both ends, and its rows depend on the skeleton alone. Assumes nothing.
use Rattle.std.proofs.Common.{◌≡◌, ℕ, ◌≤◌, Bool, true, false, cond, ltb, ◌⊎◌, List, [], ◌∷◌, ◌++◌, map, reverse, length, sym, refl, ap, ◌∙◌, subst, inl, inr, ⊎_elim, arith}
use mathlib.Core.List.{reverse_aux}
use Rattle.std.specs.List.{flat_map, AllByRecursion}
use Rattle.std.proofs.lemmas.List.{length-map, length-reverse}
use Rattle.std.proofs.lemmas.Bool.{lt-ltb, le-ltb, cases_order}
use Rattle.train.specs.Line.{Way, forward, turned, other, Consist, masks, Coupled, Line, turn, flip}
use Rattle.train.specs.Truth.{In}
use Rattle.train.specs.Rules.{Different, uuids, IsLine}
use Rattle.train.specs.Rows.{left, reading, Met, met_in, met, rows_met, rows}
use Rattle.train.specs.Agreement.{Outline, outline, skeleton}
use Rattle.train.proofs.Members.{map_reverse, map-map, in_reverse, of_reverse, in_map, of_map}
use Rattle.train.proofs.Flip.{flip_flip}
use Rattle.train.proofs.Fit.{flip_is_line}

-- a line is read from one of its ends
reading_alone : (c : Consist) (w : Way) → let l : Line = record { consist = c; way = w } ∷ [] in (reading l ≡ l) ⊎ (reading l ≡ flip l)
reading_alone c forward = inl refl
reading_alone c turned = inr refl

pub reading_is : (l : Line) → (reading l ≡ l) ⊎ (reading l ≡ flip l)
reading_is [] = inl refl
reading_is (s ∷ []) = reading_alone s.consist s.way
reading_is (s ∷ t ∷ l) = pick (ltb (left (s ∷ t ∷ l)) (left (flip (s ∷ t ∷ l)))) (s ∷ t ∷ l) (flip (s ∷ t ∷ l))
  where
    pick : (b : Bool) (x y : Line) → (cond b x y ≡ x) ⊎ (cond b x y ≡ y)
    pick true x y = inl refl
    pick false x y = inr refl

-- what holds of a line from both ends holds of its reading
pub of_reading : (P : Line → Type 0) (l : Line) → P l → P (flip l) → P (reading l)
of_reading P l h k = ⊎_elim (λ e. subst P (sym e) h) (λ e. subst P (sym e) k) (reading_is l)

pub reading_is_line : (l : Line) → IsLine l → IsLine (reading l)
reading_is_line l h = of_reading IsLine l h (flip_is_line l h)

-- the reading has the consists of the line
pub in_reading : (l : Line) (s : Coupled) → In s l → (t : Coupled) × In t (reading l) × (t.consist ≡ s.consist)
in_reading l s i =
    of_reading (λ k. (t : Coupled) × In t k × (t.consist ≡ s.consist)) l (s, i, refl) (turn s, in_reverse (turn s) (map turn l) (in_map turn s l i), refl)

pub of_reading_in : (l : Line) (t : Coupled) → In t (reading l) → (s : Coupled) × In s l × (t.consist ≡ s.consist)
of_reading_in l = of_reading (λ k. (t : Coupled) → In t k → (s : Coupled) × In s l × (t.consist ≡ s.consist)) l (λ t i. (t, i, refl))
    (λ t i. let r = of_map turn t l (of_reverse t (map turn l) i) in (r.0, r.1, ap (λ q. q.consist) r.2))

reading_long : (l : Line) → 2 ≤ length l → reading l ≡ cond (ltb (left l) (left (flip l))) l (flip l)
reading_long [] h = absurd (omega arith)
reading_long (s ∷ []) h = absurd (omega arith)
reading_long (s ∷ t ∷ l) h = refl

-- the UUID at the other end is one of the line's
left_rev : (P : ℕ → Type 0) (l r : Line) → AllByRecursion P (uuids l) → P (left r) → P (left (reverse_aux (map turn l) r))
left_rev P [] r h k = k
left_rev P (s ∷ l) r h k = left_rev P l (turn s ∷ r) h.1 h.0

ends_differ : (s t : Coupled) (l : Line) → Different (uuids (s ∷ t ∷ l)) → left (s ∷ t ∷ l) ≡ left (flip (s ∷ t ∷ l)) → ⊥
ends_differ s t l d = left_rev (λ u. s.consist.uuid ≡ u → ⊥) l (turn t ∷ turn s ∷ []) d.0.1 d.0.0

choose : {A : Type 0} (m n : ℕ) (x y : A) → (m ≡ n → ⊥) → cond (ltb n m) y x ≡ cond (ltb m n) x y
choose m n x y d = ⊎_elim (λ e. absurd (d e))
    (λ o. ⊎_elim (λ h. ap (λ b. cond b y x) (le-ltb n m (omega arith)) ∙ ap (λ b. cond b x y) (sym (lt-ltb m n h)))
    (λ h. ap (λ b. cond b y x) (lt-ltb n m h) ∙ ap (λ b. cond b x y) (sym (le-ltb m n (omega arith)))) o)
    (cases_order m n)

pub reading_flip : (l : Line) → Different (uuids l) → reading (flip l) ≡ reading l
reading_flip [] d = refl
reading_flip (s ∷ []) d = refl
reading_flip (s ∷ t ∷ l) d =
    let x = s ∷ t ∷ l in
    let long : 2 ≤ length (flip x) = omega (arith, length-reverse (map turn x), length-map x turn) in
    reading_long (flip x) long ∙ ap (λ y. cond (ltb (left (flip x)) (left y)) (flip x) y) (flip_flip x)
    ∙ choose (left x) (left (flip x)) x (flip x) (ends_differ s t l d)

pub rows_flip : (l : Line) → IsLine l → rows (flip l) ≡ rows l
rows_flip l h = ap (λ x. rows_met (met x)) (reading_flip l h.own_uuids)

-- the same over skeletons
abbrev pub flip_outlines : List Outline → List Outline
flip_outlines bs = reverse (map (λ b. record { uuid = b.uuid; masks = b.masks; way = other b.way }) bs)

abbrev left_outline : List Outline → ℕ
left_outline [] = 0
left_outline (b ∷ bs) = b.uuid

abbrev read_outlines : List Outline → List Outline
read_outlines [] = []
read_outlines (b ∷ []) = record { uuid = b.uuid; masks = b.masks; way = forward } ∷ []
read_outlines (a ∷ b ∷ bs) = let r = flip_outlines (a ∷ b ∷ bs) in cond (ltb a.uuid (left_outline r)) (a ∷ b ∷ bs) r

abbrev met_outlines : List Outline → List Met
met_outlines bs = flat_map (λ b. met_in b.uuid b.masks b.way) bs

pub skeleton_flip : (l : Line) → skeleton (flip l) ≡ flip_outlines (skeleton l)
skeleton_flip l = map_reverse outline (map turn l) ∙ ap reverse (map-map outline turn l ∙ sym (map-map _ outline l))

left_skeleton : (l : Line) → left l ≡ left_outline (skeleton l)
left_skeleton [] = refl
left_skeleton (s ∷ l) = refl

skeleton_cond : (b : Bool) (l k : Line) → skeleton (cond b l k) ≡ cond b (skeleton l) (skeleton k)
skeleton_cond true l k = refl
skeleton_cond false l k = refl

skeleton_reading : (l : Line) → skeleton (reading l) ≡ read_outlines (skeleton l)
skeleton_reading [] = refl
skeleton_reading (s ∷ []) = refl
skeleton_reading (s ∷ t ∷ l) =
    let x = s ∷ t ∷ l in
    skeleton_cond (ltb (left x) (left (flip x))) x (flip x)
    ∙ ap (λ u. cond (ltb (left x) u) (skeleton x) (skeleton (flip x))) (left_skeleton (flip x))
    ∙ ap (λ r. cond (ltb (left x) (left_outline r)) (skeleton x) r) (skeleton_flip x)

met_skeleton : (l : Line) → met l ≡ met_outlines (skeleton l)
met_skeleton [] = refl
met_skeleton (s ∷ l) = ap (λ r. met_in s.consist.uuid (masks s.consist) s.way ++ r) (met_skeleton l)

met_read : (l : Line) → met (reading l) ≡ met_outlines (read_outlines (skeleton l))
met_read l = met_skeleton (reading l) ∙ ap met_outlines (skeleton_reading l)

-- the nodes of the reading depend on the skeleton alone
pub met_same : (l k : Line) → skeleton k ≡ skeleton l → met (reading k) ≡ met (reading l)
met_same l k e = met_read k ∙ ap (λ b. met_outlines (read_outlines b)) e ∙ sym (met_read l)

pub rows_skeleton : (l k : Line) → skeleton k ≡ skeleton l → rows k ≡ rows l
rows_skeleton l k e = ap rows_met (met_same l k e)
