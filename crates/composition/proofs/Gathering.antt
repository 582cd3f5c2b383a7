-- The consists and the nodes that the reading of a line meets. Assumes nothing.
use Rattle.std.proofs.Common.{◌≡◌, ℕ, ◌+◌, ◌-◌, ◌<◌, ◌≤◌, Bool, true, cond, not, eqb, ltb, List, [], ◌∷◌, ◌++◌, map, reverse, length, get_or, take, filter, sym, refl, ap, ◌∙◌, ap₂, arith}
use mathlib.Core.List.{map-append}
use Rattle.std.specs.List.{flat_map, AllByRecursion}
use Rattle.std.proofs.lemmas.List.{get_or-map, get_or-reverse, length-map, length-reverse, take_all}
use Rattle.std.proofs.lemmas.Bool.{ne_eqb}
use Rattle.report.specs.Reports.{whole}
use Rattle.train.specs.Line.{Way, forward, turned, Node, Consist, masks, Coupled, Line, turn, flip}
use Rattle.train.specs.Rules.{networks, IsConsist, IsLine, Within}
use Rattle.train.specs.Rows.{left, reading, counted, Met, nodes_in, met_in, met, meetings, numbered, rows_met, rows}
use Rattle.train.proofs.Limits.{limits_suffice}
use Rattle.train.proofs.Members.{map_reverse, all_reverse}
use Rattle.train.proofs.Reading.{of_reading, reading_is_line}
use Rattle.directory.specs.Meaning.{serving}
use Rattle.composition.specs.declared.consist.Consist as consist
use Rattle.composition.specs.Meaning.{consist_means, described}
use Rattle.composition.specs.Standing.{standing}
use Rattle.composition.specs.Gathering.{nowhere, as_met, met_of}
use Rattle.composition.proofs.Exact.{all_join}
use Rattle.composition.proofs.Steps.{no_consist}

-- the consists of a line by their places, from either end
pub place_at : (cs : List consist.Consist) (k : ℕ) → k < length cs → get_or (described cs) k nowhere ≡ consist_means (get_or cs k no_consist)
place_at cs k h = get_or-map consist_means cs k no_consist nowhere h

pub flip_at : (cs : List consist.Consist) (k : ℕ) → k < length cs → get_or (flip (described cs)) k nowhere ≡ turn (consist_means (get_or cs (length cs - 1 - k) no_consist))
flip_at cs k h =
    let l = described cs in
    let long : length (map turn l) ≡ length cs = length-map l turn ∙ length-map cs consist_means in
    let inside : length cs - 1 - k < length l = omega (arith, length-map cs consist_means) in
    get_or-reverse (map turn l) k nowhere (omega arith) ∙ ap (λ n. get_or (map turn l) (n - 1 - k) nowhere) long
    ∙ get_or-map turn l (length cs - 1 - k) nowhere nowhere inside ∙ ap turn (place_at cs (length cs - 1 - k) (omega arith))

left_at : (l : Line) → left l ≡ (get_or l 0 nowhere).consist.uuid
left_at [] = refl
left_at (s ∷ l) = refl

pub left_is : (cs : List consist.Consist) → 1 ≤ length cs → left (described cs) ≡ whole (get_or cs 0 no_consist).uuid
left_is cs h = left_at (described cs) ∙ ap (λ s. s.consist.uuid) (place_at cs 0 (omega arith))

pub right_is : (cs : List consist.Consist) → 1 ≤ length cs → left (flip (described cs)) ≡ whole (get_or cs (length cs - 1) no_consist).uuid
right_is cs h =
    let same : length cs - 1 - 0 ≡ length cs - 1 = omega arith in
    left_at (flip (described cs)) ∙ ap (λ s. s.consist.uuid) (flip_at cs 0 (omega arith)) ∙ ap (λ k. whole (get_or cs k no_consist).uuid) same

-- how a line is read
pub read_one : (cs : List consist.Consist) (k : ℕ) → length cs ≡ 1 → k < length cs
    → record { consist = (consist_means (get_or cs 0 no_consist)).consist; way = forward } ≡ get_or (reading (described cs)) k nowhere
read_one [] k e h = absurd (let z : ⊥ = omega arith in z)
read_one (c ∷ []) k e h =
    let first : 0 ≡ k = omega arith in
    ap (λ k. get_or (reading (described (c ∷ []))) k nowhere) first
read_one (c ∷ d ∷ cs) k e h = absurd (let z : ⊥ = omega arith in z)

pub read_more : (cs : List consist.Consist) → 2 ≤ length cs
    → reading (described cs) ≡ cond (ltb (left (described cs)) (left (flip (described cs)))) (described cs) (flip (described cs))
read_more [] h = absurd (let z : ⊥ = omega arith in z)
read_more (c ∷ []) h = absurd (let z : ⊥ = omega arith in z)
read_more (c ∷ d ∷ cs) h = refl

pub length_reading : (l : Line) → length (reading l) ≡ length l
length_reading l = of_reading (λ k. length k ≡ length l) l refl (length-reverse (map turn l) ∙ length-map l turn)

-- rows do not depend on positions
abbrev unplaced : Met → Met
unplaced x = record { uuid = x.uuid; position = 0; mask = x.mask; way = x.way }

module _ (c : Consist) (w : Way) where
  abbrev here : Coupled
  here = record { consist = c; way = w }

  rising : (n : ℕ) (ns : List Node)
      → map unplaced (map (λ m. record { uuid = c.uuid; position = m.0; mask = m.1; way = w }) (counted n (map (λ x. x.mask) ns))) ≡ map (as_met here) (counted n ns)
  rising n [] = refl
  rising n (x ∷ ns) = ap (λ r. as_met here (n, x) ∷ r) (rising (n + 1) ns)

of_way : (c : Consist) (w : Way) → map unplaced (met_in c.uuid (masks c) w) ≡ met_of (record { consist = c; way = w })
of_way c forward = rising c forward 1 c.nodes
of_way c turned =
    map_reverse unplaced (nodes_in c.uuid (masks c) turned) ∙ ap reverse (rising c turned 1 c.nodes)
    ∙ sym (map_reverse (as_met (record { consist = c; way = turned })) (counted 1 c.nodes))

met_unplaced : (l : Line) → map unplaced (met l) ≡ flat_map met_of l
met_unplaced [] = refl
met_unplaced (s ∷ l) = map-append unplaced (met_in s.consist.uuid (masks s.consist) s.way) (met l) ∙ ap₂ ◌++◌ (of_way s.consist s.way) (met_unplaced l)

meetings_unplaced : (n : ℕ) (xs : List Met) → meetings n (map unplaced xs) ≡ meetings n xs
meetings_unplaced n [] = refl
meetings_unplaced n (x ∷ xs) = ap (λ ms. map (λ c. record { uuid = x.uuid; cn = c; node = n; way = x.way }) (networks x.mask) ++ ms) (meetings_unplaced (n + 1) xs)

-- every node of a line serves a network
kept_all : {A : Type 0} (p : A → Bool) (xs : List A) → AllByRecursion (λ x. p x ≡ true) xs → filter p xs ≡ xs
kept_all p [] h = refl
kept_all p (x ∷ xs) h = ap (λ b. cond b (x ∷ filter p xs) (filter p xs)) h.0 ∙ ap (λ r. x ∷ r) (kept_all p xs h.1)

all_map : {A B : Type 0} (P : B → Type 0) (f : A → B) (xs : List A) → AllByRecursion (λ x. P (f x)) xs → AllByRecursion P (map f xs)
all_map P f [] h = tt
all_map P f (x ∷ xs) h = (h.0, all_map P f xs h.1)

abbrev serves_some : Met → Bool
serves_some x = not (eqb x.mask 0)

some_mask : (m : ℕ) → 1 ≤ m → not (eqb m 0) ≡ true
some_mask m h = ap not (ne_eqb m 0 (λ e. let z : ⊥ = omega arith in z))

all_counted : (s : Coupled) (n : ℕ) (ns : List Node) → AllByRecursion (λ m. (1 ≤ m) × (m ≤ 255)) (map (λ x. x.mask) ns) → AllByRecursion (λ x. serves_some (as_met s x) ≡ true) (counted n ns)
all_counted s n [] h = tt
all_counted s n (x ∷ ns) h = (some_mask x.mask h.0.0, all_counted s (n + 1) ns h.1)

all_standing : (s : Coupled) (w : Way) (ns : List Node) → AllByRecursion (λ x. serves_some (as_met s x) ≡ true) (counted 1 ns)
    → AllByRecursion (λ x. serves_some (as_met s x) ≡ true) (standing (record { consist = record { uuid = s.consist.uuid; nodes = ns }; way = w }))
all_standing s forward ns h = h
all_standing s turned ns h = all_reverse (λ x. serves_some (as_met s x) ≡ true) (counted 1 ns) h

all_serve : (l : Line) → AllByRecursion (λ s. IsConsist s.consist) l → AllByRecursion (λ x. serves_some x ≡ true) (flat_map met_of l)
all_serve [] h = tt
all_serve (s ∷ l) h =
    all_join (λ x. serves_some x ≡ true) (met_of s) (flat_map met_of l)
    (all_map (λ x. serves_some x ≡ true) (as_met s) (standing s) (all_standing s s.way s.consist.nodes (all_counted s 1 s.consist.nodes h.0.some_network))) (all_serve l h.1)

-- the rows of the nodes that the reading meets
pub gathered : (l : Line) → IsLine l → Within l → take 128 (rows_met (serving (flat_map met_of (reading l)))) ≡ rows l
gathered l h w =
    let k = reading l in
    ap (λ xs. take 128 (rows_met xs)) (kept_all serves_some (flat_map met_of k) (all_serve k (reading_is_line l h).consists) ∙ sym (met_unplaced k))
    ∙ ap (λ ms. take 128 (numbered [] ms)) (meetings_unplaced 1 (met k)) ∙ take_all 128 (rows l) (limits_suffice.few_rows l w)
