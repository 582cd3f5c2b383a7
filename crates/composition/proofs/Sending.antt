-- The reports of a line, consist by consist. Assumes nothing.
use Rattle.std.proofs.Common.{◌≡◌, ℕ, ◌+◌, ◌*◌, ◌/◌, ◌%◌, ◌^◌, ◌<◌, ◌≤◌, List, [], ◌∷◌, ◌++◌, map, length, take, drop, set, Some, None, Option, sym, refl, ap, ◌∙◌, subst, ap₂, arith}
use mathlib.Core.List.{map-append}
use Rattle.std.specs.List.{AllByRecursion}
use Rattle.std.proofs.lemmas.List.{append_assoc, take_more_set, drop-set-lt, drop-drop, length-map}
use Rattle.report.specs.declared.Report as code
use Rattle.report.specs.Reports.{Report, means}
use Rattle.report.proofs.Masks.{take_padded}
use Rattle.train.specs.Line.{Node, masks, Coupled}
use Rattle.train.specs.Truth.{Awake, awake_of, awake, first_mac, report, reports, true_reports}
use Rattle.composition.specs.declared.consist.Consist as consist
use Rattle.composition.specs.Meaning.{node_means, nodes_of, consist_means, described}
use Rattle.composition.specs.Standing.{standing, woken, awake_in, next_mac, last_mac, reports_between}
use Rattle.composition.specs.Sending.{coded, sent}
use Rattle.composition.proofs.Exact.{all_join}
use Rattle.composition.proofs.Standing.{standing_awake}
use Rattle.composition.proofs.Steps.{few_nodes}

next_first : (xs ys : List Awake) → first_mac (xs ++ ys) ≡ next_mac xs (first_mac ys)
next_first [] ys = refl
next_first (a ∷ xs) ys = refl

pub reports_append : (l : ℕ) (xs ys : List Awake) → reports l (xs ++ ys) ≡ reports_between l xs (first_mac ys) ++ reports (last_mac l xs) ys
reports_append l [] ys = refl
reports_append l (a ∷ xs) ys = ap₂ ◌∷◌ (ap (report l a) (next_first xs ys)) (reports_append a.mac xs ys)

pub length_reports : (l : ℕ) (xs : List Awake) → length (reports l xs) ≡ length xs
length_reports l [] = refl
length_reports l (a ∷ xs) = let e = length_reports a.mac xs in omega arith

-- the reports of a consist, and those of the consists to its right
pub joins : (front : List code.Report) (l : ℕ) (xs rest : List Awake) (after last : ℕ) → after ≡ first_mac rest → last ≡ last_mac l xs
    → (front ++ map coded (reports_between l xs after)) ++ map coded (reports last rest) ≡ front ++ map coded (reports l (xs ++ rest))
joins front l xs rest after last a b =
    append_assoc front (map coded (reports_between l xs after)) (map coded (reports last rest))
    ∙ ap (λ rs. front ++ rs) (sym (map-append coded (reports_between l xs after) (reports last rest)) ∙ ap (map coded) ((λ i. reports_between l xs (a i) ++ reports (b i) rest) ∙ sym (reports_append l xs rest)))

-- one report more in the buffer
module _ (out before : List code.Report) (end : ℕ) (v : code.Report) where
  pub write_on : (tail : List code.Report) → end < length out → take (end + 1) (set out end v) ++ tail ≡ take end out ++ v ∷ tail
  write_on tail h = ap (λ xs. xs ++ tail) (take_more_set out end v h) ∙ append_assoc (take end out) (v ∷ []) tail

  pub back_on : drop end out ≡ drop end before → drop (end + 1) (set out end v) ≡ drop (end + 1) before
  back_on e = drop-set-lt (end + 1) out end v (omega arith) ∙ sym (drop-drop 1 end out) ∙ ap (drop 1) e ∙ drop-drop 1 end before

-- what is written means the true reports
back : (r : Report) → length r.masks ≤ 4 → means (coded r) ≡ r
back r few =
    let u : r.uuid / 2 ^ 64 * 2 ^ 64 + r.uuid % 2 ^ 64 ≡ r.uuid = omega arith in
    let ms = take_padded r.masks few in
    (λ i. record { mac = r.mac; side1 = r.side1; side2 = r.side2; uuid = u i; position = r.position; masks = ms i })

all_back : (l : ℕ) (xs : List Awake) → AllByRecursion (λ a. length a.masks ≤ 4) xs → map means (map coded (reports l xs)) ≡ reports l xs
all_back l [] h = refl
all_back l (a ∷ xs) h = ap₂ ◌∷◌ (back (report l a (first_mac xs)) h.0) (all_back a.mac xs h.1)

few_woken : (s : Coupled) → length (masks s.consist) ≤ 4 → (p : ℕ) (o : Option ℕ) (xs : List Awake) → AllByRecursion (λ a. length a.masks ≤ 4) xs → AllByRecursion (λ a. length a.masks ≤ 4) (woken s p o ++ xs)
few_woken s few p (Some m) xs h = (few, h)
few_woken s few p None xs h = h

few_in : (s : Coupled) → length (masks s.consist) ≤ 4 → (ns : List (ℕ × Node)) → AllByRecursion (λ a. length a.masks ≤ 4) (awake_in s ns)
few_in s few [] = tt
few_in s few (n ∷ ns) = few_woken s few n.0 n.1.mac (awake_in s ns) (few_in s few ns)

few_all : (cs : List consist.Consist) → AllByRecursion (λ a. length a.masks ≤ 4) (awake (described cs))
few_all [] = tt
few_all (c ∷ cs) =
    let s = consist_means c in
    let few : length (masks s.consist) ≤ 4 = omega (arith, few_nodes c, length-map (nodes_of c) node_means, length-map (map node_means (nodes_of c)) (λ n. n.mask)) in
    all_join (λ a. length a.masks ≤ 4) (awake_of s) (awake (described cs)) (subst (AllByRecursion (λ a. length a.masks ≤ 4)) (standing_awake s) (few_in s few (standing s))) (few_all cs)

pub sent_means : (cs : List consist.Consist) → map means (sent (described cs)) ≡ true_reports (described cs)
sent_means cs = all_back 0 (awake (described cs)) (few_all cs)
