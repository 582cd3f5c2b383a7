-- What the loop of `find_chain` keeps. Assumes nothing.
use Rattle.std.proofs.Common.{◌≡◌, ℕ, zero, suc, ◌+◌, ◌<◌, ◌≤◌, Bool, true, false, cond, List, [], ◌∷◌, ◌++◌, map, length, get_or, set, replicate, Some, None, Option, sym, refl, ap, ◌∙◌, ap₂, arith}
use mathlib.Core.List.{map-append}
use Rattle.std.proofs.lemmas.Bool.{ne_eqb, cond-true, cond-false}
use Rattle.std.proofs.lemmas.List.{append_assoc, length-append, length-map, length-set, get_or_default}
use Rattle.report.specs.declared.Report as code
use Rattle.report.specs.Reports.{Report, means}
use Rattle.directory.specs.declared.row.Way as code_way
use Rattle.directory.specs.Meaning.{way_means}
use Rattle.fitting.specs.Neighbours.{blank, place_of}
use Rattle.fitting.specs.Walk.{end_mac, unmet, if_some, ended, walk, Step, way_from, next_from, standing, stands, chain_of}
use Rattle.fitting.proofs.Found.{found_at, unmet_less, unmarked}
use Rattle.fitting.proofs.Reached.{walk_on}
use Rattle.inauguration.specs.declared.awake.Awake as node
use Rattle.inauguration.specs.Meaning.{all_mean, node_means, nodes_mean}

pub get_or_means : (held : List code.Report) (i : ℕ) (d : code.Report) → i < length held → get_or (all_mean held) i blank ≡ means (get_or held i d)
get_or_means [] i d h = absurd (omega arith)
get_or_means (r ∷ rs) zero d h = refl
get_or_means (r ∷ rs) (suc i) d h = get_or_means rs i d (omega arith)

-- the nodes met so far, and the walk from the MAC m on, with l to its left
pub record Kept (held : List code.Report) (met : List Bool) (chain : List node.Awake) (l m : ℕ) : Type 0 where
  pub marks : length met ≡ length held
  pub count : length chain + unmet met ≡ length held
  pub so_far : if_some (walk (unmet met) (all_mean held) met l m) (λ ss. Some (nodes_mean chain ++ map (stands (all_mean held)) ss)) ≡ chain_of (all_mean held)

no_marks : (held : List code.Report) → replicate (length held) false ≡ map (λ _. false) (all_mean held)
no_marks [] = refl
no_marks (r ∷ rs) = ap (λ bs. false ∷ bs) (no_marks rs)

pub kept_start : (held : List code.Report) (met : List Bool) (chain : List node.Awake) (m : ℕ) → met ≡ replicate (length held) false → chain ≡ [] → m ≡ end_mac (all_mean held)
    → Kept held met chain 0 m
kept_start held met chain m e n k =
    let hs = all_mean held in
    let none : met ≡ map (λ _. false) hs = e ∙ no_marks held in
    let all : unmet met ≡ length hs = ap unmet none ∙ unmarked hs in
    let long = length-map held means in
    record {
      marks = ap length none ∙ length-map hs (λ _. false) ∙ long;
      count = omega (arith, ap length n);
      so_far = ap (λ xs. if_some (walk (unmet met) hs met 0 m) (λ ss. Some (nodes_mean xs ++ map (stands hs) ss))) n
          ∙ ap (λ n. if_some (walk n hs met 0 m) (λ ss. Some (map (stands hs) ss))) all
          ∙ ap₂ (λ bs x. if_some (walk (length hs) hs bs 0 x) (λ ss. Some (map (stands hs) ss))) none k;
    }

-- a step more before what is to come
regroup : {A : Type 0} (f : Step → A) (xs : List A) (s : Step) (o : Option (List Step))
    → if_some (if_some o (λ ss. Some (s ∷ ss))) (λ ss. Some (xs ++ map f ss)) ≡ if_some o (λ ss. Some ((xs ++ f s ∷ []) ++ map f ss))
regroup f xs s None = refl
regroup f xs s (Some ss) = ap Some (sym (append_assoc xs (f s ∷ []) (map f ss)))

module _ (held : List code.Report) (met : List Bool) (chain : List node.Awake) (l m : ℕ) (k : Kept held met chain l m) where
  abbrev hs : List Report
  hs = all_mean held

  module _ (i : ℕ) (at : place_of m 0 hs ≡ Some i) where
    within : i < length met
    within = omega (arith, (found_at m hs i at).0, length-map held means, k.marks)

    -- the mark of i, as the walk reads it
    mark_is : (b : Bool) → get_or met i false ≡ b → get_or met i true ≡ b
    mark_is b e = get_or_default met i true false within ∙ e

    pub kept_met : (m ≡ 0 → ⊥) → get_or met i false ≡ true → None ≡ chain_of hs
    kept_met d t = ap (λ v. if_some v (λ ss. Some (nodes_mean chain ++ map (stands hs) ss))) (sym (by (unmet met))) ∙ k.so_far
      where
        by : (f : ℕ) → walk f hs met l m ≡ None
        by zero = cond-false _ (ended met) None (ne_eqb m 0 d)
        by (suc f) = cond-false _ (ended met) _ (ne_eqb m 0 d) ∙ ap (λ v. if_some v (λ j. cond (get_or met j true) None
            (if_some (walk f hs (set met j true) (get_or hs j blank).mac (next_from l (get_or hs j blank)))
            (λ ss. Some (record { place = j; way = way_from l (get_or hs j blank) } ∷ ss))))) at ∙ cond-true _ None _ (mark_is true t)

    module _ (more : m ≡ 0 → ⊥) (new : get_or met i false ≡ false) where
      less : unmet met ≡ suc (unmet (set met i true))
      less = unmet_less met i (mark_is false new)

      pub kept_less : unmet (set met i true) < unmet met
      kept_less = let e = less in omega arith

      pub kept_room : length held ≤ 63 → length chain < 63
      kept_room few = let e = less in let c = k.count in omega arith

      pub kept_step : (r : code.Report) (w : code_way.Way) (x : ℕ) (longer : List node.Awake) → get_or hs i blank ≡ means r → way_means w ≡ way_from l (means r) → x ≡ next_from l (means r)
          → longer ≡ chain ++ record { report = r; way = w } ∷ [] → Kept held (set met i true) longer r.mac.0 x
      kept_step r w x longer e way next is =
          let a : node.Awake = record { report = r; way = w } in
          let s : Step = record { place = i; way = way_from l (get_or hs i blank) } in
          let met' = set met i true in
          let o = walk (unmet met') hs met' r.mac.0 x in
          let here : walk (unmet met') hs met' (get_or hs i blank).mac (next_from l (get_or hs i blank)) ≡ o
          = ap (λ v. walk (unmet met') hs met' v.mac (next_from l v)) e ∙ ap (walk (unmet met') hs met' r.mac.0) (sym next) in
          let on : walk (unmet met) hs met l m ≡ if_some o (λ ss. Some (s ∷ ss))
          = ap (λ n. walk n hs met l m) less ∙ walk_on (unmet met') hs met l m i o (omega arith) at (mark_is false new) here in
          let stood : node_means a ≡ stands hs s = ap (λ v. standing v (means r)) way ∙ ap (λ v. standing (way_from l v) v) (sym e) in
          let pushed : nodes_mean longer ≡ nodes_mean chain ++ stands hs s ∷ [] = ap nodes_mean is ∙ map-append node_means chain (a ∷ []) ∙ ap (λ v. nodes_mean chain ++ v ∷ []) stood in
          record {
            marks = length-set met i true ∙ k.marks;
            count = omega (arith, less, k.count, ap length is, length-append chain (a ∷ []));
            so_far = ap (λ xs. if_some o (λ ss. Some (xs ++ map (stands hs) ss))) pushed ∙ sym (regroup (stands hs) (nodes_mean chain) s o)
                ∙ ap (λ v. if_some v (λ ss. Some (nodes_mean chain ++ map (stands hs) ss))) (sym on) ∙ k.so_far;
          }
