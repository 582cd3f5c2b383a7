-- The words that the writer puts together. Assumes nothing.
use Rattle.std.proofs.Common.{◌≡◌, ℕ, zero, suc, ◌+◌, ◌*◌, ◌≤◌, true, cond, ◌&&◌, eqb, leb, List, [], ◌∷◌, ◌++◌, map, length, take, refl, ap, ◌∙◌, arith}
use lib.Seq.{take-append-add}
use Rattle.std.proofs.lemmas.List.{length-append, length-map, length-take}
use Rattle.std.proofs.lemmas.Bool.{and_parts, ne_eqb, leb-true}
use Rattle.report.specs.declared.Report as code
use Rattle.report.specs.Masks.{is_mask}
use Rattle.report.specs.Reports.{means, filled, in_range, is_report}
use Rattle.report.specs.Layout.{word, mac_words, uuid_words, words}

-- the word at a place that may hold a mask
abbrev pub word_of_mask : ℕ → ℕ
word_of_mask m = cond (eqb m 0) 0 (word 4 m)

at_mask : (m : ℕ) → is_mask m ≡ true → word_of_mask m ≡ word 4 m
at_mask m e =
    let low = leb-true 1 m (and_parts (leb 1 m) (leb m 255) e).0 in
    ap (λ b. cond b 0 (word 4 m)) (ne_eqb m 0 (λ z. let f : ⊥ = omega arith in f))

-- the masks are followed by the end word
masks_end : (n : ℕ) (ms : List ℕ) → n ≤ length ms → filled n ms ≡ true → take (suc n) (map word_of_mask ms ++ 0 ∷ []) ≡ map (word 4) (take n ms) ++ 0 ∷ []
masks_end zero [] h e = refl
masks_end zero (m ∷ ms) h e =
    let none = (and_parts (eqb m 0) (filled zero ms) e).0 in
    ap (λ b. cond b 0 (word 4 m) ∷ []) none
masks_end (suc n) [] h e = absurd (let z : ⊥ = omega arith in z)
masks_end (suc n) (m ∷ ms) h e =
    let p = and_parts (is_mask m) (filled n ms) e in
    let one = at_mask m p.0 in
    let rest = masks_end n ms (omega arith) p.1 in
    (λ i. one i ∷ rest i)

-- what is in range
pub record InRange (r : code.Report) : Type 0 where
  pub few : r.nodes ≤ 4
  pub full : filled r.nodes r.masks ≡ true
  pub report : is_report (means r) ≡ true

pub ranges : (r : code.Report) → in_range r ≡ true → InRange r
ranges r e =
    let a = and_parts (leb r.nodes 4 && filled r.nodes r.masks) (is_report (means r)) e in
    let b = and_parts (leb r.nodes 4) (filled r.nodes r.masks) a.0 in
    record { few = leb-true r.nodes 4 b.0; full = b.1; report = a.1 }

module _ (r : code.Report) (ok : in_range r ≡ true) (four : length r.masks ≡ 4) where
  counted : length (take r.nodes r.masks) ≡ r.nodes
  counted = let few = (ranges r ok).few in length-take r.nodes r.masks ∙ omega arith

  pub length_words : length (words (means r)) ≡ 13 + r.nodes
  length_words =
      let ms = map (word 4) (take r.nodes r.masks) in
      omega (arith, length-append ms (0 ∷ []), length-map (take r.nodes r.masks) (word 4), counted)

  -- the words before the masks, the four places for masks, and a zero
  pub words_so :
      (head : ℕ) → head ≡ word 1 (r.position * 16 + r.nodes)
      → take (length (words (means r)))
      (head ∷ (mac_words r.mac.0 ++ (mac_words r.side1.0 ++ (mac_words r.side2.0 ++ (uuid_words (means r).uuid ++ (map word_of_mask r.masks ++ 0 ∷ []))))))
      ≡ words (means r)
  words_so head is_head =
      let rest = map word_of_mask r.masks ++ 0 ∷ [] in
      let front : List ℕ = head ∷ (mac_words r.mac.0 ++ (mac_words r.side1.0 ++ (mac_words r.side2.0 ++ uuid_words (means r).uuid))) in
      let n : length (words (means r)) ≡ 12 + suc r.nodes = omega (arith, length_words) in
      let few = (ranges r ok).few in
      let h : head ≡ word 1 (16 * r.position + length (take r.nodes r.masks)) = is_head ∙ omega (arith, counted) in
      let tail = masks_end r.nodes r.masks (omega arith) (ranges r ok).full in
      ap (λ k. take k (front ++ rest)) n ∙ take-append-add front rest (suc r.nodes)
      ∙ (λ i. h i ∷ (mac_words r.mac.0 ++ (mac_words r.side1.0 ++ (mac_words r.side2.0 ++ (uuid_words (means r).uuid ++ tail i)))))
