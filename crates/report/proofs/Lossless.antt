-- Words and reports say the same. Assumes nothing.
use Rattle.std.proofs.Common.{◌≡◌, ℕ, zero, suc, ◌+◌, ◌*◌, ◌/◌, ◌%◌, ◌^◌, ◌<◌, ◌≤◌, min, Bool, true, false, ◌&&◌, eqb, ltb, leb, List, [], ◌∷◌, ◌++◌, map, length, get_or, take, drop, replicate, Some, None, Ok, Err, Option, sym, refl, ap, ◌∙◌, subst, arith}
use Rattle.std.proofs.lemmas.List.{take_at, length-append, length-drop, length-map, length-take}
use Rattle.std.proofs.lemmas.Bool.{and_parts, and_from, eqb-true, leb-true, ltb-true, le-leb, lt-ltb}
use Rattle.report.specs.declared.fault.WordFault.{WordFault}
use Rattle.report.specs.declared.fault.WordFault.TheVariants.{Missing, Wrong, Extra}
use Rattle.report.specs.Masks.{is_mask, all_masks, gapless}
use Rattle.report.specs.Reports.{Report, is_mac, is_neighbour, is_uuid, macs_fit, place_fits, masks_fit, is_report}
use Rattle.report.specs.Refusals.{Refusal, garbled}
use Rattle.report.specs.Layout.{word, words}
use Rattle.report.specs.Reading.{nodes_in, position_in, mac_in, uuid_in, masks_in, report_in, of, head, mask_word, end_word, before, behind, asked, right, first_wrong, answer, read}
use Rattle.report.specs.Lossless.{Lossless}
use Rattle.report.proofs.Steps.{goes, passed, ended, Pass, pass, place, found_first}
use Rattle.report.proofs.Values.{of_facts, of_word, headed, head_word, joined, halves, mac_back, gathered, fifths, uuid_back}

-- ---- the masks and the end word

abbrev loads : List ℕ → List ℕ
loads ws = map (λ w. w % 2 ^ 8) ws

mask_facts : (w : ℕ) → mask_word w ≡ true → (word 4 (w % 2 ^ 8) ≡ w) × (is_mask (w % 2 ^ 8) ≡ true)
mask_facts w e =
    let p = and_parts (of 4 8 w) (is_mask (w % 2 ^ 8)) e in
    let f = of_facts 4 8 w p.0 in
    (omega arith, p.1)

mask_back : (m : ℕ) → is_mask m ≡ true → (word 4 m % 2 ^ 8 ≡ m) × (mask_word (word 4 m) ≡ true)
mask_back m e =
    let p = and_parts (leb 1 m) (leb m 255) e in
    let high = leb-true m 255 p.1 in
    let is : word 4 m % 2 ^ 8 ≡ m = omega arith in
    (is, and_from (of 4 8 (word 4 m)) (is_mask (word 4 m % 2 ^ 8)) (of_word 4 8 m (omega arith) (omega arith)) (ap is_mask is ∙ e))

loads_back : (ms : List ℕ) → all_masks ms ≡ true → loads (map (word 4) ms) ≡ ms
loads_back [] e = refl
loads_back (m ∷ ms) e =
    let p = and_parts (is_mask m) (all_masks ms) e in
    let h = (mask_back m p.0).0 in
    let t = loads_back ms p.1 in
    (λ i. h i ∷ t i)

-- rows that end so: n masks and the end word
pub record Tail (n : ℕ) (end : ℕ → Bool) (ws : List ℕ) : Type 0 where
  pub long : length (loads (take n ws)) ≡ n
  pub masks : all_masks (loads (take n ws)) ≡ true
  pub ends : end 0 ≡ true
  pub is : map (word 4) (loads (take n ws)) ++ 0 ∷ [] ≡ ws

tail : (n k : ℕ) (test : ℕ → Bool) (ws : List ℕ) → first_wrong k (replicate n mask_word ++ (λ w. eqb w 0 && test w) ∷ []) ws ≡ None → Tail n test ws
tail zero k test ws none =
    let p = passed k (λ w. eqb w 0 && test w) [] ws none in
    let q = and_parts (eqb p.first 0) (test p.first) p.passes in
    let z = eqb-true p.first 0 q.0 in
    let e = ended (k + 1) p.others p.none in
    record { long = refl; masks = refl; ends = ap test (sym z) ∙ q.1; is = sym (p.is ∙ (λ i. z i ∷ e i)) }
tail (suc n) k test ws none =
    let p = passed k mask_word (replicate n mask_word ++ (λ w. eqb w 0 && test w) ∷ []) ws none in
    let m = mask_facts p.first p.passes in
    let t = tail n (k + 1) test p.others p.none in
    let front : take (suc n) ws ≡ p.first ∷ take n p.others = ap (take (suc n)) p.is in
    record {
      long = ap (λ xs. length (loads xs)) front ∙ ap suc t.long;
      masks = ap (λ xs. all_masks (loads xs)) front ∙ and_from (is_mask (p.first % 2 ^ 8)) (all_masks (loads (take n p.others))) m.1 t.masks;
      ends = t.ends;
      is = ap (λ xs. map (word 4) (loads xs) ++ 0 ∷ []) front ∙ (λ i. m.0 i ∷ t.is i) ∙ sym p.is;
    }

-- and back
tail_back :
    (ms : List ℕ) (k : ℕ) (test : ℕ → Bool) → all_masks ms ≡ true → test 0 ≡ true
    → first_wrong k (replicate (length ms) mask_word ++ (λ w. eqb w 0 && test w) ∷ []) (map (word 4) ms ++ 0 ∷ []) ≡ None
tail_back [] k test all ends = goes k (λ w. eqb w 0 && test w) [] 0 [] ends
tail_back (m ∷ ms) k test all ends =
    let p = and_parts (is_mask m) (all_masks ms) all in
    goes k mask_word (replicate (length ms) mask_word ++ (λ w. eqb w 0 && test w) ∷ []) (word 4 m) (map (word 4) ms ++ 0 ∷ []) (mask_back m p.0).1
    ∙ tail_back ms (k + 1) test p.1 ends

-- ---- a row that is read

-- the row is a report's, and its words are those of the report
abbrev Written : List ℕ → Type 0
Written ws = (is_report (report_in ws) ≡ true) × (words (report_in ws) ≡ ws)

written_so :
    (v0 v1 v2 v3 v4 v5 v6 v7 v8 v9 v10 v11 : ℕ) (rest : List ℕ)
    → head v0 ≡ true
    → of 2 24 v1 ≡ true → of 2 24 v2 ≡ true → is_mac (joined v1 v2) ≡ true
    → of 2 24 v3 ≡ true → of 2 24 v4 ≡ true → of 2 24 v5 ≡ true → of 2 24 v6 ≡ true
    → of 3 16 v7 ≡ true → of 3 28 v8 ≡ true → of 3 28 v9 ≡ true → of 3 28 v10 ≡ true → of 3 28 v11 ≡ true
    → is_uuid (gathered v7 v8 v9 v10 v11) ≡ true
    → (g : Bool) → g ≡ gapless (loads (take (min (v0 % 16) 4) rest))
    → Tail (min (v0 % 16) 4) (λ _. g) rest
    → Written (v0 ∷ v1 ∷ v2 ∷ v3 ∷ v4 ∷ v5 ∷ v6 ∷ v7 ∷ v8 ∷ v9 ∷ v10 ∷ v11 ∷ rest)
written_so v0 v1 v2 v3 v4 v5 v6 v7 v8 v9 v10 v11 rest t0 t1 t2 own t3 t4 t5 t6 t7 t8 t9 t10 t11 named g is_g t =
    let ws = v0 ∷ v1 ∷ v2 ∷ v3 ∷ v4 ∷ v5 ∷ v6 ∷ v7 ∷ v8 ∷ v9 ∷ v10 ∷ v11 ∷ rest in
    let r = report_in ws in
    let h = headed v0 t0 in
    let few = h.few in
    let first = h.first in
    let within = h.within in
    let long = t.long in
    let m1 = halves v1 v2 t1 t2 in
    let m2 = halves v3 v4 t3 t4 in
    let m3 = halves v5 v6 t5 t6 in
    let u = fifths v7 v8 v9 v10 v11 t7 t8 t9 t10 t11 in
    let same : word 1 (16 * (v0 / 16 % 16) + length (loads (take (min (v0 % 16) 4) rest))) ≡ v0 = omega (arith, h.is) in
    let macs : macs_fit r ≡ true =
    and_from (is_mac r.mac && is_neighbour r.side1) (is_neighbour r.side2)
    (and_from (is_mac r.mac) (is_neighbour r.side1) own (lt-ltb (joined v3 v4) (2 ^ 48) m2.fits))
    (lt-ltb (joined v5 v6) (2 ^ 48) m3.fits)
    in
    let place : place_fits r ≡ true =
    and_from (leb (length r.masks) 4 && leb 1 r.position) (leb r.position (length r.masks))
    (and_from (leb (length r.masks) 4) (leb 1 r.position) (le-leb (length r.masks) 4 (omega arith)) (le-leb 1 r.position first))
    (le-leb r.position (length r.masks) (omega arith))
    in
    let masks : masks_fit r ≡ true = and_from (all_masks r.masks) (gapless r.masks) t.masks (sym is_g ∙ t.ends) in (
      and_from (macs_fit r && is_uuid r.uuid && place_fits r) (masks_fit r)
          (and_from (macs_fit r && is_uuid r.uuid) (place_fits r) (and_from (macs_fit r) (is_uuid r.uuid) macs named) place) masks,
      (λ i.
          same i
          ∷ m1.high i ∷ m1.low i ∷ m2.high i ∷ m2.low i ∷ m3.high i ∷ m3.low i
          ∷ u.word1 i ∷ u.word2 i ∷ u.word3 i ∷ u.word4 i ∷ u.word5 i ∷ t.is i),
    )

pub read_is_written : (ws : List ℕ) → first_wrong 0 (asked ws) ws ≡ None → Written ws
unfolding Pass
read_is_written ws none =
    let p0 = pass 0 (before ws) (behind ws) ws none in
    let p1 = p0.4 in
    let p2 = p1.4 in
    let p3 = p2.4 in
    let p4 = p3.4 in
    let p5 = p4.4 in
    let p6 = p5.4 in
    let p7 = p6.4 in
    let p8 = p7.4 in
    let p9 = p8.4 in
    let p10 = p9.4 in
    let p11 = p10.4 in
    let rest = p11.1 in
    let row : List ℕ = p0.0 ∷ p1.0 ∷ p2.0 ∷ p3.0 ∷ p4.0 ∷ p5.0 ∷ p6.0 ∷ p7.0 ∷ p8.0 ∷ p9.0 ∷ p10.0 ∷ p11.0 ∷ rest in
    let is : ws ≡ row =
    p0.2 ∙ ap (λ xs. p0.0 ∷ xs) (p1.2 ∙ ap (λ xs. p1.0 ∷ xs) (p2.2 ∙ ap (λ xs. p2.0 ∷ xs) (p3.2 ∙ ap (λ xs. p3.0 ∷ xs)
    (p4.2 ∙ ap (λ xs. p4.0 ∷ xs) (p5.2 ∙ ap (λ xs. p5.0 ∷ xs) (p6.2 ∙ ap (λ xs. p6.0 ∷ xs) (p7.2 ∙ ap (λ xs. p7.0 ∷ xs)
    (p8.2 ∙ ap (λ xs. p8.0 ∷ xs) (p9.2 ∙ ap (λ xs. p9.0 ∷ xs) (p10.2 ∙ ap (λ xs. p10.0 ∷ xs) p11.2))))))))))
    in
    let own = and_parts (of 2 24 p2.0) (is_mac (mac_in 1 ws)) p2.3 in
    let named = and_parts (of 3 28 p11.0) (is_uuid (uuid_in ws)) p11.3 in
    let t = tail (nodes_in ws) 12 (λ _. gapless (masks_in ws)) rest p11.4 in
    subst Written (sym is)
    (written_so p0.0 p1.0 p2.0 p3.0 p4.0 p5.0 p6.0 p7.0 p8.0 p9.0 p10.0 p11.0 rest
    p0.3 p1.3 own.0 (ap (λ xs. is_mac (mac_in 1 xs)) (sym is) ∙ own.1) p3.3 p4.3 p5.3 p6.3
    p7.3 p8.3 p9.3 p10.3 named.0 (ap (λ xs. is_uuid (uuid_in xs)) (sym is) ∙ named.1)
    (gapless (masks_in ws)) (ap (λ xs. gapless (masks_in xs)) is)
    (subst (λ n. Tail n (λ _. gapless (masks_in ws)) rest) (ap nodes_in is) t))

-- ---- a report that is written

facts_macs : (r : Report) → macs_fit r ≡ true → (is_mac r.mac ≡ true) × (r.mac < 2 ^ 48) × (r.side1 < 2 ^ 48) × (r.side2 < 2 ^ 48)
facts_macs r e =
    let a = and_parts (is_mac r.mac && is_neighbour r.side1) (is_neighbour r.side2) e in
    let b = and_parts (is_mac r.mac) (is_neighbour r.side1) a.0 in
    let c = and_parts (leb 1 r.mac) (ltb r.mac (2 ^ 48)) b.0 in
    (b.0, ltb-true r.mac (2 ^ 48) c.1, ltb-true r.side1 (2 ^ 48) b.1, ltb-true r.side2 (2 ^ 48) a.1)

facts_place : (r : Report) → place_fits r ≡ true → (length r.masks ≤ 4) × (1 ≤ r.position) × (r.position ≤ length r.masks)
facts_place r e =
    let a = and_parts (leb (length r.masks) 4 && leb 1 r.position) (leb r.position (length r.masks)) e in
    let b = and_parts (leb (length r.masks) 4) (leb 1 r.position) a.0 in
    (leb-true (length r.masks) 4 b.0, leb-true 1 r.position b.1, leb-true r.position (length r.masks) a.1)

module _ (r : Report) (e : is_report r ≡ true) where
  parts : (macs_fit r ≡ true) × (is_uuid r.uuid ≡ true) × (place_fits r ≡ true) × (masks_fit r ≡ true)
  parts =
      let a = and_parts (macs_fit r && is_uuid r.uuid && place_fits r) (masks_fit r) e in
      let b = and_parts (macs_fit r && is_uuid r.uuid) (place_fits r) a.0 in
      let c = and_parts (macs_fit r) (is_uuid r.uuid) b.0 in
      (c.0, c.1, b.1, a.1)

  named : r.uuid < 2 ^ 128
  named = ltb-true r.uuid (2 ^ 128) (and_parts (leb 1 r.uuid) (ltb r.uuid (2 ^ 128)) parts.1).1

  nodes_back : nodes_in (words r) ≡ length r.masks
  nodes_back = let place = facts_place r parts.2 in omega arith

  masks_back : masks_in (words r) ≡ r.masks
  masks_back =
      let ms = map (word 4) r.masks in
      ap (λ n. loads (take n (ms ++ 0 ∷ []))) nodes_back
      ∙ ap loads (take_at ms (0 ∷ []) (length r.masks) (length-map r.masks (word 4)))
      ∙ loads_back r.masks (and_parts (all_masks r.masks) (gapless r.masks) parts.3).0

  report_back : report_in (words r) ≡ r
  report_back =
      let macs = facts_macs r parts.0 in
      let place = facts_place r parts.2 in
      let mac = mac_back r.mac macs.1 in
      let side1 = mac_back r.side1 macs.2 in
      let side2 = mac_back r.side2 macs.3 in
      let uuid = uuid_back r.uuid named in
      let d : word 1 (16 * r.position + length r.masks) / 16 ≡ 2 ^ 24 + r.position = omega arith in
      let position : position_in (words r) ≡ r.position = ap (λ n. n % 16) d ∙ omega arith in
      (λ i. record { mac = mac i; side1 = side1 i; side2 = side2 i; uuid = uuid i; position = position i; masks = masks_back i })

  none_wrong : first_wrong 0 (asked (words r)) (words r) ≡ None
  none_wrong =
      let ws = words r in
      let macs = facts_macs r parts.0 in
      let place = facts_place r parts.2 in
      let masks = and_parts (all_masks r.masks) (gapless r.masks) parts.3 in
      let u = named in
      let v0 : head (word 1 (16 * r.position + length r.masks)) ≡ true = head_word r.position (length r.masks) place.0 place.1 place.2 in
      let v1 = of_word 2 24 (r.mac / 2 ^ 24) (omega arith) (omega arith) in
      let own : is_mac (mac_in 1 ws) ≡ true = ap is_mac (mac_back r.mac macs.1) ∙ macs.0 in
      let v2 = and_from (of 2 24 (word 2 (r.mac % 2 ^ 24))) (is_mac (mac_in 1 ws)) (of_word 2 24 (r.mac % 2 ^ 24) (omega arith) (omega arith)) own in
      let v3 = of_word 2 24 (r.side1 / 2 ^ 24) (omega arith) (omega arith) in
      let v4 = of_word 2 24 (r.side1 % 2 ^ 24) (omega arith) (omega arith) in
      let v5 = of_word 2 24 (r.side2 / 2 ^ 24) (omega arith) (omega arith) in
      let v6 = of_word 2 24 (r.side2 % 2 ^ 24) (omega arith) (omega arith) in
      let v7 = of_word 3 16 (r.uuid / 2 ^ 112) (omega arith) (omega arith) in
      let v8 = of_word 3 28 (r.uuid / 2 ^ 84 % 2 ^ 28) (omega arith) (omega arith) in
      let v9 = of_word 3 28 (r.uuid / 2 ^ 56 % 2 ^ 28) (omega arith) (omega arith) in
      let v10 = of_word 3 28 (r.uuid / 2 ^ 28 % 2 ^ 28) (omega arith) (omega arith) in
      let last : is_uuid (uuid_in ws) ≡ true = ap is_uuid (uuid_back r.uuid u) ∙ parts.1 in
      let v11 = and_from (of 3 28 (word 3 (r.uuid % 2 ^ 28))) (is_uuid (uuid_in ws)) (of_word 3 28 (r.uuid % 2 ^ 28) (omega arith) (omega arith)) last in
      let ends : gapless (masks_in ws) ≡ true = ap gapless masks_back ∙ masks.1 in
      let rest : first_wrong 12 (behind ws) (map (word 4) r.masks ++ 0 ∷ []) ≡ None =
      ap (λ n. first_wrong 12 (replicate n mask_word ++ end_word ws ∷ []) (map (word 4) r.masks ++ 0 ∷ [])) nodes_back
      ∙ tail_back r.masks 12 (λ _. gapless (masks_in ws)) masks.0 ends
      in
      rw (v0, v1, v2, v3, v4, v5, v6, v7, v8, v9, v10, v11) rest

  pub reads_back : read (words r) ≡ Ok r
  reads_back = ap (λ o. answer o (report_in (words r))) none_wrong ∙ ap Ok report_back

-- ---- both ways

answered : (o : Option WordFault) (r s : Report) → answer o r ≡ Ok s → (o ≡ None) × (r ≡ s)
answered None r s e = (refl, cc)
answered (Some f) r s e = let z : ◌≡◌ {A = ℕ} 0 1 = cc in absurd (let f : ⊥ = omega arith in f)

writes_again : (ws : List ℕ) (r : Report) → read ws ≡ Ok r → (is_report r ≡ true) × (words r ≡ ws)
writes_again ws r e =
    let a = answered (first_wrong 0 (asked ws) ws) (report_in ws) r e in
    let w = read_is_written ws a.0 in
    (ap is_report (sym a.1) ∙ w.0, ap words (sym a.1) ∙ w.1)

refuses : (ws : List ℕ) (f : Refusal) → read ws ≡ Err f → (r : Report) → is_report r ≡ true → words r ≡ ws → ⊥
refuses ws f e r ok is =
    let back : read ws ≡ Ok r = ap read (sym is) ∙ reads_back r ok in
    let z : ◌≡◌ {A = ℕ} 0 1 = cc in
    omega arith

same : (r s : Report) → is_report r ≡ true → is_report s ≡ true → words r ≡ words s → r ≡ s
same r s ok_r ok_s e = let both : Ok r ≡ read (words s) = sym (reads_back r ok_r) ∙ ap read e in let back = reads_back s ok_s in cc

named_place : (j k : ℕ) → garbled j ≡ garbled k → j ≡ k
named_place j k e = ap (λ (f : Refusal). get_or f.1 0 0) e

refused_at : (o : Option WordFault) (r : Report) (k : ℕ) → answer o r ≡ Err (garbled k) → (f : WordFault) × (o ≡ Some f) × (place f ≡ k)
refused_at None r k e = let z : ◌≡◌ {A = ℕ} 0 1 = cc in absurd (let f : ⊥ = omega arith in f)
refused_at (Some (Missing j)) r k e = (Missing j, refl, named_place j k (cc))
refused_at (Some (Wrong j)) r k e = (Wrong j, refl, named_place j k (cc))
refused_at (Some (Extra j)) r k e = (Extra j, refl, named_place j k (cc))

first : (ws : List ℕ) (k : ℕ) → read ws ≡ Err (garbled k) → ((j : ℕ) → j < k → right ws j ≡ true) × (right ws k ≡ false)
first ws k e =
    let a = refused_at (first_wrong 0 (asked ws) ws) (report_in ws) k e in
    let f = found_first 0 (asked ws) ws a.0 a.1 in
    let at : f.after ≡ k = omega (arith, a.2, f.is) in
    ((λ j l. f.right j (omega arith)), ap (right ws) (sym at) ∙ f.wrong)

pub lossless : Lossless
lossless = record { reads_back = reads_back; writes_again = writes_again; first = first; refuses = refuses; same = same }

-- a row that is read has as many masks as its head says, and each is one
pub masks_counted : (ws : List ℕ) → first_wrong 0 (asked ws) ws ≡ None → (nodes_in ws ≡ length (masks_in ws)) × (all_masks (masks_in ws) ≡ true)
masks_counted ws none =
    let w = read_is_written ws none in
    let long : length (masks_in ws) + 13 ≡ length ws =
    omega (arith, ap length w.1, length-append (map (word 4) (masks_in ws)) (0 ∷ []), length-map (masks_in ws) (word 4))
    in
    let cut = length-map (take (nodes_in ws) (drop 12 ws)) (λ w. w % 2 ^ 8) ∙ length-take (nodes_in ws) (drop 12 ws) in
    let left = length-drop 12 ws in
    (omega arith, (and_parts (all_masks (masks_in ws)) (gapless (masks_in ws)) (parts (report_in ws) w.0).3).0)
