-- The tests of a row by their places. Assumes nothing.
use Rattle.std.proofs.Common.{◌≡◌, ℕ, ◌+◌, ◌-◌, ◌<◌, ◌≤◌, false, ◌&&◌, List, [], ◌∷◌, length, get_or, replicate, sym, ap, ◌∙◌, ⊎_elim, arith}
use Rattle.std.proofs.lemmas.List.{get_or-drop, get_or_append_left, get_or-replicate, get_or_at, get_or_past, length-replicate, length-append}
use Rattle.std.proofs.lemmas.Bool.{cases_lt}
use Rattle.report.specs.Reports.{is_mac, is_uuid}
use Rattle.report.specs.Reading.{nodes_in, mac_in, uuid_in, of, mask_word, end_word, behind, asked, test_at}

pub length_asked : (ws : List ℕ) → length (asked ws) ≡ 13 + nodes_in ws
length_asked ws =
    omega (arith, length-append (replicate (nodes_in ws) mask_word) (end_word ws ∷ []), length-replicate (nodes_in ws) mask_word)

module _ (ws : List ℕ) (k w : ℕ) where
  pub own_at : k ≡ 2 → test_at ws k w ≡ (of 2 24 w && is_mac (mac_in 1 ws))
  own_at e = ap (λ j. test_at ws j w) e

  pub part_at : 8 ≤ k → k ≤ 10 → test_at ws k w ≡ of 3 28 w
  part_at low high =
      ⊎_elim (λ l. let e : k ≡ 8 = omega arith in ap (λ j. test_at ws j w) e)
      (λ l. ⊎_elim (λ m. let e : k ≡ 9 = omega arith in ap (λ j. test_at ws j w) e) (λ m. let e : k ≡ 10 = omega arith in ap (λ j. test_at ws j w) e) (cases_lt k 10))
      (cases_lt k 9)

  pub last_at : k ≡ 11 → test_at ws k w ≡ (of 3 28 w && is_uuid (uuid_in ws))
  last_at e = ap (λ j. test_at ws j w) e

  from_12 : 12 ≤ k → test_at ws k w ≡ get_or (behind ws) (k - 12) (λ _. false) w
  from_12 h =
      let e : k ≡ 12 + (k - 12) = omega arith in
      ap (λ j. test_at ws j w) e ∙ ap (λ f. f w) (sym (get_or-drop 12 (asked ws) (k - 12) (λ _. false)))

  pub mask_at : 12 ≤ k → k < 12 + nodes_in ws → test_at ws k w ≡ mask_word w
  mask_at h l =
      let n = nodes_in ws in
      let inside : k - 12 < length (replicate n mask_word) = omega (arith, length-replicate n mask_word) in
      from_12 h
      ∙ ap (λ f. f w) (get_or_append_left (replicate n mask_word) (end_word ws ∷ []) (λ _. false) (k - 12) inside ∙ get_or-replicate n (k - 12) mask_word (λ _. false) (omega arith))

  pub end_at : k ≡ 12 + nodes_in ws → test_at ws k w ≡ end_word ws w
  end_at e =
      let n = nodes_in ws in
      let long : length (replicate n mask_word) ≡ k - 12 = length-replicate n mask_word ∙ omega arith in
      from_12 (omega arith) ∙ ap (λ f. f w) (get_or_at (replicate n mask_word) (end_word ws) [] (λ _. false) (k - 12) long)

  pub past_at : 12 + nodes_in ws < k → test_at ws k w ≡ false
  past_at h = ap (λ f. f w) (get_or_past (asked ws) k (λ _. false) (omega (arith, length_asked ws)))
