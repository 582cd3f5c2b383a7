-- Lines that agree give one directory, and keep the same rules on consists. Assumes nothing.
use Rattle.std.proofs.Common.{◌≡◌, ◌≤◌, List, [], ◌∷◌, map, length, sym, refl, ap, ◌∙◌, subst, inl, inr, ⊎_elim}
use mathlib.Core.List.{head-eq_of_cons-eq, tail-eq_of_cons-eq, cons-ne-nil}
use Rattle.std.specs.List.{AllByRecursion}
use Rattle.report.specs.Masks.{gapless}
use Rattle.report.specs.Reports.{Report}
use Rattle.train.specs.Line.{Consist, masks, Line, flip}
use Rattle.train.specs.Truth.{Fits}
use Rattle.train.specs.Rules.{Different, uuids, IsUuid, IsConsist, IsLine, Within}
use Rattle.train.specs.Rows.{reading, met, rows_met, rows}
use Rattle.train.specs.Bytes.{rows_bytes, counter}
use Rattle.counter.specs.Crc.{crc}
use Rattle.train.specs.Agreement.{outline, skeleton, Agree}
use Rattle.train.specs.Theorems.{OneDirectory, Agreement}
use Rattle.train.proofs.Members.{map-map, different_reverse}
use Rattle.train.proofs.Flip.{flip_flip}
use Rattle.train.proofs.Fit.{all_flip, uuids_flip, one_line}
use Rattle.train.proofs.Reading.{reading_flip, rows_flip, flip_outlines, skeleton_flip, met_same, rows_skeleton}
use Rattle.train.proofs.Totals.{as_many_masks, within_flip, within_same}

-- agreement is an equivalence
flip_same : (l k : Line) → skeleton k ≡ skeleton l → skeleton (flip k) ≡ skeleton (flip l)
flip_same l k e = skeleton_flip k ∙ ap flip_outlines e ∙ sym (skeleton_flip l)

flip_back : (l k : Line) → skeleton k ≡ skeleton (flip l) → skeleton (flip k) ≡ skeleton l
flip_back l k e = flip_same (flip l) k e ∙ ap skeleton (flip_flip l)

pub agree_both_ways : (l k : Line) → Agree l k → Agree k l
agree_both_ways l k (inl e) = inl (sym e)
agree_both_ways l k (inr e) = inr (sym (flip_back l k e))

pub agree_onward : (l k j : Line) → Agree l k → Agree k j → Agree l j
agree_onward l k j (inl e) (inl f) = inl (f ∙ e)
agree_onward l k j (inl e) (inr f) = inr (f ∙ flip_same l k e)
agree_onward l k j (inr e) (inl f) = inr (f ∙ e)
agree_onward l k j (inr e) (inr f) = inl (f ∙ flip_back l k e)

-- what holds of a skeleton, and from both ends, holds of lines that agree
pub agreed : (P : Line → Type 0) → ((l k : Line) → skeleton k ≡ skeleton l → P l → P k) → ((l : Line) → P l → P (flip l)) → (l k : Line) → Agree l k → P l → P k
agreed P same flipped l k (inl e) h = same l k e h
agreed P same flipped l k (inr e) h = same (flip l) k e (flipped l h)

consist_same : (c d : Consist) → d.uuid ≡ c.uuid → masks d ≡ masks c → IsConsist c → IsConsist d
consist_same c d u m h =
    let n : length d.nodes ≡ length c.nodes = as_many_masks d ∙ ap length m ∙ sym (as_many_masks c) in
    record {
      named = subst IsUuid (sym u) h.named;
      some_node = subst (λ i. 1 ≤ i) (sym n) h.some_node;
      few_nodes = subst (λ i. i ≤ 4) (sym n) h.few_nodes;
      some_network = subst (AllByRecursion (λ i. (1 ≤ i) × (i ≤ 255))) (sym m) h.some_network;
      no_gap = ap gapless m ∙ h.no_gap;
    }

consists_same : (l k : Line) → skeleton k ≡ skeleton l → AllByRecursion (λ s. IsConsist s.consist) l → AllByRecursion (λ s. IsConsist s.consist) k
consists_same [] [] e h = tt
consists_same [] (t ∷ k) e h = absurd (cons-ne-nil _ _ e)
consists_same (s ∷ l) [] e h = tt
consists_same (s ∷ l) (t ∷ k) e h =
    let b = head-eq_of_cons-eq e in
    (consist_same s.consist t.consist (ap (λ o. o.uuid) b) (ap (λ o. o.masks) b) h.0, consists_same l k (tail-eq_of_cons-eq e) h.1)

uuids_same : (l k : Line) → skeleton k ≡ skeleton l → Different (uuids l) → Different (uuids k)
uuids_same l k e d = subst Different (sym (map-map _ outline l) ∙ ap (map (λ o. o.uuid)) (sym e) ∙ map-map _ outline k) d

pub agreement : Agreement
agreement = record {
  itself = λ l. inl refl;
  both_ways = agree_both_ways;
  onward = agree_onward;
  limits = agreed Within within_same within_flip;
  consists = agreed (λ l. AllByRecursion (λ s. IsConsist s.consist) l) consists_same (λ l h. all_flip (λ s. IsConsist s.consist) (λ s k. k) l h);
  own_uuids = agreed (λ l. Different (uuids l)) uuids_same (λ l d. subst Different (sym (uuids_flip l)) (different_reverse (uuids l) d));
}

with_counter : (l k : Line) → rows k ≡ rows l → (rows k ≡ rows l) × (counter k ≡ counter l)
with_counter l k e = (e, ap (λ rs. crc (rows_bytes rs)) e)

pub met_agree : (l k : Line) → IsLine l → Agree l k → met (reading k) ≡ met (reading l)
met_agree l k h (inl e) = met_same l k e
met_agree l k h (inr e) = met_same (flip l) k e ∙ ap met (reading_flip l h.own_uuids)

pub rows_agree : (l k : Line) → IsLine l → Agree l k → rows k ≡ rows l
rows_agree l k h a = ap rows_met (met_agree l k h a)

pub fits_agree : (held : List Report) (l k : Line) → IsLine l → IsLine k → Fits l held → Fits k held → Agree l k
fits_agree held l k hl hk fl fk = ⊎_elim (λ e. inl (ap skeleton e)) (λ e. inr (ap skeleton e)) (one_line held l k hl hk fl fk)

pub one_directory : OneDirectory
one_directory = record {
  either_end = rows_flip;
  skeleton_alone = rows_skeleton;
  same_nodes = met_agree;
  agreeing = λ l k h a. with_counter l k (rows_agree l k h a);
  fitting = λ held l k hl hk fl fk. with_counter l k (rows_agree l k hl (fits_agree held l k hl hk fl fk));
}
