-- Sums over the consists of a line do not depend on its end, nor on who is awake. Assumes nothing.
use Rattle.std.proofs.Common.{◌≡◌, ℕ, ◌+◌, ◌≤◌, List, [], ◌∷◌, map, length, sym, refl, ap, ◌∙◌, subst, ap₂, arith}
use mathlib.Core.List.{reverse_aux}
use Rattle.std.proofs.lemmas.List.{length-map}
use Rattle.report.specs.Masks.{together}
use Rattle.train.specs.Line.{Consist, masks, Line, turn, flip}
use Rattle.train.specs.Rules.{networks, total, set_bits, Within}
use Rattle.train.specs.Rows.{reading}
use Rattle.train.specs.Agreement.{Outline, skeleton}
use Rattle.train.proofs.Reading.{of_reading}

total_rev : (f : Consist → ℕ) (l r : Line) → total f (reverse_aux (map turn l) r) ≡ total f l + total f r
total_rev f [] r = omega arith
total_rev f (s ∷ l) r = omega (arith, total_rev f l (turn s ∷ r))

pub total_flip : (f : Consist → ℕ) (l : Line) → total f (flip l) ≡ total f l
total_flip f l = omega (arith, total_rev f l [])

pub total_reading : (f : Consist → ℕ) (l : Line) → total f (reading l) ≡ total f l
total_reading f l = of_reading (λ k. total f k ≡ total f l) l refl (total_flip f l)

abbrev total_outlines : (List ℕ → ℕ) → List Outline → ℕ
total_outlines g [] = 0
total_outlines g (b ∷ bs) = g b.masks + total_outlines g bs

total_skeleton : (f : Consist → ℕ) (g : List ℕ → ℕ) → ((c : Consist) → f c ≡ g (masks c)) → (l : Line) → total f l ≡ total_outlines g (skeleton l)
total_skeleton f g h [] = refl
total_skeleton f g h (s ∷ l) = ap₂ ◌+◌ (h s.consist) (total_skeleton f g h l)

-- a sum of what the masks of each consist give
pub total_same : (f : Consist → ℕ) (g : List ℕ → ℕ) → ((c : Consist) → f c ≡ g (masks c)) → (l k : Line) → skeleton k ≡ skeleton l → total f k ≡ total f l
total_same f g h l k e = total_skeleton f g h k ∙ ap (total_outlines g) e ∙ sym (total_skeleton f g h l)

pub as_many_masks : (c : Consist) → length c.nodes ≡ length (masks c)
as_many_masks c = sym (length-map c.nodes (λ n. n.mask))

pub within_flip : (l : Line) → Within l → Within (flip l)
within_flip l w = record {
  nodes = subst (λ n. n ≤ 63) (sym (total_flip _ l)) w.nodes;
  networked = subst (λ n. n ≤ 63) (sym (total_flip _ l)) w.networked;
  bits = subst (λ n. n ≤ 128) (sym (total_flip _ l)) w.bits;
}

pub within_same : (l k : Line) → skeleton k ≡ skeleton l → Within l → Within k
within_same l k e w = record {
  nodes = subst (λ n. n ≤ 63) (sym (total_same _ length as_many_masks l k e)) w.nodes;
  networked = subst (λ n. n ≤ 63) (sym (total_same _ (λ ms. length (networks (together ms))) (λ c. refl) l k e)) w.networked;
  bits = subst (λ n. n ≤ 128) (sym (total_same _ set_bits (λ c. refl) l k e)) w.bits;
}
