-- What an iterator gives in all, from its first items. Assumes nothing.
use Rattle.std.proofs.Common.{◌≡◌, Option, None, Some, List, [], ◌∷◌, refl, sym, ap, ◌∙◌, subst}
use Rattle.std.specs.Iterator.{AlwaysYields}
use Rattle.std.proofs.lemmas.Iterator.{YieldsList}

module _ {S A B : Type 0} (steps : S → Option A → S → Type 0) (v : A → B) where
  next : {s t : S} {a : A} {o : Option A} {ys : List B} → AlwaysYields steps v s ys → steps s o t → o ≡ Some a
      → (zs : List B) × ((ys ≡ v a ∷ zs) × AlwaysYields steps v t zs)
  next {s = s} {t = t} {a = a} {ys = []} r k e = absurd (r a t (subst (λ p. steps s p t) e k))
  next {s = s} {t = t} {a = a} {ys = y ∷ zs} r k e = let m = r.1 a t (subst (λ p. steps s p t) e k) in (zs, (ap (λ z. z ∷ zs) (sym m.0), m.1))

  end : {s t : S} {o : Option A} {ys : List B} → AlwaysYields steps v s ys → steps s o t → o ≡ None → ys ≡ []
  end {ys = []} r k e = refl
  end {s = s} {t = t} {ys = y ∷ zs} r k e = absurd (r.0 t (subst (λ p. steps s p t) e k))

-- four items, and then no other
pub four :
    {S A B : Type 0} {steps : S → Option A → S → Type 0} {v : A → B} {s t u w x y : S} {a b c d : A} {i j k l m : Option A} {ys : List B}
    → YieldsList steps v s ys → steps s i t → i ≡ Some a → steps t j u → j ≡ Some b → steps u k w → k ≡ Some c → steps w l x → l ≡ Some d
    → steps x m y → m ≡ None → ys ≡ v a ∷ v b ∷ v c ∷ v d ∷ []
four {steps = steps} {v = v} {a = a} {b = b} {c = c} {d = d} road p e q f r g n h z o =
    let first = next steps v road.runs p e in
    let second = next steps v first.1.1 q f in
    let third = next steps v second.1.1 r g in
    let fourth = next steps v third.1.1 n h in
    first.1.0 ∙ ap (λ zs. v a ∷ zs) (second.1.0 ∙ ap (λ zs. v b ∷ zs) (third.1.0 ∙ ap (λ zs. v c ∷ zs) (fourth.1.0 ∙ ap (λ zs. v d ∷ zs) (end steps v fourth.1.1 z o))))
