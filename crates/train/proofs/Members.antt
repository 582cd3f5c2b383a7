-- Lists: what is in them, and when their elements differ. Assumes nothing.
use Rattle.std.proofs.Common.{◌≡◌, ℕ, suc, ◌+◌, ◌<◌, ◌≤◌, Bool, true, false, cond, ◌⊎◌, List, [], ◌∷◌, ◌++◌, map, reverse, length, filter, sym, refl, ap, ◌∙◌, subst, ap₂, inl, inr, ⊎_elim, arith}
use mathlib.Core.Bool.{false≢true}
use mathlib.Core.List.{reverse_aux, reverse-cons, reverse-reverse, map-append}
use Rattle.std.specs.List.{flat_map, AllByRecursion}
use Rattle.std.proofs.ByRecursion.{All-append, All-weaker, All-map}
use Rattle.std.proofs.lemmas.Bool.{cases_eq}
use Rattle.train.specs.Truth.{In, here, there}
use Rattle.train.specs.Rules.{Different}
use Rattle.train.specs.Rows.{counted}
use Rattle.train.specs.Numbers.{RunsTo}

-- maps
map_reverse_aux : {A B : Type 0} (f : A → B) (xs r : List A) → map f (reverse_aux xs r) ≡ reverse_aux (map f xs) (map f r)
map_reverse_aux f [] r = refl
map_reverse_aux f (x ∷ xs) r = map_reverse_aux f xs (x ∷ r)

pub map_reverse : {A B : Type 0} (f : A → B) (xs : List A) → map f (reverse xs) ≡ reverse (map f xs)
map_reverse f xs = map_reverse_aux f xs []

pub map-map : {A B C : Type 0} (f : B → C) (g : A → B) (xs : List A) → map f (map g xs) ≡ map (λ x. f (g x)) xs
map-map f g [] = refl
map-map f g (x ∷ xs) = ap (λ r. f (g x) ∷ r) (map-map f g xs)

pub map_twice : {A : Type 0} (f : A → A) → ((x : A) → f (f x) ≡ x) → (xs : List A) → map f (map f xs) ≡ xs
map_twice f e [] = refl
map_twice f e (x ∷ xs) = ap₂ ◌∷◌ (e x) (map_twice f e xs)

pub map_joined : {A B C : Type 0} (f : B → C) (g : A → List B) (xs : List A) → map f (flat_map g xs) ≡ flat_map (λ x. map f (g x)) xs
map_joined f g [] = refl
map_joined f g (x ∷ xs) = map-append f (g x) (flat_map g xs) ∙ ap (λ r. map f (g x) ++ r) (map_joined f g xs)

-- what is in a list
pub not_in : {A : Type 0} (x : A) → In x [] → ⊥
not_in x i = elim i [ ]

pub in_cases : {A : Type 0} (x y : A) (ys : List A) → In x (y ∷ ys) → (x ≡ y) ⊎ In x ys
in_cases x y ys here = inl refl
in_cases x y ys (there i) = inr i

pub in_left : {A : Type 0} (x : A) (xs ys : List A) → In x xs → In x (xs ++ ys)
in_left x xs ys here = here
in_left x xs ys (there {xs = zs} i) = there (in_left x zs ys i)

pub in_right : {A : Type 0} (x : A) (xs ys : List A) → In x ys → In x (xs ++ ys)
in_right x [] ys i = i
in_right x (y ∷ xs) ys i = there (in_right x xs ys i)

pub of_append : {A : Type 0} (x : A) (xs ys : List A) → In x (xs ++ ys) → In x xs ⊎ In x ys
of_append x [] ys i = inr i
of_append x (y ∷ xs) ys i =
    ⊎_elim (λ e. inl (subst (λ z. In z (y ∷ xs)) (sym e) here)) (λ j. ⊎_elim (λ k. inl (there k)) (λ k. inr k) (of_append x xs ys j)) (in_cases x y (xs ++ ys) i)

pub in_reverse : {A : Type 0} (x : A) (xs : List A) → In x xs → In x (reverse xs)
in_reverse x xs (here {xs = zs}) = subst (λ r. In x r) (sym (reverse-cons x zs)) (in_right x (reverse zs) _ here)
in_reverse x xs (there {y} {xs = zs} i) = subst (λ r. In x r) (sym (reverse-cons y zs)) (in_left x (reverse zs) _ (in_reverse x zs i))

pub of_reverse : {A : Type 0} (x : A) (xs : List A) → In x (reverse xs) → In x xs
of_reverse x xs i = subst (λ r. In x r) (reverse-reverse xs) (in_reverse x (reverse xs) i)

pub in_map : {A B : Type 0} (f : A → B) (x : A) (xs : List A) → In x xs → In (f x) (map f xs)
in_map f x xs here = here
in_map f x xs (there {xs = ys} i) = there (in_map f x ys i)

pub of_map : {A B : Type 0} (f : A → B) (y : B) (xs : List A) → In y (map f xs) → (x : A) × In x xs × (y ≡ f x)
of_map f y [] i = absurd (not_in y i)
of_map f y (x ∷ xs) i = ⊎_elim (λ e. (x, here, e)) (λ j. let r = of_map f y xs j in (r.0, there r.1, r.2)) (in_cases y (f x) (map f xs) i)

pub in_joined : {A B : Type 0} (f : A → List B) (x : A) (y : B) (xs : List A) → In x xs → In y (f x) → In y (flat_map f xs)
in_joined f x y xs (here {xs = zs}) j = in_left y (f x) (flat_map f zs) j
in_joined f x y xs (there {y = z} {xs = zs} i) j = in_right y (f z) (flat_map f zs) (in_joined f x y zs i j)

pub of_joined : {A B : Type 0} (f : A → List B) (y : B) (xs : List A) → In y (flat_map f xs) → (x : A) × In x xs × In y (f x)
of_joined f y [] i = absurd (not_in y i)
of_joined f y (x ∷ xs) i =
    ⊎_elim (λ j. (x, here, j)) (λ j. let r = of_joined f y xs j in (r.0, there r.1, r.2)) (of_append y (f x) (flat_map f xs) i)

pub of_kept : {A : Type 0} (p : A → Bool) (x : A) (xs : List A) → In x (filter p xs) → In x xs × (p x ≡ true)
of_kept p x [] i = absurd (not_in x i)
of_kept p x (y ∷ xs) i = go (p y) refl i (of_kept p x xs)
  where
    go : (b : Bool) → p y ≡ b → In x (cond b (y ∷ filter p xs) (filter p xs)) → (In x (filter p xs) → In x xs × (p x ≡ true)) → In x (y ∷ xs) × (p x ≡ true)
    go true e i ih = ⊎_elim (λ k. (subst (λ z. In z (y ∷ xs)) (sym k) here, ap p k ∙ e)) (λ j. let r = ih j in (there r.0, r.1)) (in_cases x y (filter p xs) i)
    go false e i ih = let r = ih i in (there r.0, r.1)

pub in_kept : {A : Type 0} (p : A → Bool) (x : A) (xs : List A) → In x xs → p x ≡ true → In x (filter p xs)
in_kept p x [] i e = absurd (not_in x i)
in_kept p x (y ∷ xs) i e = go (p y) refl (in_cases x y xs i) (λ j. in_kept p x xs j e)
  where
    go : (b : Bool) → p y ≡ b → (x ≡ y) ⊎ In x xs → (In x xs → In x (filter p xs)) → In x (cond b (y ∷ filter p xs) (filter p xs))
    go true q (inl k) ih = subst (λ z. In z (y ∷ filter p xs)) (sym k) here
    go true q (inr j) ih = there (ih j)
    go false q (inl k) ih = absurd (false≢true (sym q ∙ ap p (sym k) ∙ e))
    go false q (inr j) ih = ih j

-- what holds of each element
pub all_in : {A : Type 0} (P : A → Type 0) (x : A) (xs : List A) → In x xs → AllByRecursion P xs → P x
all_in P x xs here h = h.0
all_in P x xs (there {xs = ys} i) h = all_in P x ys i h.1

pub all_from_in : {A : Type 0} (P : A → Type 0) (xs : List A) → ((x : A) → In x xs → P x) → AllByRecursion P xs
all_from_in P [] h = tt
all_from_in P (x ∷ xs) h = (h x here, all_from_in P xs (λ y i. h y (there i)))

all_reverse_aux : {A : Type 0} (P : A → Type 0) (xs r : List A) → AllByRecursion P xs → AllByRecursion P r → AllByRecursion P (reverse_aux xs r)
all_reverse_aux P [] r h k = k
all_reverse_aux P (x ∷ xs) r h k = all_reverse_aux P xs (x ∷ r) h.1 (h.0, k)

pub all_reverse : {A : Type 0} (P : A → Type 0) (xs : List A) → AllByRecursion P xs → AllByRecursion P (reverse xs)
all_reverse P xs h = all_reverse_aux P xs [] h tt

-- numbered elements
pub counted_cases : {A : Type 0} (n k : ℕ) (x y : A) (xs : List A) → In (k, x) (counted n (y ∷ xs)) → ((k ≡ n) × (x ≡ y)) ⊎ In (k, x) (counted (n + 1) xs)
counted_cases n k x y xs i = ⊎_elim (λ e. inl (ap (λ p. p.0) e, ap (λ p. p.1) e)) (λ j. inr j) (in_cases (k, x) (n, y) (counted (n + 1) xs) i)

pub of_counted : {A : Type 0} (n k : ℕ) (x : A) (xs : List A) → In (k, x) (counted n xs) → (n ≤ k) × (k < n + length xs)
of_counted n k x [] i = absurd (not_in (k, x) i)
of_counted n k x (y ∷ xs) i =
    ⊎_elim (λ e. (omega (arith, e.0), omega (arith, e.0))) (λ j. let r = of_counted (n + 1) k x xs j in (omega (arith, r.0), omega (arith, r.1)))
    (counted_cases n k x y xs i)

pub in_counted : {A : Type 0} (n k : ℕ) (xs : List A) → n ≤ k → k < n + length xs → (x : A) × In (k, x) (counted n xs)
in_counted n k [] h j = absurd (omega arith)
in_counted n k (y ∷ xs) h j =
    ⊎_elim (λ e. (y, subst (λ m. In (m, y) (counted n (y ∷ xs))) (sym e) here))
    (λ d. let r = in_counted (n + 1) k xs (omega arith) (omega arith) in (r.0, there r.1)) (cases_eq k n)

pub counted_in : {A : Type 0} (n k : ℕ) (x : A) (xs : List A) → In (k, x) (counted n xs) → In x xs
counted_in n k x [] i = absurd (not_in (k, x) i)
counted_in n k x (y ∷ xs) i =
    ⊎_elim (λ e. subst (λ z. In z (y ∷ xs)) (sym e.1) here) (λ j. there (counted_in (n + 1) k x xs j)) (counted_cases n k x y xs i)

pub some_count : {A : Type 0} (x : A) (n : ℕ) (xs : List A) → In x xs → (k : ℕ) × In (k, x) (counted n xs)
some_count x n xs here = (n, here)
some_count x n xs (there {xs = ys} i) = let r = some_count x (n + 1) ys i in (r.0, there r.1)

pub counted_elements : {A : Type 0} (n : ℕ) (xs : List A) → map (λ p. p.1) (counted n xs) ≡ xs
counted_elements n [] = refl
counted_elements n (x ∷ xs) = ap (λ r. x ∷ r) (counted_elements (n + 1) xs)

pub length_counted : {A : Type 0} (n : ℕ) (xs : List A) → length (counted n xs) ≡ length xs
length_counted n [] = refl
length_counted n (x ∷ xs) = ap suc (length_counted (n + 1) xs)

-- the numbers run from 1 to the length
pub counted_run : {A : Type 0} (xs : List A) → RunsTo (length xs) (map (λ p. p.0) (counted 1 xs))
counted_run xs = record {
  between = λ k i.
      let p = of_map (λ q. q.0) k (counted 1 xs) i in
      let b = of_counted 1 p.0.0 p.0.1 xs p.1 in
      (omega (arith, p.2, b.0), omega (arith, p.2, b.1));
  each = λ k h j. let p = in_counted 1 k xs h (omega arith) in in_map (λ q. q.0) (k, p.0) (counted 1 xs) p.1;
}

-- lists whose elements differ
pub different_append : {A : Type 0} (xs ys : List A) → Different xs → Different ys → AllByRecursion (λ x. AllByRecursion (λ y. x ≡ y → ⊥) ys) xs → Different (xs ++ ys)
different_append [] ys d e h = e
different_append (x ∷ xs) ys d e h = (All-append (λ z. x ≡ z → ⊥) xs ys d.0 h.0, different_append xs ys d.1 e h.1)

pub different_reverse : {A : Type 0} (xs : List A) → Different xs → Different (reverse xs)
different_reverse [] d = tt
different_reverse (x ∷ xs) d =
    subst Different (sym (reverse-cons x xs))
    (different_append (reverse xs) (x ∷ []) (different_reverse xs d.1) (tt, tt)
    (All-weaker _ _ (λ y n. (λ e. n (sym e), tt)) (reverse xs) (all_reverse (λ y. x ≡ y → ⊥) xs d.0)))

pub different_kept : {A : Type 0} (p : A → Bool) (xs : List A) → Different xs → Different (filter p xs)
different_kept p [] d = tt
different_kept p (x ∷ xs) d = go (p x) (different_kept p xs d.1)
  where
    go : (b : Bool) → Different (filter p xs) → Different (cond b (x ∷ filter p xs) (filter p xs))
    go true ih = (all_from_in _ (filter p xs) (λ y i. all_in (λ z. x ≡ z → ⊥) y xs (of_kept p y xs i).0 d.0), ih)
    go false ih = ih

pub different_map : {A B : Type 0} (f : A → B) → ((x y : A) → f x ≡ f y → x ≡ y) → (xs : List A) → Different xs → Different (map f xs)
different_map f h [] d = tt
different_map f h (x ∷ xs) d = (All-map (λ z. f x ≡ z → ⊥) f xs (All-weaker _ _ (λ y n e. n (h x y e)) xs d.0), different_map f h xs d.1)

pub different_counted : {A : Type 0} (n : ℕ) (xs : List A) → Different (map (λ p. p.0) (counted n xs))
different_counted n [] = tt
different_counted n (x ∷ xs) = (
  All-map (λ k. n ≡ k → ⊥) (λ p. p.0) (counted (n + 1) xs)
      (all_from_in _ (counted (n + 1) xs) (λ p i e. omega (arith, (of_counted (n + 1) p.0 p.1 xs i).0))),
  different_counted (n + 1) xs,
)

pub one_element : {A : Type 0} (n k : ℕ) (x y : A) (xs : List A) → In (k, x) (counted n xs) → In (k, y) (counted n xs) → x ≡ y
one_element n k x y [] i j = absurd (not_in (k, x) i)
one_element n k x y (z ∷ xs) i j = go (counted_cases n k x z xs i) (counted_cases n k y z xs j) (one_element (n + 1) k x y xs)
  where
    go : ((k ≡ n) × (x ≡ z)) ⊎ In (k, x) (counted (n + 1) xs) → ((k ≡ n) × (y ≡ z)) ⊎ In (k, y) (counted (n + 1) xs)
        → (In (k, x) (counted (n + 1) xs) → In (k, y) (counted (n + 1) xs) → x ≡ y) → x ≡ y
    go (inl e) (inl f) ih = e.1 ∙ sym f.1
    go (inl e) (inr j) ih = absurd (omega (arith, e.0, (of_counted (n + 1) k y xs j).0))
    go (inr i) (inl f) ih = absurd (omega (arith, f.0, (of_counted (n + 1) k x xs i).0))
    go (inr i) (inr j) ih = ih i j

pub one_count : {A : Type 0} (n j k : ℕ) (x : A) (xs : List A) → Different xs → In (j, x) (counted n xs) → In (k, x) (counted n xs) → j ≡ k
one_count n j k x [] d a b = absurd (not_in (j, x) a)
one_count n j k x (z ∷ xs) d a b = go (counted_cases n j x z xs a) (counted_cases n k x z xs b) (one_count (n + 1) j k x xs d.1)
  where
    twice : (i : ℕ) → x ≡ z → In (i, x) (counted (n + 1) xs) → ⊥
    twice i e h = all_in (λ y. z ≡ y → ⊥) x xs (counted_in (n + 1) i x xs h) d.0 (sym e)

    go : ((j ≡ n) × (x ≡ z)) ⊎ In (j, x) (counted (n + 1) xs) → ((k ≡ n) × (x ≡ z)) ⊎ In (k, x) (counted (n + 1) xs)
        → (In (j, x) (counted (n + 1) xs) → In (k, x) (counted (n + 1) xs) → j ≡ k) → j ≡ k
    go (inl e) (inl f) ih = e.0 ∙ sym f.0
    go (inl e) (inr h) ih = absurd (twice k e.1 h)
    go (inr h) (inl f) ih = absurd (twice j f.1 h)
    go (inr h) (inr g) ih = ih h g

-- different elements of a list are no more than its length
without : {A : Type 0} (x : A) (ys : List A) → In x ys → List A
without x ys (here {xs}) = xs
without x ys (there {y} {xs} i) = y ∷ without x xs i

length_without : {A : Type 0} (x : A) (ys : List A) (i : In x ys) → length ys ≡ suc (length (without x ys i))
unfolding without
length_without x ys here = refl
length_without x ys (there {xs} i) = ap suc (length_without x xs i)

in_without : {A : Type 0} (x y : A) (ys : List A) (i : In x ys) → In y ys → (x ≡ y → ⊥) → In y (without x ys i)
unfolding without
in_without x y ys (here {xs}) j d = ⊎_elim (λ e. absurd (d (sym e))) (λ k. k) (in_cases y x xs j)
in_without x y ys (there {y = z} {xs} i) j d =
    ⊎_elim (λ e. subst (λ w. In w (z ∷ without x xs i)) (sym e) here) (λ k. there (in_without x y xs i k d)) (in_cases y z xs j)

pub no_more : {A : Type 0} (xs ys : List A) → Different xs → ((x : A) → In x xs → In x ys) → length xs ≤ length ys
no_more [] ys d h = omega arith
no_more (x ∷ xs) ys d h =
    let i = h x here in
    omega (arith, length_without x ys i, no_more xs (without x ys i) d.1 (λ y j. in_without x y ys i (h y (there j)) (all_in (λ z. x ≡ z → ⊥) y xs j d.0)))
