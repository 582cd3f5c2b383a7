-- Members of lists, and the first that passes a test. Assumes nothing.
use Rattle.std.proofs.Common.{◌≡◌, ℕ, zero, suc, Bool, true, ◌⊎◌, List, [], ◌∷◌, ◌++◌, map, reverse, take, Some, None, filter, Option, sym, refl, ap, ◌∙◌, inl, inr, ⊎_elim, arith, find, option_map}
use mathlib.Core.List.{reverse_aux}
use Rattle.std.specs.List.{AllByRecursion}
use Rattle.std.proofs.lemmas.Bool.{cases_Bool, cond-true, cond-false}
use Rattle.train.specs.Truth.{In, here, there}

pub in_cases : {A : Type 0} (x y : A) (ys : List A) → In x (y ∷ ys) → (x ≡ y) ⊎ In x ys
in_cases x y ys here = inl refl
in_cases x y ys (there i) = inr i

pub in_single : {A : Type 0} (x y : A) → In x (y ∷ []) → x ≡ y
in_single x y here = refl
in_single x y (there i) = elim i [ ]

pub in_append : {A : Type 0} (x : A) (xs ys : List A) → In x (xs ++ ys) → In x xs ⊎ In x ys
in_append x [] ys h = inr h
in_append x (z ∷ xs) ys here = inl here
in_append x (z ∷ xs) ys (there h) = ⊎_elim (λ a. inl (there a)) (λ b. inr b) (in_append x xs ys h)

pub in_push : {A : Type 0} (x y : A) (xs : List A) → In x (xs ++ y ∷ []) → In x xs ⊎ (x ≡ y)
in_push x y [] here = inr refl
in_push x y [] (there h) = elim h [ ]
in_push x y (z ∷ xs) here = inl here
in_push x y (z ∷ xs) (there h) = ⊎_elim (λ a. inl (there a)) (λ e. inr e) (in_push x y xs h)

pub in_take : {A : Type 0} (x : A) (n : ℕ) (xs : List A) → In x (take n xs) → In x xs
in_take x zero xs h = elim h [ ]
in_take x (suc n) [] h = elim h [ ]
in_take x (suc n) (z ∷ xs) here = here
in_take x (suc n) (z ∷ xs) (there h) = there (in_take x n xs h)

pub carried_some : {A B : Type 0} (f : A → B) (o : Option A) (y : B) → option_map f o ≡ Some y → (x : A) × (o ≡ Some x) × (f x ≡ y)
carried_some f (Some x) y e = (x, refl, cc)
carried_some f None y e = absurd (let z : ◌≡◌ {A = ℕ} 0 1 = cc in let g : ⊥ = omega arith in g)

module _ {A : Type 0} (p : A → Bool) where
  -- what is found is there and passes
  pub first_in : (xs : List A) (x : A) → find p xs ≡ Some x → In x xs × (p x ≡ true)
  first_in [] x e = absurd (let z : ◌≡◌ {A = ℕ} 0 1 = cc in let g : ⊥ = omega arith in g)
  first_in (y ∷ ys) x e =
      ⊎_elim
      (λ on.
      let h = cond-true (p y) (Some y) (find p ys) on in
      let is : x ≡ y = cc in
      rw is (here, on))
      (λ off. let r = first_in ys x (sym (cond-false (p y) (Some y) (find p ys) off) ∙ e) in (there r.0, r.1))
      (cases_Bool (p y))

  -- where something passes, something is found
  pub first_some : (xs : List A) (x : A) → In x xs → p x ≡ true → (y : A) × (find p xs ≡ Some y)
  first_some [] x h on = elim h [ ]
  first_some (z ∷ xs) x here on = (x, cond-true (p x) (Some x) (find p xs) on)
  first_some (z ∷ xs) x (there h) on =
      ⊎_elim (λ e. (z, cond-true (p z) (Some z) (find p xs) e))
      (λ e. let r = first_some xs x h on in (r.0, cond-false (p z) (Some z) (find p xs) e ∙ r.1)) (cases_Bool (p z))

in_aux : {A : Type 0} (x : A) (xs r : List A) → In x (reverse_aux xs r) → In x xs ⊎ In x r
in_aux x [] r i = inr i
in_aux x (y ∷ xs) r i =
    ⊎_elim (λ j. inl (there j)) (λ j. last x y xs r j) (in_aux x xs (y ∷ r) i)
  where
    last : {A : Type 0} (x y : A) (xs r : List A) → In x (y ∷ r) → In x (y ∷ xs) ⊎ In x r
    last x y xs r here = inl here
    last x y xs r (there j) = inr j

pub in_reverse : {A : Type 0} (x : A) (xs : List A) → In x (reverse xs) → In x xs
in_reverse x xs i = ⊎_elim (λ j. j) (λ j. elim j [ ]) (in_aux x xs [] i)

pub all_in : {A : Type 0} (P : A → Type 0) (x : A) (xs : List A) → AllByRecursion P xs → In x xs → P x
all_in P x [] a i = elim i [ ]
all_in P x (y ∷ xs) a here = a.0
all_in P x (y ∷ xs) a (there i) = all_in P x xs a.1 i

pub in_map : {A B : Type 0} (f : A → B) (y : B) (xs : List A) → In y (map f xs) → (x : A) × In x xs × (y ≡ f x)
in_map f y [] i = elim i [ ]
in_map f y (x ∷ xs) here = (x, here, refl)
in_map f y (x ∷ xs) (there i) = let p = in_map f y xs i in (p.0, there p.1, p.2)

pub into_map : {A B : Type 0} (f : A → B) (x : A) (xs : List A) → In x xs → In (f x) (map f xs)
into_map f x [] i = elim i [ ]
into_map f x (y ∷ xs) here = here
into_map f x (y ∷ xs) (there i) = there (into_map f x xs i)

pub kept_all : {A : Type 0} (p : A → Bool) (xs : List A) → ((x : A) → In x xs → p x ≡ true) → filter p xs ≡ xs
kept_all p [] on = refl
kept_all p (x ∷ xs) on =
    cond-true (p x) (x ∷ filter p xs) (filter p xs) (on x here) ∙ ap (λ ys. x ∷ ys) (kept_all p xs (λ y i. on y (there i)))

pub in_left : {A : Type 0} (x : A) (xs ys : List A) → In x xs → In x (xs ++ ys)
in_left x [] ys i = elim i [ ]
in_left x (z ∷ xs) ys here = here
in_left x (z ∷ xs) ys (there i) = there (in_left x xs ys i)

pub in_right : {A : Type 0} (x : A) (xs ys : List A) → In x ys → In x (xs ++ ys)
in_right x [] ys i = i
in_right x (z ∷ xs) ys i = there (in_right x xs ys i)
