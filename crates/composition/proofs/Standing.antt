-- The nodes of a consist as they are met from the left. Assumes nothing.
use Rattle.std.proofs.Common.{◌≡◌, ℕ, zero, suc, ◌+◌, ◌-◌, ◌<◌, true, List, [], ◌∷◌, ◌++◌, map, reverse, length, get_or, drop, is_some, Some, None, Option, unwrap_or, sym, refl, ap, ◌∙◌, ap₂, arith}
use mathlib.Core.List.{reverse-cons, reverse-append}
use Rattle.std.specs.Option.{option_map}
use Rattle.std.specs.List.{flat_map}
use Rattle.std.proofs.lemmas.List.{append-nil, append_assoc, at_drop_more, get_or-reverse, length-map, length-reverse}
use Rattle.report.specs.declared.Mac.{Mac}
use Rattle.train.specs.Line.{Way, forward, turned, Node, Consist, Coupled}
use Rattle.train.specs.Truth.{Awake, awake_from, awake_of, first_mac}
use Rattle.train.specs.Rows.{counted}
use Rattle.train.proofs.Flip.{awake_at}
use Rattle.train.proofs.Members.{length_counted}
use Rattle.composition.specs.declared.consist.Node as node
use Rattle.composition.specs.Meaning.{node_means}
use Rattle.composition.specs.Standing.{standing, nobody, woken, awake_in, first_awake, next_mac}
use Rattle.composition.proofs.Steps.{no_node}

joined_append : {A B : Type 0} (f : A → List B) (xs ys : List A) → flat_map f (xs ++ ys) ≡ flat_map f xs ++ flat_map f ys
joined_append f [] ys = refl
joined_append f (x ∷ xs) ys = ap (λ r. f x ++ r) (joined_append f xs ys) ∙ sym (append_assoc (f x) (flat_map f xs) (flat_map f ys))

joined_reverse : {A B : Type 0} (f : A → List B) → ((x : A) → reverse (f x) ≡ f x) → (xs : List A) → reverse (flat_map f xs) ≡ flat_map f (reverse xs)
joined_reverse f h [] = refl
joined_reverse f h (x ∷ xs) =
    reverse-append (f x) (flat_map f xs) ∙ ap₂ ◌++◌ (joined_reverse f h xs) (h x ∙ sym (append-nil (f x))) ∙ sym (joined_append f (reverse xs) (x ∷ []))
    ∙ ap (flat_map f) (sym (reverse-cons x xs))

one_alone : (s : Coupled) (p : ℕ) (o : Option ℕ) → reverse (woken s p o) ≡ woken s p o
one_alone s p (Some m) = refl
one_alone s p None = refl

module _ (c : Consist) (w : Way) where
  abbrev here : Coupled
  here = record { consist = c; way = w }

  rising : (p : ℕ) (ns : List Node) → awake_in here (counted p ns) ≡ awake_from p ns (awake_at c w)
  rising p [] = refl
  rising p (n ∷ ns) = by p ns n.mac (rising (p + 1) ns)
    where
      by : (p : ℕ) (ns : List Node) (o : Option ℕ) → awake_in here (counted (p + 1) ns) ≡ awake_from (p + 1) ns (awake_at c w)
          → woken here p o ++ awake_in here (counted (p + 1) ns)
          ≡ elim o [ Some m ↦ awake_at c w m p ∷ awake_from (p + 1) ns (awake_at c w) | None ↦ awake_from (p + 1) ns (awake_at c w) ]
      by p ns (Some m) e = ap (λ r. awake_at c w m p ∷ r) e
      by p ns None e = e

-- those that are awake
of_way : (c : Consist) (w : Way) → let s : Coupled = record { consist = c; way = w } in awake_in s (standing s) ≡ awake_of s
of_way c forward = rising c forward 1 c.nodes
of_way c turned =
    let s : Coupled = record { consist = c; way = turned } in
    sym (joined_reverse (λ x. woken s x.0 x.1.mac) (λ x. one_alone s x.0 x.1.mac) (counted 1 c.nodes)) ∙ ap reverse (rising c turned 1 c.nodes)

pub standing_awake : (s : Coupled) → awake_in s (standing s) ≡ awake_of s
standing_awake s = of_way s.consist s.way

long_way : (c : Consist) (w : Way) → let s : Coupled = record { consist = c; way = w } in length (standing s) ≡ length c.nodes
long_way c forward = length_counted 1 c.nodes
long_way c turned = length-reverse (counted 1 c.nodes) ∙ length_counted 1 c.nodes

pub length_standing : (s : Coupled) → length (standing s) ≡ length s.consist.nodes
length_standing s = long_way s.consist s.way

-- the node at a step
counted_at : (n k : ℕ) (ns : List node.Node) → k < length ns → (n + k, node_means (get_or ns k no_node)) ≡ get_or (counted n (map node_means ns)) k nobody
counted_at n k [] h = absurd (let z : ⊥ = omega arith in z)
counted_at n zero (x ∷ ns) h = let e : n + 0 ≡ n = omega arith in (λ i. (e i, node_means x))
counted_at n (suc k) (x ∷ ns) h =
    let e : n + suc k ≡ n + 1 + k = omega arith in
    (λ i. (e i, node_means (get_or ns k no_node))) ∙ counted_at (n + 1) k ns (omega arith)

pub forward_at : (ns : List node.Node) (k : ℕ) → k < length ns → (k + 1, node_means (get_or ns k no_node)) ≡ get_or (counted 1 (map node_means ns)) k nobody
forward_at ns k h = let e : k + 1 ≡ 1 + k = omega arith in (λ i. (e i, node_means (get_or ns k no_node))) ∙ counted_at 1 k ns h

pub turned_at : (ns : List node.Node) (k : ℕ) → k < length ns
    → (length ns - 1 - k + 1, node_means (get_or ns (length ns - 1 - k) no_node)) ≡ get_or (reverse (counted 1 (map node_means ns))) k nobody
turned_at ns k h =
    let xs = counted 1 (map node_means ns) in
    let long : length xs ≡ length ns = length_counted 1 (map node_means ns) ∙ length-map ns node_means in
    forward_at ns (length ns - 1 - k) (omega arith) ∙ ap (λ n. get_or xs (n - 1 - k) nobody) (sym long) ∙ sym (get_or-reverse xs k nobody (omega arith))

-- one step on, at a node that is awake or asleep
module _ (s : Coupled) (k : ℕ) (h : k < length (standing s)) where
  pub step_on : (p : ℕ) (o : Option ℕ) → (get_or (standing s) k nobody).0 ≡ p → (get_or (standing s) k nobody).1.mac ≡ o
      → awake_in s (drop k (standing s)) ≡ woken s p o ++ awake_in s (drop (k + 1) (standing s))
  step_on p o e f = at_drop_more (awake_in s) (standing s) k nobody h ∙ (λ i. woken s (e i) (f i) ++ awake_in s (drop (k + 1) (standing s)))

pub found_awake : (s : Coupled) (p : ℕ) (o : Option Mac) (xs : List Awake) → true ≡ is_some o
    → option_map (λ m. m.0) o ≡ first_awake (woken s p (option_map (λ m. m.0) o) ++ xs)
found_awake s p None xs e = let z : ◌≡◌ {A = ℕ} 0 1 = cc in absurd (let n : ⊥ = omega arith in n)
found_awake s p (Some m) xs e = refl

pub first_found : (xs ys : List Awake) (m : ℕ) → Some m ≡ first_awake xs → m ≡ first_mac (xs ++ ys)
first_found [] ys m e = let z : ◌≡◌ {A = ℕ} 0 1 = cc in absurd (let n : ⊥ = omega arith in n)
first_found (a ∷ xs) ys m e = cc

pub none_found : (xs ys : List Awake) → None ≡ first_awake xs → xs ++ ys ≡ ys
none_found [] ys e = refl
none_found (a ∷ xs) ys e = let z : ◌≡◌ {A = ℕ} 0 1 = cc in absurd (let n : ⊥ = omega arith in n)

-- a neighbour found, or else the one behind
pub next_is : (o : Option Mac) (xs : List Awake) (after : Mac) → option_map (λ m. m.0) o ≡ first_awake xs → (unwrap_or o after).0 ≡ next_mac xs after.0
next_is None [] after e = refl
next_is None (a ∷ xs) after e = let z : ◌≡◌ {A = ℕ} 0 1 = cc in absurd (let n : ⊥ = omega arith in n)
next_is (Some m) [] after e = let z : ◌≡◌ {A = ℕ} 0 1 = cc in absurd (let n : ⊥ = omega arith in n)
next_is (Some m) (a ∷ xs) after e = cc
