-- The line with a late node agrees with the line before, and whoever was awake still is. Assumes nothing.
use Rattle.std.proofs.Common.{◌≡◌, ℕ, ◌+◌, ◌⊎◌, List, [], ◌∷◌, ◌++◌, map, Some, None, Option, sym, refl, ap, ◌∙◌, subst, inl, inr, ⊎_elim, arith}
use mathlib.Core.List.{map-append}
use Rattle.train.specs.Line.{Way, forward, turned, Node, Consist, Line}
use Rattle.train.specs.Truth.{Awake, awake_from, awake_of, awake, In, here, there}
use Rattle.train.specs.Rules.{macs}
use Rattle.train.specs.Agreement.{outline, skeleton, Agree}
use Rattle.train.proofs.Members.{map_reverse, not_in, in_cases, in_left, in_right, of_append, in_reverse, of_reverse}
use Rattle.train.proofs.Flip.{awake_at, awake_up}
use Rattle.fitting.specs.LateNode.{LateNode, its_consist, line_before, line_after}

-- the masks do not tell who is awake
same_masks : (mask : ℕ) (a b : Option ℕ) (before behind : List Node)
    → map (λ n. n.mask) (before ++ record { mask = mask; mac = a } ∷ behind) ≡ map (λ n. n.mask) (before ++ record { mask = mask; mac = b } ∷ behind)
same_masks mask a b [] behind = refl
same_masks mask a b (n ∷ ns) behind = ap (λ r. n.mask ∷ r) (same_masks mask a b ns behind)

pub late_agrees : (n : LateNode) → Agree (line_before n) (line_after n)
late_agrees n = inl (go n.left)
  where
    go : (l : Line) → skeleton (l ++ its_consist n (Some n.mac) ∷ n.right) ≡ skeleton (l ++ its_consist n None ∷ n.right)
    go [] = ap (λ ms. record { uuid = n.uuid; masks = ms; way = n.way } ∷ skeleton n.right) (same_masks n.mask (Some n.mac) None n.before n.behind)
    go (s ∷ l) = ap (λ r. outline s ∷ r) (go l)

-- the MACs of the nodes that are awake
abbrev macs_of : List Node → List (Option ℕ)
macs_of ns = map (λ n. n.mac) ns

module _ (m : ℕ) (f : ℕ → ℕ → Awake) (its_mac : (x p : ℕ) → (f x p).mac ≡ x) where
  awake_node : (p : ℕ) (ns : List Node) → In m (macs (awake_from p ns f)) → In (Some m) (macs_of ns)
  awake_node p [] i = absurd (not_in m i)
  awake_node p (n ∷ ns) i = go n.mac (awake_node (p + 1) ns) i
    where
      go : (o : Option ℕ) → (In m (macs (awake_from (p + 1) ns f)) → In (Some m) (macs_of ns))
          → In m (macs (awake_from p (record { mask = n.mask; mac = o } ∷ ns) f)) → In (Some m) (o ∷ macs_of ns)
      go None ih i = there (ih i)
      go (Some x) ih i =
          ⊎_elim (λ e. subst (λ y. In (Some m) (Some y ∷ macs_of ns)) (e ∙ its_mac x p) here) (λ j. there (ih j))
          (in_cases m (f x p).mac (macs (awake_from (p + 1) ns f)) i)

  node_awake : (p : ℕ) (ns : List Node) → In (Some m) (macs_of ns) → In m (macs (awake_from p ns f))
  node_awake p [] i = absurd (not_in (Some m) i)
  node_awake p (n ∷ ns) i = go n.mac (node_awake (p + 1) ns) (in_cases (Some m) n.mac (macs_of ns) i)
    where
      go : (o : Option ℕ) → (In (Some m) (macs_of ns) → In m (macs (awake_from (p + 1) ns f))) → (Some m ≡ o) ⊎ In (Some m) (macs_of ns)
          → In m (macs (awake_from p (record { mask = n.mask; mac = o } ∷ ns) f))
      go None ih (inl e) = absurd (let z : ◌≡◌ {A = ℕ} 0 1 = cc in omega arith)
      go None ih (inr j) = ih j
      go (Some x) ih (inl e) = let same : m ≡ x = cc in subst (λ y. In m (y ∷ macs (awake_from (p + 1) ns f))) (same ∙ sym (its_mac x p)) here
      go (Some x) ih (inr j) = there (ih j)

consist_node : (m : ℕ) (c : Consist) (w : Way) → In m (macs (awake_of (record { consist = c; way = w }))) → In (Some m) (macs_of c.nodes)
consist_node m c forward i = awake_node m (awake_at c forward) (λ x p. refl) 1 c.nodes i
consist_node m c turned i =
    awake_node m (awake_at c turned) (λ x p. refl) 1 c.nodes (of_reverse m _ (subst (In m) (map_reverse (λ a. a.mac) (awake_up c turned)) i))

node_consist : (m : ℕ) (c : Consist) (w : Way) → In (Some m) (macs_of c.nodes) → In m (macs (awake_of (record { consist = c; way = w })))
node_consist m c forward i = node_awake m (awake_at c forward) (λ x p. refl) 1 c.nodes i
node_consist m c turned i =
    subst (In m) (sym (map_reverse (λ a. a.mac) (awake_up c turned))) (in_reverse m _ (node_awake m (awake_at c turned) (λ x p. refl) 1 c.nodes i))

wakes_one : (m x mask : ℕ) (before behind : List Node) → In (Some m) (macs_of (before ++ record { mask = mask; mac = None } ∷ behind))
    → In (Some m) (macs_of (before ++ record { mask = mask; mac = Some x } ∷ behind))
wakes_one m x mask [] behind i = ⊎_elim (λ e. absurd (let z : ◌≡◌ {A = ℕ} 0 1 = cc in omega arith)) (λ j. there j) (in_cases (Some m) None (macs_of behind) i)
wakes_one m x mask (n ∷ ns) behind i =
    ⊎_elim (λ e. subst (λ o. In (Some m) (o ∷ macs_of (ns ++ record { mask = mask; mac = Some x } ∷ behind))) e here)
    (λ j. there (wakes_one m x mask ns behind j)) (in_cases (Some m) n.mac _ i)

pub still_awake : (m : ℕ) (n : LateNode) → In m (macs (awake (line_before n))) → In m (macs (awake (line_after n)))
still_awake m n i = go n.left i
  where
    both : (xs ys zs ws : List Awake) → (In m (macs xs) → In m (macs ys)) → (In m (macs zs) → In m (macs ws)) → In m (macs (xs ++ zs)) → In m (macs (ys ++ ws))
    both xs ys zs ws f g j =
        subst (In m) (sym (map-append (λ a. a.mac) ys ws))
        (⊎_elim (λ k. in_left m (macs ys) (macs ws) (f k)) (λ k. in_right m (macs ys) (macs ws) (g k))
        (of_append m (macs xs) (macs zs) (subst (In m) (map-append (λ a. a.mac) xs zs) j)))

    its : In m (macs (awake_of (its_consist n None))) → In m (macs (awake_of (its_consist n (Some n.mac))))
    its j =
        node_consist m (its_consist n (Some n.mac)).consist n.way
        (wakes_one m n.mac n.mask n.before n.behind (consist_node m (its_consist n None).consist n.way j))

    go : (l : Line) → In m (macs (awake (l ++ its_consist n None ∷ n.right))) → In m (macs (awake (l ++ its_consist n (Some n.mac) ∷ n.right)))
    go [] j = both (awake_of (its_consist n None)) (awake_of (its_consist n (Some n.mac))) (awake n.right) (awake n.right) its (λ k. k) j
    go (s ∷ l) j = both (awake_of s) (awake_of s) (awake (l ++ its_consist n None ∷ n.right)) (awake (l ++ its_consist n (Some n.mac) ∷ n.right)) (λ k. k) (go l) j
