-- Two lines with the same awake nodes are one line. Assumes nothing.
use Rattle.std.proofs.Common.{◌≡◌, ℕ, ◌+◌, ◌≤◌, List, [], ◌∷◌, ◌++◌, map, reverse, length, Some, None, Option, sym, refl, ap, ◌∙◌, subst, ap₂, arith}
use mathlib.Core.List.{reverse-reverse, head-eq_of_cons-eq, tail-eq_of_cons-eq, cons-ne-nil}
use Rattle.std.specs.List.{AllByRecursion}
use Rattle.std.proofs.ByRecursion.{All-append, All-weaker}
use Rattle.train.specs.Line.{Way, forward, turned, Node, Consist, masks, Coupled, Line}
use Rattle.train.specs.Truth.{Awake, awake_from, awake_of, awake}
use Rattle.train.specs.Rules.{Different, uuids}
use Rattle.train.proofs.Flip.{awake_at, awake_up}
use Rattle.train.proofs.Members.{all_reverse}

-- what holds of each awake node of a consist
all_from : (P : Awake → Type 0) (p : ℕ) (ns : List Node) (f : ℕ → ℕ → Awake) → ((m q : ℕ) → P (f m q)) → AllByRecursion P (awake_from p ns f)
all_from P p [] f h = tt
all_from P p (n ∷ ns) f h = go n.mac (all_from P (p + 1) ns f h)
  where
    go : (o : Option ℕ) → AllByRecursion P (awake_from (p + 1) ns f) → AllByRecursion P (awake_from p (record { mask = n.mask; mac = o } ∷ ns) f)
    go (Some m) k = (h m p, k)
    go None k = k

all_of : (P : Awake → Type 0) (c : Consist) (w : Way) → ((m q : ℕ) → P (awake_at c w m q)) → AllByRecursion P (awake_of (record { consist = c; way = w }))
all_of P c forward h = all_from P 1 c.nodes (awake_at c forward) h
all_of P c turned h = all_reverse P (awake_up c turned) (all_from P 1 c.nodes (awake_at c turned) h)

pub all_later : (c : Consist) (w : Way) (p : ℕ) (ns : List Node) → AllByRecursion (λ a. p ≤ a.position) (awake_from p ns (awake_at c w))
all_later c w p [] = tt
all_later c w p (n ∷ ns) = go n.mac (All-weaker _ _ (λ a k. omega arith) _ (all_later c w (p + 1) ns))
  where
    go : (o : Option ℕ) → AllByRecursion (λ a. p ≤ a.position) (awake_from (p + 1) ns (awake_at c w))
        → AllByRecursion (λ a. p ≤ a.position) (awake_from p (record { mask = n.mask; mac = o } ∷ ns) (awake_at c w))
    go (Some m) k = (omega arith, k)
    go None k = k

not_later : (c : Consist) (w : Way) (a : Awake) (p : ℕ) → a.position ≡ p → (xs : List Awake) (ns : List Node) → awake_from (p + 1) ns (awake_at c w) ≡ a ∷ xs → ⊥
not_later c w a p at_p xs ns e = omega (arith, (subst (AllByRecursion (λ b. p + 1 ≤ b.position)) e (all_later c w (p + 1) ns)).0)

-- masks and awake nodes by rising position give the nodes
nodes_same : (c d : Consist) (v w : Way) (p : ℕ) (ns ms : List Node) → map (λ n. n.mask) ns ≡ map (λ n. n.mask) ms
    → awake_from p ns (awake_at c v) ≡ awake_from p ms (awake_at d w) → ns ≡ ms
nodes_same c d v w p [] [] k e = refl
nodes_same c d v w p [] (m ∷ ms) k e = absurd (cons-ne-nil _ _ (sym k))
nodes_same c d v w p (n ∷ ns) [] k e = absurd (cons-ne-nil _ _ k)
nodes_same c d v w p (n ∷ ns) (m ∷ ms) k e =
    let r = go n.mac m.mac (nodes_same c d v w (p + 1) ns ms (tail-eq_of_cons-eq k)) e in
    ap₂ ◌∷◌ (λ i. record { mask = head-eq_of_cons-eq k i; mac = r.0 i }) r.1
  where
    go : (o q : Option ℕ) → (awake_from (p + 1) ns (awake_at c v) ≡ awake_from (p + 1) ms (awake_at d w) → ns ≡ ms)
        → awake_from p (record { mask = n.mask; mac = o } ∷ ns) (awake_at c v) ≡ awake_from p (record { mask = m.mask; mac = q } ∷ ms) (awake_at d w)
        → (o ≡ q) × (ns ≡ ms)
    go (Some i) (Some j) ih e = (ap (λ a. Some a.mac) (head-eq_of_cons-eq e), ih (tail-eq_of_cons-eq e))
    go (Some i) None ih e = absurd (not_later d w (awake_at c v i p) p refl _ ms (sym e))
    go None (Some j) ih e = absurd (not_later c v (awake_at d w j p) p refl _ ns e)
    go None None ih e = (refl, ih e)

-- an element of a list that has one
some_of : {A : Type 0} (P Q : A → Type 0) (xs : List A) → 1 ≤ length xs → AllByRecursion P xs → AllByRecursion Q xs → (x : A) × P x × Q x
some_of P Q [] h k j = absurd (omega arith)
some_of P Q (x ∷ xs) h k j = (x, k.0, j.0)

-- the awake node has the data of the consist
abbrev pub Of : Consist → Way → Awake → Type 0
Of c w a = (a.uuid ≡ c.uuid) × (a.masks ≡ masks c) × (a.way ≡ w)

pub of_awake : (c : Consist) (w : Way) → AllByRecursion (Of c w) (awake_of (record { consist = c; way = w }))
of_awake c w = all_of (Of c w) c w (λ m q. (refl, refl, refl))

ups : (c d : Consist) (w : Way) → awake_of (record { consist = c; way = w }) ≡ awake_of (record { consist = d; way = w }) → awake_up c w ≡ awake_up d w
ups c d forward e = e
ups c d turned e = sym (reverse-reverse (awake_up c turned)) ∙ ap reverse e ∙ reverse-reverse (awake_up d turned)

coupled_same : (s t : Coupled) → 1 ≤ length (awake_of s) → awake_of s ≡ awake_of t → s ≡ t
coupled_same s t h e =
    let c = s.consist in
    let d = t.consist in
    let x = some_of (Of c s.way) (Of d t.way) (awake_of s) h (of_awake c s.way) (subst (AllByRecursion (Of d t.way)) (sym e) (of_awake d t.way)) in
    let w : s.way ≡ t.way = sym x.1.2 ∙ x.2.2 in
    let e' : awake_of s ≡ awake_of (record { consist = d; way = s.way }) = e ∙ ap (λ v. awake_of (record { consist = d; way = v })) (sym w) in
    let k = nodes_same c d s.way s.way 1 c.nodes d.nodes (sym x.1.1 ∙ x.2.1) (ups c d s.way e') in
    λ i. record { consist = record { uuid = (sym x.1.0 ∙ x.2.0) i; nodes = k i }; way = w i }

-- awake nodes of two lines, cut where the UUID changes
cut : (u : ℕ) (xs ys zs ws : List Awake) → AllByRecursion (λ a. a.uuid ≡ u) xs → AllByRecursion (λ a. a.uuid ≡ u) ys
    → AllByRecursion (λ a. a.uuid ≡ u → ⊥) zs → AllByRecursion (λ a. a.uuid ≡ u → ⊥) ws → xs ++ zs ≡ ys ++ ws → (xs ≡ ys) × (zs ≡ ws)
cut u [] [] zs ws hx hy hz hw e = (refl, e)
cut u [] (y ∷ ys) [] ws hx hy hz hw e = absurd (cons-ne-nil _ _ (sym e))
cut u [] (y ∷ ys) (z ∷ zs) ws hx hy hz hw e = absurd (hz.0 (ap (λ a. a.uuid) (head-eq_of_cons-eq e) ∙ hy.0))
cut u (x ∷ xs) [] zs [] hx hy hz hw e = absurd (cons-ne-nil _ _ e)
cut u (x ∷ xs) [] zs (w ∷ ws) hx hy hz hw e = absurd (hw.0 (ap (λ a. a.uuid) (sym (head-eq_of_cons-eq e)) ∙ hx.0))
cut u (x ∷ xs) (y ∷ ys) zs ws hx hy hz hw e =
    let r = cut u xs ys zs ws hx.1 hy.1 hz hw (tail-eq_of_cons-eq e) in
    (ap₂ ◌∷◌ (head-eq_of_cons-eq e) r.0, r.1)

abbrev first_uuid : List Awake → ℕ
first_uuid [] = 0
first_uuid (a ∷ xs) = a.uuid

first_is : (u : ℕ) (xs ys : List Awake) → 1 ≤ length xs → AllByRecursion (λ a. a.uuid ≡ u) xs → first_uuid (xs ++ ys) ≡ u
first_is u [] ys h k = absurd (omega arith)
first_is u (x ∷ xs) ys h k = k.0

-- awake nodes have the UUID of their consist
pub own_uuid : (s : Coupled) → AllByRecursion (λ a. a.uuid ≡ s.consist.uuid) (awake_of s)
own_uuid s = all_of (λ a. a.uuid ≡ s.consist.uuid) s.consist s.way (λ m q. refl)

pub other_uuids : (u : ℕ) (l : Line) → AllByRecursion (λ v. u ≡ v → ⊥) (uuids l) → AllByRecursion (λ a. a.uuid ≡ u → ⊥) (awake l)
other_uuids u [] h = tt
other_uuids u (t ∷ l) h = All-append _ (awake_of t) (awake l) (All-weaker _ _ (λ a e k. h.0 (sym k ∙ e)) (awake_of t) (own_uuid t)) (other_uuids u l h.1)

some_append : {A : Type 0} (xs ys : List A) → 1 ≤ length xs → [] ≡ xs ++ ys → ⊥
some_append [] ys h e = omega arith
some_append (x ∷ xs) ys h e = cons-ne-nil _ _ (sym e)

pub line_same : (l k : Line) → Different (uuids l) → Different (uuids k) → AllByRecursion (λ s. 1 ≤ length (awake_of s)) l → AllByRecursion (λ s. 1 ≤ length (awake_of s)) k
    → awake l ≡ awake k → l ≡ k
line_same [] [] dl dk al ak e = refl
line_same [] (t ∷ k) dl dk al ak e = absurd (some_append (awake_of t) (awake k) ak.0 e)
line_same (s ∷ l) [] dl dk al ak e = absurd (some_append (awake_of s) (awake l) al.0 (sym e))
line_same (s ∷ l) (t ∷ k) dl dk al ak e =
    let u = s.consist.uuid in
    let v = t.consist.uuid in
    let same : v ≡ u = sym (first_is v (awake_of t) (awake k) ak.0 (own_uuid t)) ∙ ap first_uuid (sym e) ∙ first_is u (awake_of s) (awake l) al.0 (own_uuid s) in
    let r = cut u (awake_of s) (awake_of t) (awake l) (awake k) (own_uuid s) (subst (λ n. AllByRecursion (λ a. a.uuid ≡ n) (awake_of t)) same (own_uuid t))
    (other_uuids u l dl.0) (subst (λ n. AllByRecursion (λ a. a.uuid ≡ n → ⊥) (awake k)) same (other_uuids v k dk.0)) e in
    ap₂ ◌∷◌ (coupled_same s t al.0 r.0) (line_same l k dl.1 dk.1 al.1 ak.1 r.1)
