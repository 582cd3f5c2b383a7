-- Reports in a chain can be followed in one way alone. Assumes nothing.
use Rattle.std.proofs.Common.{◌≡◌, ℕ, ◌≤◌, ◌⊎◌, List, [], ◌∷◌, length, sym, refl, ap, ◌∙◌, subst, ap₂, inl, inr, ⊎_elim, arith}
use Rattle.std.specs.List.{AllByRecursion}
use Rattle.report.specs.Reports.{Report}
use Rattle.train.specs.Line.{Way, forward, turned, other}
use Rattle.train.specs.Truth.{Awake, facing, report, first_mac, reports, In, here, there}
use Rattle.train.specs.Rules.{Different, macs, IsMac}
use Rattle.train.proofs.Flip.{flip_awake, last_or}
use Rattle.train.proofs.Members.{not_in, in_cases}

-- none of the nodes has the MAC m
abbrev pub Absent : ℕ → List Awake → Type 0
Absent m xs = AllByRecursion (λ n. m ≡ n → ⊥) (macs xs)

-- each node has a MAC of its own
abbrev pub OwnMacs : List Awake → Type 0
OwnMacs xs = AllByRecursion IsMac (macs xs) × Different (macs xs)

-- among the reports held, a MAC has one report
abbrev pub OneEach : List Report → Type 0
OneEach held = (r s : Report) → In r held → In s held → r.mac ≡ s.mac → r ≡ s

pub own_rest : (a : Awake) (xs : List Awake) → OwnMacs (a ∷ xs) → OwnMacs xs
own_rest a xs h = (h.0.1, h.1.1)

pub absent_0 : (xs : List Awake) → OwnMacs xs → Absent 0 xs
absent_0 [] h = tt
absent_0 (a ∷ xs) h = (λ e. omega (arith, h.0.0.0), absent_0 xs (own_rest a xs h))

-- where the two neighbours differ, the sides tell the way and the neighbour to the right
same_way : (v w : Way) (l r s : ℕ) → (l ≡ r → ⊥) → facing v l r ≡ facing w l s → facing v r l ≡ facing w s l → (v ≡ w) × (r ≡ s)
same_way forward forward l r s d e f = (refl, f)
same_way turned turned l r s d e f = (refl, e)
same_way forward turned l r s d e f = absurd (d (sym f))
same_way turned forward l r s d e f = absurd (d (sym e))

neighbours_differ : (l : ℕ) (xs : List Awake) → Absent l xs → (l ≡ 0 → first_mac xs ≡ 0 → ⊥) → l ≡ first_mac xs → ⊥
neighbours_differ l [] n z e = z e refl
neighbours_differ l (x ∷ xs) n z e = n.0 e

module _ (held : List Report) (one : OneEach held) where
  -- the first node of each chain, and what each names to its right
  first_same : (l : ℕ) (a b : Awake) (xs ys : List Awake) → Absent l (a ∷ xs) → In (report l a (first_mac xs)) held → In (report l b (first_mac ys)) held
      → a.mac ≡ b.mac → (l ≡ 0 → first_mac xs ≡ 0 → ⊥) → (a ≡ b) × (first_mac xs ≡ first_mac ys)
  first_same l a b xs ys n ha hb m z =
      let e : report l a (first_mac xs) ≡ report l b (first_mac ys) = one _ _ ha hb m in
      let t = same_way a.way b.way l (first_mac xs) (first_mac ys) (neighbours_differ l xs n.1 z) (ap (λ r. r.side1) e) (ap (λ r. r.side2) e) in
      (λ i. record { mac = m i; uuid = (e i).uuid; position = (e i).position; masks = (e i).masks; way = t.0 i }, t.1)

  -- two chains that start with the same node beside the same neighbour, and report what is held, are one
  pub chain_same : (l : ℕ) (a b : Awake) (xs ys : List Awake) → OwnMacs (a ∷ xs) → OwnMacs (b ∷ ys) → Absent l (a ∷ xs)
      → ((r : Report) → In r (reports l (a ∷ xs)) → In r held) → ((r : Report) → In r (reports l (b ∷ ys)) → In r held)
      → a.mac ≡ b.mac → (l ≡ 0 → first_mac xs ≡ 0 → ⊥) → a ∷ xs ≡ b ∷ ys
  chain_same l a b [] [] pa pb n ha hb m z = ap (λ c. c ∷ []) (first_same l a b [] [] n (ha _ here) (hb _ here) m z).0
  chain_same l a b [] (y ∷ ys) pa pb n ha hb m z = absurd (omega (arith, (first_same l a b [] (y ∷ ys) n (ha _ here) (hb _ here) m z).1, pb.0.1.0.0))
  chain_same l a b (x ∷ xs) [] pa pb n ha hb m z = absurd (omega (arith, (first_same l a b (x ∷ xs) [] n (ha _ here) (hb _ here) m z).1, pa.0.1.0.0))
  chain_same l a b (x ∷ xs) (y ∷ ys) pa pb n ha hb m z =
      let h = first_same l a b (x ∷ xs) (y ∷ ys) n (ha _ here) (hb _ here) m z in
      ap₂ ◌∷◌ h.0 (chain_same a.mac x y xs ys (own_rest a (x ∷ xs) pa) (own_rest b (y ∷ ys) pb) pa.1.0 (λ r i. ha r (there i))
      (λ r i. hb r (there (subst (λ k. In r (reports k (y ∷ ys))) m i))) h.1 (λ e f. omega (arith, pa.0.0.0)))

-- nodes with MACs of their own have one report each
not_among : (m p : ℕ) (xs : List Awake) → Absent m xs → (r : Report) → In r (reports p xs) → m ≡ r.mac → ⊥
not_among m p [] h r i e = not_in r i
not_among m p (a ∷ xs) h r i e =
    ⊎_elim (λ k. h.0 (e ∙ ap (λ s. s.mac) k)) (λ j. not_among m a.mac xs h.1 r j e) (in_cases r (report p a (first_mac xs)) (reports a.mac xs) i)

pub one_each : (p : ℕ) (xs : List Awake) → Different (macs xs) → OneEach (reports p xs)
one_each p [] h r s i j e = absurd (not_in r i)
one_each p (a ∷ xs) h r s i j e = go (in_cases r top rest i) (in_cases s top rest j) (one_each a.mac xs h.1 r s)
  where
    top : Report
    top = report p a (first_mac xs)

    rest : List Report
    rest = reports a.mac xs

    go : (r ≡ top) ⊎ In r rest → (s ≡ top) ⊎ In s rest → (In r rest → In s rest → r.mac ≡ s.mac → r ≡ s) → r ≡ s
    go (inl k) (inl k') ih = k ∙ sym k'
    go (inl k) (inr j) ih = absurd (not_among a.mac a.mac xs h.0 s j (ap (λ q. q.mac) (sym k) ∙ e))
    go (inr i) (inl k') ih = absurd (not_among a.mac a.mac xs h.0 r i (ap (λ q. q.mac) (sym k') ∙ sym e))
    go (inr i) (inr j) ih = ih i j e

-- the report names nobody on one side
abbrev pub AtEnd : Report → Type 0
AtEnd r = (r.side1 ≡ 0) ⊎ (r.side2 ≡ 0)

between : (w : Way) (p q : ℕ) → 1 ≤ p → 1 ≤ q → (facing w p q ≡ 0) ⊎ (facing w q p ≡ 0) → ⊥
between forward p q hp hq (inl e) = omega arith
between forward p q hp hq (inr e) = omega arith
between turned p q hp hq (inl e) = omega arith
between turned p q hp hq (inr e) = omega arith

first_at_end : (a : Awake) (q : ℕ) → AtEnd (report 0 a q)
first_at_end a q = go a.way
  where
    go : (w : Way) → (facing w 0 q ≡ 0) ⊎ (facing w q 0 ≡ 0)
    go forward = inl refl
    go turned = inr refl

last_end : (p : ℕ) (xs : List Awake) → 1 ≤ p → AllByRecursion IsMac (macs xs) → (r : Report) → In r (reports p xs) → AtEnd r → r.mac ≡ last_or p xs
last_end p [] hp h r i o = absurd (not_in r i)
last_end p (a ∷ []) hp h r i o = ⊎_elim (λ k. ap (λ s. s.mac) k) (λ j. absurd (not_in r j)) (in_cases r (report p a 0) [] i)
last_end p (a ∷ b ∷ xs) hp h r i o =
    ⊎_elim (λ k. absurd (between a.way p b.mac hp h.1.0.0 (subst AtEnd k o))) (λ j. last_end a.mac (b ∷ xs) h.0.0 h.1 r j o)
    (in_cases r (report p a b.mac) (reports a.mac (b ∷ xs)) i)

pub an_end : (xs : List Awake) → AllByRecursion IsMac (macs xs) → (r : Report) → In r (reports 0 xs) → AtEnd r → (r.mac ≡ first_mac xs) ⊎ (r.mac ≡ last_or 0 xs)
an_end [] h r i o = absurd (not_in r i)
an_end (a ∷ xs) h r i o =
    ⊎_elim (λ k. inl (ap (λ s. s.mac) k)) (λ j. inr (last_end a.mac xs h.0.0 h.1 r j o)) (in_cases r (report 0 a (first_mac xs)) (reports a.mac xs) i)

pub first_report : (xs : List Awake) → 1 ≤ length xs → (r : Report) × In r (reports 0 xs) × (r.mac ≡ first_mac xs) × AtEnd r
first_report [] h = absurd (omega arith)
first_report (a ∷ xs) h = (report 0 a (first_mac xs), here, refl, first_at_end a (first_mac xs))

-- the way of a lone node is not told
either_way : (v w : Way) → (w ≡ v) ⊎ (w ≡ other v)
either_way forward forward = inl refl
either_way forward turned = inr refl
either_way turned forward = inr refl
either_way turned turned = inl refl

alone : (held : List Report) → OneEach held → (a b : Awake) → In (report 0 a 0) held → In (report 0 b 0) held → a.mac ≡ b.mac
    → (b ∷ [] ≡ a ∷ []) ⊎ (b ∷ [] ≡ flip_awake (a ∷ []))
alone held one a b i j m =
    let e : report 0 b 0 ≡ report 0 a 0 = one _ _ j i (sym m) in
    let at : (w : Way) → b.way ≡ w → b ≡ record { mac = a.mac; uuid = a.uuid; position = a.position; masks = a.masks; way = w } =
    λ w k i. record { mac = (e i).mac; uuid = (e i).uuid; position = (e i).position; masks = (e i).masks; way = k i } in
    ⊎_elim (λ k. inl (ap (λ c. c ∷ []) (at a.way k))) (λ k. inr (ap (λ c. c ∷ []) (at (other a.way) k))) (either_way a.way b.way)

-- the reports of awake nodes in this order are exactly those held
pub record Chains (xs : List Awake) (held : List Report) : Type 0 where
  pub each_true : (r : Report) → In r held → In r (reports 0 xs)
  pub each_held : (r : Report) → In r (reports 0 xs) → In r held

-- chains that report the same and begin with the same node are one, or each other's flip
pub chains_same : (held : List Report) → OneEach held → (xs ys : List Awake) → OwnMacs xs → OwnMacs ys → 1 ≤ length xs → 1 ≤ length ys
    → Chains xs held → Chains ys held → first_mac xs ≡ first_mac ys → (ys ≡ xs) ⊎ (ys ≡ flip_awake xs)
chains_same held one [] ys hx hy nx ny cx cy m = absurd (omega arith)
chains_same held one (a ∷ xs) [] hx hy nx ny cx cy m = absurd (omega arith)
chains_same held one (a ∷ []) (b ∷ []) hx hy nx ny cx cy m = alone held one a b (cx.each_held _ here) (cy.each_held _ here) m
chains_same held one (a ∷ []) (b ∷ c ∷ ys) hx hy nx ny cx cy m =
    let j = in_cases _ (report 0 a 0) [] (cx.each_true _ (cy.each_held (report b.mac c (first_mac ys)) (there here))) in
    absurd (⊎_elim (λ k. hy.1.0.0 (sym m ∙ sym (ap (λ r. r.mac) k))) (λ i. not_in _ i) j)
chains_same held one (a ∷ x ∷ xs) (b ∷ ys) hx hy nx ny cx cy m =
    inl (sym (chain_same held one 0 a b (x ∷ xs) ys hx hy (absent_0 (a ∷ x ∷ xs) hx) cx.each_held cy.each_held m (λ _ e. omega (arith, hx.0.1.0.0))))
