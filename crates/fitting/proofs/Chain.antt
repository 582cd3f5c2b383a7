-- A chain of reports: the neighbours that its reports name, and the chain from its other end. Assumes nothing.
use Rattle.std.proofs.Common.{◌≡◌, ℕ, ◌<◌, ◌⊎◌, List, [], ◌∷◌, map, reverse, sym, refl, ap, ◌∙◌, subst, inl, inr, ⊎_elim, arith}
use Rattle.std.specs.List.{AllByRecursion}
use Rattle.report.specs.Reports.{Report}
use Rattle.train.specs.Line.{Way, forward, turned}
use Rattle.train.specs.Truth.{Awake, facing, report, first_mac, reports, In, here, there}
use Rattle.train.specs.Rules.{Different, macs, IsMac}
use Rattle.train.proofs.Members.{map-map, map_reverse, in_reverse, of_reverse, different_reverse}
use Rattle.train.proofs.Flip.{turn_awake, flip_awake, first_flip, reports_flip}
use Rattle.train.proofs.Chain.{Absent, an_end}
use Rattle.fitting.specs.Neighbours.{Names, NoLoose, OwnReports}
use Rattle.fitting.specs.Walk.{IsChain}
use Rattle.fitting.proofs.Found.{in_cases, in_none}

names_of : (w : Way) (l r x : ℕ) → (facing w l r ≡ x) ⊎ (facing w r l ≡ x) → (l ≡ x) ⊎ (r ≡ x)
names_of forward l r x n = n
names_of turned l r x (inl e) = inr e
names_of turned l r x (inr e) = inl e

pub names_left : (w : Way) (l r : ℕ) → (facing w l r ≡ l) ⊎ (facing w r l ≡ l)
names_left forward l r = inl refl
names_left turned l r = inr refl

names_right : (w : Way) (l r : ℕ) → (facing w l r ≡ r) ⊎ (facing w r l ≡ r)
names_right forward l r = inr refl
names_right turned l r = inl refl

-- the first of the chain on the right names what is to its left
right_in : (m : ℕ) (xs : List Awake) (x : ℕ) → first_mac xs ≡ x → 0 < x → (s : Report) × In s (reports m xs) × (s.mac ≡ x) × Names s m
right_in m [] x e p = absurd (omega arith)
right_in m (b ∷ xs) x e p = (report m b (first_mac xs), here, e, names_left b.way m (first_mac xs))

-- whom a report of a chain names: what is left of the chain, or one of the chain, which names it back
firm_in : (l : ℕ) (xs : List Awake) (r : Report) → In r (reports l xs) → (x : ℕ) → Names r x → 0 < x
    → ((x ≡ l) × (r.mac ≡ first_mac xs)) ⊎ ((s : Report) × In s (reports l xs) × (s.mac ≡ x) × Names s r.mac)
firm_in l [] r i x n p = absurd (in_none i)
firm_in l (a ∷ xs) r i x n p = elim (in_cases i) [
  | inl e ↦ (elim (names_of a.way l (first_mac xs) x (subst (λ v. Names v x) e n)) [
    | inl q ↦ inl (sym q, ap (λ v. v.mac) e)
    | inr q ↦ (let s = right_in a.mac xs x q p in
        inr (s.0, there s.1, s.2, subst (Names s.0) (sym (ap (λ v. v.mac) e)) s.3))
  ])
  | inr j ↦ (elim (firm_in a.mac xs r j x n p) [
    | inl q ↦ inr (
      report l a (first_mac xs),
      here,
      sym q.0,
      subst (Names (report l a (first_mac xs))) (sym q.1) (names_right a.way l (first_mac xs)),
    )
    | inr s ↦ inr (s.0, there s.1, s.2, s.3)
  ])
]

pub no_loose : (held : List Report) (xs : List Awake) → IsChain held xs → NoLoose held
no_loose held xs c r i x n p = elim (firm_in 0 xs r (c.each_true r i) x n p) [
  | inl q ↦ absurd (let z = q.0 in omega arith)
  | inr s ↦ (s.0, c.each_held s.0 s.1, s.2, s.3)
]

pub absent_in : (m l : ℕ) (xs : List Awake) (r : Report) → Absent m xs → In r (reports l xs) → m ≡ r.mac → ⊥
absent_in m l [] r n i = absurd (in_none i)
absent_in m l (a ∷ xs) r n i = elim (in_cases i) [
  | inl e ↦ (λ q. n.0 (q ∙ ap (λ v. v.mac) e))
  | inr j ↦ absent_in m a.mac xs r n.1 j
]

-- its MACs are those of the reports held
pub real_macs : (held : List Report) (xs : List Awake) → OwnReports held → IsChain held xs → AllByRecursion IsMac (macs xs)
real_macs held xs o c = go 0 xs (λ r i. o.real r (c.each_held r i))
  where
    go : (l : ℕ) (ys : List Awake) → ((r : Report) → In r (reports l ys) → IsMac r.mac) → AllByRecursion IsMac (macs ys)
    go l [] h = tt
    go l (a ∷ ys) h = (h _ here, go a.mac ys (λ r i. h r (there i)))

-- the chain from its other end
macs_flip : (xs : List Awake) → macs (flip_awake xs) ≡ reverse (macs xs)
macs_flip xs = map_reverse (λ a. a.mac) (map turn_awake xs) ∙ ap reverse (map-map (λ a. a.mac) turn_awake xs)

pub flip_chain : (held : List Report) (xs : List Awake) → IsChain held xs → IsChain held (flip_awake xs)
flip_chain held xs c = record {
  each_true = λ r i. subst (λ ys. In r ys) (sym (reports_flip xs)) (in_reverse r (reports 0 xs) (c.each_true r i));
  each_held = λ r i. c.each_held r (of_reverse r (reports 0 xs) (subst (λ ys. In r ys) (reports_flip xs) i));
  own_macs = subst Different (sym (macs_flip xs)) (different_reverse (macs xs) c.own_macs);
}

-- a chain that begins with a report that has a side free
pub from_end : (held : List Report) (xs : List Awake) (r : Report) → OwnReports held → IsChain held xs → In r held → Names r 0
    → (ys : List Awake) × IsChain held ys × (first_mac ys ≡ r.mac)
from_end held xs r o c i n =
    ⊎_elim (λ e. (xs, c, sym e)) (λ e. (flip_awake xs, flip_chain held xs c, first_flip xs ∙ sym e))
    (an_end xs (real_macs held xs o c) r (c.each_true r i) n)
