-- One more node of a consist awake: what its awake nodes are then. Assumes nothing.
use Rattle.std.proofs.Common.{◌≡◌, ℕ, ◌+◌, ◌<◌, ◌≤◌, Bool, true, false, cond, eqb, List, [], ◌∷◌, ◌++◌, map, reverse, length, Some, None, Option, sym, refl, ap, ◌∙◌, subst, ap₂, arith}
use mathlib.Core.List.{reverse-cons, reverse-reverse}
use Rattle.std.specs.List.{AllByRecursion}
use Rattle.std.proofs.ByRecursion.{All-weaker}
use Rattle.std.proofs.lemmas.Bool.{eqb-true, eqb-false}
use Rattle.train.specs.Line.{Way, forward, turned, Node, Consist, masks}
use Rattle.train.specs.Truth.{Awake, awake_from, awake_of}
use Rattle.train.proofs.Members.{all_reverse}
use Rattle.train.proofs.Flip.{awake_at, awake_up}
use Rattle.train.proofs.SameAwake.{all_later}
use Rattle.fitting.specs.Assemble.{asleep, wake, woken, begun}

pub wake_masks : (q p m : ℕ) (ss : List Node) → map (λ s. s.mask) (wake q p m ss) ≡ map (λ s. s.mask) ss
wake_masks q p m [] = refl
wake_masks q p m (s ∷ ss) = ap (λ r. s.mask ∷ r) (wake_masks (q + 1) p m ss)

pub wake_length : (q p m : ℕ) (ss : List Node) → length (wake q p m ss) ≡ length ss
wake_length q p m [] = refl
wake_length q p m (s ∷ ss) = omega (arith, wake_length (q + 1) p m ss)

pub asleep_masks : (ms : List ℕ) → map (λ s. s.mask) (asleep ms) ≡ ms
asleep_masks [] = refl
asleep_masks (m ∷ ms) = ap (λ r. m ∷ r) (asleep_masks ms)

pub asleep_length : (ms : List ℕ) → length (asleep ms) ≡ length ms
asleep_length [] = refl
asleep_length (m ∷ ms) = omega (arith, asleep_length ms)

asleep_none : (q : ℕ) (ms : List ℕ) (f : ℕ → ℕ → Awake) → awake_from q (asleep ms) f ≡ []
asleep_none q [] f = refl
asleep_none q (m ∷ ms) f = asleep_none (q + 1) ms f

-- a position to the left of all the nodes
wake_none : (q p m : ℕ) (ss : List Node) → p < q → wake q p m ss ≡ ss
wake_none q p m [] h = refl
wake_none q p m (s ∷ ss) h = go (eqb q p) refl (wake_none (q + 1) p m ss (omega arith))
  where
    go : (b : Bool) → eqb q p ≡ b → wake (q + 1) p m ss ≡ ss → record { mask = s.mask; mac = cond b (Some m) s.mac } ∷ wake (q + 1) p m ss ≡ s ∷ ss
    go true e k = absurd (omega (arith, eqb-true q p e))
    go false e k = ap (λ r. s ∷ r) k

none_between : (p : ℕ) (xs : List Awake) → AllByRecursion (λ a. a.position < p) xs → AllByRecursion (λ a. p ≤ a.position) xs → xs ≡ []
none_between p [] h k = refl
none_between p (x ∷ xs) h k = absurd (omega (arith, h.0, k.0))

module _ (d : Consist) (v : Way) where
  wake_last : (q p m : ℕ) (ss : List Node) → q ≤ p → p < q + length ss → AllByRecursion (λ a. a.position < p) (awake_from q ss (awake_at d v))
      → awake_from q (wake q p m ss) (awake_at d v) ≡ awake_from q ss (awake_at d v) ++ (awake_at d v) m p ∷ []
  wake_last q p m [] h k j = absurd (omega arith)
  wake_last q p m (s ∷ ss) h k j = go (eqb q p) s.mac refl (wake_last (q + 1) p m ss) j
    where
      go : (b : Bool) (o : Option ℕ) → eqb q p ≡ b
          → (q + 1 ≤ p → p < q + 1 + length ss → AllByRecursion (λ a. a.position < p) (awake_from (q + 1) ss (awake_at d v)) → awake_from (q + 1) (wake (q + 1) p m ss) (awake_at d v) ≡ awake_from (q + 1) ss (awake_at d v) ++ (awake_at d v) m p ∷ [])
          → AllByRecursion (λ a. a.position < p) (awake_from q (record { mask = s.mask; mac = o } ∷ ss) (awake_at d v))
          → awake_from q (record { mask = s.mask; mac = cond b (Some m) o } ∷ wake (q + 1) p m ss) (awake_at d v) ≡ awake_from q (record { mask = s.mask; mac = o } ∷ ss) (awake_at d v) ++ (awake_at d v) m p ∷ []
      go true (Some n) e ih j = absurd (omega (arith, eqb-true q p e, j.0))
      go true None e ih j =
          let at : q ≡ p = eqb-true q p e in
          let none : awake_from (q + 1) ss (awake_at d v) ≡ [] = none_between p (awake_from (q + 1) ss (awake_at d v)) j (subst (λ n. AllByRecursion (λ a. n ≤ a.position) (awake_from (q + 1) ss (awake_at d v))) at (later q ss)) in
          ap₂ ◌∷◌ (ap ((awake_at d v) m) at) (ap (λ r. awake_from (q + 1) r (awake_at d v)) (wake_none (q + 1) p m ss (omega arith)) ∙ none) ∙ ap (λ r. r ++ (awake_at d v) m p ∷ []) (sym none)
        where
          later : (n : ℕ) (ts : List Node) → AllByRecursion (λ a. n ≤ a.position) (awake_from (n + 1) ts (awake_at d v))
          later n ts = All-weaker _ _ (λ a k. omega arith) _ (all_later d v (n + 1) ts)
      go false (Some n) e ih j = ap (λ r. (awake_at d v) n q ∷ r) (ih (omega (arith, j.0)) (omega arith) j.1)
      go false None e ih j = ih (omega (arith, eqb-false q p e)) (omega arith) j

  wake_first : (q p m : ℕ) (ss : List Node) → q ≤ p → p < q + length ss → AllByRecursion (λ a. p < a.position) (awake_from q ss (awake_at d v))
      → awake_from q (wake q p m ss) (awake_at d v) ≡ (awake_at d v) m p ∷ awake_from q ss (awake_at d v)
  wake_first q p m [] h k j = absurd (omega arith)
  wake_first q p m (s ∷ ss) h k j = go (eqb q p) s.mac refl (wake_first (q + 1) p m ss) j
    where
      go : (b : Bool) (o : Option ℕ) → eqb q p ≡ b
          → (q + 1 ≤ p → p < q + 1 + length ss → AllByRecursion (λ a. p < a.position) (awake_from (q + 1) ss (awake_at d v)) → awake_from (q + 1) (wake (q + 1) p m ss) (awake_at d v) ≡ (awake_at d v) m p ∷ awake_from (q + 1) ss (awake_at d v))
          → AllByRecursion (λ a. p < a.position) (awake_from q (record { mask = s.mask; mac = o } ∷ ss) (awake_at d v))
          → awake_from q (record { mask = s.mask; mac = cond b (Some m) o } ∷ wake (q + 1) p m ss) (awake_at d v) ≡ (awake_at d v) m p ∷ awake_from q (record { mask = s.mask; mac = o } ∷ ss) (awake_at d v)
      go true (Some n) e ih j = absurd (omega (arith, j.0))
      go true None e ih j =
          let at : q ≡ p = eqb-true q p e in
          ap₂ ◌∷◌ (ap ((awake_at d v) m) at) (ap (λ r. awake_from (q + 1) r (awake_at d v)) (wake_none (q + 1) p m ss (omega arith)))
      go false (Some n) e ih j = absurd (omega (arith, j.0))
      go false None e ih j = ih (omega (arith, eqb-false q p e)) (omega arith) j

-- position p is met before position q
abbrev pub Past : Way → ℕ → ℕ → Type 0
Past forward p q = p < q
Past turned p q = q < p

same_awake_at : (c : Consist) (w : Way) (a : Awake) → a.uuid ≡ c.uuid → a.masks ≡ masks c → a.way ≡ w → awake_at c w a.mac a.position ≡ a
same_awake_at c w a u k v = λ i. record { mac = a.mac; uuid = sym u i; position = a.position; masks = sym k i; way = sym v i }

all_back : {A : Type 0} (P : A → Type 0) (xs : List A) → AllByRecursion P (reverse xs) → AllByRecursion P xs
all_back P xs h = subst (AllByRecursion P) (reverse-reverse xs) (all_reverse P (reverse xs) h)

-- a node met behind all those awake is awake last
pub woken_awake : (c : Consist) (w : Way) (a : Awake) → a.uuid ≡ c.uuid → a.masks ≡ masks c → a.way ≡ w
    → 1 ≤ a.position → a.position ≤ length c.nodes → AllByRecursion (λ x. Past w x.position a.position) (awake_of (record { consist = c; way = w }))
    → awake_of (woken a (record { consist = c; way = w })) ≡ awake_of (record { consist = c; way = w }) ++ a ∷ []
woken_awake c w a u k v low high h = go w v h
  where
    p : ℕ
    p = a.position

    ss : List Node
    ss = wake 1 p a.mac c.nodes

    moved : (w : Way) → awake_from 1 ss (λ m q. record { mac = m; uuid = c.uuid; position = q; masks = map (λ s. s.mask) ss; way = w }) ≡ awake_from 1 ss (awake_at c w)
    moved w = ap (λ ms. awake_from 1 ss (λ m q. record { mac = m; uuid = c.uuid; position = q; masks = ms; way = w })) (wake_masks 1 p a.mac c.nodes)

    go : (w : Way) → a.way ≡ w → AllByRecursion (λ x. Past w x.position a.position) (awake_of (record { consist = c; way = w }))
        → awake_of (woken a (record { consist = c; way = w })) ≡ awake_of (record { consist = c; way = w }) ++ a ∷ []
    go forward v h =
        moved forward ∙ wake_last c forward 1 p a.mac c.nodes low (omega arith) h
        ∙ ap (λ x. awake_up c forward ++ x ∷ []) (same_awake_at c forward a u k v)
    go turned v h =
        ap reverse (moved turned ∙ wake_first c turned 1 p a.mac c.nodes low (omega arith) (all_back _ (awake_up c turned) h)
        ∙ ap (λ x. x ∷ awake_up c turned) (same_awake_at c turned a u k v))
        ∙ reverse-cons a (awake_up c turned)

-- the first node of a consist is its only one awake
pub begun_awake : (a : Awake) → 1 ≤ a.position → a.position ≤ length a.masks → awake_of (begun a) ≡ a ∷ []
begun_awake a low high =
    woken_awake c w a refl (sym (asleep_masks a.masks)) refl low (omega (arith, asleep_length a.masks))
    (subst (AllByRecursion (λ x. Past w x.position a.position)) (sym (none w)) tt)
    ∙ ap (λ r. r ++ a ∷ []) (none w)
  where
    w : Way
    w = a.way

    c : Consist
    c = record { uuid = a.uuid; nodes = asleep a.masks }

    none : (w : Way) → awake_of (record { consist = c; way = w }) ≡ []
    none forward = asleep_none 1 a.masks (awake_at c forward)
    none turned = ap reverse (asleep_none 1 a.masks (awake_at c turned))
