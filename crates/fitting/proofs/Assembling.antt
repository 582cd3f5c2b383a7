-- What is assembled is a line, and its awake nodes are those given. Assumes nothing.
use Rattle.std.proofs.Common.{◌≡◌, ℕ, ◌≤◌, Bool, true, false, cond, eqb, List, [], ◌∷◌, ◌++◌, length, Some, None, Option, sym, refl, ap, ◌∙◌, subst, ap₂, append_assoc, append-nil, arith}
use mathlib.Core.List.{map-append}
use Rattle.std.specs.List.{AllByRecursion}
use Rattle.std.proofs.lemmas.List.{length-map}
use Rattle.std.proofs.ByRecursion.{All-append, All-weaker}
use Rattle.std.proofs.lemmas.Bool.{eqb-true, eqb-false, ltb-true, and_parts, or_parts}
use Rattle.report.specs.Masks.{gapless}
use Rattle.train.specs.Line.{Way, forward, turned, Consist, Coupled, Line, masks}
use Rattle.train.specs.Truth.{Awake, awake_of, awake}
use Rattle.train.specs.Rules.{Different, uuids, macs, IsMac, IsUuid, IsConsist, IsLine}
use Rattle.train.proofs.Members.{different_append}
use Rattle.train.proofs.Flip.{awake_append}
use Rattle.fitting.specs.Assemble.{same_way, same_masks, among, behind, asleep, woken, begun, Part, goes_on, grown, next, put, all_of, put_all, assemble}
use Rattle.fitting.proofs.Wake.{wake_masks, asleep_masks, Past, woken_awake, begun_awake}

-- what each awake node keeps to by itself
pub record IsNode (a : Awake) : Type 0 where
  pub named : IsUuid a.uuid
  pub placed : (1 ≤ a.position) × (a.position ≤ length a.masks)
  pub few_nodes : length a.masks ≤ 4
  pub some_network : AllByRecursion (λ m. (1 ≤ m) × (m ≤ 255)) a.masks
  pub no_gap : gapless a.masks ≡ true

pub record Nodes (xs : List Awake) : Type 0 where
  pub some : 1 ≤ length xs
  pub each : AllByRecursion IsNode xs
  pub real_macs : AllByRecursion IsMac (macs xs)
  pub own_macs : Different (macs xs)

different_push : (xs : List ℕ) (x : ℕ) → Different xs → AllByRecursion (λ y. x ≡ y → ⊥) xs → Different (xs ++ x ∷ [])
different_push xs x d h = different_append xs (x ∷ []) d (tt, tt) (All-weaker _ _ (λ y n. (λ e. n (sym e), tt)) xs h)

-- what the tests tell
pub way_same : (v w : Way) → same_way v w ≡ true → v ≡ w
way_same forward forward e = refl
way_same forward turned e = absurd (let z : ◌≡◌ {A = ℕ} 0 1 = cc in omega arith)
way_same turned forward e = absurd (let z : ◌≡◌ {A = ℕ} 0 1 = cc in omega arith)
way_same turned turned e = refl

pub masks_same : (ms ns : List ℕ) → same_masks ms ns ≡ true → ms ≡ ns
masks_same [] [] e = refl
masks_same [] (n ∷ ns) e = absurd (let z : ◌≡◌ {A = ℕ} 0 1 = cc in omega arith)
masks_same (m ∷ ms) [] e = absurd (let z : ◌≡◌ {A = ℕ} 0 1 = cc in omega arith)
masks_same (m ∷ ms) (n ∷ ns) e = let r = and_parts (eqb m n) (same_masks ms ns) e in ap₂ ◌∷◌ (eqb-true m n r.0) (masks_same ms ns r.1)

not_among : (u : ℕ) (vs : List ℕ) → among u vs ≡ false → AllByRecursion (λ v. u ≡ v → ⊥) vs
not_among u [] e = tt
not_among u (v ∷ vs) e = let r = or_parts (eqb u v) (among u vs) e in (eqb-false u v r.0, not_among u vs r.1)

-- position p is met before position q, or is it
abbrev Upto : Way → ℕ → ℕ → Type 0
Upto forward p q = p ≤ q
Upto turned p q = q ≤ p

upto_past : (w : Way) (p q r : ℕ) → Upto w p q → behind w q r ≡ true → Past w p r
upto_past forward p q r h e = omega (arith, ltb-true q r e)
upto_past turned p q r h e = omega (arith, ltb-true r q e)

past_upto : (w : Way) (p q : ℕ) → Past w p q → Upto w p q
past_upto forward p q h = omega arith
past_upto turned p q h = omega arith

upto_self : (w : Way) (p : ℕ) → Upto w p p
upto_self forward p = omega arith
upto_self turned p = omega arith

-- what holds of a line but for its MACs
pub record Sound (l : Line) : Type 0 where
  pub consists : AllByRecursion (λ s. IsConsist s.consist) l
  pub some_awake : AllByRecursion (λ s. 1 ≤ length (awake_of s)) l
  pub own_uuids : Different (uuids l)

record PartSound (b : Part) : Type 0 where
  done : Sound b.finished
  consist : IsConsist b.growing.consist
  some : 1 ≤ length (awake_of b.growing)
  own : AllByRecursion (λ v. b.growing.consist.uuid ≡ v → ⊥) (uuids b.finished)
  reach : AllByRecursion (λ a. Upto b.growing.way a.position b.last) (awake_of b.growing)

uuids_append : (l : Line) (s : Coupled) → uuids (l ++ s ∷ []) ≡ uuids l ++ s.consist.uuid ∷ []
uuids_append l s = map-append (λ t. t.consist.uuid) l (s ∷ [])

sound_all : (b : Part) → PartSound b → Sound (all_of b)
sound_all b h = record {
  consists = All-append (λ s. IsConsist s.consist) b.finished (b.growing ∷ []) h.done.consists (h.consist, tt);
  some_awake = All-append (λ s. 1 ≤ length (awake_of s)) b.finished (b.growing ∷ []) h.done.some_awake (h.some, tt);
  own_uuids = subst Different (sym (uuids_append b.finished b.growing)) (different_push (uuids b.finished) b.growing.consist.uuid h.done.own_uuids h.own);
}

awake_all : (l : Line) (s : Coupled) → awake (l ++ s ∷ []) ≡ awake l ++ awake_of s
awake_all l s = awake_append l (s ∷ []) ∙ ap (λ r. awake l ++ r) (append-nil (awake_of s))

-- a consist whose masks a node reports
is_consist : (a : Awake) (c : Consist) → IsNode a → a.uuid ≡ c.uuid → masks c ≡ a.masks → IsConsist c
is_consist a c h u k =
    let n : length c.nodes ≡ length a.masks = sym (length-map c.nodes (λ s. s.mask)) ∙ ap length k in
    record {
      named = subst IsUuid u h.named;
      some_node = omega (arith, h.placed);
      few_nodes = omega (arith, h.few_nodes);
      some_network = subst (AllByRecursion (λ m. (1 ≤ m) × (m ≤ 255))) (sym k) h.some_network;
      no_gap = ap gapless k ∙ h.no_gap;
    }

some_last : (xs : List Awake) (a : Awake) → 1 ≤ length (xs ++ a ∷ [])
some_last [] a = omega arith
some_last (x ∷ xs) a = omega (arith, some_last xs a)

-- a node that goes on with the consist being built
module _ (b : Part) (a : Awake) (h : PartSound b) (n : IsNode a) (u : a.uuid ≡ b.growing.consist.uuid) (g : goes_on b a ≡ true) where
  parts : (a.masks ≡ masks b.growing.consist) × (a.way ≡ b.growing.way) × (behind b.growing.way b.last a.position ≡ true)
  parts =
      let p = and_parts _ _ g in
      let q = and_parts _ _ p.0 in
      (masks_same _ _ q.0, way_same _ _ q.1, p.1)

  past : AllByRecursion (λ x. Past b.growing.way x.position a.position) (awake_of b.growing)
  past = All-weaker _ _ (λ x k. upto_past b.growing.way x.position b.last a.position k parts.2) _ h.reach

  grown_of : awake_of (woken a b.growing) ≡ awake_of b.growing ++ a ∷ []
  grown_of =
      woken_awake b.growing.consist b.growing.way a u parts.0 parts.1 n.placed.0
      (omega (arith, n.placed, ap length parts.0, length-map b.growing.consist.nodes (λ s. s.mask))) past

  grown_sound : PartSound (grown b a)
  grown_sound = record {
    done = h.done;
    consist = is_consist a (woken a b.growing).consist n u (wake_masks 1 a.position a.mac b.growing.consist.nodes ∙ sym parts.0);
    some = subst (λ r. 1 ≤ length r) (sym grown_of) (some_last (awake_of b.growing) a);
    own = h.own;
    reach = subst (AllByRecursion (λ x. Upto b.growing.way x.position a.position)) (sym grown_of)
        (All-append _ (awake_of b.growing) (a ∷ []) (All-weaker _ _ (λ x k. past_upto b.growing.way x.position a.position k) _ past) (upto_self b.growing.way a.position, tt));
  }

  grown_awake : awake (all_of (grown b a)) ≡ awake (all_of b) ++ a ∷ []
  grown_awake =
      awake_all b.finished (woken a b.growing) ∙ ap (λ r. awake b.finished ++ r) grown_of
      ∙ sym (append_assoc (awake b.finished) (awake_of b.growing) (a ∷ [])) ∙ ap (λ r. r ++ a ∷ []) (sym (awake_all b.finished b.growing))

-- a node that starts a consist behind finished ones
start_sound : (l : Line) (a : Awake) → Sound l → IsNode a → AllByRecursion (λ v. a.uuid ≡ v → ⊥) (uuids l) → PartSound (record { finished = l; growing = begun a; last = a.position })
start_sound l a h n d =
    let e = begun_awake a n.placed.0 n.placed.1 in
    record {
      done = h;
      consist = is_consist a (begun a).consist n refl (wake_masks 1 a.position a.mac (asleep a.masks) ∙ asleep_masks a.masks);
      some = subst (λ r. 1 ≤ length r) (sym e) (omega arith);
      own = d;
      reach = subst (AllByRecursion (λ x. Upto a.way x.position a.position)) (sym e) (upto_self a.way a.position, tt);
    }

next_awake : (l : Line) (a : Awake) → IsNode a → awake (l ++ begun a ∷ []) ≡ awake l ++ a ∷ []
next_awake l a n = awake_all l (begun a) ∙ ap (λ r. awake l ++ r) (begun_awake a n.placed.0 n.placed.1)

next_sound : (b : Part) (a : Awake) → PartSound b → IsNode a → (a.uuid ≡ b.growing.consist.uuid → ⊥) → AllByRecursion (λ v. a.uuid ≡ v → ⊥) (uuids b.finished) → PartSound (next b a)
next_sound b a h n d k =
    start_sound (all_of b) a (sound_all b h) n
    (subst (AllByRecursion (λ v. a.uuid ≡ v → ⊥)) (sym (uuids_append b.finished b.growing)) (All-append _ (uuids b.finished) (b.growing.consist.uuid ∷ []) k (d, tt)))

put_sound : (b c : Part) (a : Awake) → PartSound b → IsNode a → put b a ≡ Some c → PartSound c × (awake (all_of c) ≡ awake (all_of b) ++ a ∷ [])
put_sound b c a h n e = go _ _ _ refl refl refl e
  where
    Goal : Part → Type 0
    Goal c = PartSound c × (awake (all_of c) ≡ awake (all_of b) ++ a ∷ [])

    go : (x y z : Bool) → eqb a.uuid b.growing.consist.uuid ≡ x → goes_on b a ≡ y → among a.uuid (uuids b.finished) ≡ z
        → cond x (cond y (Some (grown b a)) None) (cond z None (Some (next b a))) ≡ Some c → Goal c
    go true true z hx hy hz e =
        let k : grown b a ≡ c = cc in
        let u = eqb-true _ _ hx in
        subst Goal k (grown_sound b a h n u hy, grown_awake b a h n u hy)
    go true false z hx hy hz e = absurd (let z : ◌≡◌ {A = ℕ} 0 1 = cc in omega arith)
    go false y true hx hy hz e = absurd (let z : ◌≡◌ {A = ℕ} 0 1 = cc in omega arith)
    go false y false hx hy hz e =
        let k : next b a ≡ c = cc in
        subst Goal k (next_sound b a h n (eqb-false _ _ hx) (not_among _ _ hz), next_awake (all_of b) a n)

all_sound : (xs : List Awake) (b : Part) (l : Line) → PartSound b → AllByRecursion IsNode xs → put_all b xs ≡ Some l → Sound l × (awake l ≡ awake (all_of b) ++ xs)
all_sound [] b l h n e =
    let k : all_of b ≡ l = cc in
    (subst Sound k (sound_all b h), ap awake (sym k) ∙ sym (append-nil (awake (all_of b))))
all_sound (a ∷ xs) b l h n e = go (put b a) refl (λ c. all_sound xs c l) e
  where
    go : (o : Option Part) → put b a ≡ o → ((c : Part) → PartSound c → AllByRecursion IsNode xs → put_all c xs ≡ Some l → Sound l × (awake l ≡ awake (all_of c) ++ xs))
        → elim o [ Some c ↦ put_all c xs | None ↦ None ] ≡ Some l → Sound l × (awake l ≡ awake (all_of b) ++ a ∷ xs)
    go (Some c) k ih e =
        let s = put_sound b c a h n.0 k in
        let r = ih c s.0 n.1 e in
        (r.0, r.1 ∙ ap (λ ys. ys ++ xs) s.1 ∙ append_assoc (awake (all_of b)) (a ∷ []) xs)
    go None k ih e = absurd (let z : ◌≡◌ {A = ℕ} 0 1 = cc in omega arith)

some_line : (l : Line) → 1 ≤ length (awake l) → 1 ≤ length l
some_line [] h = h
some_line (s ∷ l) h = omega arith

pub assemble_sound : (xs : List Awake) (l : Line) → Nodes xs → assemble xs ≡ Some l → IsLine l × (awake l ≡ xs)
assemble_sound [] l h e = absurd (omega (arith, h.some))
assemble_sound (a ∷ xs) l h e =
    let none : Sound [] = record { consists = tt; some_awake = tt; own_uuids = tt } in
    let r = all_sound xs _ l (start_sound [] a none h.each.0 tt) h.each.1 e in
    let w : awake l ≡ a ∷ xs = r.1 ∙ ap (λ ys. ys ++ xs) (next_awake [] a h.each.0) in (
      record {
        some_consist = some_line l (subst (λ ys. 1 ≤ length ys) (sym w) h.some);
        consists = r.0.consists;
        some_awake = r.0.some_awake;
        own_uuids = r.0.own_uuids;
        real_macs = subst (λ ys. AllByRecursion IsMac (macs ys)) (sym w) h.real_macs;
        own_macs = subst (λ ys. Different (macs ys)) (sym w) h.own_macs;
      },
      w,
    )
