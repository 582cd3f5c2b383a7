-- No rule is broken exactly where this is a line within the limits. Assumes nothing.
use Rattle.std.proofs.Common.{◌≡◌, ℕ, suc, ◌+◌, ◌^◌, ◌≤◌, Bool, true, false, not, ◌&&◌, eqb, leb, ◌⊎◌, List, [], ◌∷◌, ◌++◌, map, reverse, length, is_ok, Some, None, Option, Result, sym, refl, ap, ◌∙◌, subst, ap₂, inl, inr, ⊎_elim, arith}
use mathlib.Core.List.{map-append}
use Rattle.std.specs.Option.{option_map}
use Rattle.std.specs.List.{flat_map, AllByRecursion}
use Rattle.std.proofs.lemmas.List.{length-reverse, length-map, reverse-reverse, append-nil, append_assoc}
use Rattle.std.proofs.lemmas.Bool.{and_parts, and_from, leb-true, le-leb, ltb-true, lt-ltb, eqb-false, ne_eqb, or_parts, or_from, not-true}
use Rattle.report.specs.Masks.{is_mask, gapless}
use Rattle.report.specs.Reports.{is_mac, is_uuid}
use Rattle.train.specs.Line.{Way, forward, turned, Node, Consist, masks, Coupled, Line}
use Rattle.train.specs.Truth.{Awake, awake_from, awake_of, awake}
use Rattle.train.specs.Rules.{Different, uuids, macs, IsMac, IsUuid, IsConsist, IsLine, node_count, network_count, bit_count, Within}
use Rattle.train.proofs.Flip.{awake_at, awake_up}
use Rattle.train.proofs.Members.{map_reverse, all_reverse, different_reverse, different_append}
use Rattle.composition.specs.declared.fault.ConsistRule.{ConsistRule}
use Rattle.composition.specs.declared.fault.ConsistRule.TheVariants.{NoUuid, NodeCount, NoNetwork, Gap, NoneAwake, WrongMac}
use Rattle.composition.specs.declared.fault.ConsistFault.{ConsistFault}
use Rattle.composition.specs.declared.fault.LineFault.{LineFault}
use Rattle.composition.specs.declared.fault.LineFault.TheVariants.{NoConsist, InConsist, UuidTwice, MacTwice, Nodes, Networks, Bits}
use Rattle.composition.specs.Faults.{told, or_else, unless, mask_fault, mac_then, macs_in, mac_fits, mac_fault, consist_fault, consists_fault, among, repeats, twice_at, uuid_row, mac_row, uuid_fault, mac_twice_fault, limit_fault, line_fault}
use Rattle.composition.specs.Exact.{Exactly}

-- no fault, by its parts
none_left : {F : Type 0} (o p : Option F) → or_else o p ≡ None → o ≡ None
none_left None p e = refl
none_left (Some f) p e = e

none_right : {F : Type 0} (o p : Option F) → or_else o p ≡ None → p ≡ None
none_right None p e = e
none_right (Some f) p e = let z : ◌≡◌ {A = ℕ} 0 1 = cc in absurd (let n : ⊥ = omega arith in n)

none_both : {F : Type 0} (o p : Option F) → o ≡ None → p ≡ None → or_else o p ≡ None
none_both o p e f = ap (λ q. or_else q p) e ∙ f

passes : {F : Type 0} (b : Bool) (f : F) → unless b f ≡ None → b ≡ true
passes true f e = refl
passes false f e = let z : ◌≡◌ {A = ℕ} 0 1 = cc in absurd (let n : ⊥ = omega arith in n)

passed : {F : Type 0} (b : Bool) (f : F) → b ≡ true → unless b f ≡ None
passed b f e = ap (λ t. unless t f) e

unmapped : {F G : Type 0} (g : F → G) (o : Option F) → option_map g o ≡ None → o ≡ None
unmapped g None e = refl
unmapped g (Some f) e = let z : ◌≡◌ {A = ℕ} 0 1 = cc in absurd (let n : ⊥ = omega arith in n)

-- the nodes of a consist
masks_of_none : (p : ℕ) (ns : List Node) → mask_fault p ns ≡ None → AllByRecursion (λ m. (1 ≤ m) × (m ≤ 255)) (map (λ n. n.mask) ns)
masks_of_none p [] e = tt
masks_of_none p (n ∷ ns) e =
    let b = passes (is_mask n.mask) (NoNetwork p) (none_left (unless (is_mask n.mask) (NoNetwork p)) (mask_fault (p + 1) ns) e) in
    let parts = and_parts (leb 1 n.mask) (leb n.mask 255) b in
    ((leb-true 1 n.mask parts.0, leb-true n.mask 255 parts.1), masks_of_none (p + 1) ns (none_right (unless (is_mask n.mask) (NoNetwork p)) (mask_fault (p + 1) ns) e))

none_of_masks : (p : ℕ) (ns : List Node) → AllByRecursion (λ m. (1 ≤ m) × (m ≤ 255)) (map (λ n. n.mask) ns) → mask_fault p ns ≡ None
none_of_masks p [] h = refl
none_of_masks p (n ∷ ns) h =
    none_both (unless (is_mask n.mask) (NoNetwork p)) (mask_fault (p + 1) ns)
    (passed (is_mask n.mask) (NoNetwork p) (and_from (leb 1 n.mask) (leb n.mask 255) (le-leb 1 n.mask h.0.0) (le-leb n.mask 255 h.0.1)))
    (none_of_masks (p + 1) ns h.1)

real_mac : (m : ℕ) → is_mac m ≡ true → IsMac m
real_mac m e = let parts = and_parts (leb 1 m) (leb (suc m) (2 ^ 48)) e in (leb-true 1 m parts.0, ltb-true m (2 ^ 48) parts.1)

mac_real : (m : ℕ) → IsMac m → is_mac m ≡ true
mac_real m h = and_from (leb 1 m) (leb (suc m) (2 ^ 48)) (le-leb 1 m h.0) (lt-ltb m (2 ^ 48) h.1)

then_all : (o : Option ℕ) (ms : List ℕ) → mac_fits o ≡ true → AllByRecursion IsMac ms → AllByRecursion IsMac (mac_then o ms)
then_all None ms e h = h
then_all (Some m) ms e h = (real_mac m e, h)

all_then : (o : Option ℕ) (ms : List ℕ) → AllByRecursion IsMac (mac_then o ms) → (mac_fits o ≡ true) × AllByRecursion IsMac ms
all_then None ms h = (refl, h)
all_then (Some m) ms h = (mac_real m h.0, h.1)

macs_of_none : (p : ℕ) (ns : List Node) → mac_fault p ns ≡ None → AllByRecursion IsMac (macs_in ns)
macs_of_none p [] e = tt
macs_of_none p (n ∷ ns) e =
    then_all n.mac (macs_in ns) (passes (mac_fits n.mac) (WrongMac p) (none_left (unless (mac_fits n.mac) (WrongMac p)) (mac_fault (p + 1) ns) e))
    (macs_of_none (p + 1) ns (none_right (unless (mac_fits n.mac) (WrongMac p)) (mac_fault (p + 1) ns) e))

none_of_macs : (p : ℕ) (ns : List Node) → AllByRecursion IsMac (macs_in ns) → mac_fault p ns ≡ None
none_of_macs p [] h = refl
none_of_macs p (n ∷ ns) h =
    let parts = all_then n.mac (macs_in ns) h in
    none_both (unless (mac_fits n.mac) (WrongMac p)) (mac_fault (p + 1) ns) (passed (mac_fits n.mac) (WrongMac p) parts.0) (none_of_macs (p + 1) ns parts.1)

-- a consist
pub record Keeps (c : Consist) : Type 0 where
  pub is : IsConsist c
  pub awake : 1 ≤ length (macs_in c.nodes)
  pub macs : AllByRecursion IsMac (macs_in c.nodes)

real_uuid : (u : ℕ) → is_uuid u ≡ true → IsUuid u
real_uuid u e = let parts = and_parts (leb 1 u) (leb (suc u) (2 ^ 128)) e in (leb-true 1 u parts.0, ltb-true u (2 ^ 128) parts.1)

uuid_real : (u : ℕ) → IsUuid u → is_uuid u ≡ true
uuid_real u h = and_from (leb 1 u) (leb (suc u) (2 ^ 128)) (le-leb 1 u h.0) (lt-ltb u (2 ^ 128) h.1)

module _ (c : Consist) where
  abbrev count : Bool
  count = leb 1 (length c.nodes) && leb (length c.nodes) 4

  abbrev from_macs : Option ConsistRule
  from_macs = mac_fault 1 c.nodes

  abbrev from_awake : Option ConsistRule
  from_awake = or_else (unless (leb 1 (length (macs_in c.nodes))) NoneAwake) from_macs

  abbrev from_gaps : Option ConsistRule
  from_gaps = or_else (unless (gapless (masks c)) Gap) from_awake

  abbrev from_masks : Option ConsistRule
  from_masks = or_else (mask_fault 1 c.nodes) from_gaps

  abbrev from_count : Option ConsistRule
  from_count = or_else (unless count NodeCount) from_masks

  keeps : consist_fault c ≡ None → Keeps c
  keeps e =
      let uuid_b = unless (is_uuid c.uuid) NoUuid in
      let u = real_uuid c.uuid (passes (is_uuid c.uuid) NoUuid (none_left uuid_b from_count e)) in
      let e1 = none_right uuid_b from_count e in
      let n = and_parts (leb 1 (length c.nodes)) (leb (length c.nodes) 4) (passes count NodeCount (none_left (unless count NodeCount) from_masks e1)) in
      let e2 = none_right (unless count NodeCount) from_masks e1 in
      let m = masks_of_none 1 c.nodes (none_left (mask_fault 1 c.nodes) from_gaps e2) in
      let e3 = none_right (mask_fault 1 c.nodes) from_gaps e2 in
      let g = passes (gapless (masks c)) Gap (none_left (unless (gapless (masks c)) Gap) from_awake e3) in
      let e4 = none_right (unless (gapless (masks c)) Gap) from_awake e3 in
      let b = leb 1 (length (macs_in c.nodes)) in
      let a = leb-true 1 (length (macs_in c.nodes)) (passes b NoneAwake (none_left (unless b NoneAwake) from_macs e4)) in
      let e5 = none_right (unless b NoneAwake) from_macs e4 in
      record {
        is = record { named = u; some_node = leb-true 1 (length c.nodes) n.0; few_nodes = leb-true (length c.nodes) 4 n.1; some_network = m; no_gap = g };
        awake = a;
        macs = macs_of_none 1 c.nodes e5;
      }

  kept : Keeps c → consist_fault c ≡ None
  kept h =
      none_both (unless (is_uuid c.uuid) NoUuid) from_count (passed (is_uuid c.uuid) NoUuid (uuid_real c.uuid h.is.named))
      (none_both (unless count NodeCount) from_masks
      (passed count NodeCount (and_from (leb 1 (length c.nodes)) (leb (length c.nodes) 4) (le-leb 1 (length c.nodes) h.is.some_node) (le-leb (length c.nodes) 4 h.is.few_nodes)))
      (none_both (mask_fault 1 c.nodes) from_gaps (none_of_masks 1 c.nodes h.is.some_network)
      (none_both (unless (gapless (masks c)) Gap) from_awake (passed (gapless (masks c)) Gap h.is.no_gap)
      (none_both (unless (leb 1 (length (macs_in c.nodes))) NoneAwake) from_macs
      (passed (leb 1 (length (macs_in c.nodes))) NoneAwake (le-leb 1 (length (macs_in c.nodes)) h.awake))
      (none_of_macs 1 c.nodes h.macs)))))

all_keep : (k : ℕ) (l : Line) → consists_fault k l ≡ None → AllByRecursion (λ s. Keeps s.consist) l
all_keep k [] e = tt
all_keep k (s ∷ l) e =
    let here = option_map (λ f. record { place = k; rule = f }) (consist_fault s.consist) in
    (keeps s.consist (unmapped (λ f. record { place = k; rule = f }) (consist_fault s.consist) (none_left here (consists_fault (k + 1) l) e)), all_keep (k + 1) l (none_right here (consists_fault (k + 1) l) e))

all_kept : (k : ℕ) (l : Line) → AllByRecursion (λ s. Keeps s.consist) l → consists_fault k l ≡ None
all_kept k [] h = refl
all_kept k (s ∷ l) h =
    let placed : ConsistRule → ConsistFault = λ f. record { place = k; rule = f } in
    none_both (option_map placed (consist_fault s.consist)) (consists_fault (k + 1) l) (ap (option_map placed) (kept s.consist h.0)) (all_kept (k + 1) l h.1)

-- lists whose numbers all differ
all_split : {A : Type 0} (P : A → Type 0) (xs ys : List A) → AllByRecursion P (xs ++ ys) → AllByRecursion P xs × AllByRecursion P ys
all_split P [] ys h = (tt, h)
all_split P (x ∷ xs) ys h = let rest = all_split P xs ys h.1 in ((h.0, rest.0), rest.1)

pub all_join : {A : Type 0} (P : A → Type 0) (xs ys : List A) → AllByRecursion P xs → AllByRecursion P ys → AllByRecursion P (xs ++ ys)
all_join P [] ys h k = k
all_join P (x ∷ xs) ys h k = (h.0, all_join P xs ys h.1 k)

pub all_weaker : {A : Type 0} (P Q : A → Type 0) → ((x : A) → P x → Q x) → (xs : List A) → AllByRecursion P xs → AllByRecursion Q xs
all_weaker P Q f [] h = tt
all_weaker P Q f (x ∷ xs) h = (f x h.0, all_weaker P Q f xs h.1)

abbrev Apart : ℕ → List ℕ → Type 0
Apart x ys = AllByRecursion (λ y. x ≡ y → ⊥) ys

split : (xs ys : List ℕ) → Different (xs ++ ys) → Different xs × Different ys × AllByRecursion (λ x. Apart x ys) xs
split [] ys h = (tt, h, tt)
split (x ∷ xs) ys h =
    let parts = all_split (λ y. x ≡ y → ⊥) xs ys h.0 in
    let rest = split xs ys h.1 in
    ((parts.0, rest.0), rest.1, (parts.1, rest.2))

-- each block of numbers as it stands, or turned
module _ (f g : Coupled → List ℕ) (as_or_turned : (s : Coupled) → (g s ≡ f s) ⊎ (g s ≡ reverse (f s))) where
  all_block : (P : ℕ → Type 0) (s : Coupled) → AllByRecursion P (f s) → AllByRecursion P (g s)
  all_block P s h = ⊎_elim (λ e. subst (AllByRecursion P) (sym e) h) (λ e. subst (AllByRecursion P) (sym e) (all_reverse P (f s) h)) (as_or_turned s)

  different_block : (s : Coupled) → Different (f s) → Different (g s)
  different_block s h = ⊎_elim (λ e. subst Different (sym e) h) (λ e. subst Different (sym e) (different_reverse (f s) h)) (as_or_turned s)

  all_blocks : (P : ℕ → Type 0) (l : Line) → AllByRecursion P (flat_map f l) → AllByRecursion P (flat_map g l)
  all_blocks P [] h = tt
  all_blocks P (s ∷ l) h =
      let parts = all_split P (f s) (flat_map f l) h in
      all_join P (g s) (flat_map g l) (all_block P s parts.0) (all_blocks P l parts.1)

  different_blocks : (l : Line) → Different (flat_map f l) → Different (flat_map g l)
  different_blocks [] h = tt
  different_blocks (s ∷ l) h =
      let parts = split (f s) (flat_map f l) h in
      different_append (g s) (flat_map g l) (different_block s parts.0) (different_blocks l parts.1)
      (all_block (λ x. Apart x (flat_map g l)) s (all_weaker (λ x. Apart x (flat_map f l)) (λ x. Apart x (flat_map g l)) (λ x. all_blocks (λ y. x ≡ y → ⊥) l) (f s) parts.2))

-- no number stands before it
lacking : (x : ℕ) (ys : List ℕ) → among x ys ≡ false → AllByRecursion (λ y. Apart y (x ∷ [])) ys
lacking x [] e = tt
lacking x (y ∷ ys) e =
    let parts = or_parts (eqb x y) (among x ys) e in
    (((λ same. eqb-false x y parts.0 (sym same)), tt), lacking x ys parts.1)

lacks : (x : ℕ) (ys rest : List ℕ) → AllByRecursion (λ y. Apart y (x ∷ rest)) ys → among x ys ≡ false
lacks x [] rest h = refl
lacks x (y ∷ ys) rest h = or_from (eqb x y) (among x ys) (ne_eqb x y (λ e. h.0.0 (sym e))) (lacks x ys rest h.1)

fresh : (seen xs : List ℕ) → repeats seen xs ≡ false → Different seen → Different (seen ++ xs)
fresh seen [] e d = subst Different (sym (append-nil seen)) d
fresh seen (x ∷ xs) e d =
    let parts = or_parts (among x seen) (repeats (seen ++ x ∷ []) xs) e in
    subst Different (append_assoc seen (x ∷ []) xs)
    (fresh (seen ++ x ∷ []) xs parts.1 (different_append seen (x ∷ []) d (tt, tt) (lacking x seen parts.0)))

no_repeat : (seen xs : List ℕ) → Different (seen ++ xs) → repeats seen xs ≡ false
no_repeat seen [] d = refl
no_repeat seen (x ∷ xs) d =
    or_from (among x seen) (repeats (seen ++ x ∷ []) xs) (lacks x seen xs (split seen (x ∷ xs) d).2)
    (no_repeat (seen ++ x ∷ []) xs (subst Different (sym (append_assoc seen (x ∷ []) xs)) d))

module _ (f : Coupled → List ℕ) where
  differ : (k : ℕ) (seen : List ℕ) (l : Line) → twice_at k seen (map f l) ≡ None → Different seen → Different (seen ++ flat_map f l)
  differ k seen [] e d = subst Different (sym (append-nil seen)) d
  differ k seen (s ∷ l) e d =
      let here = unless (not (repeats seen (f s))) k in
      let rest = twice_at (k + 1) (seen ++ f s) (map f l) in
      let new = not-true (repeats seen (f s)) (passes (not (repeats seen (f s))) k (none_left here rest e)) in
      subst Different (append_assoc seen (f s) (flat_map f l)) (differ (k + 1) (seen ++ f s) l (none_right here rest e) (fresh seen (f s) new d))

  none_twice : (k : ℕ) (seen : List ℕ) (l : Line) → Different (seen ++ flat_map f l) → twice_at k seen (map f l) ≡ None
  none_twice k seen [] d = refl
  none_twice k seen (s ∷ l) d =
      let d' = subst Different (sym (append_assoc seen (f s) (flat_map f l))) d in
      none_both (unless (not (repeats seen (f s))) k) (twice_at (k + 1) (seen ++ f s) (map f l))
      (passed (not (repeats seen (f s))) k (ap not (no_repeat seen (f s) (split (seen ++ f s) (flat_map f l) d').0)))
      (none_twice (k + 1) (seen ++ f s) l d')

-- UUIDs, and the MACs of the awake nodes
uuids_are : (l : Line) → flat_map uuid_row l ≡ uuids l
uuids_are [] = refl
uuids_are (s ∷ l) = ap (λ us. s.consist.uuid ∷ us) (uuids_are l)

abbrev awake_macs : Coupled → List ℕ
awake_macs s = macs (awake_of s)

macs_are : (l : Line) → flat_map awake_macs l ≡ macs (awake l)
macs_are [] = refl
macs_are (s ∷ l) = ap (λ ms. awake_macs s ++ ms) (macs_are l) ∙ sym (map-append (λ a. a.mac) (awake_of s) (awake l))

rising : (p : ℕ) (ns : List Node) (made : ℕ → ℕ → Awake) → ((m p : ℕ) → (made m p).mac ≡ m) → macs (awake_from p ns made) ≡ macs_in ns
rising p [] made h = refl
rising p (n ∷ ns) made h = by n.mac (rising (p + 1) ns made h)
  where
    by : (o : Option ℕ) → macs (awake_from (p + 1) ns made) ≡ macs_in ns
        → macs (elim o [ Some m ↦ made m p ∷ awake_from (p + 1) ns made | None ↦ awake_from (p + 1) ns made ]) ≡ mac_then o (macs_in ns)
    by (Some m) e = ap₂ ◌∷◌ (h m p) e
    by None e = e

turned_or_not : (c : Consist) (w : Way) → let s : Coupled = record { consist = c; way = w } in (awake_macs s ≡ mac_row s) ⊎ (awake_macs s ≡ reverse (mac_row s))
turned_or_not c forward = inl (rising 1 c.nodes (awake_at c forward) (λ m p. refl))
turned_or_not c turned = inr (map_reverse (λ a. a.mac) (awake_up c turned) ∙ ap reverse (rising 1 c.nodes (awake_at c turned) (λ m p. refl)))

there : (s : Coupled) → (awake_macs s ≡ mac_row s) ⊎ (awake_macs s ≡ reverse (mac_row s))
there s = turned_or_not s.consist s.way

back : (s : Coupled) → (mac_row s ≡ awake_macs s) ⊎ (mac_row s ≡ reverse (awake_macs s))
back s = ⊎_elim (λ e. inl (sym e)) (λ e. inr (sym (ap reverse e ∙ reverse-reverse (mac_row s)))) (there s)

pub as_many : (s : Coupled) → length (macs_in s.consist.nodes) ≡ length (awake_of s)
as_many s =
    sym (sym (length-map (awake_of s) (λ a. a.mac)) ∙ ⊎_elim (λ e. ap length e) (λ e. ap length e ∙ length-reverse (mac_row s)) (there s))

-- the whole line
module _ (l : Line) where
  abbrev limits : Option LineFault
  limits = limit_fault l

  abbrev from_macs_on : Option LineFault
  from_macs_on = or_else (mac_twice_fault l) limits

  abbrev from_uuids_on : Option LineFault
  from_uuids_on = or_else (uuid_fault l) from_macs_on

  abbrev from_consists_on : Option LineFault
  from_consists_on = or_else (option_map InConsist (consists_fault 0 l)) from_uuids_on

  within : limits ≡ None → Within l
  within e =
      let n = unless (leb (node_count l) 63) Nodes in
      let w = unless (leb (network_count l) 63) Networks in
      let b = unless (leb (bit_count l) 128) Bits in
      let e' = none_right n (or_else w b) e in
      record {
        nodes = leb-true (node_count l) 63 (passes (leb (node_count l) 63) Nodes (none_left n (or_else w b) e));
        networked = leb-true (network_count l) 63 (passes (leb (network_count l) 63) Networks (none_left w b e'));
        bits = leb-true (bit_count l) 128 (passes (leb (bit_count l) 128) Bits (none_right w b e'));
      }

  no_limit : Within l → limits ≡ None
  no_limit h =
      let w = unless (leb (network_count l) 63) Networks in
      let b = unless (leb (bit_count l) 128) Bits in
      none_both (unless (leb (node_count l) 63) Nodes) (or_else w b) (passed (leb (node_count l) 63) Nodes (le-leb (node_count l) 63 h.nodes))
      (none_both w b (passed (leb (network_count l) 63) Networks (le-leb (network_count l) 63 h.networked)) (passed (leb (bit_count l) 128) Bits (le-leb (bit_count l) 128 h.bits)))

  all_macs : (k : Line) → AllByRecursion (λ s. Keeps s.consist) k → AllByRecursion IsMac (flat_map mac_row k)
  all_macs [] h = tt
  all_macs (s ∷ k) h = all_join IsMac (mac_row s) (flat_map mac_row k) h.0.macs (all_macs k h.1)

  is_line : line_fault l ≡ None → IsLine l × Within l
  is_line e =
      let some = unless (leb 1 (length l)) NoConsist in
      let e1 = none_right some from_consists_on e in
      let consists = option_map InConsist (consists_fault 0 l) in
      let keep = all_keep 0 l (unmapped InConsist (consists_fault 0 l) (none_left consists from_uuids_on e1)) in
      let e2 = none_right consists from_uuids_on e1 in
      let own = differ uuid_row 0 [] l (unmapped UuidTwice (twice_at 0 [] (map uuid_row l)) (none_left (uuid_fault l) from_macs_on e2)) tt in
      let e3 = none_right (uuid_fault l) from_macs_on e2 in
      let apart = differ mac_row 0 [] l (unmapped MacTwice (twice_at 0 [] (map mac_row l)) (none_left (mac_twice_fault l) limits e3)) tt in (
        record {
          some_consist = leb-true 1 (length l) (passes (leb 1 (length l)) NoConsist (none_left some from_consists_on e));
          consists = all_weaker (λ s. Keeps s.consist) (λ s. IsConsist s.consist) (λ s h. h.is) l keep;
          some_awake = all_weaker (λ s. Keeps s.consist) (λ s. 1 ≤ length (awake_of s)) (λ s h. subst (λ n. 1 ≤ n) (as_many s) h.awake) l keep;
          own_uuids = subst Different (uuids_are l) own;
          real_macs = subst (AllByRecursion IsMac) (macs_are l) (all_blocks mac_row awake_macs there IsMac l (all_macs l keep));
          own_macs = subst Different (macs_are l) (different_blocks mac_row awake_macs there l apart);
        },
        within (none_right (mac_twice_fault l) limits e3),
      )

  all_keeps : (k : Line) → AllByRecursion (λ s. IsConsist s.consist) k → AllByRecursion (λ s. 1 ≤ length (awake_of s)) k → AllByRecursion IsMac (flat_map mac_row k) → AllByRecursion (λ s. Keeps s.consist) k
  all_keeps [] h a m = tt
  all_keeps (s ∷ k) h a m =
      let parts = all_split IsMac (mac_row s) (flat_map mac_row k) m in
      (record { is = h.0; awake = subst (λ n. 1 ≤ n) (sym (as_many s)) a.0; macs = parts.0 }, all_keeps k h.1 a.1 parts.1)

  pub no_fault : IsLine l → Within l → line_fault l ≡ None
  no_fault h w =
      let real = all_blocks awake_macs mac_row back IsMac l (subst (AllByRecursion IsMac) (sym (macs_are l)) h.real_macs) in
      let apart = different_blocks awake_macs mac_row back l (subst Different (sym (macs_are l)) h.own_macs) in
      none_both (unless (leb 1 (length l)) NoConsist) from_consists_on (passed (leb 1 (length l)) NoConsist (le-leb 1 (length l) h.some_consist))
      (none_both (option_map InConsist (consists_fault 0 l)) from_uuids_on (ap (option_map InConsist) (all_kept 0 l (all_keeps l h.consists h.some_awake real)))
      (none_both (uuid_fault l) from_macs_on (ap (option_map UuidTwice) (none_twice uuid_row 0 [] l (subst Different (sym (uuids_are l)) h.own_uuids)))
      (none_both (mac_twice_fault l) limits (ap (option_map MacTwice) (none_twice mac_row 0 [] l apart)) (no_limit w))))

ok_none : {F : Type 0} (o : Option F) → is_ok (told o) ≡ true → o ≡ None
ok_none None e = refl
ok_none (Some f) e = let z : ◌≡◌ {A = ℕ} 0 1 = cc in absurd (let n : ⊥ = omega arith in n)

pub exact : (l : Line) (r : Result (Unit {0}) LineFault) → r ≡ told (line_fault l) → Exactly l r
exact l r e = subst (Exactly l) (sym e) (record {
  ok = λ h w. ap (λ o. is_ok (told o)) (no_fault l h w);
  line = λ h. (is_line l (ok_none (line_fault l) h)).0;
  within = λ h. (is_line l (ok_none (line_fault l) h)).1;
})
