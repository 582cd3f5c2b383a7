-- A line read from its other end: its awake nodes and its reports. Assumes nothing.
use Rattle.std.proofs.Common.{◌≡◌, ℕ, ◌+◌, List, [], ◌∷◌, ◌++◌, map, reverse, Some, None, Option, sym, refl, ap, ◌∙◌, subst, ap₂, append_assoc, append-nil}
use mathlib.Core.List.{reverse-cons, reverse-append, reverse-reverse, map-append}
use Rattle.report.specs.Reports.{Report}
use Rattle.train.specs.Line.{Way, forward, turned, other, Node, Consist, masks, Coupled, Line, turn, flip}
use Rattle.train.specs.Truth.{Awake, awake_from, awake_of, awake, facing, report, first_mac, reports, true_reports, In, Fits}
use Rattle.train.proofs.Members.{map_reverse, map_twice, in_reverse}

pub other_other : (w : Way) → other (other w) ≡ w
other_other forward = refl
other_other turned = refl

pub turn_turn : (s : Coupled) → turn (turn s) ≡ s
turn_turn s = λ i. record { consist = s.consist; way = other_other s.way i }

pub flip_flip : (l : Line) → flip (flip l) ≡ l
flip_flip l = ap reverse (map_reverse turn (map turn l)) ∙ reverse-reverse (map turn (map turn l)) ∙ map_twice turn turn_turn l

-- awake nodes seen from the other end
abbrev pub turn_awake : Awake → Awake
turn_awake a = record { mac = a.mac; uuid = a.uuid; position = a.position; masks = a.masks; way = other a.way }

abbrev pub flip_awake : List Awake → List Awake
flip_awake xs = reverse (map turn_awake xs)

pub flip_awake_cons : (a : Awake) (xs : List Awake) → flip_awake (a ∷ xs) ≡ flip_awake xs ++ turn_awake a ∷ []
flip_awake_cons a xs = reverse-cons (turn_awake a) (map turn_awake xs)

turn_awake_twice : (a : Awake) → turn_awake (turn_awake a) ≡ a
turn_awake_twice a = λ i. record { mac = a.mac; uuid = a.uuid; position = a.position; masks = a.masks; way = other_other a.way i }

pub flip_awake_twice : (xs : List Awake) → flip_awake (flip_awake xs) ≡ xs
flip_awake_twice xs =
    ap reverse (map_reverse turn_awake (map turn_awake xs)) ∙ reverse-reverse (map turn_awake (map turn_awake xs)) ∙ map_twice turn_awake turn_awake_twice xs

turn_from : (p : ℕ) (ns : List Node) (f : ℕ → ℕ → Awake) → map turn_awake (awake_from p ns f) ≡ awake_from p ns (λ m q. turn_awake (f m q))
turn_from p [] f = refl
turn_from p (n ∷ ns) f = go n.mac (turn_from (p + 1) ns f)
  where
    go : (o : Option ℕ) → map turn_awake (awake_from (p + 1) ns f) ≡ awake_from (p + 1) ns (λ m q. turn_awake (f m q))
        → map turn_awake (awake_from p (record { mask = n.mask; mac = o } ∷ ns) f) ≡ awake_from p (record { mask = n.mask; mac = o } ∷ ns) (λ m q. turn_awake (f m q))
    go (Some m) h = ap (λ r. turn_awake (f m p) ∷ r) h
    go None h = h

abbrev pub awake_at : Consist → Way → ℕ → ℕ → Awake
awake_at c w m p = record { mac = m; uuid = c.uuid; position = p; masks = masks c; way = w }

-- the awake nodes of a consist by rising position
abbrev pub awake_up : Consist → Way → List Awake
awake_up c w = awake_from 1 c.nodes (awake_at c w)

awake_other : (c : Consist) (w : Way) → let s : Coupled = record { consist = c; way = w } in awake_of (turn s) ≡ flip_awake (awake_of s)
awake_other c forward = ap reverse (sym (turn_from 1 c.nodes (awake_at c forward)))
awake_other c turned = sym (turn_from 1 c.nodes (awake_at c turned)) ∙ sym (reverse-reverse _) ∙ ap reverse (sym (map_reverse turn_awake (awake_up c turned)))

pub awake_turn : (s : Coupled) → awake_of (turn s) ≡ flip_awake (awake_of s)
awake_turn s = awake_other s.consist s.way

pub awake_append : (l k : Line) → awake (l ++ k) ≡ awake l ++ awake k
awake_append [] k = refl
awake_append (s ∷ l) k = ap (λ r. awake_of s ++ r) (awake_append l k) ∙ sym (append_assoc (awake_of s) (awake l) (awake k))

pub awake_flip : (l : Line) → awake (flip l) ≡ flip_awake (awake l)
awake_flip [] = refl
awake_flip (s ∷ l) =
    ap awake (reverse-cons (turn s) (map turn l)) ∙ awake_append (flip l) (turn s ∷ []) ∙ ap₂ ◌++◌ (awake_flip l) (append-nil (awake_of (turn s)) ∙ awake_turn s)
    ∙ sym (reverse-append (map turn_awake (awake_of s)) (map turn_awake (awake l))) ∙ ap reverse (sym (map-append turn_awake (awake_of s) (awake l)))

-- reports of awake nodes with a neighbour to the left of the first and one to the right of the last
abbrev pub first_or : List Awake → ℕ → ℕ
first_or [] r = r
first_or (a ∷ xs) r = a.mac

abbrev pub last_or : ℕ → List Awake → ℕ
last_or l [] = l
last_or l (a ∷ xs) = last_or a.mac xs

abbrev reports_between : ℕ → List Awake → ℕ → List Report
reports_between l [] r = []
reports_between l (a ∷ xs) r = report l a (first_or xs r) ∷ reports_between a.mac xs r

first_or_0 : (xs : List Awake) → first_or xs 0 ≡ first_mac xs
first_or_0 [] = refl
first_or_0 (x ∷ xs) = refl

between_0 : (l : ℕ) (xs : List Awake) → reports_between l xs 0 ≡ reports l xs
between_0 l [] = refl
between_0 l (a ∷ xs) = ap₂ ◌∷◌ (ap (report l a) (first_or_0 xs)) (between_0 a.mac xs)

first_push : (xs : List Awake) (a : Awake) (r : ℕ) → first_or (xs ++ a ∷ []) r ≡ first_or xs a.mac
first_push [] a r = refl
first_push (x ∷ xs) a r = refl

between_push : (l : ℕ) (xs : List Awake) (a : Awake) (r : ℕ) → reports_between l (xs ++ a ∷ []) r ≡ reports_between l xs a.mac ++ report (last_or l xs) a r ∷ []
between_push l [] a r = refl
between_push l (x ∷ xs) a r = ap₂ ◌∷◌ (ap (report l x) (first_push xs a r)) (between_push x.mac xs a r)

pub last_push : (l : ℕ) (xs : List Awake) (a : Awake) → last_or l (xs ++ a ∷ []) ≡ a.mac
last_push l [] a = refl
last_push l (x ∷ xs) a = last_push x.mac xs a

pub last_flip : (l : ℕ) (xs : List Awake) → last_or l (flip_awake xs) ≡ first_or xs l
last_flip l [] = refl
last_flip l (x ∷ xs) = ap (last_or l) (flip_awake_cons x xs) ∙ last_push l (flip_awake xs) (turn_awake x)

pub first_flip : (xs : List Awake) → first_mac (flip_awake xs) ≡ last_or 0 xs
first_flip xs = sym (ap (last_or 0) (sym (flip_awake_twice xs)) ∙ last_flip 0 (flip_awake xs) ∙ first_or_0 (flip_awake xs))

facing_other : (w : Way) (l r : ℕ) → facing (other w) r l ≡ facing w l r
facing_other forward l r = refl
facing_other turned l r = refl

-- from the other end a node reports the same
pub report_turn : (l r : ℕ) (a : Awake) → report r (turn_awake a) l ≡ report l a r
report_turn l r a = λ i. record {
  mac = a.mac;
  side1 = facing_other a.way l r i;
  side2 = facing_other a.way r l i;
  uuid = a.uuid;
  position = a.position;
  masks = a.masks;
}

between_flip : (l : ℕ) (xs : List Awake) (r : ℕ) → reports_between r (flip_awake xs) l ≡ reverse (reports_between l xs r)
between_flip l [] r = refl
between_flip l (a ∷ xs) r =
    ap (λ ys. reports_between r ys l) (flip_awake_cons a xs) ∙ between_push r (flip_awake xs) (turn_awake a) l
    ∙ ap₂ (λ ys x. ys ++ x ∷ []) (between_flip a.mac xs r) (ap (λ n. report n (turn_awake a) l) (last_flip r xs) ∙ report_turn l (first_or xs r) a)
    ∙ sym (reverse-cons (report l a (first_or xs r)) (reports_between a.mac xs r))

pub reports_flip : (xs : List Awake) → reports 0 (flip_awake xs) ≡ reverse (reports 0 xs)
reports_flip xs = sym (between_0 0 (flip_awake xs)) ∙ between_flip 0 xs 0 ∙ ap reverse (between_0 0 xs)

pub true_reports_flip : (l : Line) → true_reports (flip l) ≡ reverse (true_reports l)
true_reports_flip l = ap (reports 0) (awake_flip l) ∙ reports_flip (awake l)

pub flip_fits : (held : List Report) (l : Line) → Fits l held → Fits (flip l) held
flip_fits held l f = record {
  each_true = λ r i. subst (λ xs. In r xs) (sym (true_reports_flip l)) (in_reverse r (true_reports l) (f.each_true r i));
  each_held = λ r i. f.each_held r (subst (λ xs. In r xs) (reverse-reverse (true_reports l)) (in_reverse r _ (subst (λ xs. In r xs) (true_reports_flip l) i)));
}
