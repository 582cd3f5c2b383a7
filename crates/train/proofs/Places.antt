-- The nodes of a line as they are met in its reading, each with its UUID and position. Assumes nothing.
use Rattle.std.proofs.Common.{◌≡◌, ℕ, ◌+◌, ◌≤◌, List, [], ◌∷◌, map, length, sym, refl, ap, ◌∙◌, subst, ap₂, arith}
use Rattle.std.specs.List.{flat_map, AllByRecursion}
use Rattle.std.proofs.lemmas.List.{length-append, length-map, length-reverse}
use Rattle.train.specs.Line.{Way, forward, turned, masks, Coupled, Line}
use Rattle.train.specs.Truth.{In}
use Rattle.train.specs.Rules.{Different, uuids, IsConsist, node_count}
use Rattle.train.specs.Rows.{reading, counted, Met, nodes_in, met_in, met}
use Rattle.train.proofs.Members.{map_reverse, map-map, map_joined, in_reverse, of_reverse, in_map, of_map, in_joined, of_joined, all_in, all_from_in}
use Rattle.train.proofs.Members.{of_counted, in_counted, counted_in, length_counted, different_append, different_reverse, different_map, different_counted}
use Rattle.train.proofs.Totals.{total_reading, as_many_masks}
use Rattle.train.proofs.Meetings.{Masked}

-- the nodes of a consist, whichever way they are met
in_met : (u : ℕ) (ms : List ℕ) (w : Way) (x : Met) → In x (nodes_in u ms w) → In x (met_in u ms w)
in_met u ms forward x i = i
in_met u ms turned x i = in_reverse x (nodes_in u ms turned) i

of_met : (u : ℕ) (ms : List ℕ) (w : Way) (x : Met) → In x (met_in u ms w) → In x (nodes_in u ms w)
of_met u ms forward x i = i
of_met u ms turned x i = of_reverse x (nodes_in u ms turned) i

abbrev pub node_at : ℕ → Way → ℕ × ℕ → Met
node_at u w n = record { uuid = u; position = n.0; mask = n.1; way = w }

-- each node met has the UUID and a mask of its consist
pub met_of_consist : (u : ℕ) (ms : List ℕ) (w : Way) (x : Met) → In x (met_in u ms w) → (x.uuid ≡ u) × In x.mask ms × In (x.position, x.mask) (counted 1 ms)
met_of_consist u ms w x i =
    let r = of_map (node_at u w) x (counted 1 ms) (of_met u ms w x i) in
    let j : In (x.position, x.mask) (counted 1 ms) = subst (λ q. In (q.position, q.mask) (counted 1 ms)) (sym r.2) r.1 in
    (ap (λ q. q.uuid) r.2, counted_in 1 x.position x.mask ms j, j)

-- each mask of a consist is that of a node met
pub consist_met : (u : ℕ) (ms : List ℕ) (w : Way) (p m : ℕ) → In (p, m) (counted 1 ms) → In (node_at u w (p, m)) (met_in u ms w)
consist_met u ms w p m i = in_met u ms w (node_at u w (p, m)) (in_map (node_at u w) (p, m) (counted 1 ms) i)

abbrev pub met_of : Coupled → List Met
met_of s = met_in s.consist.uuid (masks s.consist) s.way

pub node_met : (l : Line) (s : Coupled) (p m : ℕ) → In s l → In (p, m) (counted 1 (masks s.consist)) → In (node_at s.consist.uuid s.way (p, m)) (met l)
node_met l s p m i j = in_joined met_of s _ l i (consist_met s.consist.uuid (masks s.consist) s.way p m j)

pub masked : (l : Line) → AllByRecursion (λ s. IsConsist s.consist) l → AllByRecursion Masked (met l)
masked l h = all_from_in Masked (met l) (λ x i.
    let s = of_joined met_of x l i in
    let m = met_of_consist s.0.consist.uuid (masks s.0.consist) s.0.way x s.2 in
    all_in (λ n. (1 ≤ n) × (n ≤ 255)) x.mask (masks s.0.consist) m.1 (all_in (λ t. IsConsist t.consist) s.0 l s.1 h).some_network)

-- lists of the consists joined: their pairs differ where those of each consist do and bear its UUID
pub different_joined : (f : Coupled → List (ℕ × ℕ)) → ((s : Coupled) → Different (f s)) → ((s : Coupled) (p : ℕ × ℕ) → In p (f s) → p.0 ≡ s.consist.uuid)
    → (l : Line) → Different (uuids l) → Different (flat_map f l)
different_joined f d own [] h = tt
different_joined f d own (s ∷ l) h =
    different_append (f s) (flat_map f l) (d s) (different_joined f d own l h.1) (all_from_in _ (f s) (λ p i. all_from_in (λ q. p ≡ q → ⊥) (flat_map f l) (λ q j e.
    let t = of_joined f q l j in
    all_in (λ v. s.consist.uuid ≡ v → ⊥) t.0.consist.uuid (uuids l) (in_map (λ c. c.consist.uuid) t.0 l t.1) h.0
    (sym (own s p i) ∙ ap (λ k. k.0) e ∙ own t.0 q t.2))))

-- nodes by UUID and position
abbrev pub place : Met → ℕ × ℕ
place x = (x.uuid, x.position)

places_differ : (u : ℕ) (ms : List ℕ) (w : Way) → Different (map place (nodes_in u ms w))
places_differ u ms w =
    subst Different (map-map (λ k. (u, k)) (λ n. n.0) (counted 1 ms) ∙ sym (map-map place (node_at u w) (counted 1 ms)))
    (different_map (λ k. (u, k)) (λ i j e. ap (λ p. p.1) e) (map (λ n. n.0) (counted 1 ms)) (different_counted 1 ms))

met_places_differ : (u : ℕ) (ms : List ℕ) (w : Way) → Different (map place (met_in u ms w))
met_places_differ u ms forward = places_differ u ms forward
met_places_differ u ms turned =
    subst Different (sym (map_reverse place (nodes_in u ms turned))) (different_reverse (map place (nodes_in u ms turned)) (places_differ u ms turned))

pub own_places : (l : Line) → Different (uuids l) → Different (map place (met l))
own_places l d = subst Different (sym (map_joined place met_of l)) (different_joined (λ s. map place (met_of s))
    (λ s. met_places_differ s.consist.uuid (masks s.consist) s.way)
    (λ s p i.
    let r = of_map place p (met_of s) i in
    ap (λ q. q.0) r.2 ∙ (met_of_consist s.consist.uuid (masks s.consist) s.way r.0 r.1).0)
    l d)

-- how many nodes are met
met_in_length : (u : ℕ) (ms : List ℕ) (w : Way) → length (met_in u ms w) ≡ length ms
met_in_length u ms forward = length-map (counted 1 ms) _ ∙ length_counted 1 ms
met_in_length u ms turned = length-reverse (nodes_in u ms turned) ∙ length-map (counted 1 ms) _ ∙ length_counted 1 ms

met_length : (l : Line) → length (met l) ≡ node_count l
met_length [] = refl
met_length (s ∷ l) =
    length-append (met_of s) (met l)
    ∙ ap₂ ◌+◌ (met_in_length s.consist.uuid (masks s.consist) s.way ∙ length-map s.consist.nodes _) (met_length l)

pub nodes_read : (l : Line) → length (met (reading l)) ≡ node_count l
nodes_read l = met_length (reading l) ∙ total_reading _ l

pub some_node : (l : Line) → 1 ≤ length l → AllByRecursion (λ s. IsConsist s.consist) l → 1 ≤ node_count l
some_node [] n h = absurd (omega arith)
some_node (s ∷ l) n h = omega (arith, h.0.some_node)

pub position_met : (l : Line) (s : Coupled) (p : ℕ) → In s l → 1 ≤ p → p ≤ length s.consist.nodes → In (s.consist.uuid, p) (map place (met l))
position_met l s p i a b =
    let m = in_counted 1 p (masks s.consist) a (omega (arith, as_many_masks s.consist)) in
    in_map place (node_at s.consist.uuid s.way (p, m.0)) (met l) (node_met l s p m.0 i m.1)

pub met_position : (l : Line) (u p : ℕ) → In (u, p) (map place (met l)) → (s : Coupled) × In s l × (u ≡ s.consist.uuid) × (1 ≤ p) × (p ≤ length s.consist.nodes)
met_position l u p i =
    let x = of_map place (u, p) (met l) i in
    let s = of_joined met_of x.0 l x.1 in
    let c = s.0.consist in
    let m = met_of_consist c.uuid (masks c) s.0.way x.0 s.2 in
    let b = of_counted 1 x.0.position x.0.mask (masks c) m.2 in
    (s.0, s.1, ap (λ q. q.0) x.2 ∙ m.0, omega (arith, ap (λ q. q.1) x.2, b.0), omega (arith, ap (λ q. q.1) x.2, b.1, as_many_masks c))
