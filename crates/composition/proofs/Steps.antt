-- The steps of the loops over nodes and over consists. Assumes nothing.
use Rattle.std.proofs.Common.{◌≡◌, ℕ, suc, ◌+◌, ◌-◌, ◌<◌, ◌≤◌, Bool, true, false, not, cond, ◌||◌, eqb, leb, List, [], ◌∷◌, ◌++◌, map, length, get_or, take, drop, is_some, Some, None, Ok, Err, Option, fold, count_by, filter_map, sym, refl, ap, ap₂, ◌∙◌, arith}
use Rattle.std.specs.Option.{option_map}
use Rattle.std.specs.List.{flat_map, list_any, cons_option}
use Rattle.std.proofs.lemmas.List.{at_drop_more, map_more, flat_map_more, length-take, append_assoc, append-nil}
use Rattle.std.proofs.lemmas.Bool.{leb-true, le-leb, cond_both}
use Rattle.report.specs.declared.Mac.{Mac}
use Rattle.report.specs.Masks.{is_mask}
use Rattle.report.specs.Reports.{whole}
use Rattle.train.specs.Line.{Node, Coupled}
use Rattle.directory.specs.declared.row.Way.TheVariants.{Forward}
use Rattle.composition.specs.declared.consist.Node as node
use Rattle.composition.specs.declared.consist.Consist as consist
use Rattle.composition.specs.declared.fault.ConsistRule.{ConsistRule}
use Rattle.composition.specs.declared.fault.ConsistRule.TheVariants.{NoNetwork, WrongMac}
use Rattle.composition.specs.Meaning.{node_means, nodes_of, consist_means, described}
use Rattle.composition.specs.Faults.{told, or_else, unless, mask_fault, mac_then, macs_in, mac_fits, mac_fault, consist_fault, consists_fault, among, repeats, twice_at, uuid_row, mac_row}

pub told_none : {F : Type 0} (o : Option F) → Ok tt ≡ told o → o ≡ None
told_none None e = refl
told_none (Some f) e = let z : ◌≡◌ {A = ℕ} 0 1 = cc in absurd (let n : ⊥ = omega arith in n)

pub told_some : {F : Type 0} (o : Option F) (f : F) → Err f ≡ told o → o ≡ Some f
told_some None f e = let z : ◌≡◌ {A = ℕ} 0 1 = cc in absurd (let n : ⊥ = omega arith in n)
told_some (Some g) f e = cc

pub few_nodes : (c : consist.Consist) → length (nodes_of c) ≤ 4
few_nodes c =
    cond_both (leb c.count 4) (take c.count c.nodes) [] (λ xs. length xs ≤ 4)
    (λ e. omega (arith, length-take c.count c.nodes, leb-true c.count 4 e)) (λ e. omega arith)

or_false : (b : Bool) → (b || false) ≡ b
or_false true = refl
or_false false = refl

-- what a read past the end would give
abbrev pub no_node : node.Node
no_node = record { mask = 0; mac = None }

abbrev pub no_consist : consist.Consist
no_consist = record { uuid = record { high = 0; low = 0 }; way = Forward; count = 0; nodes = [] }

-- whether a node is awake
pub asleep : (o : Option Mac) → false ≡ is_some o → option_map (λ m. m.0) o ≡ None
asleep None e = refl
asleep (Some m) e = cc

-- The searches of the code, by what the nodes and the consists mean.
pub macs_meant : (ns : List node.Node) → macs_in (map node_means ns) ≡ map (λ m. m.0) (filter_map (λ n. n.mac) ns)
macs_meant [] = refl
macs_meant (n ∷ ns) = by n.mac (macs_meant ns)
  where
    by : (o : Option Mac) → macs_in (map node_means ns) ≡ map (λ m. m.0) (filter_map (λ n. n.mac) ns)
        → mac_then (option_map (λ m. m.0) o) (macs_in (map node_means ns)) ≡ map (λ m. m.0) (cons_option o (filter_map (λ n. n.mac) ns))
    by None e = e
    by (Some m) e = ap (λ ms. m.0 ∷ ms) e

pub any_awake : (ns : List node.Node) → list_any (λ n. is_some n.mac) ns ≡ leb 1 (length (macs_in (map node_means ns)))
any_awake [] = refl
any_awake (n ∷ ns) = by n.mac (any_awake ns)
  where
    by : (o : Option Mac) → list_any (λ n. is_some n.mac) ns ≡ leb 1 (length (macs_in (map node_means ns)))
        → (is_some o || list_any (λ n. is_some n.mac) ns) ≡ leb 1 (length (mac_then (option_map (λ m. m.0) o) (macs_in (map node_means ns))))
    by None e = e
    by (Some m) e = sym (le-leb 1 (suc (length (macs_in (map node_means ns)))) (omega arith))

one_more : (o : Option Mac) (ms : List ℕ) → cond (is_some o) 1 0 + length ms ≡ length (mac_then (option_map (λ m. m.0) o) ms)
one_more None ms = omega arith
one_more (Some m) ms = omega arith

counted : (k : ℕ) (ns : List node.Node) → fold (λ k n. k + cond (is_some n.mac) 1 0) k ns ≡ k + length (macs_in (map node_means ns))
counted k [] = omega arith
counted k (n ∷ ns) =
    counted (k + cond (is_some n.mac) 1 0) ns ∙ omega (arith, one_more n.mac (macs_in (map node_means ns)))

pub count_awake : (ns : List node.Node) → count_by (λ n. is_some n.mac) ns ≡ length (macs_in (map node_means ns))
count_awake ns = counted 0 ns ∙ omega arith

among_map : (x : ℕ) (ms : List Mac) → list_any (λ m. eqb x m.0) ms ≡ among x (map (λ m. m.0) ms)
among_map x [] = refl
among_map x (m ∷ ms) = ap (λ b. eqb x m.0 || b) (among_map x ms)

pub in_nodes : (x : ℕ) (ns : List node.Node) → list_any (λ m. eqb x m.0) (filter_map (λ n. n.mac) ns) ≡ among x (macs_in (map node_means ns))
in_nodes x ns = among_map x (filter_map (λ n. n.mac) ns) ∙ ap (among x) (sym (macs_meant ns))

-- Over the nodes of a consist.
module _ (ns : List node.Node) (i : ℕ) (h : i < length ns) where
  pub mask_good : (p : ℕ) → is_mask (get_or ns i no_node).mask ≡ true → mask_fault p (map node_means (drop i ns)) ≡ mask_fault (p + 1) (map node_means (drop (i + 1) ns))
  mask_good p e =
      at_drop_more (λ xs. mask_fault p (map node_means xs)) ns i no_node h
      ∙ ap (λ b. or_else (unless b (NoNetwork p)) (mask_fault (p + 1) (map node_means (drop (i + 1) ns)))) e

  pub mask_bad : (p : ℕ) → is_mask (get_or ns i no_node).mask ≡ false → mask_fault p (map node_means (drop i ns)) ≡ Some (NoNetwork p)
  mask_bad p e =
      at_drop_more (λ xs. mask_fault p (map node_means xs)) ns i no_node h
      ∙ ap (λ b. or_else (unless b (NoNetwork p)) (mask_fault (p + 1) (map node_means (drop (i + 1) ns)))) e

  pub mac_good : (p : ℕ) → mac_fits (option_map (λ m. m.0) (get_or ns i no_node).mac) ≡ true → mac_fault p (map node_means (drop i ns)) ≡ mac_fault (p + 1) (map node_means (drop (i + 1) ns))
  mac_good p e =
      at_drop_more (λ xs. mac_fault p (map node_means xs)) ns i no_node h
      ∙ ap (λ b. or_else (unless b (WrongMac p)) (mac_fault (p + 1) (map node_means (drop (i + 1) ns)))) e

  pub mac_bad : (p : ℕ) → mac_fits (option_map (λ m. m.0) (get_or ns i no_node).mac) ≡ false → mac_fault p (map node_means (drop i ns)) ≡ Some (WrongMac p)
  mac_bad p e =
      at_drop_more (λ xs. mac_fault p (map node_means xs)) ns i no_node h
      ∙ ap (λ b. or_else (unless b (WrongMac p)) (mac_fault (p + 1) (map node_means (drop (i + 1) ns)))) e

  pub macs_here : (o : Option ℕ) → option_map (λ m. m.0) (get_or ns i no_node).mac ≡ o → macs_in (map node_means (drop i ns)) ≡ mac_then o (macs_in (map node_means (drop (i + 1) ns)))
  macs_here o e =
      at_drop_more (λ xs. macs_in (map node_means xs)) ns i no_node h ∙ ap (λ m. mac_then m (macs_in (map node_means (drop (i + 1) ns)))) e

macs_append : (ns ms : List Node) → macs_in (ns ++ ms) ≡ macs_in ns ++ macs_in ms
macs_append [] ms = refl
macs_append (n ∷ ns) ms = by n.mac (macs_append ns ms)
  where
    by : (o : Option ℕ) → macs_in (ns ++ ms) ≡ macs_in ns ++ macs_in ms → mac_then o (macs_in (ns ++ ms)) ≡ mac_then o (macs_in ns) ++ macs_in ms
    by (Some m) e = ap (λ xs. m ∷ xs) e
    by None e = e

pub among_append : (x : ℕ) (xs ys : List ℕ) → among x (xs ++ ys) ≡ (among x xs || among x ys)
among_append x [] ys = refl
among_append x (y ∷ xs) ys = by (eqb x y) (among_append x xs ys)
  where
    by : (b : Bool) → among x (xs ++ ys) ≡ (among x xs || among x ys) → (b || among x (xs ++ ys)) ≡ ((b || among x xs) || among x ys)
    by true e = refl
    by false e = e

-- a MAC that does not stand before goes to those seen
module _ (seen : List ℕ) (ns : List node.Node) (i : ℕ) (h : i < length ns) where
  taken : (o : Option ℕ) → option_map (λ m. m.0) (get_or ns i no_node).mac ≡ o → macs_in (map node_means (take (i + 1) ns)) ≡ macs_in (map node_means (take i ns)) ++ mac_then o []
  taken o e =
      ap macs_in (map_more node_means ns i no_node h) ∙ macs_append (map node_means (take i ns)) (node_means (get_or ns i no_node) ∷ [])
      ∙ ap (λ m. macs_in (map node_means (take i ns)) ++ mac_then m []) e

  pub asleep_on : option_map (λ m. m.0) (get_or ns i no_node).mac ≡ None
      → repeats (seen ++ macs_in (map node_means (take i ns))) (macs_in (map node_means (drop i ns)))
      ≡ repeats (seen ++ macs_in (map node_means (take (i + 1) ns))) (macs_in (map node_means (drop (i + 1) ns)))
  asleep_on e =
      let front = macs_in (map node_means (take i ns)) in
      let rest = macs_in (map node_means (drop (i + 1) ns)) in
      ap (repeats (seen ++ front)) (macs_here ns i h None e) ∙ ap (λ xs. repeats xs rest) (sym (append-nil (seen ++ front)) ∙ append_assoc seen front [] ∙ ap (λ xs. seen ++ xs) (sym (taken None e)))

  pub awake_on : (m : ℕ) → option_map (λ m. m.0) (get_or ns i no_node).mac ≡ Some m → among m seen ≡ false → among m (macs_in (map node_means (take (i - 0) ns))) ≡ false
      → repeats (seen ++ macs_in (map node_means (take i ns))) (macs_in (map node_means (drop i ns)))
      ≡ repeats (seen ++ macs_in (map node_means (take (i + 1) ns))) (macs_in (map node_means (drop (i + 1) ns)))
  awake_on m e a b =
      let front = macs_in (map node_means (take i ns)) in
      let rest = macs_in (map node_means (drop (i + 1) ns)) in
      let same : i - 0 ≡ i = omega arith in
      let b' : among m front ≡ false = ap (λ k. among m (macs_in (map node_means (take k ns)))) (sym same) ∙ b in
      let new : among m (seen ++ front) ≡ false = among_append m seen front ∙ ap (λ t. t || among m front) a ∙ b' in
      ap (repeats (seen ++ front)) (macs_here ns i h (Some m) e) ∙ ap (λ t. t || repeats ((seen ++ front) ++ m ∷ []) rest) new
      ∙ ap (λ xs. repeats xs rest) (append_assoc seen front (m ∷ []) ∙ ap (λ xs. seen ++ xs) (sym (taken (Some m) e)))

  pub stands_before : (m : ℕ) → option_map (λ m. m.0) (get_or ns i no_node).mac ≡ Some m → (among m seen || among m (macs_in (map node_means (take (i - 0) ns)))) ≡ true
      → repeats (seen ++ macs_in (map node_means (take i ns))) (macs_in (map node_means (drop i ns))) ≡ true
  stands_before m e a =
      let front = macs_in (map node_means (take i ns)) in
      let rest = macs_in (map node_means (drop (i + 1) ns)) in
      let same : i - 0 ≡ i = omega arith in
      let old : among m (seen ++ front) ≡ true = among_append m seen front ∙ ap (λ k. among m seen || among m (macs_in (map node_means (take k ns)))) (sym same) ∙ a in
      ap (repeats (seen ++ front)) (macs_here ns i h (Some m) e) ∙ ap (λ t. t || repeats ((seen ++ front) ++ m ∷ []) rest) old

-- Over the consists of a line.
module _ (cs : List consist.Consist) (k : ℕ) (h : k < length cs) where
  pub consist_good : Ok tt ≡ told (consist_fault (consist_means (get_or cs k no_consist)).consist) → consists_fault k (described (drop k cs)) ≡ consists_fault (k + 1) (described (drop (k + 1) cs))
  consist_good e =
      at_drop_more (λ xs. consists_fault k (described xs)) cs k no_consist h
      ∙ ap (λ o. or_else (option_map (λ f. record { place = k; rule = f }) o) (consists_fault (k + 1) (described (drop (k + 1) cs)))) (told_none _ e)

  pub consist_bad : (f : ConsistRule) → Err f ≡ told (consist_fault (consist_means (get_or cs k no_consist)).consist) → consists_fault k (described (drop k cs)) ≡ Some (record { place = k; rule = f })
  consist_bad f e =
      at_drop_more (λ xs. consists_fault k (described xs)) cs k no_consist h
      ∙ ap (λ o. or_else (option_map (λ f. record { place = k; rule = f }) o) (consists_fault (k + 1) (described (drop (k + 1) cs)))) (told_some _ f e)

  module _ (f : Coupled → List ℕ) where
    seen_more : flat_map f (described (take k cs)) ++ f (consist_means (get_or cs k no_consist)) ≡ flat_map f (described (take (k + 1) cs))
    seen_more = flat_map_more f [] (described (take k cs)) (consist_means (get_or cs k no_consist)) ∙ ap (flat_map f) (sym (map_more consist_means cs k no_consist h))

    abbrev here : Bool → Option ℕ
    here b =
        or_else (unless (not b) k)
        (twice_at (k + 1) (flat_map f (described (take k cs)) ++ f (consist_means (get_or cs k no_consist))) (map f (described (drop (k + 1) cs))))

    at_here : (b : Bool) → repeats (flat_map f (described (take (k - 0) cs))) (f (consist_means (get_or cs k no_consist))) ≡ b
        → twice_at k (flat_map f (described (take k cs))) (map f (described (drop k cs))) ≡ here b
    at_here b e =
        let same : k ≡ k - 0 = omega arith in
        at_drop_more (λ xs. twice_at k (flat_map f (described (take k cs))) (map f (described xs))) cs k no_consist h
        ∙ ap here (ap (λ j. repeats (flat_map f (described (take j cs))) (f (consist_means (get_or cs k no_consist)))) same ∙ e)

    pub twice_not : repeats (flat_map f (described (take (k - 0) cs))) (f (consist_means (get_or cs k no_consist))) ≡ false
        → twice_at k (flat_map f (described (take k cs))) (map f (described (drop k cs)))
        ≡ twice_at (k + 1) (flat_map f (described (take (k + 1) cs))) (map f (described (drop (k + 1) cs)))
    twice_not e = at_here false e ∙ ap (λ xs. twice_at (k + 1) xs (map f (described (drop (k + 1) cs)))) seen_more

    pub twice_here : repeats (flat_map f (described (take (k - 0) cs))) (f (consist_means (get_or cs k no_consist))) ≡ true
        → twice_at k (flat_map f (described (take k cs))) (map f (described (drop k cs))) ≡ Some k
    twice_here e = at_here true e

pub in_consists : (x : ℕ) (cs : List consist.Consist) → list_any (λ c. list_any (λ m. eqb x m.0) (filter_map (λ n. n.mac) (nodes_of c))) cs ≡ among x (flat_map mac_row (described cs))
in_consists x [] = refl
in_consists x (c ∷ cs) =
    ap₂ ◌||◌ (in_nodes x (nodes_of c)) (in_consists x cs) ∙ sym (among_append x (macs_in (map node_means (nodes_of c))) (flat_map mac_row (described cs)))

pub has_uuid : (u : ℕ) (cs : List consist.Consist) → list_any (λ c. eqb u (whole c.uuid)) cs ≡ among u (flat_map uuid_row (described cs))
has_uuid u [] = refl
has_uuid u (c ∷ cs) = ap (λ b. eqb u (whole c.uuid) || b) (has_uuid u cs)

pub once : (x : ℕ) (seen : List ℕ) (b : Bool) → b ≡ among x seen → repeats seen (x ∷ []) ≡ b
once x seen b e = or_false (among x seen) ∙ sym e
