-- Consists and nodes in the order of the reading. Assumes nothing.
use Rattle.std.proofs.Common.{◌≡◌, ℕ, zero, suc, ◌+◌, ◌-◌, ◌<◌, ◌≤◌, cond, ltb, List, [], ◌∷◌, ◌++◌, map, reverse, length, get_or, drop, refl, sym, ap, ap₂, ◌∙◌, arith}
use mathlib.Core.List.{reverse_aux, map-append}
use Rattle.std.proofs.lemmas.List.{at_drop_more, append_assoc}
use Rattle.report.specs.Reports.{whole}
use Rattle.train.specs.Line.{Way, forward, turned, masks, Line, turn, flip}
use Rattle.train.specs.Rules.{node_count}
use Rattle.train.specs.Rows.{left, reading, Met, counted, nodes_in, met_in, met}
use Rattle.train.proofs.Members.{map_reverse}
use Rattle.directory.specs.declared.row.Way.TheVariants.{Forward}
use Rattle.directory.specs.Meaning.{way_means}
use Rattle.fitting.proofs.Wake.{asleep_masks, asleep_length}
use Rattle.inauguration.specs.declared.awake.Awake.{Awake}
use Rattle.inauguration.specs.Consists.{masks_of, coupled, line_of}
use Rattle.inauguration.specs.Nodes.{plain, in_order, consist_nodes}

-- what stands past the end of nodes
abbrev pub no_node : Awake
no_node = record {
  report = record { mac = record { 0 = 0 }; side1 = record { 0 = 0 }; side2 = record { 0 = 0 }; uuid = record { high = 0; low = 0 }; position = 0; nodes = 0; masks = [] };
  way = Forward;
}

pub turned_all : (old new : List Awake) → length new ≡ length old → ((k : ℕ) (d : Awake) → k < length old → coupled (get_or new k d) ≡ turn (coupled (get_or old k d)))
    → line_of new ≡ map turn (line_of old)
turned_all [] [] e h = refl
turned_all [] (c ∷ cs) e h = absurd (omega arith)
turned_all (b ∷ bs) [] e h = absurd (omega arith)
turned_all (b ∷ bs) (c ∷ cs) e h = ap₂ (λ x xs. x ∷ xs) (h 0 b (omega arith)) (turned_all bs cs (omega arith) (λ k d l. h (suc k) d (omega arith)))

pub flip_reverse : (cs : List Awake) → map turn (line_of (reverse cs)) ≡ flip (line_of cs)
flip_reverse cs = ap (map turn) (map_reverse coupled cs) ∙ map_reverse turn (line_of cs)

-- the nodes of a consist
plain_nodes : (u : ℕ) (w : Way) (n : ℕ) (ms : List ℕ) → map plain (map (λ p. record { uuid = u; position = p.0; mask = p.1; way = w }) (counted n ms)) ≡ map (λ m. record { uuid = u; position = 0; mask = m; way = w }) ms
plain_nodes u w n [] = refl
plain_nodes u w n (m ∷ ms) = ap (λ r. record { uuid = u; position = 0; mask = m; way = w } ∷ r) (plain_nodes u w (n + 1) ms)

plain_met : (u : ℕ) (w : Way) (ms : List ℕ) → map plain (met_in u ms w) ≡ map (λ m. record { uuid = u; position = 0; mask = m; way = w }) (in_order w ms)
plain_met u forward ms = plain_nodes u forward 1 ms
plain_met u turned ms = map_reverse plain (nodes_in u ms turned) ∙ ap reverse (plain_nodes u turned 1 ms) ∙ sym (map_reverse _ ms)

plain_consist : (c : Awake) → map plain (met_in (whole c.report.uuid) (masks (coupled c).consist) (way_means c.way)) ≡ consist_nodes c
plain_consist c =
    ap (λ ms. map plain (met_in (whole c.report.uuid) ms (way_means c.way))) (asleep_masks (masks_of c)) ∙ plain_met (whole c.report.uuid) (way_means c.way) (masks_of c)

-- consist by consist
nodes_more : (cs : List Awake) (i : ℕ) (d : Awake) → i < length cs → map plain (met (line_of (drop i cs))) ≡ consist_nodes (get_or cs i d) ++ map plain (met (line_of (drop (i + 1) cs)))
nodes_more cs i d h =
    at_drop_more (λ xs. map plain (met (line_of xs))) cs i d h ∙ map-append plain (met_in (whole (get_or cs i d).report.uuid) (masks (coupled (get_or cs i d)).consist) (way_means (get_or cs i d).way)) _
    ∙ ap (λ r. r ++ map plain (met (line_of (drop (i + 1) cs)))) (plain_consist (get_or cs i d))

pub count_more : (cs : List Awake) (i : ℕ) (d : Awake) → i < length cs → node_count (line_of (drop i cs)) ≡ length (masks_of (get_or cs i d)) + node_count (line_of (drop (i + 1) cs))
count_more cs i d h = at_drop_more (λ xs. node_count (line_of xs)) cs i d h ∙ ap (λ n. n + node_count (line_of (drop (i + 1) cs))) (asleep_length (masks_of (get_or cs i d)))

pub meets_more : (cs : List Awake) (i : ℕ) (d : Awake) (before after : List Met) → i < length cs → after ≡ before ++ consist_nodes (get_or cs i d)
    → before ++ map plain (met (line_of (drop i cs))) ≡ map plain (met (line_of cs)) → after ++ map plain (met (line_of (drop (i + 1) cs))) ≡ map plain (met (line_of cs))
meets_more cs i d before after h e done =
    let rest = map plain (met (line_of (drop (i + 1) cs))) in
    ap (λ xs. xs ++ rest) e ∙ append_assoc before (consist_nodes (get_or cs i d)) rest ∙ ap (λ xs. before ++ xs) (sym (nodes_more cs i d h)) ∙ done

-- the reading of consists
left_at : (cs : List Awake) (k : ℕ) (d : Awake) (r : Line) → length cs ≡ suc k → left (reverse_aux (map turn (line_of cs)) r) ≡ whole (get_or cs k d).report.uuid
left_at [] k d r e = absurd (omega arith)
left_at (c ∷ []) zero d r e = refl
left_at (c ∷ []) (suc k) d r e = absurd (omega arith)
left_at (c ∷ b ∷ cs) zero d r e = absurd (omega arith)
left_at (c ∷ b ∷ cs) (suc k) d r e = left_at (b ∷ cs) k d (turn (coupled c) ∷ r) (omega arith)

read_long : (cs : List Awake) (k : ℕ) (d : Awake) → length cs ≡ suc k → 1 ≤ k
    → reading (line_of cs) ≡ cond (ltb (whole (get_or cs 0 d).report.uuid) (whole (get_or cs k d).report.uuid)) (line_of cs) (flip (line_of cs))
read_long [] k d e h = absurd (omega arith)
read_long (c ∷ []) k d e h = absurd (omega arith)
read_long (c ∷ b ∷ cs) k d e h =
    ap (λ u. cond (ltb (whole c.report.uuid) u) (line_of (c ∷ b ∷ cs)) (flip (line_of (c ∷ b ∷ cs)))) (left_at (c ∷ b ∷ cs) k d [] e)

pub read_by : (cs : List Awake) → 2 ≤ length cs
    → reading (line_of cs) ≡ cond (ltb (whole (get_or cs 0 no_node).report.uuid) (whole (get_or cs (length cs - 1) no_node).report.uuid)) (line_of cs) (flip (line_of cs))
read_by cs h = read_long cs (length cs - 1) no_node (omega arith) (omega arith)
