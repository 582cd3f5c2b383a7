-- Reports fit one line alone, up to the end from which it is read. Assumes nothing.
use Rattle.std.proofs.Common.{◌≡◌, ◌≤◌, ◌⊎◌, List, [], ◌∷◌, ◌++◌, map, reverse, length, sym, ap, ◌∙◌, subst, inl, inr, ⊎_elim, arith}
use Rattle.std.specs.List.{AllByRecursion}
use Rattle.std.proofs.lemmas.List.{length-map, length-reverse}
use Rattle.std.proofs.ByRecursion.{All-weaker, All-map}
use Rattle.report.specs.Reports.{Report}
use Rattle.train.specs.Line.{Coupled, Line, turn, flip}
use Rattle.train.specs.Truth.{Awake, awake_of, awake, first_mac, Fits}
use Rattle.train.specs.Rules.{Different, uuids, macs, IsMac, IsConsist, IsLine}
use Rattle.train.specs.Theorems.{FitsOneLine}
use Rattle.train.proofs.Members.{map_reverse, map-map, all_reverse, different_reverse}
use Rattle.train.proofs.Flip.{flip_flip, turn_awake, awake_turn, awake_flip, first_flip, flip_fits}
use Rattle.train.proofs.SameAwake.{line_same}
use Rattle.train.proofs.Chain.{OwnMacs, OneEach, Chains, one_each, an_end, first_report, chains_same}
use Rattle.train.proofs.Example.{some_line}

pub uuids_flip : (l : Line) → uuids (flip l) ≡ reverse (uuids l)
uuids_flip l = map_reverse (λ s. s.consist.uuid) (map turn l) ∙ ap reverse (map-map _ turn l)

macs_flip : (l : Line) → macs (awake (flip l)) ≡ reverse (macs (awake l))
macs_flip l = ap macs (awake_flip l) ∙ map_reverse (λ a. a.mac) (map turn_awake (awake l)) ∙ ap reverse (map-map _ turn_awake (awake l))

pub all_flip : (P : Coupled → Type 0) → ((s : Coupled) → P s → P (turn s)) → (l : Line) → AllByRecursion P l → AllByRecursion P (flip l)
all_flip P f l h = all_reverse P (map turn l) (All-map P turn l (All-weaker _ _ f l h))

some_turn : (s : Coupled) → 1 ≤ length (awake_of s) → 1 ≤ length (awake_of (turn s))
some_turn s h = subst (λ n. 1 ≤ n) (sym (ap length (awake_turn s) ∙ length-reverse (map turn_awake (awake_of s)) ∙ length-map (awake_of s) turn_awake)) h

pub flip_is_line : (l : Line) → IsLine l → IsLine (flip l)
flip_is_line l h = record {
  some_consist = subst (λ n. 1 ≤ n) (sym (length-reverse (map turn l) ∙ length-map l turn)) h.some_consist;
  consists = all_flip (λ s. IsConsist s.consist) (λ s k. k) l h.consists;
  some_awake = all_flip (λ s. 1 ≤ length (awake_of s)) some_turn l h.some_awake;
  own_uuids = subst Different (sym (uuids_flip l)) (different_reverse (uuids l) h.own_uuids);
  real_macs = subst (AllByRecursion IsMac) (sym (macs_flip l)) (all_reverse _ (macs (awake l)) h.real_macs);
  own_macs = subst Different (sym (macs_flip l)) (different_reverse (macs (awake l)) h.own_macs);
}

pub some_awake_in : (l : Line) → IsLine l → 1 ≤ length (awake l)
some_awake_in l h = go l h.some_consist h.some_awake
  where
    more : (xs ys : List Awake) → 1 ≤ length xs → 1 ≤ length (xs ++ ys)
    more [] ys k = absurd (omega arith)
    more (x ∷ xs) ys k = omega arith

    go : (l : Line) → 1 ≤ length l → AllByRecursion (λ s. 1 ≤ length (awake_of s)) l → 1 ≤ length (awake l)
    go [] k j = k
    go (s ∷ l) k j = more (awake_of s) (awake l) j.0

pub line_macs : (l : Line) → IsLine l → OwnMacs (awake l)
line_macs l h = (h.real_macs, h.own_macs)

pub fits_chain : (held : List Report) (l : Line) → Fits l held → Chains (awake l) held
fits_chain held l f = record { each_true = f.each_true; each_held = f.each_held }

pub one_held : (held : List Report) (l : Line) → IsLine l → Fits l held → OneEach held
one_held held l hl f r s i j e = one_each 0 (awake l) hl.own_macs r s (f.each_true r i) (f.each_true s j) e

same_end : (held : List Report) (l k : Line) → IsLine l → IsLine k → Fits l held → Fits k held → first_mac (awake l) ≡ first_mac (awake k) → (k ≡ l) ⊎ (k ≡ flip l)
same_end held l k hl hk fl fk m =
    let fb = flip_is_line l hl in
    ⊎_elim (λ e. inl (line_same k l hk.own_uuids hl.own_uuids hk.some_awake hl.some_awake e))
    (λ e. inr (line_same k (flip l) hk.own_uuids fb.own_uuids hk.some_awake fb.some_awake (e ∙ sym (awake_flip l))))
    (chains_same held (one_held held l hl fl) (awake l) (awake k) (line_macs l hl) (line_macs k hk) (some_awake_in l hl) (some_awake_in k hk)
    (fits_chain held l fl) (fits_chain held k fk) m)

pub one_line : (held : List Report) (l k : Line) → IsLine l → IsLine k → Fits l held → Fits k held → (k ≡ l) ⊎ (k ≡ flip l)
one_line held l k hl hk fl fk =
    let f = first_report (awake l) (some_awake_in l hl) in
    ⊎_elim (λ e. same_end held l k hl hk fl fk (sym f.2 ∙ e))
    (λ e. ⊎_elim (λ q. inr (sym (flip_flip k) ∙ ap flip q)) (λ q. inl (sym (flip_flip k) ∙ ap flip q ∙ flip_flip l))
    (same_end held l (flip k) hl (flip_is_line k hk) fl (flip_fits held k fk) (sym f.2 ∙ e ∙ sym (first_flip (awake k)) ∙ ap first_mac (sym (awake_flip k)))))
    (an_end (awake k) hk.real_macs f.0 (fk.each_true f.0 (fl.each_held f.0 f.1)) f.3)

pub fits_one_line : FitsOneLine
fits_one_line = record {
  one = one_line;
  flip_is_line = flip_is_line;
  flip_fits = flip_fits;
  flip_flip = flip_flip;
  fits_own = λ l. record { each_true = λ r i. i; each_held = λ r i. i };
  some_line = some_line;
}
