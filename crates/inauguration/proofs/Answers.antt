-- From consists and nodes to what is answered. Assumes nothing.
use Rattle.std.proofs.Common.{◌≡◌, ℕ, ◌+◌, min, Bool, true, false, cond, not, ◌&&◌, eqb, leb, List, [], ◌∷◌, ◌++◌, map, length, take, Some, None, Ok, Err, Option, Result, refl, ap, ◌∙◌, ap₂, arith}
use Rattle.std.proofs.Math.Nat.{min_comm}
use Rattle.std.proofs.lemmas.List.{take_min}
use Rattle.std.specs.Option.{option_map, ok_or}
use Rattle.arrayvec.specs.ArrayVec.{ArrayVec, with_items}
use Rattle.arrayvec.proofs.ArrayVecLemmas.{items-with_items}
use Rattle.report.specs.declared.Report as code
use Rattle.report.specs.Reports.{Report}
use Rattle.report.specs.Masks.{together}
use Rattle.train.specs.Line.{Line}
use Rattle.train.specs.Rules.{networks, set_bits}
use Rattle.train.specs.Truth.{Awake}
use Rattle.train.specs.Rows.{reading, Met, meetings, rows_met, numbered}
use Rattle.train.specs.Agreement.{skeleton}
use Rattle.train.proofs.Reading.{met_same}
use Rattle.train.proofs.Totals.{total_same, as_many_masks}
use Rattle.directory.specs.declared.directory.Directory.{Directory}
use Rattle.directory.specs.Meaning.{serving}
use Rattle.fitting.specs.Neighbours.{is_held, loose}
use Rattle.fitting.specs.Walk.{chain_of}
use Rattle.fitting.specs.Assemble.{assemble}
use Rattle.fitting.specs.Answer.{mute, loosely, split, long, is_within, shown_rows, line_answer, chain_answer, firm_answer, answer}
use Rattle.inauguration.specs.declared.refused.Refused.{Refused}
use Rattle.inauguration.specs.declared.refused.Refused.TheVariants.{Mute, Loose, Split, Mixed, Long}
use Rattle.inauguration.specs.declared.awake.Awake as node
use Rattle.inauguration.specs.Meaning.{all_mean}
use Rattle.inauguration.specs.Consists.{line_of}
use Rattle.inauguration.specs.Answered.{answered, held_reports, NamesLoose}
use Rattle.inauguration.specs.Nodes.{plain}

-- rows do not depend on positions
plain_meetings : (n : ℕ) (xs : List Met) → meetings n (map plain xs) ≡ meetings n xs
plain_meetings n [] = refl
plain_meetings n (x ∷ xs) = ap (λ r. map (λ c. record { uuid = x.uuid; cn = c; node = n; way = x.way }) (networks x.mask) ++ r) (plain_meetings (n + 1) xs)

plain_serving : (xs : List Met) → serving (map plain xs) ≡ map plain (serving xs)
plain_serving [] = refl
plain_serving (x ∷ xs) = go (not (eqb x.mask 0)) (plain_serving xs)
  where
    go : (b : Bool) → serving (map plain xs) ≡ map plain (serving xs) → cond b (plain x ∷ serving (map plain xs)) (serving (map plain xs)) ≡ map plain (cond b (x ∷ serving xs) (serving xs))
    go true e = ap (λ r. plain x ∷ r) e
    go false e = e

pub rows_plain : (nodes : List Met) (xs : List Met) → nodes ≡ map plain xs → take 128 (rows_met (serving nodes)) ≡ take 128 (rows_met (serving xs))
rows_plain nodes xs e = ap (λ ys. take 128 (rows_met (serving ys))) e ∙ ap (λ ys. take 128 (rows_met ys)) (plain_serving xs) ∙ ap (λ ms. take 128 (numbered [] ms)) (plain_meetings 1 (serving xs))

-- what is answered of a line depends on its skeleton alone
shown_same : (l k : Line) → skeleton k ≡ skeleton l → shown_rows k ≡ shown_rows l
shown_same l k e = ap (λ xs. take 128 (rows_met (serving xs))) (met_same l k e)

within_same : (l k : Line) → skeleton k ≡ skeleton l → is_within k ≡ is_within l
within_same l k e =
    ap₂ ◌&&◌ (ap₂ ◌&&◌ (ap (λ n. leb n 63) (total_same _ length as_many_masks l k e)) (ap (λ n. leb n 63) (total_same _ (λ ms. length (networks (together ms))) (λ c. refl) l k e)))
    (ap (λ n. leb n 128) (total_same _ set_bits (λ c. refl) l k e))

pub line_same : (k : Line) (o : Option Line) → Some (skeleton k) ≡ option_map skeleton o → line_answer (Some k) ≡ line_answer o
line_same k None e = absurd (let z : ◌≡◌ {A = ℕ} 0 1 = cc in omega arith)
line_same k (Some l) e =
    let s : skeleton k ≡ skeleton l = cc in
    ap₂ (λ b rs. cond b (Ok rs) (Err long)) (within_same l k s) (shown_same l k s)

-- the checks in their order
module _ (own : ℕ) (hs : List Report) where
  held_is : (b : Bool) → b ≡ is_held own hs → cond b (firm_answer hs (loose hs)) (Err mute) ≡ answer own hs
  held_is b e = ap (λ v. cond v (firm_answer hs (loose hs)) (Err mute)) e

  pub says_mute : false ≡ is_held own hs → Err mute ≡ answer own hs
  says_mute e = held_is false e

  pub says_loose : true ≡ is_held own hs → (m : ℕ) → Some m ≡ loose hs → Err loosely ≡ answer own hs
  says_loose e m l = ap (firm_answer hs) l ∙ held_is true e

  pub says_split : true ≡ is_held own hs → None ≡ loose hs → None ≡ chain_of hs → Err split ≡ answer own hs
  says_split e l s = ap chain_answer s ∙ ap (firm_answer hs) l ∙ held_is true e

  pub says_chain : true ≡ is_held own hs → None ≡ loose hs → (xs : List Awake) → Some xs ≡ chain_of hs → line_answer (assemble xs) ≡ answer own hs
  says_chain e l xs s = ap chain_answer s ∙ ap (firm_answer hs) l ∙ held_is true e

-- what an option was from which a result was made
pub was_some : {A E : Type 0} (o : Option A) (e : E) (x : A) → Ok x ≡ ok_or o e → o ≡ Some x
was_some None e x p = cc
was_some (Some y) e x p = cc

pub was_none : {A E : Type 0} (o : Option A) (e f : E) → Err f ≡ ok_or o e → o ≡ None
was_none None e f p = refl
was_none (Some y) e f p = cc

-- consists that were put in the order of the reading through their slice
pub in_order : (v : ArrayVec node.Awake) (lent new seen : List node.Awake) → lent ≡ v.items → length new ≡ length lent → line_of new ≡ reading (line_of lent)
    → seen ≡ (with_items v new).items → line_of seen ≡ reading (line_of v.items)
in_order v lent new seen e n r s =
    ap line_of (s ∙ items-with_items v new (n ∙ ap length e)) ∙ r ∙ ap (λ cs. reading (line_of cs)) e

-- no more than 63 reports are held
pub clamped : (held : List code.Report) (n : ℕ) → n ≡ min (length held) 63 → all_mean (take n held) ≡ held_reports held
clamped held n e = ap (λ k. all_mean (take k held)) (e ∙ min_comm (length held) 63) ∙ ap all_mean (take_min 63 held)

-- where there is a chain, no report is loose
not_loose : (o : Option Line) → Err loosely ≡ line_answer o → ⊥
not_loose None e = let z : ◌≡◌ {A = ℕ} 7 9 = cc in omega arith
not_loose (Some l) e = go (is_within l) e
  where
    go : (b : Bool) → Err loosely ≡ cond b (Ok (shown_rows l)) (Err long) → ⊥
    go true e = let z : ◌≡◌ {A = ℕ} 0 1 = cc in omega arith
    go false e = let z : ◌≡◌ {A = ℕ} 7 10 = cc in omega arith

pub names_none : (hs : List Report) (r : Result Directory Refused) (o : Option Line) → answered r ≡ line_answer o → NamesLoose hs r
names_none hs (Ok d) o e = tt
names_none hs (Err Mute) o e = tt
names_none hs (Err (Loose m)) o e = absurd (not_loose o e)
names_none hs (Err Split) o e = tt
names_none hs (Err Mixed) o e = tt
names_none hs (Err Long) o e = tt
