-- Each answer of a node is right for the events before it. Assumes nothing.
use Rattle.std.proofs.Common.{◌≡◌, ℕ, ◌<◌, min, Bool, true, false, cond, not, ◌&&◌, ◌||◌, eqb, List, [], ◌∷◌, map, length, Some, None, Ok, Err, Option, Result, sym, refl, ap, ◌∙◌, subst, inl, inr, arith}
use Rattle.std.proofs.lemmas.Bool.{cases_Bool, cond-true, cond-false, and_parts, and_from, or_cases, or_left, or_right, eqb-true, eqb-false, eq-eqb, ne_eqb, not-true, not_from_false}
use Rattle.keyed.specs.Orders.{numbers}
use Rattle.keyed.specs.Find.{found}
use Rattle.keyed.specs.Store.{stored, store_keeps}
use Rattle.keyed.specs.Store as store
use Rattle.keyed.specs.Remove.{removed}
use Rattle.counter.specs.Crc.{crc}
use Rattle.report.specs.Reports.{Report}
use Rattle.report.specs.Refusals.{Refusal}
use Rattle.report.specs.Reading.{read}
use Rattle.report.specs.Crossed.{Crossed, crossed, is_crossed}
use Rattle.train.specs.Line.{Line}
use Rattle.train.specs.Truth.{Awake, awake, reports, In, here, there}
use Rattle.train.specs.Rules.{Different, macs, Within}
use Rattle.train.specs.Rows.{Row, rows as line_rows}
use Rattle.train.specs.Bytes.{rows_bytes}
use Rattle.train.proofs.Agreed.{agreement, fits_agree}
use Rattle.fitting.specs.Neighbours.{is_held, IsLoose, loose as first_loose, Firm}
use Rattle.fitting.specs.Walk.{IsChain}
use Rattle.fitting.specs.Answer.{mute, loosely, split, mixed, long, firm_answer, answer}
use Rattle.fitting.specs.Theorems.{Answers, Fitting, AwakeIn}
use Rattle.fitting.proofs.Found.{in_cases, in_none}
use Rattle.fitting.proofs.Steps.{none_some}
use Rattle.fitting.proofs.Loose.{held_tells, held_so, none_loose, not_firm_tells}
use Rattle.fitting.proofs.Chain.{no_loose}
use Rattle.runs.specs.Calls.{State, Answer, held, counter, refused, full, unknown, barred, told, onward, own_mac, let_through, stored_count, held_with, bars, named, decided}
use Rattle.runs.specs.Histories.{History}
use Rattle.runs.specs.Right.{Has, RightTake, RightSilence, RightInaugurate}
use Rattle.runs.proofs.Tables.{Rises, in_found, found_in, found_mac, full_only, full_then, rises_differ}
use Rattle.runs.proofs.Steps.{Kept, answers, bars_so, free_so}

-- Crossed neighbours.
pub crossed_so : (r : Report) → Crossed r → is_crossed r ≡ true
crossed_so r (inl e) = or_left _ (not (eqb r.side1 0) && eqb r.side2 r.side1) (or_left _ (eqb r.side2 r.mac) (eq-eqb _ _ e))
crossed_so r (inr (inl e)) = or_left _ (not (eqb r.side1 0) && eqb r.side2 r.side1) (or_right (eqb r.side1 r.mac) _ (eq-eqb _ _ e))
crossed_so r (inr (inr (some, e))) =
    or_right (eqb r.side1 r.mac || eqb r.side2 r.mac) _
    (and_from _ _ (not_from_false (eqb r.side1 0) (ne_eqb r.side1 0 (λ z. omega arith))) (eq-eqb _ _ e))

pub crossed_tells : (r : Report) → is_crossed r ≡ true → Crossed r
crossed_tells r t =
    elim (or_cases (eqb r.side1 r.mac || eqb r.side2 r.mac) _ t) [
      | inl p ↦ elim (or_cases (eqb r.side1 r.mac) (eqb r.side2 r.mac) p) [ inl e ↦ inl (eqb-true _ _ e) | inr e ↦ inr (inl (eqb-true _ _ e)) ]
      | inr p ↦ (let q = and_parts (not (eqb r.side1 0)) (eqb r.side2 r.side1) p in
          let n = eqb-false r.side1 0 (not-true _ q.0) in
          inr (inr (let g : 0 < r.side1 = omega arith in g, eqb-true _ _ q.1)))
    ]

pub uncrossed : (r : Report) → (Crossed r → ⊥) → is_crossed r ≡ false
uncrossed r n = elim (cases_Bool (is_crossed r)) [ inl t ↦ absurd (n (crossed_tells r t)) | inr f ↦ f ]

-- Reports held.
module _ (hs : List Report) (rises : Rises hs) where
  pub has_found : (m : ℕ) → Has m hs → (r : Report) × (found numbers own_mac m hs ≡ Some r)
  has_found m (r, i, e) = (r, ap (λ k. found numbers own_mac k hs) (sym e) ∙ in_found hs r rises i)

  pub none_found : (m : ℕ) → (Has m hs → ⊥) → (o : Option Report) → found numbers own_mac m hs ≡ o → o ≡ None
  none_found m n None e = refl
  none_found m n (Some r) e = absurd (n (r, found_in hs m r e, found_mac hs m r e))

  pub right_take : (places room : ℕ) (ws : List ℕ) (a : Answer) → room ≡ min places 63 → a ≡ told held (onward (let_through ws) (stored_count room hs))
      → RightTake places hs (held_with room hs (let_through ws)) ws a
  right_take places room ws a size p = record {
    garbled = λ f e. p ∙ ap (λ o. told held (onward (onward o passes) (stored_count room hs))) e;
    crossed = λ r e x. p ∙ ap (λ o. told held (onward (onward o passes) (stored_count room hs))) e
        ∙ ap (λ t. told held (onward (cond t (Err crossed) (Ok r)) (stored_count room hs))) (crossed_so r x);
    full = λ r e n none few. p ∙ ap (λ o. told held (onward o (stored_count room hs))) (passed r e n)
        ∙ ap (λ t. told held (cond t (Err full) (Ok (length (stored numbers own_mac r hs)))))
        (full_then hs r room (none_found r.mac none _ refl) (omega (arith, size, few)));
    new = λ r e n less. stores r (passed r e n)
        (elim (cases_Bool (store.refused numbers own_mac r room hs)) [
          | inl t ↦ absurd (let l = (full_only hs r room t).1 in let g : ⊥ = omega (arith, size, less, l) in g)
          | inr f ↦ f
        ]);
    again = λ r e n has. stores r (passed r e n)
        (elim (cases_Bool (store.refused numbers own_mac r room hs)) [
          | inl t ↦ absurd (none_some (sym (full_only hs r room t).0 ∙ (has_found r.mac has).1))
          | inr f ↦ f
        ]);
  }
    where
      passes : Report → Result Report Refusal
      passes r = cond (is_crossed r) (Err crossed) (Ok r)

      passed : (r : Report) → read ws ≡ Ok r → (Crossed r → ⊥) → let_through ws ≡ Ok r
      passed r e n = ap (λ o. onward o passes) e ∙ ap (λ t. cond t (Err crossed) (Ok r)) (uncrossed r n)

      stores : (r : Report) → let_through ws ≡ Ok r → store.refused numbers own_mac r room hs ≡ false → a ≡ held (length (held_with room hs (let_through ws)))
      stores r e f =
          p ∙ ap (λ o. told held (onward o (stored_count room hs))) e
          ∙ ap (λ t. told held (cond t (Err full) (Ok (length (stored numbers own_mac r hs))))) f
          ∙ sym (ap (λ o. held (length (held_with room hs o))) e ∙ ap (λ t. held (length (cond t hs (stored numbers own_mac r hs)))) f)

  pub right_silence : (m : ℕ) (a : Answer)
      → a ≡ told held (elim (found numbers own_mac m hs) [ Some r ↦ Ok (length (removed numbers own_mac m hs)) | None ↦ Err unknown ])
      → RightSilence hs (removed numbers own_mac m hs) m a
  right_silence m a p = record {
    known = λ has. p ∙ ap (λ o. told held (elim o [ Some r ↦ Ok (length (removed numbers own_mac m hs)) | None ↦ Err unknown ])) (has_found m has).1;
    unknown = λ none. p ∙ ap (λ o. told held (elim o [ Some r ↦ Ok (length (removed numbers own_mac m hs)) | None ↦ Err unknown ])) (none_found m none _ refl);
  }

-- Inauguration.
reports_mac : (p : ℕ) (xs : List Awake) (r : Report) → In r (reports p xs) → In r.mac (macs xs)
reports_mac p [] r i = absurd (in_none i)
reports_mac p (x ∷ xs) r i =
    elim (in_cases i) [ inl e ↦ subst (λ (m : ℕ). In m (macs (x ∷ xs))) (sym (ap (λ (q : Report). q.mac) e)) here | inr j ↦ there (reports_mac x.mac xs r j) ]

awake_by : (hs : List Report) (mac : ℕ) (l : Line) → Has mac hs → Fitting hs l → AwakeIn mac l
awake_by hs mac l (r, i, e) f = subst (λ (m : ℕ). In m (macs (awake l))) e (reports_mac 0 (awake l) r (f.1.each_true r i))

chain_by : (hs : List Report) (l : Line) → Fitting hs l → IsChain hs (awake l)
chain_by hs l f = record { each_true = f.1.each_true; each_held = f.1.each_held; own_macs = f.0.own_macs }

abbrev pub inaugurated_as : State → ℕ → Result (List Row) ℕ → Answer
inaugurated_as s loose o = told (λ rs. counter (crc (rows_bytes rs))) (decided s loose o)

module _ (mac places : ℕ) (h : History) (s : State) (k : Kept mac places h s) (loose : ℕ) (a : Answer)
    (is_loose : answer mac s.held ≡ Err loosely → IsLoose s.held loose) (p : a ≡ inaugurated_as s loose (answer mac s.held)) where
  abbrev hs : List Report
  hs = s.held

  own : Different (map (λ r. r.mac) hs)
  own = rises_differ hs k.are_held.rising

  ans : Answers mac hs
  ans = answers mac places h s k

  refuses : (n : ℕ) → answer mac hs ≡ Err n → a ≡ refused (named loose n)
  refuses n e = p ∙ ap (inaugurated_as s loose) e

  has_held : Has mac hs → is_held mac hs ≡ true
  has_held (r, i, e) = subst (λ (m : ℕ). is_held m hs ≡ true) e (held_so r hs i)

  -- no other answer comes where a report is held under the own MAC, and these are excluded
  only : (n : ℕ) → Has mac hs
      → ((rs : List Row) → answer mac hs ≡ Ok rs → answer mac hs ≡ Err n) → (answer mac hs ≡ Err loosely → answer mac hs ≡ Err n)
      → (answer mac hs ≡ Err split → answer mac hs ≡ Err n) → (answer mac hs ≡ Err mixed → answer mac hs ≡ Err n)
      → (answer mac hs ≡ Err long → answer mac hs ≡ Err n) → answer mac hs ≡ Err n
  only n (r, i, e) ok lo sp mi lg =
      elim ans.one_of [
        | inl q ↦ ok q.0 q.1
        | inr (inl q) ↦ absurd (ans.is_mute q r i e)
        | inr (inr (inl q)) ↦ lo q
        | inr (inr (inr (inl q))) ↦ sp q
        | inr (inr (inr (inr (inl q)))) ↦ mi q
        | inr (inr (inr (inr (inr q)))) ↦ lg q
      ]

  pub right_inaugurate : RightInaugurate mac h hs a
  right_inaugurate = record {
    mute = λ none. refuses mute (elim (cases_Bool (is_held mac hs)) [
      | inl t ↦ absurd (none (held_tells mac hs t))
      | inr f ↦ cond-false (is_held mac hs) (firm_answer hs (first_loose hs)) (Err mute) f
    ]);
    loose = λ has r i n. (let e = is_loosely has r i n in let q = is_loose e in
        (q.report, q.among, not_firm_tells hs q.report own q.not_firm, refuses loosely e ∙ ap (λ m. refused (loosely, m ∷ [])) (sym q.own)));
    split = λ has firm none. refuses split (only split has
        (λ rs e. (let c = ans.accepted rs e in absurd (none (awake c.0) (chain_by hs c.0 c.1))))
        (λ e. (let q = ans.is_loose e in absurd (q.2 (firm q.0 q.1))))
        (λ e. e)
        (λ e. (let q = ans.is_mixed e in absurd (none q.0.0 q.0.1)))
        (λ e. (let q = ans.is_long e in absurd (none (awake q.0.0) (chain_by hs q.0.0 q.0.1)))));
    mixed = λ has xs chain none. refuses mixed (only mixed has
        (λ rs e. (let c = ans.accepted rs e in absurd (none c.0 c.1)))
        (λ e. (let q = ans.is_loose e in absurd (q.2 (no_loose hs xs chain q.0 q.1))))
        (λ e. absurd (ans.is_split e xs chain))
        (λ e. e)
        (λ e. (let q = ans.is_long e in absurd (none q.0.0 q.0.1))));
    long = λ has l f over. refuses long (only long has
        (λ rs e. (let c = ans.accepted rs e in
        absurd (over (agreement.limits c.0 l (fits_agree hs c.0 l c.1.0 f.0 c.1.1 f.1) c.2))))
        (λ e. absurd (ans.none_fits (inr (inl e)) l f (awake_by hs mac l has f)))
        (λ e. absurd (ans.none_fits (inr (inr e)) l f (awake_by hs mac l has f)))
        (λ e. absurd ((ans.is_mixed e).1 l f))
        (λ e. e));
    barred = λ l f w v b.
        let t : bars s (line_rows l) ≡ true = elim (cases_Bool (bars s (line_rows l))) [ inl t ↦ t | inr n ↦ absurd (free_so mac places h s k l n b) ] in
        accepts l f w v ∙ ap (settles l) t;
    accepted = λ l f w v n.
        let t : bars s (line_rows l) ≡ false = elim (cases_Bool (bars s (line_rows l))) [ inl t ↦ absurd (n (bars_so mac places h s k l t)) | inr f ↦ f ] in
        accepts l f w v ∙ ap (settles l) t;
  }
    where
      is_loosely : Has mac hs → (r : Report) → In r hs → (Firm hs r → ⊥) → answer mac hs ≡ Err loosely
      is_loosely has r i n = cond-true (is_held mac hs) (firm_answer hs (first_loose hs)) (Err mute) (has_held has) ∙ go (first_loose hs) refl
        where
          go : (o : Option ℕ) → first_loose hs ≡ o → firm_answer hs o ≡ Err loosely
          go (Some m) e = refl
          go None e = absurd (n (none_loose hs e r i))

      settles : Line → Bool → Answer
      settles l t = told (λ rs. counter (crc (rows_bytes rs))) (cond t (Err barred) (Ok (line_rows l)))

      accepts : (l : Line) → Fitting hs l → Within l → AwakeIn mac l → a ≡ inaugurated_as s loose (Ok (line_rows l))
      accepts l f w v = p ∙ ap (inaugurated_as s loose) (ans.accepts l f w v)
