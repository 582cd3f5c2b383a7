-- What each answer of an inauguration says of the lines that fit. Assumes nothing.
use Rattle.std.proofs.Common.{◌≡◌, ℕ, ◌<◌, ◌≤◌, Bool, true, false, cond, not, leb, ◌⊎◌, List, [], ◌∷◌, length, take, Some, None, Ok, Err, Option, Result, sym, refl, ap, ◌∙◌, subst, ap₂, inl, inr, ⊎_elim, arith}
use Rattle.std.specs.List.{AllByRecursion}
use Rattle.std.proofs.lemmas.Bool.{ne_eqb, leb-true, ltb-true, le-leb, and_parts, and_from, both_ways}
use Rattle.report.specs.Masks.{is_mask, all_masks}
use Rattle.report.specs.Reports.{Report, is_mac, is_report}
use Rattle.train.specs.Line.{Line, flip}
use Rattle.train.specs.Truth.{Awake, awake, report, first_mac, reports, In, here, there, Fits}
use Rattle.train.specs.Rules.{macs, IsMac, IsLine, Within}
use Rattle.train.specs.Rows.{Met, met, reading, Row, rows_met, rows}
use Rattle.directory.specs.Meaning.{serving}
use Rattle.train.specs.Agreement.{Agree}
use Rattle.train.proofs.Members.{not_in, in_cases}
use Rattle.train.proofs.Fit.{flip_is_line}
use Rattle.train.proofs.Reading.{reading_is_line, rows_flip}
use Rattle.train.proofs.Meetings.{Masked}
use Rattle.train.proofs.Places.{masked}
use Rattle.train.proofs.Limits.{limits_suffice}
use Rattle.std.proofs.lemmas.List.{take_all}
use Rattle.train.proofs.Totals.{within_flip}
use Rattle.train.proofs.Agreed.{agreement, rows_agree, fits_agree}
use Rattle.train.proofs.Chain.{Chains}
use Rattle.fitting.specs.Neighbours.{is_held, loose, Firm, OwnReports}
use Rattle.fitting.specs.Walk.{chain_of, IsChain}
use Rattle.fitting.specs.Assemble.{assemble}
use Rattle.fitting.specs.Answer.{mute, loosely, split, mixed, long, is_within, shown_rows, line_answer, chain_answer, firm_answer, answer}
use Rattle.fitting.specs.LateNode.{line_before, line_after}
use Rattle.fitting.specs.Theorems.{AreReports, Fitting, AwakeIn, Answers, Inaugurates, NodesAgree, SameAnswers}
use Rattle.fitting.proofs.Chain.{no_loose, real_macs}
use Rattle.fitting.proofs.Followed.{sound}
use Rattle.fitting.proofs.Reached.{reached}
use Rattle.fitting.proofs.Loose.{held_tells, held_so, none_loose, one_loose, not_firm_tells, no_loose_so}
use Rattle.fitting.proofs.Assembling.{IsNode, Nodes}
use Rattle.fitting.proofs.Assembled.{assembled_fits, fits_assembled}
use Rattle.fitting.proofs.Woken.{late_agrees, still_awake}

-- a report in its ranges is that of a node
mac_in_range : (m : ℕ) → is_mac m ≡ true → IsMac m
mac_in_range m e = let p = and_parts _ _ e in (leb-true 1 m p.0, ltb-true m _ p.1)

masks_in_range : (ms : List ℕ) → all_masks ms ≡ true → AllByRecursion (λ m. (1 ≤ m) × (m ≤ 255)) ms
masks_in_range [] e = tt
masks_in_range (m ∷ ms) e =
    let p = and_parts (is_mask m) (all_masks ms) e in
    let q = and_parts (leb 1 m) (leb m 255) p.0 in
    ((leb-true 1 m q.0, leb-true m 255 q.1), masks_in_range ms p.1)

report_mac : (r : Report) → is_report r ≡ true → IsMac r.mac
report_mac r e = mac_in_range r.mac (and_parts _ _ (and_parts _ _ (and_parts _ _ (and_parts _ _ (and_parts _ _ e).0).0).0).0).0

report_node : (l : ℕ) (a : Awake) (r : ℕ) → is_report (report l a r) ≡ true → IsNode a
report_node l a r e =
    let fit = and_parts _ _ e in
    let rest = and_parts _ _ fit.0 in
    let uuid = and_parts _ _ (and_parts _ _ rest.0).1 in
    let place = and_parts _ _ rest.1 in
    let few = and_parts _ _ place.0 in
    let masks = and_parts _ _ fit.1 in
    record {
      named = (leb-true _ _ uuid.0, ltb-true _ _ uuid.1);
      placed = (leb-true _ _ few.1, leb-true _ _ place.1);
      few_nodes = leb-true _ _ few.0;
      some_network = masks_in_range a.masks masks.0;
      no_gap = masks.1;
    }

module _ (held : List Report) (g : AreReports held) where
  own_reports : OwnReports held
  own_reports = record { real = λ r i. report_mac r (g.ranges r i); differ = g.differ }

  chain_nodes : (xs : List Awake) (r : Report) → In r held → IsChain held xs → Nodes xs
  chain_nodes xs r i c = record {
    some = some xs (c.each_true r i);
    each = each 0 xs (λ s j. g.ranges s (c.each_held s j));
    real_macs = real_macs held xs own_reports c;
    own_macs = c.own_macs;
  }
    where
      some : (ys : List Awake) → In r (reports 0 ys) → 1 ≤ length ys
      some [] j = absurd (not_in r j)
      some (a ∷ ys) j = omega arith

      each : (l : ℕ) (ys : List Awake) → ((s : Report) → In s (reports l ys) → is_report s ≡ true) → AllByRecursion IsNode ys
      each l [] h = tt
      each l (a ∷ ys) h = (report_node l a (first_mac ys) (h _ here), each a.mac ys (λ s j. h s (there j)))

  chains : (xs : List Awake) → IsChain held xs → Chains xs held
  chains xs c = record { each_true = c.each_true; each_held = c.each_held }

  line_chain : (l : Line) → Fitting held l → IsChain held (awake l)
  line_chain l f = record { each_true = f.1.each_true; each_held = f.1.each_held; own_macs = f.0.own_macs }

  -- the report of an awake node is held
  awake_held : (own : ℕ) (l : Line) → Fitting held l → AwakeIn own l → is_held own held ≡ true
  awake_held own l f i =
      let r = mac_report own 0 (awake l) i in
      subst (λ m. is_held m held ≡ true) r.2 (held_so r.0 held (f.1.each_held r.0 r.1))
    where
      mac_report : (m p : ℕ) (xs : List Awake) → In m (macs xs) → (r : Report) × In r (reports p xs) × (r.mac ≡ m)
      mac_report m p [] j = absurd (not_in m j)
      mac_report m p (a ∷ xs) j =
          ⊎_elim (λ e. (report p a (first_mac xs), here, sym e))
          (λ k. let h = mac_report m a.mac xs k in (h.0, there h.1, h.2)) (in_cases m a.mac (macs xs) j)

  -- and a report held is that of an awake node
  held_awake : (own : ℕ) (l : Line) → Fits l held → is_held own held ≡ true → AwakeIn own l
  held_awake own l f e = let r = held_tells own held e in subst (λ m. In m (macs (awake l))) r.2 (report_in r.0 0 (awake l) (f.each_true r.0 r.1))
    where
      report_in : (r : Report) (p : ℕ) (xs : List Awake) → In r (reports p xs) → In r.mac (macs xs)
      report_in r p [] j = absurd (not_in r j)
      report_in r p (a ∷ xs) j =
          ⊎_elim (λ e. subst (λ m. In m (a.mac ∷ macs xs)) (sym (ap (λ s. s.mac) e)) here) (λ k. there (report_in r a.mac xs k))
          (in_cases r (report p a (first_mac xs)) (reports a.mac xs) j)

  none_loose_in : (xs : List Awake) → IsChain held xs → loose held ≡ None
  none_loose_in xs c = no_loose_so held g.differ (no_loose held xs c) (loose held) refl

-- the limits
within_tells : (l : Line) → is_within l ≡ true → Within l
within_tells l e =
    let p = and_parts _ _ e in
    let q = and_parts _ _ p.0 in
    record { nodes = leb-true _ _ q.0; networked = leb-true _ _ q.1; bits = leb-true _ _ p.1 }

within_so : (l : Line) → Within l → is_within l ≡ true
within_so l w = and_from _ _ (and_from _ _ (le-leb _ _ w.nodes) (le-leb _ _ w.networked)) (le-leb _ _ w.bits)

-- a line within the limits shows all its rows
serving_all : (xs : List Met) → AllByRecursion Masked xs → serving xs ≡ xs
serving_all [] h = refl
serving_all (x ∷ xs) h =
    ap (λ b. cond b (x ∷ serving xs) (serving xs)) (ap not (ne_eqb x.mask 0 (λ e. omega (arith, h.0)))) ∙ ap (λ r. x ∷ r) (serving_all xs h.1)

pub shown_all : (l : Line) → IsLine l → Within l → shown_rows l ≡ rows l
shown_all l h w =
    ap (λ xs. take 128 (rows_met xs)) (serving_all (met (reading l)) (masked (reading l) (reading_is_line l h).consists))
    ∙ take_all 128 (rows l) (limits_suffice.few_rows l w)

-- the checks that an answer has passed
abbrev Past : ℕ → Result (List Row) ℕ → Type 0
Past k (Ok rs) = Unit {0}
Past k (Err n) = k < n

not_past : (k : ℕ) (x : Result (List Row) ℕ) → Err k ≡ x → Past k x → ⊥
not_past k x e p = let h : k < k = subst (Past k) (sym e) p in omega arith

abbrev AtLeast : ℕ → Result (List Row) ℕ → Type 0
AtLeast k (Ok rs) = Unit {0}
AtLeast k (Err n) = k ≤ n

line_least : (o : Option Line) → AtLeast 9 (line_answer o)
line_least None = omega arith
line_least (Some l) = elim (is_within l) as (λ b. AtLeast 9 (cond b (Ok (shown_rows l)) (Err long))) [ true ↦ tt | false ↦ omega arith ]

chain_least : (o : Option (List Awake)) → AtLeast 8 (chain_answer o)
chain_least None = omega arith
chain_least (Some xs) = weaker (line_answer (assemble xs)) (line_least (assemble xs))
  where
    weaker : (x : Result (List Row) ℕ) → AtLeast 9 x → AtLeast 8 x
    weaker (Ok rs) h = tt
    weaker (Err n) h = omega arith

module _ (held : List Report) (x : Result (List Row) ℕ) where
  past_mute : (own : ℕ) → answer own held ≡ x → Past 6 x → (is_held own held ≡ true) × (firm_answer held (loose held) ≡ x)
  past_mute own e p = go (is_held own held) refl e
    where
      go : (b : Bool) → is_held own held ≡ b → cond b (firm_answer held (loose held)) (Err mute) ≡ x → (is_held own held ≡ true) × (firm_answer held (loose held) ≡ x)
      go true k e = (k, e)
      go false k e = absurd (not_past 6 x e p)

  past_loose : (o : Option ℕ) → loose held ≡ o → firm_answer held o ≡ x → Past 7 x → (loose held ≡ None) × (chain_answer (chain_of held) ≡ x)
  past_loose None k e p = (k, e)
  past_loose (Some m) k e p = absurd (not_past 7 x e p)

  past_split : (o : Option (List Awake)) → chain_of held ≡ o → chain_answer o ≡ x → Past 8 x → (xs : List Awake) × (chain_of held ≡ Some xs) × (line_answer (assemble xs) ≡ x)
  past_split None k e p = absurd (not_past 8 x e p)
  past_split (Some xs) k e p = (xs, k, e)

  past_mixed : (xs : List Awake) (o : Option Line) → assemble xs ≡ o → line_answer o ≡ x → Past 9 x
      → (l : Line) × (assemble xs ≡ Some l) × (cond (is_within l) (Ok (shown_rows l)) (Err long) ≡ x)
  past_mixed xs None k e p = absurd (not_past 9 x e p)
  past_mixed xs (Some l) k e p = (l, k, e)

-- a chain of the reports held, and what is assembled from it
record Chained (own : ℕ) (held : List Report) (x : Result (List Row) ℕ) : Type 0 where
  own_held : is_held own held ≡ true
  chain : List Awake
  is_chain : IsChain held chain
  are_nodes : Nodes chain
  answered : line_answer (assemble chain) ≡ x

chained : (own : ℕ) (held : List Report) → AreReports held → (x : Result (List Row) ℕ) → answer own held ≡ x → Past 6 x → Past 7 x → Past 8 x → Chained own held x
chained own held g x e p6 p7 p8 =
    let a = past_mute held x own e p6 in
    let b = past_loose held x (loose held) refl a.1 p7 in
    let c = past_split held x (chain_of held) refl b.1 p8 in
    let r = held_tells own held a.0 in
    let k = sound held c.0 (own_reports held g) (none_loose held b.0) c.1 in
    record { own_held = a.0; chain = c.0; is_chain = k; are_nodes = chain_nodes held g c.0 r.0 r.1 k; answered = c.2 }

err_same : (m n : ℕ) (x : Result (List Row) ℕ) → x ≡ Err m → x ≡ Err n → m ≡ n
err_same m n x p q = cc

ok_err : (rs : List Row) (n : ℕ) (x : Result (List Row) ℕ) → x ≡ Ok rs → x ≡ Err n → ⊥
ok_err rs n x p q = let z : ◌≡◌ {A = ℕ} 0 1 = cc in omega arith

ok_same : (rs ss : List Row) (x y : Result (List Row) ℕ) → x ≡ Ok rs → y ≡ Ok ss → x ≡ y → rs ≡ ss
ok_same rs ss x y p q e = cc

some_none : {A : Type 0} (o : Option A) (a : A) → o ≡ Some a → o ≡ None → ⊥
some_none o a p q = let z : ◌≡◌ {A = ℕ} 0 1 = cc in omega arith

module _ (own : ℕ) (held : List Report) (g : AreReports held) where
  -- what is assembled, where the answer is that of its limits
  is_accepted : (rs : List Row) → answer own held ≡ Ok rs → (l : Line) × Fitting held l × Within l × AwakeIn own l × (rs ≡ rows l)
  is_accepted rs e =
      let c = chained own held g (Ok rs) e tt tt tt in
      let m = past_mixed held (Ok rs) c.chain (assemble c.chain) refl c.answered tt in
      let f = fits_assembled held c.chain c.are_nodes (chains held g c.chain c.is_chain) m.0 m.1 in
      let w = limits m.0 (is_within m.0) refl m.2 in
      (m.0, (f.0, f.1), w.0, held_awake held g own m.0 f.1 c.own_held, w.1 ∙ shown_all m.0 f.0 w.0)
    where
      limits : (l : Line) (b : Bool) → is_within l ≡ b → cond b (Ok (shown_rows l)) (Err long) ≡ Ok rs → Within l × (rs ≡ shown_rows l)
      limits l true k e = (within_tells l k, sym (ok_same _ _ _ _ refl refl e))
      limits l false k e = absurd (ok_err rs long (Err long) e refl)

  line_accepted : (l : Line) → Fitting held l → Within l → AwakeIn own l → answer own held ≡ Ok (rows l)
  line_accepted l f w i =
      let h = awake_held held g own l f i in
      let c = line_chain held g l f in
      let y = reached held (awake l) (own_reports held g) c in
      let n = none_loose_in held g (awake l) c in
      let k = sound held y.0 (own_reports held g) (none_loose held n) y.1 in
      let r = held_tells own held h in
      let a = assembled_fits held y.0 (chain_nodes held g y.0 r.0 r.1 k) (chains held g y.0 k) l f.0 f.1 in
      ap (λ b. cond b (firm_answer held (loose held)) (Err mute)) h ∙ ap (firm_answer held) n ∙ ap chain_answer y.1
      ∙ ⊎_elim (λ e. ap line_answer e ∙ ap₂ (λ b rs. cond b (Ok rs) (Err long)) (within_so l w) (shown_all l f.0 w))
      (λ e. ap line_answer e ∙ ap₂ (λ b rs. cond b (Ok rs) (Err long)) (within_so (flip l) (within_flip l w))
      (shown_all (flip l) (flip_is_line l f.0) (within_flip l w) ∙ rows_flip l f.0)) a

  is_muted : answer own held ≡ Err mute → is_held own held ≡ false
  is_muted e = go (is_held own held) refl e
    where
      least : (o : Option ℕ) → AtLeast 7 (firm_answer held o)
      least (Some m) = omega arith
      least None = weaker (chain_answer (chain_of held)) (chain_least (chain_of held))
        where
          weaker : (x : Result (List Row) ℕ) → AtLeast 8 x → AtLeast 7 x
          weaker (Ok rs) h = tt
          weaker (Err n) h = omega arith

      go : (b : Bool) → is_held own held ≡ b → cond b (firm_answer held (loose held)) (Err mute) ≡ Err mute → is_held own held ≡ false
      go true k e = let h : 7 ≤ mute = subst (AtLeast 7) e (least (loose held)) in absurd (omega arith)
      go false k e = k

  is_loosed : answer own held ≡ Err loosely → (m : ℕ) × (loose held ≡ Some m)
  is_loosed e = go (loose held) refl (past_mute held (Err loosely) own e (omega arith)).1
    where
      go : (o : Option ℕ) → loose held ≡ o → firm_answer held o ≡ Err loosely → (m : ℕ) × (loose held ≡ Some m)
      go (Some m) k e = (m, k)
      go None k e = let h : 8 ≤ loosely = subst (AtLeast 8) e (chain_least (chain_of held)) in absurd (omega arith)

  is_splitted : answer own held ≡ Err split → (loose held ≡ None) × (chain_of held ≡ None)
  is_splitted e =
      let b = past_loose held (Err split) (loose held) refl (past_mute held (Err split) own e (omega arith)).1 (omega arith) in
      (b.0, go (chain_of held) refl b.1)
    where
      go : (o : Option (List Awake)) → chain_of held ≡ o → chain_answer o ≡ Err split → chain_of held ≡ None
      go None k e = k
      go (Some xs) k e = let h : 9 ≤ split = subst (AtLeast 9) e (line_least (assemble xs)) in absurd (omega arith)

  no_split : answer own held ≡ Err split → (xs : List Awake) → IsChain held xs → ⊥
  no_split e xs c = let y = reached held xs (own_reports held g) c in some_none (chain_of held) y.0 y.1 (is_splitted e).1

  found_loose : answer own held ≡ Err loosely → (r : Report) × In r held × (Firm held r → ⊥)
  found_loose e =
      let m = is_loosed e in
      let k = one_loose held m.0 m.1 in
      (k.report, k.among, not_firm_tells held k.report g.differ k.not_firm)

  no_line : (answer own held ≡ Err mute) ⊎ (answer own held ≡ Err loosely) ⊎ (answer own held ≡ Err split) → (l : Line) → Fitting held l → AwakeIn own l → ⊥
  no_line (inl e) l f i = both_ways (is_held own held) (is_muted e) (awake_held held g own l f i)
  no_line (inr (inl e)) l f i = let m = is_loosed e in some_none (loose held) m.0 m.1 (none_loose_in held g (awake l) (line_chain held g l f))
  no_line (inr (inr e)) l f i = no_split e (awake l) (line_chain held g l f)

  found_mixed : answer own held ≡ Err mixed → ((xs : List Awake) × IsChain held xs) × ((l : Line) → Fitting held l → ⊥)
  found_mixed e =
      let c = chained own held g (Err mixed) e (omega arith) (omega arith) (omega arith) in
      let n = go (assemble c.chain) c.answered in (
        (c.chain, c.is_chain),
        λ l f. ⊎_elim (λ p. some_none _ l p n) (λ p. some_none _ (flip l) p n)
            (assembled_fits held c.chain c.are_nodes (chains held g c.chain c.is_chain) l f.0 f.1),
      )
    where
      go : (o : Option Line) → line_answer o ≡ Err mixed → o ≡ None
      go None e = refl
      go (Some l) e = elim (is_within l) as (λ b. cond b (Ok (shown_rows l)) (Err long) ≡ Err mixed → Some l ≡ None) [
        | true ↦ (λ e. absurd (ok_err (shown_rows l) mixed (Err mixed) (sym e) refl))
        | false ↦ (λ e. absurd (omega (arith, err_same long mixed (Err mixed) (sym e) refl)))
      ] e

  found_long : answer own held ≡ Err long → ((l : Line) × Fitting held l × AwakeIn own l) × ((l : Line) → Fitting held l → Within l → ⊥)
  found_long e =
      let c = chained own held g (Err long) e (omega arith) (omega arith) (omega arith) in
      let m = past_mixed held (Err long) c.chain (assemble c.chain) refl c.answered (omega arith) in
      let f = fits_assembled held c.chain c.are_nodes (chains held g c.chain c.is_chain) m.0 m.1 in (
        (m.0, (f.0, f.1), held_awake held g own m.0 f.1 c.own_held),
        λ l k w. ok_err (rows l) long (answer own held) (line_accepted l k w (held_awake held g own l k.1 c.own_held)) e,
      )

  abbrev OneOf : Result (List Row) ℕ → Type 0
  OneOf x = ((rs : List Row) × (x ≡ Ok rs)) ⊎ (x ≡ Err mute) ⊎ (x ≡ Err loosely) ⊎ (x ≡ Err split) ⊎ (x ≡ Err mixed) ⊎ (x ≡ Err long)

  answers_one : OneOf (answer own held)
  answers_one = go (is_held own held) (loose held)
    where
      of_line : (o : Option Line) → OneOf (line_answer o)
      of_line None = inr (inr (inr (inr (inl refl))))
      of_line (Some l) = elim (is_within l) as (λ b. OneOf (cond b (Ok (shown_rows l)) (Err long))) [ true ↦ inl (shown_rows l, refl) | false ↦ inr (inr (inr (inr (inr refl)))) ]

      of_chain : (o : Option (List Awake)) → OneOf (chain_answer o)
      of_chain None = inr (inr (inr (inl refl)))
      of_chain (Some xs) = of_line (assemble xs)

      go : (b : Bool) (o : Option ℕ) → OneOf (cond b (firm_answer held o) (Err mute))
      go false o = inr (inl refl)
      go true (Some m) = inr (inr (inl refl))
      go true None = of_chain (chain_of held)

  -- a line that fits and is not within the limits
  line_long : (l : Line) → Fitting held l → AwakeIn own l → (Within l → ⊥) → answer own held ≡ Err long
  line_long l f i h = go answers_one
    where
      go : OneOf (answer own held) → answer own held ≡ Err long
      go (inl (rs, e)) =
          let k = is_accepted rs e in
          absurd (h (agreement.limits k.0 l (fits_agree held k.0 l k.1.0 f.0 k.1.1 f.1) k.2))
      go (inr (inl e)) = absurd (no_line (inl e) l f i)
      go (inr (inr (inl e))) = absurd (no_line (inr (inl e)) l f i)
      go (inr (inr (inr (inl e)))) = absurd (no_line (inr (inr e)) l f i)
      go (inr (inr (inr (inr (inl e))))) = absurd ((found_mixed e).1 l f)
      go (inr (inr (inr (inr (inr e))))) = e

pub answers : (own : ℕ) (held : List Report) → AreReports held → Answers own held
answers own held g = record {
  accepted = is_accepted own held g;
  accepts = line_accepted own held g;
  is_mute = λ e r i k. both_ways (is_held own held) (is_muted own held g e) (subst (λ m. is_held m held ≡ true) k (held_so r held i));
  is_loose = found_loose own held g;
  is_split = no_split own held g;
  none_fits = no_line own held g;
  is_mixed = found_mixed own held g;
  is_long = found_long own held g;
  one_of = answers_one own held g;
}

others_agree : (first second : ℕ) (held also : List Report) → AreReports held → AreReports also → (l k : Line) → Fitting held l → AwakeIn first l
    → Fitting also k → AwakeIn second k → Agree l k → answer second also ≡ answer first held
others_agree first second held also g h l k fl i fk j a = go (is_within l) refl
  where
    go : (b : Bool) → is_within l ≡ b → answer second also ≡ answer first held
    go true e =
        let w = within_tells l e in
        line_accepted second also h k fk (agreement.limits l k a w) j ∙ ap Ok (rows_agree l k fl.0 a) ∙ sym (line_accepted first held g l fl w i)
    go false e =
        let none : Within l → ⊥ = λ w. both_ways (is_within l) e (within_so l w) in
        line_long second also h k fk j (λ w. none (agreement.limits k l (agreement.both_ways l k a) w)) ∙ sym (line_long first held g l fl i none)

pub same_answers : (own : ℕ) (held : List Report) → AreReports held → SameAnswers own held
same_answers own held g = record {
  others = λ other also h l k fl i fk j a. others_agree own other held also g h l k fl i fk j a;
  late = λ n also h fl i fk. others_agree own own held also g h (line_before n) (line_after n) fl i fk (still_awake own n i) (late_agrees n);
  late_agrees = late_agrees;
}

pub inaugurates : Inaugurates
inaugurates = answers

pub nodes_agree : NodesAgree
nodes_agree first second held also g h l k fl fk a w i j =
    line_accepted second also h k fk (agreement.limits l k a w) j ∙ ap Ok (rows_agree l k fl.0 a) ∙ sym (line_accepted first held g l fl w i)
