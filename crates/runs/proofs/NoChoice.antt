-- The rules leave no choice: an answer that is right is the one that a node gives. Assumes nothing.
use Rattle.std.proofs.Common.{◌≡◌, ℕ, ◌*◌, ◌≤◌, Bool, true, false, cond, eqb, ltb, List, [], ◌∷◌, length, Some, None, Ok, Err, Option, Result, Less, sym, refl, ap, ◌∙◌, subst, inl, inr, arith}
use Rattle.std.proofs.lemmas.Bool.{cases_Bool, cases_lt, cases_eq, cond-true, cond-false, and_from, and_left, and_right, both_ways, eq-eqb, ne_eqb, lt-ltb, le-ltb}
use Rattle.counter.specs.Crc.{crc}
use Rattle.keyed.specs.Orders.{numbers}
use Rattle.keyed.specs.Rising.{Above}
use Rattle.keyed.specs.Find.{found}
use Rattle.keyed.specs.Store.{stored}
use Rattle.keyed.specs.Store as store
use Rattle.keyed.specs.Remove.{removed}
use Rattle.keyed.proofs.Orders.{total_numbers}
use Rattle.report.specs.Reports.{Report}
use Rattle.report.specs.Refusals.{Refusal}
use Rattle.report.specs.Reading.{read}
use Rattle.report.specs.Crossed.{Crossed, crossed, is_crossed}
use Rattle.train.specs.Line.{Line}
use Rattle.train.specs.Truth.{In, here, there}
use Rattle.train.specs.Rules.{Within}
use Rattle.train.specs.Rows.{Row, rows as line_rows}
use Rattle.train.specs.Bytes.{rows_bytes}
use Rattle.fitting.specs.Neighbours.{is_held, loose as first_loose, Firm}
use Rattle.fitting.specs.Answer.{mute, loosely, split, mixed, long, firm_answer, answer}
use Rattle.fitting.specs.Theorems.{Answers, Fitting, AwakeIn}
use Rattle.fitting.proofs.Found.{in_cases, in_none}
use Rattle.fitting.proofs.Steps.{none_some}
use Rattle.fitting.proofs.Loose.{held_tells, none_loose}
use Rattle.directory.specs.Asked.{place_of}
use Rattle.directory.specs.Writing.{write_leaves}
use Rattle.plan.specs.Meaning.{Meaning, Lawful}
use Rattle.addressing.specs.Devices.{Device}
use Rattle.addressing.specs.Addressing.{addressed, traced}
use Rattle.addressing.proofs.OwnAddresses.{node_of, node_only}
use Rattle.runs.specs.Calls.{State, Call, take, silence, inaugurate, hold, give_back, directory, status, address, trace, Answer, held, counter, granted, returned, rows, node, at_address, device, refused, full, unknown, barred, busy, told, onward, own_mac, stored_count, take_answer, silence_answer, bars, looked_at, named, hold_answer, is_returned, directory_answer, is_awake, status_answer, reply, writes, Event, event}
use Rattle.runs.specs.Histories.{History, ReportsHeld, out, LastLine}
use Rattle.runs.specs.Right.{Has, RightTake, RightSilence, RightInaugurate, RightHold, RightGiveBack, RightDirectory, HasPosition, IsNodeNumber, RightStatus, HasAddress, RightAddress, RightTrace, RightAnswer, Right}
use Rattle.runs.specs.Promise.{SameAnswer}
use Rattle.runs.proofs.Tables.{Rises, found_in, found_mac, full_only, full_then}
use Rattle.runs.proofs.Forces.{one_force}
use Rattle.runs.proofs.Holds.{out_is}
use Rattle.runs.proofs.Steps.{Kept, stored_held, silenced_held, found_so, answers, bars_so, free_so}
use Rattle.runs.proofs.Rights.{crossed_so, crossed_tells, has_found, inaugurated_as}
use Rattle.runs.proofs.Questions.{written_none, right_directory, awake_so, awake_tells, right_status, own_of, right_address, right_trace}

ok_err : {A : Type 0} (x : A) (f : Refusal) → ◌≡◌ {A = Result A Refusal} (Ok x) (Err f) → ⊥
ok_err x f e = cc

err_same : (n m : ℕ) → ◌≡◌ {A = Result (List Row) ℕ} (Err n) (Err m) → n ≡ m
err_same n m e = cc

-- Rising reports are one list for what is among them.
above_in : (k : ℕ) (xs : List Report) (x : Report) → Above numbers own_mac k xs → In x xs → numbers k x.mac ≡ Less
above_in k [] x a i = absurd (in_none i)
above_in k (y ∷ ys) x a i = elim (in_cases i) [ inl e ↦ ap (λ (q : Report). numbers k q.mac) e ∙ a.0 | inr j ↦ above_in k ys x a.1 j ]

not_less : (k : ℕ) → numbers k k ≡ Less → ⊥
not_less k l = let s = total_numbers.itself k in cc

both_less : (j k : ℕ) → numbers j k ≡ Less → numbers k j ≡ Less → ⊥
both_less j k l m = not_less j (total_numbers.carries j k j l m)

first_same : (x y : Report) (xs ys : List Report) → Above numbers own_mac x.mac xs → Above numbers own_mac y.mac ys → In x (y ∷ ys) → In y (x ∷ xs) → x ≡ y
first_same x y xs ys a b i j =
    elim (in_cases i) [
      | inl e ↦ e
      | inr p ↦ elim (in_cases j) [
        | inl e ↦ sym e
        | inr q ↦ absurd (both_less x.mac y.mac (above_in x.mac xs y a q) (above_in y.mac ys x b p))
      ]
    ]

-- a later member is not the first
later : (x : Report) (xs : List Report) (z : Report) → Above numbers own_mac x.mac xs → In z xs → z ≡ x → ⊥
later x xs z a i e = not_less x.mac (ap (λ (q : Report). numbers x.mac q.mac) (sym e) ∙ above_in x.mac xs z a i)

rest_in : (x y : Report) (xs ys : List Report) → x ≡ y → Above numbers own_mac x.mac xs → ((z : Report) → In z (x ∷ xs) → In z (y ∷ ys)) → (z : Report) → In z xs → In z ys
rest_in x y xs ys e a f z i = elim (in_cases (f z (there i))) [ inl q ↦ absurd (later x xs z a i (q ∙ sym e)) | inr j ↦ j ]

pub one_list : (xs ys : List Report) → Rises xs → Rises ys → ((z : Report) → In z xs → In z ys) → ((z : Report) → In z ys → In z xs) → xs ≡ ys
one_list [] [] a b f g = refl
one_list [] (y ∷ ys) a b f g = absurd (in_none (g y here))
one_list (x ∷ xs) [] a b f g = absurd (in_none (f x here))
one_list (x ∷ xs) (y ∷ ys) a b f g =
    let e = first_same x y xs ys a.0 b.0 (f x here) (g y here) in
    let r = one_list xs ys a.1 b.1 (rest_in x y xs ys e a.0 f) (rest_in y x ys xs (sym e) b.0 g) in
    λ i. e i ∷ r i

pub one_held : (h : History) (hs gs : List Report) → ReportsHeld h hs → ReportsHeld h gs → hs ≡ gs
one_held h hs gs k j = one_list hs gs k.rising j.rising (λ z i. j.all z (k.each z i)) (λ z i. k.all z (j.each z i))

module _ (plan : Meaning) (lawful : Lawful plan.serves plan.stands) (mac places : ℕ) (h : History) (s : State) (k : Kept mac places h s) where
  abbrev hs : List Report
  hs = s.held

  rises : Rises hs
  rises = k.are_held.rising

  passes : Report → Result Report Refusal
  passes r = cond (is_crossed r) (Err crossed) (Ok r)

  -- Taking.
  pin_take : (then : List Report) (ws : List ℕ) (a : Answer) (b l : List ℕ) → ReportsHeld (event (take ws) a b l ∷ h) then → RightTake places hs then ws a
      → a ≡ told held (take_answer s ws)
  pin_take then ws a b l j t = go (read ws) refl
    where
      T : Result Report Refusal → Answer
      T o = told held (onward (onward o (λ r. cond (is_crossed r) (Err crossed) (Ok r))) (stored_count s.room hs))

      counts : (r : Report) → read ws ≡ Ok r → store.refused numbers own_mac r s.room hs ≡ false → a ≡ held (length then) → a ≡ held (length (stored numbers own_mac r hs))
      counts r e f p =
          p ∙ ap (λ gs. held (length gs)) (one_held (event (take ws) a b l ∷ h) then (stored numbers own_mac r hs) j
          (stored_held h hs s.room k.are_held k.few ws r a b l (length then) e f p))

      stores : (r : Report) (z : Bool) → read ws ≡ Ok r → (Crossed r → ⊥) → store.refused numbers own_mac r s.room hs ≡ z
          → a ≡ told held (cond z (Err full) (Ok (length (stored numbers own_mac r hs))))
      stores r true e n f =
          let o = full_only hs r s.room f in
          t.full r e n (λ has. none_some (sym o.0 ∙ (has_found hs rises r.mac has).1)) (let q = o.1 in let c = k.room_is in omega arith)
      stores r false e n f =
          counts r e f (elim (cases_lt (length hs) s.room) [
            | inl less ↦ t.new r e n (let c = k.room_is in omega arith)
            | inr fits ↦ again (found numbers own_mac r.mac hs) refl fits
          ])
        where
          again : (o : Option Report) → found numbers own_mac r.mac hs ≡ o → s.room ≤ length hs → a ≡ held (length then)
          again (Some q) g fits = t.again r e n (q, found_in hs r.mac q g, found_mac hs r.mac q g)
          again None g fits = absurd (both_ways (store.refused numbers own_mac r s.room hs) f (full_then hs r s.room g fits))

      passed : (r : Report) (c : Bool) → read ws ≡ Ok r → is_crossed r ≡ c → a ≡ told held (onward (cond c (Err crossed) (Ok r)) (stored_count s.room hs))
      passed r true e c = t.crossed r e (crossed_tells r c)
      passed r false e c = stores r (store.refused numbers own_mac r s.room hs) e (λ x. both_ways (is_crossed r) c (crossed_so r x)) refl

      go : (o : Result Report Refusal) → read ws ≡ o → a ≡ T (read ws)
      go (Err f) e = t.garbled f e ∙ sym (ap T e)
      go (Ok r) e = passed r (is_crossed r) e refl ∙ sym (ap T e)

  pin_silence : (then : List Report) (m : ℕ) (a : Answer) (b l : List ℕ) → ReportsHeld (event (silence m) a b l ∷ h) then → RightSilence hs then m a
      → a ≡ told held (silence_answer s m)
  pin_silence then m a b l j t = go (found numbers own_mac m hs) refl
    where
      T : Option Report → Answer
      T o = told held (elim o [ Some r ↦ Ok (length (removed numbers own_mac m hs)) | None ↦ Err unknown ])

      go : (o : Option Report) → found numbers own_mac m hs ≡ o → a ≡ T (found numbers own_mac m hs)
      go (Some r) e =
          let p = t.known (r, found_in hs m r e, found_mac hs m r e) in
          p ∙ ap (λ gs. held (length gs)) (one_held (event (silence m) a b l ∷ h) then (removed numbers own_mac m hs) j
          (silenced_held h hs s.room k.are_held k.few m a b l (length then) p)) ∙ sym (ap T e)
      go None e = t.unknown (λ has. none_some (sym e ∙ (has_found hs rises m has).1)) ∙ sym (ap T e)

  -- Inauguration.
  ans : Answers mac hs
  ans = answers mac places h s k

  firm_so : (n : ℕ) → answer mac hs ≡ Err n → (n ≡ mute → ⊥) → Has mac hs
  firm_so n e other = elim (cases_Bool (is_held mac hs)) [
    | inl t ↦ held_tells mac hs t
    | inr f ↦ absurd (other (err_same n mute (sym e ∙ cond-false (is_held mac hs) (firm_answer hs (first_loose hs)) (Err mute) f)))
  ]

  none_loose_so : answer mac hs ≡ Err split → (r : Report) → In r hs → Firm hs r
  none_loose_so e = go (first_loose hs) refl
    where
      own : is_held mac hs ≡ true
      own = elim (cases_Bool (is_held mac hs)) [
        | inl t ↦ t
        | inr f ↦ absurd (let z = err_same split mute (sym e ∙ cond-false (is_held mac hs) (firm_answer hs (first_loose hs)) (Err mute) f) in let g : ⊥ = omega arith in g)
      ]

      go : (o : Option ℕ) → first_loose hs ≡ o → (r : Report) → In r hs → Firm hs r
      go None q = none_loose hs q
      go (Some m) q = absurd (let z = err_same split loosely (sym e ∙ cond-true (is_held mac hs) (firm_answer hs (first_loose hs)) (Err mute) own ∙ ap (firm_answer hs) q) in let g : ⊥ = omega arith in g)

  pin_inaugurate : (a : Answer) → RightInaugurate mac h hs a → (loose : ℕ) × (a ≡ inaugurated_as s loose (answer mac hs))
  pin_inaugurate a t =
      elim ans.one_of [
        | inl q ↦ (let c = ans.accepted q.0 q.1 in (0, found_line c.0 c.1 c.2 c.3 (bars s (line_rows c.0)) refl ∙ sym (ap (inaugurated_as s 0) (q.1 ∙ ap Ok c.4))))
        | inr (inl e) ↦ (0, t.mute (λ has. ans.is_mute e has.0 has.1 has.2) ∙ back mute e)
        | inr (inr (inl e)) ↦ (let r = ans.is_loose e in let q = t.loose (firm_so loosely e (λ z. omega (arith, z))) r.0 r.1 r.2 in (q.0.mac, q.3 ∙ sym (ap (inaugurated_as s q.0.mac) e)))
        | inr (inr (inr (inl e))) ↦ (0, t.split (firm_so split e (λ z. omega (arith, z))) (none_loose_so e) (ans.is_split e) ∙ back split e)
        | inr (inr (inr (inr (inl e)))) ↦ (let m = ans.is_mixed e in (0, t.mixed (firm_so mixed e (λ z. omega (arith, z))) m.0.0 m.0.1 m.1 ∙ back mixed e))
        | inr (inr (inr (inr (inr e)))) ↦ (let m = ans.is_long e in (0, t.long (firm_so long e (λ z. omega (arith, z))) m.0.0 m.0.1 (m.1 m.0.0 m.0.1) ∙ back long e))
      ]
    where
      back : (n : ℕ) → answer mac hs ≡ Err n → refused (named 0 n) ≡ inaugurated_as s 0 (answer mac hs)
      back n e = sym (ap (inaugurated_as s 0) e)

      found_line : (l : Line) → Fitting hs l → Within l → AwakeIn mac l → (b : Bool) → bars s (line_rows l) ≡ b → a ≡ inaugurated_as s 0 (Ok (line_rows l))
      found_line l f w v true e = t.barred l f w v (bars_so mac places h s k l e) ∙ sym (ap (λ z. told (λ rs. counter (crc (rows_bytes rs))) (cond z (Err barred) (Ok (line_rows l)))) e)
      found_line l f w v false e = t.accepted l f w v (free_so mac places h s k l e) ∙ sym (ap (λ z. told (λ rs. counter (crc (rows_bytes rs))) (cond z (Err barred) (Ok (line_rows l)))) e)

  -- Holds.
  out_so : out h ≡ s.holds
  out_so = out_is h s.holds k.holds_out

  pin_hold : (a : Answer) → RightHold mac h a → a ≡ told granted (hold_answer s)
  pin_hold a t = elim (cases_lt s.holds 16) [
    | inl l ↦ t.free (omega (arith, out_so)) ∙ ap granted (sym k.mac_is) ∙ sym (ap (λ z. told granted (cond z (Ok s.mac) (Err busy))) (lt-ltb s.holds 16 l))
    | inr l ↦ t.busy (omega (arith, out_so)) ∙ sym (ap (λ z. told granted (cond z (Ok s.mac) (Err busy))) (le-ltb s.holds 16 l))
  ]

  pin_give_back : (m : ℕ) (a : Answer) → RightGiveBack mac h m a → a ≡ returned (is_returned s m)
  pin_give_back m a t = elim (cases_eq m s.mac) [
    | inr n ↦ t.other (λ e. n (e ∙ sym k.mac_is)) ∙ sym (ap returned (and_left (eqb m s.mac) (ltb 0 s.holds) (ne_eqb m s.mac n)))
    | inl e ↦ elim (cases_lt 0 s.holds) [
      | inl l ↦ t.own (e ∙ k.mac_is) (omega (arith, out_so)) ∙ sym (ap returned (and_from (eqb m s.mac) (ltb 0 s.holds) (eq-eqb m s.mac e) (lt-ltb 0 s.holds l)))
      | inr l ↦ t.none (omega (arith, out_so)) ∙ sym (ap returned (and_right (eqb m s.mac) (ltb 0 s.holds) (le-ltb 0 s.holds l)))
    ]
  ]

  -- Questions.
  pin_directory : (rs : List Row) (a : Answer) (b l : List ℕ) → RightDirectory rs a b l → (a ≡ told rows (directory_answer rs (length b))) × (l ≡ write_leaves rs b)
  pin_directory [] a b l t = (let p = t.none refl in (p.0, p.1 ∙ sym (written_none b)))
  pin_directory (r ∷ rs) a b l t =
      let right = right_directory (r ∷ rs) (told rows (directory_answer (r ∷ rs) (length b))) b (write_leaves (r ∷ rs) b) refl refl in
      let some : 1 ≤ length (r ∷ rs) = omega arith in
      elim (cases_lt (length b) (20 * length (r ∷ rs))) [
        | inl less ↦ (let p = t.short some less in let q = right.short some less in (p.0 ∙ sym q.0, p.1 ∙ sym q.1))
        | inr fits ↦ (let p = t.whole some fits in let q = right.whole some fits in (p.0 ∙ sym q.0, p.1 ∙ sym q.1))
      ]

  -- what is in force comes from a last accepted line, or nothing was accepted
  pin_status : (n : ℕ) (a : Answer) → RightStatus mac h hs n a → a ≡ told (λ p. node p.0 p.1 (is_awake p.0 p.1 hs)) (status_answer s n)
  pin_status n a t = elim k.in_force [
    | inl z ↦ t.none z.0 ∙ sym (right.none z.0)
    | inr z ↦ at z.0 z.1 (place_of n (line_rows z.0)) refl
  ]
    where
      right : RightStatus mac h hs n (told (λ p. node p.0 p.1 (is_awake p.0 p.1 hs)) (status_answer s n))
      right = right_status mac h s k.in_force n (told (λ p. node p.0 p.1 (is_awake p.0 p.1 hs)) (status_answer s n)) refl

      at : (l : Line) → LastLine mac h l → (o : Option (ℕ × ℕ)) → place_of n (line_rows l) ≡ o → a ≡ told (λ p. node p.0 p.1 (is_awake p.0 p.1 hs)) (status_answer s n)
      at l last (Some q) e =
          let i = node_only l last.line.fitting.0 last.line.within n q.0 q.1 e in
          elim (cases_Bool (is_awake q.0 q.1 hs)) [
            | inl w ↦ (let has = awake_tells q.0 q.1 hs w in t.awake l last q.0 q.1 i has ∙ sym (right.awake l last q.0 q.1 i has))
            | inr w ↦ (let silent = λ (has : HasPosition q.0 q.1 hs). both_ways (is_awake q.0 q.1 hs) w (awake_so q.0 q.1 hs has.0 has.1 has.2 has.3) in
                t.silent l last q.0 q.1 i silent ∙ sym (right.silent l last q.0 q.1 i silent))
          ]
      at l last None e =
          let none = λ (u x : ℕ) (i : IsNodeNumber l n u x). none_some (sym e ∙ (node_of l last.line.fitting.0 last.line.within n u x i).0) in
          t.absent l last none ∙ sym (right.absent l last none)

  pin_address : (d : Device) (a : Answer) → RightAddress plan mac h d a → a ≡ told at_address (addressed plan.serves s.rows d)
  pin_address d a t = elim k.in_force [
    | inl z ↦ t.none z.0 ∙ sym (right.none z.0)
    | inr z ↦ at z.0 z.1 (addressed plan.serves (line_rows z.0) d) refl
  ]
    where
      right : RightAddress plan mac h d (told at_address (addressed plan.serves s.rows d))
      right = right_address mac h s k.in_force plan lawful d (told at_address (addressed plan.serves s.rows d)) refl

      at : (l : Line) → LastLine mac h l → (o : Result ℕ Refusal) → addressed plan.serves (line_rows l) d ≡ o → a ≡ told at_address (addressed plan.serves s.rows d)
      at l last (Ok x) e =
          let g = (own_of mac h s k.in_force plan lawful l last).gets_only d x e in
          let has : HasAddress plan l d x = record { place = g.0; has_place = g.1; served = g.2 } in
          t.served l last x has ∙ sym (right.served l last x has)
      at l last (Err f) e =
          let none = λ (x : ℕ) (has : HasAddress plan l d x). ok_err x f (sym ((own_of mac h s k.in_force plan lawful l last).gets d has.place x has.has_place has.served) ∙ e) in
          t.absent l last none ∙ sym (right.absent l last none)

  pin_trace : (x : ℕ) (a : Answer) → RightTrace plan mac h x a → a ≡ told device (traced plan.stands s.rows x)
  pin_trace x a t = elim k.in_force [
    | inl z ↦ t.none z.0 ∙ sym (right.none z.0)
    | inr z ↦ at z.0 z.1 (traced plan.stands (line_rows z.0) x) refl
  ]
    where
      right : RightTrace plan mac h x (told device (traced plan.stands s.rows x))
      right = right_trace mac h s k.in_force plan lawful x (told device (traced plan.stands s.rows x)) refl

      at : (l : Line) → LastLine mac h l → (o : Result Device Refusal) → traced plan.stands (line_rows l) x ≡ o → a ≡ told device (traced plan.stands s.rows x)
      at l last (Ok d) e =
          let g = (own_of mac h s k.in_force plan lawful l last).back_only d x e in
          let has : HasAddress plan l d x = record { place = g.0; has_place = g.1; served = g.2 } in
          t.found l last d has ∙ sym (right.found l last d has)
      at l last (Err f) e =
          let none = λ (d : Device) (has : HasAddress plan l d x). ok_err d f (sym ((own_of mac h s k.in_force plan lawful l last).back d has.place x has.has_place has.served) ∙ e) in
          t.absent l last none ∙ sym (right.absent l last none)

  -- every call
  abbrev Pinned : Call → Answer → List ℕ → List ℕ → Type 0
  Pinned c a b l = (loose : ℕ) × (a ≡ reply plan s loose (length b) c) × (l ≡ writes s c b)

  pin : (then : List Report) (c : Call) (a : Answer) (b l : List ℕ) → ReportsHeld (event c a b l ∷ h) then → RightAnswer plan mac places h hs s.rows then c a b l → Pinned c a b l
  pin then (take ws) a b l j t = (0, pin_take then ws a b l j t.0, t.1)
  pin then (silence m) a b l j t = (0, pin_silence then m a b l j t.0, t.1)
  pin then inaugurate a b l j t =
      let p = pin_inaugurate a t.0 in
      (p.0, p.1 ∙ sym (ap (inaugurated_as s p.0) (found_so mac places h s k)), t.1)
  pin then hold a b l j t = (0, pin_hold a t.0, t.1)
  pin then (give_back m) a b l j t = (0, pin_give_back m a t.0, t.1)
  pin then directory a b l j t = (let p = pin_directory s.rows a b l t in (0, p.0, p.1))
  pin then (status n) a b l j t = (0, pin_status n a t.0, t.1)
  pin then (address d) a b l j t = (0, pin_address d a t.0, t.1)
  pin then (trace x) a b l j t = (0, pin_trace x a t.0, t.1)

  pin_event : (e : Event) → Right plan mac places h e → Pinned e.call e.answer e.before e.after
  pin_event e t =
      pin t.then e.call e.answer e.before e.after t.held_then
      (subst (λ (x : List Report × List Row). RightAnswer plan mac places h x.0 x.1 t.then e.call e.answer e.before e.after)
      (λ i. (one_held h t.hs hs t.are_held k.are_held i, one_force mac h s.rows t.rs k.in_force t.in_force i)) t.answer)

  -- replies differ at most in the loose report that they name
  settled_same : (m j : ℕ) (o : Result (List Row) ℕ) → SameAnswer (inaugurated_as s m o) (inaugurated_as s j o)
  settled_same m j (Ok rs) = inl refl
  settled_same m j (Err n) = elim (cases_eq n loosely) [
    | inl e ↦ inr (m, j, ap (λ x. refused (named m x)) e, ap (λ x. refused (named j x)) e)
    | inr d ↦ inl (λ i. refused (n, (ap (λ z. cond z (m ∷ []) []) (ne_eqb n loosely d) ∙ sym (ap (λ z. cond z (j ∷ []) []) (ne_eqb n loosely d))) i))
  ]

  reply_same : (m j size : ℕ) (c : Call) → SameAnswer (reply plan s m size c) (reply plan s j size c)
  reply_same m j size (take ws) = inl refl
  reply_same m j size (silence n) = inl refl
  reply_same m j size inaugurate = settled_same m j (answer s.mac (looked_at s))
  reply_same m j size hold = inl refl
  reply_same m j size (give_back n) = inl refl
  reply_same m j size directory = inl refl
  reply_same m j size (status n) = inl refl
  reply_same m j size (address d) = inl refl
  reply_same m j size (trace x) = inl refl

  pub no_choice : (e f : Event) → Right plan mac places h e → Right plan mac places h f → f.call ≡ e.call → f.before ≡ e.before → SameAnswer e.answer f.answer × (f.after ≡ e.after)
  no_choice e f t u c b =
      let p = pin_event e t in
      let q = pin_event f u in
      let there : f.answer ≡ reply plan s q.0 (length e.before) e.call = q.1 ∙ (λ i. reply plan s q.0 (length (b i)) (c i)) in (
        subst (λ (x : Answer × Answer). SameAnswer x.0 x.1) (λ i. (sym p.1 i, sym there i)) (reply_same p.0 q.0 (length e.before) e.call),
        q.2 ∙ (λ i. writes s (c i) (b i)) ∙ sym p.2,
      )
