-- What a node keeps through one call. Assumes nothing.
use Rattle.std.proofs.Common.{◌≡◌, ℕ, ◌≤◌, min, Bool, true, false, cond, not, ◌&&◌, eqb, ltb, List, [], ◌∷◌, length, Some, None, Ok, Err, Option, Result, sym, refl, ap, ◌∙◌, subst, inl, inr, arith, take_all}
use Rattle.std.proofs.lemmas.Bool.{and_parts, and_cases, and_from, both_ways, eqb-true, eq-eqb, ltb-true, ltb-false, not-true, not-false, false≢true}
use Rattle.keyed.specs.Orders.{numbers}
use Rattle.keyed.specs.Rising.{Rising}
use Rattle.keyed.specs.Find.{found}
use Rattle.keyed.specs.Store.{stored, store_keeps}
use Rattle.keyed.specs.Store as store
use Rattle.keyed.specs.Remove.{removed}
use Rattle.keyed.proofs.Members.{stored_few, removed_few}
use Rattle.counter.specs.Crc.{crc}
use Rattle.report.specs.Reports.{Report}
use Rattle.report.specs.Refusals.{Refusal}
use Rattle.report.specs.Reading.{read}
use Rattle.report.specs.Crossed.{crossed, is_crossed}
use Rattle.train.specs.Line.{Line, Way, forward, turned}
use Rattle.train.specs.Rules.{Within}
use Rattle.train.specs.Rows.{Row, rows as line_rows}
use Rattle.train.specs.Bytes.{rows_bytes}
use Rattle.fitting.specs.Assemble.{same_way}
use Rattle.fitting.specs.Answer.{answer}
use Rattle.fitting.specs.Theorems.{Answers, Fitting, AwakeIn}
use Rattle.fitting.proofs.Assembling.{way_same}
use Rattle.fitting.proofs.Answers.{answers as fitting_answers}
use Rattle.plan.specs.Meaning.{Meaning}
use Rattle.runs.specs.Calls.{State, fresh, Call, take, silence, inaugurate, hold, give_back, directory, status, address, trace, Answer, held, counter, full, unknown, barred, told, onward, own_mac, let_through, stored_count, held_with, same_row, same_rows, bars, looked_at, named, decided, rows_after, reply, after, Event, event}
use Rattle.runs.specs.Histories.{History, ReportsHeld, LineFits, InForce, Bars}
use Rattle.runs.proofs.Tables.{keeps_rises}
use Rattle.runs.proofs.Holding.{Quiet, quiet_call, quiet_refused, held_keep, held_take, held_silence, held_unknown, held_none, are_reports, ok_same, same_words, same_mac}
use Rattle.runs.proofs.Forces.{not_inauguration, not_granted, force_more, force_now, one_force}
use Rattle.runs.proofs.Holds.{Out, out_is}

-- what a node keeps after each event: it knows of its history what it needs
pub record Kept (mac places : ℕ) (h : History) (s : State) : Type 0 where
  pub mac_is : s.mac ≡ mac
  pub room_is : s.room ≡ min places 63
  pub are_held : ReportsHeld h s.held
  pub few : length s.held ≤ s.room
  pub holds_out : Out h s.holds
  pub in_force : InForce mac h s.rows

pub kept_fresh : (mac places : ℕ) → Kept mac places [] (fresh mac places)
kept_fresh mac places = record {
  mac_is = refl;
  room_is = refl;
  are_held = held_none;
  few = omega arith;
  holds_out = record { balance = refl; few = omega arith };
  in_force = inl (tt, refl);
}

-- Reports.
-- the report that is let through
pub through_read : (ws : List ℕ) (r : Report) → let_through ws ≡ Ok r → (read ws ≡ Ok r) × (is_crossed r ≡ false)
through_read ws r e = go (read ws) refl e
  where
    pick : (q : Report) (b : Bool) → is_crossed q ≡ b → read ws ≡ Ok q → ◌≡◌ {A = Result Report Refusal} (cond b (Err crossed) (Ok q)) (Ok r) → (read ws ≡ Ok r) × (is_crossed r ≡ false)
    pick q true c p e = cc
    pick q false c p e = let s : q ≡ r = cc in (p ∙ ap Ok s, sym (ap is_crossed s) ∙ c)

    go : (o : Result Report Refusal) → read ws ≡ o → onward o (λ q. cond (is_crossed q) (Err crossed) (Ok q)) ≡ Ok r → (read ws ≡ Ok r) × (is_crossed r ≡ false)
    go (Ok q) p e = pick q (is_crossed q) refl p e
    go (Err f) p e = cc

module _ (h : History) (hs : List Report) (room : ℕ) (k : ReportsHeld h hs) (few : length hs ≤ room) where
  abbrev Holding : Event → List Report → Type 0
  Holding e gs = ReportsHeld (e ∷ h) gs × (length gs ≤ room)

  quiet : (e : Event) → Quiet e → Holding e hs
  quiet e q = (held_keep h e hs k q, few)

  pub stored_held : (ws : List ℕ) (r : Report) (a : Answer) (b l : List ℕ) (n : ℕ) → read ws ≡ Ok r → store.refused numbers own_mac r room hs ≡ false → a ≡ held n
      → ReportsHeld (event (take ws) a b l ∷ h) (stored numbers own_mac r hs)
  stored_held ws r a b l n rd t p =
      let rises = subst (λ (gs : List Report). Rising numbers own_mac gs) (ap (λ z. cond z hs (stored numbers own_mac r hs)) t) (keeps_rises hs r room k.rising) in
      held_take h (event (take ws) a b l) hs k r (record { words = ws; count = n; call = refl; read = rd; answer = p })
      (λ q y. (let w : ws ≡ y.words = same_words ws y.words y.call in ok_same q r (sym y.read ∙ sym (ap read w) ∙ rd)))
      (λ m y. let z = y.call in cc) rises

  pub silenced_held : (m : ℕ) (a : Answer) (b l : List ℕ) (n : ℕ) → a ≡ held n → ReportsHeld (event (silence m) a b l ∷ h) (removed numbers own_mac m hs)
  silenced_held m a b l n p =
      held_silence h (event (silence m) a b l) hs k m (record { count = n; call = refl; answer = p })
      (λ q y. let z = y.call in cc) (λ j y. sym (same_mac m j y.call))

  take_step : (ws : List ℕ) (a : Answer) (b l : List ℕ) → a ≡ told held (onward (let_through ws) (stored_count room hs))
      → Holding (event (take ws) a b l) (held_with room hs (let_through ws))
  take_step ws a b l p = go (let_through ws) refl p
    where
      e : Event
      e = event (take ws) a b l

      stores : (r : Report) (t : Bool) → let_through ws ≡ Ok r → store.refused numbers own_mac r room hs ≡ t
          → a ≡ told held (cond t (Err full) (Ok (length (stored numbers own_mac r hs))))
          → Holding e (cond t hs (stored numbers own_mac r hs))
      stores r true i t p = quiet e (quiet_refused e full p)
      stores r false i t p = (stored_held ws r a b l (length (stored numbers own_mac r hs)) (through_read ws r i).0 t p, stored_few numbers own_mac hs r room few t)

      go : (o : Result Report Refusal) → let_through ws ≡ o → a ≡ told held (onward o (stored_count room hs)) → Holding e (held_with room hs o)
      go (Ok r) i p = stores r (store.refused numbers own_mac r room hs) i refl p
      go (Err f) i p = quiet e (quiet_refused e f p)

  silence_step : (m : ℕ) (a : Answer) (b l : List ℕ)
      → a ≡ told held (elim (found numbers own_mac m hs) [ Some r ↦ Ok (length (removed numbers own_mac m hs)) | None ↦ Err unknown ])
      → Holding (event (silence m) a b l) (removed numbers own_mac m hs)
  silence_step m a b l p = go (found numbers own_mac m hs) refl p
    where
      e : Event
      e = event (silence m) a b l

      less : length (removed numbers own_mac m hs) ≤ room
      less = let n = removed_few numbers own_mac hs m in omega arith

      go : (o : Option Report) → found numbers own_mac m hs ≡ o → a ≡ told held (elim o [ Some r ↦ Ok (length (removed numbers own_mac m hs)) | None ↦ Err unknown ])
          → Holding e (removed numbers own_mac m hs)
      go (Some r) f p = (silenced_held m a b l (length (removed numbers own_mac m hs)) p, less)
      go None f p = (held_unknown h e hs k m (quiet_refused e unknown p) f, less)

pub held_step : (plan : Meaning) (h : History) (s : State) (loose : ℕ) (c : Call) (a : Answer) (b l : List ℕ) → ReportsHeld h s.held → length s.held ≤ s.room
    → a ≡ reply plan s loose (length b) c → ReportsHeld (event c a b l ∷ h) (after s c).held × (length (after s c).held ≤ s.room)
held_step plan h s loose (take ws) a b l k few p = take_step h s.held s.room k few ws a b l p
held_step plan h s loose (silence m) a b l k few p = silence_step h s.held s.room k few m a b l p
held_step plan h s loose inaugurate a b l k few p = quiet h s.held s.room k few (event inaugurate a b l) (quiet_call (event inaugurate a b l) (λ ws z. cc) (λ n z. cc))
held_step plan h s loose hold a b l k few p = quiet h s.held s.room k few (event hold a b l) (quiet_call (event hold a b l) (λ ws z. cc) (λ n z. cc))
held_step plan h s loose (give_back m) a b l k few p = quiet h s.held s.room k few (event (give_back m) a b l) (quiet_call (event (give_back m) a b l) (λ ws z. cc) (λ n z. cc))
held_step plan h s loose directory a b l k few p = quiet h s.held s.room k few (event directory a b l) (quiet_call (event directory a b l) (λ ws z. cc) (λ n z. cc))
held_step plan h s loose (status n) a b l k few p = quiet h s.held s.room k few (event (status n) a b l) (quiet_call (event (status n) a b l) (λ ws z. cc) (λ n z. cc))
held_step plan h s loose (address d) a b l k few p = quiet h s.held s.room k few (event (address d) a b l) (quiet_call (event (address d) a b l) (λ ws z. cc) (λ n z. cc))
held_step plan h s loose (trace x) a b l k few p = quiet h s.held s.room k few (event (trace x) a b l) (quiet_call (event (trace x) a b l) (λ ws z. cc) (λ n z. cc))

-- The directory.
row_same : (r q : Row) → same_row r q ≡ true → r ≡ q
row_same r q e =
    let ways = and_parts (eqb r.uuid q.uuid && eqb r.cn q.cn && eqb r.subnet q.subnet && eqb r.node q.node) (same_way r.way q.way) e in
    let nodes = and_parts (eqb r.uuid q.uuid && eqb r.cn q.cn && eqb r.subnet q.subnet) (eqb r.node q.node) ways.0 in
    let subnets = and_parts (eqb r.uuid q.uuid && eqb r.cn q.cn) (eqb r.subnet q.subnet) nodes.0 in
    let networks = and_parts (eqb r.uuid q.uuid) (eqb r.cn q.cn) subnets.0 in
    λ i. record {
      uuid = eqb-true r.uuid q.uuid networks.0 i;
      cn = eqb-true r.cn q.cn networks.1 i;
      subnet = eqb-true r.subnet q.subnet subnets.1 i;
      node = eqb-true r.node q.node nodes.1 i;
      way = way_same r.way q.way ways.1 i;
    }

pub rows_same : (rs qs : List Row) → same_rows rs qs ≡ true → rs ≡ qs
rows_same [] [] e = refl
rows_same [] (q ∷ qs) e = absurd (false≢true e)
rows_same (r ∷ rs) [] e = absurd (false≢true e)
rows_same (r ∷ rs) (q ∷ qs) e = let p = and_parts (same_row r q) (same_rows rs qs) e in λ i. row_same r q p.0 i ∷ rows_same rs qs p.1 i

way_self : (w : Way) → same_way w w ≡ true
way_self forward = refl
way_self turned = refl

row_self : (r : Row) → same_row r r ≡ true
row_self r =
    let itself : (n : ℕ) → eqb n n ≡ true = λ n. eq-eqb n n refl in
    and_from (eqb r.uuid r.uuid && eqb r.cn r.cn && eqb r.subnet r.subnet && eqb r.node r.node) (same_way r.way r.way)
    (and_from (eqb r.uuid r.uuid && eqb r.cn r.cn && eqb r.subnet r.subnet) (eqb r.node r.node)
    (and_from (eqb r.uuid r.uuid && eqb r.cn r.cn) (eqb r.subnet r.subnet)
    (and_from (eqb r.uuid r.uuid) (eqb r.cn r.cn) (itself r.uuid) (itself r.cn)) (itself r.subnet)) (itself r.node))
    (way_self r.way)

pub rows_self : (rs : List Row) → same_rows rs rs ≡ true
rows_self [] = refl
rows_self (r ∷ rs) = and_from _ _ (row_self r) (rows_self rs)

module _ (mac places : ℕ) (h : History) (s : State) (k : Kept mac places h s) where
  pub looked : looked_at s ≡ s.held
  looked = take_all 63 s.held (let f = k.few in let r = k.room_is in omega arith)

  pub found_so : answer s.mac (looked_at s) ≡ answer mac s.held
  found_so = ap (λ m. answer m (looked_at s)) k.mac_is ∙ ap (answer mac) looked

  pub answers : Answers mac s.held
  answers = fitting_answers mac s.held (are_reports h s.held k.are_held)

  pub line_now : (l : Line) → Fitting s.held l → Within l → AwakeIn mac l → LineFits mac h l
  line_now l f w a = record { hs = s.held; are_held = k.are_held; fitting = f; within = w; awake = a }

  pub bars_so : (l : Line) → bars s (line_rows l) ≡ true → Bars mac h l
  bars_so l e =
      let p = and_parts (ltb 0 s.holds) (not (same_rows (line_rows l) s.rows)) e in
      let o = out_is h s.holds k.holds_out in
      record {
        out = let t = ltb-true 0 s.holds p.0 in omega arith;
        other = λ f. both_ways (same_rows (line_rows l) s.rows) (not-true _ p.1)
            (subst (λ (qs : List Row). same_rows (line_rows l) qs ≡ true) (sym (one_force mac h (line_rows l) s.rows f k.in_force) ∙ refl) (rows_self (line_rows l)));
      }

  pub free_so : (l : Line) → bars s (line_rows l) ≡ false → Bars mac h l → ⊥
  free_so l e b =
      let o = out_is h s.holds k.holds_out in
      elim (and_cases (ltb 0 s.holds) (not (same_rows (line_rows l) s.rows)) e) [
        | inl f ↦ (let t = ltb-false 0 s.holds f in let g = b.out in omega arith)
        | inr f ↦ b.other (subst (InForce mac h) (sym (rows_same (line_rows l) s.rows (not-false _ f))) k.in_force)
      ]

  -- what an accepted inauguration leaves in force
  settled : (loose : ℕ) (a : Answer) (b l : List ℕ) (o : Result (List Row) ℕ) → answer mac s.held ≡ o
      → a ≡ told (λ rs. counter (crc (rows_bytes rs))) (decided s loose o) → InForce mac (event inaugurate a b l ∷ h) (rows_after s.rows (decided s 0 o))
  settled loose a b l (Err n) f p = force_more mac h (event inaugurate a b l) s.rows (not_granted (event inaugurate a b l) (named loose n) p) k.in_force
  settled loose a b l (Ok rs) f p = go (bars s rs) p
    where
      e : Event
      e = event inaugurate a b l

      go : (t : Bool) → a ≡ told (λ qs. counter (crc (rows_bytes qs))) (cond t (Err barred) (Ok rs)) → InForce mac (e ∷ h) (rows_after s.rows (cond t (Err barred) (Ok rs)))
      go true p = force_more mac h e s.rows (not_granted e barred p) k.in_force
      go false p =
          let c = answers.accepted rs f in
          subst (InForce mac (e ∷ h)) (sym c.4)
          (force_now mac h e c.0 (record { value = crc (rows_bytes rs); call = refl; answer = p }) (line_now c.0 c.1 c.2 c.3))

  pub force_step : (plan : Meaning) (loose : ℕ) (c : Call) (a : Answer) (b l : List ℕ) → a ≡ reply plan s loose (length b) c → InForce mac (event c a b l ∷ h) (after s c).rows
  force_step plan loose inaugurate a b l p =
      subst (λ (o : Result (List Row) ℕ). InForce mac (event inaugurate a b l ∷ h) (rows_after s.rows (decided s 0 o))) (sym found_so)
      (settled loose a b l (answer mac s.held) refl (p ∙ ap (λ o. told (λ rs. counter (crc (rows_bytes rs))) (decided s loose o)) found_so))
  force_step plan loose (take ws) a b l p = force_more mac h (event (take ws) a b l) s.rows (not_inauguration (event (take ws) a b l) (λ z. cc)) k.in_force
  force_step plan loose (silence m) a b l p = force_more mac h (event (silence m) a b l) s.rows (not_inauguration (event (silence m) a b l) (λ z. cc)) k.in_force
  force_step plan loose hold a b l p = force_more mac h (event hold a b l) s.rows (not_inauguration (event hold a b l) (λ z. cc)) k.in_force
  force_step plan loose (give_back m) a b l p = force_more mac h (event (give_back m) a b l) s.rows (not_inauguration (event (give_back m) a b l) (λ z. cc)) k.in_force
  force_step plan loose directory a b l p = force_more mac h (event directory a b l) s.rows (not_inauguration (event directory a b l) (λ z. cc)) k.in_force
  force_step plan loose (status n) a b l p = force_more mac h (event (status n) a b l) s.rows (not_inauguration (event (status n) a b l) (λ z. cc)) k.in_force
  force_step plan loose (address d) a b l p = force_more mac h (event (address d) a b l) s.rows (not_inauguration (event (address d) a b l) (λ z. cc)) k.in_force
  force_step plan loose (trace x) a b l p = force_more mac h (event (trace x) a b l) s.rows (not_inauguration (event (trace x) a b l) (λ z. cc)) k.in_force
