-- What is promised of two nodes holds of every run. Assumes nothing.
use Rattle.std.proofs.Common.{◌≡◌, ℕ, ◌*◌, ◌≤◌, Bool, true, false, cond, List, [], ◌∷◌, ◌++◌, map, length, Ok, Err, Result, sym, refl, ap, ◌∙◌, subst, inl, inr}
use Rattle.std.proofs.lemmas.Bool.{cases_lt}
use Rattle.keyed.specs.Table.{written}
use Rattle.counter.specs.Crc.{crc}
use Rattle.report.specs.Refusals.{Refusal}
use Rattle.train.specs.Line.{Line}
use Rattle.train.specs.Truth.{In}
use Rattle.train.specs.Rows.{Row, counted, Met, met, reading, rows as line_rows}
use Rattle.train.specs.Bytes.{rows_bytes, counter as line_counter}
use Rattle.train.proofs.Agreed.{one_directory}
use Rattle.directory.specs.Writing.{write_leaves}
use Rattle.fitting.specs.Neighbours.{IsLoose}
use Rattle.fitting.specs.Answer.{loosely, answer}
use Rattle.plan.specs.Meaning.{Meaning, Lawful}
use Rattle.addressing.specs.Devices.{Device, host, node}
use Rattle.addressing.specs.Addressing.{addressed}
use Rattle.addressing.specs.OwnAddresses.{HasPlace}
use Rattle.runs.specs.Calls.{State, Call, take, silence, inaugurate, hold, give_back, directory, status, address, trace, Answer, counter, rows, at_address, device, barred, told, bars, directory_answer, looked_at, reply, after, writes, Event, event, Step}
use Rattle.runs.specs.Histories.{History, Part, Accepted, LastAccepted, LineFits, LastLine, InForce, Bars}
use Rattle.runs.specs.Right.{RightInaugurate, HasAddress, RightAnswer, Right}
use Rattle.runs.specs.Promise.{Run, Played, history, NodeRight, OwnAddressAt, NodesAgree, EveryRun}
use Rattle.runs.proofs.Holding.{fits_held}
use Rattle.runs.proofs.Forces.{force_now, force_line, same_last, one_rows, some_row}
use Rattle.runs.proofs.Holds.{out_is, holds_step}
use Rattle.runs.proofs.Steps.{Kept, kept_fresh, held_step, force_step, looked, found_so, answers, line_now, free_so}
use Rattle.runs.proofs.Rights.{right_take, right_silence, inaugurated_as, right_inaugurate}
use Rattle.runs.proofs.NoChoice.{no_choice}
use Rattle.runs.proofs.Questions.{right_hold, right_give_back, right_directory, right_status, right_address, right_trace, own_of, asked_address}

rows_count : (n m : ℕ) → rows n ≡ rows m → n ≡ m
rows_count n m e = cc

told_ok : (x : ℕ) (o : Result ℕ Refusal) → at_address x ≡ told at_address o → o ≡ Ok x
told_ok x (Ok y) e = cc
told_ok x (Err f) e = cc

module _ (plan : Meaning) (lawful : Lawful plan.serves plan.stands) (mac places : ℕ) where
  -- One step.
  module _ (h : History) (s : State) (k : Kept mac places h s) (loose : ℕ) (named_loose : answer s.mac (looked_at s) ≡ Err loosely → IsLoose (looked_at s) loose) where
    is_named : answer mac s.held ≡ Err loosely → IsLoose s.held loose
    is_named e = subst (λ hs. IsLoose hs loose) (looked mac places h s k) (named_loose (found_so mac places h s k ∙ e))

    inaugurating : (a : Answer) → a ≡ inaugurated_as s loose (answer s.mac (looked_at s)) → a ≡ inaugurated_as s loose (answer mac s.held)
    inaugurating a p = p ∙ ap (inaugurated_as s loose) (found_so mac places h s k)

    right_answer : (c : Call) (a : Answer) (b l : List ℕ) → a ≡ reply plan s loose (length b) c → l ≡ writes s c b
        → RightAnswer plan mac places h s.held s.rows (after s c).held c a b l
    right_answer (take ws) a b l p q = (right_take s.held k.are_held.rising places s.room ws a k.room_is p, q)
    right_answer (silence m) a b l p q = (right_silence s.held k.are_held.rising m a p, q)
    right_answer inaugurate a b l p q = (right_inaugurate mac places h s k loose a is_named (inaugurating a p), q)
    right_answer hold a b l p q = (right_hold mac h s k.mac_is (out_is h s.holds k.holds_out) a p, q)
    right_answer (give_back m) a b l p q = (right_give_back mac h s k.mac_is (out_is h s.holds k.holds_out) m a p, q)
    right_answer directory a b l p q = right_directory s.rows a b l p q
    right_answer (status n) a b l p q = (right_status mac h s k.in_force n a p, q)
    right_answer (address d) a b l p q = (right_address mac h s k.in_force plan lawful d a p, q)
    right_answer (trace x) a b l p q = (right_trace mac h s k.in_force plan lawful x a p, q)

    same_mac : (c : Call) → (after s c).mac ≡ s.mac
    same_mac (take ws) = refl
    same_mac (silence m) = refl
    same_mac inaugurate = refl
    same_mac hold = refl
    same_mac (give_back m) = refl
    same_mac directory = refl
    same_mac (status n) = refl
    same_mac (address d) = refl
    same_mac (trace x) = refl

    same_room : (c : Call) → (after s c).room ≡ s.room
    same_room (take ws) = refl
    same_room (silence m) = refl
    same_room inaugurate = refl
    same_room hold = refl
    same_room (give_back m) = refl
    same_room directory = refl
    same_room (status n) = refl
    same_room (address d) = refl
    same_room (trace x) = refl

    kept_after : (c : Call) (a : Answer) (b l : List ℕ) → a ≡ reply plan s loose (length b) c → Kept mac places (event c a b l ∷ h) (after s c)
    kept_after c a b l p =
        let held = held_step plan h s loose c a b l k.are_held k.few p in
        record {
          mac_is = same_mac c ∙ k.mac_is;
          room_is = same_room c ∙ k.room_is;
          are_held = held.0;
          few = subst (λ n. length (after s c).held ≤ n) (sym (same_room c)) held.1;
          holds_out = holds_step plan h s loose (length b) c (event c a b l) k.holds_out p;
          in_force = force_step mac places h s k plan loose c a b l p;
        }

  step_kept : (h : History) (s t : State) (e : Event) → Kept mac places h s → Step plan s e t → Kept mac places (e ∷ h) t
  step_kept h s t e k st =
      subst (Kept mac places (e ∷ h)) (sym st.left) (kept_after h s k st.loose st.is_loose e.call e.answer e.before e.after st.answered)

  step_right : (h : History) (s t : State) (e : Event) → Kept mac places h s → Step plan s e t → Right plan mac places h e
  step_right h s t e k st = record {
    hs = s.held;
    are_held = k.are_held;
    rs = s.rows;
    in_force = k.in_force;
    then = (after s e.call).held;
    held_then = (held_step plan h s st.loose e.call e.answer e.before e.after k.are_held k.few st.answered).0;
    answer = right_answer h s k st.loose st.is_loose e.call e.answer e.before e.after st.answered st.wrote;
  }

  -- Runs.
  pub run_kept : (h : History) (s : State) → Run plan mac places h s → Kept mac places h s
  run_kept [] s e = subst (Kept mac places []) (sym e) (kept_fresh mac places)
  run_kept (e ∷ h) t (s, r, st) = step_kept h s t e (run_kept h s r) st

  run_part : (since g : History) (t : State) → Run plan mac places (since ++ g) t → (s : State) × Run plan mac places g s
  run_part [] g t r = (t, r)
  run_part (e ∷ since) g t (s, r, st) = run_part since g s r

  part_run : (g h : History) (t : State) → Part g h → Run plan mac places h t → (s : State) × Run plan mac places g s
  part_run g h t (since, e) r = run_part since g t (subst (λ (x : History). Run plan mac places x t) e r)

  -- An inauguration that comes next.
  module _ (h : History) (s t : State) (e : Event) (r : Run plan mac places h s) (st : Step plan s e t) where
    k : Kept mac places h s
    k = run_kept h s r

    asked : e.call ≡ inaugurate → e.answer ≡ inaugurated_as s st.loose (answer mac s.held)
    asked c = inaugurating h s k st.loose st.is_loose e.answer (st.answered ∙ ap (reply plan s st.loose (length e.before)) c)

    rights : e.call ≡ inaugurate → RightInaugurate mac h s.held e.answer
    rights c = right_inaugurate mac places h s k st.loose e.answer (is_named h s k st.loose st.is_loose) (asked c)

    accepted_line : Accepted e → (l : Line) × LineFits mac h l × (Bars mac h l → ⊥)
    accepted_line acc = go (answer mac s.held) refl (sym acc.answer ∙ asked acc.call)
      where
        pick : (rs : List Row) (b : Bool) → answer mac s.held ≡ Ok rs → bars s rs ≡ b
            → counter acc.value ≡ told (λ qs. counter (crc (rows_bytes qs))) (cond b (Err barred) (Ok rs)) → (l : Line) × LineFits mac h l × (Bars mac h l → ⊥)
        pick rs true f b p = cc
        pick rs false f b p =
            let c = (answers mac places h s k).accepted rs f in
            (c.0, line_now mac places h s k c.0 c.1 c.2 c.3, free_so mac places h s k c.0 (sym (ap (bars s) c.4) ∙ b))

        go : (o : Result (List Row) ℕ) → answer mac s.held ≡ o → counter acc.value ≡ inaugurated_as s st.loose o → (l : Line) × LineFits mac h l × (Bars mac h l → ⊥)
        go (Ok rs) f p = pick rs (bars s rs) f refl p
        go (Err n) f p = cc

    answers_line : e.call ≡ inaugurate → (l : Line) → LineFits mac h l → (Bars mac h l → ⊥) → e.answer ≡ counter (line_counter l)
    answers_line c l f n = (rights c).accepted l (fits_held h f.hs s.held l f.are_held k.are_held f.fitting) f.within f.awake n

    one_answer : Accepted e → (l : Line) → LineFits mac h l → e.answer ≡ counter (line_counter l)
    one_answer acc l f =
        let a = accepted_line acc in
        let same = (one_rows mac mac h l a.0 f a.1).0 in
        answers_line acc.call l f (λ b. a.2 (record { out = b.out; other = λ i. b.other (subst (InForce mac h) same i) }))

    -- A directory question that comes next.
    writes_line : (n : ℕ) → e.call ≡ directory → e.answer ≡ rows n → (l : Line) → LastLine mac h l
        → (n ≡ length (line_rows l)) × (e.after ≡ written (rows_bytes (line_rows l)) e.before)
    writes_line n c a l last =
        let same = force_line mac h s.rows l k.in_force last in
        let right = right_directory (line_rows l) e.answer e.before e.after
        (st.answered ∙ ap (reply plan s st.loose (length e.before)) c ∙ ap (λ rs. told rows (directory_answer rs (length e.before))) same)
        (st.wrote ∙ ap (λ x. writes s x e.before) c ∙ ap (λ rs. write_leaves rs e.before) same) in
        let some = some_row l last.line.fitting.0 in
        elim (cases_lt (length e.before) (20 * length (line_rows l))) [
          | inl less ↦ (let z = sym a ∙ (right.short some less).0 in cc)
          | inr fits ↦ (let w = right.whole some fits in (rows_count n (length (line_rows l)) (sym a ∙ w.0), w.1))
        ]

    -- Questions of addresses that come next.
    module _ (l : Line) (last : LastLine mac h l) (d : Device) (x : ℕ) (has : HasAddress plan l d x) where
      gets : e.call ≡ address d → e.answer ≡ at_address x
      gets c = (right_address mac h s k.in_force plan lawful d e.answer (st.answered ∙ ap (reply plan s st.loose (length e.before)) c)).served l last x has

      back : e.call ≡ trace x → e.answer ≡ device d
      back c = (right_trace mac h s k.in_force plan lawful x e.answer (st.answered ∙ ap (reply plan s st.loose (length e.before)) c)).found l last d has

      alone : (other : Device) → e.call ≡ address other → e.answer ≡ at_address x → other ≡ d
      alone other c a =
          (own_of mac h s k.in_force plan lawful l last).alone d other has.place x has.has_place has.served
          (told_ok x (addressed plan.serves (line_rows l) other)
          (sym a ∙ asked_address mac h s k.in_force plan lawful other e.answer l last (st.answered ∙ ap (reply plan s st.loose (length e.before)) c)))

-- One node.
node_right : (plan : Meaning) (lawful : Lawful plan.serves plan.stands) (n : Played) (t : State) → Run plan n.mac n.places (history n) t → NodeRight plan n
node_right plan lawful n t run = record {
  right = λ h e part. (let p = part_run plan lawful n.mac n.places (e ∷ h) (history n) t part run in
      step_right plan lawful n.mac n.places h p.1.0 p.0 e (run_kept plan lawful n.mac n.places h p.1.0 p.1.1) p.1.2);
  no_choice = λ h e f part a b c d. (let p = part_run plan lawful n.mac n.places h (history n) t part run in
      no_choice plan lawful n.mac n.places h p.0 (run_kept plan lawful n.mac n.places h p.0 p.1) e f a b c d);
  accepted_only = λ h e part (s, u, r, st) acc. accepted_line plan lawful n.mac n.places h s u e r st acc;
  accepted_then = λ h e part (s, u, r, st) c l f free.
      record { value = line_counter l; call = c; answer = answers_line plan lawful n.mac n.places h s u e r st c l f free };
  one_directory = λ h e part (s, u, r, st) acc l f.
      (force_now n.mac h e l acc f, one_answer plan lawful n.mac n.places h s u e r st acc l f);
  written_directory = λ h e k part (s, u, r, st) c a l last. writes_line plan lawful n.mac n.places h s u e r st k c a l last;
}

own_address_at : (plan : Meaning) (lawful : Lawful plan.serves plan.stands) (n : Played) (h : History) (l : Line) → LastLine n.mac h l → (d : Device) (x : ℕ)
    → HasAddress plan l d x → OwnAddressAt plan n h d x
own_address_at plan lawful n h l last d x has = record {
  gets = λ e (s, u, r, st) c. gets plan lawful n.mac n.places h s u e r st l last d x has c;
  back = λ e (s, u, r, st) c. back plan lawful n.mac n.places h s u e r st l last d x has c;
  alone = λ e other (s, u, r, st) c a. alone plan lawful n.mac n.places h s u e r st l last d x has other c a;
}

-- Two nodes.
same_place : (l k : Line) (d : Device) (p : ℕ × ℕ) → line_rows k ≡ line_rows l → met (reading k) ≡ met (reading l) → HasPlace l d p → HasPlace k d p
same_place l k (host u c h) p rs xs (r, i, a, b, low, e) = (r, subst (In r) (sym rs) i, a, b, low, e)
same_place l k (node u q) p rs xs (n, i, e) =
    (n, subst (λ (ys : List Met). In (n, (u, q)) (counted {A = ℕ × ℕ} 1 (map (λ (x : Met). (x.uuid, x.position)) ys))) (sym xs) i, e)

last_answer : (plan : Meaning) (lawful : Lawful plan.serves plan.stands) (n : Played) (t : State) → Run plan n.mac n.places (history n) t
    → (h : History) → Part h (history n) → (l : Line) → LastLine n.mac h l → (e : Event) (before : History) → LastAccepted h e before → e.answer ≡ counter (line_counter l)
last_answer plan lawful n t run h part l last e before a =
    let s = same_last h e last.event before last.before a last.last in
    let whole = part_run plan lawful n.mac n.places h (history n) t part run in
    let r = part_run plan lawful n.mac n.places (e ∷ before) h whole.0 (a.since, a.parts) whole.1 in
    one_answer plan lawful n.mac n.places before r.1.0 r.0 e r.1.1 r.1.2 a.accepted l (subst (λ (g : History). LineFits n.mac g l) s.1 last.line)

nodes_agree : (plan : Meaning) (lawful : Lawful plan.serves plan.stands) (n m : Played) (s t : State) → Run plan n.mac n.places (history n) s
    → Run plan m.mac m.places (history m) t → NodesAgree plan n m
nodes_agree plan lawful n m s t first second = record {
  directories = λ h g l k same rs qs f j.
      force_line m.mac g qs k j same.second_line ∙ (one_directory.agreeing l k same.first_line.line.fitting.0 same.agree).0
      ∙ sym (force_line n.mac h rs l f same.first_line);
  counters = λ h g l k same e f before earlier a b.
      last_answer plan lawful m t second g same.second k same.second_line f earlier b
      ∙ ap counter (one_directory.agreeing l k same.first_line.line.fitting.0 same.agree).1
      ∙ sym (last_answer plan lawful n s first h same.first l same.first_line e before a);
  addresses = λ h g l k same d x has. (
    own_address_at plan lawful n h l same.first_line d x has,
    own_address_at plan lawful m g k same.second_line d x
        (record {
          place = has.place;
          has_place = same_place l k d has.place (one_directory.agreeing l k same.first_line.line.fitting.0 same.agree).0
              (one_directory.same_nodes l k same.first_line.line.fitting.0 same.agree) has.has_place;
          served = has.served;
        }),
  );
}

pub every_run : EveryRun
every_run plan first second s t lawful r q = record {
  first_run = (s, r);
  second_run = (t, q);
  first_right = node_right plan lawful first s r;
  second_right = node_right plan lawful second t q;
  nodes_agree = nodes_agree plan lawful first second s t r q;
}
