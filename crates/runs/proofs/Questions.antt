-- Each answer to a question, and about holds, is right for the events before it. Assumes nothing.
use Rattle.std.proofs.Common.{◌≡◌, ℕ, ◌*◌, ◌≤◌, Bool, true, false, cond, ◌&&◌, eqb, ltb, leb, List, [], ◌∷◌, length, option_and_then, Ok, Err, Result, sym, ap, ◌∙◌, inl, inr, arith}
use Rattle.std.proofs.lemmas.Bool.{cases_Bool, cond-true, cond-false, and_parts, and_from, and_left, and_right, or_cases, or_left, or_right, eqb-true, eq-eqb, ne_eqb, lt-ltb, le-ltb, le-leb, lt-leb, false≢true}
use Rattle.report.specs.Reports.{Report}
use Rattle.report.specs.Refusals.{Refusal, short}
use Rattle.train.specs.Line.{Line}
use Rattle.train.specs.Truth.{In, here, there}
use Rattle.train.specs.Rows.{Row, rows as line_rows}
use Rattle.directory.specs.Asked.{place_of}
use Rattle.directory.specs.Writing.{write_answer, write_leaves}
use Rattle.fitting.proofs.Found.{in_cases, in_none}
use Rattle.plan.specs.Meaning.{Meaning, Lawful}
use Rattle.addressing.specs.Devices.{Device, device_place, device_at}
use Rattle.addressing.specs.Addressing.{no_directory, in_force, addressed, traced}
use Rattle.addressing.specs.OwnAddresses.{OwnAddresses}
use Rattle.addressing.proofs.OwnAddresses.{in_force_some, in_force_none, own_address, node_of, node_only}
use Rattle.runs.specs.Calls.{State, Answer, granted, returned, rows, node, at_address, device, busy, told, hold_answer, is_returned, directory_answer, is_awake, status_answer}
use Rattle.runs.specs.Histories.{History, out, LastLine, InForce}
use Rattle.runs.specs.Right.{RightHold, RightGiveBack, RightDirectory, HasPosition, IsNodeNumber, RightStatus, RightAddress, RightTrace}
use Rattle.runs.proofs.Forces.{force_line, force_none, some_row}

-- Holds.
module _ (mac : ℕ) (h : History) (s : State) (own : s.mac ≡ mac) (o : out h ≡ s.holds) where
  pub right_hold : (a : Answer) → a ≡ told granted (hold_answer s) → RightHold mac h a
  right_hold a p = record {
    free = λ l. p ∙ ap (λ t. told granted (cond t (Ok s.mac) (Err busy))) (lt-ltb s.holds 16 (omega arith)) ∙ ap granted own;
    busy = λ l. p ∙ ap (λ t. told granted (cond t (Ok s.mac) (Err busy))) (le-ltb s.holds 16 (omega arith));
  }

  pub right_give_back : (m : ℕ) (a : Answer) → a ≡ returned (is_returned s m) → RightGiveBack mac h m a
  right_give_back m a p = record {
    own = λ e l. p ∙ ap returned (and_from (eqb m s.mac) (ltb 0 s.holds) (eq-eqb m s.mac (e ∙ sym own)) (lt-ltb 0 s.holds (omega arith)));
    other = λ n. p ∙ ap returned (and_left (eqb m s.mac) (ltb 0 s.holds) (ne_eqb m s.mac (λ e. n (e ∙ own))));
    none = λ z. p ∙ ap returned (and_right (eqb m s.mac) (ltb 0 s.holds) (le-ltb 0 s.holds (omega arith)));
  }

-- The directory.
pub written_none : (b : List ℕ) → write_leaves [] b ≡ b
written_none b = elim (cases_Bool (leb (20 * length {A = Row} []) (length b))) [ inl t ↦ cond-true _ _ _ t | inr f ↦ cond-false _ _ _ f ]

pub right_directory : (rs : List Row) (a : Answer) (b l : List ℕ) → a ≡ told rows (directory_answer rs (length b)) → l ≡ write_leaves rs b → RightDirectory rs a b l
right_directory rs a b l p q = record {
  none = λ e. (p ∙ ap (λ x. told rows (directory_answer x (length b))) e, q ∙ ap (λ x. write_leaves x b) e ∙ written_none b);
  short = λ some less. (let f : leb (20 * length rs) (length b) ≡ false = lt-leb (20 * length rs) (length b) less in (asked some ∙ ap (answers) f, q ∙ cond-false _ _ _ f));
  whole = λ some fits. (let t : leb (20 * length rs) (length b) ≡ true = le-leb (20 * length rs) (length b) fits in (asked some ∙ ap (answers) t, q ∙ cond-true _ _ _ t));
}
  where
    answers : Bool → Answer
    answers t = told rows (cond t (Ok (length rs)) (Err short))

    asked : 1 ≤ length rs → a ≡ answers (leb (20 * length rs) (length b))
    asked some =
        p ∙ ap (λ t. told rows (cond t (Err no_directory) (write_answer rs (length b)))) (ne_eqb (length rs) 0 (λ z. omega arith))

-- The status of a node.
pub awake_so : (u k : ℕ) (hs : List Report) (r : Report) → In r hs → r.uuid ≡ u → r.position ≡ k → is_awake u k hs ≡ true
awake_so u k [] r i a b = absurd (in_none i)
awake_so u k (q ∷ hs) r i a b =
    elim (in_cases i) [
      | inl e ↦ or_left _ (is_awake u k hs)
          (and_from (eqb q.uuid u) (eqb q.position k) (eq-eqb _ _ (sym (ap (λ (x : Report). x.uuid) e) ∙ a)) (eq-eqb _ _ (sym (ap (λ (x : Report). x.position) e) ∙ b)))
      | inr j ↦ or_right (eqb q.uuid u && eqb q.position k) _ (awake_so u k hs r j a b)
    ]

pub awake_tells : (u k : ℕ) (hs : List Report) → is_awake u k hs ≡ true → HasPosition u k hs
awake_tells u k [] t = absurd (false≢true t)
awake_tells u k (q ∷ hs) t =
    elim (or_cases (eqb q.uuid u && eqb q.position k) (is_awake u k hs) t) [
      | inl p ↦ (let e = and_parts (eqb q.uuid u) (eqb q.position k) p in (q, here, eqb-true _ _ e.0, eqb-true _ _ e.1))
      | inr p ↦ (let r = awake_tells u k hs p in (r.0, there r.1, r.2, r.3))
    ]

module _ (mac : ℕ) (h : History) (s : State) (f : InForce mac h s.rows) where
  -- what is asked of the rows in force is asked of the rows of a last accepted line, or of none
  asked_line : (l : Line) → LastLine mac h l → s.rows ≡ line_rows l
  asked_line l k = force_line mac h s.rows l f k

  some_rows : (l : Line) → LastLine mac h l → 1 ≤ length (line_rows l)
  some_rows l k = some_row l k.line.fitting.0

  pub right_status : (n : ℕ) (a : Answer) → a ≡ told (λ p. node p.0 p.1 (is_awake p.0 p.1 s.held)) (status_answer s n) → RightStatus mac h s.held n a
  right_status n a p = record {
    none = λ z. p ∙ ap answers (force_none mac h s.rows f z);
    awake = λ l k u x i (r, j, a, b). at l k u x i ∙ ap (node u x) (awake_so u x s.held r j a b);
    silent = λ l k u x i no.
        let t : is_awake u x s.held ≡ false = elim (cases_Bool (is_awake u x s.held)) [ inl t ↦ absurd (no (awake_tells u x s.held t)) | inr t ↦ t ] in
        at l k u x i ∙ ap (node u x) t;
    absent = λ l k no.
        p ∙ ap answers (asked_line l k)
        ∙ ap shown (in_force_none (line_rows l) (place_of n (line_rows l)) (some_rows l k) (λ q e. no q.0 q.1 (node_only l k.line.fitting.0 k.line.within n q.0 q.1 e)));
  }
    where
      shown : Result (ℕ × ℕ) Refusal → Answer
      shown o = told (λ p. node p.0 p.1 (is_awake p.0 p.1 s.held)) o

      answers : List Row → Answer
      answers rs = shown (in_force rs (place_of n rs))

      at : (l : Line) → LastLine mac h l → (u x : ℕ) → IsNodeNumber l n u x → a ≡ node u x (is_awake u x s.held)
      at l k u x i =
          p ∙ ap answers (asked_line l k)
          ∙ ap shown (in_force_some (line_rows l) (place_of n (line_rows l)) (u, x) (some_rows l k) (node_of l k.line.fitting.0 k.line.within n u x i).0)

  -- Addresses.
  module _ (plan : Meaning) (lawful : Lawful plan.serves plan.stands) where
    pub own_of : (l : Line) → LastLine mac h l → OwnAddresses plan.serves plan.stands l
    own_of l k = own_address plan.serves plan.stands lawful l k.line.fitting.0 k.line.within

    pub asked_address : (d : Device) (a : Answer) (l : Line) → LastLine mac h l → a ≡ told at_address (addressed plan.serves s.rows d)
        → a ≡ told at_address (addressed plan.serves (line_rows l) d)
    asked_address d a l k p = p ∙ ap (λ rs. told at_address (addressed plan.serves rs d)) (asked_line l k)

    pub right_address : (d : Device) (a : Answer) → a ≡ told at_address (addressed plan.serves s.rows d) → RightAddress plan mac h d a
    right_address d a p = record {
      none = λ z. p ∙ ap (λ rs. told at_address (addressed plan.serves rs d)) (force_none mac h s.rows f z);
      served = λ l k x has. asked_address d a l k p ∙ ap (told at_address) ((own_of l k).gets d has.place x has.has_place has.served);
      absent = λ l k no. asked_address d a l k p ∙ ap (told at_address)
          (in_force_none (line_rows l) (option_and_then plan.serves (device_place (line_rows l) d)) (some_rows l k)
          (λ x e. (let g = (own_of l k).gets_only d x (in_force_some (line_rows l) (option_and_then plan.serves (device_place (line_rows l) d)) x (some_rows l k) e) in
          no x (record { place = g.0; has_place = g.1; served = g.2 }))));
    }

    pub right_trace : (x : ℕ) (a : Answer) → a ≡ told device (traced plan.stands s.rows x) → RightTrace plan mac h x a
    right_trace x a p = record {
      none = λ z. p ∙ ap (λ rs. told device (traced plan.stands rs x)) (force_none mac h s.rows f z);
      found = λ l k d has. asked l k ∙ ap (told device) ((own_of l k).back d has.place x has.has_place has.served);
      absent = λ l k no. asked l k ∙ ap (told device)
          (in_force_none (line_rows l) (option_and_then (device_at (line_rows l)) (plan.stands x)) (some_rows l k)
          (λ d e. (let g = (own_of l k).back_only d x (in_force_some (line_rows l) (option_and_then (device_at (line_rows l)) (plan.stands x)) d (some_rows l k) e) in
          no d (record { place = g.0; has_place = g.1; served = g.2 }))));
    }
      where
        asked : (l : Line) → LastLine mac h l → a ≡ told device (traced plan.stands (line_rows l) x)
        asked l k = p ∙ ap (λ rs. told device (traced plan.stands rs x)) (asked_line l k)
