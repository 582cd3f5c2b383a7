-- The holds out, as a history grows by one event. Assumes nothing.
use Rattle.std.proofs.Common.{◌≡◌, ℕ, ◌+◌, ◌-◌, ◌<◌, ◌≤◌, Bool, true, false, cond, eqb, ltb, ◌∷◌, Ok, Err, Result, refl, ap, ◌∙◌, arith}
use Rattle.std.proofs.lemmas.Bool.{and_parts, ltb-true}
use Rattle.report.specs.Refusals.{Refusal}
use Rattle.counter.specs.Crc.{crc}
use Rattle.train.specs.Bytes.{rows_bytes}
use Rattle.addressing.specs.Addressing.{addressed, traced}
use Rattle.plan.specs.Meaning.{Meaning}
use Rattle.runs.specs.Calls.{State, Call, take, silence, inaugurate, hold, give_back, directory, status, address, trace, Answer, held, counter, granted, returned, rows, node, at_address, device, refused, busy, told, take_answer, silence_answer, inaugurated, is_returned, directory_answer, status_answer, is_awake, reply, after, Event}
use Rattle.runs.specs.Histories.{History, is_grant, is_return, count, out}

-- the holds that a node has out are those granted less those returned
pub record Out (h : History) (n : ℕ) : Type 0 where
  pub balance : n + count is_return h ≡ count is_grant h
  pub few : n ≤ 16

pub out_is : (h : History) (n : ℕ) → Out h n → out h ≡ n
out_is h n o = let b = o.balance in omega arith

module _ (h : History) (e : Event) (n : ℕ) (o : Out h n) where
  -- neither a hold nor its return
  out_same : is_grant e.answer ≡ false → is_return e.answer ≡ false → Out (e ∷ h) n
  out_same g r =
      let b = o.balance in
      let x : cond {A = ℕ} (is_grant e.answer) 1 0 ≡ 0 = ap (λ t. cond t 1 0) g in
      let y : cond {A = ℕ} (is_return e.answer) 1 0 ≡ 0 = ap (λ t. cond t 1 0) r in
      record { balance = omega arith; few = o.few }

  out_told : {A : Type 0} (f : A → Answer) (r : Result A Refusal) → e.answer ≡ told f r → ((x : A) → is_grant (f x) ≡ false) → ((x : A) → is_return (f x) ≡ false) → Out (e ∷ h) n
  out_told f (Ok x) p g k = out_same (ap is_grant p ∙ g x) (ap is_return p ∙ k x)
  out_told f (Err r) p g k = out_same (ap is_grant p) (ap is_return p)

  out_granted : (m : ℕ) → e.answer ≡ granted m → n < 16 → Out (e ∷ h) (n + 1)
  out_granted m p l =
      let b = o.balance in
      let x : cond {A = ℕ} (is_grant e.answer) 1 0 ≡ 1 = ap (λ a. cond (is_grant a) 1 0) p in
      let y : cond {A = ℕ} (is_return e.answer) 1 0 ≡ 0 = ap (λ a. cond (is_return a) 1 0) p in
      record { balance = omega arith; few = omega arith }

  out_returned : e.answer ≡ returned true → 0 < n → Out (e ∷ h) (n - 1)
  out_returned p l =
      let b = o.balance in
      let f = o.few in
      let x : cond {A = ℕ} (is_grant e.answer) 1 0 ≡ 0 = ap (λ a. cond (is_grant a) 1 0) p in
      let y : cond {A = ℕ} (is_return e.answer) 1 0 ≡ 1 = ap (λ a. cond (is_return a) 1 0) p in
      record { balance = omega arith; few = omega arith }

  out_kept : e.answer ≡ returned false → Out (e ∷ h) n
  out_kept p = out_same (ap is_grant p) (ap is_return p)

  out_refused : (f : Refusal) → e.answer ≡ refused f → Out (e ∷ h) n
  out_refused f p = out_same (ap is_grant p) (ap is_return p)

pub holds_step : (plan : Meaning) (h : History) (s : State) (loose size : ℕ) (c : Call) (e : Event) → Out h s.holds → e.answer ≡ reply plan s loose size c
    → Out (e ∷ h) (after s c).holds
holds_step plan h s loose size (take ws) e o p = out_told h e s.holds o held (take_answer s ws) p (λ x. refl) (λ x. refl)
holds_step plan h s loose size (silence m) e o p = out_told h e s.holds o held (silence_answer s m) p (λ x. refl) (λ x. refl)
holds_step plan h s loose size inaugurate e o p =
    out_told h e s.holds o (λ rs. counter (crc (rows_bytes rs))) (inaugurated s loose) p (λ x. refl) (λ x. refl)
holds_step plan h s loose size hold e o p = go (ltb s.holds 16) refl p
  where
    go : (b : Bool) → ltb s.holds 16 ≡ b → e.answer ≡ told granted (cond b (Ok s.mac) (Err busy)) → Out (e ∷ h) (cond b (s.holds + 1) s.holds)
    go true t p = out_granted h e s.holds o s.mac p (ltb-true _ _ t)
    go false t p = out_refused h e s.holds o busy p
holds_step plan h s loose size (give_back m) e o p = go (is_returned s m) refl p
  where
    go : (b : Bool) → is_returned s m ≡ b → e.answer ≡ returned b → Out (e ∷ h) (cond b (s.holds - 1) s.holds)
    go true t p = out_returned h e s.holds o p (ltb-true _ _ (and_parts (eqb m s.mac) (ltb 0 s.holds) t).1)
    go false t p = out_kept h e s.holds o p
holds_step plan h s loose size directory e o p = out_told h e s.holds o rows (directory_answer s.rows size) p (λ x. refl) (λ x. refl)
holds_step plan h s loose size (status n) e o p =
    out_told h e s.holds o (λ q. node q.0 q.1 (is_awake q.0 q.1 s.held)) (status_answer s n) p (λ x. refl) (λ x. refl)
holds_step plan h s loose size (address d) e o p =
    out_told h e s.holds o at_address (addressed plan.serves s.rows d) p (λ x. refl) (λ x. refl)
holds_step plan h s loose size (trace x) e o p =
    out_told h e s.holds o device (traced plan.stands s.rows x) p (λ x. refl) (λ x. refl)
