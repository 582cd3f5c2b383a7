-- The worked cases, by computing. Assumes nothing.
use Rattle.std.proofs.Common.{◌≡◌, ℕ, Bool, true, false, cond, List, [], ◌∷◌, Ok, Err, Result, sym, refl, ap, ◌∙◌, inl, inr}
use Rattle.std.proofs.lemmas.Bool.{false≢true}
use Rattle.counter.specs.Crc.{crc}
use Rattle.report.specs.Masks.{unbroken}
use Rattle.report.specs.Reports.{Report}
use Rattle.report.specs.Refusals.{Refusal}
use Rattle.train.specs.Rows.{Row}
use Rattle.train.specs.Bytes.{rows_bytes}
use Rattle.fitting.specs.Neighbours.{IsLoose}
use Rattle.fitting.specs.Answer.{answer}
use Rattle.fitting.proofs.Found.{in_cases, in_none}
use Rattle.runs.specs.Calls.{State, Call, take, inaugurate, status, counter, node, refused, barred, told, bars, looked_at, decided, inaugurated}
use Rattle.runs.specs.WorkedCases.{started, Holds, answers, accepts, shows, a, b, single, taken, sixteen, WorkedCases}

two_units : Holds (shows 0x11 (take a ∷ take b ∷ inaugurate ∷ []) ((0xA, 0x01010102) ∷ (0xA, 0x02020102) ∷ (0xA, 0x01010202) ∷ (0xB, 0x01030301) ∷ []))
unfolding unbroken
two_units = refl

node_1 : Holds (answers 0x11 (take a ∷ take b ∷ inaugurate ∷ []) (status 1) (node 0xA 2 false))
unfolding unbroken
node_1 loose l = refl

abbrev only_a : Report
only_a = record { mac = 0x11; side1 = 0x21; side2 = 0; uuid = 0xA; position = 1; masks = 1 ∷ 3 ∷ [] }

loose_is : (m : ℕ) → IsLoose (only_a ∷ []) m → m ≡ 0x11
loose_is m l = elim (in_cases l.among) [ inl e ↦ sym l.own ∙ ap (λ (r : Report). r.mac) e | inr i ↦ absurd (in_none i) ]

a_alone : Holds (answers 0x11 (take a ∷ []) inaugurate (refused (7, 0x11 ∷ [])))
unfolding unbroken
a_alone loose l = ap (λ (m : ℕ). refused (7, m ∷ [])) (loose_is loose (l refl))

-- an inauguration that is accepted names no loose report
abbrev is_ok : Result (List Row) Refusal → Bool
is_ok (Ok rs) = true
is_ok (Err f) = false

accepting : (s : State) (o : Result (List Row) ℕ) → is_ok (decided s 0 o) ≡ true
    → (value : ℕ) × ((loose : ℕ) → told (λ rs. counter (crc (rows_bytes rs))) (decided s loose o) ≡ counter value)
accepting s (Err n) e = absurd (false≢true e)
accepting s (Ok rs) e = go (bars s rs) e
  where
    go : (t : Bool) → is_ok (cond t (Err barred) (Ok rs)) ≡ true
        → (value : ℕ) × ((loose : ℕ) → told (λ qs. counter (crc (rows_bytes qs))) (cond t (Err barred) (Ok rs)) ≡ counter value)
    go true e = absurd (false≢true e)
    go false e = (crc (rows_bytes rs), λ loose. refl)

accepting_so : (mac : ℕ) (calls : List Call) → is_ok (inaugurated (started mac calls) 0) ≡ true → Holds (accepts mac calls)
accepting_so mac calls e =
    let s = started mac calls in
    let p = accepting s (answer s.mac (looked_at s)) e in
    (p.0, λ loose l. p.1 loose)

lone : Holds (accepts 1 (taken (single 1 0 0 ∷ [])))
unfolding unbroken
lone = accepting_so 1 (taken (single 1 0 0 ∷ [])) refl

too_long : Holds (answers 1 (sixteen 3) inaugurate (refused (10, [])))
unfolding unbroken
too_long loose l = refl

just_short : Holds (accepts 1 (sixteen 2))
unfolding unbroken
just_short = accepting_so 1 (sixteen 2) refl

ring : Holds (answers 1 (taken (single 1 3 2 ∷ single 2 1 3 ∷ single 3 2 1 ∷ [])) inaugurate (refused (8, [])))
unfolding unbroken
ring loose l = refl

pub worked_cases : WorkedCases
worked_cases = (two_units, (node_1, (a_alone, (lone, (too_long, (just_short, (refl, (refl, (refl, (ring, tt))))))))))
