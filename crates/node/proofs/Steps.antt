-- One call is a step. Assumes nothing.
use Rattle.std.proofs.Common.{◌≡◌, ℕ, Bool, true, false, cond, List, length, Some, None, Ok, Err, Option, sym, refl, ap, ◌∙◌, subst}
use Rattle.report.specs.Reports.{Report}
use Rattle.train.specs.Line.{Line}
use Rattle.train.specs.Truth.{Awake}
use Rattle.fitting.specs.Neighbours.{is_held, loose, IsLoose}
use Rattle.fitting.specs.Walk.{chain_of}
use Rattle.fitting.specs.Assemble.{assemble}
use Rattle.fitting.specs.Answer.{mute, loosely, long, is_within, shown_rows, line_answer, chain_answer, firm_answer, answer}
use Rattle.fitting.proofs.Loose.{one_loose}
use Rattle.plan.specs.Meaning.{Meaning}
use Rattle.runs.specs.Calls.{State, Call, Answer, looked_at, reply, after, writes, event, Step, Does}

-- refusal 7 is given only where a report is loose
line_firm : (o : Option Line) → line_answer o ≡ Err loosely → ⊥
line_firm None e = cc
line_firm (Some l) e = go (is_within l) e
  where
    go : (b : Bool) → cond b (Ok (shown_rows l)) (Err long) ≡ Err loosely → ⊥
    go true e = cc
    go false e = cc

chain_firm : (o : Option (List Awake)) → chain_answer o ≡ Err loosely → ⊥
chain_firm None e = cc
chain_firm (Some xs) e = line_firm (assemble xs) e

own_firm : (b : Bool) (hs : List Report) → cond b (chain_answer (chain_of hs)) (Err mute) ≡ Err loosely → ⊥
own_firm true hs e = chain_firm (chain_of hs) e
own_firm false hs e = cc

abbrev Loosely : ℕ → List Report → Type 0
Loosely own hs = (m : ℕ) × (answer own hs ≡ Err loosely → IsLoose hs m)

one_named : (own : ℕ) (hs : List Report) (o : Option ℕ) → loose hs ≡ o → Loosely own hs
one_named own hs (Some m) e = (m, λ _. one_loose hs m e)
one_named own hs None e = (0, λ f. absurd (own_firm (is_held own hs) hs (ap (λ o. cond (is_held own hs) (firm_answer hs o) (Err mute)) (sym e) ∙ f)))

some_named : (s : State) → Loosely s.mac (looked_at s)
some_named s = one_named s.mac (looked_at s) (loose (looked_at s)) refl

-- a call whose answer does not depend on what a refusal 7 names
pub quiet :
    {plan : Meaning} {s t : State} {c : Call} {a : Answer} {b l : List ℕ} → ((m : ℕ) → a ≡ reply plan s m (length b) c) → l ≡ writes s c b
    → t ≡ after s c → Step plan s (event c a b l) t
quiet {s = s} answered wrote left =
    let m = some_named s in
    record { loose = m.0; is_loose = m.1; answered = answered m.0; wrote = wrote; left = left }

-- a call that neither reads nor writes the output buffer leaves any as it was
pub with_buffer :
    {plan : Meaning} {s t : State} {c d : Call} {a r : Answer} (b : List ℕ) → d ≡ c → r ≡ a → writes s c b ≡ b
    → ((m : ℕ) → reply plan s m (length b) c ≡ reply plan s m 0 c) → Does plan s c a t → Step plan s (event d r b b) t
with_buffer {plan = plan} {s = s} {t = t} b e f kept same does =
    subst (λ (x : Call × Answer). Step plan s (event x.0 x.1 b b) t) (λ i. (sym e i, sym f i))
    (record { loose = does.loose; is_loose = does.is_loose; answered = does.answered ∙ sym (same does.loose); wrote = sym kept; left = does.left })
