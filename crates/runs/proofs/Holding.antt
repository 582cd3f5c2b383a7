-- What is held, as a history grows by one event. Assumes nothing.
use Rattle.std.proofs.Common.{◌≡◌, ℕ, ◌⊎◌, List, [], ◌∷◌, ◌++◌, None, Ok, Result, sym, refl, ap, ◌∙◌, subst, inl, inr}
use Rattle.std.specs.List.{AllByRecursion}
use Rattle.keyed.specs.Orders.{numbers}
use Rattle.keyed.specs.Find.{found}
use Rattle.keyed.specs.Store.{stored}
use Rattle.keyed.specs.Remove.{removed}
use Rattle.report.specs.Reports.{Report}
use Rattle.report.specs.Refusals.{Refusal}
use Rattle.report.proofs.Lossless.{lossless}
use Rattle.train.specs.Line.{Line}
use Rattle.train.specs.Truth.{In}
use Rattle.fitting.specs.Theorems.{AreReports, Fitting}
use Rattle.fitting.proofs.Found.{in_none}
use Rattle.fitting.proofs.Steps.{none_some}
use Rattle.runs.specs.Calls.{take, silence, refused, own_mac, Event}
use Rattle.runs.specs.Histories.{History, Takes, Silences, Replaces, Held, ReportsHeld}
use Rattle.runs.proofs.Tables.{Rises, in_found, of_stored, stored_in, still_stored, of_removed, still_there, removed_rises, rises_differ}

pub ok_same : {A : Type 0} (x y : A) → ◌≡◌ {A = Result A Refusal} (Ok x) (Ok y) → x ≡ y
ok_same x y e = cc

pub same_words : (v w : List ℕ) → take v ≡ take w → v ≡ w
same_words v w e = cc

pub same_mac : (m k : ℕ) → silence m ≡ silence k → m ≡ k
same_mac m k e = cc

pub held_now : (h : History) (e : Event) (r : Report) → Takes r e → Held (e ∷ h) r
held_now h e r t = record { since = []; taking = e; earlier = h; parts = refl; takes = t; kept = tt }

pub held_more : (h : History) (e : Event) (r : Report) → (Replaces r.mac e → ⊥) → Held h r → Held (e ∷ h) r
held_more h e r n k = record {
  since = e ∷ k.since;
  taking = k.taking;
  earlier = k.earlier;
  parts = ap (λ g. e ∷ g) k.parts;
  takes = k.takes;
  kept = (n, k.kept);
}

cases_at : (r : Report) (h : History) (e : Event) (since earlier : History) (t : Event) → e ∷ h ≡ since ++ t ∷ earlier → Takes r t
    → AllByRecursion (λ d. Replaces r.mac d → ⊥) since → Takes r e ⊎ ((Replaces r.mac e → ⊥) × Held h r)
cases_at r h e [] earlier t p k n = let q : t ≡ e = cc in inl (subst (λ (d : Event). Takes r d) q k)
cases_at r h e (d ∷ ds) earlier t p k n =
    let q : d ≡ e = cc in
    let s : h ≡ ds ++ t ∷ earlier = cc in
    inr (subst (λ (z : Event). Replaces r.mac z → ⊥) q n.0, record { since = ds; taking = t; earlier = earlier; parts = s; takes = k; kept = n.1 })

pub held_cases : (h : History) (e : Event) (r : Report) → Held (e ∷ h) r → Takes r e ⊎ ((Replaces r.mac e → ⊥) × Held h r)
held_cases h e r k = cases_at r h e k.since k.earlier k.taking k.parts k.takes k.kept

none_at : (since earlier : History) (t : Event) → ◌≡◌ {A = History} [] (since ++ t ∷ earlier) → ⊥
none_at [] earlier t p = cc
none_at (d ∷ ds) earlier t p = cc

pub held_none : ReportsHeld [] []
held_none = record { rising = tt; each = λ r i. absurd (in_none i); all = λ r k. absurd (none_at k.since k.earlier k.taking k.parts) }

-- an event that takes nothing and silences nothing
abbrev pub Quiet : Event → Type 0
Quiet e = (m : ℕ) → Replaces m e → ⊥

pub quiet_call : (e : Event) → ((ws : List ℕ) → e.call ≡ take ws → ⊥) → ((m : ℕ) → e.call ≡ silence m → ⊥) → Quiet e
quiet_call e k l m (inl (q, same, t)) = k t.words t.call
quiet_call e k l m (inr s) = l m s.call

pub quiet_refused : (e : Event) (f : Refusal) → e.answer ≡ refused f → Quiet e
quiet_refused e f a m (inl (q, same, t)) = let z = sym a ∙ t.answer in cc
quiet_refused e f a m (inr s) = let z = sym a ∙ s.answer in cc

module _ (h : History) (e : Event) (hs : List Report) (k : ReportsHeld h hs) where
  quiet_cases : Quiet e → (r : Report) → Held (e ∷ h) r → Held h r
  quiet_cases quiet r d = elim (held_cases h e r d) [ inl t ↦ absurd (quiet r.mac (inl (r, refl, t))) | inr t ↦ t.1 ]

  pub held_keep : Quiet e → ReportsHeld (e ∷ h) hs
  held_keep quiet = record {
    rising = k.rising;
    each = λ r i. held_more h e r (quiet r.mac) (k.each r i);
    all = λ r d. k.all r (quiet_cases quiet r d);
  }

  pub held_take : (r : Report) → Takes r e → ((q : Report) → Takes q e → q ≡ r) → ((m : ℕ) → Silences m e → ⊥) → Rises (stored numbers own_mac r hs)
      → ReportsHeld (e ∷ h) (stored numbers own_mac r hs)
  held_take r t only loud rises = record {
    rising = rises;
    each = λ x i. elim (of_stored hs r x rises i) [
      | inl s ↦ held_now h e x (subst (λ (q : Report). Takes q e) (sym s) t)
      | inr p ↦ held_more h e x (λ z. elim z [ inl y ↦ p.1 (sym y.1 ∙ ap own_mac (only y.0 y.2)) | inr y ↦ loud x.mac y ]) (k.each x p.0)
    ];
    all = λ x d. elim (held_cases h e x d) [
      | inl s ↦ subst (λ (q : Report). In q (stored numbers own_mac r hs)) (sym (only x s)) (stored_in hs r)
      | inr p ↦ still_stored hs r x k.rising (k.all x p.1) (λ s. p.0 (inl (r, sym s, t)))
    ];
  }

  pub held_silence : (m : ℕ) → Silences m e → ((q : Report) → Takes q e → ⊥) → ((j : ℕ) → Silences j e → j ≡ m) → ReportsHeld (e ∷ h) (removed numbers own_mac m hs)
  held_silence m s mute only = record {
    rising = removed_rises hs m k.rising;
    each = λ x i. (let p = of_removed hs m x k.rising i in
        held_more h e x (λ z. elim z [ inl y ↦ mute y.0 y.2 | inr y ↦ p.1 (only x.mac y) ]) (k.each x p.0));
    all = λ x d. elim (held_cases h e x d) [
      | inl t ↦ absurd (mute x t)
      | inr p ↦ still_there hs m x k.rising (k.all x p.1) (λ q. p.0 (inr (subst (λ (j : ℕ). Silences j e) (sym q) s)))
    ];
  }

  -- a MAC under which nothing is held
  pub held_unknown : (m : ℕ) → Quiet e → found numbers own_mac m hs ≡ None → ReportsHeld (e ∷ h) (removed numbers own_mac m hs)
  held_unknown m quiet none = record {
    rising = removed_rises hs m k.rising;
    each = λ x i. held_more h e x (quiet x.mac) (k.each x (of_removed hs m x k.rising i).0);
    all = λ x d. (let i = k.all x (quiet_cases quiet x d) in
        still_there hs m x k.rising i (λ q. none_some (sym none ∙ ap (λ j. found numbers own_mac j hs) (sym q) ∙ in_found hs x k.rising i)));
  }

-- what was let through by taking is a report, and each MAC has one
pub are_reports : (h : History) (hs : List Report) → ReportsHeld h hs → AreReports hs
are_reports h hs k = record {
  ranges = λ r i. (let t = (k.each r i).takes in (lossless.writes_again t.words r t.read).0);
  differ = rises_differ hs k.rising;
}

-- a line fits the reports held, whatever list they are in
pub fits_held : (h : History) (hs gs : List Report) (l : Line) → ReportsHeld h hs → ReportsHeld h gs → Fitting hs l → Fitting gs l
fits_held h hs gs l k j f =
    (f.0, record { each_true = λ r i. f.1.each_true r (k.all r (j.each r i)); each_held = λ r i. j.all r (k.each r (f.1.each_held r i)) })
