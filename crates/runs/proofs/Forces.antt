-- The directory in force, as a history grows by one event, and what fixes it. Assumes nothing.
use Rattle.std.proofs.Common.{◌≡◌, ℕ, ◌≤◌, List, [], ◌∷◌, ◌++◌, length, sym, refl, ap, ◌∙◌, subst, inl, inr}
use Rattle.report.specs.Refusals.{Refusal}
use Rattle.train.specs.Line.{Line}
use Rattle.train.specs.Rules.{IsLine}
use Rattle.train.specs.Rows.{Row, rows as line_rows}
use Rattle.train.specs.Bytes.{counter as line_counter}
use Rattle.train.proofs.Agreed.{one_directory}
use Rattle.train.proofs.Numbered.{numbered}
use Rattle.runs.specs.Calls.{inaugurate, refused, Event}
use Rattle.runs.specs.Histories.{History, Accepted, NoneAccepted, LastAccepted, LineFits, LastLine, InForce}
use Rattle.runs.proofs.Holding.{fits_held}

pub not_inauguration : (e : Event) → (e.call ≡ inaugurate → ⊥) → Accepted e → ⊥
not_inauguration e n a = n a.call

pub not_granted : (e : Event) (f : Refusal) → e.answer ≡ refused f → Accepted e → ⊥
not_granted e f p a = let z = sym p ∙ a.answer in cc

last_more : (mac : ℕ) (h : History) (e : Event) (l : Line) → (Accepted e → ⊥) → LastLine mac h l → LastLine mac (e ∷ h) l
last_more mac h e l n k = record {
  event = k.event;
  before = k.before;
  last = record { since = e ∷ k.last.since; parts = ap (λ g. e ∷ g) k.last.parts; accepted = k.last.accepted; last = (n, k.last.last) };
  line = k.line;
}

pub force_more : (mac : ℕ) (h : History) (e : Event) (rs : List Row) → (Accepted e → ⊥) → InForce mac h rs → InForce mac (e ∷ h) rs
force_more mac h e rs n (inl (none, z)) = inl ((n, none), z)
force_more mac h e rs n (inr (l, k, r)) = inr (l, last_more mac h e l n k, r)

pub last_now : (mac : ℕ) (h : History) (e : Event) (l : Line) → Accepted e → LineFits mac h l → LastLine mac (e ∷ h) l
last_now mac h e l a f = record { event = e; before = h; last = record { since = []; parts = refl; accepted = a; last = tt }; line = f }

pub force_now : (mac : ℕ) (h : History) (e : Event) (l : Line) → Accepted e → LineFits mac h l → InForce mac (e ∷ h) (line_rows l)
force_now mac h e l a f = inr (l, last_now mac h e l a f, refl)

-- the last accepted inauguration is one event of the history
one_last : (g k : History) (e f : Event) (before earlier : History) → g ++ e ∷ before ≡ k ++ f ∷ earlier → Accepted e → Accepted f
    → NoneAccepted g → NoneAccepted k → (f ≡ e) × (earlier ≡ before)
one_last [] [] e f before earlier p a b n m = (cc, cc)
one_last [] (d ∷ ds) e f before earlier p a b n m = let q : e ≡ d = cc in absurd (m.0 (subst Accepted q a))
one_last (d ∷ ds) [] e f before earlier p a b n m = let q : f ≡ d = cc in absurd (n.0 (subst Accepted q b))
one_last (d ∷ ds) (c ∷ cs) e f before earlier p a b n m = let q : ds ++ e ∷ before ≡ cs ++ f ∷ earlier = cc in one_last ds cs e f before earlier q a b n.1 m.1

pub same_last : (h : History) (e f : Event) (before earlier : History) → LastAccepted h e before → LastAccepted h f earlier → (f ≡ e) × (earlier ≡ before)
same_last h e f before earlier a b =
    one_last a.since b.since e f before earlier (sym a.parts ∙ b.parts) a.accepted b.accepted a.last b.last

never : (g : History) (e : Event) (before : History) → NoneAccepted (g ++ e ∷ before) → Accepted e → ⊥
never [] e before n a = n.0 a
never (d ∷ ds) e before n a = never ds e before n.1 a

pub none_last : (h : History) (e : Event) (before : History) → NoneAccepted h → LastAccepted h e before → ⊥
none_last h e before n a = never a.since e before (subst NoneAccepted a.parts n) a.accepted

-- lines that fit the same reports give one directory
pub one_rows : (mac own : ℕ) (h : History) (l k : Line) → LineFits mac h l → LineFits own h k → (line_rows k ≡ line_rows l) × (line_counter k ≡ line_counter l)
one_rows mac own h l k f g =
    let t = fits_held h g.hs f.hs k g.are_held f.are_held g.fitting in
    one_directory.fitting f.hs l k f.fitting.0 t.0 f.fitting.1 t.1

pub force_line : (mac : ℕ) (h : History) (rs : List Row) (l : Line) → InForce mac h rs → LastLine mac h l → rs ≡ line_rows l
force_line mac h rs l (inl (none, z)) k = absurd (none_last h k.event k.before none k.last)
force_line mac h rs l (inr (j, i, r)) k =
    let s = same_last h k.event i.event k.before i.before k.last i.last in
    r ∙ (one_rows mac mac k.before l j k.line (subst (λ (g : History). LineFits mac g j) s.1 i.line)).0

pub force_none : (mac : ℕ) (h : History) (rs : List Row) → InForce mac h rs → NoneAccepted h → rs ≡ []
force_none mac h rs (inl (none, z)) n = z
force_none mac h rs (inr (j, i, r)) n = absurd (none_last h i.event i.before n i.last)

pub one_force : (mac : ℕ) (h : History) (rs qs : List Row) → InForce mac h rs → InForce mac h qs → qs ≡ rs
one_force mac h rs qs (inl (none, z)) g = force_none mac h qs g none ∙ sym z
one_force mac h rs qs (inr (l, k, r)) g = force_line mac h qs l g k ∙ sym r

pub some_row : (l : Line) → IsLine l → 1 ≤ length (line_rows l)
some_row l is = (numbered l is).0.some_row
