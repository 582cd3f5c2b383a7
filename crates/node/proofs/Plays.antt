-- A list of calls that is played and recorded one by one. Assumes nothing.
use Rattle.std.proofs.Common.{◌≡◌, ℕ, ◌+◌, ◌<◌, ◌≤◌, min, List, [], ◌∷◌, ◌++◌, map, length, get_or, drop, set, sym, refl, ap, ◌∙◌, subst, inl, inr, arith, length-set}
use lib.ListN as list
use Rattle.std.proofs.lemmas.List.{append-nil, take_more, take_more_set, take_all, take_at, drop_all, drop_at, map_push, length-map, length-take, length-drop, length-append, drop-set-lt, drop-drop}
use Rattle.std.proofs.lemmas.Bool.{cases_lt}
use Rattle.plan.specs.Meaning.{Meaning}
use Rattle.runs.specs.Calls.{State, fresh, Event, event, Step}
use Rattle.runs.specs.Calls as model
use Rattle.runs.specs.Histories.{History}
use Rattle.runs.specs.Promise.{Comes, events}
use Rattle.node.specs.declared.call.Call.{Call}
use Rattle.node.specs.declared.rehearsal.Recorded.{Recorded}
use Rattle.node.specs.Recorded.{calling, answer_told, output_of, recorded, last_output, used, Plays}

last_push : (out : List ℕ) (rs : List (model.Answer × List ℕ)) (r : model.Answer × List ℕ) → last_output out (rs ++ r ∷ []) ≡ r.1
last_push out [] r = refl
last_push out (q ∷ rs) r = last_push q.1 rs r

events_push :
    (h : History) (out : List ℕ) (cs : List model.Call) (rs : List (model.Answer × List ℕ)) (c : model.Call) (r : model.Answer × List ℕ) → length cs ≡ length rs
    → events h out (cs ++ c ∷ []) (rs ++ r ∷ []) ≡ event c r.0 (last_output out rs) r.1 ∷ events h out cs rs
events_push h out [] [] c r e = refl
events_push h out [] (q ∷ rs) c r e = absurd (let g : ⊥ = omega arith in g)
events_push h out (d ∷ cs) [] c r e = absurd (let g : ⊥ = omega arith in g)
events_push h out (d ∷ cs) (q ∷ rs) c r e = events_push (event d q.0 out q.1 ∷ h) q.1 cs rs c r (omega arith)

-- i calls are played, from state s to state t
pub record Playing (plan : Meaning) (s : State) (calls : List Call) (first output : List ℕ) (old new : List (Recorded)) (i : ℕ) (t : State) : Type 0 where
  pub comes : Comes plan s (events [] first (map calling (list.take i calls)) (map recorded (list.take i new))) t
  pub last : last_output first (map recorded (list.take i new)) ≡ output
  pub rest : drop i new ≡ drop i old
  pub long : length new ≡ length old

pub play_none : (plan : Meaning) (s : State) (calls : List Call) (output : List ℕ) (records : List (Recorded)) → Playing plan s calls output output records records 0 s
play_none plan s calls output records = record { comes = refl; last = refl; rest = refl; long = refl }

map_next : {A B : Type 0} (f : A → B) (xs : List A) (i : ℕ) (d : A) → i < length xs → map f (list.take (i + 1) xs) ≡ map f (list.take i xs) ++ f (get_or xs i d) ∷ []
map_next f xs i d h = ap (map f) (take_more xs i d h) ∙ map_push f (list.take i xs) (get_or xs i d)

map-set : {A B : Type 0} (f : A → B) (xs : List A) (i : ℕ) (x : A) → i < length xs → map f (list.take (i + 1) (set xs i x)) ≡ map f (list.take i xs) ++ f x ∷ []
map-set f xs i x h = ap (map f) (take_more_set xs i x h) ∙ map_push f (list.take i xs) x

pub play_more :
    (plan : Meaning) (s : State) (calls : List Call) (first output left : List ℕ) (old new : List Recorded) (i : ℕ) (t u : State) (d : Call) (r : Recorded)
    → i < length calls → i < length new → Playing plan s calls first output old new i t
    → Step plan t (event (calling (get_or calls i d)) (answer_told r.answer) output left) u → output_of r ≡ left
    → Playing plan s calls first left old (set new i r) (i + 1) u
play_more plan s calls first output left old new i t u d r h k p st e =
    let cs = map calling (list.take i calls) in
    let rs = map recorded (list.take i new) in
    let c = calling (get_or calls i d) in
    let same : length cs ≡ length rs =
    length-map (list.take i calls) calling ∙ length-take i calls ∙ omega arith ∙ sym (length-take i new) ∙ sym (length-map (list.take i new) recorded) in
    let more : events [] first (map calling (list.take (i + 1) calls)) (map recorded (list.take (i + 1) (set new i r)))
    ≡ event c (answer_told r.answer) (last_output first rs) (output_of r) ∷ events [] first cs rs =
    (λ j. events [] first (map_next calling calls i d h j) (map-set recorded new i r k j)) ∙ events_push [] first cs rs c (recorded r) same in
    record {
      comes = subst (λ (g : History). Comes plan s g u) (sym more)
          (t, p.comes, subst (λ (o : List ℕ × List ℕ). Step plan t (event c (answer_told r.answer) o.0 o.1) u) (λ j. (sym p.last j, sym e j)) st);
      last = ap (last_output first) (map-set recorded new i r k) ∙ last_push first rs (recorded r) ∙ e;
      rest = drop-set-lt (i + 1) new i r (omega arith) ∙ (sym (drop-drop 1 i new) ∙ (ap (drop 1) p.rest ∙ drop-drop 1 i old));
      long = length-set new i r ∙ p.long;
    }

pub play_all :
    (plan : Meaning) (mac places : ℕ) (s : State) (calls : List Call) (first output : List ℕ) (old new : List (Recorded)) (n : ℕ) (t : State)
    → s ≡ fresh mac places → n ≡ min (length calls) (length old) → Playing plan s calls first output old new n t → Plays plan mac places calls first output old new n
play_all plan mac places s calls first output old new n t e c p = record {
  count = c;
  last = sym p.last;
  rest = p.rest;
  state = t;
  run = subst (λ (z : State). Comes plan z (events [] first (map calling (list.take n calls)) (map recorded (list.take n new))) t) e p.comes;
}

-- the front of the output buffer that is used
module _ (out : List ℕ) (n : ℕ) (e : n ≡ min (length out) 2560) where
  used_front : list.take n out ≡ list.take 2560 out
  used_front = elim (cases_lt (length out) 2560) [
    | inl h ↦ (let q : length out ≤ n = omega arith in take_all n out q ∙ sym (take_all 2560 out (omega arith)))
    | inr h ↦ (let q : n ≡ 2560 = omega arith in ap (λ k. list.take k out) q)
  ]

  used_back : (left : List ℕ) → length left ≡ n → list.take 2560 (left ++ drop n out) ≡ left
  used_back left long = elim (cases_lt (length out) 2560) [
    | inl h ↦ (let q : length (left ++ drop n out) ≤ 2560 = (let a = length-append left (drop n out) in let b = length-drop n out in omega arith) in
        take_all 2560 (left ++ drop n out) q ∙ ap (λ r. left ++ r) (drop_all n out (omega arith)) ∙ append-nil left)
    | inr h ↦ take_at left (drop n out) 2560 (omega arith)
  ]

  unused_back : (left : List ℕ) → length left ≡ n → drop 2560 (left ++ drop n out) ≡ drop 2560 out
  unused_back left long = elim (cases_lt (length out) 2560) [
    | inl h ↦ (let q : length (left ++ drop n out) ≤ 2560 = (let a = length-append left (drop n out) in let b = length-drop n out in omega arith) in
        drop_all 2560 (left ++ drop n out) q ∙ sym (drop_all 2560 out (omega arith)))
    | inr h ↦ (let q : n ≡ 2560 = omega arith in drop_at left (drop n out) 2560 (omega arith) ∙ ap (λ k. drop k out) q)
  ]

  pub plays_within :
      (plan : Meaning) (mac places : ℕ) (calls : List Call) (left : List ℕ) (old new : List Recorded) (count : ℕ) → length left ≡ n
      → Plays plan mac places calls (list.take n out) left old new count
      → Plays plan mac places calls (used out) (used (left ++ drop n out)) old new count × (drop 2560 (left ++ drop n out) ≡ drop 2560 out)
  plays_within plan mac places calls left old new count long p =
      (subst (λ (o : List ℕ × List ℕ). Plays plan mac places calls o.0 o.1 old new count) (λ j. (used_front j, sym (used_back left long) j)) p, unused_back left long)
