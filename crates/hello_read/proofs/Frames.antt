-- A frame is read exactly where it is a HELLO frame. Assumes nothing.
use Rattle.std.proofs.Common.{◌≡◌, ℕ, ◌+◌, ◌<◌, ◌≤◌, Bool, true, false, cond, ◌&&◌, eqb, leb, ◌⊎◌, List, [], ◌∷◌, ◌++◌, length, take, drop, Some, None, IfOk, Ok, Err, Option, Result, sym, refl, ap, ◌∙◌, subst, inl, inr, ⊎_elim, arith}
use Rattle.std.proofs.lemmas.Slice.Eq.{bytes_eq-Decides}
use Rattle.std.proofs.lemmas.List.{append_assoc, take-append-drop, take_at, drop_at, drop-drop, length-append, length-drop, length-take-le}
use Rattle.std.proofs.lemmas.Bool.{and_from, and_parts, eqb-true, eq-eqb, leb-true, le-leb}
use Rattle.std.specs.List.{AllByRecursion}
use Rattle.hello_read.specs.declared.fault.FieldFault.{FieldFault}
use Rattle.hello_read.specs.declared.fault.TlvFault.{TlvFault}
use Rattle.hello_read.specs.Hellos.{is_one_or_two, is_line, is_mac, first_wrong}
use Rattle.hello_read.specs.Layout.{destination, tag, head, number_at, hello_in}
use Rattle.hello_read.specs.Refusals.{Answer, Refusal, broken, foreign}
use Rattle.hello_read.specs.Tlvs.{starts, Within, walk}
use Rattle.hello_read.specs.Reading.{headed, contents_at, asked, answer_at, judged, found, read}
use Rattle.hello_read.specs.Frames.{Tlv, tlv_bytes, tlvs_bytes, Typed, HelloTlv, Other, InRange, front, IsHelloFrame, Exact}
use Rattle.hello_read.proofs.Walks.{Run, run_walked, walked}

-- ---- the row of TLVs

tlvs_bytes_append : (ts us : List Tlv) → tlvs_bytes (ts ++ us) ≡ tlvs_bytes ts ++ tlvs_bytes us
tlvs_bytes_append [] us = refl
tlvs_bytes_append (t ∷ ts) us = ap (λ l. tlv_bytes t ++ l) (tlvs_bytes_append ts us) ∙ sym (append_assoc (tlv_bytes t) (tlvs_bytes ts) (tlvs_bytes us))

run_others :
    (p n : ℕ) (f g : Option ℕ) (ts us : List Tlv) → 3 ≤ n → AllByRecursion Other ts → Run (p + length (tlvs_bytes ts)) (n + length ts) f g us → Run p n f g (ts ++ us)
run_others p n f g [] us late all so =
    let place : p + 0 ≡ p = omega arith in
    let nth : n + 0 ≡ n = omega arith in
    subst (λ m. Run p m f g us) nth (subst (λ q. Run q (n + 0) f g us) place so)
run_others p n f g (t ∷ ts) us late all so =
    let q = p + (2 + length t.contents) in
    let place : p + length (tlvs_bytes (t ∷ ts)) ≡ q + length (tlvs_bytes ts) = omega (arith, length-append t.contents (tlvs_bytes ts)) in
    let nth : n + length (t ∷ ts) ≡ n + 1 + length ts = omega arith in (
      f,
      inr (inl (late, all.0, refl)),
      run_others q (n + 1) f g ts us (omega arith) all.1
          (subst (λ m. Run (q + length (tlvs_bytes ts)) m f g us) nth (subst (λ k. Run k (n + length (t ∷ ts)) f g us) place so)),
    )

run_after : (p n : ℕ) (f : Option ℕ) (ts : List Tlv) → 3 ≤ n → AllByRecursion Other ts → Run p n f f ts
run_after p n f [] late all = (late, refl)
run_after p n f (t ∷ ts) late all = (f, inr (inl (late, all.0, refl)), run_after (p + (2 + length t.contents)) (n + 1) f ts (omega arith) all.1)

no : {X : Type 0} → ◌≡◌ {A = ℕ} 0 1 → X
no z = absurd (let n : ⊥ = omega arith in n)

-- behind the HELLO
after_run : (p n q r : ℕ) (ts : List Tlv) → 3 ≤ n → Run p n (Some q) (Some r) ts → AllByRecursion Other ts × (q ≡ r)
after_run p n q r [] late so = (tt, cc so.1)
after_run p n q r (t ∷ ts) late so =
    let q' = p + (2 + length t.contents) in
    ⊎_elim (λ first. absurd (let n : ⊥ = omega (arith, first.0) in n))
    (⊎_elim
    (λ other.
    let rest = after_run q' (n + 1) q r ts (omega arith) (subst (λ h. Run q' (n + 1) h (Some r) ts) other.2 so.2) in
    ((other.1, rest.0), rest.1))
    (λ hello. no (cc hello.2)))
    so.1

-- from the first TLV that may be the HELLO on
record Later (p q : ℕ) (ts : List Tlv) : Type 0 where
  before : List Tlv
  hello : Tlv
  after : List Tlv
  is : ts ≡ before ++ hello ∷ after
  others_before : AllByRecursion Other before
  one : HelloTlv hello
  others_after : AllByRecursion Other after
  place : q ≡ p + length (tlvs_bytes before)

later : (p n q : ℕ) (ts : List Tlv) → 3 ≤ n → Run p n None (Some q) ts → Later p q ts
later p n q [] late so = no (cc so.1)
later p n q (t ∷ ts) late so =
    let q' = p + (2 + length t.contents) in
    ⊎_elim (λ first. absurd (let n : ⊥ = omega (arith, first.0) in n))
    (⊎_elim
    (λ other.
    let l = later q' (n + 1) q ts (omega arith) (subst (λ h. Run q' (n + 1) h (Some q) ts) other.2 so.2) in
    record {
      before = t ∷ l.before;
      hello = l.hello;
      after = l.after;
      is = ap (λ us. t ∷ us) l.is;
      others_before = (other.1, l.others_before);
      one = l.one;
      others_after = l.others_after;
      place = l.place ∙ omega (arith, length-append t.contents (tlvs_bytes l.before));
    })
    (λ hello.
    let rest = after_run q' (n + 1) p q ts (omega arith) (subst (λ h. Run q' (n + 1) h (Some q) ts) hello.3 so.2) in
    record {
      before = [];
      hello = t;
      after = ts;
      is = refl;
      others_before = tt;
      one = hello.1;
      others_after = rest.0;
      place = sym rest.1 ∙ omega arith;
    }))
    so.1

-- from the first TLV on
record Row (q : ℕ) (ts : List Tlv) : Type 0 where
  chassis : Tlv
  port : Tlv
  time : Tlv
  rest : List Tlv
  is : ts ≡ chassis ∷ port ∷ time ∷ rest
  first : Typed 1 chassis
  second : Typed 2 port
  third : Typed 3 time
  run : Run (18 + (2 + length chassis.contents) + (2 + length port.contents) + (2 + length time.contents)) 3 None (Some q) rest

-- one of the first three
early : {n p : ℕ} {f g : Option ℕ} {t : Tlv} {X : Type 0}
    → n < 3 → ((n < 3) × Typed (n + 1) t × (g ≡ f)) ⊎ (((3 ≤ n) × Other t × (g ≡ f)) ⊎ ((3 ≤ n) × HelloTlv t × (f ≡ None) × (g ≡ Some p)))
    → (Typed (n + 1) t → g ≡ f → X) → X
early before so go =
    ⊎_elim (λ a. go a.1 a.2)
    (⊎_elim (λ b. absurd (let z : ⊥ = omega (arith, b.0) in z)) (λ c. absurd (let z : ⊥ = omega (arith, c.0) in z))) so

row : (q : ℕ) (ts : List Tlv) → Run 18 0 None (Some q) ts → Row q ts
row q [] so = absurd (let z : ⊥ = omega (arith, so.0) in z)
row q (a ∷ []) so = absurd (let z : ⊥ = omega (arith, so.2.0) in z)
row q (a ∷ b ∷ []) so = absurd (let z : ⊥ = omega (arith, so.2.2.0) in z)
row q (a ∷ b ∷ c ∷ ts) so =
    early (omega arith) so.1 (λ first f.
    early (omega arith) so.2.1 (λ second g.
    early (omega arith) so.2.2.1 (λ third h.
    record {
      chassis = a;
      port = b;
      time = c;
      rest = ts;
      is = refl;
      first = first;
      second = second;
      third = third;
      run = subst (λ o. Run (18 + (2 + length a.contents) + (2 + length b.contents) + (2 + length c.contents)) 3 o (Some q) ts) (h ∙ g ∙ f) so.2.2.2;
    })))

-- ---- the head of the frame

module _ (source : List ℕ) (six : length source ≡ 6) (rest : List ℕ) where
  length_head : length (head source) ≡ 18
  length_head = omega (arith, length-append source tag)

  behind_head : drop 18 (head source ++ rest) ≡ rest
  behind_head = drop_at (head source) rest 18 length_head

  head_headed : headed (head source ++ rest) ≡ true
  head_headed =
      let eighteen : drop 12 (head source ++ rest) ≡ tag ++ rest =
      ap (drop 12) (append_assoc (destination ++ source) tag rest) ∙ drop_at (destination ++ source) (tag ++ rest) 12 (omega arith)
      in
      ap (starts tag) eighteen

-- a frame that has the head
headed_head : (bs : List ℕ) → 18 ≤ length bs → headed bs ≡ true → (source : List ℕ) × (length source ≡ 6) × (bs ≡ head source ++ drop 18 bs)
headed_head bs long so =
    let parts = and_parts (starts destination bs) (starts tag (drop 12 bs)) so in
    let front : destination ≡ take 6 bs = (bytes_eq-Decides destination (take 6 bs)).0 parts.0 in
    let last : tag ≡ take 6 (drop 12 bs) = (bytes_eq-Decides tag (take 6 (drop 12 bs))).0 parts.1 in
    let source = take 6 (drop 6 bs) in
    let one : bs ≡ destination ++ drop 6 bs = sym (take-append-drop 6 bs) ∙ ap (λ l. l ++ drop 6 bs) (sym front) in
    let two : drop 6 bs ≡ source ++ drop 12 bs = sym (take-append-drop 6 (drop 6 bs)) ∙ ap (λ l. source ++ l) (drop-drop 6 6 bs) in
    let three : drop 12 bs ≡ tag ++ drop 18 bs = sym (take-append-drop 6 (drop 12 bs)) ∙ ap (λ l. l ++ drop 6 (drop 12 bs)) (sym last) ∙ ap (λ l. tag ++ l) (drop-drop 6 12 bs) in (
      source,
      length-take-le 6 (drop 6 bs) (omega (arith, length-drop 6 bs)),
      one ∙ ap (λ l. destination ++ l) (two ∙ ap (λ l. source ++ l) three)
          ∙ ap (λ l. destination ++ l) (sym (append_assoc source tag (drop 18 bs))),
    )

-- ---- the fields

pub asked_none : (b : Bool) (fault : FieldFault) (rest : Option FieldFault) → cond b rest (Some fault) ≡ None → (b ≡ true) × (rest ≡ None)
asked_none true fault rest e = (refl, e)
asked_none false fault rest e = no (cc e)

none_in_range : (c : List ℕ) → first_wrong (asked c) ≡ None → InRange c
none_in_range c none =
    let h = hello_in c in
    let a = asked_none (eqb (number_at 6 4 c) 0x0100_0000) _ _ none in
    let b = asked_none (is_one_or_two h.timeout) _ _ a.1 in
    let d = asked_none (is_mac h.source) _ _ b.1 in
    let e = asked_none (is_line h.line) _ _ d.1 in
    let f = asked_none (is_one_or_two h.direction) _ _ e.1 in
    record { version = eqb-true (number_at 6 4 c) 0x0100_0000 a.0; timeout = b.0; source = d.0; line = e.0; direction = f.0 }

pub in_range_none : (c : List ℕ) → InRange c → first_wrong (asked c) ≡ None
in_range_none c r = rw (eq-eqb (number_at 6 4 c) 0x0100_0000 r.version, r.timeout, r.source, r.line, r.direction)

-- ---- the whole frame

-- the HELLO TLV among the others, and what stands behind it
module _ (source : List ℕ) (chassis port time : Tlv) (before : List Tlv) (hello : Tlv) (after : List Tlv) (ignored : List ℕ) (six : length source ≡ 6) (one : HelloTlv hello) where
  abbrev tlvs : List ℕ
  tlvs = tlvs_bytes (front chassis port time before ++ hello ∷ after) ++ 0 ∷ 0 ∷ ignored

  abbrev place : ℕ
  place = 18 + length (tlvs_bytes (front chassis port time before))

  split : head source ++ tlvs ≡ (head source ++ tlvs_bytes (front chassis port time before) ++ (hello.high ∷ hello.low ∷ [])) ++ (hello.contents ++ (tlvs_bytes after ++ 0 ∷ 0 ∷ ignored))
  split =
      let f = tlvs_bytes (front chassis port time before) in
      let e : List ℕ = 0 ∷ 0 ∷ ignored in
      ap (λ l. head source ++ (l ++ e)) (tlvs_bytes_append (front chassis port time before) (hello ∷ after))
      ∙ ap (λ l. head source ++ l) (append_assoc f (tlv_bytes hello ++ tlvs_bytes after) e)
      ∙ sym (append_assoc (head source) f (tlv_bytes hello ++ tlvs_bytes after ++ e))
      ∙ ap (λ l. (head source ++ f) ++ (hello.high ∷ hello.low ∷ l)) (append_assoc hello.contents (tlvs_bytes after) e)
      ∙ sym (append_assoc (head source ++ f) (hello.high ∷ hello.low ∷ []) (hello.contents ++ (tlvs_bytes after ++ e)))

  long : length (head source ++ tlvs_bytes (front chassis port time before) ++ (hello.high ∷ hello.low ∷ [])) ≡ place + 2
  long =
      let f = tlvs_bytes (front chassis port time before) in
      omega (arith, length-append (head source ++ f) (hello.high ∷ hello.low ∷ []), length-append (head source) f, length_head source six [])

  pub contents_there : contents_at place (head source ++ tlvs) ≡ hello.contents
  contents_there =
      ap (λ l. take 86 (drop (place + 2) l)) split
      ∙ ap (take 86) (drop_at (head source ++ tlvs_bytes (front chassis port time before) ++ (hello.high ∷ hello.low ∷ [])) _ (place + 2) long)
      ∙ take_at hello.contents _ 86 one.long

  pub fits_there : place + 88 ≤ length (head source ++ tlvs)
  fits_there =
      let f = head source ++ tlvs_bytes (front chassis port time before) ++ (hello.high ∷ hello.low ∷ []) in
      let e = tlvs_bytes after ++ 0 ∷ 0 ∷ ignored in
      omega (arith, ap length split, length-append f (hello.contents ++ e), length-append hello.contents e, long, one.long)

-- what an answer tells of the checks before it
checked : (a : Answer) (b : Bool) (x : Result Answer Refusal) (e : Refusal) → cond b x (Err e) ≡ Ok a → (b ≡ true) × (x ≡ Ok a)
checked a true x e so = (refl, so)
checked a false x e so = no (cc so)

found_hello : (bs : List ℕ) (a : Answer) (w : Result (Option ℕ) TlvFault) → found bs w ≡ Ok a → (p : ℕ) × (w ≡ Ok (Some p)) × (found bs (Ok (Some p)) ≡ Ok a)
found_hello bs a (Ok (Some p)) so = (p, refl, so)
found_hello bs a (Ok None) so = no (cc so)
found_hello bs a (Err e) so = no (cc so)

judged_right : (o : Option FieldFault) (x a : Answer) → judged o x ≡ Ok a → (o ≡ None) × (x ≡ a)
judged_right None x a so = (refl, cc so)
judged_right (Some f) x a so = no (cc so)

module _ (bs : List ℕ) (a : Answer) where
  accepts : IsHelloFrame bs a → read bs ≡ Ok a
  accepts h =
      let ts = front h.chassis h.port h.time h.before in
      let p = 18 + length (tlvs_bytes ts) in
      let rest = tlvs_bytes (ts ++ h.hello ∷ h.after) ++ 0 ∷ 0 ∷ h.ignored in
      let c = h.hello.contents in
      let p3 = 18 + (2 + length h.chassis.contents) + (2 + length h.port.contents) + (2 + length h.time.contents) in
      let at : p3 + length (tlvs_bytes h.before) ≡ p =
      omega (
        arith,
        length-append h.chassis.contents (tlvs_bytes (h.port ∷ h.time ∷ h.before)),
        length-append h.port.contents (tlvs_bytes (h.time ∷ h.before)),
        length-append h.time.contents (tlvs_bytes h.before),
      )
      in
      let later_on : Run p3 3 None (Some p) (h.before ++ h.hello ∷ h.after) =
      run_others p3 3 None (Some p) h.before (h.hello ∷ h.after) (omega arith) h.others_before (
        Some p,
        inr (inr (omega arith, h.one, refl, ap Some (sym at))),
        run_after (p3 + length (tlvs_bytes h.before) + (2 + length c)) (3 + length h.before + 1) (Some p) h.after (omega arith) h.others_after,
      )
      in
      let run : Run 18 0 None (Some p) (ts ++ h.hello ∷ h.after) =
      (None, inl (omega arith, h.first, refl), (None, inl (omega arith, h.second, refl), (None, inl (omega arith, h.third, refl), later_on)))
      in
      let walk_so : walk 0 18 0 None (drop 18 bs) ≡ Ok (Some p) =
      ap (λ l. walk 0 18 0 None (drop 18 l)) h.is ∙ ap (walk 0 18 0 None) (behind_head h.source h.six rest)
      ∙ run_walked 18 0 None (Some p) (ts ++ h.hello ∷ h.after) h.ignored run
      in
      let head_so : headed bs ≡ true = ap headed h.is ∙ head_headed h.source h.six rest in
      let there : contents_at p bs ≡ c =
      ap (contents_at p) h.is ∙ contents_there h.source h.chassis h.port h.time h.before h.hello h.after h.ignored h.six h.one
      in
      let low : 18 ≤ length bs = omega (arith, ap length h.is, length-append (head h.source) rest, length_head h.source h.six []) in
      let size_so : (leb 18 (length bs) && leb (length bs) 1518) ≡ true = and_from (leb 18 (length bs)) (leb (length bs) 1518) (le-leb 18 (length bs) low) (le-leb (length bs) 1518 h.fits) in
      let judged_so : first_wrong (asked (contents_at p bs)) ≡ None = ap (λ l. first_wrong (asked l)) there ∙ in_range_none c h.in_range in
      let fields : hello_in (contents_at p bs) ≡ a.hello = ap hello_in there ∙ sym h.fields in
      let vendor : p + 20 ≡ a.vendor_at = sym h.vendor_at in
      let uuid : p + 72 ≡ a.uuid_at = sym h.uuid_at in
      let answer : answer_at p bs ≡ a = (λ i. record { hello = fields i; vendor_at = vendor i; uuid_at = uuid i }) in
      ap (λ b. cond b (cond (headed bs) (found bs (walk 0 18 0 None (drop 18 bs))) (Err foreign)) (Err (broken (length bs)))) size_so
      ∙ ap (λ b. cond b (found bs (walk 0 18 0 None (drop 18 bs))) (Err foreign)) head_so
      ∙ ap (found bs) walk_so
      ∙ ap (λ o. judged o (answer_at p bs)) judged_so
      ∙ ap Ok answer

-- the TLVs of a frame in which the HELLO is found at q
record Tlvs (q : ℕ) (bs : List ℕ) : Type 0 where
  chassis : Tlv
  port : Tlv
  time : Tlv
  before : List Tlv
  hello : Tlv
  after : List Tlv
  ignored : List ℕ
  is : bs ≡ tlvs_bytes (front chassis port time before ++ hello ∷ after) ++ 0 ∷ 0 ∷ ignored
  first : Typed 1 chassis
  second : Typed 2 port
  third : Typed 3 time
  others_before : AllByRecursion Other before
  others_after : AllByRecursion Other after
  one : HelloTlv hello
  place : q ≡ 18 + length (tlvs_bytes (front chassis port time before))

tlvs_of : (q : ℕ) (bs : List ℕ) → walk 0 18 0 None bs ≡ Ok (Some q) → Tlvs q bs
tlvs_of q bs so =
    let w = walked 18 0 None (Some q) bs so in
    let r = row q w.tlvs w.run in
    let l = later _ 3 q r.rest (omega arith) r.run in
    let all : w.tlvs ≡ front r.chassis r.port r.time l.before ++ l.hello ∷ l.after =
    r.is ∙ ap (λ ts. r.chassis ∷ r.port ∷ r.time ∷ ts) l.is
    in
    record {
      chassis = r.chassis;
      port = r.port;
      time = r.time;
      before = l.before;
      hello = l.hello;
      after = l.after;
      ignored = w.ignored;
      is = w.is ∙ ap (λ ts. tlvs_bytes ts ++ 0 ∷ 0 ∷ w.ignored) all;
      first = r.first;
      second = r.second;
      third = r.third;
      others_before = l.others_before;
      others_after = l.others_after;
      one = l.one;
      place = l.place
          ∙ omega (
            arith,
            length-append r.chassis.contents (tlvs_bytes (r.port ∷ r.time ∷ l.before)),
            length-append r.port.contents (tlvs_bytes (r.time ∷ l.before)),
            length-append r.time.contents (tlvs_bytes l.before),
          );
    }

-- The contents of the HELLO found are within the frame.
pub found_within : (frame : List ℕ) (r : Result (Option ℕ) TlvFault) → 18 ≤ length frame → walk 0 18 0 None (drop 18 frame) ≡ r → IfOk r (Within (length frame))
found_within frame (Err e) long so = tt
found_within frame (Ok None) long so = tt
found_within frame (Ok (Some p)) long so =
    let t = tlvs_of p (drop 18 frame) so in
    let source : List ℕ = 0 ∷ 0 ∷ 0 ∷ 0 ∷ 0 ∷ 0 ∷ [] in
    omega (arith, length-drop 18 frame, ap length t.is, t.place, fits_there source t.chassis t.port t.time t.before t.hello t.after t.ignored refl t.one)

module _ (bs : List ℕ) (a : Answer) where
  accepts_only : read bs ≡ Ok a → IsHelloFrame bs a
  accepts_only so =
      let one = checked a (leb 18 (length bs) && leb (length bs) 1518) (cond (headed bs) (found bs (walk 0 18 0 None (drop 18 bs))) (Err foreign)) (broken (length bs)) so in
      let sizes = and_parts (leb 18 (length bs)) (leb (length bs) 1518) one.0 in
      let two = checked a (headed bs) (found bs (walk 0 18 0 None (drop 18 bs))) foreign one.1 in
      let hit = found_hello bs a (walk 0 18 0 None (drop 18 bs)) two.1 in
      let p = hit.0 in
      let right = judged_right (first_wrong (asked (contents_at p bs))) (answer_at p bs) a hit.2 in
      let h = headed_head bs (leb-true 18 (length bs) sizes.0) two.0 in
      let t = tlvs_of p (drop 18 bs) hit.1 in
      let is = h.2 ∙ ap (λ l. head h.0 ++ l) t.is in
      let place = t.place in
      let there : contents_at p bs ≡ t.hello.contents =
      (λ i. contents_at (place i) (is i))
      ∙ contents_there h.0 t.chassis t.port t.time t.before t.hello t.after t.ignored h.1 t.one
      in
      record {
        source = h.0;
        chassis = t.chassis;
        port = t.port;
        time = t.time;
        before = t.before;
        hello = t.hello;
        after = t.after;
        ignored = t.ignored;
        is = is;
        six = h.1;
        fits = leb-true (length bs) 1518 sizes.1;
        first = t.first;
        second = t.second;
        third = t.third;
        others_before = t.others_before;
        others_after = t.others_after;
        one = t.one;
        in_range = none_in_range t.hello.contents (ap (λ l. first_wrong (asked l)) (sym there) ∙ right.0);
        fields = sym (ap (λ x. x.hello) right.1) ∙ ap hello_in there;
        vendor_at = sym (ap (λ x. x.vendor_at) right.1) ∙ ap (λ k. k + 20) place;
        uuid_at = sym (ap (λ x. x.uuid_at) right.1) ∙ ap (λ k. k + 72) place;
      }

pub exact : Exact
exact = record { accepts = accepts; accepts_only = accepts_only }
