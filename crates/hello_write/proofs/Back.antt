-- What is written is read back. Assumes nothing.
use Rattle.std.proofs.Common.{◌≡◌, ℕ, ◌+◌, ◌*◌, ◌/◌, ◌%◌, ◌^◌, ◌<◌, ◌≤◌, true, ◌&&◌, eqb, ltb, leb, List, [], ◌∷◌, ◌++◌, length, take, drop, None, Ok, sym, refl, ap, ◌∙◌, ⊎_elim, append-nil, arith}
use Rattle.std.proofs.lemmas.Nat.{shr-shr, shr_split}
use Rattle.std.proofs.lemmas.List.{take_at, take_all, drop_at, drop-drop, length-append}
use Rattle.std.proofs.lemmas.Bool.{and_parts, or_cases, eqb-true, ltb-true, leb-true}
use Rattle.hello_read.specs.Hellos.{Hello, is_one_or_two, is_line, is_mac, first_wrong}
use Rattle.hello_write.specs.Widths.{Widths, narrow, writable}
use Rattle.hello_write.specs.Layout.{packed}
use Rattle.hello_read.specs.Layout.{bytes_at, number, number_at, pairs, hello_in, head}
use Rattle.hello_write.specs.Layout.{big, contents_front, contents_back, contents, end_tlv, frame}
use Rattle.hello_read.specs.Reading.{read}
use Rattle.hello_read.specs.Frames.{Tlv, tlv_bytes, InRange, IsHelloFrame}
use Rattle.hello_write.specs.Writing.{laid, written_answer}
use Rattle.hello_read.proofs.Frames.{asked_none, exact}
use Rattle.hello_write.proofs.Laying.{laid_cut}

-- ---- numbers

-- one byte more of v
more : (v k : ℕ) → v / 2 ^ (k + 8) * 256 + v / 2 ^ k % 256 ≡ v / 2 ^ k
more v k = ap (λ q. q * 256 + v / 2 ^ k % 256) (sym (shr-shr v k 8)) ∙ shr_split (v / 2 ^ k) 8

big_1 : (v : ℕ) → v < 2 ^ 8 → number (big 1 v) ≡ v
big_1 v fits = omega arith

big_2 : (v : ℕ) → v < 2 ^ 16 → number (big 2 v) ≡ v
big_2 v fits = omega arith

big_4 : (v : ℕ) → v < 2 ^ 32 → number (big 4 v) ≡ v
big_4 v fits =
    let top : v / 2 ^ 24 % 256 ≡ v / 2 ^ 24 = omega arith in
    omega (arith, top, more v 16, more v 8, more v 0)

big_6 : (v : ℕ) → v < 2 ^ 48 → number (big 6 v) ≡ v
big_6 v fits =
    let top : v / 2 ^ 40 % 256 ≡ v / 2 ^ 40 = omega arith in
    omega (arith, top, more v 32, more v 24, more v 16, more v 8, more v 0)

-- ---- the contents

pairs_back : (s : List ℕ) → length s ≡ 4 → narrow s ≡ true → pairs (number (big 1 (packed s))) ≡ s
pairs_back [] four so = absurd (let z : ⊥ = omega arith in z)
pairs_back (a ∷ []) four so = absurd (let z : ⊥ = omega arith in z)
pairs_back (a ∷ b ∷ []) four so = absurd (let z : ⊥ = omega arith in z)
pairs_back (a ∷ b ∷ c ∷ []) four so = absurd (let z : ⊥ = omega arith in z)
pairs_back (a ∷ b ∷ c ∷ d ∷ e ∷ s) four so = absurd (let z : ⊥ = omega arith in z)
pairs_back (a ∷ b ∷ c ∷ d ∷ []) four so =
    let p = and_parts (ltb a 4 && ltb b 4 && ltb c 4) (ltb d 4) so in
    let q = and_parts (ltb a 4 && ltb b 4) (ltb c 4) p.0 in
    let r = and_parts (ltb a 4) (ltb b 4) q.0 in
    let la = ltb-true a 4 r.0 in
    let lb = ltb-true b 4 r.1 in
    let lc = ltb-true c 4 q.1 in
    let ld = ltb-true d 4 p.1 in
    let v = a * 64 + b * 16 + c * 4 + d in
    let is : number (big 1 v) ≡ v = big_1 v (omega arith) in
    let va : v / 64 % 4 ≡ a = omega arith in
    let vb : v / 16 % 4 ≡ b = omega arith in
    let vc : v / 4 % 4 ≡ c = omega arith in
    let vd : v % 4 ≡ d = omega arith in
    ap pairs is ∙ (λ i. va i ∷ vb i ∷ vc i ∷ vd i ∷ [])

-- what the check of a HELLO that is written leaves to know
record Written (h : Hello) : Type 0 where
  vendor : length h.vendor ≡ 32
  statuses : narrow h.statuses ≡ true
  timeout : is_one_or_two h.timeout ≡ true
  source : is_mac h.source ≡ true
  line : is_line h.line ≡ true
  direction : is_one_or_two h.direction ≡ true
  inhibition : h.inhibition < 4
  remote : h.remote < 2 ^ 48
  uuid : length h.uuid ≡ 16

written : (h : Hello) → first_wrong (writable h) ≡ None → Written h
written h none =
    let a = asked_none (eqb (length h.vendor) 32) _ _ none in
    let b = asked_none (narrow h.statuses) _ _ a.1 in
    let c = asked_none (is_one_or_two h.timeout) _ _ b.1 in
    let d = asked_none (is_mac h.source) _ _ c.1 in
    let e = asked_none (is_line h.line) _ _ d.1 in
    let f = asked_none (is_one_or_two h.direction) _ _ e.1 in
    let g = asked_none (ltb h.inhibition 4) _ _ f.1 in
    let i = asked_none (ltb h.remote (2 ^ 48)) _ _ g.1 in
    let j = asked_none (eqb (length h.uuid) 16) _ _ i.1 in
    record {
      vendor = eqb-true (length h.vendor) 32 a.0;
      statuses = b.0;
      timeout = c.0;
      source = d.0;
      line = e.0;
      direction = f.0;
      inhibition = ltb-true h.inhibition 4 g.0;
      remote = ltb-true h.remote (2 ^ 48) i.0;
      uuid = eqb-true (length h.uuid) 16 j.0;
    }

-- the contents, read again
module _ (h : Hello) (widths : Widths h) (none : first_wrong (writable h) ≡ None) where
  long_front : length (contents_front h ++ h.vendor) ≡ 50
  long_front = let w = written h none in omega (arith, length-append (contents_front h) h.vendor, w.vendor)

  pub long_contents : length (contents h) ≡ 86
  long_contents = let w = written h none in omega (arith, length-append (contents_front h ++ h.vendor) (contents_back h), long_front, w.uuid)

  -- a part behind the vendor
  back_at : (k bytes : ℕ) → bytes_at (50 + k) bytes (contents h) ≡ bytes_at k bytes (contents_back h)
  back_at k bytes =
      ap (take bytes) (sym (drop-drop k 50 (contents h)) ∙ ap (drop k) (drop_at (contents_front h ++ h.vendor) (contents_back h) 50 long_front))

  vendor_back : bytes_at 18 32 (contents h) ≡ h.vendor
  vendor_back = take_at h.vendor (contents_back h) 32 (written h none).vendor

  uuid_back : bytes_at 70 16 (contents h) ≡ h.uuid
  uuid_back = back_at 20 16 ∙ take_all 16 h.uuid (omega (arith, (written h none).uuid))

  source_fits : h.source < 2 ^ 48
  source_fits = ltb-true h.source (2 ^ 48) (and_parts (leb 1 h.source) (ltb h.source (2 ^ 48)) (written h none).source).1

  -- a timeout, a direction or a line is a byte
  small : (n : ℕ) → is_one_or_two n ≡ true → n < 2 ^ 8
  small n so = ⊎_elim (λ e. omega (arith, eqb-true n 1 e)) (λ e. omega (arith, eqb-true n 2 e)) (or_cases (eqb n 1) (eqb n 2) so)

  line_fits : h.line < 2 ^ 8
  line_fits =
      let n = h.line in
      ⊎_elim (λ e. omega (arith, eqb-true n 45 e)) (λ e. omega (arith, leb-true n 68 (and_parts (leb 65 n) (leb n 68) e).1))
      (or_cases (eqb n 45) (leb 65 n && leb n 68) (written h none).line)

  fields_back : hello_in (contents h) ≡ h
  fields_back =
      let w = written h none in
      let checksum : number_at 4 2 (contents h) ≡ h.checksum = big_2 h.checksum widths.checksum in
      let life_sign : number_at 10 4 (contents h) ≡ h.life_sign = big_4 h.life_sign widths.life_sign in
      let counter : number_at 14 4 (contents h) ≡ h.counter = big_4 h.counter widths.counter in
      let statuses : pairs (number_at 50 1 (contents h)) ≡ h.statuses = ap (λ l. pairs (number l)) (back_at 0 1) ∙ pairs_back h.statuses widths.statuses w.statuses in
      let timeout : number_at 51 1 (contents h) ≡ h.timeout = ap number (back_at 1 1) ∙ big_1 h.timeout (small h.timeout w.timeout) in
      let source : number_at 52 6 (contents h) ≡ h.source = ap number (back_at 2 6) ∙ big_6 h.source source_fits in
      let port : number_at 58 1 (contents h) ≡ h.port = ap number (back_at 8 1) ∙ big_1 h.port widths.port in
      let line : number_at 59 1 (contents h) ≡ h.line = ap number (back_at 9 1) ∙ big_1 h.line line_fits in
      let direction : number_at 60 1 (contents h) ≡ h.direction = ap number (back_at 10 1) ∙ big_1 h.direction (small h.direction w.direction) in
      let byte : number_at 61 1 (contents h) ≡ h.inhibition = ap number (back_at 11 1) ∙ big_1 h.inhibition (omega (arith, w.inhibition)) in
      let inhibition : number_at 61 1 (contents h) % 4 ≡ h.inhibition = ap (λ n. n % 4) byte ∙ omega (arith, w.inhibition) in
      let remote : number_at 62 6 (contents h) ≡ h.remote = ap number (back_at 12 6) ∙ big_6 h.remote w.remote in
      let vendor = vendor_back in
      let uuid = uuid_back in
      (λ i. record {
        checksum = checksum i;
        life_sign = life_sign i;
        counter = counter i;
        vendor = vendor i;
        statuses = statuses i;
        timeout = timeout i;
        source = source i;
        port = port i;
        line = line i;
        direction = direction i;
        inhibition = inhibition i;
        remote = remote i;
        uuid = uuid i;
      })

  range_back : InRange (contents h)
  range_back =
      let w = written h none in
      let back = fields_back in
      record {
        version = refl;
        timeout = ap (λ x. is_one_or_two x.timeout) back ∙ w.timeout;
        source = ap (λ x. is_mac x.source) back ∙ w.source;
        line = ap (λ x. is_line x.line) back ∙ w.line;
        direction = ap (λ x. is_one_or_two x.direction) back ∙ w.direction;
      }

  pub long_frame : (seconds : ℕ) → length (frame h seconds) ≡ 125
  long_frame seconds = omega (arith, length-append (contents h) end_tlv, long_contents)

  -- the frame is a HELLO frame
  frame_is : (seconds : ℕ) → IsHelloFrame (frame h seconds) (written_answer h)
  frame_is seconds =
      let c : Tlv = record { high = 0x02; low = 0x07; contents = 0x04 ∷ big 6 h.source } in
      let p : Tlv = record { high = 0x04; low = 0x02; contents = 0x06 ∷ big 1 h.port } in
      let t : Tlv = record { high = 0x06; low = 0x02; contents = big 2 seconds } in
      let tlv : Tlv = record { high = 0xFE; low = 0x56; contents = contents h } in
      record {
        source = big 6 h.source;
        chassis = c;
        port = p;
        time = t;
        before = [];
        hello = tlv;
        after = [];
        ignored = [];
        is = ap (λ l. head (big 6 h.source) ++ (tlv_bytes c ++ (tlv_bytes p ++ (tlv_bytes t ++ (0xFE ∷ 0x56 ∷ (l ++ end_tlv)))))) (sym (append-nil (contents h)));
        six = refl;
        fits = omega (arith, long_frame seconds);
        first = record { whole = refl; type = refl };
        second = record { whole = refl; type = refl };
        third = record { whole = refl; type = refl };
        others_before = tt;
        others_after = tt;
        one = record { whole = sym long_contents; is = refl; long = long_contents };
        in_range = range_back;
        fields = sym fields_back;
        vendor_at = refl;
        uuid_at = refl;
      }

  -- cut out of the buffer that it was laid into
  pub reads_back : (seconds at : ℕ) (bs : List ℕ) → at + 125 ≤ length bs → read (take 125 (drop at (laid at (frame h seconds) bs))) ≡ Ok (written_answer h)
  reads_back seconds at bs room =
      let long = long_frame seconds in
      ap (λ n. read (take n (drop at (laid at (frame h seconds) bs)))) (sym long)
      ∙ ap read (laid_cut at (frame h seconds) bs (omega arith))
      ∙ exact.accepts (frame h seconds) (written_answer h) (frame_is seconds)
