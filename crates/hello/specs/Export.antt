-- What the C interface returns, and what it leaves in what C lends. Assumes nothing.
use Rattle.std.specs.Prelude.{ℕ, List, [], ◌∷◌, Ok, Err, Result}
use Rattle.hello_read.specs.declared.Fields.{Fields}
use Rattle.hello.specs.declared.ReadHello.{ReadHello}
use Rattle.hello_read.specs.Hellos.{Hello}
use Rattle.hello_read.specs.Refusals.{Refusal, Answer}

abbrev pub number : {X : Type 0} → Result X Refusal → ℕ
number (Ok x) = 0
number (Err refusal) = refusal.0

-- the place that is named, or what stood there
abbrev pub first_or : List ℕ → ℕ → ℕ
first_or [] old = old
first_or (place ∷ places) old = place

abbrev pub place_named : Refusal → ℕ → ℕ
place_named refusal old = first_or refusal.1 old

abbrev pub place_left : {X : Type 0} → Result X Refusal → ℕ → ℕ
place_left (Ok x) old = old
place_left (Err refusal) old = place_named refusal old

abbrev pub fields_of : Hello → Fields
fields_of h = record {
  source = h.source;
  remote = h.remote;
  life_sign = h.life_sign;
  counter = h.counter;
  checksum = h.checksum;
  statuses = h.statuses;
  timeout = h.timeout;
  port = h.port;
  line = h.line;
  direction = h.direction;
  inhibition = h.inhibition;
}

abbrev pub hello_left : Result Answer Refusal → ReadHello → ReadHello
hello_left (Ok a) old = record { fields = fields_of a.hello; vendor_at = a.vendor_at; uuid_at = a.uuid_at }
hello_left (Err refusal) old = old
