-- A HELLO in plain numbers, what a HELLO of the code means, and the ranges of its fields. Assumes nothing.
use Rattle.std.specs.Prelude.{ℕ, ◌^◌, Bool, cond, ◌&&◌, ◌||◌, List, [], ◌∷◌, Some, None, Ok, Err, Option, Result, ◌==◌, nat_le, nat_lt}
use Rattle.hello_read.specs.declared.Fields.{Fields}
use Rattle.hello_read.specs.declared.Hello as code
use Rattle.hello_read.specs.declared.fault.FieldFault.{FieldFault}
use Rattle.hello_read.specs.declared.fault.FieldFault.TheVariants.{Timeout, Source, Line, Direction}

pub record Hello : Type 0 where
  pub checksum : ℕ
  pub life_sign : ℕ
  pub counter : ℕ
  pub vendor : List ℕ
  -- of lines A, B, C and D
  pub statuses : List ℕ
  pub timeout : ℕ
  pub source : ℕ
  pub port : ℕ
  pub line : ℕ
  pub direction : ℕ
  pub inhibition : ℕ
  pub remote : ℕ
  pub uuid : List ℕ

abbrev pub hello_of : Fields → List ℕ → List ℕ → Hello
hello_of f vendor uuid = record {
  checksum = f.checksum;
  life_sign = f.life_sign;
  counter = f.counter;
  vendor = vendor;
  statuses = f.statuses;
  timeout = f.timeout;
  source = f.source;
  port = f.port;
  line = f.line;
  direction = f.direction;
  inhibition = f.inhibition;
  remote = f.remote;
  uuid = uuid;
}

abbrev pub means : code.Hello → Hello
means h = hello_of h.fields h.vendor.now h.uuid.now

-- The ranges.
-- a timeout or a direction
abbrev pub is_one_or_two : ℕ → Bool
is_one_or_two n = n == 1 || n == 2

-- the characters A, B, C, D and -
abbrev pub is_line : ℕ → Bool
is_line n = n == 45 || (nat_le 65 n && nat_le n 68)

abbrev pub is_mac : ℕ → Bool
is_mac m = nat_le 1 m && nat_lt m (2 ^ 48)

-- a field, and whether its value is right; from the left
abbrev pub ranges : Hello → List (FieldFault × Bool)
ranges h =
    (Timeout, is_one_or_two h.timeout) ∷ (Source, is_mac h.source) ∷ (Line, is_line h.line) ∷ (Direction, is_one_or_two h.direction) ∷ []

abbrev pub first_wrong : List (FieldFault × Bool) → Option FieldFault
first_wrong [] = None
first_wrong (row ∷ rows) = cond row.1 (first_wrong rows) (Some row.0)

abbrev pub verdict : Option FieldFault → Result (Unit {0}) FieldFault
verdict None = Ok tt
verdict (Some fault) = Err fault
