-- What is answered: the number of each refusal and what it names. Assumes nothing.
use Rattle.std.specs.Prelude.{◌≡◌, ℕ, List, [], ◌∷◌, Some, None, Ok, Err, Option, Result}
use Rattle.hello_read.specs.declared.fault.FieldFault.{FieldFault}
use Rattle.hello_read.specs.declared.fault.FieldFault.TheVariants.{Version, Vendor, Statuses, Timeout, Source, Line, Direction, Inhibition, Remote, Uuid}
use Rattle.hello_read.specs.declared.fault.TlvFault.{TlvFault}
use Rattle.hello_read.specs.declared.fault.TlvFault.TheVariants.{Order, Past, FilledEnd, Length, Second, NoEnd, Field}
use Rattle.hello_read.specs.declared.fault.FrameFault.{FrameFault}
use Rattle.hello_read.specs.declared.fault.FrameFault.TheVariants.{Size, Foreign, NoHello, Tlv}
use Rattle.hello_read.specs.declared.fault.Refusal as refused
use Rattle.hello_read.specs.declared.fault.Refusal.TheVariants as refusal
use Rattle.hello_read.specs.declared.frame.HelloFrame as code
use Rattle.hello_read.specs.Hellos.{Hello, means}
use Rattle.hello_read.specs.Layout.{bytes_at}

-- the number, and the values that it names
abbrev pub Refusal : Type 0
Refusal = ℕ × List ℕ

-- fewer than 125 bytes are left
abbrev pub short : Refusal
short = (1, [])

abbrev pub broken : ℕ → Refusal
broken place = (15, place ∷ [])

abbrev pub foreign : Refusal
foreign = (16, [])

abbrev pub field : ℕ → Refusal
field offset = (17, offset ∷ [])

abbrev pub listed : Option ℕ → List ℕ
listed None = []
listed (Some place) = place ∷ []

abbrev pub refusal_of : refused.Refusal → Refusal
refusal_of refusal.Short = short
refusal_of (refusal.Broken place) = broken place
refusal_of refusal.Foreign = foreign
refusal_of (refusal.Field offset) = field offset

-- a field's offset in the contents of the HELLO TLV
abbrev pub offset : FieldFault → ℕ
offset Version = 6
offset Vendor = 18
offset Statuses = 50
offset Timeout = 51
offset Source = 52
offset Line = 59
offset Direction = 60
offset Inhibition = 61
offset Remote = 62
offset Uuid = 70

abbrev pub tlv_refusal : TlvFault → Refusal
tlv_refusal (Order place) = broken place
tlv_refusal (Past place) = broken place
tlv_refusal (FilledEnd place) = broken place
tlv_refusal (Length place) = broken place
tlv_refusal (Second place) = broken place
tlv_refusal (NoEnd place) = broken place
tlv_refusal (Field fault) = field (offset fault)

abbrev pub frame_refusal : FrameFault → Refusal
frame_refusal (Size length) = broken length
frame_refusal Foreign = foreign
frame_refusal NoHello = foreign
frame_refusal (Tlv fault) = tlv_refusal fault

-- what is read: the HELLO, and where vendor and UUID stand in the frame
pub record Answer : Type 0 where
  pub hello : Hello
  pub vendor_at : ℕ
  pub uuid_at : ℕ

abbrev pub read_told : Result code.HelloFrame FrameFault → Result Answer Refusal
read_told (Ok f) = Ok (record { hello = means f.hello; vendor_at = f.vendor_at; uuid_at = f.uuid_at })
read_told (Err fault) = Err (frame_refusal fault)

-- vendor and UUID are parts of the frame, at these places
pub record Borrows (bs : List ℕ) (f : code.HelloFrame) : Type 0 where
  pub frame : f.frame.now ≡ bs
  pub vendor : f.hello.vendor.now ≡ bytes_at f.vendor_at 32 bs
  pub uuid : f.hello.uuid.now ≡ bytes_at f.uuid_at 16 bs
