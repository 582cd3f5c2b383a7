-- The rows at hand: reports under their MACs. Assumes nothing.
use Rattle.std.specs.Prelude.{ℕ, List, length, take, Result}
use Rattle.std.specs.declared.cmp.Ordering.{Ordering}
use Rattle.keyed.specs.declared.store.Full.{Full}
use Rattle.keyed.specs.Orders.{numbers}
use Rattle.keyed.specs.Store.{store_answer, store_keeps}
use Rattle.report.specs.declared.Mac.{Mac}
use Rattle.report.specs.declared.Report.{Report}
use Rattle.rehearse.specs.declared.held.Held.{Held}

abbrev pub at_hand : Held → List Report
at_hand h = take h.count h.places

abbrev pub by_number : Mac → Mac → Ordering
by_number a b = numbers a.0 b.0

-- how many there are with one more report, or Full
abbrev pub held_answer : Report → Held → Result ℕ Full
held_answer r h = store_answer by_number (λ x. x.mac) r (length h.places) (at_hand h)

-- the rows after
abbrev pub held_keeps : Report → Held → List Report
held_keeps r h = store_keeps by_number (λ x. x.mac) r (length h.places) (at_hand h)
