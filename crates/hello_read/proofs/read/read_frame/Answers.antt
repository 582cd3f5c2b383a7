use Rattle.std.proofs.Common.{◌≡◌, ◌+◌, ◌≤◌, length, Ok, sym, refl, ap, ◌∙◌, arith, rules}
use Rattle.hello_read.specs.Reading.{answer_at, judged}
use Rattle.hello_read.proofs.Judging.{parts_there, by_walk}
use Rattle.hello_read.proofs.read.read_frame.Goals as goal

pub invariant_of-result : goal.invariant_of-result
invariant_of-result c =
    let parts = parts_there c.in_ok-hello.hello c.args.frame.now c.in-Some.at c.in_ok-hello.ensures.0 in
    record { vendor_part = parts.0; uuid_part = parts.1 }

pub returns : goal.returns
returns c =
    let frame = c.args.frame.now in
    let at = c.in-Some.at in
    let told = c.in_ok-hello.ensures in
    let vendor : at + 2 + 18 ≡ at + 20 = omega arith in
    let uuid : at + 2 + 70 ≡ at + 72 = omega arith in
    let parts = parts_there c.in_ok-hello.hello frame at told.0 in
    let low : 18 ≤ length frame = search rules in
    let high : length frame ≤ 1518 = search rules in
    let walked = by_walk frame low high (sym c.is_headed.ensures ∙ c.if-not-is_headed.false) (sym c.find_hello.ensures.answer ∙ c.in_ok-at.was ∙ ap Ok c.in-Some.is) in
    record {
      answer = (λ i. Ok (record { hello = told.0 i; vendor_at = vendor i; uuid_at = uuid i })) ∙ sym (walked ∙ ap (λ o. judged o (answer_at at frame)) told.1);
      frame = record { frame = refl; vendor = parts.0; uuid = parts.1 };
    }
