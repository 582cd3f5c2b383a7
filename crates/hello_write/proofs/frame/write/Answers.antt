use Rattle.std.proofs.Common.{◌≡◌, ◌+◌, ◌≤◌, length, take, drop, Ok, sym, ap, ◌∙◌, subst, arith}
use Rattle.std.proofs.lemmas.Bool.{le-leb}
use Rattle.hello_read.specs.Hellos.{means}
use Rattle.hello_write.specs.Layout.{frame}
use Rattle.hello_read.specs.Reading.{read}
use Rattle.hello_write.specs.Widths.{Widths}
use Rattle.hello_write.specs.Writing.{meant, laid, decided, write_answer, left}
use Rattle.hello_write.proofs.Back.{reads_back}
use Rattle.hello_write.proofs.Laying.{laid_part}
use Rattle.hello_write.proofs.frame.write.Goals as goal

pub returns : goal.returns
returns c =
    let h = means c.args.hello.now in
    let w = meant c.in_ok-hello.hello in
    let bs = c.args.buffer.now in
    let at = c.args.at in
    let same : w ≡ h = c.in_ok-hello.ensures.0 in
    let none = c.in_ok-hello.ensures.1 in
    let room : at + 125 ≤ length bs = omega arith in
    let enough = le-leb (at + 125) (length bs) room in
    let answer : write_answer h at (length bs) ≡ Ok 125 = (λ i. decided (none i) (enough i)) in
    let bytes = laid_part at bs (frame w c.args.seconds) c.write_frame.new.part (omega arith) c.write_frame.ensures.bytes ∙ ap (λ x. laid at (frame x c.args.seconds) bs) same in
    let widths = subst Widths same c.write_frame.ensures.widths in
    record {
      answer = sym answer;
      buffer = bytes ∙ ap (λ r. left r at (frame h c.args.seconds) bs) (sym answer);
      reads_back = ap (λ l. read (take 125 (drop at l))) bytes ∙ reads_back h widths none c.args.seconds at bs room;
    }
