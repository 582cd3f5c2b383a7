use Rattle.std.proofs.Common.{◌≡◌, Bool, true, false, eqb, leb, List, length, Err, Option, sym, ap, ◌∙◌, arith}
use Rattle.std.specs.Option.{option_map}
use Rattle.std.proofs.lemmas.List.{length-map}
use Rattle.std.proofs.lemmas.Result.{err_from_is_err_and}
use Rattle.std.proofs.lemmas.Bool.{eqb-true, eqb-false, le-leb}
use Rattle.composition.specs.declared.consist.Consist as consist
use Rattle.composition.specs.declared.fault.LineFault.{LineFault}
use Rattle.composition.specs.declared.fault.LineFault.TheVariants.{NoConsist, InConsist}
use Rattle.composition.specs.Meaning.{consist_means, described}
use Rattle.composition.specs.Faults.{told, or_else, unless, consists_fault, uuid_fault, mac_twice_fault, limit_fault, line_fault}
use Rattle.composition.proofs.Exact.{exact}
use Rattle.composition.proofs.Steps.{told_none, told_some}
use Rattle.composition.proofs.rules.check_line.Goals as goal

abbrev ordered : Bool → Option LineFault → Option LineFault → Option LineFault → Option LineFault → Option LineFault
ordered some consists own apart limits = or_else (unless some NoConsist) (or_else consists (or_else own (or_else apart limits)))

some_consist : (cs : List consist.Consist) → false ≡ eqb (length cs) 0 → true ≡ leb 1 (length (described cs))
some_consist cs e =
    let some = eqb-false (length cs) 0 (sym e) in
    sym (le-leb 1 (length (described cs)) (omega (arith, length-map cs consist_means)))

pub returns-then-is_empty : goal.returns-then-is_empty
returns-then-is_empty c =
    let cs = c.args.consists.now in
    let l = described cs in
    let none : length cs ≡ 0 = eqb-true (length cs) 0 (sym c.if-is_empty.ensures) in
    let n : false ≡ leb 1 (length l) = ap (leb 1) (sym (length-map cs consist_means ∙ none)) in
    let fault : Err NoConsist ≡ told (line_fault l) = (λ i. told (ordered (n i) (option_map InConsist (consists_fault 0 l)) (uuid_fault l) (mac_twice_fault l) (limit_fault l))) in
    record { fault = fault; exact = exact l (Err NoConsist) fault }

pub returns-in_err-check_consists : goal.returns-in_err-check_consists
returns-in_err-check_consists c =
    let cs = c.args.consists.now in
    let l = described cs in
    let n = some_consist cs c.if-is_empty.ensures in
    let p = err_from_is_err_and c.from_residual.result c.from_residual.ensures.1 in
    let s = ap (option_map InConsist) (sym (told_some (consists_fault 0 l) _ c.in_err-check_consists.ensures)) in
    let fault = p.1 ∙ ap Err p.2 ∙ (λ i. told (ordered (n i) (s i) (uuid_fault l) (mac_twice_fault l) (limit_fault l))) in
    record { fault = fault; exact = exact l _ fault }

pub returns-in_err-check_uuids : goal.returns-in_err-check_uuids
returns-in_err-check_uuids c =
    let cs = c.args.consists.now in
    let l = described cs in
    let n = some_consist cs c.if-is_empty.ensures in
    let s = ap (option_map InConsist) (sym (told_none (consists_fault 0 l) c.in_ok-check_consists.ensures)) in
    let p = err_from_is_err_and c.from_residual-in_err-check_uuids.result c.from_residual-in_err-check_uuids.ensures.1 in
    let u = sym (told_some (uuid_fault l) _ c.in_err-check_uuids.ensures) in
    let fault = p.1 ∙ ap Err p.2 ∙ (λ i. told (ordered (n i) (s i) (u i) (mac_twice_fault l) (limit_fault l))) in
    record { fault = fault; exact = exact l _ fault }

pub returns-in_err-check_macs : goal.returns-in_err-check_macs
returns-in_err-check_macs c =
    let cs = c.args.consists.now in
    let l = described cs in
    let n = some_consist cs c.if-is_empty.ensures in
    let s = ap (option_map InConsist) (sym (told_none (consists_fault 0 l) c.in_ok-check_consists.ensures)) in
    let u = sym (told_none (uuid_fault l) c.in_ok-check_uuids.ensures) in
    let p = err_from_is_err_and c.from_residual-in_err-check_macs.result c.from_residual-in_err-check_macs.ensures.1 in
    let m = sym (told_some (mac_twice_fault l) _ c.in_err-check_macs.ensures) in
    let fault = p.1 ∙ ap Err p.2 ∙ (λ i. told (ordered (n i) (s i) (u i) (m i) (limit_fault l))) in
    record { fault = fault; exact = exact l _ fault }

pub returns : goal.returns
returns c =
    let cs = c.args.consists.now in
    let l = described cs in
    let n = some_consist cs c.if-is_empty.ensures in
    let s = ap (option_map InConsist) (sym (told_none (consists_fault 0 l) c.in_ok-check_consists.ensures)) in
    let u = sym (told_none (uuid_fault l) c.in_ok-check_uuids.ensures) in
    let m = sym (told_none (mac_twice_fault l) c.in_ok-check_macs.ensures) in
    let fault = c.check_limits.ensures ∙ (λ i. told (ordered (n i) (s i) (u i) (m i) (limit_fault l))) in
    record { fault = fault; exact = exact l _ fault }
