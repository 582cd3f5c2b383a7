use Rattle.std.proofs.Common.{Some, ◌++◌, ◌∷◌, [], map, take, get_or, sym, ap, subst, ◌∙◌}
use Rattle.std.specs.Option.{SomeIff}
use Rattle.std.proofs.lemmas.List.{map_more, append_assoc}
use Rattle.std.proofs.lemmas.List.Elements.{All-more}
use Rattle.scenario.specs.Numbers.{AreHexDigits, byte_of}
use Rattle.scenario.proofs.number.push_bytes.Goals as goal

pub loop-pair-preserved : goal.loop-pair-preserved
loop-pair-preserved c =
    let i = c.loop-pair.pair-index in
    let all = c.as_chunks.result.0.now in
    let old = c.args.bytes.now.items in
    let pair = get_or all i [] in
    let there = c.loop-pair-test.true in
    let told : SomeIff (Some c.in_ok-byte.byte) (AreHexDigits pair) (byte_of pair) =
    subst (λ o. SomeIff o (AreHexDigits pair) (byte_of pair)) c.in_ok-byte.ensures.ok_part c.byte.ensures
    in
    let byte = told.1 in (
      c.in_ok-push.ensures.items ∙ (λ j. c.loop-pair.invariant.0 j ++ (byte j ∷ []))
          ∙ append_assoc old (map byte_of (take i all)) (byte_of pair ∷ [])
          ∙ ap (λ xs. old ++ xs) (sym (map_more byte_of all i [] there)),
      All-more AreHexDigits all i [] there c.loop-pair.invariant.1 told.0,
    )
