use Rattle.std.proofs.Common.{ℕ, List, ◌<◌, ◌^◌, ◌-◌, ◌++◌, ◌∷◌, [], length, drop, set, ap, ◌∙◌, arith, length-set, length-append}
use Rattle.std.specs.Fmt.{decimal}
use Rattle.std.specs.Slice.Iter.{iter_rest}
use Rattle.std.specs.Iterator.Adapters.{rev_source}
use Rattle.part_text.specs.Part.{part_text}
use Rattle.part_text.proofs.Texts.{decimal-short, part_text-line}
use Rattle.part_text.proofs.write.write_lines.Goals as goal

pub write_digits-start-requires : goal.write_digits-start-requires
write_digits-start-requires c =
    let small : c.from.result < 2 ^ 32 = omega arith in
    let one_less = ap length c.in-Some.ensures.steps in (
      omega (arith, decimal-short c.from.result small, one_less, length-append (iter_rest (rev_source c.next.new.self)) (c.in-Some.block.now ∷ [])),
      omega (arith, length-set c.lines.room (c.lines.start - 1) 10),
    )

pub lines-preserved : goal.lines-preserved
lines-preserved c =
    let small : c.from.result < 2 ^ 32 = omega arith in
    let room = c.lines.room in
    let start = c.lines.start in
    let steps = c.in-Some.ensures.steps in
    let one_less = ap length steps in
    let written = c.write_digits-start.ensures.written ∙ ap (λ (n : ℕ). decimal n ++ drop (start - 1) (set room (start - 1) 10)) c.from.ensures in
    let before = c.lines.invariant.0 ∙ ap (λ (xs : List ℕ). part_text xs ++ drop start room) steps in (
      part_text-line _ _ room _ _ start before (omega (arith, one_less, length-append (iter_rest (rev_source c.next.new.self)) (c.in-Some.block.now ∷ [])))
          c.lines.invariant.2 written,
      omega (
        arith,
        decimal-short c.from.result small,
        one_less,
        length-append (iter_rest (rev_source c.next.new.self))
            (c.in-Some.block.now ∷ []),
      ),
      omega (arith, length-set room (start - 1) 10),
    )
