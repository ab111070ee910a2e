use Rattle.std.proofs.Common.{◌≡◌, ◌*◌, ◌≤◌, ◌++◌, length, drop}
use Rattle.std.specs.Slice.Iter.{iter_rest}
use Rattle.std.specs.Iterator.Adapters.{rev_source}
use Rattle.part_text.specs.Part.{part_text as text_of_part}
use Rattle.part_text.proofs.write.write_lines.Given as goal

abbrev pub invariant-lines : goal.invariant-lines
invariant-lines l =
    let rest = iter_rest (rev_source l.block-iterator) in
    (text_of_part l.blocks ≡ text_of_part rest ++ drop l.start l.room) × (11 * length rest ≤ l.start) × (l.start ≤ length l.room)
