use Rattle.std.proofs.Common.{List, ℕ, ◌≡◌, ◌-◌, ◌++◌, drop, take, ◌∙◌, ap, sym, arith, take_all, length-drop, append_assoc}
use Rattle.std.proofs.KnownBytes.{Appends-trans}
use Rattle.part_text.specs.Part.{part_text as text_of_part}
use Rattle.part_text.proofs.Texts.{part_text-split, piece-failed}
use Rattle.part_text.proofs.write.put_part.Goals as goal

pub returns-in_err-put_all-clause-bytes : goal.returns-in_err-put_all-clause-bytes
returns-in_err-put_all-clause-bytes g c =
    let before = c.pieces.invariant in
    let room = c.write_lines-start.new.room in
    let start = c.write_lines-start.result in
    let front : take (4092 - start) (drop start room) ≡ text_of_part (take c.min.result c.pieces.rest.now) =
    take_all (4092 - start) (drop start room) (omega (arith, length-drop start room)) ∙ c.write_lines-start.ensures.text ∙
    ap text_of_part c.split_at.ensures.front in
    let whole = before.1.1 ∙ ap (λ (l : List ℕ). before.0 ++ l) (part_text-split c.pieces.rest.now _ c.min.result front) in
    piece-failed c.from_residual.result _ _ _ before.0 _ _ _ c.from_residual.ensures.0 before.1.0 c.in_err-put_all.ensures.bytes.err whole

pub pieces-preserved : goal.pieces-preserved
pieces-preserved g c =
    let before = c.pieces.invariant in
    let room = c.write_lines-start.new.room in
    let start = c.write_lines-start.result in
    let piece = take (4092 - start) (drop start room) in
    let front : piece ≡ text_of_part (take c.min.result c.pieces.rest.now) =
    take_all (4092 - start) (drop start room) (omega (arith, length-drop start room)) ∙ c.write_lines-start.ensures.text ∙
    ap text_of_part c.split_at.ensures.front in
    let whole = before.1.1 ∙ ap (λ (l : List ℕ). before.0 ++ l) (part_text-split c.pieces.rest.now _ c.min.result front ∙
    ap (λ (l : List ℕ). piece ++ text_of_part l) (sym c.split_at.ensures.back)) in (
      before.0 ++ piece,
      (
        Appends-trans _ _ _ before.0 piece before.1.0 c.in_ok-put_all.ensures.bytes.ok,
        whole ∙ sym (append_assoc before.0 piece _),
        c.in_ok-put_all.ensures.cause.kept ∙ before.1.2,
      ),
    )
