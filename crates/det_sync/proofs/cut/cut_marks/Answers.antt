use Rattle.std.proofs.Common.{◌∙◌, false, ap, sym, subst, arith}
use Rattle.det_sync.specs.CutNets.{is_cut, AreCutMarks}
use Rattle.det_sync.proofs.CutLaws.{written}
use Rattle.det_sync.proofs.cut.cut_marks.Goals as goal

pub each_chunk-requires-clause-accepts : goal.each_chunk-requires-clause-accepts
each_chunk-requires-clause-accepts g c κs within first part chunk =
    let inside = chunk.in_bounds in
    let size = c.as_mut_slice.ensures.len in
    let all = c.in_ok-marks.ensures.len in
    let many = c.nets.ensures.count in
    (omega arith, c.requires.belongs)

pub returns : goal.returns
returns g c =
    let p = c.args.p.now in
    let h = c.args.h.now in
    let marks = c.each_chunk.new.items in
    let size = c.as_mut_slice.ensures.len in
    let all = c.in_ok-marks.ensures.len in
    let many = c.nets.ensures.count in
    subst (AreCutMarks h p.blocks) (sym (written c.in_ok-marks.marks.len marks c.in_ok-marks.marks.items (omega arith)))
    (record {
      all = omega arith;
      each = λ e low.
          let place = (c.each_chunk.ensures.by_index e false (omega arith)).1 in
          sym place.new_element ∙ place.call place.offset place.offset_in_chunk ∙ ap (is_cut h p.blocks) place.start_plus_offset;
    })
