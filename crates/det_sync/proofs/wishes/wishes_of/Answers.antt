use Rattle.std.proofs.Common.{List, IsPermutation, sym, ◌∙◌, subst}
use Rattle.det_sync.specs.CutNets.{AreCutMarks}
use Rattle.det_sync.specs.Wishes.{Wish, AreWishes}
use Rattle.det_sync.proofs.CutLaws.{written}
use Rattle.det_sync.proofs.WishLaws.{sorted_wishes}
use Rattle.det_sync.proofs.wishes.wishes_of.Goals as goal

pub all_wishes-requires-clause-marks : goal.all_wishes-requires-clause-marks
all_wishes-requires-clause-marks g c κs within =
    subst (AreCutMarks c.args.h.now c.args.p.now.blocks) (sym c.as_slice.ensures.value) c.in_ok-marks.ensures

pub returns : goal.returns
returns g c =
    let h = c.args.h.now in
    let p = c.args.p.now in
    let ws = c.sort_wishes.new.wishes in
    let moved = subst (λ (xs : List Wish). IsPermutation xs ws) (c.as_mut_slice.ensures.value ∙ c.in_ok-wishes.ensures) c.sort_wishes.ensures.permutation in
    subst (AreWishes h p.k p.limit p.blocks)
    (sym (written c.in_ok-wishes.wishes.len ws c.in_ok-wishes.wishes.items (c.sort_wishes.ensures.len ∙ c.as_mut_slice.ensures.len)))
    (sorted_wishes h p.k p.limit p.blocks ws moved c.sort_wishes.ensures.sorted)
