use Rattle.std.proofs.Common.{◌≡◌, List, ℕ, length, pos, ◌-ℤ◌, subst, sym, ap, ◌∙◌, arith}
use Rattle.hg_defs.specs.Hypergraph.{Hyper}
use Rattle.hg_defs.specs.Partition.{IsPartition}
use Rattle.hg_defs.specs.Cost.{cost}
use Rattle.hg_defs.specs.Replay.{undone, replay_first}
use Rattle.rollback_prefix.specs.Steps.{StartFrom}
use Rattle.rollback_prefix.proofs.SavingLaws.{written}
use Rattle.rollback_prefix.proofs.UndoLaws.{undone_partition, starts_from, prefix_left_by_part}
use Rattle.rollback_prefix.proofs.prefix.keep_best.Goals as goal

pub recalculate-requires-clause-partition : goal.recalculate-requires-clause-partition
recalculate-requires-clause-partition g c κs within =
    let p = c.args.p.now in
    let whole = subst (λ (x : Hyper). IsPartition x p.k p.blocks) c.requires.belongs c.blocks-2.ensures.parted.partition in
    let long : length c.undo_in_lists.new.blocks ≡ c.in_ok-before.before.len = omega arith in
    let before = c.as_slice.ensures.value ∙ written c.in_ok-before.before.len c.undo_in_lists.new.blocks c.in_ok-before.before.items long ∙
    c.undo_in_lists.ensures.blocks
    ∙ ap (λ (q : List ℕ). undone q c.args.moves.now) (c.as_mut_slice.ensures.value ∙ c.in_ok-before.ensures.items ∙ c.blocks-2.ensures.value) in
    subst (λ k. IsPartition c.args.h.now k c.as_slice.result.now) (sym c.k.ensures) (subst (λ (xs : List ℕ). IsPartition c.args.h.now p.k xs) (sym before)
    (undone_partition c.args.h.now p.k p.blocks c.args.moves.now whole c.requires.moves))

pub recalculate-requires-clause-moves : goal.recalculate-requires-clause-moves
recalculate-requires-clause-moves g c κs within =
    let p = c.args.p.now in
    let whole = subst (λ (x : Hyper). IsPartition x p.k p.blocks) c.requires.belongs c.blocks-2.ensures.parted.partition in
    let long : length c.undo_in_lists.new.blocks ≡ c.in_ok-before.before.len = omega arith in
    let before = c.as_slice.ensures.value ∙ written c.in_ok-before.before.len c.undo_in_lists.new.blocks c.in_ok-before.before.items long ∙
    c.undo_in_lists.ensures.blocks
    ∙ ap (λ (q : List ℕ). undone q c.args.moves.now) (c.as_mut_slice.ensures.value ∙ c.in_ok-before.ensures.items ∙ c.blocks-2.ensures.value) in
    subst (λ k. StartFrom c.args.h.now k c.as_slice.result.now c.args.moves.now) (sym c.k.ensures)
    (subst (λ (xs : List ℕ). StartFrom c.args.h.now p.k xs c.args.moves.now) (sym before) (starts_from c.args.h.now p.k p.blocks c.args.moves.now whole
    c.requires.moves))

pub best_kept-kept-requires-clause-partition : goal.best_kept-kept-requires-clause-partition
best_kept-kept-requires-clause-partition g c =
    let p = c.args.p.now in
    let whole = subst (λ (x : Hyper). IsPartition x p.k p.blocks) c.requires.belongs c.blocks-2.ensures.parted.partition in
    let long : length c.undo_in_lists.new.blocks ≡ c.in_ok-before.before.len = omega arith in
    let before = c.as_slice-2.ensures.value ∙ written c.in_ok-before.before.len c.undo_in_lists.new.blocks c.in_ok-before.before.items long ∙
    c.undo_in_lists.ensures.blocks
    ∙ ap (λ (q : List ℕ). undone q c.args.moves.now) (c.as_mut_slice.ensures.value ∙ c.in_ok-before.ensures.items ∙ c.blocks-2.ensures.value) in
    let k_is : length c.as_mut_slice-3.result.now ≡ p.k = let all = c.in_ok-loads.ensures.all in omega arith in
    subst (λ k. IsPartition c.args.h.now k c.as_slice-2.result.now) (sym k_is) (subst (λ (xs : List ℕ). IsPartition c.args.h.now p.k xs) (sym before)
    (undone_partition c.args.h.now p.k p.blocks c.args.moves.now whole c.requires.moves))

pub best_kept-kept-requires-clause-moves : goal.best_kept-kept-requires-clause-moves
best_kept-kept-requires-clause-moves g c =
    let p = c.args.p.now in
    let whole = subst (λ (x : Hyper). IsPartition x p.k p.blocks) c.requires.belongs c.blocks-2.ensures.parted.partition in
    let long : length c.undo_in_lists.new.blocks ≡ c.in_ok-before.before.len = omega arith in
    let before = c.as_slice-2.ensures.value ∙ written c.in_ok-before.before.len c.undo_in_lists.new.blocks c.in_ok-before.before.items long ∙
    c.undo_in_lists.ensures.blocks
    ∙ ap (λ (q : List ℕ). undone q c.args.moves.now) (c.as_mut_slice.ensures.value ∙ c.in_ok-before.ensures.items ∙ c.blocks-2.ensures.value) in
    let k_is : length c.as_mut_slice-3.result.now ≡ p.k = let all = c.in_ok-loads.ensures.all in omega arith in
    subst (λ k. StartFrom c.args.h.now k c.as_slice-2.result.now c.args.moves.now) (sym k_is)
    (subst (λ (xs : List ℕ). StartFrom c.args.h.now p.k xs c.args.moves.now) (sym before) (starts_from c.args.h.now p.k p.blocks c.args.moves.now whole
    c.requires.moves))

pub slice_bounds-undo-count : goal.slice_bounds-undo-count
slice_bounds-undo-count g c = c.best_kept-kept.ensures.within

pub returns-clause-partition : goal.returns-clause-partition
returns-clause-partition g c =
    let p = c.args.p.now in
    let whole = subst (λ (x : Hyper). IsPartition x p.k p.blocks) c.requires.belongs c.blocks-2.ensures.parted.partition in
    let left = prefix_left_by_part c.args.h.now p.k p.blocks c.args.moves.now c.best_kept-kept.result.length c.best_kept-kept.ensures.within whole
    c.requires.moves in
    c.in_ok-undo.ensures.ok ∙ ap (λ (q : List ℕ). record p { blocks = q }) left

pub returns-clause-saved : goal.returns-clause-saved
returns-clause-saved g c =
    let p = c.args.p.now in
    let long : length c.undo_in_lists.new.blocks ≡ c.in_ok-before.before.len = omega arith in
    let before = c.as_slice-2.ensures.value ∙ written c.in_ok-before.before.len c.undo_in_lists.new.blocks c.in_ok-before.before.items long ∙
    c.undo_in_lists.ensures.blocks
    ∙ ap (λ (q : List ℕ). undone q c.args.moves.now) (c.as_mut_slice.ensures.value ∙ c.in_ok-before.ensures.items ∙ c.blocks-2.ensures.value) in
    c.best_kept-kept.ensures.saved
    ∙ ap (λ (q : List ℕ). pos (cost c.args.h.now q) -ℤ pos (cost c.args.h.now (replay_first q c.args.moves.now c.best_kept-kept.result.length))) before
