use Rattle.std.proofs.Common.{List, ℕ, [], ◌++◌, slice_set, set-set, ap, ◌∙◌}
use Rattle.std.proofs.lemmas.List.{get_or_default}
use Rattle.flow_pair.proofs.cut_lists.append_to.Goals as goal

pub returns : goal.returns
returns c =
    let lists : List (List ℕ) = c.args.lists.now.items in
    let block = c.args.block in
    let list = c.into_vec-list.ensures ∙ c.replace.ensures.value ∙ c.index_mut.ensures.value
    ∙ get_or_default lists block c.index_mut.result.now [] c.requires in
    set-set lists block c.replace.new.dest c.from_vec.result
    ∙ ap (slice_set lists block) (c.from_vec.ensures ∙ c.in_ok-extend_from_slice.ensures.items ∙ ap (λ xs. xs ++ c.args.nets.now) list)
