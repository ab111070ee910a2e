use Rattle.std.proofs.Common.{List, ℕ, [], ◌++◌, slice_set, set-set, ap, ◌∙◌}
use Rattle.std.specs.List.{flat_map}
use Rattle.std.proofs.lemmas.List.{get_or_default}
use Rattle.hg_defs.specs.declared.moves.Move.{Move}
use Rattle.hg_defs.specs.Incidence.{nets_of}
use Rattle.flow_pair.proofs.cut_nets.extend_list.Goals as goal

pub returns : goal.returns
returns c =
    let lists : List (List ℕ) = c.args.lists.now.items in
    let block = c.args.block in
    let list = c.into_vec-list.ensures ∙ c.replace.ensures.value ∙ c.index_mut.ensures.value
    ∙ get_or_default lists block c.index_mut.result.now [] c.requires.block in
    set-set lists block c.replace.new.dest c.from_vec.result
    ∙ ap (slice_set lists block) (c.from_vec.ensures ∙ c.in_ok-add_nets_of.ensures
    ∙ ap (λ xs. xs ++ flat_map (λ (m : Move). nets_of c.args.h.now m.vertex) c.args.moves.now) list)
