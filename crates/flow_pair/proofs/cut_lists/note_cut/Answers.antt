use Rattle.std.proofs.Common.{List, ℕ, [], All, Contains, slice_index_or, sym, ◌∙◌, subst}
use Rattle.hg_defs.specs.Hypergraph.{net_of}
use Rattle.hg_defs.specs.Partition.{block_of}
use Rattle.flow_pair.proofs.CutNetLaws.{noted_none, noted_all}
use Rattle.flow_pair.proofs.cut_lists.note_cut.Goals as goal

pub returns-then-not-is_cut-clause-noted : goal.returns-then-not-is_cut-clause-noted
returns-then-not-is_cut-clause-noted c =
    noted_none c.args.h.now c.args.p.now.blocks c.args.e c.args.lists.now.items (sym c.is_cut.ensures ∙ c.if-not-is_cut.true)

pub returns-clause-noted : goal.returns-clause-noted
returns-clause-noted c =
    let lists : List (List ℕ) = c.note_all.new.lists.items in
    noted_all c.args.h.now c.args.p.now.blocks c.args.e lists
    (subst (λ (bs : List ℕ). All (λ v. Contains (slice_index_or lists (block_of bs v) []) c.args.e) (net_of c.args.h.now c.args.e).pins)
    c.blocks-2.ensures.value
    (subst (All (λ v. Contains (slice_index_or lists (block_of c.blocks-2.result.now v) []) c.args.e)) c.pins.ensures.value
    c.in_ok-note_all.ensures.noted))
