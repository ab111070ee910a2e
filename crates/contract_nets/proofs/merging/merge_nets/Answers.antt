-- One part more, and all of them.
use Rattle.std.proofs.Common.{◌≡◌, ◌++◌, vec_len, List, [], ◌∷◌, Bool, length, sym, subst, ap, ap₂, ◌∙◌, arith}
use Rattle.std.proofs.lemmas.List.{map_push}
use Rattle.hg_defs.specs.Hypergraph.{Net}
use Rattle.contract_nets.specs.Nets.{all_nets}
use Rattle.contract_nets.specs.declared.merging.MergedPart.{MergedPart}
use Rattle.contract_nets.specs.Cuts.{AreEnds, AreCuts}
use Rattle.contract_nets.proofs.ImageLaws.{AreThere, AreThere-more, taken_all}
use Rattle.contract_nets.proofs.CutLaws.{joined_ends-push, nets_there, ends_there}
use Rattle.contract_nets.proofs.merging.merge_nets.Goals as goal

pub loop-part-preserved : goal.loop-part-preserved
loop-part-preserved g c =
    let old = c.loop-part.invariant in
    let one = c.in_ok-list.field-0 in (
      old.0 ++ one ∷ [],
      AreThere-more c.loop-part.yielded old.0 c.in-Some.part one old.1 c.in_ok-list.was,
      c.in_ok-push.ensures.items
          ∙ ap (λ (xs : List (List Net)). xs ++ one.nets ∷ []) old.2
          ∙ sym (map_push (λ (p : MergedPart). p.nets) old.0 one),
      c.in_ok-extend_from_slice.ensures.items
          ∙ ap₂ (λ (xs ys : List Bool). xs ++ ys) old.3 c.deref-in-loop-part.ensures.value
          ∙ sym (joined_ends-push old.0 one),
    )

pub returns-clause-nets : goal.returns-clause-nets
returns-clause-nets g c =
    let nets = c.args.nets.now in
    let keys = c.args.keys.now in
    let items = c.in_ok-part-items.part-items.items in
    let long : length items ≡ vec_len c.in_ok-part-items.part-items = omega arith in
    let all =
    taken_all c.into_iter-part-iterator.result c.loop-part.yielded c.loop-part.part-iterator c.loop-part.yielded_by
    (let s = c.in-None.ensures.steps in omega arith)
    in
    let there =
    subst (λ xs. AreThere xs c.loop-part.invariant.0) (sym all ∙ c.into_iter-part-iterator.ensures.into_iter_gives.0) c.loop-part.invariant.1
    in
    ap all_nets c.loop-part.invariant.2
    ∙ nets_there nets keys c.deref.result.now (subst (AreCuts nets keys (length keys)) (sym c.deref.ensures.value) c.in_ok-cuts.ensures) items
    c.loop-part.invariant.0 there
    (let count = c.in_ok-part-items.ensures.count in omega arith)
    (λ j d l. c.in_ok-part-items.ensures.each j d (omega arith))

pub returns-clause-ends : goal.returns-clause-ends
returns-clause-ends g c =
    let nets = c.args.nets.now in
    let keys = c.args.keys.now in
    let items = c.in_ok-part-items.part-items.items in
    let long : length items ≡ vec_len c.in_ok-part-items.part-items = omega arith in
    let all =
    taken_all c.into_iter-part-iterator.result c.loop-part.yielded c.loop-part.part-iterator c.loop-part.yielded_by
    (let s = c.in-None.ensures.steps in omega arith)
    in
    let there =
    subst (λ xs. AreThere xs c.loop-part.invariant.0) (sym all ∙ c.into_iter-part-iterator.ensures.into_iter_gives.0) c.loop-part.invariant.1
    in
    subst (AreEnds nets keys) (sym c.loop-part.invariant.3)
    (ends_there nets keys c.deref.result.now (subst (AreCuts nets keys (length keys)) (sym c.deref.ensures.value) c.in_ok-cuts.ensures) items
    c.loop-part.invariant.0 there
    (let count = c.in_ok-part-items.ensures.count in omega arith)
    (λ j d l. c.in_ok-part-items.ensures.each j d (omega arith)))
