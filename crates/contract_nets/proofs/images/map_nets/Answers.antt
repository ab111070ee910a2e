-- One part more, and all of them.
use Rattle.std.proofs.Common.{◌≡◌, ◌≤◌, ◌*◌, List, ◌++◌, map, vec_len, [], ◌∷◌, length, sym, subst, ap, ◌∙◌, arith}
use Rattle.std.proofs.lemmas.List.{map_push}
use Rattle.hg_defs.specs.Hypergraph.{net_count}
use Rattle.contract_nets.specs.declared.images.Mapped.{Mapped}
use Rattle.contract_nets.specs.Ranges.{all_keys}
use Rattle.contract_nets.specs.Images.{Lists, ArePartsOf}
use Rattle.contract_nets.proofs.ImageLaws.{AreThere, AreThere-more, taken_all}
use Rattle.contract_nets.proofs.MappedLaws.{ArePartsOf-all, joined_all}
use Rattle.contract_nets.proofs.images.map_nets.Goals as goal

pub loop-mapped-preserved : goal.loop-mapped-preserved
loop-mapped-preserved g c =
    let old = c.loop-mapped.invariant in
    let one = c.in_ok-part.field-0 in (
      old.0 ++ one ∷ [],
      AreThere-more c.loop-mapped.yielded old.0 c.in-Some.mapped one old.1 c.in_ok-part.was,
      c.in_ok-push-2.ensures.items
          ∙ ap (λ (xs : List Lists). xs ++ one.part ∷ []) old.2
          ∙ sym (map_push (λ (m : Mapped). m.part) old.0 one),
      c.in_ok-push.ensures.items
          ∙ ap (λ xs. xs ++ one.keys ∷ []) old.3
          ∙ sym (map_push (λ (m : Mapped). m.keys) old.0 one),
    )

pub invariant_of-images : goal.invariant_of-images
invariant_of-images g c =
    let h = c.args.h.now in
    let cs = c.args.clusters.now in
    let size = c.max-size.result in
    let items = c.in_ok-mapped-items.mapped-items.items in
    let long : length items ≡ vec_len c.in_ok-mapped-items.mapped-items = omega arith in
    let all =
    taken_all c.into_iter-mapped-iterator.result c.loop-mapped.yielded c.loop-mapped.mapped-iterator c.loop-mapped.yielded_by
    (let s = c.in-None.ensures.steps in omega arith)
    in
    let there =
    subst (λ xs. AreThere xs c.loop-mapped.invariant.0) (sym all ∙ c.into_iter-mapped-iterator.ensures.into_iter_gives.0) c.loop-mapped.invariant.1
    in
    subst (λ x. ArePartsOf h x size c.loop-mapped.parts.items) (sym (ap (λ x. x.now) c.of.ensures))
    (subst (ArePartsOf h cs size) (sym c.loop-mapped.invariant.2)
    (ArePartsOf-all h cs size items c.loop-mapped.invariant.0 there
    (λ j d l. c.in_ok-mapped-items.ensures.each j d (omega arith))
    c.requires.vertices c.requires.few (omega arith) (subst (λ n. net_count h ≤ n * size) (sym long) c.in_ok-mapped-items.ensures.all)))

pub returns-clause-keys : goal.returns-clause-keys
returns-clause-keys g c =
    let h = c.args.h.now in
    let cs = c.args.clusters.now in
    let size = c.max-size.result in
    let items = c.in_ok-mapped-items.mapped-items.items in
    let long : length items ≡ vec_len c.in_ok-mapped-items.mapped-items = omega arith in
    let all =
    taken_all c.into_iter-mapped-iterator.result c.loop-mapped.yielded c.loop-mapped.mapped-iterator c.loop-mapped.yielded_by
    (let s = c.in-None.ensures.steps in omega arith)
    in
    let there =
    subst (λ xs. AreThere xs c.loop-mapped.invariant.0) (sym all ∙ c.into_iter-mapped-iterator.ensures.into_iter_gives.0) c.loop-mapped.invariant.1
    in
    ap (λ xs. all_keys (map (λ list. list.items) xs)) c.loop-mapped.invariant.3
    ∙ joined_all h cs size items c.loop-mapped.invariant.0 there
    (λ j d l. c.in_ok-mapped-items.ensures.each j d (omega arith))
    (subst (λ n. net_count h ≤ n * size) (sym long) c.in_ok-mapped-items.ensures.all)
