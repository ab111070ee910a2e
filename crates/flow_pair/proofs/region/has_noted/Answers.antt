use Rattle.std.proofs.Common.{◌≡◌, ◌∙◌, ◌+◌, ◌||◌, Bool, nat_eq, drop, slice_index, sym, ap}
use Rattle.std.specs.List.{list_any}
use Rattle.std.specs.Set.{is_member}
use Rattle.std.proofs.lemmas.List.{drop_more, drop_all}
use Rattle.flow_pair.proofs.DistinctLaws.{noted_told}
use Rattle.flow_pair.proofs.region.has_noted.Goals as goal

pub loop-e-preserved : goal.loop-e-preserved
loop-e-preserved c =
    let list = c.args.list.now in
    let nets = c.args.nets.now in
    let i = c.loop-e.e-index in
    let test = is_member nat_eq list in
    let told : test (slice_index nets i) ≡ c.is_kept.result =
    sym (c.is_kept.ensures ∙ noted_told c.args.spots.now list (slice_index nets i) c.requires.noted) in
    c.loop-e.invariant ∙ ap (list_any test) (drop_more nets i 0 c.loop-e-test.true)
    ∙ ap (λ (t : Bool). t || list_any test (drop (i + 1) nets)) (told ∙ c.if-is_kept.false)

pub returns-then-is_kept : goal.returns-then-is_kept
returns-then-is_kept c =
    let list = c.args.list.now in
    let nets = c.args.nets.now in
    let i = c.loop-e.e-index in
    let test = is_member nat_eq list in
    let told : test (slice_index nets i) ≡ c.is_kept.result =
    sym (c.is_kept.ensures ∙ noted_told c.args.spots.now list (slice_index nets i) c.requires.noted) in
    sym (c.loop-e.invariant ∙ ap (list_any test) (drop_more nets i 0 c.loop-e-test.true)
    ∙ ap (λ (t : Bool). t || list_any test (drop (i + 1) nets)) (told ∙ c.if-is_kept.true))

pub returns : goal.returns
returns c =
    let test = is_member nat_eq c.args.list.now in
    sym (c.loop-e.invariant ∙ ap (list_any test) (drop_all c.loop-e.e-index c.args.nets.now c.loop-e-test.false))
