use Rattle.std.proofs.Common.{rules, ◌≡◌, ◌<◌, ◌∙◌, sym, subst, arith}
use Rattle.round_log.specs.Rounds.{side}
use Rattle.flow_pair.proofs.NetLaws.{touching_turned}
use Rattle.hg_defs.specs.Hypergraph.{IsHypergraph}
use Rattle.flow_pair.proofs.EndLaws.{sides-below}
use Rattle.flow_pair.proofs.region.form_region_with.Goals as goal

pub join_mut-firsts-requires-after_bounds : goal.join_mut-firsts-requires-after_bounds
join_mut-firsts-requires-after_bounds g c κs within =
    let h = c.args.h.now in
    let p = c.args.p.now in
    let r = c.requires in
    let low : c.args.a < p.k = (let order = r.order in let blocks = r.blocks in omega arith) in
    let turned = r.nets ∙ sym (touching_turned h p.blocks c.args.a c.args.b) in
    ((r.belongs, (r.fits, (r.blocks, (r.nets, r.least)))), (r.belongs, (r.fits, (low, (turned, r.least)))))

pub joined-requires : goal.joined-requires
joined-requires g c =
    let h = c.args.h.now in
    let p = c.args.p.now in
    let sound = subst IsHypergraph c.requires.belongs c.blocks-blocks.ensures.parted.sound in
    let firsts : c.in_ok-firsts.field-0.items ≡ side h p.limit p.blocks c.args.a c.args.b = search rules in
    let seconds : c.in_ok-seconds.field-0.items ≡ side h p.limit p.blocks c.args.b c.args.a = search rules in
    sides-below h p.limit p.blocks c.args.a c.args.b sound c.in_ok-firsts.field-0.items c.in_ok-seconds.field-0.items firsts seconds
