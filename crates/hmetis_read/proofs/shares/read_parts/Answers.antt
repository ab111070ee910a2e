-- One part more, and all of them.
use Rattle.std.proofs.Common.{◌≡◌, ◌+◌, ◌++◌, suc, ℕ, List, length, sym, ◌∙◌, ap, subst, arith}
use Rattle.hg_defs.specs.Hypergraph.{Net, Hyper}
use Rattle.hg_text.specs.Kept.{field_lists}
use Rattle.hmetis_read.specs.Shares.{SpellsNets, with_nets, part_of}
use Rattle.hmetis_read.specs.declared.shares.ReadNets.{ReadNets}
use Rattle.hmetis_read.proofs.ShareLaws.{are_light, lists_before, lists_all, part_at, spells_joined}
use Rattle.hmetis_read.proofs.shares.read_parts.Goals as goal

pub add_part-requires-clause-others : goal.add_part-requires-clause-others
add_part-requires-clause-others g c =
    are_light c.args.shape.now (lists_before c.args.text.now c.in-Ok.cuts.items c.loop-j.j) c.loop-j.hyper.nets c.loop-j.pins c.loop-j.invariant.spells

pub add_part-requires-clause-part : goal.add_part-requires-clause-part
add_part-requires-clause-part g c =
    let shape = c.args.shape.now in
    let lists = field_lists (part_of c.args.text.now c.deref.result.now c.loop-j.j) in
    let part = c.index.result.now in
    let long = c.len-j-end.ensures in
    are_light shape lists c.in-Some.part.nets c.in-Some.part.pins
    (part_at c.in-Ok-fill_parts.parts.items part c.loop-j.j c.in-Some.part (λ (one : ReadNets). SpellsNets shape lists one.nets one.pins) c.index.ensures
    c.in-Some.is (c.in-Ok-fill_parts.ensures.each c.loop-j.j part (omega arith)))

pub loop-j-preserved : goal.loop-j-preserved
loop-j-preserved g c =
    let shape = c.args.shape.now in
    let text : List ℕ = c.args.text.now in
    let cuts : List ℕ = c.in-Ok.cuts.items in
    let j : ℕ = c.loop-j.j in
    let lists = field_lists (part_of text c.deref.result.now j) in
    let part = c.index.result.now in
    let long = c.len-j-end.ensures in
    let spells =
    part_at c.in-Ok-fill_parts.parts.items part j c.in-Some.part (λ (one : ReadNets). SpellsNets shape lists one.nets one.pins) c.index.ensures
    c.in-Some.is (c.in-Ok-fill_parts.ensures.each j part (omega arith))
    in
    let more : SpellsNets shape (field_lists (part_of text cuts j)) c.in-Some.part.nets c.in-Some.part.pins =
    subst (λ (places : List ℕ). SpellsNets shape (field_lists (part_of text places j)) c.in-Some.part.nets c.in-Some.part.pins) c.deref.ensures.value spells
    in
    let whole : c.add_part.new.hyper ≡ with_nets shape (c.loop-j.hyper.nets ++ c.in-Some.part.nets) = c.in_ok-pins.ensures.hyper in
    let nets : c.add_part.new.hyper.nets ≡ c.loop-j.hyper.nets ++ c.in-Some.part.nets = ap (λ (h : Hyper). h.nets) whole in
    let next : suc j ≡ j + 1 = omega arith in
    let count = c.in_ok-pins.ensures.count in
    let size = ap length nets in
    record {
      spells = subst (λ (n : ℕ). SpellsNets shape (lists_before text cuts n) c.add_part.new.hyper.nets c.in_ok-pins.pins) next
          (subst (λ (es : List Net). SpellsNets shape (lists_before text cuts (suc j)) es c.in_ok-pins.pins) (sym nets)
          (spells_joined shape (lists_before text cuts j) (field_lists (part_of text cuts j)) c.loop-j.hyper.nets c.in-Some.part.nets c.loop-j.pins
          c.in-Some.part.pins c.in_ok-pins.pins c.loop-j.invariant.spells more c.in_ok-pins.ensures.pins c.in_ok-pins.ensures.limit (omega arith)));
      others = whole ∙ ap (with_nets shape) (sym nets);
    }

pub returns-clause-nets : goal.returns-clause-nets
returns-clause-nets g c =
    let shape = c.args.shape.now in
    let count = c.in-Ok-fill_parts.ensures.count in
    let end = c.loop-j.auto.j-end in
    let all = c.len-j-end.ensures in
    let places = ap length c.deref.ensures.value in
    let spells : SpellsNets shape (field_lists c.args.text.now) c.loop-j.hyper.nets c.loop-j.pins =
    subst (λ (fs : List (List (List ℕ))). SpellsNets shape fs c.loop-j.hyper.nets c.loop-j.pins)
    (lists_all c.args.text.now c.in-Ok.cuts.items c.in-Ok.ensures c.loop-j.j (omega arith)) c.loop-j.invariant.spells
    in
    subst (λ (pins : ℕ). SpellsNets shape (field_lists c.args.text.now) c.loop-j.hyper.nets pins) (sym spells.spelt) spells
