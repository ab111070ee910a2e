-- Each key, one after the other.
use Rattle.std.proofs.Common.{◌≡◌, ◌≢◌, ℕ, ◌+◌, ◌<◌, Bool, true, false, true≢false, IsTrue, ◌↔◌, List, [], ◌∷◌, ◌++◌, length, map}
use Rattle.std.proofs.Common.{get_or, slice_index, slice_index_or, All, refl, sym, ap, ap₂, ◌∙◌, subst, arith}
use mir.Val.{bool_byte}
use Rattle.std.proofs.lemmas.List.{length_push, length-replicate, get_or-replicate, take_all}
use Rattle.hg_defs.specs.Hypergraph.{Net, Hyper, net_count}
use Rattle.contract_nets.specs.declared.ledger.TheConstants.{DROPPED}
use Rattle.contract_nets.specs.Merging.{merged, HasPinsAt}
use Rattle.contract_nets.specs.Keys.{Key, net_of_key}
use Rattle.contract_nets.specs.Cuts.{IsEnd}
use Rattle.contract_nets.proofs.MergeLaws.{pins, IsMerging, IsMerging-start, IsMerging-more, IsMerging-finished, place_of_next, count_made, finished, heavier}
use Rattle.contract_nets.proofs.MergeLaws.{IsPlacing-start, IsPlacing-more}
use Rattle.contract_nets.proofs.merging.write_places.Goals as goal

pub loop-i-init : goal.loop-i-init
loop-i-init c =
    let nets = c.args.nets.value in
    let keys = c.args.keys.now in (
      [],
      0,
      IsMerging-start nets keys,
      refl,
      IsPlacing-start nets keys (map (λ e. e.pins) (merged (map (net_of_key nets) keys))) c.args.places.now
          (λ e l. ap (λ (ps : List ℕ). slice_index ps e) c.requires.places ∙ get_or-replicate (net_count nets) e DROPPED 0 l),
    )

next_made : (nets : Hyper) (keys : List Key) (i : ℕ) (made : List Net) (weight : ℕ) → IsMerging nets keys i made weight → i < length keys → (end : Bool) →
    IsTrue end ↔ IsEnd nets keys i → (x : List Net) × (w : ℕ) × IsMerging nets keys (i + 1) x w × (length x ≡ length made + bool_byte end)
next_made nets keys i made weight m low true is = (
  made ++ finished nets keys i made weight m low ∷ [],
  0,
  IsMerging-finished nets keys i made weight m low (is.0 refl),
  length_push made (finished nets keys i made weight m low),
)
next_made nets keys i made weight m low false is = (
  made,
  heavier nets keys i made weight m low,
  IsMerging-more nets keys i made weight m low (λ end. true≢false (sym (is.1 end))),
  omega arith,
)

pub loop-i-preserved : goal.loop-i-preserved
loop-i-preserved c =
    let nets = c.args.nets.value in
    let keys = c.args.keys.now in
    let i = c.loop-i.i in
    let low = c.loop-i-test.true in
    let place = c.loop-i.place in
    let lists = map (λ (e : Net). e.pins) (merged (map (net_of_key nets) keys)) in
    let inv = c.loop-i.invariant in
    let at = inv.3 in
    let there = place_of_next nets keys i inv.0 inv.1 inv.2 low in
    let few = count_made nets keys i inv.0 inv.1 inv.2 low c.requires.limits in
    let next = next_made nets keys i inv.0 inv.1 inv.2 low (slice_index_or c.args.ends.now i false) (c.requires.ends.each i low) in (
      next.0,
      next.1,
      next.2,
      ap₂ (λ (m n : ℕ). m + n) at c.from-place.ensures ∙ sym next.3,
      IsPlacing-more nets keys lists i c.loop-i.places inv.4 low (c.requires.keys i (0, 0) low) place
          (subst (λ (n : ℕ). HasPinsAt lists n (pins nets (get_or keys i (0, 0)))) (sym at) there) (omega arith)
          (c.loop-i.auto.places ∙ ap length c.requires.places ∙ length-replicate (net_count nets) DROPPED),
    )

pub returns-clause-all : goal.returns-clause-all
returns-clause-all c =
    subst (All (λ (key : Key). slice_index c.loop-i.places key.1 ≢ DROPPED)) (take_all c.loop-i.i c.args.keys.now c.loop-i-test.false)
    c.loop-i.invariant.4.all
