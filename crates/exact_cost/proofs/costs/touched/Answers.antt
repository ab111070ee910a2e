-- One pin more: its block is counted where it is new.
use Rattle.std.proofs.Common.{◌≡◌, ℕ, ◌+◌, ◌<◌, Bool, true, false, not, if◌then◌else◌, List, []}
use Rattle.std.proofs.Common.{◌∷◌, ◌++◌, length, map, take, slice_index, refl, sym, ap}
use Rattle.std.proofs.Common.{◌∙◌, subst, arith}
use Rattle.std.proofs.lemmas.List.{map_more}
use Rattle.hg_defs.specs.Hypergraph.{vertex_count, net_of}
use Rattle.hg_base.specs.BlockSet.{has}
use Rattle.hg_defs.specs.Partition.{block_of}
use Rattle.exact_cost.specs.Carrying.{carried_down}
use Rattle.exact_cost.proofs.CarryingLaws.{block_carried_down}
use Rattle.exact_cost.proofs.SeenLemmas.{AreSeen, seen-none, seen-more}
use Rattle.exact_cost.proofs.costs.touched.Goals as goal
use mir.Val.{bool_byte}

byte_is : (t : Bool) → bool_byte t ≡ (if t then 1 else 0)
byte_is true = refl
byte_is false = refl

pub pins-init : goal.pins-init
pins-init c = seen-none _ c.new-seen.ensures

same : (seen : List ℕ) (count count' index : ℕ) (blocks blocks' : List ℕ) → count ≡ count' → blocks ≡ blocks' → AreSeen seen count index blocks →
    AreSeen seen count' index blocks'
same seen count count' index blocks blocks' f b are =
    subst (λ n. AreSeen seen n index blocks') f (subst (λ bs. AreSeen seen count index bs) b are)

pub insert-requires : goal.insert-requires
insert-requires c =
    let v = slice_index c.pins-v-items.result.now c.pins.v-index in
    let small = c.requires.leads.small v (c.pins-v-items.ensures.below c.pins.v-index 0 (omega arith)) in
    omega (arith, small, c.block_below.ensures)

pub pins-preserved : goal.pins-preserved
pins-preserved c =
    let h = c.args.h.now in
    let i = c.pins.v-index in
    let v = slice_index c.pins-v-items.result.now i in
    let q = carried_down (vertex_count h) c.args.maps.now c.args.blocks.now in
    let pins = (net_of h c.args.e).pins in
    let x = c.block_below.result in
    let inside : v < vertex_count h = c.pins-v-items.ensures.below i 0 (omega arith) in
    let is : x ≡ block_of q (slice_index pins i) =
    c.block_below.ensures
    ∙ sym (block_carried_down (vertex_count h) c.args.maps.now c.args.blocks.now v inside)
    ∙ ap (λ (ys : List ℕ). block_of q (slice_index ys i)) c.pins-v-items.ensures.value in
    let low : i < length pins = (let n = ap length c.pins-v-items.ensures.value in omega arith) in
    let more = map_more (block_of q) pins i 0 low in
    same _ (c.pins.count + (if not (has c.pins.seen x) then 1 else 0)) (c.pins.count + c.from-count.result) (i + 1)
    (map (block_of q) (take i pins) ++ x ∷ []) (map (block_of q) (take (i + 1) pins))
    (ap (λ (n : ℕ). c.pins.count + n) (sym (c.from-count.ensures ∙ ap bool_byte c.insert.ensures.new ∙ byte_is (not (has c.pins.seen x)))))
    (ap (λ (b : ℕ). map (block_of q) (take i pins) ++ b ∷ []) is ∙ sym more)
    (seen-more c.pins.seen _ c.pins.count i x (map (block_of q) (take i pins)) c.insert.ensures.joined c.pins.invariant)
