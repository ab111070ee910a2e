-- The table has the blocks of its level.
use Rattle.std.proofs.Common.{◌≡◌, ◌≢◌, ℕ, ◌-◌, ◌<◌, ◌^◌, List, [], length, take, drop, sym, ap, ◌∙◌, subst, arith}
use Rattle.std.proofs.lemmas.List.{get_or_default}
use Rattle.hg_defs.specs.Levels.{map_of}
use Rattle.exact_cost.specs.Carrying.{LeadsInto}
use Rattle.trace_text.proofs.CarryingLemmas.{leads_from, on_first, on_table, all_lead, cost_from_level}
use Rattle.trace_text.proofs.first.first_cost.Goals as goal

pub cost_below-requires-after_bounds : goal.cost_below-requires-after_bounds
cost_below-requires-after_bounds g c κs within =
    let h = c.args.h.now in
    let t = c.args.trace.now in
    let i = c.small_level-level.result in
    let first = c.slice-first.result.now in
    all_lead h t i c.slice-maps.result.now first c.requires c.slice-maps.ensures (on_first h t i first c.requires c.if-level-trace.true c.slice-first.ensures)

pub returns-then-level-trace : goal.returns-then-level-trace
returns-then-level-trace g c =
    let h = c.args.h.now in
    let t = c.args.trace.now in
    let i = c.small_level-level.result in
    let first = c.slice-first.result.now in
    c.cost_below.ensures.value
    ∙ cost_from_level h t i c.slice-maps.result.now first c.requires c.slice-maps.ensures
    (on_first h t i first c.requires c.if-level-trace.true c.slice-first.ensures)

pub write_blocks-requires-clause-leads : goal.write_blocks-requires-clause-leads
write_blocks-requires-clause-leads g c =
    let t = c.args.trace.now in
    let i = c.small_level-level.result in
    let start = c.requires.start in
    let within = c.small_level-level.ensures.within in
    let apart : i ≢ t.start = c.if-level-trace.false in
    let low : i < t.start = omega arith in
    let maps = c.slice-maps.ensures in
    let many = ap length maps in
    let here : c.slice-vertices.result.now ≡ map_of t.maps i =
    c.slice-vertices.ensures ∙ c.index-maps-level.is ∙ get_or_default c.slice-maps.result.now i c.index-maps-level.result [] (omega arith)
    ∙ ap (λ (ms : List (List ℕ)). map_of ms i) maps in
    λ v inside. subst (λ (ms : List (List ℕ)). LeadsInto (take (t.start - i) (drop i ms)) c.slice-first.result.now v) (sym maps)
    (subst (λ (p : List ℕ). LeadsInto (take (t.start - i) (drop i t.maps)) p v) (sym c.slice-first.ensures)
    (leads_from c.args.h.now t i v c.requires low (subst (λ (m : List ℕ). v < length m) here inside)))

pub cost_below-requires-2-after_bounds : goal.cost_below-requires-2-after_bounds
cost_below-requires-2-after_bounds g c κs within =
    let h = c.args.h.now in
    let t = c.args.trace.now in
    let i = c.small_level-level.result in
    let start = c.requires.start in
    let most = c.small_level-level.ensures.within in
    let apart : i ≢ t.start = c.if-level-trace.false in
    let low : i < t.start = omega arith in
    let maps = c.slice-maps.ensures in
    let many = ap length maps in
    let here : c.slice-vertices.result.now ≡ map_of t.maps i =
    c.slice-vertices.ensures ∙ c.index-maps-level.is ∙ get_or_default c.slice-maps.result.now i c.index-maps-level.result [] (omega arith)
    ∙ ap (λ (ms : List (List ℕ)). map_of ms i) maps in
    let few = c.small_level-level.ensures.few low in
    let same = ap length here in
    let table = c.write_blocks.new.table in
    let all : length table ≡ 2 ^ 18 = c.write_blocks.ensures.count in
    all_lead h t i c.slice-maps.result.now _ c.requires maps
    (on_table h t i c.slice-maps.result.now c.slice-first.result.now c.slice-vertices.result.now table c.requires low maps c.slice-first.ensures here
    (omega arith) c.write_blocks.ensures.blocks)

pub returns : goal.returns
returns g c =
    let h = c.args.h.now in
    let t = c.args.trace.now in
    let i = c.small_level-level.result in
    let start = c.requires.start in
    let most = c.small_level-level.ensures.within in
    let apart : i ≢ t.start = c.if-level-trace.false in
    let low : i < t.start = omega arith in
    let maps = c.slice-maps.ensures in
    let many = ap length maps in
    let here : c.slice-vertices.result.now ≡ map_of t.maps i =
    c.slice-vertices.ensures ∙ c.index-maps-level.is ∙ get_or_default c.slice-maps.result.now i c.index-maps-level.result [] (omega arith)
    ∙ ap (λ (ms : List (List ℕ)). map_of ms i) maps in
    let few = c.small_level-level.ensures.few low in
    let same = ap length here in
    let table = c.write_blocks.new.table in
    let all : length table ≡ 2 ^ 18 = c.write_blocks.ensures.count in
    c.cost_below-2.ensures.value
    ∙ cost_from_level h t i c.slice-maps.result.now _ c.requires maps
    (on_table h t i c.slice-maps.result.now c.slice-first.result.now c.slice-vertices.result.now table c.requires low maps c.slice-first.ensures here
    (omega arith) c.write_blocks.ensures.blocks)
