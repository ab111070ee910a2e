-- The blocks of levels on the way of a partition that is carried down, and what it costs.
use Rattle.std.proofs.Common.{◌≡◌, ℕ, zero, suc, ◌+◌, ◌-◌, ◌<◌, ◌≤◌, List, [], ◌∷◌, ◌++◌}
use Rattle.std.proofs.Common.{length, take, drop, slice_index, refl, sym}
use Rattle.std.proofs.Common.{ap, ◌∙◌, subst, arith}
use Rattle.std.proofs.lemmas.List.{drop-take, length-take-le, get_or-take}
use Rattle.hg_defs.specs.Hypergraph.{Hyper, vertex_count}
use Rattle.hg_defs.specs.Cost.{cost}
use Rattle.hg_defs.specs.Clustering.{cluster_count}
use Rattle.hg_defs.specs.Levels.{level, map_of}
use Rattle.hg_defs.specs.LevelLaws.{AreContractible}
use Rattle.hg_defs.proofs.LevelLaws.{projection_keeps_cost, level_is_contraction, vertices_of_contraction}
use Rattle.round_log.specs.declared.record.Trace.{Trace}
use Rattle.exact_cost.specs.Carrying.{carried, LeadsInto, carried_down, AllLead}
use Rattle.exact_cost.proofs.CarryingLaws.{length-carried_down, block_carried_down, are_carried_down, carried_down-projected}
use Rattle.exact_cost.proofs.CarryingLaws.{take_suc, carried_below, leads_into}
use Rattle.trace_text.specs.Report.{IsPrintable, AreOnLevel, first_cost}

-- ---- the blocks of a level on the way

carried_split : (maps : List (List ℕ)) (i v : ℕ) → carried (drop i maps) (carried (take i maps) v) ≡ carried maps v
carried_split maps zero v = refl
carried_split [] (suc i) v = refl
carried_split (m ∷ maps) (suc i) v = carried_split maps i (slice_index m v)

take_take : (maps : List (List ℕ)) (i j : ℕ) → i ≤ j → take i (take j maps) ≡ take i maps
take_take maps zero j low = refl
take_take [] (suc i) zero low = absurd (omega arith)
take_take [] (suc i) (suc j) low = refl
take_take (m ∷ maps) (suc i) zero low = absurd (omega arith)
take_take (m ∷ maps) (suc i) (suc j) low = ap (λ ms. m ∷ ms) (take_take maps i j (omega arith))

-- how many vertices have an entry in the first list
abbrev entries : List (List ℕ) → List ℕ → ℕ
entries [] p = length p
entries (m ∷ maps) p = length m

-- each entry has one in the list behind
abbrev AreLinked : List (List ℕ) → List ℕ → Type 0
AreLinked [] p = Unit {0}
AreLinked (m ∷ maps) p = ((v : ℕ) → v < length m → slice_index m v < entries maps p) × AreLinked maps p

linked_push : (maps : List (List ℕ)) (c p : List ℕ) → AreLinked maps c → ((v : ℕ) → v < length c → slice_index c v < length p) →
    AreLinked (maps ++ c ∷ []) p
linked_push [] c p linked end = (end, tt)
linked_push (m ∷ []) c p linked end = (linked.0, (end, tt))
linked_push (m ∷ n ∷ maps) c p linked end = (linked.0, linked_push (n ∷ maps) c p linked.1 end)

linked_take : (h : Hyper) (maps : List (List ℕ)) (i : ℕ) (p : List ℕ) → i ≤ length maps → AreContractible h maps i →
    length p ≡ vertex_count (level h maps i) → AreLinked (take i maps) p
linked_take h maps zero p low good long = tt
linked_take h maps (suc i) p low good long =
    subst (λ (ms : List (List ℕ)). AreLinked ms p) (sym (take_suc maps i (omega arith)))
    (linked_push (take i maps) (map_of maps i) p
    (linked_take h maps i (map_of maps i) (omega arith) (λ j l. good j (omega arith)) (good i (omega arith)).full.vertices)
    (λ v inside. (
    let is = good i (omega arith) in
    let below : slice_index (map_of maps i) v < cluster_count (map_of maps i) = is.full.below v 0 inside in
    let m : vertex_count (level h maps (suc i)) ≡ cluster_count (map_of maps i) =
    ap vertex_count (level_is_contraction h maps i (omega arith)) ∙ vertices_of_contraction (level h maps i) (map_of maps i) (cluster_count (map_of maps i)) in
    omega arith)))

linked_leads : (maps : List (List ℕ)) (p : List ℕ) (v : ℕ) → AreLinked maps p → v < entries maps p → LeadsInto maps p v
linked_leads [] p v linked inside = inside
linked_leads (m ∷ maps) p v linked inside = (inside, linked_leads maps p (slice_index m v) linked.1 (linked.0 v inside))

linked_drop : (maps : List (List ℕ)) (p : List ℕ) (i : ℕ) → AreLinked maps p → AreLinked (drop i maps) p
linked_drop maps p zero linked = linked
linked_drop [] p (suc i) linked = linked
linked_drop (m ∷ maps) p (suc i) linked = linked_drop maps p i linked.1

entries_drop : (maps : List (List ℕ)) (p : List ℕ) (i : ℕ) → i < length maps → entries (drop i maps) p ≡ length (map_of maps i)
entries_drop [] p i low = absurd (omega arith)
entries_drop (m ∷ maps) p zero low = refl
entries_drop (m ∷ maps) p (suc i) low = entries_drop maps p i (omega arith)

map_of_take : (maps : List (List ℕ)) (i j : ℕ) → i < j → j ≤ length maps → map_of (take j maps) i ≡ map_of maps i
map_of_take [] i j low most = absurd (omega arith)
map_of_take (m ∷ maps) i zero low most = absurd (omega arith)
map_of_take (m ∷ maps) zero (suc j) low most = refl
map_of_take (m ∷ maps) (suc i) (suc j) low most = map_of_take maps i j (omega arith) (omega arith)

-- the clusterings from a level up to that of the first partition
above : (trace : Trace) (i : ℕ) → i ≤ trace.start →
    drop i (take trace.start trace.maps) ≡ take (trace.start - i) (drop i trace.maps)
above trace i low =
    ap (λ (j : ℕ). drop i (take j trace.maps)) (let e : trace.start ≡ i + (trace.start - i) = omega arith in e) ∙ drop-take i (trace.start - i) trace.maps

-- each of them has an entry for each vertex
pub leads_from : (h : Hyper) (trace : Trace) (i v : ℕ) → IsPrintable h 256 trace → i < trace.start → v < length (map_of trace.maps i) →
    LeadsInto (take (trace.start - i) (drop i trace.maps)) trace.first v
leads_from h trace i v printable low inside =
    let maps = take trace.start trace.maps in
    let most = printable.start in
    let long = length-take-le trace.start trace.maps most in
    let same = entries_drop maps trace.first i (omega arith) ∙ ap length (map_of_take trace.maps i trace.start low most) in
    subst (λ (ms : List (List ℕ)). LeadsInto ms trace.first v) (above trace i (omega arith))
    (linked_leads (drop i maps) trace.first v
    (linked_drop maps trace.first i (linked_take h trace.maps trace.start trace.first most printable.levels printable.first.vertices))
    (omega arith))

-- the first partition itself, and the blocks that are written into a table for a level below
pub on_first : (h : Hyper) (trace : Trace) (i : ℕ) (blocks : List ℕ) → IsPrintable h 256 trace → i ≡ trace.start → blocks ≡ trace.first →
    AreOnLevel h trace i blocks
on_first h trace i blocks printable last is =
    subst (λ (j : ℕ). AreOnLevel h trace j blocks) (sym last) (subst (λ (p : List ℕ). AreOnLevel h trace trace.start p) (sym is) (record {
      within = omega arith;
      all = printable.first.vertices;
      each = λ v low. ap (λ (ms : List (List ℕ)). slice_index trace.first (carried ms v)) (sym (drop_taken trace.maps trace.start printable.start));
    }))
  where
    drop_taken : (maps : List (List ℕ)) (j : ℕ) → j ≤ length maps → drop j (take j maps) ≡ []
    drop_taken maps zero low = refl
    drop_taken [] (suc j) low = refl
    drop_taken (m ∷ maps) (suc j) low = drop_taken maps j (omega arith)

pub on_table : (h : Hyper) (trace : Trace) (i : ℕ) (maps : List (List ℕ)) (first clusters table : List ℕ) → IsPrintable h 256 trace → i < trace.start →
    maps ≡ trace.maps → first ≡ trace.first → clusters ≡ map_of trace.maps i → length clusters ≤ length table →
    ((v : ℕ) → v < length clusters → slice_index table v ≡ slice_index first (carried (take (trace.start - i) (drop i maps)) v)) →
    AreOnLevel h trace i (take (length clusters) table)
on_table h trace i maps first clusters table printable low all is here room written = record {
  within = omega arith;
  all = long ∙ ap length here ∙ (printable.levels i low).full.vertices;
  each = λ v inside. (
      let in_list = below v inside in
      get_or-take (length clusters) table v 0 in_list
      ∙ written v in_list
      ∙ ap (λ (p : List ℕ). slice_index p (carried (take (trace.start - i) (drop i maps)) v)) is
      ∙ ap (λ (ms : List (List ℕ)). slice_index trace.first (carried (take (trace.start - i) (drop i ms)) v)) all
      ∙ ap (λ (ms : List (List ℕ)). slice_index trace.first (carried ms v)) (sym (above trace i (omega arith))));
}
  where
    long : length (take (length clusters) table) ≡ length clusters
    long = length-take-le (length clusters) table room

    below : (v : ℕ) → v < length (take (length clusters) table) → v < length clusters
    below v inside = subst (λ (n : ℕ). v < n) long inside

block-on_level : (h : Hyper) (trace : Trace) (i v : ℕ) (blocks : List ℕ) → IsPrintable h 256 trace → AreOnLevel h trace i blocks → v < vertex_count h →
    slice_index blocks (carried (take i trace.maps) v) ≡ slice_index trace.first (carried (take trace.start trace.maps) v)
block-on_level h trace i v blocks printable on inside =
    let maps = take trace.start trace.maps in
    let most = printable.start in
    let within = on.within in
    let below = carried_below h trace.maps i v (omega arith) (λ j l. printable.levels j (omega arith)) inside in
    let all = on.all in
    on.each (carried (take i trace.maps) v) (omega arith)
    ∙ ap (λ (ms : List (List ℕ)). slice_index trace.first (carried (drop i maps) (carried ms v))) (sym (take_take trace.maps i trace.start within))
    ∙ ap (slice_index trace.first) (carried_split maps i v)

leads_to_level : (h : Hyper) (trace : Trace) (i v : ℕ) (blocks : List ℕ) → IsPrintable h 256 trace → AreOnLevel h trace i blocks → v < vertex_count h →
    LeadsInto (take i trace.maps) blocks v
leads_to_level h trace i v blocks printable on inside =
    let most = printable.start in
    let within = on.within in
    leads_into h trace.maps i v blocks (omega arith) (λ j l. printable.levels j (omega arith)) inside on.all

block-small : (h : Hyper) (trace : Trace) (v : ℕ) → IsPrintable h 256 trace → v < vertex_count h →
    slice_index trace.first (carried (take trace.start trace.maps) v) < 256
block-small h trace v printable inside =
    printable.first.blocks (carried (take trace.start trace.maps) v) 0
    (let low = carried_below h trace.maps trace.start v printable.start printable.levels inside in let n = printable.first.vertices in omega arith)

-- each vertex of the file leads into the blocks of a level
pub all_lead : (h : Hyper) (trace : Trace) (i : ℕ) (maps : List (List ℕ)) (blocks : List ℕ) → IsPrintable h 256 trace → maps ≡ trace.maps →
    AreOnLevel h trace i blocks → AllLead (vertex_count h) (take i maps) blocks
all_lead h trace i maps blocks printable all on = subst (λ (ms : List (List ℕ)). AllLead (vertex_count h) (take i ms) blocks) (sym all) (record {
  leads = λ v inside. leads_to_level h trace i v blocks printable on inside;
  small = λ v inside. (
      let same = block-on_level h trace i v blocks printable on inside in
      let small = block-small h trace v printable inside in
      omega (arith, same, small));
})

-- carried down they cost what the first partition costs on its level
pub cost_from_level : (h : Hyper) (trace : Trace) (i : ℕ) (maps : List (List ℕ)) (blocks : List ℕ) → IsPrintable h 256 trace → maps ≡ trace.maps →
    AreOnLevel h trace i blocks → cost h (carried_down (vertex_count h) (take i maps) blocks) ≡ first_cost h trace
cost_from_level h trace i maps blocks printable all on =
    let n = vertex_count h in
    let way = take trace.start trace.maps in
    ap (λ (p : List ℕ). cost h p)
    (ap (λ (ms : List (List ℕ)). carried_down n (take i ms) blocks) all
    ∙ are_carried_down n (take i trace.maps) blocks (carried_down n way trace.first) (length-carried_down n way trace.first)
    (λ v inside. block_carried_down n way trace.first v inside ∙ sym (block-on_level h trace i v blocks printable on inside))
    ∙ carried_down-projected h trace.maps trace.start trace.first printable.start printable.levels printable.first.vertices)
    ∙ projection_keeps_cost h trace.maps trace.start trace.first printable.start printable.levels

pub printable-wide : (h : Hyper) (k : ℕ) (trace : Trace) → k ≤ 256 → IsPrintable h k trace → IsPrintable h 256 trace
printable-wide h k trace few printable = record {
  start = printable.start;
  levels = printable.levels;
  first = record {
    vertices = printable.first.vertices;
    blocks = λ i d low. (let b = printable.first.blocks i d low in omega arith);
  };
}
