-- Laws of carrying: blocks that are carried down through no clustering stay, and through those of levels they are the projection.
use Rattle.std.proofs.Common.{◌≡◌, ℕ, zero, suc, ◌<◌, ◌≤◌, List, [], ◌∷◌, ◌++◌, length, take, slice_index, refl, sym, ap, ◌∙◌, subst, arith, ext_get_or}
use Rattle.std.proofs.lemmas.List.FromFn.{get_or-map-range_with_len, length-map-range_with_len}
use Rattle.hg_defs.specs.Hypergraph.{Hyper, vertex_count}
use Rattle.hg_defs.specs.Partition.{block_of}
use Rattle.hg_defs.specs.Contraction.{after}
use Rattle.hg_defs.specs.Clustering.{cluster_count}
use Rattle.hg_defs.specs.Levels.{level, map_of, projected_from}
use Rattle.hg_defs.specs.LevelLaws.{AreContractible}
use Rattle.hg_defs.proofs.ContractionLaws.{block_of-after, length-after}
use Rattle.hg_defs.proofs.LevelLaws.{level_is_contraction, vertices_of_contraction}
use Rattle.exact_cost.specs.Carrying.{carried, LeadsInto, carried_down}

-- ---- blocks carried down

pub length-carried_down : (n : ℕ) (maps : List (List ℕ)) (p : List ℕ) → length (carried_down n maps p) ≡ n
length-carried_down n maps p = length-map-range_with_len (λ v. slice_index p (carried maps v)) 0 n

pub block_carried_down : (n : ℕ) (maps : List (List ℕ)) (p : List ℕ) (v : ℕ) → v < n → block_of (carried_down n maps p) v ≡ slice_index p (carried maps v)
block_carried_down n maps p v low = get_or-map-range_with_len (λ u. slice_index p (carried maps u)) 0 n v v 0 low (omega arith)

-- a list with these blocks is what is carried down
pub are_carried_down : (n : ℕ) (maps : List (List ℕ)) (p q : List ℕ) → length q ≡ n → ((v : ℕ) → v < n → slice_index q v ≡ slice_index p (carried maps v)) →
    carried_down n maps p ≡ q
are_carried_down n maps p q long same =
    let many = length-carried_down n maps p in
    ext_get_or 0 (carried_down n maps p) q (many ∙ sym long)
    (λ v low. block_carried_down n maps p v (omega arith) ∙ sym (same v (omega arith)))

-- through no clustering they stay as they are
pub carried_through_none : (n : ℕ) (p : List ℕ) → length p ≡ n → carried_down n [] p ≡ p
carried_through_none n p long = are_carried_down n [] p p long (λ v low. refl)

-- ---- carried vertices

pub take_suc : (maps : List (List ℕ)) (i : ℕ) → i < length maps → take (suc i) maps ≡ take i maps ++ map_of maps i ∷ []
take_suc [] i low = absurd (omega arith)
take_suc (m ∷ maps) zero low = refl
take_suc (m ∷ maps) (suc i) low = ap (λ ms. m ∷ ms) (take_suc maps i (omega arith))

carried_push : (maps : List (List ℕ)) (c : List ℕ) (v : ℕ) → carried (maps ++ c ∷ []) v ≡ slice_index c (carried maps v)
carried_push [] c v = refl
carried_push (m ∷ maps) c v = carried_push maps c (slice_index m v)

carried_suc : (maps : List (List ℕ)) (i v : ℕ) → i < length maps → carried (take (suc i) maps) v ≡ slice_index (map_of maps i) (carried (take i maps) v)
carried_suc maps i v low = ap (λ ms. carried ms v) (take_suc maps i low) ∙ carried_push (take i maps) (map_of maps i) v

leads_push : (maps : List (List ℕ)) (c p : List ℕ) (v : ℕ) → LeadsInto maps c v → slice_index c (carried maps v) < length p →
    LeadsInto (maps ++ c ∷ []) p v
leads_push [] c p v low end = (low, end)
leads_push (m ∷ maps) c p v leads end = (leads.0, leads_push maps c p (slice_index m v) leads.1 end)

-- a vertex is carried to a vertex of the level
pub carried_below : (h : Hyper) (maps : List (List ℕ)) (i v : ℕ) → i ≤ length maps → AreContractible h maps i → v < vertex_count h →
    carried (take i maps) v < vertex_count (level h maps i)
carried_below h maps zero v low good inside = inside
carried_below h maps (suc i) v low good inside =
    let here = carried_below h maps i v (omega arith) (λ j l. good j (omega arith)) inside in
    let is = good i (omega arith) in
    let n = is.full.vertices in
    let below : slice_index (map_of maps i) (carried (take i maps) v) < cluster_count (map_of maps i) =
    is.full.below (carried (take i maps) v) 0 (omega arith) in
    let e = carried_suc maps i v (omega arith) in
    let m : vertex_count (level h maps (suc i)) ≡ cluster_count (map_of maps i) =
    ap vertex_count (level_is_contraction h maps i (omega arith)) ∙ vertices_of_contraction (level h maps i) (map_of maps i) (cluster_count (map_of maps i)) in
    omega arith

-- each clustering on the way has an entry for it
pub leads_into : (h : Hyper) (maps : List (List ℕ)) (i v : ℕ) (p : List ℕ) → i ≤ length maps → AreContractible h maps i → v < vertex_count h →
    length p ≡ vertex_count (level h maps i) → LeadsInto (take i maps) p v
leads_into h maps zero v p low good inside long = let e : v < length p = omega arith in e
leads_into h maps (suc i) v p low good inside long =
    subst (λ (ms : List (List ℕ)). LeadsInto ms p v) (sym (take_suc maps i (omega arith)))
    (leads_push (take i maps) (map_of maps i) p v
    (leads_into h maps i v (map_of maps i) (omega arith) (λ j l. good j (omega arith)) inside (good i (omega arith)).full.vertices)
    (let end = carried_below h maps (suc i) v low good inside in let e = carried_suc maps i v (omega arith) in omega arith))

-- it has the block of what it is carried to
pub block_carried : (h : Hyper) (maps : List (List ℕ)) (i v : ℕ) (p : List ℕ) → i ≤ length maps → AreContractible h maps i → v < vertex_count h →
    block_of (projected_from p maps i) v ≡ slice_index p (carried (take i maps) v)
block_carried h maps zero v p low good inside = refl
block_carried h maps (suc i) v p low good inside =
    block_carried h maps i v (after p (map_of maps i)) (omega arith) (λ j l. good j (omega arith)) inside
    ∙ block_of-after p (map_of maps i) (carried (take i maps) v)
    (let here = carried_below h maps i v (omega arith) (λ j l. good j (omega arith)) inside in let n = (good i (omega arith)).full.vertices in omega arith)
    ∙ ap (slice_index p) (sym (carried_suc maps i v (omega arith)))

length-projected : (h : Hyper) (maps : List (List ℕ)) (i : ℕ) (p : List ℕ) → i ≤ length maps → AreContractible h maps i →
    length p ≡ vertex_count (level h maps i) → length (projected_from p maps i) ≡ vertex_count h
length-projected h maps zero p low good long = long
length-projected h maps (suc i) p low good long =
    length-projected h maps i (after p (map_of maps i)) (omega arith) (λ j l. good j (omega arith))
    (length-after p (map_of maps i) ∙ (good i (omega arith)).full.vertices)

-- the blocks of a level, carried down to the first level, are their projection
pub carried_down-projected : (h : Hyper) (maps : List (List ℕ)) (i : ℕ) (p : List ℕ) → i ≤ length maps → AreContractible h maps i →
    length p ≡ vertex_count (level h maps i) → carried_down (vertex_count h) (take i maps) p ≡ projected_from p maps i
carried_down-projected h maps i p low good long =
    are_carried_down (vertex_count h) (take i maps) p (projected_from p maps i) (length-projected h maps i p low good long)
    (λ v inside. block_carried h maps i v p low good inside)
