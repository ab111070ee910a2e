-- Laws of parts of the images with their keys: they are those of all nets.
use Rattle.std.proofs.Common.{◌≡◌, ℕ, zero, suc, ◌+◌, ◌-◌, ◌*◌, ◌^◌, ◌<◌, ◌≤◌, List, [], ◌∷◌, ◌++◌, length, map, take, get_or, min, Result, Ok, IfOk}
use Rattle.std.proofs.Common.{All, refl, sym, ap, ap₂, ◌∙◌, subst, arith, ⊎_elim}
use Rattle.std.specs.List.{flat_map}
use Rattle.std.proofs.lemmas.Bool.{cases_lt}
use Rattle.std.proofs.lemmas.Grind.{flat_map-append}
use Rattle.std.proofs.lemmas.List.{append-nil, length-map, get_or-map, take_more, take_all}
use Rattle.hg_defs.specs.Hypergraph.{Hyper, vertex_count, net_count, IsHypergraph, IsWithinLimits}
use Rattle.hg_defs.specs.Contraction.{IsFull}
use Rattle.hg_defs.specs.Clustering.{cluster_count}
use Rattle.contract_nets.specs.declared.images.Mapped.{Mapped}
use Rattle.contract_nets.specs.Keys.{Key, keys_from}
use Rattle.contract_nets.specs.Images.{over, IsPart, ArePartsOf}
use Rattle.contract_nets.specs.Ranges.{all_keys}
use Rattle.contract_nets.specs.Mapped.{IsMapped}
use Rattle.contract_nets.proofs.CoarseLaws.{few_clusters}
use Rattle.contract_nets.proofs.KeyLaws.{AreKeys, AreKeys-all, keys_from-append}
use Rattle.contract_nets.proofs.ImageLaws.{AreThere, count_over, vertices_over, image_over, pins_over}

pub element_at : {X : Type 0} (xs : List X) (i : ℕ) → i < length xs → X
element_at [] i l = absurd (omega arith)
element_at (x ∷ xs) zero l = x
element_at (x ∷ xs) (suc i) l = element_at xs i (omega arith)

-- the keys of parts, one part after the other
abbrev joined : List Mapped → List Key
joined mapped = flat_map (λ (m : Mapped). m.keys.items) mapped

-- the same of lists that hold them
joined_is : (mapped : List Mapped) → all_keys (map (λ list. list.items) (map (λ (m : Mapped). m.keys) mapped)) ≡ joined mapped
joined_is [] = refl
joined_is (m ∷ mapped) = ap (λ (ks : List Key). m.keys.items ++ ks) (joined_is mapped)

module _ {E : Type 0} (h : Hyper) (cs : List ℕ) (size : ℕ) (results : List (Result Mapped E)) (mapped : List Mapped) (there : AreThere results mapped)
    (each : (j : ℕ) (d : Result Mapped E) → j < length results → IfOk (get_or results j d) (IsMapped h cs size j)) where
  IsMapped-at : (j : ℕ) (d : Mapped) → j < length mapped → IsMapped h cs size j (get_or mapped j d)
  IsMapped-at j d l =
      let low : j < length results = (let long = there.long in omega arith) in
      subst (λ (r : Result Mapped E). IfOk r (IsMapped h cs size j)) (there.each j (Ok d) d low) (each j (Ok d) low)

  pub ArePartsOf-all : length cs ≡ vertex_count h → cluster_count cs ≤ 2 ^ 22 → 0 < size → net_count h ≤ length results * size
      → ArePartsOf h cs size (map (λ (m : Mapped). m.part) mapped)
  ArePartsOf-all vertices few some all =
      let same = length-map mapped (λ (m : Mapped). m.part) in
      record {
        vertices = vertices;
        few = few;
        some = some;
        all = subst (λ (n : ℕ). net_count h ≤ n * size) (sym (same ∙ there.long)) all;
        each = λ j d l.
            let low : j < length mapped = omega arith in
            let one = element_at mapped j low in
            subst (IsPart h cs size j) (sym (get_or-map (λ (m : Mapped). m.part) mapped j one d low)) (IsMapped-at j one low).part;
      }

  keys_taken : (t : ℕ) → t ≤ length mapped → joined (take t mapped) ≡ keys_from (over h cs) 0 (min (t * size) (net_count h))
  keys_taken zero l = ap (keys_from (over h cs) 0) (let e : 0 ≡ min (0 * size) (net_count h) = omega arith in e)
  keys_taken (suc t) l =
      let low : t < length mapped = omega arith in
      let one = element_at mapped t low in
      let n = net_count h in
      let last = get_or mapped t one in
      ap (λ (i : ℕ). joined (take i mapped)) (let e : suc t ≡ t + 1 = omega arith in e)
      ∙ ap joined (take_more mapped t one low)
      ∙ flat_map-append (λ (m : Mapped). m.keys.items) (take t mapped) (last ∷ [])
      ∙ ap₂ (λ (xs ys : List Key). xs ++ ys) (keys_taken t (omega arith)) (append-nil last.keys.items ∙ (IsMapped-at t one low).keys)
      ∙ ⊎_elim
      (λ (k : t * size < n).
      let here : min (t * size) n ≡ t * size = omega arith in
      let next : t * size + min size (n - t * size) ≡ min (suc t * size) n = omega arith in
      let from : t * size ≡ 0 + t * size = omega arith in
      ap₂ (λ (i j : ℕ). keys_from (over h cs) 0 i ++ keys_from (over h cs) j (min size (n - t * size))) here from
      ∙ sym (keys_from-append (over h cs) 0 (t * size) (min size (n - t * size)))
      ∙ ap (keys_from (over h cs) 0) next)
      (λ (k : n ≤ t * size).
      let none : min size (n - t * size) ≡ 0 = omega arith in
      let next : min (t * size) n ≡ min (suc t * size) n = omega arith in
      ap (λ (i : ℕ). keys_from (over h cs) 0 (min (t * size) n) ++ keys_from (over h cs) (t * size) i) none
      ∙ append-nil (keys_from (over h cs) 0 (min (t * size) n))
      ∙ ap (keys_from (over h cs) 0) next)
      (cases_lt (t * size) n)

  pub joined_all : net_count h ≤ length results * size → all_keys (map (λ list. list.items) (map (λ (m : Mapped). m.keys) mapped)) ≡
      keys_from (over h cs) 0 (net_count h)
  joined_all all =
      let long = there.long in
      let whole = subst (λ (n : ℕ). net_count h ≤ n * size) (sym long) all in
      joined_is mapped
      ∙ ap joined (sym (take_all (length mapped) mapped (omega arith)))
      ∙ keys_taken (length mapped) (omega arith)
      ∙ ap (keys_from (over h cs) 0) (let e : min (length mapped * size) (net_count h) ≡ net_count h = omega arith in e)

-- the keys of the nets over the clusters
pub AreKeys-over : (h mapped : Hyper) (cs : List ℕ) (keys : List Key) → IsHypergraph h → IsFull h cs (cluster_count cs) → IsWithinLimits h
    → mapped ≡ over h cs → keys ≡ keys_from (over h cs) 0 (net_count h) → AreKeys mapped keys
AreKeys-over h mapped cs keys sound full limits is keys_are =
    let count = count_over h cs in
    let few = few_clusters h cs (cluster_count cs) sound full limits in
    subst (λ (x : Hyper). AreKeys x keys) (sym is)
    (subst (AreKeys (over h cs)) (sym (keys_are ∙ ap (keys_from (over h cs) 0) (sym count)))
    (AreKeys-all (over h cs) (λ e l.
    let low : e < net_count h = omega arith in
    let below = image_over h cs sound full.vertices e low in
    let n = vertices_over h cs in
    subst (All (λ i. i < 2 ^ 32)) (sym (pins_over h cs e low)) (λ k d m. let b = below k d m in omega arith))))
