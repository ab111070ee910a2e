-- What the nets of a contraction are, said without its loops.
use Rattle.std.specs.Prelude.{◌≡◌, ℕ, ◌≤◌, List, length, filter, All, AllPairs, Contains, Bool, Decides, ◌↔◌}
use Rattle.std.specs.List.Sorted.{IsStrictlyIncreasing}
use Rattle.std.specs.declared.cmp.Ordering.TheVariants.{Less}
use Rattle.std.specs.Ordering.{nat_cmp}
use Rattle.std.specs.Cmp.Lexicographic.{slice_cmp}
use Rattle.hg_defs.specs.Sums.{total}
use Rattle.hg_defs.specs.Hypergraph.{Net, Hyper}
use Rattle.hg_defs.specs.Partition.{block_of}
use Rattle.hg_defs.specs.Contraction.{image, contract}

-- the pins are the image of a net, of at least two clusters
pub record IsImage (h : Hyper) (clusters pins : List ℕ) : Type 0 where
  pub net : (e : Net) × Contains h.nets e × (image clusters e ≡ pins)
  pub several : 2 ≤ length pins

-- ---- the laws

-- the image of a net has the clusters of its pins, in rising order
abbrev pub ImageRises : Type 0
ImageRises = (clusters : List ℕ) (e : Net) → IsStrictlyIncreasing (image clusters e)

abbrev pub ImageHasClusters : Type 0
ImageHasClusters =
    (clusters : List ℕ) (e : Net) (i : ℕ) → Contains (image clusters e) i ↔ ((v : ℕ) × Contains e.pins v × (block_of clusters v ≡ i))

-- the pins of each net of the contraction are an image, and each image is the pins of one
abbrev pub NetsAreImages : Type 0
NetsAreImages =
    (h : Hyper) (clusters : List ℕ) (count : ℕ) → All (λ c. IsImage h clusters c.pins) (contract h clusters count).nets

abbrev pub ImagesAreNets : Type 0
ImagesAreNets =
    (h : Hyper) (clusters : List ℕ) (count : ℕ) (pins : List ℕ) → IsImage h clusters pins
    → (c : Net) × Contains (contract h clusters count).nets c × (c.pins ≡ pins)

-- the nets rise by their pins, so no two have the same
abbrev pub NetsRise : Type 0
NetsRise =
    (h : Hyper) (clusters : List ℕ) (count : ℕ)
    → AllPairs (λ c d. slice_cmp nat_cmp c.pins d.pins ≡ Less) (contract h clusters count).nets

-- each weighs what the nets with its image weigh together, whatever test tells them
abbrev pub NetsWeighTogether : Type 0
NetsWeighTogether =
    (h : Hyper) (clusters : List ℕ) (count : ℕ)
    → All
    (λ c. (test : Net → Bool) → ((e : Net) → Decides (test e) (image clusters e ≡ c.pins))
    → c.weight ≡ total (λ e. e.weight) (filter test h.nets))
    (contract h clusters count).nets
