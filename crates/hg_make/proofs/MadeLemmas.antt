-- A made hypergraph, net by net, and its sizes.
use Rattle.std.proofs.Common.{◌≡◌, ℕ, ◌+◌, ◌*◌, ◌%◌, ◌≤◌, List, [], ◌∷◌, ◌++◌, length, map, replicate, ap, ◌∙◌, arith}
use Rattle.std.proofs.lemmas.List.FromFn.{map-range_with_len_more, length-map-range_with_len}
use Rattle.std.specs.List.{range_with_len}
use Rattle.std.specs.Ordering.{nat_cmp}
use Rattle.hg_defs.specs.declared.objective.TheConstants.{FREE}
use Rattle.hg_defs.specs.declared.objective.Objective.TheVariants.{Connectivity}
use Rattle.hg_defs.specs.Hypergraph.{Net, Hyper, net_count, pin_count, total_net_weight}
use Rattle.hg_defs.specs.Sums.{total}
use Rattle.hg_defs.proofs.SumLaws.{total-map, total-range, sum_below-le, sum_below-constant}
use Rattle.hg_defs.proofs.SortLaws.{length-set_of-le}
use Rattle.hg_make.specs.Made.{made_net}

-- with the first i nets alone
abbrev pub made_first : ℕ → ℕ → Hyper
made_first n i = record {
  weights = replicate n 1;
  nets = map (made_net n) (range_with_len 0 i);
  objective = Connectivity;
  fixes = replicate n FREE;
}

-- a sum over the nets, of which each adds at most c
made-bound : (f : Net → ℕ) (c n i : ℕ) → ((j : ℕ) → f (made_net n j) ≤ c) → total f (made_first n i).nets ≤ i * c
made-bound f c n i each =
    let sum = total-map f (made_net n) (range_with_len 0 i) ∙ total-range (λ j. f (made_net n j)) i in
    omega (arith, sum, sum_below-le (λ j. f (made_net n j)) (λ j. c) i (λ j h. each j), sum_below-constant c i)

-- a net has at most three pins
made-pins : (n j : ℕ) → length (made_net n j).pins ≤ 3
made-pins n j = length-set_of-le nat_cmp (j ∷ (j + 1) % n ∷ (j * j + 3) % n ∷ [])

-- the sizes of a hypergraph that is made in part
pub net_count-made : (n i : ℕ) (h : Hyper) → h ≡ made_first n i → net_count h ≡ i
net_count-made n i h is = ap net_count is ∙ length-map-range_with_len (made_net n) 0 i

pub pin_count-made-le : (n i : ℕ) (h : Hyper) → h ≡ made_first n i → pin_count h ≤ i * 3
pin_count-made-le n i h is = omega (arith, ap pin_count is, made-bound (λ e. length e.pins) 3 n i (made-pins n))

pub net_weight-made-le : (n i : ℕ) (h : Hyper) → h ≡ made_first n i → total_net_weight h ≤ i * 1
net_weight-made-le n i h is = omega (arith, ap total_net_weight is, made-bound (λ e. e.weight) 1 n i (λ j. omega arith))

pub pin_weight-made-le : (n i : ℕ) (h : Hyper) → h ≡ made_first n i → total (λ e. e.weight * length e.pins) h.nets ≤ i * 3
pin_weight-made-le n i h is =
    omega (
      arith,
      ap (λ (g : Hyper). total (λ e. e.weight * length e.pins) g.nets) is,
      made-bound (λ e. e.weight * length e.pins) 3 n i
          (λ j. omega (arith, made-pins n j)),
    )

-- one more net
pub made_first-more : (n i : ℕ) → made_first n (i + 1) ≡ record (made_first n i) { nets = (made_first n i).nets ++ made_net n i ∷ [] }
made_first-more n i =
    ap (λ (es : List Net). record { weights = replicate n 1; nets = es; objective = Connectivity; fixes = replicate n FREE })
    (map-range_with_len_more (made_net n) 0 i i (omega arith))
