-- Laws of the nets inside a part of the vertices: they weigh no more and have no more pins than those they come from.
use Rattle.std.proofs.Common.{◌≡◌, ℕ, ◌+◌, ◌*◌, ◌^◌, ◌<◌, ◌≤◌, [], length, take, ◌∙◌, arith}
use Rattle.std.proofs.Math.Nat.{mul-le-mul_left}
use Rattle.hg_base.specs.Flat.{GrowsBy}
use Rattle.hg_defs.specs.Sums.{total}
use Rattle.hg_defs.specs.Hypergraph.{Net, Hyper, vertex_count, net_count, pin_count, total_net_weight, net_of, IsWithinLimits}
use Rattle.hg_defs.proofs.SumLaws.{total-take_more, total_more-le}

-- what is inside of the first e nets
pub record IsInner (h inner : Hyper) (e count : ℕ) : Type 0 where
  pub vertices : vertex_count inner ≡ count
  pub nets : net_count inner ≤ e
  pub pins : pin_count inner ≤ total (λ x. length x.pins) (take e h.nets)
  pub weight : total_net_weight inner ≤ total (λ x. x.weight) (take e h.nets)
  pub pin_weight : total (λ x. x.weight * length x.pins) inner.nets ≤ total (λ x. x.weight * length x.pins) (take e h.nets)

module _ (h inner : Hyper) (e count : ℕ) (here : e < net_count h) (is : IsInner h inner e count) where
  -- a net of which nothing is inside
  pub inner_kept : IsInner h inner (e + 1) count
  inner_kept =
      let p = total-take_more (λ (x : Net). length x.pins) h.nets e (record { weight = 0; pins = [] }) here in
      let w = total-take_more (λ (x : Net). x.weight) h.nets e (record { weight = 0; pins = [] }) here in
      let q = total-take_more (λ (x : Net). x.weight * length x.pins) h.nets e (record { weight = 0; pins = [] }) here in
      record {
        vertices = is.vertices;
        nets = let a = is.nets in omega arith;
        pins = let a = is.pins in omega arith;
        weight = let a = is.weight in omega arith;
        pin_weight = let a = is.pin_weight in omega arith;
      }

  -- a net of which some pins are inside
  pub inner_grown : (new : Hyper) (weight given : ℕ) → GrowsBy inner new weight given → weight ≡ (net_of h e).weight → given ≤ length (net_of h e).pins →
      IsInner h new (e + 1) count
  inner_grown new weight given grows same few =
      let p = total-take_more (λ (x : Net). length x.pins) h.nets e (record { weight = 0; pins = [] }) here in
      let w = total-take_more (λ (x : Net). x.weight) h.nets e (record { weight = 0; pins = [] }) here in
      let q = total-take_more (λ (x : Net). x.weight * length x.pins) h.nets e (record { weight = 0; pins = [] }) here in
      record {
        vertices = grows.vertices ∙ is.vertices;
        nets = let a = is.nets in let b = grows.nets in omega arith;
        pins = let a = is.pins in let b = grows.pins in omega arith;
        weight = let a = is.weight in let b = grows.net_weight in omega arith;
        pin_weight = let a = is.pin_weight in let b = grows.pin_weight in let c = paid in omega arith;
      }
    where
      paid : weight * given ≤ (net_of h e).weight * length (net_of h e).pins
      paid = rw same (mul-le-mul_left (net_of h e).weight few)

  -- there is room for what is inside of the next net
  pub record HasRoom (weight given : ℕ) : Type 0 where
    pub nets : net_count inner < 2 ^ 22
    pub pins : pin_count inner + given ≤ 2 ^ 25
    pub net_weight : total_net_weight inner + weight < 2 ^ 54
    pub pin_weight : total (λ x. x.weight * length x.pins) inner.nets + weight * given < 2 ^ 57

  pub inner_room : (weight given : ℕ) → IsWithinLimits h → weight ≡ (net_of h e).weight → given ≤ length (net_of h e).pins → HasRoom weight given
  inner_room weight given limits same few =
      let p = total_more-le (λ (x : Net). length x.pins) h.nets e (record { weight = 0; pins = [] }) here in
      let w = total_more-le (λ (x : Net). x.weight) h.nets e (record { weight = 0; pins = [] }) here in
      let q = total_more-le (λ (x : Net). x.weight * length x.pins) h.nets e (record { weight = 0; pins = [] }) here in
      record {
        nets = let a = is.nets in let b = limits.nets in omega arith;
        pins = let a = is.pins in let b = limits.pins in omega arith;
        net_weight = let a = is.weight in let b = limits.net_weight in omega arith;
        pin_weight = let a = is.pin_weight in let b = limits.pin_weight in let c = paid in omega arith;
      }
    where
      paid : weight * given ≤ (net_of h e).weight * length (net_of h e).pins
      paid = rw same (mul-le-mul_left (net_of h e).weight few)
