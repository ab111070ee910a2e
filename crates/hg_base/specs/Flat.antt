-- A hypergraph in flat arrays: the pins of all nets stand in one list, and each net has the place at which its pins start.
use Rattle.std.specs.Prelude.{◌≡◌, ℕ, ◌+◌, ◌*◌, ◌<◌, ◌≤◌, List, length, map, slice_index, slice_range}
use Rattle.std.specs.List.{range_with_len}
use Rattle.hg_defs.specs.Sums.{total}
use Rattle.hg_defs.specs.Hypergraph.{Net, Hyper, vertex_count, net_count, pin_count, total_weight, total_net_weight, IsHypergraph, IsWithinLimits}

-- the net of a number
abbrev pub net_at : List ℕ → List ℕ → List ℕ → ℕ → Net
net_at starts weights pins e = record {
  weight = slice_index weights e;
  pins = slice_range pins (slice_index starts e) (slice_index starts (e + 1));
}

-- all nets
abbrev pub nets_at : List ℕ → List ℕ → List ℕ → List Net
nets_at starts weights pins = map (net_at starts weights pins) (range_with_len 0 (length weights))

-- each net's pins end where those of the next net start, and the last ones at the end of the list
pub record IsLaidOut (starts weights pins : List ℕ) : Type 0 where
  pub ends : length starts ≡ length weights + 1
  pub rising : (e : ℕ) → e < length weights → slice_index starts e ≤ slice_index starts (e + 1)
  pub within : (e : ℕ) → e ≤ length weights → slice_index starts e ≤ length pins
  pub last : slice_index starts (length weights) ≡ length pins

-- the arrays are laid out, and the pins of the first net stand first
pub record AreFlat (starts weights pins : List ℕ) : Type 0 where
  pub laid_out : IsLaidOut starts weights pins
  pub first : slice_index starts 0 ≡ 0

-- the hypergraph is sound and within its limits; it has these pins and this weight in all
pub record IsKept (h : Hyper) (pins weight : ℕ) : Type 0 where
  pub sound : IsHypergraph h
  pub bounds : IsWithinLimits h
  pub all_pins : pin_count h ≡ pins
  pub all_weight : total_weight h ≡ weight

-- the sizes after one more net of this weight, with this many pins as given
pub record GrowsBy (old new : Hyper) (weight given : ℕ) : Type 0 where
  pub vertices : vertex_count new ≡ vertex_count old
  pub nets : net_count new ≡ net_count old + 1
  pub pins : pin_count new ≤ pin_count old + given
  pub net_weight : total_net_weight new ≡ total_net_weight old + weight
  pub pin_weight : total (λ e. e.weight * length e.pins) new.nets ≤ total (λ e. e.weight * length e.pins) old.nets + weight * given
