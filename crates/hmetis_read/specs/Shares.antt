-- The lines of nets read in shares: each share by itself, as if it were the whole text.
use Rattle.std.specs.Prelude.{◌≡◌, ℕ, ◌+◌, ◌-◌, ◌^◌, ◌<◌, ◌≤◌, List, ◌++◌, length, drop, replicate, slice_index, slice_range, All, Ok}
use Rattle.hg_defs.specs.declared.objective.TheConstants.{FREE}
use Rattle.hg_defs.specs.declared.objective.Objective.TheVariants.{Connectivity}
use Rattle.hg_defs.specs.Hypergraph.{Net, Hyper, IsNet}
use Rattle.hg_defs.specs.Sums.{total}
use Rattle.hg_text.specs.Kept.{Line, field_lists}
use Rattle.hmetis_read.specs.Graph.{Read, each, net_in, pin_numbers}
use Rattle.hmetis_read.specs.declared.header.Shape.{Shape}

-- a line of these fields, whose number isn't known
abbrev pub line_with : List (List ℕ) → Line
line_with fields = record { number = 0; fields = fields }

-- the net that fields spell, where no pins are before it
abbrev pub net_at : Shape → List (List ℕ) → Read Net
net_at shape fields = net_in shape (0, line_with fields)

-- how many pins nets are spelt with, repeats included
abbrev pub pins_spelt : Shape → List (List (List ℕ)) → ℕ
pins_spelt shape lists = total (λ fields. length (pin_numbers shape (line_with fields))) lists

-- the vertices of a shape, all of weight 1, with these nets
abbrev pub with_nets : Shape → List Net → Hyper
with_nets shape nets = record {
  weights = replicate shape.vertices 1;
  nets = nets;
  objective = Connectivity;
  fixes = replicate shape.vertices FREE;
}

-- the nets are those that lists of fields spell, and are within the limits
pub record SpellsNets (shape : Shape) (lists : List (List (List ℕ))) (nets : List Net) (pins : ℕ) : Type 0 where
  pub read : each (net_at shape) lists ≡ Ok nets
  pub spelt : pins_spelt shape lists ≡ pins
  pub limit : pins ≤ 2 ^ 25
  pub count : length nets ≤ shape.nets
  pub sound : All (IsNet shape.vertices) nets

-- nets of the shape's vertices within the limits: none weighs 2^32 or more, and they have so many pins at most
pub record AreLight (shape : Shape) (nets : List Net) (pins : ℕ) : Type 0 where
  pub light : All (λ e. e.weight < 2 ^ 32) nets
  pub most : total (λ e. length e.pins) nets ≤ pins
  pub limit : pins ≤ 2 ^ 25
  pub count : length nets ≤ shape.nets
  pub sound : All (IsNet shape.vertices) nets

-- the text between two cuts
abbrev pub part_of : List ℕ → List ℕ → ℕ → List ℕ
part_of text cuts j = slice_range text (slice_index cuts j) (slice_index cuts (j + 1))

-- places that cut a text below an end into parts, of which each keeps its lines
pub record AreCuts (text : List ℕ) (end : ℕ) (cuts : List ℕ) : Type 0 where
  pub some : 0 < length cuts
  pub first : slice_index cuts 0 ≡ 0
  pub last : slice_index cuts (length cuts - 1) ≡ end
  pub rising : (j : ℕ) → j + 1 < length cuts → slice_index cuts j ≤ slice_index cuts (j + 1)
  pub within : (j : ℕ) → j < length cuts → slice_index cuts j ≤ length text
  pub parts : (j : ℕ) → j + 1 < length cuts → field_lists (drop (slice_index cuts j) text) ≡
      field_lists (part_of text cuts j) ++ field_lists (drop (slice_index cuts (j + 1)) text)
