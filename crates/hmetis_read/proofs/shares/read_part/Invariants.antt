-- The nets so far, and what is left of the lines.
use Rattle.std.proofs.Common.{◌≡◌, ◌+◌, ◌^◌, ◌≤◌, All, length, map}
use Rattle.hg_defs.specs.Hypergraph.{IsNet}
use Rattle.hg_defs.specs.Sums.{total}
use Rattle.hg_text.specs.Kept.{field_lists}
use Rattle.hmetis_read.specs.Graph.{each}
use Rattle.hmetis_read.specs.Shares.{net_at, pins_spelt}
use Rattle.hmetis_read.proofs.Each.{with_front}
use Rattle.hmetis_read.proofs.shares.read_part.Given as goal

abbrev pub invariant-loop-line : goal.invariant-loop-line
invariant-loop-line l =
    record {
      read : with_front l.nets (each (net_at l.shape) (map (λ line. line.fields) l.lines.kept)) ≡ each (net_at l.shape) (field_lists l.text);
      spelt : l.before + pins_spelt l.shape (map (λ line. line.fields) l.lines.kept) ≡ pins_spelt l.shape (field_lists l.text);
      count : length l.nets ≤ l.shape.nets;
      pins : total (λ e. length e.pins) l.nets ≤ l.before;
      limit : l.before ≤ 2 ^ 25;
      sound : All (IsNet l.shape.vertices) l.nets;
    }

abbrev pub decreases-loop-line : goal.decreases-loop-line
decreases-loop-line l = length l.lines.kept
