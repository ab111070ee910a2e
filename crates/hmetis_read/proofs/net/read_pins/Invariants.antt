use Rattle.std.proofs.Common.{◌≡◌, ◌+◌, ◌^◌, ◌<◌, ◌≤◌, length, map}
use Rattle.std.specs.List.{All, enumerate_from}
use Rattle.hg_text.specs.Kept.{number_of}
use Rattle.hmetis_read.specs.Graph.{pin_in, each}
use Rattle.hmetis_read.proofs.Each.{with_front}
use Rattle.hmetis_read.proofs.net.read_pins.Given as goal

abbrev pub invariant-loop-number : goal.invariant-loop-number
invariant-loop-number l =
    record {
      read : with_front l.pins.items (each (pin_in l.vertices l.line.number) (enumerate_from (l.before + length l.pins.items)
          (map number_of l.line.fields)))
          ≡ each (pin_in l.vertices l.fn.line.number) (enumerate_from l.before (map number_of l.fn.line.fields));
      line : l.line.number ≡ l.fn.line.number;
      vertices : All (λ pin. pin < l.vertices) l.pins.items;
      limit : l.before + length l.pins.items ≤ 2 ^ 25;
      count : length l.pins.items + length l.line.fields ≡ length l.fn.line.fields;
    }

abbrev pub decreases-loop-number : goal.decreases-loop-number
decreases-loop-number l = length l.line.fields
