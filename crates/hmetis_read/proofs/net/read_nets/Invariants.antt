use Rattle.std.proofs.Common.{◌≡◌, ◌-◌, ◌*◌, ◌^◌, ◌≤◌, length, take, drop}
use Rattle.hg_defs.specs.Hypergraph.{pin_count, total_net_weight}
use Rattle.hg_defs.specs.Sums.{total}
use Rattle.hmetis_read.specs.Graph.{net_in, with_pins_before, nets_in, each}
use Rattle.hmetis_read.proofs.Each.{with_front}
use Rattle.hmetis_read.proofs.net.read_nets.Given as goal

abbrev pub invariant-loop : goal.invariant-loop
invariant-loop l =
    record {
      read : with_front l.hyper.nets (each (net_in l.shape) (with_pins_before l.shape l.before (take (l.shape.nets - l.counter) l.lines.kept)))
          ≡ nets_in l.shape (take l.shape.nets l.fn.lines.kept);
      kept : l.lines.kept ≡ drop l.counter l.fn.lines.kept;
      some : l.counter ≤ length l.fn.lines.kept;
      count : l.lines.count ≡ l.fn.lines.count;
      nets : length l.hyper.nets ≡ l.counter;
      pins : pin_count l.hyper ≤ l.before;
      limit : l.before ≤ 2 ^ 25;
      net_weight : total_net_weight l.hyper ≤ (2 ^ 32 - 1) * l.counter;
      pin_weight : total (λ e. e.weight * length e.pins) l.hyper.nets ≤ (2 ^ 32 - 1) * l.before;
      others : l.hyper ≡ record l.fn.hyper { nets = l.hyper.nets };
    }
