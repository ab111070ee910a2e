use Rattle.std.proofs.Common.{◌≡◌, ◌*◌, ◌<◌, ℕ, [], length, take, get_or}
use Rattle.hg_defs.specs.Hypergraph.{net_count, net_of}
use Rattle.move_core.specs.State.{count_place}
use Rattle.move_core.proofs.OpenFacts.{pins_with}
use Rattle.move_core.proofs.open.counts_of.Given as goal

abbrev pub invariant-loop-e : goal.invariant-loop-e
invariant-loop-e l = record {
  wide : length l.counts.items ≡ net_count l.h * l.k;
  each : (f b : ℕ) → f < net_count l.h → b < l.k → get_or l.counts.items (count_place l.k f b) 0 ≡ pins_with l.h l.p l.e [] f b;
}

abbrev pub invariant-loop-v : goal.invariant-loop-v
invariant-loop-v l = record {
  wide : length l.counts.items ≡ net_count l.h * l.k;
  each : (f b : ℕ) → f < net_count l.h → b < l.k → get_or l.counts.items (count_place l.k f b) 0
      ≡ pins_with l.h l.p l.e (take l.v-index (net_of l.h l.e).pins) f b;
}
