use Rattle.std.proofs.Common.{◌≡◌, ◌<◌, ℕ, List, [], length, take, get_or}
use Rattle.hg_defs.specs.Hypergraph.{vertex_count, net_of}
use Rattle.move_core.proofs.OpenFacts.{nets_below, nets_with}
use Rattle.move_core.proofs.open.index_of.Given as goal

abbrev pub invariant-loop : goal.invariant-loop
invariant-loop l = record {
  wide : length l.index.items ≡ l.counter;
  each : (u : ℕ) (d : List ℕ) → u < l.counter → get_or l.index.items u d ≡ [];
}

abbrev pub invariant-loop-e : goal.invariant-loop-e
invariant-loop-e l = record {
  wide : length l.index.items ≡ vertex_count l.h;
  each : (u : ℕ) (d : List ℕ) → u < vertex_count l.h → get_or l.index.items u d ≡ nets_below l.h u l.e;
}

abbrev pub invariant-loop-v : goal.invariant-loop-v
invariant-loop-v l = record {
  wide : length l.index.items ≡ vertex_count l.h;
  each : (u : ℕ) (d : List ℕ) → u < vertex_count l.h → get_or l.index.items u d ≡ nets_with l.h u l.e (take l.v-index (net_of l.h l.e).pins);
}
