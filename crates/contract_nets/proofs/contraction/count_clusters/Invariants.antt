-- The numbers so far, and those to come, give the count.
use Rattle.std.proofs.Common.{◌≡◌, max, drop}
use Rattle.hg_defs.specs.Clustering.{cluster_count}
use Rattle.contract_nets.proofs.contraction.count_clusters.Given as goal

abbrev pub invariant-loop-i : goal.invariant-loop-i
invariant-loop-i l = max l.count (cluster_count (drop l.i-index l.clusters)) ≡ cluster_count l.clusters
