use Rattle.std.proofs.Common.{◌≡◌, ◌<◌, ◌∙◌, List, ℕ, All, sym, ap, subst}
use Rattle.hg_defs.specs.Hypergraph.{vertex_count}
use Rattle.hg_defs.specs.Partition.{IsPartition}
use Rattle.hg_defs.specs.Contraction.{after}
use Rattle.pin_plain.specs.Parted.{Parted, KeepsCost}
use Rattle.pin_plain.proofs.LoadLaws.{after_partition, after_keeps}
use Rattle.pin_plain.proofs.partition.Partition.finer_blocks.Goals as goal

pub returns-clause-partition : goal.returns-clause-partition
returns-clause-partition c =
    let inside = c.self.inside in
    let places = subst (λ (x : Parted). All (λ v. v < vertex_count x.hyper) c.args.map.now) (sym c.self.view_is) c.requires.places in
    let same : c.from_vec.result ≡ after inside.blocks c.args.map.now = c.from_vec.ensures ∙ c.in_ok-blocks.ensures ∙
    ap (λ (q : List ℕ). after q c.args.map.now) c.slice.ensures in
    subst (λ (x : Parted). IsPartition c.args.fine.now x.k c.from_vec.result) c.self.view_is
    (subst (IsPartition c.args.fine.now inside.k) (sym same)
    (after_partition inside.hyper.value c.args.fine.now inside.k inside.blocks c.args.map.now c.self.invariant.parted.partition c.requires.vertices places))

pub returns-clause-cost : goal.returns-clause-cost
returns-clause-cost c =
    let inside = c.self.inside in
    let same : c.from_vec.result ≡ after inside.blocks c.args.map.now = c.from_vec.ensures ∙ c.in_ok-blocks.ensures ∙
    ap (λ (q : List ℕ). after q c.args.map.now) c.slice.ensures in
    subst (λ (x : Parted). KeepsCost x.hyper x.blocks c.args.fine.now c.args.map.now c.from_vec.result) c.self.view_is
    (subst (KeepsCost inside.hyper.value inside.blocks c.args.fine.now c.args.map.now) (sym same)
    (after_keeps inside.hyper.value c.args.fine.now inside.blocks c.args.map.now c.self.invariant.parted.partition.vertices))
