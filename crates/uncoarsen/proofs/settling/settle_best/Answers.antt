use Rattle.std.proofs.Common.{◌≡◌, ℕ, List, sym, ap, subst, ◌∙◌, arith}
use Rattle.hg_defs.specs.Hypergraph.{Hyper}
use Rattle.hg_defs.specs.Partition.{IsPartition}
use Rattle.hg_defs.specs.Cost.{cost}
use Rattle.hg_defs.specs.LeastLoaded.{greedy}
use Rattle.hg_defs.proofs.PlacementLaws.{greedy-partition}
use Rattle.pin_plain.specs.Parted.{Parted}
use Rattle.round_log.specs.declared.record.Chosen.TheVariants.{Levels, Greedy}
use Rattle.uncoarsen.proofs.SettlingLemmas.{choice_greedy, choice_levels, settled_best}
use Rattle.uncoarsen.proofs.settling.settle_best.Goals as goal
use Rattle.uncoarsen.proofs.settling.settle_best.Goals.{then-cheaper+in_ok-best, else-cheaper}

pub cost_with-requires-clause-partition : goal.cost_with-requires-clause-partition
cost_with-requires-clause-partition g c κs within =
    let parted = c.blocks-blocks.ensures.parted in
    let p = greedy-partition c.args.last.hyper c.args.last.k parted.sound parted.fixed (let some = parted.some in omega arith) in
    let here : IsPartition c.args.h.now c.args.last.k c.args.greedy =
    subst (λ (bs : List ℕ). IsPartition c.args.h.now c.args.last.k bs) (sym c.requires.greedy)
    (subst (λ (h : Hyper). IsPartition h c.args.last.k (greedy h c.args.last.k)) c.requires.belongs p) in
    subst (λ (h : Hyper). IsPartition h c.k-k.result c.slice.result.now) (sym c.flat.ensures)
    (subst (λ (bs : List ℕ). IsPartition c.args.h.now c.k-k.result bs) (sym c.slice.ensures) (subst (λ (n : ℕ). IsPartition c.args.h.now n c.args.greedy)
    (sym c.k-k.ensures) here))

pub of-requires-clause-partition : goal.of-requires-clause-partition
of-requires-clause-partition g c =
    let parted = c.blocks-blocks.ensures.parted in
    let p = greedy-partition c.args.last.hyper c.args.last.k parted.sound parted.fixed (let some = parted.some in omega arith) in
    subst (λ (n : ℕ). IsPartition c.args.h.now n c.args.greedy) (sym c.k-k.ensures)
    (subst (λ (bs : List ℕ). IsPartition c.args.h.now c.args.last.k bs) (sym c.requires.greedy)
    (subst (λ (h : Hyper). IsPartition h c.args.last.k (greedy h c.args.last.k)) c.requires.belongs p))

pub returns-clause-trace : goal.returns-clause-trace
returns-clause-trace g c =
    let h = c.args.h.now in
    let old = c.args.trace.now in
    let k = c.args.last.k in
    let first : c.cost_with.result ≡ cost h (greedy h k) = c.cost_with.ensures.value ∙ ap (λ (x : Hyper). cost x c.slice.result.now) c.flat.ensures ∙
    ap (λ (bs : List ℕ). cost h bs) (c.slice.ensures ∙ c.requires.greedy) in
    let second : c.cost_with-cost.result ≡ cost h old.last = c.cost_with-cost.ensures.value ∙ ap (λ (bs : List ℕ). cost h bs) (sym c.requires.traced) in
    let q = c.settle_with.new.self.blocks in
    let limit = c.args.last.limit in
    elim c.if-cheaper.branch [
      | then-cheaper+in_ok-best w ↦
          let made : c.if-cheaper.best ≡ record { hyper = h; k = c.k-k.result; limit = w.limit.result; blocks = c.args.greedy } = w.best-is ∙
          w.in_ok-best.ensures in
          let chosen = choice_greedy h k old.last c.if-cheaper.best.blocks (ap (λ (p : Parted). p.blocks) made ∙ c.requires.greedy)
          (let less = w.if-cheaper.true in omega arith) in
          settled_best h k limit old c.if-cheaper.trace Greedy c.if-cheaper.best q c.settle_with.new.log c.in_ok-settle_with.field-0
          (ap (λ (p : Parted). p.k) made ∙ c.k-k.ensures) (ap (λ (p : Parted). p.limit) made ∙ w.limit.ensures) chosen w.trace-is c.in_ok-settle_with.ensures.ok
      | else-cheaper w ↦
          let chosen = choice_levels h k old.last c.if-cheaper.best.blocks (ap (λ (p : Parted). p.blocks) w.best-is ∙ sym c.requires.traced)
          (λ less. let more = w.if-cheaper.false in omega arith) in
          settled_best h k limit old c.if-cheaper.trace Levels c.if-cheaper.best q c.settle_with.new.log c.in_ok-settle_with.field-0
          (ap (λ (p : Parted). p.k) w.best-is) (ap (λ (p : Parted). p.limit) w.best-is) chosen w.trace-is c.in_ok-settle_with.ensures.ok
    ]
