use Rattle.std.proofs.Common.{◌≡◌, ◌<◌, ◌∙◌, ℕ, List, All, length, sym, ap, subst, arith}
use Rattle.hg_defs.specs.Hypergraph.{Hyper, net_count}
use Rattle.hg_defs.specs.Partition.{IsPartition}
use Rattle.pin_plain.specs.Counts.{HasStarts, HoldsCounts, HaveSpreads, counts_of}
use Rattle.pin_plain.specs.Parted.{Parted, IsParted, IsLoaded}
use Rattle.pin_plain.proofs.LoadLaws.{replayed_parted, kept_anew}
use Rattle.pin_plain.proofs.partition.Partition.replay_at_once.Goals as goal

pub add_weights-requires : goal.add_weights-requires
add_weights-requires g c =
    let p = c.self.inside.blocks in
    let k = c.self.inside.k in
    let h = c.self.inside.hyper.value in
    let q = c.write_blocks.new.blocks in
    let moves = c.args.moves.now in
    let hyper : h ≡ c.args.h.now = ap (λ (x : Parted). x.hyper) c.self.view_is ∙ c.requires.belongs in
    let low = subst (λ (x : Parted). All (λ m. m.to < x.k) moves) (sym c.self.view_is) c.requires.blocks in
    let parted = replayed_parted h k p q moves c.self.invariant.parted low c.write_blocks.ensures in
    let size : length c.as_mut_slice.result.now ≡ k = ap length c.as_mut_slice.ensures.value ∙ c.self.invariant.loaded.all in
    subst (λ (x : Hyper). IsPartition x (length c.as_mut_slice.result.now) c.slice.result.now) hyper
    (subst (λ (n : ℕ). IsPartition h n c.slice.result.now) (sym size) (subst (IsPartition h k) (sym c.slice.ensures) parted.partition))

pub invariant_of-nets : goal.invariant_of-nets
invariant_of-nets g c =
    let p = c.self.inside.blocks in
    let k = c.self.inside.k in
    let h = c.self.inside.hyper.value in
    let q = c.write_blocks.new.blocks in
    let moves = c.args.moves.now in
    let hyper : h ≡ c.args.h.now = ap (λ (x : Parted). x.hyper) c.self.view_is ∙ c.requires.belongs in
    let low = subst (λ (x : Parted). All (λ m. m.to < x.k) moves) (sym c.self.view_is) c.requires.blocks in
    let parted = replayed_parted h k p q moves c.self.invariant.parted low c.write_blocks.ensures in
    record {
      parted = subst (λ (x : Hyper). IsParted x k c.slice-2.result.now) hyper (subst (IsParted h k) (sym c.slice-2.ensures) parted);
      placed = subst (λ (x : Hyper). HasStarts x k c.as_slice.result.now) hyper (subst (HasStarts h k) (sym c.as_slice.ensures.value)
          (record { nets = c.self.invariant.laid.nets; starts_at = c.self.invariant.laid.starts_at }));
    }

pub invariant_of-self : goal.invariant_of-self
invariant_of-self g c =
    let p = c.self.inside.blocks in
    let k = c.self.inside.k in
    let h = c.self.inside.hyper.value in
    let q = c.write_blocks.new.blocks in
    let moves = c.args.moves.now in
    let hyper : h ≡ c.args.h.now = ap (λ (x : Parted). x.hyper) c.self.view_is ∙ c.requires.belongs in
    let low = subst (λ (x : Parted). All (λ m. m.to < x.k) moves) (sym c.self.view_is) c.requires.blocks in
    let parted = replayed_parted h k p q moves c.self.invariant.parted low c.write_blocks.ensures in
    let size : length c.as_mut_slice.result.now ≡ k = ap length c.as_mut_slice.ensures.value ∙ c.self.invariant.loaded.all in
    let loads = c.add_weights.new.loads in
    let words = c.tally_with.new.words in
    let loaded = subst (λ (x : Hyper). IsLoaded x k q loads) (sym hyper)
    (subst (λ (n : ℕ). IsLoaded c.args.h.now n q loads) size
    (subst (λ (bs : List ℕ). IsLoaded c.args.h.now (length c.as_mut_slice.result.now) bs loads) c.slice.ensures c.add_weights.ensures)) in
    let counted = subst (λ (x : Hyper). HoldsCounts x k words (counts_of x q)) (sym hyper)
    (subst (λ (bs : List ℕ). HoldsCounts c.args.h.now k words (counts_of c.args.h.now bs)) c.slice-2.ensures c.tally_with.ensures.counted) in
    let spreads = subst (λ (x : Hyper). HaveSpreads x k q (net_count x) words) (sym hyper)
    (subst (λ (bs : List ℕ). HaveSpreads c.args.h.now k bs (net_count c.args.h.now) words) c.slice-2.ensures c.tally_with.ensures.spreads) in
    kept_anew h k p q c.self.inside.loads.items c.self.inside.starts.items c.self.inside.widths.items c.self.inside.words.items
    c.self.inside.loads.len c.self.inside.words.len
    loads _ words _ c.self.invariant parted loaded counted spreads (omega arith) (omega arith) (omega arith)
