-- Pairing leaves roots.
use Rattle.std.proofs.Common.{◌≡◌, ℕ, ◌<◌, List, length, drop, get_or, sym, ap, ◌∙◌, subst, arith}
use Rattle.std.proofs.lemmas.List.{take_at}
use Rattle.hg_defs.specs.Hypergraph.{Hyper}
use Rattle.hg_defs.specs.Numbering.{IsRooted}
use Rattle.hg_defs.specs.Pairing.{paired_inside}
use Rattle.hg_defs.proofs.PairingLaws.{inside-rooted}
use Rattle.coarsen.specs.Numbers.{AreRoots}
use Rattle.coarsen.proofs.PairLaws.{are_roots}
use Rattle.coarsen.proofs.pairing.pair_within.Goals as goal

roots_from : (h : Hyper) (cap : ℕ) (roots : List ℕ) → IsRooted h cap roots → AreRoots (length roots) roots
roots_from h cap roots r = subst (λ (n : ℕ). AreRoots n roots) (sym r.vertices) (are_roots h cap roots r)

pub number_clusters-requires-clause-roots : goal.number_clusters-requires-clause-roots
number_clusters-requires-clause-roots c =
    let h = c.args.h.now in
    let new = c.pair_nets.new.roots in
    let before = c.as_mut_slice.ensures.value in
    let long : length new ≡ c.args.roots.len = c.pair_nets.auto.roots ∙ c.as_mut_slice.ensures.len in
    let rooted : IsRooted h c.args.cap new =
    subst (IsRooted h c.args.cap) (sym (c.in_ok-pair_nets.ensures ∙ ap (paired_inside h c.args.cap c.args.k c.args.blocks.now) before))
    (inside-rooted h c.args.cap c.args.k c.args.blocks.now c.args.roots.items c.vertices-vertices.ensures.sound c.requires.rooted)
    in
    subst (λ (xs : List ℕ). AreRoots (length xs) xs) (sym (c.as_mut_slice-2.ensures.value ∙ take_at new (drop (length new) c.args.roots.items)
    c.args.roots.len
    long))
    (roots_from h c.args.cap new rooted)
