-- Paired clusterings are numbered by root.
use Rattle.std.proofs.Common.{◌≡◌, ℕ, List, length, sym, ap, ◌∙◌, subst}
use Rattle.std.proofs.lemmas.List.{length-map}
use Rattle.hg_defs.specs.Hypergraph.{Hyper, IsHypergraph}
use Rattle.hg_defs.specs.Numbering.{IsRooted, root_number, numbered}
use Rattle.hg_defs.specs.Pairing.{paired_inside}
use Rattle.hg_defs.proofs.PairingLaws.{inside-rooted}
use Rattle.coarsen.specs.Numbers.{AreRoots, IsByRoot}
use Rattle.coarsen.proofs.PairLaws.{are_roots}

by_root : (roots clusters : List ℕ) → AreRoots (length roots) roots → clusters ≡ numbered roots → IsByRoot clusters
by_root roots clusters are same = record {
  roots = roots;
  are_roots = subst (λ (n : ℕ). AreRoots n roots) (sym (ap length same ∙ length-map roots (root_number roots))) are;
  are_numbered = same;
}

pub by_root_inside : (h : Hyper) (cap k : ℕ) (p roots clusters : List ℕ) → IsHypergraph h → IsRooted h cap roots →
    clusters ≡ numbered (paired_inside h cap k p roots) → IsByRoot clusters
by_root_inside h cap k p roots clusters sound rooted made =
    let paired = paired_inside h cap k p roots in
    let still = inside-rooted h cap k p roots sound rooted in
    by_root paired clusters (subst (λ (n : ℕ). AreRoots n paired) (sym still.vertices) (are_roots h cap paired still)) made
