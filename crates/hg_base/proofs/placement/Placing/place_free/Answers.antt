-- One free vertex more, placed in the least loaded block.
use Rattle.std.proofs.Common.{◌≡◌, ◌<◌, ◌+◌, ℕ, true, ap, sym, ◌∙◌, nat_le, drop, map, get_or, length, slice_index, slice_set, arith}
use Rattle.std.specs.declared.cmp.Reverse.{Reverse}
use Rattle.std.proofs.lemmas.Bool.{eq-eqb}
use Rattle.std.proofs.lemmas.List.{drop_more, length-set}
use Rattle.hg_defs.specs.declared.objective.TheConstants.{FREE}
use Rattle.hg_defs.specs.Hypergraph.{is_free, fix_of, weight_of}
use Rattle.hg_defs.specs.LeastLoaded.{Placing, least, taken_block, placed, first_overfilling}
use Rattle.hg_base.proofs.PlacingLaws.{put, taken-free, overfills_later, placed_next}
use Rattle.hg_base.proofs.placement.Placing.place_free.Goals as goal

pub loop-rank-preserved : goal.loop-rank-preserved
loop-rank-preserved c =
    let h = c.args.h.now in
    let l = c.args.limit in
    let s = c.loop-rank.self in
    let ranks = c.args.ranks.now in
    let i = c.loop-rank.rank-index in
    let none : Reverse ℕ × ℕ = (record { 0 = 0 }, 0) in
    let inside : i < length ranks = omega (arith, c.loop-rank-test.true) in
    let v = (get_or ranks i none).1 in
    let b = c.least-block.result in
    let rest = map (λ (r : Reverse ℕ × ℕ). r.1) (drop (i + 1) ranks) in
    let step = ap (map (λ (r : Reverse ℕ × ℕ). r.1)) (drop_more ranks i none inside) in
    let weight = c.requires.weights i none inside in
    let free : is_free h v ≡ true = eq-eqb (fix_of h v) FREE (c.requires.free i none inside) in
    let taken : taken_block h s.loads v ≡ b =
    taken-free h l s v rest free ∙ sym (c.least-block.ensures.least ∙ ap (λ (p : Placing). least p.loads) c.self.view_is) in
    let within : nat_le (slice_index s.loads b + weight_of h v) l ≡ true =
    ap (λ w. nat_le (slice_index s.loads b + w) l) (sym weight) ∙ sym c.place.ensures.fits ∙ c.if-not-place.false in
    let state : c.place.new.self ≡ put h s v b =
    c.if-not-place.ensures.placed
    ∙ ap (λ w. record { loads = slice_set s.loads b (slice_index s.loads b + w); blocks = slice_set s.blocks v b }) weight in
    rw state (
      length-set s.blocks v b ∙ c.loop-rank.invariant.0,
      length-set s.loads b (slice_index s.loads b + weight_of h v) ∙ c.loop-rank.invariant.1,
      sym (ap (placed h s) step ∙ placed_next h l s v rest b taken) ∙ c.loop-rank.invariant.2,
      sym (ap (first_overfilling h l s) step ∙ overfills_later h l s v rest b taken within) ∙ c.loop-rank.invariant.3,
    )
