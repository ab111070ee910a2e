-- The free vertices are ranked, and the ranks sorted.
use Rattle.std.proofs.Common.{◌≡◌, ℕ, ◌<◌, ◌++◌, List, [], ◌∷◌, ap, ap₂, sym, ◌∙◌, refl, filter, subst, IsPermutation, true, false, arith}
use Rattle.std.specs.declared.cmp.Reverse.{Reverse}
use Rattle.std.proofs.lemmas.List.Elements.{All-map}
use Rattle.std.proofs.lemmas.List.Sorted.{All-permutation}
use Rattle.std.proofs.lemmas.Bool.{eq-eqb, ne_eqb}
use Rattle.hg_defs.specs.declared.objective.TheConstants.{FREE}
use Rattle.hg_defs.specs.Hypergraph.{is_free, fix_of, weight_of, vertex_count, vertices}
use Rattle.hg_base.specs.Placing.{rank_of}
use Rattle.hg_base.proofs.RankLaws.{ranks_more, ranks_same, ranks_all, sorted_ranks}
use Rattle.hg_base.proofs.placement.heaviest_first.Goals as goal
use Rattle.hg_base.proofs.placement.heaviest_first.Goals.{then-fix-eq-FREE+in_ok-push, else-fix-eq-FREE}

pub loop-v-preserved : goal.loop-v-preserved
loop-v-preserved c =
    let h = c.args.h.now in
    let v = c.loop-v.v in
    let inside : v < vertex_count h = omega (arith, c.loop-v-test.true, c.vertices-v-end.ensures.count) in
    elim c.if-fix-eq-FREE.branch [
      | then-fix-eq-FREE+in_ok-push w ↦
          (let free : is_free h v ≡ true = eq-eqb (fix_of h v) FREE (sym c.fix.ensures.value ∙ w.if-fix-eq-FREE.true) in
          let pushed : w.push.new.self.items ≡ c.loop-v.ranks.items ++ (record { 0 = w.vertex_weight.result }, v) ∷ [] = w.in_ok-push.ensures.items in
          let rank : Reverse ℕ × ℕ = (record { 0 = w.vertex_weight.result }, v) in
          let is : rank ≡ rank_of h v = ap (λ (x : ℕ). (record { 0 = x }, v)) w.vertex_weight.ensures.value in
          rw w.ranks-is
          (pushed ∙ ap₂ (λ (rs : List (Reverse ℕ × ℕ)) (r : Reverse ℕ × ℕ). rs ++ r ∷ []) c.loop-v.invariant is ∙ sym (ranks_more h v inside free)))
      | else-fix-eq-FREE w ↦
          (let fixed : is_free h v ≡ false = ne_eqb (fix_of h v) FREE (λ q. w.if-fix-eq-FREE.false (c.fix.ensures.value ∙ q)) in
          rw w.ranks-is (c.loop-v.invariant ∙ sym (ranks_same h v inside fixed)))
    ]

pub returns-clause-order : goal.returns-clause-order
returns-clause-order c =
    let h = c.args.h.now in
    let all = c.loop-v.invariant ∙ ranks_all h c.loop-v.v (omega (arith, c.loop-v-test.false, c.vertices-v-end.ensures.count)) in
    let moved = subst (λ (rs : List (Reverse ℕ × ℕ)). IsPermutation rs c.sort_unstable.new.self.items) all c.sort_unstable.ensures.permutation in
    sorted_ranks h c.sort_unstable.new.self.items moved c.sort_unstable.ensures.sorted

pub returns-clause-weights : goal.returns-clause-weights
returns-clause-weights c =
    let h = c.args.h.now in
    let all = c.loop-v.invariant ∙ ranks_all h c.loop-v.v (omega (arith, c.loop-v-test.false, c.vertices-v-end.ensures.count)) in
    let moved = subst (λ (rs : List (Reverse ℕ × ℕ)). IsPermutation rs c.sort_unstable.new.self.items) all c.sort_unstable.ensures.permutation in
    All-permutation (λ (r : Reverse ℕ × ℕ). r.0.0 ≡ weight_of h r.1) _ c.sort_unstable.new.self.items moved
    (All-map (λ (r : Reverse ℕ × ℕ). r.0.0 ≡ weight_of h r.1) (rank_of h) (filter (is_free h) (vertices h)) (λ k d l. refl))
