-- One vertex more draws its word, which is kept where the vertex is free.
use Rattle.std.proofs.Common.{◌≡◌, ℕ, ◌+◌, ◌<◌, ◌++◌, List, [], ◌∷◌, ap, sym, ◌∙◌, true, false, arith}
use Rattle.std.proofs.lemmas.Bool.{eq-eqb, ne_eqb}
use Rattle.rand_pcg.specs.Lcg.{Lcg}
use Rattle.rand_pcg.specs.Pcg.{pcg32}
use Rattle.hg_defs.specs.declared.objective.TheConstants.{FREE}
use Rattle.hg_defs.specs.Hypergraph.{is_free, fix_of, vertex_count}
use Rattle.hg_defs.specs.Placement.{generator}
use Rattle.initial_place.proofs.DrawLaws.{draws_below, after, after-zero, after_next, draws_more, draws_same, draws_all}
use Rattle.initial_place.proofs.orders.drawn.Goals as goal
use Rattle.initial_place.proofs.orders.drawn.Goals.{then-fix-eq-FREE+in_ok-push, else-fix-eq-FREE}

pub loop-v-init : goal.loop-v-init
loop-v-init c = (c.new-draws.ensures.items, c.new-words.ensures ∙ sym (after-zero (generator c.args.seed c.args.stream)))

pub loop-v-preserved : goal.loop-v-preserved
loop-v-preserved c =
    let h = c.args.h.now in
    let v = c.loop-v.v in
    let start = generator c.args.seed c.args.stream in
    let inside : v < vertex_count h = omega (arith, c.loop-v-test.true, c.vertices-v-end.ensures.count) in
    let drew = c.next_word-word.ensures ∙ ap pcg32 c.loop-v.invariant.1 in
    let word : c.next_word-word.result ≡ (pcg32 (after v start)).0 = ap (λ (p : ℕ × Lcg). p.0) drew in
    let next : c.next_word-word.new.self ≡ after (v + 1) start = ap (λ (p : ℕ × Lcg). p.1) drew ∙ sym (after_next v start) in
    let pairs : c.if-fix-eq-FREE.draws.items ≡ draws_below h c.args.seed c.args.stream (v + 1) =
    elim c.if-fix-eq-FREE.branch [
      | then-fix-eq-FREE+in_ok-push w ↦
          (let free : is_free h v ≡ true = eq-eqb (fix_of h v) FREE (sym c.fix.ensures.value ∙ w.if-fix-eq-FREE.true) in
          rw w.draws-is
          (w.in_ok-push.ensures.items ∙ ap (λ (ds : List (ℕ × ℕ)). ds ++ (c.next_word-word.result, v) ∷ []) c.loop-v.invariant.0
          ∙ sym (draws_more h c.args.seed c.args.stream v c.next_word-word.result inside free word)))
      | else-fix-eq-FREE w ↦
          (let fixed : is_free h v ≡ false = ne_eqb (fix_of h v) FREE (λ q. w.if-fix-eq-FREE.false (c.fix.ensures.value ∙ q)) in
          rw w.draws-is (c.loop-v.invariant.0 ∙ sym (draws_same h c.args.seed c.args.stream v inside fixed)))
    ] in
    (pairs, next)

pub returns : goal.returns
returns c = c.loop-v.invariant.0 ∙ draws_all c.args.h.now c.args.seed c.args.stream c.loop-v.v
    (omega (arith, c.loop-v-test.false, c.vertices-v-end.ensures.count))
