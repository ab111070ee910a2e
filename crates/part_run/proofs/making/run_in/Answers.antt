use Rattle.std.proofs.Common.{◌≡◌, ◌∙◌, ℕ, Result, Ok, Err, refl, sym, ap, subst, arith}
use Rattle.std.specs.Prelude.{MatchResult, IsErrAnd}
use Rattle.hg_defs.specs.Hypergraph.{Hyper, Suits}
use Rattle.hg_defs.specs.Partition.{limit}
use Rattle.hg_defs.specs.Cost.{cost}
use Rattle.hg_defs.specs.LeastLoaded.{greedy}
use Rattle.round_log.specs.Trace.{limit_of}
use Rattle.round_log.specs.TraceLaws.{IsPlaceableFor}
use Rattle.pin_plain.specs.Parted.{Parted}
use Rattle.part_run.specs.declared.status.Status.{Status}
use Rattle.part_run.specs.declared.status.Status.TheVariants.{NoMemory}
use Rattle.part_run.proofs.ModeLemmas.{spares_same}
use Rattle.part_run.proofs.Reportable.{outcome_of, outcome_over}
use Rattle.part_run.proofs.making.run_in.Goals as goal

refused : {T : Type 0} (P : T → Type 0) (Q : Status → Type 0) (r : Result T Status) (s : Status) → IsErrAnd r (λ x. x ≡ s) → Q s → MatchResult r P Q
refused P Q (Ok x) s h q = absurd h
refused P Q (Err x) s h q = subst Q (sym h) q

pub reach-requires-clause-ready : goal.reach-requires-clause-ready
reach-requires-clause-ready g c κs within =
    let ready : IsPlaceableFor c.args.flat c.args.job.now = record {
      hypergraph = c.vertices-vertices.ensures.sound;
      fixed = c.requires.fixed;
      blocks = omega arith;
      placed = c.in_ok-placed.ensures.answer.placed;
    } in
    subst (λ (x : Hyper). IsPlaceableFor x c.args.job.now) (sym c.in_ok-h.ensures) ready

pub reach-requires-clause-suits : goal.reach-requires-clause-suits
reach-requires-clause-suits g c κs within = subst (λ (x : Hyper). Suits x c.args.job.now.k) (sym c.in_ok-h.ensures) c.requires.suits

pub reach-requires-clause-limit : goal.reach-requires-clause-limit
reach-requires-clause-limit g c κs within =
    let j = c.args.job.now in
    c.limit_of-limit.ensures.value ∙ ap (λ (w : ℕ). limit w j.k j.eps) c.total_weight.ensures
    ∙ ap (λ (x : Hyper). limit_of x j) (sym c.in_ok-h.ensures)

pub reach-requires-clause-placed : goal.reach-requires-clause-placed
reach-requires-clause-placed g c κs within =
    c.in_ok-placed.ensures.answer.greedy ∙ ap (λ (x : Hyper). greedy x c.args.job.now.k) (sym c.in_ok-h.ensures)

pub cost_with-cost-requires-clause-belongs : goal.cost_with-cost-requires-clause-belongs
cost_with-cost-requires-clause-belongs g c κs within =
    ap (λ (x : Parted). x.hyper) c.in_ok-reached.ensures.reached.partition ∙ sym c.in_ok-reached.ensures.reached.hypergraph

pub returns-in_err-reached-clause-answer : goal.returns-in_err-reached-clause-answer
returns-in_err-reached-clause-answer g c = refused _ _ c.from_residual-in_err-reached.result NoMemory c.from_residual-in_err-reached.ensures.1 tt

pub returns-in_err-placed-clause-spared : goal.returns-in_err-placed-clause-spared
returns-in_err-placed-clause-spared g c = spares_same c.args.mode _

pub returns-in_err-h-clause-spared : goal.returns-in_err-h-clause-spared
returns-in_err-h-clause-spared g c = spares_same c.args.mode _

pub returns-clause-answer : goal.returns-clause-answer
returns-clause-answer g c =
    let h = c.args.flat in
    let j = c.args.job.now in
    let r = c.in_ok-reached.ensures.reached in
    let placed = c.in_ok-placed.ensures.answer in
    record {
      hypergraph = r.hypergraph ∙ c.in_ok-h.ensures;
      ready = record {
        hypergraph = c.vertices-vertices.ensures.sound;
        fixed = c.requires.fixed;
        blocks = omega arith;
        placed = placed.placed;
      };
      greedy = c.cost_with-greedy.ensures.value ∙ ap (cost h) (c.slice.ensures ∙ placed.greedy);
      outcome =
          outcome_over refl c.in_ok-h.ensures
          (outcome_of c.args.mode _ j c.in_ok-h.h c.in_ok-reached.reached c.into_blocks.result c.cost_with-cost.result r c.into_blocks.ensures
          c.cost_with-cost.ensures.value);
    }
