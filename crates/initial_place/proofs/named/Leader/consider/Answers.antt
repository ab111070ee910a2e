-- A placement within the limit takes the lead where it is cheaper.
use Rattle.std.proofs.Common.{◌≡◌, ℕ, List, [], ◌∷◌, ◌++◌, Result, Option, Some, Ok, Err, sym, ap, ap₂, ◌∙◌, subst, arith}
use Rattle.hg_base.specs.declared.placement.GreedyEnd.{GreedyEnd}
use Rattle.hg_defs.specs.Partition.{Fits}
use Rattle.hg_defs.specs.Cost.{cost}
use Rattle.initial_place.specs.Leading.{Leader, Leads, IsTried}
use Rattle.initial_place.proofs.LeadLaws.{stays, gives_way}
use Rattle.initial_place.proofs.named.Leader.consider.Goals as goal
use Rattle.initial_place.proofs.named.Leader.consider.Goals.{in-Some-1, in-None-1}

pub returns-then-cost-self : goal.returns-then-cost-self
returns-then-cost-self c l ps q leads tried =
    let h = c.args.h.now in
    let k = c.args.k in
    let given : IsTried h k l q (Ok c.in-Ok.blocks) = subst (λ (r : Result (List ℕ) GreedyEnd). IsTried h k l q r) c.in-Ok.is tried in
    let cost_is : c.cost_of-cost.result ≡ cost h q = c.cost_of-cost.ensures.value ∙ ap₂ cost c.flat.ensures (c.slice.ensures ∙ given.0) in
    let was : c.self.inside.cost ≡ c.args.self.now.cost = ap (λ (s : Leader). s.cost) c.self.view_is in
    let state : c.match-dearer.self ≡ record { blocks = Some c.in-Ok.blocks; cost = c.cost_of-cost.result } =
    elim c.match-dearer.branch [
      | in-Some-1 w ↦ w.self-is ∙ ap (λ (b : Option (List ℕ)). record { blocks = b; cost = c.cost_of-cost.result }) c.replace-dearer.ensures.after
      | in-None-1 w ↦ w.self-is ∙ ap (λ (b : Option (List ℕ)). record { blocks = b; cost = c.cost_of-cost.result }) c.replace-dearer.ensures.after
    ] in
    let leader : Leader = record { blocks = Some q; cost = cost h q } in
    let now : leader ≡ c.match-dearer.self = ap₂ (λ (p : List ℕ) (x : ℕ). record { blocks = Some p; cost = x }) (sym given.0) (sym cost_is) ∙ sym state in
    subst (Leads h k l (ps ++ q ∷ [])) now
    (gives_way h k l ps q c.args.self.now leads (subst (Fits h k l) given.0 given.1) (let less = c.if-cost-self.true in omega arith))

pub returns-else-cost-self : goal.returns-else-cost-self
returns-else-cost-self c l ps q leads tried =
    let h = c.args.h.now in
    let k = c.args.k in
    let given : IsTried h k l q (Ok c.in-Ok.blocks) = subst (λ (r : Result (List ℕ) GreedyEnd). IsTried h k l q r) c.in-Ok.is tried in
    let cost_is : c.cost_of-cost.result ≡ cost h q = c.cost_of-cost.ensures.value ∙ ap₂ cost c.flat.ensures (c.slice.ensures ∙ given.0) in
    let was : c.self.inside.cost ≡ c.args.self.now.cost = ap (λ (s : Leader). s.cost) c.self.view_is in
    stays h k l ps q c.args.self.now leads
    (λ fits. (let not_less = c.if-cost-self.false in omega arith, let bound = c.cost_of-cost.ensures.bound in omega arith))

pub returns-in-Err-Overfills : goal.returns-in-Err-Overfills
returns-in-Err-Overfills c l ps q leads tried =
    let h = c.args.h.now in
    let k = c.args.k in
    let is = c.in-Err-Overfills.is in
    let end = rw c.in-Err-Overfills.is at c.in-Err-Overfills.field-0-is in
    stays h k l ps q c.args.self.now leads
    (λ fits. absurd (subst (λ (r : Result (List ℕ) GreedyEnd). IsTried h k l q r) (is ∙ ap (λ (e : GreedyEnd). Err e) end) tried fits))
