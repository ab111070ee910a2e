-- Ranks stand for the vertices of the given order.
use Rattle.std.proofs.Common.{◌≡◌, ℕ, List, map, IfOk, IfErr, OnOk, None, refl, ap, sym, ◌∙◌, subst}
use Rattle.std.specs.declared.cmp.Reverse.{Reverse}
use Rattle.std.proofs.lemmas.List.Elements.{All-map, All-same}
use Rattle.hg_defs.specs.Hypergraph.{Hyper, weight_of}
use Rattle.hg_defs.specs.LeastLoaded.{least_loaded, first_overfilling, unplaced, placing_order}
use Rattle.hg_defs.specs.PlacementLaws.{ListsFree}
use Rattle.hg_base.specs.Placing.{rank_of}
use Rattle.hg_base.specs.GreedyEnd.{HasCause}
use Rattle.hg_base.proofs.RankLaws.{vertices_of_ranks}
use Rattle.hg_base.proofs.PlacingLaws.{listed_vertices}
use Rattle.hg_base.proofs.placement.least_loaded.Goals as goal

vertices_of : (h : Hyper) (order : List ℕ) (ranks : List (Reverse ℕ × ℕ)) → ranks ≡ map (rank_of h) order → map (λ (r : Reverse ℕ × ℕ). r.1) ranks ≡ order
vertices_of h order ranks e = ap (map (λ (r : Reverse ℕ × ℕ). r.1)) e ∙ vertices_of_ranks h order

pub ranks_of-requires : goal.ranks_of-requires
ranks_of-requires c = listed_vertices c.args.h.now c.args.order.now c.requires.listed

pub place_ranks-requires-clause-listed : goal.place_ranks-requires-clause-listed
place_ranks-requires-clause-listed c = subst (ListsFree c.args.h.now)
    (sym (vertices_of c.args.h.now c.args.order.now c.deref.result.now (c.deref.ensures.value ∙ c.in_ok-ranks.ensures))) c.requires.listed

pub place_ranks-requires-clause-weights : goal.place_ranks-requires-clause-weights
place_ranks-requires-clause-weights c =
    let h = c.args.h.now in
    All-same (λ (r : Reverse ℕ × ℕ). r.0.0 ≡ weight_of h r.1) c.deref.result.now (map (rank_of h) c.args.order.now) (c.deref.ensures.value ∙
    c.in_ok-ranks.ensures)
    (All-map (λ (r : Reverse ℕ × ℕ). r.0.0 ≡ weight_of h r.1) (rank_of h) c.args.order.now (λ k d l. refl))

pub returns-clause-ok : goal.returns-clause-ok
returns-clause-ok c =
    subst (λ (o : List ℕ). IfOk c.place_ranks.result (λ blocks. blocks ≡ least_loaded c.args.h.now c.args.k o))
    (vertices_of c.args.h.now c.args.order.now c.deref.result.now (c.deref.ensures.value ∙ c.in_ok-ranks.ensures)) c.place_ranks.ensures.ok

pub returns-clause-within : goal.returns-clause-within
returns-clause-within c =
    subst (λ (o : List ℕ). OnOk c.place_ranks.result (first_overfilling c.args.h.now c.args.limit (unplaced c.args.h.now c.args.k)
    (placing_order c.args.h.now o) ≡ None))
    (vertices_of c.args.h.now c.args.order.now c.deref.result.now (c.deref.ensures.value ∙ c.in_ok-ranks.ensures)) c.place_ranks.ensures.within

pub returns-clause-cause : goal.returns-clause-cause
returns-clause-cause c =
    subst (λ (o : List ℕ). IfErr c.place_ranks.result (HasCause (first_overfilling c.args.h.now c.args.limit (unplaced c.args.h.now c.args.k)
    (placing_order c.args.h.now o))))
    (vertices_of c.args.h.now c.args.order.now c.deref.result.now (c.deref.ensures.value ∙ c.in_ok-ranks.ensures)) c.place_ranks.ensures.cause
