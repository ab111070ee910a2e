-- The passes after the searches are those of the round.
use Rattle.std.proofs.Common.{◌≡◌, length, map, All, ap, subst, sym, ◌∙◌, rules, arith}
use Rattle.std.proofs.lemmas.List.{length-map}
use Rattle.move_table.specs.declared.view.Terms.{Terms}
use Rattle.fm_search.specs.Workers.{AreFreshWorkers}
use Rattle.fm_search.proofs.RaceLaws.{fresh_workers, same_blocks, passes_again, written_back, as_many, kept_memory}
use Rattle.fm_search.proofs.race.race.Goals as goal

pub search_all-requires-clause-fresh : goal.search_all-requires-clause-fresh
search_all-requires-clause-fresh g c κs within =
    subst (AreFreshWorkers c.in_ok-round.round c.k-k.result) (sym c.as_mut_slice.ensures.value)
    (fresh_workers c.in_ok-round.round c.k-k.result c.in_ok-workers.workers.items c.in_ok-round.passes c.in_ok-round.ensures.passes c.in_ok-workers.ensures.movers
    c.in_ok-workers.ensures.blocks)

pub passes_of-requires-clause-blocks : goal.passes_of-requires-clause-blocks
passes_of-requires-clause-blocks g c =
    subst (All (λ w. w.desk.blocks ≡ c.k-k.result))
    (sym (written_back c.in_ok-workers.workers.items c.search_all.new.workers c.in_ok-workers.workers.len
    (c.search_all.ensures.same ∙ ap (λ xs. length xs) c.as_mut_slice.ensures.value) (search rules)))
    (same_blocks c.in_ok-round.round c.k-k.result c.search_all.new.workers c.search_all.ensures.workers)

pub close-requires-clause-passes : goal.close-requires-clause-passes
close-requires-clause-passes g c κs within =
    passes_again c.in_ok-round.round c.k-k.result c.search_all.new.workers c.in_ok-passes.passes c.search_all.ensures.workers
    (c.in_ok-passes.ensures.movers
    ∙ ap (map (λ w. w.mover)) (written_back c.in_ok-workers.workers.items c.search_all.new.workers c.in_ok-workers.workers.len
    (c.search_all.ensures.same ∙ ap (λ xs. length xs) c.as_mut_slice.ensures.value) (search rules)))
    c.in_ok-passes.ensures.idle
    (c.search_all.ensures.same
    ∙ ap (λ xs. length xs) c.as_mut_slice.ensures.value
    ∙ as_many c.in_ok-round.round c.k-k.result c.in_ok-workers.workers.items c.in_ok-round.passes c.in_ok-workers.ensures.movers
    ∙ c.in_ok-round.ensures.passes.all)

pub returns-in-Ok-clause-gains : goal.returns-in-Ok-clause-gains
returns-in-Ok-clause-gains g c =
    let many = passes_again c.in_ok-round.round c.k-k.result c.search_all.new.workers c.in_ok-passes.passes c.search_all.ensures.workers
    (c.in_ok-passes.ensures.movers
    ∙ ap (map (λ w. w.mover)) (written_back c.in_ok-workers.workers.items c.search_all.new.workers c.in_ok-workers.workers.len
    (c.search_all.ensures.same ∙ ap (λ xs. length xs) c.as_mut_slice.ensures.value) (search rules)))
    c.in_ok-passes.ensures.idle
    (c.search_all.ensures.same
    ∙ ap (λ xs. length xs) c.as_mut_slice.ensures.value
    ∙ as_many c.in_ok-round.round c.k-k.result c.in_ok-workers.workers.items c.in_ok-round.passes c.in_ok-workers.ensures.movers
    ∙ c.in_ok-round.ensures.passes.all) in
    ap (λ xs. length xs) c.in-Ok.ensures.gains
    ∙ length-map c.in_ok-passes.passes (λ p. p.view.account.gain)
    ∙ many.all
    ∙ ap (λ (t : Terms). t.workers) c.in_ok-round.ensures.terms

pub search_all-requires-clause-few : goal.search_all-requires-clause-few
search_all-requires-clause-few g c κs within =
    let many = as_many c.in_ok-round.round c.k-k.result c.in_ok-workers.workers.items c.in_ok-round.passes c.in_ok-workers.ensures.movers in
    let slice = ap (λ xs. length xs) c.as_mut_slice.ensures.value in
    let all = c.in_ok-round.ensures.passes.all in
    let terms = ap (λ (t : Terms). t.workers) c.in_ok-round.ensures.terms in
    let few = c.requires.workers.1 in
    omega arith

pub returns-then-is_stopped-clause-memory : goal.returns-then-is_stopped-clause-memory
returns-then-is_stopped-clause-memory g c =
    kept_memory c.args.p.k c.k-k.result _ c.k-k.ensures c.workers_of.ensures.desks c.open_round.ensures.below

pub returns-in_err-passes-clause-memory : goal.returns-in_err-passes-clause-memory
returns-in_err-passes-clause-memory g c =
    kept_memory c.args.p.k c.k-k.result _ c.k-k.ensures c.passes_of.ensures.desks c.open_round.ensures.below

pub returns-in-Ok-clause-memory : goal.returns-in-Ok-clause-memory
returns-in-Ok-clause-memory g c = kept_memory c.args.p.k c.k-k.result _ c.k-k.ensures c.passes_of.ensures.desks c.open_round.ensures.below

pub returns-clause-memory : goal.returns-clause-memory
returns-clause-memory g c = kept_memory c.args.p.k c.k-k.result _ c.k-k.ensures c.passes_of.ensures.desks c.open_round.ensures.below
