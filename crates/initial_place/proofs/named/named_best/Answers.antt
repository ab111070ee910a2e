-- Each named placement is tried in turn.
use Rattle.std.proofs.Common.{◌≡◌, ℕ, List, [], ◌∷◌, Option, Some, Result, IfOk, sym, ap, subst, ◌∙◌, arith}
use Rattle.hg_defs.specs.Partition.{IsPartition, Obeys}
use Rattle.hg_defs.specs.LeastLoaded.{greedy, least_loaded, heaviest_first}
use Rattle.hg_defs.specs.PlacementLaws.{IsPlaceable}
use Rattle.hg_defs.specs.Placement.{drawn_order, named, first_cheapest}
use Rattle.hg_defs.proofs.PlacementLaws.{heaviest_first-lists_free}
use Rattle.std.specs.Option.{ok_or}
use Rattle.initial_place.specs.declared.end.PlaceEnd.{PlaceEnd}
use Rattle.initial_place.specs.declared.end.PlaceEnd.TheVariants.{NoneFits}
use Rattle.hg_defs.proofs.NamedLaws.{named-partitions, named-obey}
use Rattle.initial_place.specs.Leading.{Leads}
use Rattle.initial_place.proofs.DrawLaws.{drawn_order-lists_free}
use Rattle.initial_place.proofs.LeadLaws.{drawn_upto, drawn_next, drawn_all, tried_same, none_tried, best_of, none_of, best_is}
use Rattle.initial_place.proofs.named.named_best.Goals as goal

pub least_loaded-requires-clause-listed : goal.least_loaded-requires-clause-listed
least_loaded-requires-clause-listed g c =
    let is = c.as_slice.ensures.value ∙ c.in_ok-order.ensures.order in
    rw (c.flat-in-streams.ensures, is) (drawn_order-lists_free c.args.h.now c.args.seed c.streams.stream)

pub streams-init : goal.streams-init
streams-init g c =
    let h = c.args.h.now in
    let k = c.args.k in
    let l = c.args.limit in
    let start : Leads h k l [] c.start-leader.result = subst (Leads h k l []) (sym c.start-leader.ensures) (none_tried h k l) in
    let ready : IsPlaceable h k (heaviest_first h) = record {
      hypergraph = c.vertices-vertices.ensures.sound;
      fixed = c.requires.fixed;
      blocks = omega (arith, c.requires.some);
      listed = heaviest_first-lists_free h;
    } in
    let placed = tried_same c.flat.result.now h k l (heaviest_first c.flat.result.now) (heaviest_first h) c.flat.ensures (ap heaviest_first c.flat.ensures)
    ready
    c.greedy.result c.greedy.ensures.ok c.greedy.ensures.fits c.greedy.ensures.cause in
    c.in_ok-consider.ensures l [] (greedy h k) start placed

pub streams-preserved : goal.streams-preserved
streams-preserved g c =
    let h = c.args.h.now in
    let k = c.args.k in
    let l = c.args.limit in
    let order = drawn_order h c.args.seed c.streams.stream in
    let ready : IsPlaceable h k order = record {
      hypergraph = c.vertices-vertices.ensures.sound;
      fixed = c.requires.fixed;
      blocks = omega (arith, c.requires.some);
      listed = drawn_order-lists_free h c.args.seed c.streams.stream;
    } in
    let placed = tried_same c.flat-in-streams.result.now h k l c.as_slice.result.now order c.flat-in-streams.ensures (c.as_slice.ensures.value ∙
    c.in_ok-order.ensures.order) ready
    c.least_loaded.result c.least_loaded.ensures.ok c.least_loaded.ensures.fits c.least_loaded.ensures.cause in
    let more = c.in_ok-consider-2.ensures l (greedy h k ∷ drawn_upto h k c.args.seed c.streams.stream) (least_loaded h k order) c.streams.invariant
    placed in
    subst (λ (ps : List (List ℕ)). Leads h k l (greedy h k ∷ ps) c.consider-in-streams.new.self)
    (sym (drawn_next h k c.args.seed c.streams.stream c.streams-test.true)) more

pub returns-clause-best : goal.returns-clause-best
returns-clause-best g c =
    let h = c.args.h.now in
    let k = c.args.k in
    let l = c.args.limit in
    let led = subst (λ (ps : List (List ℕ)). Leads h k l ps c.streams.leader) (drawn_all h k c.args.seed c.streams.stream c.streams-test.false)
    c.streams.invariant in
    let is : c.ok_or.result ≡ ok_or c.streams.leader.blocks NoneFits = c.ok_or.ensures.value ∙ ap (λ (o : Option (List ℕ)). ok_or o NoneFits)
    c.into_blocks.ensures in
    subst (λ (r : Result (List ℕ) PlaceEnd). IfOk r (λ p. first_cheapest h k l (named h k c.args.seed) ≡ Some p)) (sym is)
    (best_of h k l (named h k c.args.seed) c.streams.leader.blocks led.first)

pub returns-clause-none : goal.returns-clause-none
returns-clause-none g c e =
    let h = c.args.h.now in
    let k = c.args.k in
    let l = c.args.limit in
    let led = subst (λ (ps : List (List ℕ)). Leads h k l ps c.streams.leader) (drawn_all h k c.args.seed c.streams.stream c.streams-test.false)
    c.streams.invariant in
    let is : c.ok_or.result ≡ ok_or c.streams.leader.blocks NoneFits = c.ok_or.ensures.value ∙ ap (λ (o : Option (List ℕ)). ok_or o NoneFits)
    c.into_blocks.ensures in
    none_of h k l (named h k c.args.seed) c.streams.leader.blocks led.first (sym is ∙ e)

pub returns-clause-partition : goal.returns-clause-partition
returns-clause-partition g c =
    best_is c.args.h.now c.args.k c.args.limit (named c.args.h.now c.args.k c.args.seed) (IsPartition c.args.h.now c.args.k)
    (named-partitions c.args.h.now c.args.k c.args.seed c.vertices-vertices.ensures.sound c.requires.fixed (omega (arith, c.requires.some)))
    c.ok_or.result (returns-clause-best g c)

pub returns-clause-fixes : goal.returns-clause-fixes
returns-clause-fixes g c =
    best_is c.args.h.now c.args.k c.args.limit (named c.args.h.now c.args.k c.args.seed) (Obeys c.args.h.now)
    (named-obey c.args.h.now c.args.k c.args.seed c.vertices-vertices.ensures.sound c.requires.fixed (omega (arith, c.requires.some)))
    c.ok_or.result (returns-clause-best g c)
