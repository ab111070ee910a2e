use Rattle.std.proofs.Common.{◌≡◌, ◌<◌, ◌+◌, ◌*◌, ◌∙◌, List, [], ℕ, All, Option, Some, None, length, refl, sym, ap, ap₂, subst, arith, slice_index_or, slice_set}
use Rattle.std.proofs.Common.{length-set}
use Rattle.std.specs.List.Sorted.{IsStrictlyIncreasing}
use Rattle.hg_defs.specs.declared.moves.Move.{Move}
use Rattle.hg_defs.specs.Hypergraph.{Hyper, IsHypergraph, vertex_count}
use Rattle.hg_defs.specs.Partition.{IsPartition, Fits}
use Rattle.hg_defs.specs.Replay.{replay}
use Rattle.pin_plain.specs.Parted.{Parted}
use Rattle.round_log.specs.Rounds.{changes}
use Rattle.flow_pair.specs.declared.solve.PairEnd.{PairEnd}
use Rattle.flow_pair.specs.CutNets.{AreCutLists}
use Rattle.flow_pair.specs.PairEnds.{reassigned}
use Rattle.flow_pair.proofs.ChangeLaws.{changes-within}
use Rattle.flow_pair.proofs.PairLaws.{IsRearranged}
use Rattle.flow_pair.proofs.CutNetLaws.{lists_after}
use Rattle.flow_pair.proofs.EndLaws.{end_rises, end_vertices, end_blocks, end_rearranged}
use Rattle.flow_round.specs.PairTurns.{IsBooked, IsTurn}
use Rattle.flow_round.specs.Waves.{end_at, moves_at}
use Rattle.flow_round.proofs.TableLaws.{moves_at-here, moves_at-other}
use Rattle.flow_round.proofs.front.Front.apply.Goals as goal

pub assign_region-requires-clause-rising : goal.assign_region-requires-clause-rising
assign_region-requires-clause-rising c =
    let h = c.args.h.now in
    let s = c.args.self.now in
    let p = s.part in
    let at = c.place_of-place.ensures.value ∙ ap (λ k. c.args.a * k + c.args.b) c.k.ensures in
    let is : end_at p.k s.ends.items (c.args.a, c.args.b) ≡ Some c.in-Some.end =
    ap₂ (λ (xs : List (Option PairEnd)) (i : ℕ). slice_index_or xs i None) (sym c.as_slice.ensures.value) (sym at) ∙ sym c.end_of.ensures ∙ c.in-Some.is in
    let end = (subst (IsTurn h p.k p.limit p.blocks (c.args.a, c.args.b)) is c.requires.turn).1 in
    subst IsStrictlyIncreasing (sym c.slice.ensures) (end_rises h p.k p.limit p.blocks c.args.a c.args.b c.in-Some.end end)

pub assign_region-requires-clause-vertices : goal.assign_region-requires-clause-vertices
assign_region-requires-clause-vertices c =
    let h = c.args.h.now in
    let s = c.args.self.now in
    let p = s.part in
    let at = c.place_of-place.ensures.value ∙ ap (λ k. c.args.a * k + c.args.b) c.k.ensures in
    let is : end_at p.k s.ends.items (c.args.a, c.args.b) ≡ Some c.in-Some.end =
    ap₂ (λ (xs : List (Option PairEnd)) (i : ℕ). slice_index_or xs i None) (sym c.as_slice.ensures.value) (sym at) ∙ sym c.end_of.ensures ∙ c.in-Some.is in
    let end = (subst (IsTurn h p.k p.limit p.blocks (c.args.a, c.args.b)) is c.requires.turn).1 in
    let sound = subst IsHypergraph c.requires.front.belongs c.blocks-blocks.ensures.parted.sound in
    subst (All (λ v. v < vertex_count h)) (sym c.slice.ensures) (end_vertices h p.k p.limit p.blocks c.args.a c.args.b c.in-Some.end end sound)

pub assign_region-requires-clause-blocks : goal.assign_region-requires-clause-blocks
assign_region-requires-clause-blocks c =
    let h = c.args.h.now in
    let s = c.args.self.now in
    let p = s.part in
    let at = c.place_of-place.ensures.value ∙ ap (λ k. c.args.a * k + c.args.b) c.k.ensures in
    let is : end_at p.k s.ends.items (c.args.a, c.args.b) ≡ Some c.in-Some.end =
    ap₂ (λ (xs : List (Option PairEnd)) (i : ℕ). slice_index_or xs i None) (sym c.as_slice.ensures.value) (sym at) ∙ sym c.end_of.ensures ∙ c.in-Some.is in
    let end = (subst (IsTurn h p.k p.limit p.blocks (c.args.a, c.args.b)) is c.requires.turn).1 in
    let parted = c.blocks-blocks.ensures.parted in
    let sound = subst IsHypergraph c.requires.front.belongs parted.sound in
    let whole = subst (λ (x : Hyper). IsPartition x p.k p.blocks) c.requires.front.belongs parted.partition in
    let low : c.args.a < p.k = (let a = c.requires.below.order in let b = c.requires.below.below in omega arith) in
    subst (All (λ b. b < p.k)) (sym c.slice-2.ensures)
    (end_blocks h p.k p.limit p.blocks c.args.a c.args.b c.in-Some.end end sound whole low c.requires.below.below)

pub add_nets_of-requires-clause-moves : goal.add_nets_of-requires-clause-moves
add_nets_of-requires-clause-moves c =
    let h = c.args.h.now in
    let s = c.args.self.now in
    let p = s.part in
    let at = c.place_of-place.ensures.value ∙ ap (λ k. c.args.a * k + c.args.b) c.k.ensures in
    let is : end_at p.k s.ends.items (c.args.a, c.args.b) ≡ Some c.in-Some.end =
    ap₂ (λ (xs : List (Option PairEnd)) (i : ℕ). slice_index_or xs i None) (sym c.as_slice.ensures.value) (sym at) ∙ sym c.end_of.ensures ∙ c.in-Some.is in
    let end = (subst (IsTurn h p.k p.limit p.blocks (c.args.a, c.args.b)) is c.requires.turn).1 in
    let sound = subst IsHypergraph c.requires.front.belongs c.blocks-blocks.ensures.parted.sound in
    let low = subst (All (λ v. v < vertex_count h)) (sym c.slice.ensures) (end_vertices h p.k p.limit p.blocks c.args.a c.args.b c.in-Some.end end sound) in
    subst (All (λ (m : Move). m.vertex < vertex_count h)) (sym (c.slice-3.ensures ∙ c.in_ok-moves.ensures.moves))
    (changes-within (λ v. v < vertex_count h) h p.blocks (reassigned p.blocks c.slice.result.now c.slice-2.result.now) c.slice.result.now low)

pub add_nets_of-requires-clause-first : goal.add_nets_of-requires-clause-first
add_nets_of-requires-clause-first c =
    let count = c.requires.front.cut_is.count in
    let order = c.requires.below.order in
    let second = c.requires.below.below in
    omega arith

pub add_nets_of-requires-clause-second : goal.add_nets_of-requires-clause-second
add_nets_of-requires-clause-second c =
    let count = c.requires.front.cut_is.count in
    let second = c.requires.below.below in
    omega arith

pub returns-clause-front : goal.returns-clause-front
returns-clause-front c =
    let h = c.args.h.now in
    let s = c.args.self.now in
    let p = s.part in
    let at = c.place_of-place.ensures.value ∙ ap (λ k. c.args.a * k + c.args.b) c.k.ensures in
    let is : end_at p.k s.ends.items (c.args.a, c.args.b) ≡ Some c.in-Some.end =
    ap₂ (λ (xs : List (Option PairEnd)) (i : ℕ). slice_index_or xs i None) (sym c.as_slice.ensures.value) (sym at) ∙ sym c.end_of.ensures ∙ c.in-Some.is in
    let end = (subst (IsTurn h p.k p.limit p.blocks (c.args.a, c.args.b)) is c.requires.turn).1 in
    let moves = c.in_ok-moves.moves in
    let blocks : c.assign_region.new.p.blocks ≡ replay p.blocks moves =
    ap (λ (x : Parted). x.blocks) c.in_ok-moves.ensures.partition ∙ sym c.in_ok-moves.ensures.replayed in
    let landed = c.in_ok-moves.ensures.partition
    ∙ ap₂ (λ xs bs. record p { blocks = reassigned p.blocks xs bs }) c.slice.ensures c.slice-2.ensures in
    let rearranged = end_rearranged h p.k p.limit p.blocks c.args.a c.args.b c.in-Some.end end in
    let now : c.assign_region.new.p.blocks ≡ reassigned p.blocks c.in-Some.end.region c.in-Some.end.blocks = ap (λ (x : Parted). x.blocks) landed in
    let replayed = subst (λ (ms : List Move). c.assign_region.new.p.blocks ≡ replay p.blocks ms) (sym c.slice-3.ensures) blocks in
    let order = c.requires.below.order in
    let second = c.requires.below.below in
    record {
      belongs = ap (λ (x : Parted). x.hyper) landed ∙ c.requires.front.belongs;
      fits = subst (λ (x : Parted). Fits h x.k x.limit x.blocks) (sym landed) end.fits;
      cut_is = subst (λ (x : Parted). AreCutLists h x.k c.assign_region.new.p.blocks c.add_nets_of.new.self) (sym landed)
          (subst (AreCutLists h p.k c.assign_region.new.p.blocks) (sym c.in_ok-add_nets_of.ensures)
          (lists_after h p.k p.blocks c.assign_region.new.p.blocks c.args.a c.args.b c.slice-3.result.now s.cut c.requires.front.cut_is
          (omega (arith, order, second)) second (omega (arith, order))
          (subst (λ q. IsRearranged p.blocks q c.args.a c.args.b) (sym now) rearranged) replayed));
      table_is = c.requires.front.table_is ∙ ap (λ (x : Parted). x.k * x.k) (sym landed);
      moves_are =
          ap length c.put_moves.ensures ∙ length-set s.made.items c.place_of-place.result moves ∙ c.requires.front.moves_are
          ∙ ap (λ (x : Parted). x.k * x.k) (sym landed);
    }

pub put_moves-requires : goal.put_moves-requires
put_moves-requires c =
    let long = c.requires.front.moves_are in
    let below = c.place_of-place.ensures.below in
    let same = ap (λ n. n * n) c.k.ensures in
    omega (arith, long, below, same)

pub returns-in_default-clause-booked : goal.returns-in_default-clause-booked
returns-in_default-clause-booked c =
    let h = c.args.h.now in
    let s = c.args.self.now in
    let p = s.part in
    let at = c.place_of-place.ensures.value ∙ ap (λ k. c.args.a * k + c.args.b) c.k.ensures in
    let is : end_at p.k s.ends.items (c.args.a, c.args.b) ≡ None =
    ap₂ (λ (xs : List (Option PairEnd)) (i : ℕ). slice_index_or xs i None) (sym c.as_slice.ensures.value) (sym at) ∙ sym c.end_of.ensures ∙ c.in_default.is in
    subst (λ e. IsBooked h p.blocks e (moves_at p.k s.made.items (c.args.a, c.args.b))) (sym is) tt

pub returns-clause-booked : goal.returns-clause-booked
returns-clause-booked c =
    let h = c.args.h.now in
    let s = c.args.self.now in
    let p = s.part in
    let at = c.place_of-place.ensures.value ∙ ap (λ k. c.args.a * k + c.args.b) c.k.ensures in
    let is : end_at p.k s.ends.items (c.args.a, c.args.b) ≡ Some c.in-Some.end =
    ap₂ (λ (xs : List (Option PairEnd)) (i : ℕ). slice_index_or xs i None) (sym c.as_slice.ensures.value) (sym at) ∙ sym c.end_of.ensures ∙ c.in-Some.is in
    let order = c.requires.below.order in
    let second = c.requires.below.below in
    let put : moves_at p.k c.put_moves.new.made.items (c.args.a, c.args.b) ≡ c.in_ok-moves.moves =
    ap₂ (λ (xs : List (List Move)) (i : ℕ). slice_index_or xs i []) (c.put_moves.ensures ∙ ap (λ i. slice_set s.made.items i c.in_ok-moves.moves) at) refl
    ∙ moves_at-here p.k s.made.items c.args.a c.args.b c.in_ok-moves.moves c.requires.front.moves_are (omega (arith, order, second)) second in
    subst (λ e. IsBooked h p.blocks e (moves_at p.k c.put_moves.new.made.items (c.args.a, c.args.b))) (sym is)
    (put ∙ c.in_ok-moves.ensures.moves ∙ ap₂ (λ xs bs. changes h p.blocks (reassigned p.blocks xs bs) xs) c.slice.ensures c.slice-2.ensures)

pub returns-clause-others : goal.returns-clause-others
returns-clause-others c =
    let s = c.args.self.now in
    let p = s.part in
    let at = c.place_of-place.ensures.value ∙ ap (λ k. c.args.a * k + c.args.b) c.k.ensures in
    λ x below other.
    ap (λ (xs : List (List Move)). moves_at p.k xs x) (c.put_moves.ensures ∙ ap (λ i. slice_set s.made.items i c.in_ok-moves.moves) at)
    ∙ moves_at-other p.k s.made.items c.args.a c.args.b c.in_ok-moves.moves x c.requires.below.below below.below other
