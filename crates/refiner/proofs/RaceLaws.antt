-- Laws of a closed round that is rolled back and recorded.
use Rattle.std.proofs.Common.{◌≡◌, ℕ, ◌-◌, ◌<◌, ◌^◌, List, ℤ, pos, ◌-ℤ◌, to_z, of_z, length, get_or, All, sym, ap, ◌∙◌, subst, arith}
use mir.Syntax.{w128}
use Rattle.std.proofs.lemmas.Int.{ints}
use Rattle.std.proofs.lemmas.List.Elements.{Contains-get_or}
use Rattle.hg_defs.specs.declared.moves.Move.{Move}
use Rattle.hg_defs.specs.Hypergraph.{Hyper}
use Rattle.hg_defs.specs.Sums.{total_z}
use Rattle.hg_defs.specs.Partition.{IsPartition, Fits, block_of}
use Rattle.hg_defs.specs.Cost.{cost}
use Rattle.pin_plain.specs.Parted.{Parted}
use Rattle.round_log.specs.declared.record.Kind.{Kind}
use Rattle.round_log.specs.declared.record.LoggedRound.{LoggedRound}
use Rattle.hg_defs.specs.Replay.{replay, undone}
use Rattle.hg_defs.proofs.ReplayLaws.{replay-once}
use Rattle.hg_defs.proofs.UndoLaws.{moves_are_undone, moves_are_redone}
use Rattle.round_log.specs.Rounds.{AreRacedMoves, after_round}
use Rattle.rollback_prefix.specs.Steps.{EndAt}
use Rattle.move_table.specs.Closing.{RacedEnd, IsRacedEnd}
use Rattle.refiner.specs.Racing.{RecordsRace}

-- ---- numbers

pub made_is : (f s : ℤ) (o m r : ℕ) → f ≡ pos r → r ≡ o → s ≡ pos o -ℤ pos m → o < 2 ^ 57 → m < 2 ^ 57
    → to_z w128 (of_z w128 (to_z w128 (of_z w128 f) -ℤ to_z w128 (of_z w128 s))) ≡ pos m
made_is f s o m r a b c d e = omega (arith, ints)

-- what is left of a cost where something is saved
pub after_is : (saved o n before : ℕ) → before ≡ o → pos saved ≡ pos o -ℤ pos n → before - saved ≡ n
after_is saved o n before a b = omega (arith, ints)

-- ---- a partition that stands after its moves

pub replayed_again : (h : Hyper) (k : ℕ) (p : List ℕ) (moves : List Move) → IsPartition h k p → EndAt h k p moves → replay (undone p moves) moves ≡ p
replayed_again h k p moves whole ends =
    moves_are_redone p moves ends.once (λ j d l. let a = (ends.each j d l).vertex in let b = whole.vertices in omega arith)
    (λ j d l. (ends.each j d l).stands)

-- ---- a closed round

low_vertices : (e : RacedEnd) → IsRacedEnd e → All (λ m. m.vertex < length e.opening) e.moves
low_vertices e s j d l = let a = (s.raced.each j d l).vertex in let b = s.whole.vertices in omega arith

-- where its moves are undone, the opening blocks are left
pub opening_left : (e : RacedEnd) → IsRacedEnd e → undone e.part.blocks e.moves ≡ e.opening
opening_left e s =
    ap (λ (q : List ℕ). undone q e.moves) s.replayed
    ∙ moves_are_undone e.opening e.moves s.raced.once (low_vertices e s) (λ j d l. (s.raced.each j d l).from)

-- its partition stands after its moves
pub ends_there : (e : RacedEnd) → IsRacedEnd e → EndAt e.part.hyper e.part.k e.part.blocks e.moves
ends_there e s = record {
  once = s.raced.once;
  each = λ j d l. record {
    vertex = (s.raced.each j d l).vertex;
    from = subst (λ x. x < e.part.k) (sym (s.raced.each j d l).from) (s.whole.blocks (get_or e.moves j d).vertex 0 (low_vertices e s j d l));
    to = (s.raced.each j d l).to;
    stands = sym (replay-once e.opening e.moves (get_or e.moves j d) s.raced.once (low_vertices e s) (Contains-get_or e.moves j d l)) ∙
        ap (λ (q : List ℕ). block_of q (get_or e.moves j d).vertex) (sym s.replayed);
  };
}

-- what is asked before such a round is recorded
pub record IsReady (h : Hyper) (p : Parted) (moves : List Move) (gains : List ℤ) : Type 0 where
  pub stands : EndAt h p.k p.blocks moves
  pub raced : AreRacedMoves h p.k (undone p.blocks moves) moves gains
  pub opened : Fits h p.k p.limit (undone p.blocks moves)
  pub sum : total_z (λ (g : ℤ). g) gains ≡ pos (cost h (undone p.blocks moves)) -ℤ pos (cost h p.blocks)

ready : (e : RacedEnd) → IsRacedEnd e → IsReady e.part.hyper e.part e.moves e.gains
ready e s = record {
  stands = ends_there e s;
  raced = subst (λ (o : List ℕ). AreRacedMoves e.part.hyper e.part.k o e.moves e.gains) (sym (opening_left e s)) s.raced;
  opened = subst (Fits e.part.hyper e.part.k e.part.limit) (sym (opening_left e s)) s.opened;
  sum = s.sum ∙ ap (λ (o : List ℕ). pos (cost e.part.hyper o) -ℤ pos (cost e.part.hyper e.part.blocks)) (sym (opening_left e s));
}

module _ (e : RacedEnd) (s : IsRacedEnd e) (h : Hyper) (same : e.part.hyper ≡ h) (p : Parted) (part : p ≡ e.part) (moves : List Move)
    (made : moves ≡ e.moves)
    (gains : List ℤ) (booked : gains ≡ e.gains) where
  pub closed_ready : IsReady h p moves gains
  closed_ready =
      subst (λ (x : Parted). IsReady h x moves gains) (sym part)
      (subst (λ (xs : List Move). IsReady h e.part xs gains) (sym made)
      (subst (λ (gs : List ℤ). IsReady h e.part e.moves gs) (sym booked)
      (subst (λ (g : Hyper). IsReady g e.part e.moves e.gains) same (ready e s))))

  pub closed_before : (before : ℕ) → before ≡ cost e.part.hyper e.opening → before ≡ cost h (undone p.blocks moves)
  closed_before before is =
      is
      ∙ ap (λ (g : Hyper). cost g e.opening) same
      ∙ ap (cost h) (sym (opening_left e s))
      ∙ sym (ap (λ (x : Parted). cost h (undone x.blocks e.moves)) part)
      ∙ sym (ap (λ (xs : List Move). cost h (undone p.blocks xs)) made)

  pub closed_recorded : (kind : Kind) (level : ℕ) (r : LoggedRound) → RecordsRace kind level h p.k p.limit (undone p.blocks moves) moves gains r
      → RecordsRace kind level h e.part.k e.part.limit e.opening e.moves e.gains r
  closed_recorded kind level r q =
      subst (λ (o : List ℕ). RecordsRace kind level h e.part.k e.part.limit o e.moves e.gains r) (opening_left e s)
      (subst (λ (gs : List ℤ). RecordsRace kind level h e.part.k e.part.limit (undone e.part.blocks e.moves) e.moves gs r) booked
      (subst (λ (xs : List Move). RecordsRace kind level h e.part.k e.part.limit (undone e.part.blocks xs) xs gains r) made
      (subst (λ (x : Parted). RecordsRace kind level h x.k x.limit (undone x.blocks moves) moves gains r) part q)))

  pub closed_leads : (r : LoggedRound) (q : Parted) → q ≡ record p { blocks = after_round (undone p.blocks moves) r } →
      q ≡ record e.part { blocks = after_round e.opening r }
  closed_leads r q is =
      is
      ∙ ap (λ (x : Parted). record x { blocks = after_round (undone x.blocks moves) r }) part
      ∙ ap (λ (xs : List Move). record e.part { blocks = after_round (undone e.part.blocks xs) r }) made
      ∙ ap (λ (o : List ℕ). record e.part { blocks = after_round o r }) (opening_left e s)
