-- The plain round of one move.
use Rattle.std.proofs.Common.{◌≡◌, ◌≢◌, ℕ, zero, suc, ◌<◌, false, nat_eq, if◌then◌else◌, List, [], ◌∷◌, length, ℤ, pos, ◌+ℤ◌, ◌-ℤ◌, to_z, of_z, ◌^◌}
use mir.Syntax.{w64}
use Rattle.std.proofs.Common.{sym, ap, ap₂, subst, ◌∙◌, arith}
use Rattle.std.specs.Prelude.{AllPairs, slice_index_or}
use Rattle.std.proofs.lemmas.Bool.{eq-eqb}
use Rattle.std.proofs.lemmas.Int.{ints}
use Rattle.std.proofs.lemmas.List.{get_or-set_same}
use Rattle.std.proofs.lemmas.List.Elements.{All-nil, All-cons}
use Rattle.hg_defs.specs.declared.moves.Move.{Move}
use Rattle.hg_defs.specs.Sums.{total_z}
use Rattle.hg_defs.specs.Hypergraph.{Hyper, vertex_count}
use Rattle.hg_defs.specs.Partition.{Fits, block_of}
use Rattle.hg_defs.specs.Cost.{cost}
use Rattle.hg_defs.specs.Moves.{IsAllowed, moved, gain}
use Rattle.hg_defs.specs.Replay.{replay, replay_first, best_prefix, undone}
use Rattle.hg_defs.proofs.MoveLaws.{moved-fits}
use Rattle.hg_defs.proofs.UndoLaws.{moves_are_undone}
use Rattle.rollback_prefix.specs.Steps.{Ends, EndAt}
use Rattle.pin_plain.specs.Parted.{Parted, IsParted}
use Rattle.round_log.specs.declared.record.LoggedRound.{LoggedRound}
use Rattle.round_log.specs.Rounds.{booked_by, IsMove, AreRacedMoves, HasNoPair, AreAllowed}
use Rattle.round_log.specs.Passes.{IsSingleMove}
use Rattle.fm_search.specs.Possible.{IsFirst}

-- a gain is told by 64 bits
pub told_gain : (g : ℤ) (o m : ℕ) → g ≡ pos o -ℤ pos m → o < 2 ^ 57 → m < 2 ^ 57 → to_z w64 (of_z w64 g) ≡ g
told_gain g o m is a b = omega (arith, ints)

plus_none : (g : ℤ) → g +ℤ pos 0 ≡ g
plus_none g = omega (arith, ints)

once : (m : Move) → AllPairs (λ a b. a.vertex ≢ b.vertex) (m ∷ [])
once m i j d before low = absurd (omega arith)

module _ (h : Hyper) (k l : ℕ) (p : List ℕ) (m : Move) (parted : IsParted h k p) (fits : Fits h k l p) (first : IsFirst h k l p m.vertex m.to)
    (from : m.from ≡ block_of p m.vertex) (worker : m.worker ≡ 0) (booked : m.booked ≡ gain h p m.vertex m.to) where
  allowed : IsAllowed h k l p m.vertex m.to
  allowed = first.possible.allowed

  own : booked_by (m ∷ []) 0 ≡ m.booked
  own = plus_none (if nat_eq m.worker 0 then m.booked else pos 0) ∙ ap (λ t. if t then m.booked else pos 0) (eq-eqb m.worker 0 worker)

  raced_moves : AreRacedMoves h k p (m ∷ []) (m.booked ∷ [])
  raced_moves = record {
    once = once m;
    each = All-cons (IsMove h k 1 p) m [] (record {
      vertex = allowed.vertex;
      free = allowed.free;
      from = from;
      to = allowed.block;
      other = λ e. allowed.other (e ∙ from);
      worker = omega arith;
    }) (All-nil (IsMove h k 1 p));
    booked = each;
  }
    where
      each : (i : ℕ) → i < length (m.booked ∷ []) → slice_index_or (m.booked ∷ []) i (pos 0) ≡ booked_by (m ∷ []) i
      each zero low = sym own
      each (suc i) low = absurd (omega arith)

  pub single : (r : LoggedRound) → r.moves ≡ m ∷ [] → r.gains ≡ m.booked ∷ [] → r.before ≡ cost h p → r.made ≡ cost h (moved p m.vertex m.to)
      → r.kept ≡ best_prefix h k l p (m ∷ []) → r.after ≡ cost h (replay_first p (m ∷ []) r.kept) → HasNoPair r → r.tabled ≡ false → IsSingleMove h k l p r
  single r moves gains before made kept after no_pair untabled = record {
    plain = record {
      raced = record {
        moves =
            subst (λ (ms : List Move). AreRacedMoves h k p ms r.gains) (sym moves)
            (subst (λ (gs : List ℤ). AreRacedMoves h k p (m ∷ []) gs) (sym gains) raced_moves);
        sum =
            ap (total_z (λ (g : ℤ). g)) gains
            ∙ plus_none m.booked
            ∙ booked
            ∙ ap₂ (λ a b. pos a -ℤ pos b) (sym before) (sym made);
        before = before;
        made = made ∙ ap (λ (ms : List Move). cost h (replay p ms)) (sym moves);
        fits = subst (λ (ms : List Move). Fits h k l (replay p ms)) (sym moves) (moved-fits h k l p m.vertex m.to parted.partition fits allowed);
        kept = kept ∙ ap (best_prefix h k l p) (sym moves);
        after = after ∙ ap (λ (ms : List Move). cost h (replay_first p ms r.kept)) (sym moves);
        no_pair = no_pair;
      };
      one_gain = ap (λ (gs : List ℤ). length gs) gains;
      allowed = subst (λ (ms : List Move). AreAllowed h k l p ms) (sym moves) (allowed, booked, tt);
    };
    move = (m, moves, record { possible = first.possible; vertex = first.vertex; block = first.block });
    untabled = untabled;
  }

-- ---- a move that was made is rolled back

undo : (p : List ℕ) (m : Move) → m.vertex < length p → m.from ≡ block_of p m.vertex → undone (moved p m.vertex m.to) (m ∷ []) ≡ p
undo p m low from =
    moves_are_undone p (m ∷ []) (once m) (All-cons (λ (d : Move). d.vertex < length p) m [] low (All-nil (λ (d : Move). d.vertex < length p)))
    (All-cons (λ (d : Move). d.from ≡ block_of p d.vertex) m [] from (All-nil (λ (d : Move). d.from ≡ block_of p d.vertex)))

module _ (h : Hyper) (p s : Parted) (m : Move) (moves : List Move) (made : s ≡ record p { blocks = moved p.blocks m.vertex m.to }) (one : moves ≡ m ∷ [])
    (low : m.vertex < length p.blocks) (from : m.from ≡ block_of p.blocks m.vertex) where
  pub rolled_kept : (kept : ℕ) → kept ≡ best_prefix h s.k s.limit (undone s.blocks moves) moves → kept ≡ best_prefix h p.k p.limit p.blocks (m ∷ [])
  rolled_kept kept is =
      is
      ∙ ap (λ (x : Parted). best_prefix h x.k x.limit (undone x.blocks moves) moves) made
      ∙ ap (λ (ms : List Move). best_prefix h p.k p.limit (undone (moved p.blocks m.vertex m.to) ms) ms) one
      ∙ ap (λ (q : List ℕ). best_prefix h p.k p.limit q (m ∷ [])) (undo p.blocks m low from)

  pub rolled_to : (q : Parted) (kept : ℕ) → q ≡ record s { blocks = replay_first (undone s.blocks moves) moves kept }
      → q ≡ record p { blocks = replay_first p.blocks (m ∷ []) kept }
  rolled_to q kept is =
      is
      ∙ ap (λ (x : Parted). record x { blocks = replay_first (undone x.blocks moves) moves kept }) made
      ∙ ap (λ (ms : List Move). record p { blocks = replay_first (undone (moved p.blocks m.vertex m.to) ms) ms kept }) one
      ∙ ap (λ (b : List ℕ). record p { blocks = replay_first b (m ∷ []) kept }) (undo p.blocks m low from)

  -- what is asked before it is
  pub rolled_from : IsParted h p.k p.blocks → m.vertex < vertex_count h → m.to < p.k → EndAt h s.k s.blocks moves
  rolled_from parted vertex to =
      subst (λ (x : Parted). EndAt h x.k x.blocks moves) (sym made)
      (subst (λ (ms : List Move). EndAt h p.k (moved p.blocks m.vertex m.to) ms) (sym one) (record {
        once = once m;
        each = All-cons (Ends h p.k (moved p.blocks m.vertex m.to)) m [] (record {
          vertex = vertex;
          from = subst (λ b. b < p.k) (sym from) (parted.partition.blocks m.vertex 0 low);
          to = to;
          stands = sym (get_or-set_same p.blocks m.vertex m.to 0 low);
        }) (All-nil (Ends h p.k (moved p.blocks m.vertex m.to)));
      }))

  pub rolled_fits : Fits h p.k p.limit p.blocks → Fits h s.k s.limit (undone s.blocks moves)
  rolled_fits fits =
      subst (λ (x : Parted). Fits h x.k x.limit (undone x.blocks moves)) (sym made)
      (subst (λ (ms : List Move). Fits h p.k p.limit (undone (moved p.blocks m.vertex m.to) ms)) (sym one)
      (subst (Fits h p.k p.limit) (sym (undo p.blocks m low from)) fits))
