-- Moves of distinct vertices below n are n at most.
use Rattle.std.proofs.Common.{◌≡◌, ◌≢◌, ℕ, ◌<◌, ◌≤◌, List, length, map, nat_eq, arith, sym, ◌∙◌}
use Rattle.std.specs.Prelude.{All, AllPairs, pos}
use Rattle.std.specs.Set.{distinct_count}
use Rattle.std.proofs.lemmas.Bool.Decides.{Decides-eqb}
use Rattle.std.proofs.lemmas.Cmp.{nat_eq_equiv}
use Rattle.std.proofs.lemmas.List.{length-map, get_or-map}
use Rattle.std.proofs.lemmas.List.Elements.{All-map}
use Rattle.std.proofs.lemmas.Map.Made.{distinct_count-from_IsDistinct, IsDistinct-from_AllPairs}
use Rattle.hg_defs.specs.declared.moves.Move.{Move}
use Rattle.hg_defs.specs.Sums.{sum_below}
use Rattle.hg_defs.specs.Pins.{present}
use Rattle.hg_defs.proofs.SumLaws.{sum_below-le, sum_below-constant}
use Rattle.hg_defs.proofs.DistinctLaws.{distinct_count-sum, present-le, times_of}

abbrev vertex_of : Move → ℕ
vertex_of m = m.vertex

apart_map : (moves : List Move) → AllPairs (λ a b. a.vertex ≢ b.vertex) moves → AllPairs (λ x y. x ≢ y) (map vertex_of moves)
apart_map moves apart i j d before low =
    let long : j < length moves = omega (arith, length-map moves vertex_of, low) in
    let m : Move = record { vertex = 0; from = 0; to = 0; worker = 0; booked = pos 0 } in
    λ e. apart i j m before long
    (sym (get_or-map vertex_of moves i m d (omega arith)) ∙ e ∙ get_or-map vertex_of moves j m d long)

pub few_moves : (n : ℕ) (moves : List Move) → All (λ m. m.vertex < n) moves → AllPairs (λ a b. a.vertex ≢ b.vertex) moves → length moves ≤ n
few_moves n moves low apart =
    let vs : List ℕ = map vertex_of moves in
    let all : distinct_count nat_eq vs ≡ length vs =
    distinct_count-from_IsDistinct nat_eq_equiv vs (IsDistinct-from_AllPairs Decides-eqb vs (apart_map moves apart)) in
    let counted : distinct_count nat_eq vs ≡ sum_below (λ b. present (times_of vs b)) n = distinct_count-sum n vs
    (All-map (λ v. v < n) vertex_of moves low) in
    let ones : sum_below (λ b. present (times_of vs b)) n ≤ sum_below (λ b. 1) n = sum_below-le (λ b. present (times_of vs b)) (λ b. 1) n
    (λ i l. present-le (times_of vs i)) in
    omega (arith, sum_below-constant 1 n, length-map moves vertex_of, all, counted, ones)
