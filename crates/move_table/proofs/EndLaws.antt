-- What a round is closed with.
use Rattle.std.proofs.Common.{◌≡◌, ◌≢◌, ℕ, zero, suc, ◌+◌, ◌<◌, List, [], ◌∷◌, ◌++◌, length, take, slice_index, slice_index_or, All, IsPermutation}
use Rattle.std.proofs.Common.{ℤ, pos, length-append, nat_eq, if◌then◌else◌, refl, sym, ap, ◌∙◌, subst, arith}
use Rattle.std.proofs.lemmas.List.{length-map}
use mathlib.Core.Option.{some}
use lib.ListN.{get_elem?}
use Rattle.hg_defs.specs.declared.moves.Move.{Move}
use Rattle.hg_defs.specs.Replay.{replay}
use Rattle.hg_defs.specs.Hypergraph.{vertex_count}
use Rattle.hg_defs.proofs.SumLaws.{weight_if, total-append, total_z-append}
use Rattle.pin_plain.specs.Parted.{Parted}
use Rattle.round_log.specs.Rounds.{IsMove}
use Rattle.move_core.specs.State.{times}
use Rattle.move_core.specs.AtRest.{booked_by_worker}
use Rattle.move_core.proofs.TimesLaws.{times_at}
use Rattle.move_table.specs.declared.view.Terms.{Terms}
use Rattle.move_table.specs.declared.view.View.{View}
use Rattle.move_table.specs.Standing.{IsStanding}
use Rattle.move_table.specs.Steps.{IsResting}
use Rattle.move_table.specs.Calls.{RacedPass}
use Rattle.move_table.specs.Closing.{IsKeptPass, all_moves, all_numbers, all_gains, AreByNumber, AreLaid, IsRacedEnd, IsEnded}
use Rattle.move_table.specs.Closing.{united_all}
use Rattle.move_table.proofs.CloseLaws.{number_once, number_below, apart, each_move, fits_after, saved_by, booked_by_all}
use Rattle.move_table.proofs.GatherLaws.{apart_from_times, placed_left, placed_right, AreNumbered, united_moves-total_z}
use Rattle.move_table.proofs.LaidLaws.{laid_by_number}
use Rattle.move_table.proofs.OrderLaws.{permuted}
use Rattle.move_table.proofs.GatherLaws.{all_numbered, united_numbers-times, united_gain, united_placed, united_length, AreBooked, booked_here}

-- the passes are kept, and have the numbers from 0 on
pub record AreKept (ps : List RacedPass) : Type 0 where
  pub kept : (i : ℕ) (p : RacedPass) → i < length ps → IsKeptPass (slice_index_or ps i p)
  pub numbers : (i : ℕ) (p : RacedPass) → i < length ps → (slice_index_or ps i p).view.number ≡ i

are_numbered : (ps : List RacedPass) → AreKept ps → AreNumbered ps
are_numbered ps h k d l = (h.kept k d l).numbered

are_booked : (ps : List RacedPass) → AreKept ps → AreBooked 0 ps
are_booked ps h j d l =
    let k = h.kept j d l in
    let n = h.numbers j d l in
    record { gain = k.gain; own = subst (λ x. All (λ m. m.worker ≡ x) (slice_index_or ps j d).view.account.moves) (n ∙ none j) k.own }
  where
    none : (x : ℕ) → x ≡ 0 + x
    none x = omega arith

module _ (t : Terms) (words : List ℕ) (views : List View) (id : ℕ) (p : RacedPass) (ps : List RacedPass) (k : IsStanding t words views)
    (at : get_elem? views id ≡ some (united_all p.view ps)) (rest : IsResting (united_all p.view ps))
    (whole : (united_all p.view ps).stands + (united_all p.view ps).may ≡ t.workers) (wide : length (p ∷ ps) ≡ t.workers) (kept : AreKept (p ∷ ps)) where
  abbrev u : View
  u = united_all p.view ps

  abbrev numbers : List ℕ
  numbers = all_numbers (p ∷ ps)

  abbrev moves : List Move
  moves = all_moves (p ∷ ps)

  head_numbered : length p.view.account.numbers ≡ length p.view.account.moves
  head_numbered = (kept.kept 0 p (omega arith)).numbered

  tail_numbered : AreNumbered ps
  tail_numbered i d l = (kept.kept (suc i) d (omega arith)).numbered

  same_times : (i : ℕ) → times i numbers ≡ times i u.account.numbers
  same_times i =
      let a = total-append (λ x. weight_if x i 1) p.view.account.numbers (all_numbers ps) in
      let b = united_numbers-times i p.view ps in
      omega arith

  same_length : length moves ≡ length u.account.moves
  same_length =
      let a = united_length p.view ps in
      let b = length-append p.view.account.moves (all_moves ps) in
      omega arith

  numbers_length : length numbers ≡ length moves
  numbers_length = all_numbered (p ∷ ps) (λ i d l. (kept.kept i d l).numbered)

  pub number_inside : (i : ℕ) → i < length moves → slice_index numbers i < length moves
  number_inside i l =
      let n = numbers_length in
      let s = times_at numbers i 0 (omega arith) in
      let z : ℕ = slice_index numbers i in
      let w = same_times z in
      let b = number_below t words views id u k at rest whole z (omega arith) in
      let c = same_length in
      omega arith

  pub numbers_apart : (i j : ℕ) → i < length moves → j < length moves → i ≢ j → slice_index numbers i ≢ slice_index numbers j
  numbers_apart i j l m n =
      let w = numbers_length in
      apart_from_times numbers (λ x. let a = same_times x in let o = number_once t words views id u k at rest whole x in omega arith) i j (omega arith)
      (omega arith) n

  pub laid_out : (out : List Move) → AreLaid (p ∷ ps) out → AreByNumber numbers moves out
  laid_out out h = subst (AreByNumber numbers moves) (sym h.moves) (laid_by_number h.places numbers moves h.all numbers_length number_inside numbers_apart)

  module _ (out : List Move) (laid : AreByNumber numbers moves out) where
    laid_united : AreByNumber u.account.numbers u.account.moves out
    laid_united = record {
      all = let a = laid.all in let b = same_length in omega arith;
      places = united_placed out p.view ps head_numbered tail_numbered
          (placed_left out p.view.account.numbers (all_numbers ps) p.view.account.moves (all_moves ps) head_numbered laid.places)
          (placed_right out p.view.account.numbers (all_numbers ps) p.view.account.moves (all_moves ps) head_numbered laid.places);
    }

    gains_booked : (i : ℕ) → i < length (all_gains (p ∷ ps)) → slice_index_or (all_gains (p ∷ ps)) i (pos 0) ≡ booked_by_worker i out
    gains_booked i l =
        let f : Move → ℤ = λ m. if nat_eq m.worker i then m.booked else pos 0 in
        let n = length-map (p ∷ ps) (λ (z : RacedPass). z.view.account.gain) in
        let a = booked_here 0 i (p ∷ ps) (are_booked (p ∷ ps) kept) (omega arith) in
        let none : 0 + i ≡ i = omega arith in
        let b = united_moves-total_z f p.view ps in
        let c = total_z-append f p.view.account.moves (all_moves ps) in
        sym a ∙ ap (λ x. booked_by_worker x moves) none ∙ c ∙ sym b ∙ sym (booked_by_all t words views id u k at rest whole out laid_united i)

    pub all_moved : All (λ m. m.vertex < vertex_count t.part.hyper) out
    all_moved i d l = (each_move t words views id u k at rest whole out laid_united i d l).vertex

    pub all_placed : All (λ m. m.to < t.part.k) out
    all_placed i d l = (each_move t words views id u k at rest whole out laid_united i d l).to

    pub ended : IsRacedEnd (record {
      opening = t.part.blocks;
      part = record t.part { blocks = replay t.part.blocks out };
      moves = out;
      gains = all_gains (p ∷ ps);
    })
    ended =
        let n = length-map (p ∷ ps) (λ (z : RacedPass). z.view.account.gain) in
        let gains : length (all_gains (p ∷ ps)) ≡ t.workers = n ∙ wide in
        record {
          raced = record {
            once = apart t words views id u k at rest whole out laid_united;
            each = subst (λ w. All (IsMove t.part.hyper t.part.k w t.part.blocks) out) (sym gains) (each_move t words views id u k at rest whole out
                laid_united);
            booked = gains_booked;
          };
          whole = k.over.parted.partition;
          opened = k.over.fits;
          replayed = refl;
          fits = fits_after t words views id u k at rest whole out laid_united;
          sum = sym (united_gain p.view ps) ∙ saved_by t words views id u k at rest whole out laid_united;
        }

-- ---- where a round is closed

-- the words of a round have ended, and its passes had numbers of their own
pub record AreEnded (t : Terms) (passes : List RacedPass) : Type 0 where
  pub ended : IsEnded t passes
  pub wide : length passes ≡ t.workers
  pub kept : AreKept passes

-- what the moves that are laid out make of the partition
pub record IsLaidOut (t : Terms) (passes : List RacedPass) (out : List Move) : Type 0 where
  pub laid : AreByNumber (all_numbers passes) (all_moves passes) out
  pub permuted : IsPermutation (all_moves passes) out
  pub vertices : All (λ m. m.vertex < vertex_count t.part.hyper) out
  pub blocks : All (λ m. m.to < t.part.k) out
  pub ends : IsRacedEnd (record {
    opening = t.part.blocks;
    part = record t.part { blocks = replay t.part.blocks out };
    moves = out;
    gains = all_gains passes;
  })

is_laid_out : (t : Terms) (passes : List RacedPass) (out : List Move) → AreEnded t passes → AreLaid passes out → IsLaidOut t passes out
is_laid_out t [] out g placed = let w = g.wide in let o = g.ended.standing.over.some in absurd (omega arith)
is_laid_out t (p ∷ ps) out g placed =
    let e = g.ended in
    let same = e.united p in
    let w = g.wide in
    let at = e.here ∙ ap some same in
    let rest = subst IsResting same e.resting in
    let whole = subst (λ (v : View). v.stands + v.may ≡ t.workers) same (e.alone ∙ w) in
    let laid = laid_out t e.words e.views e.id p ps e.standing at rest whole w g.kept out placed in
    record {
      laid = laid;
      permuted = permuted (all_numbers (p ∷ ps)) (all_moves (p ∷ ps)) out (record {
        numbered = numbers_length t e.words e.views e.id p ps e.standing at rest whole w g.kept;
        all = laid.all;
        below = number_inside t e.words e.views e.id p ps e.standing at rest whole w g.kept;
        apart = numbers_apart t e.words e.views e.id p ps e.standing at rest whole w g.kept;
        places = laid.places;
      });
      vertices = all_moved t e.words e.views e.id p ps e.standing at rest whole w g.kept out laid;
      blocks = all_placed t e.words e.views e.id p ps e.standing at rest whole w g.kept out laid;
      ends = ended t e.words e.views e.id p ps e.standing at rest whole w g.kept out laid;
    }

-- what the steps of a close tell
pub closed_with : (t key : Terms) (passes ps : List RacedPass) (out : List Move) → IsEnded key passes → key ≡ t → ps ≡ passes →
    length passes ≡ t.workers → ((i : ℕ) (p : RacedPass) → i < length passes → (slice_index_or passes i p).view.number ≡ i) →
    ((i : ℕ) (p : RacedPass) → i < length ps → IsKeptPass (slice_index_or ps i p)) → AreLaid ps out → IsLaidOut t passes out
closed_with t key passes ps out e k s w n kept placed =
    is_laid_out t passes out (record {
      ended = subst (λ z. IsEnded z passes) k e;
      wide = w;
      kept = record {
        kept = subst (λ (zs : List RacedPass). (i : ℕ) (p : RacedPass) → i < length zs → IsKeptPass (slice_index_or zs i p)) s kept;
        numbers = n;
      };
    }) (subst (λ (zs : List RacedPass). AreLaid zs out) s placed)

pub ended_as : (t : Terms) (passes : List RacedPass) (out : List Move) (opening : List ℕ) (part : Parted) (moves : List Move) (gains : List ℤ) →
    IsRacedEnd (record { opening = t.part.blocks; part = record t.part { blocks = replay t.part.blocks out }; moves = out; gains = all_gains passes }) →
    opening ≡ t.part.blocks → part ≡ record t.part { blocks = replay t.part.blocks out } → moves ≡ out → gains ≡ all_gains passes →
    IsRacedEnd (record { opening = opening; part = part; moves = moves; gains = gains })
ended_as t passes out opening part moves gains e o p m g =
    subst (λ x. IsRacedEnd (record { opening = x; part = part; moves = moves; gains = gains })) (sym o)
    (subst (λ x. IsRacedEnd (record { opening = t.part.blocks; part = x; moves = moves; gains = gains })) (sym p)
    (subst (λ x. IsRacedEnd (record { opening = t.part.blocks; part = record t.part { blocks = replay t.part.blocks out }; moves = x; gains = gains }))
    (sym m)
    (subst (λ x. IsRacedEnd (record { opening = t.part.blocks; part = record t.part { blocks = replay t.part.blocks out }; moves = out; gains = x }))
    (sym g)
    e)))

-- what was written is what is read back
pub written_back : {A : Type 0} (n : ℕ) (xs ys : List A) → n ≡ length xs → take n (xs ++ ys) ≡ xs
written_back zero [] ys e = refl
written_back zero (x ∷ xs) ys e = absurd (omega arith)
written_back (suc n) [] ys e = absurd (omega arith)
written_back (suc n) (x ∷ xs) ys e = ap (λ zs. x ∷ zs) (written_back n xs ys (omega arith))
