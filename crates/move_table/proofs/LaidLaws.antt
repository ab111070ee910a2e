-- Moves put down by their numbers.
use Rattle.std.proofs.Common.{◌≡◌, ◌≢◌, ℕ, zero, suc, ◌+◌, ◌<◌, ◌≤◌, List, [], ◌∷◌, ◌++◌, map, length, drop, get_or, set, slice_index, refl, sym, ap, ◌∙◌, arith}
use Rattle.std.proofs.lemmas.List.{length-append, length-set, get_or-set_same, get_or-set_other, set_past, at_drop_more}
use Rattle.hg_defs.specs.declared.moves.Move.{Move}
use Rattle.move_table.specs.declared.grant.Done.{Done}
use Rattle.move_table.specs.Calls.{RacedPass}
use Rattle.move_table.specs.Closing.{AreByNumber, laid, all_moves, all_numbers}

length-laid : (out : List Move) (ns : List ℕ) (ms : List Move) → length (laid out ns ms) ≡ length out
length-laid out [] ms = refl
length-laid out (n ∷ ns) [] = refl
length-laid out (n ∷ ns) (m ∷ ms) = length-laid (set out n m) ns ms ∙ length-set out n m

laid-append : (out : List Move) (ns more : List ℕ) (ms others : List Move) → length ns ≡ length ms →
    laid out (ns ++ more) (ms ++ others) ≡ laid (laid out ns ms) more others
laid-append out [] more [] others e = refl
laid-append out [] more (m ∷ ms) others e = absurd (omega arith)
laid-append out (n ∷ ns) more [] others e = absurd (omega arith)
laid-append out (n ∷ ns) more (m ∷ ms) others e = laid-append (set out n m) ns more ms others (omega arith)

-- a place that is no move's stays as it was
laid_other : (out : List Move) (ns : List ℕ) (ms : List Move) (place : ℕ) (d : Move) → ((k : ℕ) → k < length ns → slice_index ns k ≢ place) →
    get_or (laid out ns ms) place d ≡ get_or out place d
laid_other out [] ms place d h = refl
laid_other out (n ∷ ns) [] place d h = refl
laid_other out (n ∷ ns) (m ∷ ms) place d h =
    laid_other (set out n m) ns ms place d (λ k l. h (suc k) (omega arith)) ∙ get_or-set_other out n place m d (λ e. h 0 (omega arith) (sym e))

-- where the places are there, and apart, each move stands at its own
laid_here : (out : List Move) (ns : List ℕ) (ms : List Move) → length ns ≡ length ms → ((k : ℕ) → k < length ms → slice_index ns k < length out) →
    ((j k : ℕ) → j < length ms → k < length ms → j ≢ k → slice_index ns j ≢ slice_index ns k) → (k : ℕ) (d : Move) → k < length ms →
    get_or (laid out ns ms) (slice_index ns k) d ≡ get_or ms k d
laid_here out ns [] e below apart k d l = absurd (omega arith)
laid_here out [] (m ∷ ms) e below apart k d l = absurd (omega arith)
laid_here out (n ∷ ns) (m ∷ ms) e below apart zero d l =
    laid_other (set out n m) ns ms n d (λ k q. apart (suc k) 0 (omega arith) (omega arith) (λ z. absurd (omega arith))) ∙
    get_or-set_same out n m d (below 0 (omega arith))
laid_here out (n ∷ ns) (m ∷ ms) e below apart (suc k) d l =
    let wide = length-set out n m in
    laid_here (set out n m) ns ms (omega arith) (λ j q. let b = below (suc j) (omega arith) in omega arith)
    (λ i j q r o. apart (suc i) (suc j) (omega arith) (omega arith) (λ z. o (omega arith))) k d (omega arith)

pub laid_by_number : (out : List Move) (ns : List ℕ) (ms : List Move) → length out ≡ length ms → length ns ≡ length ms →
    ((k : ℕ) → k < length ms → slice_index ns k < length ms) →
    ((j k : ℕ) → j < length ms → k < length ms → j ≢ k → slice_index ns j ≢ slice_index ns k) → AreByNumber ns ms (laid out ns ms)
laid_by_number out ns ms wide e below apart = record {
  all = length-laid out ns ms ∙ wide;
  places = laid_here out ns ms e (λ k l. let b = below k l in omega arith) apart;
}

-- ---- the loops

-- a step of a pass is put down, and one that has no place is not
pub laid_step : (out : List Move) (done : List Done) (i : ℕ) (d : Done) → i < length done →
    laid (set out (get_or done i d).number (get_or done i d).action) (map (λ (x : Done). x.number) (drop (i + 1) done))
    (map (λ (x : Done). x.action) (drop (i + 1) done)) ≡
    laid out (map (λ (x : Done). x.number) (drop i done)) (map (λ (x : Done). x.action) (drop i done))
laid_step out done i d l =
    sym (at_drop_more (λ (ds : List Done). laid out (map (λ (x : Done). x.number) ds) (map (λ (x : Done). x.action) ds)) done i d l)

pub laid_past : (out : List Move) (done : List Done) (i : ℕ) (d : Done) → i < length done → length out ≤ (get_or done i d).number →
    laid out (map (λ (x : Done). x.number) (drop (i + 1) done)) (map (λ (x : Done). x.action) (drop (i + 1) done)) ≡
    laid out (map (λ (x : Done). x.number) (drop i done)) (map (λ (x : Done). x.action) (drop i done))
laid_past out done i d l past =
    ap (λ o. laid o (map (λ (x : Done). x.number) (drop (i + 1) done)) (map (λ (x : Done). x.action) (drop (i + 1) done)))
    (sym (set_past out (get_or done i d).number (get_or done i d).action past)) ∙ laid_step out done i d l

-- what a pass has done is put down
pub laid_more : (out after : List Move) (ps : List RacedPass) (i : ℕ) (p : RacedPass) (ns : List ℕ) (ms : List Move) → after ≡ laid out ns ms →
    ns ≡ p.view.account.numbers → ms ≡ p.view.account.moves → length p.view.account.numbers ≡ length p.view.account.moves → p ≡ get_or ps i p →
    i < length ps →
    laid after (all_numbers (drop (i + 1) ps)) (all_moves (drop (i + 1) ps)) ≡ laid out (all_numbers (drop i ps)) (all_moves (drop i ps))
laid_more out after ps i p ns ms e n m w at l =
    let rest = drop (i + 1) ps in
    ap (λ o. laid o (all_numbers rest) (all_moves rest)) (e ∙ ap (λ xs. laid out xs ms) n ∙ ap (λ xs. laid out p.view.account.numbers xs) m)
    ∙ sym (laid-append out p.view.account.numbers (all_numbers rest) p.view.account.moves (all_moves rest) w)
    ∙ ap (λ (q : RacedPass). laid out (all_numbers (q ∷ rest)) (all_moves (q ∷ rest))) at
    ∙ sym (at_drop_more (λ (qs : List RacedPass). laid out (all_numbers qs) (all_moves qs)) ps i p l)

-- the moves of a pass are counted
pub counted_more : (ps : List RacedPass) (i count sum : ℕ) (p : RacedPass) → sum ≡ count + length p.view.account.moves → p ≡ get_or ps i p →
    i < length ps → count + length (all_moves (drop i ps)) ≡ length (all_moves ps) → sum + length (all_moves (drop (i + 1) ps)) ≡ length (all_moves ps)
counted_more ps i count sum p e at l h =
    let rest = drop (i + 1) ps in
    let one = at_drop_more (λ (qs : List RacedPass). length (all_moves qs)) ps i p l in
    let same : length (all_moves (get_or ps i p ∷ rest)) ≡ length (all_moves (p ∷ rest)) = ap (λ (q : RacedPass). length (all_moves (q ∷ rest))) (sym at) in
    let both = length-append p.view.account.moves (all_moves rest) in
    omega arith
